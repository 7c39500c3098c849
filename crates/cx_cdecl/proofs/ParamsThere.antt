-- The parameters of a function are read.
use Rattle.std.proofs.Common.{◌≡◌, ℕ, zero, suc, ◌+◌, ◌-◌, ◌≤◌, Bool, true, false, ◌&&◌, ◌||◌, cond, List, [], ◌∷◌, ◌++◌, length, length-append, Option, Some, None, refl, sym, ap, ◌∙◌, append_assoc, append-nil, arith}
use Rattle.std.proofs.lemmas.Bool.Decides.{nat_tests}
use Rattle.std.specs.Prelude.{not, nat_lt, nat_le}
use Rattle.cx_base.proofs.General.{both_true, not_true, true_both}
use Rattle.cx_ctree.specs.Types.{TypeTree, void, int, pointer, array, tag}
use Rattle.cx_ctree.specs.Path.{type_path}
use Rattle.cx_ctree.specs.Decls.{ParamTree, DeclTree}
use Rattle.cx_cword.specs.declared.word.Keyword.{Keyword}
use Rattle.cx_cword.specs.declared.word.Keyword.TheVariants as k
use Rattle.cx_cword.specs.declared.word.Punctuator.TheVariants as p
use Rattle.cx_cword.specs.declared.lexeme.Lexeme.{Lexeme}
use Rattle.cx_cword.specs.declared.lexeme.LexemeKind.{LexemeKind}
use Rattle.cx_cword.specs.declared.lexeme.LexemeKind.TheVariants as l
use Rattle.cx_cword.specs.Reading.{Is, IsWord, IsName, name_of, ◌>>=◌, at_lexeme}
use Rattle.cx_cname.specs.Known.{Known, is_complete, names_type}
use Rattle.cx_cexpr.specs.declared.kinds.IntWord.{IntWord}
use Rattle.cx_cexpr.specs.Kinds.{word_of}
use Rattle.cx_cexpr.specs.Expressions.{IsBase, void_word, int_words, type_name, tag_name, enum_name, tag_word}
use Rattle.cx_cexpr.specs.Reading.{Few}
use Rattle.cx_cexpr.proofs.Begins.{starts, starts_by, cond_begins}
use Rattle.cx_cword.specs.declared.mark.Mark.{Mark}
use Rattle.cx_cword.specs.declared.mark.Mark.TheVariants as m
use Rattle.cx_cdecl.specs.Declarations.{Beside, also_said, adjusted, names_used, are_outside, is_void_word, is_void_alone, AreBeside, none_beside, word_beside, attributes_beside, ArePointers, no_star, also_star, AreSizes, no_size, also_size, IsParamSize, param_plain, param_open, param_sized, IsSpecifier, declared_before, new_tag, tag_members, members_alone, enum_named, enum_alone, AreSpecs, specs, IsParam, param_alone, param_named, AreParams, first_param, also_param, IsParamList, no_param, void_param, params}
use Rattle.cx_cdecl.specs.Reading as reading
use Rattle.cx_cdecl.specs.Reading.{Got, After, Specs, choose, if_true, pointers_at, sizes_at, sized_at, arrays, plain_specs_at, taken, Sized, element_of, param_size_at, Used, with_name, unnamed, param_by, param_at, Params, params_at, no_params, closes_params, some_params, param_list_at}
use Rattle.cx_cdecl.proofs.BesideThere.{attributes_there}
use Rattle.cx_cdecl.proofs.DeclaratorSound.{complete_arrays, path_arrays}
use Rattle.cx_cdecl.proofs.DeclaratorThere.{pointers_there, SizesGo, sizes_go, sizes_end, sized_none, sized_there}
use Rattle.cx_cdecl.proofs.Follows.{no_keyword, no_mark, closes, ends_type, is_keyword, is_closed_by, closes_star, closes_bracket, closes_type, name_no_mark, choose_goes, choose_other, if_goes, bind_goes, Room}
use Rattle.cx_cword.proofs.Marks.{is_fit}
use Rattle.cx_cdecl.proofs.Grows.{Fits, fits_few, fits_after, fits_less, Grows, grows_none, grows_then, grows_more}
use Rattle.cx_cdecl.proofs.Growing.{specs_grow}
use Rattle.cx_cdecl.proofs.MembersThere.{pointers_begin, name_begins, specs_mark, specs_filled, specs_tree, plain_specs_there}
use Rattle.cx_cdecl.proofs.ParamsSound.{taken_front}
use Rattle.cx_cdecl.proofs.SpecsThere.{beside_mark, first_counted}
use Rattle.cx_cword.specs.Marks.{fits}
use Rattle.cx_cword.proofs.Marks.{fits_is}

-- ---- sizes of a parameter

closing_no_start : (env : Known) (kind : LexemeKind) (b : Bool) → fits m.CloseBracket kind ≡ b → starts_by env kind ≡ true → b ≡ false
closing_no_start env kind true e f = let bad : starts_by env kind ≡ false = ap (starts_by env) (fits_is m.CloseBracket kind e) in absurd cc
closing_no_start env kind false e f = refl

starts_no_close : (env : Known) (os rest : List Lexeme) → starts env os ≡ true → no_mark m.CloseBracket (os ++ rest) ≡ true
starts_no_close env [] rest e = absurd cc
starts_no_close env (o ∷ os) rest e = ap not (closing_no_start env o.kind (fits m.CloseBracket o.kind) refl e)

-- sizes begin with a bracket that no bracket follows
record SizesOpen (a : List Lexeme) : Type 0 where
  o : Lexeme
  tail : List Lexeme
  parts : a ≡ o ∷ tail
  is : Is p.OpenBracket o
  filled : (rest : List Lexeme) → no_mark m.CloseBracket (tail ++ rest) ≡ true

sizes_open : {env : Known} {t v : TypeTree} {a : List Lexeme} → AreSizes env t a v → 1 ≤ length a → SizesOpen a
sizes_open no_size some = absurd (omega (arith, some))
sizes_open {env} (also_size {a = a} {c = c} o e n opens h shuts low value more few g done) some = record {
  o = o;
  tail = a ++ e ∷ c;
  parts = refl;
  is = opens;
  filled = λ rest. ap (no_mark m.CloseBracket) (append_assoc a (e ∷ c) rest) ∙ starts_no_close env a (e ∷ (c ++ rest)) (cond_begins h);
}

sizes_mark : {env : Known} {t v : TypeTree} {a : List Lexeme} → AreSizes env t a v → 1 ≤ length a → (mark : Mark) (rest : List Lexeme) → fits mark (l.Punctuator p.OpenBracket) ≡ false → no_mark mark (a ++ rest) ≡ true
sizes_mark h some mark rest off = let f = sizes_open h some in ap (λ (v : List Lexeme). no_mark mark (v ++ rest)) f.parts ∙ ap (λ (kind : LexemeKind). not (fits mark kind)) f.is ∙ ap not off

abbrev got_size : TypeTree → List ℕ → List Lexeme → Got Sized
got_size t ns rest = record { tree = record { ctype = t; used = ns }; rest = rest }

taken_is : (a rest : List Lexeme) → names_used (taken (a ++ rest) rest) ≡ names_used a
taken_is a rest = ap names_used (taken_front (a ++ rest) a rest refl)

element_is : (t w : TypeTree) (n : ℕ) (ns : List ℕ) → (ns ≡ [] → ⊥) → array w n ≡ arrays t ns → element_of t ns ≡ pointer w
element_is t w n [] some e = absurd (some refl)
element_is t w n (j ∷ ns) some e = let same : w ≡ arrays t ns = cc in ap pointer (sym same)

nat_lt_so : (n : ℕ) → nat_lt 0 n ≡ true → 1 ≤ n
nat_lt_so n e = grind (arith, nat_tests, e)

high_so : (t : TypeTree) → type_path (pointer t) ≤ 400 → nat_le (type_path (pointer t)) 400 ≡ true
high_so t h = grind (arith, nat_tests, h)

module _ (env : Known) (few : Few env) where
  plain_there : (t : TypeTree) (turns : ℕ) (rest : List Lexeme) → closes rest ≡ true → param_size_at turns env t rest ≡ Some (got_size (adjusted t) [] rest)
  unfolding param_size_at
  plain_there t turns rest ends =
      let plain : Got Sized = reading.param_sized turns env t rest in
      choose_other m.OpenBracket rest (Some plain) (λ v. choose m.CloseBracket v (Some plain) (λ after. reading.param_open turns env t after)) (closes_bracket rest ends)
      ∙ ap (λ (x : Got (List ℕ)). Some (got_size (element_of t x.tree) (names_used (taken rest x.rest)) x.rest)) (sized_none env few turns t rest (closes_bracket rest ends))
      ∙ ap (λ (v : List ℕ). Some (got_size (adjusted t) v rest)) (taken_is [] rest)

  open_read : (t w : TypeTree) (c : List Lexeme) (turns : ℕ) (rest : List Lexeme) → (f : SizesGo env few t c w) → is_complete env w ≡ true → type_path (pointer w) ≤ 400 → closes rest ≡ true → Room turns (c ++ rest)
      → reading.param_open turns env t (c ++ rest) ≡ Some (got_size (pointer w) (names_used c) rest)
  open_read t w c turns rest f done low ends room =
      let path : type_path w ≡ length f.more + type_path t = ap type_path f.tree ∙ path_arrays t f.more in
      let d : ℕ = 399 - type_path t - length f.more in
      let count : 399 - type_path t ≡ length f.more + d = omega (arith, path, low) in
      let test : (is_complete env t && nat_le (type_path (pointer t)) 400) ≡ true = true_both (is_complete env t) (nat_le (type_path (pointer t)) 400) (sym (ap (is_complete env) f.tree ∙ complete_arrays env t f.more) ∙ done) (high_so t (omega (arith, path, low))) in
      let made : Got (List ℕ) → Option (Got Sized) = λ x. Some (got_size (pointer (arrays t x.tree)) (names_used (taken (c ++ rest) x.rest)) x.rest) in
      if_goes (is_complete env t && nat_le (type_path (pointer t)) 400) (made (sizes_at turns env (399 - type_path t) [] (c ++ rest))) test
      ∙ ap (λ (v : ℕ). made (sizes_at turns env v [] (c ++ rest))) count
      ∙ ap made (f.goes turns d [] rest room ∙ sizes_end turns env d f.more rest (closes_bracket rest ends))
      ∙ ap (λ (v : TypeTree). Some (got_size (pointer v) (names_used (taken (c ++ rest) rest)) rest)) (sym f.tree)
      ∙ ap (λ (v : List ℕ). Some (got_size (pointer w) v rest)) (taken_is c rest)

  sized_read : {t w : TypeTree} {a : List Lexeme} {n : ℕ} → AreSizes env t a (array w n) → 1 ≤ length a → type_path (array w n) ≤ 400 → (turns : ℕ) (rest : List Lexeme) → closes rest ≡ true → Room turns (a ++ rest)
      → param_size_at turns env t (a ++ rest) ≡ Some (got_size (pointer w) (names_used a) rest)
  unfolding param_size_at
  sized_read {t} {w} {a} {n} h some low turns rest ends room =
      let f = sizes_open h some in
      let s = sized_there env few h low turns rest room in
      let plain : List Lexeme → Option (Got Sized) = λ v. Some (reading.param_sized turns env t v) in
      let bare : s.more ≡ [] → ⊥ = λ e. let g = ap length (s.bare e) in absurd (omega (arith, some, g)) in
      ap (λ (v : List Lexeme). choose m.OpenBracket v (plain (a ++ rest)) (λ u. choose m.CloseBracket u (plain (a ++ rest)) (λ after. reading.param_open turns env t after))) (ap (λ (v : List Lexeme). v ++ rest) f.parts)
      ∙ choose_goes m.OpenBracket f.o (f.tail ++ rest) (plain (a ++ rest)) (λ u. choose m.CloseBracket u (plain (a ++ rest)) (λ after. reading.param_open turns env t after)) f.is
      ∙ choose_other m.CloseBracket (f.tail ++ rest) (plain (a ++ rest)) (λ after. reading.param_open turns env t after) (f.filled rest)
      ∙ ap (λ (x : Got (List ℕ)). Some (got_size (element_of t x.tree) (names_used (taken (a ++ rest) x.rest)) x.rest)) (s.reads (closes_bracket rest ends))
      ∙ ap (λ (v : TypeTree). Some (got_size v (names_used (taken (a ++ rest) rest)) rest)) (element_is t w n s.more bare s.tree)
      ∙ ap (λ (v : List ℕ). Some (got_size (pointer w) v rest)) (taken_is a rest)

  open_there : (t w : TypeTree) (o e : Lexeme) (c : List Lexeme) (turns : ℕ) (rest : List Lexeme) → Is p.OpenBracket o → Is p.CloseBracket e → AreSizes env t c w → is_complete env w ≡ true → type_path (pointer w) ≤ 400 → closes rest ≡ true → Room turns (o ∷ e ∷ (c ++ rest))
      → param_size_at turns env t (o ∷ e ∷ (c ++ rest)) ≡ Some (got_size (pointer w) (names_used c) rest)
  unfolding param_size_at
  open_there t w o e c turns rest opens shuts h done low ends room =
      let plain : Option (Got Sized) = Some (reading.param_sized turns env t (o ∷ e ∷ (c ++ rest))) in
      choose_goes m.OpenBracket o (e ∷ (c ++ rest)) plain (λ v. choose m.CloseBracket v plain (λ after. reading.param_open turns env t after)) opens
      ∙ choose_goes m.CloseBracket e (c ++ rest) plain (λ after. reading.param_open turns env t after) shuts
      ∙ open_read t w c turns rest (sizes_go env few h) done low ends (omega (arith, room))

  pub param_size_there : {t v : TypeTree} {d : List Lexeme} {z : List ℕ} → IsParamSize env t d v z → type_path v ≤ 400 → (turns : ℕ) (rest : List Lexeme) → closes rest ≡ true → Room turns (d ++ rest) → param_size_at turns env t (d ++ rest) ≡ Some (got_size v z rest)
  param_size_there {t} param_plain low turns rest ends room = plain_there t turns rest ends
  param_size_there {t} (param_open {c = c} {w = w} o e opens shuts h done) low turns rest ends room = open_there t w o e c turns rest opens shuts h done low ends room
  param_size_there {t} (param_sized {a = a} h some) low turns rest ends room = sized_read h (nat_lt_so (length a) some) low turns rest ends room

adjusted_path : (t : TypeTree) → type_path t ≤ type_path (adjusted t)
adjusted_path void = omega arith
adjusted_path (int t) = omega arith
adjusted_path (pointer t) = omega arith
adjusted_path (array t n) = omega arith
adjusted_path (tag at) = omega arith

sizes_path : {env : Known} {t v : TypeTree} {a : List Lexeme} → AreSizes env t a v → type_path t ≤ type_path v
sizes_path no_size = omega arith
sizes_path (also_size o e n opens h shuts low value more few g done) = let f = sizes_path g in omega (arith, f)

size_path : {env : Known} {t v : TypeTree} {d : List Lexeme} {z : List ℕ} → IsParamSize env t d v z → type_path t ≤ type_path v
size_path {t = t} param_plain = adjusted_path t
size_path (param_open o e opens shuts h done) = let f = sizes_path h in omega (arith, f)
size_path (param_sized h some) = sizes_path h

-- what stands behind the name or the stars of a parameter begins with no name, no star and no keyword
record Bare (os : List Lexeme) : Type 0 where
  type : ends_type os ≡ true
  star : no_mark m.Star os ≡ true
  nameless : at_lexeme os None (λ o rest. name_of o.kind) ≡ None

bracket_bare : (o : Lexeme) (os : List Lexeme) → Is p.OpenBracket o → Bare (o ∷ os)
bracket_bare o os is = record {
  type = ap (λ (kind : LexemeKind). not (is_keyword kind) && not (fits m.OpenBrace kind)) is;
  star = ap (λ (kind : LexemeKind). not (fits m.Star kind)) is;
  nameless = ap name_of is;
}

closed_nameless : (kind : LexemeKind) → is_closed_by kind ≡ true → name_of kind ≡ None
closed_nameless (l.Punctuator q) e = refl
closed_nameless (l.Keyword w) e = absurd cc
closed_nameless (l.Constant v t) e = absurd cc
closed_nameless (l.Name n) e = absurd cc
closed_nameless (l.Attributive n) e = absurd cc
closed_nameless l.Other e = absurd cc

closing_nameless : (os : List Lexeme) → closes os ≡ true → at_lexeme os None (λ o rest. name_of o.kind) ≡ None
closing_nameless [] e = refl
closing_nameless (o ∷ os) e = closed_nameless o.kind e

closing_bare : (os : List Lexeme) → closes os ≡ true → Bare os
closing_bare os e = record { type = closes_type os e; star = closes_star os e; nameless = closing_nameless os e }

sizes_bare : {env : Known} {t v : TypeTree} {a : List Lexeme} → AreSizes env t a v → (rest : List Lexeme) → closes rest ≡ true → Bare (a ++ rest)
sizes_bare no_size rest e = closing_bare rest e
sizes_bare (also_size {a = a} {c = c} o w n opens h shuts low value more few g done) rest e = bracket_bare o ((a ++ w ∷ c) ++ rest) opens

size_bare : {env : Known} {t v : TypeTree} {d : List Lexeme} {z : List ℕ} → IsParamSize env t d v z → (rest : List Lexeme) → closes rest ≡ true → Bare (d ++ rest)
size_bare param_plain rest e = closing_bare rest e
size_bare (param_open {c = c} o w opens shuts h done) rest e = bracket_bare o (w ∷ (c ++ rest)) opens
size_bare (param_sized h some) rest e = sizes_bare h rest e

-- ---- one parameter

type_keyword : (os : List Lexeme) → ends_type os ≡ true → no_keyword os ≡ true
type_keyword os e = (both_true (no_keyword os) (no_mark m.OpenBrace os) e).0

abbrev pub used_of : Option ℕ → TypeTree → List ℕ → Known → List Lexeme → After Used
used_of name t z known rest = record { tree = record { param = record { name = name; ctype = t }; used = z }; known = known; rest = rest }

-- the words of its type and its stars are read
param_type : {earlier : List DeclTree} {env known : Known} {a c : List Lexeme} {t w : TypeTree} {s : Beside} (turns : ℕ) (more : List Lexeme) (y : After Used) → AreSpecs earlier env a t s false known → s.attributed ≡ false → ArePointers t c w → type_path w ≤ 400 → ends_type more ≡ true → no_mark m.Star more ≡ true
    → Fits env (a ++ (c ++ more)) → Room turns (a ++ (c ++ more)) → reading.param_named turns known (record { tree = w; rest = more }) ≡ Some y → param_at turns env (a ++ (c ++ more)) ≡ Some y
unfolding param_at
param_type {env = env} {known = known} {a = a} {c = c} {t = t} {w = w} {s = s} turns more y h bare q low ends star fits room e =
    let next : After Specs → Option (After Used) = λ s. pointers_at turns 400 s.tree.ctype s.rest >>= reading.param_named turns s.known in
    let long = length-append a (c ++ more) in
    bind_goes (plain_specs_at turns env (a ++ (c ++ more))) (λ s. if_true (not s.tree.said.attributed) (next s)) (specs_tree t s false known (c ++ more)) (plain_specs_there h turns (c ++ more) (pointers_begin q more ends) fits room)
    ∙ if_goes (not s.attributed) (next (specs_tree t s false known (c ++ more))) (ap not bare)
    ∙ bind_goes (pointers_at turns 400 t (c ++ more)) (reading.param_named turns known) (record { tree = w; rest = more }) (pointers_there q turns 400 more (type_keyword more ends) star low (omega (arith, room, long)))
    ∙ e

unnamed_goes : (turns : ℕ) (known : Known) (w : TypeTree) (os : List Lexeme) → at_lexeme os None (λ o rest. name_of o.kind) ≡ None → reading.param_named turns known (record { tree = w; rest = os }) ≡ unnamed turns known (record { tree = w; rest = os })
unnamed_goes turns known w [] e = refl
unnamed_goes turns known w (o ∷ os) e = ap (param_by turns known (record { tree = w; rest = o ∷ os }) os) e

unnamed_reads : {known : Known} {w v : TypeTree} {d : List Lexeme} {z : List ℕ} (turns : ℕ) (rest : List Lexeme) → Few known → IsParamSize known w d v z → type_path v ≤ 400 → closes rest ≡ true → Room turns (d ++ rest)
    → reading.param_named turns known (record { tree = w; rest = d ++ rest }) ≡ Some (used_of None v z known rest)
unnamed_reads {known} {w} {v} {d} {z} turns rest few h low ends room =
    unnamed_goes turns known w (d ++ rest) (size_bare h rest ends).nameless
    ∙ bind_goes (param_size_at turns known w (d ++ rest)) (with_name None known) (got_size v z rest) (param_size_there known few h low turns rest ends room)

named_reads : {known : Known} {w v : TypeTree} {d : List Lexeme} {z : List ℕ} (o : Lexeme) (n : ℕ) (turns : ℕ) (rest : List Lexeme) → Few known → IsName n o → names_type known n ≡ false → IsParamSize known w d v z → type_path v ≤ 400 → closes rest ≡ true → Room turns (d ++ rest)
    → reading.param_named turns known (record { tree = w; rest = o ∷ (d ++ rest) }) ≡ Some (used_of (Some n) v z known rest)
named_reads {known} {w} {v} {d} {z} o n turns rest few is new h low ends room =
    ap (param_by turns known (record { tree = w; rest = o ∷ (d ++ rest) }) (d ++ rest)) is
    ∙ if_goes (not (names_type known n)) (param_size_at turns known w (d ++ rest) >>= with_name (Some n) known) (ap not new)
    ∙ bind_goes (param_size_at turns known w (d ++ rest)) (with_name (Some n) known) (got_size v z rest) (param_size_there known few h low turns rest ends room)

pub param_there : {earlier : List DeclTree} {env known : Known} {a : List Lexeme} {q : ParamTree} {z : List ℕ} → IsParam earlier env a q z known → (turns : ℕ) (rest : List Lexeme) → closes rest ≡ true → Fits env (a ++ rest) → Room turns (a ++ rest)
    → param_at turns env (a ++ rest) ≡ Some (record { tree = record { param = q; used = z }; known = known; rest = rest })
param_there {env = env} (param_alone {known = known} {a = a} {c = c} {d = d} {z = z} {w = w} {v = v} h bare q i low) turns rest ends fits room =
    let parts : ((a ++ c) ++ d) ++ rest ≡ a ++ (c ++ (d ++ rest)) = append_assoc (a ++ c) d rest ∙ append_assoc a c (d ++ rest) in
    let whole = ap length parts in
    let long = length-append a (c ++ (d ++ rest)) in
    let more = length-append c (d ++ rest) in
    let f = size_bare i rest ends in
    let path = size_path i in
    let fits2 = fits_less env (((a ++ c) ++ d) ++ rest) (a ++ (c ++ (d ++ rest))) fits (omega (arith, whole)) in
    let few = fits_few known (c ++ (d ++ rest)) (fits_after env known a (c ++ (d ++ rest)) fits2 (specs_grow h)) in
    ap (param_at turns env) parts
    ∙ param_type turns (d ++ rest) (used_of None v z known rest) h bare q (omega (arith, path, low)) f.type f.star fits2 (omega (arith, room, whole)) (unnamed_reads turns rest few i low ends (omega (arith, room, whole, long, more)))
param_there {env = env} (param_named {known = known} {a = a} {c = c} {d = d} {z = z} {w = w} {v = v} o n h bare q is new i low) turns rest ends fits room =
    let parts : ((a ++ c) ++ o ∷ d) ++ rest ≡ a ++ (c ++ (o ∷ (d ++ rest))) = append_assoc (a ++ c) (o ∷ d) rest ∙ append_assoc a c (o ∷ (d ++ rest)) in
    let whole = ap length parts in
    let long = length-append a (c ++ (o ∷ (d ++ rest))) in
    let more = length-append c (o ∷ (d ++ rest)) in
    let path = size_path i in
    let fits2 = fits_less env (((a ++ c) ++ o ∷ d) ++ rest) (a ++ (c ++ (o ∷ (d ++ rest)))) fits (omega (arith, whole)) in
    let few = fits_few known (c ++ (o ∷ (d ++ rest))) (fits_after env known a (c ++ (o ∷ (d ++ rest))) fits2 (specs_grow h)) in
    ap (param_at turns env) parts
    ∙ param_type turns (o ∷ (d ++ rest)) (used_of (Some n) v z known rest) h bare q (omega (arith, path, low)) (name_begins o n (d ++ rest) is) (ap not (name_no_mark m.Star o.kind n is)) fits2 (omega (arith, room, whole)) (named_reads o n turns rest few is new i low ends (omega (arith, room, whole, long, more)))

-- ---- all of them

pub param_grows : {earlier : List DeclTree} {env known : Known} {a : List Lexeme} {q : ParamTree} {z : List ℕ} → IsParam earlier env a q z known → Grows env known (length a)
param_grows {env = env} (param_alone {known = known} {a = a} {c = c} {d = d} h bare q i low) = grows_more env known (length a) (length ((a ++ c) ++ d)) (specs_grow h) (let e = length-append (a ++ c) d in let f = length-append a c in omega (arith, e, f))
param_grows {env = env} (param_named {known = known} {a = a} {c = c} {d = d} o n h bare q is new i low) = grows_more env known (length a) (length ((a ++ c) ++ o ∷ d)) (specs_grow h) (let e = length-append (a ++ c) (o ∷ d) in let f = length-append a c in omega (arith, e, f))

pub params_grow : {earlier : List DeclTree} {env known : Known} {a : List Lexeme} {qs : List ParamTree} {z : List ℕ} → AreParams earlier env a qs z known → Grows env known (length a)
params_grow (first_param h) = param_grows h
params_grow {env = env} (also_param {known = known} {later = later} {a = a} {c = c} o h is i) = grows_then env known later (length a) (length c) (length (a ++ o ∷ c)) (params_grow h) (param_grows i) (let e = length-append a (o ∷ c) in omega (arith, e))

param_filled : {earlier : List DeclTree} {env known : Known} {a : List Lexeme} {q : ParamTree} {z : List ℕ} → IsParam earlier env a q z known → 1 ≤ length a
param_filled (param_alone {a = a} {c = c} {d = d} h bare q i low) = let f = specs_filled h in let e = length-append (a ++ c) d in let g = length-append a c in omega (arith, f, e, g)
param_filled (param_named {a = a} {c = c} {d = d} o n h bare q is new i low) = let f = specs_filled h in let e = length-append (a ++ c) (o ∷ d) in let g = length-append a c in omega (arith, f, e, g)

param_mark : {earlier : List DeclTree} {env known : Known} {a : List Lexeme} {q : ParamTree} {z : List ℕ} → IsParam earlier env a q z known → (mark : Mark) (rest : List Lexeme) → no_mark mark (a ++ rest) ≡ true
param_mark (param_alone {a = a} {c = c} {d = d} h bare q i low) mark rest = ap (no_mark mark) (append_assoc (a ++ c) d rest ∙ append_assoc a c (d ++ rest)) ∙ specs_mark h mark (c ++ (d ++ rest))
param_mark (param_named {a = a} {c = c} {d = d} o n h bare q is new i low) mark rest = ap (no_mark mark) (append_assoc (a ++ c) (o ∷ d) rest ∙ append_assoc a c (o ∷ (d ++ rest))) ∙ specs_mark h mark (c ++ (o ∷ (d ++ rest)))

params_mark : {earlier : List DeclTree} {env known : Known} {a : List Lexeme} {qs : List ParamTree} {z : List ℕ} → AreParams earlier env a qs z known → (mark : Mark) (rest : List Lexeme) → no_mark mark (a ++ rest) ≡ true
params_mark (first_param h) mark rest = param_mark h mark rest
params_mark (also_param {a = a} {c = c} o h is i) mark rest = ap (no_mark mark) (append_assoc a (o ∷ c) rest) ∙ params_mark h mark (o ∷ (c ++ rest))

params_filled : {earlier : List DeclTree} {env known : Known} {a : List Lexeme} {qs : List ParamTree} {z : List ℕ} → AreParams earlier env a qs z known → 1 ≤ length a
params_filled (first_param h) = param_filled h
params_filled (also_param {a = a} {c = c} o h is i) = let e = length-append a (o ∷ c) in omega (arith, e)

abbrev params_of : List ParamTree → List ℕ → Known → List Lexeme → After Params
params_of qs z known rest = record { tree = record { params = qs; used = z }; known = known; rest = rest }

-- reading goes on behind the parameters, with so many turns left
record ParamsGo (turns n : ℕ) (env : Known) (front rest : List Lexeme) (qs : List ParamTree) (z : List ℕ) (known : Known) : Type 0 where
  left : ℕ
  enough : length rest + 1 ≤ left
  goes : params_at turns n env no_params (front ++ rest) ≡ choose m.Comma rest (Some (params_of qs z known rest)) (λ after. params_at turns left known (record { params = qs; used = z }) after)

one_goes : (turns n : ℕ) (env known : Known) (acc : Params) (os rest : List Lexeme) (q : ParamTree) (z : List ℕ) → param_at turns env os ≡ Some (record { tree = record { param = q; used = z }; known = known; rest = rest })
    → params_at turns (suc n) env acc os ≡ choose m.Comma rest (Some (params_of (acc.params ++ q ∷ []) (acc.used ++ z) known rest)) (λ after. params_at turns n known (record { params = acc.params ++ q ∷ []; used = acc.used ++ z }) after)
unfolding params_at
one_goes turns n env known acc os rest q z e =
    bind_goes (param_at turns env os) (λ x. choose m.Comma x.rest (Some (record { tree = reading.also_param acc x.tree; known = x.known; rest = x.rest })) (λ after. params_at turns n x.known (reading.also_param acc x.tree) after))
    (record { tree = record { param = q; used = z }; known = known; rest = rest }) e

some_goes : (turns n : ℕ) (env known : Known) (acc : Params) (os rest : List Lexeme) (q : ParamTree) (z : List ℕ) → param_at turns env os ≡ Some (record { tree = record { param = q; used = z }; known = known; rest = rest }) → length rest + 2 ≤ n
    → (left : ℕ) × (length rest + 1 ≤ left) × (params_at turns n env acc os ≡ choose m.Comma rest (Some (params_of (acc.params ++ q ∷ []) (acc.used ++ z) known rest)) (λ after. params_at turns left known (record { params = acc.params ++ q ∷ []; used = acc.used ++ z }) after))
some_goes turns zero env known acc os rest q z e enough = absurd (omega (arith, enough))
some_goes turns (suc n) env known acc os rest q z e enough = (n, omega (arith, enough), one_goes turns n env known acc os rest q z e)

params_go : {earlier : List DeclTree} {env known : Known} {a : List Lexeme} {qs : List ParamTree} {z : List ℕ} → AreParams earlier env a qs z known → (turns n : ℕ) (rest : List Lexeme) → closes rest ≡ true → Fits env (a ++ rest) → Room turns (a ++ rest) → length (a ++ rest) + 1 ≤ n → ParamsGo turns n env a rest qs z known
params_go {env = env} (first_param {known = known} {a = a} {z = z} {q = q} h) turns n rest ends fits room enough =
    let long = length-append a rest in
    let filled = param_filled h in
    let g = some_goes turns n env known no_params (a ++ rest) rest q z (param_there h turns rest ends fits room) (omega (arith, enough, long, filled)) in
    record { left = g.0; enough = g.1; goes = g.2 }
params_go {env = env} (also_param {known = known} {later = later} {a = a} {c = c} {y = y} {z = z} {qs = qs} {q = q} o h is i) turns n rest ends fits room enough =
    let parts : (a ++ o ∷ c) ++ rest ≡ a ++ o ∷ (c ++ rest) = append_assoc a (o ∷ c) rest in
    let whole = ap length parts in
    let more = length-append a (o ∷ (c ++ rest)) in
    let long = length-append c rest in
    let filled = param_filled i in
    let acc : Params = record { params = qs; used = y } in
    let fits2 = fits_less env ((a ++ o ∷ c) ++ rest) (a ++ o ∷ (c ++ rest)) fits (omega (arith, whole)) in
    let f = params_go h turns n (o ∷ (c ++ rest)) (ap is_closed_by is) fits2 (omega (arith, room, whole)) (omega (arith, enough, whole)) in
    let left = f.enough in
    let fits3 = fits_less known (o ∷ (c ++ rest)) (c ++ rest) (fits_after env known a (o ∷ (c ++ rest)) fits2 (params_grow h)) (omega arith) in
    let g = some_goes turns f.left known later acc (c ++ rest) rest q z (param_there i turns rest ends fits3 (omega (arith, room, whole, more))) (omega (arith, left, long, filled)) in
    record {
      left = g.0;
      enough = g.1;
      goes = ap (params_at turns n env no_params) parts ∙ f.goes ∙ choose_goes m.Comma o (c ++ rest) (Some (params_of qs y known (o ∷ (c ++ rest)))) (λ after. params_at turns f.left known acc after) is ∙ g.2;
    }

-- ---- the word void

-- where the word void stands first, no parenthesis follows it
abbrev void_open : List Lexeme → Bool
void_open [] = true
void_open (o ∷ os) = not (is_void_word o.kind) || no_mark m.CloseParen os

or_left : (a b : Bool) → a ≡ true → (a || b) ≡ true
or_left true b e = refl
or_left false b e = absurd cc

or_right : (a b : Bool) → b ≡ true → (a || b) ≡ true
or_right true b e = refl
or_right false b e = e

not_void : (o : Lexeme) (os : List Lexeme) → is_void_word o.kind ≡ false → void_open (o ∷ os) ≡ true
not_void o os e = or_left (not (is_void_word o.kind)) (no_mark m.CloseParen os) (ap not e)

said_not_void : (w : Keyword) (s r : Beside) → also_said w s ≡ Some r → is_void_word (l.Keyword w) ≡ false
said_not_void k.Void s r e = absurd cc
said_not_void _ s r e = refl

name_not_void : (kind : LexemeKind) (n : ℕ) → name_of kind ≡ Some n → is_void_word kind ≡ false
name_not_void (l.Keyword w) n e = absurd cc
name_not_void _ n e = refl

word_not_void : (kind : LexemeKind) (u : IntWord) → word_of kind ≡ Some u → is_void_word kind ≡ false
word_not_void (l.Keyword k.Void) u e = absurd cc
word_not_void _ u e = refl

tag_not_void : (union : Bool) → is_void_word (l.Keyword (tag_word union)) ≡ false
tag_not_void false = refl
tag_not_void true = refl

beside_void : {a : List Lexeme} {s : Beside} → AreBeside a s → (rest : List Lexeme) → void_open rest ≡ true → void_open (a ++ rest) ≡ true
beside_void none_beside rest e = e
beside_void (word_beside {os = os} {s = s} {said = r} o w is i f) rest e = not_void o (os ++ rest) (ap is_void_word is ∙ said_not_void w s r f)
beside_void (attributes_beside {a = a} {os = os} i j) rest e =
    let f = attributes_there i in
    ap (λ (v : List Lexeme). void_open ((v ++ os) ++ rest)) f.parts ∙ not_void f.o ((f.tail ++ os) ++ rest) (ap is_void_word f.is)

base_void : {env : Known} {a : List Lexeme} {t : TypeTree} → IsBase env a t → (rest : List Lexeme) → no_mark m.CloseParen rest ≡ true → void_open (a ++ rest) ≡ true
base_void (void_word o e) rest ends = or_right (not (is_void_word o.kind)) (no_mark m.CloseParen rest) ends
base_void (int_words {os = os} t i) rest ends = let f = first_counted os t i in ap (λ (v : List Lexeme). void_open (v ++ rest)) f.parts ∙ not_void f.o (f.tail ++ rest) (word_not_void f.o.kind f.u f.is)
base_void (type_name o n t e f) rest ends = not_void o rest (name_not_void o.kind n e)
base_void (tag_name o w n at union e f g i) rest ends = not_void o (w ∷ rest) (ap is_void_word e ∙ tag_not_void union)
base_void (enum_name o w n e f g) rest ends = not_void o (w ∷ rest) (ap is_void_word e)

specifier_void : {earlier : List DeclTree} {env known : Known} {a : List Lexeme} {t : TypeTree} {listed : Bool} → IsSpecifier earlier env a t listed known → (rest : List Lexeme) → no_mark m.CloseParen rest ≡ true → void_open (a ++ rest) ≡ true
specifier_void (declared_before i low) rest ends = base_void i rest ends
specifier_void (new_tag o w n union e f g) rest ends = not_void o (w ∷ rest) (ap is_void_word e ∙ tag_not_void union)
specifier_void (tag_members {a = a} o w n at union e f g i j q) rest ends = not_void o (w ∷ (a ++ rest)) (ap is_void_word e ∙ tag_not_void union)
specifier_void (members_alone {a = a} o union e f) rest ends = not_void o (a ++ rest) (ap is_void_word e ∙ tag_not_void union)
specifier_void (enum_named {a = a} o w n e f g) rest ends = not_void o (w ∷ (a ++ rest)) (ap is_void_word e)
specifier_void (enum_alone {a = a} o e f) rest ends = not_void o (a ++ rest) (ap is_void_word e)

specs_void : {earlier : List DeclTree} {env known : Known} {a : List Lexeme} {t : TypeTree} {s : Beside} {listed : Bool} → AreSpecs earlier env a t s listed known → (rest : List Lexeme) → no_mark m.CloseParen rest ≡ true → void_open (a ++ rest) ≡ true
specs_void (specs {a = a} {c = c} {d = d} h i j e) rest ends =
    ap void_open (append_assoc (a ++ c) d rest ∙ append_assoc a c (d ++ rest)) ∙ beside_void h (c ++ (d ++ rest)) (specifier_void i (d ++ rest) (beside_mark j m.CloseParen rest ends))

pointers_paren : {t w : TypeTree} {a : List Lexeme} → ArePointers t a w → (rest : List Lexeme) → no_mark m.CloseParen rest ≡ true → no_mark m.CloseParen (a ++ rest) ≡ true
pointers_paren no_star rest e = e
pointers_paren (also_star {a = a} {c = c} o h is skips) rest e = ap (no_mark m.CloseParen) (append_assoc a (o ∷ c) rest) ∙ pointers_paren h (o ∷ (c ++ rest)) (ap (λ (kind : LexemeKind). not (fits m.CloseParen kind)) is)

size_paren : {env : Known} {t v : TypeTree} {d : List Lexeme} {z : List ℕ} → IsParamSize env t d v z → (rest : List Lexeme) → no_mark m.CloseParen rest ≡ true → no_mark m.CloseParen (d ++ rest) ≡ true
size_paren param_plain rest e = e
size_paren (param_open {c = c} o w opens shuts h done) rest e = ap (λ (kind : LexemeKind). not (fits m.CloseParen kind)) opens
size_paren (param_sized {a = a} h some) rest e = sizes_mark h (nat_lt_so (length a) some) m.CloseParen rest refl

param_void : {earlier : List DeclTree} {env known : Known} {a : List Lexeme} {q : ParamTree} {z : List ℕ} → IsParam earlier env a q z known → (rest : List Lexeme) → no_mark m.CloseParen rest ≡ true → void_open (a ++ rest) ≡ true
param_void (param_alone {a = a} {c = c} {d = d} h bare q i low) rest ends =
    ap void_open (append_assoc (a ++ c) d rest ∙ append_assoc a c (d ++ rest)) ∙ specs_void h (c ++ (d ++ rest)) (pointers_paren q (d ++ rest) (size_paren i rest ends))
param_void (param_named {a = a} {c = c} {d = d} o n h bare q is new i low) rest ends =
    ap void_open (append_assoc (a ++ c) (o ∷ d) rest ∙ append_assoc a c (o ∷ (d ++ rest))) ∙ specs_void h (c ++ (o ∷ (d ++ rest))) (pointers_paren q (o ∷ (d ++ rest)) (ap not (name_no_mark m.CloseParen o.kind n is)))

params_void : {earlier : List DeclTree} {env known : Known} {a : List Lexeme} {qs : List ParamTree} {z : List ℕ} → AreParams earlier env a qs z known → (rest : List Lexeme) → no_mark m.CloseParen rest ≡ true → void_open (a ++ rest) ≡ true
params_void (first_param h) rest ends = param_void h rest ends
params_void (also_param {a = a} {c = c} o h is i) rest ends = ap void_open (append_assoc a (o ∷ c) rest) ∙ params_void h (o ∷ (c ++ rest)) (ap (λ (kind : LexemeKind). not (fits m.CloseParen kind)) is)

-- the word void is not alone where parameters stand
not_and : (a b : Bool) → (not a || not b) ≡ true → (a && b) ≡ false
not_and true true e = absurd cc
not_and true false e = refl
not_and false b e = refl

and_no : (a b : Bool) → a ≡ false → (a && b) ≡ false
and_no true b e = absurd cc
and_no false b e = refl

void_not_alone : (o : Lexeme) (tail rest : List Lexeme) → void_open (o ∷ tail) ≡ true → is_void_alone (o ∷ tail) ≡ false → (is_void_word o.kind && closes_params (tail ++ rest)) ≡ false
void_not_alone o [] rest e alone = and_no (is_void_word o.kind) (closes_params rest) alone
void_not_alone o (n ∷ tail) rest e alone = not_and (is_void_word o.kind) (fits m.CloseParen n.kind) e

-- ---- between parentheses

abbrev list_of : List ParamTree → Known → List Lexeme → Option (After (List ParamTree))
list_of qs known rest = Some (record { tree = qs; known = known; rest = rest })

none_reads : (turns : ℕ) (env : Known) (e : Lexeme) (rest : List Lexeme) → Is p.CloseParen e → param_list_at turns env (e ∷ rest) ≡ list_of [] env (e ∷ rest)
unfolding param_list_at
none_reads turns env e rest shuts =
    ap (λ (b : Bool). cond b (list_of [] env (e ∷ rest)) (cond (is_void_word e.kind && closes_params rest) (list_of [] env rest) (some_params turns env (e ∷ rest)))) (is_fit m.CloseParen e.kind shuts)

void_reads : (turns : ℕ) (env : Known) (o e : Lexeme) (rest : List Lexeme) → IsWord k.Void o → Is p.CloseParen e → param_list_at turns env (o ∷ e ∷ rest) ≡ list_of [] env (e ∷ rest)
unfolding param_list_at
void_reads turns env o e rest is shuts =
    ap (λ (kind : LexemeKind). cond (fits m.CloseParen kind) (list_of [] env (o ∷ e ∷ rest)) (cond (is_void_word kind && fits m.CloseParen e.kind) (list_of [] env (e ∷ rest)) (some_params turns env (o ∷ e ∷ rest)))) is
    ∙ ap (λ (b : Bool). cond b (list_of [] env (e ∷ rest)) (some_params turns env (o ∷ e ∷ rest))) (is_fit m.CloseParen e.kind shuts)

list_reads : (turns : ℕ) (env : Known) (o : Lexeme) (os : List Lexeme) → fits m.CloseParen o.kind ≡ false → (is_void_word o.kind && closes_params os) ≡ false → param_list_at turns env (o ∷ os) ≡ some_params turns env (o ∷ os)
unfolding param_list_at
list_reads turns env o os shut alone =
    ap (λ (b : Bool). cond b (list_of [] env (o ∷ os)) (cond (is_void_word o.kind && closes_params os) (list_of [] env os) (some_params turns env (o ∷ os)))) shut
    ∙ ap (λ (b : Bool). cond b (list_of [] env os) (some_params turns env (o ∷ os))) alone

params_read : (turns : ℕ) (env known : Known) (a : List Lexeme) (rest : List Lexeme) (qs : List ParamTree) (z : List ℕ) → params_at turns turns env no_params (a ++ rest) ≡ Some (params_of qs z known rest) → 1 ≤ length a → no_mark m.CloseParen (a ++ rest) ≡ true → void_open a ≡ true → is_void_alone a ≡ false
    → are_outside qs z ≡ true → param_list_at turns env (a ++ rest) ≡ list_of qs known rest
params_read turns env known [] rest qs z e some shut open_ alone out = absurd (omega (arith, some))
params_read turns env known (o ∷ a) rest qs z e some shut open_ alone out =
    list_reads turns env o (a ++ rest) (not_true (fits m.CloseParen o.kind) shut) (void_not_alone o a rest open_ alone)
    ∙ bind_goes (params_at turns turns env no_params (o ∷ (a ++ rest))) (λ x. if_true (are_outside x.tree.params x.tree.used) (list_of x.tree.params x.known x.rest)) (params_of qs z known rest) e
    ∙ if_goes (are_outside qs z) (list_of qs known rest) out

-- what stands between parentheses is read, up to the one that closes
pub param_list_there : {earlier : List DeclTree} {env known : Known} {a : List Lexeme} {qs : List ParamTree} → IsParamList earlier env a qs known → (turns : ℕ) (e : Lexeme) (rest : List Lexeme) → Is p.CloseParen e → Fits env (a ++ e ∷ rest) → Room turns (a ++ e ∷ rest)
    → param_list_at turns env (a ++ e ∷ rest) ≡ Some (record { tree = qs; known = known; rest = e ∷ rest })
param_list_there {env = env} no_param turns e rest shuts fits room = none_reads turns env e rest shuts
param_list_there {env = env} (void_param o is) turns e rest shuts fits room = void_reads turns env o e rest is shuts
param_list_there {env = env} (params {known = known} {a = a} {z = z} {qs = qs} h alone out) turns e rest shuts fitted room =
    let f = params_go h turns turns (e ∷ rest) (ap is_closed_by shuts) fitted room (omega (arith, room)) in
    let stop = choose_other m.Comma (e ∷ rest) (Some (params_of qs z known (e ∷ rest))) (λ after. params_at turns f.left known (record { params = qs; used = z }) after) (ap (λ (kind : LexemeKind). not (fits m.Comma kind)) shuts) in
    params_read turns env known a (e ∷ rest) qs z (f.goes ∙ stop) (params_filled h) (params_mark h m.CloseParen (e ∷ rest)) (ap void_open (sym (append-nil a)) ∙ params_void h [] refl) alone out

pub param_list_grows : {earlier : List DeclTree} {env known : Known} {a : List Lexeme} {qs : List ParamTree} → IsParamList earlier env a qs known → Grows env known (length a)
param_list_grows {env = env} no_param = grows_none env 0
param_list_grows {env = env} (void_param o is) = grows_none env 1
param_list_grows (params h alone out) = params_grow h
