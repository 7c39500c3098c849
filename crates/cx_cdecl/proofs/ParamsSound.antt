-- What is read as parameters is a list of them.
use Rattle.std.proofs.Common.{◌≡◌, ℕ, zero, suc, ◌+◌, ◌-◌, ◌≤◌, Bool, true, false, ◌&&◌, cond, List, [], ◌∷◌, ◌++◌, length, take, Option, Some, None, refl, sym, ap, ◌∙◌, subst, append_assoc, arith, length-append, inl, inr, nat_lt}
use Rattle.std.proofs.lemmas.Bool.Decides.{nat_tests}
use Rattle.std.specs.Prelude.{not, nat_le}
use Rattle.std.proofs.lemmas.Option.{same_Some}
use Rattle.cx_base.proofs.General.{not_true, both_true}
use Rattle.cx_ctree.specs.Types.{TypeTree, void, int, pointer, array, tag}
use Rattle.cx_ctree.specs.Path.{type_path}
use Rattle.cx_ctree.specs.Decls.{ParamTree, DeclTree}
use Rattle.cx_cword.specs.declared.word.Punctuator.TheVariants as p
use Rattle.cx_cword.specs.declared.lexeme.Lexeme.{Lexeme}
use Rattle.cx_cword.specs.Reading.{Is, IsName, name_of, ◌>>=◌}
use Rattle.cx_cname.specs.Known.{Known, names_type, is_complete}
use Rattle.cx_cexpr.proofs.Steps.{bind_some, at_rest}
use Rattle.cx_cword.specs.declared.mark.Mark.TheVariants as m
use Rattle.cx_cdecl.specs.Declarations.{adjusted, names_used, are_outside, is_void_word, is_void_alone, AreSizes, AreSpecs, IsParamSize, param_plain, param_open, param_sized, IsParam, param_alone, param_named, AreParams, first_param, also_param, IsParamList, no_param, void_param, params}
use Rattle.cx_cdecl.specs.Reading as reading
use Rattle.cx_cdecl.specs.Reading.{Got, After, Specs, wanted, choose, if_true, pointers_at, sizes_at, sized_at, arrays, taken, Sized, element_of, param_size_at, Used, with_name, param_by, param_at, Params, params_at, no_params, closes_params, some_params, param_list_at, plain_specs_at}
use Rattle.cx_cdecl.proofs.Shapes.{void_is}
use Rattle.cx_cdecl.proofs.Steps.{if_some, Marked, choose_some}
use Rattle.cx_cdecl.proofs.DeclaratorSound.{Pointers, pointers_sound, Sizes, sizes_sound, sized_sound, complete_arrays, path_arrays, low_is}
use Rattle.cx_cdecl.proofs.SpecsSound.{SpecsFront, plain_specs_sound, plain_unlisted}
use Rattle.cx_cword.specs.Marks.{fits}

-- ---- the sizes of a parameter

take_front : (a b : List Lexeme) → take (length a) (a ++ b) ≡ a
take_front [] b = refl
take_front (x ∷ a) b = ap (λ (v : List Lexeme). x ∷ v) (take_front a b)

pub taken_front : (os front rest : List Lexeme) → os ≡ front ++ rest → taken os rest ≡ front
taken_front os front rest e =
    let long : length (front ++ rest) ≡ length front + length rest = length-append front rest in
    let n : length (front ++ rest) - length rest ≡ length front = omega (arith, long) in
    ap (λ (v : List Lexeme). taken v rest) e ∙ ap (λ k. take k (front ++ rest)) n ∙ take_front front rest

pub record SizeFront (env : Known) (t : TypeTree) (os : List Lexeme) (g : Got Sized) : Type 0 where
  pub front : List Lexeme
  pub parts : os ≡ front ++ g.rest
  pub so : IsParamSize env t front g.tree.ctype g.tree.used
  pub low : type_path g.tree.ctype ≤ 400

adjusted_low : (t : TypeTree) → type_path (adjusted t) ≡ type_path t
adjusted_low void = refl
adjusted_low (int t) = refl
adjusted_low (pointer t) = refl
adjusted_low (array t n) = refl
adjusted_low (tag k) = refl

abbrev sized_of : TypeTree → List Lexeme → Got (List ℕ) → Got Sized
sized_of t os x = record { tree = record { ctype = element_of t x.tree; used = names_used (taken os x.rest) }; rest = x.rest }

sized_front : (env : Known) (t : TypeTree) (os : List Lexeme) (x : Got (List ℕ)) (ns : List ℕ) → type_path t ≤ 400 → (s : Sizes env t (400 - type_path t) [] os x) → s.more ≡ ns → SizeFront env t os (sized_of t os x)
sized_front env t os x [] low s is =
    let none : s.front ≡ [] = s.bare is in
    let tree : [] ≡ x.tree = sym is ∙ s.tree in
    let used : [] ≡ names_used (taken os x.rest) = sym (ap names_used (taken_front os s.front x.rest s.parts ∙ none)) in
    record {
      front = [];
      parts = s.parts ∙ ap (λ (v : List Lexeme). v ++ x.rest) none;
      so = subst (λ (u : List ℕ). IsParamSize env t [] (element_of t x.tree) u) used (subst (λ (ns : List ℕ). IsParamSize env t [] (element_of t ns) []) tree param_plain);
      low = let h = adjusted_low t in subst (λ (ns : List ℕ). type_path (element_of t ns) ≤ 400) tree (omega (arith, h, low));
    }
sized_front env t os x (n ∷ ns) low s is =
    let tree : n ∷ ns ≡ x.tree = sym is ∙ s.tree in
    let used : names_used s.front ≡ names_used (taken os x.rest) = sym (ap names_used (taken_front os s.front x.rest s.parts)) in
    let more = s.filled n ns is in
    let filled : nat_lt 0 (length s.front) ≡ true = grind (arith, nat_tests, more) in
    let path = path_arrays t ns in
    let few : suc (length ns) ≤ 400 - type_path t = subst (λ (v : List ℕ). length v ≤ 400 - type_path t) is s.low in
    record {
      front = s.front;
      parts = s.parts;
      so = subst (λ (u : List ℕ). IsParamSize env t s.front (element_of t x.tree) u) used (subst (λ (v : List ℕ). IsParamSize env t s.front (element_of t v) (names_used s.front)) tree
          (param_sized (subst (λ (v : List ℕ). AreSizes env t s.front (arrays t v)) is s.so) filled));
      low = subst (λ (v : List ℕ). type_path (element_of t v) ≤ 400) tree (omega (arith, path, few, low));
    }

sized_param : (turns : ℕ) (env : Known) (t : TypeTree) (os : List Lexeme) → type_path t ≤ 400 → SizeFront env t os (sized_of t os (sized_at turns env 400 t os))
sized_param turns env t os low = let s = sized_sound turns env t 400 os in sized_front env t os (sized_at turns env 400 t os) s.more low s refl

open_param : (turns : ℕ) (env : Known) (t : TypeTree) (o c : Lexeme) (os : List Lexeme) (g : Got Sized) → Is p.OpenBracket o → Is p.CloseBracket c → reading.param_open turns env t os ≡ Some g → SizeFront env t (o ∷ c ∷ os) g
open_param turns env t o c os g opens closes e =
    let x = sizes_at turns env (399 - type_path t) [] os in
    let made : Got Sized = record { tree = record { ctype = pointer (arrays t x.tree); used = names_used (taken os x.rest) }; rest = x.rest } in
    let h = if_some (is_complete env t && nat_le (type_path (pointer t)) 400) (Some made) g e in
    let b = both_true (is_complete env t) (nat_le (type_path (pointer t)) 400) h.0 in
    let s = sizes_sound turns env t b.0 (399 - type_path t) [] os in
    let high = low_is (pointer t) 400 b.1 in
    let path = path_arrays t s.more in
    let few = s.low in
    let used : names_used s.front ≡ names_used (taken os x.rest) = sym (ap names_used (taken_front os s.front x.rest s.parts)) in
    subst (SizeFront env t (o ∷ c ∷ os)) (same_Some made g h.1) (record {
      front = o ∷ c ∷ s.front;
      parts = ap (λ (v : List Lexeme). o ∷ c ∷ v) s.parts;
      so = subst (λ (u : List ℕ). IsParamSize env t (o ∷ c ∷ s.front) (pointer (arrays t x.tree)) u) used
          (subst (λ (v : List ℕ). IsParamSize env t (o ∷ c ∷ s.front) (pointer (arrays t v)) (names_used s.front)) s.tree
          (param_open o c opens closes s.so (complete_arrays env t s.more ∙ b.0)));
      low = subst (λ (v : List ℕ). type_path (pointer (arrays t v)) ≤ 400) s.tree (omega (arith, path, few, high));
    })

pub param_size_sound : (turns : ℕ) (env : Known) (t : TypeTree) (os : List Lexeme) (g : Got Sized) → type_path t ≤ 400 → param_size_at turns env t os ≡ Some g → SizeFront env t os g
unfolding param_size_at
param_size_sound turns env t os g low e =
    let plain : Got Sized = reading.param_sized turns env t os in
    elim (choose_some m.OpenBracket os (Some plain) (λ rest. choose m.CloseBracket rest (Some plain) (λ after. reading.param_open turns env t after)) g e) [
      | inl a ↦ elim (choose_some m.CloseBracket a.0 (Some plain) (λ after. reading.param_open turns env t after) g a.2) [
        | inl c ↦ subst (λ (v : List Lexeme). SizeFront env t v g) (sym (a.1.parts ∙ ap (λ (v : List Lexeme). a.1.at ∷ v) c.1.parts)) (open_param turns env t a.1.at c.1.at c.0 g a.1.is c.1.is c.2)
        | inr stop ↦ subst (SizeFront env t os) (same_Some plain g stop) (sized_param turns env t os low)
      ]
      | inr stop ↦ subst (SizeFront env t os) (same_Some plain g stop) (sized_param turns env t os low)
    ]

-- ---- one parameter

pub record ParamFront (earlier : List DeclTree) (env : Known) (os : List Lexeme) (g : After Used) : Type 0 where
  pub front : List Lexeme
  pub parts : os ≡ front ++ g.rest
  pub so : IsParam earlier env front g.tree.param g.tree.used g.known

abbrev used_of : Option ℕ → Known → Got Sized → After Used
used_of name env x = record { tree = record { param = record { name = name; ctype = x.tree.ctype }; used = x.tree.used }; known = env; rest = x.rest }

module _ (turns : ℕ) (earlier : List DeclTree) (env : Known) (os : List Lexeme) (s : After Specs) (f : SpecsFront earlier env os s) (plain : s.tree.listed ≡ false) (bare : s.tree.said.attributed ≡ false) (x : Got TypeTree) (q : Pointers s.tree.ctype 400 s.rest x) where
  so_plain : AreSpecs earlier env f.front s.tree.ctype s.tree.said false s.known
  so_plain = subst (λ (b : Bool). AreSpecs earlier env f.front s.tree.ctype s.tree.said b s.known) plain f.so

  without_name : (g : After Used) → (param_size_at turns s.known x.tree x.rest >>= with_name None s.known) ≡ Some g → ParamFront earlier env os g
  without_name g e =
      let i = bind_some (param_size_at turns s.known x.tree x.rest) (with_name None s.known) g e in
      let z = param_size_sound turns s.known x.tree x.rest i.0 q.low i.1 in
      subst (ParamFront earlier env os) (same_Some (used_of None s.known i.0) g i.2) (record {
        front = (f.front ++ q.front) ++ z.front;
        parts = f.parts ∙ ap (λ (v : List Lexeme). f.front ++ v) (q.parts ∙ ap (λ (v : List Lexeme). q.front ++ v) z.parts) ∙ sym (append_assoc f.front q.front (z.front ++ i.0.rest)) ∙ sym (append_assoc (f.front ++ q.front) z.front i.0.rest);
        so = param_alone so_plain bare q.so z.so z.low;
      })

  with_a_name : (o : Lexeme) (rest : List Lexeme) (n : ℕ) (g : After Used) → x.rest ≡ o ∷ rest → IsName n o → if_true (not (names_type s.known n)) (param_size_at turns s.known x.tree rest >>= with_name (Some n) s.known) ≡ Some g → ParamFront earlier env os g
  with_a_name o rest n g is called e =
      let h = if_some (not (names_type s.known n)) (param_size_at turns s.known x.tree rest >>= with_name (Some n) s.known) g e in
      let i = bind_some (param_size_at turns s.known x.tree rest) (with_name (Some n) s.known) g h.1 in
      let z = param_size_sound turns s.known x.tree rest i.0 q.low i.1 in
      subst (ParamFront earlier env os) (same_Some (used_of (Some n) s.known i.0) g i.2) (record {
        front = (f.front ++ q.front) ++ o ∷ z.front;
        parts = f.parts ∙ ap (λ (v : List Lexeme). f.front ++ v) (q.parts ∙ ap (λ (v : List Lexeme). q.front ++ v) (is ∙ ap (λ (v : List Lexeme). o ∷ v) z.parts)) ∙ sym (append_assoc f.front q.front (o ∷ z.front ++ i.0.rest)) ∙ sym (append_assoc (f.front ++ q.front) (o ∷ z.front) i.0.rest);
        so = param_named o n so_plain bare q.so called (not_true (names_type s.known n) h.0) z.so z.low;
      })

  by_name : (o : Lexeme) (rest : List Lexeme) (name : Option ℕ) (g : After Used) → x.rest ≡ o ∷ rest → name_of o.kind ≡ name → param_by turns s.known x rest name ≡ Some g → ParamFront earlier env os g
  by_name o rest None g is called e = without_name g e
  by_name o rest (Some n) g is called e = with_a_name o rest n g is called e

  named_sound : (g : After Used) → reading.param_named turns s.known x ≡ Some g → ParamFront earlier env os g
  named_sound g e =
      elim (at_rest x.rest (param_size_at turns s.known x.tree x.rest >>= with_name None s.known) (λ o rest. param_by turns s.known x rest (name_of o.kind)) g e) [
        | inl end ↦ without_name g end.1
        | inr a ↦ by_name a.0 a.1 (name_of a.0.kind) g a.2 refl a.3
      ]

pub param_sound : (turns : ℕ) (earlier : List DeclTree) (env : Known) (os : List Lexeme) (g : After Used) → param_at turns env os ≡ Some g → ParamFront earlier env os g
unfolding param_at
param_sound turns earlier env os g e =
    let i = bind_some (plain_specs_at turns env os) (λ s. if_true (not s.tree.said.attributed) (pointers_at turns 400 s.tree.ctype s.rest >>= reading.param_named turns s.known)) g e in
    let h = if_some (not i.0.tree.said.attributed) (pointers_at turns 400 i.0.tree.ctype i.0.rest >>= reading.param_named turns i.0.known) g i.2 in
    let j = bind_some (pointers_at turns 400 i.0.tree.ctype i.0.rest) (reading.param_named turns i.0.known) g h.1 in
    named_sound turns earlier env os i.0 (plain_specs_sound turns earlier env os i.0 i.1) (plain_unlisted turns env os i.0 i.1) (not_true i.0.tree.said.attributed h.0) j.0 (pointers_sound turns 400 i.0.tree.ctype i.0.rest j.0 j.1) g j.2

-- ---- all of them

pub data ParamsBefore (earlier : List DeclTree) (env : Known) : List Lexeme → Params → Known → Type 0 where
  none_before : ParamsBefore earlier env [] no_params env
  comma_before : {a : List Lexeme} {known : Known} (qs : Params) (o : Lexeme) → AreParams earlier env a qs.params qs.used known → Is p.Comma o → ParamsBefore earlier env (a ++ o ∷ []) qs known

param_more : (earlier : List DeclTree) (env known later : Known) (before : List Lexeme) (qs : Params) (f : List Lexeme) (q : Used) → ParamsBefore earlier env before qs known → IsParam earlier known f q.param q.used later
    → AreParams earlier env (before ++ f) (reading.also_param qs q).params (reading.also_param qs q).used later
param_more earlier env known later before qs f q none_before h = first_param h
param_more earlier env known later before qs f q (comma_before {a = a} rs o all is) h = subst (λ (v : List Lexeme). AreParams earlier env v (rs.params ++ q.param ∷ []) (rs.used ++ q.used) later) (sym (append_assoc a (o ∷ []) f)) (also_param o all is h)

pub record ParamsFront (earlier : List DeclTree) (env : Known) (whole : List Lexeme) (x : After Params) : Type 0 where
  pub body : List Lexeme
  pub parts : whole ≡ body ++ x.rest
  pub so : AreParams earlier env body x.tree.params x.tree.used x.known

module _ (turns : ℕ) (earlier : List DeclTree) (env : Known) (whole : List Lexeme) where
  abbrev GoesParams : (Known → Params → List Lexeme → Option (After Params)) → Type 0
  GoesParams again = (before : List Lexeme) (qs : Params) (known : Known) (os : List Lexeme) (x : After Params) → ParamsBefore earlier env before qs known → whole ≡ before ++ os → again known qs os ≡ Some x → ParamsFront earlier env whole x

  param_step : (again : Known → Params → List Lexeme → Option (After Params)) → GoesParams again → (body : List Lexeme) (qs : Params) (known : Known) (rest : List Lexeme) (x : After Params) → AreParams earlier env body qs.params qs.used known → whole ≡ body ++ rest
      → choose m.Comma rest (Some (record { tree = qs; known = known; rest = rest })) (λ after. again known qs after) ≡ Some x → ParamsFront earlier env whole x
  param_step again goes body qs known rest x so parts e =
      elim (choose_some m.Comma rest (Some (record { tree = qs; known = known; rest = rest })) (λ after. again known qs after) x e) [
        | inl c ↦ goes (body ++ c.1.at ∷ []) qs known c.0 x (comma_before qs c.1.at so c.1.is) (parts ∙ ap (λ (v : List Lexeme). body ++ v) c.1.parts ∙ sym (append_assoc body (c.1.at ∷ []) c.0)) c.2
        | inr stop ↦ subst (ParamsFront earlier env whole) (same_Some (record { tree = qs; known = known; rest = rest }) x stop) (record { body = body; parts = parts; so = so })
      ]

  pub params_sound : (n : ℕ) → GoesParams (params_at turns n)
  unfolding params_at
  params_sound zero before qs known os x b parts e = absurd cc
  params_sound (suc n) before qs known os x b parts e =
      let i = bind_some (param_at turns known os) (λ q. choose m.Comma q.rest (Some (record { tree = reading.also_param qs q.tree; known = q.known; rest = q.rest })) (λ rest. params_at turns n q.known (reading.also_param qs q.tree) rest)) x e in
      let f = param_sound turns earlier known os i.0 i.1 in
      param_step (params_at turns n) (params_sound n) (before ++ f.front) (reading.also_param qs i.0.tree) i.0.known i.0.rest x (param_more earlier env known i.0.known before qs f.front i.0.tree b f.so)
      (parts ∙ ap (λ (v : List Lexeme). before ++ v) f.parts ∙ sym (append_assoc before f.front i.0.rest)) i.2

-- ---- between parentheses

pub record ParamListFront (earlier : List DeclTree) (env : Known) (os : List Lexeme) (g : After (List ParamTree)) : Type 0 where
  pub front : List Lexeme
  pub parts : os ≡ front ++ g.rest
  pub so : IsParamList earlier env front g.tree g.known

abbrev list_of : Known → List ParamTree → List Lexeme → After (List ParamTree)
list_of env qs rest = record { tree = qs; known = env; rest = rest }

closes_so : (o : Lexeme) (rest : List Lexeme) → Is p.CloseParen o → closes_params (o ∷ rest) ≡ true
closes_so o rest is = ap (fits m.CloseParen) is

-- the word void stands not alone where it was not read so
not_alone : (o : Lexeme) (rest body left after : List Lexeme) → (is_void_word o.kind && closes_params rest) ≡ false → o ∷ rest ≡ body ++ left → Marked m.CloseParen left after → is_void_alone body ≡ false
not_alone o rest [] left after b e c = refl
not_alone o rest (n ∷ []) left after b e c =
    let same : o ≡ n = cc in
    let tail : rest ≡ left = cc in
    let closing : closes_params rest ≡ true = ap closes_params (tail ∙ c.parts) ∙ closes_so c.at after c.is in
    only (is_void_word n.kind) (closes_params rest) closing (ap (λ (v : Lexeme). is_void_word v.kind && closes_params rest) (sym same) ∙ b)
  where
    only : (a d : Bool) → d ≡ true → (a && d) ≡ false → a ≡ false
    only true true e f = absurd cc
    only true false e f = absurd cc
    only false d e f = refl
not_alone o rest (n ∷ w ∷ body) left after b e c = refl

module _ (turns : ℕ) (earlier : List DeclTree) (env : Known) where
  some_list : (o : Lexeme) (rest after : List Lexeme) (g : After (List ParamTree)) → (is_void_word o.kind && closes_params rest) ≡ false → some_params turns env (o ∷ rest) ≡ Some g → Marked m.CloseParen g.rest after → ParamListFront earlier env (o ∷ rest) g
  some_list o rest after g b e c =
      let i = bind_some (params_at turns turns env no_params (o ∷ rest)) (λ x. if_true (are_outside x.tree.params x.tree.used) (Some (list_of x.known x.tree.params x.rest))) g e in
      let h = if_some (are_outside i.0.tree.params i.0.tree.used) (Some (list_of i.0.known i.0.tree.params i.0.rest)) g i.2 in
      let f = params_sound turns earlier env (o ∷ rest) turns [] no_params env (o ∷ rest) i.0 none_before refl i.1 in
      let same = same_Some (list_of i.0.known i.0.tree.params i.0.rest) g h.1 in
      let c2 = subst (λ (v : After (List ParamTree)). Marked m.CloseParen v.rest after) (sym same) c in
      subst (ParamListFront earlier env (o ∷ rest)) same (record { front = f.body; parts = f.parts; so = params f.so (not_alone o rest f.body i.0.rest after b f.parts c2) h.0 })

  void_or : (o : Lexeme) (rest after : List Lexeme) (b : Bool) (g : After (List ParamTree)) → (is_void_word o.kind && closes_params rest) ≡ b → cond b (Some (list_of env [] rest)) (some_params turns env (o ∷ rest)) ≡ Some g → Marked m.CloseParen g.rest after → ParamListFront earlier env (o ∷ rest) g
  void_or o rest after true g is e c = subst (ParamListFront earlier env (o ∷ rest)) (same_Some (list_of env [] rest) g e) (record { front = o ∷ []; parts = refl; so = void_param o (void_is o.kind (both_true (is_void_word o.kind) (closes_params rest) is).0) })
  void_or o rest after false g is e c = some_list o rest after g is e c

  list_first : (o : Lexeme) (rest after : List Lexeme) (b : Bool) (g : After (List ParamTree)) → cond b (Some (list_of env [] (o ∷ rest))) (cond (is_void_word o.kind && closes_params rest) (Some (list_of env [] rest)) (some_params turns env (o ∷ rest))) ≡ Some g → Marked m.CloseParen g.rest after → ParamListFront earlier env (o ∷ rest) g
  list_first o rest after true g e c = subst (ParamListFront earlier env (o ∷ rest)) (same_Some (list_of env [] (o ∷ rest)) g e) (record { front = []; parts = refl; so = no_param })
  list_first o rest after false g e c = void_or o rest after (is_void_word o.kind && closes_params rest) g refl e c

  pub param_list_sound : (os after : List Lexeme) (g : After (List ParamTree)) → param_list_at turns env os ≡ Some g → Marked m.CloseParen g.rest after → ParamListFront earlier env os g
  unfolding param_list_at
  param_list_sound [] after g e c = absurd cc
  param_list_sound (o ∷ rest) after g e c = list_first o rest after (fits m.CloseParen o.kind) g e c
