-- The words of a type, with members and enumerators in braces, are read.
use Rattle.std.proofs.Common.{◌≡◌, ℕ, zero, suc, ◌+◌, ◌*◌, ◌≤◌, Bool, true, false, ◌&&◌, ◌||◌, cond, List, [], ◌∷◌, ◌++◌, length, length-append, Option, Some, None, refl, sym, ap, ◌∙◌, subst, append_assoc, arith}
use Rattle.std.specs.Prelude.{not, is_some}
use Rattle.std.proofs.lemmas.Option.{same_Some}
use Rattle.cx_base.proofs.General.{both_true, not_true, true_both}
use Rattle.cx_ctree.specs.Types.{TypeTree, int, tag}
use Rattle.cx_ctree.specs.Conversions.{signed_int}
use Rattle.cx_ctree.specs.Decls.{MemberTree, DeclTree}
use Rattle.cx_cword.specs.declared.word.Punctuator.TheVariants as p
use Rattle.cx_cword.specs.declared.lexeme.Lexeme.{Lexeme}
use Rattle.cx_cword.specs.declared.lexeme.LexemeKind.{LexemeKind}
use Rattle.cx_cword.specs.Reading.{Is, IsName, ◌>>=◌}
use Rattle.cx_cname.specs.Known.{Known, with_tag, with_members, is_complete, tag_place, HasKind}
use Rattle.cx_cname.specs.Meanings.{may_have}
use Rattle.cx_cexpr.proofs.Counted.{NoWord}
use Rattle.cx_cword.specs.declared.mark.Mark.{Mark}
use Rattle.cx_cword.specs.declared.mark.Mark.TheVariants as m
use Rattle.cx_cdecl.specs.Declarations.{Beside, nothing_said, both_said, AreBeside, ArePointers, no_star, also_star, IsObject, object_of, IsSpecifier, declared_before, new_tag, tag_members, members_alone, enum_named, enum_alone, AreSpecs, specs, IsMemberList, member_list, AreMembers, first_members, also_members, IsMemberLine, member_line, AreMemberNames, first_name, also_name, tag_declared}
use Rattle.cx_cdecl.specs.Reading.{Got, After, Named, Specifier, Specs, wanted, choose, if_true, beside_at, is_kind, place_by, place_at, plain_at, specs_of, plain_specs_at, object_at, member_names_at, are_distinct, named_enum, enum_listed, members_listed, listed_by, enumerators_in, specifier_by, listing_at, specs_after, line_names, members_by, specs_at, specifier_at, members_at, line_at}
use Rattle.cx_cdecl.proofs.BesideSound.{beside_sound}
use Rattle.cx_cdecl.proofs.BesideThere.{beside_goes, beside_ends, beside_there}
use Rattle.cx_cdecl.proofs.DeclaratorThere.{named_of, object_there}
use Rattle.cx_cdecl.proofs.EnumThere.{enum_list_there}
use Rattle.cx_cdecl.proofs.Follows.{no_keyword, no_beside, no_mark, closes, ends_type, is_keyword, is_closed_by, closes_bracket, keyword_beside, keyword_word, name_plain, name_no_mark, wanted_goes, choose_goes, choose_other, if_goes, bind_goes, Room}
use Rattle.cx_cdecl.proofs.Grows.{Fits, fits_few, fits_after, fits_within, fits_less, grows_tag, grows_declared, kind_so, distinct_so, may_have_so, are_complete}
use Rattle.cx_cdecl.proofs.Growing.{specs_grow, lines_grow, members_complete, free_so}
use Rattle.cx_cdecl.proofs.SpecsThere.{First, first_beside, first_mark, first_filled, specifier_first, beside_word, beside_mark, listing_of, record_listed, record_bare, enum_listed_so, enum_bare, plain_of, PlainRead, base_read, new_tag_read, plain_read}
use Rattle.cx_cdecl.proofs.TagSound.{new_place}
use Rattle.cx_cword.specs.Marks.{fits}

-- ---- what begins declarators and types

pub pointers_begin : {t w : TypeTree} {a : List Lexeme} → ArePointers t a w → (rest : List Lexeme) → ends_type rest ≡ true → ends_type (a ++ rest) ≡ true
pointers_begin no_star rest e = e
pointers_begin (also_star {a = a} {c = c} o h is skips) rest e =
    ap ends_type (append_assoc a (o ∷ c) rest) ∙ pointers_begin h (o ∷ (c ++ rest)) (ap (λ (kind : LexemeKind). not (is_keyword kind) && not (fits m.OpenBrace kind)) is)

pub name_begins : (o : Lexeme) (n : ℕ) (rest : List Lexeme) → IsName n o → ends_type (o ∷ rest) ≡ true
name_begins o n rest is = true_both (not (is_keyword o.kind)) (not (fits m.OpenBrace o.kind)) (ap not (name_plain o.kind n is)) (ap not (name_no_mark m.OpenBrace o.kind n is))

pub object_begins : {env : Known} {t v : TypeTree} {a : List Lexeme} {n : ℕ} {o : Lexeme} → IsObject env t a n o v → (rest : List Lexeme) → ends_type (a ++ rest) ≡ true
object_begins (object_of {a = a} {c = c} o n h is g low) rest = ap ends_type (append_assoc a (o ∷ c) rest) ∙ pointers_begin h (o ∷ (c ++ rest)) (name_begins o n (c ++ rest) is)

names_begin : {env : Known} {t : TypeTree} {a : List Lexeme} {ms : List MemberTree} → AreMemberNames env t a ms → (rest : List Lexeme) → ends_type (a ++ rest) ≡ true
names_begin (first_name h e) rest = object_begins h rest
names_begin (also_name {a = a} {c = c} o h is i e) rest = ap ends_type (append_assoc a (o ∷ c) rest) ∙ names_begin h (o ∷ (c ++ rest))

pub specs_mark : {earlier : List DeclTree} {env known : Known} {a : List Lexeme} {t : TypeTree} {s : Beside} {listed : Bool} → AreSpecs earlier env a t s listed known → (mark : Mark) (rest : List Lexeme) → no_mark mark (a ++ rest) ≡ true
specs_mark (specs {a = a} {c = c} {d = d} h i j e) mark rest =
    ap (no_mark mark) (append_assoc (a ++ c) d rest ∙ append_assoc a c (d ++ rest)) ∙ beside_mark h mark (c ++ (d ++ rest)) (first_mark mark c (d ++ rest) (specifier_first i))

pub specs_filled : {earlier : List DeclTree} {env known : Known} {a : List Lexeme} {t : TypeTree} {s : Beside} {listed : Bool} → AreSpecs earlier env a t s listed known → 1 ≤ length a
specs_filled (specs {a = a} {c = c} {d = d} h i j e) = let f = first_filled c (specifier_first i) in let g = length-append (a ++ c) d in let q = length-append a c in omega (arith, f, g, q)

line_mark : {earlier : List DeclTree} {env known : Known} {a : List Lexeme} {ms : List MemberTree} → IsMemberLine earlier env a ms known → (mark : Mark) (rest : List Lexeme) → no_mark mark (a ++ rest) ≡ true
line_mark (member_line {a = a} {c = c} o h e f i is) mark rest = ap (no_mark mark) (append_assoc (a ++ c) (o ∷ []) rest ∙ append_assoc a c (o ∷ rest)) ∙ specs_mark h mark (c ++ (o ∷ rest))

line_filled : {earlier : List DeclTree} {env known : Known} {a : List Lexeme} {ms : List MemberTree} → IsMemberLine earlier env a ms known → 1 ≤ length a
line_filled (member_line {a = a} {c = c} o h e f i is) = let g = length-append (a ++ c) (o ∷ []) in omega (arith, g)

-- ---- the declarators of a line of members

-- reading goes on behind the declarators, with so many turns left
record NamesGo (turns n : ℕ) (env : Known) (t : TypeTree) (acc : List MemberTree) (front rest : List Lexeme) (ms : List MemberTree) : Type 0 where
  left : ℕ
  enough : length rest + 1 ≤ left
  goes : member_names_at turns env t n acc (front ++ rest) ≡ choose m.Comma rest (Some (record { tree = acc ++ ms; rest = rest })) (λ after. member_names_at turns env t left (acc ++ ms) after)

abbrev member_of : ℕ → TypeTree → MemberTree
member_of n w = record { name = n; ctype = w }

one_name : (turns n : ℕ) (env : Known) (t : TypeTree) (acc : List MemberTree) (os rest : List Lexeme) (k : ℕ) (o : Lexeme) (w : TypeTree) → object_at turns env t os ≡ Some (record { tree = named_of k o w; rest = rest }) → is_complete env w ≡ true
    → member_names_at turns env t (suc n) acc os ≡ choose m.Comma rest (Some (record { tree = acc ++ member_of k w ∷ []; rest = rest })) (λ after. member_names_at turns env t n (acc ++ member_of k w ∷ []) after)
unfolding member_names_at
one_name turns n env t acc os rest k o w e done =
    let add : Got Named → List MemberTree = λ x. acc ++ member_of x.tree.name x.tree.ctype ∷ [] in
    let go : Got Named → Option (Got (List MemberTree)) = λ x. choose m.Comma x.rest (Some (record { tree = add x; rest = x.rest })) (λ after. member_names_at turns env t n (add x) after) in
    let x : Got Named = record { tree = named_of k o w; rest = rest } in
    bind_goes (object_at turns env t os) (λ x. if_true (is_complete env x.tree.ctype) (go x)) x e ∙ if_goes (is_complete env w) (go x) done

some_name : (turns n : ℕ) (env : Known) (t : TypeTree) (acc : List MemberTree) (os rest : List Lexeme) (k : ℕ) (o : Lexeme) (w : TypeTree) → object_at turns env t os ≡ Some (record { tree = named_of k o w; rest = rest }) → is_complete env w ≡ true → length rest + 2 ≤ n
    → (left : ℕ) × (length rest + 1 ≤ left) × (member_names_at turns env t n acc os ≡ choose m.Comma rest (Some (record { tree = acc ++ member_of k w ∷ []; rest = rest })) (λ after. member_names_at turns env t left (acc ++ member_of k w ∷ []) after))
some_name turns zero env t acc os rest k o w e done enough = absurd (omega (arith, enough))
some_name turns (suc n) env t acc os rest k o w e done enough = (n, omega (arith, enough), one_name turns n env t acc os rest k o w e done)

object_filled : {env : Known} {t v : TypeTree} {a : List Lexeme} {n : ℕ} {o : Lexeme} → IsObject env t a n o v → 1 ≤ length a
object_filled (object_of {a = a} {c = c} o n h is g low) = let e = length-append a (o ∷ c) in omega (arith, e)

names_go : {env : Known} {t : TypeTree} {a : List Lexeme} {ms : List MemberTree} → Rattle.cx_cexpr.specs.Reading.Few env → AreMemberNames env t a ms → (turns n : ℕ) (acc : List MemberTree) (rest : List Lexeme) → closes rest ≡ true → Room turns (a ++ rest) → length (a ++ rest) + 1 ≤ n → NamesGo turns n env t acc a rest ms
names_go {env} {t} few (first_name {w = w} {a = a} {n = k} {o = o} h done) turns n acc rest ends room enough =
    let long = length-append a rest in
    let filled = object_filled h in
    let g = some_name turns n env t acc (a ++ rest) rest k o w (object_there env few h turns rest (closes_bracket rest ends) room) done (omega (arith, enough, long, filled)) in
    record { left = g.0; enough = g.1; goes = g.2 }
names_go {env} {t} few (also_name {w = w} {a = a} {c = c} {ms = ms} {n = k} {o = o} e h is i done) turns n acc rest ends room enough =
    let parts : (a ++ e ∷ c) ++ rest ≡ a ++ e ∷ (c ++ rest) = append_assoc a (e ∷ c) rest in
    let whole = ap length parts in
    let more = length-append a (e ∷ (c ++ rest)) in
    let long = length-append c rest in
    let filled = object_filled i in
    let f = names_go few h turns n acc (e ∷ (c ++ rest)) (ap is_closed_by is) (omega (arith, room, whole)) (omega (arith, enough, whole)) in
    let left = f.enough in
    let g = some_name turns f.left env t (acc ++ ms) (c ++ rest) rest k o w (object_there env few i turns rest (closes_bracket rest ends) (omega (arith, room, whole, more))) done (omega (arith, left, long, filled)) in
    record {
      left = g.0;
      enough = g.1;
      goes = ap (member_names_at turns env t n acc) parts ∙ f.goes
          ∙ choose_goes m.Comma e (c ++ rest) (Some (record { tree = acc ++ ms; rest = e ∷ (c ++ rest) })) (λ after. member_names_at turns env t f.left (acc ++ ms) after) is ∙ g.2
          ∙ ap (λ (v : List MemberTree). choose m.Comma rest (Some (record { tree = v; rest = rest })) (λ after. member_names_at turns env t g.0 v after)) (append_assoc acc ms (member_of k w ∷ []));
    }

-- the declarators of a line are read up to its semicolon
names_there : {env : Known} {t : TypeTree} {a : List Lexeme} {ms : List MemberTree} → Rattle.cx_cexpr.specs.Reading.Few env → AreMemberNames env t a ms → (turns : ℕ) (acc : List MemberTree) (o : Lexeme) (rest : List Lexeme) → Is p.Semicolon o → Room turns (a ++ o ∷ rest)
    → member_names_at turns env t turns acc (a ++ o ∷ rest) ≡ Some (record { tree = acc ++ ms; rest = o ∷ rest })
names_there {env} {t} {a} {ms} few h turns acc o rest is room =
    let f = names_go few h turns turns acc (o ∷ rest) (ap is_closed_by is) room (omega (arith, room)) in
    f.goes ∙ choose_other m.Comma (o ∷ rest) (Some (record { tree = acc ++ ms; rest = o ∷ rest })) (λ after. member_names_at turns env t f.left (acc ++ ms) after) (ap (λ (kind : LexemeKind). not (fits m.Comma kind)) is)

-- ---- the words of a type

-- what may follow the words of a type that no list in braces ends
pub record Plainly (rest : List Lexeme) : Type 0 where
  pub word : NoWord rest
  pub brace : no_mark m.OpenBrace rest ≡ true

plainly : (rest : List Lexeme) → ends_type rest ≡ true → Plainly rest
plainly rest e = let b = both_true (no_keyword rest) (no_mark m.OpenBrace rest) e in record { word = keyword_word rest b.0; brace = b.1 }

beside_plainly : {d : List Lexeme} {r : Beside} → AreBeside d r → (rest : List Lexeme) → Plainly rest → Plainly (d ++ rest)
beside_plainly h rest f = record { word = beside_word h rest f.word; brace = beside_mark h m.OpenBrace rest f.brace }

abbrev pub specifier_of : Known → TypeTree → Bool → List Lexeme → After Specifier
specifier_of known t listed rest = record { tree = record { ctype = t; listed = listed }; known = known; rest = rest }

unlisted_goes : (turns n : ℕ) (earlier : List DeclTree) (env known : Known) (a : List Lexeme) (t : TypeTree) (rest : List Lexeme) → PlainRead env a t known → Plainly rest → 1 ≤ n → specifier_at turns earlier n env (a ++ rest) ≡ Some (plain_of known t rest)
unfolding specs_at
unlisted_goes turns zero earlier env known a t rest f e some = absurd (omega (arith, some))
unlisted_goes turns (suc n) earlier env known a t rest f e some =
    ap (specifier_by (λ x. listed_by (members_at turns earlier n) (enumerators_in turns earlier) env x.tree.name x.rest x.tree.union_) (plain_at env (a ++ rest))) (f.unlisted rest e.brace) ∙ f.plain rest e.word

listed_goes : (turns n : ℕ) (earlier : List DeclTree) (env : Known) (os inside : List Lexeme) (union : Option Bool) (name : Option ℕ) → listing_at os ≡ listing_of union name inside
    → specifier_at turns earlier (suc n) env os ≡ listed_by (members_at turns earlier n) (enumerators_in turns earlier) env name inside union
unfolding specs_at
listed_goes turns n earlier env os inside union name e = ap (specifier_by (λ x. listed_by (members_at turns earlier n) (enumerators_in turns earlier) env x.tree.name x.rest x.tree.union_) (plain_at env os)) e

abbrev lines_of : List MemberTree → Known → List Lexeme → After (List MemberTree)
lines_of ms known rest = record { tree = ms; known = known; rest = rest }

members_shut : (known : Known) (at : ℕ) (name : Option ℕ) (union : Bool) (ms : List MemberTree) (c : Lexeme) (rest : List Lexeme) → Is p.CloseBrace c → are_distinct ms ≡ true → may_have known at ms ≡ true
    → members_listed union name at (lines_of ms known (c ∷ rest)) ≡ Some (specifier_of (with_members known at name union ms) (tag at) true rest)
members_shut known at name union ms c rest is apart have =
    let made : List Lexeme → Option (After Specifier) = λ after. Some (specifier_of (with_members known at name union ms) (tag at) true after) in
    wanted_goes m.CloseBrace c rest (λ after. if_true (are_distinct ms && may_have known at ms) (made after)) is
    ∙ if_goes (are_distinct ms && may_have known at ms) (made rest) (true_both (are_distinct ms) (may_have known at ms) apart have)

record_goes : (turns n : ℕ) (earlier : List DeclTree) (env first known : Known) (os inside rest : List Lexeme) (c : Lexeme) (union : Bool) (name : Option ℕ) (at : ℕ) (ms : List MemberTree) → 1 ≤ n → listing_at os ≡ listing_of (Some union) name inside → place_at env union name ≡ Some (record { place = at; known = first })
    → ((k : ℕ) → n ≡ suc k → members_at turns earlier k first [] inside ≡ Some (lines_of ms known (c ∷ rest))) → Is p.CloseBrace c → are_distinct ms ≡ true → may_have known at ms ≡ true
    → specifier_at turns earlier n env os ≡ Some (specifier_of (with_members known at name union ms) (tag at) true rest)
record_goes turns zero earlier env first known os inside rest c union name at ms some list place read is apart have = absurd (omega (arith, some))
record_goes turns (suc n) earlier env first known os inside rest c union name at ms some list place read is apart have =
    listed_goes turns n earlier env os inside (Some union) name list
    ∙ bind_goes (place_at env union name) (λ p. members_at turns earlier n p.known [] inside >>= members_listed union name p.place) (record { place = at; known = first }) place
    ∙ bind_goes (members_at turns earlier n first [] inside) (members_listed union name at) (lines_of ms known (c ∷ rest)) (read n refl)
    ∙ members_shut known at name union ms c rest is apart have

enum_goes : (turns n : ℕ) (earlier : List DeclTree) (env known : Known) (os inside rest : List Lexeme) (name : Option ℕ) → 1 ≤ n → listing_at os ≡ listing_of None name inside → enumerators_in turns earlier env inside ≡ Some (record { tree = tt; known = known; rest = rest })
    → specifier_at turns earlier n env os ≡ Some (specifier_of (named_enum name known) (int signed_int) true rest)
enum_goes turns zero earlier env known os inside rest name some list read = absurd (omega (arith, some))
enum_goes turns (suc n) earlier env known os inside rest name some list read =
    listed_goes turns n earlier env os inside None name list ∙ bind_goes (enumerators_in turns earlier env inside) (λ x. Some (enum_listed name x)) (record { tree = tt; known = known; rest = rest }) read

-- the place of a tag that gets members
placed_by : (env : Known) (n at : ℕ) (union : Bool) (q : Option ℕ) → tag_place env n ≡ q → tag_place (cond (is_some q) env (with_tag env (Some n) union)) n ≡ Some at → HasKind (cond (is_some q) env (with_tag env (Some n) union)) at union
    → place_by env union n q ≡ Some (record { place = at; known = cond (is_some q) env (with_tag env (Some n) union) })
placed_by env n at union None is e kind =
    let same : length env.tags ≡ at = same_Some (length env.tags) at (sym (new_place env n union is) ∙ e) in
    ap (λ (v : ℕ). Some (record { place = v; known = with_tag env (Some n) union })) same
placed_by env n at union (Some old) is e kind =
    let same : at ≡ old = same_Some at old (sym e ∙ is) in
    if_goes (is_kind env union old) (Some (record { place = old; known = env })) (kind_so env union old (subst (λ (v : ℕ). HasKind env v union) same kind))
    ∙ ap (λ (v : ℕ). Some (record { place = v; known = env })) (sym same)

place_there : (env : Known) (n at : ℕ) (union : Bool) → tag_place (tag_declared env n union) n ≡ Some at → HasKind (tag_declared env n union) at union → place_at env union (Some n) ≡ Some (record { place = at; known = tag_declared env n union })
place_there env n at union e kind = placed_by env n at union (tag_place env n) refl e kind

-- ---- with the words beside it

abbrev pub specs_tree : TypeTree → Beside → Bool → Known → List Lexeme → After Specs
specs_tree t s listed known rest = record { tree = record { ctype = t; said = s; listed = listed }; known = known; rest = rest }

-- the words of a type are read, and reading goes on behind them only with what stands beside a type
pub record SpecsGo (turns n : ℕ) (earlier : List DeclTree) (env : Known) (front rest : List Lexeme) (t : TypeTree) (s : Beside) (listed : Bool) (known : Known) : Type 0 where
  pub g : After Specs
  pub is : specs_at turns earlier n env (front ++ rest) ≡ Some g
  pub less : length g.rest ≤ length rest
  pub ends : no_beside rest ≡ true → g ≡ specs_tree t s listed known rest

pub beside_less : (turns : ℕ) (open_ : Bool) (n : ℕ) (s : Beside) (os : List Lexeme) → length (beside_at turns open_ n s os).rest ≤ length os
beside_less turns open_ n s os =
    let f = beside_sound turns open_ n s os in
    let e = ap length f.parts in
    let g = length-append f.front (beside_at turns open_ n s os).rest in
    omega (arith, e, g)

pub bare_before : (a b c : Bool) → (a && (b || c)) ≡ false → (a && b) ≡ false
bare_before true true c e = absurd cc
bare_before true false c e = refl
bare_before false b c e = refl

pub bare_after : (a b c : Bool) → (a && (b || c)) ≡ false → not a ≡ false → c ≡ false
bare_after true true c e f = absurd cc
bare_after true false c e f = e
bare_after false b c e f = absurd cc

abbrev specs_behind : ℕ → Beside → TypeTree → Bool → Known → List Lexeme → Option (After Specs)
specs_behind turns s t listed known more =
    if_true (not (listed && s.attributed)) (Some (specs_tree t (both_said s (beside_at turns (not listed) turns nothing_said more).tree) listed known (beside_at turns (not listed) turns nothing_said more).rest))

specs_around : (turns n : ℕ) (earlier : List DeclTree) (env known : Known) (os inside more : List Lexeme) (t : TypeTree) (s : Beside) (listed : Bool) → 1 ≤ n → beside_at turns true turns nothing_said os ≡ record { tree = s; rest = inside }
    → ((k : ℕ) → n ≡ suc k → specifier_at turns earlier k env inside ≡ Some (specifier_of known t listed more)) → specs_at turns earlier n env os ≡ specs_behind turns s t listed known more
unfolding specs_at
specs_around turns zero earlier env known os inside more t s listed some before read = absurd (omega (arith, some))
specs_around turns (suc n) earlier env known os inside more t s listed some before read =
    ap (λ (v : Got Beside). specifier_at turns earlier n env v.rest >>= specs_after turns v) before
    ∙ bind_goes (specifier_at turns earlier n env inside) (specs_after turns (record { tree = s; rest = inside })) (specifier_of known t listed more) (read n refl)

specs_made : {a c d : List Lexeme} {s r : Beside} (turns n : ℕ) (earlier : List DeclTree) (env known : Known) (rest : List Lexeme) (t : TypeTree) (listed : Bool) → AreBeside a s → First c → AreBeside d r → (listed && (s.attributed || r.attributed)) ≡ false → Room turns (((a ++ c) ++ d) ++ rest) → 1 ≤ n
    → ((k : ℕ) → n ≡ suc k → specifier_at turns earlier k env (c ++ (d ++ rest)) ≡ Some (specifier_of known t listed (d ++ rest))) → SpecsGo turns n earlier env ((a ++ c) ++ d) rest t (both_said s r) listed known
specs_made {a} {c} {d} {s} {r} turns n earlier env known rest t listed h f j bare room some read =
    let parts : ((a ++ c) ++ d) ++ rest ≡ a ++ (c ++ (d ++ rest)) = append_assoc (a ++ c) d rest ∙ append_assoc a c (d ++ rest) in
    let whole = ap length parts in
    let long = length-append a (c ++ (d ++ rest)) in
    let more = length-append c (d ++ rest) in
    let before : beside_at turns true turns nothing_said (a ++ (c ++ (d ++ rest))) ≡ record { tree = s; rest = c ++ (d ++ rest) } = beside_there h turns true turns nothing_said (c ++ (d ++ rest)) (first_beside c (d ++ rest) f) (omega (arith, room, whole)) (omega (arith, room, whole)) (λ off. absurd cc) in
    let after = beside_goes j turns (not listed) turns nothing_said rest (omega (arith, room, whole, long, more)) (omega (arith, room, whole, long, more)) (bare_after listed s.attributed r.attributed bare) in
    let behind : Got Beside = beside_at turns (not listed) after.left r rest in
    record {
      g = specs_tree t (both_said s behind.tree) listed known behind.rest;
      is = ap (specs_at turns earlier n env) parts ∙ specs_around turns n earlier env known (a ++ (c ++ (d ++ rest))) (c ++ (d ++ rest)) (d ++ rest) t s listed some before read
          ∙ if_goes (not (listed && s.attributed)) (Some (specs_tree t (both_said s (beside_at turns (not listed) turns nothing_said (d ++ rest)).tree) listed known (beside_at turns (not listed) turns nothing_said (d ++ rest)).rest)) (ap not (bare_before listed s.attributed r.attributed bare))
          ∙ ap (λ (v : Got Beside). Some (specs_tree t (both_said s v.tree) listed known v.rest)) after.goes;
      less = beside_less turns (not listed) after.left r rest;
      ends = λ e. ap (λ (v : Got Beside). specs_tree t (both_said s v.tree) listed known v.rest) (beside_ends turns (not listed) after.left r rest e);
    }

-- ---- members

-- a list of members in braces: its first brace, and what is read after it up to its last
record ListRead (earlier : List DeclTree) (env : Known) (front : List Lexeme) (ms : List MemberTree) (known : Known) : Type 0 where
  o : Lexeme
  tail : List Lexeme
  c : Lexeme
  parts : front ≡ o ∷ tail
  is : Is p.OpenBrace o
  shuts : Is p.CloseBrace c
  apart : are_distinct ms ≡ true
  complete : are_complete known ms ≡ true
  reads : (turns n : ℕ) (rest : List Lexeme) → Fits env (tail ++ rest) → Room turns (tail ++ rest) → 4 * length (tail ++ rest) + 6 ≤ n → members_at turns earlier n env [] (tail ++ rest) ≡ Some (lines_of ms known (c ∷ rest))

-- reading goes on behind the lines of members, with so many turns left
record MembersGo (turns n : ℕ) (earlier : List DeclTree) (env : Known) (front rest : List Lexeme) (ms : List MemberTree) (known : Known) : Type 0 where
  left : ℕ
  enough : 4 * length rest + 6 ≤ left
  goes : members_at turns earlier n env [] (front ++ rest) ≡ members_by (members_at turns earlier left) (lines_of ms known rest)

members_more : (again : Known → List MemberTree → List Lexeme → Option (After (List MemberTree))) (ms : List MemberTree) (known : Known) (os : List Lexeme) → 1 ≤ length os → no_mark m.CloseBrace os ≡ true → members_by again (lines_of ms known os) ≡ again known ms os
members_more again ms known [] some ends = absurd (omega (arith, some))
members_more again ms known (o ∷ os) some ends = ap (λ (b : Bool). cond b (Some (lines_of ms known (o ∷ os))) (again known ms (o ∷ os))) (not_true (fits m.CloseBrace o.kind) ends)

members_stop : (again : Known → List MemberTree → List Lexeme → Option (After (List MemberTree))) (ms : List MemberTree) (known : Known) (c : Lexeme) (rest : List Lexeme) → Is p.CloseBrace c → members_by again (lines_of ms known (c ∷ rest)) ≡ Some (lines_of ms known (c ∷ rest))
members_stop again ms known c rest is = ap (λ (kind : LexemeKind). cond (fits m.CloseBrace kind) (Some (lines_of ms known (c ∷ rest))) (again known ms (c ∷ rest))) is

a_line : (turns n : ℕ) (earlier : List DeclTree) (env known : Known) (acc ms : List MemberTree) (os rest : List Lexeme) → 4 * length rest + 7 ≤ n → ((k : ℕ) → n ≡ suc k → line_at turns earlier k env acc os ≡ Some (lines_of ms known rest))
    → (left : ℕ) × (4 * length rest + 6 ≤ left) × (members_at turns earlier n env acc os ≡ members_by (members_at turns earlier left) (lines_of ms known rest))
unfolding specs_at
a_line turns zero earlier env known acc ms os rest enough read = absurd (omega (arith, enough))
a_line turns (suc n) earlier env known acc ms os rest enough read = (n, omega (arith, enough), bind_goes (line_at turns earlier n env acc os) (members_by (members_at turns earlier n)) (lines_of ms known rest) (read n refl))

nor_so : (a b : Bool) → a ≡ false → b ≡ false → not (a || b) ≡ true
nor_so true b e f = absurd cc
nor_so false b e f = ap not f

line_reads : (turns n : ℕ) (earlier : List DeclTree) (env known : Known) (acc ms : List MemberTree) (os inside : List Lexeme) (o : Lexeme) (rest : List Lexeme) (t : TypeTree) (s : Beside) (listed : Bool) → 1 ≤ n
    → ((k : ℕ) → n ≡ suc k → specs_at turns earlier k env os ≡ Some (specs_tree t s listed known inside)) → s.stored ≡ false → s.attributed ≡ false
    → member_names_at turns known t turns acc inside ≡ Some (record { tree = acc ++ ms; rest = o ∷ rest }) → Is p.Semicolon o → line_at turns earlier n env acc os ≡ Some (lines_of (acc ++ ms) known rest)
unfolding specs_at
line_reads turns zero earlier env known acc ms os inside o rest t s listed some read stored attributed names is = absurd (omega (arith, some))
line_reads turns (suc n) earlier env known acc ms os inside o rest t s listed some read stored attributed names is =
    let shut : Got (List MemberTree) → Option (After (List MemberTree)) = λ x. wanted m.Semicolon x.rest (λ after. Some (lines_of x.tree known after)) in
    bind_goes (specs_at turns earlier n env os) (line_names turns acc) (specs_tree t s listed known inside) (read n refl)
    ∙ if_goes (not (s.stored || s.attributed)) (member_names_at turns known t turns acc inside >>= shut) (nor_so s.stored s.attributed stored attributed)
    ∙ bind_goes (member_names_at turns known t turns acc inside) shut (record { tree = acc ++ ms; rest = o ∷ rest }) names
    ∙ wanted_goes m.Semicolon o rest (λ after. Some (lines_of (acc ++ ms) known after)) is

mutual
  pub specifier_go : {earlier : List DeclTree} {env known : Known} {a : List Lexeme} {t : TypeTree} {listed : Bool} → IsSpecifier earlier env a t listed known → (turns n : ℕ) (rest : List Lexeme) → (listed ≡ false → Plainly rest) → Fits env (a ++ rest) → Room turns (a ++ rest)
      → 4 * length (a ++ rest) + 3 ≤ n → specifier_at turns earlier n env (a ++ rest) ≡ Some (specifier_of known t listed rest)
  specifier_go {earlier} (declared_before {env = env} {os = os} {t = t} i low) turns n rest ends fits room enough = unlisted_goes turns n earlier env env os t rest (base_read low (fits_few env (os ++ rest) fits) i) (ends refl) (omega (arith, enough))
  specifier_go {earlier} (new_tag {env = env} o w k union is called place) turns n rest ends fits room enough =
      unlisted_goes turns n earlier env (with_tag env (Some k) union) (o ∷ w ∷ []) (tag (length env.tags)) rest (new_tag_read env o w k union is called place) (ends refl) (omega (arith, enough))
  specifier_go {earlier} (tag_members {env = env} {known = known} {a = a} {ms = ms} o w k at union is called place kind j free) turns n rest ends fits room enough =
      let f = list_go j in
      let first : Known = tag_declared env k union in
      let inside : List Lexeme = f.tail ++ rest in
      let parts : (o ∷ w ∷ a) ++ rest ≡ o ∷ w ∷ f.o ∷ inside = ap (λ (v : List Lexeme). o ∷ w ∷ (v ++ rest)) f.parts in
      let whole = ap length parts in
      ap (specifier_at turns earlier n env) parts
      ∙ record_goes turns n earlier env first known (o ∷ w ∷ f.o ∷ inside) inside rest f.c union (Some k) at ms (omega (arith, enough)) (record_listed o w f.o k union inside is called f.is) (place_there env k at union place kind)
      (λ j e. f.reads turns j rest (fits_within env first ((o ∷ w ∷ a) ++ rest) inside 1 fits (grows_declared env k union) (omega (arith, whole))) (omega (arith, room, whole)) (omega (arith, enough, whole, e)))
      f.shuts f.apart (may_have_so known at ms free f.complete)
  specifier_go {earlier} (members_alone {env = env} {known = known} {a = a} {ms = ms} o union is j) turns n rest ends fits room enough =
      let f = list_go j in
      let first : Known = with_tag env None union in
      let inside : List Lexeme = f.tail ++ rest in
      let parts : (o ∷ a) ++ rest ≡ o ∷ f.o ∷ inside = ap (λ (v : List Lexeme). o ∷ (v ++ rest)) f.parts in
      let whole = ap length parts in
      ap (specifier_at turns earlier n env) parts
      ∙ record_goes turns n earlier env first known (o ∷ f.o ∷ inside) inside rest f.c union None (length env.tags) ms (omega (arith, enough)) (record_bare o f.o union inside is f.is) refl
      (λ j e. f.reads turns j rest (fits_within env first ((o ∷ a) ++ rest) inside 1 fits (grows_tag env None union) (omega (arith, whole))) (omega (arith, room, whole)) (omega (arith, enough, whole, e)))
      f.shuts f.apart (may_have_so known (length env.tags) ms (free_so env union j) f.complete)
  specifier_go {earlier} (enum_named {env = env} {known = known} {a = a} o w k is called j) turns n rest ends fits room enough =
      let f = enum_list_there (fits_few env ((o ∷ w ∷ a) ++ rest) fits) j in
      let inside : List Lexeme = f.tail ++ rest in
      let parts : (o ∷ w ∷ a) ++ rest ≡ o ∷ w ∷ f.o ∷ inside = ap (λ (v : List Lexeme). o ∷ w ∷ (v ++ rest)) f.parts in
      let whole = ap length parts in
      ap (specifier_at turns earlier n env) parts
      ∙ enum_goes turns n earlier env known (o ∷ w ∷ f.o ∷ inside) inside rest (Some k) (omega (arith, enough)) (enum_listed_so o w f.o k inside is called f.is) (f.reads turns rest (omega (arith, room, whole)))
  specifier_go {earlier} (enum_alone {env = env} {known = known} {a = a} o is j) turns n rest ends fits room enough =
      let f = enum_list_there (fits_few env ((o ∷ a) ++ rest) fits) j in
      let inside : List Lexeme = f.tail ++ rest in
      let parts : (o ∷ a) ++ rest ≡ o ∷ f.o ∷ inside = ap (λ (v : List Lexeme). o ∷ (v ++ rest)) f.parts in
      let whole = ap length parts in
      ap (specifier_at turns earlier n env) parts
      ∙ enum_goes turns n earlier env known (o ∷ f.o ∷ inside) inside rest None (omega (arith, enough)) (enum_bare o f.o inside is f.is) (f.reads turns rest (omega (arith, room, whole)))

  pub specs_go : {earlier : List DeclTree} {env known : Known} {a : List Lexeme} {t : TypeTree} {s : Beside} {listed : Bool} → AreSpecs earlier env a t s listed known → (turns n : ℕ) (rest : List Lexeme) → (listed ≡ false → ends_type rest ≡ true) → Fits env (a ++ rest) → Room turns (a ++ rest)
      → 4 * length (a ++ rest) + 4 ≤ n → SpecsGo turns n earlier env a rest t s listed known
  specs_go {earlier} (specs {env = env} {known = known} {a = a} {c = c} {d = d} {t = t} {listed = listed} h i j bare) turns n rest ends fits room enough =
      let parts : ((a ++ c) ++ d) ++ rest ≡ a ++ (c ++ (d ++ rest)) = append_assoc (a ++ c) d rest ∙ append_assoc a c (d ++ rest) in
      let whole = ap length parts in
      let long = length-append a (c ++ (d ++ rest)) in
      specs_made turns n earlier env known rest t listed h (specifier_first i) j bare room (omega (arith, enough))
      (λ k e. specifier_go i turns k (d ++ rest) (λ off. beside_plainly j rest (plainly rest (ends off))) (fits_less env (((a ++ c) ++ d) ++ rest) (c ++ (d ++ rest)) fits (omega (arith, whole, long))) (omega (arith, room, whole, long)) (omega (arith, enough, whole, long, e)))

  list_go : {earlier : List DeclTree} {env known : Known} {a : List Lexeme} {ms : List MemberTree} → IsMemberList earlier env a ms known → ListRead earlier env a ms known
  list_go {earlier} {env} (member_list {known = known} {a = a} {ms = ms} o c opens h pairs shuts) = record {
    o = o;
    tail = a ++ c ∷ [];
    c = c;
    parts = refl;
    is = opens;
    shuts = shuts;
    apart = distinct_so ms pairs;
    complete = members_complete h;
    reads = λ turns n rest fits room enough.
        let parts : (a ++ c ∷ []) ++ rest ≡ a ++ c ∷ rest = append_assoc a (c ∷ []) rest in
        let whole = ap length parts in
        let f = members_go h turns n (c ∷ rest) (fits_less env ((a ++ c ∷ []) ++ rest) (a ++ c ∷ rest) fits (omega (arith, whole))) (omega (arith, room, whole)) (omega (arith, enough, whole)) in
        ap (members_at turns earlier n env []) parts ∙ f.goes ∙ members_stop (members_at turns earlier f.left) ms known c rest shuts;
  }

  members_go : {earlier : List DeclTree} {env known : Known} {a : List Lexeme} {ms : List MemberTree} → AreMembers earlier env a ms known → (turns n : ℕ) (rest : List Lexeme) → Fits env (a ++ rest) → Room turns (a ++ rest) → 4 * length (a ++ rest) + 6 ≤ n → MembersGo turns n earlier env a rest ms known
  members_go {earlier} {env} (first_members {known = known} {a = a} {ms = ms} h) turns n rest fits room enough =
      let long = length-append a rest in
      let filled = line_filled h in
      let g = a_line turns n earlier env known [] ms (a ++ rest) rest (omega (arith, enough, long, filled)) (λ k e. line_go h turns k [] rest fits room (omega (arith, enough, e))) in
      record { left = g.0; enough = g.1; goes = g.2 }
  members_go {earlier} {env} (also_members {known = known} {later = later} {a = a} {c = c} {ms = ms} {ns = ns} h i) turns n rest fits room enough =
      let parts : (a ++ c) ++ rest ≡ a ++ (c ++ rest) = append_assoc a c rest in
      let whole = ap length parts in
      let more = length-append a (c ++ rest) in
      let long = length-append c rest in
      let filled = line_filled i in
      let fits2 = fits_less env ((a ++ c) ++ rest) (a ++ (c ++ rest)) fits (omega (arith, whole)) in
      let f = members_go h turns n (c ++ rest) fits2 (omega (arith, room, whole)) (omega (arith, enough, whole)) in
      let left = f.enough in
      let fits3 = fits_after env known a (c ++ rest) fits2 (lines_grow h) in
      let g = a_line turns f.left earlier known later ms (ms ++ ns) (c ++ rest) rest (omega (arith, left, long, filled)) (λ k e. line_go i turns k ms rest fits3 (omega (arith, room, whole, more)) (omega (arith, left, e))) in
      record {
        left = g.0;
        enough = g.1;
        goes = ap (members_at turns earlier n env []) parts ∙ f.goes ∙ members_more (members_at turns earlier f.left) ms known (c ++ rest) (omega (arith, long, filled)) (line_mark i m.CloseBrace rest) ∙ g.2;
      }

  line_go : {earlier : List DeclTree} {env known : Known} {a : List Lexeme} {ms : List MemberTree} → IsMemberLine earlier env a ms known → (turns n : ℕ) (acc : List MemberTree) (rest : List Lexeme) → Fits env (a ++ rest) → Room turns (a ++ rest) → 4 * length (a ++ rest) + 5 ≤ n
      → line_at turns earlier n env acc (a ++ rest) ≡ Some (lines_of (acc ++ ms) known rest)
  line_go {earlier} {env} (member_line {known = known} {a = a} {c = c} {t = t} {s = s} {listed = listed} {ms = ms} o h stored attributed i is) turns n acc rest fits room enough =
      let parts : ((a ++ c) ++ o ∷ []) ++ rest ≡ a ++ (c ++ o ∷ rest) = append_assoc (a ++ c) (o ∷ []) rest ∙ append_assoc a c (o ∷ rest) in
      let whole = ap length parts in
      let long = length-append a (c ++ o ∷ rest) in
      let ends : ends_type (c ++ o ∷ rest) ≡ true = names_begin i (o ∷ rest) in
      let plain : no_beside (c ++ o ∷ rest) ≡ true = keyword_beside (c ++ o ∷ rest) (both_true (no_keyword (c ++ o ∷ rest)) (no_mark m.OpenBrace (c ++ o ∷ rest)) ends).0 in
      let fits2 = fits_less env (((a ++ c) ++ o ∷ []) ++ rest) (a ++ (c ++ o ∷ rest)) fits (omega (arith, whole)) in
      let fits3 = fits_after env known a (c ++ o ∷ rest) fits2 (specs_grow h) in
      ap (line_at turns earlier n env acc) parts
      ∙ line_reads turns n earlier env known acc ms (a ++ (c ++ o ∷ rest)) (c ++ o ∷ rest) o rest t s listed (omega (arith, enough))
      (λ k e. let g = specs_go h turns k (c ++ o ∷ rest) (λ off. ends) fits2 (omega (arith, room, whole)) (omega (arith, enough, whole, e)) in g.is ∙ ap Some (g.ends plain))
      stored attributed (names_there (fits_few known (c ++ o ∷ rest) fits3) i turns acc o rest is (omega (arith, room, whole, long))) is

-- the words of a type are read where no keyword and no list in braces follows
pub specs_there : {earlier : List DeclTree} {env known : Known} {a : List Lexeme} {t : TypeTree} {s : Beside} {listed : Bool} → AreSpecs earlier env a t s listed known → (turns n : ℕ) (rest : List Lexeme) → ends_type rest ≡ true → Fits env (a ++ rest) → Room turns (a ++ rest)
    → 4 * length (a ++ rest) + 4 ≤ n → specs_at turns earlier n env (a ++ rest) ≡ Some (specs_tree t s listed known rest)
specs_there h turns n rest ends fits room enough =
    let g = specs_go h turns n rest (λ off. ends) fits room enough in
    g.is ∙ ap Some (g.ends (keyword_beside rest (both_true (no_keyword rest) (no_mark m.OpenBrace rest) ends).0))

plain_made : {earlier : List DeclTree} {a c d : List Lexeme} {s r : Beside} {t : TypeTree} {env known : Known} (turns : ℕ) (rest : List Lexeme) → AreBeside a s → IsSpecifier earlier env c t false known → AreBeside d r → ends_type rest ≡ true → Fits env (((a ++ c) ++ d) ++ rest) → Room turns (((a ++ c) ++ d) ++ rest)
    → plain_specs_at turns env (((a ++ c) ++ d) ++ rest) ≡ Some (specs_tree t (both_said s r) false known rest)
unfolding plain_specs_at
plain_made {a = a} {c = c} {d = d} {s = s} {r = r} {t = t} {env = env} {known = known} turns rest h i j ends fits room =
    let parts : ((a ++ c) ++ d) ++ rest ≡ a ++ (c ++ (d ++ rest)) = append_assoc (a ++ c) d rest ∙ append_assoc a c (d ++ rest) in
    let whole = ap length parts in
    let long = length-append a (c ++ (d ++ rest)) in
    let more = length-append c (d ++ rest) in
    let before = beside_there h turns true turns nothing_said (c ++ (d ++ rest)) (first_beside c (d ++ rest) (specifier_first i)) (omega (arith, room, whole)) (omega (arith, room, whole)) (λ off. absurd cc) in
    let f = plain_read (fits_few env (((a ++ c) ++ d) ++ rest) fits) i refl in
    let plain = (both_true (no_keyword rest) (no_mark m.OpenBrace rest) ends).0 in
    let after = beside_there j turns true turns nothing_said rest (keyword_beside rest plain) (omega (arith, room, whole, long, more)) (omega (arith, room, whole, long, more)) (λ off. absurd cc) in
    ap (λ (v : List Lexeme). let b = beside_at turns true turns nothing_said v in plain_at env b.rest >>= λ x. Some (specs_of b x (beside_at turns true turns nothing_said x.rest))) parts
    ∙ ap (λ (b : Got Beside). plain_at env b.rest >>= λ x. Some (specs_of b x (beside_at turns true turns nothing_said x.rest))) before
    ∙ bind_goes (plain_at env (c ++ (d ++ rest))) (λ x. Some (specs_of (record { tree = s; rest = c ++ (d ++ rest) }) x (beside_at turns true turns nothing_said x.rest))) (plain_of known t (d ++ rest)) (f.plain (d ++ rest) (beside_word j rest (keyword_word rest plain)))
    ∙ ap (λ (v : Got Beside). Some (specs_of (record { tree = s; rest = c ++ (d ++ rest) }) (plain_of known t (d ++ rest)) v)) after

-- the same without a list in braces
pub plain_specs_there : {earlier : List DeclTree} {env known : Known} {a : List Lexeme} {t : TypeTree} {s : Beside} → AreSpecs earlier env a t s false known → (turns : ℕ) (rest : List Lexeme) → ends_type rest ≡ true → Fits env (a ++ rest) → Room turns (a ++ rest)
    → plain_specs_at turns env (a ++ rest) ≡ Some (specs_tree t s false known rest)
plain_specs_there (specs h i j bare) turns rest ends fits room = plain_made turns rest h i j ends fits room
