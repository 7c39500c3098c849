-- What the calls on tokens answer, from the laws on the readers.
use Rattle.std.proofs.Common.{◌≡◌, ℕ, zero, suc, ◌+◌, ◌-◌, ◌*◌, ◌<◌, ◌≤◌, Bool, List, [], ◌∷◌, ◌++◌, length, take, map, Option, Some, None, refl, sym, ap, ◌∙◌, subst, arith, length-append, append-nil}
use Rattle.std.proofs.Math.Seq.{take-append_seam}
use Rattle.std.specs.Prelude.{option_map, Result, Ok, Err, IfOk, MatchOption}
use Rattle.std.proofs.lemmas.List.{length-map}
use Rattle.std.proofs.lemmas.Option.{same_Some, none-some}
use Rattle.cx_base.specs.declared.span.Span.{Span}
use Rattle.cx_ctree.specs.Types.{TypeTree}
use Rattle.cx_ctree.specs.Path.{type_path}
use Rattle.cx_ctree.specs.Decls.{tag_tree, decl_tree, SignatureTree, DeclTree}
use Rattle.cx_cword.specs.declared.lexeme.Lexeme.{Lexeme}
use Rattle.cx_cword.specs.Reading.{◌>>=◌}
use Rattle.cx_base.specs.declared.token.Token.{Token}
use Rattle.cx_base.specs.declared.list.NoMemory.{NoMemory}
use Rattle.cx_ctree.specs.declared.decl.Decl.{Decl}
use Rattle.cx_ctree.specs.declared.unit.Unit.{Unit as UnitOf}
use Rattle.cx_cword.specs.Lexemes.{lexeme_of, lexemes}
use Rattle.cx_cname.specs.Known.{Known, known_of, earlier_of}
use Rattle.cx_cexpr.specs.Expressions.{IsType}
use Rattle.cx_cexpr.specs.Reading as expr
use Rattle.cx_cexpr.specs.Reading.{type_at}
use Rattle.cx_cexpr.proofs.Fronts.{type_read, type_unread, type_only}
use Rattle.cx_cexpr.proofs.TypeSound.{type_sound}
use Rattle.cx_cexpr.proofs.Steps.{bind_some}
use Rattle.cx_cdecl.specs.Declarations.{Beside, AreSpecs, IsDeclaration, ArePointers, no_star, also_star, AreSizes, no_size, also_size, IsObject, object_of, IsFunction, function_of}
use Rattle.cx_cdecl.specs.Derived.{deepest, AreShallow, DerivesType, DerivesDeclarator, object_derived, function_derived}
use Rattle.cx_cdecl.specs.Fronts.{LongestType, NoType, LongestSpecs, NoSpecs, LongestDeclarator, NoDeclarator, OnlyDeclaration, NoDeclaration}
use Rattle.cx_cdecl.specs.Reading.{After, Specs, Declared, at_end, whole_after, whole_at, shallow_at, declaration_at, front_specs_at, front_declarator_at}
use Rattle.cx_cdecl.proofs.Longest.{shallow_front, shallow_low, shallow_same, Taken, Goes, front_some, front_none}
use Rattle.cx_cdecl.proofs.There.{Enough, declaration_there, specs_far, declarator_far}
use Rattle.cx_cdecl.proofs.DeclarationSound.{IsDeclarator, of_object, of_function, declaration_sound, front_specs_sound, front_declarator_sound}

-- ---- whole declarations

-- as many as there are
take_all : {A : Type 0} (n : ℕ) (xs : List A) → length xs ≤ n → take n xs ≡ xs
take_all zero [] h = refl
take_all zero (x ∷ xs) h = absurd (omega arith)
take_all (suc n) [] h = refl
take_all (suc n) (x ∷ xs) h = ap (λ xs. x ∷ xs) (take_all n xs (omega arith))

-- all lexemes stand before the bracket exactly where they are shallow
all_shallow : (os : List Lexeme) → deepest 0 os ≤ 100 → length os ≤ length (shallow_at 0 os)
all_shallow os h = (shallow_front 0 (length os) os (subst (λ (xs : List Lexeme). deepest 0 xs ≤ 100) (sym (take_all (length os) os (omega arith))) h) (omega arith)).0

whole_shallow : (os : List Lexeme) → length os ≤ length (shallow_at 0 os) → (shallow_at 0 os ≡ os) × (deepest 0 os ≤ 100)
whole_shallow os h =
    let cut = shallow_at 0 os in
    let less = (shallow_same 0 (length cut) os (omega arith)).0 in
    let whole : take (length os) cut ≡ cut = take_all (length os) cut less in
    let same : cut ≡ os = sym whole ∙ sym (shallow_same 0 (length os) os h).1 ∙ take_all (length os) os (omega arith) in
    (same, subst (λ (xs : List Lexeme). deepest 0 xs ≤ 100) (whole ∙ same) (shallow_low 0 (length os) os (omega arith)))

pub too_deep : (earlier : List DeclTree) (env : Known) (os : List Lexeme) → length (shallow_at 0 os) < length os → NoDeclaration earlier env os
too_deep earlier env os less ds later d = let e = all_shallow os d.shallow in absurd (omega (arith, less, e))

abbrev made : {A : Type 0} → A → Known → List Lexeme → After A
made t k rest = record { tree = t; known = k; rest = rest }

ended_by : {A : Type 0} (rest : List Lexeme) (t : A) (k : Known) (r : After A) → at_end (made t k rest) ≡ Some r → (rest ≡ []) × (t ≡ r.tree) × (k ≡ r.known)
ended_by {A} [] t k r e = let same : made t k [] ≡ r = same_Some (made t k []) r e in (refl, ap (λ (x : After A). x.tree) same, ap (λ (x : After A). x.known) same)
ended_by (o ∷ rest) t k r e = absurd cc

ended : {A : Type 0} (x r : After A) → at_end x ≡ Some r → (x.rest ≡ []) × (x.tree ≡ r.tree) × (x.known ≡ r.known)
ended {A} x r e = ended_by x.rest x.tree x.known r e

pub whole_only : (turns : ℕ) (earlier : List DeclTree) (env known : Known) (os : List Lexeme) (ds : List DeclTree) → Enough turns env os → length os ≤ length (shallow_at 0 os) → whole_at turns earlier env (shallow_at 0 os) ≡ Some (made ds known [])
    → OnlyDeclaration earlier env os ds known
unfolding whole_at
whole_only turns earlier env known os ds enough all e =
    let w = whole_shallow os all in
    let whole : (declaration_at turns earlier env os >>= at_end) ≡ Some (made ds known []) = ap (λ (xs : List Lexeme). declaration_at turns earlier env xs >>= at_end) (sym w.0) ∙ e in
    let i = bind_some (declaration_at turns earlier env os) at_end (made ds known []) whole in
    let x = ended i.0 (made ds known []) i.2 in
    let f = declaration_sound turns earlier env os i.0 i.1 in
    let front : os ≡ f.front = f.parts ∙ ap (λ (xs : List Lexeme). f.front ++ xs) x.0 ∙ append-nil f.front in
    let so : IsDeclaration earlier env os i.0.tree i.0.known = subst (λ (xs : List Lexeme). IsDeclaration earlier env xs i.0.tree i.0.known) (sym front) f.so in
    let known_so : IsDeclaration earlier env os i.0.tree known = subst (λ (k : Known). IsDeclaration earlier env os i.0.tree k) x.2 so in
    record {
      derived = record { spelled = subst (λ (ts : List DeclTree). IsDeclaration earlier env os ts known) x.1 known_so; shallow = w.1 };
      only = λ es later d.
          let same : i.0 ≡ made es later [] = same_Some i.0 (made es later []) (sym i.1 ∙ declaration_there d.spelled turns enough) in
          (ap (λ (r : After (List DeclTree)). r.tree) (sym same) ∙ x.1, ap (λ (r : After (List DeclTree)). r.known) (sym same) ∙ x.2);
    }

pub whole_none : (turns : ℕ) (earlier : List DeclTree) (env : Known) (os : List Lexeme) → Enough turns env os → length os ≤ length (shallow_at 0 os) → whole_at turns earlier env (shallow_at 0 os) ≡ None → NoDeclaration earlier env os
unfolding whole_at
whole_none turns earlier env os enough all e ds later d =
    let w = whole_shallow os all in
    let there = declaration_there d.spelled turns enough in
    let some : (declaration_at turns earlier env os >>= at_end) ≡ Some (made ds later []) = ap (λ o. o >>= at_end) there in
    let none : (declaration_at turns earlier env os >>= at_end) ≡ None = ap (λ (xs : List Lexeme). declaration_at turns earlier env xs >>= at_end) (sym w.0) ∙ e in
    none-some (made ds later []) (sym none ∙ some)

-- ---- types

front_of : (a b c d : List Lexeme) → a ++ c ≡ b ++ d → length c ≡ length d → a ≡ b
front_of a b c d e h =
    let long : length a + length c ≡ length b + length d = sym (length-append a c) ∙ ap length e ∙ length-append b d in
    let same : length a ≡ length b = omega (arith, long, h) in
    sym (take-append_seam a c) ∙ ap (λ n. take n (a ++ c)) same ∙ ap (take (length b)) e ∙ take-append_seam b d

abbrev taken_type : expr.Got TypeTree → Taken TypeTree
taken_type g = record { tree = g.tree; rest = g.rest }

abbrev TypeSo : Known → List Lexeme → TypeTree → Type 0
TypeSo env a t = IsType env a t × (type_path t ≤ 400)

type_goes : (env : Known) → expr.Few env → (cut : List Lexeme) (o : Option (expr.Got TypeTree)) → type_at env 400 cut ≡ o → (a rest : List Lexeme) (t : TypeTree) → cut ≡ a ++ rest → TypeSo env a t → Goes (option_map taken_type o) t rest
type_goes env few cut None e a rest t parts h = absurd (type_unread env few 400 cut e a rest t parts h.0 h.1)
type_goes env few cut (Some g) e a rest t parts h =
    let l = type_read env few 400 cut g e in
    record {
      g = taken_type g;
      is = refl;
      less = l.longest a rest t parts h.0 h.1;
      same = λ far.
          let front : l.found.front ≡ a = front_of l.found.front a g.rest rest (sym l.found.parts ∙ parts) far in
          type_only env few h.0 (subst (λ (xs : List Lexeme). IsType env xs g.tree) front l.found.spelled_so);
    }

type_derived : (env : Known) (os : List Lexeme) (t : TypeTree) → DerivesType env os t → TypeSo env os t
type_derived env os t d = (d.spelled, d.low)

pub type_longest : (env : Known) → expr.Few env → (os : List Lexeme) (g : expr.Got TypeTree) → type_at env 400 (shallow_at 0 os) ≡ Some g → LongestType env os (length (shallow_at 0 os) - length g.rest) g.tree
type_longest env few os g e =
    let f = type_sound env 400 (shallow_at 0 os) g e in
    let l = front_some (TypeSo env) os (option_map taken_type (Some g)) (taken_type g) refl (record { front = f.front; parts = f.parts; so = (f.spelled_so, f.low) }) (type_goes env few (shallow_at 0 os) (Some g) e) in
    record {
      within = l.within;
      derived = record { spelled = l.so.0; low = l.so.1; shallow = l.shallow };
      only = λ u d. l.only u (d.spelled, d.low) d.shallow;
      longest = λ m u le d. l.longest m u le (d.spelled, d.low) d.shallow;
    }

pub type_none : (env : Known) → expr.Few env → (os : List Lexeme) → type_at env 400 (shallow_at 0 os) ≡ None → NoType env os
type_none env few os e m u d = front_none (TypeSo env) os None refl (type_goes env few (shallow_at 0 os) None e) m u (d.spelled, d.low) d.shallow

-- ---- types with the words beside them

abbrev Spelled : Type 0
Spelled = TypeTree × Beside × Known

abbrev taken_specs : After Specs → Taken Spelled
taken_specs g = record { tree = (g.tree.ctype, g.tree.said, g.known); rest = g.rest }

abbrev SpecsSo : List DeclTree → Known → List Lexeme → Spelled → Type 0
SpecsSo earlier env a x = (listed : Bool) × AreSpecs earlier env a x.0 x.1 listed x.2

specs_goes : (turns : ℕ) (earlier : List DeclTree) (env : Known) (cut : List Lexeme) → Enough turns env cut → (o : Option (After Specs)) → front_specs_at turns earlier env cut ≡ o → (a rest : List Lexeme) (x : Spelled) → cut ≡ a ++ rest → SpecsSo earlier env a x → Goes (option_map taken_specs o) x rest
specs_goes turns earlier env cut enough o e a rest x parts h =
    let far = specs_far h.1 turns rest (subst (Enough turns env) parts enough) in
    record {
      g = taken_specs far.g;
      is = ap (option_map taken_specs) (sym e ∙ ap (front_specs_at turns earlier env) parts ∙ far.is);
      less = far.less;
      same = λ len. let s = far.same len in λ i. (s.0.0 i, s.0.1 i, s.1 i);
    }

pub specs_longest : (turns : ℕ) (earlier : List DeclTree) (env : Known) (os : List Lexeme) (g : After Specs) → Enough turns env (shallow_at 0 os) → front_specs_at turns earlier env (shallow_at 0 os) ≡ Some g
    → LongestSpecs earlier env os (length (shallow_at 0 os) - length g.rest) g.tree.ctype g.tree.said.typedef_ g.tree.said.linked g.known
specs_longest turns earlier env os g enough e =
    let f = front_specs_sound turns earlier env (shallow_at 0 os) g e in
    let l = front_some (SpecsSo earlier env) os (option_map taken_specs (Some g)) (taken_specs g) refl (record { front = f.front; parts = f.parts; so = (g.tree.listed, f.so) }) (specs_goes turns earlier env (shallow_at 0 os) enough (Some g) e) in
    record {
      within = l.within;
      said = g.tree.said;
      derived = record { listed = l.so.0; spelled = l.so.1; shallow = l.shallow };
      typedef_is = refl;
      linked_is = refl;
      only = λ u s later d. let same = l.only (u, s, later) (d.listed, d.spelled) d.shallow in (ap (λ (x : Spelled). x.0) same, ap (λ (x : Spelled). x.1) same, ap (λ (x : Spelled). x.2) same);
      longest = λ m u s later le d. l.longest m (u, s, later) le (d.listed, d.spelled) d.shallow;
    }

pub specs_none : (turns : ℕ) (earlier : List DeclTree) (env : Known) (os : List Lexeme) → Enough turns env (shallow_at 0 os) → front_specs_at turns earlier env (shallow_at 0 os) ≡ None → NoSpecs earlier env os
specs_none turns earlier env os enough e m u s later d = front_none (SpecsSo earlier env) os None refl (specs_goes turns earlier env (shallow_at 0 os) enough None e) m (u, s, later) (d.listed, d.spelled) d.shallow

-- ---- declarators

abbrev Named : Type 0
Named = DeclTree × Span × Known

abbrev taken_declarator : After Declared → Taken Named
taken_declarator g = record { tree = (g.tree.decl, g.tree.lexeme.span, g.known); rest = g.rest }

abbrev DeclaratorSo : List DeclTree → Known → TypeTree → List Lexeme → Named → Type 0
DeclaratorSo earlier env base a x = (d : Declared) × IsDeclarator earlier env base a d x.2 × (d.decl ≡ x.0) × (d.lexeme.span ≡ x.1)

declarator_goes : (turns : ℕ) (earlier : List DeclTree) (env : Known) (base : TypeTree) (cut : List Lexeme) → Enough turns env cut → (o : Option (After Declared)) → front_declarator_at turns env base cut ≡ o → (a rest : List Lexeme) (x : Named) → cut ≡ a ++ rest → DeclaratorSo earlier env base a x
    → Goes (option_map taken_declarator o) x rest
declarator_goes turns earlier env base cut enough o e a rest x parts h =
    let far = declarator_far h.1 turns rest (subst (Enough turns env) parts enough) in
    record {
      g = taken_declarator far.g;
      is = ap (option_map taken_declarator) (sym e ∙ ap (front_declarator_at turns env base) parts ∙ far.is);
      less = far.less;
      same = λ len.
          let s = far.same len in
          let decl : x.0 ≡ far.g.tree.decl = sym h.2 ∙ ap (λ (d : Declared). d.decl) s.0 in
          let span : x.1 ≡ far.g.tree.lexeme.span = sym h.3 ∙ ap (λ (d : Declared). d.lexeme.span) s.0 in
          λ i. (decl i, span i, s.1 i);
    }

derived_so : {earlier : List DeclTree} {env : Known} {base : TypeTree} {os : List Lexeme} {d : DeclTree} {span : Span} {known : Known} → DerivesDeclarator earlier env base os d span known → DeclaratorSo earlier env base os (d, span, known) × AreShallow os
derived_so (object_derived {n = n} o d) = ((_, of_object o n d.spelled, refl, refl), d.shallow)
derived_so (function_derived {f = f} o d) = ((_, of_function o f d.spelled, refl, refl), d.shallow)

so_derived : {earlier : List DeclTree} {env : Known} {base : TypeTree} {os : List Lexeme} {d : Declared} {known : Known} → IsDeclarator earlier env base os d known → AreShallow os → DerivesDeclarator earlier env base os d.decl d.lexeme.span known
so_derived (of_object o n d) s = object_derived o (record { spelled = d; shallow = s })
so_derived (of_function o f d) s = function_derived o (record { spelled = d; shallow = s })

pub declarator_longest : (turns : ℕ) (earlier : List DeclTree) (env : Known) (base : TypeTree) (os : List Lexeme) (g : After Declared) → Enough turns env (shallow_at 0 os) → front_declarator_at turns env base (shallow_at 0 os) ≡ Some g
    → LongestDeclarator earlier env base os (length (shallow_at 0 os) - length g.rest) g.tree.decl g.tree.lexeme.span g.known
declarator_longest turns earlier env base os g enough e =
    let f = front_declarator_sound turns earlier env base (shallow_at 0 os) g e in
    let l = front_some (DeclaratorSo earlier env base) os (option_map taken_declarator (Some g)) (taken_declarator g) refl (record { front = f.front; parts = f.parts; so = (g.tree, f.so, refl, refl) }) (declarator_goes turns earlier env base (shallow_at 0 os) enough (Some g) e) in
    let derived = so_derived l.so.1 l.shallow in
    record {
      within = l.within;
      derived = subst (λ (d : DeclTree). DerivesDeclarator earlier env base (take (length (shallow_at 0 os) - length g.rest) os) d g.tree.lexeme.span g.known) l.so.2
          (subst (λ (span : Span). DerivesDeclarator earlier env base (take (length (shallow_at 0 os) - length g.rest) os) l.so.0.decl span g.known) l.so.3 derived);
      only = λ d span later so. let h = derived_so so in let same = l.only (d, span, later) h.0 h.1 in (ap (λ (x : Named). x.0) same, ap (λ (x : Named). x.1) same, ap (λ (x : Named). x.2) same);
      longest = λ m d span later le so. let h = derived_so so in l.longest m (d, span, later) le h.0 h.1;
    }

pub declarator_none : (turns : ℕ) (earlier : List DeclTree) (env : Known) (base : TypeTree) (os : List Lexeme) → Enough turns env (shallow_at 0 os) → front_declarator_at turns env base (shallow_at 0 os) ≡ None → NoDeclarator earlier env base os
declarator_none turns earlier env base os enough e m d span later so =
    let h = derived_so so in
    front_none (DeclaratorSo earlier env base) os None refl (declarator_goes turns earlier env base (shallow_at 0 os) enough None e) m (d, span, later) h.0 h.1

pointers_high : {t w : TypeTree} {a : List Lexeme} → ArePointers t a w → type_path t ≤ type_path w
pointers_high no_star = omega arith
pointers_high (also_star o h star skipped) = let less = pointers_high h in omega (arith, less)

sizes_high : {env : Known} {t w : TypeTree} {a : List Lexeme} → AreSizes env t a w → type_path t ≤ type_path w
sizes_high no_size = omega arith
sizes_high (also_size o c n opens x closes low value some few h complete) = let less = sizes_high h in omega (arith, less)

object_high : {env : Known} {t v : TypeTree} {a : List Lexeme} {n : ℕ} {o : Lexeme} → IsObject env t a n o v → type_path t ≤ 400
object_high (object_of o n h name g low) = let a = pointers_high h in let b = sizes_high g in omega (arith, a, b, low)

function_high : {earlier : List DeclTree} {env known : Known} {t : TypeTree} {a : List Lexeme} {o : Lexeme} {f : SignatureTree} → IsFunction earlier env t a o f known → type_path t ≤ 400
function_high (function_of o m e n h low name opens list closes after) = let a = pointers_high h in omega (arith, a, low)

derived_high : {earlier : List DeclTree} {env : Known} {base : TypeTree} {os : List Lexeme} {d : DeclTree} {span : Span} {known : Known} → DerivesDeclarator earlier env base os d span known → type_path base ≤ 400
derived_high (object_derived o d) = object_high d.spelled
derived_high (function_derived o d) = function_high d.spelled

-- a base of too many nodes has no declarator
pub high_none : (earlier : List DeclTree) (env : Known) (base : TypeTree) (os : List Lexeme) → 400 < type_path base → NoDeclarator earlier env base os
high_none earlier env base os high m d span later so = let low = derived_high so in absurd (omega (arith, high, low))

-- ---- the calls

-- how many places and turns there are for what is handed
pub record Handed (u : UnitOf) (os cut : List Lexeme) : Type 0 where
  pub cut_is : cut ≡ shallow_at 0 os
  pub tags : length u.tags ≤ 4000000000
  pub few : length os ≤ 16777216

enough_cut : (u : UnitOf) (os cut : List Lexeme) → Handed u os cut → (turns : ℕ) → 16 * length cut + 64 ≤ turns → Enough turns (known_of u) (shallow_at 0 os)
enough_cut u os cut h turns t =
    let less = (shallow_same 0 (length (shallow_at 0 os)) os (omega arith)).0 in
    let long : length cut ≡ length (shallow_at 0 os) = ap length h.cut_is in
    record { turns = omega (arith, t, long); few = omega (arith, less, h.tags, h.few, length-map u.tags tag_tree) }

few_tags : (u : UnitOf) (os cut : List Lexeme) → Handed u os cut → expr.Few (known_of u)
few_tags u os cut h = omega (arith, h.tags, length-map u.tags tag_tree)

length_cut : (os cut : List Lexeme) (n at : ℕ) (rest : List Lexeme) → cut ≡ shallow_at 0 os → n ≡ at + (length cut - length rest) → n - at ≡ length (shallow_at 0 os) - length rest
length_cut os cut n at rest e f = let long : length cut ≡ length (shallow_at 0 os) = ap length e in omega (arith, f, long)

pub read_deep : (u : UnitOf) (os cut : List Lexeme) → cut ≡ shallow_at 0 os → length cut < length os → NoDeclaration (earlier_of u) (known_of u) os
read_deep u os cut e less = let long : length cut ≡ length (shallow_at 0 os) = ap length e in too_deep (earlier_of u) (known_of u) os (omega (arith, less, long))

read_by : (u : UnitOf) (known : Known) (os : List Lexeme) (turns : ℕ) (o : Option (List Decl)) → Enough turns (known_of u) os → length os ≤ length (shallow_at 0 os) → whole_at turns (earlier_of u) (known_of u) (shallow_at 0 os) ≡ option_map (λ ds. whole_after ds known) o
    → MatchOption o (NoDeclaration (earlier_of u) (known_of u) os) (λ ds. OnlyDeclaration (earlier_of u) (known_of u) os (map decl_tree ds) known)
read_by u known os turns None enough all e = whole_none turns (earlier_of u) (known_of u) os enough all e
read_by u known os turns (Some ds) enough all e = whole_only turns (earlier_of u) (known_of u) known os (map decl_tree ds) enough all e

pub read_whole : (u : UnitOf) (known : Known) (os cut : List Lexeme) (turns : ℕ) (r : Result (Option (List Decl)) NoMemory) → Handed u os cut → length os ≤ length cut → 16 * length cut + 64 ≤ turns
    → IfOk r (λ r. option_map (λ ds. whole_after ds known) r ≡ whole_at turns (earlier_of u) (known_of u) cut)
    → IfOk r (λ r. MatchOption r (NoDeclaration (earlier_of u) (known_of u) os) (λ ds. OnlyDeclaration (earlier_of u) (known_of u) os (map decl_tree ds) known))
read_whole u known os cut turns (Err e) h all t value = tt
read_whole u known os cut turns (Ok o) h all t value =
    let long : length cut ≡ length (shallow_at 0 os) = ap length h.cut_is in
    let whole : length os ≤ length (shallow_at 0 os) = omega (arith, all, long) in
    let enough : Enough turns (known_of u) os = subst (Enough turns (known_of u)) (whole_shallow os whole).0 (enough_cut u os cut h turns t) in
    read_by u known os turns o enough whole (ap (whole_at turns (earlier_of u) (known_of u)) (sym h.cut_is) ∙ sym value)

pub read_type_some : (u : UnitOf) (os cut : List Lexeme) (n at : ℕ) (g : expr.Got TypeTree) → Handed u os cut → type_at (known_of u) 400 cut ≡ Some g → n ≡ at + (length cut - length g.rest) → LongestType (known_of u) os (n - at) g.tree
read_type_some u os cut n at g h e next =
    subst (λ (k : ℕ). LongestType (known_of u) os k g.tree) (sym (length_cut os cut n at g.rest h.cut_is next)) (type_longest (known_of u) (few_tags u os cut h) os g (ap (type_at (known_of u) 400) (sym h.cut_is) ∙ e))

pub read_type_none : (u : UnitOf) (os cut : List Lexeme) → Handed u os cut → type_at (known_of u) 400 cut ≡ None → NoType (known_of u) os
read_type_none u os cut h e = type_none (known_of u) (few_tags u os cut h) os (ap (type_at (known_of u) 400) (sym h.cut_is) ∙ e)

pub read_specs_some : (u : UnitOf) (os cut : List Lexeme) (n at turns : ℕ) (g : After Specs) → Handed u os cut → 16 * length cut + 64 ≤ turns → front_specs_at turns (earlier_of u) (known_of u) cut ≡ Some g → n ≡ at + (length cut - length g.rest)
    → LongestSpecs (earlier_of u) (known_of u) os (n - at) g.tree.ctype g.tree.said.typedef_ g.tree.said.linked g.known
read_specs_some u os cut n at turns g h t e next =
    subst (λ (k : ℕ). LongestSpecs (earlier_of u) (known_of u) os k g.tree.ctype g.tree.said.typedef_ g.tree.said.linked g.known) (sym (length_cut os cut n at g.rest h.cut_is next))
    (specs_longest turns (earlier_of u) (known_of u) os g (enough_cut u os cut h turns t) (ap (front_specs_at turns (earlier_of u) (known_of u)) (sym h.cut_is) ∙ e))

pub read_specs_none : (u : UnitOf) (os cut : List Lexeme) (turns : ℕ) → Handed u os cut → 16 * length cut + 64 ≤ turns → front_specs_at turns (earlier_of u) (known_of u) cut ≡ None → NoSpecs (earlier_of u) (known_of u) os
read_specs_none u os cut turns h t e = specs_none turns (earlier_of u) (known_of u) os (enough_cut u os cut h turns t) (ap (front_specs_at turns (earlier_of u) (known_of u)) (sym h.cut_is) ∙ e)

pub read_declarator_some : (u : UnitOf) (base : TypeTree) (os cut : List Lexeme) (n at turns : ℕ) (g : After Declared) → Handed u os cut → 16 * length cut + 64 ≤ turns → front_declarator_at turns (known_of u) base cut ≡ Some g → n ≡ at + (length cut - length g.rest)
    → LongestDeclarator (earlier_of u) (known_of u) base os (n - at) g.tree.decl g.tree.lexeme.span g.known
read_declarator_some u base os cut n at turns g h t e next =
    subst (λ (k : ℕ). LongestDeclarator (earlier_of u) (known_of u) base os k g.tree.decl g.tree.lexeme.span g.known) (sym (length_cut os cut n at g.rest h.cut_is next))
    (declarator_longest turns (earlier_of u) (known_of u) base os g (enough_cut u os cut h turns t) (ap (front_declarator_at turns (known_of u) base) (sym h.cut_is) ∙ e))

pub read_declarator_none : (u : UnitOf) (base : TypeTree) (os cut : List Lexeme) (turns : ℕ) → Handed u os cut → 16 * length cut + 64 ≤ turns → front_declarator_at turns (known_of u) base cut ≡ None → NoDeclarator (earlier_of u) (known_of u) base os
read_declarator_none u base os cut turns h t e = declarator_none turns (earlier_of u) (known_of u) base os (enough_cut u os cut h turns t) (ap (front_declarator_at turns (known_of u) base) (sym h.cut_is) ∙ e)

-- what is handed to a call
pub handed : (u : UnitOf) (names : List (List ℕ)) (bytes : List ℕ) (tokens : List Token) (all seen cut : List Lexeme) → all ≡ lexemes names bytes tokens → seen ≡ all → cut ≡ shallow_at 0 seen → length u.tags ≤ 4000000000 → length tokens ≤ 16777216 → Handed u (lexemes names bytes tokens) cut
handed u names bytes tokens all seen cut e f g tags few = record { cut_is = g ∙ ap (shallow_at 0) (f ∙ e); tags = tags; few = omega (arith, few, length-map tokens (lexeme_of names bytes)) }
