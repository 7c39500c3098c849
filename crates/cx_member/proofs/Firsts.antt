-- The first region that does not hold its type is one region, and there is none where all hold theirs.
use Rattle.std.specs.Prelude.{◌≡◌, ◌↔◌, ℕ, ◌<◌, List, All, slice_get, IsSomeAnd, MatchOption, Option, Some, None}
use Rattle.std.proofs.Common.{arith, refl, ap, subst}
use Rattle.std.proofs.lemmas.Option.{get_or_from_slice_get, slice_get_within, same_Some}
use Rattle.cx_base.specs.declared.memory.Region.{Region}
use Rattle.cx_cells.specs.Layouts.{layout_of}
use Rattle.cx_cells.specs.Typing.{IsMemory, RegionHolds, Typed}
use Rattle.cx_cells.specs.declared.form.Form.{Form}
use Rattle.cx_member.specs.First.{IsFirstUntyped}

not_all_by : {X : Type 0} (P : X → Type 0) (xs : List X) (i : ℕ) (o : Option X) → slice_get xs i ≡ o → IsSomeAnd o (λ y. P y → ⊥) → All P xs → ⊥
not_all_by P xs i None e h a = h
not_all_by P xs i (Some x) e h a = h (subst P (get_or_from_slice_get xs i x x e) (a i x (slice_get_within xs i x e)))

both_by : {X : Type 0} (P : X → Type 0) (o : Option X) → IsSomeAnd o P → IsSomeAnd o (λ y. P y → ⊥) → ⊥
both_by P None h g = h
both_by P (Some x) h g = g h

module _ (forms : List Form) (rs : List Region) where
  first_fails : (i : ℕ) → IsFirstUntyped forms rs i → All (RegionHolds forms (layout_of rs)) rs → ⊥
  first_fails i f a = not_all_by (RegionHolds forms (layout_of rs)) rs i (slice_get rs i) refl f.fails a

  not_before : (i j : ℕ) → IsFirstUntyped forms rs i → IsFirstUntyped forms rs j → i < j → ⊥
  not_before i j f g l = both_by (RegionHolds forms (layout_of rs)) (slice_get rs i) (g.before i l) f.fails

  same_first : (i j : ℕ) → IsFirstUntyped forms rs i → IsFirstUntyped forms rs j → i ≡ j
  same_first i j f g = let a = not_before i j f g in let b = not_before j i g f in omega arith

  -- no answer is that all hold, and an answer that the region there is the first that does not
  pub typed_none : (r : Option ℕ) → IsMemory rs → MatchOption r (All (RegionHolds forms (layout_of rs)) rs) (IsFirstUntyped forms rs) → (r ≡ None) ↔ Typed forms rs
  typed_none None v h = ((λ e. record { memory = v; holds = h }), (λ t. refl))
  typed_none (Some j) v f = ((λ e. absurd (cc)), (λ t. absurd (first_fails j f t.holds)))

  pub typed_some : (r : Option ℕ) → MatchOption r (All (RegionHolds forms (layout_of rs)) rs) (IsFirstUntyped forms rs) → (i : ℕ) → (r ≡ Some i) ↔ IsFirstUntyped forms rs i
  typed_some None h i = ((λ e. absurd (cc)), (λ f. absurd (first_fails i f h)))
  typed_some (Some j) f i = ((λ e. subst (IsFirstUntyped forms rs) (same_Some j i e) f), (λ g. ap Some (same_first j i f g)))
