-- Numbers that hold their kinds, one after another.
use Rattle.std.specs.Prelude.{◌≡◌, ◌↔◌, ℕ, ℤ, pos, ◌+◌, ◌<◌, List, ◌∷◌, length, drop}
use Rattle.std.proofs.Common.{arith, sym, subst, get_or}
use Rattle.std.proofs.lemmas.List.{drop_more, drop_all}
use Rattle.cx_cells.specs.Calls.{ValueHolds, ValuesHold}
use Rattle.cx_cells.specs.Layouts.{Extent}
use Rattle.cx_cells.specs.declared.cell.CellKind.{CellKind}

module _ (v : ℕ → ℤ) (layout : List Extent) (kinds : List CellKind) (given : List ℤ) (i : ℕ) (k : CellKind) (z : ℤ) (inside : i < length kinds) (there : i < length given) (kind : k ≡ get_or kinds i k) (number : z ≡ get_or given i (pos 0)) where
  split : ValuesHold v layout (drop i kinds) (drop i given) ↔ (ValueHolds v layout k z × ValuesHold v layout (drop (i + 1) kinds) (drop (i + 1) given))
  split =
      let a : drop i kinds ≡ k ∷ drop (i + 1) kinds = subst (λ x. drop i kinds ≡ x ∷ drop (i + 1) kinds) (sym kind) (drop_more kinds i k inside) in
      let b : drop i given ≡ z ∷ drop (i + 1) given = subst (λ x. drop i given ≡ x ∷ drop (i + 1) given) (sym number) (drop_more given i (pos 0) there) in
      rw (a, b) ((λ x. x), (λ x. x))

  -- the number here holds its kind, so all hold theirs where the later ones do
  pub goes_on : ValueHolds v layout k z → ValuesHold v layout (drop i kinds) (drop i given) ↔ ValuesHold v layout kinds given → ValuesHold v layout (drop (i + 1) kinds) (drop (i + 1) given) ↔ ValuesHold v layout kinds given
  goes_on h all = ((λ x. all.0 (split.1 (h, x))), (λ x. let y = split.0 (all.1 x) in y.1))

  -- it does not
  pub stops : (ValueHolds v layout k z → ⊥) → ValuesHold v layout (drop i kinds) (drop i given) ↔ ValuesHold v layout kinds given → ValuesHold v layout kinds given → ⊥
  stops n all x = let y = split.0 (all.1 x) in n y.0

pub all_done : (v : ℕ → ℤ) (layout : List Extent) (kinds : List CellKind) (given : List ℤ) (i : ℕ) → length kinds ≡ i → length given ≡ i → ValuesHold v layout (drop i kinds) (drop i given) ↔ ValuesHold v layout kinds given → ValuesHold v layout kinds given
all_done v layout kinds given i e g all =
    all.0 (rw (drop_all i kinds (omega arith), drop_all i given (omega arith)) tt)
