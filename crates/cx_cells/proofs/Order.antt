-- Cells each of which ends before the next one begins.
use Rattle.std.proofs.Common.{◌≡◌, ℕ, zero, suc, ◌+◌, ◌-◌, ◌<◌, List, length, get_or, subst, arith}
use Rattle.std.specs.Prelude.{AllPairs}
use Rattle.cx_cells.specs.Kept.{EndsBefore}
use Rattle.cx_cells.specs.declared.cell.FlatCell.{FlatCell}

-- each of the first n cells but the last ends before the next one begins
abbrev pub NeighboursUpTo : ℕ → List FlatCell → Type 0
NeighboursUpTo n cells = (k : ℕ) (d : FlatCell) → k + 1 < n → EndsBefore (get_or cells k d) (get_or cells (k + 1) d)

module _ (cells : List FlatCell) (next : NeighboursUpTo (length cells) cells) where
  later : (n i : ℕ) (d : FlatCell) → i + 1 + n < length cells → EndsBefore (get_or cells i d) (get_or cells (i + 1 + n) d)
  later zero i d h =
      let e : i + 1 ≡ i + 1 + 0 = omega arith in
      subst (λ k. EndsBefore (get_or cells i d) (get_or cells k d)) e (next i d (omega arith))
  later (suc n) i d h =
      let a = later n i d (omega arith) in
      let b = next (i + 1 + n) d (omega arith) in
      let e : i + 1 + n + 1 ≡ i + 1 + suc n = omega arith in
      let g : EndsBefore (get_or cells i d) (get_or cells (i + 1 + n + 1) d) = omega (arith, a, b) in
      subst (λ k. EndsBefore (get_or cells i d) (get_or cells k d)) e g

  pub in_order : AllPairs EndsBefore cells
  in_order i j d low high =
      let e : i + 1 + (j - (i + 1)) ≡ j = omega arith in
      subst (λ k. EndsBefore (get_or cells i d) (get_or cells k d)) e (later (j - (i + 1)) i d (omega arith))
