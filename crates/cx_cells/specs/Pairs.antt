-- The pairs of a list's items by the place of the first.
use Rattle.std.specs.Prelude.{ℕ, ◌<◌, List, length, slice_index_or}

-- the item at the place and each later one are so
abbrev pub PairsAt : {X : Type 0} → (X → X → Type 0) → List X → ℕ → Type 0
PairsAt {X} R xs i = (j : ℕ) (d : X) → i < j → j < length xs → R (slice_index_or xs i d) (slice_index_or xs j d)
