-- The first of a list and those after it.
use Rattle.std.specs.Prelude.{◌≡◌, ℕ, List, [], ◌∷◌, Option, Some, None}
use Rattle.std.specs.Borrow.{Bor}

abbrev pub Begins : Option (ℕ × Bor (List ℕ)) → List ℕ → Type 0
Begins None bs = bs ≡ []
Begins (Some p) bs = bs ≡ p.0 ∷ p.1.now
