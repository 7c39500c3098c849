-- Values under numbers, of each number the first alone.
use Rattle.std.specs.Prelude.{ℕ, ◌==◌, List, [], ◌∷◌, ◌++◌, if◌then◌else◌}
use Rattle.std.specs.List.{list_any}

-- the entries, with this one at the end where the number has none
abbrev pub with_first : {V : Type 0} → List (ℕ × V) → ℕ × V → List (ℕ × V)
with_first es p = if list_any (λ e. p.0 == e.0) es then es else es ++ p ∷ []

-- the entries, with these one after the other
abbrev pub with_firsts : {V : Type 0} → List (ℕ × V) → List (ℕ × V) → List (ℕ × V)
with_firsts es [] = es
with_firsts es (p ∷ ps) = with_firsts (with_first es p) ps
