-- Tokens in a text.
use Rattle.std.specs.Prelude.{ℕ, ◌<◌, ◌≤◌, List, [], ◌∷◌}
use Rattle.cx_base.specs.declared.token.Token.{Token}

-- the tokens stand between these two places in their order, no two meet, and none is empty
abbrev pub InOrder : ℕ → ℕ → List Token → Type 0
InOrder from upto [] = from ≤ upto
InOrder from upto (t ∷ ts) = (from ≤ t.span.first) × (t.span.first < t.span.past) × InOrder t.span.past upto ts
