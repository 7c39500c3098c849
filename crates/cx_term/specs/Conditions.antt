-- When a condition is true.
use Rattle.std.specs.Prelude.{◌≢◌, ℕ, ℤ, pos, ◌≤ℤ◌}
use Rattle.cx_term.specs.Forms.{value}
use Rattle.cx_term.specs.declared.term.Ineq.{Ineq}
use Rattle.cx_term.specs.declared.term.Ineq.TheVariants.{Ge, Ne}

-- the condition is true, where each symbol s has the value v s
abbrev pub Holds : (ℕ → ℤ) → Ineq → Type 0
Holds v (Ge t) = pos 0 ≤ℤ value v t
Holds v (Ne t) = value v t ≢ pos 0
