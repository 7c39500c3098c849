-- The range of a form in a state.
use Rattle.std.specs.Prelude.{ℕ, ℤ, pos, neg_ℤ, ◌^◌, ◌-◌, unsigned_abs, nat_le, ◌&&◌, if◌then◌else◌, List, [], ◌∷◌, Option, Some, None, IfSome}
use Rattle.cx_term.specs.Forms.{Linear, value}
use Rattle.cx_entail.specs.Ranges.{Span, Has}
use Rattle.cx_entail.specs.Bounds.{least, most, modulus, at_lows}
use Rattle.cx_entail.specs.Joins.{stepped}
use Rattle.cx_entail.specs.Shows.{Follows}
use Rattle.cx_state.specs.declared.state.Env.{Env}
use Rattle.cx_query.specs.Shown.{at_least, at_most}
use lib.Signed.{le_z}

-- the bounds that are tried of each form: the ends of the integer types, and numbers beside them
unfoldable pub thresholds : List ℤ
thresholds =
    neg_ℤ (pos (2 ^ 63)) ∷ neg_ℤ (pos (2 ^ 31)) ∷ neg_ℤ (pos (2 ^ 15)) ∷ neg_ℤ (pos 1) ∷ pos 0 ∷ pos 1 ∷ pos 255
    ∷ pos (2 ^ 15 - 1) ∷ pos (2 ^ 16 - 1) ∷ pos (2 ^ 31 - 1) ∷ pos (2 ^ 32 - 1) ∷ pos (2 ^ 47) ∷ pos (2 ^ 63 - 1) ∷ pos (2 ^ 64 - 1) ∷ []

-- the greatest of best and of those that the form is shown to be at least
abbrev pub greatest_shown : Env → Linear → List ℤ → ℤ → ℤ
greatest_shown env t [] best = best
greatest_shown env t (z ∷ zs) best = greatest_shown env t zs (if le_z best z && at_least env t z then z else best)

-- the least of best and of those that the form is shown to be at most
abbrev pub least_shown : Env → Linear → List ℤ → ℤ → ℤ
least_shown env t [] best = best
least_shown env t (z ∷ zs) best = least_shown env t zs (if le_z z best && at_most env t z then z else best)

-- the lower bound: by the ranges, or a threshold that is shown
abbrev pub low_of : Env → Linear → ℤ
low_of env t = greatest_shown env t thresholds (least env.ranges t)

abbrev pub high_of : Env → Linear → ℤ
high_of env t = least_shown env t thresholds (most env.ranges t)

-- the numbers from lo to hi that are x modulo m, all of them where m is 0 or at least 2^64; none where a bound is past 2^65
abbrev pub ranged : ℤ → ℤ → ℕ → ℤ → Option Span
ranged lo hi m x = if nat_le (unsigned_abs lo) (2 ^ 65) && nat_le (unsigned_abs hi) (2 ^ 65) then Some (stepped lo hi m x) else None

abbrev pub range_of : Env → Linear → Option Span
range_of env t = ranged (low_of env t) (high_of env t) (modulus env.ranges t) (at_lows env.ranges t)

-- the value of the form lies in the range, wherever the ranges and conditions of the state are true
abbrev pub Ranges : Env → Linear → Option Span → Type 0
Ranges env t answer = IfSome answer (λ r. Follows env.conds env.ranges (λ v. Has r (value v t)))
