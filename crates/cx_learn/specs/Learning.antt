-- What a state becomes when a condition is learnt.
use Rattle.std.specs.Prelude.{ℕ, ℤ, pos, negsuc, neg_ℤ, ◌+ℤ◌, ◌-ℤ◌, unsigned_abs, int_lt, int_le, nat_lt, nat_le, ◌==◌, ◌^◌, ◌&&◌, if◌then◌else◌, Bool, List, [], ◌∷◌, ◌++◌, length, slice_get, slice_set, Option, Some, None, Ok, Err}
use Rattle.std.specs.Int.{int_div_euclid}
use Rattle.cx_term.specs.Forms.{Linear, fit, symbol_of}
use Rattle.cx_term.specs.Sums.{plus_times}
use Rattle.cx_term.specs.declared.term.Ineq.{Ineq}
use Rattle.cx_term.specs.declared.term.Ineq.TheVariants.{Ge, Ne}
use Rattle.cx_entail.specs.Bounds.{range_at, most}
use Rattle.cx_entail.specs.Ranges.{Span, low, high, same_z}
use Rattle.cx_entail.specs.Shows.{shown_nonzero, less_one, minus, minus_less_one}
use Rattle.cx_state.specs.declared.state.Env.{Env}
use Rattle.cx_state.specs.declared.state.EnvFault.TheVariants.{Limit}
use Rattle.cx_state.specs.declared.state.EnvLimit.TheVariants.{Conds}
use Rattle.cx_query.specs.Shown.{shown_in}
use Rattle.cx_learn.specs.Answers.{Answer}

-- ---- ranges

-- the range from z on, where that is above its lower bound and leaves a number
abbrev pub raised : ℤ → Span → Span
raised z r = if int_lt r.lo z && int_le z (high r) then record r { lo = z } else r

-- the range up to z, where that is below its upper bound and leaves a number
abbrev pub lowered : ℤ → Span → Span
lowered z r = if int_lt z r.hi && int_le (low r) z then record r { hi = z } else r

-- the form without the part
abbrev pub others : Linear → ℕ × ℤ → Option Linear
others t p = fit (plus_times (neg_ℤ p.1) (symbol_of p.0) t)

-- how far the other symbols let the symbol of the part go: their greatest value divided by the coefficient's size, rounded down
abbrev pub reach : List Span → Linear → ℕ × ℤ → ℤ
reach rs rest p = int_div_euclid (most rs rest) (pos (unsigned_abs p.1))

abbrev pub bounded_by : List Span → Option Linear → ℕ × ℤ → Span
bounded_by rs None p = range_at rs p.0
bounded_by rs (Some rest) p =
    if int_lt (pos 0) p.1
    then raised (neg_ℤ (reach rs rest p)) (range_at rs p.0)
    else (if int_lt p.1 (pos 0) then lowered (reach rs rest p) (range_at rs p.0) else range_at rs p.0)

-- the range of the part's symbol, with the bound that it has where t is at least 0
abbrev pub bounded : List Span → Linear → ℕ × ℤ → Span
bounded rs t p = bounded_by rs (others t p) p

-- the ranges where t is at least 0: the symbol of each of the parts in order is bounded
abbrev pub all_bounded : Linear → List (ℕ × ℤ) → List Span → List Span
all_bounded t [] rs = rs
all_bounded t (p ∷ ps) rs = all_bounded t ps (slice_set rs p.0 (bounded rs t p))

-- ---- conditions

-- the form is shown not to be 0
unfoldable pub nonzero_in : Env → Linear → Bool
nonzero_in env t = shown_nonzero env.conds env.ranges t

-- the state with one condition more
abbrev pub with_cond : Env → Ineq → Answer
with_cond env c = if nat_lt (length env.conds) 64 then Ok (record env { conds = env.conds ++ c ∷ [] }) else Err (Limit Conds)

abbrev pub with_ranges : Env → List Span → Env
with_ranges env rs = record env { ranges = rs }

-- t is at least 0: nothing where that is shown. Else the symbols are bounded, and where they are two or more the condition is kept
abbrev pub learnt_ge : Env → Linear → Answer
learnt_ge env t =
    if shown_in env (Some t)
    then Ok env
    else (if nat_lt 1 (length t.parts)
    then with_cond (with_ranges env (all_bounded t t.parts env.ranges)) (Ge t)
    else Ok (with_ranges env (all_bounded t t.parts env.ranges)))

-- a condition that is no `Term` is left out
abbrev pub learnt_if : Env → Option Linear → Answer
learnt_if env None = Ok env
learnt_if env (Some t) = learnt_ge env t

abbrev pub excluded_by : ℤ → Option (ℕ × ℤ) → Option (ℕ × ℤ)
excluded_by z None = None
excluded_by z (Some p) = if same_z p.1 (pos 1) then Some (p.0, neg_ℤ z) else (if same_z p.1 (negsuc 0) then Some (p.0, z) else None)

-- the symbol and the number that it is not, where t is not 0, and is a number plus or minus one symbol
abbrev pub excluded : Linear → Option (ℕ × ℤ)
excluded t = if length t.parts == 1 then excluded_by t.konst (slice_get t.parts 0) else None

-- the range, where its bounds are those of a range
abbrev pub fitted : Span → Option Span
fitted r = if nat_le (unsigned_abs r.lo) (2 ^ 65) && nat_le (unsigned_abs r.hi) (2 ^ 65) then Some r else None

-- the range without the number, where that is one of its ends and not its only number
abbrev pub end_moved : Span → ℤ → Option Span
end_moved r z =
    if same_z (low r) (high r)
    then None
    else (if same_z z (low r)
    then fitted (record r { lo = low r +ℤ pos r.m })
    else (if same_z z (high r) then fitted (record r { hi = high r -ℤ pos r.m }) else None))

abbrev pub moved_to : Env → Linear → ℕ → Option Span → Answer
moved_to env t s None = with_cond env (Ne t)
moved_to env t s (Some r) = Ok (with_ranges env (slice_set env.ranges s r))

-- t is not 0: an end of its only symbol's range moves, else the condition is kept
abbrev pub excluding : Env → Linear → Option (ℕ × ℤ) → Answer
excluding env t None = with_cond env (Ne t)
excluding env t (Some x) = moved_to env t x.0 (end_moved (range_at env.ranges x.0) x.1)

-- t is not 0: nothing where that is shown. Where t is shown to be at least 0, it is above 0, and where -t is, below
abbrev pub learnt_ne : Env → Linear → Answer
learnt_ne env t =
    if nonzero_in env t
    then Ok env
    else (if shown_in env (Some t)
    then learnt_if env (less_one t)
    else (if shown_in env (minus t) then learnt_if env (minus_less_one t) else excluding env t (excluded t)))

abbrev pub learnt : Env → Ineq → Answer
learnt env (Ge t) = learnt_ge env t
learnt env (Ne t) = learnt_ne env t
