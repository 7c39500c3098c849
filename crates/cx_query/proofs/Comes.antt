-- What computed forms come to, and what is shown of them.
use Rattle.std.specs.Prelude.{◌≡◌, ℕ, ℤ, pos, negsuc, ◌+ℤ◌, ◌-ℤ◌, ◌≤ℤ◌, Option, Some, None, Bool, true, false}
use Rattle.std.specs.List.{AllByRecursion}
use Rattle.std.proofs.Common.{arith, refl, cond}
use Rattle.std.proofs.lemmas.Int.{ints}
use Rattle.cx_term.specs.Forms.{Linear, value, within, fit, constant_of, symbol_of}
use Rattle.cx_term.specs.Conditions.{Holds}
use Rattle.cx_term.specs.Sums.{plus_times}
use Rattle.cx_term.proofs.Exact.{value-plus_times}
use Rattle.cx_term.proofs.Tests.{and_left, and_right}
use Rattle.cx_entail.specs.Bounds.{InRanges}
use Rattle.cx_entail.proofs.Sound.{shown_sound}
use Rattle.cx_state.specs.declared.state.Env.{Env}
use Rattle.cx_query.specs.Shown.{difference, sum, number, shown_in, at_least, at_most, shown_equal, shown_zero}

-- the values are in the ranges, and the conditions are true
pub record Meets (env : Env) (v : ℕ → ℤ) : Type 0 where
  pub ranges : InRanges env.ranges v
  pub conds : AllByRecursion (Holds v) env.conds

-- where there is a form, its value is z
abbrev pub Comes : (ℕ → ℤ) → Option Linear → ℤ → Type 0
Comes v o z = (u : Linear) → o ≡ Some u → value v u ≡ z

fit_by : (v : ℕ → ℤ) (t : Linear) (z : ℤ) (b : Bool) → value v t ≡ z → Comes v (cond b (Some t) None) z
fit_by v t z true e u q = let f : t ≡ u = cc in rw (← f) e
fit_by v t z false e u q = absurd (cc)

pub fit-comes : (v : ℕ → ℤ) (t : Linear) (z : ℤ) → value v t ≡ z → Comes v (fit t) z
fit-comes v t z e = fit_by v t z (within t) e

pub some-comes : (v : ℕ → ℤ) (t : Linear) → Comes v (Some t) (value v t)
some-comes v t u q = let f : t ≡ u = cc in rw (← f) refl

pub number-comes : (v : ℕ → ℤ) (z : ℤ) → Comes v (number z) z
number-comes v z = fit-comes v (constant_of z) z (omega (arith, ints))

pub value-symbol : (v : ℕ → ℤ) (s : ℕ) → value v (symbol_of s) ≡ v s
value-symbol v s = omega (arith, ints)

pub difference-comes : (v : ℕ → ℤ) (a b : Option Linear) (x y : ℤ) → Comes v a x → Comes v b y → Comes v (difference a b) (x -ℤ y)
difference-comes v None b x y g h u e = absurd (cc)
difference-comes v (Some s) None x y g h u e = absurd (cc)
difference-comes v (Some s) (Some t) x y g h u e =
    fit-comes v (plus_times (negsuc 0) t s) (x -ℤ y) (omega (arith, ints, value-plus_times (negsuc 0) t s v, g s refl, h t refl)) u e

pub sum-comes : (v : ℕ → ℤ) (a b : Option Linear) (x y : ℤ) → Comes v a x → Comes v b y → Comes v (sum a b) (x +ℤ y)
sum-comes v None b x y g h u e = absurd (cc)
sum-comes v (Some s) None x y g h u e = absurd (cc)
sum-comes v (Some s) (Some t) x y g h u e =
    fit-comes v (plus_times (pos 1) t s) (x +ℤ y) (omega (arith, ints, value-plus_times (pos 1) t s v, g s refl, h t refl)) u e

pub shown_in-sound : (env : Env) (v : ℕ → ℤ) (o : Option Linear) (z : ℤ) → Meets env v → Comes v o z → shown_in env o ≡ true → pos 0 ≤ℤ z
unfolding shown_in
shown_in-sound env v None z m c e = absurd (let w : false ≡ true = e in cc)
shown_in-sound env v (Some t) z m c e = omega (arith, ints, shown_sound env.conds env.ranges v m.ranges m.conds t e, c t refl)

pub at_least-sound : (env : Env) (v : ℕ → ℤ) (t : Linear) (z : ℤ) → Meets env v → at_least env t z ≡ true → z ≤ℤ value v t
at_least-sound env v t z m e =
    omega (arith, ints, shown_in-sound env v (difference (Some t) (number z)) (value v t -ℤ z) m (difference-comes v (Some t) (number z) (value v t) z (some-comes v t) (number-comes v z)) e)

pub at_most-sound : (env : Env) (v : ℕ → ℤ) (t : Linear) (z : ℤ) → Meets env v → at_most env t z ≡ true → value v t ≤ℤ z
at_most-sound env v t z m e =
    omega (arith, ints, shown_in-sound env v (difference (number z) (Some t)) (z -ℤ value v t) m (difference-comes v (number z) (Some t) z (value v t) (number-comes v z) (some-comes v t)) e)

pub equal-sound : (env : Env) (v : ℕ → ℤ) (a b : Option Linear) (x y : ℤ) → Meets env v → Comes v a x → Comes v b y → shown_equal env a b ≡ true → x ≡ y
equal-sound env v a b x y m g h e =
    omega (
      arith,
      ints,
      shown_in-sound env v (difference a b) (x -ℤ y) m (difference-comes v a b x y g h) (and_left (shown_in env (difference a b)) (shown_in env (difference b a)) e),
      shown_in-sound env v (difference b a) (y -ℤ x) m (difference-comes v b a y x h g) (and_right (shown_in env (difference a b)) (shown_in env (difference b a)) e),
    )

pub zero-sound : (env : Env) (v : ℕ → ℤ) (t : Linear) → Meets env v → shown_zero env t ≡ true → value v t ≡ pos 0
zero-sound env v t m e = equal-sound env v (Some t) (number (pos 0)) (value v t) (pos 0) m (some-comes v t) (number-comes v (pos 0)) e
