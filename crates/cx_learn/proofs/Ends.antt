-- The ends of ranges, quotients and equal numbers, as the code has them.
use Rattle.std.specs.Prelude.{◌≡◌, ℤ, pos, ◌-ℤ◌, ◌<ℤ◌, ◌≤◌, ◌^◌, ◌&&◌, int_lt, int_le, unsigned_abs, IsTrue, IfOk, Result, Ok, Err, Bool, true, false}
use Rattle.std.proofs.Common.{arith, refl, cond}
use Rattle.std.proofs.lemmas.Int.{ints}
use Rattle.std.proofs.lemmas.Bool.Decides.{nat_tests}
use Rattle.cx_entail.specs.Ranges.{Span, IsRange, first, last, low, high, same_z}
use Rattle.cx_entail.proofs.Congruences.{zero_distance}
use Rattle.cx_entail.proofs.RangeLaws.{first-lo, last-hi}
use Rattle.cx_learn.specs.Learning.{raised}
use lib.Signed.{le_z}

low_by : (a : Span) (b : Bool) → le_z (first a) a.hi ≡ b → IsRange a → unsigned_abs (cond b (first a) a.lo) ≤ 2 ^ 65
low_by a true e h = omega (arith, ints, e, first-lo a h.positive, h.low, h.high)
low_by a false e h = h.low

pub low-small : (a : Span) → IsRange a → unsigned_abs (low a) ≤ 2 ^ 65
low-small a h = low_by a (le_z (first a) a.hi) refl h

high_by : (a : Span) (b : Bool) → le_z a.lo (last a) ≡ b → IsRange a → unsigned_abs (cond b (last a) a.hi) ≤ 2 ^ 65
high_by a true e h = omega (arith, ints, e, last-hi a h.positive, h.low, h.high)
high_by a false e h = h.high

pub high-small : (a : Span) → IsRange a → unsigned_abs (high a) ≤ 2 ^ 65
high-small a h = high_by a (le_z a.lo (last a)) refl h

past_by : (r x : Span) (a b : Bool) → b ≡ false → cond (a && b) x r ≡ r
past_by r x a true e = absurd (cc)
past_by r x true false e = refl
past_by r x false false e = refl

not_up_to : (z y : ℤ) (b : Bool) → int_le z y ≡ b → unsigned_abs y ≤ 2 ^ 65 → pos (2 ^ 66) <ℤ z → int_le z y ≡ false
not_up_to z y true e h l = absurd (omega (arith, ints, e, h, l))
not_up_to z y false e h l = e

-- past the bounds of ranges nothing is raised
pub raised-past : (z : ℤ) (r : Span) → IsRange r → pos (2 ^ 66) <ℤ z → raised z r ≡ r
raised-past z r h l = past_by r (record r { lo = z }) (int_lt r.lo z) (int_le z (high r)) (not_up_to z (high r) (int_le z (high r)) refl (high-small r h) l)

same_zero : (a : ℤ) → same_z a a ≡ true
same_zero a = let h : unsigned_abs (a -ℤ a) ≡ 0 = omega (arith, ints) in rw h refl

same_by : (r t : Bool) (a b : ℤ) → same_z a b ≡ t → (IsTrue r → a ≡ b) → (a ≡ b → IsTrue r) → r ≡ t
same_by true true a b e f g = refl
same_by false false a b e f g = refl
same_by true false a b e f g = absurd (let h = f refl in let k : same_z b b ≡ false = rw h at e in let w : true ≡ false = rw (same_zero b) at k in cc)
same_by false true a b e f g = absurd (let h : a ≡ b = zero_distance a b (grind (arith, nat_tests)) in let w : false ≡ true = g h in cc)

pub same-is : (r : Bool) (a b : ℤ) → (IsTrue r → a ≡ b) → (a ≡ b → IsTrue r) → r ≡ same_z a b
same-is r a b f g = same_by r (same_z a b) a b refl f g

-- another fact of the state that is given
pub ok-with : {X E : Type 0} (r : Result X E) (P Q : X → Type 0) → IfOk r P → ((x : X) → P x → Q x) → IfOk r Q
ok-with (Ok x) P Q h f = f x h
ok-with (Err e) P Q h f = tt
