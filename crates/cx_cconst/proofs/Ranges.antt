-- Numbers of the integer types of C are numbers of 64 bits.
use Rattle.std.proofs.Common.{◌≡◌, ◌≢◌, ℕ, zero, suc, ◌/◌, ◌-◌, ◌*◌, ◌^◌, ◌≤◌, ◌<◌, refl, sym, ap, arith, rules, Bool, true, false, ◌&&◌, ◌||◌, if◌then◌else◌, Some, None, ◌⊎◌, inl, inr, IsTrue, IsFalse, ℤ, pos, negsuc, ◌-ℤ◌, int_div, FitsSigned, of_z, lit≤, nat_abs}
use Rattle.std.specs.Ordering.{int_eq}
use Rattle.std.proofs.lemmas.Bool.Decides.{Decides-int_eq}
use Rattle.cx_base.proofs.Wrapping.{wrapped-InRange}
use Rattle.std.specs.Int.{int_rem_euclid}
use Rattle.std.specs.Int.RustNames.{unsigned_abs}
use Rattle.std.proofs.Math.IntN.{neg_ℤ}
use Rattle.std.proofs.Math.Nat.{div-le_self}
use native.Mathlib.Nat.{div-lt_self, div-one, eq-or-lt_of_le}
use Rattle.std.proofs.Math.Pow.{pow-lt}
use mir.Syntax.{w128}
use Rattle.std.proofs.lemmas.Int.{ints, fits_signed_from_abs}
use Rattle.cx_base.specs.Number.{HasSize, InRange, wrapped, half_of}
use Rattle.cx_base.specs.declared.number.CInt.{CInt}
use Rattle.cx_cconst.specs.Word.{IsWord, overflowing}
use Rattle.cx_cconst.specs.Constants.{divided}
use Rattle.cx_base.proofs.Sizes.{at_sizes, two_halves}

half_small : (s : ℕ) → HasSize s → half_of s ≤ 2 ^ 63
unfolding half_of
half_small s h = at_sizes (λ n. 2 ^ (8 * n - 1) ≤ 2 ^ 63) (lit≤ tt) (lit≤ tt) (lit≤ tt) (lit≤ tt) s h

pub in_word : (size : ℕ) (signed : Bool) (v : ℤ) → HasSize size → InRange size signed v → IsWord v
in_word size true v h r = let s = half_small size h in let a = r.0 in let b = r.1 in record { low = omega (arith, ints); high = omega (arith, ints) }
in_word size false v h r = let s = half_small size h in let a = r.0 in let b = r.1 in record { low = omega (arith, ints); high = omega (arith, ints) }

pub unsigned_bits : (size : ℕ) (v : ℤ) → HasSize size → nat_abs (wrapped size false v) ≡ nat_abs (int_rem_euclid v (pos (2 ^ (8 * size))))
unsigned_bits size v h = ap (λ n. nat_abs (int_rem_euclid v (pos n))) (sym (two_halves size h))

-- ---- quotients

abs-neg : (n : ℕ) → unsigned_abs (neg_ℤ (pos n)) ≡ n
abs-neg zero = refl
abs-neg (suc n) = refl

abs-quotient : (x y : ℤ) → unsigned_abs (int_div x y) ≤ unsigned_abs x
abs-quotient (pos a) (pos b) = div-le_self a b
abs-quotient (pos a) (negsuc b) = rw (abs-neg (a / suc b)) (div-le_self a (suc b))
abs-quotient (negsuc a) (pos b) = rw (abs-neg (suc a / b)) (div-le_self (suc a) b)
abs-quotient (negsuc a) (negsuc b) = div-le_self (suc a) (suc b)

-- by two or more, the quotient is smaller
halved : (a b : ℕ) → a ≤ 2 ^ 127 → a / suc (suc b) < 2 ^ 127
halved zero b h = omega (arith, div-le_self 0 (suc (suc b)))
halved (suc a) b h =
    let below : suc a / suc (suc b) < suc a = div-lt_self (omega arith) (omega arith) in
    omega arith

both_true : (a b : Bool) → IsTrue (a && b) → (a ≡ true) × (b ≡ true)
both_true true true h = (refl, refl)
both_true true false h = search rules
both_true false b h = search rules

least_over : (a : ℕ) → a ≡ 2 ^ 127 - 1 → IsTrue (overflowing (negsuc a) (negsuc 0))
least_over a e = rw e refl

by_one : (a : ℕ) → IsFalse (overflowing (negsuc a) (negsuc 0)) → FitsSigned w128 (negsuc a) → suc a / 1 < 2 ^ 127
by_one a h f = either (eq-or-lt_of_le (at_most a f))
  where
    at_most : (a : ℕ) → FitsSigned w128 (negsuc a) → a ≤ 2 ^ 127 - 1
    at_most a f = let g = f.sfits in omega arith

    no : (b : Bool) → IsTrue b → IsFalse b → suc a / 1 < 2 ^ 127
    no true t h = absurd (cc)
    no false t h = absurd (cc)

    either : (a ≡ 2 ^ 127 - 1) ⊎ (a < 2 ^ 127 - 1) → suc a / 1 < 2 ^ 127
    either (inl e) = no (overflowing (negsuc a) (negsuc 0)) (least_over a e) h
    either (inr l) = omega (arith, div-one (suc a))

pub quotient_fits : (x y : ℤ) → FitsSigned w128 x → IsFalse (overflowing x y) → FitsSigned w128 (int_div x y)
quotient_fits (pos a) y f h = let g = f.sfits in fits_signed_from_abs w128 (int_div (pos a) y) (omega (arith, abs-quotient (pos a) y))
quotient_fits (negsuc a) (pos b) f h = search rules
quotient_fits (negsuc a) (negsuc zero) f h = record { sfits = by_one a h f }
quotient_fits (negsuc a) (negsuc (suc b)) f h = let g = f.sfits in record { sfits = halved (suc a) b (omega arith) }

-- no integer type holds that quotient
pub not_held : (size : ℕ) (signed : Bool) (x y : ℤ) → HasSize size → IsTrue (overflowing x y) → int_eq (wrapped size signed (int_div x y)) (int_div x y) ≡ false
not_held size signed x y s o = told (int_eq (wrapped size signed (int_div x y)) (int_div x y)) refl
  where
    tests : (int_eq x (pos 0 -ℤ pos (2 ^ 127)) ≡ true) × (int_eq y (negsuc 0) ≡ true)
    tests = both_true (int_eq x (pos 0 -ℤ pos (2 ^ 127))) (int_eq y (negsuc 0)) o

    great : int_div x y ≡ pos (2 ^ 127)
    great = rw ((Decides-int_eq x (pos 0 -ℤ pos (2 ^ 127))).0 tests.0, (Decides-int_eq y (negsuc 0)).0 tests.1) refl

    small : IsWord (wrapped size signed (int_div x y))
    small = in_word size signed (wrapped size signed (int_div x y)) s (wrapped-InRange size signed (int_div x y) s)

    told : (b : Bool) → int_eq (wrapped size signed (int_div x y)) (int_div x y) ≡ b → b ≡ false
    told false e = refl
    told true e =
        let same : wrapped size signed (int_div x y) ≡ int_div x y = (Decides-int_eq (wrapped size signed (int_div x y)) (int_div x y)).0 e in
        let h = small.high in
        absurd (omega (arith, ints, same, great, h))

-- so there is no quotient, and nothing that comes with it
pub no_quotient : (t : CInt) (x y r : ℤ) → HasSize t.size → IsTrue (overflowing x y) → None ≡ divided t x y r
no_quotient t x y r k o = rw (not_held t.size t.signed x y k o) (either (int_eq y (pos 0)))
  where
    either : (b : Bool) → None ≡ (if b || true then None else Some r)
    either true = refl
    either false = refl

pub nonzero_bits : (y : ℤ) → FitsSigned w128 y → y ≢ pos 0 → 0 < of_z w128 y
nonzero_bits (pos zero) f h = absurd (h refl)
nonzero_bits (pos (suc n)) f h = omega arith
nonzero_bits (negsuc n) f h = let g = f.sfits in omega arith

-- ---- powers

pub power_fits : (n : ℕ) → n < 64 → FitsSigned w128 (pos (2 ^ n))
power_fits n h = let e : 2 ^ n < 2 ^ 64 = pow-lt h in record { sfits = omega (arith, e) }
