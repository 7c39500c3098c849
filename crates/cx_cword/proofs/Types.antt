-- No constant from 2 ^ 64 on has a type, so such constants are all alike.
use Rattle.std.proofs.Common.{◌≡◌, ℕ, ◌^◌, ◌≤◌, Bool, true, false, refl, sym, ap, ◌∙◌, arith, inl, inr}
use Rattle.std.specs.Prelude.{nat_lt, ◌&&◌, not, ◌||◌, Option, Some, None}
use Rattle.std.proofs.lemmas.Bool.Decides.{nat_tests}
use Rattle.cx_cword.specs.declared.integer.Suffix.{Suffix}
use Rattle.cx_cword.specs.Integers.{may_be_int, may_be_unsigned_int, may_be_long, may_be_unsigned_long, type_of_value, typed_by}
use Rattle.cx_cword.proofs.DigitLemmas.{Alike, either}

not_below : (v n : ℕ) → n ≤ v → nat_lt v n ≡ false
not_below v n h = grind (arith, nat_tests)

and_false : (a : Bool) → a && false ≡ false
and_false true = refl
and_false false = refl

no_int : (decimal : Bool) (s : Suffix) (v : ℕ) → 2 ^ 64 ≤ v → may_be_int decimal s v ≡ false
unfolding may_be_int
no_int decimal s v h = ap (λ t. not s.unsigned && not s.long && t) (not_below v (2 ^ 31) (omega (arith, h))) ∙ and_false (not s.unsigned && not s.long)

no_unsigned_int : (decimal : Bool) (s : Suffix) (v : ℕ) → 2 ^ 64 ≤ v → may_be_unsigned_int decimal s v ≡ false
unfolding may_be_unsigned_int
no_unsigned_int decimal s v h = ap (λ t. (s.unsigned || not decimal) && not s.long && t) (not_below v (2 ^ 32) (omega (arith, h))) ∙ and_false ((s.unsigned || not decimal) && not s.long)

no_long : (decimal : Bool) (s : Suffix) (v : ℕ) → 2 ^ 64 ≤ v → may_be_long decimal s v ≡ false
unfolding may_be_long
no_long decimal s v h = ap (λ t. not s.unsigned && t) (not_below v (2 ^ 63) (omega (arith, h))) ∙ and_false (not s.unsigned)

no_unsigned_long : (decimal : Bool) (s : Suffix) (v : ℕ) → 2 ^ 64 ≤ v → may_be_unsigned_long decimal s v ≡ false
unfolding may_be_unsigned_long
no_unsigned_long decimal s v h = ap (λ t. (s.unsigned || not decimal) && t) (not_below v (2 ^ 64) h) ∙ and_false (s.unsigned || not decimal)

pub no_type : (decimal : Bool) (s : Suffix) (v : ℕ) → 2 ^ 64 ≤ v → type_of_value decimal s v ≡ None
no_type decimal s v h = rw (no_int decimal s v h, no_unsigned_int decimal s v h, no_long decimal s v h, no_unsigned_long decimal s v h) refl

untyped : (decimal : Bool) (s : Option Suffix) (v : ℕ) → 2 ^ 64 ≤ v → typed_by decimal v s ≡ None
untyped decimal None v h = refl
untyped decimal (Some s) v h = rw (no_type decimal s v h) refl

pub typed_alike : (decimal : Bool) (s : Option Suffix) (v w : ℕ) → Alike v w → typed_by decimal v s ≡ typed_by decimal w s
typed_alike decimal s v w e = elim (either v w e) [
  | inl same ↦ ap (λ n. typed_by decimal n s) same
  | inr big ↦ untyped decimal s v big.0 ∙ sym (untyped decimal s w big.1)
]
