-- The first place at which a test passes.
use Rattle.std.proofs.Common.{◌≡◌, ◌<◌, ℕ, List, None, Some, length, arith, position, slice_index_or, Bool, true, false, cond, nat_lt, refl}
use Rattle.std.specs.List.{position_or_len}
use Rattle.std.proofs.lemmas.Bool.Decides.{nat_tests}
use Rattle.std.proofs.lemmas.List.Sums.{fails_before_first}

test_false : (t : Bool) (n : ℕ) → cond t (Some n) None ≡ None → t ≡ false
test_false true n e = absurd (cc e)
test_false false n e = refl

-- no element passes a test that has no first place
pub position_none : {X : Type 0} (p : X → Bool) (xs : List X) → position p xs ≡ None → (k : ℕ) (d : X) → k < length xs → p (slice_index_or xs k d) ≡ false
position_none p xs e k d h =
    let past : nat_lt (position_or_len p xs) (length xs) ≡ false = test_false _ _ e in
    fails_before_first p xs k d (grind (arith, nat_tests, past, h))
