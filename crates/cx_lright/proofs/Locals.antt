-- Locals that are the same below a number.
use Rattle.std.proofs.Common.{ℕ, zero, suc, ℤ, ◌≡◌, ◌<◌, ◌≤◌, [], ◌∷◌, length, Option, Some, refl, ap, ◌∙◌, arith}
use Rattle.std.specs.Prelude.{slice_get, slice_set}
use Rattle.std.proofs.lemmas.List.{length-set}
use Rattle.cx_goto.specs.Machine.{unset_from}
use Rattle.cx_world.specs.World.{Locals}

-- the locals of code are those of the tree below n
pub record Matches (n : ℕ) (xs ls : Locals) : Type 0 where
  pub same : (x : ℕ) → x < n → slice_get ls x ≡ slice_get xs x

-- the locals of code are as before below n
pub record Kept (n : ℕ) (ls ms : Locals) : Type 0 where
  pub same : (x : ℕ) → x < n → slice_get ms x ≡ slice_get ls x
  pub long : length ms ≡ length ls

pub kept_refl : (n : ℕ) (ls : Locals) → Kept n ls ls
kept_refl n ls = record { same = λ x h. refl; long = refl }

pub kept_trans : (n m : ℕ) (ls ms ns : Locals) → n ≤ m → Kept n ls ms → Kept m ms ns → Kept n ls ns
kept_trans n m ls ms ns le a b = record { same = λ x h. b.same x (omega arith) ∙ a.same x h; long = b.long ∙ a.long }

pub matches_kept : (n m : ℕ) (xs ls ms : Locals) → n ≤ m → Matches n xs ls → Kept m ls ms → Matches n xs ms
matches_kept n m xs ls ms le a b = record { same = λ x h. b.same x (omega arith) ∙ a.same x h }

pub get-set_same : (xs : Locals) (i : ℕ) (v : Option ℤ) → i < length xs → slice_get (slice_set xs i v) i ≡ Some v
get-set_same [] i v h = absurd (omega arith)
get-set_same (x ∷ xs) zero v h = refl
get-set_same (x ∷ xs) (suc i) v h = get-set_same xs i v (omega arith)

pub get-set_other : (xs : Locals) (i j : ℕ) (v : Option ℤ) → j < i → slice_get (slice_set xs i v) j ≡ slice_get xs j
get-set_other [] i j v h = refl
get-set_other (x ∷ xs) zero j v h = absurd (omega arith)
get-set_other (x ∷ xs) (suc i) zero v h = refl
get-set_other (x ∷ xs) (suc i) (suc j) v h = get-set_other xs i j v (omega arith)

pub get-set_below : (xs : Locals) (i j : ℕ) (v : Option ℤ) → i < j → slice_get (slice_set xs i v) j ≡ slice_get xs j
get-set_below [] i j v h = refl
get-set_below (x ∷ xs) zero zero v h = absurd (omega arith)
get-set_below (x ∷ xs) zero (suc j) v h = refl
get-set_below (x ∷ xs) (suc i) zero v h = absurd (omega arith)
get-set_below (x ∷ xs) (suc i) (suc j) v h = get-set_below xs i j v (omega arith)

pub kept_set : (n i : ℕ) (ls : Locals) (v : Option ℤ) → n ≤ i → Kept n ls (slice_set ls i v)
kept_set n i ls v le = record { same = λ x h. get-set_other ls i x v (omega arith); long = length-set ls i v }

pub get-unset : (k : ℕ) (xs : Locals) (x : ℕ) → x < k → slice_get (unset_from k xs) x ≡ slice_get xs x
get-unset k [] x h = refl
get-unset zero (y ∷ xs) x h = absurd (omega arith)
get-unset (suc k) (y ∷ xs) zero h = refl
get-unset (suc k) (y ∷ xs) (suc x) h = get-unset k xs x (omega arith)

pub length-unset : (k : ℕ) (xs : Locals) → length (unset_from k xs) ≡ length xs
length-unset k [] = refl
length-unset zero (y ∷ xs) = ap suc (length-unset zero xs)
length-unset (suc k) (y ∷ xs) = ap suc (length-unset k xs)

pub kept_unset : (n k : ℕ) (ls : Locals) → n ≤ k → Kept n ls (unset_from k ls)
kept_unset n k ls le = record { same = λ x h. get-unset k ls x (omega arith); long = length-unset k ls }

set_both : (xs ls : Locals) (i j : ℕ) (v : Option ℤ) → i < length xs → i < length ls → slice_get ls j ≡ slice_get xs j → slice_get (slice_set ls i v) j ≡ slice_get (slice_set xs i v) j
set_both [] ls i j v a b e = absurd (omega arith)
set_both (x ∷ xs) [] i j v a b e = absurd (omega arith)
set_both (x ∷ xs) (y ∷ ls) zero zero v a b e = refl
set_both (x ∷ xs) (y ∷ ls) zero (suc j) v a b e = e
set_both (x ∷ xs) (y ∷ ls) (suc i) zero v a b e = e
set_both (x ∷ xs) (y ∷ ls) (suc i) (suc j) v a b e = set_both xs ls i j v (omega arith) (omega arith) e

-- a local of the tree is set in both
pub matches_set : (n i : ℕ) (xs ls : Locals) (v : Option ℤ) → i < length xs → i < length ls → Matches n xs ls → Matches n (slice_set xs i v) (slice_set ls i v)
matches_set n i xs ls v a b m = record { same = λ x h. set_both xs ls i x v a b (m.same x h) }
