-- Numbers as bytes.
use Rattle.std.proofs.Common.{◌≡◌, ◌+◌, ◌*◌, ◌/◌, ◌%◌, ◌-◌, ◌<◌, ◌≤◌, ◌^◌, ◌++◌, ℕ, zero, suc, List, length, arith, drop, take, get_or, set, append_assoc, refl, ap, ◌∙◌, add-one, drop-cons}
use Rattle.std.specs.List.{splice}
use Rattle.std.proofs.Math.Nat.{pow-le-pow_right}
use Rattle.std.proofs.lemmas.List.Edits.{sets, sets-eq}
use Rattle.cx_base.specs.Bytes.{number_of, bytes_of}

-- the number of the last bytes, one more of them
pub more_bytes : (bytes : List ℕ) (n i : ℕ) → n ≡ length bytes → i < n
    → number_of (drop (n - (i + 1)) bytes) ≡ get_or bytes (n - 1 - i) 0 + 256 * number_of (drop (n - i) bytes)
more_bytes bytes n i e h =
    let j : ℕ = n - 1 - i in
    let below : n - 1 - i < length bytes = omega arith in
    let same : n - (i + 1) ≡ n - 1 - i = omega arith in
    let next : n - i ≡ suc (n - 1 - i) = omega arith in
    rw (same, next, drop-cons bytes (n - 1 - i) 0) refl

pub pow_fits : (i : ℕ) → i < 8 → 256 ^ i ≤ 72057594037927936
pow_fits i h =
    let some : 0 < 256 = omega arith in
    let few : i ≤ 7 = omega arith in
    pow-le-pow_right some few

pub length-bytes_of : (k n : ℕ) → length (bytes_of k n) ≡ k
length-bytes_of zero n = refl
length-bytes_of (suc k) n = ap suc (length-bytes_of k (n / 256))

-- of a number that has at most k bytes all is written
pub number_of-bytes_of : (k n : ℕ) → n < 256 ^ k → number_of (bytes_of k n) ≡ n
number_of-bytes_of zero n h = omega arith
number_of-bytes_of (suc k) n h =
    let below : n / 256 < 256 ^ k = omega arith in
    let rest = number_of-bytes_of k (n / 256) below in
    omega (arith, rest)

pub sets-splice : (bytes : List ℕ) (from to n : ℕ) → from ≤ to → to ≤ length bytes → sets bytes from (bytes_of (to - from) n) ≡ splice bytes from to (bytes_of (to - from) n)
sets-splice bytes from to n order h =
    let e = length-bytes_of (to - from) n in
    let fits : from + length (bytes_of (to - from) n) ≤ length bytes = omega (arith, e) in
    let same : from + length (bytes_of (to - from) n) ≡ to = omega (arith, e) in
    sets-eq (bytes_of (to - from) n) bytes from fits ∙ append_assoc (take from bytes) (bytes_of (to - from) n) (drop (from + length (bytes_of (to - from) n)) bytes) ∙ ap (λ k. take from bytes ++ (bytes_of (to - from) n ++ drop k bytes)) same

-- one more byte
pub put_more : (bytes : List ℕ) (i to rest : ℕ) → i < to → sets (set bytes i (rest % 256)) (i + 1) (bytes_of (to - (i + 1)) (rest / 256)) ≡ sets bytes i (bytes_of (to - i) rest)
put_more bytes i to rest h = let e : to - i ≡ suc (to - (i + 1)) = omega arith in rw (e, add-one) refl

pub put_all : (bytes : List ℕ) (i to rest : ℕ) → to ≤ i → sets bytes i (bytes_of (to - i) rest) ≡ bytes
put_all bytes i to rest h = let e : to - i ≡ 0 = omega arith in rw e refl
