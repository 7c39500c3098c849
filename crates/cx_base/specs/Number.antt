-- The integer types of C, as the System V AMD64 ABI has them (3.1.2), and what they hold (C11 6.2.6.2).
use Rattle.std.specs.Int.{int_rem_euclid}
use Rattle.std.specs.Prelude.{int_le, ℕ, ℤ, pos, ◌≡◌, ◌+ℤ◌, ◌-ℤ◌, ◌*ℤ◌, ◌≤ℤ◌, ◌<ℤ◌, ◌*◌, ◌-◌, ◌^◌, ◌||◌, ◌&&◌, ◌==◌, if◌then◌else◌, IsTrue, Bool, true, false}

-- a size of an integer type, in bytes
abbrev pub HasSize : ℕ → Type 0
HasSize n = IsTrue (n == 1 || n == 2 || n == 4 || n == 8)

-- half of the number of values of an integer type of this size
unfoldable pub half_of : ℕ → ℕ
half_of size = 2 ^ (8 * size - 1)

-- the number is in the range of the integer type of this size and sign
abbrev pub InRange : ℕ → Bool → ℤ → Type 0
InRange size true v = ((pos 0 -ℤ pos (half_of size)) ≤ℤ v) × (v <ℤ pos (half_of size))
InRange size false v = (pos 0 ≤ℤ v) × (v <ℤ pos (2 * half_of size))

-- the numbers differ by a multiple of 2 ^ (8 * size)
abbrev pub Congruent : ℕ → ℤ → ℤ → Type 0
Congruent size a b = (k : ℤ) × (a ≡ b +ℤ k *ℤ pos (2 ^ (8 * size)))

-- the number of the range that differs from v by a multiple of 2 ^ (8 * size) (C11 6.3.1.3; a signed type wraps too)
abbrev pub wrapped : ℕ → Bool → ℤ → ℤ
wrapped size signed v =
    let low = int_rem_euclid v (pos (2 * half_of size)) in
    if signed && int_le (pos (half_of size)) low then low -ℤ pos (2 * half_of size) else low
