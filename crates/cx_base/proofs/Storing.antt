-- What a store leaves in a region.
use Rattle.std.proofs.Common.{◌≡◌, ◌+◌, ◌-◌, ◌*◌, ◌<◌, ◌≤◌, ◌^◌, ◌++◌, ◌⊎◌, ℕ, ℤ, pos, negsuc, ◌≤ℤ◌, ◌<ℤ◌, Bool, List, length, arith, drop, take, refl, ap, sym, ◌∙◌, append_assoc, length-append, length-drop, lit<, inl, inr}
use Rattle.std.specs.Prelude.{nat_abs, slice_range}
use Rattle.std.specs.Int.{int_rem_euclid}
use Rattle.std.specs.List.{splice}
use Rattle.std.proofs.lemmas.Int.{ints}
use Rattle.std.proofs.lemmas.List.{take-append-le, take-take, take_at, drop_at, length-take-le}
use Rattle.std.proofs.lemmas.Slice.{between_is, drop-append-drop}
use Rattle.cx_base.specs.declared.memory.Region.{Region}
use Rattle.cx_base.specs.Bytes.{number_of}
use Rattle.cx_base.specs.Memory.{size_of, loaded, stored, low_bytes}
use Rattle.cx_base.specs.Number.{HasSize, Congruent, wrapped}
use Rattle.cx_base.proofs.Digits.{length-bytes_of, number_of-bytes_of}
use Rattle.cx_base.proofs.Sizes.{at_sizes}
use Rattle.cx_base.proofs.Wrapping.{rest_below, rest_congruent, wrapped-InRange, wrapped-Congruent, only_wrapped, congruent_chain}

-- the remainder is a natural number below the modulus
natural : (r : ℤ) (m : ℕ) → pos 0 ≤ℤ r → r <ℤ pos m → (pos (nat_abs r) ≡ r) × (nat_abs r < m)
natural (pos a) m f g = (refl, omega (arith, ints, g))
natural (negsuc a) m f g = absurd (omega (arith, ints, f))

positive : (s : ℕ) → HasSize s → 0 < 2 ^ (8 * s)
positive s h = at_sizes (λ n. 0 < 2 ^ (8 * n)) (lit< tt) (lit< tt) (lit< tt) (lit< tt) s h

byte_power : (s : ℕ) → HasSize s → 256 ^ s ≡ 2 ^ (8 * s)
byte_power s h = at_sizes (λ n. 256 ^ n ≡ 2 ^ (8 * n)) refl refl refl refl s h

low_is : (size : ℕ) (v : ℤ) → HasSize size → let m = 2 ^ (8 * size) in (pos (nat_abs (int_rem_euclid v (pos m))) ≡ int_rem_euclid v (pos m)) × (nat_abs (int_rem_euclid v (pos m)) < m)
low_is size v h =
    let b = rest_below v (2 ^ (8 * size)) (positive size h) in natural (int_rem_euclid v (pos (2 ^ (8 * size)))) (2 ^ (8 * size)) b.0 b.1

-- to take the low bytes first changes nothing
wrapped_low : (size : ℕ) (signed : Bool) (v : ℤ) → HasSize size → wrapped size signed (pos (nat_abs (int_rem_euclid v (pos (2 ^ (8 * size)))))) ≡ wrapped size signed v
wrapped_low size signed v h =
    let low : ℤ = pos (nat_abs (int_rem_euclid v (pos (2 ^ (8 * size))))) in
    let r = rest_congruent v (2 ^ (8 * size)) (positive size h) in
    let e : Congruent size low v = (r.0, (low_is size v h).0 ∙ r.1) in
    only_wrapped size signed v (wrapped size signed low) h (wrapped-InRange size signed low h) (congruent_chain size (wrapped size signed low) low v (wrapped-Congruent size signed low h) e)

-- the part that was written
part_written : (bytes new : List ℕ) (from to : ℕ) → from ≤ to → to ≤ length bytes → length new ≡ to - from → slice_range (splice bytes from to new) from to ≡ new
part_written bytes new from to order inside size =
    rw (drop_at (take from bytes) (new ++ drop to bytes) from (let fits : from ≤ length bytes = omega arith in length-take-le from bytes fits)) (take_at new (drop to bytes) (to - from) size)

-- a part that was not written
part_kept : (bytes new : List ℕ) (from to at past : ℕ) → from ≤ to → to ≤ length bytes → length new ≡ to - from → (past ≤ from) ⊎ (to ≤ at)
    → slice_range (splice bytes from to new) at past ≡ slice_range bytes at past
part_kept bytes new from to at past order inside size (inl h) =
    let fits : from ≤ length bytes = omega arith in
    let front : past ≤ length (take from bytes) = omega (arith, length-take-le from bytes fits) in
    between_is (splice bytes from to new) at past ∙ ap (drop at) (take-append-le past (take from bytes) (new ++ drop to bytes) front ∙ take-take past from bytes h) ∙ sym (between_is bytes at past)
part_kept bytes new from to at past order inside size (inr h) =
    let fits : from ≤ length bytes = omega arith in
    let front : length (take from bytes ++ new) ≡ to = omega (arith, length-append (take from bytes) new, length-take-le from bytes fits) in
    ap (take (past - at)) (ap (drop at) (sym (append_assoc (take from bytes) new (drop to bytes))) ∙ drop-append-drop to bytes (take from bytes ++ new) at h front)

pub load-stored : (r : Region) (off size : ℕ) (v : ℤ) (signed : Bool) → HasSize size → off + size ≤ size_of r → loaded (stored r off size v) off size signed ≡ wrapped size signed v
load-stored r off size v signed h inside =
    let low : ℕ = nat_abs (int_rem_euclid v (pos (2 ^ (8 * size)))) in
    let same : size ≡ off + size - off = omega arith in
    let order : off ≤ off + size = omega arith in
    let e = part_written r.bytes (low_bytes size v) off (off + size) order inside (length-bytes_of size low ∙ same) in
    let below : low < 256 ^ size = omega (arith, byte_power size h, (low_is size v h).1) in
    ap (λ bytes. wrapped size signed (pos (number_of bytes))) e ∙ ap (λ n. wrapped size signed (pos n)) (number_of-bytes_of size low below) ∙ wrapped_low size signed v h

pub load-apart : (r : Region) (off size : ℕ) (v : ℤ) → off + size ≤ size_of r → (at k : ℕ) (signed : Bool) → (at + k ≤ off) ⊎ (off + size ≤ at) → loaded (stored r off size v) at k signed ≡ loaded r at k signed
load-apart r off size v inside at k signed away =
    let low : ℕ = nat_abs (int_rem_euclid v (pos (2 ^ (8 * size)))) in
    let same : size ≡ off + size - off = omega arith in
    let order : off ≤ off + size = omega arith in
    ap (λ bytes. wrapped k signed (pos (number_of bytes))) (part_kept r.bytes (low_bytes size v) off (off + size) at (at + k) order inside (length-bytes_of size low ∙ same) away)

pub size_of-stored : (r : Region) (off size : ℕ) (v : ℤ) → off + size ≤ size_of r → size_of (stored r off size v) ≡ size_of r
size_of-stored r off size v inside =
    let fits : off ≤ length r.bytes = omega arith in
    let new : List ℕ = low_bytes size v in
    let rest : List ℕ = drop (off + size) r.bytes in
    omega (arith, length-append (take off r.bytes) (low_bytes size v ++ drop (off + size) r.bytes), length-append (low_bytes size v) (drop (off + size) r.bytes), length-drop (off + size) r.bytes, length-take-le off r.bytes fits, length-bytes_of size (nat_abs (int_rem_euclid v (pos (2 ^ (8 * size))))))
