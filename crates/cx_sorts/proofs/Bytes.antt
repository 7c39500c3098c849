-- Numbers as bytes, and a number written among bytes.
use Rattle.std.proofs.Common.{◌≡◌, ℕ, zero, suc, ◌+◌, ◌*◌, ◌/◌, ◌<◌, ◌≤◌, ◌^◌, ◌-◌, List, [], ◌∷◌, ◌++◌, length, take, drop, refl, sym, ap, ◌∙◌, arith, length-append, length-drop, length-take, take_at, drop_at, append_assoc, drop-drop, take-take, pow-suc, subst, lit<}
use Rattle.std.proofs.lemmas.List.{drop-take, take-append-le, drop-append-le}
use Rattle.std.specs.List.{AllByRecursion}
use Rattle.std.proofs.lemmas.List.Elements.{All-from_recursion, recursion_from_All, All-append, All-take, All-drop}
use Rattle.cx_base.specs.Bytes.{AreBytes, number_of, bytes_of}
use Rattle.cx_sorts.specs.TypedMemory.{number_at}
use Rattle.cx_sorts.specs.Meaning.{with_number}

length_bytes : (k n : ℕ) → length (bytes_of k n) ≡ k
length_bytes zero n = refl
length_bytes (suc k) n = ap suc (length_bytes k (n / 256))

are_bytes : (k n : ℕ) → AllByRecursion (λ b. b < 256) (bytes_of k n)
are_bytes zero n = tt
are_bytes (suc k) n = (omega arith, are_bytes k (n / 256))

-- a number that k bytes can write is what its k low bytes write
number_bytes : (k n : ℕ) → n < 256 ^ k → number_of (bytes_of k n) ≡ n
number_bytes zero n h = omega arith
number_bytes (suc k) n h =
    let less : n < 256 ^ k * 256 = rw (← pow-suc 256 k) h in
    let rest : number_of (bytes_of k (n / 256)) ≡ n / 256 = number_bytes k (n / 256) (omega arith) in
    rw rest (omega arith)

number_below : (bs : List ℕ) → AllByRecursion (λ b. b < 256) bs → number_of bs < 256 ^ length bs
number_below [] h = lit< tt
number_below (b ∷ bs) (h, hs) = rw (pow-suc 256 (length bs)) (omega (arith, number_below bs hs))

-- eight bytes in the middle of a list, and those before and after them
take_middle : (front middle rest : List ℕ) (offset : ℕ) → length front ≡ offset → length middle ≡ 8 → take 8 (drop offset (front ++ middle ++ rest)) ≡ middle
take_middle front middle rest offset n k = rw (append_assoc, drop_at front (middle ++ rest) offset n, take_at middle rest 8 k) refl

take_before : (front rest : List ℕ) (at : ℕ) → at + 8 ≤ length front → take 8 (drop at (front ++ rest)) ≡ take 8 (drop at front)
take_before front rest at h =
    let first : at ≤ length front = omega arith in
    let inside : 8 ≤ length (drop at front) = omega (arith, length-drop at front) in
    rw (drop-append-le at front rest first, take-append-le 8 (drop at front) rest inside) refl

drop_front : (bytes : List ℕ) (at m : ℕ) → 8 ≤ m → take 8 (drop at (take (at + m) bytes)) ≡ take 8 (drop at bytes)
drop_front bytes at m h = rw (drop-take at m bytes, take-take 8 m (drop at bytes) h) refl

take_after : (front rest : List ℕ) (past j : ℕ) → length front ≡ past → drop (past + j) (front ++ rest) ≡ drop j rest
take_after front rest past j n = sym (drop-drop j past (front ++ rest)) ∙ ap (drop j) (drop_at front rest past n)

-- a number written at an offset with 8 bytes from there on
module _ (bytes : List ℕ) (offset v : ℕ) (fits : offset + 8 ≤ length bytes) where
  length_front : length (take offset bytes) ≡ offset
  length_front = length-take offset bytes ∙ omega arith

  length_written : length (take offset bytes ++ bytes_of 8 v) ≡ offset + 8
  length_written = length-append (take offset bytes) (bytes_of 8 v) ∙ omega (arith, length_front, length_bytes 8 v)

  pub with_number-length : length (with_number bytes offset v) ≡ length bytes
  unfolding with_number
  with_number-length =
      length-append (take offset bytes ++ bytes_of 8 v) (drop (offset + 8) bytes) ∙ omega (arith, length_written, length-drop (offset + 8) bytes)

  pub with_number-bytes : AreBytes bytes → AreBytes (with_number bytes offset v)
  unfolding with_number
  with_number-bytes h =
      let IsByte : ℕ → Type 0 = λ b. b < 256 in
      All-append IsByte (take offset bytes ++ bytes_of 8 v) (drop (offset + 8) bytes)
      (All-append IsByte (take offset bytes) (bytes_of 8 v) (All-take IsByte offset bytes h) (All-from_recursion IsByte (bytes_of 8 v) (are_bytes 8 v)))
      (All-drop IsByte (offset + 8) bytes h)

  pub number_at-with_number_same : v < 2 ^ 64 → number_at (with_number bytes offset v) offset ≡ v
  unfolding with_number number_at
  number_at-with_number_same h =
      ap number_of (take_middle (take offset bytes) (bytes_of 8 v) (drop (offset + 8) bytes) offset length_front (length_bytes 8 v)) ∙ number_bytes 8 v h

  pub number_at-with_number_before : (at : ℕ) → at + 8 ≤ offset → number_at (with_number bytes offset v) at ≡ number_at bytes at
  unfolding with_number number_at
  number_at-with_number_before at h =
      let here : at + 8 ≤ length (take offset bytes) = omega (arith, length_front) in
      let there : at + (offset - at) ≡ offset = omega arith in
      let cut : take 8 (drop at (take offset bytes)) ≡ take 8 (drop at bytes) =
      subst (λ (n : ℕ). take 8 (drop at (take n bytes)) ≡ take 8 (drop at bytes)) there (drop_front bytes at (offset - at) (omega arith)) in
      ap number_of
      (ap (λ (l : List ℕ). take 8 (drop at l)) (append_assoc (take offset bytes) (bytes_of 8 v) (drop (offset + 8) bytes))
      ∙ take_before (take offset bytes) (bytes_of 8 v ++ drop (offset + 8) bytes) at here
      ∙ cut)

  pub number_at-with_number_after : (at : ℕ) → offset + 8 ≤ at → number_at (with_number bytes offset v) at ≡ number_at bytes at
  unfolding with_number number_at
  number_at-with_number_after at h =
      let there : (offset + 8) + (at - (offset + 8)) ≡ at = omega arith in
      let skip : drop at (take offset bytes ++ bytes_of 8 v ++ drop (offset + 8) bytes) ≡ drop (at - (offset + 8)) (drop (offset + 8) bytes) =
      subst (λ (n : ℕ). drop n (take offset bytes ++ bytes_of 8 v ++ drop (offset + 8) bytes) ≡ drop (at - (offset + 8)) (drop (offset + 8) bytes)) there
      (take_after (take offset bytes ++ bytes_of 8 v) (drop (offset + 8) bytes) (offset + 8) (at - (offset + 8)) length_written) in
      let back : drop (at - (offset + 8)) (drop (offset + 8) bytes) ≡ drop at bytes =
      drop-drop (at - (offset + 8)) (offset + 8) bytes ∙ ap (λ (n : ℕ). drop n bytes) there in
      ap (λ (l : List ℕ). number_of (take 8 l)) (skip ∙ back)

-- eight bytes inside a list write a number below 2 ^ 64
pub number_at-below : (bytes : List ℕ) (at : ℕ) → AreBytes bytes → at + 8 ≤ length bytes → number_at bytes at < 2 ^ 64
unfolding number_at
number_at-below bytes at h fits =
    let IsByte : ℕ → Type 0 = λ b. b < 256 in
    let n : length (take 8 (drop at bytes)) ≡ 8 = length-take 8 (drop at bytes) ∙ omega (arith, length-drop at bytes) in
    let below : number_of (take 8 (drop at bytes)) < 256 ^ length (take 8 (drop at bytes)) =
    number_below (take 8 (drop at bytes)) (recursion_from_All IsByte (take 8 (drop at bytes)) (All-take IsByte 8 (drop at bytes) (All-drop IsByte at bytes h))) in
    subst (λ (k : ℕ). number_of (take 8 (drop at bytes)) < 256 ^ k) n below
