-- Lines and columns of a text.
use Rattle.std.proofs.Common.{◌≡◌, ℕ, ◌+◌, ◌-◌, ◌≤◌, List, [], ◌∷◌, ◌++◌, Bool, length, take, drop, arith, not, reverse, refl, ap, sym, ◌∙◌, inl, inr, count_by, take-add, true, false, ◌==◌}
use Rattle.std.specs.List.{after_last, take_while, prefix_len}
use Rattle.std.proofs.lemmas.List.Sums.{suffix_len-le-length}
use Rattle.std.proofs.lemmas.List.Folds.{length-prefix_len, prefix_len-append}
use Rattle.std.proofs.lemmas.List.{reverse-append, length-reverse}
use Rattle.std.proofs.lemmas.Bool.{cases_Bool, eqb-true}
use Rattle.std.proofs.lemmas.Bool.Decides.{nat_tests}
use Rattle.std.specs.Prelude.{if◌then◌else◌}
use Rattle.cx_base.specs.Place.{is_newline, line_of, column_of}
use Rattle.std.proofs.Common.{length-drop}
use Rattle.std.proofs.lemmas.List.Recursion.{is_count_by}

pub length-after_last : (p : ℕ → Bool) (xs : List ℕ) → length (take_while (λ b. not (p b)) (reverse xs)) ≡ length (after_last p xs)
length-after_last p xs =
    let e = suffix_len-le-length (λ b. not (p b)) xs in
    rw (length-prefix_len, length-drop) (omega (arith, e))

pub ruleset last_line = (length-after_last)

-- ---- a later place

abbrev newlines : List ℕ → ℕ
newlines [] = 0
newlines (b ∷ bs) = if is_newline b then 1 + newlines bs else newlines bs

newlines_are : (bs : List ℕ) → newlines bs ≡ count_by is_newline bs
newlines_are bs = is_count_by newlines is_newline refl (λ b bs. refl) bs

newlines-append : (xs ys : List ℕ) → newlines (xs ++ ys) ≡ newlines xs + newlines ys
newlines-append [] ys = omega arith
newlines-append (x ∷ xs) ys =
    let h = newlines-append xs ys in
    elim (cases_Bool (is_newline x)) [
      | inl on ↦ rw on (omega (arith, h))
      | inr off ↦ rw off h
    ]

count_by-append : (xs ys : List ℕ) → count_by is_newline (xs ++ ys) ≡ count_by is_newline xs + count_by is_newline ys
count_by-append xs ys = sym (newlines_are (xs ++ ys)) ∙ (newlines-append xs ys ∙ λ i. newlines_are xs i + newlines_are ys i)

-- the front up to a later place: the front up to this place, and what stands between
front : (text : List ℕ) (from at : ℕ) → from ≤ at → take at text ≡ take from text ++ take (at - from) (drop from text)
front text from at h = let e : at ≡ from + (at - from) = omega (arith, h) in ap (λ (n : ℕ). take n text) e ∙ take-add from (at - from) text

pub later_line : (text : List ℕ) (from at : ℕ) → from ≤ at → line_of text from + count_by is_newline (take (at - from) (drop from text)) ≡ line_of text at
later_line text from at h = rw (front text from at h, count_by-append (take from text) (take (at - from) (drop from text))) (omega arith)

-- how many bytes are no newlines, from the first on
abbrev others : List ℕ → ℕ
others bs = prefix_len (λ b. not (is_newline b)) bs

since_is : (bs : List ℕ) → length (after_last is_newline bs) ≡ others (reverse bs)
since_is bs = sym (length-after_last is_newline bs) ∙ length-prefix_len (λ b. not (is_newline b)) (reverse bs)

since-append : (xs ys : List ℕ) → length (after_last is_newline (xs ++ ys)) ≡ (if others (reverse ys) == length ys then length ys + others (reverse xs) else others (reverse ys))
since-append xs ys =
    since_is (xs ++ ys) ∙ (ap others (reverse-append xs ys) ∙ rw (prefix_len-append (λ b. not (is_newline b)) (reverse ys) (reverse xs), length-reverse) refl)

not_equal : (m n : ℕ) → ¬ (m ≡ n) → (m == n) ≡ false
not_equal m n h = elim (cases_Bool (m == n)) [ inl on ↦ absurd (h (eqb-true m n on)) | inr off ↦ off ]

-- the column, where the bytes between have no newline or have one
same_line : (xs ys : List ℕ) → length (take_while (λ b. not (is_newline b)) (reverse ys)) ≡ length ys
    → 1 + length (after_last is_newline xs) + length (take_while (λ b. not (is_newline b)) (reverse ys)) ≡ 1 + length (after_last is_newline (xs ++ ys))
same_line xs ys h =
    let e : length (take_while (λ b. not (is_newline b)) (reverse ys)) ≡ others (reverse ys) = length-prefix_len (λ b. not (is_newline b)) (reverse ys) in
    let k : others (reverse ys) ≡ length ys = sym e ∙ h in
    let t : (others (reverse ys) == length ys) ≡ true = grind (arith, nat_tests, k) in
    rw (since-append xs ys, t, e, since_is xs, k) (omega arith)

other_line : (xs ys : List ℕ) → ¬ (length (take_while (λ b. not (is_newline b)) (reverse ys)) ≡ length ys)
    → 1 + length (take_while (λ b. not (is_newline b)) (reverse ys)) ≡ 1 + length (after_last is_newline (xs ++ ys))
other_line xs ys h =
    let e : length (take_while (λ b. not (is_newline b)) (reverse ys)) ≡ others (reverse ys) = length-prefix_len (λ b. not (is_newline b)) (reverse ys) in
    let t : (others (reverse ys) == length ys) ≡ false = not_equal (others (reverse ys)) (length ys) (λ k. h (e ∙ k)) in
    rw (since-append xs ys, t, e) refl

-- the same for the front of a text up to a later place
pub later_same : (text : List ℕ) (from at : ℕ) → from ≤ at → (length (take_while (λ b. not (is_newline b)) (reverse (take (at - from) (drop from text)))) ≡ length (take (at - from) (drop from text)))
    → column_of text from + length (take_while (λ b. not (is_newline b)) (reverse (take (at - from) (drop from text)))) ≡ column_of text at
later_same text from at h e = same_line (take from text) (take (at - from) (drop from text)) e ∙ ap (λ (bs : List ℕ). 1 + length (after_last is_newline bs)) (sym (front text from at h))

pub later_other : (text : List ℕ) (from at : ℕ) → from ≤ at → ¬ (length (take_while (λ b. not (is_newline b)) (reverse (take (at - from) (drop from text)))) ≡ length (take (at - from) (drop from text)))
    → 1 + length (take_while (λ b. not (is_newline b)) (reverse (take (at - from) (drop from text)))) ≡ column_of text at
later_other text from at h e = other_line (take from text) (take (at - from) (drop from text)) e ∙ ap (λ (bs : List ℕ). 1 + length (after_last is_newline bs)) (sym (front text from at h))
