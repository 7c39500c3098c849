-- The sum of a form and a multiple of another.
use Rattle.std.specs.Prelude.{ℕ, suc, ℤ, pos, ◌+ℤ◌, ◌*ℤ◌, List, [], ◌∷◌, ◌≤◌, unsigned_abs, Option, Some, None, if◌then◌else◌, nat_lt, ◌==◌, drop, Bool}
use Rattle.std.specs.List.{AllByRecursion}
use Rattle.cx_term.specs.Forms.{Linear, constant_of}

abbrev pub is_zero : ℤ → Bool
is_zero z = unsigned_abs z == 0

-- the parts with this one in front, where its coefficient is not 0
abbrev pub keep_part : ℕ → ℤ → List (ℕ × ℤ) → List (ℕ × ℤ)
keep_part s k ps = if is_zero k then ps else ((s, k) ∷ ps)

-- the first part's coefficient, where its symbol is s
abbrev pub head_of : ℕ → List (ℕ × ℤ) → Option ℤ
head_of s [] = None
head_of s (p ∷ ps) = if p.0 == s then Some p.1 else None

-- the parts with k times the symbol s added in front: into the first part, where that has s with the coefficient given
abbrev pub joined : Option ℤ → ℕ → ℤ → List (ℕ × ℤ) → List (ℕ × ℤ)
joined None s k ps = keep_part s k ps
joined (Some c) s k ps = keep_part s (c +ℤ k) (drop 1 ps)

-- the parts with k times the symbol s added, where no part has a symbol below s
abbrev pub here : ℕ → ℤ → List (ℕ × ℤ) → List (ℕ × ℤ)
here s k ps = joined (head_of s ps) s k ps

-- the parts with k times the symbol s added at its place
abbrev pub with_part : ℕ → ℤ → List (ℕ × ℤ) → List (ℕ × ℤ)
with_part s k [] = here s k []
with_part s k (p ∷ ps) = if nat_lt p.0 s then (p ∷ with_part s k ps) else here s k (p ∷ ps)

-- the parts with k times each part of qs added
abbrev pub with_parts : ℤ → List (ℕ × ℤ) → List (ℕ × ℤ) → List (ℕ × ℤ)
with_parts k [] ps = ps
with_parts k (q ∷ qs) ps = with_parts k qs (with_part q.0 (k *ℤ q.1) ps)

-- the form t and k times the form o
abbrev pub plus_times : ℤ → Linear → Linear → Linear
plus_times k o t = record { konst = t.konst +ℤ k *ℤ o.konst; parts = with_parts k o.parts t.parts }

-- k times the form t, m times the form o, and the number c
abbrev pub combined : ℤ → Linear → ℤ → Linear → ℤ → Linear
combined k t m o c = plus_times m o (plus_times k t (constant_of c))

-- the form t and the number z
abbrev pub plus_number : ℤ → Linear → Linear
plus_number z t = plus_times (pos 1) (constant_of z) t

-- how many parts have a symbol below s
abbrev pub place_in : ℕ → List (ℕ × ℤ) → ℕ
place_in s [] = 0
place_in s (p ∷ ps) = if nat_lt p.0 s then suc (place_in s ps) else 0

-- no coefficient's absolute value is above n
abbrev pub AreUpTo : ℕ → List (ℕ × ℤ) → Type 0
AreUpTo n ps = AllByRecursion (λ p. unsigned_abs p.1 ≤ n) ps
