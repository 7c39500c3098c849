-- Forms with symbols replaced by forms.
use Rattle.std.specs.Prelude.{ℕ, ℤ, pos, List, [], ◌∷◌, if◌then◌else◌, ◌==◌, ◌+ℤ◌, ◌*ℤ◌, slice_index_or}
use Rattle.cx_term.specs.Forms.{Linear, value, constant_of}
use Rattle.cx_term.specs.Sums.{with_parts, plus_times}

-- the coefficient of the symbol s, 0 where no part has it
abbrev pub coefficient : ℕ → List (ℕ × ℤ) → ℤ
coefficient s [] = pos 0
coefficient s (p ∷ ps) = if p.0 == s then p.1 else coefficient s ps

-- the parts but that of s
abbrev pub without : ℕ → List (ℕ × ℤ) → List (ℕ × ℤ)
without s [] = []
without s (p ∷ ps) = if p.0 == s then without s ps else (p ∷ without s ps)

-- the form t with the symbol s replaced by the form o
abbrev pub put : ℕ → Linear → Linear → Linear
put s o t = plus_times (coefficient s t.parts) o (record { konst = t.konst; parts = without s t.parts })

-- the symbols' values with that of s changed
abbrev pub with_value : ℕ → ℤ → (ℕ → ℤ) → ℕ → ℤ
with_value s z v x = if x == s then z else v x

-- the form at s, the number 0 past the end
abbrev pub form_at : List Linear → ℕ → Linear
form_at ts s = slice_index_or ts s (constant_of (pos 0))

-- the constant z and what the parts bring to it, each symbol s replaced by the form at s
abbrev pub replaced_konst : List Linear → List (ℕ × ℤ) → ℤ → ℤ
replaced_konst ts [] z = z
replaced_konst ts (p ∷ ps) z = replaced_konst ts ps (z +ℤ p.1 *ℤ (form_at ts p.0).konst)

-- the parts qs and what the parts bring to them, each symbol s replaced by the form at s
abbrev pub replaced_parts : List Linear → List (ℕ × ℤ) → List (ℕ × ℤ) → List (ℕ × ℤ)
replaced_parts ts [] qs = qs
replaced_parts ts (p ∷ ps) qs = replaced_parts ts ps (with_parts p.1 (form_at ts p.0).parts qs)

-- the form t with each symbol s replaced by the form at s, all at once
abbrev pub put_all : List Linear → Linear → Linear
put_all ts t = record { konst = replaced_konst ts t.parts t.konst; parts = replaced_parts ts t.parts [] }

-- the values that the forms have, by their places
abbrev pub values_of : List Linear → (ℕ → ℤ) → ℕ → ℤ
values_of ts v s = value v (form_at ts s)
