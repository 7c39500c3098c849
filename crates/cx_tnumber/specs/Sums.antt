-- The sums of a linear form as the code holds them: the number, and a sum for each symbol.
use Rattle.std.specs.Prelude.{ℕ, ℤ, pos, List, [], ◌∷◌, map, Option, Some, None, if◌then◌else◌}
use Rattle.std.specs.Str.{bytes_eq}
use Rattle.cx_tnumber.specs.declared.sums.Sums.{Sums}

-- the sum of the symbol, 0 where it has none
abbrev pub symbol_sum : List (List ℕ × ℤ) → List ℕ → ℤ
symbol_sum [] s = pos 0
symbol_sum (e ∷ es) s = if bytes_eq s e.0 then e.1 else symbol_sum es s

abbrev pub sum_at : (number : ℤ) → List (List ℕ × ℤ) → Option (List ℕ) → ℤ
sum_at z es None = z
sum_at z es (Some s) = symbol_sum es s

abbrev pub summed : Sums → Option (List ℕ) → ℤ
summed s = sum_at s.number (map (λ e. (e.0.items, e.1)) s.symbols.entries)
