-- What a linear form comes to as a whole number: the sums of its numbers and of the factors of each symbol.
use Rattle.std.specs.Prelude.{ℕ, ℤ, pos, negsuc, ◌+ℤ◌, ◌-ℤ◌, Bool, true, false, not, ◌==◌, ◌&&◌, ◌||◌, List, [], ◌∷◌, map, Option, Some, None, unsigned_abs, if◌then◌else◌}
use Rattle.std.specs.List.{list_all}
use Rattle.std.specs.Str.{bytes_eq}
use Rattle.cx_tsyn.specs.Lins.{LinPartTree, number, times, symbol, LinTree}

-- ---- parts

-- the symbol of a part, and what it is taken times; without a symbol the part is this number
abbrev pub symbol_of : LinPartTree → Option (List ℕ)
symbol_of (number z) = None
symbol_of (times z w) = Some w.text
symbol_of (symbol w) = Some w.text

abbrev pub factor_of : LinPartTree → ℤ
factor_of (number z) = z
factor_of (times z w) = z
factor_of (symbol w) = pos 1

abbrev pub signed : (minus : Bool) → ℤ → ℤ
signed true z = pos 0 -ℤ z
signed false z = z

-- the symbol of a part with its factor, behind a sign
abbrev pub part_of : (minus : Bool) → LinPartTree → Option (List ℕ) × ℤ
part_of minus p = (symbol_of p, signed minus (factor_of p))

abbrev pub rest_of : List (Bool × LinPartTree) → List (Option (List ℕ) × ℤ)
rest_of ps = map (λ p. part_of p.0 p.1) ps

-- the parts of a form
abbrev pub parts_of : LinTree → List (Option (List ℕ) × ℤ)
parts_of l = part_of l.negative l.first ∷ rest_of l.rest

-- ---- sums

abbrev pub same_symbol : Option (List ℕ) → Option (List ℕ) → Bool
same_symbol None None = true
same_symbol None (Some t) = false
same_symbol (Some s) None = false
same_symbol (Some s) (Some t) = bytes_eq s t

-- what a part adds to the sum of the factors of a symbol, or of the numbers without one
abbrev pub share : Option (List ℕ) × ℤ → Option (List ℕ) → ℤ
share p u = if same_symbol p.0 u then p.1 else pos 0

-- the sum of the factors of this symbol, or of the numbers without one
abbrev pub total : List (Option (List ℕ) × ℤ) → Option (List ℕ) → ℤ
total [] u = pos 0
total (p ∷ ps) u = share p u +ℤ total ps u

abbrev pub sum_of : LinTree → Option (List ℕ) → ℤ
sum_of l = total (parts_of l)

-- ---- what the form is, by these sums

abbrev pub is_zero : ℤ → Bool
is_zero z = unsigned_abs z == 0

abbrev pub is_one : ℤ → Bool
is_one (pos n) = n == 1
is_one (negsuc n) = false

-- nothing is left of the symbol
abbrev pub is_gone : (Option (List ℕ) → ℤ) → Option (List ℕ) → Bool
is_gone sum None = true
is_gone sum (Some s) = is_zero (sum (Some s))

-- no symbol of these parts is left
abbrev pub all_gone : (Option (List ℕ) → ℤ) → List (Option (List ℕ) × ℤ) → Bool
all_gone sum ps = list_all (λ p. is_gone sum p.0) ps

-- the number that a form is, where no symbol is left in it
abbrev pub number_of : LinTree → Option ℤ
number_of l = if all_gone (sum_of l) (parts_of l) then Some (sum_of l None) else None

-- the symbol is left in the form
abbrev pub has_symbol : List ℕ → LinTree → Bool
has_symbol x l = not (is_zero (sum_of l (Some x)))

-- the symbol is this one, or nothing is left of it
abbrev pub is_it_or_gone : List ℕ → (Option (List ℕ) → ℤ) → Option (List ℕ) → Bool
is_it_or_gone x sum None = true
is_it_or_gone x sum (Some s) = bytes_eq s x || is_zero (sum (Some s))

-- no symbol of these parts but this one is left
abbrev pub no_other : List ℕ → (Option (List ℕ) → ℤ) → List (Option (List ℕ) × ℤ) → Bool
no_other x sum ps = list_all (λ p. is_it_or_gone x sum p.0) ps

-- the parts come to the symbol, by these sums
abbrev pub whole_by : List ℕ → (Option (List ℕ) → ℤ) → List (Option (List ℕ) × ℤ) → Bool
whole_by x sum ps = is_one (sum (Some x)) && (is_zero (sum None) && no_other x sum ps)

-- the form is the symbol
abbrev pub is_whole : List ℕ → LinTree → Bool
is_whole x l = whole_by x (sum_of l) (parts_of l)
