-- Integer constants (C11 6.4.4.1).
use Rattle.std.specs.Prelude.{ℕ, ◌+◌, ◌-◌, ◌*◌, ◌^◌, Bool, true, false, not, ◌&&◌, ◌||◌, ◌==◌, nat_le, nat_lt, List, [], ◌∷◌, Option, Some, None, option_map, if◌then◌else◌, codes}
use Rattle.cx_base.specs.declared.number.CInt.{CInt}
use Rattle.cx_ctree.specs.Conversions.{signed_int, unsigned_int, signed_long, unsigned_long}
use Rattle.cx_cword.specs.Words.{look_up}
use Rattle.cx_cword.specs.declared.integer.Suffix.{Suffix}

-- a digit of the base 8, 10 or 16
unfoldable pub is_digit_of : (base : ℕ) → ℕ → Bool
is_digit_of base b = (nat_le 48 b && nat_le b 57 && nat_lt b (48 + base)) || (nat_lt 10 base && ((nat_le 97 b && nat_le b 102) || (nat_le 65 b && nat_le b 70)))

unfoldable pub digit_value : ℕ → ℕ
digit_value b = if nat_le b 57 then b - 48 else if nat_le b 70 then b - 55 else b - 87

-- the number that the digits at the front write, the most significant first, after others that write `before`; and the text after them
abbrev pub digits_of : (base before : ℕ) → List ℕ → ℕ × List ℕ
digits_of base before [] = (before, [])
digits_of base before (b ∷ bs) = if is_digit_of base b then digits_of base (before * base + digit_value b) bs else (before, b ∷ bs)

abbrev pub plain : Suffix
plain = record { unsigned = false; long = false }

abbrev pub u : Suffix
u = record { unsigned = true; long = false }

abbrev pub l : Suffix
l = record { unsigned = false; long = true }

abbrev pub ul : Suffix
ul = record { unsigned = true; long = true }

-- each suffix with what it says; `ll` says what `l` does, since long and long long are one type
unfoldable pub suffixes : List (List ℕ × Suffix)
suffixes =
    ([], plain) ∷ (codes "u", u) ∷ (codes "U", u) ∷
    (codes "l", l) ∷ (codes "L", l) ∷ (codes "ll", l) ∷ (codes "LL", l) ∷
    (codes "ul", ul) ∷ (codes "uL", ul) ∷ (codes "Ul", ul) ∷ (codes "UL", ul) ∷
    (codes "ull", ul) ∷ (codes "uLL", ul) ∷ (codes "Ull", ul) ∷ (codes "ULL", ul) ∷
    (codes "lu", ul) ∷ (codes "lU", ul) ∷ (codes "Lu", ul) ∷ (codes "LU", ul) ∷
    (codes "llu", ul) ∷ (codes "llU", ul) ∷ (codes "LLu", ul) ∷ (codes "LLU", ul) ∷ []

-- an int, an unsigned int, a long and an unsigned long may have the value of a constant with this suffix: with u no signed one, with l none shorter than long, and an unsigned one of a decimal constant only with u
unfoldable pub may_be_int : (decimal : Bool) → Suffix → ℕ → Bool
may_be_int decimal s v = not s.unsigned && not s.long && nat_lt v (2 ^ 31)

unfoldable pub may_be_unsigned_int : (decimal : Bool) → Suffix → ℕ → Bool
may_be_unsigned_int decimal s v = (s.unsigned || not decimal) && not s.long && nat_lt v (2 ^ 32)

unfoldable pub may_be_long : (decimal : Bool) → Suffix → ℕ → Bool
may_be_long decimal s v = not s.unsigned && nat_lt v (2 ^ 63)

unfoldable pub may_be_unsigned_long : (decimal : Bool) → Suffix → ℕ → Bool
may_be_unsigned_long decimal s v = (s.unsigned || not decimal) && nat_lt v (2 ^ 64)

-- the first of these types that the constant may have
abbrev pub type_of_value : (decimal : Bool) → Suffix → ℕ → Option CInt
type_of_value decimal s v =
    if may_be_int decimal s v then Some signed_int
    else if may_be_unsigned_int decimal s v then Some unsigned_int
    else if may_be_long decimal s v then Some signed_long
    else if may_be_unsigned_long decimal s v then Some unsigned_long
    else None

abbrev pub typed_by : (decimal : Bool) → ℕ → Option Suffix → Option (ℕ × CInt)
typed_by decimal v None = None
typed_by decimal v (Some s) = option_map (λ t. (v, t)) (type_of_value decimal s v)

-- digits of the base, and then a suffix
unfoldable pub constant_in : (base : ℕ) → List ℕ → Option (ℕ × CInt)
constant_in base text = let read = digits_of base 0 text in typed_by (base == 10) read.0 (look_up suffixes read.1)

-- what follows a 0: x or X and then a hexadecimal digit begin a hexadecimal constant
abbrev pub after_zero : List ℕ → Option (ℕ × CInt)
after_zero [] = constant_in 8 []
after_zero (x ∷ []) = constant_in 8 (x ∷ [])
after_zero (x ∷ d ∷ ds) = if ((x == 120) || (x == 88)) && is_digit_of 16 d then constant_in 16 (d ∷ ds) else constant_in 8 (x ∷ d ∷ ds)

-- the value and the type of the integer constant that the text is, if it is one
abbrev pub int_of : List ℕ → Option (ℕ × CInt)
int_of [] = None
int_of (b ∷ bs) = if b == 48 then after_zero bs else if is_digit_of 10 b then constant_in 10 (b ∷ bs) else None
