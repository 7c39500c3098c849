-- Kinds of bytes, by their codes in ASCII.
use Rattle.std.specs.Prelude.{ℕ, Bool, ◌==◌, ◌&&◌, ◌||◌, not, nat_le}

-- white space (C11 6.4): tab to carriage return, and space
unfoldable pub is_blank : ℕ → Bool
is_blank b = (nat_le 9 b && nat_le b 13) || (b == 32)

-- tab and space, which may stand before the # of a line
unfoldable pub is_indent : ℕ → Bool
is_indent b = (b == 9) || (b == 32)

-- a letter, _ or $
unfoldable pub starts_name : ℕ → Bool
starts_name b = (nat_le 65 b && nat_le b 90) || (nat_le 97 b && nat_le b 122) || (b == 95) || (b == 36)

unfoldable pub is_digit : ℕ → Bool
is_digit b = nat_le 48 b && nat_le b 57

-- a byte that goes on with a name (C11 6.4.2.1)
unfoldable pub in_name : ℕ → Bool
in_name b = starts_name b || is_digit b

-- e, E, p and P
unfoldable pub is_exponent : ℕ → Bool
is_exponent b = (b == 101) || (b == 69) || (b == 112) || (b == 80)

-- a byte that goes on with a number (C11 6.4.8): a letter, a digit, _ or a point, and a sign directly after an exponent
unfoldable pub in_number : Bool → ℕ → Bool
in_number exponent b = (in_name b && not (b == 36)) || (b == 46) || (exponent && ((b == 43) || (b == 45)))

-- " and '
unfoldable pub is_mark : ℕ → Bool
is_mark b = (b == 34) || (b == 39)

-- punctuators of one byte (C11 6.4.6), but for #, which preprocessing takes away (C11 5.1.1.2): ! % & ( ) * + , - . / : ; < = > ? [ ] ^ { | } ~
unfoldable pub is_single : ℕ → Bool
is_single a = (a == 33) || (nat_le 37 a && nat_le a 38) || (nat_le 40 a && nat_le a 47) || (nat_le 58 a && nat_le a 63) || (a == 91) || (nat_le 93 a && nat_le a 94) || (nat_le 123 a && nat_le a 126)

-- of two: -> ++ -- << >> && || <= >= == != += -= *= /= %= &= |= ^=
unfoldable pub is_double : ℕ → ℕ → Bool
is_double a b = ((a == 45) && (b == 62)) || ((a == b) && ((a == 43) || (a == 45) || (a == 60) || (a == 62) || (a == 38) || (a == 124))) || ((b == 61) && ((a == 60) || (a == 62) || (a == 61) || (a == 33) || (a == 43) || (a == 45) || (a == 42) || (a == 47) || (a == 37) || (a == 38) || (a == 124) || (a == 94)))

-- of three: ... <<= >>=
unfoldable pub is_triple : ℕ → ℕ → ℕ → Bool
is_triple a b c = (a == b) && (((a == 46) && (c == 46)) || (((a == 60) || (a == 62)) && (c == 61)))

-- digraphs (C11 6.4.6): <: <% :> %> %:
unfoldable pub is_digraph : ℕ → ℕ → Bool
is_digraph a b = ((a == 60) && ((b == 58) || (b == 37))) || ((b == 62) && ((a == 58) || (a == 37))) || ((a == 37) && (b == 58))
