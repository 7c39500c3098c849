-- The definitions of constants on examples.
use Rattle.std.specs.Prelude.{◌≡◌, pos, negsuc, refl, codes, [], ◌∷◌, map, Some, None}
use Rattle.cx_base.specs.Number.{half_of}
use Rattle.cx_ctree.specs.Conversions.{signed_int, unsigned_int, signed_long, unsigned_long}
use Rattle.cx_cword.specs.Integers.{is_digit_of, digit_value, suffixes, may_be_int, may_be_unsigned_int, may_be_long, may_be_unsigned_long, constant_in, int_of}
use Rattle.cx_cword.specs.Characters.{escapes, byte_in, char_of}

-- a decimal constant is an int or a long
decimal :
    map int_of (codes "0" ∷ codes "1" ∷ codes "2147483647" ∷ codes "2147483648" ∷ codes "9223372036854775807" ∷ codes "9223372036854775808" ∷ [])
    ≡ Some (0, signed_int) ∷ Some (1, signed_int) ∷ Some (2147483647, signed_int) ∷ Some (2147483648, signed_long) ∷ Some (9223372036854775807, signed_long) ∷ None ∷ []
unfolding is_digit_of digit_value suffixes may_be_int may_be_unsigned_int may_be_long may_be_unsigned_long constant_in
decimal = refl

-- an octal or a hexadecimal one may be unsigned
octal_and_hexadecimal :
    map int_of (codes "0777" ∷ codes "0x7fffffff" ∷ codes "0X80000000" ∷ codes "0xFFFFffff" ∷ codes "0x100000000" ∷ codes "0x8000000000000000" ∷ codes "0xffffffffffffffff" ∷ codes "0x10000000000000000" ∷ codes "02000000000000000000000" ∷ [])
    ≡ Some (511, signed_int) ∷ Some (2147483647, signed_int) ∷ Some (2147483648, unsigned_int) ∷ Some (4294967295, unsigned_int) ∷ Some (4294967296, signed_long) ∷ Some (9223372036854775808, unsigned_long) ∷ Some (18446744073709551615, unsigned_long) ∷ None ∷ None ∷ []
unfolding is_digit_of digit_value suffixes may_be_int may_be_unsigned_int may_be_long may_be_unsigned_long constant_in
octal_and_hexadecimal = refl

suffixed :
    map int_of (codes "1u" ∷ codes "4294967296U" ∷ codes "1l" ∷ codes "0x8000000000000000L" ∷ codes "9223372036854775808LL" ∷ codes "1llu" ∷ codes "1uLL" ∷ codes "18446744073709551615u" ∷ codes "18446744073709551616u" ∷ [])
    ≡ Some (1, unsigned_int) ∷ Some (4294967296, unsigned_long) ∷ Some (1, signed_long) ∷ Some (9223372036854775808, unsigned_long) ∷ None ∷ Some (1, unsigned_long) ∷ Some (1, unsigned_long) ∷ Some (18446744073709551615, unsigned_long) ∷ None ∷ []
unfolding is_digit_of digit_value suffixes may_be_int may_be_unsigned_int may_be_long may_be_unsigned_long constant_in
suffixed = refl

-- no integer constants: mixed cases of ll, two suffixes u, no digit after 0x, no octal digit, a binary and a floating constant, a digit of another base
no_integers : map int_of (codes "1lL" ∷ codes "1Llu" ∷ codes "1ulu" ∷ codes "0x" ∷ codes "0xu" ∷ codes "08" ∷ codes "0b1" ∷ codes "1.5" ∷ codes "1e3" ∷ codes "12a" ∷ []) ≡ None ∷ None ∷ None ∷ None ∷ None ∷ None ∷ None ∷ None ∷ None ∷ None ∷ []
unfolding is_digit_of digit_value suffixes may_be_int may_be_unsigned_int may_be_long may_be_unsigned_long constant_in
no_integers = refl

-- one byte, or an escape of one byte
characters :
    map char_of (codes "'a'" ∷ codes "' '" ∷ codes "'\"'" ∷ codes "'\\n'" ∷ codes "'\\''" ∷ codes "'\\\\'" ∷ codes "'\\0'" ∷ codes "'\\x41'" ∷ codes "'\\x7'" ∷ codes "'\\177'" ∷ codes "'\\377'" ∷ codes "'\\xff'" ∷ [])
    ≡ Some (pos 97) ∷ Some (pos 32) ∷ Some (pos 34) ∷ Some (pos 10) ∷ Some (pos 39) ∷ Some (pos 92) ∷ Some (pos 0) ∷ Some (pos 65) ∷ Some (pos 7) ∷ Some (pos 127) ∷ Some (negsuc 0) ∷ Some (negsuc 0) ∷ []
unfolding is_digit_of digit_value escapes byte_in half_of
characters = refl

-- no character constants of one byte
no_characters : map char_of (codes "''" ∷ codes "'ab'" ∷ codes "'\\'" ∷ codes "'\\q'" ∷ codes "'\\400'" ∷ codes "'\\1234'" ∷ codes "'\\x'" ∷ codes "'\\x123'" ∷ codes "'\t'" ∷ []) ≡ None ∷ None ∷ None ∷ None ∷ None ∷ None ∷ None ∷ None ∷ None ∷ []
unfolding is_digit_of digit_value escapes byte_in
no_characters = refl
