-- The definitions of words on examples.
use Rattle.std.specs.Prelude.{◌≡◌, refl, codes, [], ◌∷◌, map, Some, None, pos}
use Rattle.cx_base.specs.declared.token.TokenKind.TheVariants as t
use Rattle.cx_cword.specs.declared.word.Punctuator.TheVariants as p
use Rattle.cx_cword.specs.Words.{punctuators, punctuator_of}
use Rattle.cx_cword.specs.Integers.{is_digit_of, digit_value, suffixes, may_be_int, may_be_unsigned_int, may_be_long, may_be_unsigned_long, constant_in}
use Rattle.cx_tword.specs.declared.word.TypeWord.TheVariants as w
use Rattle.cx_tword.specs.declared.lexeme.TypeLexemeKind.TheVariants as l
use Rattle.cx_tword.specs.Words.{type_words, type_word_of, number_in, number_after}
use Rattle.cx_tword.specs.Lexemes.{kind_of}

-- digits and nothing else
numbers : map number_in (codes "0" ∷ codes "08" ∷ codes "4097" ∷ codes "00000000000000000000000000000000000000000000000000000000000012" ∷ codes "18446744073709551616" ∷ codes "" ∷ codes "8x" ∷ codes "x8" ∷ []) ≡ Some 0 ∷ Some 8 ∷ Some 4097 ∷ Some 12 ∷ Some 18446744073709551616 ∷ None ∷ None ∷ None ∷ []
unfolding number_in is_digit_of digit_value
numbers = refl

-- words without and with a size
words :
    map (kind_of t.Name) (codes "shared" ∷ codes "region" ∷ codes "any" ∷ codes "any1" ∷ codes "any00012" ∷ codes "any4096" ∷ codes "u08" ∷ codes "s4" ∷ [])
    ≡ l.Word w.Shared ∷ l.Word w.Region ∷ l.Word w.Any ∷ l.AnyBytes 1 ∷ l.AnyBytes 12 ∷ l.AnyBytes 4096 ∷ l.Unsigned 8 ∷ l.Signed 4 ∷ []
unfolding type_words type_word_of number_in number_after is_digit_of digit_value
words = refl

-- sizes that there are not
other_sizes : map (kind_of t.Name) (codes "any0" ∷ codes "any4097" ∷ codes "u3" ∷ codes "s16" ∷ codes "u18446744073709551624" ∷ []) ≡ l.OtherSize ∷ l.OtherSize ∷ l.OtherSize ∷ l.OtherSize ∷ l.OtherSize ∷ []
unfolding type_words type_word_of number_in number_after is_digit_of digit_value
other_sizes = refl

-- names that nearly are reserved
names : map (kind_of t.Name) (codes "regions" ∷ codes "u" ∷ codes "s" ∷ codes "any_" ∷ codes "u8x" ∷ codes "U8" ∷ []) ≡ l.Name ∷ l.Name ∷ l.Name ∷ l.Name ∷ l.Name ∷ l.Name ∷ []
unfolding type_words type_word_of number_in number_after is_digit_of digit_value
names = refl

integers : map (kind_of t.Number) (codes "10" ∷ codes "010" ∷ codes "0x10u" ∷ codes "08" ∷ codes "1.5" ∷ []) ≡ l.Number (pos 10) ∷ l.Number (pos 8) ∷ l.Number (pos 16) ∷ l.Other ∷ l.Other ∷ []
unfolding is_digit_of digit_value suffixes may_be_int may_be_unsigned_int may_be_long may_be_unsigned_long constant_in
integers = refl

marks : map (kind_of t.Punct) (codes "->" ∷ codes "=" ∷ codes "==" ∷ []) ≡ l.Punctuator p.Arrow ∷ l.Punctuator p.Assign ∷ l.Punctuator p.Equal ∷ []
unfolding punctuators punctuator_of
marks = refl
