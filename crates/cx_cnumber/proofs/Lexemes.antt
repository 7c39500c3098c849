-- The constants among the lexemes of a C file are small.
use Rattle.std.proofs.Common.{ℕ, pos, ◌≡◌, ◌<◌, ◌≤◌, ◌^◌, ◌==◌, Bool, true, false, List, [], ◌∷◌, ◌++◌, Option, Some, None, option_map, refl, arith}
use Rattle.std.specs.Prelude.{All, nat_lt, not, ◌&&◌, ◌||◌, if◌then◌else◌}
use Rattle.std.proofs.lemmas.Bool.{ltb-true}
use Rattle.std.proofs.lemmas.List.Elements.{All-nil, All-cons, All-head, All-tail, All-append}
use Rattle.cx_base.proofs.Wrapping.{wrapped-InRange}
use Rattle.cx_base.specs.Number.{wrapped}
use Rattle.cx_base.specs.declared.number.CInt.{CInt}
use Rattle.cx_base.specs.declared.token.Token.{Token}
use Rattle.cx_base.specs.declared.token.TokenKind.{TokenKind}
use Rattle.cx_base.specs.declared.token.TokenKind.TheVariants as t
use Rattle.cx_citem.specs.Items.{Place, beginning, next_place, ends_item, cut, items_of}
use Rattle.cx_ctree.specs.Conversions.{signed_int, unsigned_int, signed_long, unsigned_long}
use Rattle.cx_cword.specs.Integers.{is_digit_of, digits_of, suffixes, may_be_int, may_be_unsigned_int, may_be_long, may_be_unsigned_long, type_of_value, typed_by, constant_in, after_zero, int_of}
use Rattle.cx_cword.specs.Lexemes.{changes_type, word_kind, number_kind, char_kind, punctuator_kind, kind_of, text_of, lexeme_of, lexemes}
use Rattle.cx_cword.specs.Words.{look_up, keyword_of, punctuator_of}
use Rattle.cx_cword.specs.declared.integer.Suffix.{Suffix}
use Rattle.cx_cword.specs.declared.lexeme.Lexeme.{Lexeme}
use Rattle.cx_cword.specs.declared.lexeme.LexemeKind.{LexemeKind}
use Rattle.cx_cword.specs.declared.lexeme.LexemeKind.TheVariants as l
use Rattle.cx_cword.specs.declared.word.Keyword.{Keyword}
use Rattle.cx_cword.specs.declared.word.Punctuator.{Punctuator}
use Rattle.cx_gline.proofs.Bounds.{in_range}
use Rattle.cx_gline.proofs.Keeping.{all_split}
use Rattle.cx_gline.specs.Lines.{IsSmall}

abbrev pub KindSmall : LexemeKind → Type 0
KindSmall (l.Constant v t) = IsSmall v
KindSmall _ = Unit {0}

abbrev pub LexemeSmall : Lexeme → Type 0
LexemeSmall o = KindSmall o.kind

abbrev pub Small : List Lexeme → Type 0
Small os = All LexemeSmall os

-- ---- parts of lists

pub front : (a c : List Lexeme) → Small (a ++ c) → Small a × Small c
front a c h = all_split LexemeSmall a c h

pub rest : (o : Lexeme) (os : List Lexeme) → Small (o ∷ os) → Small os
rest o os h = All-tail LexemeSmall o os h

-- before a lexeme and after it
pub around : (a : List Lexeme) (o : Lexeme) (c : List Lexeme) → Small (a ++ o ∷ c) → Small a × Small c
around a o c h = let p = front a (o ∷ c) h in (p.0, rest o c p.1)

-- between two lexemes and after them
pub inner : (o : Lexeme) (a : List Lexeme) (m : Lexeme) (c : List Lexeme) → Small (o ∷ a ++ m ∷ c) → Small a × Small c
inner o a m c h = around a m c (rest o (a ++ m ∷ c) h)

-- ---- integer constants (C11 6.4.4.1)

abbrev Few : ℕ → Option CInt → Type 0
Few v None = Unit {0}
Few v (Some t) = v < 2 ^ 64

few_if : (v : ℕ) (z : Bool) (t : CInt) (o : Option CInt) → (z ≡ true → v < 2 ^ 64) → Few v o → Few v (if z then Some t else o)
few_if v true t o h k = h refl
few_if v false t o h k = k

below : (v n : ℕ) → n ≤ 2 ^ 64 → nat_lt v n ≡ true → v < 2 ^ 64
below v n le h = let k = ltb-true v n h in omega (arith, k, le)

last_of_two : (a b : Bool) → (a && b) ≡ true → b ≡ true
last_of_two true b h = h
last_of_two false b h = absurd cc

last_of_three : (a b c : Bool) → (a && b && c) ≡ true → c ≡ true
last_of_three true true c h = h
last_of_three true false c h = absurd cc
last_of_three false b c h = absurd cc

int_few : (decimal : Bool) (s : Suffix) (v : ℕ) → may_be_int decimal s v ≡ true → v < 2 ^ 64
unfolding may_be_int
int_few decimal s v h = below v (2 ^ 31) (omega arith) (last_of_three (not s.unsigned) (not s.long) (nat_lt v (2 ^ 31)) h)

unsigned_int_few : (decimal : Bool) (s : Suffix) (v : ℕ) → may_be_unsigned_int decimal s v ≡ true → v < 2 ^ 64
unfolding may_be_unsigned_int
unsigned_int_few decimal s v h = below v (2 ^ 32) (omega arith) (last_of_three (s.unsigned || not decimal) (not s.long) (nat_lt v (2 ^ 32)) h)

long_few : (decimal : Bool) (s : Suffix) (v : ℕ) → may_be_long decimal s v ≡ true → v < 2 ^ 64
unfolding may_be_long
long_few decimal s v h = below v (2 ^ 63) (omega arith) (last_of_two (not s.unsigned) (nat_lt v (2 ^ 63)) h)

unsigned_long_few : (decimal : Bool) (s : Suffix) (v : ℕ) → may_be_unsigned_long decimal s v ≡ true → v < 2 ^ 64
unfolding may_be_unsigned_long
unsigned_long_few decimal s v h = below v (2 ^ 64) (omega arith) (last_of_two (s.unsigned || not decimal) (nat_lt v (2 ^ 64)) h)

type_few : (decimal : Bool) (s : Suffix) (v : ℕ) → Few v (type_of_value decimal s v)
type_few decimal s v =
    few_if v (may_be_int decimal s v) signed_int _ (int_few decimal s v)
    (few_if v (may_be_unsigned_int decimal s v) unsigned_int _ (unsigned_int_few decimal s v)
    (few_if v (may_be_long decimal s v) signed_long _ (long_few decimal s v) (few_if v (may_be_unsigned_long decimal s v) unsigned_long None (unsigned_long_few decimal s v) tt)))

abbrev PairFew : Option (ℕ × CInt) → Type 0
PairFew None = Unit {0}
PairFew (Some c) = c.0 < 2 ^ 64

pair_if : (z : Bool) (o q : Option (ℕ × CInt)) → PairFew o → PairFew q → PairFew (if z then o else q)
pair_if true o q h k = h
pair_if false o q h k = k

with_type : (v : ℕ) (o : Option CInt) → Few v o → PairFew (option_map (λ t. (v, t)) o)
with_type v None h = tt
with_type v (Some t) h = h

typed_few : (decimal : Bool) (v : ℕ) (o : Option Suffix) → PairFew (typed_by decimal v o)
typed_few decimal v None = tt
typed_few decimal v (Some s) = with_type v (type_of_value decimal s v) (type_few decimal s v)

constant_few : (base : ℕ) (text : List ℕ) → PairFew (constant_in base text)
unfolding constant_in
constant_few base text = typed_few (base == 10) (digits_of base 0 text).0 (look_up suffixes (digits_of base 0 text).1)

zero_few : (text : List ℕ) → PairFew (after_zero text)
zero_few [] = constant_few 8 []
zero_few (x ∷ []) = constant_few 8 (x ∷ [])
zero_few (x ∷ d ∷ ds) = pair_if (((x == 120) || (x == 88)) && is_digit_of 16 d) _ _ (constant_few 16 (d ∷ ds)) (constant_few 8 (x ∷ d ∷ ds))

text_few : (text : List ℕ) → PairFew (int_of text)
text_few [] = tt
text_few (b ∷ bs) = pair_if (b == 48) _ _ (zero_few bs) (pair_if (is_digit_of 10 b) _ None (constant_few 10 (b ∷ bs)) tt)

-- ---- lexemes

number_small : (o : Option (ℕ × CInt)) → PairFew o → KindSmall (number_kind o)
number_small None h = tt
number_small (Some c) h = omega (arith, h)

char_small : (o : Option ℕ) → KindSmall (char_kind (option_map (λ b. wrapped 1 true (pos b)) o))
char_small None = tt
char_small (Some b) = in_range 1 true (wrapped 1 true (pos b)) refl (wrapped-InRange 1 true (pos b) refl)

punctuator_small : (o : Option Punctuator) → KindSmall (punctuator_kind o)
punctuator_small None = tt
punctuator_small (Some p) = tt

kind_if : (z : Bool) (x y : LexemeKind) → KindSmall x → KindSmall y → KindSmall (if z then x else y)
kind_if true x y h k = h
kind_if false x y h k = k

word_small : (names : List (List ℕ)) (text : List ℕ) (o : Option Keyword) → KindSmall (word_kind names text o)
word_small names text (Some k) = tt
word_small names text None = kind_if (changes_type text) _ _ tt tt

kind_small : (names : List (List ℕ)) (k : TokenKind) (text : List ℕ) → KindSmall (kind_of names k text)
kind_small names t.Name text = word_small names text (keyword_of text)
kind_small names t.Number text = number_small (int_of text) (text_few text)
kind_small names t.Char text = char_small _
kind_small names t.Text text = tt
kind_small names t.Punct text = punctuator_small (punctuator_of text)

lexemes_small : (names : List (List ℕ)) (bytes : List ℕ) (tokens : List Token) → Small (lexemes names bytes tokens)
lexemes_small names bytes [] = All-nil LexemeSmall
lexemes_small names bytes (o ∷ os) = All-cons LexemeSmall (lexeme_of names bytes o) (lexemes names bytes os) (kind_small names o.kind (text_of bytes o.span)) (lexemes_small names bytes os)

-- ---- items

cut_if : (z : Bool) (p q : List (List Lexeme) × List Lexeme) → All Small p.0 → All Small q.0 → All Small (if z then p else q).0
cut_if true p q h k = h
cut_if false p q h k = k

cut_small : (at : Place) (item os : List Lexeme) → Small item → Small os → All Small (cut at item os).0
cut_small at item [] h k = All-nil Small
cut_small at item (o ∷ os) h k =
    let more = All-append LexemeSmall item (o ∷ []) h (All-cons LexemeSmall o [] (All-head LexemeSmall o os k) (All-nil LexemeSmall)) in
    let later = rest o os k in let next = next_place at o.kind in
    cut_if (ends_item at.open_ o.kind) ((item ++ o ∷ []) ∷ (cut next [] os).0, (cut next [] os).1) (cut next (item ++ o ∷ []) os)
    (All-cons Small (item ++ o ∷ []) (cut next [] os).0 more (cut_small next [] os (All-nil LexemeSmall) later)) (cut_small next (item ++ o ∷ []) os more later)

-- the lexemes of each item of a file
pub items_small : (names : List (List ℕ)) (bytes : List ℕ) (tokens : List Token) → All Small (items_of (lexemes names bytes tokens))
items_small names bytes tokens = cut_small beginning [] (lexemes names bytes tokens) (All-nil LexemeSmall) (lexemes_small names bytes tokens)
