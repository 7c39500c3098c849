-- Which lexemes of a type file spell a type of C (C11 6.7.7), among what the C file declares.
use Rattle.std.specs.Prelude.{◌≡◌, ℕ, Bool, true, false, nat_le, List, [], ◌∷◌, ◌++◌, Option, Some, None, is_some, if◌then◌else◌}
use Rattle.cx_base.specs.declared.span.Span.{Span}
use Rattle.cx_ctree.specs.Conversions.{signed_int}
use Rattle.cx_ctree.specs.Types.{TypeTree, void, int, pointer, tag}
use Rattle.cx_ctree.specs.Path.{type_path}
use Rattle.cx_cword.specs.declared.word.Punctuator.TheVariants as p
use Rattle.cx_cword.specs.declared.lexeme.LexemeKind.{LexemeKind}
use Rattle.cx_cword.specs.declared.lexeme.LexemeKind.TheVariants as cl
use Rattle.cx_cname.specs.Known.{Known, value_of, tag_place, names_enum}
use Rattle.cx_cexpr.specs.declared.kinds.IntWord.{IntWord}
use Rattle.cx_cexpr.specs.declared.kinds.Base.{Base}
use Rattle.cx_cexpr.specs.declared.kinds.Base.TheVariants as base
use Rattle.cx_cexpr.specs.Kinds.{word_of, base_of, is_skipped}
use Rattle.cx_cexpr.specs.IntWords.{Counts, no_word}
use Rattle.cx_cexpr.specs.Reading.{with_word, next_words, int_of, kind_fits}
use Rattle.cx_tword.specs.declared.lexeme.TypeLexeme.{TypeLexeme}
use Rattle.cx_reader.specs.Answers.{next_is}

-- a type of C, with the place of the name of a struct or union in it that the C file does not declare: that
-- stands as void
pub record PointeeTree : Type 0 where
  pub ctype : TypeTree
  pub unknown_tag : Option Span

abbrev pub known : TypeTree → PointeeTree
known t = record { ctype = t; unknown_tag = None }

-- the struct or union whose name stands here, by its place in the tags of the C file
abbrev pub tagged : Span → Option ℕ → PointeeTree
tagged s (Some at) = known (tag at)
tagged s None = record { ctype = void; unknown_tag = Some s }

abbrev pub of_kind : Known → Bool → Option ℕ → Option ℕ
of_kind env union None = None
of_kind env union (Some at) = if kind_fits env union at then Some at else None

-- the place of the struct, or of the union, of this name
abbrev pub tag_found : Known → Bool → Option ℕ → Option ℕ
tag_found env union None = None
tag_found env union (Some n) = of_kind env union (tag_place env n)

-- no type has more than 400 nodes on a path
abbrev pub is_low : TypeTree → Bool
is_low t = nat_le (type_path t) 400

abbrev pub pointed : PointeeTree → PointeeTree
pointed x = record { ctype = pointer x.ctype; unknown_tag = x.unknown_tag }

abbrev pub is_star : LexemeKind → Bool
is_star (cl.Punctuator p.Star) = true
is_star _ = false

-- words that are passed over beside a type
pub data AreSkips : List TypeLexeme → Type 0 where
  no_skips : AreSkips []
  more_skips : {a : List TypeLexeme} (o : TypeLexeme) → is_skipped o.c_kind ≡ true → AreSkips a → AreSkips (o ∷ a)

-- words of integer types behind others, with each of which these are words of a list of C11 (6.7.2)
pub data AreWords : Counts → List TypeLexeme → Counts → Type 0 where
  no_words : {n : Counts} → AreWords n [] n
  more_words : {n m c : Counts} {a : List TypeLexeme} (o : TypeLexeme) → next_words n (word_of o.c_kind) ≡ Some m → AreWords m a c → AreWords n (o ∷ a) c

-- the words of a type: void, words of an integer type, the name of a typedef, struct or union and any name, enum
-- and the name of an enumeration whose list the C file has, which is an int
pub data IsBase (env : Known) : List TypeLexeme → PointeeTree → Type 0 where
  base_void : (o : TypeLexeme) → base_of o.c_kind ≡ base.Void → IsBase env (o ∷ []) (known void)
  base_int : {a : List TypeLexeme} {n : Counts} (o : TypeLexeme) (w : IntWord) → base_of o.c_kind ≡ base.Word w → AreWords (with_word w no_word) a n → IsBase env (o ∷ a) (known (int (int_of n)))
  base_typedef : (o : TypeLexeme) (n : ℕ) (t : TypeTree) → base_of o.c_kind ≡ base.Name n → value_of n env.typedefs ≡ Some t → is_low t ≡ true → IsBase env (o ∷ []) (known t)
  base_tag : (o m : TypeLexeme) (union : Bool) (n : Option ℕ) → base_of o.c_kind ≡ base.Tag union → m.c_kind ≡ cl.Name n → IsBase env (o ∷ m ∷ []) (tagged m.span (tag_found env union n))
  base_enum : (o m : TypeLexeme) (n : ℕ) → base_of o.c_kind ≡ base.Enum → m.c_kind ≡ cl.Name (Some n) → names_enum env n ≡ true → IsBase env (o ∷ m ∷ []) (known (int signed_int))

-- stars behind a type, and words that are passed over
pub data IsTail : PointeeTree → List TypeLexeme → PointeeTree → Type 0 where
  no_tail : {x : PointeeTree} → IsTail x [] x
  tail_skip : {x y : PointeeTree} {a : List TypeLexeme} (o : TypeLexeme) → is_skipped o.c_kind ≡ true → IsTail x a y → IsTail x (o ∷ a) y
  tail_star : {x y : PointeeTree} {a : List TypeLexeme} (o : TypeLexeme) → is_star o.c_kind ≡ true → is_low (pointer x.ctype) ≡ true → IsTail (pointed x) a y → IsTail x (o ∷ a) y

-- a type
pub data IsCType (env : Known) : List TypeLexeme → PointeeTree → Type 0 where
  a_ctype : {a b c : List TypeLexeme} {x y : PointeeTree} → AreSkips a → IsBase env b x → IsTail x c y → IsCType env (a ++ (b ++ c)) y

-- ---- lexemes that end what stands before them

-- no word of an integer type
abbrev pub EndsWords : List TypeLexeme → Type 0
EndsWords os = next_is (λ o. is_some (word_of o.c_kind)) os ≡ false

-- no star and no word that is passed over
abbrev pub EndsTail : List TypeLexeme → Type 0
EndsTail os = (next_is (λ o. is_star o.c_kind) os ≡ false) × (next_is (λ o. is_skipped o.c_kind) os ≡ false)

-- none of these
abbrev pub EndsCType : List TypeLexeme → Type 0
EndsCType os = EndsWords os × EndsTail os
