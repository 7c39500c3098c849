-- The words that a type file reserves.
use Rattle.std.specs.Prelude.{ℕ, Bool, ◌&&◌, ◌==◌, nat_eq, nat_lt, List, [], ◌∷◌, length, drop, Option, Some, None, if◌then◌else◌, codes}
use Rattle.std.specs.List.{starts_with}
use Rattle.cx_cword.specs.Words.{look_up}
use Rattle.cx_cword.specs.Integers.{digits_of}
use Rattle.cx_tword.specs.declared.word.TypeWord.{TypeWord}
use Rattle.cx_tword.specs.declared.word.TypeWord.TheVariants as w

-- the words without a size
unfoldable pub type_words : List (List ℕ × TypeWord)
type_words =
    (codes "shared", w.Shared) ∷ (codes "region", w.Region) ∷ (codes "some", w.Some) ∷ (codes "of", w.Of) ∷ (codes "struct", w.Struct) ∷
    (codes "union", w.Union) ∷ (codes "where", w.Where) ∷ (codes "cases", w.Cases) ∷ (codes "when", w.When) ∷
    (codes "any", w.Any) ∷ (codes "val", w.Val) ∷ (codes "ptr", w.Ptr) ∷ (codes "null", w.Null) ∷
    (codes "as", w.As) ∷ (codes "fn", w.Fn) ∷ (codes "alloc", w.Alloc) ∷ (codes "for", w.For) ∷
    (codes "bytes", w.Bytes) ∷ (codes "zero", w.Zero) ∷ (codes "global", w.Global) ∷ (codes "void", w.Void) ∷ []

-- the word that the text is, if it is one
unfoldable pub type_word_of : List ℕ → Option TypeWord
type_word_of = look_up type_words

-- the number that the text spells in base ten, if it is one or more digits and nothing else
unfoldable pub number_in : List ℕ → Option ℕ
number_in text = let read = digits_of 10 0 text in if nat_lt 0 (length text) && (length read.1 == 0) then Some read.0 else None

-- the number that what follows the front spells, if the text begins with it: as 12 of any12 after any
unfoldable pub number_after : List ℕ → List ℕ → Option ℕ
number_after front text = if starts_with nat_eq text front then number_in (drop (length front) text) else None
