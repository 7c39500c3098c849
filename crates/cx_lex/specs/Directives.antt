-- Lines that begin with `#` (C11 6.10), as a preprocessor leaves them; each list is such a line's bytes after its `#`.
use Rattle.std.specs.Prelude.{ℕ, suc, Bool, true, false, ◌==◌, ◌&&◌, ◌||◌, not, if◌then◌else◌, List, [], ◌∷◌, take, drop, codes}
use Rattle.std.specs.List.{list_any}
use Rattle.std.specs.Str.{bytes_eq}
use Rattle.cx_lex.specs.Bytes.{is_blank}

abbrev pub begins : ℕ → List ℕ → Bool
begins c [] = false
begins c (b ∷ bs) = b == c

-- what stands after the white space and the comments at the front (C11 5.1.1.2, 6.4.9), where a comment is open or not,
-- and where the first byte is the second of a comment's mark or not
abbrev pub after_blanks : Bool → Bool → List ℕ → List ℕ
after_blanks open_ mark [] = []
after_blanks open_ true (b ∷ bs) = after_blanks open_ false bs
after_blanks true false (b ∷ bs) = if (b == 42) && begins 47 bs then after_blanks false true bs else after_blanks true false bs
after_blanks false false (b ∷ bs) =
    if is_blank b then after_blanks false false bs
    else (if (b == 47) && begins 42 bs then after_blanks true true bs
    else (if (b == 47) && begins 47 bs then [] else b ∷ bs))

-- how many bytes stand before the next white space or comment
abbrev pub word_len : List ℕ → ℕ
word_len [] = 0
word_len (b ∷ []) = if is_blank b then 0 else 1
word_len (b ∷ c ∷ bs) = if is_blank b || ((b == 47) && ((c == 42) || (c == 47))) then 0 else suc (word_len (c ∷ bs))

-- the next word, and what stands after it
abbrev pub next_word : List ℕ → List ℕ
next_word bs = take (word_len (after_blanks false false bs)) (after_blanks false false bs)

abbrev pub after_word : List ℕ → List ℕ
after_word bs = drop (word_len (after_blanks false false bs)) (after_blanks false false bs)

-- words after which `pragma`, `pragma GCC` and `pragma clang` change no layout
abbrev pub harmless_words : List (List ℕ)
harmless_words = codes "once" ∷ codes "STDC" ∷ codes "message" ∷ []

abbrev pub harmless_gcc_words : List (List ℕ)
harmless_gcc_words =
    codes "diagnostic" ∷ codes "visibility" ∷ codes "system_header" ∷ codes "poison" ∷ codes "warning" ∷
    codes "error" ∷ codes "dependency" ∷ codes "unroll" ∷ codes "ivdep" ∷ []

abbrev pub harmless_clang_words : List (List ℕ)
harmless_clang_words = codes "diagnostic" ∷ codes "system_header" ∷ []

abbrev pub next_is_one_of : List (List ℕ) → List ℕ → Bool
next_is_one_of words bs = list_any (bytes_eq (next_word bs)) words

-- the words after `pragma` change no layout
abbrev pub is_harmless : List ℕ → Bool
is_harmless bs =
    next_is_one_of harmless_words bs
    || (bytes_eq (next_word bs) (codes "GCC") && next_is_one_of harmless_gcc_words (after_word bs))
    || (bytes_eq (next_word bs) (codes "clang") && next_is_one_of harmless_clang_words (after_word bs))

-- a pragma (C11 6.10.6) that may change layouts
abbrev pub is_other_pragma : List ℕ → Bool
is_other_pragma bs = bytes_eq (next_word bs) (codes "pragma") && not (is_harmless (after_word bs))

-- after the last /* of the line there is no */, where one is open before or not, and where the first byte is the star of a /* or not
abbrev pub leaves_comment : Bool → Bool → List ℕ → Bool
leaves_comment open_ star [] = open_
leaves_comment open_ true (b ∷ bs) = leaves_comment open_ false bs
leaves_comment open_ false (b ∷ bs) =
    if (b == 47) && begins 42 bs then leaves_comment true true bs
    else leaves_comment (open_ && not ((b == 42) && begins 47 bs)) false bs

-- the last byte other than white space is a backslash, where that before these bytes is one or not (C11 5.1.1.2)
abbrev pub goes_on : Bool → List ℕ → Bool
goes_on before [] = before
goes_on before (b ∷ bs) = goes_on (if is_blank b then before else b == 92) bs

-- the line is not passed over
abbrev pub is_refused : List ℕ → Bool
is_refused bs = is_other_pragma bs || leaves_comment false false bs || goes_on false bs
