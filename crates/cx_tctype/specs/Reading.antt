-- Reading a type of C from left to right.
use Rattle.std.specs.Prelude.{ℕ, Bool, true, false, List, [], ◌∷◌, length, Option, Some, None, if◌then◌else◌}
use Rattle.cx_ctree.specs.Conversions.{signed_int}
use Rattle.cx_ctree.specs.Types.{TypeTree, void, int, pointer}
use Rattle.cx_cword.specs.declared.lexeme.LexemeKind.{LexemeKind}
use Rattle.cx_cword.specs.declared.lexeme.LexemeKind.TheVariants as cl
use Rattle.cx_cname.specs.Known.{Known, value_of, names_enum}
use Rattle.cx_cexpr.specs.declared.kinds.Base.{Base}
use Rattle.cx_cexpr.specs.declared.kinds.Base.TheVariants as base
use Rattle.cx_cexpr.specs.Kinds.{word_of, base_of, is_skipped}
use Rattle.cx_cexpr.specs.IntWords.{Counts, no_word}
use Rattle.cx_cexpr.specs.Reading.{with_word, next_words, int_of}
use Rattle.cx_tword.specs.declared.lexeme.TypeLexeme.{TypeLexeme}
use Rattle.cx_reader.specs.Answers.{Got, Answer, read, fault, ◌>>=◌, give, at_lexeme}
use Rattle.cx_tctype.specs.Pointees.{PointeeTree, known, tagged, tag_found, is_low, is_star, pointed}

-- the lexemes behind the words that are passed over
unfoldable pub after_skips : List TypeLexeme → List TypeLexeme
after_skips [] = []
after_skips (o ∷ os) = if is_skipped o.c_kind then after_skips os else o ∷ os

abbrev pub words_by : (Counts → Got TypeLexeme Counts) → Got TypeLexeme Counts → Option Counts → Got TypeLexeme Counts
words_by again x None = x
words_by again x (Some n) = again n

-- goes on with words of integer types while they are words of a list
unfoldable pub words_at : Counts → List TypeLexeme → Got TypeLexeme Counts
words_at n [] = record { tree = n; rest = [] }
words_at n (o ∷ os) = words_by (λ m. words_at m os) (record { tree = n; rest = o ∷ os }) (next_words n (word_of o.c_kind))

abbrev pub int_from : Counts → List TypeLexeme → Answer TypeLexeme PointeeTree
int_from n os = read (words_at n os) >>= λ x. give (known (int (int_of x.tree))) x.rest

abbrev pub typedef_by : (os rest : List TypeLexeme) → Option TypeTree → Answer TypeLexeme PointeeTree
typedef_by os rest None = fault (length os)
typedef_by os rest (Some t) = if is_low t then give (known t) rest else fault (length os)

abbrev pub tag_by : Known → Bool → (m : TypeLexeme) → (os rest : List TypeLexeme) → LexemeKind → Answer TypeLexeme PointeeTree
tag_by env union m os rest (cl.Name n) = give (tagged m.span (tag_found env union n)) rest
tag_by env union m os rest _ = fault (length os)

-- behind the word struct or union
abbrev pub tag_at : Known → Bool → List TypeLexeme → Answer TypeLexeme PointeeTree
tag_at env union os = at_lexeme os (fault (length os)) (λ m rest. tag_by env union m os rest m.c_kind)

abbrev pub enum_by : Known → (os rest : List TypeLexeme) → LexemeKind → Answer TypeLexeme PointeeTree
enum_by env os rest (cl.Name (Some n)) = if names_enum env n then give (known (int signed_int)) rest else fault (length os)
enum_by env os rest _ = fault (length os)

-- behind the word enum
abbrev pub enum_at : Known → List TypeLexeme → Answer TypeLexeme PointeeTree
enum_at env os = at_lexeme os (fault (length os)) (λ m rest. enum_by env os rest m.c_kind)

abbrev pub has_some : List ℕ → Bool
has_some [] = false
has_some (n ∷ ns) = true

abbrev pub base_by : Known → (os rest : List TypeLexeme) → Base → Answer TypeLexeme PointeeTree
base_by env os rest base.Void = give (known void) rest
base_by env os rest (base.Word w) = int_from (with_word w no_word) rest
base_by env os rest (base.Tag union) = tag_at env union rest
base_by env os rest base.Enum = if has_some env.enums then enum_at env rest else fault (length os)
base_by env os rest (base.Name n) = typedef_by os rest (value_of n env.typedefs)
base_by env os rest base.Other = fault (length os)

unfoldable pub base_at : Known → List TypeLexeme → Answer TypeLexeme PointeeTree
base_at env os = at_lexeme os (fault (length os)) (λ o rest. base_by env os rest (base_of o.c_kind))

-- goes on with stars and words that are passed over
unfoldable pub tail_at : PointeeTree → List TypeLexeme → Got TypeLexeme PointeeTree
tail_at x [] = record { tree = x; rest = [] }
tail_at x (o ∷ os) =
    if is_star o.c_kind then (if is_low (pointer x.ctype) then tail_at (pointed x) os else record { tree = x; rest = o ∷ os })
    else (if is_skipped o.c_kind then tail_at x os else record { tree = x; rest = o ∷ os })

unfoldable pub ctype_at : Known → List TypeLexeme → Answer TypeLexeme PointeeTree
ctype_at env os = base_at env (after_skips os) >>= λ x. read (tail_at x.tree x.rest)
