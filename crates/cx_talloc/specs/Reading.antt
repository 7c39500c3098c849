-- Reading an allocator from left to right.
use Rattle.std.specs.Prelude.{ℕ, Bool, true, false, List, length, Option, Some, None}
use Rattle.cx_cword.specs.declared.word.Punctuator.TheVariants as p
use Rattle.cx_cname.specs.Known.{Known}
use Rattle.cx_tsyn.specs.Words.{WordTree}
use Rattle.cx_tsyn.specs.Items.{SArgTree, number, param, over, AllocItemTree}
use Rattle.cx_tword.specs.declared.word.TypeWord.TheVariants as tw
use Rattle.cx_tword.specs.declared.lexeme.TypeLexeme.{TypeLexeme}
use Rattle.cx_tword.specs.declared.lexeme.TypeLexemeKind.{TypeLexemeKind}
use Rattle.cx_tword.specs.declared.lexeme.TypeLexemeKind.TheVariants as l
use Rattle.cx_tword.specs.Marks.{is_mark, is_word}
use Rattle.cx_reader.specs.Answers.{Answer, fault, ◌>>=◌, give, front_of, at_lexeme, next_at, maybe_at}
use Rattle.cx_tlin.specs.Lexemes.{span_of}
use Rattle.cx_tlin.specs.Reading.{word_at, name_at, names_at}
use Rattle.cx_tcell.specs.Reading.{in_parentheses_at}
use Rattle.cx_ttype.specs.Reading.{closed_at}
use Rattle.cx_tfunc.specs.Reading.{function_name_at}
use Rattle.cx_tctype.specs.Pointees.{PointeeTree}
use Rattle.cx_tctype.specs.Reading.{ctype_at}
use Rattle.cx_talloc.specs.Allocs.{divisor_kind, is_equals, HeadTree, PlacedTree, BlockTree, SizeTree, AllocBody, alloc_of}

-- ---- arguments

abbrev pub divisor_by : WordTree → TypeLexeme → (os rest : List TypeLexeme) → Option ℕ → Answer TypeLexeme SArgTree
divisor_by w o os rest (Some d) = give (over w d o.span) rest
divisor_by w o os rest None = fault (length os)

-- behind the slash
abbrev pub divisor_at : WordTree → List TypeLexeme → Answer TypeLexeme SArgTree
divisor_at w os = at_lexeme os (fault (length os)) (λ o rest. divisor_by w o os rest (divisor_kind o.kind))

-- behind a parameter
abbrev pub param_at : WordTree → List TypeLexeme → Answer TypeLexeme SArgTree
param_at w os = maybe_at (is_mark p.Slash) (param w) os (λ s rest. divisor_at w rest)

abbrev pub arg_by : List ℕ → TypeLexeme → (os rest : List TypeLexeme) → TypeLexemeKind → Answer TypeLexeme SArgTree
arg_by bytes o os rest (l.Number z) = give (number z) rest
arg_by bytes o os rest l.Name = param_at (word_at bytes o.span) rest
arg_by bytes o os rest _ = fault (length os)

unfoldable pub arg_at : List ℕ → List TypeLexeme → Answer TypeLexeme SArgTree
arg_at bytes os = at_lexeme os (fault (length os)) (λ o rest. arg_by bytes o os rest o.kind)

-- ---- the pieces

-- behind the opening parenthesis
abbrev pub head_from : List ℕ → WordTree → List TypeLexeme → Answer TypeLexeme HeadTree
head_from bytes v os = names_at bytes os >>= λ xs. closed_at p.CloseParen (record { name = v; params = xs.tree }) xs.rest

unfoldable pub head_at : List ℕ → List TypeLexeme → Answer TypeLexeme HeadTree
head_at bytes os = function_name_at bytes os >>= λ v. next_at (is_mark p.OpenParen) v.rest (λ e rest. head_from bytes v.tree rest)

abbrev pub placed : List TypeLexeme → PointeeTree → PlacedTree
placed front x = record { pointee = x; span = span_of front }

abbrev pub placed_at : Known → List TypeLexeme → Answer TypeLexeme PlacedTree
placed_at env os = ctype_at env os >>= λ x. give (placed (front_of os x.rest) x.tree) x.rest

unfoldable pub block_at : List ℕ → List TypeLexeme → Answer TypeLexeme BlockTree
block_at bytes os = name_at bytes os >>= λ c. in_parentheses_at (arg_at bytes) c.rest >>= λ xs. give (record { region = c.tree; args = xs.tree }) xs.rest

unfoldable pub factor_at : List ℕ → List TypeLexeme → Answer TypeLexeme (Option WordTree)
factor_at bytes os = maybe_at (is_mark p.Star) None os (λ o rest. name_at bytes rest >>= λ x. give (Some x.tree) x.rest)

unfoldable pub zero_at : List TypeLexeme → Answer TypeLexeme Bool
zero_at os = maybe_at (is_word tw.Zero) false os (λ o rest. give true rest)

unfoldable pub size_at : List ℕ → List TypeLexeme → Answer TypeLexeme SizeTree
size_at bytes os = name_at bytes os >>= λ f. factor_at bytes f.rest >>= λ g. zero_at g.rest >>= λ h. give (record { bytes = f.tree; times = g.tree; zero = h.tree }) h.rest

-- ---- allocators

-- behind the word bytes
abbrev pub alloc_size : List ℕ → HeadTree → PlacedTree → BlockTree → List TypeLexeme → Answer TypeLexeme AllocBody
alloc_size bytes x t y os = size_at bytes os >>= λ z. closed_at p.Semicolon (x, t, y, z.tree) z.rest

-- behind the equals sign
abbrev pub alloc_block : List ℕ → HeadTree → PlacedTree → List TypeLexeme → Answer TypeLexeme AllocBody
alloc_block bytes x t os = block_at bytes os >>= λ y. next_at (is_word tw.Bytes) y.rest (λ k rest. alloc_size bytes x t y.tree rest)

-- behind the word for
abbrev pub alloc_type : List ℕ → Known → HeadTree → List TypeLexeme → Answer TypeLexeme AllocBody
alloc_type bytes env x os = placed_at env os >>= λ t. next_at is_equals t.rest (λ i rest. alloc_block bytes x t.tree rest)

-- behind the word alloc
abbrev pub alloc_from : List ℕ → Known → List TypeLexeme → Answer TypeLexeme AllocBody
alloc_from bytes env os = head_at bytes os >>= λ x. next_at (is_word tw.For) x.rest (λ q rest. alloc_type bytes env x.tree rest)

unfoldable pub alloc_at : List ℕ → Known → List TypeLexeme → Answer TypeLexeme AllocItemTree
alloc_at bytes env os = next_at (is_word tw.Alloc) os (λ o rest. alloc_from bytes env rest) >>= λ x. give (alloc_of (front_of os x.rest) x.tree) x.rest
