-- Reading regions and globals from left to right.
use Rattle.std.specs.Prelude.{ℕ, ℤ, Bool, true, false, List, length}
use Rattle.cx_cword.specs.declared.word.Punctuator.TheVariants as p
use Rattle.cx_tsyn.specs.Words.{WordTree}
use Rattle.cx_tsyn.specs.Types.{STypeTree}
use Rattle.cx_tsyn.specs.Items.{RegionItemTree, GlobalItemTree}
use Rattle.cx_tword.specs.declared.word.TypeWord.TheVariants as tw
use Rattle.cx_tword.specs.declared.lexeme.TypeLexeme.{TypeLexeme}
use Rattle.cx_tword.specs.declared.lexeme.TypeLexemeKind.{TypeLexemeKind}
use Rattle.cx_tword.specs.declared.lexeme.TypeLexemeKind.TheVariants as l
use Rattle.cx_tword.specs.Marks.{is_mark, is_word}
use Rattle.cx_reader.specs.Answers.{Answer, fault, ◌>>=◌, give, front_of, at_lexeme, next_at, maybe_at}
use Rattle.cx_tlin.specs.Reading.{name_at}
use Rattle.cx_tcell.specs.Reading.{in_parentheses_at}
use Rattle.cx_ttype.specs.Reading.{closed_at, stype_at}
use Rattle.cx_tregion.specs.Regions.{region_of, global_of}

-- ---- regions

unfoldable pub shared_at : List TypeLexeme → Answer TypeLexeme Bool
shared_at os = maybe_at (is_word tw.Shared) false os (λ o rest. give true rest)

-- behind the equals sign
abbrev pub region_end : List ℕ → Bool → WordTree → List WordTree → List TypeLexeme → Answer TypeLexeme (Bool × WordTree × List WordTree × STypeTree)
region_end bytes shared v ps os = stype_at bytes os >>= λ t. closed_at p.Semicolon (shared, v, ps, t.tree) t.rest

-- behind the word region
abbrev pub region_from : List ℕ → Bool → List TypeLexeme → Answer TypeLexeme (Bool × WordTree × List WordTree × STypeTree)
region_from bytes shared os = name_at bytes os >>= λ v. in_parentheses_at (name_at bytes) v.rest >>= λ ps. next_at (is_mark p.Assign) ps.rest (λ e rest. region_end bytes shared v.tree ps.tree rest)

unfoldable pub region_at : List ℕ → List TypeLexeme → Answer TypeLexeme RegionItemTree
region_at bytes os =
    (shared_at os >>= λ x. next_at (is_word tw.Region) x.rest (λ o rest. region_from bytes x.tree rest))
    >>= λ x. give (region_of (front_of os x.rest) x.tree) x.rest

-- ---- globals

abbrev pub number_by : (os rest : List TypeLexeme) → TypeLexemeKind → Answer TypeLexeme ℤ
number_by os rest (l.Number z) = give z rest
number_by os rest _ = fault (length os)

unfoldable pub number_at : List TypeLexeme → Answer TypeLexeme ℤ
number_at os = at_lexeme os (fault (length os)) (λ o rest. number_by os rest o.kind)

-- behind the equals sign
abbrev pub global_end : List ℕ → WordTree → List TypeLexeme → Answer TypeLexeme (WordTree × WordTree × List ℤ)
global_end bytes v os = name_at bytes os >>= λ c. in_parentheses_at number_at c.rest >>= λ xs. closed_at p.Semicolon (v, c.tree, xs.tree) xs.rest

-- behind the word global
abbrev pub global_from : List ℕ → List TypeLexeme → Answer TypeLexeme (WordTree × WordTree × List ℤ)
global_from bytes os = name_at bytes os >>= λ v. next_at (is_mark p.Assign) v.rest (λ e rest. global_end bytes v.tree rest)

unfoldable pub global_at : List ℕ → List TypeLexeme → Answer TypeLexeme GlobalItemTree
global_at bytes os =
    next_at (is_word tw.Global) os (λ o rest. global_from bytes rest)
    >>= λ x. give (global_of (front_of os x.rest) x.tree) x.rest
