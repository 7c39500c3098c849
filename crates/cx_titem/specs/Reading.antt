-- Reading a type file from left to right. The number bounds how many items are read.
use Rattle.std.specs.Prelude.{ℕ, zero, suc, Bool, ◌||◌, List, [], ◌∷◌, ◌++◌, length, if◌then◌else◌}
use Rattle.cx_cname.specs.Known.{Known}
use Rattle.cx_tsyn.specs.Items.{RegionItemTree, FuncItemTree, AllocItemTree, GlobalItemTree, TypeItemTree, region, func, alloc, global}
use Rattle.cx_tword.specs.declared.word.TypeWord.TheVariants as tw
use Rattle.cx_tword.specs.declared.lexeme.TypeLexeme.{TypeLexeme}
use Rattle.cx_tword.specs.Marks.{is_word}
use Rattle.cx_reader.specs.Answers.{Answer, fault, ◌>>=◌, give, at_lexeme}
use Rattle.cx_tregion.specs.Reading.{region_at, global_at}
use Rattle.cx_tfunc.specs.Reading.{func_at}
use Rattle.cx_talloc.specs.Reading.{alloc_at}

abbrev pub region_from : Answer TypeLexeme RegionItemTree → Answer TypeLexeme TypeItemTree
region_from r = r >>= λ x. give (region x.tree) x.rest

abbrev pub func_from : Answer TypeLexeme FuncItemTree → Answer TypeLexeme TypeItemTree
func_from r = r >>= λ x. give (func x.tree) x.rest

abbrev pub alloc_from : Answer TypeLexeme AllocItemTree → Answer TypeLexeme TypeItemTree
alloc_from r = r >>= λ x. give (alloc x.tree) x.rest

abbrev pub global_from : Answer TypeLexeme GlobalItemTree → Answer TypeLexeme TypeItemTree
global_from r = r >>= λ x. give (global x.tree) x.rest

abbrev pub begins_region : TypeLexeme → Bool
begins_region o = is_word tw.Shared o || is_word tw.Region o

unfoldable pub item_at : List ℕ → Known → List TypeLexeme → Answer TypeLexeme TypeItemTree
item_at bytes env os = at_lexeme os (fault (length os)) (λ o rest.
    if begins_region o then region_from (region_at bytes os)
    else (if is_word tw.Fn o then func_from (func_at bytes os)
    else (if is_word tw.Alloc o then alloc_from (alloc_at bytes env os)
    else (if is_word tw.Global o then global_from (global_at bytes os)
    else fault (length os)))))

-- items after those that were read
unfoldable pub items_at : List ℕ → Known → ℕ → List TypeItemTree → List TypeLexeme → Answer TypeLexeme (List TypeItemTree)
items_at bytes env zero all os = fault (length os)
items_at bytes env (suc n) all [] = give all []
items_at bytes env (suc n) all (o ∷ os) = item_at bytes env (o ∷ os) >>= λ x. items_at bytes env n (all ++ x.tree ∷ []) x.rest

-- with turns for all lexemes
abbrev pub file_at : List ℕ → Known → List TypeLexeme → Answer TypeLexeme (List TypeItemTree)
file_at bytes env os = items_at bytes env (suc (length os)) [] os
