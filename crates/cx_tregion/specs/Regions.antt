-- Which lexemes spell a region or a global.
use Rattle.std.specs.Prelude.{◌≡◌, ℕ, ℤ, Bool, true, false, List, [], ◌∷◌, ◌++◌}
use Rattle.cx_cword.specs.declared.word.Punctuator.TheVariants as p
use Rattle.cx_tsyn.specs.Words.{WordTree}
use Rattle.cx_tsyn.specs.Types.{STypeTree}
use Rattle.cx_tsyn.specs.Items.{RegionItemTree, GlobalItemTree}
use Rattle.cx_tword.specs.declared.word.TypeWord.TheVariants as tw
use Rattle.cx_tword.specs.declared.lexeme.TypeLexeme.{TypeLexeme}
use Rattle.cx_tword.specs.declared.lexeme.TypeLexemeKind.TheVariants as l
use Rattle.cx_tword.specs.Marks.{Is, IsWord}
use Rattle.cx_tlin.specs.Lexemes.{span_of}
use Rattle.cx_tlin.specs.Lins.{IsName}
use Rattle.cx_tcell.specs.Cells.{InParentheses}
use Rattle.cx_ttype.specs.Types.{IsType}

-- nothing, or the word shared
pub data IsShared : List TypeLexeme → Bool → Type 0 where
  not_shared : IsShared [] false
  is_shared : (o : TypeLexeme) → IsWord tw.Shared o → IsShared (o ∷ []) true

-- the region that these lexemes spell
abbrev pub region_of : List TypeLexeme → Bool × WordTree × List WordTree × STypeTree → RegionItemTree
region_of os x = record { span = span_of os; shared = x.0; name = x.1; params = x.2; body = x.3 }

-- the word region, perhaps behind the word shared, a name with parameters, an equals sign, a type and a semicolon
pub data IsRegion (bytes : List ℕ) : List TypeLexeme → RegionItemTree → Type 0 where
  a_region : {a v b c : List TypeLexeme} {shared : Bool} {name : WordTree} {params : List WordTree} {body : STypeTree} (o e s : TypeLexeme) → IsShared a shared → IsWord tw.Region o → IsName bytes v name → InParentheses (IsName bytes) b params → Is p.Assign e → IsType bytes c body → Is p.Semicolon s
      → IsRegion bytes (a ++ (o ∷ v ++ (b ++ (e ∷ c ++ s ∷ [])))) (region_of (a ++ (o ∷ v ++ (b ++ (e ∷ c ++ s ∷ [])))) (shared, name, params, body))

pub data IsNumber : List TypeLexeme → ℤ → Type 0 where
  a_number : (o : TypeLexeme) (z : ℤ) → o.kind ≡ l.Number z → IsNumber (o ∷ []) z

-- the global that these lexemes spell
abbrev pub global_of : List TypeLexeme → WordTree × WordTree × List ℤ → GlobalItemTree
global_of os x = record { span = span_of os; name = x.0; region = x.1; args = x.2 }

-- the word global, a name, an equals sign, the name of a region with arguments and a semicolon
pub data IsGlobal (bytes : List ℕ) : List TypeLexeme → GlobalItemTree → Type 0 where
  a_global : {v c d : List TypeLexeme} {name region : WordTree} {args : List ℤ} (o e s : TypeLexeme) → IsWord tw.Global o → IsName bytes v name → Is p.Assign e → IsName bytes c region → InParentheses IsNumber d args → Is p.Semicolon s
      → IsGlobal bytes (o ∷ v ++ (e ∷ c ++ (d ++ s ∷ []))) (global_of (o ∷ v ++ (e ∷ c ++ (d ++ s ∷ []))) (name, region, args))
