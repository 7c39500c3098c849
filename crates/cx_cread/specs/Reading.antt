-- How the items of a file are read one after another, each into the unit that those before it left.
use Rattle.std.specs.Prelude.{◌≡◌, ◌≤◌, ℕ, true, List, [], ◌∷◌, ◌++◌, length, map}
use Rattle.std.specs.List.{list_any, position_or_len}
use Rattle.std.specs.Str.{bytes_eq}
use Rattle.cx_base.specs.declared.token.Token.{Token}
use Rattle.cx_ctree.specs.Decls.{DeclTree, FunctionTree, known, passed}
use Rattle.cx_ctree.specs.Units.{UnitTree}
use Rattle.cx_cword.specs.declared.lexeme.Lexeme.{Lexeme}
use Rattle.cx_cword.specs.Reading.{span_of}
use Rattle.cx_cword.specs.Lexemes.{text_of}
use Rattle.cx_cname.specs.Known.{Known, declared_by}
use Rattle.cx_citem.specs.Items.{is_word, naming}
use Rattle.cx_cdecl.specs.Declarations.{IsDeclaration}
use Rattle.cx_cread.specs.Reads.{IsDefinition, IsItem, known_after}

-- the lexemes spell none
abbrev pub IsNoDeclaration : (earlier : List DeclTree) → Known → List Lexeme → Type 0
IsNoDeclaration earlier env os = (ds : List DeclTree) (later : Known) → IsDeclaration earlier env os ds later → ⊥

abbrev pub IsNoDefinition : (earlier : List DeclTree) → Known → List Lexeme → Type 0
IsNoDefinition earlier env os = (f : FunctionTree) (later : Known) → IsDefinition earlier env os f later → ⊥

abbrev pub IsNoItem : (earlier : List DeclTree) → Known → List Lexeme → Type 0
IsNoItem earlier env os = (ds : List DeclTree) (later : Known) → IsItem earlier env os ds later → ⊥

abbrev pub with_known : UnitTree → Known → UnitTree
with_known u k = record u { tags = k.tags; typedefs = k.typedefs; consts = k.consts; enums = k.enums }

-- before the first item
abbrev pub empty_unit : List (List ℕ) → List Token → UnitTree
empty_unit names tokens = record { names = names; tags = []; typedefs = []; consts = []; enums = []; items = []; tokens = tokens; named = [] }

-- the lexeme lies inside the text, and a word has a number
pub record InText (names : List (List ℕ)) (bytes : List ℕ) (o : Lexeme) : Type 0 where
  pub inside : o.span.past ≤ length bytes
  pub numbered : is_word o.kind ≡ true → list_any (bytes_eq (text_of bytes o.span)) names ≡ true

-- the word lies inside the text and has a number
pub record IsNumbered (names : List (List ℕ)) (bytes : List ℕ) (o : Lexeme) : Type 0 where
  pub inside : o.span.past ≤ length bytes
  pub numbered : list_any (bytes_eq (text_of bytes o.span)) names ≡ true

-- the numbers of words
abbrev pub numbers_of : (names : List (List ℕ)) (bytes : List ℕ) → List Lexeme → List ℕ
numbers_of names bytes os = map (λ o. position_or_len (bytes_eq (text_of bytes o.span)) names) os

-- the unit after one more item
pub data Takes (bytes : List ℕ) (os : List Lexeme) (old new : UnitTree) : Type 0 where
  takes_known : {ds : List DeclTree} {later : Known} → IsItem (declared_by old.items) (known_after old) os ds later → new ≡ record (with_known old later) { items = old.items ++ known ds ∷ [] } → Takes bytes os old new
  takes_passed : IsNoItem (declared_by old.items) (known_after old) os → new ≡ record old { items = old.items ++ passed (span_of os) ∷ []; named = old.named ++ numbers_of old.names bytes (naming 0 os) } → Takes bytes os old new

-- the unit after more items
pub data TakesAll (bytes : List ℕ) : List (List Lexeme) → UnitTree → UnitTree → Type 0 where
  takes_none : {u : UnitTree} → TakesAll bytes [] u u
  takes_more : {os : List Lexeme} {rest : List (List Lexeme)} {u v w : UnitTree} → Takes bytes os u v → TakesAll bytes rest v w → TakesAll bytes (os ∷ rest) u w
