-- Reading types from left to right. The number bounds how deep the types of a type are nested.
use Rattle.std.specs.Prelude.{ℕ, zero, suc, Bool, ◌||◌, List, [], ◌∷◌, ◌++◌, length, Option, Some, None, if◌then◌else◌}
use Rattle.cx_cword.specs.declared.word.Punctuator.{Punctuator}
use Rattle.cx_cword.specs.declared.word.Punctuator.TheVariants as p
use Rattle.cx_tsyn.specs.Words.{WordTree}
use Rattle.cx_tsyn.specs.Lins.{LinTree, RelationTree}
use Rattle.cx_tsyn.specs.Cells.{SCellTree}
use Rattle.cx_tsyn.specs.Types.{AsTagTree, STypeTree, stype, AtomTree, cell, paren, tagged, product, cases, SFieldTree, SBranchTree, types_in_order, fields_in_order, branches_in_order}
use Rattle.cx_tword.specs.declared.word.TypeWord.TheVariants as tw
use Rattle.cx_tword.specs.declared.lexeme.TypeLexeme.{TypeLexeme}
use Rattle.cx_tword.specs.Marks.{is_mark, is_word}
use Rattle.cx_reader.specs.Answers.{Answer, fault, ◌>>=◌, give, front_of, at_lexeme, next_is, next_at, maybe_at}
use Rattle.cx_tlin.specs.Lexemes.{span_of}
use Rattle.cx_tlin.specs.Reading.{word_at, name_at, lin_at, names_at, relations_at}
use Rattle.cx_tcell.specs.Reading.{cell_at}
use Rattle.cx_ttype.specs.Types.{names_field}

-- ---- what stands around an atom

unfoldable pub binders_at : List ℕ → List TypeLexeme → Answer TypeLexeme (List WordTree)
binders_at bytes os = maybe_at (is_word tw.Some) [] os (λ o rest. names_at bytes rest >>= λ xs. next_at (is_word tw.Of) xs.rest (λ c rest. give xs.tree rest))

unfoldable pub times_at : List ℕ → List TypeLexeme → Answer TypeLexeme (Option LinTree)
times_at bytes os = maybe_at (is_mark p.OpenBracket) None os (λ o rest. lin_at bytes rest >>= λ x. next_at (is_mark p.CloseBracket) x.rest (λ c rest. give (Some x.tree) rest))

unfoldable pub conds_at : List ℕ → List TypeLexeme → Answer TypeLexeme (List RelationTree)
conds_at bytes os = maybe_at (is_word tw.Where) [] os (λ o rest. relations_at bytes rest)

-- ---- tags

abbrev pub is_tag_word : TypeLexeme → Bool
is_tag_word o = is_word tw.Struct o || is_word tw.Union o

-- whether the word is union, and the tag
unfoldable pub tag_at : List ℕ → List TypeLexeme → Answer TypeLexeme (Option (Bool × WordTree))
tag_at bytes os = maybe_at (is_word tw.As) None os (λ o rest. next_at is_tag_word rest (λ d rest. name_at bytes rest >>= λ x. give (Some (is_word tw.Union d, x.tree)) x.rest))

abbrev pub as_tag_of : List TypeLexeme → Option (Bool × WordTree) → Option AsTagTree
as_tag_of front None = None
as_tag_of front (Some t) = Some (record { span = span_of front; union_ = t.0; tag = t.1 })

unfoldable pub as_tag_at : List ℕ → List TypeLexeme → Answer TypeLexeme (Option AsTagTree)
as_tag_at bytes os = tag_at bytes os >>= λ x. give (as_tag_of (front_of os x.rest) x.tree) x.rest

-- ---- types, with the readers of what is in them as arguments

-- binders, an atom, how many and conditions
abbrev pub TypeBody : Type 0
TypeBody = List WordTree × AtomTree × Option LinTree × List RelationTree

abbrev pub type_of : List TypeLexeme → TypeBody → STypeTree
type_of front x = stype (span_of front) x.0 x.1 x.2 x.3

abbrev pub parts_by : List ℕ → (List TypeLexeme → Answer TypeLexeme AtomTree) → List TypeLexeme → Answer TypeLexeme TypeBody
parts_by bytes atom os = binders_at bytes os >>= λ bs. atom bs.rest >>= λ x. times_at bytes x.rest >>= λ t. conds_at bytes t.rest >>= λ c. give (bs.tree, x.tree, t.tree, c.tree) c.rest

abbrev pub type_by : List ℕ → (List TypeLexeme → Answer TypeLexeme AtomTree) → List TypeLexeme → Answer TypeLexeme STypeTree
type_by bytes atom os = parts_by bytes atom os >>= λ x. give (type_of (front_of os x.rest) x.tree) x.rest

-- a mark has to come next
abbrev pub closed_at : {A : Type 0} → Punctuator → A → List TypeLexeme → Answer TypeLexeme A
closed_at mark x os = next_at (is_mark mark) os (λ c rest. give x rest)

-- a type and a semicolon
abbrev pub piece_from : Answer TypeLexeme STypeTree → Answer TypeLexeme STypeTree
piece_from t = t >>= λ x. closed_at p.Semicolon x.tree x.rest

-- a colon, a type and a semicolon
abbrev pub body_by : (List TypeLexeme → Answer TypeLexeme STypeTree) → List TypeLexeme → Answer TypeLexeme STypeTree
body_by type os = next_at (is_mark p.Colon) os (λ o rest. piece_from (type rest))

-- behind the name
abbrev pub field_by : List ℕ → (List TypeLexeme → Answer TypeLexeme STypeTree) → TypeLexeme → List TypeLexeme → Answer TypeLexeme SFieldTree
field_by bytes type o os = body_by type os >>= λ t. give (record { name = word_at bytes o.span; body = t.tree }) t.rest

-- behind the word when
abbrev pub branch_by : List ℕ → (List TypeLexeme → Answer TypeLexeme STypeTree) → List TypeLexeme → Answer TypeLexeme SBranchTree
branch_by bytes type os = relations_at bytes os >>= λ gs. body_by type gs.rest >>= λ t. give (record { guard = gs.tree; body = t.tree }) t.rest

abbrev pub cell_from : Answer TypeLexeme SCellTree → Answer TypeLexeme AtomTree
cell_from c = c >>= λ x. give (cell x.tree) x.rest

abbrev pub paren_from : Answer TypeLexeme STypeTree → Answer TypeLexeme AtomTree
paren_from t = t >>= λ x. closed_at p.CloseParen (paren x.tree) x.rest

-- behind the types of a product
abbrev pub product_end : List ℕ → List STypeTree → List TypeLexeme → Answer TypeLexeme AtomTree
product_end bytes ts os = next_at (is_mark p.CloseBrace) os (λ c rest. as_tag_at bytes rest >>= λ t. give (product (types_in_order ts) t.tree) t.rest)

abbrev pub product_from : List ℕ → Answer TypeLexeme (List STypeTree) → Answer TypeLexeme AtomTree
product_from bytes ts = ts >>= λ x. product_end bytes x.tree x.rest

-- a tag and a brace, behind the word struct or union
abbrev pub opened_tag_at : List ℕ → List TypeLexeme → Answer TypeLexeme WordTree
opened_tag_at bytes os = name_at bytes os >>= λ v. closed_at p.OpenBrace v.tree v.rest

abbrev pub tagged_by : List ℕ → (union : Bool) → (List TypeLexeme → Answer TypeLexeme (List SFieldTree)) → List TypeLexeme → Answer TypeLexeme AtomTree
tagged_by bytes union fields os = opened_tag_at bytes os >>= λ v. fields v.rest >>= λ fs. closed_at p.CloseBrace (tagged union v.tree (fields_in_order fs.tree)) fs.rest

-- behind the word cases: a first branch has to come
abbrev pub cases_by : (List TypeLexeme → Answer TypeLexeme (List SBranchTree)) → List TypeLexeme → Answer TypeLexeme AtomTree
cases_by branches os =
    next_at (is_mark p.OpenBrace) os (λ o rest. if next_is (is_word tw.When) rest then (branches rest >>= λ bs. closed_at p.CloseBrace (cases (branches_in_order bs.tree)) bs.rest) else fault (length rest))

abbrev pub atom_by : List ℕ → (List TypeLexeme → Answer TypeLexeme STypeTree) → (List TypeLexeme → Answer TypeLexeme (List STypeTree)) → (List TypeLexeme → Answer TypeLexeme (List SFieldTree)) → (List TypeLexeme → Answer TypeLexeme (List SBranchTree)) → List TypeLexeme → Answer TypeLexeme AtomTree
atom_by bytes type pieces fields branches os = at_lexeme os (fault (length os)) (λ o rest.
    if is_mark p.OpenParen o then paren_from (type rest)
    else (if is_mark p.OpenBrace o then product_from bytes (pieces rest)
    else (if is_tag_word o then tagged_by bytes (is_word tw.Union o) fields rest
    else (if is_word tw.Cases o then cases_by branches rest
    else cell_from (cell_at bytes os)))))

-- ---- types

-- no lexeme stands before the type of a piece, so it is read with the same number as the pieces: pieces_at
-- spells out a turn of atom_at
unfoldable mutual
  pub atom_at : List ℕ → ℕ → List TypeLexeme → Answer TypeLexeme AtomTree
  atom_at bytes zero os = fault (length os)
  atom_at bytes (suc n) os = atom_by bytes (type_by bytes (atom_at bytes n)) (pieces_at bytes n []) (fields_at bytes n []) (branches_at bytes n []) os

  pub pieces_at : List ℕ → ℕ → List STypeTree → List TypeLexeme → Answer TypeLexeme (List STypeTree)
  pieces_at bytes zero all os = fault (length os)
  pieces_at bytes (suc n) all os = at_lexeme os (give all os) (λ o rest.
      if is_mark p.CloseBrace o then give all os
      else (piece_from (type_by bytes (λ os. atom_by bytes (type_by bytes (atom_at bytes n)) (pieces_at bytes n []) (fields_at bytes n []) (branches_at bytes n []) os) os) >>= λ x. pieces_at bytes n (all ++ x.tree ∷ []) x.rest))

  pub fields_at : List ℕ → ℕ → List SFieldTree → List TypeLexeme → Answer TypeLexeme (List SFieldTree)
  fields_at bytes zero all os = fault (length os)
  fields_at bytes (suc n) all os = at_lexeme os (give all os) (λ o rest.
      if names_field o then (field_by bytes (type_by bytes (atom_at bytes n)) o rest >>= λ x. fields_at bytes n (all ++ x.tree ∷ []) x.rest) else give all os)

  pub branches_at : List ℕ → ℕ → List SBranchTree → List TypeLexeme → Answer TypeLexeme (List SBranchTree)
  branches_at bytes zero all os = fault (length os)
  branches_at bytes (suc n) all os = at_lexeme os (give all os) (λ o rest.
      if is_word tw.When o then (branch_by bytes (type_by bytes (atom_at bytes n)) rest >>= λ x. branches_at bytes n (all ++ x.tree ∷ []) x.rest) else give all os)

abbrev pub type_at : List ℕ → ℕ → List TypeLexeme → Answer TypeLexeme STypeTree
type_at bytes n os = type_by bytes (atom_at bytes n) os

-- with turns for all lexemes
abbrev pub stype_at : List ℕ → List TypeLexeme → Answer TypeLexeme STypeTree
stype_at bytes os = type_at bytes (suc (length os)) os
