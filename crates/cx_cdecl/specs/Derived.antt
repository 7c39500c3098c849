-- What the readers of declarations read: the grammar with the constants of C11 6.6, where no bracket opens the 101st level.
use Rattle.std.specs.Prelude.{◌≤◌, ℕ, suc, ◌-◌, max, Bool, List, [], ◌∷◌}
use Rattle.cx_base.specs.declared.span.Span.{Span}
use Rattle.cx_ctree.specs.Types.{TypeTree}
use Rattle.cx_ctree.specs.Decls.{SignatureTree, DeclTree, object, proto}
use Rattle.cx_ctree.specs.Path.{type_path}
use Rattle.cx_cword.specs.declared.word.Punctuator.TheVariants as p
use Rattle.cx_cword.specs.declared.lexeme.Lexeme.{Lexeme}
use Rattle.cx_cword.specs.declared.lexeme.LexemeKind.{LexemeKind}
use Rattle.cx_cword.specs.declared.lexeme.LexemeKind.TheVariants as l
use Rattle.cx_cname.specs.Known.{Known}
use Rattle.cx_cexpr.specs.Expressions.{IsType}
use Rattle.cx_cdecl.specs.Declarations.{Beside, AreSpecs, IsObject, IsFunction, IsDeclaration}

-- how many brackets are open after a lexeme
abbrev pub open_after : LexemeKind → ℕ → ℕ
open_after (l.Punctuator p.OpenParen) n = suc n
open_after (l.Punctuator p.OpenBracket) n = suc n
open_after (l.Punctuator p.OpenBrace) n = suc n
open_after (l.Punctuator p.CloseParen) n = n - 1
open_after (l.Punctuator p.CloseBracket) n = n - 1
open_after (l.Punctuator p.CloseBrace) n = n - 1
open_after _ n = n

-- the deepest level of brackets, where n are open before
abbrev pub deepest : ℕ → List Lexeme → ℕ
deepest n [] = n
deepest n (o ∷ os) = max n (deepest (open_after o.kind n) os)

abbrev pub AreShallow : List Lexeme → Type 0
AreShallow os = deepest 0 os ≤ 100

-- a type
pub record DerivesType (env : Known) (os : List Lexeme) (t : TypeTree) : Type 0 where
  pub spelled : IsType env os t
  pub low : type_path t ≤ 400
  pub shallow : AreShallow os

-- the words of a type, with what the words beside it say and the names known after it
pub record DerivesSpecs (earlier : List DeclTree) (env : Known) (os : List Lexeme) (t : TypeTree) (s : Beside) (known : Known) : Type 0 where
  pub listed : Bool
  pub spelled : AreSpecs earlier env os t s listed known
  pub shallow : AreShallow os

-- a declarator of an object, of the name n at the lexeme o
pub record DerivesObject (env : Known) (base : TypeTree) (os : List Lexeme) (n : ℕ) (o : Lexeme) (t : TypeTree) : Type 0 where
  pub spelled : IsObject env base os n o t
  pub shallow : AreShallow os

-- a declarator of a function, whose name stands at the lexeme o
pub record DerivesFunction (earlier : List DeclTree) (env : Known) (base : TypeTree) (os : List Lexeme) (o : Lexeme) (f : SignatureTree) (known : Known) : Type 0 where
  pub spelled : IsFunction earlier env base os o f known
  pub shallow : AreShallow os

-- a declarator, with what it declares, the place of its name, and the names known after it
pub data DerivesDeclarator (earlier : List DeclTree) (env : Known) (base : TypeTree) : List Lexeme → DeclTree → Span → Known → Type 0 where
  object_derived : {os : List Lexeme} {n : ℕ} {t : TypeTree} (o : Lexeme) → DerivesObject env base os n o t → DerivesDeclarator earlier env base os (object n t) o.span env
  function_derived : {os : List Lexeme} {f : SignatureTree} {known : Known} (o : Lexeme) → DerivesFunction earlier env base os o f known → DerivesDeclarator earlier env base os (proto f) o.span known

-- a declaration without a body, with the names known after it
pub record DerivesDeclaration (earlier : List DeclTree) (env : Known) (os : List Lexeme) (ds : List DeclTree) (known : Known) : Type 0 where
  pub spelled : IsDeclaration earlier env os ds known
  pub shallow : AreShallow os
