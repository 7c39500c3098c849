-- The longest derived front of a list of lexemes: how long it is, and what it is read as.
use Rattle.std.specs.Prelude.{◌≡◌, ℕ, ◌≤◌, Bool, List, length, take}
use Rattle.cx_base.specs.declared.span.Span.{Span}
use Rattle.cx_ctree.specs.Types.{TypeTree}
use Rattle.cx_ctree.specs.Decls.{DeclTree}
use Rattle.cx_cword.specs.declared.lexeme.Lexeme.{Lexeme}
use Rattle.cx_cname.specs.Known.{Known}
use Rattle.cx_cdecl.specs.Declarations.{Beside}
use Rattle.cx_cdecl.specs.Derived.{DerivesType, DerivesSpecs, DerivesDeclarator, DerivesDeclaration}

-- a type
pub record LongestType (env : Known) (os : List Lexeme) (n : ℕ) (t : TypeTree) : Type 0 where
  pub within : n ≤ length os
  pub derived : DerivesType env (take n os) t
  pub only : (u : TypeTree) → DerivesType env (take n os) u → u ≡ t
  pub longest : (m : ℕ) (u : TypeTree) → m ≤ length os → DerivesType env (take m os) u → m ≤ n

abbrev pub NoType : Known → List Lexeme → Type 0
NoType env os = (m : ℕ) (u : TypeTree) → DerivesType env (take m os) u → ⊥

-- the words of a type, with whether the words beside it say `typedef`, and `extern` or `static`
pub record LongestSpecs (earlier : List DeclTree) (env : Known) (os : List Lexeme) (n : ℕ) (t : TypeTree) (typedef_ linked : Bool) (known : Known) : Type 0 where
  pub within : n ≤ length os
  pub said : Beside
  pub derived : DerivesSpecs earlier env (take n os) t said known
  pub typedef_is : said.typedef_ ≡ typedef_
  pub linked_is : said.linked ≡ linked
  pub only : (u : TypeTree) (s : Beside) (later : Known) → DerivesSpecs earlier env (take n os) u s later → (u ≡ t) × (s ≡ said) × (later ≡ known)
  pub longest : (m : ℕ) (u : TypeTree) (s : Beside) (later : Known) → m ≤ length os → DerivesSpecs earlier env (take m os) u s later → m ≤ n

abbrev pub NoSpecs : List DeclTree → Known → List Lexeme → Type 0
NoSpecs earlier env os = (m : ℕ) (u : TypeTree) (s : Beside) (later : Known) → DerivesSpecs earlier env (take m os) u s later → ⊥

-- a declarator, with the place of its name
pub record LongestDeclarator (earlier : List DeclTree) (env : Known) (base : TypeTree) (os : List Lexeme) (n : ℕ) (d : DeclTree) (span : Span) (known : Known) : Type 0 where
  pub within : n ≤ length os
  pub derived : DerivesDeclarator earlier env base (take n os) d span known
  pub only : (e : DeclTree) (other : Span) (later : Known) → DerivesDeclarator earlier env base (take n os) e other later → (e ≡ d) × (other ≡ span) × (later ≡ known)
  pub longest : (m : ℕ) (e : DeclTree) (other : Span) (later : Known) → m ≤ length os → DerivesDeclarator earlier env base (take m os) e other later → m ≤ n

abbrev pub NoDeclarator : List DeclTree → Known → TypeTree → List Lexeme → Type 0
NoDeclarator earlier env base os = (m : ℕ) (e : DeclTree) (other : Span) (later : Known) → DerivesDeclarator earlier env base (take m os) e other later → ⊥

-- the lexemes are one declaration without a body, and no other
pub record OnlyDeclaration (earlier : List DeclTree) (env : Known) (os : List Lexeme) (ds : List DeclTree) (known : Known) : Type 0 where
  pub derived : DerivesDeclaration earlier env os ds known
  pub only : (es : List DeclTree) (later : Known) → DerivesDeclaration earlier env os es later → (es ≡ ds) × (later ≡ known)

abbrev pub NoDeclaration : List DeclTree → Known → List Lexeme → Type 0
NoDeclaration earlier env os = (es : List DeclTree) (later : Known) → DerivesDeclaration earlier env os es later → ⊥
