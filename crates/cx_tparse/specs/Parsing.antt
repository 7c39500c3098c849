-- What the answer to the text of a type file means, among what the C file declares. A text is its lexemes.
use Rattle.std.specs.Prelude.{◌≡◌, ℕ, List, [], Some, None, Result, Ok, Err}
use Rattle.cx_base.specs.declared.span.Span.{Span}
use Rattle.cx_base.specs.declared.token.Token.{Token}
use Rattle.cx_cname.specs.Known.{Known}
use Rattle.cx_lex.specs.Lexed.{lexed}
use Rattle.cx_lex.specs.declared.fault.LexFault.TheVariants as lex
use Rattle.cx_tsyn.specs.declared.item.Surface.{Surface}
use Rattle.cx_tsyn.specs.Items.{TypeItemTree, surface_tree}
use Rattle.cx_tword.specs.declared.lexeme.TypeLexeme.{TypeLexeme}
use Rattle.cx_tword.specs.Lexemes.{type_lexemes}
use Rattle.cx_reader.specs.Faults.{IsOnly}
use Rattle.cx_tdeep.specs.Brackets.{first_deep}
use Rattle.cx_titem.specs.Items.{AreItems}
use Rattle.cx_titem.specs.Answers.{FaultOn}
use Rattle.cx_tparse.specs.declared.fault.ParseFault.{ParseFault}
use Rattle.cx_tparse.specs.declared.fault.ParseFault.TheVariants as f

-- the text has these lexemes, where names is the numbering of the names of the C file
pub record HasLexemes (names : List (List ℕ)) (bytes : List ℕ) (os : List TypeLexeme) : Type 0 where
  pub tokens : List Token
  pub lexed_so : lexed bytes ≡ Ok tokens
  pub are : os ≡ type_lexemes names bytes tokens

-- no bracket opens the 101st level, and the lexemes spell this and nothing else
pub record IsFile (names : List (List ℕ)) (env : Known) (bytes : List ℕ) (xs : List TypeItemTree) : Type 0 where
  pub os : List TypeLexeme
  pub text : HasLexemes names bytes os
  pub shallow : first_deep [] os ≡ None
  pub only : IsOnly (AreItems bytes env) os xs

-- the first bracket that opens the 101st level stands here
pub record IsDeep (names : List (List ℕ)) (bytes : List ℕ) (s : Span) : Type 0 where
  pub os : List TypeLexeme
  pub text : HasLexemes names bytes os
  pub o : TypeLexeme
  pub deep : first_deep [] os ≡ Some o
  pub placed : o.span ≡ s

-- no bracket opens the 101st level, and the first faulty lexeme stands here
pub record IsFaulty (names : List (List ℕ)) (env : Known) (bytes : List ℕ) (s : Span) : Type 0 where
  pub os : List TypeLexeme
  pub text : HasLexemes names bytes os
  pub shallow : first_deep [] os ≡ None
  pub fault : FaultOn bytes env os s

abbrev pub Stands : List (List ℕ) → Known → List ℕ → ParseFault → Type 0
Stands names env bytes (f.OpenComment at) = lexed bytes ≡ Err (lex.OpenComment at)
Stands names env bytes (f.OpenText at) = lexed bytes ≡ Err (lex.OpenText at)
Stands names env bytes (f.BadByte at) = lexed bytes ≡ Err (lex.BadByte at)
Stands names env bytes (f.TooDeep s) = IsDeep names bytes s
Stands names env bytes (f.Syntax s) = IsFaulty names env bytes s
Stands names env bytes f.NoMemory = Unit {0}

-- the only tree, or the first fault, unless memory ran out
abbrev pub Parses : List (List ℕ) → Known → List ℕ → Result Surface ParseFault → Type 0
Parses names env bytes (Ok x) = IsFile names env bytes (surface_tree x).items
Parses names env bytes (Err e) = Stands names env bytes e
