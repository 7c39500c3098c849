-- The answers to the text of a type file, from those of the layers below.
use Rattle.std.proofs.Common.{◌≡◌, ℕ, List, [], Some, None, Ok, Err, refl, sym, subst}
use Rattle.cx_base.specs.declared.token.Token.{Token}
use Rattle.cx_cname.specs.Known.{Known}
use Rattle.cx_lex.specs.Lexed.{Answers, lexed}
use Rattle.cx_lex.specs.declared.fault.LexFault.{LexFault}
use Rattle.cx_lex.specs.declared.fault.LexFault.TheVariants as lex
use Rattle.cx_tsyn.specs.declared.item.Surface.{Surface}
use Rattle.cx_tword.specs.declared.lexeme.TypeLexeme.{TypeLexeme}
use Rattle.cx_tword.specs.Lexemes.{type_lexemes}
use Rattle.cx_tdeep.specs.Brackets.{first_deep}
use Rattle.cx_titem.specs.Answers.{ReadsFile}
use Rattle.cx_titem.specs.declared.fault.SyntaxFault.{SyntaxFault}
use Rattle.cx_titem.specs.declared.fault.SyntaxFault.TheVariants as syntax
use Rattle.cx_tparse.specs.declared.fault.ParseFault.{ParseFault}
use Rattle.cx_tparse.specs.declared.fault.ParseFault.TheVariants as pf
use Rattle.cx_tparse.specs.Faults.{of_lex, of_syntax}
use Rattle.cx_tparse.specs.Parsing.{HasLexemes, Parses, Stands}

pub lexical : (names : List (List ℕ)) (env : Known) (bytes : List ℕ) (e : LexFault) → Answers (Err e) (lexed bytes) → Stands names env bytes (of_lex e)
lexical names env bytes (lex.OpenComment at) h = h
lexical names env bytes (lex.OpenText at) h = h
lexical names env bytes (lex.BadByte at) h = h
lexical names env bytes lex.NoMemory h = tt

pub lexical_of : (names : List (List ℕ)) (env : Known) (bytes : List ℕ) (f : ParseFault) (e : LexFault) → f ≡ of_lex e → Answers (Err e) (lexed bytes) → Stands names env bytes f
lexical_of names env bytes f e p h = subst (Stands names env bytes) (sym p) (lexical names env bytes e h)

module _ (names : List (List ℕ)) (env : Known) (bytes : List ℕ) (tokens : List Token) (h : lexed bytes ≡ Ok tokens) where
  text : HasLexemes names bytes (type_lexemes names bytes tokens)
  text = record { tokens = tokens; lexed_so = h; are = refl }

  pub deep : (o : TypeLexeme) → first_deep [] (type_lexemes names bytes tokens) ≡ Some o → Parses names env bytes (Err (pf.TooDeep o.span))
  deep o e = record { os = type_lexemes names bytes tokens; text = text; o = o; deep = e; placed = refl }

  module _ (shallow : first_deep [] (type_lexemes names bytes tokens) ≡ None) where
    pub parsed : (x : Surface) → ReadsFile bytes env (type_lexemes names bytes tokens) (Ok x) → Parses names env bytes (Ok x)
    parsed x r = record { os = type_lexemes names bytes tokens; text = text; shallow = shallow; only = r }

    pub stopped : (e : SyntaxFault) → ReadsFile bytes env (type_lexemes names bytes tokens) (Err e) → Parses names env bytes (Err (of_syntax e))
    stopped (syntax.Syntax s) r = record { os = type_lexemes names bytes tokens; text = text; shallow = shallow; fault = r }
    stopped syntax.NoMemory r = tt

    pub stopped_of : (f : ParseFault) (e : SyntaxFault) → f ≡ of_syntax e → ReadsFile bytes env (type_lexemes names bytes tokens) (Err e) → Stands names env bytes f
    stopped_of f e p r = subst (Stands names env bytes) (sym p) (stopped e r)
