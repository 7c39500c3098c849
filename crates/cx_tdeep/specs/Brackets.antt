-- How deep the brackets of a type file are nested.
use Rattle.std.specs.Prelude.{Bool, false, ◌&&◌, nat_lt, List, [], ◌∷◌, length, Option, Some, None, is_some, if◌then◌else◌}
use Rattle.cx_cword.specs.declared.word.Punctuator.{Punctuator}
use Rattle.cx_cword.specs.declared.word.Punctuator.TheVariants as p
use Rattle.cx_tword.specs.declared.lexeme.TypeLexeme.{TypeLexeme}
use Rattle.cx_tword.specs.declared.lexeme.TypeLexemeKind.{TypeLexemeKind}
use Rattle.cx_tword.specs.declared.lexeme.TypeLexemeKind.TheVariants as l
use Rattle.cx_tword.specs.Marks.{is_mark}

-- what closes the bracket that the lexeme opens
abbrev pub closer_of : TypeLexemeKind → Option Punctuator
closer_of (l.Punctuator p.OpenParen) = Some p.CloseParen
closer_of (l.Punctuator p.OpenBracket) = Some p.CloseBracket
closer_of (l.Punctuator p.OpenBrace) = Some p.CloseBrace
closer_of _ = None

abbrev pub without_first : {A : Type 0} → List A → List A
without_first [] = []
without_first (x ∷ xs) = xs

-- the lexeme closes the bracket that was opened last
abbrev pub closes : List Punctuator → TypeLexeme → Bool
closes [] o = false
closes (c ∷ cs) o = is_mark c o

abbrev pub after_by : List Punctuator → TypeLexeme → Option Punctuator → List Punctuator
after_by cs o (Some c) = c ∷ cs
after_by cs o None = if closes cs o then without_first cs else cs

-- what closes the brackets that are open after a lexeme, of the last one first, where these close those before it
abbrev pub open_after : List Punctuator → TypeLexeme → List Punctuator
open_after cs o = after_by cs o (closer_of o.kind)

-- the first bracket that opens the 101st level
abbrev pub first_deep : List Punctuator → List TypeLexeme → Option TypeLexeme
first_deep cs [] = None
first_deep cs (o ∷ os) = if is_some (closer_of o.kind) && nat_lt 99 (length cs) then Some o else first_deep (open_after cs o) os
