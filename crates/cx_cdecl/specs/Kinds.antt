-- What a lexeme can be at each place of a declaration.
use Rattle.std.specs.Prelude.{Bool, true, false, Option, Some, None}
use Rattle.cx_cword.specs.declared.word.Keyword.{Keyword}
use Rattle.cx_cword.specs.declared.word.Keyword.TheVariants as k
use Rattle.cx_cword.specs.declared.word.Punctuator.{Punctuator}
use Rattle.cx_cword.specs.declared.word.Punctuator.TheVariants as p
use Rattle.cx_cword.specs.declared.lexeme.LexemeKind.{LexemeKind}
use Rattle.cx_cword.specs.declared.lexeme.LexemeKind.TheVariants as l
use Rattle.cx_cword.specs.declared.mark.Mark.{Mark}
use Rattle.cx_cword.specs.declared.mark.Mark.TheVariants as m
use Rattle.cx_cdecl.specs.declared.kinds.Head.{Head}
use Rattle.cx_cdecl.specs.declared.kinds.Head.TheVariants as h
use Rattle.cx_cdecl.specs.declared.kinds.Bracket.{Bracket}
use Rattle.cx_cdecl.specs.declared.kinds.Bracket.TheVariants as b
use Rattle.cx_cdecl.specs.Declarations.{Beside, also_said}

-- ---- words

-- what the lexeme adds, where it is a word beside a type
abbrev pub also_says : LexemeKind → Beside → Option Beside
also_says (l.Keyword word) s = also_said word s
also_says _ s = None

abbrev pub is_attribute : LexemeKind → Bool
is_attribute (l.Keyword k.Attribute) = true
is_attribute _ = false

-- a word of what may stand after the parameters of a function
abbrev pub is_after : LexemeKind → Bool
is_after (l.Keyword k.Attribute) = true
is_after (l.Keyword k.Asm) = true
is_after _ = false

abbrev pub head_word : Keyword → Head
head_word k.Struct = h.Record false
head_word k.Union = h.Record true
head_word k.Enum = h.Enum
head_word _ = h.Other

-- what begins the words of a type
abbrev pub head_of : LexemeKind → Head
head_of (l.Keyword word) = head_word word
head_of _ = h.Other

abbrev pub bracket_by : Punctuator → Bracket
bracket_by p.OpenParen = b.Open m.CloseParen
bracket_by p.OpenBracket = b.Open m.CloseBracket
bracket_by p.OpenBrace = b.Open m.CloseBrace
bracket_by p.CloseParen = b.Stop
bracket_by p.CloseBracket = b.Stop
bracket_by p.CloseBrace = b.Stop
bracket_by _ = b.Plain

-- what a lexeme is among attributes
abbrev pub bracket_of : LexemeKind → Bracket
bracket_of (l.Punctuator p) = bracket_by p
bracket_of (l.Attributive n) = b.Stop
bracket_of _ = b.Plain
