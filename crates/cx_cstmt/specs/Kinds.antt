-- What a lexeme can be at each place of a statement.
use Rattle.std.specs.Prelude.{Bool, true, false, not, ◌&&◌, ◌||◌, List, [], ◌∷◌}
use Rattle.cx_cword.specs.declared.word.Keyword.TheVariants as k
use Rattle.cx_cword.specs.declared.word.Punctuator.TheVariants as p
use Rattle.cx_cword.specs.declared.lexeme.Lexeme.{Lexeme}
use Rattle.cx_cword.specs.declared.lexeme.LexemeKind.{LexemeKind}
use Rattle.cx_cword.specs.declared.lexeme.LexemeKind.TheVariants as l
use Rattle.cx_cname.specs.Known.{Known}
use Rattle.cx_cexpr.specs.Reading.{begins_by}
use Rattle.cx_ceffect.specs.Kinds.{calls}
use Rattle.cx_cword.specs.declared.mark.Mark.TheVariants as m
use Rattle.cx_cword.specs.Marks.{fits}
use Rattle.cx_cstmt.specs.declared.kinds.Head.{Head}
use Rattle.cx_cstmt.specs.declared.kinds.Head.TheVariants as h
use Rattle.cx_cstmt.specs.declared.kinds.Label.{Label}
use Rattle.cx_cstmt.specs.declared.kinds.Label.TheVariants as label

-- ---- statements

-- what begins a statement
abbrev pub head_of : LexemeKind → Head
head_of (l.Punctuator p.OpenBrace) = h.Block
head_of (l.Punctuator p.Semicolon) = h.Empty
head_of (l.Keyword k.If) = h.If
head_of (l.Keyword k.While) = h.While
head_of (l.Keyword k.Do) = h.Do
head_of (l.Keyword k.For) = h.For
head_of (l.Keyword k.Switch) = h.Switch
head_of (l.Keyword k.Break) = h.Break
head_of (l.Keyword k.Continue) = h.Continue
head_of (l.Keyword k.Return) = h.Return
head_of _ = h.Other

abbrev pub label_of : LexemeKind → Label
label_of (l.Keyword k.Case) = label.Case
label_of (l.Keyword k.Default) = label.Default
label_of _ = label.Other

abbrev pub is_label : Label → Bool
is_label label.Other = false
is_label _ = true

abbrev pub begins_label : List Lexeme → Bool
begins_label [] = false
begins_label (o ∷ os) = is_label (label_of o.kind)

-- a lexeme that ends the statements of a group
abbrev pub ends_group : LexemeKind → Bool
ends_group kind = fits m.CloseBrace kind || is_label (label_of kind)

-- ---- declarations

-- a word that says how an object is stored
abbrev pub is_storage : LexemeKind → Bool
is_storage (l.Keyword k.Typedef) = true
is_storage (l.Keyword k.Extern) = true
is_storage (l.Keyword k.Static) = true
is_storage (l.Keyword k.Inline) = true
is_storage (l.Keyword k.Register) = true
is_storage _ = false

-- what begins a declaration of a block; a type's name that is called begins none
abbrev pub begins_local : Known → List Lexeme → Bool
begins_local env [] = false
begins_local env (o ∷ os) = (is_storage o.kind || begins_by env o.kind) && not (calls (o ∷ os))
