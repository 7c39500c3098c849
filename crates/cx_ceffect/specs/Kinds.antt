-- What a lexeme can be at each place of an effect.
use Rattle.std.specs.Prelude.{Bool, true, false, ◌&&◌, List, [], ◌∷◌, Option, None, is_some}
use Rattle.cx_ctree.specs.declared.expr.Binary.{Binary}
use Rattle.cx_ctree.specs.declared.expr.Binary.TheVariants as b
use Rattle.cx_cword.specs.declared.word.Keyword.TheVariants as k
use Rattle.cx_cword.specs.declared.word.Punctuator.{Punctuator}
use Rattle.cx_cword.specs.declared.word.Punctuator.TheVariants as p
use Rattle.cx_cword.specs.declared.lexeme.Lexeme.{Lexeme}
use Rattle.cx_cword.specs.declared.lexeme.LexemeKind.{LexemeKind}
use Rattle.cx_cword.specs.declared.lexeme.LexemeKind.TheVariants as l
use Rattle.cx_cword.specs.Reading.{name_of}
use Rattle.cx_cword.specs.declared.mark.Mark.TheVariants as m
use Rattle.cx_ceffect.specs.declared.kinds.After.{After}
use Rattle.cx_ceffect.specs.declared.kinds.After.TheVariants as after
use Rattle.cx_ceffect.specs.declared.kinds.Separator.{Separator}
use Rattle.cx_ceffect.specs.declared.kinds.Separator.TheVariants as s
use Rattle.cx_ceffect.specs.Effects.{stepped_by}
use Rattle.cx_cword.specs.Marks.{fits}

-- what follows the left side of an effect
abbrev pub after_mark : Punctuator → After
after_mark p.Assign = after.Assign
after_mark p.MulAssign = after.Update b.Mul
after_mark p.DivAssign = after.Update b.Div
after_mark p.RemAssign = after.Update b.Rem
after_mark p.AddAssign = after.Update b.Add
after_mark p.SubAssign = after.Update b.Sub
after_mark p.ShlAssign = after.Update b.Shl
after_mark p.ShrAssign = after.Update b.Shr
after_mark p.AndAssign = after.Update b.BitAnd
after_mark p.XorAssign = after.Update b.BitXor
after_mark p.OrAssign = after.Update b.BitOr
after_mark p.Increment = after.Step b.Add
after_mark p.Decrement = after.Step b.Sub
after_mark _ = after.Other

abbrev pub after_of : LexemeKind → After
after_of (l.Punctuator mark) = after_mark mark
after_of _ = after.Other

-- the operator that the lexeme stands for, where it is ++ or --
abbrev pub step_of : LexemeKind → Option Binary
step_of (l.Punctuator mark) = stepped_by mark
step_of _ = None

abbrev pub separator_of : LexemeKind → Separator
separator_of (l.Punctuator p.Comma) = s.Comma
separator_of (l.Punctuator p.CloseParen) = s.Close
separator_of _ = s.Other

abbrev pub no_prefix : Punctuator → Bool
no_prefix p.Plus = false
no_prefix p.Minus = false
no_prefix p.Tilde = false
no_prefix p.Bang = false
no_prefix p.Star = false
no_prefix p.Ampersand = false
no_prefix _ = true

-- no operator stands in front: a unary expression that begins so is a postfix expression
abbrev pub begins_postfix : LexemeKind → Bool
begins_postfix (l.Keyword k.SizeOf) = false
begins_postfix (l.Punctuator mark) = no_prefix mark
begins_postfix _ = true

abbrev pub opens : List Lexeme → Bool
opens [] = false
opens (o ∷ os) = fits m.OpenParen o.kind

-- a name and a parenthesis, with which a call begins
abbrev pub calls : List Lexeme → Bool
calls [] = false
calls (o ∷ os) = is_some (name_of o.kind) && opens os
