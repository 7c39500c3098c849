-- The lexemes that readers wait for.
use Rattle.std.specs.Prelude.{◌≡◌, Bool, true, false, List, [], ◌∷◌, Option, Some, None}
use Rattle.std.specs.Borrow.{Bor}
use Rattle.cx_cword.specs.declared.word.Keyword.TheVariants as k
use Rattle.cx_cword.specs.declared.word.Punctuator.TheVariants as p
use Rattle.cx_cword.specs.declared.lexeme.Lexeme.{Lexeme}
use Rattle.cx_cword.specs.declared.lexeme.LexemeKind.{LexemeKind}
use Rattle.cx_cword.specs.declared.lexeme.LexemeKind.TheVariants as l
use Rattle.cx_cword.specs.declared.mark.Mark.{Mark}
use Rattle.cx_cword.specs.declared.mark.Mark.TheVariants as m

abbrev pub mark_of : LexemeKind → Option Mark
mark_of (l.Punctuator p.OpenParen) = Some m.OpenParen
mark_of (l.Punctuator p.CloseParen) = Some m.CloseParen
mark_of (l.Punctuator p.OpenBracket) = Some m.OpenBracket
mark_of (l.Punctuator p.CloseBracket) = Some m.CloseBracket
mark_of (l.Punctuator p.OpenBrace) = Some m.OpenBrace
mark_of (l.Punctuator p.CloseBrace) = Some m.CloseBrace
mark_of (l.Punctuator p.Star) = Some m.Star
mark_of (l.Punctuator p.Comma) = Some m.Comma
mark_of (l.Punctuator p.Semicolon) = Some m.Semicolon
mark_of (l.Punctuator p.Colon) = Some m.Colon
mark_of (l.Punctuator p.Question) = Some m.Question
mark_of (l.Punctuator p.Assign) = Some m.Assign
mark_of (l.Keyword k.While) = Some m.While
mark_of (l.Keyword k.Else) = Some m.Else
mark_of _ = None

abbrev pub same_mark : Mark → Mark → Bool
same_mark m.OpenParen m.OpenParen = true
same_mark m.CloseParen m.CloseParen = true
same_mark m.OpenBracket m.OpenBracket = true
same_mark m.CloseBracket m.CloseBracket = true
same_mark m.OpenBrace m.OpenBrace = true
same_mark m.CloseBrace m.CloseBrace = true
same_mark m.Star m.Star = true
same_mark m.Comma m.Comma = true
same_mark m.Semicolon m.Semicolon = true
same_mark m.Colon m.Colon = true
same_mark m.Question m.Question = true
same_mark m.Assign m.Assign = true
same_mark m.While m.While = true
same_mark m.Else m.Else = true
same_mark _ _ = false

abbrev pub fits_mark : Mark → Option Mark → Bool
fits_mark mark None = false
fits_mark mark (Some other) = same_mark mark other

-- the lexeme is this mark
abbrev pub fits : Mark → LexemeKind → Bool
fits mark kind = fits_mark mark (mark_of kind)

-- the first lexeme is none of this mark
abbrev pub Lacks : Mark → List Lexeme → Type 0
Lacks mark [] = Unit {0}
Lacks mark (o ∷ os) = fits mark o.kind ≡ false

-- the first lexeme, where it is this mark, and those after it
abbrev pub Next : Mark → Option (Lexeme × Bor (List Lexeme)) → List Lexeme → Type 0
Next mark None os = Lacks mark os
Next mark (Some p) os = (os ≡ p.0 ∷ p.1.now) × (fits mark p.0.kind ≡ true)
