-- What a lexeme is that is a mark.
use Rattle.std.proofs.Common.{◌≡◌, true, Option, Some, None, refl, sym, ap, ◌∙◌}
use Rattle.cx_cword.specs.declared.word.Keyword.TheVariants as k
use Rattle.cx_cword.specs.declared.word.Punctuator.TheVariants as p
use Rattle.cx_cword.specs.declared.lexeme.LexemeKind.{LexemeKind}
use Rattle.cx_cword.specs.declared.lexeme.LexemeKind.TheVariants as l
use Rattle.cx_cword.specs.declared.mark.Mark.{Mark}
use Rattle.cx_cword.specs.declared.mark.Mark.TheVariants as m
use Rattle.cx_cword.specs.Marks.{mark_of, same_mark, fits_mark, fits}

abbrev pub kind_of : Mark → LexemeKind
kind_of m.OpenParen = l.Punctuator p.OpenParen
kind_of m.CloseParen = l.Punctuator p.CloseParen
kind_of m.OpenBracket = l.Punctuator p.OpenBracket
kind_of m.CloseBracket = l.Punctuator p.CloseBracket
kind_of m.OpenBrace = l.Punctuator p.OpenBrace
kind_of m.CloseBrace = l.Punctuator p.CloseBrace
kind_of m.Star = l.Punctuator p.Star
kind_of m.Comma = l.Punctuator p.Comma
kind_of m.Semicolon = l.Punctuator p.Semicolon
kind_of m.Colon = l.Punctuator p.Colon
kind_of m.Question = l.Punctuator p.Question
kind_of m.Assign = l.Punctuator p.Assign
kind_of m.While = l.Keyword k.While
kind_of m.Else = l.Keyword k.Else

kind_same : (a n : Mark) → Some a ≡ Some n → kind_of n ≡ kind_of a
kind_same a n e = let f : a ≡ n = cc in ap kind_of (sym f)

mark_is : (kind : LexemeKind) (n : Mark) → mark_of kind ≡ Some n → kind_of n ≡ kind
mark_is (l.Punctuator p.OpenParen) n e = kind_same m.OpenParen n e
mark_is (l.Punctuator p.CloseParen) n e = kind_same m.CloseParen n e
mark_is (l.Punctuator p.OpenBracket) n e = kind_same m.OpenBracket n e
mark_is (l.Punctuator p.CloseBracket) n e = kind_same m.CloseBracket n e
mark_is (l.Punctuator p.OpenBrace) n e = kind_same m.OpenBrace n e
mark_is (l.Punctuator p.CloseBrace) n e = kind_same m.CloseBrace n e
mark_is (l.Punctuator p.Star) n e = kind_same m.Star n e
mark_is (l.Punctuator p.Comma) n e = kind_same m.Comma n e
mark_is (l.Punctuator p.Semicolon) n e = kind_same m.Semicolon n e
mark_is (l.Punctuator p.Colon) n e = kind_same m.Colon n e
mark_is (l.Punctuator p.Question) n e = kind_same m.Question n e
mark_is (l.Punctuator p.Assign) n e = kind_same m.Assign n e
mark_is (l.Keyword k.While) n e = kind_same m.While n e
mark_is (l.Keyword k.Else) n e = kind_same m.Else n e
mark_is _ n e = absurd cc

mark_same : (a b : Mark) → same_mark a b ≡ true → a ≡ b
mark_same m.OpenParen m.OpenParen e = refl
mark_same m.CloseParen m.CloseParen e = refl
mark_same m.OpenBracket m.OpenBracket e = refl
mark_same m.CloseBracket m.CloseBracket e = refl
mark_same m.OpenBrace m.OpenBrace e = refl
mark_same m.CloseBrace m.CloseBrace e = refl
mark_same m.Star m.Star e = refl
mark_same m.Comma m.Comma e = refl
mark_same m.Semicolon m.Semicolon e = refl
mark_same m.Colon m.Colon e = refl
mark_same m.Question m.Question e = refl
mark_same m.Assign m.Assign e = refl
mark_same m.While m.While e = refl
mark_same m.Else m.Else e = refl
mark_same _ _ e = absurd cc

fits_by : (mark : Mark) (kind : LexemeKind) (o : Option Mark) → mark_of kind ≡ o → fits_mark mark o ≡ true → kind ≡ kind_of mark
fits_by mark kind None is e = absurd cc
fits_by mark kind (Some n) is e = sym (mark_is kind n is) ∙ ap kind_of (sym (mark_same mark n e))

pub fits_is : (mark : Mark) (kind : LexemeKind) → fits mark kind ≡ true → kind ≡ kind_of mark
fits_is mark kind e = fits_by mark kind (mark_of kind) refl e

same_self : (mark : Mark) → fits mark (kind_of mark) ≡ true
same_self m.OpenParen = refl
same_self m.CloseParen = refl
same_self m.OpenBracket = refl
same_self m.CloseBracket = refl
same_self m.OpenBrace = refl
same_self m.CloseBrace = refl
same_self m.Star = refl
same_self m.Comma = refl
same_self m.Semicolon = refl
same_self m.Colon = refl
same_self m.Question = refl
same_self m.Assign = refl
same_self m.While = refl
same_self m.Else = refl

pub is_fit : (mark : Mark) (kind : LexemeKind) → kind ≡ kind_of mark → fits mark kind ≡ true
is_fit mark kind e = ap (fits mark) e ∙ same_self mark
