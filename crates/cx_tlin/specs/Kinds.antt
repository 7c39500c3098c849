-- What a lexeme can be at each place of a linear form.
use Rattle.std.specs.Prelude.{Bool, ◌||◌, Option, None}
use Rattle.cx_cword.specs.declared.word.Punctuator.TheVariants as p
use Rattle.cx_tsyn.specs.declared.lin.SRel.{SRel}
use Rattle.cx_tword.specs.declared.lexeme.TypeLexeme.{TypeLexeme}
use Rattle.cx_tword.specs.declared.lexeme.TypeLexemeKind.{TypeLexemeKind}
use Rattle.cx_tword.specs.declared.lexeme.TypeLexemeKind.TheVariants as l
use Rattle.cx_tword.specs.Marks.{is_mark}
use Rattle.cx_tlin.specs.Lins.{compared_by}

abbrev pub is_sign : TypeLexeme → Bool
is_sign o = is_mark p.Plus o || is_mark p.Minus o

abbrev pub relation_of : TypeLexemeKind → Option SRel
relation_of (l.Punctuator mark) = compared_by mark
relation_of _ = None
