-- Faults of the layers below, as faults of a type file.
use Rattle.cx_lex.specs.declared.fault.LexFault.{LexFault}
use Rattle.cx_lex.specs.declared.fault.LexFault.TheVariants as lex
use Rattle.cx_titem.specs.declared.fault.SyntaxFault.{SyntaxFault}
use Rattle.cx_titem.specs.declared.fault.SyntaxFault.TheVariants as syntax
use Rattle.cx_tparse.specs.declared.fault.ParseFault.{ParseFault}
use Rattle.cx_tparse.specs.declared.fault.ParseFault.TheVariants as f

abbrev pub of_lex : LexFault → ParseFault
of_lex (lex.OpenComment at) = f.OpenComment at
of_lex (lex.OpenText at) = f.OpenText at
of_lex (lex.BadByte at) = f.BadByte at
of_lex lex.NoMemory = f.NoMemory

abbrev pub of_syntax : SyntaxFault → ParseFault
of_syntax (syntax.Syntax s) = f.Syntax s
of_syntax syntax.NoMemory = f.NoMemory
