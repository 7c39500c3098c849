-- Faults of the text of a type file, as faults of a type file.
use Rattle.cx_tparse.specs.declared.fault.ParseFault.{ParseFault}
use Rattle.cx_tparse.specs.declared.fault.ParseFault.TheVariants as parse
use Rattle.cx_tread.specs.declared.fault.TypeFault.{TypeFault}
use Rattle.cx_tread.specs.declared.fault.TypeFault.TheVariants as f

abbrev pub of_parse : ParseFault → TypeFault
of_parse (parse.OpenComment at) = f.OpenComment at
of_parse (parse.OpenText at) = f.OpenText at
of_parse (parse.BadByte at) = f.BadByte at
of_parse (parse.TooDeep s) = f.TooDeep s
of_parse (parse.Syntax s) = f.Syntax s
of_parse parse.NoMemory = f.NoMemory
