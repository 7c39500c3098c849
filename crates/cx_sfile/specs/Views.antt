-- What a file declares.
use Rattle.cx_sname.specs.File.{Declared, declared_of}
use Rattle.cx_sfile.specs.declared.file.File.{File}

abbrev pub declared_in : File → Declared
declared_in f = declared_of f.unit.now
