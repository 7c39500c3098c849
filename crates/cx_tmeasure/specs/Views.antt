-- What is known, as the code holds it.
use Rattle.cx_ctree.specs.Units.{tags_of}
use Rattle.cx_ctable.specs.Tables.{table_tree}
use Rattle.cx_tmeasure.specs.Known.{Known}
use Rattle.cx_tmeasure.specs.declared.known.Known as code

abbrev pub known_of : code.Known → Known
known_of k = record { names = k.unit.now.names; table = table_tree k.table; tags = tags_of k.unit.now }
