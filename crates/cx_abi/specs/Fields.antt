-- Members with their places as plain data.
use Rattle.cx_ctree.specs.Types.{type_tree}
use Rattle.cx_ctree.specs.Layouts.{FieldTree}
use Rattle.cx_abi.specs.declared.field.Field.{Field}

abbrev pub field_tree : Field → FieldTree
field_tree f = record { name = f.name; offset = f.offset; ctype = type_tree f.ctype }
