-- What the statements of a function are lowered by.
use Rattle.std.specs.Prelude.{ℕ}
use Rattle.cx_ctree.specs.Types.{type_tree}
use Rattle.cx_ctree.specs.declared.ctype.CType.{CType}
use Rattle.cx_ctree.specs.declared.unit.Unit.{Unit}
use Rattle.cx_lcode.specs.Statements.{Setting}
use Rattle.cx_sname.specs.File.{declared_of}

-- with the type of the function's result, and the first local that serves a statement
abbrev pub setting : Unit → CType → (served : ℕ) → Setting
setting u given served = record { unit = declared_of u; tokens = u.tokens; result = type_tree given; served = served }
