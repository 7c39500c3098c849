use Rattle.std.proofs.Common.{arith}
use Rattle.cx_tbinders.proofs.Emptiness.{type_there}
use Rattle.cx_tbinders.proofs.types.some_type.Goals as goal

pub returns-in-len1-up : goal.returns-in-len1-up
returns-in-len1-up c = type_there c.args.parts.now (omega arith)
