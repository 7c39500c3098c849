use Rattle.std.proofs.Common.{arith}
use Rattle.cx_tbinders.proofs.Emptiness.{field_there}
use Rattle.cx_tbinders.proofs.types.some_field.Goals as goal

pub returns-in-len1-up : goal.returns-in-len1-up
returns-in-len1-up c = field_there c.args.fields.now (omega arith)
