use Rattle.cx_query.proofs.KindLaws.{ends-only, has_size}
use Rattle.cx_query.proofs.kinds.type_ends.Goals as goal

pub returns-clause-least : goal.returns-clause-least
returns-clause-least c = (ends-only c.args.size c.args.signed c.cell_range.result.0 c.cell_range.result.1 (has_size c.args.size c.requires) c.cell_range.ensures).0

pub returns-clause-greatest : goal.returns-clause-greatest
returns-clause-greatest c = (ends-only c.args.size c.args.signed c.cell_range.result.0 c.cell_range.result.1 (has_size c.args.size c.requires) c.cell_range.ensures).1
