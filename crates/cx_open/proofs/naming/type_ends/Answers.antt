use Rattle.std.specs.Prelude.{ℤ, unsigned_abs, ◌≤◌, ◌^◌}
use Rattle.std.proofs.Common.{sym, subst}
use Rattle.cx_query.proofs.KindLaws.{ends-only, has_size}
use Rattle.cx_open.proofs.Sizes.{least_small, greatest_small}
use Rattle.cx_open.proofs.naming.type_ends.Goals as goal

pub returns-clause-least : goal.returns-clause-least
returns-clause-least c = (ends-only c.args.size c.args.signed c.cell_range.result.0 c.cell_range.result.1 (has_size c.args.size c.requires) c.cell_range.ensures).0

pub returns-clause-greatest : goal.returns-clause-greatest
returns-clause-greatest c = (ends-only c.args.size c.args.signed c.cell_range.result.0 c.cell_range.result.1 (has_size c.args.size c.requires) c.cell_range.ensures).1

pub returns-clause-low : goal.returns-clause-low
returns-clause-low c =
    let e = (ends-only c.args.size c.args.signed c.cell_range.result.0 c.cell_range.result.1 (has_size c.args.size c.requires) c.cell_range.ensures).0 in
    subst (λ (z : ℤ). unsigned_abs z ≤ 2 ^ 65) (sym e) (least_small c.args.size c.args.signed (has_size c.args.size c.requires))

pub returns-clause-high : goal.returns-clause-high
returns-clause-high c =
    let e = (ends-only c.args.size c.args.signed c.cell_range.result.0 c.cell_range.result.1 (has_size c.args.size c.requires) c.cell_range.ensures).1 in
    subst (λ (z : ℤ). unsigned_abs z ≤ 2 ^ 65) (sym e) (greatest_small c.args.size c.args.signed (has_size c.args.size c.requires))
