use Rattle.std.proofs.Common.{rules, FitsSigned, sym, ◌∙◌}
use Rattle.std.specs.Prelude.{int_div, int_rem, if◌then◌else◌}
use Rattle.std.proofs.lemmas.Int.{to_z-of_z}
use mir.Syntax.{w128}
use Rattle.cx_cconst.proofs.Ranges.{no_quotient}
use Rattle.cx_cconst.proofs.number.divided.Goals as goal

pub returns-then-overflows : goal.returns-then-overflows
returns-then-overflows c =
    let f : FitsSigned w128 c.args.x = search rules in
    let g : FitsSigned w128 c.args.y = search rules in
    let e = simp to_z-of_z at c.overflows.ensures in
    no_quotient c.args.t c.args.x c.args.y (if c.args.whole then int_div c.args.x c.args.y else int_rem c.args.x c.args.y) c.args.t.known (sym e ∙ c.if-overflows.true)
