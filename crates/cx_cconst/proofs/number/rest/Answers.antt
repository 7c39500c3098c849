use Rattle.std.proofs.Common.{rules, FitsSigned}
use Rattle.std.proofs.lemmas.Int.{to_z-of_z}
use mir.Syntax.{w128}
use Rattle.cx_cconst.proofs.Ranges.{quotient_fits, nonzero_bits}
use Rattle.cx_cconst.proofs.number.rest.Goals as goal

pub nonzero_rem-result : goal.nonzero_rem-result
nonzero_rem-result c =
    let f : FitsSigned w128 c.args.x = search rules in
    let g : FitsSigned w128 c.args.y = search rules in
    (nonzero_bits c.args.y g c.requires.divisor, rw (to_z-of_z w128 c.args.x f, to_z-of_z w128 c.args.y g) (quotient_fits c.args.x c.args.y f c.requires.small))
