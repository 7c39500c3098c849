use Rattle.std.proofs.Common.{◌*ℤ◌, rules, FitsSigned}
use Rattle.std.proofs.lemmas.Int.{to_z-of_z}
use mir.Syntax.{w128}
use Rattle.cx_cconst.proofs.Modular.{wrapped_wrap}
use Rattle.cx_cconst.proofs.number.product.Goals as goal

pub returns : goal.returns
returns c =
    let w = wrapped_wrap c.args.t.size c.args.t.signed (c.args.x *ℤ c.args.y) c.args.t.known in
    let f : FitsSigned w128 c.args.x = search rules in
    let g : FitsSigned w128 c.args.y = search rules in
    let h : FitsSigned w128 c.times.result = search rules in
    let i : FitsSigned w128 c.convert.result = search rules in
    let e = simp to_z-of_z at c.convert.ensures.value in
    let d = simp to_z-of_z at c.times.ensures in
    rw (to_z-of_z w128 c.convert.result i, e, d) w
