use Rattle.std.proofs.Common.{rules, ◌≡◌, to_z, of_z}
use Rattle.std.specs.Int.{w128}
use Rattle.std.proofs.lemmas.Int.{to_z-of_z}
use Rattle.cx_entail.specs.Ranges.{high}
use Rattle.cx_entail.proofs.RangeLaws.{high-ge, high-has}
use Rattle.cx_entail.proofs.range.Range.high.Goals as goal
use mir.Val.{SFits}

pub returns-clause-greatest : goal.returns-clause-greatest
returns-clause-greatest c =
    let f : SFits w128 c.high_by.result = search rules in
    let e : to_z w128 (of_z w128 c.high_by.result) ≡ high c.args.self.now = simp to_z-of_z c.high_by.ensures.value in
    rw e (λ v h. (high-has c.args.self.now v h.step h, high-ge c.args.self.now v h.step h))
