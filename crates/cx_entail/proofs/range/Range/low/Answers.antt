use Rattle.std.proofs.Common.{rules, ◌≡◌, to_z, of_z}
use Rattle.std.specs.Int.{w128}
use Rattle.std.proofs.lemmas.Int.{to_z-of_z}
use Rattle.cx_entail.specs.Ranges.{low}
use Rattle.cx_entail.proofs.RangeLaws.{low-le, low-has}
use Rattle.cx_entail.proofs.range.Range.low.Goals as goal
use mir.Val.{SFits}

pub returns-clause-least : goal.returns-clause-least
returns-clause-least c =
    let f : SFits w128 c.low_by.result = search rules in
    let e : to_z w128 (of_z w128 c.low_by.result) ≡ low c.args.self.now = simp to_z-of_z c.low_by.ensures.value in
    rw e (λ v h. (low-has c.args.self.now v h.step h, low-le c.args.self.now v h.step h))
