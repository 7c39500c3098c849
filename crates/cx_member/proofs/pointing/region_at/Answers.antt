use Rattle.std.proofs.Common.{arith, refl}
use Rattle.std.specs.Int.{w128}
use Rattle.std.specs.Prelude.{option_copied}
use Rattle.std.proofs.lemmas.Int.{to_z-of_z}
use Rattle.cx_member.proofs.Regions.{found, missed, args_small}
use Rattle.cx_member.proofs.pointing.region_at.Goals as goal
use mir.Val.{SFits}

pub returns-then-stands_at-clause-found : goal.returns-then-stands_at-clause-found
returns-then-stands_at-clause-found c =
    let f : SFits w128 c.args.base = c.ranges.base in
    let s = simp to_z-of_z at (c.if-stands_at.ensures.0 refl) in
    found c.args.memory.now c.len-i-end.ensures.valid c.loop-i.i c.args.name c.args.base (option_copied c.region.result) c.region.ensures s

pub returns-then-stands_at-clause-small : goal.returns-then-stands_at-clause-small
returns-then-stands_at-clause-small c =
    args_small c.args.memory.now c.len-i-end.ensures.valid c.loop-i.i (option_copied c.region.result) c.region.ensures

pub returns-clause-found : goal.returns-clause-found
returns-clause-found c =
    let f : SFits w128 c.args.base = c.ranges.base in
    λ args. (missed c.args.memory.now c.args.name c.args.base (λ k h. simp to_z-of_z at (c.loop-i.invariant k (omega arith))) args, λ h. absurd h)
