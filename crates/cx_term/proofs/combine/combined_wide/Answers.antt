use Rattle.std.proofs.Common.{arith, ◌≡◌}
use Rattle.std.specs.Int.{w64, w128}
use Rattle.std.proofs.lemmas.Int.{ints, to_z-of_z}
use Rattle.cx_term.specs.Sums.{with_parts}
use Rattle.cx_term.proofs.Combined.{first_parts}
use Rattle.cx_term.proofs.combine.combined_wide.Goals as goal
use mir.Val.{SFits}

pub add_times-requires-2-clause-room : goal.add_times-requires-2-clause-room
add_times-requires-2-clause-room c =
    let fk : SFits w64 c.args.k = c.ranges.k in
    let fk' : SFits w128 c.args.k = omega (arith, ints, c.requires.first) in
    let f = simp to_z-of_z at c.from.ensures in
    let a = rw f at c.add_times.ensures in
    let a' : c.add_times.new.parts.items ≡ with_parts c.args.k c.args.a.now c.new-wide.result.items = simp to_z-of_z at a in
    omega (arith, (first_parts c.args.k c.args.a.now c.new-wide.result.items c.add_times.new.parts.items c.requires.first c.requires.first_small c.requires.first_few c.new-wide.ensures a').0)

pub add_times-requires-2-clause-small : goal.add_times-requires-2-clause-small
add_times-requires-2-clause-small c =
    let fk : SFits w64 c.args.k = c.ranges.k in
    let fk' : SFits w128 c.args.k = omega (arith, ints, c.requires.first) in
    let f = simp to_z-of_z at c.from.ensures in
    let a = rw f at c.add_times.ensures in
    let a' : c.add_times.new.parts.items ≡ with_parts c.args.k c.args.a.now c.new-wide.result.items = simp to_z-of_z at a in
    (first_parts c.args.k c.args.a.now c.new-wide.result.items c.add_times.new.parts.items c.requires.first c.requires.first_small c.requires.first_few c.new-wide.ensures a').1
