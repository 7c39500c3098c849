use Rattle.std.proofs.Common.{arith, ◌+ℤ◌, ◌*ℤ◌}
use Rattle.std.specs.Int.{w128, w64}
use Rattle.std.proofs.lemmas.Int.{ints, to_z-of_z}
use Rattle.cx_term.proofs.Combined.{combined-value}
use Rattle.cx_term.proofs.combine.combined_halves.Goals as goal
use mir.Val.{SFits}

pub returns-clause-value : goal.returns-clause-value
returns-clause-value c =
    let fk : SFits w64 c.args.k = c.ranges.k in
    let fm : SFits w64 c.args.m = c.ranges.m in
    let fa : SFits w128 c.args.a = c.ranges.a in
    let fb : SFits w128 c.args.b = c.ranges.b in
    let fc : SFits w128 c.args.c = c.ranges.c in
    let l = c.halves_times-low in
    let r = c.halves_times-more_low in
    let f0 : SFits w128 l.result.0 = omega (arith, ints, l.ensures.low_small) in
    let f1 : SFits w128 l.result.1 = omega (arith, ints, l.ensures.high_small) in
    let f2 : SFits w128 r.result.0 = omega (arith, ints, r.ensures.low_small) in
    let f3 : SFits w128 r.result.1 = omega (arith, ints, r.ensures.high_small) in
    let s0 : SFits w128 (c.args.c +ℤ l.result.0) = omega (arith, ints, l.ensures.low_small, c.requires.number) in
    let s1 : SFits w128 ((c.args.c +ℤ l.result.0) +ℤ r.result.0) = omega (arith, ints, l.ensures.low_small, r.ensures.low_small, c.requires.number) in
    let s2 : SFits w128 (l.result.1 +ℤ r.result.1) = omega (arith, ints, l.ensures.high_small, r.ensures.high_small) in
    let v = simp to_z-of_z at l.ensures.value in
    let w = simp to_z-of_z at r.ensures.value in
    simp to_z-of_z (combined-value c.args.c (c.args.k *ℤ c.args.a) (c.args.m *ℤ c.args.b) l.result.0 l.result.1 r.result.0 r.result.1 v w)

pub returns-clause-low_small : goal.returns-clause-low_small
returns-clause-low_small c =
    let fk : SFits w64 c.args.k = c.ranges.k in
    let fm : SFits w64 c.args.m = c.ranges.m in
    let fa : SFits w128 c.args.a = c.ranges.a in
    let fb : SFits w128 c.args.b = c.ranges.b in
    let fc : SFits w128 c.args.c = c.ranges.c in
    let l = c.halves_times-low in
    let r = c.halves_times-more_low in
    let f0 : SFits w128 l.result.0 = omega (arith, ints, l.ensures.low_small) in
    let f1 : SFits w128 l.result.1 = omega (arith, ints, l.ensures.high_small) in
    let f2 : SFits w128 r.result.0 = omega (arith, ints, r.ensures.low_small) in
    let f3 : SFits w128 r.result.1 = omega (arith, ints, r.ensures.high_small) in
    let s0 : SFits w128 (c.args.c +ℤ l.result.0) = omega (arith, ints, l.ensures.low_small, c.requires.number) in
    let s1 : SFits w128 ((c.args.c +ℤ l.result.0) +ℤ r.result.0) = omega (arith, ints, l.ensures.low_small, r.ensures.low_small, c.requires.number) in
    let s2 : SFits w128 (l.result.1 +ℤ r.result.1) = omega (arith, ints, l.ensures.high_small, r.ensures.high_small) in
    simp to_z-of_z (omega (arith, ints, l.ensures.low_small, r.ensures.low_small, c.requires.number))

pub overflow_add-result-2 : goal.overflow_add-result-2
overflow_add-result-2 c =
    let fk : SFits w64 c.args.k = c.ranges.k in
    let fm : SFits w64 c.args.m = c.ranges.m in
    let fa : SFits w128 c.args.a = c.ranges.a in
    let fb : SFits w128 c.args.b = c.ranges.b in
    let fc : SFits w128 c.args.c = c.ranges.c in
    let l = c.halves_times-low in
    let r = c.halves_times-more_low in
    let f0 : SFits w128 l.result.0 = omega (arith, ints, l.ensures.low_small) in
    let f1 : SFits w128 l.result.1 = omega (arith, ints, l.ensures.high_small) in
    let f2 : SFits w128 r.result.0 = omega (arith, ints, r.ensures.low_small) in
    let f3 : SFits w128 r.result.1 = omega (arith, ints, r.ensures.high_small) in
    let s0 : SFits w128 (c.args.c +ℤ l.result.0) = omega (arith, ints, l.ensures.low_small, c.requires.number) in
    let s1 : SFits w128 ((c.args.c +ℤ l.result.0) +ℤ r.result.0) = omega (arith, ints, l.ensures.low_small, r.ensures.low_small, c.requires.number) in
    let s2 : SFits w128 (l.result.1 +ℤ r.result.1) = omega (arith, ints, l.ensures.high_small, r.ensures.high_small) in
    simp to_z-of_z s1

pub overflow_add-result-3 : goal.overflow_add-result-3
overflow_add-result-3 c =
    let fk : SFits w64 c.args.k = c.ranges.k in
    let fm : SFits w64 c.args.m = c.ranges.m in
    let fa : SFits w128 c.args.a = c.ranges.a in
    let fb : SFits w128 c.args.b = c.ranges.b in
    let fc : SFits w128 c.args.c = c.ranges.c in
    let l = c.halves_times-low in
    let r = c.halves_times-more_low in
    let f0 : SFits w128 l.result.0 = omega (arith, ints, l.ensures.low_small) in
    let f1 : SFits w128 l.result.1 = omega (arith, ints, l.ensures.high_small) in
    let f2 : SFits w128 r.result.0 = omega (arith, ints, r.ensures.low_small) in
    let f3 : SFits w128 r.result.1 = omega (arith, ints, r.ensures.high_small) in
    let s0 : SFits w128 (c.args.c +ℤ l.result.0) = omega (arith, ints, l.ensures.low_small, c.requires.number) in
    let s1 : SFits w128 ((c.args.c +ℤ l.result.0) +ℤ r.result.0) = omega (arith, ints, l.ensures.low_small, r.ensures.low_small, c.requires.number) in
    let s2 : SFits w128 (l.result.1 +ℤ r.result.1) = omega (arith, ints, l.ensures.high_small, r.ensures.high_small) in
    simp to_z-of_z s2
