use Rattle.std.proofs.Common.{◌≡◌, ◌*◌, ◌≤◌, drop}
use Rattle.cx_sorts.specs.Layout.{offset_from, offset_of}
use Rattle.cx_sorts.proofs.layout.offset_of.Given as goal

abbrev pub invariant-loop-m : goal.invariant-loop-m
invariant-loop-m l = (offset_from l.past (drop l.m-index l.m-items) l.name ≡ offset_of l.s l.name) × (l.past ≤ 16 * l.m-index)
