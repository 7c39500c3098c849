use Rattle.std.proofs.Common.{◌≡◌, ◌*◌, ◌≤◌, drop}
use Rattle.cx_sorts.specs.Layout.{member_from}
use Rattle.cx_sorts.proofs.layout.member_at.Given as goal

abbrev pub invariant-loop-m : goal.invariant-loop-m
invariant-loop-m l = (member_from l.past (drop l.m-index l.m-items) l.offset ≡ member_from 0 l.s.members l.offset) × (l.past ≤ 16 * l.m-index)
