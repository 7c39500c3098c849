use Rattle.std.proofs.Common.{◌≡◌, drop}
use Rattle.cx_learn.specs.Learning.{all_bounded}
use Rattle.cx_learn.proofs.bounds.bound_all.Given as goal

abbrev pub invariant-loop-p : goal.invariant-loop-p
invariant-loop-p l = all_bounded l.t (drop l.p-index l.p-items) l.ranges ≡ all_bounded l.t l.p-items l.initial.ranges
