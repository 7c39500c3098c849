use Rattle.std.proofs.Common.{◌≡◌, length}
use Rattle.cx_cname.specs.Known.{value_of}
use Rattle.cx_cname.proofs.look_up.constant_of.Given as goal

abbrev pub invariant-loop-entries : goal.invariant-loop-entries
invariant-loop-entries l = value_of l.n l.entries ≡ value_of l.n l.initial.entries

abbrev pub decreases-loop-entries : goal.decreases-loop-entries
decreases-loop-entries l = length l.entries
