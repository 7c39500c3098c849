use Rattle.std.proofs.Common.{◌≡◌, drop}
use Rattle.cx_cindex.specs.Sets.{with_numbers}
use Rattle.cx_cindex.proofs.find.add_all.Given as goal

abbrev pub invariant-loop-n : goal.invariant-loop-n
invariant-loop-n l = with_numbers l.set (drop l.n-index l.numbers) ≡ with_numbers l.fn.set l.numbers
