use Rattle.std.proofs.Common.{◌≡◌, ◌++◌, take}
use Rattle.cx_run.specs.Positions.{IsIn}
use Rattle.cx_run.specs.Report.{access_lines}
use Rattle.cx_run.proofs.report.push_accesses.Given as goal

abbrev pub invariant-loop-a : goal.invariant-loop-a
invariant-loop-a l = (l.out ≡ l.fn.out ++ access_lines l.source l.types (take l.a-index l.accesses)) × IsIn l.source l.known
