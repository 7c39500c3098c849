use Rattle.std.proofs.Common.{◌≡◌, length}
use Rattle.cx_citem.specs.Items.{unit_fault}
use Rattle.cx_citem.specs.Scanning.{place_of, fault_from}
use Rattle.cx_citem.proofs.faults.fault.Given as goal

abbrev pub invariant-loop-o : goal.invariant-loop-o
invariant-loop-o l = fault_from (place_of l.nesting) l.bottom l.found l.first l.rest ≡ unit_fault l.lexemes

abbrev pub decreases-loop-o : goal.decreases-loop-o
decreases-loop-o l = length l.rest
