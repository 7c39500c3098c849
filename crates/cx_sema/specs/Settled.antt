-- The locals after parameters are declared.
use Rattle.std.specs.Prelude.{◌≡◌, Result, Ok, Err}
use Rattle.cx_scope.specs.Locals.{Locals}
use Rattle.cx_snode.specs.Judging.{Judged, Tells}
use Rattle.cx_snode.specs.declared.fault.SemaFault.{SemaFault}

-- the locals are what is judged, unless memory ran out
abbrev pub Settles : {U : Type 0} → Result U SemaFault → Locals → Judged Locals → Type 0
Settles (Ok x) ls r = r ≡ Ok ls
Settles (Err e) ls r = Tells e r
