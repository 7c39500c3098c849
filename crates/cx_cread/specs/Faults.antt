-- Why a text has no items.
use Rattle.std.specs.Prelude.{◌≡◌, Option, Some}
use Rattle.cx_citem.specs.declared.faults.ItemFault.{ItemFault}
use Rattle.cx_citem.specs.declared.faults.ItemFault.TheVariants as i
use Rattle.cx_cread.specs.declared.fault.UnitFault.{UnitFault}
use Rattle.cx_cread.specs.declared.fault.UnitFault.TheVariants as u

abbrev pub fault_of : ItemFault → UnitFault
fault_of (i.TooDeep s) = u.TooDeep s
fault_of (i.Unclosed s) = u.Unclosed s

-- the answer is this fault, unless memory ran out
abbrev pub Tells : UnitFault → Option ItemFault → Type 0
Tells u.NoMemory f = Unit {0}
Tells (u.TooDeep s) f = f ≡ Some (i.TooDeep s)
Tells (u.Unclosed s) f = f ≡ Some (i.Unclosed s)
