-- Steps that may pass a limit, one after another.
use Rattle.std.specs.Prelude.{◌≡◌, Result, Ok, Err}
use Rattle.cx_state.specs.declared.state.EnvFault.{EnvFault}
use Rattle.cx_state.specs.declared.state.EnvFault.TheVariants.{Limit, NoMemory}

-- one step after another
abbrev pub bind : {X Y : Type 0} → Result X EnvFault → (X → Result Y EnvFault) → Result Y EnvFault
bind (Ok x) step = step x
bind (Err fault) step = Err fault

-- the call answers what is meant, or that memory ran out
abbrev pub AgreesOn : {X : Type 0} → Result X EnvFault → Result X EnvFault → Type 0
AgreesOn (Ok x) meant = meant ≡ Ok x
AgreesOn (Err NoMemory) meant = Unit {0}
AgreesOn (Err (Limit kind)) meant = meant ≡ Err (Limit kind)
