-- What a call answers that makes a state, and may pass a limit of states.
use Rattle.std.specs.Prelude.{◌≡◌, Result, Ok, Err}
use Rattle.cx_state.specs.declared.state.Env.{Env}
use Rattle.cx_state.specs.declared.state.EnvFault.{EnvFault}
use Rattle.cx_state.specs.declared.state.EnvFault.TheVariants.{Limit, NoMemory}

-- a state, or the limit that is passed first
abbrev pub Answer : Type 0
Answer = Result Env EnvFault

-- one step after another
abbrev pub and_then : Answer → (Env → Answer) → Answer
and_then (Ok env) step = step env
and_then (Err fault) step = Err fault

-- the call answers what is meant, or that memory ran out
abbrev pub Agrees : Answer → Answer → Type 0
Agrees (Ok env) meant = meant ≡ Ok env
Agrees (Err NoMemory) meant = Unit {0}
Agrees (Err (Limit kind)) meant = meant ≡ Err (Limit kind)
