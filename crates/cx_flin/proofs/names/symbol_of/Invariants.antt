use Rattle.std.proofs.Common.{◌≡◌, drop}
use Rattle.cx_flin.specs.Names.{last_symbol, symbol_in}
use Rattle.cx_flin.specs.Scopes.{scope_of}
use Rattle.cx_flin.proofs.names.symbol_of.Given as goal

abbrev pub invariant-loop-n : goal.invariant-loop-n
invariant-loop-n l = last_symbol l.found (scope_of (drop l.n-index l.scope)) l.text ≡ symbol_in (scope_of l.scope) l.text
