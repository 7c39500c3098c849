use Rattle.std.proofs.Common.{◌≡◌}
use Rattle.cx_cname.specs.Known.{known_of}
use Rattle.cx_cname.specs.Changes.{past}
use Rattle.cx_cdecl.specs.Reading.{params_tree, no_params, params_at}
use Rattle.cx_cdecl.proofs.param.params.Given as goal

abbrev pub decreases-each : goal.decreases-each
decreases-each l = l.n

abbrev pub invariant-each : goal.invariant-each
invariant-each l = record {
  told : params_at l.turns l.n (known_of l.known) (params_tree l.params l.used) l.rest ≡ params_at l.turns l.turns (known_of l.fn.known) no_params l.fn.lexemes;
  kept : past l.changes l.known ≡ past l.fn.changes l.fn.known;
  items : l.known.items ≡ l.fn.known.items;
}
