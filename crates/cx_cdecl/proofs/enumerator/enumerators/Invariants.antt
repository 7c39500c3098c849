use Rattle.std.proofs.Common.{◌≡◌}
use Rattle.std.specs.Prelude.{pos}
use Rattle.cx_cname.specs.Known.{known_of, earlier_of}
use Rattle.cx_cname.specs.Changes.{past}
use Rattle.cx_cdecl.specs.Reading.{enumerators_at}
use Rattle.cx_cdecl.proofs.enumerator.enumerators.Given as goal

abbrev pub decreases-each : goal.decreases-each
decreases-each l = l.n

abbrev pub invariant-each : goal.invariant-each
invariant-each l = record {
  told : enumerators_at l.turns (earlier_of l.fn.known) l.n (known_of l.known) l.next l.rest ≡ enumerators_at l.turns (earlier_of l.fn.known) l.turns (known_of l.fn.known) (pos 0) l.fn.lexemes;
  kept : past l.changes l.known ≡ past l.fn.changes l.fn.known;
  items : l.known.items ≡ l.fn.known.items;
}
