use Rattle.std.proofs.Common.{◌≡◌}
use Rattle.std.specs.Prelude.{map}
use Rattle.cx_cname.specs.Known.{known_of}
use Rattle.cx_tsyn.specs.Items.{type_item_tree}
use Rattle.cx_titem.specs.Reading.{items_at, file_at}
use Rattle.cx_titem.proofs.items.items.Given as goal

abbrev pub invariant-each : goal.invariant-each
invariant-each l = items_at l.bytes (known_of l.unit) l.n (map type_item_tree l.tree) l.rest ≡ file_at l.fn.bytes (known_of l.fn.unit) l.fn.lexemes

abbrev pub decreases-each : goal.decreases-each
decreases-each l = l.n
