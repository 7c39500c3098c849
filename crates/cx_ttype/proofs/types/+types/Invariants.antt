use Rattle.std.proofs.Common.{◌≡◌, ◌≤◌, [], ◌+◌, ◌*◌}
use Rattle.std.specs.Prelude.{map}
use Rattle.cx_tsyn.specs.Types.{stype_tree, field_tree, branch_tree}
use Rattle.cx_ttype.specs.Reading.{pieces_at, fields_at, branches_at}
use Rattle.cx_ttype.proofs.types.«+types».Given as goal

abbrev pub invariant-pieces-each : goal.invariant-pieces-each
invariant-pieces-each l = record {
  told : pieces_at l.bytes l.n (map stype_tree l.tree) l.rest ≡ pieces_at l.fn.bytes l.fn.turns [] l.fn.lexemes;
  within : l.n ≤ l.fn.turns;
}

abbrev pub decreases-pieces-each : goal.decreases-pieces-each
decreases-pieces-each l = l.n

abbrev pub invariant-fields-each : goal.invariant-fields-each
invariant-fields-each l = record {
  told : fields_at l.bytes l.n (map field_tree l.tree) l.rest ≡ fields_at l.fn.bytes l.fn.turns [] l.fn.lexemes;
  within : l.n ≤ l.fn.turns;
}

abbrev pub decreases-fields-each : goal.decreases-fields-each
decreases-fields-each l = l.n

abbrev pub invariant-branches-each : goal.invariant-branches-each
invariant-branches-each l = record {
  told : branches_at l.bytes l.n (map branch_tree l.tree) l.rest ≡ branches_at l.fn.bytes l.fn.turns [] l.fn.lexemes;
  within : l.n ≤ l.fn.turns;
}

abbrev pub decreases-branches-each : goal.decreases-branches-each
decreases-branches-each l = l.n

abbrev pub decreases-read_atom : goal.decreases-read_atom
decreases-read_atom l = 6 * l.turns

abbrev pub decreases-read_type : goal.decreases-read_type
decreases-read_type l = 6 * l.turns + 1

abbrev pub decreases-piece : goal.decreases-piece
decreases-piece l = 6 * l.turns + 2

abbrev pub decreases-pieces : goal.decreases-pieces
decreases-pieces l = 6 * l.turns + 3

abbrev pub decreases-body : goal.decreases-body
decreases-body l = 6 * l.turns + 3

abbrev pub decreases-fields : goal.decreases-fields
decreases-fields l = 6 * l.turns + 3

abbrev pub decreases-branches : goal.decreases-branches
decreases-branches l = 6 * l.turns + 3

abbrev pub decreases-cases : goal.decreases-cases
decreases-cases l = 6 * l.turns + 4
