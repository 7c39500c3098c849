use Rattle.std.proofs.Common.{◌≡◌, ◌≤◌, ◌+◌, ◌*◌}
use Rattle.cx_ctree.specs.Stmts.{stmt_trees, no_stmt, group_trees, no_group}
use Rattle.cx_cname.specs.Known.{known_of}
use Rattle.cx_cname.specs.Changes.{past}
use Rattle.cx_cstmt.specs.Reading.{LowStmts, LowGroups, items_at, stmts_at, groups_at}
use Rattle.cx_cstmt.proofs.read.+stmt.Given as goal

abbrev pub decreases-stmt : goal.decreases-stmt
decreases-stmt l = 3 * l.turns

abbrev pub decreases-block_rest : goal.decreases-block_rest
decreases-block_rest l = 3 * l.turns + 2

abbrev pub decreases-if_rest : goal.decreases-if_rest
decreases-if_rest l = 3 * l.turns + 2

abbrev pub decreases-while_rest : goal.decreases-while_rest
decreases-while_rest l = 3 * l.turns + 2

abbrev pub decreases-do_rest : goal.decreases-do_rest
decreases-do_rest l = 3 * l.turns + 2

abbrev pub decreases-for_rest : goal.decreases-for_rest
decreases-for_rest l = 3 * l.turns + 2

abbrev pub decreases-switch_rest : goal.decreases-switch_rest
decreases-switch_rest l = 3 * l.turns + 2

abbrev pub decreases-else_rest : goal.decreases-else_rest
decreases-else_rest l = 3 * l.turns + 1

abbrev pub decreases-switch_body : goal.decreases-switch_body
decreases-switch_body l = 3 * l.turns + 1

abbrev pub decreases-items : goal.decreases-items
decreases-items l = 3 * l.turns

abbrev pub decreases-stmts : goal.decreases-stmts
decreases-stmts l = 3 * l.turns

abbrev pub decreases-groups : goal.decreases-groups
decreases-groups l = 3 * l.turns

abbrev pub decreases-items-each : goal.decreases-items-each
decreases-items-each l = l.n

abbrev pub decreases-stmts-each : goal.decreases-stmts-each
decreases-stmts-each l = l.n

abbrev pub decreases-groups-each : goal.decreases-groups-each
decreases-groups-each l = l.n

abbrev pub invariant-items-each : goal.invariant-items-each
invariant-items-each l = record {
  told : items_at (known_of l.known) l.n l.left (stmt_trees l.stmts.all) l.rest ≡ items_at (known_of l.fn.known) l.turns l.left no_stmt l.fn.lexemes;
  within : l.n ≤ l.turns;
  low : LowStmts l.left l.stmts;
  kept : past l.changes l.known ≡ past l.fn.changes l.fn.known;
  items : l.known.items ≡ l.fn.known.items;
}

abbrev pub invariant-stmts-each : goal.invariant-stmts-each
invariant-stmts-each l = record {
  told : stmts_at (known_of l.known) l.n l.left (stmt_trees l.all.all) l.rest ≡ stmts_at (known_of l.fn.known) l.turns l.left no_stmt l.fn.lexemes;
  within : l.n ≤ l.turns;
  low : LowStmts l.left l.all;
  kept : past l.changes l.known ≡ past l.fn.changes l.fn.known;
  items : l.known.items ≡ l.fn.known.items;
}

abbrev pub invariant-groups-each : goal.invariant-groups-each
invariant-groups-each l = record {
  told : groups_at (known_of l.known) l.n l.left (group_trees l.groups.all) l.rest ≡ groups_at (known_of l.fn.known) l.turns l.left no_group l.fn.lexemes;
  within : l.n ≤ l.turns;
  low : LowGroups l.left l.groups;
  kept : past l.changes l.known ≡ past l.fn.changes l.fn.known;
  items : l.known.items ≡ l.fn.known.items;
}
