use Rattle.std.proofs.Common.{◌≡◌}
use Rattle.cx_ctree.specs.Types.{type_tree}
use Rattle.cx_ctree.specs.Stmts.{stmt_trees}
use Rattle.cx_cname.specs.Known.{known_of}
use Rattle.cx_cstmt.specs.Reading.{LowStmts, variables_at}
use Rattle.cx_cstmt.proofs.local.variables.Given as goal

abbrev pub invariant-each : goal.invariant-each
invariant-each l = record {
  told : variables_at (known_of l.known) l.n l.left (type_tree l.s.ctype) (stmt_trees l.stmts.all) l.rest ≡ variables_at (known_of l.known) l.turns l.left (type_tree l.s.ctype) (stmt_trees l.fn.before.all) l.s.rest.now;
  low : LowStmts l.left l.stmts;
}

abbrev pub decreases-each : goal.decreases-each
decreases-each l = l.n
