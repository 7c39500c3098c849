use Rattle.std.proofs.Common.{◌≡◌}
use Rattle.cx_ctree.specs.Stmts.{stmt_trees, no_stmt}
use Rattle.cx_cname.specs.Known.{known_of}
use Rattle.cx_cstmt.specs.Reading.{LowStmts, init_effects_at}
use Rattle.cx_cstmt.proofs.header.init_effects.Given as goal

abbrev pub invariant-each : goal.invariant-each
invariant-each l = record {
  told : init_effects_at (known_of l.known) l.n l.left (stmt_trees l.stmts.all) l.rest ≡ init_effects_at (known_of l.known) l.turns l.left no_stmt l.fn.lexemes;
  low : LowStmts l.left l.stmts;
}

abbrev pub decreases-each : goal.decreases-each
decreases-each l = l.n
