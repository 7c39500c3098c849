use Rattle.std.proofs.Common.{◌≡◌, ◌≤◌, []}
use Rattle.std.specs.Prelude.{map, option_map}
use Rattle.cx_ctree.specs.Exprs.{expr_tree}
use Rattle.cx_ctree.specs.Path.{greatest}
use Rattle.cx_cname.specs.Known.{known_of}
use Rattle.cx_cstmt.specs.Reading.{test_path, labels_at}
use Rattle.cx_cstmt.proofs.label.labels.Given as goal

abbrev pub invariant-each : goal.invariant-each
invariant-each l = record {
  told : labels_at (known_of l.known) l.n l.left (map (option_map expr_tree) l.labels) l.rest ≡ labels_at (known_of l.known) l.turns l.left [] l.fn.lexemes;
  measured : l.height ≡ greatest test_path (map (option_map expr_tree) l.labels);
  low : l.height ≤ l.left;
}

abbrev pub decreases-each : goal.decreases-each
decreases-each l = l.n
