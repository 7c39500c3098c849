use Rattle.std.proofs.Common.{◌≡◌}
use Rattle.cx_ctree.specs.Types.{type_tree}
use Rattle.cx_ctree.specs.Path.{type_path}
use Rattle.cx_cdecl.specs.Reading.{pointers_at}
use Rattle.cx_cdecl.proofs.declarator.pointers.Given as goal

abbrev pub decreases-each : goal.decreases-each
decreases-each l = l.n

abbrev pub invariant-each : goal.invariant-each
invariant-each l = record {
  told : pointers_at l.n 400 (type_tree l.ctype) l.rest ≡ pointers_at l.turns 400 (type_tree l.fn.base) l.fn.lexemes;
  measured : l.height ≡ type_path (type_tree l.ctype);
}
