use Rattle.std.proofs.Common.{◌≡◌, ◌≤◌, length, take}
use Rattle.cx_ctree.specs.Types.{type_tree}
use Rattle.cx_cdecl.specs.Reading.{arrays}
use Rattle.cx_cdecl.proofs.declarator.arrays.Given as goal

abbrev pub decreases-each : goal.decreases-each
decreases-each l = l.n

abbrev pub invariant-each : goal.invariant-each
invariant-each l = record {
  told : arrays (type_tree l.ctype) (take l.n l.sizes) ≡ arrays (type_tree l.fn.element) l.sizes;
  within : l.n ≤ length l.sizes;
}
