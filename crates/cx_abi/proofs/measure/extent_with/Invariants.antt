use Rattle.std.proofs.Common.{map, drop}
use Rattle.cx_ctree.specs.Decls.{tag_tree, member_tree}
use Rattle.cx_ctree.specs.Layouts.{shapes_of}
use Rattle.cx_abi.proofs.Runs.{Ahead}
use Rattle.cx_abi.proofs.measure.extent_with.Given as goal

abbrev pub invariant-loop-m : goal.invariant-loop-m
invariant-loop-m l =
    Ahead l.union_ (shapes_of (map tag_tree l.unit.tags) (map member_tree l.members))
    (shapes_of (map tag_tree l.unit.tags) (map member_tree (drop l.m-index l.members))) l.m-index l.end l.align
