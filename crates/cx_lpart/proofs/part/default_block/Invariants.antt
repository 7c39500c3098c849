use Rattle.std.proofs.Common.{◌≡◌, ◌+◌, ◌<◌, drop}
use Rattle.cx_ctree.specs.Stmts.{group_trees}
use Rattle.cx_lcode.specs.Starts as starts
use Rattle.cx_lcode.specs.Statements as codes
use Rattle.cx_lpart.proofs.part.default_block.Given as goal

abbrev pub invariant-loop-g : goal.invariant-loop-g
invariant-loop-g l = record {
  found : codes.default_block l.group l.end (group_trees (drop l.g-index l.gs)) ≡ codes.default_block l.first l.end (group_trees l.gs);
  groups : l.group + starts.groups_starts (group_trees (drop l.g-index l.gs)) < 512;
}
