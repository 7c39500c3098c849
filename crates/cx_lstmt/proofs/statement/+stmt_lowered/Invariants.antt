use Rattle.std.proofs.Common.{◌+◌, ◌<◌, ◌≤◌, drop}
use Rattle.cx_ctree.specs.Stmts.{stmt_trees, group_trees}
use Rattle.cx_lcode.specs.Needs as needs
use Rattle.cx_lcode.specs.Starts as starts
use Rattle.cx_lcode.specs.Statements as codes
use Rattle.cx_lemit.specs.Made.{Leaves}
use Rattle.cx_lpart.specs.Settings.{setting}
use Rattle.cx_sname.specs.File.{declared_of}
use Rattle.cx_lstmt.proofs.statement.+stmt_lowered.Given as goal

abbrev pub invariant-emit_stmts-loop-s : goal.invariant-emit_stmts-loop-s
invariant-emit_stmts-loop-s l = record {
  made : Leaves l.fn.code l.code (codes.stmts_code (setting l.unit l.given l.served) l.at l.out l.next (stmt_trees l.ss)) (codes.stmts_code (setting l.unit l.given l.served) l.block l.out l.next (stmt_trees (drop l.s-index l.ss)));
  blocks : l.block + starts.stmts_starts (stmt_trees (drop l.s-index l.ss)) < 512;
  locals : l.served + needs.stmts_need (declared_of l.unit) (stmt_trees (drop l.s-index l.ss)) ≤ 128;
}

abbrev pub invariant-emit_groups-loop-g : goal.invariant-emit_groups-loop-g
invariant-emit_groups-loop-g l = record {
  made : Leaves l.fn.code l.code (codes.groups_code (setting l.unit l.given l.served) l.q l.first l.out l.next (group_trees l.gs)) (codes.groups_code (setting l.unit l.given l.served) l.q l.group l.out l.next (group_trees (drop l.g-index l.gs)));
  blocks : l.group + starts.groups_starts (group_trees (drop l.g-index l.gs)) < 512;
  locals : l.served + needs.groups_need (declared_of l.unit) (group_trees (drop l.g-index l.gs)) ≤ 128;
}
