use Rattle.std.proofs.Common.{◌+◌, ◌<◌, ◌≤◌, map, drop}
use Rattle.cx_ctree.specs.Exprs.{effect_tree}
use Rattle.cx_lcode.specs.Needs as needs
use Rattle.cx_lcode.specs.Starts as starts
use Rattle.cx_lcode.specs.Statements as codes
use Rattle.cx_lemit.specs.Made.{Leaves}
use Rattle.cx_lpart.specs.Settings.{setting}
use Rattle.cx_sname.specs.File.{declared_of}
use Rattle.cx_lpart.proofs.part.emit_effects.Given as goal

abbrev pub invariant-loop-e : goal.invariant-loop-e
invariant-loop-e l = record {
  made : Leaves l.fn.code l.code (codes.effects_code (setting l.unit l.given l.served) l.jump (map effect_tree l.es) l.at) (codes.effects_code (setting l.unit l.given l.served) l.jump (map effect_tree (drop l.e-index l.es)) l.block);
  blocks : l.block + starts.effects_starts (map effect_tree (drop l.e-index l.es)) < 512;
  locals : l.served + needs.effects_need (declared_of l.unit) (map effect_tree (drop l.e-index l.es)) ≤ 128;
}
