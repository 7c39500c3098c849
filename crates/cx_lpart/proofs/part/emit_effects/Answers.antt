use Rattle.std.proofs.Common.{◌+◌, map, drop, ap, sym, arith}
use Rattle.cx_ctree.specs.Exprs.{effect_tree}
use Rattle.cx_lcode.specs.Effects.{effect_code}
use Rattle.cx_lcode.specs.Needs as needs
use Rattle.cx_lcode.specs.Starts as starts
use Rattle.cx_lcode.specs.Statements as codes
use Rattle.cx_lpart.proofs.Leaving.{next_item, turn}
use Rattle.cx_lpart.specs.Settings.{setting}
use Rattle.cx_sname.specs.File.{declared_of}
use Rattle.cx_lpart.proofs.part.emit_effects.Goals as goal

pub loop-e-preserved : goal.loop-e-preserved
loop-e-preserved c =
    let z = setting c.args.unit.now c.args.given.now c.args.served in let d = declared_of c.args.unit.now in
    let left = next_item c.args.es.now c.loop-e.e-index c.e-item.result c.loop-e-test.true c.e-item.is in
    let before = c.loop-e.invariant in let last = c.effect_last-block.ensures in
    let count = ap (λ es. starts.effects_starts (map effect_tree es)) left in let need = ap (λ es. needs.effects_need d (map effect_tree es)) left in
    let blocks = before.blocks in let locals = before.locals in let sum = last.sum in record {
      made = turn _ _ _ _ (λ b es. codes.effects_code z c.args.jump (map effect_tree es) b) (effect_code d c.args.jump (effect_tree c.e-item.result) c.loop-e.block c.args.served) c.loop-e.block c.effect_last-block.result c.loop-e.e-index c.args.es.now c.e-item.result c.loop-e-test.true c.e-item.is
          before.made c.in_ok-emit_effect.ensures (λ rest. ap (λ b. effect_code d c.args.jump (effect_tree c.e-item.result) c.loop-e.block c.args.served (codes.effects_code z c.args.jump (map effect_tree (drop (c.loop-e.e-index + 1) c.args.es.now)) b rest)) (sym last.value));
      blocks = omega (arith, blocks, count, sum);
      locals = omega (arith, locals, need);
    }
