use Rattle.std.proofs.Common.{ap, ◌∙◌, arith, take, ◌-◌}
use Rattle.cx_cname.specs.Changes.{before}
use Rattle.cx_cname.proofs.Undoing.{before_less, before_all}
use Rattle.cx_cname.proofs.Measures.{remains_then}
use Rattle.cx_cname.proofs.journal.undo_all.Goals as goal

pub loop-n-preserved : goal.loop-n-preserved
loop-n-preserved c = record {
  remains = remains_then _ _ _ c.undo.ensures.remains c.loop-n.invariant.remains;
  told = λ u. ap (before (take (c.loop-n.n - 1) c.args.changes.now)) (c.undo.ensures.undone u) ∙ before_less c.args.changes.now c.loop-n.n _ _ (omega arith) (omega arith) ∙ c.loop-n.invariant.told u;
  within = omega arith;
}

pub returns-clause-remains : goal.returns-clause-remains
returns-clause-remains c = c.loop-n.invariant.remains

pub returns-clause-before : goal.returns-clause-before
returns-clause-before c = λ u. before_all c.args.changes.now c.loop-n.n _ _ (omega arith) (c.loop-n.invariant.told u)
