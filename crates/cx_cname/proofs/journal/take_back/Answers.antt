use Rattle.std.proofs.Common.{sym, subst, ◌∙◌}
use Rattle.cx_ctree.specs.Units.{UnitTree, unit_tree}
use Rattle.cx_ctree.specs.Tags.{AreRanked}
use Rattle.cx_cname.proofs.Undoing.{past_is}
use Rattle.cx_cname.proofs.Measures.{measured_back}
use Rattle.cx_cname.proofs.journal.take_back.Goals as goal

pub invariant_of-known : goal.invariant_of-known
invariant_of-known c =
    let ranked = subst (λ (u : UnitTree). AreRanked u.tags) (past_is c.args.changes.now c.args.known.now ∙ sym (c.undo_all.ensures.before (unit_tree c.args.known.now))) c.requires in
    record { ranked = ranked; measured = measured_back _ c.args.known.now.tags ranked c.args.known.now.ranked c.args.known.now.measured c.undo_all.ensures.remains }

pub returns-clause-known : goal.returns-clause-known
returns-clause-known c = c.undo_all.ensures.before (unit_tree c.args.known.now) ∙ sym (past_is c.args.changes.now c.args.known.now)
