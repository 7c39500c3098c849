use Rattle.cx_cexpr.proofs.read.+expr.Given as goal

abbrev pub decreases-cond : goal.decreases-cond
decreases-cond l = l.turns

abbrev pub decreases-choice : goal.decreases-choice
decreases-choice l = l.turns

abbrev pub decreases-binary : goal.decreases-binary
decreases-binary l = l.turns

abbrev pub decreases-climb : goal.decreases-climb
decreases-climb l = l.turns

abbrev pub decreases-more : goal.decreases-more
decreases-more l = l.turns

abbrev pub decreases-cast : goal.decreases-cast
decreases-cast l = l.turns

abbrev pub decreases-unary : goal.decreases-unary
decreases-unary l = l.turns

abbrev pub decreases-size : goal.decreases-size
decreases-size l = l.turns

abbrev pub decreases-suffix : goal.decreases-suffix
decreases-suffix l = l.turns

abbrev pub decreases-primary : goal.decreases-primary
decreases-primary l = l.turns
