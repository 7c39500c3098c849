use Rattle.cx_ctree.specs.Exprs.{expr_tree}
use Rattle.cx_scope.specs.Views.{locals_of}
use Rattle.cx_sfile.specs.Views.{declared_in}
use Rattle.cx_sexpr.proofs.Keeping.{answer_keeps}
use Rattle.cx_sexpr.proofs.walk.typed.Goals as goal

pub returns-clause-kept : goal.returns-clause-kept
returns-clause-kept c = answer_keeps expr_tree c.walked.result (declared_in c.args.file.now) (locals_of c.args.locals.now) (expr_tree c.args.e.now) c.walked.ensures
