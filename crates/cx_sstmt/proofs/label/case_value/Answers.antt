use Rattle.std.proofs.Common.{sym, ◌∙◌}
use Rattle.cx_ctree.specs.Exprs.{expr_tree}
use Rattle.cx_sfile.specs.Views.{declared_in}
use Rattle.cx_sstmt.proofs.SameConstant.{same_constant}
use Rattle.cx_sstmt.proofs.label.case_value.Goals as goal

pub returns : goal.returns
returns c = c.constant_value.ensures ∙ sym (same_constant (declared_in c.args.file.now) (expr_tree c.args.x.now) (expr_tree c.args.value.now) c.requires)
