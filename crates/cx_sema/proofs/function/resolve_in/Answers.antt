use Rattle.cx_ctree.specs.Decls.{function_tree, typed_tree}
use Rattle.cx_sfile.specs.Views.{declared_in}
use Rattle.cx_sema.proofs.Whole.{answer_keeps}
use Rattle.cx_sema.proofs.FunctionBoth.{answer_resolves}
use Rattle.cx_sema.proofs.function.resolve_in.Goals as goal

pub returns-clause-kept : goal.returns-clause-kept
returns-clause-kept c = answer_keeps typed_tree c.resolved.result (declared_in c.args.file.now) (function_tree c.args.function.now) c.resolved.ensures

pub returns-clause-rules : goal.returns-clause-rules
returns-clause-rules c = answer_resolves c.resolved.result (declared_in c.args.file.now) (function_tree c.args.function.now) c.resolved.ensures
