use Rattle.std.proofs.Common.{subst}
use Rattle.std.specs.Prelude.{IfOk}
use Rattle.cx_ctree.specs.Decls.{function_tree, typed_tree}
use Rattle.cx_sname.specs.File.{Declared}
use Rattle.cx_snode.specs.Judging.{Gives}
use Rattle.cx_sema.specs.Functions.{typed_function}
use Rattle.cx_sema.specs.Kept.{IsTypedFunction}
use Rattle.cx_sema.specs.StmtRules.{Resolves}
use Rattle.cx_sema.proofs.function.resolve.Goals as goal

pub returns-clause-answer : goal.returns-clause-answer
returns-clause-answer c = subst (λ (env : Declared). Gives typed_tree c.resolve_in.result (typed_function env (function_tree c.args.function.now))) c.in_ok-file.ensures c.resolve_in.ensures.answer

pub returns-clause-rules : goal.returns-clause-rules
returns-clause-rules c = subst (λ (env : Declared). Resolves c.resolve_in.result env (function_tree c.args.function.now)) c.in_ok-file.ensures c.resolve_in.ensures.rules

pub returns-clause-kept : goal.returns-clause-kept
returns-clause-kept c = subst (λ (env : Declared). IfOk c.resolve_in.result (λ t. IsTypedFunction env (typed_tree t))) c.in_ok-file.ensures c.resolve_in.ensures.kept
