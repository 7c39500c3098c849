-- That a function with its types has small numbers.
use Rattle.std.specs.Prelude.{All}
use Rattle.cx_ctree.specs.Decls.{FunctionTree, TypedTree}
use Rattle.cx_gline.specs.Inside.{stmt_numbers}
use Rattle.cx_gline.specs.Law.{EnumerationsSmall, NumbersSmall}
use Rattle.cx_gline.specs.Lines.{IsSmall}
use Rattle.cx_sema.specs.StmtRules.{IsFunctionOf}
use Rattle.cx_sname.specs.File.{Declared}

-- where the numbers in a function and those of enumeration constants may be constants of linear forms, so may those in the function with its types
abbrev pub TypedIsSmall : Type 0
TypedIsSmall = (env : Declared) (f : FunctionTree) (t : TypedTree) → EnumerationsSmall env.known → All IsSmall (stmt_numbers f.body) → IsFunctionOf env f t → NumbersSmall env t
