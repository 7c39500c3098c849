-- What the rules on types give to lowering.
use Rattle.cx_ctree.specs.Decls.{TypedTree}
use Rattle.cx_gline.specs.Law.{ReturnsAgree}
use Rattle.cx_sname.specs.File.{Declared}
use Rattle.cx_sema.specs.Kept.{IsTypedFunction}
use Rattle.cx_lright.specs.Fine.{FunctionFine}

abbrev pub TypedIsFine : Type 0
TypedIsFine = (env : Declared) (f : TypedTree) → IsTypedFunction env f → FunctionFine env f

abbrev pub TypedReturnsAgree : Type 0
TypedReturnsAgree = (env : Declared) (f : TypedTree) → IsTypedFunction env f → ReturnsAgree f
