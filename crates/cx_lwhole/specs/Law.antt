-- That the code of a function is whole.
use Rattle.std.specs.Prelude.{◌≡◌, List}
use Rattle.cx_base.specs.declared.token.Token.{Token}
use Rattle.cx_ctree.specs.Decls.{TypedTree}
use Rattle.cx_gline.specs.Law.{ReturnsAgree}
use Rattle.cx_goto.specs.Trees.{code_tree}
use Rattle.cx_goto.specs.Whole.{IsWhole}
use Rattle.cx_goto.specs.declared.code.Code.{Code}
use Rattle.cx_lcode.specs.Lowered.{lowered}
use Rattle.cx_lright.specs.Fine.{FunctionFine}
use Rattle.cx_sname.specs.File.{Declared}

abbrev pub CodeIsWhole : Type 0
CodeIsWhole = (d : Declared) (tokens : List Token) (f : TypedTree) (code : Code) → FunctionFine d f → ReturnsAgree f → code_tree code ≡ lowered d tokens f → IsWhole code
