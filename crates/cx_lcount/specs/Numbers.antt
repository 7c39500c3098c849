-- How many blocks and locals the code of a function has.
use Rattle.std.specs.Prelude.{◌≡◌, ◌+◌, List, length}
use Rattle.cx_base.specs.declared.token.Token.{Token}
use Rattle.cx_ctree.specs.Decls.{TypedTree}
use Rattle.cx_lcode.specs.Lowered.{lowered}
use Rattle.cx_lcode.specs.Needs.{stmt_need}
use Rattle.cx_lcode.specs.Starts.{stmt_starts}
use Rattle.cx_lright.specs.Fine.{FunctionFine}
use Rattle.cx_sname.specs.File.{Declared}

abbrev pub BlocksCounted : Type 0
BlocksCounted = (d : Declared) (tokens : List Token) (f : TypedTree) → FunctionFine d f → length (lowered d tokens f).blocks ≡ stmt_starts f.body + 1

abbrev pub LocalsCounted : Type 0
LocalsCounted = (d : Declared) (tokens : List Token) (f : TypedTree) → FunctionFine d f → (lowered d tokens f).locals ≡ length f.locals + stmt_need d f.body
