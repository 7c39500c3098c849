-- What holds of each line of the code of a function.
use Rattle.std.specs.Prelude.{◌≡◌, List, All, is_some}
use Rattle.cx_abi.specs.Recursion.{IsByMembers}
use Rattle.cx_base.specs.declared.token.Token.{Token}
use Rattle.cx_cname.specs.Known.{Known}
use Rattle.cx_ctree.specs.Decls.{TypedTree}
use Rattle.cx_gline.specs.Inside.{stmt_numbers, returns_in}
use Rattle.cx_gline.specs.Lines.{IsSmall, ConstantsSmall, CallsAgree}
use Rattle.cx_lcode.specs.Lowered.{result_of, lowered}
use Rattle.cx_lright.specs.Fine.{FunctionFine}
use Rattle.cx_sname.specs.File.{Declared}

-- the numbers of the enumeration constants that the unit declares may be constants of linear forms
abbrev pub EnumerationsSmall : Known → Type 0
EnumerationsSmall k = All (λ c. IsSmall c.1) k.consts

-- these and the numbers in the function may
pub record NumbersSmall (d : Declared) (f : TypedTree) : Type 0 where
  pub declared : EnumerationsSmall d.known
  pub body : All IsSmall (stmt_numbers f.body)

-- a return gives a value exactly where the function has a result
abbrev pub ReturnsAgree : TypedTree → Type 0
ReturnsAgree f = All (λ v. is_some v ≡ is_some (result_of f.sig.result)) (returns_in f.body)

abbrev pub ConstantsAreSmall : Type 0
ConstantsAreSmall = (d : Declared) (tokens : List Token) (f : TypedTree) → IsByMembers d.known.tags → FunctionFine d f → NumbersSmall d f → ConstantsSmall (lowered d tokens f)

abbrev pub CallsHaveArguments : Type 0
CallsHaveArguments = (d : Declared) (tokens : List Token) (f : TypedTree) → FunctionFine d f → CallsAgree d (lowered d tokens f)
