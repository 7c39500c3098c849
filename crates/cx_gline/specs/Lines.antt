-- What holds of each line of code: the numbers of constants are small, and calls have as many arguments as their functions have parameters.
use Rattle.std.specs.Prelude.{◌≡◌, ◌≤◌, ◌^◌, ℤ, unsigned_abs, length, All}
use Rattle.cx_cmean.specs.Program.{function_of}
use Rattle.cx_goto.specs.Trees.{InstrTree, const, call, CodeTree}
use Rattle.cx_sname.specs.File.{Declared}

-- the number may be the constant of a linear form
abbrev pub IsSmall : ℤ → Type 0
IsSmall v = unsigned_abs v ≤ 2 ^ 96

abbrev pub ConstantSmall : InstrTree → Type 0
ConstantSmall (const d v) = IsSmall v
ConstantSmall _ = Unit {0}

abbrev pub CallAgrees : Declared → InstrTree → Type 0
CallAgrees env (call d name args pointee) = length args ≡ length (function_of env name).params
CallAgrees env _ = Unit {0}

-- each line of the code
abbrev pub EachLine : (InstrTree → Type 0) → CodeTree → Type 0
EachLine P code = All (λ b. All (λ l. P l.instr) b.lines) code.blocks

-- the number of each constant may be the constant of a linear form
abbrev pub ConstantsSmall : CodeTree → Type 0
ConstantsSmall code = EachLine ConstantSmall code

-- each call has as many arguments as the function of its name has parameters
abbrev pub CallsAgree : Declared → CodeTree → Type 0
CallsAgree env code = EachLine (CallAgrees env) code
