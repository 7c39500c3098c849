-- That the code of a function does what the function does.
use Rattle.std.specs.Prelude.{◌≡◌, ℕ, ◌≤◌, ℤ, true, false, List, length, Option, is_some}
use Rattle.cx_base.specs.declared.memory.Region.{Region}
use Rattle.cx_base.specs.declared.token.Token.{Token}
use Rattle.cx_cmean.specs.Program.{Program, function_of}
use Rattle.cx_cmean.specs.Statements.{Ran, normal, broken, continued, stops, exec_function}
use Rattle.cx_ctree.specs.Decls.{TypedTree}
use Rattle.cx_goto.specs.Machine.{Outcome, ended, stuck, run_of}
use Rattle.cx_goto.specs.Trees.{CodeTree}
use Rattle.cx_lcode.specs.Lowered.{lowered}
use Rattle.cx_lright.specs.Fine.{is_void, FunctionFine}
use Rattle.cx_world.specs.World.{World}

-- a call of a function that is declared with a result is answered with a number
abbrev pub GivesNumbers : Program → Type 0
GivesNumbers p =
    (name : ℕ) (args : List ℤ) (before : List Region) (given : Option ℤ) (after : List Region) → p.oracle.may_answer name args before given after ≡ true
    → is_void (function_of p.unit name).result ≡ false → is_some given ≡ true

-- what a run of a function shows
abbrev pub outcome_of : Ran → Outcome
outcome_of (normal st) = stuck
outcome_of (broken st) = stuck
outcome_of (continued st) = stuck
outcome_of (stops h n w) = ended h n w

-- For all arguments, turns, memories, answers, blocks and changes, a run of the code ends as a run of the function: in the same
-- way, with the same turns left, memory and rest of the script, after the same accesses, calls and allocations.
abbrev pub DoesAs : Program → CodeTree → TypedTree → Type 0
DoesAs p code f =
    (args : List ℤ) (turns : ℕ) (w : World) → length args ≤ length f.locals → (steps : ℕ) × (run_of p.oracle code steps args turns w ≡ outcome_of (exec_function p f args turns w))

abbrev pub CodeIsRight : Type 0
CodeIsRight = (p : Program) (tokens : List Token) (f : TypedTree) → FunctionFine p.unit f → GivesNumbers p → DoesAs p (lowered p.unit tokens f) f
