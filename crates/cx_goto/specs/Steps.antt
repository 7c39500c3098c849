-- More steps change nothing of a run that has ended.
use Rattle.std.specs.Prelude.{ℕ, ℤ, ◌≡◌, ◌+◌, List}
use Rattle.cx_goto.specs.Trees.{CodeTree}
use Rattle.cx_goto.specs.Machine.{ended, run_of}
use Rattle.cx_world.specs.Oracle.{Oracle}
use Rattle.cx_world.specs.World.{World, Halt}

abbrev pub MoreSteps : Type 0
MoreSteps =
    (o : Oracle) (code : CodeTree) (j k : ℕ) (args : List ℤ) (turns : ℕ) (w : World) (h : Halt) (left : ℕ) (after : World) → run_of o code j args turns w ≡ ended h left after → run_of o code (j + k) args turns w ≡ ended h left after
