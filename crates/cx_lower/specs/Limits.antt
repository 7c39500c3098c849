-- The limits of a function's code, tried in this order: 128 locals, 512 blocks, 4096 lines of all blocks.
use Rattle.std.specs.Prelude.{◌≡◌, ℕ, ◌+◌, ◌≤◌, nat_le, if◌then◌else◌, List, [], ◌∷◌, length, Option, Some, None}
use Rattle.cx_goto.specs.Trees.{BlockTree, CodeTree}
use Rattle.cx_lower.specs.declared.fault.LimitKind.{LimitKind}
use Rattle.cx_lower.specs.declared.fault.LimitKind.TheVariants.{Locals, Blocks, Instructions}
use Rattle.cx_lower.specs.declared.fault.LowerFault.{LowerFault}
use Rattle.cx_lower.specs.declared.fault.LowerFault.TheVariants.{TooLarge, NoMemory}

-- how many lines the blocks have
abbrev pub lines_of : List BlockTree → ℕ
lines_of [] = 0
lines_of (b ∷ bs) = length b.lines + lines_of bs

pub record Limit : Type 0 where
  pub kind : LimitKind
  pub limit : ℕ

-- the first limit that such numbers pass, if they pass one
abbrev pub first_above : (locals blocks lines : ℕ) → Option Limit
first_above locals blocks lines =
    if nat_le locals 128 then (if nat_le blocks 512 then (if nat_le lines 4096 then None else Some (record { kind = Instructions; limit = 4096 })) else Some (record { kind = Blocks; limit = 512 }))
    else Some (record { kind = Locals; limit = 128 })

-- the first limit that the code passes
abbrev pub first_passed : CodeTree → Option Limit
first_passed c = first_above c.locals (length c.blocks) (lines_of c.blocks)

-- the fault tells of this limit, or that memory ran out
abbrev pub TellsOf : Option Limit → LowerFault → Type 0
TellsOf passed (TooLarge kind limit) = passed ≡ Some (record { kind = kind; limit = limit })
TellsOf passed NoMemory = Unit {0}

-- the fault tells the first limit that the code passes
abbrev pub Tells : CodeTree → LowerFault → Type 0
Tells c fault = TellsOf (first_passed c) fault

-- the same, before the lines are counted
abbrev pub TellsOfNumbers : (locals blocks : ℕ) → LowerFault → Type 0
TellsOfNumbers locals blocks fault = (lines : ℕ) → TellsOf (first_above locals blocks lines) fault

-- the same, where no limit of locals or blocks is passed
abbrev pub TellsOfLines : (lines : ℕ) → LowerFault → Type 0
TellsOfLines lines fault = (locals blocks : ℕ) → locals ≤ 128 → blocks ≤ 512 → TellsOf (first_above locals blocks lines) fault
