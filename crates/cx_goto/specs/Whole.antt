-- When code is whole: the blocks and locals that it names are there.
use Rattle.std.specs.Prelude.{◌≡◌, ℕ, ◌<◌, ◌≤◌, length, All, Option, Some, None, is_some, true}
use Rattle.cx_base.specs.declared.number.CInt.{CInt}
use Rattle.cx_goto.specs.declared.code.Block.{Block}
use Rattle.cx_goto.specs.declared.code.Code.{Code}
use Rattle.cx_goto.specs.declared.code.End.{End}
use Rattle.cx_goto.specs.declared.code.End.TheVariants.{Jump, Branch, Return, Missing}
use Rattle.cx_goto.specs.declared.code.Instr.{Instr}
use Rattle.cx_goto.specs.declared.code.Instr.TheVariants.{Const, Copy, Unset, Global, Bin, Conv, Load, Store, Call}

-- the locals that the line names are below n
abbrev pub LocalsIn : ℕ → Instr → Type 0
LocalsIn n (Const d v) = d < n
LocalsIn n (Copy d x) = (d < n) × (x < n)
LocalsIn n (Unset d) = d < n
LocalsIn n (Global d name) = d < n
LocalsIn n (Bin d op t x y) = (d < n) × (x < n) × (y < n)
LocalsIn n (Conv d t) = d < n
LocalsIn n (Load d t a) = (d < n) × (a < n)
LocalsIn n (Store t a x) = (a < n) × (x < n)
LocalsIn n (Call d name args pointee) = (d < n) × All (λ x. x < n) args

-- a return has a local below n exactly where the function has a result
abbrev pub ReturnIn : ℕ → Option CInt → Option ℕ → Type 0
ReturnIn n None None = Unit {0}
ReturnIn n None (Some x) = ⊥
ReturnIn n (Some t) None = ⊥
ReturnIn n (Some t) (Some x) = x < n

-- the blocks that the end names are below m, and its locals below n; only a function with a result may end without one
abbrev pub EndIn : (m n : ℕ) → Option CInt → End → Type 0
EndIn m n result (Jump to) = to < m
EndIn m n result (Branch r x y first second) = (x < n) × (y < n) × (first < m) × (second < m)
EndIn m n result (Return x) = ReturnIn n result x
EndIn m n result Missing = is_some result ≡ true

pub record BlockIn (m n : ℕ) (result : Option CInt) (b : Block) : Type 0 where
  pub lines : All (λ l. LocalsIn n l.instr) b.lines
  pub end : EndIn m n result b.end

pub record IsWhole (code : Code) : Type 0 where
  pub begins : 0 < length code.blocks
  pub params : code.params ≤ code.named
  pub named : code.named ≤ code.locals
  pub each : All (BlockIn (length code.blocks) code.locals code.result) code.blocks
