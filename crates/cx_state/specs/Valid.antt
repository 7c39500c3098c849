-- When a state is valid.
use Rattle.std.specs.Prelude.{◌≡◌, ℕ, ◌<◌, ◌≤◌, List, length, All, Option, Some, None}
use Rattle.cx_term.specs.Forms.{Linear}
use Rattle.cx_term.specs.declared.term.Ineq.{Ineq}
use Rattle.cx_term.specs.declared.term.Ineq.TheVariants.{Ge, Ne}
use Rattle.cx_cells.specs.Kept.{HasParams}
use Rattle.cx_cells.specs.declared.form.Form.{Form}
use Rattle.cx_state.specs.declared.state.Fact.{Fact}
use Rattle.cx_state.specs.declared.state.Cell.{Cell}
use Rattle.cx_state.specs.declared.state.Env.{Env}

-- ---- each symbol that is named is below n
abbrev pub SymbolBelow : ℕ → ℕ → Type 0
SymbolBelow n s = s < n

abbrev pub TermBelow : ℕ → Linear → Type 0
TermBelow n t = All (λ p. p.0 < n) t.parts

abbrev pub LocalBelow : ℕ → Option Linear → Type 0
LocalBelow n None = Unit {0}
LocalBelow n (Some t) = TermBelow n t

abbrev pub CondBelow : ℕ → Ineq → Type 0
CondBelow n (Ge t) = TermBelow n t
CondBelow n (Ne t) = TermBelow n t

pub record FactBelow (n : ℕ) (f : Fact) : Type 0 where
  pub args : All (TermBelow n) f.args
  pub off : TermBelow n f.off

abbrev pub OptionBelow : ℕ → Option Fact → Type 0
OptionBelow n None = Unit {0}
OptionBelow n (Some f) = FactBelow n f

pub record CellBelow (n : ℕ) (c : Cell) : Type 0 where
  pub sym : c.sym < n
  pub at : TermBelow n c.at
  pub value : TermBelow n c.value

-- each symbol that the state names has a range, and a place for its fact
pub record Scoped (env : Env) : Type 0 where
  pub facts_count : length env.facts ≡ length env.ranges
  pub locals : All (LocalBelow (length env.ranges)) env.locals
  pub conds : All (CondBelow (length env.ranges)) env.conds
  pub facts : All (OptionBelow (length env.ranges)) env.facts
  pub cells : All (CellBelow (length env.ranges)) env.cells
  pub staged : All (SymbolBelow (length env.ranges)) env.staged
  pub fresh : All (SymbolBelow (length env.ranges)) env.fresh

-- ---- limits
pub record WithinLimits (env : Env) : Type 0 where
  pub symbols : length env.ranges ≤ 512
  pub conds : length env.conds ≤ 64
  pub cells : length env.cells ≤ 256
  pub staged : length env.staged ≤ 8

-- ---- types

-- the fact's region type is there, and has that number of arguments
abbrev pub HasType : List Form → Option Fact → Type 0
HasType forms None = Unit {0}
HasType forms (Some f) = HasParams forms f.name (length f.args)

abbrev pub HasTypes : List Form → List (Option Fact) → Type 0
HasTypes forms facts = All (HasType forms) facts

-- ---- all of them
pub record IsValid (forms : List Form) (env : Env) : Type 0 where
  pub anchors : 40 ≤ length env.ranges
  pub scoped : Scoped env
  pub limits : WithinLimits env
  pub types : HasTypes forms env.facts
