-- Which staged region may be the one that is opened, and what opening answers.
use Rattle.std.specs.Prelude.{◌≡◌, ℕ, Bool, false, if◌then◌else◌, List, [], ◌∷◌, Option, Some, None, Result, Ok, Err}
use Rattle.cx_term.specs.Forms.{Linear}
use Rattle.cx_cells.specs.declared.form.Form.{Form}
use Rattle.cx_state.specs.Known.{fact_at}
use Rattle.cx_state.specs.declared.state.Fact.{Fact}
use Rattle.cx_state.specs.declared.state.Env.{Env}
use Rattle.cx_state.specs.declared.state.EnvFault.{EnvFault}
use Rattle.cx_state.specs.declared.state.EnvFault.TheVariants.{Limit as PastLimit, NoMemory as OutOfMemory}
use Rattle.cx_learn.specs.Answers.{Answer}
use Rattle.cx_apart.specs.Apart.{regions_apart}
use Rattle.cx_head.specs.Heads.{opened}
use Rattle.cx_head.specs.declared.opening.FocusFault.{FocusFault}
use Rattle.cx_head.specs.declared.opening.FocusFault.TheVariants.{AliasStaged, Limit, NoMemory}

-- the regions of the facts of s and t are shown to be different; one without a fact is apart from none
abbrev pub facts_apart : Env → ℕ → Option Fact → ℕ → Option Fact → Bool
facts_apart env s None t g = false
facts_apart env s (Some f) t None = false
facts_apart env s (Some f) t (Some g) = regions_apart env s f t g

abbrev pub symbols_apart : Env → ℕ → ℕ → Bool
symbols_apart env s t = facts_apart env s (fact_at env.facts s) t (fact_at env.facts t)

-- the first of the symbols whose region is not shown to be another than that of s
abbrev pub aliased : Env → ℕ → List ℕ → Option ℕ
aliased env s [] = None
aliased env s (t ∷ ts) = if symbols_apart env s t then aliased env s ts else Some t

-- ---- what opening answers

abbrev pub fault_of : EnvFault → FocusFault
fault_of (PastLimit kind) = Limit kind
fault_of OutOfMemory = NoMemory

abbrev pub answer_of : Answer → Result Env FocusFault
answer_of (Ok env) = Ok env
answer_of (Err fault) = Err (fault_of fault)

abbrev pub open_by : List Form → Env → ℕ → Option Linear → Option ℕ → Result Env FocusFault
open_by forms env s element (Some t) = Err (AliasStaged t)
open_by forms env s element None = answer_of (opened forms env s element)

-- the first staged symbol whose region may be that of s, or else the state in which the head or the element is opened
abbrev pub open_of : List Form → Env → ℕ → Option Linear → Result Env FocusFault
open_of forms env s element = open_by forms env s element (aliased env s env.staged)

-- the call answers what is meant, or that memory ran out
abbrev pub Gives : Result Env FocusFault → Result Env FocusFault → Type 0
Gives (Ok env) meant = meant ≡ Ok env
Gives (Err NoMemory) meant = Unit {0}
Gives (Err (Limit kind)) meant = meant ≡ Err (Limit kind)
Gives (Err (AliasStaged t)) meant = meant ≡ Err (AliasStaged t)
