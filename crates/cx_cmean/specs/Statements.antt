-- What a statement and the body of a function do (C11 6.8). A loop takes a turn whenever it begins again.
use Rattle.std.specs.Prelude.{ℕ, zero, suc, ◌-◌, ◌+◌, ℤ, pos, Bool, true, false, if◌then◌else◌, ◌||◌, List, ◌++◌, length, map, replicate, Option, Some, None, slice_set}
use Rattle.std.specs.Ordering.{int_eq}
use Rattle.std.proofs.Common.{arith}
use Rattle.std.specs.List.{list_any}
use Rattle.cx_base.specs.declared.fault.FaultKind.TheVariants as fault
use Rattle.cx_base.specs.declared.span.Span.{Span}
use Rattle.cx_cconst.specs.Constants.{number_type, constant_in}
use Rattle.cx_ctree.specs.Conversions.{promoted}
use Rattle.cx_ctree.specs.Decls.{TypedTree}
use Rattle.cx_ctree.specs.Exprs.{ExprTree, RhsTree, EffectTree, type_of}
use Rattle.cx_ctree.specs.Stmts.{StmtTree, stmt, StmtKindTree, block, empty, effect, declare, if_alone, if_else, while, do_while, for, switch, break, continue, return, StmtTrees, no_stmt, also_stmt, GroupTrees, no_group, also_group, stmt_span}
use Rattle.cx_ctree.specs.Types.{TypeTree, void}
use Rattle.cx_cmean.specs.Effects.{right, done, all_done}
use Rattle.cx_cmean.specs.Expressions.{eval}
use Rattle.cx_cmean.specs.Numbers.{number_of, as_type, is_zero}
use Rattle.cx_cmean.specs.Program.{Program}
use Rattle.cx_sname.specs.File.{Declared}
use Rattle.cx_world.specs.Calls.{leave}
use Rattle.cx_world.specs.World.{World, Locals, Halt, Did, gives, halts, go_on, faulted, turns_spent}

pub record State : Type 0 where
  pub locals : Locals
  pub turns : ℕ
  pub world : World

-- how a statement ends
pub data Ran : Type 0 where
  normal : State → Ran
  broken : State → Ran
  continued : State → Ran
  stops : Halt → (turns : ℕ) → World → Ran

-- then this, with what was given
abbrev pub valued : {A : Type 0} → Did A → ℕ → (A → World → Ran) → Ran
valued (gives a w) n next = next a w
valued (halts h w) n next = stops h n w

-- then the next statement
abbrev pub after : Ran → (State → Ran) → Ran
after (normal st) next = next st
after (broken st) next = broken st
after (continued st) next = continued st
after (stops h n w) next = stops h n w

-- a loop's body, and then more of the loop
abbrev pub looped : Ran → (State → Ran) → Ran
looped (normal st) next = next st
looped (broken st) next = normal st
looped (continued st) next = next st
looped (stops h n w) next = stops h n w

-- a switch ends at a break
abbrev pub unbroken : Ran → Ran
unbroken (broken st) = normal st
unbroken ran = ran

abbrev pub with_turn : ℕ → State → (State → Ran) → Ran
with_turn zero st next = stops turns_spent 0 st.world
with_turn (suc n) st next = next (record st { turns = n })

-- takes a turn
abbrev pub turned : State → (State → Ran) → Ran
turned st next = with_turn st.turns st next

abbrev pub in_world : State → World → State
in_world st w = record st { world = w }

abbrev pub with_locals : State → Locals → World → State
with_locals st ls w = record st { locals = ls; world = w }

-- a test: whether the value is not 0
abbrev pub tested : Program → ExprTree → State → (Bool → State → Ran) → Ran
tested p c st next = valued (eval p st.locals c st.world) st.turns (λ v w. if is_zero v then next false (in_world st w) else next true (in_world st w))

-- a test that may be left out
abbrev pub tested_if : Program → Option ExprTree → State → (Bool → State → Ran) → Ran
tested_if p None st next = next true st
tested_if p (Some c) st next = tested p c st next

abbrev pub effects : Program → List EffectTree → State → (State → Ran) → Ran
effects p es st next = valued (all_done p st.locals es st.world) st.turns (λ ls w. next (with_locals st ls w))

-- ---- declarations and returns

-- a variable that is declared has its initialiser's value, or is unset
abbrev pub declared : Program → ℕ → TypeTree → Option RhsTree → State → Ran
declared p x t None st = normal (with_locals st (slice_set st.locals x None) st.world)
declared p x t (Some r) st = valued (right p st.locals t r st.world) st.turns (λ v w. normal (with_locals st (slice_set st.locals x (Some v)) w))

-- the value is converted to the type of the result
abbrev pub returned : Program → (result : TypeTree) → Option RhsTree → State → Ran
returned p t None st = valued (leave p.oracle None st.world) st.turns (λ u w. normal (in_world st w))
returned p t (Some r) st = valued (go_on (right p st.locals t r st.world) (λ v w. leave p.oracle (Some v) w)) st.turns (λ u w. normal (in_world st w))

-- ---- the groups of a switch

abbrev pub or_none : Option ℤ → ℤ
or_none None = pos 0
or_none (Some v) = v

-- the label's constant (C11 6.6), as a number of the switch's promoted type
abbrev pub label_number : Declared → TypeTree → ExprTree → ℤ
label_number d t e = as_type (number_of e) (promoted (number_type t)) (or_none (constant_in d.known e))

abbrev pub is_label : Declared → TypeTree → ℤ → Option ExprTree → Bool
is_label d t v None = false
is_label d t v (Some e) = int_eq v (label_number d t e)

abbrev pub is_default : Option ExprTree → Bool
is_default None = true
is_default (Some e) = false

-- some group has such a label
abbrev pub has_label : (Option ExprTree → Bool) → GroupTrees → Bool
has_label test no_group = false
has_label test (also_group labels body gs) = list_any test labels || has_label test gs

-- which label a value goes to: its own where there is one, else the default
abbrev pub goes_to : Declared → TypeTree → ℤ → GroupTrees → Option ExprTree → Bool
goes_to d t v gs = if has_label (is_label d t v) gs then is_label d t v else is_default

-- ---- statements

-- a statement of a function with this result, where a loop begins again by the function that is given
abbrev mutual
  pub exec_by : Program → (result : TypeTree) → (StmtTree → State → Ran) → StmtTree → State → Ran
  exec_by p r again (stmt s k) st = exec_kind p r again s k st

  pub exec_kind : Program → TypeTree → (StmtTree → State → Ran) → Span → StmtKindTree → State → Ran
  exec_kind p r again s (block ss) st = execs_by p r again ss st
  exec_kind p r again s empty st = normal st
  exec_kind p r again s (effect e) st = valued (done p st.locals e st.world) st.turns (λ ls w. normal (with_locals st ls w))
  exec_kind p r again s (declare x t i) st = declared p x t i st
  exec_kind p r again s (if_alone c a) st = tested p c st (λ z st. if z then exec_by p r again a st else normal st)
  exec_kind p r again s (if_else c a b) st = tested p c st (λ z st. if z then exec_by p r again a st else exec_by p r again b st)
  exec_kind p r again s (while c a) st =
      tested p c st (λ z st. if z then looped (exec_by p r again a st) (λ st. turned st (again (stmt s (while c a)))) else normal st)
  exec_kind p r again s (do_while a c) st =
      looped (exec_by p r again a st) (λ st. tested p c st (λ z st. if z then turned st (again (stmt s (do_while a c))) else normal st))
  exec_kind p r again s (for init c steps a) st =
      after (execs_by p r again init st)
      (λ st. tested_if p c st (λ z st. if z then looped (exec_by p r again a st) (λ st. effects p steps st (λ st. turned st (again (stmt s (for no_stmt c steps a))))) else normal st))
  exec_kind p r again s (switch v gs) st =
      valued (eval p st.locals v st.world) st.turns
      (λ n w. unbroken (from_label p r again (goes_to p.unit (type_of v) (as_type (number_of v) (promoted (number_type (type_of v))) n) gs) gs (in_world st w)))
  exec_kind p r again s break st = broken st
  exec_kind p r again s continue st = continued st
  exec_kind p r again s (return x) st = returned p r x st

  pub execs_by : Program → TypeTree → (StmtTree → State → Ran) → StmtTrees → State → Ran
  execs_by p r again no_stmt st = normal st
  execs_by p r again (also_stmt s ss) st = after (exec_by p r again s st) (execs_by p r again ss)

  -- the groups in order
  pub groups_by : Program → TypeTree → (StmtTree → State → Ran) → GroupTrees → State → Ran
  groups_by p r again no_group st = normal st
  groups_by p r again (also_group labels body gs) st = after (execs_by p r again body st) (groups_by p r again gs)

  -- the groups from the first with such a label on
  pub from_label : Program → TypeTree → (StmtTree → State → Ran) → (Option ExprTree → Bool) → GroupTrees → State → Ran
  from_label p r again test no_group st = normal st
  from_label p r again test (also_group labels body gs) st =
      if list_any test labels then after (execs_by p r again body st) (groups_by p r again gs) else from_label p r again test gs st

-- a statement, where loops begin again at most so often
abbrev pub run : Program → TypeTree → ℕ → StmtTree → State → Ran
run p r zero = exec_by p r (λ s st. stops turns_spent 0 st.world)
run p r (suc n) = exec_by p r (run p r n)

-- as often as there are turns
abbrev pub exec : Program → TypeTree → StmtTree → State → Ran
exec p r s st = run p r st.turns s st

-- ---- functions

-- the place of a body's closing brace
abbrev pub closing_brace : Span → Span
closing_brace s = record { first = s.past - 1; past = s.past; ordered = omega arith }

-- the end of a body: a function without a result returns, and another has a fault (C11 6.9.1)
abbrev pub at_end : Program → (result : TypeTree) → Span → State → Ran
at_end p void s st = valued (leave p.oracle None st.world) st.turns (λ u w. normal (in_world st w))
at_end p _ s st = stops (faulted fault.End (closing_brace s)) st.turns st.world

-- the parameters have the arguments, and the other locals are unset
abbrev pub first_locals : TypedTree → List ℤ → Locals
first_locals f args = map (λ v. Some v) args ++ replicate (length f.locals - length args) None

-- a run of the function with these arguments
abbrev pub exec_function : Program → TypedTree → (args : List ℤ) → (turns : ℕ) → World → Ran
exec_function p f args turns w = after (exec p f.sig.result f.body (record { locals = first_locals f args; turns = turns; world = w })) (at_end p f.sig.result (stmt_span f.body))
