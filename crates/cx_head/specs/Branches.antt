-- Which branch of a form can still be the one that holds, and what a state becomes when it is opened.
use Rattle.std.specs.Prelude.{pos, Bool, false, not, if◌then◌else◌, ℕ, List, [], ◌∷◌, Option, Some, None, Result, Ok}
use Rattle.std.specs.List.{list_any}
use Rattle.cx_term.specs.Forms.{Linear}
use Rattle.cx_term.specs.declared.term.Ineq.{Ineq}
use Rattle.cx_term.specs.declared.term.Ineq.TheVariants.{Ge, Ne}
use Rattle.cx_entail.specs.Shows.{minus_less_one}
use Rattle.cx_cells.specs.declared.form.CaseBranch.{CaseBranch}
use Rattle.cx_cells.specs.declared.form.Form.{Form}
use Rattle.cx_state.specs.declared.state.Fact.{Fact}
use Rattle.cx_state.specs.declared.state.Env.{Env}
use Rattle.cx_state.specs.declared.state.EnvFault.{EnvFault}
use Rattle.cx_query.specs.Kinds.{instance}
use Rattle.cx_query.specs.Shown.{number, shown_in, shown_zero}
use Rattle.cx_learn.specs.Answers.{Answer, and_then}
use Rattle.cx_close.specs.Knowing.{Window, window}
use Rattle.cx_open.specs.Steps.{bind}
use Rattle.cx_open.specs.Cells.{learnt_all}
use Rattle.cx_open.specs.Parts.{part_opened}
use Rattle.cx_open.specs.declared.naming.Opening.{Opening}

-- ---- which branches are possible

-- the form is shown to be below 0
abbrev pub shown_below : Env → Option Linear → Bool
shown_below env None = false
shown_below env (Some t) = shown_in env (minus_less_one t)

-- the form is shown to be 0
abbrev pub shown_nothing : Env → Option Linear → Bool
shown_nothing env None = false
shown_nothing env (Some t) = shown_zero env t

-- the condition, with the values for its symbols, is shown to be false
abbrev pub refuted : Env → List Linear → Ineq → Bool
refuted env values (Ge t) = shown_below env (instance (Some values) t)
refuted env values (Ne t) = shown_nothing env (instance (Some values) t)

-- no condition of the branch's guard is
abbrev pub is_possible : Env → List Linear → CaseBranch → Bool
is_possible env values b = not (list_any (refuted env values) b.guard)

-- the branch that is possible, where no other is
abbrev pub only_possible : Env → List Linear → List CaseBranch → Option CaseBranch
only_possible env values [] = None
only_possible env values (b ∷ bs) =
    if is_possible env values b then (if list_any (is_possible env values) bs then None else Some b) else only_possible env values bs

-- ---- its opening

abbrev pub env_of : Result Opening EnvFault → Answer
env_of o = bind o (λ x. Ok x.env)

abbrev pub branch_window : Form → ℕ → Fact → CaseBranch → Window
branch_window form s f b = window None s f (number (pos form.cases_at)) b.part.cells

-- its guard is learnt, and its part opened
abbrev pub branch_opened : List Form → Form → ℕ → Fact → Opening → CaseBranch → Answer
branch_opened forms form s f o b =
    and_then (learnt_all o.terms o.env b.guard)
    (λ next. env_of (part_opened forms (branch_window form s f b) b.part.binders b.part.conds (record { env = next; terms = o.terms })))

-- where exactly one branch is possible, that one
abbrev pub one_opened : List Form → Form → ℕ → Fact → Opening → Option CaseBranch → Answer
one_opened forms form s f o None = Ok o.env
one_opened forms form s f o (Some b) = branch_opened forms form s f o b

abbrev pub cases_opened : List Form → Form → ℕ → Fact → Opening → Answer
cases_opened forms form s f o = one_opened forms form s f o (only_possible o.env o.terms form.cases)
