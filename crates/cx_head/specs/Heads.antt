-- What a state becomes when the head of a region, or an element of its tail, is opened.
use Rattle.std.specs.Prelude.{ℕ, zero, suc, pos, List, [], ◌∷◌, ◌++◌, slice_get, Option, Some, None, Ok}
use Rattle.cx_term.specs.Forms.{Linear, fit, constant_of}
use Rattle.cx_term.specs.Sums.{plus_times}
use Rattle.cx_cells.specs.declared.form.Form.{Form}
use Rattle.cx_cells.specs.declared.form.Tail.{Tail}
use Rattle.cx_state.specs.Known.{fact_at}
use Rattle.cx_state.specs.declared.state.Fact.{Fact}
use Rattle.cx_state.specs.declared.state.Env.{Env}
use Rattle.cx_query.specs.Shown.{number}
use Rattle.cx_learn.specs.Answers.{Answer, and_then}
use Rattle.cx_fact.specs.Telling.{settled}
use Rattle.cx_close.specs.Knowing.{Window, window}
use Rattle.cx_open.specs.Steps.{bind}
use Rattle.cx_open.specs.Parts.{part_opened}
use Rattle.cx_head.specs.Branches.{env_of, cases_opened}
use Rattle.cx_open.specs.declared.naming.Opening.{Opening}

-- ---- the head

abbrev pub head_window : Form → ℕ → Fact → Window
head_window form s f = window None s f (number (pos 0)) form.head

abbrev pub with_args : Env → Fact → Opening
with_args env f = record { env = env; terms = f.args }

-- the head's own part, and then the only branch that is still possible
abbrev pub head_opened : List Form → Form → ℕ → Fact → Env → Answer
head_opened forms form s f env = bind (part_opened forms (head_window form s f) form.binders form.conds (with_args env f)) (λ o. cases_opened forms form s f o)

-- ---- elements

-- where the element of this index begins: after the head and the elements before it
abbrev pub element_start : Form → Tail → Linear → Option Linear → Option Linear
element_start form tail i None = None
element_start form tail i (Some t) = fit (plus_times (pos tail.part.size) i t)

abbrev pub element_window : Form → Tail → ℕ → Fact → Linear → Window
element_window form tail s f i = window None s f (element_start form tail i (number (pos form.head_size))) tail.part.cells

abbrev pub zeros : ℕ → List Linear
zeros zero = []
zeros (suc n) = constant_of (pos 0) ∷ zeros n

-- an element names the parameters and its own binders, which come after the form's; these it does not name, so that any forms may
-- stand for them
abbrev pub element_values : Form → Env → Fact → Opening
element_values form env f = record { env = env; terms = f.args ++ zeros form.binders }

abbrev pub element_opened : List Form → Form → ℕ → Fact → Linear → Env → Option Tail → Answer
element_opened forms form s f i env None = Ok env
element_opened forms form s f i env (Some tail) =
    env_of (part_opened forms (element_window form tail s f i) tail.part.binders tail.part.conds (element_values form env f))

-- ---- one of them

-- the head, or the element of the index that is given
abbrev pub part_chosen : List Form → Option Linear → ℕ → Fact → Env → Form → Answer
part_chosen forms None s f env form = head_opened forms form s f env
part_chosen forms (Some i) s f env form = element_opened forms form s f i env form.tail

abbrev pub form_opened : List Form → Option Linear → ℕ → Fact → Env → Option Form → Answer
form_opened forms element s f env None = Ok env
form_opened forms element s f env (Some form) = part_chosen forms element s f env form

abbrev pub fact_opened : List Form → Option Linear → ℕ → Env → Option Fact → Answer
fact_opened forms element s env None = Ok env
fact_opened forms element s env (Some f) = form_opened forms element s f env (slice_get forms f.name)

-- the symbol is settled first
abbrev pub opened : List Form → Env → ℕ → Option Linear → Answer
opened forms env s element = and_then (settled forms env s) (λ next. fact_opened forms element s next (fact_at next.facts s))
