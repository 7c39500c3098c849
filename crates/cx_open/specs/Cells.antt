-- What a state becomes when the conditions and cells of a part of a region are true.
use Rattle.std.specs.Prelude.{ℕ, ℤ, pos, Bool, true, false, not, ◌&&◌, if◌then◌else◌, List, [], ◌∷◌, length, Option, Some, None, is_some, Result, Ok}
use Rattle.cx_term.specs.Forms.{Linear, symbol_of}
use Rattle.cx_term.specs.Sums.{is_zero}
use Rattle.cx_term.specs.declared.term.Ineq.{Ineq}
use Rattle.cx_term.specs.declared.term.Ineq.TheVariants.{Ge, Ne}
use Rattle.cx_entail.specs.Ranges.{same_z}
use Rattle.cx_cells.specs.declared.cell.CellKind.{CellKind}
use Rattle.cx_cells.specs.declared.cell.CellKind.TheVariants.{Any, Val, Ptr}
use Rattle.cx_cells.specs.declared.cell.FlatCell.{FlatCell}
use Rattle.cx_cells.specs.declared.form.Form.{Form}
use Rattle.cx_state.specs.Known.{fact_at}
use Rattle.cx_state.specs.declared.state.Cell.{Cell}
use Rattle.cx_state.specs.declared.state.Fact.{Fact}
use Rattle.cx_state.specs.declared.state.Env.{Env}
use Rattle.cx_state.specs.declared.state.EnvFault.{EnvFault}
use Rattle.cx_query.specs.Kinds.{is_size, instance, least_of, greatest_of}
use Rattle.cx_query.specs.Shown.{difference, number}
use Rattle.cx_learn.specs.Answers.{Answer, and_then}
use Rattle.cx_learn.specs.Learning.{learnt_if, learnt}
use Rattle.cx_fact.specs.Telling.{with_fact, told}
use Rattle.cx_apart.specs.Putting.{with_cell}
use Rattle.cx_close.specs.Knowing.{Window, place_of, known_at}
use Rattle.cx_open.specs.Steps.{bind}
use Rattle.cx_open.specs.Naming.{argument_range, type_range, added, named, with_named}
use Rattle.cx_open.specs.declared.naming.Named.{Named}
use Rattle.cx_open.specs.declared.naming.Opening.{Opening}
use Rattle.cx_open.specs.declared.naming.Factual.{Factual}

-- ---- conditions

abbrev pub learnt_ne_if : Env → Option Linear → Answer
learnt_ne_if env None = Ok env
learnt_ne_if env (Some t) = learnt env (Ne t)

-- the condition, with the values for its symbols, is learnt; one that is no condition then is left out
abbrev pub learnt_with : List Linear → Env → Ineq → Answer
learnt_with values env (Ge t) = learnt_if env (instance (Some values) t)
learnt_with values env (Ne t) = learnt_ne_if env (instance (Some values) t)

abbrev pub learnt_all : List Linear → Env → List Ineq → Answer
learnt_all values env [] = Ok env
learnt_all values env (c ∷ cs) = and_then (learnt_with values env c) (λ next. learnt_all values next cs)

-- ---- values

abbrev pub same_sign : Bool → Bool → Bool
same_sign true b = b
same_sign false b = not b

-- the two forms are equal, where both are there
abbrev pub learnt_equal : Env → Option Linear → Option Linear → Answer
learnt_equal env t u = and_then (learnt_if env (difference t u)) (λ next. learnt_if next (difference u t))

-- the form is in the range of the integer type
abbrev pub learnt_ends : Env → ℤ → ℤ → Linear → Answer
learnt_ends env lo hi t = and_then (learnt_if env (difference (Some t) (number lo))) (λ next. learnt_if next (difference (number hi) (Some t)))

abbrev pub learnt_type : Env → ℕ → Bool → Linear → Answer
learnt_type env size signed t = learnt_ends env (least_of size signed) (greatest_of size signed) t

abbrev pub cell_of : ℕ → Linear → ℕ → Bool → Linear → Cell
cell_of s at size signed t = record { sym = s; at = at; size = size; signed = signed; value = t }

-- a cell with the value, which is in its range
abbrev pub new_value : ℕ → Linear → ℕ → Bool → Named → Answer
new_value s at size signed n = and_then (with_cell n.env (cell_of s at size signed n.term)) (λ next. learnt_type next size signed n.term)

-- a value without a known cell is a new cell; one with a known cell of its sign equals that cell's value
abbrev pub val_opened : Env → ℕ → ℕ → Bool → Option Linear → Option Linear → Option Cell → Answer
val_opened env s size signed u None d = Ok env
val_opened env s size signed u (Some at) None = bind (named env (type_range size signed) u) (λ n. new_value s at size signed n)
val_opened env s size signed u (Some at) (Some d) = if same_sign d.signed signed then learnt_equal env (Some d.value) u else Ok env

-- ---- pointers

-- the forms so far and the fact's further arguments, each a form of the state or a new symbol
abbrev pub args_named : List Linear → Opening → List Linear → Result Opening EnvFault
args_named values o [] = Ok o
args_named values o (u ∷ us) = bind (named o.env argument_range (instance (Some values) u)) (λ n. args_named values (with_named o.terms n) us)

abbrev pub begun : Env → Opening
begun env = record { env = env; terms = [] }

abbrev pub pointer_fact : ℕ → List Linear → Linear → Bool → Fact
pointer_fact name args off null = record { name = name; args = args; off = off; null = null }

abbrev pub with_offset : ℕ → List Linear → Bool → Named → Factual
with_offset name args null n = record { env = n.env; fact = pointer_fact name args n.term null }

abbrev pub offset_named : List Linear → ℕ → Linear → Bool → Opening → Result Factual EnvFault
offset_named values name off null o = bind (named o.env argument_range (instance (Some values) off)) (λ n. Ok (with_offset name o.terms null n))

-- the fact that the pointer's kind says
abbrev pub fact_named : List Linear → Env → ℕ → List Linear → Linear → Bool → Result Factual EnvFault
fact_named values env name args off null = bind (args_named values (begun env) args) (λ o. offset_named values name off null o)

-- a new symbol with the fact, which is told, and its cell
abbrev pub new_pointer : List Form → ℕ → Linear → Factual → Answer
new_pointer forms s at o =
    and_then (added o.env (type_range 8 false) (Some o.fact))
    (λ next.
    and_then (told forms next (length o.env.ranges)) (λ last. with_cell last (cell_of s at 8 false (symbol_of (length o.env.ranges)))))

abbrev pub is_lone : List (Option Fact) → ℤ → ℕ × ℤ → Bool
is_lone facts z p = is_zero z && (same_z p.1 (pos 1) && not (is_some (fact_at facts p.0)))

-- the form is one symbol without a fact: which one
abbrev pub lone_in : List (Option Fact) → ℤ → List (ℕ × ℤ) → Option ℕ
lone_in facts z [] = None
lone_in facts z (p ∷ []) = if is_lone facts z p then Some p.0 else None
lone_in facts z (p ∷ q ∷ ps) = None

-- the symbol gets the fact, and is told
abbrev pub fact_given : List Form → ℕ → Factual → Answer
fact_given forms t o = told forms (with_fact o.env t o.fact) t

abbrev pub lone_given : List Form → Env → List Linear → ℕ → List Linear → Linear → Bool → Option ℕ → Answer
lone_given forms env values name args off null None = Ok env
lone_given forms env values name args off null (Some t) = bind (fact_named values env name args off null) (λ o. fact_given forms t o)

abbrev pub ptr_known : List Form → Env → List Linear → ℕ → List Linear → Linear → Bool → Cell → Answer
ptr_known forms env values name args off null d =
    if d.signed then Ok env else lone_given forms env values name args off null (lone_in env.facts d.value.konst d.value.parts)

-- a pointer without a known cell is a new symbol; a known unsigned cell whose value is a lone symbol without a fact gets the fact
abbrev pub ptr_opened : List Form → Env → List Linear → ℕ → ℕ → List Linear → Linear → Bool → Option Linear → Option Cell → Answer
ptr_opened forms env values s name args off null None d = Ok env
ptr_opened forms env values s name args off null (Some at) None = bind (fact_named values env name args off null) (λ o. new_pointer forms s at o)
ptr_opened forms env values s name args off null (Some at) (Some d) = ptr_known forms env values name args off null d

abbrev pub pointer_opened : List Form → List Linear → Env → ℕ → CellKind → Option Linear → Option Cell → Answer
pointer_opened forms values env s Any at d = Ok env
pointer_opened forms values env s (Val signed u) at d = Ok env
pointer_opened forms values env s (Ptr name args off null) at d = ptr_opened forms env values s name args off null at d

-- ---- cells in order: a value has the size of an integer type, and a pointer 8 bytes

abbrev pub kind_opened : List Form → List Linear → Env → ℕ → ℕ → CellKind → Option Linear → Option Cell → Answer
kind_opened forms values env s size Any at d = Ok env
kind_opened forms values env s size (Val signed u) at d = if is_size size then val_opened env s size signed (instance (Some values) u) at d else Ok env
kind_opened forms values env s size (Ptr name args off null) at d = ptr_opened forms env values s name args off null at d

abbrev pub cell_opened : List Form → Window → List Linear → Env → FlatCell → Answer
cell_opened forms w values env c = kind_opened forms values env w.s c.size c.kind (place_of w.start w.f c) (known_at env w c)

abbrev pub cells_opened : List Form → Window → List Linear → Env → List FlatCell → Answer
cells_opened forms w values env [] = Ok env
cells_opened forms w values env (c ∷ cs) = and_then (cell_opened forms w values env c) (λ next. cells_opened forms w values next cs)
