-- When a form is shown to be of a kind: bytes that write its value hold what the kind says.
use Rattle.std.specs.Prelude.{◌≡◌, ℕ, ℤ, pos, ◌-ℤ◌, ◌*◌, Bool, true, false, not, ◌&&◌, ◌||◌, ◌==◌, List, [], ◌∷◌, Option, Some, None}
use Rattle.cx_base.specs.Number.{half_of, InRange}
use Rattle.cx_base.specs.declared.memory.Region.{Region}
use Rattle.cx_term.specs.Forms.{Linear, value, fit}
use Rattle.cx_term.specs.Replaced.{put_all, values_of}
use Rattle.cx_cells.specs.Values.{all_values}
use Rattle.cx_cells.specs.Layouts.{Extent, Points, layout_of}
use Rattle.cx_cells.specs.declared.cell.CellKind.{CellKind}
use Rattle.cx_cells.specs.declared.cell.CellKind.TheVariants.{Any, Val, Ptr}
use Rattle.cx_state.specs.Known.{fact_at}
use Rattle.cx_state.specs.Run.{Run}
use Rattle.cx_state.specs.Stands.{StandsAtAccess, visible}
use Rattle.cx_state.specs.declared.state.Fact.{Fact}
use Rattle.cx_state.specs.declared.state.Env.{Env}
use Rattle.cx_state.specs.declared.state.Pointed.{Pointed}
use Rattle.cx_query.specs.Shown.{at_least, at_most, shown_equal, shown_zero}
use Rattle.cx_query.specs.Pointing.{point_of, not_fresh}

-- ---- integer types

-- a size of an integer type
abbrev pub is_size : ℕ → Bool
is_size n = (n == 1) || ((n == 2) || ((n == 4) || (n == 8)))

-- the least number of the integer type
abbrev pub least_of : ℕ → Bool → ℤ
least_of size true = pos 0 -ℤ pos (half_of size)
least_of size false = pos 0

-- the greatest
abbrev pub greatest_of : ℕ → Bool → ℤ
greatest_of size true = pos (half_of size) -ℤ pos 1
greatest_of size false = pos (2 * half_of size) -ℤ pos 1

-- the form is shown to lie in the range of the integer type of this size and sign
abbrev pub in_type : Env → ℕ → Bool → Linear → Bool
in_type env size signed t = is_size size && (at_least env t (least_of size signed) && at_most env t (greatest_of size signed))

-- ---- kinds

-- the values, where they are given
abbrev pub values_given : Bool → List Linear → Option (List Linear)
values_given false values = None
values_given true values = Some values

-- the kind's form as one of the state: as it is, or where values are given with each symbol replaced by the value at it
abbrev pub instance : Option (List Linear) → Linear → Option Linear
instance None u = Some u
instance (Some values) u = fit (put_all values u)

-- the kind's arguments are as many as the fact's, and shown equal to them
abbrev pub args_equal : Env → Option (List Linear) → List Linear → List Linear → Bool
args_equal env values [] [] = true
args_equal env values [] (b ∷ bs) = false
args_equal env values (k ∷ ks) [] = false
args_equal env values (k ∷ ks) (b ∷ bs) = shown_equal env (instance values k) (Some b) && args_equal env values ks bs

-- the pointer's kind names the fact's region type, its arguments and offset are shown equal, and it allows null or none is left
abbrev pub pointer_meets : Env → Option (List Linear) → CellKind → Pointed → Fact → Bool
pointer_meets env values Any p f = false
pointer_meets env values (Val signed u) p f = false
pointer_meets env values (Ptr name args off null) p f =
    (f.name == name) && (args_equal env values args f.args && (shown_equal env (instance values off) (Some p.off) && (null || not p.null)))

abbrev pub fact_meets : Env → Option (List Linear) → CellKind → Pointed → Option Fact → Bool
fact_meets env values kind p None = false
fact_meets env values kind p (Some f) = pointer_meets env values kind p f

abbrev pub point_meets : Env → Option (List Linear) → CellKind → Option Pointed → Bool
point_meets env values kind None = false
point_meets env values kind (Some p) = fact_meets env values kind p (fact_at env.facts p.sym)

-- the form, which points to p, is shown to be of the kind, as a number of so many bytes
abbrev pub kind_with : Env → Option (List Linear) → CellKind → ℕ → Linear → Option Pointed → Bool
kind_with env values Any size t p = true
kind_with env values (Val signed u) size t p = shown_equal env (Some t) (instance values u) && in_type env size signed t
kind_with env values (Ptr name args off null) size t p =
    in_type env 8 false t && ((null && shown_zero env t) || point_meets env values (Ptr name args off null) p)

-- the form is shown to be of the kind, as a number of so many bytes
abbrev pub kind_shown : Env → Option (List Linear) → CellKind → ℕ → Linear → Bool
kind_shown env values kind size t = kind_with env values kind size t (point_of env t)

-- the same where a symbol counts as not fresh
abbrev pub kind_shown_but : Option ℕ → Env → Option (List Linear) → CellKind → ℕ → Linear → Bool
kind_shown_but own env values kind size t = kind_with env values kind size t (point_of (not_fresh own env) t)

-- ---- what is shown is true

-- the number holds what the kind says, as so many bytes that write it would
abbrev pub NumberHolds : (ℕ → ℤ) → List Extent → CellKind → ℕ → ℤ → Type 0
NumberHolds v layout Any size z = Unit {0}
NumberHolds v layout (Val signed u) size z = InRange size signed z × (z ≡ value v u)
NumberHolds v layout (Ptr name args off null) size z = InRange 8 false z × Points layout name (all_values v args) (value v off) null z

-- the values of the kind's symbols, where the state's have the values v
abbrev pub instance_values : Option (List Linear) → (ℕ → ℤ) → ℕ → ℤ
instance_values None v = v
instance_values (Some values) v = values_of values v

-- the value of the form holds what the kind says, wherever the state stands
abbrev pub HoldsKind : Env → Option (List Linear) → CellKind → ℕ → Linear → Type 0
HoldsKind env values kind size t =
    (run : Run) (v : ℕ → ℤ) (locals : List (Option ℤ)) (memory : List Region)
    → StandsAtAccess run v env locals memory
    → NumberHolds (instance_values values v) (visible v env (layout_of memory)) kind size (value v t)
