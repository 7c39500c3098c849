-- Each fact that rules keep has at most one proof.
use Rattle.std.specs.Prelude.{ℕ, List}
use Rattle.std.proofs.Props.{props}
use Rattle.cx_term.specs.declared.term.Ineq.{Ineq}
use Rattle.cx_term.specs.declared.term.Ineq.TheVariants.{Ge, Ne}
use Rattle.cx_cells.specs.declared.calls.AllocArg.{AllocArg}
use Rattle.cx_cells.specs.declared.calls.AllocArg.TheVariants.{Number, Param, Over}
use Rattle.cx_cells.specs.declared.calls.AllocType.{AllocType}
use Rattle.cx_cells.specs.declared.calls.FnType.{FnType}
use Rattle.cx_cells.specs.declared.calls.GlobalType.{GlobalType}
use Rattle.cx_cells.specs.declared.cell.CellKind.{CellKind}
use Rattle.cx_cells.specs.declared.cell.CellKind.TheVariants.{Any, Val, Ptr}
use Rattle.cx_cells.specs.declared.form.Form.{Form}
use Rattle.cx_cells.specs.Kept.{CondIn, KindIn, HasKindSize, AllocArgKept, Kept}

CondIn-prop : (known first past : ℕ) (c : Ineq) → IsProp (CondIn known first past c)
CondIn-prop known first past (Ge t) = hlevel props
CondIn-prop known first past (Ne t) = hlevel props

KindIn-prop : (forms : List Form) (known first past : ℕ) (k : CellKind) → IsProp (KindIn forms known first past k)
KindIn-prop forms known first past Any = hlevel props
KindIn-prop forms known first past (Val signed u) = hlevel props
KindIn-prop forms known first past (Ptr name args off null) = hlevel props

HasKindSize-prop : (size : ℕ) (k : CellKind) → IsProp (HasKindSize size k)
HasKindSize-prop size Any = hlevel props
HasKindSize-prop size (Val signed u) = hlevel props
HasKindSize-prop size (Ptr name args off null) = hlevel props

AllocArgKept-prop : (n : ℕ) (a : AllocArg) → IsProp (AllocArgKept n a)
AllocArgKept-prop n (Number z) = hlevel props
AllocArgKept-prop n (Param p) = hlevel props
AllocArgKept-prop n (Over p d) = hlevel props

pub Kept-prop :
    (names : List (List ℕ)) (forms : List Form) (fns : List FnType) (allocs : List AllocType) (globals : List GlobalType) → IsProp (Kept names forms fns allocs globals)
Kept-prop names forms fns allocs globals = hlevel (props, CondIn-prop, KindIn-prop, HasKindSize-prop, AllocArgKept-prop)
