-- The known value of a binder that a whole value tells is the binder's number.
use Rattle.std.specs.Prelude.{◌≡◌, ℕ, ℤ, List, length, Option, Some, None, Bool, true, false, if◌then◌else◌}
use Rattle.std.proofs.Common.{refl, sym, subst}
use Rattle.cx_base.specs.Number.{HasSize}
use Rattle.cx_base.specs.declared.memory.Region.{Region}
use Rattle.cx_term.specs.Forms.{Linear, value}
use Rattle.cx_cells.specs.Meaning.{number_at, KindHolds}
use Rattle.cx_cells.specs.Layouts.{Extent}
use Rattle.cx_cells.specs.Symbols.{told_by}
use Rattle.cx_cells.specs.declared.cell.CellKind.TheVariants.{Val}
use Rattle.cx_cells.specs.declared.telling.Told.{Told}
use Rattle.cx_member.proofs.Telling.{value-tells}
use Rattle.cx_state.specs.Run.{Run}
use Rattle.cx_state.specs.Valid.{TermBelow}
use Rattle.cx_state.specs.declared.state.Cell.{Cell}
use Rattle.cx_state.specs.declared.state.Fact.{Fact}
use Rattle.cx_state.specs.declared.state.Env.{Env}
use Rattle.cx_query.specs.Kinds.{in_type}
use Rattle.cx_query.proofs.KindLaws.{in_type-sound}
use Rattle.cx_learn.proofs.Learns.{access-meets}
use Rattle.cx_close.specs.Knowing.{known_cell, number_known}
use Rattle.cx_close.proofs.Places.{reads-as}
use Rattle.cx_opens.proofs.Cells.{Inside, IfPlaced, known_below, known_reads}

-- the form is the number z
pub record IsNumber (v : ℕ → ℤ) (n : ℕ) (t : Linear) (z : ℤ) : Type 0 where
  pub value_is : value v t ≡ z
  pub below : TermBelow n t

number_by : (run : Run) (v : ℕ → ℤ) (env : Env) (locals : List (Option ℤ)) (memory : List Region) (s i : ℕ) (f : Fact) (r : Region) (off size : ℕ) (signed : Bool) (o : Option Linear) (d : Cell) (t : Linear) (b : Bool) → in_type env size signed d.value ≡ b → (if b then Some d.value else None) ≡ Some t → known_cell env.cells s o size ≡ Some d → Inside run v env locals memory s i f r → IfPlaced v (length env.ranges) f off o → HasSize size → IsNumber v (length env.ranges) t (number_at r.bytes off size signed)
number_by run v env locals memory s i f r off size signed o d t false e q k x p h = absurd (cc)
number_by run v env locals memory s i f r off size signed o d t true e q k x p h =
    let g : d.value ≡ t = cc in
    let range = in_type-sound env v size signed d.value (access-meets run v env locals memory x.stands) e in
    let a = known_reads run v env locals memory s i f r off size o d x p k in
    subst (λ (u : Linear). IsNumber v (length env.ranges) u (number_at r.bytes off size signed)) g
    (record { value_is = sym (reads-as r.bytes off size d.signed signed (value v d.value) h range a); below = (known_below (length env.ranges) env.cells s o size d x.valid.scoped.cells k).value })

number_known-is : (run : Run) (v : ℕ → ℤ) (env : Env) (locals : List (Option ℤ)) (memory : List Region) (s i : ℕ) (f : Fact) (r : Region) (off size : ℕ) (signed : Bool) (o : Option Linear) (d : Option Cell) (t : Linear) → number_known env size signed d ≡ Some t → known_cell env.cells s o size ≡ d → Inside run v env locals memory s i f r → IfPlaced v (length env.ranges) f off o → HasSize size → IsNumber v (length env.ranges) t (number_at r.bytes off size signed)
number_known-is run v env locals memory s i f r off size signed o None t q k x p h = absurd (cc)
number_known-is run v env locals memory s i f r off size signed o (Some d) t q k x p h = number_by run v env locals memory s i f r off size signed o d t (in_type env size signed d.value) refl q k x p h

-- what is known of the cell that tells the binder as its whole value is the binder's number
pub value-told : (run : Run) (v w : ℕ → ℤ) (env : Env) (locals : List (Option ℤ)) (memory : List Region) (s i : ℕ) (f : Fact) (r : Region) (layout : List Extent) (off size : ℕ) (signed : Bool) (u : Linear) (how : Told) (k : ℕ) (o : Option Linear) (t : Linear) → told_by k (Val signed u) ≡ Some how → number_known env size signed (known_cell env.cells s o size) ≡ Some t → KindHolds w layout r.bytes off size (Val signed u) → Inside run v env locals memory s i f r → IfPlaced v (length env.ranges) f off o → HasSize size → IsNumber v (length env.ranges) t (w k)
value-told run v w env locals memory s i f r layout off size signed u how k o t e q c x p h =
    subst (λ (z : ℤ). IsNumber v (length env.ranges) t z) (value-tells w layout r.bytes off size k (Val signed u) how signed u refl e c)
    (number_known-is run v env locals memory s i f r off size signed o (known_cell env.cells s o size) t q refl x p h)
