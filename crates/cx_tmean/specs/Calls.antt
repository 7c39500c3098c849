-- When the arguments of a call meet the function's type of a type file, and when what it gives meets it.
use Rattle.std.specs.Prelude.{◌≡◌, ℕ, ℤ, List, [], ◌∷◌, map, length, IsSomeAnd, true, false, Option, Some, None, option_map}
use Rattle.std.specs.List.{AllByRecursion}
use Rattle.cx_base.specs.Number.{InRange}
use Rattle.cx_base.specs.declared.memory.Region.{Region}
use Rattle.cx_ctree.specs.Types as c
use Rattle.cx_ctree.specs.Decls.{SignatureTree}
use Rattle.cx_cells.specs.Layouts.{Extends, layout_of}
use Rattle.cx_tsyn.specs.Cells.{SCellTree, SCellKindTree, any, any_bytes, val, unsigned, signed, ptr}
use Rattle.cx_tsyn.specs.Items.{FuncItemTree, SResultTree, SurfaceTree}
use Rattle.cx_tmeasure.specs.Known.{Known, size_in, function_of}
use Rattle.cx_tmean.specs.Values.{no_values, with_values, lin_value, lin_values, offset_value, RelationHolds}
use Rattle.cx_tmean.specs.Types.{Beside, sign_of, PointsTo}
use Rattle.cx_tmean.specs.Memories.{beside, Typed}

-- ---- numbers that are passed and returned

-- z is a number of the C type
abbrev pub InType : Beside → c.TypeTree → ℤ → Type 0
InType b t z = IsSomeAnd (size_in b.known (Some t)) (λ size. InRange size (sign_of t) z)

-- of the size and sign that are written
abbrev pub InKind : SCellKindTree → ℤ → Type 0
InKind any z = ⊥
InKind (any_bytes n) z = InRange n false z
InKind (val e) z = ⊥
InKind (unsigned n e) z = InRange n false z
InKind (signed n e) z = InRange n true z
InKind (ptr w args off null) z = InRange 8 false z

-- z is a number of the C type, or where the C file does not declare the function one of the size and sign that are written
abbrev pub IsOfType : Beside → Option c.TypeTree → SCellKindTree → ℤ → Type 0
IsOfType b None kind z = InKind kind z
IsOfType b (Some t) kind z = InType b t z

-- z is the number, or the address, that the cell tells
abbrev pub IsTold : Beside → (List ℕ → ℤ) → SCellKindTree → ℤ → Type 0
IsTold b v any z = Unit {0}
IsTold b v (any_bytes n) z = Unit {0}
IsTold b v (val e) z = z ≡ lin_value v e
IsTold b v (unsigned n e) z = z ≡ lin_value v e
IsTold b v (signed n e) z = z ≡ lin_value v e
IsTold b v (ptr w args off null) z = PointsTo b w (lin_values v args) (offset_value v off) null z

-- z, as a number of the C type, holds the cell
abbrev pub ValueHolds : Beside → (List ℕ → ℤ) → Option c.TypeTree → SCellTree → ℤ → Type 0
ValueHolds b v m x z = IsOfType b m x.kind z × IsTold b v x.kind z

-- ---- functions

-- the C types of the parameters that are left, none where the C file does not declare the function
abbrev pub first_type : Option (List c.TypeTree) → Option c.TypeTree
first_type None = None
first_type (Some []) = None
first_type (Some (t ∷ ts)) = Some t

abbrev pub types_behind : Option (List c.TypeTree) → Option (List c.TypeTree)
types_behind None = None
types_behind (Some []) = Some []
types_behind (Some (t ∷ ts)) = Some ts

abbrev pub parameter_types : Option SignatureTree → Option (List c.TypeTree)
parameter_types s = option_map (λ s. map (λ p. p.ctype) s.params) s

abbrev pub result_type : Option SignatureTree → Option c.TypeTree
result_type s = option_map (λ s. s.result) s

-- there are as many numbers as cells, and each holds the cell at its place
abbrev pub ValuesHold : Beside → (List ℕ → ℤ) → Option (List c.TypeTree) → List SCellTree → List ℤ → Type 0
ValuesHold b v ts [] [] = Unit {0}
ValuesHold b v ts [] (z ∷ zs) = ⊥
ValuesHold b v ts (x ∷ xs) [] = ⊥
ValuesHold b v ts (x ∷ xs) (z ∷ zs) = ValueHolds b v (first_type ts) x z × ValuesHold b v (types_behind ts) xs zs

-- where the function's names stand for these numbers its arguments hold their cells, and its conditions are true
pub record ArgsMeet (b : Beside) (f : FuncItemTree) (zs args : List ℤ) : Type 0 where
  pub count : length zs ≡ length f.binders
  pub each : ValuesHold b (with_values f.binders zs no_values) (parameter_types (function_of b.known f.name)) f.args args
  pub conds : AllByRecursion (RelationHolds (with_values f.binders zs no_values)) f.conds

-- for some numbers for which the result's own names stand, z holds its cell and its conditions are true
pub record ValueMeets (b : Beside) (v : List ℕ → ℤ) (m : Option c.TypeTree) (r : SResultTree) (z : ℤ) : Type 0 where
  pub zs : List ℤ
  pub count : length zs ≡ length r.binders
  pub value : ValueHolds b (with_values r.binders zs v) m r.cell z
  pub conds : AllByRecursion (RelationHolds (with_values r.binders zs v)) r.conds

-- a void function gives nothing
abbrev pub ResultMeets : Beside → (List ℕ → ℤ) → Option c.TypeTree → Option SResultTree → Option ℤ → Type 0
ResultMeets b v m None None = Unit {0}
ResultMeets b v m None (Some z) = ⊥
ResultMeets b v m (Some r) None = ⊥
ResultMeets b v m (Some r) (Some z) = ValueMeets b v m r z

-- what a call with these arguments gives: memory is extended and typed again, and for all numbers for which the function's names
-- may stand, the result meets its type in the new layout
pub record Answers (k : Known) (s : SurfaceTree) (f : FuncItemTree) (args : List ℤ) (before : List Region) (given : Option ℤ) (after : List Region) : Type 0 where
  pub extends : Extends before after
  pub typed : Typed k s after
  pub nothing : f.result ≡ None → given ≡ None
  pub result :
      (zs : List ℤ) → ArgsMeet (beside k s (layout_of before)) f zs args
      → ResultMeets (beside k s (layout_of after)) (with_values f.binders zs no_values) (result_type (function_of k f.name)) f.result given
