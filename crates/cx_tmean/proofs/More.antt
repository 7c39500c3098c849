-- What holds in a layout holds in each one that has more regions behind.
use Rattle.std.specs.Prelude.{◌≡◌, ℕ, zero, suc, ℤ, ◌-ℤ◌, ◌<◌, Bool, List, [], ◌∷◌, ◌++◌, length, position, slice_index_or, Any, IsSomeAnd, Option, Some, None}
use Rattle.std.specs.List.{AllByRecursion}
use Rattle.std.specs.Str.{bytes_eq}
use Rattle.std.proofs.Common.{arith, refl, sym, subst, inl, inr}
use Rattle.cx_base.specs.declared.memory.Region.{Region}
use Rattle.cx_ctree.specs.Types as c
use Rattle.cx_ctree.specs.Layouts.{FieldTree}
use Rattle.cx_cells.specs.Layouts.{Extent, Extends, IsAt, Points, layout_of}
use Rattle.cx_tsyn.specs.Words.{WordTree}
use Rattle.cx_tsyn.specs.Lins.{LinTree}
use Rattle.cx_tsyn.specs.Cells.{SCellTree, SCellKindTree, any, any_bytes, val, unsigned, signed, ptr}
use Rattle.cx_tsyn.specs.Types.{STypeTree, stype, AtomTree, cell, paren, tagged, product, cases, STypeTrees, no_type, also_type, SFieldTrees, no_field, also_field, SBranchTrees, no_branch, also_branch}
use Rattle.cx_tsyn.specs.Items.{RegionItemTree, FuncItemTree, SurfaceTree}
use Rattle.cx_tmeasure.specs.Known.{Known}
use Rattle.cx_tmean.specs.Values.{no_values, with_values, lin_values, offset_value}
use Rattle.cx_tmean.specs.Types.{Beside, PointsTo, KindHolds, field_named, bytes_of, InRow, TypeHolds, AtomHolds, FieldsHold, OneBehindTheOther, SomeBranchHolds}
use Rattle.cx_tmean.specs.Memories.{beside, RegionHolds}
use Rattle.cx_tmean.specs.Calls.{IsTold, ValuesHold, types_behind, ArgsMeet}

-- ---- lists

any_shift : {X : Type 0} (P : X → Type 0) (y : X) (xs : List X) → Any P xs → Any P (y ∷ xs)
any_shift P y xs h = (suc h.0, h.1, omega (arith, h.2), h.3, h.4)

any_first : {X : Type 0} (P : X → Type 0) (x : X) (xs : List X) → P x → Any P (x ∷ xs)
any_first P x xs h = (0, x, omega arith, refl, h)

any_by : {X : Type 0} (P : X → Type 0) (R : Type 0) (x : X) (xs : List X) (k : ℕ) (y : X) → k < length (x ∷ xs) → slice_index_or (x ∷ xs) k y ≡ y → P y → (P x → R) → (Any P xs → R) → R
any_by P R x xs zero y l e h f g = f (subst P (sym e) h)
any_by P R x xs (suc k) y l e h f g = g (k, y, omega (arith, l), e, h)

any_front : {X : Type 0} (P : X → Type 0) (xs ys : List X) → Any P xs → Any P (xs ++ ys)
any_front P [] ys h = absurd (omega (arith, h.2))
any_front P (x ∷ xs) ys h =
    any_by P (Any P (x ∷ xs ++ ys)) x xs h.0 h.1 h.2 h.3 h.4 (λ p. any_first P x (xs ++ ys) p) (λ a. any_shift P x (xs ++ ys) (any_front P xs ys a))

all_to : {X : Type 0} (P Q : X → Type 0) → ((x : X) → P x → Q x) → (xs : List X) → AllByRecursion P xs → AllByRecursion Q xs
all_to P Q f [] h = tt
all_to P Q f (x ∷ xs) h = (f x h.0, all_to P Q f xs h.1)

some_to : {X : Type 0} (P Q : X → Type 0) → ((x : X) → P x → Q x) → (o : Option X) → IsSomeAnd o P → IsSomeAnd o Q
some_to P Q f None h = h
some_to P Q f (Some x) h = f x h

-- ---- cells

points_more : (layout more : List Extent) (name : ℕ) (args : List ℤ) (off : ℤ) (null : Bool) (z : ℤ) → Points layout name args off null z → Points (layout ++ more) name args off null z
points_more layout more name args off null z (inl h) = inl h
points_more layout more name args off null z (inr h) = inr (any_front (IsAt name args (z -ℤ off)) layout more h)

-- with more regions behind
abbrev pub with_more : Beside → List Extent → Beside
with_more b more = record { known = b.known; names = b.names; layout = b.layout ++ more }

points_to_more : (b : Beside) (more : List Extent) (w : WordTree) (args : List ℤ) (off : ℤ) (null : Bool) (z : ℤ) → PointsTo b w args off null z → PointsTo (with_more b more) w args off null z
points_to_more b more w args off null z h =
    some_to (λ r. Points b.layout r args off null z) (λ r. Points (b.layout ++ more) r args off null z) (λ r p. points_more b.layout more r args off null z p) (position (bytes_eq w.text) b.names) h

kind_more : (b : Beside) (more : List Extent) (v : List ℕ → ℤ) (m : Option c.TypeTree) (bytes : List ℕ) (k : SCellKindTree) → KindHolds b v m bytes k → KindHolds (with_more b more) v m bytes k
kind_more b more v m bytes any h = h
kind_more b more v m bytes (any_bytes n) h = h
kind_more b more v m bytes (val e) h = h
kind_more b more v m bytes (unsigned n e) h = h
kind_more b more v m bytes (signed n e) h = h
kind_more b more v m bytes (ptr w args off null) h = (h.0, points_to_more b more w (lin_values v args) (offset_value v off) null _ h.1)

-- ---- types

row_more : (v : List ℕ → ℤ) (times : Option LinTree) (m : Option c.TypeTree) (P Q : Option c.TypeTree → List ℕ → Type 0) → ((m : Option c.TypeTree) (bytes : List ℕ) → P m bytes → Q m bytes) → (bytes : List ℕ) → InRow v times m P bytes → InRow v times m Q bytes
row_more v None m P Q f bytes h = f m bytes h
row_more v (Some l) m P Q f bytes h = (h.0, h.1, h.2, all_to (P None) (Q None) (f None) h.0 h.3)

mutual
  pub type_more : (b : Beside) (more : List Extent) (t : STypeTree) (v : List ℕ → ℤ) (m : Option c.TypeTree) (bytes : List ℕ) → TypeHolds b v m bytes t → TypeHolds (with_more b more) v m bytes t
  type_more b more (stype s ws a n cs) v m bytes h = (
    h.0,
    h.1,
    row_more (with_values ws h.0 v) n m (λ m bytes. AtomHolds b (with_values ws h.0 v) m bytes a) (λ m bytes. AtomHolds (with_more b more) (with_values ws h.0 v) m bytes a) (λ m bytes p. atom_more b more a (with_values ws h.0 v) m bytes p) bytes h.2,
    h.3,
  )

  atom_more : (b : Beside) (more : List Extent) (a : AtomTree) (v : List ℕ → ℤ) (m : Option c.TypeTree) (bytes : List ℕ) → AtomHolds b v m bytes a → AtomHolds (with_more b more) v m bytes a
  atom_more b more (cell x) v m bytes h = kind_more b more v m bytes x.kind h
  atom_more b more (paren t) v m bytes h = type_more b more t v m bytes h
  atom_more b more (tagged u tag fs) v m bytes h = (h.0, fields_more b more fs v u tag bytes h.1)
  atom_more b more (product ts a) v m bytes h = types_more b more ts v bytes h
  atom_more b more (cases bs) v m bytes h = branches_more b more bs v m bytes h

  fields_more : (b : Beside) (more : List Extent) (fs : SFieldTrees) (v : List ℕ → ℤ) (u : Bool) (tag : WordTree) (bytes : List ℕ) → FieldsHold b v u tag bytes fs → FieldsHold (with_more b more) v u tag bytes fs
  fields_more b more no_field v u tag bytes h = tt
  fields_more b more (also_field f t fs) v u tag bytes h = (
    some_to (λ (m : FieldTree). TypeHolds b v (Some m.ctype) (bytes_of b.known m bytes) t) (λ m. TypeHolds (with_more b more) v (Some m.ctype) (bytes_of b.known m bytes) t) (λ m p. type_more b more t v (Some m.ctype) (bytes_of b.known m bytes) p) (field_named b.known u tag f) h.0,
    fields_more b more fs v u tag bytes h.1,
  )

  types_more : (b : Beside) (more : List Extent) (ts : STypeTrees) (v : List ℕ → ℤ) (bytes : List ℕ) → OneBehindTheOther b v bytes ts → OneBehindTheOther (with_more b more) v bytes ts
  types_more b more no_type v bytes h = h
  types_more b more (also_type t ts) v bytes h = (h.0, h.1, h.2, type_more b more t v None h.0 h.3, types_more b more ts v h.1 h.4)

  branches_more : (b : Beside) (more : List Extent) (bs : SBranchTrees) (v : List ℕ → ℤ) (m : Option c.TypeTree) (bytes : List ℕ) → SomeBranchHolds b v m bytes bs → SomeBranchHolds (with_more b more) v m bytes bs
  branches_more b more no_branch v m bytes h = h
  branches_more b more (also_branch g t bs) v m bytes (inl h) = inl (h.0, type_more b more t v m bytes h.1)
  branches_more b more (also_branch g t bs) v m bytes (inr h) = inr (branches_more b more bs v m bytes h)

-- ---- regions and arguments

in_more : (k : Known) (s : SurfaceTree) (P : Beside → Type 0) (before after : List Region) (x : Extends before after) → P (with_more (beside k s (layout_of before)) x.more) → P (beside k s (layout_of after))
in_more k s P before after x h = subst (λ layout. P (beside k s layout)) (sym x.same) h

pub region_stays : (k : Known) (s : SurfaceTree) (before after : List Region) → Extends before after → (r : RegionItemTree) (args : List ℤ) (bytes : List ℕ) → RegionHolds (beside k s (layout_of before)) r args bytes → RegionHolds (beside k s (layout_of after)) r args bytes
region_stays k s before after x r args bytes h =
    in_more k s (λ b. RegionHolds b r args bytes) before after x
    (record { given = h.given; body = type_more (beside k s (layout_of before)) x.more r.body (with_values r.params args no_values) None bytes h.body })

told_more : (b : Beside) (more : List Extent) (v : List ℕ → ℤ) (k : SCellKindTree) (z : ℤ) → IsTold b v k z → IsTold (with_more b more) v k z
told_more b more v any z h = h
told_more b more v (any_bytes n) z h = h
told_more b more v (val e) z h = h
told_more b more v (unsigned n e) z h = h
told_more b more v (signed n e) z h = h
told_more b more v (ptr w args off null) z h = points_to_more b more w (lin_values v args) (offset_value v off) null z h

values_more : (b : Beside) (more : List Extent) (v : List ℕ → ℤ) (ts : Option (List c.TypeTree)) (xs : List SCellTree) (zs : List ℤ) → ValuesHold b v ts xs zs → ValuesHold (with_more b more) v ts xs zs
values_more b more v ts [] [] h = tt
values_more b more v ts [] (z ∷ zs) h = h
values_more b more v ts (x ∷ xs) [] h = h
values_more b more v ts (x ∷ xs) (z ∷ zs) h = ((h.0.0, told_more b more v x.kind z h.0.1), values_more b more v (types_behind ts) xs zs h.1)

pub arguments_stay : (k : Known) (s : SurfaceTree) (before after : List Region) → Extends before after → (f : FuncItemTree) (zs args : List ℤ) → ArgsMeet (beside k s (layout_of before)) f zs args → ArgsMeet (beside k s (layout_of after)) f zs args
arguments_stay k s before after x f zs args h =
    in_more k s (λ b. ArgsMeet b f zs args) before after x
    (record { count = h.count; each = values_more (beside k s (layout_of before)) x.more (with_values f.binders zs no_values) _ f.args args h.each; conds = h.conds })
