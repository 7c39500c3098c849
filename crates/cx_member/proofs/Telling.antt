-- What a cell that holds tells of a symbol's value.
use Rattle.std.specs.Prelude.{zero, suc, ◌≡◌, ◌↔◌, IsTrue, ℕ, ℤ, pos, ◌*ℤ◌, ◌+ℤ◌, ◌-ℤ◌, List, [], ◌∷◌, length, Any, slice_get, Bool, true, false, not, ◌&&◌, ◌==◌, Option, Some, None, position, option_map}
use Rattle.std.specs.List.{AllByRecursion}
use Rattle.std.proofs.Common.{arith, refl, sym, ap, ◌∙◌, subst, cond, eqb, inl, inr}
use Rattle.std.proofs.lemmas.Int.{ints}
use Rattle.std.proofs.lemmas.Bool.Decides.{nat_tests}
use Rattle.std.proofs.lemmas.List.Elements.{All-from_recursion}
use Rattle.std.proofs.lemmas.Option.{slice_get-map, get_or_from_slice_get, slice_get_within, some_pair_parts, same_Some}
use Rattle.cx_base.specs.Number.{InRange}
use Rattle.cx_base.specs.declared.memory.Region.{Region}
use Rattle.cx_term.specs.Forms.{Linear, value, value_parts}
use Rattle.cx_term.specs.Sums.{is_zero}
use Rattle.cx_term.specs.Replaced.{coefficient}
use Rattle.cx_term.proofs.Tests.{and_left, and_right}
use Rattle.cx_term.proofs.Values.{is_zero-true}
use Rattle.cx_cells.specs.Calls.{ValueHolds, ValuesHold}
use Rattle.cx_cells.specs.Layouts.{Extent, IsAt, Points, layout_of}
use Rattle.cx_cells.specs.Meaning.{number_at, KindHolds, CellHolds}
use Rattle.cx_cells.specs.Symbols.{term_names, kind_names, is_symbol, is_number, told_argument, told_at, told_by, placed, kind_of, telling_in, telling_at, telling_kind, telling_cell, telling_cell_at}
use Rattle.cx_cells.specs.Values.{all_values}
use Rattle.cx_cells.specs.declared.cell.CellKind.{CellKind}
use Rattle.cx_cells.specs.declared.cell.CellKind.TheVariants.{Val, Ptr}
use Rattle.cx_cells.specs.declared.cell.FlatCell.{FlatCell}
use Rattle.cx_cells.specs.declared.telling.Told.{Told}
use Rattle.cx_cells.specs.declared.telling.Told.TheVariants.{Value, Argument}
use Rattle.cx_member.specs.Passing.{IsToldBy, ArgsHold}
use Rattle.cx_member.specs.Reading.{CellsHold, IsTold, IsOnly, bytes_at}

-- ---- a form that is a symbol, and one that is a number

one_part : (v : ℕ → ℤ) (s : ℕ) (p : ℕ × ℤ) (t : Bool) → eqb p.0 s ≡ t → is_zero (cond t p.1 (pos 0) -ℤ pos 1) ≡ true → p.1 *ℤ v p.0 +ℤ pos 0 ≡ v s
one_part v s p true e z =
    let c : p.1 ≡ pos 1 = let y = is_zero-true (p.1 -ℤ pos 1) z in omega (arith, ints) in
    let q : p.0 ≡ s = grind (arith, nat_tests) in
    rw (c, q) (omega (arith, ints))
one_part v s p false e z = absurd (let y : false ≡ true = z in cc)

symbol_parts : (v : ℕ → ℤ) (s : ℕ) (ps : List (ℕ × ℤ)) → (length ps == 1) ≡ true → is_zero (coefficient s ps -ℤ pos 1) ≡ true → value_parts v ps ≡ v s
symbol_parts v s [] e z = absurd (let y : false ≡ true = e in cc)
symbol_parts v s (p ∷ []) e z = one_part v s p (eqb p.0 s) refl z
symbol_parts v s (p ∷ q ∷ ps) e z = absurd (grind (arith, nat_tests))

symbol_value : (v : ℕ → ℤ) (s : ℕ) (t : Linear) → is_symbol s t ≡ true → value v t ≡ v s
symbol_value v s t e =
    let k = is_zero-true t.konst (and_left (is_zero t.konst) (length t.parts == 1 && is_zero (coefficient s t.parts -ℤ pos 1)) e) in
    let r = and_right (is_zero t.konst) (length t.parts == 1 && is_zero (coefficient s t.parts -ℤ pos 1)) e in
    let p = symbol_parts v s t.parts (and_left (length t.parts == 1) (is_zero (coefficient s t.parts -ℤ pos 1)) r) (and_right (length t.parts == 1) (is_zero (coefficient s t.parts -ℤ pos 1)) r) in
    omega (arith, ints)

no_parts : (v : ℕ → ℤ) (ps : List (ℕ × ℤ)) → (length ps == 0) ≡ true → value_parts v ps ≡ pos 0
no_parts v [] e = refl
no_parts v (p ∷ ps) e = absurd (grind (arith, nat_tests))

number_value : (v : ℕ → ℤ) (t : Linear) → is_number t ≡ true → value v t ≡ t.konst
number_value v t e = let p = no_parts v t.parts e in omega (arith, ints)

-- ---- the argument that tells a symbol

pub record ToldArgument (s : ℕ) (args : List Linear) (w : Told) : Type 0 where
  pub i : ℕ
  pub t : Linear
  pub is : w ≡ Argument i
  pub at : slice_get args i ≡ Some t
  pub symbol : is_symbol s t ≡ true

argument_by : (s : ℕ) (args : List Linear) (w : Told) (i : ℕ) (t : Linear) (b : Bool) → slice_get args i ≡ Some t → is_symbol s t ≡ b → cond b (Some (Argument i)) None ≡ Some w → ToldArgument s args w
argument_by s args w i t true g e h = record { i = i; t = t; is = cc; at = g; symbol = e }
argument_by s args w i t false g e h = absurd (cc)

argument_in : (s : ℕ) (args : List Linear) (w : Told) (i : ℕ) (o : Option Linear) → slice_get args i ≡ o → told_argument s i o ≡ Some w → ToldArgument s args w
argument_in s args w i None g h = absurd (cc)
argument_in s args w i (Some t) g h = argument_by s args w i t (is_symbol s t) g refl h

argument_at : (s : ℕ) (args : List Linear) (w : Told) (p : Option ℕ) → told_at s args p ≡ Some w → ToldArgument s args w
argument_at s args w None h = absurd (cc)
argument_at s args w (Some i) h = argument_in s args w i (slice_get args i) refl h

pub record ToldPointer (s : ℕ) (args : List Linear) (off : Linear) (null : Bool) (w : Told) : Type 0 where
  pub not_null : null ≡ false
  pub number : is_number off ≡ true
  pub argument : ToldArgument s args w

pointer_by : (s : ℕ) (args : List Linear) (off : Linear) (w : Told) (n b : Bool) → is_number off ≡ b → cond (not n && b) (told_at s args (position (term_names s) args)) None ≡ Some w → ToldPointer s args off n w
pointer_by s args off w true b e h = absurd (cc)
pointer_by s args off w false false e h = absurd (cc)
pointer_by s args off w false true e h = record { not_null = refl; number = e; argument = argument_at s args w (position (term_names s) args) h }

told_pointer : (s name : ℕ) (args : List Linear) (off : Linear) (null : Bool) (w : Told) → told_by s (Ptr name args off null) ≡ Some w → ToldPointer s args off null w
told_pointer s name args off null w h = pointer_by s args off w null (is_number off) refl h

-- ---- the value that is told

value_by : (s : ℕ) (u : Linear) (w : Told) (b : Bool) → is_symbol s u ≡ b → cond b (Some Value) None ≡ Some w → is_symbol s u ≡ true
value_by s u w true e h = e
value_by s u w false e h = absurd (cc)

pub symbol-tells : (v : ℕ → ℤ) (s : ℕ) (signed : Bool) (u : Linear) (w : Told) → told_by s (Val signed u) ≡ Some w → value v u ≡ v s
symbol-tells v s signed u w h = symbol_value v s u (value_by s u w (is_symbol s u) refl h)

pub value-tells : (v : ℕ → ℤ) (layout : List Extent) (bytes : List ℕ) (off size s : ℕ) (k : CellKind) (w : Told) (signed : Bool) (u : Linear) → k ≡ Val signed u → told_by s k ≡ Some w → KindHolds v layout bytes off size k → number_at bytes off size signed ≡ v s
value-tells v layout bytes off size s k w signed u e h holds =
    let g : told_by s (Val signed u) ≡ Some w = subst (λ x. told_by s x ≡ Some w) e h in
    let y : KindHolds v layout bytes off size (Val signed u) = subst (λ x. KindHolds v layout bytes off size x) e holds in
    y ∙ symbol_value v s u (value_by s u w (is_symbol s u) refl g)

-- a region's argument whose place tells the symbol is its value
pub record TellsArgument (v : ℕ → ℤ) (layout : List Extent) (s name : ℕ) (base : ℤ) (w : Told) : Type 0 where
  pub i : ℕ
  pub args : List ℤ
  pub is : w ≡ Argument i
  pub region : Any (IsAt name args base) layout
  pub value : slice_get args i ≡ Some (v s)

points_by : (layout : List Extent) (name : ℕ) (args : List ℤ) (off z : ℤ) (null : Bool) → null ≡ false → Points layout name args off null z → Any (IsAt name args (z -ℤ off)) layout
points_by layout name args off z null e (inl p) = absurd (let y : false ≡ true = sym e ∙ p.0 in cc)
points_by layout name args off z null e (inr a) = a

-- what a pointer tells of a number that points
pub points-tell : (v : ℕ → ℤ) (layout : List Extent) (s name : ℕ) (args : List Linear) (to : Linear) (null : Bool) (z : ℤ) (w : Told) → told_by s (Ptr name args to null) ≡ Some w → Points layout name (all_values v args) (value v to) null z → TellsArgument v layout s name (z -ℤ to.konst) w
points-tell v layout s name args to null z w h y =
    let t = told_pointer s name args to null w h in
    let a = t.argument in
    record {
      i = a.i;
      args = all_values v args;
      is = a.is;
      region = subst (λ n. Any (IsAt name (all_values v args) (z -ℤ n)) layout) (number_value v to t.number) (points_by layout name (all_values v args) (value v to) z null t.not_null y);
      value = slice_get-map (value v) args a.i ∙ ap (option_map (value v)) a.at ∙ ap Some (symbol_value v s a.t a.symbol);
    }

pub pointer-tells : (v : ℕ → ℤ) (layout : List Extent) (bytes : List ℕ) (off size s : ℕ) (k : CellKind) (w : Told) (name : ℕ) (args : List Linear) (to : Linear) (null : Bool) → k ≡ Ptr name args to null → told_by s k ≡ Some w → KindHolds v layout bytes off size k → TellsArgument v layout s name (number_at bytes off size false -ℤ to.konst) w
pointer-tells v layout bytes off size s k w name args to null e h holds =
    points-tell v layout s name args to null (number_at bytes off size false) w (subst (λ x. told_by s x ≡ Some w) e h) (subst (λ x. KindHolds v layout bytes off size x) e holds)

-- a pointer holds where its number points
pub pointer_holds : (v : ℕ → ℤ) (layout : List Extent) (bytes : List ℕ) (from size : ℕ) (k : CellKind) (name : ℕ) (args : List Linear) (to : Linear) (null : Bool) (z : ℤ) (r : Bool) → k ≡ Ptr name args to null → z ≡ number_at bytes from size false → IsTrue r ↔ Points layout name (all_values v args) (value v to) null z → IsTrue r ↔ KindHolds v layout bytes from size k
pointer_holds v layout bytes from size k name args to null z r e g h =
    subst (λ x. IsTrue r ↔ KindHolds v layout bytes from size x) (sym e) (subst (λ n. IsTrue r ↔ Points layout name (all_values v args) (value v to) null n) g h)

-- ---- the cell that tells

pub record TellingCell (s : ℕ) (cells : List FlatCell) (i : ℕ) (w : Told) : Type 0 where
  pub c : FlatCell
  pub at : slice_get cells i ≡ Some c
  pub told : told_by s c.kind ≡ Some w

telling_by : (s : ℕ) (cells : List FlatCell) (i j : ℕ) (w : Told) (c : FlatCell) (t : Option Told) → slice_get cells j ≡ Some c → told_by s c.kind ≡ t → placed j t ≡ Some (i, w) → TellingCell s cells i w
telling_by s cells i j w c None g e h = absurd (cc)
telling_by s cells i j w c (Some u) g e h =
    let p : (j ≡ i) × (u ≡ w) = some_pair_parts j i u w h in
    record { c = c; at = subst (λ n. slice_get cells n ≡ Some c) p.0 g; told = e ∙ ap Some p.1 }

telling_within : (s : ℕ) (cells : List FlatCell) (i j : ℕ) (w : Told) (o : Option FlatCell) → slice_get cells j ≡ o → telling_in s j (kind_of o) ≡ Some (i, w) → TellingCell s cells i w
telling_within s cells i j w None g h = absurd (cc)
telling_within s cells i j w (Some c) g h = telling_by s cells i j w c (told_by s c.kind) g refl h

cell_telling : (s : ℕ) (cells : List FlatCell) (i : ℕ) (w : Told) (p : Option ℕ) → telling_cell_at s cells p ≡ Some (i, w) → TellingCell s cells i w
cell_telling s cells i w None h = absurd (cc)
cell_telling s cells i w (Some j) h = telling_within s cells i j w (slice_get cells j) refl h

pub telling_is : (s : ℕ) (cells : List FlatCell) (i : ℕ) (w : Told) → telling_cell s cells ≡ Some (i, w) → TellingCell s cells i w
telling_is s cells i w h = cell_telling s cells i w (position (λ c. kind_names s c.kind) cells) h

cell_of : {X : Type 0} (P : X → Type 0) (xs : List X) (i : ℕ) (x : X) → slice_get xs i ≡ Some x → AllByRecursion P xs → P x
cell_of P xs i x e h = subst P (get_or_from_slice_get xs i x x e) (All-from_recursion P xs h i x (slice_get_within xs i x e))

-- what the telling cell tells is the symbol's value, wherever all cells hold
pub told-only : (rs : List Region) (i off : ℕ) (cells : List FlatCell) (s j : ℕ) (w : Told) (c : FlatCell) (answer : Option ℤ) → telling_cell s cells ≡ Some (j, w) → slice_get cells j ≡ Some c → IsTold rs i off c w answer → IsOnly (CellsHold rs i off cells) s answer
told-only rs i off cells s j w c answer h g told v holds =
    let t = telling_is s cells j w h in
    let e : t.c ≡ c = let y : Some t.c ≡ Some c = sym t.at ∙ g in cc in
    let k : told_by s c.kind ≡ Some w = subst (λ x. told_by s x.kind ≡ Some w) e t.told in
    told v s k (cell_of (CellHolds v (layout_of rs) (bytes_at rs i) off) cells j c g holds)

-- ---- numbers that are passed

pub record TellingKind (s : ℕ) (kinds : List CellKind) (i : ℕ) (w : Told) : Type 0 where
  pub k : CellKind
  pub at : slice_get kinds i ≡ Some k
  pub told : told_by s k ≡ Some w

kind_by : (s : ℕ) (kinds : List CellKind) (i j : ℕ) (w : Told) (k : CellKind) (t : Option Told) → slice_get kinds j ≡ Some k → told_by s k ≡ t → placed j t ≡ Some (i, w) → TellingKind s kinds i w
kind_by s kinds i j w k None g e h = absurd (cc)
kind_by s kinds i j w k (Some u) g e h =
    let p : (j ≡ i) × (u ≡ w) = some_pair_parts j i u w h in
    record { k = k; at = subst (λ n. slice_get kinds n ≡ Some k) p.0 g; told = e ∙ ap Some p.1 }

kind_within : (s : ℕ) (kinds : List CellKind) (i j : ℕ) (w : Told) (o : Option CellKind) → slice_get kinds j ≡ o → telling_in s j o ≡ Some (i, w) → TellingKind s kinds i w
kind_within s kinds i j w None g h = absurd (cc)
kind_within s kinds i j w (Some k) g h = kind_by s kinds i j w k (told_by s k) g refl h

kind_telling : (s : ℕ) (kinds : List CellKind) (i : ℕ) (w : Told) (p : Option ℕ) → telling_at s kinds p ≡ Some (i, w) → TellingKind s kinds i w
kind_telling s kinds i w None h = absurd (cc)
kind_telling s kinds i w (Some j) h = kind_within s kinds i j w (slice_get kinds j) refl h

pub telling_kind_is : (s : ℕ) (kinds : List CellKind) (i : ℕ) (w : Told) → telling_kind s kinds ≡ Some (i, w) → TellingKind s kinds i w
telling_kind_is s kinds i w h = kind_telling s kinds i w (position (kind_names s) kinds) h

-- the number at the place of a kind
pub record NumberAt (v : ℕ → ℤ) (layout : List Extent) (given : List ℤ) (i : ℕ) (k : CellKind) : Type 0 where
  pub z : ℤ
  pub at : slice_get given i ≡ Some z
  pub holds : ValueHolds v layout k z

pub number_at_kind : (v : ℕ → ℤ) (layout : List Extent) (kinds : List CellKind) (given : List ℤ) (i : ℕ) (k : CellKind) → ValuesHold v layout kinds given → slice_get kinds i ≡ Some k → NumberAt v layout given i k
number_at_kind v layout [] [] i k h e = absurd (cc)
number_at_kind v layout [] (z ∷ zs) i k h e = absurd h
number_at_kind v layout (x ∷ xs) [] i k h e = absurd h
number_at_kind v layout (x ∷ xs) (z ∷ zs) zero k h e = let g : x ≡ k = same_Some x k e in record { z = z; at = refl; holds = subst (λ y. ValueHolds v layout y z) g h.0 }
number_at_kind v layout (x ∷ xs) (z ∷ zs) (suc i) k h e = let n = number_at_kind v layout xs zs i k h.1 e in record { z = n.z; at = n.at; holds = n.holds }

-- what the telling kind tells is the symbol's value, wherever all numbers hold their kinds
pub passed-only : (layout : List Extent) (kinds : List CellKind) (given : List ℤ) (s j : ℕ) (w : Told) (k : CellKind) (z : ℤ) (answer : Option ℤ) → telling_kind s kinds ≡ Some (j, w) → slice_get kinds j ≡ Some k → slice_get given j ≡ Some z → IsToldBy layout k z w answer → IsOnly (ArgsHold layout kinds given) s answer
passed-only layout kinds given s j w k z answer h g e told v holds =
    let t = telling_kind_is s kinds j w h in
    let x : t.k ≡ k = same_Some t.k k (sym t.at ∙ g) in
    let n = number_at_kind v layout kinds given j k holds g in
    let y : n.z ≡ z = same_Some n.z z (sym n.at ∙ e) in
    told v s (subst (λ q. told_by s q ≡ Some w) x t.told) (subst (λ q. ValueHolds v layout k q) y n.holds)

-- there is a number where there is a kind
pub passed-none : (layout : List Extent) (kinds : List CellKind) (given : List ℤ) (s j : ℕ) (k : CellKind) → slice_get kinds j ≡ Some k → slice_get given j ≡ None → IsOnly (ArgsHold layout kinds given) s None
passed-none layout kinds given s j k g e v holds =
    let n = number_at_kind v layout kinds given j k holds g in
    let x : Some n.z ≡ None = sym n.at ∙ e in absurd (cc)

-- a value that is passed tells its symbol
pub told-word : (v : ℕ → ℤ) (layout : List Extent) (s : ℕ) (k : CellKind) (w : Told) (signed : Bool) (u : Linear) (z : ℤ) (answer : Option ℤ) → k ≡ Val signed u → (InRange 8 signed z → answer ≡ Some z) → told_by s k ≡ Some w → ValueHolds v layout k z → answer ≡ Some (v s)
told-word v layout s k w signed u z answer e word h holds =
    let g : told_by s (Val signed u) ≡ Some w = subst (λ x. told_by s x ≡ Some w) e h in
    let y : ValueHolds v layout (Val signed u) z = subst (λ x. ValueHolds v layout x z) e holds in
    word y.0 ∙ ap Some (y.1 ∙ symbol-tells v s signed u w g)

-- a pointer that is passed tells its argument's symbol
pub told-address : (v : ℕ → ℤ) (layout : List Extent) (s : ℕ) (k : CellKind) (w : Told) (name : ℕ) (args : List Linear) (to : Linear) (null : Bool) (z : ℤ) (i : ℕ) (answer : Option ℤ) → k ≡ Ptr name args to null → w ≡ Argument i → (InRange 8 false z → (zs : List ℤ) → Any (IsAt name zs (z -ℤ to.konst)) layout → answer ≡ slice_get zs i) → told_by s k ≡ Some w → ValueHolds v layout k z → answer ≡ Some (v s)
told-address v layout s k w name args to null z i answer e a pointed h holds =
    let g : told_by s (Ptr name args to null) ≡ Some w = subst (λ x. told_by s x ≡ Some w) e h in
    let y : ValueHolds v layout (Ptr name args to null) z = subst (λ x. ValueHolds v layout x z) e holds in
    let t = points-tell v layout s name args to null z w g y.1 in
    let j : t.i ≡ i = cc (t.is, a) in
    pointed y.0 t.args t.region ∙ (rw j at t.value)

-- a pointer that is passed holds where it is an address that points
pub address_holds : (v : ℕ → ℤ) (layout : List Extent) (k : CellKind) (name : ℕ) (args : List Linear) (to : Linear) (null : Bool) (z : ℤ) (r : Bool) → k ≡ Ptr name args to null → InRange 8 false z → IsTrue r ↔ Points layout name (all_values v args) (value v to) null z → IsTrue r ↔ ValueHolds v layout k z
address_holds v layout k name args to null z r e w h =
    subst (λ x. IsTrue r ↔ ValueHolds v layout x z) (sym e) ((λ x. (w, h.0 x)), (λ y. h.1 y.1))
