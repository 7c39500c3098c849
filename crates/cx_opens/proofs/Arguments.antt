-- The known value of a binder that a pointer's argument tells is the binder's number.
use Rattle.std.specs.Prelude.{◌≡◌, ℕ, ℤ, pos, ◌-ℤ◌, ◌+◌, ◌*◌, ◌^◌, int_le, List, [], ◌∷◌, length, slice_get, slice_range, position, Any, Option, Some, None, Bool, true, false, not, ◌&&◌, ◌==◌, ◌⊎◌, if◌then◌else◌}
use Rattle.std.specs.Int.{int_rem_euclid}
use Rattle.std.proofs.Common.{arith, refl, sym, ap, ◌∙◌, subst, cond, inl, inr}
use Rattle.std.proofs.lemmas.Bool.Decides.{nat_tests}
use Rattle.std.proofs.lemmas.Int.{ints}
use Rattle.cx_base.specs.Bytes.{number_of}
use Rattle.cx_base.specs.Memory.{InRange, IsArgument, Valid}
use Rattle.cx_base.specs.Number.{half_of}
use Rattle.cx_base.specs.declared.memory.Region.{Region}
use Rattle.cx_term.specs.Forms.{Linear, value, value_parts}
use Rattle.cx_term.proofs.Tests.{and_left, and_right}
use Rattle.cx_entail.specs.Ranges.{Has}
use Rattle.cx_cells.specs.Meaning.{number_at, KindHolds}
use Rattle.cx_cells.specs.Layouts.{Extent, extent_of, layout_of, IsAt, Points}
use Rattle.cx_cells.specs.Symbols.{is_number, told_at, told_by, term_names}
use Rattle.cx_cells.specs.Values.{all_values}
use Rattle.cx_cells.specs.declared.cell.CellKind.TheVariants.{Ptr}
use Rattle.cx_cells.specs.declared.telling.Told.{Told}
use Rattle.cx_cells.specs.declared.telling.Told.TheVariants.{Argument}
use Rattle.cx_member.proofs.Telling.{TellsArgument, pointer-tells}
use Rattle.cx_state.specs.Known.{fact_at}
use Rattle.cx_state.specs.Run.{Run}
use Rattle.cx_state.specs.Stands.{is_block, visible, StandsAtAccess}
use Rattle.cx_state.specs.Valid.{TermBelow, FactBelow}
use Rattle.cx_state.specs.declared.state.Cell.{Cell}
use Rattle.cx_state.specs.declared.state.Fact.{Fact}
use Rattle.cx_state.specs.declared.state.Env.{Env}
use Rattle.cx_state.specs.declared.state.Pointed.{Pointed}
use Rattle.cx_query.specs.Pointing.{point_of, not_fresh}
use Rattle.cx_query.specs.Shown.{shown_equal}
use Rattle.cx_query.proofs.Comes.{Meets, some-comes, equal-sound}
use Rattle.cx_query.proofs.KindLaws.{name_true}
use Rattle.cx_query.proofs.PointLaws.{Knows, PointsWell, points_well}
use Rattle.cx_fact.proofs.Regions.{any-filter, any-map, not_false}
use Rattle.cx_apart.proofs.Places.{get_map, all_get, region_all, bases_differ}
use Rattle.cx_apart.proofs.Stores.{any_get, equal_or_not}
use Rattle.cx_close.specs.Knowing.{known_cell, argument_of, argument_at, argument_known}
use Rattle.cx_open.specs.Naming.{argument_range}
use Rattle.cx_opens.proofs.Carried.{fact-below}
use Rattle.cx_opens.proofs.Names.{has-between}
use Rattle.cx_opens.proofs.Facts.{eight}
use Rattle.cx_opens.proofs.Cells.{Inside, IfPlaced, known_reads}
use Rattle.cx_opens.proofs.Binders.{IsNumber}

-- ---- the number of an address with the other sign
signs_by : (b : Bool) (low m : ℤ) → (cond b (low -ℤ m) low ≡ low) ⊎ (cond b (low -ℤ m) low ≡ low -ℤ m)
signs_by true low m = inr refl
signs_by false low m = inl refl

both_signs : (bytes : List ℕ) (off : ℕ) (signed : Bool) → (number_at bytes off 8 signed ≡ number_at bytes off 8 false) ⊎ (number_at bytes off 8 signed ≡ number_at bytes off 8 false -ℤ pos (2 * half_of 8))
both_signs bytes off signed =
    let low = int_rem_euclid (pos (number_of (slice_range bytes off (off + 8)))) (pos (2 * half_of 8)) in
    signs_by (signed && int_le (pos (half_of 8)) low) low (pos (2 * half_of 8))

-- ---- a region of the memory that is seen
record Seen (memory : List Region) (P : Extent → Type 0) : Type 0 where
  k : ℕ
  r : Region
  there : slice_get memory k ≡ Some r
  has : P (extent_of r)

seen : (v : ℕ → ℤ) (env : Env) (memory : List Region) (P : Extent → Type 0) → Any P (visible v env (layout_of memory)) → Seen memory P
seen v env memory P a =
    let Q : Extent → Type 0 = λ e. (not (is_block v env e.base) ≡ true) × P e in
    let b = any-map Q extent_of memory (any-filter P (λ e. not (is_block v env e.base)) (layout_of memory) a) in
    record { k = b.0; r = b.1; there = any_get (λ r. Q (extent_of r)) memory b; has = b.4.1 }

-- regions with one base are one
pub same_region : (memory : List Region) (j k : ℕ) (r s : Region) → Valid memory → slice_get memory j ≡ Some r → slice_get memory k ≡ Some s → r.base ≡ s.base → r ≡ s
same_region memory j k r s V e g q =
    equal_or_not j k (r ≡ s)
    (λ i. let w : Some r ≡ Some s = sym e ∙ ap (slice_get memory) i ∙ g in cc)
    (λ n. absurd (bases_differ memory j k r s V e g n q))

base_by : (r s : Region) (x y : ℤ) → InRange r → InRange s → pos r.base ≡ x → pos s.base ≡ y → (y ≡ x) ⊎ (y ≡ x -ℤ pos (2 ^ 64)) → r.base ≡ s.base
base_by r s x y i j e g (inl q) = omega (arith, ints, e, g, q)
base_by r s x y i j e g (inr q) = absurd (omega (arith, ints, e, g, q, i.high))

-- the arguments of the regions that two addresses are the bases of, where these are equal but for a turn of the addresses
same_args : (run : Run) (v : ℕ → ℤ) (env : Env) (locals : List (Option ℤ)) (memory : List Region) (name : ℕ) (as_ bs : List ℤ) (x y : ℤ) → StandsAtAccess run v env locals memory → Any (IsAt name as_ x) (visible v env (layout_of memory)) → Any (IsAt name bs y) (visible v env (layout_of memory)) → (y ≡ x) ⊎ (y ≡ x -ℤ pos (2 ^ 64)) → as_ ≡ bs
same_args run v env locals memory name as_ bs x y S a b q =
    let V = S.memory_stands.valid in
    let p = seen v env memory (IsAt name as_ x) a in
    let s = seen v env memory (IsAt name bs y) b in
    let e = base_by p.r s.r x y (region_all InRange memory p.k p.r V.ranges p.there) (region_all InRange memory s.k s.r V.ranges s.there) p.has.based s.has.based q in
    let g = same_region memory p.k s.k p.r s.r V p.there s.there e in
    sym p.has.given ∙ ap (λ (r : Region). r.args) g ∙ s.has.given

-- ---- a form that is a number
no_parts : (v : ℕ → ℤ) (ps : List (ℕ × ℤ)) → (length ps == 0) ≡ true → value_parts v ps ≡ pos 0
no_parts v [] e = refl
no_parts v (p ∷ ps) e = absurd (grind (arith, nat_tests))

number_value : (v : ℕ → ℤ) (t : Linear) → is_number t ≡ true → value v t ≡ t.konst
number_value v t e = let p = no_parts v t.parts e in omega (arith, ints, p)

number_by : (n b : Bool) (x : Option Told) (w : Told) → cond (not n && b) x None ≡ Some w → b ≡ true
number_by true b x w h = absurd (cc)
number_by false true x w h = refl
number_by false false x w h = absurd (cc)

-- ---- the argument that is known
-- the form is that argument of a region of this type whose base is the address
record KnownArgument (v : ℕ → ℤ) (env : Env) (memory : List Region) (name j : ℕ) (t : Linear) (y : ℤ) : Type 0 where
  args : List ℤ
  at : slice_get args j ≡ Some (value v t)
  region : Any (IsAt name args y) (visible v env (layout_of memory))
  below : TermBelow (length env.ranges) t

points_at : (layout : List Extent) (name : ℕ) (args : List ℤ) (off z : ℤ) (null : Bool) → null ≡ false → Points layout name args off null z → Any (IsAt name args (z -ℤ off)) layout
points_at layout name args off z null e (inl p) = absurd (let y : false ≡ true = sym e ∙ p.0 in cc)
points_at layout name args off z null e (inr a) = a

argument_by : (run : Run) (v : ℕ → ℤ) (env : Env) (locals : List (Option ℤ)) (memory : List Region) (d : Linear) (name : ℕ) (to : Linear) (j : ℕ) (t : Linear) (p : Pointed) (g : Fact) (b : Bool) → (not p.null && ((g.name == name) && shown_equal env (Some p.off) (Some to))) ≡ b → (if b then slice_get g.args j else None) ≡ Some t → Points (visible v env (layout_of memory)) g.name (all_values v g.args) (value v p.off) p.null (value v d) → FactBelow (length env.ranges) g → is_number to ≡ true → StandsAtAccess run v env locals memory → KnownArgument v env memory name j t (value v d -ℤ to.konst)
argument_by run v env locals memory d name to j t p g false e q h b n S = absurd (cc)
argument_by run v env locals memory d name to j t p g true e q h b n S =
    let rest = (g.name == name) && shown_equal env (Some p.off) (Some to) in
    let null = not_false p.null (and_left (not p.null) rest e) in
    let r = and_right (not p.null) rest e in
    let named : g.name ≡ name = name_true g.name name (and_left (g.name == name) (shown_equal env (Some p.off) (Some to)) r) in
    let m : Meets env v = record { ranges = S.ranges; conds = S.conds } in
    let off : value v p.off ≡ value v to = equal-sound env v (Some p.off) (Some to) (value v p.off) (value v to) m (some-comes v p.off) (some-comes v to) (and_right (g.name == name) (shown_equal env (Some p.off) (Some to)) r) in
    let a = points_at (visible v env (layout_of memory)) g.name (all_values v g.args) (value v p.off) (value v d) p.null null h in
    let k : value v d -ℤ value v p.off ≡ value v d -ℤ to.konst = ap (λ (x : ℤ). value v d -ℤ x) (off ∙ number_value v to n) in
    record {
      args = all_values v g.args;
      at = get_map (value v) g.args j t q;
      region = subst (λ (x : ℤ). Any (IsAt name (all_values v g.args) x) (visible v env (layout_of memory))) k (subst (λ (m : ℕ). Any (IsAt m (all_values v g.args) (value v d -ℤ value v p.off)) (visible v env (layout_of memory))) named a);
      below = all_get (TermBelow (length env.ranges)) g.args j t b.args q;
    }

pointed_by : (run : Run) (v : ℕ → ℤ) (env : Env) (locals : List (Option ℤ)) (memory : List Region) (d : Linear) (name : ℕ) (to : Linear) (j : ℕ) (t : Linear) (o : Option Pointed) → PointsWell (not_fresh None env) d o → argument_at env name to j o ≡ Some t → ((s : ℕ) (g : Fact) → fact_at env.facts s ≡ Some g → FactBelow (length env.ranges) g) → is_number to ≡ true → StandsAtAccess run v env locals memory → KnownArgument v env memory name j t (value v d -ℤ to.konst)
pointed_by run v env locals memory d name to j t None h q b n S = absurd (cc)
pointed_by run v env locals memory d name to j t (Some p) h q b n S =
    let g = h.0 in
    let e : fact_at env.facts p.sym ≡ Some g = h.1 in
    let x : argument_of env name to j p (Some g) ≡ Some t = subst (λ (o : Option Fact). argument_of env name to j p o ≡ Some t) e q in
    let K : Knows (not_fresh None env) v (visible v env (layout_of memory)) = record { meets = record { ranges = S.ranges; conds = S.conds }; facts = S.facts } in
    argument_by run v env locals memory d name to j t p g (not p.null && ((g.name == name) && shown_equal env (Some p.off) (Some to))) refl x (h.2 v (visible v env (layout_of memory)) K) (b p.sym g e) n S

-- what the address says with either sign
turn_of : (a b x k : ℤ) → x ≡ a → (a ≡ b) ⊎ (a ≡ b -ℤ pos (2 * half_of 8)) → (x -ℤ k ≡ b -ℤ k) ⊎ (x -ℤ k ≡ (b -ℤ k) -ℤ pos (2 ^ 64))
turn_of a b x k e (inl q) = inl (omega (arith, ints, e, q))
turn_of a b x k e (inr q) = inr (omega (arith, ints, e, q, eight))

number_is : (run : Run) (v w : ℕ → ℤ) (env : Env) (locals : List (Option ℤ)) (memory : List Region) (name j k : ℕ) (t : Linear) (x y : ℤ) → TellsArgument w (visible v env (layout_of memory)) k name x (Argument j) → KnownArgument v env memory name j t y → (y ≡ x) ⊎ (y ≡ x -ℤ pos (2 ^ 64)) → StandsAtAccess run v env locals memory → IsNumber v (length env.ranges) t (w k)
number_is run v w env locals memory name j k t x y T K q S =
    let e = same_args run v env locals memory name T.args K.args x y S T.region K.region q in
    let i : j ≡ T.i = let z = T.is in cc in
    let g : Some (value v t) ≡ Some (w k) = sym K.at ∙ ap (λ (xs : List ℤ). slice_get xs j) (sym e) ∙ ap (slice_get T.args) i ∙ T.value in
    record { value_is = (let z = g in cc); below = K.below }

-- what is known of the address that tells the binder by an argument of its region is the binder's number
pub argument-told : (run : Run) (v w : ℕ → ℤ) (env : Env) (locals : List (Option ℤ)) (memory : List Region) (s i : ℕ) (f : Fact) (r : Region) (off : ℕ) (name : ℕ) (args : List Linear) (to : Linear) (null : Bool) (j k : ℕ) (o : Option Linear) (d : Option Cell) (t : Linear) → told_by k (Ptr name args to null) ≡ Some (Argument j) → known_cell env.cells s o 8 ≡ d → argument_known None env name to j d ≡ Some t → KindHolds w (visible v env (layout_of memory)) r.bytes off 8 (Ptr name args to null) → Inside run v env locals memory s i f r → IfPlaced v (length env.ranges) f off o → IsNumber v (length env.ranges) t (w k)
argument-told run v w env locals memory s i f r off name args to null j k o None t e g q c x p = absurd (cc)
argument-told run v w env locals memory s i f r off name args to null j k o (Some d) t e g q c x p =
    let z = number_at r.bytes off 8 false in
    let T = pointer-tells w (visible v env (layout_of memory)) r.bytes off 8 k (Ptr name args to null) (Argument j) name args to null refl e c in
    let n = number_by null (is_number to) (told_at k args (position (term_names k) args)) (Argument j) e in
    let K = pointed_by run v env locals memory d.value name to j t (point_of (not_fresh None env) d.value) (points_well (not_fresh None env) d.value) q (λ s g h. fact-below env s g x.valid.scoped h) n x.stands in
    let h = known_reads run v env locals memory s i f r off 8 o d x p g in
    number_is run v w env locals memory name j k t (z -ℤ to.konst) (value v d.value -ℤ to.konst) T K (turn_of (number_at r.bytes off 8 d.signed) z (value v d.value) to.konst (sym h) (both_signs r.bytes off d.signed)) x.stands

-- the number that a region's argument tells is one that an argument may be
pub argument-has : (run : Run) (v w : ℕ → ℤ) (env : Env) (locals : List (Option ℤ)) (memory : List Region) (bytes : List ℕ) (off name : ℕ) (args : List Linear) (to : Linear) (null : Bool) (how : Told) (k : ℕ) → told_by k (Ptr name args to null) ≡ Some how → KindHolds w (visible v env (layout_of memory)) bytes off 8 (Ptr name args to null) → StandsAtAccess run v env locals memory → Has argument_range (w k)
argument-has run v w env locals memory bytes off name args to null how k e c S =
    let x = number_at bytes off 8 false -ℤ to.konst in
    let T = pointer-tells w (visible v env (layout_of memory)) bytes off 8 k (Ptr name args to null) how name args to null refl e c in
    let s = seen v env memory (IsAt name T.args x) T.region in
    let r = region_all InRange memory s.k s.r S.memory_stands.valid.ranges s.there in
    let a = all_get IsArgument s.r.args T.i (w k) r.args (ap (λ (xs : List ℤ). slice_get xs T.i) s.has.given ∙ T.value) in
    has-between _ _ (w k) (omega (arith, ints, a.low)) (omega (arith, ints, a.high))
