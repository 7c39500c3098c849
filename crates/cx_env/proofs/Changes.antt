-- What stands before a change of others stands after it.
use Rattle.std.specs.Prelude.{◌≡◌, ℕ, zero, suc, ℤ, ◌+◌, ◌<◌, ◌≤◌, List, [], ◌∷◌, ◌++◌, length, drop, map, filter, All, Any, Option, Some, None, slice_get, slice_index_or, IsSomeAnd, Bool, true, false, not, ◌⊎◌}
use Rattle.std.specs.List.{AllByRecursion}
use Rattle.std.proofs.Common.{arith, refl, sym, ap, ◌∙◌, cond, subst, inl, inr, append_assoc}
use Rattle.cx_base.specs.declared.memory.Region.{Region}
use Rattle.cx_term.specs.Forms.{value}
use Rattle.cx_cells.specs.Values.{all_values}
use Rattle.cx_cells.specs.Layouts.{Extent, extent_of, layout_of, Points, Extends}
use Rattle.cx_cells.specs.Meaning.{FormHolds}
use Rattle.cx_cells.specs.Typing.{RegionHolds}
use Rattle.cx_cells.specs.declared.form.Form.{Form}
use Rattle.cx_state.specs.Run.{Run}
use Rattle.cx_state.specs.Stands.{is_base, region_bases, is_block, visible, IsPrivate, IsBlock, FreshStands, RegionStands, CellInRegion, IsNull, CellStands, CellIsPrivate, StandsAtAccess, Stands}
use Rattle.cx_state.specs.declared.state.Cell.{Cell}
use Rattle.cx_state.specs.declared.state.Fact.{Fact}
use Rattle.cx_state.specs.declared.state.Env.{Env}
use Rattle.cx_env.specs.Others.{ChangedByOthers, is_private_form, is_private_fact, is_private_cell, without_shared, StandsWithout, StandsAfterChanges}
use Rattle.cx_learn.proofs.Below.{to_recursion, from_recursion}
use Rattle.cx_fact.proofs.Regions.{same_fact}
use Rattle.cx_env.proofs.Layouts.{points-more, head-more, elements-more, form-more}

-- ---- items of lists by their places
get_map : {X Y : Type 0} (f : X → Y) (xs : List X) (k : ℕ) (x : X) → slice_get xs k ≡ Some x → slice_get (map f xs) k ≡ Some (f x)
get_map f [] k x e = absurd (cc)
get_map f (y ∷ ys) zero x e = let g : y ≡ x = cc in ap (λ z. Some (f z)) g
get_map f (y ∷ ys) (suc k) x e = get_map f ys k x e

get_append : {X : Type 0} (xs ys : List X) (k : ℕ) (x : X) → slice_get xs k ≡ Some x → slice_get (xs ++ ys) k ≡ Some x
get_append [] ys k x e = absurd (cc)
get_append (y ∷ xs) ys zero x e = e
get_append (y ∷ xs) ys (suc k) x e = get_append xs ys k x e

get_drop : {X : Type 0} (n : ℕ) (xs : List X) (k : ℕ) → slice_get (drop n xs) k ≡ slice_get xs (n + k)
get_drop zero xs k = ap (slice_get xs) (omega arith)
get_drop (suc n) [] k = refl
get_drop (suc n) (x ∷ xs) k = let e : suc n + k ≡ suc (n + k) = omega arith in rw e (get_drop n xs k)

get_past : {X : Type 0} (xs : List X) (k : ℕ) (x : X) → slice_get xs k ≡ Some x → k < length xs
get_past [] k x e = absurd (cc)
get_past (y ∷ xs) zero x e = omega arith
get_past (y ∷ xs) (suc k) x e = omega (arith, get_past xs k x e)

get_at : {X : Type 0} (xs : List X) (k : ℕ) (d : X) → k < length xs → slice_get xs k ≡ Some (slice_index_or xs k d)
get_at [] k d l = absurd (omega (arith, l))
get_at (x ∷ xs) zero d l = refl
get_at (x ∷ xs) (suc k) d l = get_at xs k d (omega (arith, l))

index_of : {X : Type 0} (xs : List X) (k : ℕ) (x d : X) → slice_get xs k ≡ Some x → slice_index_or xs k d ≡ x
index_of xs k x d e = let g : Some (slice_index_or xs k d) ≡ Some x = sym (get_at xs k d (get_past xs k x e)) ∙ e in cc

any_at : {X : Type 0} (P : X → Type 0) (xs : List X) (k : ℕ) (x : X) → slice_get xs k ≡ Some x → P x → Any P xs
any_at P xs k x e h = (k, x, get_past xs k x e, index_of xs k x x e, h)

any_get : {X : Type 0} (P : X → Type 0) (xs : List X) (h : Any P xs) → slice_get xs h.0 ≡ Some h.1
any_get P xs h = get_at xs h.0 h.1 h.2 ∙ ap Some h.3

-- ---- regions whose types are not shared keep their places
private_as : (forms : List Form) (m n : ℕ) → m ≡ n → IsPrivate forms n → IsPrivate forms m
private_as forms m n e h = rw e h

any_kept : (forms : List Form) (before after : List Region) (P : Region → Type 0) (n : ℕ) → ChangedByOthers forms before after → ((r : Region) → P r → IsPrivate forms r.name) → Any P (drop n before) → Any P (drop n after)
any_kept forms before after P n C k h =
    let g : slice_get before (n + h.0) ≡ Some h.1 = sym (get_drop n before h.0) ∙ any_get P (drop n before) h in
    any_at P (drop n after) h.0 h.1 (get_drop n after h.0 ∙ C.kept (n + h.0) h.1 g (k h.1 h.4)) h.4

fresh_kept : (run : Run) (v : ℕ → ℤ) (facts : List (Option Fact)) (before after : List Region) (s : ℕ) → ChangedByOthers run.forms before after → FreshStands run v facts before s → FreshStands run v facts after s
fresh_kept run v facts before after s C h =
    record {
      f = h.f;
      fact = h.fact;
      nonzero = h.nonzero;
      block = λ n. any_kept run.forms before after (IsBlock run.forms v h.f (v s)) (length run.before) C (λ r p. private_as run.forms r.name h.f.name p.is.named p.private) (h.block n);
    }

held_by : (forms : List Form) (v : ℕ → ℤ) (before after : List Region) (f : Fact) (c : Cell) → ChangedByOthers forms before after → IsNull v f c.sym ⊎ IsPrivate forms f.name → IsNull v f c.sym ⊎ Any (CellInRegion v f c) before → IsNull v f c.sym ⊎ Any (CellInRegion v f c) after
held_by forms v before after f c C p (inl h) = inl h
held_by forms v before after f c C (inl p) (inr h) = inl p
held_by forms v before after f c C (inr p) (inr h) = inr (any_kept forms before after (CellInRegion v f c) 0 C (λ r k. private_as forms r.name f.name k.is.named p) h)

cell_kept : (forms : List Form) (v : ℕ → ℤ) (facts : List (Option Fact)) (before after : List Region) (c : Cell) → ChangedByOthers forms before after → CellStands v facts before c → CellIsPrivate forms v facts c → CellStands v facts after c
cell_kept forms v facts before after c C h p =
    let g = same_fact facts c.sym p.f h.f p.fact h.fact in
    let q : IsNull v h.f c.sym ⊎ IsPrivate forms h.f.name = subst (λ (x : Fact). IsNull v x c.sym ⊎ IsPrivate forms x.name) g p.private in
    record { f = h.f; fact = h.fact; held = held_by forms v before after h.f c C q h.held }

-- ---- regions that were there
true_or_false : (b : Bool) (R : Type 0) → (b ≡ true → R) → (b ≡ false → R) → R
true_or_false true R f g = f refl
true_or_false false R f g = g refl

form_at_name : (forms : List Form) (n : ℕ) (form : Form) (P : Form → Type 0) → slice_get forms n ≡ Some form → IsSomeAnd (slice_get forms n) P → P form
form_at_name forms n form P e h = rw e at h

some_at : (forms : List Form) (n : ℕ) (form : Form) (P : Form → Type 0) → slice_get forms n ≡ Some form → P form → IsSomeAnd (slice_get forms n) P
some_at forms n form P e h = rw e h

-- where the region's bytes are as they were
same_stands : (form : Form) (whole layout m n : List Extent) (staged : Bool) (r : Region) → RegionStands form whole layout staged r → RegionStands form (whole ++ m) (layout ++ n) staged r
same_stands form whole layout m n staged r h =
    record {
      given = h.given;
      sized = h.sized;
      shared = λ e. form-more form r.args whole m r.bytes (h.shared e);
      elements = λ e. elements-more form r.args layout n r.bytes form.tail (h.elements e);
      head = λ e s. head-more form r.args layout n r.bytes (h.head e s);
    }

-- where it is of a shared type and holds it
shared_stands : (form : Form) (whole layout : List Extent) (staged : Bool) (r : Region) → form.shared ≡ true → FormHolds form r.args whole r.bytes → RegionStands form whole layout staged r
shared_stands form whole layout staged r e h =
    record {
      given = h.given;
      sized = h.size;
      shared = λ q. h;
      elements = λ q. absurd (let w : true ≡ false = sym e ∙ q in cc);
      head = λ q s. absurd (let w : true ≡ false = sym e ∙ q in cc);
    }

some_of : {P : Form → Type 0} (o : Option Form) (R : Type 0) → IsSomeAnd o P → ((form : Form) → o ≡ Some form → P form → R) → R
some_of None R h k = absurd h
some_of (Some form) R h k = k form refl h

-- the region at the place, which was there and is there
old_by : (forms : List Form) (before after : List Region) (k : ℕ) (r q : Region) (form : Form) (whole layout m n : List Extent) (staged : Bool) → ChangedByOthers forms before after → slice_get after k ≡ Some r → slice_get before k ≡ Some q → r.name ≡ q.name → slice_get forms q.name ≡ Some form → layout_of after ≡ whole ++ m → RegionStands form whole layout staged q → (slice_get before k ≡ Some r) ⊎ RegionHolds forms (layout_of after) r → RegionStands form (whole ++ m) (layout ++ n) staged r
old_by forms before after k r q form whole layout m n staged C e g x f w h (inl s) =
    let d : q ≡ r = let u : Some q ≡ Some r = sym g ∙ s in cc in
    subst (λ (y : Region). RegionStands form (whole ++ m) (layout ++ n) staged y) d (same_stands form whole layout m n staged q h)
old_by forms before after k r q form whole layout m n staged C e g x f w h (inr s) =
    true_or_false form.shared (RegionStands form (whole ++ m) (layout ++ n) staged r)
    (λ t.
    let a : FormHolds form r.args (layout_of after) r.bytes = form_at_name forms r.name form (λ form. FormHolds form r.args (layout_of after) r.bytes) (ap (slice_get forms) x ∙ f) s in
    shared_stands form (whole ++ m) (layout ++ n) staged r t (subst (λ (l : List Extent). FormHolds form r.args l r.bytes) w a))
    (λ t.
    let a : slice_get after k ≡ Some q = C.kept k q g (some_at forms q.name form (λ form. form.shared ≡ false) f t) in
    let d : q ≡ r = let u : Some q ≡ Some r = sym a ∙ e in cc in
    subst (λ (y : Region). RegionStands form (whole ++ m) (layout ++ n) staged y) d (same_stands form whole layout m n staged q h))

append_by : {X : Type 0} (x : X) (b : Bool) (zs xs ys : List X) → zs ≡ xs ++ ys → cond b (x ∷ zs) zs ≡ cond b (x ∷ xs) xs ++ ys
append_by x true zs xs ys e = ap (λ r. x ∷ r) e
append_by x false zs xs ys e = e

filter_append : {X : Type 0} (p : X → Bool) (xs ys : List X) → filter p (xs ++ ys) ≡ filter p xs ++ filter p ys
filter_append p [] ys = refl
filter_append p (x ∷ xs) ys = append_by x (p x) (filter p (xs ++ ys)) (filter p xs) (filter p ys) (filter_append p xs ys)

-- the visible layout of the memory after
pub visible_after : (v : ℕ → ℤ) (env : Env) (l m : List Extent) → visible v env (l ++ m) ≡ visible v env l ++ visible v env m
visible_after v env l m = filter_append (λ e. not (is_block v env e.base)) l m

extent_same : (before after : List Region) (more : List Extent) (k : ℕ) (r q : Region) → layout_of after ≡ layout_of before ++ more → slice_get after k ≡ Some r → slice_get before k ≡ Some q → extent_of r ≡ extent_of q
extent_same before after more k r q w e g =
    let a = get_map extent_of after k r e in
    let b = get_append (layout_of before) more k (extent_of q) (get_map extent_of before k q g) in
    let c : Some (extent_of r) ≡ Some (extent_of q) = sym a ∙ ap (λ (l : List Extent). slice_get l k) w ∙ b in
    cc

old_region : (run : Run) (v : ℕ → ℤ) (env : Env) (locals : List (Option ℤ)) (before after : List Region) (k : ℕ) (r q : Region) → ChangedByOthers run.forms before after → Stands run v env locals before → slice_get after k ≡ Some r → slice_get before k ≡ Some q → is_block v env r.base ≡ false → IsSomeAnd (slice_get run.forms r.name) (λ form. RegionStands form (layout_of after) (visible v env (layout_of after)) (is_base (region_bases v env.facts env.staged) r.base) r)
old_region run v env locals before after k r q C S e g b =
    let x = extent_same before after C.extends.more k r q C.extends.same e g in
    let n : r.name ≡ q.name = ap (λ (y : Extent). y.name) x in
    let a : r.base ≡ q.base = ap (λ (y : Extent). y.base) x in
    let s = is_base (region_bases v env.facts env.staged) q.base in
    let i = get_past before k q g in
    let h = S.at_access.regions k q i in
    let j = subst (λ (y : Region). is_block v env y.base ≡ false → IsSomeAnd (slice_get run.forms y.name) (λ form. RegionStands form (layout_of before) (visible v env (layout_of before)) (is_base (region_bases v env.facts env.staged) y.base) y)) (index_of before k q q g) h (subst (λ (y : ℕ). is_block v env y ≡ false) a b) in
    some_of (slice_get run.forms q.name) (IsSomeAnd (slice_get run.forms r.name) (λ form. RegionStands form (layout_of after) (visible v env (layout_of after)) (is_base (region_bases v env.facts env.staged) r.base) r)) j
    (λ form f p.
    let z = old_by run.forms before after k r q form (layout_of before) (visible v env (layout_of before)) C.extends.more (visible v env C.extends.more) s C e g n f C.extends.same p (C.typed k r e) in
    let y : RegionStands form (layout_of before ++ C.extends.more) (visible v env (layout_of before ++ C.extends.more)) s r = subst (λ (l : List Extent). RegionStands form (layout_of before ++ C.extends.more) l s r) (sym (visible_after v env (layout_of before) C.extends.more)) z in
    let u : RegionStands form (layout_of after) (visible v env (layout_of after)) s r = subst (λ (l : List Extent). RegionStands form l (visible v env l) s r) (sym C.extends.same) y in
    some_at run.forms r.name form _ (ap (slice_get run.forms) n ∙ f) (subst (λ (t : ℕ). RegionStands form (layout_of after) (visible v env (layout_of after)) (is_base (region_bases v env.facts env.staged) t) r) (sym a) u))

new_region : (run : Run) (v : ℕ → ℤ) (env : Env) (before after : List Region) (k : ℕ) (r : Region) → ChangedByOthers run.forms before after → slice_get after k ≡ Some r → length before ≤ k → (slice_get before k ≡ Some r) ⊎ RegionHolds run.forms (layout_of after) r → IsSomeAnd (slice_get run.forms r.name) (λ form. RegionStands form (layout_of after) (visible v env (layout_of after)) (is_base (region_bases v env.facts env.staged) r.base) r)
new_region run v env before after k r C e l (inl g) = absurd (omega (arith, l, get_past before k r g))
new_region run v env before after k r C e l (inr h) =
    some_of (slice_get run.forms r.name) _ h
    (λ form f p.
    some_at run.forms r.name form _ f
    (shared_stands form (layout_of after) (visible v env (layout_of after)) (is_base (region_bases v env.facts env.staged) r.base) r (form_at_name run.forms r.name form (λ form. form.shared ≡ true) f (C.added k r l e)) p))

there_or_not : (before : List Region) (k : ℕ) (d : Region) (R : Type 0) → (k < length before → R) → (length before ≤ k → R) → R
there_or_not [] k d R f g = g (omega arith)
there_or_not (q ∷ qs) zero d R f g = f (omega arith)
there_or_not (q ∷ qs) (suc k) d R f g = there_or_not qs k d R (λ l. f (omega (arith, l))) (λ l. g (omega (arith, l)))

extends_then : (a b c : List Region) → Extends a b → Extends b c → Extends a c
extends_then a b c x y =
    record { more = x.more ++ y.more; same = y.same ∙ ap (λ (l : List Extent). l ++ y.more) x.same ∙ append_assoc (layout_of a) x.more y.more }

changed-access : (run : Run) (v : ℕ → ℤ) (env : Env) (locals : List (Option ℤ)) (before after : List Region) → Stands run v env locals before → ChangedByOthers run.forms before after → StandsAtAccess run v env locals after
changed-access run v env locals before after S C =
    let A = S.at_access in
    record {
      locals_stand = A.locals_stand;
      ranges = A.ranges;
      conds = A.conds;
      anchors = A.anchors;
      memory_stands = C.memory;
      extends = extends_then run.before before after A.extends C.extends;
      fresh = λ k d i. fresh_kept run v env.facts before after _ C (A.fresh k d i);
      fresh_apart = A.fresh_apart;
      facts = λ s f e n.
          let a = points-more (visible v env (layout_of before)) (visible v env C.extends.more) f.name (all_values v f.args) (value v f.off) f.null (v s) (A.facts s f e n) in
          let b : Points (visible v env (layout_of before ++ C.extends.more)) f.name (all_values v f.args) (value v f.off) f.null (v s) = subst (λ (l : List Extent). Points l f.name (all_values v f.args) (value v f.off) f.null (v s)) (sym (visible_after v env (layout_of before) C.extends.more)) a in
          subst (λ (l : List Extent). Points (visible v env l) f.name (all_values v f.args) (value v f.off) f.null (v s)) (sym C.extends.same) b;
      staged = A.staged;
      regions = λ k d i b.
          let e = get_at after k d i in
          there_or_not before k d _
          (λ l. old_region run v env locals before after k (slice_index_or after k d) (slice_index_or before k d) C S e (get_at before k d l) b)
          (λ l. new_region run v env before after k (slice_index_or after k d) C e l (C.typed k (slice_index_or after k d) e));
      cells = λ k d i. cell_kept run.forms v env.facts before after _ C (A.cells k d i) (S.private k d i);
    }

pub changes-stand : (forms : List Form) (env : Env) → StandsAfterChanges forms env
changes-stand forms env run v locals before after q S C =
    record { at_access = changed-access run v env locals before after S (subst (λ (fs : List Form). ChangedByOthers fs before after) (sym q) C); private = S.private }

-- ---- without the cells of shared regions
one_filter : {X : Type 0} (P Q : X → Type 0) (p : X → Bool) (x : X) (ys : List X) (b : Bool) → p x ≡ b → (p x ≡ true → P x → Q x) → P x → AllByRecursion Q ys → AllByRecursion Q (cond b (x ∷ ys) ys)
one_filter P Q p x ys true e f h k = (f e h, k)
one_filter P Q p x ys false e f h k = k

all_filter : {X : Type 0} (P Q : X → Type 0) (p : X → Bool) (xs : List X) → ((x : X) → p x ≡ true → P x → Q x) → AllByRecursion P xs → AllByRecursion Q (filter p xs)
all_filter P Q p [] f h = tt
all_filter P Q p (x ∷ xs) f h = one_filter P Q p x (filter p xs) (p x) refl (f x) h.0 (all_filter P Q p xs f h.1)

filter_kept : {X : Type 0} (P Q : X → Type 0) (p : X → Bool) (xs : List X) → ((x : X) → p x ≡ true → P x → Q x) → All P xs → All Q (filter p xs)
filter_kept P Q p xs f h = from_recursion Q (filter p xs) (all_filter P Q p xs f (to_recursion P xs h))

private_form : (o : Option Form) → is_private_form o ≡ true → IsSomeAnd o (λ form. form.shared ≡ false)
private_form None e = absurd (let w : false ≡ true = e in cc)
private_form (Some form) e = not_by form.shared e
  where
    not_by : (b : Bool) → not b ≡ true → b ≡ false
    not_by true e = absurd (let w : false ≡ true = e in cc)
    not_by false e = refl

private_cell : (forms : List Form) (v : ℕ → ℤ) (facts : List (Option Fact)) (memory : List Region) (c : Cell) → is_private_cell forms facts c ≡ true → CellStands v facts memory c → CellIsPrivate forms v facts c
private_cell forms v facts memory c e h =
    let g : is_private_fact forms (Some h.f) ≡ true = subst (λ (o : Option Fact). is_private_fact forms o ≡ true) h.fact e in
    record { f = h.f; fact = h.fact; private = inr (private_form (slice_get forms h.f.name) g) }

without-stands : (run : Run) (v : ℕ → ℤ) (env : Env) (locals : List (Option ℤ)) (memory : List Region) → StandsAtAccess run v env locals memory → Stands run v (without_shared run.forms env) locals memory
without-stands run v env locals memory S =
    let p = is_private_cell run.forms env.facts in
    record {
      at_access = record {
        locals_stand = S.locals_stand;
        ranges = S.ranges;
        conds = S.conds;
        anchors = S.anchors;
        memory_stands = S.memory_stands;
        extends = S.extends;
        fresh = S.fresh;
        fresh_apart = S.fresh_apart;
        facts = S.facts;
        staged = S.staged;
        regions = S.regions;
        cells = filter_kept (CellStands v env.facts memory) (CellStands v env.facts memory) p env.cells (λ c e h. h) S.cells;
      };
      private = filter_kept (CellStands v env.facts memory) (CellIsPrivate run.forms v env.facts) p env.cells (λ c e h. private_cell run.forms v env.facts memory c e h) S.cells;
    }

pub without-shared : (forms : List Form) (env : Env) → StandsWithout forms env (without_shared forms env)
without-shared forms env run v locals memory q S = subst (λ (fs : List Form). Stands run v (without_shared fs env) locals memory) q (without-stands run v env locals memory S)
