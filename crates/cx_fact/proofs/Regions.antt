-- The region that a fact is about.
use Rattle.std.specs.Prelude.{◌≡◌, ℕ, zero, suc, ℤ, pos, ◌-ℤ◌, ◌<◌, List, [], ◌∷◌, length, drop, map, filter, All, Any, Option, Some, None, slice_get, slice_index_or, IsSomeAnd, Bool, true, false, not, ◌||◌, ◌==◌, ◌≢◌}
use Rattle.std.proofs.Common.{arith, refl, sym, ap, ◌∙◌, cond, subst, inl, inr}
use Rattle.std.proofs.lemmas.Bool.Decides.{nat_tests}
use Rattle.cx_base.specs.Memory.{InRange, size_of}
use Rattle.cx_base.specs.declared.memory.Region.{Region}
use Rattle.cx_term.specs.Forms.{value}
use Rattle.cx_cells.specs.Values.{all_values}
use Rattle.cx_cells.specs.Layouts.{Extent, extent_of, layout_of, IsAt, Points}
use Rattle.cx_cells.specs.Meaning.{form_size}
use Rattle.cx_cells.specs.declared.form.Form.{Form}
use Rattle.cx_state.specs.Known.{fact_at, is_one_of}
use Rattle.cx_state.specs.Run.{Run}
use Rattle.cx_state.specs.Stands.{is_base, region_bases, is_block, visible, IsBlock, FreshStands, RegionStands, StandsAtAccess}
use Rattle.cx_state.specs.declared.state.Fact.{Fact}
use Rattle.cx_state.specs.declared.state.Env.{Env}

-- ---- some element of a list
pub any-shift : {X : Type 0} (P : X → Type 0) (y : X) (xs : List X) → Any P xs → Any P (y ∷ xs)
any-shift P y xs h = (suc h.0, h.1, omega (arith, h.2), h.3, h.4)

pub first_any : {X : Type 0} (P : X → Type 0) (x : X) (xs : List X) → P x → Any P (x ∷ xs)
first_any P x xs h = (0, x, omega arith, refl, h)

any_by : {X : Type 0} (P : X → Type 0) (R : Type 0) (x : X) (xs : List X) (k : ℕ) (y : X) → k < length (x ∷ xs) → slice_index_or (x ∷ xs) k y ≡ y → P y → (P x → R) → (Any P xs → R) → R
any_by P R x xs zero y l e h f g = f (subst P (sym e) h)
any_by P R x xs (suc k) y l e h f g = g (k, y, omega (arith, l), e, h)

-- by the first element, or one of the others
pub any_cases : {X : Type 0} (P : X → Type 0) (R : Type 0) (x : X) (xs : List X) → Any P (x ∷ xs) → (P x → R) → (Any P xs → R) → R
any_cases P R x xs h f g = any_by P R x xs h.0 h.1 h.2 h.3 h.4 f g

pub any_none : {X : Type 0} (P : X → Type 0) (R : Type 0) → Any P [] → R
any_none P R h = absurd (omega (arith, h.2))

filter_by : {X : Type 0} (P : X → Type 0) (q : X → Bool) (x : X) (xs : List X) (b : Bool) → q x ≡ b → Any P (cond b (x ∷ filter q xs) (filter q xs)) → (Any P (filter q xs) → Any (λ y. (q y ≡ true) × P y) xs) → Any (λ y. (q y ≡ true) × P y) (x ∷ xs)
filter_by P q x xs true e h k =
    any_cases P (Any (λ y. (q y ≡ true) × P y) (x ∷ xs)) x (filter q xs) h (λ p. first_any (λ y. (q y ≡ true) × P y) x xs (e, p)) (λ a. any-shift (λ y. (q y ≡ true) × P y) x xs (k a))
filter_by P q x xs false e h k = any-shift (λ y. (q y ≡ true) × P y) x xs (k h)

-- what is kept is there, and passes
pub any-filter : {X : Type 0} (P : X → Type 0) (q : X → Bool) (xs : List X) → Any P (filter q xs) → Any (λ y. (q y ≡ true) × P y) xs
any-filter P q [] h = any_none P _ h
any-filter P q (x ∷ xs) h = filter_by P q x xs (q x) refl h (any-filter P q xs)

pub any-map : {X Y : Type 0} (P : Y → Type 0) (f : X → Y) (xs : List X) → Any P (map f xs) → Any (λ x. P (f x)) xs
any-map P f [] h = any_none P _ h
any-map P f (x ∷ xs) h =
    any_cases P (Any (λ x. P (f x)) (x ∷ xs)) (f x) (map f xs) h (λ p. first_any (λ x. P (f x)) x xs p) (λ a. any-shift (λ x. P (f x)) x xs (any-map P f xs a))

pub any_drop : {X : Type 0} (P : X → Type 0) (n : ℕ) (xs : List X) → Any P (drop n xs) → Any P xs
any_drop P zero xs h = h
any_drop P (suc n) [] h = h
any_drop P (suc n) (x ∷ xs) h = any-shift P x xs (any_drop P n xs h)

-- what is true of each element is true of it too
pub any_with : {X : Type 0} (P Q R : X → Type 0) (xs : List X) → ((x : X) → Q x → P x → R x) → All Q xs → Any P xs → Any R xs
any_with P Q R xs f a h = (h.0, h.1, h.2, h.3, f h.1 (subst Q h.3 (a h.0 h.1 h.2)) h.4)

-- ---- regions

-- the region that a fact is about, for a symbol of the value z
pub record IsOf (forms : List Form) (v : ℕ → ℤ) (f : Fact) (z : ℤ) (r : Region) : Type 0 where
  pub is : IsAt f.name (all_values v f.args) (z -ℤ value v f.off) (extent_of r)
  pub range : InRange r
  pub sized : IsSomeAnd (slice_get forms f.name) (λ form. form_size form r.args ≡ Some (size_of r))

sized_by : (forms : List Form) (whole layout : List Extent) (staged : Bool) (r : Region) (o : Option Form) → IsSomeAnd o (λ form. RegionStands form whole layout staged r) → IsSomeAnd o (λ form. form_size form r.args ≡ Some (size_of r))
sized_by forms whole layout staged r None h = h
sized_by forms whole layout staged r (Some form) h = h.sized

pub not_false : (b : Bool) → not b ≡ true → b ≡ false
not_false true e = absurd (let w : false ≡ true = e in cc)
not_false false e = refl

seen_by : (run : Run) (v : ℕ → ℤ) (env : Env) (locals : List (Option ℤ)) (memory : List Region) (f : Fact) (z : ℤ) → StandsAtAccess run v env locals memory → Any (IsAt f.name (all_values v f.args) (z -ℤ value v f.off)) (visible v env (layout_of memory)) → Any (IsOf run.forms v f z) memory
seen_by run v env locals memory f z S h =
    let P : Extent → Type 0 = IsAt f.name (all_values v f.args) (z -ℤ value v f.off) in
    let a = any-map (λ e. (not (is_block v env e.base) ≡ true) × P e) extent_of memory (any-filter P (λ e. not (is_block v env e.base)) (layout_of memory) h) in
    let b = any_with (λ r. (not (is_block v env r.base) ≡ true) × P (extent_of r)) InRange (λ r. InRange r × (not (is_block v env r.base) ≡ true) × P (extent_of r)) memory (λ r i p. (i, p.0, p.1)) S.memory_stands.valid.ranges a in
    any_with (λ r. InRange r × (not (is_block v env r.base) ≡ true) × P (extent_of r))
    (λ r. is_block v env r.base ≡ false → IsSomeAnd (slice_get run.forms r.name) (λ form. RegionStands form (layout_of memory) (visible v env (layout_of memory)) (is_base (region_bases v env.facts env.staged) r.base) r))
    (IsOf run.forms v f z) memory
    (λ r k p.
    let s = sized_by run.forms (layout_of memory) (visible v env (layout_of memory)) (is_base (region_bases v env.facts env.staged) r.base) r (slice_get run.forms r.name) (k (not_false (is_block v env r.base) p.1)) in
    record { is = p.2; range = p.0; sized = subst (λ (n : ℕ). IsSomeAnd (slice_get run.forms n) (λ form. form_size form r.args ≡ Some (size_of r))) p.2.named s })
    S.regions b

-- ---- fresh symbols
pub all_rest : {X : Type 0} (P : X → Type 0) (x : X) (xs : List X) → All P (x ∷ xs) → All P xs
all_rest P x xs h = λ k d l. h (suc k) d (omega (arith, l))

pub all_first : {X : Type 0} (P : X → Type 0) (x : X) (xs : List X) → All P (x ∷ xs) → P x
all_first P x xs h = h 0 x (omega arith)

one_by : (P : ℕ → Type 0) (s t : ℕ) (ts : List ℕ) (b : Bool) → (t == s) ≡ b → P t → (is_one_of ts s ≡ true → P s) → (b || is_one_of ts s) ≡ true → P s
one_by P s t ts true e h k g = subst P (grind (arith, nat_tests)) h
one_by P s t ts false e h k g = k g

-- what is true of each is true of one of them
pub one_of : (P : ℕ → Type 0) (s : ℕ) (ts : List ℕ) → All P ts → is_one_of ts s ≡ true → P s
one_of P s [] h e = absurd (let w : false ≡ true = e in cc)
one_of P s (t ∷ ts) h e = one_by P s t ts (t == s) refl (all_first P t ts h) (one_of P s ts (all_rest P t ts h)) e

pub same_fact : (facts : List (Option Fact)) (s : ℕ) (f g : Fact) → fact_at facts s ≡ Some f → fact_at facts s ≡ Some g → f ≡ g
same_fact facts s f g d e = let w : Some f ≡ Some g = sym d ∙ e in cc

-- where the fact allows no null, or the symbol is not 0
nonzero_by : (n : Bool) (z : ℤ) → (n ≡ true → z ≢ pos 0) → (n ≡ false → z ≢ pos 0) → z ≢ pos 0
nonzero_by true z h k = h refl
nonzero_by false z h k = k refl

fresh_by : (run : Run) (v : ℕ → ℤ) (env : Env) (locals : List (Option ℤ)) (memory : List Region) (s : ℕ) (f : Fact) → StandsAtAccess run v env locals memory → fact_at env.facts s ≡ Some f → (f.null ≡ true → v s ≢ pos 0) → FreshStands run v env.facts memory s → Any (IsOf run.forms v f (v s)) memory
fresh_by run v env locals memory s f S e n h =
    let g = same_fact env.facts s h.f f h.fact e in
    let k : v s ≢ pos 0 = nonzero_by f.null (v s) n (λ q. h.nonzero (ap (λ (x : Fact). x.null) g ∙ q)) in
    let b : Any (IsBlock run.forms v f (v s)) memory = subst (λ (x : Fact). Any (IsBlock run.forms v x (v s)) memory) g (any_drop (IsBlock run.forms v h.f (v s)) (length run.before) memory (h.block k)) in
    any_with (IsBlock run.forms v f (v s)) InRange (IsOf run.forms v f (v s)) memory (λ r i p. record { is = p.is; range = i; sized = p.sized }) S.memory_stands.valid.ranges b

fact_by : (run : Run) (v : ℕ → ℤ) (env : Env) (locals : List (Option ℤ)) (memory : List Region) (s : ℕ) (f : Fact) (b : Bool) → StandsAtAccess run v env locals memory → fact_at env.facts s ≡ Some f → (f.null ≡ true → v s ≢ pos 0) → is_one_of env.fresh s ≡ b → Any (IsOf run.forms v f (v s)) memory
fact_by run v env locals memory s f true S e n q = fresh_by run v env locals memory s f S e n (one_of (FreshStands run v env.facts memory) s env.fresh S.fresh q)
fact_by run v env locals memory s f false S e n q = points_by (S.facts s f e q)
  where
    points_by : Points (visible v env (layout_of memory)) f.name (all_values v f.args) (value v f.off) f.null (v s) → Any (IsOf run.forms v f (v s)) memory
    points_by (inl p) = absurd (n p.0 p.1)
    points_by (inr h) = seen_by run v env locals memory f (v s) S h

-- the fact of a symbol that is not null is about a region of memory
pub fact_region : (run : Run) (v : ℕ → ℤ) (env : Env) (locals : List (Option ℤ)) (memory : List Region) (s : ℕ) (f : Fact) → StandsAtAccess run v env locals memory → fact_at env.facts s ≡ Some f → (f.null ≡ true → v s ≢ pos 0) → Any (IsOf run.forms v f (v s)) memory
fact_region run v env locals memory s f S e n = fact_by run v env locals memory s f (is_one_of env.fresh s) S e n refl
