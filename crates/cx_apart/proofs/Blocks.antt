-- Where the blocks of fresh symbols begin, no other fact's region does.
use Rattle.std.specs.Prelude.{◌≡◌, ◌≢◌, ℕ, suc, ℤ, pos, ◌-ℤ◌, List, [], ◌∷◌, All, AllPairs, Option, Some, unsigned_abs, Bool, true, false, not, ◌||◌, ◌==◌}
use Rattle.std.proofs.Common.{arith, refl, sym, ap, ◌∙◌, cond, subst, inl, inr}
use Rattle.std.proofs.lemmas.Int.{ints}
use Rattle.std.proofs.lemmas.Bool.Decides.{nat_tests}
use Rattle.cx_base.specs.declared.memory.Region.{Region}
use Rattle.cx_term.specs.Forms.{value}
use Rattle.cx_term.specs.Sums.{is_zero}
use Rattle.cx_term.proofs.Tests.{not_true, or_cases}
use Rattle.cx_term.proofs.Values.{is_zero-true}
use Rattle.cx_entail.specs.Ranges.{same_z}
use Rattle.cx_cells.specs.Values.{all_values}
use Rattle.cx_cells.specs.Layouts.{Extent, layout_of, IsAt, Points}
use Rattle.cx_state.specs.Known.{fact_at, is_one_of}
use Rattle.cx_state.specs.Run.{Run}
use Rattle.cx_state.specs.Stands.{offset_in, region_base, block_bases, is_base, is_block, visible, FreshStands, BlocksApart, IsNull, StandsAtAccess}
use Rattle.cx_state.specs.declared.state.Fact.{Fact}
use Rattle.cx_state.specs.declared.state.Env.{Env}
use Rattle.cx_fact.proofs.Regions.{any-filter, one_of, same_fact}

-- ---- tests
pub or_left : (a b : Bool) → a ≡ true → a || b ≡ true
or_left true b e = refl
or_left false b e = absurd (let w : false ≡ true = e in cc)

pub or_right : (a b : Bool) → b ≡ true → a || b ≡ true
or_right true b e = refl
or_right false b e = e

same_zero : (a : ℤ) → same_z a a ≡ true
same_zero a = let h : unsigned_abs (a -ℤ a) ≡ 0 = omega (arith, ints) in rw h refl

not_false : (b : Bool) → not b ≡ true → b ≡ false
not_false true e = absurd (let w : false ≡ true = e in cc)
not_false false e = refl

pub same_number : (m n : ℕ) → (m == n) ≡ true → m ≡ n
same_number m n e = grind (arith, nat_tests)

-- ---- bases of blocks
pub has_rest : (z : Bool) (x : ℤ) (xs : List ℤ) (b : ℕ) → is_base xs b ≡ true → is_base (cond z xs (x ∷ xs)) b ≡ true
has_rest true x xs b h = h
has_rest false x xs b h = or_right (same_z (pos b) x) (is_base xs b) h

has_first : (z : Bool) (x : ℤ) (xs : List ℤ) (b : ℕ) → z ≡ false → pos b ≡ x → is_base (cond z xs (x ∷ xs)) b ≡ true
has_first true x xs b e q = absurd (cc)
has_first false x xs b e q = or_left (same_z (pos b) x) (is_base xs b) (rw q (same_zero x))

block_has : (v : ℕ → ℤ) (facts : List (Option Fact)) (ts : List ℕ) (s b : ℕ) → is_one_of ts s ≡ true → v s ≢ pos 0 → pos b ≡ region_base v facts s → is_base (block_bases v facts ts) b ≡ true
block_has v facts [] s b e n q = absurd (let w : false ≡ true = e in cc)
block_has v facts (t ∷ ts) s b e n q =
    or_cases (t == s) (is_one_of ts s) (is_base (block_bases v facts (t ∷ ts)) b ≡ true)
    (λ h.
    let g : t ≡ s = same_number t s h in
    has_first (is_zero (v t)) (region_base v facts t) (block_bases v facts ts) b (not_true (is_zero (v t)) (λ z. n (ap v (sym g) ∙ is_zero-true (v t) z))) (q ∙ ap (region_base v facts) (sym g)))
    (λ h. has_rest (is_zero (v t)) (region_base v facts t) (block_bases v facts ts) b (block_has v facts ts s b h n q))
    e

-- ---- symbols that are not null
live_by : (n : Bool) (z : ℤ) → ((n ≡ true) × (z ≡ pos 0) → ⊥) → (n ≡ false → z ≢ pos 0) → z ≢ pos 0
live_by true z h k q = h (refl, q)
live_by false z h k q = k refl q

pub fresh_live : (run : Run) (v : ℕ → ℤ) (env : Env) (locals : List (Option ℤ)) (memory : List Region) (s : ℕ) (f : Fact) → StandsAtAccess run v env locals memory → fact_at env.facts s ≡ Some f → (IsNull v f s → ⊥) → is_one_of env.fresh s ≡ true → v s ≢ pos 0
fresh_live run v env locals memory s f S e live q =
    let h = one_of (FreshStands run v env.facts memory) s env.fresh S.fresh q in
    let g = same_fact env.facts s h.f f h.fact e in
    live_by f.null (v s) live (λ n. h.nonzero (ap (λ (x : Fact). x.null) g ∙ n))

based : (v : ℕ → ℤ) (facts : List (Option Fact)) (s b : ℕ) (f : Fact) → fact_at facts s ≡ Some f → pos b ≡ v s -ℤ value v f.off → pos b ≡ region_base v facts s
based v facts s b f e q = subst (λ (o : Option Fact). pos b ≡ v s -ℤ value v (offset_in o)) (sym e) q

-- the region of a fresh symbol is a block
pub fresh_block : (run : Run) (v : ℕ → ℤ) (env : Env) (locals : List (Option ℤ)) (memory : List Region) (s b : ℕ) (f : Fact) → StandsAtAccess run v env locals memory → fact_at env.facts s ≡ Some f → (IsNull v f s → ⊥) → is_one_of env.fresh s ≡ true → pos b ≡ v s -ℤ value v f.off → is_block v env b ≡ true
fresh_block run v env locals memory s b f S e live q k = block_has v env.facts env.fresh s b q (fresh_live run v env locals memory s f S e live q) (based v env.facts s b f e k)

points_by : (v : ℕ → ℤ) (env : Env) (layout : List Extent) (s b : ℕ) (f : Fact) → (IsNull v f s → ⊥) → pos b ≡ v s -ℤ value v f.off → Points (visible v env layout) f.name (all_values v f.args) (value v f.off) f.null (v s) → is_block v env b ≡ false
points_by v env layout s b f live k (inl p) = absurd (live p)
points_by v env layout s b f live k (inr h) =
    let a = any-filter (IsAt f.name (all_values v f.args) (v s -ℤ value v f.off)) (λ e. not (is_block v env e.base)) layout h in
    let g : a.1.base ≡ b = omega (arith, ints, a.4.1.based, k) in
    subst (λ (x : ℕ). is_block v env x ≡ false) g (not_false (is_block v env a.1.base) a.4.0)

-- that of another symbol is none
pub other_block : (run : Run) (v : ℕ → ℤ) (env : Env) (locals : List (Option ℤ)) (memory : List Region) (s b : ℕ) (f : Fact) → StandsAtAccess run v env locals memory → fact_at env.facts s ≡ Some f → (IsNull v f s → ⊥) → is_one_of env.fresh s ≡ false → pos b ≡ v s -ℤ value v f.off → is_block v env b ≡ false
other_block run v env locals memory s b f S e live q k = points_by v env (layout_of memory) s b f live k (S.facts s f e q)

-- ---- two fresh symbols
pair_of : (P : ℕ → ℕ → Type 0) (R : Type 0) (xs : List ℕ) (s t : ℕ) → AllPairs P xs → is_one_of xs s ≡ true → is_one_of xs t ≡ true → s ≢ t → (P s t → R) → (P t s → R) → R
pair_of P R [] s t A e g n f k = absurd (let w : false ≡ true = e in cc)
pair_of P R (x ∷ xs) s t A e g n f k =
    let first : All (P x) xs = λ i d l. A 0 (suc i) d (omega arith) (omega (arith, l)) in
    let rest : AllPairs P xs = λ i j d l m. A (suc i) (suc j) d (omega (arith, l)) (omega (arith, m)) in
    or_cases (x == s) (is_one_of xs s) R
    (λ h.
    or_cases (x == t) (is_one_of xs t) R (λ m. absurd (n (sym (same_number x s h) ∙ same_number x t m))) (λ m. f (subst (λ (y : ℕ). P y t) (same_number x s h) (one_of (P x) t xs first m))) g)
    (λ h.
    or_cases (x == t) (is_one_of xs t) R (λ m. k (subst (λ (y : ℕ). P y s) (same_number x t m) (one_of (P x) s xs first h))) (λ m. pair_of P R xs s t rest h m n f k) g)
    e

-- the regions of two fresh symbols begin at different addresses
pub blocks_differ : (run : Run) (v : ℕ → ℤ) (env : Env) (locals : List (Option ℤ)) (memory : List Region) (s t b : ℕ) (f g : Fact) → StandsAtAccess run v env locals memory → fact_at env.facts s ≡ Some f → fact_at env.facts t ≡ Some g → (IsNull v f s → ⊥) → (IsNull v g t → ⊥) → is_one_of env.fresh s ≡ true → is_one_of env.fresh t ≡ true → s ≢ t → pos b ≡ v s -ℤ value v f.off → pos b ≡ v t -ℤ value v g.off → ⊥
blocks_differ run v env locals memory s t b f g S e d x y p q n k l =
    let a = fresh_live run v env locals memory s f S e x p in
    let c = fresh_live run v env locals memory t g S d y q in
    let i = based v env.facts s b f e k in
    let j = based v env.facts t b g d l in
    pair_of (BlocksApart v env.facts) ⊥ env.fresh s t S.fresh_apart p q n (λ h. h a c (sym i ∙ j)) (λ h. h c a (sym j ∙ i))
