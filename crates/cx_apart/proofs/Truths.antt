-- Spots that are shown to be apart have no byte in common.
use Rattle.std.specs.Prelude.{◌≡◌, ◌≢◌, ℕ, ℤ, pos, ◌+ℤ◌, ◌-ℤ◌, ◌≤ℤ◌, ◌+◌, ◌-◌, ◌<◌, ◌≤◌, Bool, true, false, not, ◌&&◌, ◌==◌, nat_le, nat_lt, List, [], ◌∷◌, ◌++◌, length, take, Option, Some, None, slice_get, ◌⊎◌}
use Rattle.std.proofs.Common.{arith, refl, sym, ap, ◌∙◌, cond, subst, inl, inr}
use Rattle.std.proofs.lemmas.Int.{ints}
use Rattle.std.proofs.lemmas.Bool.Decides.{nat_tests}
use Rattle.cx_base.specs.Memory.{InRange}
use Rattle.cx_base.specs.declared.memory.Region.{Region}
use Rattle.cx_term.specs.Forms.{Linear, value, value_parts, symbol_of}
use Rattle.cx_term.specs.Sums.{is_zero}
use Rattle.cx_term.proofs.Tests.{and_left, and_right, or_cases}
use Rattle.cx_term.proofs.Values.{is_zero-true}
use Rattle.cx_cells.specs.Layouts.{Extent, extent_of, layout_of}
use Rattle.cx_cells.specs.Symbols.{is_number}
use Rattle.cx_state.specs.Known.{fact_at, is_one_of}
use Rattle.cx_state.specs.Run.{Run}
use Rattle.cx_state.specs.Stands.{address_in, global_address, IsNull, StandsAtAccess}
use Rattle.cx_state.specs.declared.state.Fact.{Fact}
use Rattle.cx_state.specs.declared.state.Env.{Env}
use Rattle.cx_query.specs.Shown.{difference, number}
use Rattle.cx_query.proofs.Comes.{Meets, Comes, some-comes, number-comes, difference-comes, sum-comes, value-symbol, shown_in-sound}
use Rattle.cx_learn.proofs.Learns.{nonzero_in-sound, access-meets}
use Rattle.cx_apart.specs.Apart.{base_form, shown_nonzero, bases_apart, fresh_apart, is_global, globals_apart, regions_apart, offset_form, ends_before, offsets_apart, spots_by, are_apart, LiesIn, AreApart}
use Rattle.cx_apart.specs.declared.spots.Spot.{Spot}
use Rattle.cx_apart.proofs.Places.{get_take, get_map, get_append, made, region_all, bases_differ}
use Rattle.cx_apart.proofs.Blocks.{fresh_block, other_block, blocks_differ}

not_same : (m n : ℕ) (b : Bool) → (m == n) ≡ b → not b ≡ true → m ≢ n
not_same m n true e f q = let w : false ≡ true = f in cc
not_same m n false e f q = absurd (grind (arith, nat_tests))

-- ---- bases
nonzero-sound : (env : Env) (v : ℕ → ℤ) (o : Option Linear) (z : ℤ) → Meets env v → Comes v o z → shown_nonzero env o ≡ true → z ≢ pos 0
nonzero-sound env v None z m c e q = let w : false ≡ true = e in cc
nonzero-sound env v (Some t) z m c e q = nonzero_in-sound env v t m e (c t refl ∙ q)

base-comes : (v : ℕ → ℤ) (s : ℕ) (f : Fact) → Comes v (base_form s f) (v s -ℤ value v f.off)
base-comes v s f u e =
    difference-comes v (Some (symbol_of s)) (Some f.off) (value v (symbol_of s)) (value v f.off) (some-comes v (symbol_of s)) (some-comes v f.off) u e ∙ ap (λ (z : ℤ). z -ℤ value v f.off) (value-symbol v s)

different : (env : Env) (v : ℕ → ℤ) (s t b : ℕ) (f g : Fact) → Meets env v → bases_apart env s f t g ≡ true → pos b ≡ v s -ℤ value v f.off → pos b ≡ v t -ℤ value v g.off → ⊥
different env v s t b f g m e k l =
    nonzero-sound env v (difference (base_form s f) (base_form t g)) ((v s -ℤ value v f.off) -ℤ (v t -ℤ value v g.off)) m
    (difference-comes v (base_form s f) (base_form t g) (v s -ℤ value v f.off) (v t -ℤ value v g.off) (base-comes v s f) (base-comes v t g)) e (omega (arith, ints, k, l))

-- ---- globals
no_parts : (v : ℕ → ℤ) (ps : List (ℕ × ℤ)) → length ps ≡ 0 → value_parts v ps ≡ pos 0
no_parts v [] e = refl
no_parts v (p ∷ ps) e = absurd (omega (arith, e))

zero_form : (v : ℕ → ℤ) (t : Linear) → is_number t ≡ true → is_zero t.konst ≡ true → value v t ≡ pos 0
zero_form v t e h = omega (arith, ints, is_zero-true t.konst h, no_parts v t.parts (same_length (length t.parts) e))
  where
    same_length : (n : ℕ) → (n == 0) ≡ true → n ≡ 0
    same_length n e = grind (arith, nat_tests)

-- the place of the global that the symbol stands for
record Place (run : Run) (memory : List Region) (s b : ℕ) : Type 0 where
  pub j : ℕ
  pub is : 24 + j ≡ s
  pub r : Region
  pub there : slice_get memory j ≡ Some r
  pub begins : r.base ≡ b

place_of : (run : Run) (memory : List Region) (more : List Extent) (s j b : ℕ) → layout_of memory ≡ layout_of run.before ++ more → 24 + j ≡ s → 1 ≤ b → (o : Option Region) → slice_get (take run.globals run.before) j ≡ o → pos b ≡ address_in o → Place run memory s b
place_of run memory more s j b w d l None e k = absurd (omega (arith, ints, k, l))
place_of run memory more s j b w d l (Some p) e k =
    let a = get_append (layout_of run.before) more j (extent_of p) (get_map extent_of run.before j p (get_take run.globals run.before j p e)) in
    let c = made extent_of memory j (extent_of p) (ap (λ (x : List Extent). slice_get x j) w ∙ a) in
    record { j = j; is = d; r = c.x; there = c.there; begins = omega (arith, ints, k, ap (λ (x : Extent). x.base) c.same) }

global_place : (run : Run) (v : ℕ → ℤ) (env : Env) (locals : List (Option ℤ)) (memory : List Region) (s b : ℕ) (f : Fact) → StandsAtAccess run v env locals memory → is_global s f ≡ true → 1 ≤ b → pos b ≡ v s -ℤ value v f.off → Place run memory s b
global_place run v env locals memory s b f S e l k =
    let x = and_left (nat_le 24 s && nat_lt s 40) (is_number f.off && is_zero f.off.konst) e in
    let y = and_right (nat_le 24 s && nat_lt s 40) (is_number f.off && is_zero f.off.konst) e in
    let low : 24 ≤ s = from_le s (and_left (nat_le 24 s) (nat_lt s 40) x) in
    let high : s < 40 = to_lt s (and_right (nat_le 24 s) (nat_lt s 40) x) in
    let z = zero_form v f.off (and_left (is_number f.off) (is_zero f.off.konst) y) (and_right (is_number f.off) (is_zero f.off.konst) y) in
    let d : 24 + (s - 24) ≡ s = omega (arith, low) in
    let g : v (24 + (s - 24)) ≡ global_address run (s - 24) = S.anchors.globals (s - 24) (omega (arith, low, high)) in
    let q : v s ≡ global_address run (s - 24) = subst (λ (t : ℕ). v t ≡ global_address run (s - 24)) d g in
    place_of run memory S.extends.more s (s - 24) b S.extends.same d l (slice_get (take run.globals run.before) (s - 24)) refl (omega (arith, ints, k, z, q))
  where
    from_le : (s : ℕ) → nat_le 24 s ≡ true → 24 ≤ s
    from_le s e = grind (arith, nat_tests)

    to_lt : (s : ℕ) → nat_lt s 40 ≡ true → s < 40
    to_lt s e = grind (arith, nat_tests)

globals_differ : (run : Run) (v : ℕ → ℤ) (env : Env) (locals : List (Option ℤ)) (memory : List Region) (s t b : ℕ) (f g : Fact) → StandsAtAccess run v env locals memory → globals_apart s f t g ≡ true → 1 ≤ b → pos b ≡ v s -ℤ value v f.off → pos b ≡ v t -ℤ value v g.off → ⊥
globals_differ run v env locals memory s t b f g S e h k l =
    let x = and_left (is_global s f) (is_global t g && not (s == t)) e in
    let y = and_right (is_global s f) (is_global t g && not (s == t)) e in
    let p = global_place run v env locals memory s b f S x h k in
    let q = global_place run v env locals memory t b g S (and_left (is_global t g) (not (s == t)) y) h l in
    let n = not_same s t (s == t) refl (and_right (is_global t g) (not (s == t)) y) in
    bases_differ memory p.j q.j p.r q.r S.memory_stands.valid p.there q.there (λ i. n (sym p.is ∙ ap (λ (z : ℕ). 24 + z) i ∙ q.is)) (p.begins ∙ sym q.begins)

-- ---- fresh symbols
fresh_differ : (run : Run) (v : ℕ → ℤ) (env : Env) (locals : List (Option ℤ)) (memory : List Region) (s t b : ℕ) (f g : Fact) (m n : Bool) → StandsAtAccess run v env locals memory → fact_at env.facts s ≡ Some f → fact_at env.facts t ≡ Some g → (IsNull v f s → ⊥) → (IsNull v g t → ⊥) → is_one_of env.fresh s ≡ m → is_one_of env.fresh t ≡ n → cond m (not (n && s == t)) n ≡ true → pos b ≡ v s -ℤ value v f.off → pos b ≡ v t -ℤ value v g.off → ⊥
fresh_differ run v env locals memory s t b f g true true S e d x y p q h k l = blocks_differ run v env locals memory s t b f g S e d x y p q (not_same s t (s == t) refl h) k l
fresh_differ run v env locals memory s t b f g true false S e d x y p q h k l =
    let w : true ≡ false = sym (fresh_block run v env locals memory s b f S e x p k) ∙ other_block run v env locals memory t b g S d y q l in
    cc
fresh_differ run v env locals memory s t b f g false true S e d x y p q h k l =
    let w : true ≡ false = sym (fresh_block run v env locals memory t b g S d y q l) ∙ other_block run v env locals memory s b f S e x p k in
    cc
fresh_differ run v env locals memory s t b f g false false S e d x y p q h k l = let w : false ≡ true = h in cc

-- ---- regions
pub regions_differ : (run : Run) (v : ℕ → ℤ) (env : Env) (locals : List (Option ℤ)) (memory : List Region) (a b : Spot) (i : ℕ) (x : LiesIn v env memory a i) (y : LiesIn v env memory b i) → StandsAtAccess run v env locals memory → regions_apart env a.sym x.f b.sym y.f ≡ true → ⊥
regions_differ run v env locals memory a b i x y S e =
    let same : x.r ≡ y.r = let w : Some x.r ≡ Some y.r = sym x.there ∙ y.there in cc in
    let k : pos x.r.base ≡ v a.sym -ℤ value v x.f.off = x.is.based in
    let l : pos x.r.base ≡ v b.sym -ℤ value v y.f.off = ap (λ (r : Region). pos r.base) same ∙ y.is.based in
    let low = (region_all InRange memory i x.r S.memory_stands.valid.ranges x.there).low in
    let named : x.f.name ≡ y.f.name = sym x.is.named ∙ ap (λ (r : Region). r.name) same ∙ y.is.named in
    or_cases (not (x.f.name == y.f.name)) _ ⊥ (λ h. not_same x.f.name y.f.name (x.f.name == y.f.name) refl h named)
    (or_cases (bases_apart env a.sym x.f b.sym y.f) _ ⊥ (λ h. different env v a.sym b.sym x.r.base x.f y.f (access-meets run v env locals memory S) h k l)
    (or_cases (fresh_apart env a.sym b.sym) (globals_apart a.sym x.f b.sym y.f) ⊥
    (λ h. fresh_differ run v env locals memory a.sym b.sym x.r.base x.f y.f (is_one_of env.fresh a.sym) (is_one_of env.fresh b.sym) S x.fact y.fact x.live y.live refl refl h k l)
    (λ h. globals_differ run v env locals memory a.sym b.sym x.r.base x.f y.f S h low k l)))
    e

-- ---- offsets
offset-comes : (v : ℕ → ℤ) (f : Fact) (a : Spot) → Comes v (offset_form f a) (value v f.off +ℤ value v a.at)
offset-comes v f a = sum-comes v (Some f.off) (Some a.at) (value v f.off) (value v a.at) (some-comes v f.off) (some-comes v a.at)

ends-sound : (env : Env) (v : ℕ → ℤ) (f g : Fact) (a b : Spot) (n m k : ℕ) → Meets env v → ends_before env (offset_form f a) k (offset_form g b) ≡ true → pos n ≡ value v f.off +ℤ value v a.at → pos m ≡ value v g.off +ℤ value v b.at → n + k ≤ m
ends-sound env v f g a b n m k M e x y =
    let c = difference-comes v (difference (offset_form g b) (offset_form f a)) (number (pos k)) _ (pos k) (difference-comes v (offset_form g b) (offset_form f a) _ _ (offset-comes v g b) (offset-comes v f a)) (number-comes v (pos k)) in
    let h : pos 0 ≤ℤ (((value v g.off +ℤ value v b.at) -ℤ (value v f.off +ℤ value v a.at)) -ℤ pos k) = shown_in-sound env v (difference (difference (offset_form g b) (offset_form f a)) (number (pos k))) _ M c e in
    omega (arith, ints, h, x, y)

offsets_differ : (env : Env) (v : ℕ → ℤ) (memory : List Region) (a b : Spot) (i : ℕ) (x : LiesIn v env memory a i) (y : LiesIn v env memory b i) → Meets env v → offsets_apart env x.f a y.f b ≡ true → (x.at + a.size ≤ y.at) ⊎ (y.at + b.size ≤ x.at)
offsets_differ env v memory a b i x y M e =
    or_cases (ends_before env (offset_form x.f a) a.size (offset_form y.f b)) (ends_before env (offset_form y.f b) b.size (offset_form x.f a)) ((x.at + a.size ≤ y.at) ⊎ (y.at + b.size ≤ x.at))
    (λ h. inl (ends-sound env v x.f y.f a b x.at y.at a.size M h x.place y.place))
    (λ h. inr (ends-sound env v y.f x.f b a y.at x.at b.size M h y.place x.place))
    e

pub apart-true : (env : Env) (a b : Spot) → are_apart env a b ≡ true → AreApart env a b
apart-true env a b e run v locals memory S i x y =
    let g : spots_by env (Some x.f) a (Some y.f) b ≡ true = subst (λ (o : Option Fact). spots_by env (Some x.f) a o b ≡ true) y.fact (subst (λ (o : Option Fact). spots_by env o a (fact_at env.facts b.sym) b ≡ true) x.fact e) in
    or_cases (regions_apart env a.sym x.f b.sym y.f) (offsets_apart env x.f a y.f b) ((x.at + a.size ≤ y.at) ⊎ (y.at + b.size ≤ x.at))
    (λ h. absurd (regions_differ run v env locals memory a b i x y S h))
    (λ h. offsets_differ env v memory a b i x y (access-meets run v env locals memory S) h)
    g
