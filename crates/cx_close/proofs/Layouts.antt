-- The layout in which a symbol is not fresh: it has the symbol's block, and all that the state says of symbols is true in it.
use Rattle.std.specs.Prelude.{◌≡◌, ◌≢◌, ℕ, ℤ, pos, ◌-ℤ◌, List, [], ◌∷◌, length, filter, Any, Option, Some, Bool, true, false, not, ◌&&◌, ◌||◌, ◌==◌}
use Rattle.std.proofs.Common.{arith, refl, sym, ap, ◌∙◌, cond, subst, inl, inr}
use Rattle.std.proofs.lemmas.Int.{ints}
use Rattle.std.proofs.lemmas.Bool.Decides.{nat_tests}
use Rattle.cx_base.specs.declared.memory.Region.{Region}
use Rattle.cx_term.specs.Forms.{value}
use Rattle.cx_term.specs.Sums.{is_zero}
use Rattle.cx_term.proofs.Tests.{and_left, and_right, or_cases}
use Rattle.cx_term.proofs.Values.{is_zero-true}
use Rattle.cx_cells.specs.Values.{all_values}
use Rattle.cx_cells.specs.Layouts.{Extent, extent_of, layout_of, IsAt, Points}
use Rattle.cx_entail.specs.Ranges.{same_z}
use Rattle.cx_state.specs.Known.{fact_at, is_one_of}
use Rattle.cx_state.specs.Run.{Run}
use Rattle.cx_state.specs.Stands.{offset_in, region_base, block_bases, is_base, is_block, visible, IsBlock, FreshStands, StandsAtAccess}
use Rattle.cx_state.specs.declared.state.Fact.{Fact}
use Rattle.cx_state.specs.declared.state.Env.{Env}
use Rattle.cx_query.specs.Pointing.{not_fresh}
use Rattle.cx_query.proofs.Fresh.{one-but}
use Rattle.cx_query.proofs.PointLaws.{Knows, stands-meets}
use Rattle.cx_fact.proofs.Regions.{any-filter, any_drop, one_of, same_fact}
use Rattle.cx_apart.proofs.Blocks.{or_left, or_right, same_number, has_rest, blocks_differ}
use Rattle.cx_close.proofs.Lists.{filter_any, map_any, any_to}

-- ---- the other symbols
abbrev others : ℕ → List ℕ → List ℕ
others s ts = filter (λ t. not (t == s)) ts

-- one of them that is none of the others is the symbol
the_one : (ts : List ℕ) (s t : ℕ) → is_one_of (others s ts) t ≡ false → is_one_of ts t ≡ true → t ≡ s
the_one ts s t e g = same_number t s (not_not (t == s) (ap (λ b. b && not (t == s)) (sym g) ∙ sym (one-but ts t s) ∙ e))
  where
    not_not : (b : Bool) → true && not b ≡ false → b ≡ true
    not_not true q = refl
    not_not false q = absurd (let w : true ≡ false = q in cc)

-- one of the others is one of them, and another
one_other : (ts : List ℕ) (s t : ℕ) → is_one_of (others s ts) t ≡ true → (is_one_of ts t ≡ true) × (t ≢ s)
one_other ts s t e =
    let h = sym (one-but ts t s) ∙ e in
    (and_left (is_one_of ts t) (not (t == s)) h, λ q. differs t s (and_right (is_one_of ts t) (not (t == s)) h) q)
  where
    differs : (t s : ℕ) → not (t == s) ≡ true → t ≡ s → ⊥
    differs t s h q = let r : (t == s) ≡ true = grind (arith, nat_tests) in let w : false ≡ true = sym (ap not r) ∙ h in cc

absent_by : (u s : ℕ) (us : List ℕ) (b : Bool) → (u == s) ≡ b → b || is_one_of us s ≡ false → (is_one_of us s ≡ false → others s us ≡ us) → cond (not b) (u ∷ others s us) (others s us) ≡ u ∷ us
absent_by u s us true q e k = absurd (let w : true ≡ false = e in cc)
absent_by u s us false q e k = ap (λ ts. u ∷ ts) (k e)

-- where it is none of them they are the others
pub all_others : (ts : List ℕ) (s : ℕ) → is_one_of ts s ≡ false → others s ts ≡ ts
all_others [] s e = refl
all_others (u ∷ us) s e = absent_by u s us (u == s) refl e (λ h. all_others us s h)

-- ---- bases of blocks
keep_by : (z : Bool) (x : ℤ) (xs ys : List ℤ) (b : ℕ) → (is_base xs b ≡ true → is_base ys b ≡ true) → is_base (cond z xs (x ∷ xs)) b ≡ true → is_base (cond z ys (x ∷ ys)) b ≡ true
keep_by true x xs ys b f h = f h
keep_by false x xs ys b f h =
    or_cases (same_z (pos b) x) (is_base xs b) (is_base (x ∷ ys) b ≡ true) (λ g. or_left (same_z (pos b) x) (is_base ys b) g) (λ g. or_right (same_z (pos b) x) (is_base ys b) (f g)) h

fewer_by : (v : ℕ → ℤ) (facts : List (Option Fact)) (u s : ℕ) (us : List ℕ) (b : ℕ) (d : Bool) → (is_base (block_bases v facts (others s us)) b ≡ true → is_base (block_bases v facts us) b ≡ true) → is_base (block_bases v facts (cond (not d) (u ∷ others s us) (others s us))) b ≡ true → is_base (block_bases v facts (u ∷ us)) b ≡ true
fewer_by v facts u s us b true f h = has_rest (is_zero (v u)) (region_base v facts u) (block_bases v facts us) b (f h)
fewer_by v facts u s us b false f h = keep_by (is_zero (v u)) (region_base v facts u) (block_bases v facts (others s us)) (block_bases v facts us) b f h

-- a block of one of the others is a block
fewer : (v : ℕ → ℤ) (facts : List (Option Fact)) (s : ℕ) (ts : List ℕ) (b : ℕ) → is_base (block_bases v facts (others s ts)) b ≡ true → is_base (block_bases v facts ts) b ≡ true
fewer v facts s [] b h = h
fewer v facts s (u ∷ us) b h = fewer_by v facts u s us b (u == s) (λ g. fewer v facts s us b g) h

unless_by : (x y : Bool) → (y ≡ true → x ≡ true) → not x ≡ true → not y ≡ true
unless_by true y f e = absurd (let w : false ≡ true = e in cc)
unless_by false true f e = absurd (let w : false ≡ true = f refl in cc)
unless_by false false f e = refl

-- what is visible is so too where the symbol is not fresh
pub any_wider : (P : Extent → Type 0) (v : ℕ → ℤ) (env : Env) (s : ℕ) (layout : List Extent) → Any P (visible v env layout) → Any P (visible v (not_fresh (Some s) env) layout)
any_wider P v env s layout h =
    let p : Extent → Bool = λ e. not (is_block v env e.base) in
    let q : Extent → Bool = λ e. not (is_block v (not_fresh (Some s) env) e.base) in
    filter_any P q layout
    (any_to (λ e. (p e ≡ true) × P e) (λ e. (q e ≡ true) × P e) layout
    (λ e k. (unless_by (is_block v env e.base) (is_block v (not_fresh (Some s) env) e.base) (λ g. fewer v env.facts s env.fresh e.base g) k.0, k.1))
    (any-filter P p layout h))

-- the symbol whose block begins there
record Owner (v : ℕ → ℤ) (facts : List (Option Fact)) (ts : List ℕ) (b : ℕ) : Type 0 where
  t : ℕ
  one : is_one_of ts t ≡ true
  live : v t ≢ pos 0
  based : pos b ≡ region_base v facts t

number_true : (a b : ℤ) → same_z a b ≡ true → a ≡ b
number_true a b e = let h = is_zero-true (a -ℤ b) e in omega (arith, ints, h)

equal_self : (t : ℕ) → (t == t) ≡ true
equal_self t = grind (arith, nat_tests)

owner_shift : (v : ℕ → ℤ) (facts : List (Option Fact)) (t : ℕ) (ts : List ℕ) (b : ℕ) → Owner v facts ts b → Owner v facts (t ∷ ts) b
owner_shift v facts t ts b h = record { t = h.t; one = or_right (t == h.t) (is_one_of ts h.t) h.one; live = h.live; based = h.based }

zero_true : (z : ℤ) → z ≡ pos 0 → is_zero z ≡ true
zero_true z e = rw e refl

owner_by : (v : ℕ → ℤ) (facts : List (Option Fact)) (t : ℕ) (ts : List ℕ) (b : ℕ) (z : Bool) → is_zero (v t) ≡ z → is_base (cond z (block_bases v facts ts) (region_base v facts t ∷ block_bases v facts ts)) b ≡ true → (is_base (block_bases v facts ts) b ≡ true → Owner v facts ts b) → Owner v facts (t ∷ ts) b
owner_by v facts t ts b true q h k = owner_shift v facts t ts b (k h)
owner_by v facts t ts b false q h k =
    or_cases (same_z (pos b) (region_base v facts t)) (is_base (block_bases v facts ts) b) (Owner v facts (t ∷ ts) b)
    (λ g. record {
      t = t;
      one = or_left (t == t) (is_one_of ts t) (equal_self t);
      live = λ e. let w : true ≡ false = sym (zero_true (v t) e) ∙ q in cc;
      based = number_true (pos b) (region_base v facts t) g;
    })
    (λ g. owner_shift v facts t ts b (k g))
    h

owner : (v : ℕ → ℤ) (facts : List (Option Fact)) (ts : List ℕ) (b : ℕ) → is_base (block_bases v facts ts) b ≡ true → Owner v facts ts b
owner v facts [] b h = absurd (let w : false ≡ true = h in cc)
owner v facts (t ∷ ts) b h = owner_by v facts t ts b (is_zero (v t)) refl h (λ g. owner v facts ts b g)

-- ---- the symbol's own block
not_of : (b : Bool) → (b ≡ true → ⊥) → not b ≡ true
not_of true h = absurd (h refl)
not_of false h = refl

own_free : (run : Run) (v : ℕ → ℤ) (env : Env) (locals : List (Option ℤ)) (memory : List Region) (s b : ℕ) (f : Fact) → StandsAtAccess run v env locals memory → fact_at env.facts s ≡ Some f → v s ≢ pos 0 → is_one_of env.fresh s ≡ true → pos b ≡ v s -ℤ value v f.off → is_block v (not_fresh (Some s) env) b ≡ true → ⊥
own_free run v env locals memory s b f S e live q k h =
    let o = owner v env.facts (others s env.fresh) b h in
    let i = one_other env.fresh s o.t o.one in
    let g = one_of (FreshStands run v env.facts memory) o.t env.fresh S.fresh i.0 in
    let l : pos b ≡ v o.t -ℤ value v g.f.off = subst (λ (x : Option Fact). pos b ≡ v o.t -ℤ value v (offset_in x)) g.fact o.based in
    blocks_differ run v env locals memory s o.t b f g.f S e g.fact (λ n. live n.1) (λ n. o.live n.1) q i.0 (λ x. i.1 (sym x)) k l

own_seen : (run : Run) (v : ℕ → ℤ) (env : Env) (locals : List (Option ℤ)) (memory : List Region) (s : ℕ) (f : Fact) → StandsAtAccess run v env locals memory → fact_at env.facts s ≡ Some f → v s ≢ pos 0 → is_one_of env.fresh s ≡ true → Any (IsBlock run.forms v f (v s)) memory → Any (IsAt f.name (all_values v f.args) (v s -ℤ value v f.off)) (visible v (not_fresh (Some s) env) (layout_of memory))
own_seen run v env locals memory s f S e live q h =
    let P : Extent → Type 0 = IsAt f.name (all_values v f.args) (v s -ℤ value v f.off) in
    let p : Extent → Bool = λ e. not (is_block v (not_fresh (Some s) env) e.base) in
    filter_any P p (layout_of memory)
    (map_any (λ e. (p e ≡ true) × P e) extent_of memory
    (any_to (IsBlock run.forms v f (v s)) (λ r. (p (extent_of r) ≡ true) × P (extent_of r)) memory
    (λ r k. (not_of (is_block v (not_fresh (Some s) env) r.base) (own_free run v env locals memory s r.base f S e live q k.is.based), k.is))
    h))

-- ---- facts
null_by : (v : ℕ → ℤ) (layout : List Extent) (f : Fact) (t : ℕ) (n : Bool) → f.null ≡ n → v t ≡ pos 0 → (f.null ≡ false → v t ≢ pos 0) → Points layout f.name (all_values v f.args) (value v f.off) f.null (v t)
null_by v layout f t true q z k = inl (q, z)
null_by v layout f t false q z k = absurd (k q z)

block_by : (run : Run) (v : ℕ → ℤ) (env : Env) (locals : List (Option ℤ)) (memory : List Region) (s : ℕ) (f : Fact) (z : Bool) → StandsAtAccess run v env locals memory → fact_at env.facts s ≡ Some f → is_one_of env.fresh s ≡ true → is_zero (v s) ≡ z → Points (visible v (not_fresh (Some s) env) (layout_of memory)) f.name (all_values v f.args) (value v f.off) f.null (v s)
block_by run v env locals memory s f true S e q z =
    let h = one_of (FreshStands run v env.facts memory) s env.fresh S.fresh q in
    let g = same_fact env.facts s h.f f h.fact e in
    null_by v (visible v (not_fresh (Some s) env) (layout_of memory)) f s f.null refl (is_zero-true (v s) z) (λ n. h.nonzero (ap (λ (x : Fact). x.null) g ∙ n))
block_by run v env locals memory s f false S e q z =
    let h = one_of (FreshStands run v env.facts memory) s env.fresh S.fresh q in
    let g = same_fact env.facts s h.f f h.fact e in
    let live : v s ≢ pos 0 = λ x. let w : true ≡ false = sym (zero_true (v s) x) ∙ z in cc in
    let b : Any (IsBlock run.forms v f (v s)) memory = subst (λ (x : Fact). Any (IsBlock run.forms v x (v s)) memory) g (any_drop (IsBlock run.forms v h.f (v s)) (length run.before) memory (h.block live)) in
    inr (own_seen run v env locals memory s f S e live q b)

wider : (v : ℕ → ℤ) (env : Env) (s : ℕ) (layout : List Extent) (name : ℕ) (args : List ℤ) (off : ℤ) (null : Bool) (z : ℤ) → Points (visible v env layout) name args off null z → Points (visible v (not_fresh (Some s) env) layout) name args off null z
wider v env s layout name args off null z (inl h) = inl h
wider v env s layout name args off null z (inr h) = inr (any_wider (IsAt name args (z -ℤ off)) v env s layout h)

fact_by : (run : Run) (v : ℕ → ℤ) (env : Env) (locals : List (Option ℤ)) (memory : List Region) (s t : ℕ) (f : Fact) (b : Bool) → StandsAtAccess run v env locals memory → fact_at env.facts t ≡ Some f → is_one_of (others s env.fresh) t ≡ false → is_one_of env.fresh t ≡ b → Points (visible v (not_fresh (Some s) env) (layout_of memory)) f.name (all_values v f.args) (value v f.off) f.null (v t)
fact_by run v env locals memory s t f false S e q b = wider v env s (layout_of memory) f.name (all_values v f.args) (value v f.off) f.null (v t) (S.facts t f e b)
fact_by run v env locals memory s t f true S e q b =
    let g = the_one env.fresh s t q b in
    let P : ℕ → Type 0 = λ x. Points (visible v (not_fresh (Some s) env) (layout_of memory)) f.name (all_values v f.args) (value v f.off) f.null (v x) in
    subst P (sym g) (block_by run v env locals memory s f (is_zero (v s)) S (subst (λ (x : ℕ). fact_at env.facts x ≡ Some f) g e) (subst (λ (x : ℕ). is_one_of env.fresh x ≡ true) g b) refl)

-- what the state says of symbols is true in the layout in which the symbol is not fresh
pub own-knows : (run : Run) (v : ℕ → ℤ) (env : Env) (locals : List (Option ℤ)) (memory : List Region) (s : ℕ) → StandsAtAccess run v env locals memory → Knows (not_fresh (Some s) env) v (visible v (not_fresh (Some s) env) (layout_of memory))
own-knows run v env locals memory s S =
    let m = stands-meets run v env locals memory S in
    record { meets = record { ranges = m.ranges; conds = m.conds }; facts = λ t f e q. fact_by run v env locals memory s t f (is_one_of env.fresh t) S e q refl }
