-- A fact that loses its null keeps what stands, where its symbol is not 0.
use Rattle.std.specs.Prelude.{◌≡◌, ◌≢◌, ℕ, zero, suc, ℤ, pos, ◌-ℤ◌, List, [], ◌∷◌, length, drop, filter, All, Any, Option, Some, None, Ok, slice_get, slice_set, IsSomeAnd, Bool, true, false, not, ◌&&◌, ◌⊎◌}
use Rattle.std.proofs.Common.{arith, refl, sym, ap, ◌∙◌, cond, subst, inl, inr}
use Rattle.cx_base.specs.declared.memory.Region.{Region}
use Rattle.cx_term.specs.Forms.{value, symbol_of}
use Rattle.cx_term.specs.Sums.{is_zero}
use Rattle.cx_term.proofs.Tests.{and_right}
use Rattle.cx_cells.specs.Values.{all_values}
use Rattle.cx_cells.specs.Layouts.{Extent, layout_of, Points}
use Rattle.cx_cells.specs.declared.form.Form.{Form}
use Rattle.cx_state.specs.Known.{fact_at, is_one_of}
use Rattle.cx_state.specs.Run.{Run}
use Rattle.cx_state.specs.Stands.{offset_in, region_base, region_bases, block_bases, is_base, IsPrivate, IsBlock, FreshStands, StagedStands, RegionStands, CellInRegion, IsNull, CellStands, CellIsPrivate, StandsAtAccess, Stands}
use Rattle.cx_state.specs.declared.state.Cell.{Cell}
use Rattle.cx_state.specs.declared.state.Fact.{Fact}
use Rattle.cx_state.specs.declared.state.Env.{Env}
use Rattle.cx_query.proofs.Comes.{Meets, value-symbol}
use Rattle.cx_learn.specs.Keeping.{StandsToo, KeepsRun}
use Rattle.cx_learn.specs.Learning.{nonzero_in}
use Rattle.cx_fact.specs.Telling.{told_fact, not_null, with_fact, settled_by, settled}
use Rattle.cx_learn.proofs.Learns.{Gives, nonzero_in-sound, learns-access, learns-stands, access-meets}
use Rattle.cx_fact.proofs.Regions.{same_fact}
use Rattle.cx_fact.proofs.Truths.{fact_truths}
use Rattle.cx_fact.proofs.Tells.{told_fact-gives}

-- ---- facts of a list with one changed
same_or_not : (s t : ℕ) → (t ≡ s) ⊎ (t ≢ s)
same_or_not zero zero = inl refl
same_or_not zero (suc t) = inr (λ e. cc)
same_or_not (suc s) zero = inr (λ e. cc)
same_or_not (suc s) (suc t) = next_by s t (same_or_not s t)
  where
    next_by : (s t : ℕ) → (t ≡ s) ⊎ (t ≢ s) → (suc t ≡ suc s) ⊎ (suc t ≢ suc s)
    next_by s t (inl e) = inl (ap suc e)
    next_by s t (inr n) = inr (λ e. n (omega (arith, e)))

set-same : (facts : List (Option Fact)) (s : ℕ) (f g : Fact) → fact_at facts s ≡ Some f → fact_at (slice_set facts s (Some g)) s ≡ Some g
set-same [] s f g e = absurd (cc)
set-same (x ∷ xs) zero f g e = refl
set-same (x ∷ xs) (suc s) f g e = set-same xs s f g e

set-other : (facts : List (Option Fact)) (s t : ℕ) (g : Fact) → t ≢ s → fact_at (slice_set facts s (Some g)) t ≡ fact_at facts t
set-other [] s t g n = refl
set-other (x ∷ xs) zero zero g n = absurd (n refl)
set-other (x ∷ xs) zero (suc t) g n = refl
set-other (x ∷ xs) (suc s) zero g n = refl
set-other (x ∷ xs) (suc s) (suc t) g n = set-other xs s t g (λ e. n (ap suc e))

-- ---- one symbol's fact loses its null, and it is not 0
pub record Loses (v : ℕ → ℤ) (facts : List (Option Fact)) (s : ℕ) (f : Fact) : Type 0 where
  pub was : fact_at facts s ≡ Some f
  pub nonzero : v s ≢ pos 0

abbrev pub lost : List (Option Fact) → ℕ → Fact → List (Option Fact)
lost facts s f = slice_set facts s (Some (not_null f))

offset_by : (v : ℕ → ℤ) (facts : List (Option Fact)) (s t : ℕ) (f : Fact) → Loses v facts s f → (t ≡ s) ⊎ (t ≢ s) → offset_in (fact_at (lost facts s f) t) ≡ offset_in (fact_at facts t)
offset_by v facts s t f l (inl e) =
    let a : fact_at (lost facts s f) t ≡ Some (not_null f) = ap (fact_at (lost facts s f)) e ∙ set-same facts s f (not_null f) l.was in
    let b : fact_at facts t ≡ Some f = ap (fact_at facts) e ∙ l.was in
    ap offset_in a ∙ sym (ap offset_in b)
offset_by v facts s t f l (inr n) = ap offset_in (set-other facts s t (not_null f) n)

base_same : (v : ℕ → ℤ) (facts : List (Option Fact)) (s t : ℕ) (f : Fact) → Loses v facts s f → region_base v (lost facts s f) t ≡ region_base v facts t
base_same v facts s t f l = ap (λ o. v t -ℤ value v o) (offset_by v facts s t f l (same_or_not s t))

bases_same : (v : ℕ → ℤ) (facts : List (Option Fact)) (s : ℕ) (f : Fact) (ts : List ℕ) → Loses v facts s f → region_bases v (lost facts s f) ts ≡ region_bases v facts ts
bases_same v facts s f [] l = refl
bases_same v facts s f (t ∷ ts) l = let a = base_same v facts s t f l in let b = bases_same v facts s f ts l in cc

block_by : (b : Bool) (x y : ℤ) (xs ys : List ℤ) → x ≡ y → xs ≡ ys → cond b xs (x ∷ xs) ≡ cond b ys (y ∷ ys)
block_by true x y xs ys e f = f
block_by false x y xs ys e f = cc

blocks_same : (v : ℕ → ℤ) (facts : List (Option Fact)) (s : ℕ) (f : Fact) (ts : List ℕ) → Loses v facts s f → block_bases v (lost facts s f) ts ≡ block_bases v facts ts
blocks_same v facts s f [] l = refl
blocks_same v facts s f (t ∷ ts) l = block_by (is_zero (v t)) _ _ _ _ (base_same v facts s t f l) (blocks_same v facts s f ts l)

-- the fact of a symbol afterwards is made of its fact before
fact_cases : (v : ℕ → ℤ) (facts : List (Option Fact)) (s t : ℕ) (f g : Fact) (R : Type 0) → Loses v facts s f → fact_at (lost facts s f) t ≡ Some g → (t ≡ s → not_null f ≡ g → R) → (t ≢ s → fact_at facts t ≡ Some g → R) → (t ≡ s) ⊎ (t ≢ s) → R
fact_cases v facts s t f g R l e h k (inl q) = h q (same_fact (lost facts s f) s (not_null f) g (set-same facts s f (not_null f) l.was) (subst (λ (x : ℕ). fact_at (lost facts s f) x ≡ Some g) q e))
fact_cases v facts s t f g R l e h k (inr n) = k n (sym (set-other facts s t (not_null f) n) ∙ e)

points_by : (layout : List Extent) (v : ℕ → ℤ) (s : ℕ) (f : Fact) → v s ≢ pos 0 → Points layout f.name (all_values v f.args) (value v f.off) f.null (v s) → Points layout f.name (all_values v f.args) (value v f.off) false (v s)
points_by layout v s f n (inl p) = absurd (n p.1)
points_by layout v s f n (inr h) = inr h

facts_lost : (v : ℕ → ℤ) (facts : List (Option Fact)) (fresh : List ℕ) (layout : List Extent) (s : ℕ) (f : Fact) → Loses v facts s f → ((t : ℕ) (g : Fact) → fact_at facts t ≡ Some g → is_one_of fresh t ≡ false → Points layout g.name (all_values v g.args) (value v g.off) g.null (v t)) → (t : ℕ) (g : Fact) → fact_at (lost facts s f) t ≡ Some g → is_one_of fresh t ≡ false → Points layout g.name (all_values v g.args) (value v g.off) g.null (v t)
facts_lost v facts fresh layout s f l h t g e q =
    fact_cases v facts s t f g (Points layout g.name (all_values v g.args) (value v g.off) g.null (v t)) l e
    (λ d x.
    let a : Points layout f.name (all_values v f.args) (value v f.off) f.null (v s) = h s f l.was (subst (λ (y : ℕ). is_one_of fresh y ≡ false) d q) in
    subst (λ (y : Fact). Points layout y.name (all_values v y.args) (value v y.off) y.null (v t)) x (subst (λ (y : ℕ). Points layout f.name (all_values v f.args) (value v f.off) false (v y)) (sym d) (points_by layout v s f l.nonzero a)))
    (λ d x. h t g x q)
    (same_or_not s t)

-- ---- the symbol's fact, where it had one
kept_by : (v : ℕ → ℤ) (facts : List (Option Fact)) (s t : ℕ) (f g : Fact) (R : Type 0) → Loses v facts s f → fact_at facts t ≡ Some g → (t ≡ s → f ≡ g → fact_at (lost facts s f) t ≡ Some (not_null f) → R) → (fact_at (lost facts s f) t ≡ Some g → R) → (t ≡ s) ⊎ (t ≢ s) → R
kept_by v facts s t f g R l e h k (inl q) = h q (same_fact facts s f g l.was (subst (λ (x : ℕ). fact_at facts x ≡ Some g) q e)) (ap (fact_at (lost facts s f)) q ∙ set-same facts s f (not_null f) l.was)
kept_by v facts s t f g R l e h k (inr n) = k (set-other facts s t (not_null f) n ∙ e)

block_lost : (forms : List Form) (v : ℕ → ℤ) (f : Fact) (z : ℤ) (r : Region) → IsBlock forms v f z r → IsBlock forms v (not_null f) z r
block_lost forms v f z r h = record { is = h.is; private = h.private; sized = h.sized }

any_to : {X : Type 0} (P Q : X → Type 0) (xs : List X) → ((x : X) → P x → Q x) → Any P xs → Any Q xs
any_to P Q xs f h = (h.0, h.1, h.2, h.3, f h.1 h.4)

fresh_lost : (run : Run) (v : ℕ → ℤ) (facts : List (Option Fact)) (memory : List Region) (s t : ℕ) (f : Fact) → Loses v facts s f → FreshStands run v facts memory t → FreshStands run v (lost facts s f) memory t
fresh_lost run v facts memory s t f l h =
    kept_by v facts s t f h.f (FreshStands run v (lost facts s f) memory t) l h.fact
    (λ d x e.
    let b : v t ≢ pos 0 → Any (IsBlock run.forms v f (v t)) (drop (length run.before) memory) = subst (λ (y : Fact). v t ≢ pos 0 → Any (IsBlock run.forms v y (v t)) (drop (length run.before) memory)) (sym x) h.block in
    record {
      f = not_null f;
      fact = e;
      nonzero = λ n z. l.nonzero (ap v (sym d) ∙ z);
      block = λ n. any_to (IsBlock run.forms v f (v t)) (IsBlock run.forms v (not_null f) (v t)) (drop (length run.before) memory) (block_lost run.forms v f (v t)) (b n);
    })
    (λ e. record { f = h.f; fact = e; nonzero = h.nonzero; block = h.block })
    (same_or_not s t)

staged_in : (facts : List (Option Fact)) (t : ℕ) (g : Fact) → fact_at facts t ≡ Some g → g.null ≡ false → StagedStands facts t
staged_in facts t g e n = rw e n

staged_by : (v : ℕ → ℤ) (facts : List (Option Fact)) (s t : ℕ) (f : Fact) (o : Option Fact) → Loses v facts s f → fact_at facts t ≡ o → IsSomeAnd o (λ g. g.null ≡ false) → StagedStands (lost facts s f) t
staged_by v facts s t f None l e h = absurd h
staged_by v facts s t f (Some g) l e h =
    kept_by v facts s t f g (StagedStands (lost facts s f) t) l e
    (λ d x q. staged_in (lost facts s f) t (not_null f) q refl)
    (λ q. staged_in (lost facts s f) t g q h)
    (same_or_not s t)

cell_lost : (v : ℕ → ℤ) (f : Fact) (c : Cell) (r : Region) → CellInRegion v f c r → CellInRegion v (not_null f) c r
cell_lost v f c r h = record { is = h.is; at = h.at; place = h.place; inside = h.inside; bytes = h.bytes }

held_by : (v : ℕ → ℤ) (memory : List Region) (f : Fact) (c : Cell) → v c.sym ≢ pos 0 → IsNull v f c.sym ⊎ Any (CellInRegion v f c) memory → IsNull v (not_null f) c.sym ⊎ Any (CellInRegion v (not_null f) c) memory
held_by v memory f c n (inl h) = absurd (n h.1)
held_by v memory f c n (inr h) = inr (any_to (CellInRegion v f c) (CellInRegion v (not_null f) c) memory (cell_lost v f c) h)

cells_lost : (v : ℕ → ℤ) (facts : List (Option Fact)) (memory : List Region) (s : ℕ) (f : Fact) (c : Cell) → Loses v facts s f → CellStands v facts memory c → CellStands v (lost facts s f) memory c
cells_lost v facts memory s f c l h =
    kept_by v facts s c.sym f h.f (CellStands v (lost facts s f) memory c) l h.fact
    (λ d x e.
    let k : IsNull v f c.sym ⊎ Any (CellInRegion v f c) memory = subst (λ (y : Fact). IsNull v y c.sym ⊎ Any (CellInRegion v y c) memory) (sym x) h.held in
    record { f = not_null f; fact = e; held = held_by v memory f c (λ z. l.nonzero (ap v (sym d) ∙ z)) k })
    (λ e. record { f = h.f; fact = e; held = h.held })
    (same_or_not s c.sym)

private_by : (forms : List Form) (v : ℕ → ℤ) (f : Fact) (t : ℕ) → v t ≢ pos 0 → IsNull v f t ⊎ IsPrivate forms f.name → IsNull v (not_null f) t ⊎ IsPrivate forms f.name
private_by forms v f t n (inl h) = absurd (n h.1)
private_by forms v f t n (inr h) = inr h

private_lost : (forms : List Form) (v : ℕ → ℤ) (facts : List (Option Fact)) (s : ℕ) (f : Fact) (c : Cell) → Loses v facts s f → CellIsPrivate forms v facts c → CellIsPrivate forms v (lost facts s f) c
private_lost forms v facts s f c l h =
    kept_by v facts s c.sym f h.f (CellIsPrivate forms v (lost facts s f) c) l h.fact
    (λ d x e.
    let k : IsNull v f c.sym ⊎ IsPrivate forms f.name = subst (λ (y : Fact). IsNull v y c.sym ⊎ IsPrivate forms y.name) (sym x) h.private in
    record { f = not_null f; fact = e; private = private_by forms v f c.sym (λ z. l.nonzero (ap v (sym d) ∙ z)) k })
    (λ e. record { f = h.f; fact = e; private = h.private })
    (same_or_not s c.sym)

-- ---- all of it
abbrev pub visible_by : List ℤ → List Extent → List Extent
visible_by bases layout = filter (λ e. not (is_base bases e.base)) layout

abbrev pub RegionsBy : List Form → List ℤ → List ℤ → List Extent → List Region → Type 0
RegionsBy forms blocks staged whole memory =
    All (λ r. is_base blocks r.base ≡ false → IsSomeAnd (slice_get forms r.name) (λ form. RegionStands form whole (visible_by blocks whole) (is_base staged r.base) r)) memory

pub lost-access : (run : Run) (v : ℕ → ℤ) (env : Env) (locals : List (Option ℤ)) (memory : List Region) (s : ℕ) (f : Fact) → Loses v env.facts s f → StandsAtAccess run v env locals memory → StandsAtAccess run v (with_fact env s (not_null f)) locals memory
lost-access run v env locals memory s f l S =
    let b = sym (blocks_same v env.facts s f env.fresh l) in
    record {
      locals_stand = S.locals_stand;
      ranges = S.ranges;
      conds = S.conds;
      anchors = S.anchors;
      memory_stands = S.memory_stands;
      extends = S.extends;
      fresh = λ k d i. fresh_lost run v env.facts memory s _ f l (S.fresh k d i);
      fresh_apart = λ i j d g h m n e. S.fresh_apart i j d g h m n (sym (base_same v env.facts s _ f l) ∙ e ∙ base_same v env.facts s _ f l);
      facts = facts_lost v env.facts env.fresh _ s f l (subst (λ (bs : List ℤ). (t : ℕ) (g : Fact) → fact_at env.facts t ≡ Some g → is_one_of env.fresh t ≡ false → Points (visible_by bs (layout_of memory)) g.name (all_values v g.args) (value v g.off) g.null (v t)) b S.facts);
      staged = λ k d i. staged_by v env.facts s _ f _ l refl (S.staged k d i);
      regions = subst (λ (bs : List ℤ). RegionsBy run.forms bs (region_bases v (lost env.facts s f) env.staged) (layout_of memory) memory) b (subst (λ (bs : List ℤ). RegionsBy run.forms (block_bases v env.facts env.fresh) bs (layout_of memory) memory) (sym (bases_same v env.facts s f env.staged l)) S.regions);
      cells = λ k d i. cells_lost v env.facts memory s f _ l (S.cells k d i);
    }

pub lost-stands : (run : Run) (v : ℕ → ℤ) (env : Env) (locals : List (Option ℤ)) (memory : List Region) (s : ℕ) (f : Fact) → Loses v env.facts s f → Stands run v env locals memory → Stands run v (with_fact env s (not_null f)) locals memory
lost-stands run v env locals memory s f l S =
    record { at_access = lost-access run v env locals memory s f l S.at_access; private = λ k d i. private_lost run.forms v env.facts s f _ l (S.private k d i) }

-- ---- settling
-- what a settled symbol's state is: told after the fact lost its null
told_after : (run : Run) (v : ℕ → ℤ) (env : Env) (locals : List (Option ℤ)) (memory : List Region) (s : ℕ) (f : Fact) → Loses v env.facts s f → StandsAtAccess run v env locals memory → Gives v (with_fact env s (not_null f)) (told_fact run.forms (with_fact env s (not_null f)) s (not_null f))
told_after run v env locals memory s f l S =
    let T = lost-access run v env locals memory s f l S in
    let e = set-same env.facts s f (not_null f) l.was in
    told_fact-gives run.forms v (with_fact env s (not_null f)) s (not_null f) (access-meets run v (with_fact env s (not_null f)) locals memory T) (fact_truths run v (with_fact env s (not_null f)) locals memory s (not_null f) T e)

loses : (v : ℕ → ℤ) (env : Env) (s : ℕ) (f : Fact) → fact_at env.facts s ≡ Some f → Meets env v → f.null && nonzero_in env (symbol_of s) ≡ true → Loses v env.facts s f
loses v env s f e m q =
    record { was = e; nonzero = λ z. nonzero_in-sound env v (symbol_of s) m (and_right f.null (nonzero_in env (symbol_of s)) q) (value-symbol v s ∙ z) }

access_by : (run : Run) (v : ℕ → ℤ) (env : Env) (s : ℕ) (f : Fact) (b : Bool) (next : Env) (locals : List (Option ℤ)) (memory : List Region) → fact_at env.facts s ≡ Some f → f.null && nonzero_in env (symbol_of s) ≡ b → cond b (told_fact run.forms (with_fact env s (not_null f)) s (not_null f)) (Ok env) ≡ Ok next → StandsAtAccess run v env locals memory → StandsAtAccess run v next locals memory
access_by run v env s f true next locals memory e q g S =
    let l = loses v env s f e (access-meets run v env locals memory S) q in
    learns-access run v (with_fact env s (not_null f)) next locals memory (told_after run v env locals memory s f l S next g) (lost-access run v env locals memory s f l S)
access_by run v env s f false next locals memory e q g S = subst (λ (x : Env). StandsAtAccess run v x locals memory) (cc) S

stands_by : (run : Run) (v : ℕ → ℤ) (env : Env) (s : ℕ) (f : Fact) (b : Bool) (next : Env) (locals : List (Option ℤ)) (memory : List Region) → fact_at env.facts s ≡ Some f → f.null && nonzero_in env (symbol_of s) ≡ b → cond b (told_fact run.forms (with_fact env s (not_null f)) s (not_null f)) (Ok env) ≡ Ok next → Stands run v env locals memory → Stands run v next locals memory
stands_by run v env s f true next locals memory e q g S =
    let l = loses v env s f e (access-meets run v env locals memory S.at_access) q in
    learns-stands run v (with_fact env s (not_null f)) next locals memory (told_after run v env locals memory s f l S.at_access next g) (lost-stands run v env locals memory s f l S)
stands_by run v env s f false next locals memory e q g S = subst (λ (x : Env). Stands run v x locals memory) (cc) S

option_by : (run : Run) (v : ℕ → ℤ) (env : Env) (s : ℕ) (o : Option Fact) (next : Env) → fact_at env.facts s ≡ o → settled_by run.forms env s o ≡ Ok next → StandsToo run v env next
option_by run v env s None next e g =
    let f : env ≡ next = cc in
    subst (λ (x : Env). StandsToo run v env x) f (record { at_access = λ locals memory S. S; stands = λ locals memory S. S })
option_by run v env s (Some f) next e g =
    let b = f.null && nonzero_in env (symbol_of s) in
    record {
      at_access = λ locals memory S. access_by run v env s f b next locals memory e refl g S;
      stands = λ locals memory S. stands_by run v env s f b next locals memory e refl g S;
    }

pub settled-keeps : (forms : List Form) (env : Env) (s : ℕ) (next : Env) → settled forms env s ≡ Ok next → KeepsRun forms env next
settled-keeps forms env s next e run v q = option_by run v env s (fact_at env.facts s) next refl (rw q e)
