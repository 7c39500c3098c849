-- A state with further symbols, facts and cells stands where these are true, for values that agree on the symbols that there were.
use Rattle.std.specs.Prelude.{◌≡◌, ℕ, ℤ, ◌+◌, ◌<◌, ◌≤◌, List, [], ◌∷◌, length, drop, All, Any, Option, Some, None, slice_get, IsSomeAnd, Bool, true, false, ◌⊎◌}
use Rattle.std.specs.List.{AllByRecursion}
use Rattle.std.proofs.Common.{arith, refl, sym, ap, ◌∙◌, cond, subst, inl, inr}
use Rattle.std.proofs.lemmas.Option.{slice_get_within}
use Rattle.cx_base.specs.declared.memory.Region.{Region}
use Rattle.cx_term.specs.Forms.{Linear, value, value_parts}
use Rattle.cx_term.specs.Conditions.{Holds}
use Rattle.cx_term.specs.Sums.{is_zero}
use Rattle.cx_term.specs.declared.term.Ineq.{Ineq}
use Rattle.cx_term.specs.declared.term.Ineq.TheVariants.{Ge, Ne}
use Rattle.cx_entail.specs.Bounds.{InRanges}
use Rattle.cx_entail.specs.Ranges.{Span}
use Rattle.cx_cells.specs.Values.{all_values}
use Rattle.cx_cells.specs.Layouts.{Extent, layout_of, Points}
use Rattle.cx_cells.specs.declared.form.Form.{Form}
use Rattle.cx_state.specs.Known.{inner, fact_at, is_one_of}
use Rattle.cx_state.specs.Run.{Run}
use Rattle.cx_state.specs.Stands.{AnchorsStand, region_base, region_bases, block_bases, IsBlock, FreshStands, StagedStands, CellInRegion, IsNull, CellStands, StandsAtAccess, visible}
use Rattle.cx_state.specs.Valid.{TermBelow, LocalBelow, CondBelow, FactBelow, OptionBelow, CellBelow, Scoped, HasType, IsValid}
use Rattle.cx_state.specs.declared.state.Cell.{Cell}
use Rattle.cx_state.specs.declared.state.Fact.{Fact}
use Rattle.cx_state.specs.declared.state.Env.{Env}
use Rattle.cx_learn.proofs.Below.{Below, to_recursion}
use Rattle.cx_fact.proofs.Settles.{visible_by, RegionsBy}
use Rattle.cx_apart.proofs.Places.{all_get}
use Rattle.cx_opens.specs.Opened.{Agree}

-- ---- forms of the symbols that there were
parts-agree : (n : ℕ) (v w : ℕ → ℤ) (ps : List (ℕ × ℤ)) → Agree n v w → Below n ps → value_parts w ps ≡ value_parts v ps
parts-agree n v w [] a h = refl
parts-agree n v w (p ∷ ps) a h = rw (a p.0 h.0, parts-agree n v w ps a h.1) refl

pub value-agrees : (n : ℕ) (v w : ℕ → ℤ) (t : Linear) → Agree n v w → TermBelow n t → value w t ≡ value v t
value-agrees n v w t a h = rw (parts-agree n v w t.parts a (to_recursion (λ p. p.0 < n) t.parts h)) refl

each-agrees : (n : ℕ) (v w : ℕ → ℤ) (ts : List Linear) → Agree n v w → AllByRecursion (TermBelow n) ts → all_values w ts ≡ all_values v ts
each-agrees n v w [] a h = refl
each-agrees n v w (t ∷ ts) a h = rw (value-agrees n v w t a h.0, each-agrees n v w ts a h.1) refl

pub values-agree : (n : ℕ) (v w : ℕ → ℤ) (ts : List Linear) → Agree n v w → All (TermBelow n) ts → all_values w ts ≡ all_values v ts
values-agree n v w ts a h = each-agrees n v w ts a (to_recursion (TermBelow n) ts h)

holds-agrees : (n : ℕ) (v w : ℕ → ℤ) (c : Ineq) → Agree n v w → CondBelow n c → Holds v c → Holds w c
holds-agrees n v w (Ge t) a b h = rw (value-agrees n v w t a b) h
holds-agrees n v w (Ne t) a b h = rw (value-agrees n v w t a b) h

conds-agree : (n : ℕ) (v w : ℕ → ℤ) (cs : List Ineq) → Agree n v w → AllByRecursion (CondBelow n) cs → AllByRecursion (Holds v) cs → AllByRecursion (Holds w) cs
conds-agree n v w [] a b h = tt
conds-agree n v w (c ∷ cs) a b h = (holds-agrees n v w c a b.0 h.0, conds-agree n v w cs a b.1 h.1)

pub points-agree : (n : ℕ) (v w : ℕ → ℤ) (layout : List Extent) (f : Fact) (z : ℤ) → Agree n v w → FactBelow n f → Points layout f.name (all_values v f.args) (value v f.off) f.null z → Points layout f.name (all_values w f.args) (value w f.off) f.null z
points-agree n v w layout f z a b h = rw (values-agree n v w f.args a b.args, value-agrees n v w f.off a b.off) h

-- ---- facts of the symbols that there were
inner_some : (o : Option (Option Fact)) (f : Fact) → inner o ≡ Some f → o ≡ Some (Some f)
inner_some None f e = absurd (cc)
inner_some (Some x) f e = ap Some e

pub fact-get : (facts : List (Option Fact)) (s : ℕ) (f : Fact) → fact_at facts s ≡ Some f → slice_get facts s ≡ Some (Some f)
fact-get facts s f e = inner_some (slice_get facts s) f e

pub fact-below : (env : Env) (s : ℕ) (f : Fact) → Scoped env → fact_at env.facts s ≡ Some f → FactBelow (length env.ranges) f
fact-below env s f S e = all_get (OptionBelow (length env.ranges)) env.facts s (Some f) S.facts (fact-get env.facts s f e)

pub fact-type : (forms : List Form) (env : Env) (s : ℕ) (f : Fact) → IsValid forms env → fact_at env.facts s ≡ Some f → HasType forms (Some f)
fact-type forms env s f V e = all_get (HasType forms) env.facts s (Some f) V.types (fact-get env.facts s f e)

pub fact-within : (env : Env) (s : ℕ) (f : Fact) → Scoped env → fact_at env.facts s ≡ Some f → s < length env.ranges
fact-within env s f S e = let l : s < length env.facts = slice_get_within env.facts s (Some f) (fact-get env.facts s f e) in omega (arith, l, S.facts_count)

-- ---- what is added is true
-- the state with these ranges, facts and cells
abbrev pub with_more : Env → List Span → List (Option Fact) → List Cell → Env
with_more env rs fs cs = record env { ranges = rs; facts = fs; cells = cs }

-- the values agree on the symbols that there were, and each fact stays
pub record Keeps (v w : ℕ → ℤ) (env : Env) (fs : List (Option Fact)) : Type 0 where
  pub scoped : Scoped env
  pub agrees : Agree (length env.ranges) v w
  pub facts : (s : ℕ) (f : Fact) → fact_at env.facts s ≡ Some f → fact_at fs s ≡ Some f

base_same : (v w : ℕ → ℤ) (env : Env) (fs : List (Option Fact)) (s : ℕ) (f : Fact) → Keeps v w env fs → fact_at env.facts s ≡ Some f → region_base w fs s ≡ region_base v env.facts s
base_same v w env fs s f k e =
    let a = k.agrees s (fact-within env s f k.scoped e) in
    let b = value-agrees (length env.ranges) v w f.off k.agrees (fact-below env s f k.scoped e).off in
    rw (k.facts s f e, e, a, b) refl

-- the symbol has a fact
pub record HasFact (env : Env) (s : ℕ) : Type 0 where
  pub f : Fact
  pub fact : fact_at env.facts s ≡ Some f

bases_same : (v w : ℕ → ℤ) (env : Env) (fs : List (Option Fact)) (ss : List ℕ) → Keeps v w env fs → AllByRecursion (HasFact env) ss → region_bases w fs ss ≡ region_bases v env.facts ss
bases_same v w env fs [] k h = refl
bases_same v w env fs (s ∷ ss) k h =
    let a = base_same v w env fs s h.0.f k h.0.fact in
    let b = bases_same v w env fs ss k h.1 in
    cc

block_by : (b : Bool) (x y : ℤ) (xs ys : List ℤ) → x ≡ y → xs ≡ ys → cond b xs (x ∷ xs) ≡ cond b ys (y ∷ ys)
block_by true x y xs ys e f = f
block_by false x y xs ys e f = cc

pub blocks-same : (v w : ℕ → ℤ) (env : Env) (fs : List (Option Fact)) (ss : List ℕ) → Keeps v w env fs → AllByRecursion (HasFact env) ss → block_bases w fs ss ≡ block_bases v env.facts ss
blocks-same v w env fs [] k h = refl
blocks-same v w env fs (s ∷ ss) k h =
    let a = k.agrees s (fact-within env s h.0.f k.scoped h.0.fact) in
    subst (λ (b : Bool). cond (is_zero (w s)) (block_bases w fs ss) (region_base w fs s ∷ block_bases w fs ss) ≡ cond b (block_bases v env.facts ss) (region_base v env.facts s ∷ block_bases v env.facts ss)) (ap is_zero a) (block_by (is_zero (w s)) _ _ _ _ (base_same v w env fs s h.0.f k h.0.fact) (blocks-same v w env fs ss k h.1))

block_carried : (forms : List Form) (n : ℕ) (v w : ℕ → ℤ) (f : Fact) (z : ℤ) (r : Region) → Agree n v w → FactBelow n f → IsBlock forms v f z r → IsBlock forms w f z r
block_carried forms n v w f z r a b h = record { is = rw (values-agree n v w f.args a b.args, value-agrees n v w f.off a b.off) h.is; private = h.private; sized = h.sized }

any_to : {X : Type 0} (P Q : X → Type 0) (xs : List X) → ((x : X) → P x → Q x) → Any P xs → Any Q xs
any_to P Q xs f h = (h.0, h.1, h.2, h.3, f h.1 h.4)

fresh_carried : (run : Run) (v w : ℕ → ℤ) (env : Env) (fs : List (Option Fact)) (memory : List Region) (s : ℕ) → Keeps v w env fs → FreshStands run v env.facts memory s → FreshStands run w fs memory s
fresh_carried run v w env fs memory s k h =
    let e = k.agrees s (fact-within env s h.f k.scoped h.fact) in
    let b = fact-below env s h.f k.scoped h.fact in
    record {
      f = h.f;
      fact = k.facts s h.f h.fact;
      nonzero = λ n z. h.nonzero n (sym e ∙ z);
      block = λ n.
          rw e (any_to (IsBlock run.forms v h.f (v s)) (IsBlock run.forms w h.f (v s)) (drop (length run.before) memory) (λ r p. block_carried run.forms (length env.ranges) v w h.f (v s) r k.agrees b p) (h.block (λ z. n (e ∙ z))));
    }

staged_fact : (env : Env) (s : ℕ) (o : Option Fact) → fact_at env.facts s ≡ o → IsSomeAnd o (λ f. f.null ≡ false) → HasFact env s
staged_fact env s None e h = absurd h
staged_fact env s (Some f) e h = record { f = f; fact = e }

staged_by : (v w : ℕ → ℤ) (env : Env) (fs : List (Option Fact)) (s : ℕ) (o : Option Fact) → Keeps v w env fs → fact_at env.facts s ≡ o → IsSomeAnd o (λ f. f.null ≡ false) → StagedStands fs s
staged_by v w env fs s None k e h = absurd h
staged_by v w env fs s (Some f) k e h = rw (k.facts s f e) h

cell_carried : (v w : ℕ → ℤ) (env : Env) (f : Fact) (c : Cell) (r : Region) → Agree (length env.ranges) v w → FactBelow (length env.ranges) f → CellBelow (length env.ranges) c → CellInRegion v f c r → CellInRegion w f c r
cell_carried v w env f c r a b d h =
    let n = length env.ranges in
    let off = value-agrees n v w f.off a b.off in
    record {
      is = rw (values-agree n v w f.args a b.args, off, a c.sym d.sym) h.is;
      at = h.at;
      place = rw (off, value-agrees n v w c.at a d.at) h.place;
      inside = h.inside;
      bytes = rw (value-agrees n v w c.value a d.value) h.bytes;
    }

held_by : (v w : ℕ → ℤ) (env : Env) (memory : List Region) (f : Fact) (c : Cell) → Agree (length env.ranges) v w → FactBelow (length env.ranges) f → CellBelow (length env.ranges) c → IsNull v f c.sym ⊎ Any (CellInRegion v f c) memory → IsNull w f c.sym ⊎ Any (CellInRegion w f c) memory
held_by v w env memory f c a b d (inl h) = inl (h.0, a c.sym d.sym ∙ h.1)
held_by v w env memory f c a b d (inr h) = inr (any_to (CellInRegion v f c) (CellInRegion w f c) memory (λ r p. cell_carried v w env f c r a b d p) h)

-- a cell that stood stands
pub cell-stands : (v w : ℕ → ℤ) (env : Env) (fs : List (Option Fact)) (memory : List Region) (c : Cell) → Keeps v w env fs → CellBelow (length env.ranges) c → CellStands v env.facts memory c → CellStands w fs memory c
cell-stands v w env fs memory c k d h =
    record { f = h.f; fact = k.facts c.sym h.f h.fact; held = held_by v w env memory h.f c k.agrees (fact-below env c.sym h.f k.scoped h.fact) d h.held }

pub fresh-facts : (run : Run) (v : ℕ → ℤ) (env : Env) (locals : List (Option ℤ)) (memory : List Region) → StandsAtAccess run v env locals memory → AllByRecursion (HasFact env) env.fresh
fresh-facts run v env locals memory S = to_recursion (HasFact env) env.fresh (λ i d l. record { f = (S.fresh i d l).f; fact = (S.fresh i d l).fact })

-- what is new is true
pub record Carries (run : Run) (v w : ℕ → ℤ) (env : Env) (memory : List Region) (rs : List Span) (fs : List (Option Fact)) (cs : List Cell) : Type 0 where
  pub anchors : 40 ≤ length env.ranges
  pub keeps : Keeps v w env fs
  pub ranges : InRanges rs w
  pub new : (s : ℕ) (f : Fact) → fact_at fs s ≡ Some f → (fact_at env.facts s ≡ Some f) ⊎ Points (visible v env (layout_of memory)) f.name (all_values w f.args) (value w f.off) f.null (w s)
  pub cells : All (CellStands w fs memory) cs

fact_carried : (v w : ℕ → ℤ) (env : Env) (fs : List (Option Fact)) (layout : List Extent) (s : ℕ) (f : Fact) → Keeps v w env fs → ((t : ℕ) (g : Fact) → fact_at env.facts t ≡ Some g → is_one_of env.fresh t ≡ false → Points layout g.name (all_values v g.args) (value v g.off) g.null (v t)) → is_one_of env.fresh s ≡ false → (fact_at env.facts s ≡ Some f) ⊎ Points layout f.name (all_values w f.args) (value w f.off) f.null (w s) → Points layout f.name (all_values w f.args) (value w f.off) f.null (w s)
fact_carried v w env fs layout s f k h q (inl e) =
    let n = length env.ranges in
    rw (k.agrees s (fact-within env s f k.scoped e)) (points-agree n v w layout f (v s) k.agrees (fact-below env s f k.scoped e) (h s f e q))
fact_carried v w env fs layout s f k h q (inr p) = p

anchors_carried : (run : Run) (v w : ℕ → ℤ) (n : ℕ) → 40 ≤ n → Agree n v w → AnchorsStand run v → AnchorsStand run w
anchors_carried run v w n l a h = record { binders = λ k i. a k (omega (arith, l, i)) ∙ h.binders k i; globals = λ j i. a (24 + j) (omega (arith, l, i)) ∙ h.globals j i }

pub carried : (run : Run) (v w : ℕ → ℤ) (env : Env) (locals : List (Option ℤ)) (memory : List Region) (rs : List Span) (fs : List (Option Fact)) (cs : List Cell) → Carries run v w env memory rs fs cs → StandsAtAccess run v env locals memory → StandsAtAccess run w (with_more env rs fs cs) locals memory
carried run v w env locals memory rs fs cs C S =
    let k = C.keeps in
    let n = length env.ranges in
    let layout = layout_of memory in
    let fresh_facts = fresh-facts run v env locals memory S in
    let staged_facts = to_recursion (HasFact env) env.staged (λ i d l. staged_fact env _ _ refl (S.staged i d l)) in
    let b = sym (blocks-same v w env fs env.fresh k fresh_facts) in
    let g = sym (bases_same v w env fs env.staged k staged_facts) in
    record {
      locals_stand = λ i t e. S.locals_stand i t e ∙ ap (λ (z : ℤ). Some (Some z)) (sym (value-agrees n v w t k.agrees (all_get (LocalBelow n) env.locals i (Some t) k.scoped.locals e)));
      ranges = C.ranges;
      conds = conds-agree n v w env.conds k.agrees (to_recursion (CondBelow n) env.conds k.scoped.conds) S.conds;
      anchors = anchors_carried run v w n C.anchors k.agrees S.anchors;
      memory_stands = S.memory_stands;
      extends = S.extends;
      fresh = λ i d l. fresh_carried run v w env fs memory _ k (S.fresh i d l);
      fresh_apart = λ i j d x y p q e.
          let s = S.fresh i d (omega (arith, x, y)) in
          let t = S.fresh j d y in
          let z = base_same v w env fs _ s.f k s.fact in
          let u = base_same v w env fs _ t.f k t.fact in
          S.fresh_apart i j d x y (λ o. p (k.agrees _ (fact-within env _ s.f k.scoped s.fact) ∙ o)) (λ o. q (k.agrees _ (fact-within env _ t.f k.scoped t.fact) ∙ o)) (sym z ∙ e ∙ u);
      facts = subst (λ (bs : List ℤ). (s : ℕ) (f : Fact) → fact_at fs s ≡ Some f → is_one_of env.fresh s ≡ false → Points (visible_by bs layout) f.name (all_values w f.args) (value w f.off) f.null (w s)) b (λ s f e q. fact_carried v w env fs _ s f k S.facts q (C.new s f e));
      staged = λ i d l. staged_by v w env fs _ _ k refl (S.staged i d l);
      regions = subst (λ (bs : List ℤ). RegionsBy run.forms bs (region_bases w fs env.staged) layout memory) b (subst (λ (bs : List ℤ). RegionsBy run.forms (block_bases v env.facts env.fresh) bs layout memory) g S.regions);
      cells = C.cells;
    }
