-- The steps of opening, one by one: what stands stands afterwards.
use Rattle.std.specs.Prelude.{◌≡◌, ◌≢◌, ℕ, ℤ, ◌+◌, ◌<◌, ◌≤◌, nat_lt, List, [], ◌∷◌, ◌++◌, length, Option, Some, None, slice_set, slice_index_or, Ok, Bool, true, false, ◌⊎◌}
use Rattle.std.proofs.Common.{arith, refl, sym, ap, ◌∙◌, subst, inl, inr, length-append}
use Rattle.std.proofs.lemmas.Bool.Decides.{nat_tests}
use Rattle.std.proofs.lemmas.List.{length-set}
use Rattle.std.proofs.lemmas.List.Elements.{All-push, All-set}
use Rattle.cx_base.specs.declared.memory.Region.{Region}
use Rattle.cx_term.specs.Forms.{Linear, value}
use Rattle.cx_term.specs.Replaced.{with_value}
use Rattle.cx_term.specs.declared.term.Ineq.{Ineq}
use Rattle.cx_term.specs.declared.term.Ineq.TheVariants.{Ge, Ne}
use Rattle.cx_entail.specs.Ranges.{Span, Has}
use Rattle.cx_cells.specs.Values.{all_values}
use Rattle.cx_cells.specs.Layouts.{layout_of, Points}
use Rattle.cx_cells.specs.declared.form.Form.{Form}
use Rattle.cx_state.specs.Known.{fact_at}
use Rattle.cx_state.specs.Run.{Run}
use Rattle.cx_state.specs.Stands.{block_bases, visible, CellStands, StandsAtAccess}
use Rattle.cx_state.specs.Valid.{TermBelow, LocalBelow, CondBelow, FactBelow, OptionBelow, CellBelow, Scoped, HasType, IsValid}
use Rattle.cx_state.specs.declared.state.Cell.{Cell}
use Rattle.cx_state.specs.declared.state.Fact.{Fact}
use Rattle.cx_state.specs.declared.state.Env.{Env}
use Rattle.cx_fact.specs.Telling.{told, with_fact}
use Rattle.cx_learn.proofs.Learns.{Learns, access-meets, learns-access}
use Rattle.cx_fact.proofs.Formed.{told-valid}
use Rattle.cx_fact.proofs.Tells.{told_fact-gives}
use Rattle.cx_fact.proofs.Truths.{fact_truths}
use Rattle.cx_apart.specs.Putting.{with_cell}
use Rattle.cx_open.specs.Naming.{added}
use Rattle.cx_opens.specs.Opened.{Agree}
use Rattle.cx_opens.proofs.Lists.{fact_push-old, fact_push-cases, fact_push-at, with_value-at, with_value-agrees, same_or_not, ranges-push, set-at, set-other}
use Rattle.cx_opens.proofs.Carried.{points-agree, Keeps, blocks-same, fresh-facts, cell-stands, Carries, carried}

-- ---- what follows
pub record Follows (run : Run) (v : ℕ → ℤ) (env : Env) (locals : List (Option ℤ)) (memory : List Region) (w : ℕ → ℤ) (next : Env) : Type 0 where
  pub agrees : Agree (length env.ranges) v w
  pub count : length env.ranges ≤ length next.ranges
  pub facts : (s : ℕ) (f : Fact) → fact_at env.facts s ≡ Some f → fact_at next.facts s ≡ Some f
  pub fresh : next.fresh ≡ env.fresh
  pub blocks : block_bases w next.facts next.fresh ≡ block_bases v env.facts env.fresh
  pub stands : StandsAtAccess run w next locals memory
  pub valid : IsValid run.forms next

pub follows-same : (run : Run) (v : ℕ → ℤ) (env : Env) (locals : List (Option ℤ)) (memory : List Region) → StandsAtAccess run v env locals memory → IsValid run.forms env → Follows run v env locals memory v env
follows-same run v env locals memory S V = record { agrees = λ s l. refl; count = omega arith; facts = λ s f e. e; fresh = refl; blocks = refl; stands = S; valid = V }

pub follows-then : (run : Run) (v : ℕ → ℤ) (env : Env) (locals : List (Option ℤ)) (memory : List Region) (u w : ℕ → ℤ) (mid next : Env) → Follows run v env locals memory u mid → Follows run u mid locals memory w next → Follows run v env locals memory w next
follows-then run v env locals memory u w mid next g h =
    record {
      agrees = λ s l. h.agrees s (omega (arith, l, g.count)) ∙ g.agrees s l;
      count = omega (arith, g.count, h.count);
      facts = λ s f e. h.facts s f (g.facts s f e);
      fresh = h.fresh ∙ g.fresh;
      blocks = h.blocks ∙ g.blocks;
      stands = h.stands;
      valid = h.valid;
    }

-- ---- learning
learns_by : (run : Run) (v : ℕ → ℤ) (env : Env) (locals : List (Option ℤ)) (memory : List Region) (rs : List Span) (cs : List Ineq) → StandsAtAccess run v (record env { ranges = rs; conds = cs }) locals memory → IsValid run.forms env → IsValid run.forms (record env { ranges = rs; conds = cs }) → Follows run v env locals memory v (record env { ranges = rs; conds = cs })
learns_by run v env locals memory rs cs S V W =
    record {
      agrees = λ s l. refl;
      count = omega (arith, V.scoped.facts_count, W.scoped.facts_count);
      facts = λ s f e. e;
      fresh = refl;
      blocks = refl;
      stands = S;
      valid = W;
    }

pub learns-follows : (run : Run) (v : ℕ → ℤ) (env next : Env) (locals : List (Option ℤ)) (memory : List Region) → Learns v env next → StandsAtAccess run v env locals memory → IsValid run.forms env → IsValid run.forms next → Follows run v env locals memory v next
learns-follows run v env next locals memory a S V W =
    let T = learns-access run v env next locals memory a S in
    subst (λ (x : Env). Follows run v env locals memory v x) (sym a.is)
    (learns_by run v env locals memory a.rs a.cs (subst (λ (x : Env). StandsAtAccess run v x locals memory) a.is T) V (subst (λ (x : Env). IsValid run.forms x) a.is W))

pub told-follows : (run : Run) (v : ℕ → ℤ) (env next : Env) (locals : List (Option ℤ)) (memory : List Region) (s : ℕ) (f : Fact) → fact_at env.facts s ≡ Some f → told run.forms env s ≡ Ok next → StandsAtAccess run v env locals memory → IsValid run.forms env → Follows run v env locals memory v next
told-follows run v env next locals memory s f e q S V =
    let g = rw e at q in
    let m = access-meets run v env locals memory S in
    learns-follows run v env next locals memory (told_fact-gives run.forms v env s f m (fact_truths run v env locals memory s f S e) next g) S V (told-valid run.forms env s next q V)

-- ---- a cell

pub cell_env : (env next : Env) (c : Cell) (b : Bool) → nat_lt (length env.cells) 256 ≡ b → with_cell env c ≡ Ok next → (length env.cells < 256) × (record env { cells = env.cells ++ c ∷ [] } ≡ next)
cell_env env next c true e q = (grind (arith, nat_tests), let w = rw e at q in cc)
cell_env env next c false e q = absurd (let w = rw e at q in cc)

pub cell-valid : (forms : List Form) (env : Env) (c : Cell) → length env.cells < 256 → CellBelow (length env.ranges) c → IsValid forms env → IsValid forms (record env { cells = env.cells ++ c ∷ [] })
cell-valid forms env c l b V =
    record {
      anchors = V.anchors;
      scoped = record {
        facts_count = V.scoped.facts_count;
        locals = V.scoped.locals;
        conds = V.scoped.conds;
        facts = V.scoped.facts;
        cells = All-push (CellBelow (length env.ranges)) env.cells c V.scoped.cells b;
        staged = V.scoped.staged;
        fresh = V.scoped.fresh;
      };
      limits = record { symbols = V.limits.symbols; conds = V.limits.conds; cells = omega (arith, l, length-append env.cells (c ∷ [])); staged = V.limits.staged };
      types = V.types;
    }

keeps-same : (v : ℕ → ℤ) (env : Env) → Scoped env → Keeps v v env env.facts
keeps-same v env S = record { scoped = S; agrees = λ s l. refl; facts = λ s f e. e }

cell_by : (run : Run) (v : ℕ → ℤ) (env : Env) (locals : List (Option ℤ)) (memory : List Region) (c : Cell) → length env.cells < 256 → CellBelow (length env.ranges) c → CellStands v env.facts memory c → StandsAtAccess run v env locals memory → IsValid run.forms env → Follows run v env locals memory v (record env { cells = env.cells ++ c ∷ [] })
cell_by run v env locals memory c l b h S V =
    let C : Carries run v v env memory env.ranges env.facts (env.cells ++ c ∷ []) = record {
      anchors = V.anchors;
      keeps = keeps-same v env V.scoped;
      ranges = S.ranges;
      new = λ s f e. inl e;
      cells = All-push (CellStands v env.facts memory) env.cells c S.cells h;
    } in
    record {
      agrees = λ s l. refl;
      count = omega arith;
      facts = λ s f e. e;
      fresh = refl;
      blocks = refl;
      stands = carried run v v env locals memory env.ranges env.facts (env.cells ++ c ∷ []) C S;
      valid = cell-valid run.forms env c l b V;
    }

-- a cell that is true may be added
pub cell-follows : (run : Run) (v : ℕ → ℤ) (env next : Env) (locals : List (Option ℤ)) (memory : List Region) (c : Cell) → with_cell env c ≡ Ok next → CellBelow (length env.ranges) c → CellStands v env.facts memory c → StandsAtAccess run v env locals memory → IsValid run.forms env → Follows run v env locals memory v next
cell-follows run v env next locals memory c q b h S V =
    let e = cell_env env next c (nat_lt (length env.cells) 256) refl q in
    subst (λ (x : Env). Follows run v env locals memory v x) e.1 (cell_by run v env locals memory c e.0 b h S V)

-- ---- a fact, true at the values
pub record IsTrueFact (run : Run) (v : ℕ → ℤ) (env : Env) (memory : List Region) (z : ℤ) (f : Fact) : Type 0 where
  pub below : FactBelow (length env.ranges) f
  pub typed : HasType run.forms (Some f)
  pub points : Points (visible v env (layout_of memory)) f.name (all_values v f.args) (value v f.off) f.null z

-- ---- symbols below more
pub below-more : (n m : ℕ) (t : Linear) → n ≤ m → TermBelow n t → TermBelow m t
below-more n m t l h = λ k d i. (let x = h k d i in omega (arith, l, x))

local-more : (n m : ℕ) (o : Option Linear) → n ≤ m → LocalBelow n o → LocalBelow m o
local-more n m None l h = tt
local-more n m (Some t) l h = below-more n m t l h

cond-more : (n m : ℕ) (c : Ineq) → n ≤ m → CondBelow n c → CondBelow m c
cond-more n m (Ge t) l h = below-more n m t l h
cond-more n m (Ne t) l h = below-more n m t l h

pub fact-more : (n m : ℕ) (f : Fact) → n ≤ m → FactBelow n f → FactBelow m f
fact-more n m f l h = record { args = λ k d i. below-more n m (slice_index_or f.args k d) l (h.args k d i); off = below-more n m f.off l h.off }

option-more : (n m : ℕ) (o : Option Fact) → n ≤ m → OptionBelow n o → OptionBelow m o
option-more n m None l h = tt
option-more n m (Some f) l h = fact-more n m f l h

cell-more : (n m : ℕ) (c : Cell) → n ≤ m → CellBelow n c → CellBelow m c
cell-more n m c l h = record { sym = (let x = h.sym in omega (arith, l, x)); at = below-more n m c.at l h.at; value = below-more n m c.value l h.value }

-- ---- a new symbol
pub symbol_env : (env next : Env) (r : Span) (o : Option Fact) (b : Bool) → nat_lt (length env.ranges) 512 ≡ b → added env r o ≡ Ok next → (length env.ranges < 512) × (record env { ranges = env.ranges ++ r ∷ []; facts = env.facts ++ o ∷ [] } ≡ next)
symbol_env env next r o true e q = (grind (arith, nat_tests), let w = rw e at q in cc)
symbol_env env next r o false e q = absurd (let w = rw e at q in cc)

pub symbol-valid : (forms : List Form) (env : Env) (r : Span) (o : Option Fact) → length env.ranges < 512 → OptionBelow (length env.ranges) o → HasType forms o → IsValid forms env → IsValid forms (record env { ranges = env.ranges ++ r ∷ []; facts = env.facts ++ o ∷ [] })
symbol-valid forms env r o l b t V =
    let n = length env.ranges in
    let m = length (env.ranges ++ r ∷ []) in
    let a : m ≡ n + 1 = length-append env.ranges (r ∷ []) in
    let i : n ≤ m = omega (arith, a) in
    record {
      anchors = omega (arith, V.anchors, i);
      scoped = record {
        facts_count = omega (arith, a, length-append env.facts (o ∷ []), V.scoped.facts_count);
        locals = λ k d j. local-more n m _ i (V.scoped.locals k d j);
        conds = λ k d j. cond-more n m _ i (V.scoped.conds k d j);
        facts = All-push (OptionBelow m) env.facts o (λ k d j. option-more n m _ i (V.scoped.facts k d j)) (option-more n m o i b);
        cells = λ k d j. cell-more n m _ i (V.scoped.cells k d j);
        staged = λ k d j. (let x = V.scoped.staged k d j in omega (arith, i, x));
        fresh = λ k d j. (let x = V.scoped.fresh k d j in omega (arith, i, x));
      };
      limits = record { symbols = omega (arith, a, l); conds = V.limits.conds; cells = V.limits.cells; staged = V.limits.staged };
      types = All-push (HasType forms) env.facts o V.types t;
    }

-- where the new symbol has a fact, it is true of the number
abbrev pub IfTrueFact : Run → (ℕ → ℤ) → Env → List Region → ℤ → Option Fact → Type 0
IfTrueFact run v env memory z None = Unit {0}
IfTrueFact run v env memory z (Some f) = IsTrueFact run v env memory z f

option-below : (run : Run) (v : ℕ → ℤ) (env : Env) (memory : List Region) (z : ℤ) (o : Option Fact) → IfTrueFact run v env memory z o → OptionBelow (length env.ranges) o × HasType run.forms o
option-below run v env memory z None h = (tt, tt)
option-below run v env memory z (Some f) h = (h.below, h.typed)

if-some : (run : Run) (v : ℕ → ℤ) (env : Env) (memory : List Region) (z : ℤ) (o : Option Fact) (f : Fact) → IfTrueFact run v env memory z o → o ≡ Some f → IsTrueFact run v env memory z f
if-some run v env memory z None f h e = absurd (cc)
if-some run v env memory z (Some g) f h e = let q : g ≡ f = cc in subst (λ (x : Fact). IsTrueFact run v env memory z x) q h

new_points : (run : Run) (v : ℕ → ℤ) (env : Env) (memory : List Region) (z : ℤ) (o : Option Fact) (s : ℕ) (f : Fact) → Scoped env → IfTrueFact run v env memory z o → (fact_at env.facts s ≡ Some f) ⊎ ((s ≡ length env.facts) × (o ≡ Some f)) → (fact_at env.facts s ≡ Some f) ⊎ Points (visible v env (layout_of memory)) f.name (all_values (with_value (length env.ranges) z v) f.args) (value (with_value (length env.ranges) z v) f.off) f.null (with_value (length env.ranges) z v s)
new_points run v env memory z o s f C h (inl e) = inl e
new_points run v env memory z o s f C h (inr p) =
    let n = length env.ranges in
    let w = with_value n z v in
    let t = if-some run v env memory z o f h p.1 in
    let e : s ≡ n = p.0 ∙ C.facts_count in
    let q : w s ≡ z = ap w e ∙ with_value-at n z v in
    inr (subst (λ (x : ℤ). Points (visible v env (layout_of memory)) f.name (all_values w f.args) (value w f.off) f.null x) (sym q) (points-agree n v w (visible v env (layout_of memory)) f z (with_value-agrees n z v) t.below t.points))

symbol_by : (run : Run) (v : ℕ → ℤ) (env : Env) (locals : List (Option ℤ)) (memory : List Region) (r : Span) (o : Option Fact) (z : ℤ) → length env.ranges < 512 → Has r z → IfTrueFact run v env memory z o → StandsAtAccess run v env locals memory → IsValid run.forms env → Follows run v env locals memory (with_value (length env.ranges) z v) (record env { ranges = env.ranges ++ r ∷ []; facts = env.facts ++ o ∷ [] })
symbol_by run v env locals memory r o z l h t S V =
    let n = length env.ranges in
    let w = with_value n z v in
    let fs = env.facts ++ o ∷ [] in
    let k : Keeps v w env fs = record { scoped = V.scoped; agrees = with_value-agrees n z v; facts = λ s f e. fact_push-old env.facts o s f e } in
    let b = option-below run v env memory z o t in
    let C : Carries run v w env memory (env.ranges ++ r ∷ []) fs env.cells = record {
      anchors = V.anchors;
      keeps = k;
      ranges = ranges-push v env.ranges r z S.ranges h;
      new = λ s f e. new_points run v env memory z o s f V.scoped t (fact_push-cases env.facts o s f e);
      cells = λ i d j. cell-stands v w env fs memory _ k (V.scoped.cells i d j) (S.cells i d j);
    } in
    record {
      agrees = with_value-agrees n z v;
      count = omega (arith, length-append env.ranges (r ∷ []));
      facts = λ s f e. fact_push-old env.facts o s f e;
      fresh = refl;
      blocks = blocks-same v w env fs env.fresh k (fresh-facts run v env locals memory S);
      stands = carried run v w env locals memory (env.ranges ++ r ∷ []) fs env.cells C S;
      valid = symbol-valid run.forms env r o l b.0 b.1 V;
    }

-- a symbol of a number in its range may be added, with a fact that is true of that number
pub symbol-follows : (run : Run) (v : ℕ → ℤ) (env next : Env) (locals : List (Option ℤ)) (memory : List Region) (r : Span) (o : Option Fact) (z : ℤ) → added env r o ≡ Ok next → Has r z → IfTrueFact run v env memory z o → StandsAtAccess run v env locals memory → IsValid run.forms env → Follows run v env locals memory (with_value (length env.ranges) z v) next
symbol-follows run v env next locals memory r o z q h t S V =
    let e = symbol_env env next r o (nat_lt (length env.ranges) 512) refl q in
    subst (λ (x : Env). Follows run v env locals memory (with_value (length env.ranges) z v) x) e.1 (symbol_by run v env locals memory r o z e.0 h t S V)

pub symbol-more : (env next : Env) (r : Span) (o : Option Fact) → added env r o ≡ Ok next → length next.ranges ≡ length env.ranges + 1
symbol-more env next r o q =
    let e = symbol_env env next r o (nat_lt (length env.ranges) 512) refl q in
    sym (ap (λ (x : Env). length x.ranges) e.1) ∙ length-append env.ranges (r ∷ [])

pub symbol-facts : (env next : Env) (r : Span) (o : Option Fact) → added env r o ≡ Ok next → next.facts ≡ env.facts ++ o ∷ []
symbol-facts env next r o q = sym (ap (λ (x : Env). x.facts) (symbol_env env next r o (nat_lt (length env.ranges) 512) refl q).1)

pub symbol-fact : (env next : Env) (r : Span) (o : Option Fact) → Scoped env → added env r o ≡ Ok next → fact_at next.facts (length env.ranges) ≡ o
symbol-fact env next r o C q =
    let e = symbol_env env next r o (nat_lt (length env.ranges) 512) refl q in
    sym (ap (λ (x : Env). fact_at x.facts (length env.ranges)) e.1) ∙ ap (fact_at (env.facts ++ o ∷ [])) (sym C.facts_count) ∙ fact_push-at env.facts o

-- ---- a fact for a symbol that had none
given_old : (fs : List (Option Fact)) (t s : ℕ) (f g : Fact) → fact_at fs t ≡ None → fact_at fs s ≡ Some g → (s ≡ t) ⊎ (s ≢ t) → fact_at (slice_set fs t (Some f)) s ≡ Some g
given_old fs t s f g n e (inl q) = absurd (let w : None ≡ Some g = sym n ∙ ap (fact_at fs) (sym q) ∙ e in cc)
given_old fs t s f g n e (inr q) = set-other fs t s f q ∙ e

given_new : (fs : List (Option Fact)) (t s : ℕ) (f g : Fact) → t < length fs → fact_at (slice_set fs t (Some f)) s ≡ Some g → (s ≡ t) ⊎ (s ≢ t) → (fact_at fs s ≡ Some g) ⊎ ((s ≡ t) × (f ≡ g))
given_new fs t s f g l e (inl q) = let w : Some f ≡ Some g = sym (set-at fs t f l) ∙ ap (fact_at (slice_set fs t (Some f))) (sym q) ∙ e in inr (q, let x : f ≡ g = cc in x)
given_new fs t s f g l e (inr q) = inl (sym (set-other fs t s f q) ∙ e)

given_points : (run : Run) (v : ℕ → ℤ) (env : Env) (memory : List Region) (t s : ℕ) (f g : Fact) → IsTrueFact run v env memory (v t) f → (fact_at env.facts s ≡ Some g) ⊎ ((s ≡ t) × (f ≡ g)) → (fact_at env.facts s ≡ Some g) ⊎ Points (visible v env (layout_of memory)) g.name (all_values v g.args) (value v g.off) g.null (v s)
given_points run v env memory t s f g h (inl e) = inl e
given_points run v env memory t s f g h (inr p) =
    let a = subst (λ (x : ℕ). Points (visible v env (layout_of memory)) f.name (all_values v f.args) (value v f.off) f.null (v x)) (sym p.0) h.points in
    inr (subst (λ (x : Fact). Points (visible v env (layout_of memory)) x.name (all_values v x.args) (value v x.off) x.null (v s)) p.1 a)

pub given-follows : (run : Run) (v : ℕ → ℤ) (env : Env) (locals : List (Option ℤ)) (memory : List Region) (t : ℕ) (f : Fact) → t < length env.ranges → fact_at env.facts t ≡ None → IsTrueFact run v env memory (v t) f → StandsAtAccess run v env locals memory → IsValid run.forms env → Follows run v env locals memory v (with_fact env t f)
given-follows run v env locals memory t f l n h S V =
    let fs = slice_set env.facts t (Some f) in
    let m : t < length env.facts = omega (arith, l, V.scoped.facts_count) in
    let k : Keeps v v env fs = record { scoped = V.scoped; agrees = λ s i. refl; facts = λ s g e. given_old env.facts t s f g n e (same_or_not s t) } in
    let C : Carries run v v env memory env.ranges fs env.cells = record {
      anchors = V.anchors;
      keeps = k;
      ranges = S.ranges;
      new = λ s g e. given_points run v env memory t s f g h (given_new env.facts t s f g m e (same_or_not s t));
      cells = λ i d j. cell-stands v v env fs memory _ k (V.scoped.cells i d j) (S.cells i d j);
    } in
    record {
      agrees = λ s i. refl;
      count = omega arith;
      facts = k.facts;
      fresh = refl;
      blocks = blocks-same v v env fs env.fresh k (fresh-facts run v env locals memory S);
      stands = carried run v v env locals memory env.ranges fs env.cells C S;
      valid = record {
        anchors = V.anchors;
        scoped = record {
          facts_count = length-set env.facts t (Some f) ∙ V.scoped.facts_count;
          locals = V.scoped.locals;
          conds = V.scoped.conds;
          facts = All-set (OptionBelow (length env.ranges)) env.facts t (Some f) h.below V.scoped.facts;
          cells = V.scoped.cells;
          staged = V.scoped.staged;
          fresh = V.scoped.fresh;
        };
        limits = record { symbols = V.limits.symbols; conds = V.limits.conds; cells = V.limits.cells; staged = V.limits.staged };
        types = All-set (HasType run.forms) env.facts t (Some f) h.typed V.types;
      };
    }
