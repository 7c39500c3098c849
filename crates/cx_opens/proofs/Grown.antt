-- What opening makes of a valid state is valid: step by step, whether or not the state stands.
use Rattle.std.specs.Prelude.{◌≡◌, ℕ, ℤ, ◌<◌, ◌≤◌, ◌≢◌, nat_lt, List, [], ◌∷◌, ◌++◌, length, slice_index_or, slice_set, All, Option, Some, None, Ok, Bool, true, false, ◌&&◌, ◌⊎◌}
use Rattle.std.proofs.Common.{arith, refl, sym, ap, ◌∙◌, cond, subst, length-append, inl, inr}
use Rattle.std.proofs.lemmas.List.{length-set}
use Rattle.std.proofs.lemmas.List.Elements.{All-push, All-set}
use Rattle.cx_term.specs.Forms.{Linear, symbol_of}
use Rattle.cx_term.specs.declared.term.Ineq.{Ineq}
use Rattle.cx_term.specs.declared.term.Ineq.TheVariants.{Ge, Ne}
use Rattle.cx_entail.specs.Ranges.{Span}
use Rattle.cx_cells.specs.declared.form.Form.{Form}
use Rattle.cx_state.specs.Known.{fact_at}
use Rattle.cx_state.specs.Valid.{TermBelow, FactBelow, OptionBelow, CellBelow, HasType, IsValid}
use Rattle.cx_state.specs.declared.state.Cell.{Cell}
use Rattle.cx_state.specs.declared.state.Fact.{Fact}
use Rattle.cx_state.specs.declared.state.Env.{Env}
use Rattle.cx_query.specs.Kinds.{instance}
use Rattle.cx_query.specs.Shown.{difference, number}
use Rattle.cx_learn.specs.Learning.{learnt_if, nonzero_in}
use Rattle.cx_learn.proofs.Below.{IfBelow, some-below, number-below, difference-below, symbol-below}
use Rattle.cx_learn.proofs.Valids.{Formed, valid-base, formed-valid, learnt_if-forms, learnt-forms}
use Rattle.cx_fact.specs.Telling.{not_null, with_fact, told_fact, told, settled_by, settled}
use Rattle.cx_fact.proofs.Formed.{told_fact-forms}
use Rattle.cx_fact.proofs.Regions.{same_fact}
use Rattle.cx_apart.specs.Putting.{with_cell}
use Rattle.cx_open.specs.Naming.{added, named}
use Rattle.cx_open.specs.Cells.{learnt_ne_if, learnt_with, learnt_all, learnt_equal, learnt_ends}
use Rattle.cx_open.specs.declared.naming.Named.{Named}
use Rattle.cx_opens.specs.Opened.{SaysStill}
use Rattle.cx_opens.proofs.Carried.{fact-below, fact-within, fact-type}
use Rattle.cx_opens.proofs.Lists.{fact_push-old, set-at, set-other, same_or_not}
use Rattle.cx_opens.proofs.Steps.{cell_env, cell-valid, symbol_env, symbol-valid, symbol-more, below-more}
use Rattle.cx_opens.proofs.Terms.{then-ok, bind-ok, instance-within}
use Rattle.cx_opens.proofs.Conds.{if-more}

-- ---- one step
-- the second state is valid, and has no fewer symbols, the same locals, fresh and staged ones, all facts, and no further cells but
-- of the symbol s
pub record Grown (forms : List Form) (s : ℕ) (env next : Env) : Type 1 where
  pub valid : IsValid forms next
  pub count : length env.ranges ≤ length next.ranges
  pub locals : next.locals ≡ env.locals
  pub fresh : next.fresh ≡ env.fresh
  pub staged : next.staged ≡ env.staged
  pub facts : (t : ℕ) (f : Fact) → fact_at env.facts t ≡ Some f → SaysStill next.facts t f
  pub cells : (P : ℕ → Type 0) → P s → All (λ c. P c.sym) env.cells → All (λ c. P c.sym) next.cells

still-same : (facts : List (Option Fact)) (t : ℕ) (f : Fact) → fact_at facts t ≡ Some f → SaysStill facts t f
still-same facts t f e = record { g = f; fact = e; name = refl; args = refl; off = refl; null = λ n. n }

still-then : (facts : List (Option Fact)) (t : ℕ) (f g : Fact) → g.name ≡ f.name → g.args ≡ f.args → g.off ≡ f.off → (g.null ≡ true → f.null ≡ true) → SaysStill facts t g → SaysStill facts t f
still-then facts t f g n a o k h = record { g = h.g; fact = h.fact; name = h.name ∙ n; args = h.args ∙ a; off = h.off ∙ o; null = λ e. k (h.null e) }

pub grown-same : (forms : List Form) (s : ℕ) (env next : Env) → env ≡ next → IsValid forms env → Grown forms s env next
grown-same forms s env next e V = subst (λ (x : Env). Grown forms s env x) e (record { valid = V; count = omega arith; locals = refl; fresh = refl; staged = refl; facts = still-same env.facts; cells = λ P p h. h })

pub grown-then : (forms : List Form) (s : ℕ) (env mid next : Env) → Grown forms s env mid → Grown forms s mid next → Grown forms s env next
grown-then forms s env mid next g h =
    record {
      valid = h.valid;
      count = omega (arith, g.count, h.count);
      locals = h.locals ∙ g.locals;
      fresh = h.fresh ∙ g.fresh;
      staged = h.staged ∙ g.staged;
      facts = λ t f e. (let a = g.facts t f e in still-then next.facts t f a.g a.name a.args a.off a.null (h.facts t a.g a.fact));
      cells = λ P p k. h.cells P p (g.cells P p k);
    }

formed-grown : (forms : List Form) (s : ℕ) (env next : Env) → Formed (length env.ranges) env next → IsValid forms env → Grown forms s env next
formed-grown forms s env next a V =
    let n : length next.ranges ≡ length env.ranges = ap (λ (x : Env). length x.ranges) a.is ∙ a.base.count in
    record {
      valid = formed-valid forms env next a V;
      count = omega (arith, n);
      locals = ap (λ (x : Env). x.locals) a.is;
      fresh = ap (λ (x : Env). x.fresh) a.is;
      staged = ap (λ (x : Env). x.staged) a.is;
      facts = λ t f e. still-same next.facts t f (ap (λ (x : Env). fact_at x.facts t) a.is ∙ e);
      cells = λ P p h. subst (λ (cs : List Cell). All (λ c. P c.sym) cs) (sym (ap (λ (x : Env). x.cells) a.is)) h;
    }

pub if-grown : (forms : List Form) (s : ℕ) (env next : Env) (o : Option Linear) → learnt_if env o ≡ Ok next → IfBelow (length env.ranges) o → IsValid forms env → Grown forms s env next
if-grown forms s env next o q b V = formed-grown forms s env next (learnt_if-forms (length env.ranges) env o (valid-base forms env V) b next q) V

told_fact-grown : (forms : List Form) (s : ℕ) (env next : Env) (t : ℕ) (f : Fact) → fact_at env.facts t ≡ Some f → told_fact forms env t f ≡ Ok next → IsValid forms env → Grown forms s env next
told_fact-grown forms s env next t f e q V =
    formed-grown forms s env next (told_fact-forms forms (length env.ranges) env t f (valid-base forms env V) (fact-within env t f V.scoped e) (fact-below env t f V.scoped e) next q) V

pub told-grown : (forms : List Form) (s : ℕ) (env next : Env) (t : ℕ) (f : Fact) → fact_at env.facts t ≡ Some f → told forms env t ≡ Ok next → IsValid forms env → Grown forms s env next
told-grown forms s env next t f e q V = told_fact-grown forms s env next t f e (rw e at q) V

pub cell-grown : (forms : List Form) (env next : Env) (c : Cell) → with_cell env c ≡ Ok next → CellBelow (length env.ranges) c → IsValid forms env → Grown forms c.sym env next
cell-grown forms env next c q b V =
    let e = cell_env env next c (nat_lt (length env.cells) 256) refl q in
    subst (λ (x : Env). Grown forms c.sym env x) e.1
    (record {
      valid = cell-valid forms env c e.0 b V;
      count = omega arith;
      locals = refl;
      fresh = refl;
      staged = refl;
      facts = still-same env.facts;
      cells = λ P p h. All-push (λ c. P c.sym) env.cells c h p;
    })

pub symbol-grown : (forms : List Form) (s : ℕ) (env next : Env) (r : Span) (o : Option Fact) → added env r o ≡ Ok next → OptionBelow (length env.ranges) o → HasType forms o → IsValid forms env → Grown forms s env next
symbol-grown forms s env next r o q b t V =
    let e = symbol_env env next r o (nat_lt (length env.ranges) 512) refl q in
    subst (λ (x : Env). Grown forms s env x) e.1
    (record { valid = symbol-valid forms env r o e.0 b t V; count = omega (arith, length-append env.ranges (r ∷ [])); locals = refl; fresh = refl; staged = refl; facts = λ u f k. still-same (env.facts ++ o ∷ []) u f (fact_push-old env.facts o u f k); cells = λ P p h. h })

-- f says what each fact says that it replaces, but for a null
abbrev pub Replaces : List (Option Fact) → ℕ → Fact → Type 0
Replaces facts t f = (h : Fact) → fact_at facts t ≡ Some h → (f.name ≡ h.name) × (f.args ≡ h.args) × (f.off ≡ h.off) × (f.null ≡ true → h.null ≡ true)

given_still : (facts : List (Option Fact)) (t u : ℕ) (f g : Fact) → t < length facts → Replaces facts t f → fact_at facts u ≡ Some g → (u ≡ t) ⊎ (u ≢ t) → SaysStill (slice_set facts t (Some f)) u g
given_still facts t u f g l r e (inl q) =
    let a = r g (ap (fact_at facts) (sym q) ∙ e) in
    record { g = f; fact = ap (fact_at (slice_set facts t (Some f))) q ∙ set-at facts t f l; name = a.0; args = a.1; off = a.2; null = a.3 }
given_still facts t u f g l r e (inr q) = still-same (slice_set facts t (Some f)) u g (set-other facts t u f q ∙ e)

pub given-grown : (forms : List Form) (s : ℕ) (env : Env) (t : ℕ) (f : Fact) → t < length env.facts → Replaces env.facts t f → FactBelow (length env.ranges) f → HasType forms (Some f) → IsValid forms env → Grown forms s env (with_fact env t f)
given-grown forms s env t f l r b h V =
    record {
      valid = record {
        anchors = V.anchors;
        scoped = record {
          facts_count = length-set env.facts t (Some f) ∙ V.scoped.facts_count;
          locals = V.scoped.locals;
          conds = V.scoped.conds;
          facts = All-set (OptionBelow (length env.ranges)) env.facts t (Some f) b V.scoped.facts;
          cells = V.scoped.cells;
          staged = V.scoped.staged;
          fresh = V.scoped.fresh;
        };
        limits = record { symbols = V.limits.symbols; conds = V.limits.conds; cells = V.limits.cells; staged = V.limits.staged };
        types = All-set (HasType forms) env.facts t (Some f) h V.types;
      };
      count = omega arith;
      locals = refl;
      fresh = refl;
      staged = refl;
      facts = λ u g e. given_still env.facts t u f g l r e (same_or_not u t);
      cells = λ P p k. k;
    }

-- ---- settling
without_null : (facts : List (Option Fact)) (t : ℕ) (f : Fact) → fact_at facts t ≡ Some f → Replaces facts t (not_null f)
without_null facts t f e h k =
    let w = same_fact facts t f h e k in
    (ap (λ (x : Fact). x.name) w, ap (λ (x : Fact). x.args) w, ap (λ (x : Fact). x.off) w, λ n. absurd (let y : false ≡ true = n in cc))

settle_by : (forms : List Form) (s : ℕ) (env next : Env) (t : ℕ) (f : Fact) (b : Bool) → fact_at env.facts t ≡ Some f → cond b (told_fact forms (with_fact env t (not_null f)) t (not_null f)) (Ok env) ≡ Ok next → IsValid forms env → Grown forms s env next
settle_by forms s env next t f true e q V =
    let b = fact-below env t f V.scoped e in
    let l = fact-within env t f V.scoped e in
    let h = fact-type forms env t f V e in
    let m : t < length env.facts = omega (arith, l, V.scoped.facts_count) in
    let G = given-grown forms s env t (not_null f) m (without_null env.facts t f e) (record { args = b.args; off = b.off }) h V in
    grown-then forms s env (with_fact env t (not_null f)) next G (told_fact-grown forms s (with_fact env t (not_null f)) next t (not_null f) (set-at env.facts t (not_null f) m) q G.valid)
settle_by forms s env next t f false e q V = grown-same forms s env next (let w : env ≡ next = cc in w) V

settle_option : (forms : List Form) (s : ℕ) (env next : Env) (t : ℕ) (o : Option Fact) → fact_at env.facts t ≡ o → settled_by forms env t o ≡ Ok next → IsValid forms env → Grown forms s env next
settle_option forms s env next t None e q V = grown-same forms s env next (let w : env ≡ next = cc in w) V
settle_option forms s env next t (Some f) e q V = settle_by forms s env next t f (f.null && nonzero_in env (symbol_of t)) e q V

pub settled-grown : (forms : List Form) (s : ℕ) (env next : Env) (t : ℕ) → settled forms env t ≡ Ok next → IsValid forms env → Grown forms s env next
settled-grown forms s env next t q V = settle_option forms s env next t (fact_at env.facts t) refl q V

-- ---- conditions
ne-grown : (forms : List Form) (s : ℕ) (env next : Env) (o : Option Linear) → learnt_ne_if env o ≡ Ok next → IfBelow (length env.ranges) o → IsValid forms env → Grown forms s env next
ne-grown forms s env next None q b V = grown-same forms s env next (let w : env ≡ next = cc in w) V
ne-grown forms s env next (Some u) q b V = formed-grown forms s env next (learnt-forms (length env.ranges) env (Ne u) (valid-base forms env V) (b u refl) next q) V

with-grown : (forms : List Form) (s : ℕ) (env next : Env) (ts : List Linear) (c : Ineq) → learnt_with ts env c ≡ Ok next → All (TermBelow (length env.ranges)) ts → IsValid forms env → Grown forms s env next
with-grown forms s env next ts (Ge u) q b V = if-grown forms s env next (instance (Some ts) u) q (instance-within (length env.ranges) ts u b) V
with-grown forms s env next ts (Ne u) q b V = ne-grown forms s env next (instance (Some ts) u) q (instance-within (length env.ranges) ts u b) V

pub terms-within : (n m : ℕ) (ts : List Linear) → n ≤ m → All (TermBelow n) ts → All (TermBelow m) ts
terms-within n m ts l h = λ k d i. below-more n m (slice_index_or ts k d) l (h k d i)

pub all-grown : (cs : List Ineq) (forms : List Form) (s : ℕ) (env next : Env) (ts : List Linear) → learnt_all ts env cs ≡ Ok next → All (TermBelow (length env.ranges)) ts → IsValid forms env → Grown forms s env next
all-grown [] forms s env next ts q b V = grown-same forms s env next (let w : env ≡ next = cc in w) V
all-grown (c ∷ cs) forms s env next ts q b V =
    let a = then-ok (learnt_with ts env c) (λ mid. learnt_all ts mid cs) next q in
    let G = with-grown forms s env a.x ts c a.first b V in
    grown-then forms s env a.x next G (all-grown cs forms s a.x next ts a.then_ (terms-within (length env.ranges) (length a.x.ranges) ts G.count b) G.valid)

pub equal-grown : (forms : List Form) (s : ℕ) (env next : Env) (t u : Option Linear) → learnt_equal env t u ≡ Ok next → IfBelow (length env.ranges) t → IfBelow (length env.ranges) u → IsValid forms env → Grown forms s env next
equal-grown forms s env next t u q i j V =
    let n = length env.ranges in
    let a = then-ok (learnt_if env (difference t u)) (λ mid. learnt_if mid (difference u t)) next q in
    let G = if-grown forms s env a.x (difference t u) a.first (difference-below n t u i j) V in
    let m = length a.x.ranges in
    grown-then forms s env a.x next G (if-grown forms s a.x next (difference u t) a.then_ (difference-below m u t (if-more n m u G.count j) (if-more n m t G.count i)) G.valid)

pub ends-grown : (forms : List Form) (s : ℕ) (env next : Env) (lo hi : ℤ) (t : Linear) → learnt_ends env lo hi t ≡ Ok next → TermBelow (length env.ranges) t → IsValid forms env → Grown forms s env next
ends-grown forms s env next lo hi t q b V =
    let n = length env.ranges in
    let a = then-ok (learnt_if env (difference (Some t) (number lo))) (λ mid. learnt_if mid (difference (number hi) (Some t))) next q in
    let G = if-grown forms s env a.x (difference (Some t) (number lo)) a.first (difference-below n (Some t) (number lo) (some-below n t b) (number-below n lo)) V in
    let m = length a.x.ranges in
    grown-then forms s env a.x next G (if-grown forms s a.x next (difference (number hi) (Some t)) a.then_ (difference-below m (number hi) (Some t) (number-below m hi) (some-below m t (below-more n m t G.count b))) G.valid)

-- ---- a form or a new symbol
pub record NamedWell (forms : List Form) (s : ℕ) (env : Env) (n : Named) : Type 1 where
  pub grown : Grown forms s env n.env
  pub below : TermBelow (length n.env.ranges) n.term

pub named-grown : (forms : List Form) (s : ℕ) (env : Env) (range : Span) (o : Option Linear) (n : Named) → named env range o ≡ Ok n → IfBelow (length env.ranges) o → IsValid forms env → NamedWell forms s env n
named-grown forms s env range (Some t) n q b V =
    let e : record { env = env; term = t } ≡ n = cc in
    subst (λ (x : Named). NamedWell forms s env x) e (record { grown = grown-same forms s env env refl V; below = b t refl })
named-grown forms s env range None n q b V =
    let a = bind-ok (added env range None) (λ next. Ok (record { env = next; term = symbol_of (length env.ranges) })) n q in
    let e : record { env = a.x; term = symbol_of (length env.ranges) } ≡ n = let t = a.then_ in cc in
    let G = symbol-grown forms s env a.x range None a.first tt tt V in
    let m = symbol-more env a.x range None a.first in
    subst (λ (x : Named). NamedWell forms s env x) e (record { grown = G; below = symbol-below (length a.x.ranges) (length env.ranges) (omega (arith, m)) })
