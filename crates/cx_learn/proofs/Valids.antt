-- What is learnt leaves a state valid.
use Rattle.std.specs.Prelude.{◌≡◌, ℕ, ℤ, pos, negsuc, ◌<◌, ◌≤◌, nat_lt, List, [], ◌∷◌, ◌++◌, length, All, slice_set, Option, Some, None, Ok, Err, Bool, true, false}
use Rattle.std.proofs.Common.{arith, refl, sym, ap, ◌∙◌, cond, subst, length-append}
use Rattle.std.proofs.lemmas.Bool.Decides.{nat_tests}
use Rattle.std.proofs.lemmas.List.{length-set}
use Rattle.std.proofs.lemmas.List.Elements.{All-push}
use Rattle.cx_term.specs.Forms.{Linear, constant_of}
use Rattle.cx_term.specs.Sums.{plus_times}
use Rattle.cx_term.specs.declared.term.Ineq.{Ineq}
use Rattle.cx_term.specs.declared.term.Ineq.TheVariants.{Ge, Ne}
use Rattle.cx_entail.specs.Bounds.{range_at}
use Rattle.cx_entail.specs.Ranges.{Span}
use Rattle.cx_entail.specs.Shows.{less_one, minus, minus_less_one}
use Rattle.cx_cells.specs.declared.form.Form.{Form}
use Rattle.cx_state.specs.Valid.{TermBelow, CondBelow, IsValid}
use Rattle.cx_state.specs.declared.state.Env.{Env}
use Rattle.cx_state.specs.declared.state.EnvFault.TheVariants.{Limit}
use Rattle.cx_state.specs.declared.state.EnvLimit.TheVariants.{Conds}
use Rattle.cx_query.specs.Shown.{shown_in}
use Rattle.cx_learn.specs.Answers.{Answer, and_then}
use Rattle.cx_learn.specs.Keeping.{KeepsValid}
use Rattle.cx_learn.specs.Learning.{bounded, all_bounded, with_cond, with_ranges, nonzero_in, learnt_ge, learnt_if, excluded, end_moved, moved_to, excluding, learnt}
use Rattle.cx_learn.proofs.Below.{IfBelow, plus_times-below, fit-below, constant-below}

-- the state's conditions name symbols below n, and are at most 64
pub record Base (n : ℕ) (env : Env) : Type 0 where
  pub count : length env.ranges ≡ n
  pub conds : All (CondBelow n) env.conds
  pub few : length env.conds ≤ 64

-- the second state is the first with other ranges and conditions, which are so too
pub record Formed (n : ℕ) (env next : Env) : Type 0 where
  pub rs : List Span
  pub cs : List Ineq
  pub is : next ≡ record env { ranges = rs; conds = cs }
  pub base : Base n (record env { ranges = rs; conds = cs })

abbrev pub Forms : ℕ → Env → Answer → Type 0
Forms n env a = (next : Env) → a ≡ Ok next → Formed n env next

formed-refl : (n : ℕ) (env : Env) → Base n env → Formed n env env
formed-refl n env b = record { rs = env.ranges; cs = env.conds; is = refl; base = record { count = b.count; conds = b.conds; few = b.few } }

pub ok-forms : (n : ℕ) (env : Env) → Base n env → Forms n env (Ok env)
ok-forms n env b next e = let f : env ≡ next = cc in subst (λ (x : Env). Formed n env x) f (formed-refl n env b)

formed-then : (n : ℕ) (env mid next : Env) → Formed n env mid → Formed n mid next → Formed n env next
formed-then n env mid next a b =
    record {
      rs = b.rs;
      cs = b.cs;
      is = b.is ∙ ap (λ (x : Env). record x { ranges = b.rs; conds = b.cs }) a.is;
      base = record { count = b.base.count; conds = b.base.conds; few = b.base.few };
    }

formed-base : (n : ℕ) (env next : Env) → Formed n env next → Base n next
formed-base n env next a = subst (λ (x : Env). Base n x) (sym a.is) a.base

pub then-forms : (n : ℕ) (env : Env) (a : Answer) (step : Env → Answer) → Forms n env a → ((mid : Env) → Base n mid → Forms n mid (step mid)) → Forms n env (and_then a step)
then-forms n env (Ok mid) step g k next e = let l = g mid refl in formed-then n env mid next l (k mid (formed-base n env mid l) next e)
then-forms n env (Err x) step g k next e = absurd (let w : Err x ≡ Ok next = e in cc)

few_by : (cs : List Ineq) (c : Ineq) → nat_lt (length cs) 64 ≡ true → length (cs ++ c ∷ []) ≤ 64
few_by cs c e = let l : length cs < 64 = grind (arith, nat_tests) in simp length-append (omega (arith, l))

cond_by : (n : ℕ) (env : Env) (c : Ineq) (b : Bool) → nat_lt (length env.conds) 64 ≡ b → Base n env → CondBelow n c → Forms n env (cond b (Ok (record env { conds = env.conds ++ c ∷ [] })) (Err (Limit Conds)))
cond_by n env c true q m h next e =
    let f : record env { conds = env.conds ++ c ∷ [] } ≡ next = cc in
    record { rs = env.ranges; cs = env.conds ++ c ∷ []; is = sym f; base = record { count = m.count; conds = All-push (CondBelow n) env.conds c m.conds h; few = few_by env.conds c q } }
cond_by n env c false q m h next e = absurd (cc)

with_cond-forms : (n : ℕ) (env : Env) (c : Ineq) → Base n env → CondBelow n c → Forms n env (with_cond env c)
with_cond-forms n env c m h = cond_by n env c (nat_lt (length env.conds) 64) refl m h

ranges-formed : (n : ℕ) (env : Env) (rs : List Span) → Base n env → length rs ≡ n → Formed n env (with_ranges env rs)
ranges-formed n env rs m h = record { rs = rs; cs = env.conds; is = refl; base = record { count = h; conds = m.conds; few = m.few } }

ranges-forms : (n : ℕ) (env : Env) (rs : List Span) → Base n env → length rs ≡ n → Forms n env (Ok (with_ranges env rs))
ranges-forms n env rs m h next e = let f : with_ranges env rs ≡ next = cc in subst (λ (x : Env). Formed n env x) f (ranges-formed n env rs m h)

length-bounded : (t : Linear) (ps : List (ℕ × ℤ)) (rs : List Span) → length (all_bounded t ps rs) ≡ length rs
length-bounded t [] rs = refl
length-bounded t (p ∷ ps) rs = length-bounded t ps (slice_set rs p.0 (bounded rs t p)) ∙ length-set rs p.0 (bounded rs t p)

kept_by : (n : ℕ) (env : Env) (t : Linear) (rs : List Span) (b : Bool) → Base n env → length rs ≡ n → TermBelow n t → Forms n env (cond b (with_cond (with_ranges env rs) (Ge t)) (Ok (with_ranges env rs)))
kept_by n env t rs true m r h next e =
    let l = ranges-formed n env rs m r in
    formed-then n env (with_ranges env rs) next l (with_cond-forms n (with_ranges env rs) (Ge t) (formed-base n env (with_ranges env rs) l) h next e)
kept_by n env t rs false m r h next e = ranges-forms n env rs m r next e

ge_by : (n : ℕ) (env : Env) (t : Linear) (b : Bool) → Base n env → TermBelow n t → Forms n env (cond b (Ok env) (cond (nat_lt 1 (length t.parts)) (with_cond (with_ranges env (all_bounded t t.parts env.ranges)) (Ge t)) (Ok (with_ranges env (all_bounded t t.parts env.ranges)))))
ge_by n env t true m h = ok-forms n env m
ge_by n env t false m h = kept_by n env t (all_bounded t t.parts env.ranges) (nat_lt 1 (length t.parts)) m (length-bounded t t.parts env.ranges ∙ m.count) h

learnt_ge-forms : (n : ℕ) (env : Env) (t : Linear) → Base n env → TermBelow n t → Forms n env (learnt_ge env t)
learnt_ge-forms n env t m h = ge_by n env t (shown_in env (Some t)) m h

pub learnt_if-forms : (n : ℕ) (env : Env) (o : Option Linear) → Base n env → IfBelow n o → Forms n env (learnt_if env o)
learnt_if-forms n env None m h = ok-forms n env m
learnt_if-forms n env (Some t) m h = learnt_ge-forms n env t m (h t refl)

moved_to-forms : (n : ℕ) (env : Env) (t : Linear) (s : ℕ) (o : Option Span) → Base n env → TermBelow n t → Forms n env (moved_to env t s o)
moved_to-forms n env t s None m h = with_cond-forms n env (Ne t) m h
moved_to-forms n env t s (Some r) m h = ranges-forms n env (slice_set env.ranges s r) m (length-set env.ranges s r ∙ m.count)

excluding-forms : (n : ℕ) (env : Env) (t : Linear) (o : Option (ℕ × ℤ)) → Base n env → TermBelow n t → Forms n env (excluding env t o)
excluding-forms n env t None m h = with_cond-forms n env (Ne t) m h
excluding-forms n env t (Some x) m h = moved_to-forms n env t x.0 (end_moved (range_at env.ranges x.0) x.1) m h

less_one-below : (n : ℕ) (t : Linear) → TermBelow n t → IfBelow n (less_one t)
less_one-below n t h = fit-below n (plus_times (negsuc 0) (constant_of (pos 1)) t) (plus_times-below n (negsuc 0) (constant_of (pos 1)) t (constant-below n (pos 1)) h)

minus_less_one-below : (n : ℕ) (t : Linear) → TermBelow n t → IfBelow n (minus_less_one t)
minus_less_one-below n t h = fit-below n (plus_times (negsuc 0) t (constant_of (negsuc 0))) (plus_times-below n (negsuc 0) t (constant_of (negsuc 0)) h (constant-below n (negsuc 0)))

ne_by : (n : ℕ) (env : Env) (t : Linear) (a b c : Bool) → Base n env → TermBelow n t → Forms n env (cond a (Ok env) (cond b (learnt_if env (less_one t)) (cond c (learnt_if env (minus_less_one t)) (excluding env t (excluded t)))))
ne_by n env t true b c m h = ok-forms n env m
ne_by n env t false true c m h = learnt_if-forms n env (less_one t) m (less_one-below n t h)
ne_by n env t false false true m h = learnt_if-forms n env (minus_less_one t) m (minus_less_one-below n t h)
ne_by n env t false false false m h = excluding-forms n env t (excluded t) m h

pub learnt-forms : (n : ℕ) (env : Env) (c : Ineq) → Base n env → CondBelow n c → Forms n env (learnt env c)
learnt-forms n env (Ge t) m h = learnt_ge-forms n env t m h
learnt-forms n env (Ne t) m h = ne_by n env t (nonzero_in env t) (shown_in env (Some t)) (shown_in env (minus t)) m h

-- ---- what is valid
pub valid-base : (forms : List Form) (env : Env) → IsValid forms env → Base (length env.ranges) env
valid-base forms env V = record { count = refl; conds = V.scoped.conds; few = V.limits.conds }

valid_by : (forms : List Form) (env : Env) (rs : List Span) (cs : List Ineq) → Base (length env.ranges) (record env { ranges = rs; conds = cs }) → IsValid forms env → IsValid forms (record env { ranges = rs; conds = cs })
valid_by forms env rs cs b V =
    record {
      anchors = rw b.count V.anchors;
      scoped = record {
        facts_count = V.scoped.facts_count ∙ sym b.count;
        locals = rw b.count V.scoped.locals;
        conds = rw b.count b.conds;
        facts = rw b.count V.scoped.facts;
        cells = rw b.count V.scoped.cells;
        staged = rw b.count V.scoped.staged;
        fresh = rw b.count V.scoped.fresh;
      };
      limits = record { symbols = rw b.count V.limits.symbols; conds = b.few; cells = V.limits.cells; staged = V.limits.staged };
      types = V.types;
    }

pub formed-valid : (forms : List Form) (env next : Env) → Formed (length env.ranges) env next → IsValid forms env → IsValid forms next
formed-valid forms env next a V = subst (λ (x : Env). IsValid forms x) (sym a.is) (valid_by forms env a.rs a.cs a.base V)

pub learnt-valid : (env : Env) (c : Ineq) (next : Env) → learnt env c ≡ Ok next → KeepsValid env next (CondBelow (length env.ranges) c)
learnt-valid env c next e forms h V = formed-valid forms env next (learnt-forms (length env.ranges) env c (valid-base forms env V) h next e) V
