-- What settling the symbol leaves as it was.
use Rattle.std.specs.Prelude.{◌≡◌, ◌≢◌, ℕ, ℤ, ◌-ℤ◌, List, [], ◌∷◌, length, Option, Some, None, Ok, Bool, true, false, ◌&&◌, slice_set, ◌⊎◌}
use Rattle.std.proofs.Common.{arith, refl, sym, ap, ◌∙◌, cond, subst, inl, inr}
use Rattle.std.proofs.lemmas.List.{length-set}
use Rattle.cx_base.specs.declared.memory.Region.{Region}
use Rattle.cx_term.specs.Forms.{Linear, value, symbol_of}
use Rattle.cx_term.proofs.Tests.{and_right}
use Rattle.cx_cells.specs.declared.form.Form.{Form}
use Rattle.cx_state.specs.Known.{fact_at}
use Rattle.cx_state.specs.Run.{Run}
use Rattle.cx_state.specs.Stands.{offset_in, region_base, region_bases, StandsAtAccess}
use Rattle.cx_state.specs.Valid.{IsValid}
use Rattle.cx_state.specs.declared.state.Fact.{Fact}
use Rattle.cx_state.specs.declared.state.Env.{Env}
use Rattle.cx_learn.specs.Learning.{nonzero_in}
use Rattle.cx_learn.proofs.Learns.{Learns, nonzero_in-sound, access-meets}
use Rattle.cx_query.proofs.Comes.{value-symbol}
use Rattle.cx_fact.specs.Telling.{not_null, with_fact, told_fact, settled_by, settled}
use Rattle.cx_fact.proofs.Settles.{Loses, lost-access}
use Rattle.cx_fact.proofs.Tells.{told_fact-gives}
use Rattle.cx_fact.proofs.Truths.{fact_truths}
use Rattle.cx_opens.specs.Opened.{SaysStill}
use Rattle.cx_opens.proofs.Carried.{fact-within}
use Rattle.cx_opens.proofs.Lists.{set-at, set-other, same_or_not}

-- the facts are the same, but for a null that the fact of the symbol may have lost
pub record Same (env next : Env) (s : ℕ) : Type 0 where
  pub fresh : next.fresh ≡ env.fresh
  pub staged : next.staged ≡ env.staged
  pub facts : (next.facts ≡ env.facts) ⊎ ((f : Fact) × (fact_at env.facts s ≡ Some f) × (next.facts ≡ slice_set env.facts s (Some (not_null f))))

same-refl : (env : Env) (s : ℕ) → Same env env s
same-refl env s = record { fresh = refl; staged = refl; facts = inl refl }

same-learnt : (v : ℕ → ℤ) (env next : Env) (s : ℕ) (f : Fact) → fact_at env.facts s ≡ Some f → Learns v (with_fact env s (not_null f)) next → Same env next s
same-learnt v env next s f e L = record { fresh = ap (λ (x : Env). x.fresh) L.is; staged = ap (λ (x : Env). x.staged) L.is; facts = inr (f, e, ap (λ (x : Env). x.facts) L.is) }

same_by : (run : Run) (v : ℕ → ℤ) (env : Env) (s : ℕ) (f : Fact) (b : Bool) (next : Env) (locals : List (Option ℤ)) (memory : List Region) → fact_at env.facts s ≡ Some f → f.null && nonzero_in env (symbol_of s) ≡ b → cond b (told_fact run.forms (with_fact env s (not_null f)) s (not_null f)) (Ok env) ≡ Ok next → StandsAtAccess run v env locals memory → IsValid run.forms env → Same env next s
same_by run v env s f true next locals memory e q g S V =
    let m = access-meets run v env locals memory S in
    let l : Loses v env.facts s f = record { was = e; nonzero = λ z. nonzero_in-sound env v (symbol_of s) m (and_right f.null (nonzero_in env (symbol_of s)) q) (value-symbol v s ∙ z) } in
    let mid = with_fact env s (not_null f) in
    let T = lost-access run v env locals memory s f l S in
    let k = fact-within env s f V.scoped e in
    let h = set-at env.facts s (not_null f) (omega (arith, k, V.scoped.facts_count)) in
    let L = told_fact-gives run.forms v mid s (not_null f) (access-meets run v mid locals memory T) (fact_truths run v mid locals memory s (not_null f) T h) next g in
    same-learnt v env next s f e L
same_by run v env s f false next locals memory e q g S V = let w : env ≡ next = cc in subst (λ (x : Env). Same env x s) w (same-refl env s)

option_by : (run : Run) (v : ℕ → ℤ) (env : Env) (s : ℕ) (o : Option Fact) (next : Env) (locals : List (Option ℤ)) (memory : List Region) → fact_at env.facts s ≡ o → settled_by run.forms env s o ≡ Ok next → StandsAtAccess run v env locals memory → IsValid run.forms env → Same env next s
option_by run v env s None next locals memory e g S V = let w : env ≡ next = cc in subst (λ (x : Env). Same env x s) w (same-refl env s)
option_by run v env s (Some f) next locals memory e g S V = same_by run v env s f (f.null && nonzero_in env (symbol_of s)) next locals memory e refl g S V

pub settled-same : (run : Run) (v : ℕ → ℤ) (env : Env) (s : ℕ) (next : Env) (locals : List (Option ℤ)) (memory : List Region) → settled run.forms env s ≡ Ok next → StandsAtAccess run v env locals memory → IsValid run.forms env → Same env next s
settled-same run v env s next locals memory g S V = option_by run v env s (fact_at env.facts s) next locals memory refl g S V

pub same-count : (forms : List Form) (env next : Env) (s : ℕ) → Same env next s → IsValid forms env → IsValid forms next → length next.ranges ≡ length env.ranges
same-count forms env next s h V W = sym W.scoped.facts_count ∙ facts_by h.facts ∙ V.scoped.facts_count
  where
    facts_by : (next.facts ≡ env.facts) ⊎ ((f : Fact) × (fact_at env.facts s ≡ Some f) × (next.facts ≡ slice_set env.facts s (Some (not_null f)))) → length next.facts ≡ length env.facts
    facts_by (inl e) = ap length e
    facts_by (inr p) = ap length p.2 ∙ length-set env.facts s (Some (not_null p.0))

-- ---- the symbol's fact
pub same-fact : (forms : List Form) (env next : Env) (s : ℕ) (f : Fact) → Same env next s → IsValid forms env → fact_at env.facts s ≡ Some f → SaysStill next.facts s f
same-fact forms env next s f h V e = fact_by h.facts
  where
    fact_by : (next.facts ≡ env.facts) ⊎ ((f : Fact) × (fact_at env.facts s ≡ Some f) × (next.facts ≡ slice_set env.facts s (Some (not_null f)))) → SaysStill next.facts s f
    fact_by (inl q) = record { g = f; fact = ap (λ (fs : List (Option Fact)). fact_at fs s) q ∙ e; name = refl; args = refl; off = refl; null = λ n. n }
    fact_by (inr p) =
        let same : p.0 ≡ f = let w : Some p.0 ≡ Some f = sym p.1 ∙ e in cc in
        let k = fact-within env s f V.scoped e in
        let a = ap (λ (fs : List (Option Fact)). fact_at fs s) p.2 ∙ set-at env.facts s (not_null p.0) (omega (arith, k, V.scoped.facts_count)) in
        record {
          g = not_null p.0;
          fact = a;
          name = ap (λ (x : Fact). x.name) same;
          args = ap (λ (x : Fact). x.args) same;
          off = ap (λ (x : Fact). x.off) same;
          null = λ n. absurd (let w : false ≡ true = n in cc);
        }

-- ---- where regions begin
offset_by : (env next : Env) (s t : ℕ) (f : Fact) → fact_at env.facts s ≡ Some f → s ≡ t → fact_at (slice_set env.facts s (Some (not_null f))) s ≡ Some (not_null f) → offset_in (fact_at (slice_set env.facts s (Some (not_null f))) t) ≡ offset_in (fact_at env.facts t)
offset_by env next s t f e q g =
    let a : fact_at (slice_set env.facts s (Some (not_null f))) t ≡ Some (not_null f) = ap (fact_at (slice_set env.facts s (Some (not_null f)))) (sym q) ∙ g in
    let b : fact_at env.facts t ≡ Some f = ap (fact_at env.facts) (sym q) ∙ e in
    ap offset_in a ∙ sym (ap offset_in b)

same_offset : (forms : List Form) (env next : Env) (s t : ℕ) → Same env next s → IsValid forms env → offset_in (fact_at next.facts t) ≡ offset_in (fact_at env.facts t)
same_offset forms env next s t h V = facts_by h.facts (same_or_not t s)
  where
    facts_by : (next.facts ≡ env.facts) ⊎ ((f : Fact) × (fact_at env.facts s ≡ Some f) × (next.facts ≡ slice_set env.facts s (Some (not_null f)))) → (t ≡ s) ⊎ (t ≢ s) → offset_in (fact_at next.facts t) ≡ offset_in (fact_at env.facts t)
    facts_by (inl q) u = ap (λ (fs : List (Option Fact)). offset_in (fact_at fs t)) q
    facts_by (inr p) (inl u) =
        let k = fact-within env s p.0 V.scoped p.1 in
        ap (λ (fs : List (Option Fact)). offset_in (fact_at fs t)) p.2 ∙ offset_by env next s t p.0 p.1 (sym u) (set-at env.facts s (not_null p.0) (omega (arith, k, V.scoped.facts_count)))
    facts_by (inr p) (inr u) = ap (λ (fs : List (Option Fact)). offset_in (fact_at fs t)) p.2 ∙ ap offset_in (set-other env.facts s t (not_null p.0) u)

bases_by : (forms : List Form) (v : ℕ → ℤ) (env next : Env) (s : ℕ) (ts : List ℕ) → Same env next s → IsValid forms env → region_bases v next.facts ts ≡ region_bases v env.facts ts
bases_by forms v env next s [] h V = refl
bases_by forms v env next s (t ∷ ts) h V =
    let a : region_base v next.facts t ≡ region_base v env.facts t = ap (λ (u : Linear). v t -ℤ value v u) (same_offset forms env next s t h V) in
    let b = bases_by forms v env next s ts h V in
    cc

-- the staged regions begin where they did
pub same-bases : (forms : List Form) (v : ℕ → ℤ) (env next : Env) (s : ℕ) → Same env next s → IsValid forms env → region_bases v next.facts next.staged ≡ region_bases v env.facts env.staged
same-bases forms v env next s h V = ap (region_bases v next.facts) h.staged ∙ bases_by forms v env next s env.staged h V
