-- A region that is shown to be none of the staged ones is none of them.
use Rattle.std.specs.Prelude.{◌≡◌, ℕ, ℤ, pos, negsuc, ◌+ℤ◌, ◌-ℤ◌, List, [], ◌∷◌, Option, Some, None, IsSomeAnd, Bool, true, false, ◌||◌, if◌then◌else◌}
use Rattle.std.specs.List.{AllByRecursion}
use Rattle.std.proofs.Common.{arith, refl, sym, ◌∙◌, subst}
use Rattle.std.proofs.lemmas.Int.{ints}
use Rattle.cx_base.specs.declared.memory.Region.{Region}
use Rattle.cx_term.specs.Forms.{value, constant_of}
use Rattle.cx_term.specs.Sums.{plus_times}
use Rattle.cx_term.proofs.Exact.{value-plus_times}
use Rattle.cx_entail.specs.Ranges.{same_z}
use Rattle.cx_cells.specs.Layouts.{extent_of, IsAt}
use Rattle.cx_cells.specs.Values.{all_values}
use Rattle.cx_state.specs.Known.{fact_at}
use Rattle.cx_state.specs.Run.{Run}
use Rattle.cx_state.specs.Stands.{offset_in, region_base, region_bases, is_base, StagedStands}
use Rattle.cx_state.specs.declared.state.Fact.{Fact}
use Rattle.cx_state.specs.declared.state.Env.{Env}
use Rattle.cx_learn.proofs.Below.{to_recursion}
use Rattle.cx_fact.proofs.Regions.{IsOf, fact_region}
use Rattle.cx_apart.specs.Apart.{LiesIn}
use Rattle.cx_apart.specs.declared.spots.Spot.{Spot}
use Rattle.cx_apart.proofs.Stores.{any_get}
use Rattle.cx_apart.proofs.Truths.{regions_differ}
use Rattle.cx_head.specs.Staged.{facts_apart, symbols_apart, aliased}
use Rattle.cx_opens.proofs.Pointers.{same_z-true}
use Rattle.cx_opens.proofs.Cells.{Inside}
use Rattle.cx_opens.proofs.Arguments.{same_region}

-- the spot without bytes at the begin of the region that the fact is about
abbrev first_of : ℕ → Fact → Spot
first_of s f = record { sym = s; at = plus_times (negsuc 0) f.off (constant_of (pos 0)); size = 0 }

first-place : (v : ℕ → ℤ) (f : Fact) → pos 0 ≡ value v f.off +ℤ value v (plus_times (negsuc 0) f.off (constant_of (pos 0)))
first-place v f = omega (arith, ints, value-plus_times (negsuc 0) f.off (constant_of (pos 0)) v)

lies : (run : Run) (v : ℕ → ℤ) (env : Env) (locals : List (Option ℤ)) (memory : List Region) (s i : ℕ) (f : Fact) (r : Region) → Inside run v env locals memory s i f r → LiesIn v env memory (first_of s f) i
lies run v env locals memory s i f r x = record { f = f; fact = x.fact; live = x.live; r = r; there = x.there; is = x.is; at = 0; place = first-place v f; inside = omega arith }

-- the region of a staged symbol that begins where this one does is this one
inside_by : (run : Run) (v : ℕ → ℤ) (env : Env) (locals : List (Option ℤ)) (memory : List Region) (s i t : ℕ) (f g : Fact) (r : Region) → Inside run v env locals memory s i f r → fact_at env.facts t ≡ Some g → g.null ≡ false → pos r.base ≡ v t -ℤ value v g.off → Inside run v env locals memory t i g r
inside_by run v env locals memory s i t f g r x e n b =
    let a = fact_region run v env locals memory t g x.stands e (λ m. absurd (let w : false ≡ true = sym n ∙ m in cc)) in
    let base : a.1.base ≡ r.base = omega (arith, ints, a.4.is.based, b) in
    let same : a.1 ≡ r = same_region memory a.0 i a.1 r x.stands.memory_stands.valid (any_get (IsOf run.forms v g (v t)) memory a) x.there base in
    record {
      stands = x.stands;
      valid = x.valid;
      fact = e;
      live = λ p. (let w : false ≡ true = sym n ∙ p.0 in cc);
      there = x.there;
      is = subst (λ (y : Region). IsAt g.name (all_values v g.args) (v t -ℤ value v g.off) (extent_of y)) same a.4.is;
    }

-- one that is shown to be apart begins elsewhere
one_by : (run : Run) (v : ℕ → ℤ) (env : Env) (locals : List (Option ℤ)) (memory : List Region) (s i t : ℕ) (f : Fact) (r : Region) (o : Option Fact) → Inside run v env locals memory s i f r → fact_at env.facts t ≡ o → facts_apart env s (Some f) t o ≡ true → IsSomeAnd o (λ g. g.null ≡ false) → pos r.base ≡ v t -ℤ value v (offset_in o) → ⊥
unfolding lies
one_by run v env locals memory s i t f r None x e h n b = n
one_by run v env locals memory s i t f r (Some g) x e h n b =
    let y = inside_by run v env locals memory s i t f g r x e n b in
    regions_differ run v env locals memory (first_of s f) (first_of t g) i (lies run v env locals memory s i f r x) (lies run v env locals memory t i g r y) x.stands h

not_same : (b : Bool) → (b ≡ true → ⊥) → b ≡ false
not_same true h = absurd (h refl)
not_same false h = refl

both_false : (a b : Bool) → a ≡ false → b ≡ false → a || b ≡ false
both_false true b e g = e
both_false false b e g = g

first_apart : (b : Bool) (o : Option ℕ) (t : ℕ) → (if b then o else Some t) ≡ None → (b ≡ true) × (o ≡ None)
first_apart true o t e = (refl, e)
first_apart false o t e = absurd (cc)

each-other : (run : Run) (v : ℕ → ℤ) (env : Env) (locals : List (Option ℤ)) (memory : List Region) (s i : ℕ) (f : Fact) (r : Region) (ts : List ℕ) → Inside run v env locals memory s i f r → AllByRecursion (StagedStands env.facts) ts → aliased env s ts ≡ None → is_base (region_bases v env.facts ts) r.base ≡ false
each-other run v env locals memory s i f r [] x n e = refl
each-other run v env locals memory s i f r (t ∷ ts) x n e =
    let a = first_apart (symbols_apart env s t) (aliased env s ts) t e in
    let h : facts_apart env s (Some f) t (fact_at env.facts t) ≡ true = subst (λ (o : Option Fact). facts_apart env s o t (fact_at env.facts t) ≡ true) x.fact a.0 in
    both_false (same_z (pos r.base) (region_base v env.facts t)) (is_base (region_bases v env.facts ts) r.base)
    (not_same (same_z (pos r.base) (region_base v env.facts t)) (λ q. one_by run v env locals memory s i t f r (fact_at env.facts t) x refl h n.0 (same_z-true (pos r.base) (region_base v env.facts t) q)))
    (each-other run v env locals memory s i f r ts x n.1 a.1)

-- the region is not that of a staged symbol
pub not-staged : (run : Run) (v : ℕ → ℤ) (env : Env) (locals : List (Option ℤ)) (memory : List Region) (s i : ℕ) (f : Fact) (r : Region) → Inside run v env locals memory s i f r → aliased env s env.staged ≡ None → is_base (region_bases v env.facts env.staged) r.base ≡ false
not-staged run v env locals memory s i f r x e = each-other run v env locals memory s i f r env.staged x (to_recursion (StagedStands env.facts) env.staged x.stands.staged) e
