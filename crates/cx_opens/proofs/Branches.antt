-- The branch that holds is possible, so that where only one is possible, that one holds.
use Rattle.std.specs.Prelude.{◌≡◌, ℕ, ℤ, pos, negsuc, neg_ℤ, ◌-ℤ◌, ◌≤ℤ◌, List, [], ◌∷◌, Any, Option, Some, None, Bool, true, false, not, ◌||◌, if◌then◌else◌}
use Rattle.std.specs.List.{AllByRecursion, list_any}
use Rattle.std.proofs.Common.{arith, refl, sym, ap, ◌∙◌, subst}
use Rattle.std.proofs.lemmas.Int.{ints}
use Rattle.cx_term.specs.Forms.{Linear, value, constant_of}
use Rattle.cx_term.specs.Conditions.{Holds}
use Rattle.cx_term.specs.Sums.{plus_times}
use Rattle.cx_term.specs.declared.term.Ineq.{Ineq}
use Rattle.cx_term.specs.declared.term.Ineq.TheVariants.{Ge, Ne}
use Rattle.cx_term.proofs.Exact.{value-plus_times}
use Rattle.cx_entail.specs.Shows.{minus_less_one}
use Rattle.cx_cells.specs.Values.{values_of}
use Rattle.cx_cells.specs.declared.form.CaseBranch.{CaseBranch}
use Rattle.cx_state.specs.declared.state.Env.{Env}
use Rattle.cx_query.specs.Kinds.{instance}
use Rattle.cx_query.proofs.Comes.{Meets, Comes, fit-comes, shown_in-sound, zero-sound}
use Rattle.cx_fact.proofs.Regions.{any_cases, any_none}
use Rattle.cx_head.specs.Branches.{shown_below, shown_nothing, refuted, is_possible, only_possible}
use Rattle.cx_opens.proofs.Terms.{Terms, instance-value}

-- ---- a condition that is refuted is false
less_comes : (v : ℕ → ℤ) (t : Linear) → Comes v (minus_less_one t) (neg_ℤ (value v t) -ℤ pos 1)
less_comes v t = fit-comes v (plus_times (negsuc 0) t (constant_of (negsuc 0))) _ (omega (arith, ints, value-plus_times (negsuc 0) t (constant_of (negsuc 0)) v))

below_by : (env : Env) (v : ℕ → ℤ) (o : Option Linear) (z : ℤ) → Meets env v → Comes v o z → shown_below env o ≡ true → pos 0 ≤ℤ z → ⊥
below_by env v None z m c e h = let w : false ≡ true = e in cc
below_by env v (Some t) z m c e h = let x = shown_in-sound env v (minus_less_one t) (neg_ℤ (value v t) -ℤ pos 1) m (less_comes v t) e in omega (arith, ints, x, c t refl, h)

nothing_by : (env : Env) (v : ℕ → ℤ) (o : Option Linear) (z : ℤ) → Meets env v → Comes v o z → shown_nothing env o ≡ true → (z ≡ pos 0 → ⊥) → ⊥
nothing_by env v None z m c e h = let w : false ≡ true = e in cc
nothing_by env v (Some t) z m c e h = h (sym (c t refl) ∙ zero-sound env v t m e)

refuted-false : (env : Env) (v : ℕ → ℤ) (n : ℕ) (ts : List Linear) (zs : List ℤ) (c : Ineq) → Meets env v → Terms v n ts zs → refuted env ts c ≡ true → Holds (values_of zs) c → ⊥
refuted-false env v n ts zs (Ge u) m t e h = below_by env v (instance (Some ts) u) (value (values_of zs) u) m (instance-value v n ts zs u t) e h
refuted-false env v n ts zs (Ne u) m t e h = nothing_by env v (instance (Some ts) u) (value (values_of zs) u) m (instance-value v n ts zs u t) e h

or_by : (a b : Bool) → (a ≡ true → ⊥) → b ≡ false → a || b ≡ false
or_by true b f e = absurd (f refl)
or_by false b f e = e

none-refuted : (cs : List Ineq) (env : Env) (v : ℕ → ℤ) (n : ℕ) (ts : List Linear) (zs : List ℤ) → Meets env v → Terms v n ts zs → AllByRecursion (Holds (values_of zs)) cs → list_any (refuted env ts) cs ≡ false
none-refuted [] env v n ts zs m t h = refl
none-refuted (c ∷ cs) env v n ts zs m t h = or_by (refuted env ts c) (list_any (refuted env ts) cs) (λ e. refuted-false env v n ts zs c m t e h.0) (none-refuted cs env v n ts zs m t h.1)

-- a branch whose guard is true is possible
pub guard-possible : (env : Env) (v : ℕ → ℤ) (n : ℕ) (ts : List Linear) (zs : List ℤ) (b : CaseBranch) → Meets env v → Terms v n ts zs → AllByRecursion (Holds (values_of zs)) b.guard → is_possible env ts b ≡ true
guard-possible env v n ts zs b m t h = ap not (none-refuted b.guard env v n ts zs m t h)

-- ---- the only possible one
any_possible : (P : CaseBranch → Type 0) (env : Env) (ts : List Linear) (bs : List CaseBranch) → ((b : CaseBranch) → P b → is_possible env ts b ≡ true) → Any P bs → list_any (is_possible env ts) bs ≡ true
any_possible P env ts [] f h = any_none P (list_any (is_possible env ts) [] ≡ true) h
any_possible P env ts (b ∷ bs) f h = any_cases P (list_any (is_possible env ts) (b ∷ bs) ≡ true) b bs h (λ p. first_by (is_possible env ts b) (list_any (is_possible env ts) bs) (f b p)) (λ a. rest_by (is_possible env ts b) (list_any (is_possible env ts) bs) (any_possible P env ts bs f a))
  where
    first_by : (x y : Bool) → x ≡ true → x || y ≡ true
    first_by true y e = refl
    first_by false y e = absurd (let w : false ≡ true = e in cc)

    rest_by : (x y : Bool) → y ≡ true → x || y ≡ true
    rest_by true y e = refl
    rest_by false y e = e

-- where the first is possible: it is the answer, if no other one is
here_by : (P : CaseBranch → Type 0) (b c : CaseBranch) (q : Bool) → (if q then None else Some b) ≡ Some c → P b → P c
here_by P b c true e p = absurd (cc)
here_by P b c false e p = let w : b ≡ c = cc in subst P w p

later_by : (P : CaseBranch → Type 0) (b c : CaseBranch) (bs : List CaseBranch) (x q : Bool) (o : Option CaseBranch) → (if x then (if q then None else Some b) else o) ≡ Some c → q ≡ true → (o ≡ Some c → P c) → P c
later_by P b c bs true true o e h f = absurd (cc)
later_by P b c bs true false o e h f = absurd (let w : false ≡ true = h in cc)
later_by P b c bs false q o e h f = f e

first_is : (P : CaseBranch → Type 0) (b c : CaseBranch) (x q : Bool) (o : Option CaseBranch) → (if x then (if q then None else Some b) else o) ≡ Some c → x ≡ true → P b → P c
first_is P b c true q o e h p = here_by P b c q e p
first_is P b c false q o e h p = absurd (let w : false ≡ true = h in cc)

-- what is true of some branch, and only of possible ones, is true of the only possible one
pub only-holds : (P : CaseBranch → Type 0) (env : Env) (ts : List Linear) (bs : List CaseBranch) (c : CaseBranch) → ((b : CaseBranch) → P b → is_possible env ts b ≡ true) → Any P bs → only_possible env ts bs ≡ Some c → P c
only-holds P env ts [] c f h e = any_none P (P c) h
only-holds P env ts (b ∷ bs) c f h e =
    any_cases P (P c) b bs h
    (λ p. first_is P b c (is_possible env ts b) (list_any (is_possible env ts) bs) (only_possible env ts bs) e (f b p) p)
    (λ a. later_by P b c bs (is_possible env ts b) (list_any (is_possible env ts) bs) (only_possible env ts bs) e (any_possible P env ts bs f a) (only-holds P env ts bs c f a))
