-- A form points to where the fact of its base says.
use Rattle.std.specs.Prelude.{◌≡◌, ℕ, ℤ, pos, ◌+ℤ◌, ◌-ℤ◌, Bool, true, false, not, ◌&&◌, List, [], ◌∷◌, length, Option, Some, None, IfSome, Any}
use Rattle.std.proofs.Common.{arith, refl, sym, ◌∙◌, cond, inl, inr, subst}
use Rattle.std.proofs.lemmas.Int.{ints}
use Rattle.std.proofs.lemmas.Bool.Decides.{nat_tests}
use Rattle.cx_base.specs.declared.memory.Region.{Region}
use Rattle.cx_term.specs.Forms.{Linear, value, value_parts, symbol_of}
use Rattle.cx_term.specs.Sums.{is_zero}
use Rattle.cx_term.proofs.Tests.{and_left, and_right, and_both}
use Rattle.cx_term.proofs.Values.{is_zero-true}
use Rattle.cx_entail.specs.Shows.{shown_nonzero}
use Rattle.cx_entail.proofs.Nonzero.{nonzero_sound}
use Rattle.cx_cells.specs.Values.{all_values}
use Rattle.cx_cells.specs.Layouts.{Extent, IsAt, Points, layout_of}
use Rattle.cx_cells.specs.Symbols.{is_number}
use Rattle.cx_state.specs.Known.{fact_at, is_one_of}
use Rattle.cx_state.specs.Run.{Run}
use Rattle.cx_state.specs.Stands.{StandsAtAccess, FactsStand, visible}
use Rattle.cx_state.specs.declared.state.Fact.{Fact}
use Rattle.cx_state.specs.declared.state.Env.{Env}
use Rattle.cx_state.specs.declared.state.Pointed.{Pointed}
use Rattle.cx_query.specs.Shown.{difference, sum}
use Rattle.cx_query.specs.Pointing.{null_of, is_nothing, pointed, point_in, point_by, point_at, point_of, base_of, PointsTruly}
use Rattle.cx_query.proofs.Comes.{Meets, Comes, some-comes, value-symbol, difference-comes, sum-comes}

-- what stands meets its ranges and conditions
pub stands-meets : (run : Run) (v : ℕ → ℤ) (env : Env) (locals : List (Option ℤ)) (memory : List Region) → StandsAtAccess run v env locals memory → Meets env v
stands-meets run v env locals memory S = record { ranges = S.ranges; conds = S.conds }

-- the ranges and conditions are true, and so are the facts of symbols that are not fresh, in the layout
pub record Knows (env : Env) (v : ℕ → ℤ) (layout : List Extent) : Type 0 where
  pub meets : Meets env v
  pub facts : FactsStand v env layout

pub stands-knows : (run : Run) (v : ℕ → ℤ) (env : Env) (locals : List (Option ℤ)) (memory : List Region) → StandsAtAccess run v env locals memory → Knows env v (visible v env (layout_of memory))
stands-knows run v env locals memory S = record { meets = stands-meets run v env locals memory S; facts = S.facts }

-- the symbol of the answer has a fact, and the form points into such a region of each layout in which the state is true
abbrev pub PointsWell : Env → Linear → Option Pointed → Type 0
PointsWell env t answer =
    IfSome answer
    (λ p.
    (f : Fact)
    × (fact_at env.facts p.sym ≡ Some f)
    × ((v : ℕ → ℤ) (layout : List Extent) → Knows env v layout → Points layout f.name (all_values v f.args) (value v p.off) p.null (value v t)))

-- the same place past the same base
pub points_moved : (layout : List Extent) (name : ℕ) (args : List ℤ) (a b : ℤ) (m n : Bool) (y z : ℤ) → y -ℤ a ≡ z -ℤ b → (m ≡ true → y ≡ pos 0 → (n ≡ true) × (z ≡ pos 0)) → Points layout name args a m y → Points layout name args b n z
points_moved layout name args a b m n y z e k (inl p) = inl (k p.0 p.1)
points_moved layout name args a b m n y z e k (inr h) = inr (subst (λ (x : ℤ). Any (IsAt name args x) layout) e h)

no_parts : (v : ℕ → ℤ) (ps : List (ℕ × ℤ)) → (length ps) ≡ 0 → value_parts v ps ≡ pos 0
no_parts v [] e = refl
no_parts v (p ∷ ps) e = absurd (omega (arith, e))

nothing-comes : (v : ℕ → ℤ) (o : Option Linear) (z : ℤ) → Comes v o z → is_nothing o ≡ true → z ≡ pos 0
nothing-comes v None z c e = absurd (let w : false ≡ true = e in cc)
nothing-comes v (Some t) z c e =
    let k = is_zero-true t.konst (and_left (is_zero t.konst) (is_number t) e) in
    let n : length t.parts ≡ 0 = let q = and_right (is_zero t.konst) (is_number t) e in grind (arith, nat_tests) in
    omega (arith, ints, c t refl, k, no_parts v t.parts n)

-- the offset of the point is by the rest past that of the fact
pointed_by : (env : Env) (t : Linear) (s : ℕ) (f : Fact) (o : Option Linear) (n : Bool) → fact_at env.facts s ≡ Some f → is_one_of env.fresh s ≡ false → ((v : ℕ → ℤ) → Comes v o (value v f.off +ℤ (value v t -ℤ v s))) → ((v : ℕ → ℤ) → Meets env v → f.null ≡ true → v s ≡ pos 0 → (n ≡ true) × (value v t ≡ pos 0)) → PointsWell env t (pointed s o n)
pointed_by env t s f None n q e c k = tt
pointed_by env t s f (Some off) n q e c k =
    (f, q, λ v layout K. points_moved layout f.name (all_values v f.args) (value v f.off) (value v off) f.null n (v s) (value v t) (omega (arith, ints, c v off refl)) (k v K.meets) (K.facts s f q e))

-- what is left when the symbol is taken away
rest-comes : (v : ℕ → ℤ) (t : Linear) (s : ℕ) → Comes v (difference (Some t) (Some (symbol_of s))) (value v t -ℤ v s)
rest-comes v t s = subst (λ (x : ℤ). Comes v (difference (Some t) (Some (symbol_of s))) (value v t -ℤ x)) (value-symbol v s) (difference-comes v (Some t) (Some (symbol_of s)) (value v t) (value v (symbol_of s)) (some-comes v t) (some-comes v (symbol_of s)))

off-comes : (v : ℕ → ℤ) (t : Linear) (s : ℕ) (f : Fact) → Comes v (sum (Some f.off) (difference (Some t) (Some (symbol_of s)))) (value v f.off +ℤ (value v t -ℤ v s))
off-comes v t s f = sum-comes v (Some f.off) (difference (Some t) (Some (symbol_of s))) (value v f.off) (value v t -ℤ v s) (some-comes v f.off) (rest-comes v t s)

-- a symbol whose null does not stay is not 0
not_null : (env : Env) (s : ℕ) (f : Fact) (v : ℕ → ℤ) (b : Bool) → shown_nonzero env.conds env.ranges (symbol_of s) ≡ b → f.null && not b ≡ false → Meets env v → f.null ≡ true → v s ≡ pos 0 → ⊥
not_null env s f v false g e m h z = let w : true ≡ false = sym (and_both f.null true h refl) ∙ e in cc
not_null env s f v true g e m h z = nonzero_sound env.conds env.ranges v m.ranges m.conds (symbol_of s) g (value-symbol v s ∙ z)

null_by : (env : Env) (t : Linear) (s : ℕ) (f : Fact) (n w : Bool) → null_of env s f ≡ n → is_nothing (difference (Some t) (Some (symbol_of s))) ≡ w → fact_at env.facts s ≡ Some f → is_one_of env.fresh s ≡ false → PointsWell env t (cond (n && not w) None (pointed s (sum (Some f.off) (difference (Some t) (Some (symbol_of s)))) n))
null_by env t s f true false g h q e = tt
null_by env t s f true true g h q e =
    pointed_by env t s f (sum (Some f.off) (difference (Some t) (Some (symbol_of s)))) true q e (λ v. off-comes v t s f) (λ v m a z. (refl, omega (arith, ints, z, nothing-comes v (difference (Some t) (Some (symbol_of s))) (value v t -ℤ v s) (rest-comes v t s) h)))
null_by env t s f false w g h q e =
    pointed_by env t s f (sum (Some f.off) (difference (Some t) (Some (symbol_of s)))) false q e (λ v. off-comes v t s f) (λ v m a z. absurd (not_null env s f v (shown_nonzero env.conds env.ranges (symbol_of s)) refl g m a z))

fact_by : (env : Env) (t : Linear) (s : ℕ) (o : Option Fact) → fact_at env.facts s ≡ o → is_one_of env.fresh s ≡ false → PointsWell env t (point_in env t s o)
fact_by env t s None q e = tt
fact_by env t s (Some f) q e = null_by env t s f (null_of env s f) (is_nothing (difference (Some t) (Some (symbol_of s)))) refl refl q e

fresh_by : (env : Env) (t : Linear) (s : ℕ) (b : Bool) → is_one_of env.fresh s ≡ b → PointsWell env t (cond b None (point_by env t s))
fresh_by env t s true e = tt
fresh_by env t s false e = fact_by env t s (fact_at env.facts s) refl e

base_by : (env : Env) (t : Linear) (o : Option ℕ) → PointsWell env t (point_at env t o)
base_by env t None = tt
base_by env t (Some s) = fresh_by env t s (is_one_of env.fresh s) refl

pub points_well : (env : Env) (t : Linear) → PointsWell env t (point_of env t)
points_well env t = base_by env t (base_of env t)

well_truly : (env : Env) (t : Linear) (o : Option Pointed) → PointsWell env t o → PointsTruly env t o
well_truly env t None h = tt
well_truly env t (Some p) h = (h.0, h.1, λ run v locals memory S. h.2 v (visible v env (layout_of memory)) (stands-knows run v env locals memory S))

pub points_truly : (env : Env) (t : Linear) → PointsTruly env t (point_of env t)
points_truly env t = well_truly env t (point_of env t) (points_well env t)
