-- The sum of parts is the one form in order that comes to what they come to.
use Rattle.std.specs.Prelude.{◌≡◌, ℕ, ℤ, List, [], ◌∷◌, Bool, true, false, Option, Some, None}
use Rattle.std.proofs.Common.{arith, refl, sym, ap, ◌∙◌, cond}
use Rattle.std.proofs.lemmas.Int.{ints}
use Rattle.cx_term.specs.Forms.{Linear, IsTerm, IsOrdered, IsExactly, value, within, fit}
use Rattle.cx_term.specs.Listed.{value_listed}
use Rattle.cx_term.proofs.Values.{value-with_part}
use Rattle.cx_term.proofs.Canonical.{ordered_with_part}
use Rattle.cx_term.proofs.Exact.{same_form}
use Rattle.cx_flin.specs.Terms.{gathered, sum}

pub sum_value : (v : ℕ → ℤ) (ps : List (Option ℕ × ℤ)) → value v (sum ps) ≡ value_listed v ps
sum_value v [] = omega (arith, ints)
sum_value v ((None, z) ∷ ps) = omega (arith, ints, sum_value v ps)
sum_value v ((Some s, z) ∷ ps) = omega (arith, ints, sum_value v ps, value-with_part v s z (gathered ps))

pub sum_ordered : (ps : List (Option ℕ × ℤ)) → IsOrdered 0 (gathered ps)
sum_ordered [] = tt
sum_ordered ((None, z) ∷ ps) = sum_ordered ps
sum_ordered ((Some s, z) ∷ ps) = ordered_with_part 0 s z (gathered ps) (omega arith) (sum_ordered ps)

some_by : (t u : Linear) (b : Bool) → within u ≡ b → t ≡ u → within t ≡ true → Some t ≡ cond b (Some u) None
some_by t u true e s w = ap Some s
some_by t u false e s w = absurd (let z : true ≡ false = sym w ∙ ap within s ∙ e in cc)

pub some_sum : (ps : List (Option ℕ × ℤ)) (t : Linear) → IsTerm t → IsExactly (λ v. value_listed v ps) (Some t) → Some t ≡ fit (sum ps)
some_sum ps t g h = some_by t (sum ps) (within (sum ps)) refl (same_form t (sum ps) g.ordered (sum_ordered ps) (λ v. h.some v ∙ sym (sum_value v ps))) g.limits

none_by : (ps : List (Option ℕ × ℤ)) (b : Bool) → within (sum ps) ≡ b → IsExactly (λ v. value_listed v ps) None → None ≡ cond b (Some (sum ps)) None
none_by ps true e h = absurd (h.none (sum ps) (record { ordered = sum_ordered ps; limits = e }) (λ v. sum_value v ps))
none_by ps false e h = refl

pub none_sum : (ps : List (Option ℕ × ℤ)) → IsExactly (λ v. value_listed v ps) None → None ≡ fit (sum ps)
none_sum ps h = none_by ps (within (sum ps)) refl h
