-- Whether so many elements take so many bytes.
use Rattle.std.proofs.Common.{◌≡◌, ◌≢◌, ◌∙◌, ℕ, ◌+◌, ◌*◌, ◌/◌, ◌%◌, ◌<◌, Bool, true, false, nat_eq, refl, ap, sym, arith, zero-add}
use Rattle.std.proofs.Math.Nat.{mod-add-div', mul-div_cancel, mul-mod_left}
use Rattle.std.proofs.lemmas.Bool.Decides.{nat_tests}

both_told : (b c : Bool) (q n x y : ℕ) → nat_eq q n ≡ b → nat_eq x y ≡ c → (q ≡ n → x ≡ y) → (x ≡ y → q ≡ n) → b ≡ c
both_told true true q n x y hb hc f g = refl
both_told false false q n x y hb hc f g = refl
both_told true false q n x y hb hc f g =
    let e : q ≡ n = grind (arith, nat_tests, hb) in
    let d : x ≡ y = f e in
    grind (arith, nat_tests, hc, d)
both_told false true q n x y hb hc f g =
    let d : x ≡ y = grind (arith, nat_tests, hc) in
    let e : q ≡ n = g d in
    grind (arith, nat_tests, hb, e)

rest_none : (n each bytes : ℕ) → bytes % each ≡ 0 → bytes / each ≡ n → bytes ≡ n * each
rest_none n each bytes none is =
    let whole = mod-add-div' bytes each in
    sym whole ∙ ap (λ r. r + bytes / each * each) none ∙ zero-add (bytes / each * each) ∙ ap (λ q. q * each) is

pub whole_row : (turns each bytes quotient : ℕ) → 0 < each → bytes % each ≡ 0 → quotient ≡ bytes / each → nat_eq quotient turns ≡ nat_eq bytes (turns * each)
whole_row turns each bytes quotient some none is =
    both_told _ _ quotient turns bytes (turns * each) refl refl
    (λ e. rest_none turns each bytes none (sym is ∙ e))
    (λ e. is ∙ ap (λ b. b / each) e ∙ mul-div_cancel turns some)

pub broken_row : (turns each bytes : ℕ) → bytes % each ≢ 0 → nat_eq (bytes % each) 0 ≡ nat_eq bytes (turns * each)
broken_row turns each bytes rest =
    both_told _ _ (bytes % each) 0 bytes (turns * each) refl refl
    (λ e. absurd (rest e))
    (λ e. ap (λ b. b % each) e ∙ mul-mod_left turns each)
