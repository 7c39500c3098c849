-- A linear form in which no symbol is left comes to its number, whatever the names stand for.
use Rattle.std.specs.Prelude.{◌≡◌, ℕ, zero, suc, neg_ℤ, ◌+◌, ◌≤◌, ℤ, pos, negsuc, ◌+ℤ◌, ◌-ℤ◌, ◌*ℤ◌, Bool, true, false, List, [], ◌∷◌, length, ◌⊎◌, Option, Some, None}
use Rattle.std.specs.Str.{bytes_eq}
use Rattle.std.proofs.Common.{arith, refl, ap, ◌∙◌, subst, cond, inl, inr}
use Rattle.std.proofs.lemmas.Bool.Decides.{nat_tests}
use Rattle.std.proofs.lemmas.Int.{ints}
use Rattle.std.proofs.lemmas.Slice.Eq.{bytes_eq-Decides}
use Rattle.cx_term.proofs.Ring.{mul-add, neg-mul}
use Rattle.cx_term.proofs.Tests.{and_left, and_right}
use Rattle.cx_tsyn.specs.Lins.{LinPartTree, number, times, symbol, LinTree}
use Rattle.cx_tnumber.specs.Numbers.{symbol_of, factor_of, rest_of, parts_of, same_symbol, share, total, sum_of, is_zero, is_gone, all_gone, number_of}
use Rattle.cx_tnumber.specs.Numbers.{signed}
use Rattle.cx_tmean.specs.Values.{part_value, rest_value, lin_value}

-- ---- a form as the sum of its parts

-- what a part is taken times
abbrev pub standing_for : (List ℕ → ℤ) → Option (List ℕ) → ℤ
standing_for v None = pos 1
standing_for v (Some s) = v s

abbrev pub worth : (List ℕ → ℤ) → List (Option (List ℕ) × ℤ) → ℤ
worth v [] = pos 0
worth v (p ∷ ps) = p.1 *ℤ standing_for v p.0 +ℤ worth v ps

zero_less : (z y : ℤ) → pos 0 -ℤ z *ℤ y ≡ (pos 0 -ℤ z) *ℤ y
zero_less z y = let e : pos 0 -ℤ z ≡ neg_ℤ z = omega (arith, ints) in rw e (omega (arith, ints, neg-mul z y))

part_worth : (v : List ℕ → ℤ) (minus : Bool) (p : LinPartTree) → signed minus (part_value v p) ≡ signed minus (factor_of p) *ℤ standing_for v (symbol_of p)
part_worth v false (number z) = omega (arith, ints)
part_worth v false (times z w) = refl
part_worth v false (symbol w) = omega (arith, ints)
part_worth v true (number z) = omega (arith, ints)
part_worth v true (times z w) = zero_less z (v w.text)
part_worth v true (symbol w) = omega (arith, ints)

rest_worth : (v : List ℕ → ℤ) (ps : List (Bool × LinPartTree)) → rest_value v ps ≡ worth v (rest_of ps)
rest_worth v [] = refl
rest_worth v (p ∷ ps) = omega (arith, ints, part_worth v p.0 p.1, rest_worth v ps)

pub lin_worth : (v : List ℕ → ℤ) (l : LinTree) → lin_value v l ≡ worth v (parts_of l)
lin_worth v l = omega (arith, ints, part_worth v l.negative l.first, rest_worth v l.rest)

-- ---- the parts of one symbol apart from the others

abbrev pub without : List ℕ → List (Option (List ℕ) × ℤ) → List (Option (List ℕ) × ℤ)
without s [] = []
without s (p ∷ ps) = cond (same_symbol p.0 (Some s)) (without s ps) (p ∷ without s ps)

same_is : (o : Option (List ℕ)) (s : List ℕ) → same_symbol o (Some s) ≡ true → o ≡ Some s
same_is None s e = absurd (let z : false ≡ true = e in cc)
same_is (Some t) s e = ap Some ((bytes_eq-Decides t s).0 e)

apart_by : (v : List ℕ → ℤ) (s : List ℕ) (p : Option (List ℕ) × ℤ) (ps : List (Option (List ℕ) × ℤ)) (b : Bool) → same_symbol p.0 (Some s) ≡ b
    → worth v ps ≡ total ps (Some s) *ℤ v s +ℤ worth v (without s ps)
    → worth v (p ∷ ps) ≡ (cond b p.1 (pos 0) +ℤ total ps (Some s)) *ℤ v s +ℤ worth v (cond b (without s ps) (p ∷ without s ps))
apart_by v s p ps true e h = let f : standing_for v p.0 ≡ v s = ap (standing_for v) (same_is p.0 s e) in rw f (omega (arith, ints, h, mul-add p.1 (total ps (Some s)) (v s)))
apart_by v s p ps false e h = let z : pos 0 +ℤ total ps (Some s) ≡ total ps (Some s) = omega (arith, ints) in rw z (omega (arith, ints, h))

apart : (v : List ℕ → ℤ) (s : List ℕ) (ps : List (Option (List ℕ) × ℤ)) → worth v ps ≡ total ps (Some s) *ℤ v s +ℤ worth v (without s ps)
apart v s [] = omega (arith, ints)
apart v s (p ∷ ps) = apart_by v s p ps (same_symbol p.0 (Some s)) refl (apart v s ps)

fewer_by : (p : Option (List ℕ) × ℤ) (ps qs : List (Option (List ℕ) × ℤ)) (b : Bool) → length qs ≤ length ps → length (cond b qs (p ∷ qs)) ≤ suc (length ps)
fewer_by p ps qs true h = omega (arith, h)
fewer_by p ps qs false h = omega (arith, h)

fewer : (s : List ℕ) (ps : List (Option (List ℕ) × ℤ)) → length (without s ps) ≤ length ps
fewer s [] = omega arith
fewer s (p ∷ ps) = fewer_by p ps (without s ps) (same_symbol p.0 (Some s)) (fewer s ps)

others_by : (s : List ℕ) (u : Option (List ℕ)) (p : Option (List ℕ) × ℤ) (ps qs : List (Option (List ℕ) × ℤ)) (b : Bool) → same_symbol p.0 (Some s) ≡ b → same_symbol (Some s) u ≡ false
    → total qs u ≡ total ps u → total (cond b qs (p ∷ qs)) u ≡ share p u +ℤ total ps u
others_by s u p ps qs true e n h =
    let f : share p u ≡ pos 0 = ap (λ o. cond (same_symbol o u) p.1 (pos 0)) (same_is p.0 s e) ∙ ap (λ b. cond b p.1 (pos 0)) n in omega (arith, ints, h, f)
others_by s u p ps qs false e n h = ap (λ z. share p u +ℤ z) h

others : (s : List ℕ) (u : Option (List ℕ)) (ps : List (Option (List ℕ) × ℤ)) → same_symbol (Some s) u ≡ false → total (without s ps) u ≡ total ps u
others s u [] n = refl
others s u (p ∷ ps) n = others_by s u p ps (without s ps) (same_symbol p.0 (Some s)) refl n (others s u ps n)

none_by : (s : List ℕ) (p : Option (List ℕ) × ℤ) (qs : List (Option (List ℕ) × ℤ)) (b : Bool) → same_symbol p.0 (Some s) ≡ b → total qs (Some s) ≡ pos 0 → total (cond b qs (p ∷ qs)) (Some s) ≡ pos 0
none_by s p qs true e h = h
none_by s p qs false e h = let f : share p (Some s) ≡ pos 0 = ap (λ b. cond b p.1 (pos 0)) e in omega (arith, ints, h, f)

none_left : (s : List ℕ) (ps : List (Option (List ℕ) × ℤ)) → total (without s ps) (Some s) ≡ pos 0
none_left s [] = refl
none_left s (p ∷ ps) = none_by s p (without s ps) (same_symbol p.0 (Some s)) refl (none_left s ps)

gone_by : (s t : List ℕ) (ps : List (Option (List ℕ) × ℤ)) (b : Bool) → bytes_eq s t ≡ b → total ps (Some t) ≡ pos 0 → total (without s ps) (Some t) ≡ pos 0
gone_by s t ps true e h = subst (λ u. total (without s ps) (Some u) ≡ pos 0) ((bytes_eq-Decides s t).0 e) (none_left s ps)
gone_by s t ps false e h = others s (Some t) ps e ∙ h

-- ---- the sum where no symbol is left

abbrev AllZero : List (Option (List ℕ) × ℤ) → Type 0
AllZero ps = (t : List ℕ) → total ps (Some t) ≡ pos 0

first_out : (s : List ℕ) (z : ℤ) (ps : List (Option (List ℕ) × ℤ)) → without s ((Some s, z) ∷ ps) ≡ without s ps
first_out s z ps = ap (λ b. cond b (without s ps) ((Some s, z) ∷ without s ps)) ((bytes_eq-Decides s s).1 refl)

tail_zero : (z : ℤ) (ps : List (Option (List ℕ) × ℤ)) → AllZero ((None, z) ∷ ps) → AllZero ps
tail_zero z ps h t = omega (arith, ints, h t)

pub number_alone : (n : ℕ) (v : List ℕ → ℤ) (ps : List (Option (List ℕ) × ℤ)) → length ps ≤ n → AllZero ps → worth v ps ≡ total ps None
number_alone n v [] l h = refl
number_alone zero v (p ∷ ps) l h = absurd (omega (arith, l))
number_alone (suc n) v ((None, z) ∷ ps) l h = omega (arith, ints, number_alone n v ps (omega (arith, l)) (tail_zero z ps h))
number_alone (suc n) v ((Some s, z) ∷ ps) l h =
    let all : List (Option (List ℕ) × ℤ) = (Some s, z) ∷ ps in
    let out = first_out s z ps in
    let small : length (without s all) ≤ n = rw out (omega (arith, l, fewer s ps)) in
    let rest = number_alone n v (without s all) small (λ t. gone_by s t all (bytes_eq s t) refl (h t)) in
    let nothing : total all (Some s) *ℤ v s ≡ pos 0 = rw (h s) (omega (arith, ints)) in
    omega (arith, ints, apart v s all, nothing, rest, others s None all refl)

-- ---- forms in which no symbol is left

zero_is : (z : ℤ) → is_zero z ≡ true → z ≡ pos 0
zero_is (pos n) e = ap pos (grind (arith, nat_tests))
zero_is (negsuc n) e = absurd (grind (arith, nat_tests))

left_or_zero_by : (sum : Option (List ℕ) → ℤ) (t : List ℕ) (p : Option (List ℕ) × ℤ) (ps : List (Option (List ℕ) × ℤ)) (b : Bool) → same_symbol p.0 (Some t) ≡ b → is_gone sum p.0 ≡ true
    → (total ps (Some t) ≡ pos 0) ⊎ (sum (Some t) ≡ pos 0) → (cond b p.1 (pos 0) +ℤ total ps (Some t) ≡ pos 0) ⊎ (sum (Some t) ≡ pos 0)
left_or_zero_by sum t p ps true e g h = inr (zero_is (sum (Some t)) (subst (λ o. is_gone sum o ≡ true) (same_is p.0 t e) g))
left_or_zero_by sum t p ps false e g (inl h) = inl (omega (arith, ints, h))
left_or_zero_by sum t p ps false e g (inr h) = inr h

left_or_zero : (sum : Option (List ℕ) → ℤ) (t : List ℕ) (ps : List (Option (List ℕ) × ℤ)) → all_gone sum ps ≡ true → (total ps (Some t) ≡ pos 0) ⊎ (sum (Some t) ≡ pos 0)
left_or_zero sum t [] g = inl refl
left_or_zero sum t (p ∷ ps) g =
    left_or_zero_by sum t p ps (same_symbol p.0 (Some t)) refl (and_left (is_gone sum p.0) (all_gone sum ps) g) (left_or_zero sum t ps (and_right (is_gone sum p.0) (all_gone sum ps) g))

either : (z : ℤ) → (z ≡ pos 0) ⊎ (z ≡ pos 0) → z ≡ pos 0
either z (inl e) = e
either z (inr e) = e

some_is : (a b : ℤ) → Some a ≡ Some b → a ≡ b
some_is a b e = cc

fixed_by : (v : List ℕ → ℤ) (l : LinTree) (z : ℤ) (b : Bool) → all_gone (sum_of l) (parts_of l) ≡ b → cond b (Some (sum_of l None)) None ≡ Some z → lin_value v l ≡ z
fixed_by v l z true g e =
    lin_worth v l ∙ number_alone (length (parts_of l)) v (parts_of l) (omega arith) (λ t. either (total (parts_of l) (Some t)) (left_or_zero (sum_of l) t (parts_of l) g)) ∙ some_is (sum_of l None) z e
fixed_by v l z false g e = absurd (cc)

pub fixed_value : (v : List ℕ → ℤ) (l : LinTree) (z : ℤ) → number_of l ≡ Some z → lin_value v l ≡ z
fixed_value v l z e = fixed_by v l z (all_gone (sum_of l) (parts_of l)) refl e
