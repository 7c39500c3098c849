-- What is counted up to the limit, put together.
use Rattle.std.proofs.Common.{◌≡◌, ℕ, zero, suc, ◌+◌, ◌*◌, ◌≤◌, List, length, map, Bool, true, false, Option, Some, None, refl, sym, ap, ◌∙◌, arith}
use Rattle.std.specs.Prelude.{ℤ, nat_lt, ◌||◌}
use Rattle.std.proofs.Math.Nat.{mul-le-mul_left, mul_comm}
use Rattle.std.proofs.lemmas.Bool.Decides.{nat_tests}
use Rattle.std.proofs.lemmas.List.{length-map}
use Rattle.cx_base.specs.declared.span.Span.{Span}
use Rattle.cx_tsyn.specs.declared.word.Word.{Word}
use Rattle.cx_tsyn.specs.declared.lin.Relation.{Relation}
use Rattle.cx_tsyn.specs.Words.{WordTree, word_tree}
use Rattle.cx_tsyn.specs.Lins.{LinTree, RelationTree, relation_tree}
use Rattle.cx_tsyn.specs.Types.{STypeTree, stype, AtomTree}
use Rattle.cx_tnumber.specs.Numbers.{number_of}
use Rattle.cx_tarity.specs.Counts.{turns, in_length, binders, conditions, count, count_atom, are_many, are_many_in, many_by, has_many_in}
use Rattle.cx_tarity.specs.Capped.{few, counted, counted_atom, nothing, plus, is_over, in_row_by, in_row, with_own}
use Rattle.cx_tarity.specs.declared.count.Amounts.{Amounts}

pub few_sum : (a b : ℕ) → few (a + few b) ≡ few (a + b)
few_sum a b = omega arith

pub few_both : (a b : ℕ) → few (few a + few b) ≡ few (a + b)
few_both a b = omega arith

few_product : (n E : ℕ) → few (n * few E) ≡ few (n * E)
few_product zero E = omega arith
few_product (suc n) E = by_size (nat_lt E 17) refl
  where
    by_size : (b : Bool) → nat_lt E 17 ≡ b → few (suc n * few E) ≡ few (suc n * E)
    by_size true q = let same : few E ≡ E = grind (arith, nat_tests, q) in ap (λ x. few (suc n * x)) same
    by_size false q =
        let most : few E ≡ 17 = grind (arith, nat_tests, q) in
        let many : 17 ≤ E = grind (arith, nat_tests, q) in
        let a : suc n * 17 ≤ suc n * E = mul-le-mul_left (suc n) many in
        ap (λ x. few (suc n * x)) most ∙ omega (arith, a)

pub few_times : (t e : ℕ) → few (few t * e) ≡ few (t * e)
few_times t e = ap few (mul_comm (few t) e) ∙ few_product e t ∙ ap few (mul_comm e t)

few_over : (n : ℕ) → nat_lt 16 (few n) ≡ nat_lt 16 n
few_over n = grind (arith, nat_tests)

over_atom : (a : AtomTree) → is_over (counted_atom a) ≡ are_many_in a
over_atom a = ap (λ b. b || nat_lt 16 (few (count_atom conditions a))) (few_over (count_atom binders a)) ∙ ap (λ b. nat_lt 16 (count_atom binders a) || b) (few_over (count_atom conditions a))

pub over_type : (t : STypeTree) → is_over (counted t) ≡ are_many t
over_type t = ap (λ b. b || nat_lt 16 (few (count conditions t))) (few_over (count binders t)) ∙ ap (λ b. nat_lt 16 (count binders t) || b) (few_over (count conditions t))

same_amounts : (a b : Amounts) → a.binders ≡ b.binders → a.conds ≡ b.conds → a.over ≡ b.over → a ≡ b
same_amounts a b p q r = λ i. record { binders = p i; conds = q i; over = r i }

row_is : (o : Option ℤ) (bs cs : ℕ) (a : AtomTree)
    → with_own bs cs (in_row_by o (counted_atom a)) ≡ record { binders = few (bs + in_length o (count_atom binders a)); conds = few (cs + in_length o (count_atom conditions a)); over = many_by o a || has_many_in a }
row_is None bs cs a = same_amounts _ _ refl refl (ap (λ b. b || has_many_in a) (over_atom a))
row_is (Some z) bs cs a =
    same_amounts _ _
    (ap (λ x. few (bs + x)) (few_product (turns z) (count_atom binders a)) ∙ few_sum bs (turns z * count_atom binders a))
    (ap (λ x. few (cs + x)) (few_product (turns z) (count_atom conditions a)) ∙ few_sum cs (turns z * count_atom conditions a))
    refl

pub counted_whole : (s : Span) (bs : List WordTree) (a : AtomTree) (n : Option LinTree) (cs : List RelationTree)
    → with_own (length bs) (length cs) (in_row n (counted_atom a)) ≡ counted (stype s bs a n cs)
counted_whole s bs a None cs = same_amounts _ _ (few_sum (length bs) (count_atom binders a)) (few_sum (length cs) (count_atom conditions a)) refl
counted_whole s bs a (Some l) cs = row_is (number_of l) (length bs) (length cs) a

pub counted_told : (s : Span) (bs : List Word) (a : AtomTree) (n : Option LinTree) (cs : List Relation) (x y r : Amounts) (nb nc : ℕ)
    → x ≡ counted_atom a → y ≡ in_row n x → r ≡ with_own nb nc y → nb ≡ length bs → nc ≡ length cs
    → r ≡ counted (stype s (map word_tree bs) a n (map relation_tree cs))
counted_told s bs a n cs x y r nb nc hx hy hr hb hc =
    hr
    ∙ ap (with_own nb nc) (hy ∙ ap (in_row n) hx)
    ∙ ap (λ k. with_own k nc (in_row n (counted_atom a))) (hb ∙ sym (length-map bs word_tree))
    ∙ ap (λ k. with_own (length (map word_tree bs)) k (in_row n (counted_atom a))) (hc ∙ sym (length-map cs relation_tree))
    ∙ counted_whole s (map word_tree bs) a n (map relation_tree cs)

-- ---- loops

or_assoc : (a b c : Bool) → (a || b) || c ≡ a || (b || c)
or_assoc true b c = refl
or_assoc false b c = refl

few_twice : (a b c : ℕ) → few (few (a + b) + c) ≡ few (a + few (b + c))
few_twice a b c = omega arith

pub plus_assoc : (a b c : Amounts) → plus (plus a b) c ≡ plus a (plus b c)
plus_assoc a b c = same_amounts _ _ (few_twice a.binders b.binders c.binders) (few_twice a.conds b.conds c.conds) (or_assoc a.over b.over c.over)

or_none : (a : Bool) → a || false ≡ a
or_none true = refl
or_none false = refl

few_none : (a b : ℕ) → few (few (a + b) + 0) ≡ few (a + b)
few_none a b = omega arith

pub plus_none : (a b : Amounts) → plus (plus a b) nothing ≡ plus a b
plus_none a b = same_amounts _ _ (few_none a.binders b.binders) (few_none a.conds b.conds) (or_none (a.over || b.over))
