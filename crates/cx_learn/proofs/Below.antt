-- Forms that are made of forms name no further symbols.
use Rattle.std.specs.Prelude.{◌≡◌, ℕ, zero, suc, ℤ, pos, negsuc, ◌+ℤ◌, ◌*ℤ◌, ◌<◌, List, [], ◌∷◌, length, drop, All, slice_index_or, nat_lt, Option, Some, None, Bool, true, false}
use Rattle.std.specs.List.{AllByRecursion}
use Rattle.std.proofs.Common.{arith, refl, cond}
use Rattle.cx_term.specs.Forms.{Linear, within, fit, constant_of, symbol_of}
use Rattle.cx_term.specs.Sums.{plus_times, is_zero, joined, head_of, here, with_part, with_parts}
use Rattle.cx_term.specs.Replaced.{put_all, form_at, replaced_parts}
use Rattle.cx_state.specs.Valid.{TermBelow}
use Rattle.cx_query.specs.Shown.{difference, sum, number}

abbrev pub Below : ℕ → List (ℕ × ℤ) → Type 0
Below n ps = AllByRecursion (λ p. p.0 < n) ps

pub to_recursion : {X : Type 0} (P : X → Type 0) (xs : List X) → All P xs → AllByRecursion P xs
to_recursion P [] h = tt
to_recursion P (x ∷ xs) h = (h 0 x (omega arith), to_recursion P xs (λ k d l. h (suc k) d (omega (arith, l))))

at_place : {X : Type 0} (P : X → Type 0) (xs : List X) (k : ℕ) (d : X) → AllByRecursion P xs → k < length xs → P (slice_index_or xs k d)
at_place P [] k d h l = absurd (omega (arith, l))
at_place P (x ∷ xs) zero d h l = h.0
at_place P (x ∷ xs) (suc k) d h l = at_place P xs k d h.1 (omega (arith, l))

pub from_recursion : {X : Type 0} (P : X → Type 0) (xs : List X) → AllByRecursion P xs → All P xs
from_recursion P xs h = λ k d l. at_place P xs k d h l

drop_one : (n : ℕ) (ps : List (ℕ × ℤ)) → Below n ps → Below n (drop 1 ps)
drop_one n [] h = tt
drop_one n (p ∷ ps) h = h.1

keep_by : (n s : ℕ) (k : ℤ) (ps : List (ℕ × ℤ)) (b : Bool) → s < n → Below n ps → Below n (cond b ps ((s, k) ∷ ps))
keep_by n s k ps true l h = h
keep_by n s k ps false l h = (l, h)

joined_below : (n s : ℕ) (k : ℤ) (o : Option ℤ) (ps : List (ℕ × ℤ)) → s < n → Below n ps → Below n (joined o s k ps)
joined_below n s k None ps l h = keep_by n s k ps (is_zero k) l h
joined_below n s k (Some c) ps l h = keep_by n s (c +ℤ k) (drop 1 ps) (is_zero (c +ℤ k)) l (drop_one n ps h)

here_below : (n s : ℕ) (k : ℤ) (ps : List (ℕ × ℤ)) → s < n → Below n ps → Below n (here s k ps)
here_below n s k ps l h = joined_below n s k (head_of s ps) ps l h

place_by : (n s : ℕ) (k : ℤ) (p : ℕ × ℤ) (ps qs : List (ℕ × ℤ)) (b : Bool) → s < n → Below n (p ∷ ps) → Below n qs → Below n (cond b (p ∷ qs) (here s k (p ∷ ps)))
place_by n s k p ps qs true l h g = (h.0, g)
place_by n s k p ps qs false l h g = here_below n s k (p ∷ ps) l h

with_part_below : (n s : ℕ) (k : ℤ) (ps : List (ℕ × ℤ)) → s < n → Below n ps → Below n (with_part s k ps)
with_part_below n s k [] l h = here_below n s k [] l h
with_part_below n s k (p ∷ ps) l h = place_by n s k p ps _ (nat_lt p.0 s) l h (with_part_below n s k ps l h.1)

with_parts_below : (n : ℕ) (k : ℤ) (qs ps : List (ℕ × ℤ)) → Below n qs → Below n ps → Below n (with_parts k qs ps)
with_parts_below n k [] ps g h = h
with_parts_below n k (q ∷ qs) ps g h = with_parts_below n k qs (with_part q.0 (k *ℤ q.1) ps) g.1 (with_part_below n q.0 (k *ℤ q.1) ps g.0 h)

pub plus_times-below : (n : ℕ) (k : ℤ) (o t : Linear) → TermBelow n o → TermBelow n t → TermBelow n (plus_times k o t)
plus_times-below n k o t g h =
    from_recursion (λ p. p.0 < n) (with_parts k o.parts t.parts) (with_parts_below n k o.parts t.parts (to_recursion (λ p. p.0 < n) o.parts g) (to_recursion (λ p. p.0 < n) t.parts h))

-- ---- forms that may be none
-- where there is a form, its symbols are below n
abbrev pub IfBelow : ℕ → Option Linear → Type 0
IfBelow n o = (u : Linear) → o ≡ Some u → TermBelow n u

fit_by : (n : ℕ) (t : Linear) (b : Bool) → TermBelow n t → IfBelow n (cond b (Some t) None)
fit_by n t true h u q = let f : t ≡ u = cc in rw (← f) h
fit_by n t false h u q = absurd (cc)

pub fit-below : (n : ℕ) (t : Linear) → TermBelow n t → IfBelow n (fit t)
fit-below n t h = fit_by n t (within t) h

pub some-below : (n : ℕ) (t : Linear) → TermBelow n t → IfBelow n (Some t)
some-below n t h u q = let f : t ≡ u = cc in rw (← f) h

pub constant-below : (n : ℕ) (z : ℤ) → TermBelow n (constant_of z)
constant-below n z k d l = absurd (omega (arith, l))

pub number-below : (n : ℕ) (z : ℤ) → IfBelow n (number z)
number-below n z = fit-below n (constant_of z) (constant-below n z)

pub symbol-below : (n s : ℕ) → s < n → TermBelow n (symbol_of s)
symbol-below n s l = from_recursion (λ p. p.0 < n) ((s, pos 1) ∷ []) (l, tt)

pub difference-below : (n : ℕ) (a b : Option Linear) → IfBelow n a → IfBelow n b → IfBelow n (difference a b)
difference-below n None b g h u e = absurd (cc)
difference-below n (Some s) None g h u e = absurd (cc)
difference-below n (Some s) (Some t) g h u e = fit-below n (plus_times (negsuc 0) t s) (plus_times-below n (negsuc 0) t s (h t refl) (g s refl)) u e

pub sum-below : (n : ℕ) (a b : Option Linear) → IfBelow n a → IfBelow n b → IfBelow n (sum a b)
sum-below n None b g h u e = absurd (cc)
sum-below n (Some s) None g h u e = absurd (cc)
sum-below n (Some s) (Some t) g h u e = fit-below n (plus_times (pos 1) t s) (plus_times-below n (pos 1) t s (h t refl) (g s refl)) u e

-- ---- symbols replaced
form_below : (n : ℕ) (ts : List Linear) (s : ℕ) → AllByRecursion (TermBelow n) ts → TermBelow n (form_at ts s)
form_below n [] s h = constant-below n (pos 0)
form_below n (t ∷ ts) zero h = h.0
form_below n (t ∷ ts) (suc s) h = form_below n ts s h.1

replaced_below : (n : ℕ) (ts : List Linear) (ps qs : List (ℕ × ℤ)) → AllByRecursion (TermBelow n) ts → Below n qs → Below n (replaced_parts ts ps qs)
replaced_below n ts [] qs h g = g
replaced_below n ts (p ∷ ps) qs h g =
    replaced_below n ts ps (with_parts p.1 (form_at ts p.0).parts qs) h (with_parts_below n p.1 (form_at ts p.0).parts qs (to_recursion (λ p. p.0 < n) (form_at ts p.0).parts (form_below n ts p.0 h)) g)

pub put_all-below : (n : ℕ) (ts : List Linear) (t : Linear) → All (TermBelow n) ts → TermBelow n (put_all ts t)
put_all-below n ts t h = from_recursion (λ p. p.0 < n) (replaced_parts ts t.parts []) (replaced_below n ts t.parts [] (to_recursion (TermBelow n) ts h) tt)
