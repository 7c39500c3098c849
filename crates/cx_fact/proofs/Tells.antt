-- What is told of a fact is true.
use Rattle.std.specs.Prelude.{◌≡◌, ℕ, zero, suc, ℤ, pos, negsuc, neg_ℤ, ◌+ℤ◌, ◌-ℤ◌, ◌*ℤ◌, ◌≤ℤ◌, ◌^◌, int_le, List, [], ◌∷◌, length, Option, Some, None, Ok, slice_get, Bool, true, false}
use Rattle.std.proofs.Common.{arith, refl, sym, ap, ◌∙◌, cond}
use Rattle.std.proofs.lemmas.Int.{ints}
use Rattle.std.proofs.lemmas.Bool.Decides.{nat_tests}
use Rattle.cx_base.specs.declared.memory.Region.{Region}
use Rattle.cx_term.specs.Forms.{Linear, value, value_parts, symbol_of}
use Rattle.cx_term.specs.Sums.{plus_times}
use Rattle.cx_term.specs.Replaced.{put_all, form_at}
use Rattle.cx_term.specs.Replaced.{values_of as term_values}
use Rattle.cx_term.proofs.AllReplaced.{value-put_all}
use Rattle.cx_term.proofs.Exact.{value-plus_times}
use Rattle.cx_term.proofs.Ring.{neg-mul}
use Rattle.cx_term.proofs.Tests.{and_left, and_right}
use Rattle.cx_cells.specs.Symbols.{is_number}
use Rattle.cx_cells.specs.Values.{all_values, values_of}
use Rattle.cx_cells.specs.Meaning.{element_count}
use Rattle.cx_cells.specs.declared.form.Form.{Form}
use Rattle.cx_cells.specs.declared.form.Tail.{Tail}
use Rattle.cx_state.specs.Known.{fact_at}
use Rattle.cx_state.specs.Run.{Run}
use Rattle.cx_state.specs.Stands.{StandsAtAccess}
use Rattle.cx_state.specs.declared.state.Fact.{Fact}
use Rattle.cx_state.specs.declared.state.Env.{Env}
use Rattle.cx_query.specs.Shown.{difference, sum, number}
use Rattle.cx_query.proofs.Comes.{Meets, Comes, fit-comes, some-comes, number-comes, difference-comes, sum-comes, value-symbol}
use Rattle.cx_learn.specs.Answers.{and_then}
use Rattle.cx_learn.specs.Keeping.{StandsToo, KeepsRun}
use Rattle.cx_learn.specs.Learning.{learnt_if}
use Rattle.cx_fact.specs.Telling.{above_zero, below_end, count_of, plus_multiple, size_gap, told_tail, told_size, is_count, told_fact, told_by, told}
use Rattle.cx_learn.proofs.Learns.{Gives, ok-gives, then-gives, learnt_if-gives, learns-access, learns-stands, access-meets}
use Rattle.cx_fact.proofs.Truths.{TailTruths, Truths, fact_truths}

above-comes : (v : ℕ → ℤ) (s : ℕ) (f : Fact) → Comes v (above_zero s f) ((value v (symbol_of s) -ℤ value v f.off) +ℤ negsuc 0)
above-comes v s f =
    sum-comes v (difference (Some (symbol_of s)) (Some f.off)) (number (negsuc 0)) _ (negsuc 0)
    (difference-comes v (Some (symbol_of s)) (Some f.off) (value v (symbol_of s)) (value v f.off) (some-comes v (symbol_of s)) (some-comes v f.off)) (number-comes v (negsuc 0))

below-comes : (v : ℕ → ℤ) (s : ℕ) (f : Fact) → Comes v (below_end s f) ((value v f.off +ℤ (pos (2 ^ 47) -ℤ pos 1)) -ℤ value v (symbol_of s))
below-comes v s f =
    difference-comes v (sum (Some f.off) (number (pos (2 ^ 47) -ℤ pos 1))) (Some (symbol_of s)) _ (value v (symbol_of s))
    (sum-comes v (Some f.off) (number (pos (2 ^ 47) -ℤ pos 1)) (value v f.off) (pos (2 ^ 47) -ℤ pos 1) (some-comes v f.off) (number-comes v (pos (2 ^ 47) -ℤ pos 1))) (some-comes v (symbol_of s))

-- ---- the arguments' values
parts-same : (v w : ℕ → ℤ) (ps : List (ℕ × ℤ)) → ((s : ℕ) → v s ≡ w s) → value_parts v ps ≡ value_parts w ps
parts-same v w [] h = refl
parts-same v w (p ∷ ps) h = let a = h p.0 in let b = parts-same v w ps h in cc

pub value-same : (v w : ℕ → ℤ) (t : Linear) → ((s : ℕ) → v s ≡ w s) → value v t ≡ value w t
value-same v w t h = let a = parts-same v w t.parts h in cc

pub value_at : (v : ℕ → ℤ) (ts : List Linear) (s : ℕ) → value v (form_at ts s) ≡ values_of (all_values v ts) s
value_at v [] s = omega (arith, ints)
value_at v (t ∷ ts) zero = refl
value_at v (t ∷ ts) (suc s) = value_at v ts s

count-comes : (v : ℕ → ℤ) (f : Fact) (tail : Tail) → Comes v (count_of f tail) (element_count (all_values v f.args) tail)
count-comes v f tail = fit-comes v (put_all f.args tail.count) _ (value-put_all v f.args tail.count ∙ value-same (term_values f.args v) (values_of (all_values v f.args)) tail.count (value_at v f.args))

multiple-comes : (v : ℕ → ℤ) (a b : Option Linear) (k x y : ℤ) → Comes v a x → Comes v b y → Comes v (plus_multiple a k b) (x +ℤ k *ℤ y)
multiple-comes v None b k x y g h u e = absurd (cc)
multiple-comes v (Some s) None k x y g h u e = absurd (cc)
multiple-comes v (Some s) (Some t) k x y g h u e =
    fit-comes v (plus_times k t s) (x +ℤ k *ℤ y) (omega (arith, ints, value-plus_times k t s v, g s refl, ap (λ (z : ℤ). k *ℤ z) (h t refl))) u e

size-comes : (v : ℕ → ℤ) (form : Form) (f : Fact) (tail : Tail) → Comes v (size_gap form f tail) ((pos (2 ^ 47) -ℤ pos form.head_size) +ℤ neg_ℤ (pos tail.part.size) *ℤ element_count (all_values v f.args) tail)
size-comes v form f tail = multiple-comes v (number (pos (2 ^ 47) -ℤ pos form.head_size)) (count_of f tail) (neg_ℤ (pos tail.part.size)) _ _ (number-comes v (pos (2 ^ 47) -ℤ pos form.head_size)) (count-comes v f tail)

-- ---- what is told
gap_by : (h n : ℕ) (e : ℤ) → (pos h +ℤ e *ℤ pos n) ≤ℤ pos (2 ^ 47) → pos 0 ≤ℤ ((pos (2 ^ 47) -ℤ pos h) +ℤ neg_ℤ (pos n) *ℤ e)
gap_by h n e l = omega (arith, ints, l, neg_times n e)
  where
    neg_times : (n : ℕ) (e : ℤ) → neg_ℤ (pos n) *ℤ e ≡ neg_ℤ (e *ℤ pos n)
    neg_times n e = omega (arith, ints, neg-mul (pos n) e)

tail-gives : (v : ℕ → ℤ) (form : Form) (f : Fact) (env : Env) (o : Option Tail) → Meets env v → ((tail : Tail) → o ≡ Some tail → TailTruths v f form tail) → Gives v env (told_tail form f o env)
tail-gives v form f env None m h = ok-gives v env m
tail-gives v form f env (Some tail) m h =
    let t = h tail refl in
    then-gives v env (learnt_if env (count_of f tail)) (λ e. learnt_if e (size_gap form f tail))
    (learnt_if-gives v env (count_of f tail) _ m (count-comes v f tail) t.count)
    (λ mid k. learnt_if-gives v mid (size_gap form f tail) _ k (size-comes v form f tail) (gap_by form.head_size tail.part.size (element_count (all_values v f.args) tail) t.size))

size-gives : (v : ℕ → ℤ) (o : Option Form) (f : Fact) (env : Env) → Meets env v → ((form : Form) (tail : Tail) → o ≡ Some form → form.tail ≡ Some tail → TailTruths v f form tail) → Gives v env (told_size o f env)
size-gives v None f env m h = ok-gives v env m
size-gives v (Some form) f env m h = tail-gives v form f env form.tail m (λ tail e. h form tail refl e)

count_true : (v : ℕ → ℤ) (t : Linear) → is_count t ≡ true → pos 0 ≤ℤ value v t
count_true v t e =
    let z : int_le (pos 0) t.konst ≡ true = and_right (is_number t) (int_le (pos 0) t.konst) e in
    let n : length t.parts ≡ 0 = let q = and_left (is_number t) (int_le (pos 0) t.konst) e in grind (arith, nat_tests) in
    omega (arith, ints, z, no_parts v t.parts n)
  where
    no_parts : (v : ℕ → ℤ) (ps : List (ℕ × ℤ)) → length ps ≡ 0 → value_parts v ps ≡ pos 0
    no_parts v [] e = refl
    no_parts v (p ∷ ps) e = absurd (omega (arith, e))

below_true : (v : ℕ → ℤ) (s : ℕ) (f : Fact) → (v s -ℤ value v f.off) ≤ℤ (pos (2 ^ 47) -ℤ pos 1) → pos 0 ≤ℤ ((value v f.off +ℤ (pos (2 ^ 47) -ℤ pos 1)) -ℤ value v (symbol_of s))
below_true v s f h = omega (arith, ints, h, value-symbol v s)

null_by : (forms : List Form) (v : ℕ → ℤ) (env : Env) (s : ℕ) (f : Fact) (b : Bool) → Meets env v → Truths forms v s f → is_count f.off ≡ b → Gives v env (cond b (learnt_if env (below_end s f)) (Ok env))
null_by forms v env s f true m t e = learnt_if-gives v env (below_end s f) _ m (below-comes v s f) (below_true v s f (t.below (λ n. count_true v f.off e)))
null_by forms v env s f false m t e = ok-gives v env m

fact_by : (forms : List Form) (v : ℕ → ℤ) (env : Env) (s : ℕ) (f : Fact) (n : Bool) → Meets env v → Truths forms v s f → f.null ≡ n → Gives v env (cond n (cond (is_count f.off) (learnt_if env (below_end s f)) (Ok env)) (and_then (learnt_if env (above_zero s f)) (λ e. and_then (learnt_if e (below_end s f)) (λ d. told_size (slice_get forms f.name) f d))))
fact_by forms v env s f true m t e = null_by forms v env s f (is_count f.off) m t refl
fact_by forms v env s f false m t e =
    then-gives v env (learnt_if env (above_zero s f)) (λ e. and_then (learnt_if e (below_end s f)) (λ d. told_size (slice_get forms f.name) f d))
    (learnt_if-gives v env (above_zero s f) _ m (above-comes v s f) (omega (arith, ints, t.above e, value-symbol v s)))
    (λ mid k.
    then-gives v mid (learnt_if mid (below_end s f)) (λ d. told_size (slice_get forms f.name) f d)
    (learnt_if-gives v mid (below_end s f) _ k (below-comes v s f) (below_true v s f (t.below (λ n. absurd (let w : true ≡ false = sym n ∙ e in cc)))))
    (λ last l. size-gives v (slice_get forms f.name) f last l (t.sizes e)))

pub told_fact-gives : (forms : List Form) (v : ℕ → ℤ) (env : Env) (s : ℕ) (f : Fact) → Meets env v → Truths forms v s f → Gives v env (told_fact forms env s f)
told_fact-gives forms v env s f m t = fact_by forms v env s f f.null m t refl

option-gives : (run : Run) (v : ℕ → ℤ) (env : Env) (locals : List (Option ℤ)) (memory : List Region) (s : ℕ) (o : Option Fact) → fact_at env.facts s ≡ o → StandsAtAccess run v env locals memory → Gives v env (told_by run.forms env s o)
option-gives run v env locals memory s None e S = ok-gives v env (access-meets run v env locals memory S)
option-gives run v env locals memory s (Some f) e S = told_fact-gives run.forms v env s f (access-meets run v env locals memory S) (fact_truths run v env locals memory s f S e)

told-gives : (run : Run) (v : ℕ → ℤ) (env : Env) (locals : List (Option ℤ)) (memory : List Region) (s : ℕ) → StandsAtAccess run v env locals memory → Gives v env (told run.forms env s)
told-gives run v env locals memory s S = option-gives run v env locals memory s (fact_at env.facts s) refl S

run-keeps : (run : Run) (v : ℕ → ℤ) (env : Env) (s : ℕ) (next : Env) → told run.forms env s ≡ Ok next → StandsToo run v env next
run-keeps run v env s next e =
    record {
      at_access = λ locals memory S. learns-access run v env next locals memory (told-gives run v env locals memory s S next e) S;
      stands = λ locals memory S. learns-stands run v env next locals memory (told-gives run v env locals memory s S.at_access next e) S;
    }

pub told-keeps : (forms : List Form) (env : Env) (s : ℕ) (next : Env) → told forms env s ≡ Ok next → KeepsRun forms env next
told-keeps forms env s next e run v q = run-keeps run v env s next (rw q e)
