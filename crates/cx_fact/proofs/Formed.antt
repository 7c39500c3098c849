-- What is told leaves a state valid.
use Rattle.std.specs.Prelude.{◌≡◌, ℕ, zero, suc, ℤ, pos, negsuc, neg_ℤ, ◌-ℤ◌, ◌<◌, ◌^◌, List, [], ◌∷◌, length, All, slice_get, Option, Some, None, Ok, Bool, true, false, ◌&&◌}
use Rattle.std.proofs.Common.{arith, refl, ◌∙◌, cond, subst}
use Rattle.std.proofs.lemmas.List.{length-set}
use Rattle.std.proofs.lemmas.List.Elements.{All-set}
use Rattle.cx_term.specs.Forms.{Linear, symbol_of}
use Rattle.cx_term.specs.Sums.{plus_times}
use Rattle.cx_term.specs.Replaced.{put_all}
use Rattle.cx_cells.specs.declared.form.Form.{Form}
use Rattle.cx_cells.specs.declared.form.Tail.{Tail}
use Rattle.cx_state.specs.Known.{fact_at, inner}
use Rattle.cx_state.specs.Valid.{FactBelow, OptionBelow, HasType, IsValid}
use Rattle.cx_state.specs.declared.state.Env.{Env}
use Rattle.cx_state.specs.declared.state.Fact.{Fact}
use Rattle.cx_query.specs.Shown.{difference, sum, number}
use Rattle.cx_learn.specs.Answers.{and_then}
use Rattle.cx_learn.specs.Keeping.{KeepsFormed}
use Rattle.cx_learn.specs.Learning.{nonzero_in, learnt_if}
use Rattle.cx_fact.specs.Telling.{above_zero, below_end, count_of, plus_multiple, size_gap, told_tail, told_size, is_count, told_fact, told_by, told, not_null, with_fact, settled_by, settled}
use Rattle.cx_learn.proofs.Valids.{Base, Forms, ok-forms, formed-valid, then-forms, learnt_if-forms, valid-base}
use Rattle.cx_learn.proofs.Below.{IfBelow, plus_times-below, fit-below, some-below, number-below, symbol-below, difference-below, sum-below, put_all-below}

-- ---- what is told
multiple-below : (n : ℕ) (a b : Option Linear) (k : ℤ) → IfBelow n a → IfBelow n b → IfBelow n (plus_multiple a k b)
multiple-below n None b k g h u e = absurd (cc)
multiple-below n (Some s) None k g h u e = absurd (cc)
multiple-below n (Some s) (Some t) k g h u e = fit-below n (plus_times k t s) (plus_times-below n k t s (h t refl) (g s refl)) u e

above-below : (n s : ℕ) (f : Fact) → s < n → FactBelow n f → IfBelow n (above_zero s f)
above-below n s f l h = sum-below n (difference (Some (symbol_of s)) (Some f.off)) (number (negsuc 0)) (difference-below n (Some (symbol_of s)) (Some f.off) (some-below n (symbol_of s) (symbol-below n s l)) (some-below n f.off h.off)) (number-below n (negsuc 0))

end-below : (n s : ℕ) (f : Fact) → s < n → FactBelow n f → IfBelow n (below_end s f)
end-below n s f l h = difference-below n (sum (Some f.off) (number (pos (2 ^ 47) -ℤ pos 1))) (Some (symbol_of s)) (sum-below n (Some f.off) (number (pos (2 ^ 47) -ℤ pos 1)) (some-below n f.off h.off) (number-below n (pos (2 ^ 47) -ℤ pos 1))) (some-below n (symbol_of s) (symbol-below n s l))

count-below : (n : ℕ) (f : Fact) (tail : Tail) → FactBelow n f → IfBelow n (count_of f tail)
count-below n f tail h = fit-below n (put_all f.args tail.count) (put_all-below n f.args tail.count h.args)

tail-forms : (n : ℕ) (form : Form) (f : Fact) (env : Env) (o : Option Tail) → Base n env → FactBelow n f → Forms n env (told_tail form f o env)
tail-forms n form f env None m h = ok-forms n env m
tail-forms n form f env (Some tail) m h =
    then-forms n env (learnt_if env (count_of f tail)) (λ e. learnt_if e (size_gap form f tail)) (learnt_if-forms n env (count_of f tail) m (count-below n f tail h))
    (λ mid k. learnt_if-forms n mid (size_gap form f tail) k (multiple-below n (number (pos (2 ^ 47) -ℤ pos form.head_size)) (count_of f tail) (neg_ℤ (pos tail.part.size)) (number-below n (pos (2 ^ 47) -ℤ pos form.head_size)) (count-below n f tail h)))

size-forms : (n : ℕ) (o : Option Form) (f : Fact) (env : Env) → Base n env → FactBelow n f → Forms n env (told_size o f env)
size-forms n None f env m h = ok-forms n env m
size-forms n (Some form) f env m h = tail-forms n form f env form.tail m h

fact_by : (forms : List Form) (n : ℕ) (env : Env) (s : ℕ) (f : Fact) (a b : Bool) → Base n env → s < n → FactBelow n f → Forms n env (cond a (cond b (learnt_if env (below_end s f)) (Ok env)) (and_then (learnt_if env (above_zero s f)) (λ e. and_then (learnt_if e (below_end s f)) (λ d. told_size (slice_get forms f.name) f d))))
fact_by forms n env s f true true m l h = learnt_if-forms n env (below_end s f) m (end-below n s f l h)
fact_by forms n env s f true false m l h = ok-forms n env m
fact_by forms n env s f false b m l h =
    then-forms n env (learnt_if env (above_zero s f)) (λ e. and_then (learnt_if e (below_end s f)) (λ d. told_size (slice_get forms f.name) f d)) (learnt_if-forms n env (above_zero s f) m (above-below n s f l h))
    (λ mid k.
    then-forms n mid (learnt_if mid (below_end s f)) (λ d. told_size (slice_get forms f.name) f d) (learnt_if-forms n mid (below_end s f) k (end-below n s f l h))
    (λ last j. size-forms n (slice_get forms f.name) f last j h))

pub told_fact-forms : (forms : List Form) (n : ℕ) (env : Env) (s : ℕ) (f : Fact) → Base n env → s < n → FactBelow n f → Forms n env (told_fact forms env s f)
told_fact-forms forms n env s f m l h = fact_by forms n env s f f.null (is_count f.off) m l h

-- ---- the fact of a symbol
fact_within : (facts : List (Option Fact)) (s : ℕ) (f : Fact) → fact_at facts s ≡ Some f → s < length facts
fact_within [] s f e = absurd (cc)
fact_within (x ∷ xs) zero f e = omega arith
fact_within (x ∷ xs) (suc s) f e = omega (arith, fact_within xs s f e)

fact_all : (P : Option Fact → Type 0) (facts : List (Option Fact)) (s : ℕ) (f : Fact) → All P facts → fact_at facts s ≡ Some f → P (Some f)
fact_all P [] s f h e = absurd (cc)
fact_all P (x ∷ xs) zero f h e = first_by x (h 0 x (omega arith)) e
  where
    first_by : (o : Option Fact) → P o → inner (Some o) ≡ Some f → P (Some f)
    first_by o p q = subst P q p
fact_all P (x ∷ xs) (suc s) f h e = fact_all P xs s f (λ k d l. h (suc k) d (omega (arith, l))) e

option-valid : (forms : List Form) (env : Env) (s : ℕ) (o : Option Fact) (next : Env) → fact_at env.facts s ≡ o → told_by forms env s o ≡ Ok next → IsValid forms env → IsValid forms next
option-valid forms env s None next e g V = formed-valid forms env next (ok-forms (length env.ranges) env (valid-base forms env V) next g) V
option-valid forms env s (Some f) next e g V =
    let l : s < length env.ranges = rw V.scoped.facts_count at (fact_within env.facts s f e) in
    formed-valid forms env next (told_fact-forms forms (length env.ranges) env s f (valid-base forms env V) l (fact_all (OptionBelow (length env.ranges)) env.facts s f V.scoped.facts e) next g) V

pub told-valid : (forms : List Form) (env : Env) (s : ℕ) (next : Env) → told forms env s ≡ Ok next → KeepsFormed forms env next
told-valid forms env s next e V = option-valid forms env s (fact_at env.facts s) next refl e V

-- ---- a fact without null
lost-valid : (forms : List Form) (env : Env) (s : ℕ) (f : Fact) → fact_at env.facts s ≡ Some f → IsValid forms env → IsValid forms (with_fact env s (not_null f))
lost-valid forms env s f e V =
    let b = fact_all (OptionBelow (length env.ranges)) env.facts s f V.scoped.facts e in
    let t = fact_all (HasType forms) env.facts s f V.types e in
    let n = length-set env.facts s (Some (not_null f)) in
    record {
      anchors = V.anchors;
      scoped = record {
        facts_count = n ∙ V.scoped.facts_count;
        locals = V.scoped.locals;
        conds = V.scoped.conds;
        facts = All-set (OptionBelow (length env.ranges)) env.facts s (Some (not_null f)) (record { args = b.args; off = b.off }) V.scoped.facts;
        cells = V.scoped.cells;
        staged = V.scoped.staged;
        fresh = V.scoped.fresh;
      };
      limits = record { symbols = V.limits.symbols; conds = V.limits.conds; cells = V.limits.cells; staged = V.limits.staged };
      types = All-set (HasType forms) env.facts s (Some (not_null f)) t V.types;
    }

settle_by : (forms : List Form) (env : Env) (s : ℕ) (f : Fact) (b : Bool) (next : Env) → fact_at env.facts s ≡ Some f → cond b (told_fact forms (with_fact env s (not_null f)) s (not_null f)) (Ok env) ≡ Ok next → IsValid forms env → IsValid forms next
settle_by forms env s f true next e g V =
    let W = lost-valid forms env s f e V in
    let b = fact_all (OptionBelow (length env.ranges)) env.facts s f V.scoped.facts e in
    let l : s < length env.ranges = rw V.scoped.facts_count at (fact_within env.facts s f e) in
    formed-valid forms (with_fact env s (not_null f)) next (told_fact-forms forms (length env.ranges) (with_fact env s (not_null f)) s (not_null f) (valid-base forms (with_fact env s (not_null f)) W) l (record { args = b.args; off = b.off }) next g) W
settle_by forms env s f false next e g V = let h : env ≡ next = cc in subst (λ (x : Env). IsValid forms x) h V

settle_option : (forms : List Form) (env : Env) (s : ℕ) (o : Option Fact) (next : Env) → fact_at env.facts s ≡ o → settled_by forms env s o ≡ Ok next → IsValid forms env → IsValid forms next
settle_option forms env s None next e g V = let h : env ≡ next = cc in subst (λ (x : Env). IsValid forms x) h V
settle_option forms env s (Some f) next e g V = settle_by forms env s f (f.null && nonzero_in env (symbol_of s)) next e g V

pub settled-valid : (forms : List Form) (env : Env) (s : ℕ) (next : Env) → settled forms env s ≡ Ok next → KeepsFormed forms env next
settled-valid forms env s next e V = settle_option forms env s (fact_at env.facts s) next refl e V
