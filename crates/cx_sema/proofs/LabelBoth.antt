-- The walk takes the labels of a switch exactly where no two of them are the same.
use Rattle.std.proofs.Common.{◌≡◌, ℤ, Bool, true, false, List, [], ◌∷◌, ◌++◌, Option, None, Some, refl, ap, sym, ◌∙◌, subst}
use Rattle.std.specs.Prelude.{Ok, not, ◌&&◌, ◌||◌, if◌then◌else◌}
use Rattle.std.specs.List.{list_any, list_all}
use Rattle.std.specs.Ordering.{int_eq}
use Rattle.cx_base.specs.declared.span.Span.{Span}
use Rattle.cx_base.specs.declared.number.CInt.{CInt}
use Rattle.cx_base.proofs.General.{both_true, true_both}
use Rattle.cx_ctree.specs.Exprs.{ExprTree, span_of}
use Rattle.cx_cconst.specs.Constants.{converted, constant_in}
use Rattle.cx_sname.specs.File.{Declared}
use Rattle.cx_scope.specs.Locals.{no_locals}
use Rattle.cx_snode.specs.Judging.{breaks, ◌>>=◌}
use Rattle.cx_snode.proofs.Judged.{parts_of, ok_same, gives_then, judged_as}
use Rattle.cx_sexpr.specs.Typing.{typed}
use Rattle.cx_sstmt.specs.Labels.{Seen, none_seen, seen_too, case_seen, default_seen, Labelled, after_label, typed_labels}
use Rattle.cx_sema.specs.StmtRules.{AreLabelsOf, same_label, AreDifferent}
use Rattle.cx_sema.proofs.ExprBoth.{has_types, types_are}

-- ---- what has been seen

-- one more label
abbrev pub with_label : Option ℤ → Seen → Seen
with_label None seen = record seen { default_ = true }
with_label (Some v) seen = seen_too v seen

abbrev pub with_labels : List (Option ℤ) → Seen → Seen
with_labels [] seen = seen
with_labels (v ∷ vs) seen = with_labels vs (with_label v seen)

-- the label has not been seen
abbrev pub is_fresh : Seen → Option ℤ → Bool
is_fresh seen None = not seen.default_
is_fresh seen (Some v) = not (list_any (int_eq v) seen.values)

-- each label has not been seen, also among those before it
abbrev pub are_fresh : Seen → List (Option ℤ) → Bool
are_fresh seen [] = true
are_fresh seen (v ∷ vs) = is_fresh seen v && are_fresh (with_label v seen) vs

pub with_both : (us vs : List (Option ℤ)) (seen : Seen) → with_labels (us ++ vs) seen ≡ with_labels vs (with_labels us seen)
with_both [] vs seen = refl
with_both (u ∷ us) vs seen = with_both us vs (with_label u seen)

pub fresh_both : (us vs : List (Option ℤ)) (seen : Seen) → are_fresh seen us ≡ true → are_fresh (with_labels us seen) vs ≡ true → are_fresh seen (us ++ vs) ≡ true
fresh_both [] vs seen h k = k
fresh_both (u ∷ us) vs seen h k =
    let p = both_true (is_fresh seen u) (are_fresh (with_label u seen) us) h in
    true_both (is_fresh seen u) (are_fresh (with_label u seen) (us ++ vs)) p.0 (fresh_both us vs (with_label u seen) p.1 k)

pub both_fresh : (us vs : List (Option ℤ)) (seen : Seen) → are_fresh seen (us ++ vs) ≡ true → (are_fresh seen us ≡ true) × (are_fresh (with_labels us seen) vs ≡ true)
both_fresh [] vs seen h = (refl, h)
both_fresh (u ∷ us) vs seen h =
    let p = both_true (is_fresh seen u) (are_fresh (with_label u seen) (us ++ vs)) h in
    let q = both_fresh us vs (with_label u seen) p.1 in
    (true_both (is_fresh seen u) (are_fresh (with_label u seen) us) p.0 q.0, q.1)

-- ---- the walk

unseen : (b : Bool) (s : Span) (x y : Seen) → (if b then breaks s 10 else Ok x) ≡ Ok y → (not b ≡ true) × (x ≡ y)
unseen true s x y h = absurd cc
unseen false s x y h = (refl, ok_same x y h)

is_unseen : (b : Bool) (s : Span) (x : Seen) → not b ≡ true → (if b then breaks s 10 else judged_as x) ≡ Ok x
is_unseen true s x h = absurd cc
is_unseen false s x h = refl

case_is : (s : Span) (t : CInt) (seen : Seen) (o : Option ℤ) (now : Seen) → case_seen s t seen o ≡ Ok now
    → (v : ℤ) × (o ≡ Some v) × (is_fresh seen (Some (converted t v)) ≡ true) × (with_label (Some (converted t v)) seen ≡ now)
case_is s t seen None now h = absurd cc
case_is s t seen (Some v) now h =
    let p = unseen (list_any (int_eq (converted t v)) seen.values) s (seen_too (converted t v) seen) now h in
    (v, refl, p.0, p.1)

abbrev labelled : List (Option ExprTree) → Seen → Labelled
labelled ls seen = record { labels = ls; seen = seen }

-- what the rules say of labels, where those before them are in seen
abbrev pub HaveLabels : Declared → CInt → Seen → List (Option ExprTree) → Labelled → Type 0
HaveLabels env t seen xs l = (vs : List (Option ℤ)) × AreLabelsOf env t xs l.labels vs × (are_fresh seen vs ≡ true) × (with_labels vs seen ≡ l.seen)

pub labels_have : (env : Declared) (t : CInt) (s : Span) (seen : Seen) (xs : List (Option ExprTree)) (l : Labelled) → typed_labels env t s seen xs ≡ Ok l → HaveLabels env t seen xs l
labels_have env t s seen [] l h = subst (HaveLabels env t seen []) (ok_same (labelled [] seen) l h) ([], (refl, refl), refl, refl)
labels_have env t s seen (None ∷ xs) l h =
    let a = parts_of (default_seen s seen) (λ now. typed_labels env t s now xs >>= after_label None) l h in
    let d = unseen seen.default_ s (record seen { default_ = true }) a.0 a.1 in
    let b = parts_of (typed_labels env t s a.0 xs) (after_label None) l a.2 in
    let k = labels_have env t s a.0 xs b.0 b.1 in
    let fresh : are_fresh (with_label None seen) k.0 ≡ true = subst (λ (n : Seen). are_fresh n k.0 ≡ true) (sym d.1) k.2 in
    let now : with_labels k.0 (with_label None seen) ≡ b.0.seen = subst (λ (n : Seen). with_labels k.0 n ≡ b.0.seen) (sym d.1) k.3 in
    subst (HaveLabels env t seen (None ∷ xs)) (ok_same (labelled (None ∷ b.0.labels) b.0.seen) l b.2)
    (None ∷ k.0, (b.0.labels, k.0, k.1, refl, refl), true_both (not seen.default_) (are_fresh (with_label None seen) k.0) d.0 fresh, now)
labels_have env t s seen (Some x ∷ xs) l h =
    let a = parts_of (typed env no_locals x) (λ a. case_seen (span_of x) t seen (constant_in env.known x) >>= (λ now. typed_labels env t s now xs >>= after_label (Some a))) l h in
    let c = parts_of (case_seen (span_of x) t seen (constant_in env.known x)) (λ now. typed_labels env t s now xs >>= after_label (Some a.0)) l a.2 in
    let d = case_is (span_of x) t seen (constant_in env.known x) c.0 c.1 in
    let v : Option ℤ = Some (converted t d.0) in
    let b = parts_of (typed_labels env t s c.0 xs) (after_label (Some a.0)) l c.2 in
    let k = labels_have env t s c.0 xs b.0 b.1 in
    let fresh : are_fresh (with_label v seen) k.0 ≡ true = subst (λ (n : Seen). are_fresh n k.0 ≡ true) (sym d.3) k.2 in
    let now : with_labels k.0 (with_label v seen) ≡ b.0.seen = subst (λ (n : Seen). with_labels k.0 n ≡ b.0.seen) (sym d.3) k.3 in
    subst (HaveLabels env t seen (Some x ∷ xs)) (ok_same (labelled (Some a.0 ∷ b.0.labels) b.0.seen) l b.2)
    (v ∷ k.0, (a.0, has_types env no_locals x a.0 a.1, d.0, d.1, b.0.labels, k.0, k.1, refl, refl), true_both (is_fresh seen v) (are_fresh (with_label v seen) k.0) d.2 fresh, now)

case_then : (s : Span) (t : CInt) (seen : Seen) (o : Option ℤ) (v : ℤ) → o ≡ Some v → is_fresh seen (Some (converted t v)) ≡ true → case_seen s t seen o ≡ Ok (with_label (Some (converted t v)) seen)
case_then s t seen o v e h = ap (case_seen s t seen) e ∙ is_unseen (list_any (int_eq (converted t v)) seen.values) s (seen_too (converted t v) seen) h

pub labels_are : (env : Declared) (t : CInt) (s : Span) (seen : Seen) (xs ys : List (Option ExprTree)) (vs : List (Option ℤ)) → AreLabelsOf env t xs ys vs → are_fresh seen vs ≡ true
    → typed_labels env t s seen xs ≡ Ok (labelled ys (with_labels vs seen))
labels_are env t s seen [] ys vs h k = ap judged_as (ap (λ zs. labelled zs seen) (sym h.0) ∙ ap (λ ws. labelled ys (with_labels ws seen)) (sym h.1))
labels_are env t s seen (None ∷ xs) ys vs h k =
    let p = both_true (not seen.default_) (are_fresh (with_label None seen) h.1) (subst (λ ws. are_fresh seen ws ≡ true) h.4 k) in
    gives_then (default_seen s seen) (with_label None seen) (λ now. typed_labels env t s now xs >>= after_label None) (is_unseen seen.default_ s (with_label None seen) p.0)
    ∙ gives_then (typed_labels env t s (with_label None seen) xs) (labelled h.0 (with_labels h.1 (with_label None seen))) (after_label None) (labels_are env t s (with_label None seen) xs h.0 h.1 h.2 p.1)
    ∙ ap judged_as (ap (λ zs. labelled zs (with_labels h.1 (with_label None seen))) (sym h.3) ∙ ap (λ ws. labelled ys (with_labels ws seen)) (sym h.4))
labels_are env t s seen (Some x ∷ xs) ys vs h k =
    let v : Option ℤ = Some (converted t h.2) in
    let p = both_true (is_fresh seen v) (are_fresh (with_label v seen) h.5) (subst (λ ws. are_fresh seen ws ≡ true) h.8 k) in
    gives_then (typed env no_locals x) h.0 (λ a. case_seen (span_of x) t seen (constant_in env.known x) >>= (λ now. typed_labels env t s now xs >>= after_label (Some a))) (types_are env no_locals x h.0 h.1)
    ∙ gives_then (case_seen (span_of x) t seen (constant_in env.known x)) (with_label v seen) (λ now. typed_labels env t s now xs >>= after_label (Some h.0)) (case_then (span_of x) t seen (constant_in env.known x) h.2 h.3 p.0)
    ∙ gives_then (typed_labels env t s (with_label v seen) xs) (labelled h.4 (with_labels h.5 (with_label v seen))) (after_label (Some h.0)) (labels_are env t s (with_label v seen) xs h.4 h.5 h.6 p.1)
    ∙ ap judged_as (ap (λ zs. labelled zs (with_labels h.5 (with_label v seen))) (sym h.7) ∙ ap (λ ws. labelled ys (with_labels ws seen)) (sym h.8))

-- ---- labels that differ

any_last : (b : Bool) → not (b || false) ≡ (true && not b)
any_last true = refl
any_last false = refl

any_next : (b c d e : Bool) → not c ≡ (not d && e) → not (b || c) ≡ (not (b || d) && e)
any_next true c d e h = refl
any_next false c d e h = h

any_end : (v w : ℤ) (vs : List ℤ) → not (list_any (int_eq v) (vs ++ w ∷ [])) ≡ (not (list_any (int_eq v) vs) && not (int_eq v w))
any_end v w [] = any_last (int_eq v w)
any_end v w (x ∷ vs) = any_next (int_eq v x) (list_any (int_eq v) (vs ++ w ∷ [])) (list_any (int_eq v) vs) (not (int_eq v w)) (any_end v w vs)

not_one : (d : Bool) → not d ≡ (not d && true)
not_one true = refl
not_one false = refl

not_two : (d : Bool) → false ≡ (not d && false)
not_two true = refl
not_two false = refl

-- a label is new after another where it was new before and is not the other
fresh_after : (seen : Seen) (v w : Option ℤ) → is_fresh (with_label v seen) w ≡ (is_fresh seen w && not (same_label w v))
fresh_after seen None None = not_two seen.default_
fresh_after seen None (Some w) = not_one (list_any (int_eq w) seen.values)
fresh_after seen (Some v) None = not_one seen.default_
fresh_after seen (Some v) (Some w) = any_end w v seen.values

not_false : (b : Bool) → not b ≡ true → b ≡ false
not_false true h = absurd cc
not_false false h = refl

false_not : (b : Bool) → b ≡ false → not b ≡ true
false_not true h = absurd cc
false_not false h = refl

none_first : (b c : Bool) → b ≡ false → c ≡ false → (b || c) ≡ false
none_first true c h k = absurd cc
none_first false c h k = k

none_both : (b c : Bool) → (b || c) ≡ false → (b ≡ false) × (c ≡ false)
none_both true c h = absurd cc
none_both false c h = (refl, h)

split_fresh : (seen : Seen) (v : Option ℤ) (ws : List (Option ℤ)) → list_all (is_fresh (with_label v seen)) ws ≡ true → (list_all (is_fresh seen) ws ≡ true) × (list_any (λ w. same_label w v) ws ≡ false)
split_fresh seen v [] h = (refl, refl)
split_fresh seen v (w ∷ ws) h =
    let p = both_true (is_fresh (with_label v seen) w) (list_all (is_fresh (with_label v seen)) ws) h in
    let q = both_true (is_fresh seen w) (not (same_label w v)) (sym (fresh_after seen v w) ∙ p.0) in
    let r = split_fresh seen v ws p.1 in
    (true_both (is_fresh seen w) (list_all (is_fresh seen) ws) q.0 r.0, none_first (same_label w v) (list_any (λ w. same_label w v) ws) (not_false (same_label w v) q.1) r.1)

join_fresh : (seen : Seen) (v : Option ℤ) (ws : List (Option ℤ)) → list_all (is_fresh seen) ws ≡ true → list_any (λ w. same_label w v) ws ≡ false → list_all (is_fresh (with_label v seen)) ws ≡ true
join_fresh seen v [] h k = refl
join_fresh seen v (w ∷ ws) h k =
    let p = both_true (is_fresh seen w) (list_all (is_fresh seen) ws) h in
    let q = none_both (same_label w v) (list_any (λ w. same_label w v) ws) k in
    true_both (is_fresh (with_label v seen) w) (list_all (is_fresh (with_label v seen)) ws) (fresh_after seen v w ∙ true_both (is_fresh seen w) (not (same_label w v)) p.0 (false_not (same_label w v) q.0)) (join_fresh seen v ws p.1 q.1)

different_by : (seen : Seen) (vs : List (Option ℤ)) → are_fresh seen vs ≡ true → AreDifferent vs × (list_all (is_fresh seen) vs ≡ true)
different_by seen [] h = (tt, refl)
different_by seen (v ∷ vs) h =
    let p = both_true (is_fresh seen v) (are_fresh (with_label v seen) vs) h in
    let q = different_by (with_label v seen) vs p.1 in
    let r = split_fresh seen v vs q.1 in
    ((r.1, q.0), true_both (is_fresh seen v) (list_all (is_fresh seen) vs) p.0 r.0)

fresh_by : (seen : Seen) (vs : List (Option ℤ)) → AreDifferent vs → list_all (is_fresh seen) vs ≡ true → are_fresh seen vs ≡ true
fresh_by seen [] h k = refl
fresh_by seen (v ∷ vs) h k =
    let p = both_true (is_fresh seen v) (list_all (is_fresh seen) vs) k in
    true_both (is_fresh seen v) (are_fresh (with_label v seen) vs) p.0 (fresh_by (with_label v seen) vs h.1 (join_fresh seen v vs p.1 h.0))

all_fresh_at_first : (vs : List (Option ℤ)) → list_all (is_fresh none_seen) vs ≡ true
all_fresh_at_first [] = refl
all_fresh_at_first (None ∷ vs) = all_fresh_at_first vs
all_fresh_at_first (Some v ∷ vs) = all_fresh_at_first vs

pub fresh_differ : (vs : List (Option ℤ)) → are_fresh none_seen vs ≡ true → AreDifferent vs
fresh_differ vs h = (different_by none_seen vs h).0

pub differ_fresh : (vs : List (Option ℤ)) → AreDifferent vs → are_fresh none_seen vs ≡ true
differ_fresh vs h = fresh_by none_seen vs h (all_fresh_at_first vs)
