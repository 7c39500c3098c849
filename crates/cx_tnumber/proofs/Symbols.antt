-- Sums of symbols in a map from their texts.
use Rattle.std.proofs.Common.{◌≡◌, ℕ, List, [], ◌∷◌, Bool, true, false, cond, map, Option, Some, None, refl, sym, ◌∙◌, ap}
use Rattle.std.specs.Prelude.{Vec, ℤ, pos, ◌+ℤ◌}
use Rattle.std.specs.Option.{unwrap_or}
use Rattle.std.specs.Str.{bytes_eq}
use Rattle.std.specs.Map.{lookup}
use Rattle.std.specs.declared.alloc.Global.{Global}
use mathlib.Core.Path.{fun_ext}
use Rattle.std.proofs.Math.IntN.{+ℤ_idl, +ℤ_idr, +ℤ_comm}
use Rattle.std.proofs.lemmas.Bool.Decides.{same_from_decides}
use Rattle.std.proofs.lemmas.Slice.Eq.{bytes_eq-Decides}
use Rattle.indexmap.specs.IndexMap.{insert_entry}
use Rattle.cx_tsyn.specs.Lins.{LinTree}
use Rattle.cx_tnumber.specs.Numbers.{share, parts_of, sum_of, all_gone, number_of, whole_by, is_whole}
use Rattle.cx_tnumber.specs.Sums.{symbol_sum, sum_at}

-- the entries by their texts
abbrev pub texts : List (Vec ℕ Global × ℤ) → List (List ℕ × ℤ)
texts es = map (λ e. (e.0.items, e.1)) es

pub eq_sym : (s t : List ℕ) → bytes_eq s t ≡ bytes_eq t s
eq_sym s t = same_from_decides (bytes_eq s t) (bytes_eq t s) (bytes_eq-Decides s t) ((λ e. sym ((bytes_eq-Decides t s).0 e)), (λ p. (bytes_eq-Decides t s).1 (sym p)))

found_next : (b : Bool) (x r : ℤ) (o : Option ℤ) → r ≡ unwrap_or o (pos 0) → cond b x r ≡ unwrap_or (cond b (Some x) o) (pos 0)
found_next true x r o h = refl
found_next false x r o h = h

pub sum_found : (s : List ℕ) (es : List (Vec ℕ Global × ℤ)) → symbol_sum (texts es) s ≡ unwrap_or (lookup (λ v. bytes_eq s v.items) es) (pos 0)
sum_found s [] = refl
sum_found s (e ∷ es) = found_next (bytes_eq s e.0.items) e.1 (symbol_sum (texts es) s) (lookup (λ v. bytes_eq s v.items) es) (sum_found s es)

twice : (a b : Bool) (m x r : ℤ) → a ≡ b → cond b m r ≡ cond a m (cond b x r)
twice true true m x r h = refl
twice true false m x r h = absurd (cc)
twice false true m x r h = absurd (cc)
twice false false m x r h = refl

exchanged : (a b : Bool) (m x r : ℤ) → (a ≡ true → b ≡ true → ⊥) → cond b x (cond a m r) ≡ cond a m (cond b x r)
exchanged true true m x r h = absurd (h refl refl)
exchanged true false m x r h = refl
exchanged false true m x r h = refl
exchanged false false m x r h = refl

inserted_next : (b : Bool) (m : ℤ) (t : Vec ℕ Global) (e : Vec ℕ Global × ℤ) (es more : List (Vec ℕ Global × ℤ)) (s : List ℕ) → bytes_eq t.items e.0.items ≡ b
    → symbol_sum (texts more) s ≡ cond (bytes_eq t.items s) m (symbol_sum (texts es) s)
    → symbol_sum (texts (cond b ((e.0, m) ∷ es) (e ∷ more))) s ≡ cond (bytes_eq t.items s) m (cond (bytes_eq s e.0.items) e.1 (symbol_sum (texts es) s))
inserted_next true m t e es more s q h =
    let same = (bytes_eq-Decides t.items e.0.items).0 q in
    twice (bytes_eq t.items s) (bytes_eq s e.0.items) m e.1 (symbol_sum (texts es) s) (eq_sym t.items s ∙ ap (λ x. bytes_eq s x) same)
inserted_next false m t e es more s q h =
    ap (λ r. cond (bytes_eq s e.0.items) e.1 r) h
    ∙ exchanged (bytes_eq t.items s) (bytes_eq s e.0.items) m e.1 (symbol_sum (texts es) s)
    (λ p r. let both = (bytes_eq-Decides t.items e.0.items).1 ((bytes_eq-Decides t.items s).0 p ∙ (bytes_eq-Decides s e.0.items).0 r) in absurd (cc))

pub inserted : (m : ℤ) (t : Vec ℕ Global) (es : List (Vec ℕ Global × ℤ)) (s : List ℕ)
    → symbol_sum (texts (insert_entry (λ (a b : Vec ℕ Global). bytes_eq a.items b.items) es t m)) s ≡ cond (bytes_eq t.items s) m (symbol_sum (texts es) s)
inserted m t [] s = ap (λ b. cond b m (pos 0)) (eq_sym s t.items)
inserted m t (e ∷ es) s =
    inserted_next (bytes_eq t.items e.0.items) m t e es (insert_entry (λ (a b : Vec ℕ Global). bytes_eq a.items b.items) es t m) s refl (inserted m t es s)

shared : (b : Bool) (z m old other : ℤ) → m ≡ z +ℤ old → (b ≡ true → old ≡ other) → cond b m other ≡ cond b z (pos 0) +ℤ other
shared true z m old other h same = h ∙ ap (λ x. z +ℤ x) (same refl)
shared false z m old other h same = sym (+ℤ_idl other)

-- once the sum of a symbol has grown by z
pub grown : (w z m : ℤ) (t : Vec ℕ Global) (es : List (Vec ℕ Global × ℤ)) → m ≡ z +ℤ symbol_sum (texts es) t.items → (u : Option (List ℕ))
    → sum_at w (texts (insert_entry (λ (a b : Vec ℕ Global). bytes_eq a.items b.items) es t m)) u ≡ share (Some t.items, z) u +ℤ sum_at w (texts es) u
grown w z m t es h None = sym (+ℤ_idl w)
grown w z m t es h (Some s) =
    inserted m t es s
    ∙ shared (bytes_eq t.items s) z m (symbol_sum (texts es) t.items) (symbol_sum (texts es) s) h (λ e. ap (symbol_sum (texts es)) ((bytes_eq-Decides t.items s).0 e))

-- once the sum of the numbers has grown by z
pub number_grown : (w z m : ℤ) (es : List (List ℕ × ℤ)) → m ≡ z +ℤ w → (u : Option (List ℕ)) → sum_at m es u ≡ share (None, z) u +ℤ sum_at w es u
number_grown w z m es h None = h
number_grown w z m es h (Some s) = sym (+ℤ_idl (symbol_sum es s))

-- ---- what is told of the sums

pub joined : (all first rest after none : ℤ) → all ≡ rest +ℤ after → after ≡ first +ℤ none → none ≡ pos 0 → all ≡ first +ℤ rest
joined all first rest after none a b c = a ∙ ap (λ x. rest +ℤ x) (b ∙ ap (λ x. first +ℤ x) c ∙ +ℤ_idr first) ∙ +ℤ_comm rest first

pub number_is : (sum : Option (List ℕ) → ℤ) (l : LinTree) → ((u : Option (List ℕ)) → sum u ≡ sum_of l u)
    → number_of l ≡ cond (all_gone sum (parts_of l)) (Some (sum None)) None
number_is sum l h = ap (λ f. cond (all_gone f (parts_of l)) (Some (f None)) None) (sym (fun_ext h))

pub whole_is : (sum : Option (List ℕ) → ℤ) (x : List ℕ) (l : LinTree) → ((u : Option (List ℕ)) → sum u ≡ sum_of l u) → whole_by x sum (parts_of l) ≡ is_whole x l
whole_is sum x l h = ap (λ f. whole_by x f (parts_of l)) (fun_ext h)
