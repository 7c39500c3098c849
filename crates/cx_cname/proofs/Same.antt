-- Tests of equal types and of what a name is declared as.
use Rattle.std.proofs.Common.{◌≡◌, ℕ, ◌↔◌, Bool, true, false, ◌==◌, List, [], ◌∷◌, ◌++◌, Option, None, Some, refl, ap, ◌∙◌, sym, arith, cond, subst, ◌≤◌, ◌-◌, map, length, take, drop, get_or}
use Rattle.std.proofs.Math.Seq.{take-length}
use Rattle.cx_ctree.specs.declared.decl.Item.{Item}
use Rattle.cx_ctree.specs.declared.decl.Item.TheVariants as i
use Rattle.cx_ctree.specs.declared.decl.Decl.{Decl}
use Rattle.std.proofs.lemmas.Bool.Decides.{nat_tests}
use Rattle.cx_base.proofs.General.{both_true}
use Rattle.cx_ctree.proofs.Numbers.{number_same}
use Rattle.cx_ctree.specs.Types.{TypeTree, void, int, pointer, array, tag}
use Rattle.cx_ctree.specs.Decls.{DeclTree, types, object, proto, function, decl_tree, item_tree}
use Rattle.cx_cname.specs.Known.{Meaning, declared_as, declared_by}
use Rattle.cx_cname.specs.Meanings.{same_sign, same_type, declares, found, found_first, declared_by_it}

number_of : (a b : ℕ) → (a == b) ≡ true → a ≡ b
number_of a b h = grind (arith, nat_tests)

number_same_as : (a : ℕ) → (a == a) ≡ true
number_same_as a = grind (arith, nat_tests)

sign_of : (a b : Bool) → same_sign a b ≡ true → a ≡ b
sign_of true true h = refl
sign_of true false h = absurd cc
sign_of false true h = absurd cc
sign_of false false h = refl

sign_same : (a : Bool) → same_sign a a ≡ true
sign_same true = refl
sign_same false = refl

pub same_means : (t w : TypeTree) → same_type t w ≡ true → t ≡ w
same_means void void h = refl
same_means (int t) (int w) h = ap int (number_same t w (number_of t.size w.size (both_true _ _ h).0) (sign_of t.signed w.signed (both_true _ _ h).1))
same_means (pointer t) (pointer w) h = ap pointer (same_means t w h)
same_means (array t n) (array w m) h = let e : n ≡ m = number_of n m (both_true _ _ h).0 in let f : t ≡ w = same_means t w (both_true _ _ h).1 in cc
same_means (tag k) (tag j) h = ap tag (number_of k j h)
same_means _ _ h = absurd cc

pub same_itself : (t : TypeTree) → same_type t t ≡ true
same_itself void = refl
same_itself (int t) = rw (number_same_as t.size, sign_same t.signed) refl
same_itself (pointer t) = same_itself t
same_itself (array t n) = rw (number_same_as n, same_itself t) refl
same_itself (tag k) = number_same_as k

differ : false ≡ true → ⊥
differ h = cc

pub same_is : (b : Bool) (t w : TypeTree) → ((b ≡ true) ↔ (t ≡ w)) → b ≡ same_type t w
same_is true t w h = sym (subst (λ (u : TypeTree). same_type t u ≡ true) (h.0 refl) (same_itself t))
same_is false t w h = elim (same_type t w) as (λ b. same_type t w ≡ b → false ≡ b) [ true ↦ λ e. absurd (differ (h.1 (same_means t w e))) | false ↦ λ e. refl ] refl

pub found_both : (n : ℕ) (ds es : List DeclTree) → found n (ds ++ es) ≡ found_first (found n ds) (found n es)
found_both n [] es = refl
found_both n (d ∷ ds) es = elim (declares n d) as (λ b. cond b (Some d) (found n (ds ++ es)) ≡ found_first (cond b (Some d) (found n ds)) (found n es)) [ true ↦ refl | false ↦ found_both n ds es ]

pub found_after : (n : ℕ) (ds es : List DeclTree) → None ≡ found n ds → found n (ds ++ es) ≡ found n es
found_after n ds es h = found_both n ds es ∙ ap (λ o. found_first o (found n es)) (sym h)

chosen : (b : Bool) (d : DeclTree) (m : Meaning) (other : Option Meaning) (rest : Option DeclTree) → declared_by_it (Some d) ≡ Some m → other ≡ declared_by_it rest → cond b (Some m) other ≡ declared_by_it (cond b (Some d) rest)
chosen true d m other rest e f = sym e
chosen false d m other rest e f = f

pub declared_is : (n : ℕ) (ds : List DeclTree) → declared_as n ds ≡ declared_by_it (found n ds)
declared_is n [] = refl
declared_is n (types ∷ ds) = declared_is n ds
declared_is n (object m t ∷ ds) = chosen (m == n) (object m t) _ _ _ refl (declared_is n ds)
declared_is n (proto s ∷ ds) = chosen (s.name == n) (proto s) _ _ _ refl (declared_is n ds)
declared_is n (function f ∷ ds) = chosen (f.sig.name == n) (function f) _ _ _ refl (declared_is n ds)

-- past an item that has no declaration of the name
pub after_known : (n : ℕ) (all : List Item) (item : Item) (ds : List Decl) → 1 ≤ length all → item ≡ get_or all 0 item → item ≡ i.Known ds → None ≡ found n (map decl_tree ds)
    → found n (declared_by (map item_tree (take (length all - 1) (drop 1 all)))) ≡ found n (declared_by (map item_tree all))
after_known n [] item ds h first is none = absurd (omega arith)
after_known n (x ∷ xs) item ds h first is none =
    let e : length (x ∷ xs) - 1 ≡ length xs = omega arith in
    let whole : take (length (x ∷ xs) - 1) xs ≡ xs = ap (λ k. take k xs) e ∙ take-length xs in
    let known : x ≡ i.Known ds = sym first ∙ is in
    ap (λ (ys : List Item). found n (declared_by (map item_tree ys))) whole
    ∙ sym (found_after n (map decl_tree ds) (declared_by (map item_tree xs)) none)
    ∙ ap (λ (y : Item). found n (declared_by (item_tree y ∷ map item_tree xs))) (sym known)
