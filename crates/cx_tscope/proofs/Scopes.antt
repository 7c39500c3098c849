-- The names of a scope, as vectors and as their texts, and what stands again once a scope is left.
use Rattle.std.proofs.Common.{◌≡◌, ◌∙◌, ◌≤◌, ℕ, List, [], ◌∷◌, ◌++◌, Bool, true, false, cond, map, take, length, refl, sym, arith, length-append}
use Rattle.std.specs.Prelude.{Vec}
use Rattle.std.specs.List.{list_any}
use Rattle.std.specs.Str.{bytes_eq}
use Rattle.std.specs.declared.alloc.Global.{Global}
use Rattle.std.proofs.lemmas.List.{length-map, take-map, take-append-le}
use Rattle.std.proofs.Math.Seq.{take-length}
use Rattle.cx_base.specs.Names.{numbered}
use Rattle.cx_tsyn.specs.Words.{WordTree}
use Rattle.cx_tscope.specs.Scopes.{with_words}

pub length_texts : (vs : List (Vec ℕ Global)) → length (map (λ v. v.items) vs) ≡ length vs
length_texts vs = length-map vs (λ v. v.items)

pub any_text : (p : List ℕ → Bool) (vs : List (Vec ℕ Global)) → list_any p (map (λ v. v.items) vs) ≡ list_any (λ v. p v.items) vs
any_text p [] = refl
any_text p (v ∷ vs) = rw (any_text p vs) refl

pub take_texts : (n : ℕ) (vs : List (Vec ℕ Global)) → map (λ v. v.items) (take n vs) ≡ take n (map (λ v. v.items) vs)
take_texts n vs = sym (take-map (λ (v : Vec ℕ Global). v.items) n vs)

-- the names are a front of those with one more
one_more : (names : List (List ℕ)) (text : List ℕ) (b : Bool) (n : ℕ) → n ≤ length names → take n (cond b names (names ++ text ∷ [])) ≡ take n names
one_more names text true n le = refl
one_more names text false n le = take-append-le n names (text ∷ []) le

longer : (names : List (List ℕ)) (text : List ℕ) (b : Bool) → length names ≤ length (cond b names (names ++ text ∷ []))
longer names text true = omega arith
longer names text false = omega (arith, length-append names (text ∷ []))

front_kept : (names : List (List ℕ)) (ws : List WordTree) (n : ℕ) → n ≤ length names → take n (with_words names ws) ≡ take n names
front_kept names [] n le = refl
front_kept names (w ∷ ws) n le =
    let b = list_any (bytes_eq w.text) names in
    let more : n ≤ length (numbered names w.text) = omega (arith, longer names w.text b) in
    front_kept (numbered names w.text) ws n more ∙ one_more names w.text b n le

-- what is left of the names, once those that were declared after them go
pub left_names : (names : List (List ℕ)) (ws : List WordTree) → take (length names) (with_words names ws) ≡ names
left_names names ws = front_kept names ws (length names) (omega arith) ∙ take-length names
