-- The need of arguments.
use Rattle.std.proofs.Common.{◌≡◌, ℕ, suc, ◌+◌, ◌-◌, ◌≤◌, List, [], ◌∷◌, map, length, take, drop, get_or, min, max, refl, ap, sym, ◌∙◌, arith}
use Rattle.std.proofs.Math.Seq.{take-length}
use Rattle.cx_ctree.specs.Decls.{param_tree}
use Rattle.cx_ctree.specs.Exprs.{ExprTree, expr_tree}
use Rattle.cx_ctree.specs.Types.{TypeTree}
use Rattle.cx_ctree.specs.declared.decl.Param.{Param}
use Rattle.cx_ctree.specs.declared.expr.Expr.{Expr}
use Rattle.cx_lcode.specs.Needs.{needs, arguments_need}
use Rattle.cx_sname.specs.File.{Declared}

-- arguments without parameters need nothing
pub no_params : (d : Declared) (es : List ExprTree) → arguments_need d es [] ≡ 0
no_params d [] = refl
no_params d (e ∷ es) = refl

pub counted : (es : List Expr) → length (map expr_tree es) ≡ length es
counted [] = refl
counted (e ∷ es) = ap (λ n. suc n) (counted es)

-- ---- a turn of the loop over arguments

tail_of : {A : Type 0} (x : A) (xs : List A) → take (length (x ∷ xs) - 1) (drop 1 (x ∷ xs)) ≡ xs
tail_of x xs = let n : length (x ∷ xs) - 1 ≡ length xs = omega arith in ap (λ k. take k xs) n ∙ take-length xs

cap_in : (x y : ℕ) → min (max x (min y 200)) 200 ≡ min (max x y) 200
cap_in x y = omega arith

cap_more : (x a t : ℕ) → min (max x (a + min (t + 1) 200)) 200 ≡ min (max x (a + (t + 1))) 200
cap_more x a t = omega arith

cap_sum : (v t n m : ℕ) → n ≡ min v 200 → m ≡ min (n + t) 200 → m ≡ min (v + t) 200
cap_sum v t n m e f = omega arith

change : (a b c : ℕ) → max (max a b) c ≡ max (max a c) b
change a b c = omega arith

together : (need v a t : ℕ) → max (max need (a + (t + 1))) (v + t) ≡ max need (max v (a + 1) + t)
together need v a t = omega arith

step : (v a need t n m more later whole : ℕ) → n ≡ min v 200 → m ≡ min (n + t) 200 → more ≡ max need m → later ≡ min (t + 1) 200 → min (max need (max v (a + 1) + t)) 200 ≡ whole → min (max more (a + later)) 200 ≡ whole
step v a need t n m more later whole en em eneed et h =
    ap (λ z. min (max z (a + later)) 200) eneed ∙ ap (λ z. min (max (max need m) (a + z)) 200) et ∙ cap_more (max need m) a t
    ∙ ap (λ z. min (max (max need z) (a + (t + 1))) 200) (cap_sum v t n m en em) ∙ ap (λ z. min z 200) (change need (min (v + t) 200) (a + (t + 1)))
    ∙ cap_in (max need (a + (t + 1))) (v + t) ∙ ap (λ z. min z 200) (together need v a t) ∙ h

abbrev types_of : List Param → List TypeTree
types_of ps = map (λ p. p.ctype) (map param_tree ps)

pub turn : (d : Declared) (es : List Expr) (ps : List Param) (e : Expr) (need t n m more later whole : ℕ) → 1 ≤ length es → e ≡ get_or es 0 e → 1 ≤ length ps
    → n ≡ min (needs d (expr_tree e)).val 200 → m ≡ min (n + t) 200 → more ≡ max need m → later ≡ min (t + 1) 200
    → min (max need (arguments_need d (map expr_tree es) (types_of ps) + t)) 200 ≡ whole
    → min (max more (arguments_need d (map expr_tree (take (length es - 1) (drop 1 es))) (types_of (take (length ps - 1) (drop 1 ps))) + later)) 200 ≡ whole
turn d [] ps e need t n m more later whole some is any en em eneed et h = absurd (omega (arith, some))
turn d (x ∷ xs) [] e need t n m more later whole some is any en em eneed et h = absurd (omega (arith, any))
turn d (x ∷ xs) (p ∷ ps) e need t n m more later whole some is any en em eneed et h =
    ap (λ zs. min (max more (arguments_need d (map expr_tree zs) (types_of (take (length (p ∷ ps) - 1) (drop 1 (p ∷ ps)))) + later)) 200) (tail_of x xs)
    ∙ ap (λ zs. min (max more (arguments_need d (map expr_tree xs) (types_of zs) + later)) 200) (tail_of p ps)
    ∙ step (needs d (expr_tree x)).val (arguments_need d (map expr_tree xs) (types_of ps)) need t n m more later whole (en ∙ ap (λ y. min (needs d (expr_tree y)).val 200) is) em eneed et h
