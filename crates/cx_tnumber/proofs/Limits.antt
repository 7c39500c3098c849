-- Where a sum passes the numbers in which it is made, the sums before it are gone on with.
use Rattle.std.proofs.Common.{◌≡◌, ℕ, ◌+◌, ◌<◌, List, ◌∷◌, Bool, map, drop, length, Option, inr, sym, subst, ap, ◌∙◌}
use Rattle.std.specs.Prelude.{ℤ, ◌+ℤ◌, get_or}
use Rattle.std.proofs.Math.IntN.{+ℤ_assoc}
use Rattle.std.proofs.lemmas.List.{drop_more}
use Rattle.cx_tsyn.specs.declared.lin.LinPart.{LinPart}
use Rattle.cx_tsyn.specs.Lins.{lin_part_tree}
use Rattle.cx_tnumber.specs.Limits.{Overflows}
use Rattle.cx_tnumber.specs.Numbers.{part_of, rest_of, share, total}

-- the parts that are left
abbrev pub parts_left : List (Bool × LinPart) → List (Option (List ℕ) × ℤ)
parts_left ps = rest_of (map (λ p. (p.0, lin_part_tree p.1)) ps)

next_part : (rest : List (Bool × LinPart)) (n : ℕ) (p : Bool × LinPart) → n < length rest → p ≡ get_or rest n p → drop n rest ≡ p ∷ drop (n + 1) rest
next_part rest n p below is = drop_more rest n p below ∙ ap (λ x. x ∷ drop (n + 1) rest) (sym is)

pub passed_next : (u : Option (List ℕ)) (rest : List (Bool × LinPart)) (n : ℕ) (p : Bool × LinPart) (before after : ℤ) → n < length rest → p ≡ get_or rest n p
    → after ≡ before +ℤ share (part_of p.0 (lin_part_tree p.1)) u → Overflows after (parts_left (drop (n + 1) rest)) u → Overflows before (parts_left (drop n rest)) u
passed_next u rest n p before after below is e o =
    subst (λ ps. Overflows before (parts_left ps) u) (sym (next_part rest n p below is)) (inr (subst (λ z. Overflows z (parts_left (drop (n + 1) rest)) u) e o))

pub sum_next : (u : Option (List ℕ)) (rest : List (Bool × LinPart)) (n : ℕ) (p : Bool × LinPart) (before after all : ℤ) → n < length rest → p ≡ get_or rest n p
    → after ≡ before +ℤ share (part_of p.0 (lin_part_tree p.1)) u → before +ℤ total (parts_left (drop n rest)) u ≡ all → after +ℤ total (parts_left (drop (n + 1) rest)) u ≡ all
sum_next u rest n p before after all below is e h =
    let s = share (part_of p.0 (lin_part_tree p.1)) u in
    let t = total (parts_left (drop (n + 1) rest)) u in
    ap (λ x. x +ℤ t) e ∙ +ℤ_assoc before s t ∙ ap (λ ps. before +ℤ total (parts_left ps) u) (sym (next_part rest n p below is)) ∙ h
