-- Linear forms as terms over symbols, and relations as conditions.
use Rattle.std.specs.Prelude.{ℕ, ℤ, pos, ◌-ℤ◌, Bool, true, false, not, List, [], ◌∷◌, ◌++◌, map, Option, Some, None}
use Rattle.std.specs.List.{flat_map}
use Rattle.std.specs.Option.{unwrap_or}
use Rattle.cx_term.specs.Forms.{Linear, constant_of, fit}
use Rattle.cx_term.specs.Listed.{total}
use Rattle.cx_term.specs.Sums.{with_part}
use Rattle.cx_term.specs.declared.term.Ineq.{Ineq}
use Rattle.cx_term.specs.declared.term.Ineq.TheVariants.{Ge, Ne}
use Rattle.cx_tsyn.specs.Lins.{LinPartTree, LinTree, RelationTree}
use Rattle.cx_tsyn.specs.declared.lin.SRel.{SRel}
use Rattle.cx_tsyn.specs.declared.lin.SRel.TheVariants.{Eq as SEq, Ne as SNe, Lt as SLt, Le as SLe, Gt as SGt, Ge as SGe}
use Rattle.cx_tnumber.specs.Numbers.{symbol_of, factor_of, signed}
use Rattle.cx_flin.specs.Names.{symbol_in}

-- ---- the sum of numbers and of numbers times symbols

-- the factors of the symbols in order, without those that are 0
abbrev pub gathered : List (Option ℕ × ℤ) → List (ℕ × ℤ)
gathered [] = []
gathered ((None, z) ∷ ps) = gathered ps
gathered ((Some s, z) ∷ ps) = with_part s z (gathered ps)

abbrev pub sum : List (Option ℕ × ℤ) → Linear
sum ps = record { konst = total None ps; parts = gathered ps }

-- as a term: 0 where the sum passes the limits of terms, which it does in no type file that is read
abbrev pub term_of : List (Option ℕ × ℤ) → Linear
term_of ps = unwrap_or (fit (sum ps)) (constant_of (pos 0))

-- ---- linear forms

-- so many times the symbol of a name; a name that is not declared stands for 0
abbrev pub times_symbol : Option ℕ → ℤ → Option ℕ × ℤ
times_symbol None z = (None, pos 0)
times_symbol (Some s) z = (Some s, z)

abbrev pub times_name : List (List ℕ × ℕ) → Option (List ℕ) → ℤ → Option ℕ × ℤ
times_name scope None z = (None, z)
times_name scope (Some text) z = times_symbol (symbol_in scope text) z

-- one of two signs is minus
abbrev pub either : Bool → Bool → Bool
either true b = not b
either false b = b

-- a part behind a sign
abbrev pub part_in : List (List ℕ × ℕ) → (minus : Bool) → LinPartTree → Option ℕ × ℤ
part_in scope minus p = times_name scope (symbol_of p) (signed minus (factor_of p))

abbrev pub rest_in : List (List ℕ × ℕ) → (minus : Bool) → List (Bool × LinPartTree) → List (Option ℕ × ℤ)
rest_in scope minus ps = map (λ p. part_in scope (either p.0 minus) p.1) ps

-- the parts of a form behind a sign
abbrev pub parts_in : List (List ℕ × ℕ) → (minus : Bool) → LinTree → List (Option ℕ × ℤ)
parts_in scope minus l = part_in scope (either l.negative minus) l.first ∷ rest_in scope minus l.rest

-- a form as a term
abbrev pub flat_lin : List (List ℕ × ℕ) → LinTree → Linear
flat_lin scope l = term_of (parts_in scope false l)

-- ---- relations

-- the first form less the second and a number
abbrev pub difference_parts : List (List ℕ × ℕ) → LinTree → LinTree → (less : ℤ) → List (Option ℕ × ℤ)
difference_parts scope a b less = (parts_in scope false a ++ parts_in scope true b) ++ (None, pos 0 -ℤ less) ∷ []

abbrev pub difference : List (List ℕ × ℕ) → LinTree → LinTree → (less : ℤ) → Linear
difference scope a b less = term_of (difference_parts scope a b less)

-- the conditions that a relation stands for
abbrev pub related : List (List ℕ × ℕ) → SRel → LinTree → LinTree → List Ineq
related scope SEq a b = Ge (difference scope a b (pos 0)) ∷ Ge (difference scope b a (pos 0)) ∷ []
related scope SNe a b = Ne (difference scope a b (pos 0)) ∷ []
related scope SLt a b = Ge (difference scope b a (pos 1)) ∷ []
related scope SLe a b = Ge (difference scope b a (pos 0)) ∷ []
related scope SGt a b = Ge (difference scope a b (pos 1)) ∷ []
related scope SGe a b = Ge (difference scope a b (pos 0)) ∷ []

abbrev pub flat_relation : List (List ℕ × ℕ) → RelationTree → List Ineq
flat_relation scope r = related scope r.rel r.left r.right

-- those of relations in order
abbrev pub flat_relations : List (List ℕ × ℕ) → List RelationTree → List Ineq
flat_relations scope rs = flat_map (flat_relation scope) rs
