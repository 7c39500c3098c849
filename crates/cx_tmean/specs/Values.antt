-- What linear forms and relations of a type file come to, where names stand for numbers.
use Rattle.std.specs.Prelude.{◌≡◌, ◌≢◌, ℕ, ℤ, pos, ◌+ℤ◌, ◌*ℤ◌, ◌<ℤ◌, ◌≤ℤ◌, Bool, List, [], ◌∷◌, map, Option, if◌then◌else◌}
use Rattle.std.specs.Str.{bytes_eq}
use Rattle.std.specs.Option.{option_map_or}
use Rattle.cx_tsyn.specs.Words.{WordTree}
use Rattle.cx_tsyn.specs.Lins.{LinPartTree, number, times, symbol, LinTree, RelationTree}
use Rattle.cx_tsyn.specs.declared.lin.SRel.{SRel}
use Rattle.cx_tsyn.specs.declared.lin.SRel.TheVariants.{Eq, Ne, Lt, Le, Gt, Ge}
use Rattle.cx_tnumber.specs.Numbers.{signed}

-- ---- names

-- no name stands for anything but 0
abbrev pub no_values : List ℕ → ℤ
no_values text = pos 0

-- the word stands for z, all other names for what they stood for
abbrev pub with_value : WordTree → ℤ → (List ℕ → ℤ) → List ℕ → ℤ
with_value w z v text = if bytes_eq w.text text then z else v text

-- the words stand for the numbers in order
abbrev pub with_values : List WordTree → List ℤ → (List ℕ → ℤ) → List ℕ → ℤ
with_values [] zs v = v
with_values (w ∷ ws) [] v = v
with_values (w ∷ ws) (z ∷ zs) v = with_values ws zs (with_value w z v)

-- ---- linear forms

abbrev pub part_value : (List ℕ → ℤ) → LinPartTree → ℤ
part_value v (number z) = z
part_value v (times z w) = z *ℤ v w.text
part_value v (symbol w) = v w.text

abbrev pub rest_value : (List ℕ → ℤ) → List (Bool × LinPartTree) → ℤ
rest_value v [] = pos 0
rest_value v (p ∷ ps) = signed p.0 (part_value v p.1) +ℤ rest_value v ps

abbrev pub lin_value : (List ℕ → ℤ) → LinTree → ℤ
lin_value v l = signed l.negative (part_value v l.first) +ℤ rest_value v l.rest

abbrev pub lin_values : (List ℕ → ℤ) → List LinTree → List ℤ
lin_values v ls = map (lin_value v) ls

-- 0 where it is not written
abbrev pub offset_value : (List ℕ → ℤ) → Option LinTree → ℤ
offset_value v l = option_map_or (lin_value v) l (pos 0)

-- ---- relations

abbrev pub Compares : SRel → ℤ → ℤ → Type 0
Compares Eq a b = a ≡ b
Compares Ne a b = a ≢ b
Compares Lt a b = a <ℤ b
Compares Le a b = a ≤ℤ b
Compares Gt a b = b <ℤ a
Compares Ge a b = b ≤ℤ a

-- the relation is true
abbrev pub RelationHolds : (List ℕ → ℤ) → RelationTree → Type 0
RelationHolds v r = Compares r.rel (lin_value v r.left) (lin_value v r.right)
