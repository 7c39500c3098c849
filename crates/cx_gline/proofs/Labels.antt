-- The constant of a label (C11 6.6) is small where the numbers in it are, and those of enumeration constants.
use Rattle.std.proofs.Common.{ℕ, zero, suc, ℤ, pos, negsuc, ◌-ℤ◌, ◌≡◌, ◌^◌, ◌≤◌, ◌<◌, ◌==◌, Bool, true, false, not, List, [], ◌∷◌, Option, Some, None, option_map, refl, subst, arith, int_div, int_rem}
use Rattle.std.specs.Prelude.{All, if◌then◌else◌, ◌||◌, unsigned_abs, bit_and, bit_or, bit_xor}
use Rattle.std.specs.Bool.{Decides}
use Rattle.std.specs.Option.{option_and_then, option_map_or}
use Rattle.std.specs.Ordering.{int_eq}
use Rattle.std.proofs.lemmas.Int.{rem_below}
use Rattle.std.proofs.lemmas.Bool.Decides.{Decides-int_eq}
use Rattle.std.proofs.lemmas.List.Elements.{All-head, All-tail}
use Rattle.cx_base.specs.declared.number.CInt.{CInt}
use Rattle.cx_cconst.specs.Constants.{type_in, kind_type, value_in, kind_value, unit, unary_value, binary_value, integers_value, operated, divided, counted_shift, moved, distance, decided, or_value, truth, converted, bits, number_type, is_int, is_shift, constant_in}
use Rattle.cx_cmean.specs.Program.{or_zero}
use Rattle.cx_cmean.specs.Statements.{or_none}
use Rattle.cx_cname.specs.Known.{value_of}
use Rattle.cx_ctree.specs.Conversions.{unsigned_long, signed_long, promoted, common}
use Rattle.cx_ctree.specs.Exprs.{ExprTree, node, ExprKindTree, num, name, unary, binary, cond, cast, size_of}
use Rattle.cx_ctree.specs.Layouts as layout
use Rattle.cx_ctree.specs.Types.{TypeTree, int, pointer}
use Rattle.cx_ctree.specs.declared.expr.Binary.{Binary}
use Rattle.cx_ctree.specs.declared.expr.Binary.TheVariants as b
use Rattle.cx_ctree.specs.declared.expr.Unary.{Unary}
use Rattle.cx_ctree.specs.declared.expr.Unary.TheVariants as u
use Rattle.cx_gline.proofs.Bounds.{size_few, few_small, converted_small}
use Rattle.cx_gline.specs.Inside.{numbers_in, kind_numbers}
use Rattle.cx_gline.specs.Law.{EnumerationsSmall}
use Rattle.cx_gline.specs.Lines.{IsSmall}
use Rattle.cx_sname.specs.File.{Declared}

-- a number that may be there is small
abbrev pub MaySmall : Option ℤ → Type 0
MaySmall None = Unit {0}
MaySmall (Some v) = IsSmall v

then_small : {A : Type 0} (o : Option A) (f : A → Option ℤ) → ((a : A) → MaySmall (f a)) → MaySmall (option_and_then f o)
then_small None f h = tt
then_small (Some a) f h = h a

map_small : {A : Type 0} (o : Option A) (f : A → ℤ) → ((a : A) → IsSmall (f a)) → MaySmall (option_map f o)
map_small None f h = tt
map_small (Some a) f h = h a

if_small : (z : Bool) (o q : Option ℤ) → MaySmall o → MaySmall q → MaySmall (if z then o else q)
if_small true o q h k = h
if_small false o q h k = k

pub named_small : (n : ℕ) (cs : List (ℕ × ℤ)) → All (λ c. IsSmall c.1) cs → MaySmall (value_of n cs)
named_small n [] h = tt
named_small n (c ∷ cs) h = if_small (c.0 == n) (Some c.1) (value_of n cs) (All-head (λ (e : ℕ × ℤ). IsSmall e.1) c cs h) (named_small n cs (All-tail (λ (e : ℕ × ℤ). IsSmall e.1) c cs h))

-- ---- operators

truth_small : (z : Bool) → IsSmall (truth z)
truth_small true = few_small 1 (omega arith)
truth_small false = few_small 0 (omega arith)

unary_small : (op : Unary) (t : CInt) (v : ℤ) → IsSmall (unary_value op t v)
unary_small u.Plus t v = converted_small t _
unary_small u.Neg t v = converted_small t _
unary_small u.Compl t v = converted_small t _
unary_small u.Not t v = truth_small _

quotient_small : (t : CInt) (x y : ℤ) → MaySmall (divided t x y (int_div x y))
quotient_small t x y = by (int_eq y (pos 0)) (int_eq (converted t (int_div x y)) (int_div x y)) (Decides-int_eq (converted t (int_div x y)) (int_div x y))
  where
    by : (z s : Bool) → Decides s (converted t (int_div x y) ≡ int_div x y) → MaySmall (if z || not s then None else Some (int_div x y))
    by true s d = tt
    by false true d = subst IsSmall (d.0 refl) (converted_small t (int_div x y))
    by false false d = tt

not_nought : (y : ℤ) → (y ≡ pos 0 → ⊥) → 0 < unsigned_abs y
not_nought (pos zero) h = absurd (h refl)
not_nought (pos (suc n)) h = omega arith
not_nought (negsuc n) h = omega arith

rest_small : (t : CInt) (x y : ℤ) → IsSmall y → MaySmall (divided t x y (int_rem x y))
rest_small t x y few = by (int_eq y (pos 0)) (int_eq (converted t (int_div x y)) (int_div x y)) (Decides-int_eq y (pos 0))
  where
    no : false ≡ true → ⊥
    no e = cc

    below : (y ≡ pos 0 → ⊥) → IsSmall (int_rem x y)
    below h = let r = rem_below x y (not_nought y h) in omega (arith, r, few)

    by : (z s : Bool) → Decides z (y ≡ pos 0) → MaySmall (if z || not s then None else Some (int_rem x y))
    by true s d = tt
    by false true d = below (λ e. no (d.1 e))
    by false false d = tt

shift_small : (t : CInt) (count result : ℤ) → MaySmall (counted_shift t count result)
shift_small t count result = if_small _ (Some (converted t result)) None (converted_small t result) tt

operated_small : (op : Binary) (t : CInt) (x y : ℤ) → IsSmall y → MaySmall (operated op t x y)
operated_small b.Mul t x y h = converted_small t _
operated_small b.Div t x y h = quotient_small t x y
operated_small b.Rem t x y h = rest_small t x y h
operated_small b.Add t x y h = converted_small t _
operated_small b.Sub t x y h = converted_small t _
operated_small b.Shl t x y h = shift_small t y _
operated_small b.Shr t x y h = shift_small t y _
operated_small b.Lt t x y h = truth_small _
operated_small b.Gt t x y h = truth_small _
operated_small b.Le t x y h = truth_small _
operated_small b.Ge t x y h = truth_small _
operated_small b.Eq t x y h = truth_small _
operated_small b.Ne t x y h = truth_small _
operated_small b.BitAnd t x y h = converted_small t (pos (bit_and (bits t x) (bits t y)))
operated_small b.BitXor t x y h = converted_small t (pos (bit_xor (bits t x) (bits t y)))
operated_small b.BitOr t x y h = converted_small t (pos (bit_or (bits t x) (bits t y)))
operated_small b.And t x y h = truth_small _
operated_small b.Or t x y h = truth_small _

-- ---- operators on values of types

module _ (d : Declared) (small : EnumerationsSmall d.known) where
  integers_small : (op : Binary) (t w : CInt) (x y : ℤ) → MaySmall (integers_value op t w x y)
  integers_small op t w x y = if_small (is_shift op) _ _ (operated_small op _ _ _ (converted_small (promoted w) y)) (operated_small op _ _ _ (converted_small (common t w) y))

  moved_small : (t : TypeTree) (p i : ℤ) → MaySmall (moved (unit d.known t) p i)
  moved_small t p i = map_small (unit d.known t) _ (λ n. converted_small unsigned_long _)

  distance_small : (t : TypeTree) (p q : ℤ) → MaySmall (distance (unit d.known t) p q)
  distance_small t p q = then_small (unit d.known t) _ (λ n. quotient_small signed_long (converted signed_long (p -ℤ q)) (pos n))

  binary_small : (op : Binary) (t w : TypeTree) (x y : ℤ) → MaySmall (binary_value d.known op t w x y)
  binary_small op (int t) (int w) x y = integers_small op t w x y
  binary_small b.Add (pointer t) (int w) x y = moved_small t x y
  binary_small b.Add (int w) (pointer t) x y = moved_small t y x
  binary_small b.Sub (pointer t) (int w) x y = moved_small t x (pos 0 -ℤ y)
  binary_small b.Sub (pointer t) (pointer w) x y = distance_small t x y
  binary_small op t w x y = operated_small op unsigned_long (converted unsigned_long x) (converted unsigned_long y) (converted_small unsigned_long y)

  -- what the first operand decides is 0 or 1
  or_small : (o q : Option ℤ) → MaySmall o → MaySmall q → MaySmall (or_value o q)
  or_small None q h k = k
  or_small (Some v) q h k = h

  decided_small : (op : Binary) (x : ℤ) → MaySmall (decided op x)
  decided_small b.And x = if_small _ (Some (pos 0)) None (few_small 0 (omega arith)) tt
  decided_small b.Or x = if_small _ None (Some (pos 1)) tt (few_small 1 (omega arith))
  decided_small _ x = tt

  -- ---- expressions

  size_small : (o : Option ℕ) → or_zero o ≤ 2 ^ 31 → MaySmall (option_map (λ n. pos n) o)
  size_small None h = tt
  size_small (Some n) h = few_small n h

  -- only a number by itself has the value that it has in the text: that of an operator is made
  kind_small : (k : ExprKindTree) → All IsSmall (kind_numbers k) → MaySmall (kind_value d.known k)
  kind_small (num v t) h = All-head IsSmall v [] h
  kind_small (name n) h = named_small n d.known.consts small
  kind_small (unary op x) h = then_small (type_in d.known x) _ (λ t. map_small (value_in d.known x) _ (λ v. unary_small op _ v))
  kind_small (binary op x y) h = then_small (value_in d.known x) _
      (λ v. or_small (decided op v) _ (decided_small op v) (then_small (type_in d.known x) _ (λ t. then_small (type_in d.known y) _ (λ w. then_small (value_in d.known y) _ (λ z. binary_small op t w v z)))))
  kind_small (cond c x y) h = then_small (value_in d.known c) _ (λ q. then_small (kind_type d.known (cond c x y)) _ (λ t. map_small (if int_eq q (pos 0) then value_in d.known y else value_in d.known x) _ (λ v. converted_small (number_type t) v)))
  kind_small (cast t x) h = map_small (value_in d.known x) _ (λ v. converted_small (number_type t) v)
  kind_small (size_of t) h = size_small (layout.size_of d.known.tags t) (size_few d t)
  kind_small _ h = tt

  value_small : (e : ExprTree) → All IsSmall (numbers_in e) → MaySmall (value_in d.known e)
  value_small (node s t k) h = kind_small k h

  or_none_small : (o : Option ℤ) → MaySmall o → IsSmall (or_none o)
  or_none_small None h = few_small 0 (omega arith)
  or_none_small (Some v) h = h

  pub label_small : (e : ExprTree) → All IsSmall (numbers_in e) → IsSmall (or_none (constant_in d.known e))
  label_small e h = or_none_small (constant_in d.known e) (if_small (option_map_or is_int (type_in d.known e) false) (value_in d.known e) None (value_small e h) tt)
