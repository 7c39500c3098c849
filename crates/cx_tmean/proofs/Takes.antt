-- A type without wrong sizes and arrays of symbolic length takes the bytes that are measured, whatever names stand for.
use Rattle.std.specs.Prelude.{◌≡◌, ℕ, ◌+◌, ◌*◌, ℤ, pos, negsuc, true, false, not, ◌&&◌, nat_lt, is_some, List, [], ◌++◌, Option, Some, None, option_map, option_and_then}
use Rattle.std.specs.Option.{unwrap_or, option_map_or}
use Rattle.std.proofs.Common.{refl, ap, ◌∙◌}
use Rattle.cx_ctree.specs.Types as c
use Rattle.cx_term.proofs.Tests.{and_left, and_right}
use Rattle.cx_cells.specs.Values.{count_of}
use Rattle.cx_tsyn.specs.Lins.{LinTree}
use Rattle.cx_tsyn.specs.Cells.{SCellKindTree, any, any_bytes, val, unsigned, signed, ptr}
use Rattle.cx_tsyn.specs.Types.{STypeTree, stype, stype_span, AtomTree, cell, paren, tagged, product, cases, STypeTrees, no_type, also_type, SBranchTrees, no_branch, also_branch}
use Rattle.cx_tnumber.specs.Numbers.{number_of}
use Rattle.cx_tmeasure.specs.Known.{Known, size_in, tag_size}
use Rattle.cx_tmeasure.specs.Sizes.{in_length, in_all, kind_size, type_inside, size, atom_size, sum_size, first_size, is_symbolic, has_tail, atom_has_tail, some_type_has_tail, some_branch_has_tail, atom_cells}
use Rattle.cx_tmeasure.specs.BadTypes.{unless_span, is_scalar, kind_is_sized, fits, length_fits, array_is_right, atom_is_sized, is_exactly, bad_in_type, bad_in_atom, bad_in_types, bad_in_branches}
use Rattle.cx_tmean.specs.Values.{lin_value}
use Rattle.cx_tmean.specs.Sizes.{kind_bytes, in_row, type_bytes, atom_bytes, sum_bytes, first_bytes}
use Rattle.cx_tmean.proofs.Lengths.{fixed_value}
use Rattle.cx_tmean.proofs.Fixed.{nil_front, nil_back, nil_true, or_left, or_right}

known_is : (o : Option ℕ) → is_some o ≡ true → o ≡ Some (unwrap_or o 0)
known_is None e = absurd (let z : false ≡ true = e in cc)
known_is (Some n) e = refl

scalar_size : (k : Known) (t : c.TypeTree) → is_scalar t ≡ true → is_some (size_in k (Some t)) ≡ true
scalar_size k c.void e = absurd (let z : false ≡ true = e in cc)
scalar_size k (c.int t) e = refl
scalar_size k (c.pointer t) e = refl
scalar_size k (c.array t n) e = absurd (let z : false ≡ true = e in cc)
scalar_size k (c.tag n) e = absurd (let z : false ≡ true = e in cc)

value_size : (k : Known) (m : Option c.TypeTree) → option_map_or is_scalar m false ≡ true → is_some (size_in k m) ≡ true
value_size k None e = e
value_size k (Some t) e = scalar_size k t e

kind_takes : (k : Known) (m : Option c.TypeTree) (x : SCellKindTree) → kind_is_sized k m x ≡ true → kind_bytes k m x ≡ Some (kind_size k m x)
kind_takes k m any e = known_is (size_in k m) e
kind_takes k m (any_bytes n) e = refl
kind_takes k m (val l) e = known_is (size_in k m) (value_size k m e)
kind_takes k m (unsigned n l) e = refl
kind_takes k m (signed n l) e = refl
kind_takes k m (ptr w args off null) e = refl

length_takes : (v : List ℕ → ℤ) (l : LinTree) (each cells : ℕ) (o : Option ℤ) → number_of l ≡ o → not (is_some o) ≡ false → length_fits o each cells ≡ true
    → option_and_then (λ n. option_map (λ e. n * e) (Some each)) (count_of (lin_value v l)) ≡ Some (in_length o each)
length_takes v l each cells None e s f = absurd (let z : true ≡ false = s in cc)
length_takes v l each cells (Some (pos n)) e s f = ap (λ z. option_and_then (λ n. option_map (λ e. n * e) (Some each)) (count_of z)) (fixed_value v l (pos n) e)
length_takes v l each cells (Some (negsuc n)) e s f = absurd (let z : false ≡ true = f in cc)

row_takes : (v : List ℕ → ℤ) (n : Option LinTree) (each cells : ℕ) (o : Option ℕ) → o ≡ Some each → is_symbolic n ≡ false → array_is_right n each cells ≡ true → in_row v n o ≡ Some (in_all n each)
row_takes v None each cells o e s f = e
row_takes v (Some l) each cells o e s f =
    let a = and_right (nat_lt 0 each) (fits each && length_fits (number_of l) each cells) f in
    ap (λ o. option_and_then (λ n. option_map (λ e. n * e) o) (count_of (lin_value v l))) e ∙ length_takes v l each cells (number_of l) refl s (and_right (fits each) (length_fits (number_of l) each cells) a)

mutual
  pub type_takes : (k : Known) (v : List ℕ → ℤ) (t : STypeTree) (m : Option c.TypeTree) → bad_in_type k m t ≡ [] → has_tail t ≡ false → type_bytes k v m t ≡ Some (size k m t)
  type_takes k v (stype s ws a n cs) m e f =
      let inner = type_inside n m in
      let both = nil_true (atom_is_sized k a && array_is_right n (atom_size k inner a) (atom_cells a)) s (nil_back (bad_in_atom k inner a) _ e) in
      row_takes v n (atom_size k inner a) (atom_cells a) (atom_bytes k v inner a)
      (atom_takes k v a inner (nil_front (bad_in_atom k inner a) _ e) (or_right (is_symbolic n) (atom_has_tail a) f) (and_left (atom_is_sized k a) (array_is_right n (atom_size k inner a) (atom_cells a)) both))
      (or_left (is_symbolic n) (atom_has_tail a) f) (and_right (atom_is_sized k a) (array_is_right n (atom_size k inner a) (atom_cells a)) both)

  atom_takes : (k : Known) (v : List ℕ → ℤ) (a : AtomTree) (m : Option c.TypeTree) → bad_in_atom k m a ≡ [] → atom_has_tail a ≡ false → atom_is_sized k a ≡ true → atom_bytes k v m a ≡ Some (atom_size k m a)
  atom_takes k v (cell x) m e f g = kind_takes k m x.kind (nil_true (kind_is_sized k m x.kind) x.span e)
  atom_takes k v (paren t) m e f g = type_takes k v t m e f
  atom_takes k v (tagged u tag fs) m e f g = known_is (tag_size k u tag) g
  atom_takes k v (product ts a) m e f g = sum_takes k v ts (nil_front (bad_in_types k ts) _ e) f
  atom_takes k v (cases bs) m e f g = first_takes k v bs m e f

  sum_takes : (k : Known) (v : List ℕ → ℤ) (ts : STypeTrees) → bad_in_types k ts ≡ [] → some_type_has_tail ts ≡ false → sum_bytes k v ts ≡ Some (sum_size k ts)
  sum_takes k v no_type e f = refl
  sum_takes k v (also_type t ts) e f =
      let one = type_takes k v t None (nil_front (bad_in_type k None t) (bad_in_types k ts) e) (or_left (has_tail t) (some_type_has_tail ts) f) in
      let more = sum_takes k v ts (nil_back (bad_in_type k None t) (bad_in_types k ts) e) (or_right (has_tail t) (some_type_has_tail ts) f) in
      ap (λ o. option_and_then (λ n. option_map (λ e. n + e) (sum_bytes k v ts)) o) one ∙ ap (λ o. option_map (λ e. size k None t + e) o) more

  first_takes : (k : Known) (v : List ℕ → ℤ) (bs : SBranchTrees) (m : Option c.TypeTree) → bad_in_branches k m (first_size k m bs) bs ≡ [] → some_branch_has_tail bs ≡ false → first_bytes k v m bs ≡ Some (first_size k m bs)
  first_takes k v no_branch m e f = refl
  first_takes k v (also_branch g t bs) m e f =
      let here = nil_front (bad_in_type k m t ++ unless_span (is_exactly (Some (size k m t)) (size k m t) (has_tail t)) (stype_span t)) (bad_in_branches k m (size k m t) bs) e in
      type_takes k v t m (nil_front (bad_in_type k m t) _ here) (or_left (has_tail t) (some_branch_has_tail bs) f)
