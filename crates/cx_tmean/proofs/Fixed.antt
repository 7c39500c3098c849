-- Bytes that hold a type without arrays of symbolic length are as many as the type takes.
use Rattle.std.specs.Prelude.{◌≡◌, ℕ, ◌+◌, ◌*◌, ℤ, pos, negsuc, Bool, true, false, not, ◌==◌, ◌||◌, is_some, List, [], ◌∷◌, ◌++◌, length, Option, Some, None}
use Rattle.std.specs.List.{AllByRecursion, concat}
use Rattle.std.specs.Option.{unwrap_or}
use Rattle.std.proofs.Common.{arith, refl, ap, ◌∙◌, inl, inr, length-append}
use Rattle.std.proofs.lemmas.Bool.Decides.{nat_tests}
use Rattle.cx_base.specs.declared.span.Span.{Span}
use Rattle.cx_ctree.specs.Types as c
use Rattle.cx_term.proofs.Tests.{and_left}
use Rattle.cx_tsyn.specs.Lins.{LinTree}
use Rattle.cx_tsyn.specs.Cells.{SCellKindTree, any, any_bytes, val, unsigned, signed, ptr}
use Rattle.cx_tsyn.specs.Types.{STypeTree, stype, stype_span, AtomTree, cell, paren, tagged, product, cases, STypeTrees, no_type, also_type, SBranchTrees, no_branch, also_branch}
use Rattle.cx_tnumber.specs.Numbers.{number_of}
use Rattle.cx_tmeasure.specs.Sizes.{turns, in_length, in_all, kind_size, type_inside, size, atom_size, sum_size, first_size, is_symbolic, has_tail, atom_has_tail, some_type_has_tail, some_branch_has_tail}
use Rattle.cx_tmeasure.specs.BadTypes.{unless_span, is_exactly, bad_in_type, bad_in_atom, bad_in_types, bad_in_branches}
use Rattle.cx_tmean.specs.Values.{with_values, lin_value}
use Rattle.cx_tmean.specs.Types.{Beside, KindHolds, InRow, TypeHolds, AtomHolds, OneBehindTheOther, SomeBranchHolds}
use Rattle.cx_tmean.proofs.Lengths.{fixed_value}

-- ---- lists and tests

pub nil_front : (xs ys : List Span) → xs ++ ys ≡ [] → xs ≡ []
nil_front [] ys e = refl
nil_front (x ∷ xs) ys e = absurd (cc)

pub nil_back : (xs ys : List Span) → xs ++ ys ≡ [] → ys ≡ []
nil_back [] ys e = e
nil_back (x ∷ xs) ys e = absurd (cc)

pub nil_true : (b : Bool) (s : Span) → unless_span b s ≡ [] → b ≡ true
nil_true true s e = refl
nil_true false s e = absurd (cc)

pub or_left : (a b : Bool) → a || b ≡ false → a ≡ false
or_left true b e = e
or_left false b e = refl

pub or_right : (a b : Bool) → a || b ≡ false → b ≡ false
or_right true b e = absurd (let z : true ≡ false = e in cc)
or_right false b e = e

known_size : (o : Option ℕ) (n : ℕ) → o ≡ Some n → n ≡ unwrap_or o 0
known_size o n e = rw e refl

-- a type of exactly n bytes has no tail
exact_size : (n taken : ℕ) (tail : Bool) → is_exactly (Some n) taken tail ≡ true → taken ≡ n
exact_size n taken tail e = let f : (taken == n) ≡ true = and_left (taken == n) (not tail) e in grind (arith, nat_tests, f)

-- ---- arrays

rows_size : (each : ℕ) (rows : List (List ℕ)) → AllByRecursion (λ r. length r ≡ each) rows → length (concat rows) ≡ length rows * each
rows_size each [] h = omega arith
rows_size each (r ∷ rows) h = let e : length (r ++ concat rows) ≡ length r + length (concat rows) = simp length-append refl in omega (arith, e, h.0, rows_size each rows h.1)

fixed_by : (l : LinTree) (v : List ℕ → ℤ) (n each : ℕ) (o : Option ℤ) → number_of l ≡ o → not (is_some o) ≡ false → pos n ≡ lin_value v l → n * each ≡ in_length o each
fixed_by l v n each None e s h = absurd (let z : true ≡ false = s in cc)
fixed_by l v n each (Some z) e s h = by_sign z (h ∙ fixed_value v l z e)
  where
    by_sign : (z : ℤ) → pos n ≡ z → n * each ≡ turns z * each
    by_sign (pos m) e = let f : n ≡ m = cc in rw f refl
    by_sign (negsuc m) e = absurd (cc)

all_to : {X : Type 0} (P Q : X → Type 0) → ((x : X) → P x → Q x) → (xs : List X) → AllByRecursion P xs → AllByRecursion Q xs
all_to P Q f [] h = tt
all_to P Q f (x ∷ xs) h = (f x h.0, all_to P Q f xs h.1)

row_size : (v : List ℕ → ℤ) (times : Option LinTree) (m : Option c.TypeTree) (P : Option c.TypeTree → List ℕ → Type 0) (each : ℕ) → is_symbolic times ≡ false
    → ((bytes : List ℕ) → P (type_inside times m) bytes → length bytes ≡ each) → (bytes : List ℕ) → InRow v times m P bytes → length bytes ≡ in_all times each
row_size v None m P each s f bytes h = f bytes h
row_size v (Some l) m P each s f bytes h =
    ap length h.1 ∙ rows_size each h.0 (all_to (P None) (λ r. length r ≡ each) f h.0 h.3) ∙ fixed_by l v (length h.0) each (number_of l) refl s h.2

-- ---- types

kind_bytes_are : (b : Beside) (v : List ℕ → ℤ) (m : Option c.TypeTree) (bytes : List ℕ) (k : SCellKindTree) → KindHolds b v m bytes k → length bytes ≡ kind_size b.known m k
kind_bytes_are b v m bytes any h = known_size _ (length bytes) h
kind_bytes_are b v m bytes (any_bytes n) h = h
kind_bytes_are b v m bytes (val e) h = known_size _ (length bytes) h.0
kind_bytes_are b v m bytes (unsigned n e) h = h.0
kind_bytes_are b v m bytes (signed n e) h = h.0
kind_bytes_are b v m bytes (ptr w args off null) h = h.0

mutual
  pub type_bytes_are : (b : Beside) (t : STypeTree) (v : List ℕ → ℤ) (m : Option c.TypeTree) (bytes : List ℕ) → bad_in_type b.known m t ≡ [] → has_tail t ≡ false → TypeHolds b v m bytes t → length bytes ≡ size b.known m t
  type_bytes_are b (stype s ws a n cs) v m bytes e f h =
      let v' = with_values ws h.0 v in
      row_size v' n m (λ m bytes. AtomHolds b v' m bytes a) (atom_size b.known (type_inside n m) a) (or_left (is_symbolic n) (atom_has_tail a) f)
      (λ bytes p. atom_bytes_are b a v' (type_inside n m) bytes (nil_front (bad_in_atom b.known (type_inside n m) a) _ e) (or_right (is_symbolic n) (atom_has_tail a) f) p)
      bytes h.2

  atom_bytes_are : (b : Beside) (a : AtomTree) (v : List ℕ → ℤ) (m : Option c.TypeTree) (bytes : List ℕ) → bad_in_atom b.known m a ≡ [] → atom_has_tail a ≡ false → AtomHolds b v m bytes a → length bytes ≡ atom_size b.known m a
  atom_bytes_are b (cell x) v m bytes e f h = kind_bytes_are b v m bytes x.kind h
  atom_bytes_are b (paren t) v m bytes e f h = type_bytes_are b t v m bytes e f h
  atom_bytes_are b (tagged u tag fs) v m bytes e f h = known_size _ (length bytes) h.0
  atom_bytes_are b (product ts a) v m bytes e f h = types_bytes_are b ts v bytes (nil_front (bad_in_types b.known ts) _ e) f h
  atom_bytes_are b (cases bs) v m bytes e f h = branches_bytes_are b bs (first_size b.known m bs) v m bytes e f h

  types_bytes_are : (b : Beside) (ts : STypeTrees) (v : List ℕ → ℤ) (bytes : List ℕ) → bad_in_types b.known ts ≡ [] → some_type_has_tail ts ≡ false → OneBehindTheOther b v bytes ts → length bytes ≡ sum_size b.known ts
  types_bytes_are b no_type v bytes e f h = ap length h
  types_bytes_are b (also_type t ts) v bytes e f h =
      let one = type_bytes_are b t v None h.0 (nil_front (bad_in_type b.known None t) (bad_in_types b.known ts) e) (or_left (has_tail t) (some_type_has_tail ts) f) h.3 in
      let more = types_bytes_are b ts v h.1 (nil_back (bad_in_type b.known None t) (bad_in_types b.known ts) e) (or_right (has_tail t) (some_type_has_tail ts) f) h.4 in
      let both : length (h.0 ++ h.1) ≡ length h.0 + length h.1 = simp length-append refl in
      ap length h.2 ∙ both ∙ omega (arith, one, more)

  branches_bytes_are : (b : Beside) (bs : SBranchTrees) (n : ℕ) (v : List ℕ → ℤ) (m : Option c.TypeTree) (bytes : List ℕ) → bad_in_branches b.known m n bs ≡ [] → some_branch_has_tail bs ≡ false → SomeBranchHolds b v m bytes bs → length bytes ≡ n
  branches_bytes_are b no_branch n v m bytes e f h = absurd h
  branches_bytes_are b (also_branch g t bs) n v m bytes e f (inl h) =
      let here = nil_front (bad_in_type b.known m t ++ unless_span (is_exactly (Some n) (size b.known m t) (has_tail t)) (stype_span t)) (bad_in_branches b.known m n bs) e in
      type_bytes_are b t v m bytes (nil_front (bad_in_type b.known m t) _ here) (or_left (has_tail t) (some_branch_has_tail bs) f) h.1
      ∙ exact_size n (size b.known m t) (has_tail t) (nil_true _ (stype_span t) (nil_back (bad_in_type b.known m t) _ here))
  branches_bytes_are b (also_branch g t bs) n v m bytes e f (inr h) =
      branches_bytes_are b bs n v m bytes (nil_back (bad_in_type b.known m t ++ unless_span (is_exactly (Some n) (size b.known m t) (has_tail t)) (stype_span t)) (bad_in_branches b.known m n bs) e) (or_right (has_tail t) (some_branch_has_tail bs) f) h
