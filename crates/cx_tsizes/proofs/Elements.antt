-- The element of a type's tail, where nothing in the type is at fault.
use Rattle.std.proofs.Common.{◌≡◌, ◌∙◌, List, [], ◌∷◌, ◌++◌, Bool, true, false, Option, Some, None, refl, ap, sym, subst}
use Rattle.std.specs.Prelude.{if◌then◌else◌}
use Rattle.cx_base.specs.declared.span.Span.{Span}
use Rattle.cx_tsyn.specs.Lins.{LinTree}
use Rattle.cx_tsyn.specs.Types.{STypeTree, stype, AtomTree, cell, paren, tagged, product, cases, STypeTrees, no_type, also_type}
use Rattle.cx_tscope.specs.Faults.{first}
use Rattle.cx_tmeasure.specs.Known.{Known}
use Rattle.cx_tmeasure.specs.Sizes.{is_symbolic}
use Rattle.cx_tmeasure.specs.BadTypes.{bad_in_type, bad_in_atom, bad_in_types}
use Rattle.cx_tsizes.specs.Regions.{or_tail, own_tail, tail_of, tail_in, tail_in_types}

first_front : (a b : List Span) → first (a ++ b) ≡ None → first a ≡ None
first_front [] b e = refl
first_front (s ∷ a) b e = e

first_back : (a b : List Span) → first (a ++ b) ≡ None → first b ≡ None
first_back [] b e = e
first_back (s ∷ a) b e = absurd (cc)

-- nothing in what the elements of this tail are is at fault
abbrev IsRight : Known → Option (LinTree × AtomTree) → Type 0
IsRight k o = (t : LinTree × AtomTree) → o ≡ Some t → first (bad_in_atom k None t.1) ≡ None

abbrev element_or : AtomTree → Option (LinTree × AtomTree) → AtomTree
element_or a None = a
element_or a (Some t) = t.1

none_right : (k : Known) → IsRight k None
none_right k t e = absurd (cc)

some_right : (k : Known) (l : LinTree) (a : AtomTree) → first (bad_in_atom k None a) ≡ None → IsRight k (Some (l, a))
some_right k l a right t e = subst (λ x. first (bad_in_atom k None x) ≡ None) (ap (element_or a) e) right

either_right : (k : Known) (o p : Option (LinTree × AtomTree)) → IsRight k o → IsRight k p → IsRight k (or_tail o p)
either_right k None p own inner = inner
either_right k (Some t) p own inner = own

by_symbol : (k : Known) (b : Bool) (l : LinTree) (a : AtomTree) → first (bad_in_atom k None a) ≡ None → IsRight k (if b then Some (l, a) else None)
by_symbol k true l a right = some_right k l a right
by_symbol k false l a right = none_right k

own_right : (k : Known) (n : Option LinTree) (a : AtomTree) → first (bad_in_atom k None a) ≡ None → IsRight k (own_tail n a)
own_right k None a right = none_right k
own_right k (Some l) a right = by_symbol k (is_symbolic (Some l)) l a right

mutual
  pub tail_right : (k : Known) (t : STypeTree) → first (bad_in_type k None t) ≡ None → IsRight k (tail_of t)
  tail_right k (stype s bs a None cs) right = either_right k None (tail_in a) (none_right k) (atom_right k a (first_front (bad_in_atom k None a) _ right))
  tail_right k (stype s bs a (Some l) cs) right =
      either_right k (own_tail (Some l) a) (tail_in a) (own_right k (Some l) a (first_front (bad_in_atom k None a) _ right)) (atom_right k a (first_front (bad_in_atom k None a) _ right))

  atom_right : (k : Known) (a : AtomTree) → first (bad_in_atom k None a) ≡ None → IsRight k (tail_in a)
  atom_right k (cell x) right = none_right k
  atom_right k (paren t) right = tail_right k t right
  atom_right k (tagged u tag fs) right = none_right k
  atom_right k (product ts a) right = types_right k ts (first_front (bad_in_types k ts) _ right)
  atom_right k (cases bs) right = none_right k

  types_right : (k : Known) (ts : STypeTrees) → first (bad_in_types k ts) ≡ None → IsRight k (tail_in_types ts)
  types_right k no_type right = none_right k
  types_right k (also_type t ts) right =
      either_right k (tail_of t) (tail_in_types ts) (tail_right k t (first_front (bad_in_type k None t) _ right)) (types_right k ts (first_back (bad_in_type k None t) (bad_in_types k ts) right))

pub element_right : (k : Known) (t : STypeTree) (o : Option (LinTree × AtomTree)) (p : LinTree × AtomTree) → first (bad_in_type k None t) ≡ None → o ≡ tail_of t → o ≡ Some p → first (bad_in_atom k None p.1) ≡ None
element_right k t o p right told is = tail_right k t right p (sym told ∙ is)
