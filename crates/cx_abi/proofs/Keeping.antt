-- What a tag consists of, and so its extent, is as it was when tags are added, get members, or are taken back.
use Rattle.std.proofs.Common.{◌≡◌, ◌<◌, ◌≤◌, ℕ, zero, suc, Bool, List, [], ◌∷◌, Option, Some, None, IsTrue, ap, sym, refl, arith, nat_lt, slice_get, ◌∙◌}
use Rattle.std.specs.List.{list_all}
use Rattle.std.specs.Option.{option_map_or}
use Rattle.cx_ctree.specs.Types.{TypeTree, void, int, pointer, array, tag}
use Rattle.cx_ctree.specs.Decls.{MemberTree, TagTree}
use Rattle.cx_ctree.specs.Tags.{rank_of, is_below, ranks, AreRanked}
use Rattle.cx_ctree.specs.Layouts.{Shape, shape_by, shapes_by, members_by, found_by, tag_shape, shape_of, shapes_of, undeclared, elements, declared}
use Rattle.cx_abi.proofs.Shapes.{both, below, ranks_found, by_members}
use Rattle.cx_abi.proofs.Complete.{ranked_below}

-- each tag with members is there too, as it is
abbrev pub Stands : List TagTree → List TagTree → Type 0
Stands a b = (k : ℕ) (t : TagTree) → slice_get a k ≡ Some t → 0 < t.rank → slice_get b k ≡ Some t

-- both say the same of the tags of rank below r that have members
abbrev pub Agrees : List TagTree → ℕ → (ℕ → Shape) → (ℕ → Shape) → Type 0
Agrees a r f g = (j : ℕ) → 0 < rank_of a j → rank_of a j < r → f j ≡ g j

type_kept : (a : List TagTree) (r : ℕ) (f g : ℕ → Shape) → Agrees a r f g → (t : TypeTree) → IsTrue (is_below a r t) → shape_by f t ≡ shape_by g t
type_kept a r f g h void b = refl
type_kept a r f g h (int t) b = refl
type_kept a r f g h (pointer t) b = refl
type_kept a r f g h (array t n) b = ap (λ s. elements s n) (type_kept a r f g h t b)
type_kept a r f g h (tag j) b = h j (ranked_below a r j b) (below a r j b)

types_kept : (a : List TagTree) (r : ℕ) (f g : ℕ → Shape) → Agrees a r f g → (ms : List MemberTree) → IsTrue (list_all (λ m. is_below a r m.ctype) ms) → shapes_by f ms ≡ shapes_by g ms
types_kept a r f g h [] b = refl
types_kept a r f g h (m ∷ ms) b =
    let parts = both (is_below a r m.ctype) (list_all (λ m. is_below a r m.ctype) ms) b in
    let first = type_kept a r f g h m.ctype parts.0 in
    let rest = types_kept a r f g h ms parts.1 in
    rw (first, rest) refl

members_kept : (a : List TagTree) (r : ℕ) (f g : ℕ → Shape) → Agrees a r f g → (k : ℕ) (u : Bool) (ms : Option (List MemberTree)) → IsTrue (ranks a r ms) → members_by f k u ms ≡ members_by g k u ms
members_kept a r f g h k u None b = refl
members_kept a r f g h k u (Some ms) b = ap (declared k u) (types_kept a r f g h ms (both (nat_lt 0 r) (list_all (λ m. is_below a r m.ctype) ms) b).1)

found_kept : (a b : List TagTree) → AreRanked a → Stands a b → (f g : ℕ → Shape) (k : ℕ) (o : Option TagTree) → slice_get a k ≡ o → 0 < option_map_or (λ t. t.rank) o 0 → Agrees a (option_map_or (λ t. t.rank) o 0) f g
    → found_by f k (slice_get a k) ≡ found_by g k (slice_get b k)
found_kept a b ranked stands f g k None e h same = absurd (omega (arith, h))
found_kept a b ranked stands f g k (Some t) e h same =
    ap (found_by f k) e ∙ members_kept a t.rank f g same k t.union_ t.members (ranks_found a ranked k t e) ∙ ap (found_by g k) (sym (stands k t e h))

-- what a tag with members consists of
module _ (a b : List TagTree) (ranked : AreRanked a) (also : AreRanked b) (stands : Stands a b) where
  tag_kept : (n k : ℕ) → 0 < rank_of a k → rank_of a k ≤ n → shape_of a (tag k) ≡ shape_of b (tag k)
  tag_kept zero k some low = absurd (omega (arith, some, low))
  tag_kept (suc n) k some low =
      by_members a ranked k
      ∙ found_kept a b ranked stands (λ j. shape_of a (tag j)) (λ j. shape_of b (tag j)) k (slice_get a k) refl some (λ j p l. tag_kept n j p (omega (arith, l, low)))
      ∙ sym (by_members b also k)

  without_members : (k : ℕ) → rank_of a k ≡ 0 → shape_of a (tag k) ≡ undeclared k
  without_members k e = ap (λ n. tag_shape a n k) e

  -- of a tag of one rank in both
  pub shape_kept : (k : ℕ) → rank_of a k ≡ rank_of b k → shape_of a (tag k) ≡ shape_of b (tag k)
  shape_kept k same = shape_from (rank_of a k) refl where
    shape_from : (r : ℕ) → rank_of a k ≡ r → shape_of a (tag k) ≡ shape_of b (tag k)
    shape_from zero e = without_members k e ∙ sym (ap (λ n. tag_shape b n k) (sym same ∙ e))
    shape_from (suc r) e = tag_kept (rank_of a k) k (omega (arith, e)) (omega arith)

  -- of the types of members
  pub members_shape : (r : ℕ) (ms : List MemberTree) → IsTrue (list_all (λ m. is_below a r m.ctype) ms) → shapes_of a ms ≡ shapes_of b ms
  members_shape r ms low = types_kept a r (λ j. shape_of a (tag j)) (λ j. shape_of b (tag j)) (λ j p l. tag_kept (rank_of a j) j p (omega arith)) ms low
