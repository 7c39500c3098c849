-- The members of a tag are complete.
use Rattle.std.proofs.Common.{◌≡◌, ◌<◌, ℕ, zero, suc, Bool, List, [], ◌∷◌, Option, Some, None, IsTrue, refl, arith, nat_lt, slice_get, subst}
use Rattle.std.specs.List.{list_all}
use Rattle.std.specs.Option.{option_map_or}
use Rattle.cx_ctree.specs.Types.{TypeTree, void, int, pointer, array, tag}
use Rattle.cx_ctree.specs.Decls.{MemberTree, TagTree}
use Rattle.cx_ctree.specs.Tags.{rank_of, is_below, ranks, AreRanked}
use Rattle.cx_ctree.specs.Layouts.{members_by, found_by, shape_of, shapes_of, first_incomplete, first_incomplete_in}
use Rattle.cx_abi.proofs.Shapes.{below, both, Ranks, ranks_found, by_members}

-- the tags of rank below r that have members are complete
abbrev pub AreComplete : List TagTree → ℕ → Type 0
AreComplete tags r = (k : ℕ) → 0 < rank_of tags k → rank_of tags k < r → first_incomplete (shape_of tags (tag k)) ≡ None

pub ranked_below : (tags : List TagTree) (r j : ℕ) → IsTrue (is_below tags r (tag j)) → 0 < rank_of tags j
ranked_below tags r j h = grind (arith, h)

pub complete_type : (tags : List TagTree) (r : ℕ) → AreComplete tags r → (t : TypeTree) → IsTrue (is_below tags r t) → first_incomplete (shape_of tags t) ≡ None
complete_type tags r h void b = grind (arith, b)
complete_type tags r h (int t) b = refl
complete_type tags r h (pointer t) b = refl
complete_type tags r h (array t n) b = complete_type tags r h t b
complete_type tags r h (tag k) b = h k (ranked_below tags r k b) (below tags r k b)

pub complete_types : (tags : List TagTree) (r : ℕ) → AreComplete tags r → (ms : List MemberTree) → IsTrue (list_all (λ m. is_below tags r m.ctype) ms) → first_incomplete_in (shapes_of tags ms) ≡ None
complete_types tags r h [] b = refl
complete_types tags r h (m ∷ ms) b =
    let parts = both (is_below tags r m.ctype) (list_all (λ m. is_below tags r m.ctype) ms) b in
    let first = complete_type tags r h m.ctype parts.0 in
    let rest = complete_types tags r h ms parts.1 in
    rw first rest

pub complete_members : (tags : List TagTree) (r : ℕ) → AreComplete tags r → (k : ℕ) (u : Bool) (ms : Option (List MemberTree)) → 0 < r → IsTrue (ranks tags r ms)
    → first_incomplete (members_by (λ j. shape_of tags (tag j)) k u ms) ≡ None
complete_members tags r h k u None p b = grind (arith, b, p)
complete_members tags r h k u (Some ms) p b = complete_types tags r h ms (both (nat_lt 0 r) (list_all (λ m. is_below tags r m.ctype) ms) b).1

pub complete_found : (tags : List TagTree) (k : ℕ) (o : Option TagTree) → Ranks tags o → 0 < option_map_or (λ t. t.rank) o 0 → AreComplete tags (option_map_or (λ t. t.rank) o 0)
    → first_incomplete (found_by (λ j. shape_of tags (tag j)) k o) ≡ None
complete_found tags k None a p h = absurd (omega (arith, p))
complete_found tags k (Some t) a p h = complete_members tags t.rank h k t.union_ t.members p (a t refl)

pub complete_to : (tags : List TagTree) → AreRanked tags → (n : ℕ) → AreComplete tags n
complete_to tags a zero k p l = absurd (omega (arith, l))
complete_to tags a (suc n) k p l =
    rw (by_members tags a k)
    (complete_found tags k (slice_get tags k) (ranks_found tags a k) p (λ j q m. complete_to tags a n j q (omega (arith, l, m))))

-- the members that a tag has are complete
pub complete : (tags : List TagTree) → AreRanked tags → (k : ℕ) (t : TagTree) (ms : List MemberTree) → slice_get tags k ≡ Some t → t.members ≡ Some ms → first_incomplete_in (shapes_of tags ms) ≡ None
complete tags a k t ms e f =
    let b = subst (λ o. IsTrue (ranks tags t.rank o)) f (ranks_found tags a k t e) in
    complete_types tags t.rank (complete_to tags a t.rank) ms (both (nat_lt 0 t.rank) (list_all (λ m. is_below tags t.rank m.ctype) ms) b).1

-- a tag with members consists of them
pub declared_shape : (tags : List TagTree) → AreRanked tags → (k : ℕ) (t : TagTree) → slice_get tags k ≡ Some t → shape_of tags (tag k) ≡ members_by (λ j. shape_of tags (tag j)) k t.union_ t.members
declared_shape tags a k t e = rw (by_members tags a k, e) refl
