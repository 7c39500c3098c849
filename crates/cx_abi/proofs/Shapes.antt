-- What a type consists of does not depend on the depth that the definition looks to.
use Rattle.std.proofs.Common.{◌≡◌, ◌<◌, ◌≤◌, ℕ, zero, suc, Bool, List, [], ◌∷◌, Option, Some, None, IsTrue, ap, sym, refl, arith, ◌&&◌, nat_lt, slice_get, subst}
use Rattle.std.proofs.lemmas.Option.{none-some, same_Some}
use Rattle.std.specs.List.{list_all}
use Rattle.std.specs.Option.{option_map_or}
use Rattle.cx_abi.specs.Recursion.{IsByMembers}
use Rattle.cx_ctree.specs.Types.{TypeTree, void, int, pointer, array, tag}
use Rattle.cx_ctree.specs.Decls.{MemberTree, TagTree}
use Rattle.cx_ctree.specs.Tags.{rank_of, is_below, ranks, AreRanked}
use Rattle.cx_ctree.specs.Layouts.{Shape, elements, declared, undeclared, shape_by, shapes_by, members_by, found_by, tag_shape, shape_of}

-- both say the same of the tags of rank below r
abbrev pub Agree : List TagTree → ℕ → (ℕ → Shape) → (ℕ → Shape) → Type 0
Agree tags r f g = (j : ℕ) → rank_of tags j < r → f j ≡ g j

pub below : (tags : List TagTree) (r j : ℕ) → IsTrue (is_below tags r (tag j)) → rank_of tags j < r
below tags r j h = grind (arith, h)

pub same_shape : (tags : List TagTree) (r : ℕ) (f g : ℕ → Shape) → Agree tags r f g → (t : TypeTree) → IsTrue (is_below tags r t) → shape_by f t ≡ shape_by g t
same_shape tags r f g h void b = refl
same_shape tags r f g h (int t) b = refl
same_shape tags r f g h (pointer t) b = refl
same_shape tags r f g h (array t n) b = ap (λ s. elements s n) (same_shape tags r f g h t b)
same_shape tags r f g h (tag j) b = h j (below tags r j b)

pub both : (a b : Bool) → IsTrue (a && b) → IsTrue a × IsTrue b
both a b h = grind (arith, h)

pub same_shapes : (tags : List TagTree) (r : ℕ) (f g : ℕ → Shape) → Agree tags r f g → (ms : List MemberTree) → IsTrue (list_all (λ m. is_below tags r m.ctype) ms) → shapes_by f ms ≡ shapes_by g ms
same_shapes tags r f g h [] b = refl
same_shapes tags r f g h (m ∷ ms) b =
    let parts = both (is_below tags r m.ctype) (list_all (λ m. is_below tags r m.ctype) ms) b in
    let first = same_shape tags r f g h m.ctype parts.0 in
    let rest = same_shapes tags r f g h ms parts.1 in
    rw (first, rest) refl

pub same_members : (tags : List TagTree) (r : ℕ) (f g : ℕ → Shape) (k : ℕ) (u : Bool) → Agree tags r f g → (ms : Option (List MemberTree)) → IsTrue (ranks tags r ms)
    → members_by f k u ms ≡ members_by g k u ms
same_members tags r f g k u h None b = refl
same_members tags r f g k u h (Some ms) b = ap (declared k u) (same_shapes tags r f g h ms (both (nat_lt 0 r) (list_all (λ m. is_below tags r m.ctype) ms) b).1)

-- what holds of each item holds of the one at a place
pub all_at : {X : Type 0} (p : X → Bool) (xs : List X) (k : ℕ) (x : X) → IsTrue (list_all p xs) → slice_get xs k ≡ Some x → IsTrue (p x)
all_at p [] k x h e = absurd (none-some x e)
all_at p (y ∷ ys) zero x h e = rw (sym (same_Some y x e)) (both (p y) (list_all p ys) h).0
all_at p (y ∷ ys) (suc k) x h e = all_at p ys k x (both (p y) (list_all p ys) h).1 e

-- the tag found is ranked
abbrev pub Ranks : List TagTree → Option TagTree → Type 0
Ranks tags o = (t : TagTree) → o ≡ Some t → IsTrue (ranks tags t.rank t.members)

pub same_found_by : (tags : List TagTree) (f g : ℕ → Shape) (k : ℕ) (o : Option TagTree) → Ranks tags o → Agree tags (option_map_or (λ t. t.rank) o 0) f g → found_by f k o ≡ found_by g k o
same_found_by tags f g k None a h = refl
same_found_by tags f g k (Some t) a h = same_members tags t.rank f g k t.union_ h t.members (a t refl)

pub ranks_found : (tags : List TagTree) → AreRanked tags → (k : ℕ) → Ranks tags (slice_get tags k)
ranks_found tags a k t e = all_at (λ (t : TagTree). ranks tags t.rank t.members) tags k t a e

pub no_members : (tags : List TagTree) (f : ℕ → Shape) (k : ℕ) (u : Bool) (ms : Option (List MemberTree)) → IsTrue (ranks tags 0 ms) → members_by f k u ms ≡ undeclared k
no_members tags f k u None b = refl
no_members tags f k u (Some ms) b = grind (arith, b)

pub none_found : (tags : List TagTree) (f : ℕ → Shape) (k : ℕ) (o : Option TagTree) → Ranks tags o → option_map_or (λ t. t.rank) o 0 ≡ 0 → found_by f k o ≡ undeclared k
none_found tags f k None a e = refl
none_found tags f k (Some t) a e = no_members tags f k t.union_ t.members (subst (λ r. IsTrue (ranks tags r t.members)) e (a t refl))

-- from a tag's rank on the depth makes no difference
pub same_depth : (tags : List TagTree) → AreRanked tags → (n m k : ℕ) → rank_of tags k ≤ n → rank_of tags k ≤ m → tag_shape tags n k ≡ tag_shape tags m k
same_depth tags a zero zero k p q = refl
same_depth tags a zero (suc m) k p q = sym (none_found tags (tag_shape tags m) k (slice_get tags k) (ranks_found tags a k) (omega (arith, p)))
same_depth tags a (suc n) zero k p q = none_found tags (tag_shape tags n) k (slice_get tags k) (ranks_found tags a k) (omega (arith, q))
same_depth tags a (suc n) (suc m) k p q =
    same_found_by tags (tag_shape tags n) (tag_shape tags m) k (slice_get tags k) (ranks_found tags a k) (λ j l. same_depth tags a n m j (omega (arith, l, p)) (omega (arith, l, q)))

pub by_members_at : (tags : List TagTree) → AreRanked tags → (k n : ℕ) → rank_of tags k ≡ n → tag_shape tags n k ≡ found_by (λ j. shape_of tags (tag j)) k (slice_get tags k)
by_members_at tags a k zero e = sym (none_found tags (λ j. shape_of tags (tag j)) k (slice_get tags k) (ranks_found tags a k) e)
by_members_at tags a k (suc n) e =
    same_found_by tags (tag_shape tags n) (λ j. shape_of tags (tag j)) k (slice_get tags k) (ranks_found tags a k)
    (λ j l. same_depth tags a n (rank_of tags j) j (omega (arith, l, e)) (omega arith))

pub by_members : (tags : List TagTree) → AreRanked tags → IsByMembers tags
by_members tags a k = by_members_at tags a k (rank_of tags k) refl
