-- Ranks of tags where a tag is added, and where one gets members.
use Rattle.std.proofs.Common.{Result, ◌≡◌, ℕ, zero, suc, ◌+◌, add-one, ◌<◌, ◌≤◌, Bool, true, false, ◌&&◌, ◌==◌, List, [], ◌∷◌, ◌++◌, map, refl, ap, ◌∙◌, sym, Option, None, Some, length, arith, subst}
use Rattle.std.specs.Prelude.{slice_get, slice_set, nat_lt, is_some, option_map}
use Rattle.std.proofs.lemmas.List.{map-append, map-set}
use Rattle.std.proofs.lemmas.Option.{slice_get-map}
use Rattle.std.proofs.lemmas.Bool.{ltb-true, lt-ltb}
use Rattle.std.proofs.lemmas.Bool.Decides.{nat_tests}
use Rattle.std.specs.List.{list_all}
use Rattle.std.specs.Option.{option_map_or}
use Rattle.cx_base.proofs.General.{both_true, true_both, not_true}
use Rattle.cx_ctree.specs.Types.{TypeTree, void, int, pointer, array, tag}
use Rattle.cx_ctree.specs.Decls.{TagTree, tag_tree, MemberTree, member_tree}
use Rattle.cx_ctree.specs.declared.decl.Member.{Member}
use Rattle.cx_ctree.specs.declared.decl.Tag.{Tag}
use Rattle.cx_ctree.specs.declared.extent.Extent.{Extent}
use Rattle.cx_ctree.specs.declared.unit.Unit.{Unit}
use Rattle.cx_ctree.specs.Path.{greatest}
use Rattle.cx_ctree.specs.Units.{tags_of}
use Rattle.cx_cname.specs.Known.{Known, known_of, is_complete, with_members, undeclared_members}
use Rattle.cx_cname.specs.Meanings.{has_members, may_have}
use Rattle.cx_ctree.specs.Tags.{rank_of, is_below, ranks, AreRanked}

-- where each tag keeps its rank, what is below a rank stays so
below_same : (tags more : List TagTree) → ((k : ℕ) → rank_of more k ≡ rank_of tags k) → (r : ℕ) (t : TypeTree) → is_below more r t ≡ is_below tags r t
below_same tags more same r void = refl
below_same tags more same r (int t) = refl
below_same tags more same r (pointer t) = refl
below_same tags more same r (array t n) = below_same tags more same r t
below_same tags more same r (tag k) = ap (λ n. nat_lt 0 n && nat_lt n r) (same k)

all_same : {A : Type 0} (p q : A → Bool) → ((x : A) → p x ≡ q x) → (xs : List A) → list_all p xs ≡ list_all q xs
all_same p q same [] = refl
all_same p q same (x ∷ xs) = let h = all_same p q same xs in rw (same x, h) refl

ranks_same : (tags more : List TagTree) → ((k : ℕ) → rank_of more k ≡ rank_of tags k) → (r : ℕ) (ms : Option (List MemberTree)) → ranks more r ms ≡ ranks tags r ms
ranks_same tags more same r None = refl
ranks_same tags more same r (Some ms) = ap (λ b. nat_lt 0 r && b) (all_same (λ m. is_below more r m.ctype) (λ m. is_below tags r m.ctype) (λ m. below_same tags more same r m.ctype) ms)

rank_also : (tags : List TagTree) (t : TagTree) → t.rank ≡ 0 → (k : ℕ) → rank_of (tags ++ t ∷ []) k ≡ rank_of tags k
rank_also [] t e zero = e
rank_also [] t e (suc k) = refl
rank_also (s ∷ tags) t e zero = refl
rank_also (s ∷ tags) t e (suc k) = rank_also tags t e k

all_also : {A : Type 0} (p : A → Bool) (xs : List A) (x : A) → list_all p xs ≡ true → p x ≡ true → list_all p (xs ++ x ∷ []) ≡ true
all_also p [] x h e = rw e refl
all_also p (y ∷ xs) x h e = elim (p y) as (λ b. (b && list_all p xs) ≡ true → (b && list_all p (xs ++ x ∷ [])) ≡ true) [ true ↦ λ k. all_also p xs x k e | false ↦ λ k. k ] h

ranked_also : (tags : List TagTree) (t : TagTree) → AreRanked tags → t.rank ≡ 0 → t.members ≡ None → AreRanked (tags ++ t ∷ [])
ranked_also tags t h e none =
    let more = tags ++ t ∷ [] in
    let same : (k : ℕ) → rank_of more k ≡ rank_of tags k = rank_also tags t e in
    all_also (λ x. ranks more x.rank x.members) tags t
    (all_same (λ x. ranks more x.rank x.members) (λ x. ranks tags x.rank x.members) (λ x. ranks_same tags more same x.rank x.members) tags ∙ h)
    (rw (none, e) refl)

pub ranked_tag : (tags : List Tag) (t : Tag) → AreRanked (map tag_tree tags) → t.rank ≡ 0 → t.members ≡ None → AreRanked (map tag_tree (tags ++ t ∷ []))
ranked_tag tags t h e none = rw (map-append tag_tree tags (t ∷ [])) (ranked_also (map tag_tree tags) (tag_tree t) h e (rw none refl))

rank_nought : (n : ℕ) → (n == 0) ≡ true → n ≡ 0
rank_nought n h = grind (arith, nat_tests)

none_or_rank : (tags : List TagTree) (t : TagTree) → ranks tags t.rank t.members ≡ true → is_some t.members ≡ false → t.rank ≡ 0
none_or_rank tags t h e = elim t.members as (λ ms. ranks tags t.rank ms ≡ true → is_some ms ≡ false → t.rank ≡ 0) [ None ↦ λ h e. rank_nought t.rank h | Some ms ↦ λ h e. absurd cc ] h e

-- a tag without members has the rank 0
rank_without : (all tags : List TagTree) (k : ℕ) → list_all (λ t. ranks all t.rank t.members) tags ≡ true → option_map_or (λ t. is_some t.members) (slice_get tags k) false ≡ false → rank_of tags k ≡ 0
rank_without all [] k h e = refl
rank_without all (t ∷ tags) zero h e = none_or_rank all t (both_true _ _ h).0 e
rank_without all (t ∷ tags) (suc k) h e = rank_without all tags k (both_true _ _ h).1 e

rank_le : (tags : List TagTree) (k : ℕ) → rank_of tags k ≤ greatest (λ t. t.rank) tags
rank_le [] k = omega arith
rank_le (t ∷ tags) zero = omega arith
rank_le (t ∷ tags) (suc k) = let h = rank_le tags k in omega (arith, h)

rank_kept : (tags : List TagTree) (k : ℕ) (t : TagTree) → rank_of tags k ≡ 0 → (j : ℕ) → 0 < rank_of tags j → rank_of (slice_set tags k t) j ≡ rank_of tags j
rank_kept [] k t e j h = absurd (omega arith)
rank_kept (s ∷ tags) zero t e zero h = absurd (omega arith)
rank_kept (s ∷ tags) zero t e (suc j) h = refl
rank_kept (s ∷ tags) (suc k) t e zero h = refl
rank_kept (s ∷ tags) (suc k) t e (suc j) h = rank_kept tags k t e j h

below_kept : (tags more : List TagTree) → ((j : ℕ) → 0 < rank_of tags j → rank_of more j ≡ rank_of tags j) → (r : ℕ) (t : TypeTree) → is_below tags r t ≡ true → is_below more r t ≡ true
below_kept tags more same r void h = h
below_kept tags more same r (int t) h = h
below_kept tags more same r (pointer t) h = h
below_kept tags more same r (array t n) h = below_kept tags more same r t h
below_kept tags more same r (tag k) h = rw (same k (ltb-true 0 (rank_of tags k) (both_true _ _ h).0)) h

below_most : (tags more : List TagTree) → ((j : ℕ) → 0 < rank_of tags j → rank_of more j ≡ rank_of tags j) → (env : Known) → env.tags ≡ tags → (t : TypeTree) → is_complete env t ≡ true → is_below more (suc (greatest (λ t. t.rank) tags)) t ≡ true
below_most tags more same env e void h = absurd cc
below_most tags more same env e (int t) h = refl
below_most tags more same env e (pointer t) h = refl
below_most tags more same env e (array t n) h = below_most tags more same env e t h
below_most tags more same env e (tag k) h =
    let some : nat_lt 0 (rank_of tags k) ≡ true = rw (sym e) h in
    let le : rank_of tags k ≤ greatest (λ t. t.rank) tags = rank_le tags k in
    rw (same k (ltb-true 0 (rank_of tags k) some)) (true_both _ _ some (lt-ltb (rank_of tags k) (suc (greatest (λ t. t.rank) tags)) (omega (arith, le))))

all_kept : {A : Type 0} (p q : A → Bool) → ((x : A) → p x ≡ true → q x ≡ true) → (xs : List A) → list_all p xs ≡ true → list_all q xs ≡ true
all_kept p q f [] h = refl
all_kept p q f (x ∷ xs) h = true_both _ _ (f x (both_true _ _ h).0) (all_kept p q f xs (both_true _ _ h).1)

all_set : {A : Type 0} (p q : A → Bool) → ((x : A) → p x ≡ true → q x ≡ true) → (xs : List A) (k : ℕ) (y : A) → q y ≡ true → list_all p xs ≡ true → list_all q (slice_set xs k y) ≡ true
all_set p q f [] k y e h = refl
all_set p q f (x ∷ xs) zero y e h = true_both _ _ e (all_kept p q f xs (both_true _ _ h).1)
all_set p q f (x ∷ xs) (suc k) y e h = true_both _ _ (f x (both_true _ _ h).0) (all_set p q f xs k y e (both_true _ _ h).1)

ranks_kept : (tags more : List TagTree) → ((j : ℕ) → 0 < rank_of tags j → rank_of more j ≡ rank_of tags j) → (r : ℕ) (ms : Option (List MemberTree)) → ranks tags r ms ≡ true → ranks more r ms ≡ true
ranks_kept tags more same r None h = h
ranks_kept tags more same r (Some ms) h = true_both _ _ (both_true _ _ h).0 (all_kept (λ m. is_below tags r m.ctype) (λ m. is_below more r m.ctype) (λ m. below_kept tags more same r m.ctype) ms (both_true _ _ h).1)

ranked_set : (env : Known) (k : ℕ) (name : Option ℕ) (union : Bool) (ms : List MemberTree) → AreRanked env.tags → may_have env k ms ≡ true → AreRanked (with_members env k name union ms).tags
ranked_set env k name union ms h may =
    let t : TagTree = record { name = name; union_ = union; rank = suc (greatest (λ t. t.rank) env.tags); members = Some ms } in
    let more = slice_set env.tags k t in
    let open_ : has_members env k ≡ false = not_true _ (both_true _ _ may).0 in
    let same : (j : ℕ) → 0 < rank_of env.tags j → rank_of more j ≡ rank_of env.tags j = rank_kept env.tags k t (rank_without env.tags env.tags k h open_) in
    all_set (λ x. ranks env.tags x.rank x.members) (λ x. ranks more x.rank x.members) (λ x. ranks_kept env.tags more same x.rank x.members) env.tags k t
    (true_both _ _ (lt-ltb 0 (suc (greatest (λ t. t.rank) env.tags)) (omega arith)) (all_kept (λ m. is_complete env m.ctype) (λ m. is_below more (suc (greatest (λ t. t.rank) env.tags)) m.ctype) (λ m. below_most env.tags more same env refl m.ctype) ms (both_true _ _ may).1))
    h

-- the tags of a unit where one gets its members
pub ranked_members : (u : Unit) (k : ℕ) (t : Tag) (ms : List MemberTree) → may_have (known_of u) k ms ≡ true → tag_tree t ≡ record { name = t.name; union_ = t.union_; rank = suc (greatest (λ t. t.rank) (tags_of u)); members = Some ms }
    → AreRanked (map tag_tree (slice_set u.tags k t))
ranked_members u k t ms may e =
    subst AreRanked (sym (map-set tag_tree u.tags k t ∙ ap (λ (s : TagTree). slice_set (tags_of u) k s) e)) (ranked_set (known_of u) k t.name t.union_ ms u.ranked may)

-- a tag that may get members has none
pub rank_open : (u : Unit) (k : ℕ) (ms : List MemberTree) → may_have (known_of u) k ms ≡ true → rank_of (tags_of u) k ≡ 0
rank_open u k ms may = rank_without (tags_of u) (tags_of u) k u.ranked (not_true _ (both_true _ _ may).0)

-- the members that a tag may get are below the next rank
pub members_below : (u : Unit) (k : ℕ) (ms : List MemberTree) → may_have (known_of u) k ms ≡ true → list_all (λ m. is_below (tags_of u) (suc (greatest (λ t. t.rank) (tags_of u))) m.ctype) ms ≡ true
members_below u k ms may =
    all_kept (λ m. is_complete (known_of u) m.ctype) (λ m. is_below (tags_of u) (suc (greatest (λ t. t.rank) (tags_of u))) m.ctype) (λ m. below_most (tags_of u) (tags_of u) (λ j p. refl) (known_of u) refl m.ctype) ms (both_true _ _ may).1

none_of : {A : Type 0} (o : Option A) → is_some o ≡ false → o ≡ None
none_of None h = refl
none_of (Some x) h = absurd cc

undeclared_at : (all tags : List TagTree) (k : ℕ) (old : TagTree) → list_all (λ t. ranks all t.rank t.members) tags ≡ true → option_map_or (λ t. is_some t.members) (slice_get tags k) false ≡ false → slice_get tags k ≡ Some old → old ≡ undeclared_members old.name old.union_
undeclared_at all [] k old h open_ got = absurd cc
undeclared_at all (t ∷ tags) zero old h open_ got =
    let rank : t.rank ≡ 0 = none_or_rank all t (both_true _ _ h).0 open_ in
    let members : t.members ≡ None = none_of t.members open_ in
    let e : t ≡ old = cc in
    sym e ∙ (λ i. record { name = t.name; union_ = t.union_; rank = rank i; members = members i }) ∙ ap (λ (o : TagTree). undeclared_members o.name o.union_) e
undeclared_at all (t ∷ tags) (suc k) old h open_ got = undeclared_at all tags k old (both_true _ _ h).1 open_ got

-- a tag of the unit without members
pub undeclared : (u : Unit) (k : ℕ) (ms : List MemberTree) (old : Tag) → may_have (known_of u) k ms ≡ true → slice_get u.tags k ≡ Some old → tag_tree old ≡ undeclared_members old.name old.union_
undeclared u k ms old may got = undeclared_at (tags_of u) (tags_of u) k (tag_tree old) u.ranked (not_true _ (both_true _ _ may).0) (slice_get-map tag_tree u.tags k ∙ ap (option_map tag_tree) got)

set_nowhere : {A : Type 0} (xs : List A) (k : ℕ) (x : A) → slice_get xs k ≡ None → slice_set xs k x ≡ xs
set_nowhere [] k x h = refl
set_nowhere (y ∷ xs) zero x h = absurd cc
set_nowhere (y ∷ xs) (suc k) x h = ap (λ vs. y ∷ vs) (set_nowhere xs k x h)

-- no tag has a place past the end
pub nowhere : (u : Unit) (k : ℕ) (name : Option ℕ) (union : Bool) (ms : List MemberTree) → slice_get u.tags k ≡ None → known_of u ≡ with_members (known_of u) k name union ms
nowhere u k name union ms h = ap (λ (tags : List TagTree). record (known_of u) { tags = tags }) (sym (set_nowhere (tags_of u) k _ (slice_get-map tag_tree u.tags k ∙ ap (option_map tag_tree) h)))

pub somewhere : {A : Type 0} (xs : List A) (k : ℕ) (x : A) → slice_get xs k ≡ Some x → k < length xs
somewhere [] k x h = absurd cc
somewhere (y ∷ xs) zero x h = omega arith
somewhere (y ∷ xs) (suc k) x h = let lt = somewhere xs k x h in omega (arith, lt)

-- a tag with members and the next rank
pub ranked_next : (u : Unit) (tags : List Tag) (name : Option ℕ) (union : Bool) (r g : ℕ) (ms : List Member) (e : Result Extent ℕ) → r ≡ g + 1 → g ≡ greatest (λ t. t.rank) (map tag_tree tags) → tags ≡ u.tags
    → tag_tree (record { name = name; union_ = union; rank = r; members = Some ms; extent = e }) ≡ record { name = name; union_ = union; rank = suc (greatest (λ t. t.rank) (tags_of u)); members = Some (map member_tree ms) }
ranked_next u tags name union r g ms extent e f same =
    let next : r ≡ suc (greatest (λ t. t.rank) (tags_of u)) = e ∙ add-one g ∙ ap suc (f ∙ ap (λ (ts : List Tag). greatest (λ (t : TagTree). t.rank) (map tag_tree ts)) same) in
    λ i. record { name = name; union_ = union; rank = next i; members = Some (map member_tree ms) }
