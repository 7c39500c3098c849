-- Each tag keeps the extent of what it consists of, whatever is declared or taken back.
use Rattle.std.proofs.Common.{◌≡◌, ◌++◌, ◌⊎◌, inl, inr, ℕ, zero, suc, Bool, true, List, [], ◌∷◌, Option, Some, None, Ok, Err, Result, ap, sym, refl, arith, slice_get, subst, map, option_map, take, ◌∙◌}
use Rattle.std.specs.Prelude.{slice_set, OnOk, OnErr}
use Rattle.cx_base.specs.declared.list.NoMemory.{NoMemory}
use Rattle.std.specs.Option.{option_map_or}
use Rattle.std.proofs.lemmas.Option.{slice_get-map, same_Some, none-some}
use Rattle.std.proofs.lemmas.List.{map-append, map-set}
use Rattle.cx_ctree.specs.Types.{tag}
use Rattle.cx_ctree.specs.Decls.{TagTree, tag_tree, member_tree}
use Rattle.cx_ctree.specs.Path.{greatest}
use Rattle.cx_ctree.specs.Tags.{rank_of, AreRanked}
use Rattle.cx_ctree.specs.Layouts.{tag_shape, shape_of, shapes_of, undeclared, declared}
use Rattle.cx_ctree.specs.Extents.{IsExtent, AreMeasured}
use Rattle.cx_ctree.specs.Units.{tags_of}
use Rattle.cx_ctree.specs.declared.extent.Extent as code
use Rattle.cx_ctree.specs.declared.decl.Member.{Member}
use Rattle.cx_ctree.specs.declared.decl.Tag.{Tag}
use Rattle.cx_ctree.specs.declared.unit.Unit.{Unit}
use Rattle.cx_abi.proofs.Keeping.{Stands, shape_kept, members_shape}
use Rattle.cx_abi.proofs.Declared.{declared_at}
use Rattle.cx_cname.specs.Known.{known_of}
use Rattle.cx_cname.specs.Meanings.{may_have}
use Rattle.cx_cname.specs.Changes.{HasNothing, Remains}
use Rattle.cx_cname.proofs.Ranks.{ranked_tag, ranked_members, rank_open, members_below}

rank_got : (tags : List Tag) (k : ℕ) (t : Tag) → slice_get tags k ≡ Some t → rank_of (map tag_tree tags) k ≡ t.rank
rank_got tags k t e = ap (λ (o : Option TagTree). option_map_or (λ t. t.rank) o 0) (slice_get-map tag_tree tags k ∙ ap (option_map tag_tree) e)

-- a tag of rank 0 has the extent of nothing
nothing_here : (tags : List Tag) (k : ℕ) (t : Tag) → slice_get tags k ≡ Some t → t.rank ≡ 0 → ((k : ℕ) → IsExtent (undeclared k) t.extent) → IsExtent (shape_of (map tag_tree tags) (tag k)) t.extent
nothing_here tags k t e rank none = subst (λ s. IsExtent s t.extent) (sym (ap (λ n. tag_shape (map tag_tree tags) n k) (rank_got tags k t e ∙ rank))) (none k)

-- a tag that stands in both, where what it consists of is kept
same_here : (old new : List Tag) → AreMeasured old → (k : ℕ) (t : Tag) → slice_get old k ≡ Some t → shape_of (map tag_tree old) (tag k) ≡ shape_of (map tag_tree new) (tag k) → IsExtent (shape_of (map tag_tree new) (tag k)) t.extent
same_here old new h k t e same = subst (λ s. IsExtent s t.extent) same (h k t e)

-- ---- a tag is added

got_front : {A : Type 0} (xs ys : List A) (k : ℕ) (x : A) → slice_get xs k ≡ Some x → slice_get (xs ++ ys) k ≡ Some x
got_front [] ys k x h = absurd (none-some x h)
got_front (z ∷ xs) ys zero x h = h
got_front (z ∷ xs) ys (suc k) x h = got_front xs ys k x h

got_also : {A : Type 0} (xs : List A) (y : A) (k : ℕ) (x : A) → slice_get (xs ++ y ∷ []) k ≡ Some x → (slice_get xs k ≡ Some x) ⊎ (x ≡ y)
got_also [] y zero x h = inr (sym (same_Some y x h))
got_also [] y (suc k) x h = absurd (none-some x h)
got_also (z ∷ xs) y zero x h = inl h
got_also (z ∷ xs) y (suc k) x h = got_also xs y k x h

no_extent : (r : Result code.Extent ℕ) (e : code.Extent) → r ≡ Ok e → e.size ≡ 0 → e.align ≡ 1 → (k : ℕ) → IsExtent (undeclared k) r
no_extent r e is size align k = rw is (refl, rw (size, align) refl)

pub measured_tag : (tags : List Tag) (t : Tag) (e : code.Extent) → AreRanked (map tag_tree tags) → AreMeasured tags → t.rank ≡ 0 → t.members ≡ None → t.extent ≡ Ok e → e.size ≡ 0 → e.align ≡ 1 → AreMeasured (tags ++ t ∷ [])
measured_tag tags t e ranked h rank none is size align k x got =
    let more = tags ++ t ∷ [] in
    let also : AreRanked (map tag_tree more) = ranked_tag tags t ranked rank none in
    let stands : Stands (map tag_tree tags) (map tag_tree more) = λ j y g some. rw (map-append tag_tree tags (t ∷ [])) (got_front (map tag_tree tags) (tag_tree t ∷ []) j y g) in
    elim (got_also tags t k x got) as (λ _. IsExtent (shape_of (map tag_tree more) (tag k)) x.extent) [
      | inl old ↦ same_here tags more h k x old (shape_kept (map tag_tree tags) (map tag_tree more) ranked also stands k (rank_got tags k x old ∙ sym (rank_got more k x got)))
      | inr new ↦ nothing_here more k x got (ap (λ (y : Tag). y.rank) new ∙ rank) (no_extent x.extent e (ap (λ (y : Tag). y.extent) new ∙ is) size align)
    ]

-- a tag is added, or the list did not grow
pub ranked_push : (tags new : List Tag) (t : Tag) (r : Result (Prim.Unit {0}) NoMemory) → OnOk r (new ≡ tags ++ t ∷ []) → OnErr r (new ≡ tags) → AreRanked (map tag_tree tags) → t.rank ≡ 0 → t.members ≡ None → AreRanked (map tag_tree new)
ranked_push tags new t (Ok _) ok err ranked rank none = subst (λ ts. AreRanked (map tag_tree ts)) (sym ok) (ranked_tag tags t ranked rank none)
ranked_push tags new t (Err _) ok err ranked rank none = subst (λ ts. AreRanked (map tag_tree ts)) (sym err) ranked

pub measured_push : (tags new : List Tag) (t : Tag) (e : code.Extent) (r : Result (Prim.Unit {0}) NoMemory) → OnOk r (new ≡ tags ++ t ∷ []) → OnErr r (new ≡ tags) → AreRanked (map tag_tree tags) → AreMeasured tags → t.rank ≡ 0 → t.members ≡ None → t.extent ≡ Ok e → e.size ≡ 0 → e.align ≡ 1
    → AreMeasured new
measured_push tags new t e (Ok _) ok err ranked h rank none is size align = subst AreMeasured (sym ok) (measured_tag tags t e ranked h rank none is size align)
measured_push tags new t e (Err _) ok err ranked h rank none is size align = subst AreMeasured (sym err) h

-- ---- a tag gets its members

-- the extent that was computed for the members
pub own_extent : (tags : List TagTree) (k number : ℕ) (u : Bool) (ms slice : List Member) (r : Result code.Extent ℕ) → number ≡ k → slice ≡ ms → IsExtent (declared number u (shapes_of tags (map member_tree slice))) r → IsExtent (declared k u (shapes_of tags (map member_tree ms))) r
own_extent tags k number u ms slice r e f h =
    subst (λ n. IsExtent (declared n u (shapes_of tags (map member_tree ms))) r) e (subst (λ xs. IsExtent (declared number u (shapes_of tags (map member_tree xs))) r) f h)

set_got : {A : Type 0} (xs : List A) (k : ℕ) (y : A) (j : ℕ) (x : A) → slice_get (slice_set xs k y) j ≡ Some x → ((j ≡ k) × (x ≡ y)) ⊎ (slice_get xs j ≡ Some x)
set_got [] k y j x h = absurd (none-some x h)
set_got (z ∷ xs) zero y zero x h = inl (refl, sym (same_Some y x h))
set_got (z ∷ xs) zero y (suc j) x h = inr h
set_got (z ∷ xs) (suc k) y zero x h = inr h
set_got (z ∷ xs) (suc k) y (suc j) x h = elim (set_got xs k y j x h) as (λ _. ((suc j ≡ suc k) × (x ≡ y)) ⊎ (slice_get xs j ≡ Some x)) [ inl p ↦ inl (ap suc p.0, p.1) | inr q ↦ inr q ]

set_there : {A : Type 0} (xs : List A) (k : ℕ) (x y : A) → slice_get xs k ≡ Some x → slice_get (slice_set xs k y) k ≡ Some y
set_there [] k x y h = absurd (none-some x h)
set_there (z ∷ xs) zero x y h = refl
set_there (z ∷ xs) (suc k) x y h = set_there xs k x y h

set_stands : (tags : List TagTree) (k : ℕ) (y : TagTree) → rank_of tags k ≡ 0 → Stands tags (slice_set tags k y)
set_stands [] k y e j t got some = absurd (none-some t got)
set_stands (z ∷ tags) zero y e zero t got some = let same : z.rank ≡ t.rank = ap (λ (s : TagTree). s.rank) (same_Some z t got) in absurd (omega (arith, e, same, some))
set_stands (z ∷ tags) zero y e (suc j) t got some = got
set_stands (z ∷ tags) (suc k) y e zero t got some = got
set_stands (z ∷ tags) (suc k) y e (suc j) t got some = set_stands tags k y e j t got some

module _ (u : Unit) (k : ℕ) (t old : Tag) (ms : List Member) (may : may_have (known_of u) k (map member_tree ms) ≡ true) (got : slice_get u.tags k ≡ Some old)
    (is : tag_tree t ≡ record { name = t.name; union_ = t.union_; rank = suc (greatest (λ t. t.rank) (tags_of u)); members = Some (map member_tree ms) })
    (has : t.members ≡ Some ms) (own : IsExtent (declared k t.union_ (shapes_of (tags_of u) (map member_tree ms))) t.extent) where
  also : AreRanked (map tag_tree (slice_set u.tags k t))
  also = ranked_members u k t (map member_tree ms) may is

  stands : Stands (tags_of u) (map tag_tree (slice_set u.tags k t))
  stands = subst (Stands (tags_of u)) (sym (map-set tag_tree u.tags k t)) (set_stands (tags_of u) k (tag_tree t) (rank_open u k (map member_tree ms) may))

  own_here : IsExtent (shape_of (map tag_tree (slice_set u.tags k t)) (tag k)) t.extent
  own_here =
      let members = members_shape (tags_of u) (map tag_tree (slice_set u.tags k t)) u.ranked also stands (suc (greatest (λ t. t.rank) (tags_of u))) (map member_tree ms) (members_below u k (map member_tree ms) may) in
      let shape = declared_at (slice_set u.tags k t) also k t ms (set_there u.tags k old t got) has in
      subst (λ s. IsExtent s t.extent) (ap (declared k t.union_) members ∙ sym shape) own

  pub measured_members : AreMeasured (slice_set u.tags k t)
  measured_members j x there = elim (set_got u.tags k t j x there) as (λ _. IsExtent (shape_of (map tag_tree (slice_set u.tags k t)) (tag j)) x.extent) [
    | inl p ↦ subst (λ (y : Tag). IsExtent (shape_of (map tag_tree (slice_set u.tags k t)) (tag j)) y.extent) (sym p.1) (subst (λ i. IsExtent (shape_of (map tag_tree (slice_set u.tags k t)) (tag i)) t.extent) (sym p.0) own_here)
    | inr before ↦ same_here u.tags (slice_set u.tags k t) u.measured j x before
        (shape_kept (tags_of u) (map tag_tree (slice_set u.tags k t)) u.ranked also stands j (rank_got u.tags j x before ∙ sym (rank_got (slice_set u.tags k t) j x there)))
  ]

-- ---- changes are taken back

got_taken : {A : Type 0} (n : ℕ) (xs : List A) (k : ℕ) (x : A) → slice_get (take n xs) k ≡ Some x → slice_get xs k ≡ Some x
got_taken zero xs k x h = absurd (none-some x h)
got_taken (suc n) [] k x h = absurd (none-some x h)
got_taken (suc n) (y ∷ xs) zero x h = h
got_taken (suc n) (y ∷ xs) (suc k) x h = got_taken n xs k x h

pub remains_all : (left tags : List Tag) → left ≡ tags → Remains left tags
remains_all left tags e k t got = inl (subst (λ ts. slice_get ts k ≡ Some t) e got)

pub remains_front : (left tags : List Tag) (n : ℕ) → left ≡ take n tags → Remains left tags
remains_front left tags n e k t got = inl (got_taken n tags k t (subst (λ ts. slice_get ts k ≡ Some t) e got))

pub remains_set : (left tags : List Tag) (k : ℕ) (t : Tag) (e : code.Extent) → left ≡ slice_set tags k t → t.rank ≡ 0 → t.extent ≡ Ok e → e.size ≡ 0 → e.align ≡ 1 → Remains left tags
remains_set left tags k t e is rank has size align j x got =
    elim (set_got tags k t j x (subst (λ ts. slice_get ts j ≡ Some x) is got)) as (λ _. (slice_get tags j ≡ Some x) ⊎ HasNothing x) [
      | inl p ↦ inr (subst HasNothing (sym p.1) (record { rank = rank; extent = no_extent t.extent e has size align }))
      | inr q ↦ inl q
    ]

pub remains_then : (a b c : List Tag) → Remains a b → Remains b c → Remains a c
remains_then a b c p q k t got = elim (p k t got) as (λ _. (slice_get c k ≡ Some t) ⊎ HasNothing t) [ inl g ↦ q k t g | inr none ↦ inr none ]

stands_back : (left tags : List Tag) → Remains left tags → Stands (map tag_tree left) (map tag_tree tags)
stands_back left tags h k t got some = from (slice_get left k) refl where
  from : (o : Option Tag) → slice_get left k ≡ o → slice_get (map tag_tree tags) k ≡ Some t
  from None e = absurd (none-some t (sym (slice_get-map tag_tree left k ∙ ap (option_map tag_tree) e) ∙ got))
  from (Some x) e =
      let same : tag_tree x ≡ t = same_Some (tag_tree x) t (sym (slice_get-map tag_tree left k ∙ ap (option_map tag_tree) e) ∙ got) in
      elim (h k x e) as (λ _. slice_get (map tag_tree tags) k ≡ Some t) [
        | inl g ↦ slice_get-map tag_tree tags k ∙ ap (option_map tag_tree) g ∙ ap Some same
        | inr none ↦ let rank : x.rank ≡ t.rank = ap (λ (s : TagTree). s.rank) same in let zero_rank = none.rank in absurd (omega (arith, rank, zero_rank, some))
      ]

pub measured_back : (left tags : List Tag) → AreRanked (map tag_tree left) → AreRanked (map tag_tree tags) → AreMeasured tags → Remains left tags → AreMeasured left
measured_back left tags ranked also h remains k t got = elim (remains k t got) as (λ _. IsExtent (shape_of (map tag_tree left) (tag k)) t.extent) [
  | inl g ↦ same_here tags left h k t g (sym (shape_kept (map tag_tree left) (map tag_tree tags) ranked also (stands_back left tags remains) k (rank_got left k t got ∙ sym (rank_got tags k t g))))
  | inr none ↦ nothing_here left k t got none.rank none.extent
]
