-- What was before changes of which one more was made.
use Rattle.std.proofs.Common.{◌≡◌, ℕ, ℤ, ◌-◌, List, [], ◌∷◌, ◌++◌, map, length, take, get_or, zero, suc, ◌≤◌, ◌<◌, refl, ap, ◌∙◌, sym, Bool, Option, arith, length-append}
use Rattle.std.proofs.lemmas.List.{map-append, map-set, length-map, set_past}
use Rattle.std.specs.List.{take-map}
use Rattle.std.proofs.Math.Seq.{take-append_seam, take-suc}
use Rattle.cx_ctree.specs.Decls.{TagTree, tag_tree}
use Rattle.cx_ctree.specs.Types.{TypeTree, type_tree}
use Rattle.cx_ctree.specs.Units.{UnitTree, unit_tree, tags_of}
use Rattle.cx_ctree.specs.declared.ctype.CType.{CType}
use Rattle.cx_ctree.specs.declared.unit.Unit.{Unit}
use Rattle.cx_ctree.specs.declared.decl.Tag.{Tag}
use Rattle.std.specs.Prelude.{slice_set, slice_get, option_map, Some}
use Rattle.std.proofs.lemmas.Option.{slice_get-map}
use Rattle.cx_cname.specs.declared.journal.Change.{Change}
use Rattle.cx_cname.specs.declared.journal.Change.TheVariants as c
use Rattle.cx_cname.specs.Changes.{without_last, undone, before, past, with_parts}
use Rattle.cx_cname.specs.Known.{undeclared_members}

before_also : (cs : List Change) (c : Change) (u : UnitTree) → before (cs ++ c ∷ []) u ≡ before cs (undone c u)
unfolding before
before_also [] c u = refl
before_also (d ∷ cs) c u = ap (undone d) (before_also cs c u)

last_taken : {A : Type 0} (xs : List A) (x : A) → without_last (xs ++ x ∷ []) ≡ xs
last_taken xs x = let e : length (xs ++ x ∷ []) - 1 ≡ length xs = omega (arith, length-append xs (x ∷ [])) in ap (λ n. take n (xs ++ x ∷ [])) e ∙ take-append_seam xs (x ∷ [])

last_mapped : {A B : Type 0} (f : A → B) (xs : List A) (x : A) → without_last (map f (xs ++ x ∷ [])) ≡ map f xs
last_mapped f xs x = ap without_last (map-append f xs (x ∷ [])) ∙ last_taken (map f xs) (f x)

pub past_tag : (cs : List Change) (u w : Unit) (t : Tag) → unit_tree w ≡ record (unit_tree u) { tags = map tag_tree (u.tags ++ t ∷ []) } → past (cs ++ c.Tag ∷ []) w ≡ past cs u
unfolding past
past_tag cs u w t e =
    before_also cs c.Tag (unit_tree w)
    ∙ ap (λ (v : UnitTree). before cs (undone c.Tag v)) e
    ∙ ap (λ (tags : List TagTree). before cs (record (unit_tree u) { tags = tags })) (last_mapped tag_tree u.tags t)

pub past_typedef : (cs ds : List Change) (u w : Unit) (t : ℕ × CType) → ds ≡ cs ++ c.Typedef ∷ [] → unit_tree w ≡ record (unit_tree u) { typedefs = map (λ t. (t.0, type_tree t.1)) (u.typedefs ++ t ∷ []) } → past ds w ≡ past cs u
unfolding past
past_typedef cs ds u w t d e =
    ap (λ (ds : List Change). past ds w) d
    ∙ before_also cs c.Typedef (unit_tree w)
    ∙ ap (λ (v : UnitTree). before cs (undone c.Typedef v)) e
    ∙ ap (λ (ts : List (ℕ × TypeTree)). before cs (record (unit_tree u) { typedefs = ts })) (last_mapped (λ (t : ℕ × CType). (t.0, type_tree t.1)) u.typedefs t)

pub past_constant : (cs ds : List Change) (u w : Unit) (t : ℕ × ℤ) → ds ≡ cs ++ c.Constant ∷ [] → w.consts ≡ u.consts ++ t ∷ [] → record (unit_tree w) { consts = u.consts } ≡ unit_tree u → past ds w ≡ past cs u
unfolding past
past_constant cs ds u w t d e rest =
    ap (λ (ds : List Change). past ds w) d
    ∙ before_also cs c.Constant (unit_tree w)
    ∙ ap (λ (ts : List (ℕ × ℤ)). before cs (record (unit_tree w) { consts = without_last ts })) e
    ∙ ap (λ (ts : List (ℕ × ℤ)). before cs (record (unit_tree w) { consts = ts })) (last_taken u.consts t)
    ∙ ap (before cs) rest

pub past_enumeration : (cs ds : List Change) (u w : Unit) (n : ℕ) → ds ≡ cs ++ c.Enumeration ∷ [] → unit_tree w ≡ record (unit_tree u) { enums = u.enums ++ n ∷ [] } → past ds w ≡ past cs u
unfolding past
past_enumeration cs ds u w n d e =
    ap (λ (ds : List Change). past ds w) d
    ∙ before_also cs c.Enumeration (unit_tree w)
    ∙ ap (λ (v : UnitTree). before cs (undone c.Enumeration v)) e
    ∙ ap (λ (ts : List ℕ). before cs (record (unit_tree u) { enums = ts })) (last_taken u.enums n)

pub typedef_also : (ts : List (ℕ × CType)) (t : ℕ × CType) → map {B = ℕ × TypeTree} (λ t. (t.0, type_tree t.1)) (ts ++ t ∷ []) ≡ map (λ t. (t.0, type_tree t.1)) ts ++ (t.0, type_tree t.1) ∷ []
typedef_also ts t = let f : ℕ × CType → ℕ × TypeTree = λ t. (t.0, type_tree t.1) in map-append f ts (t ∷ [])

last_of_map : {A B : Type 0} (f : A → B) (xs : List A) → map f (without_last xs) ≡ without_last (map f xs)
last_of_map f xs = sym (take-map f (length xs - 1) xs) ∙ ap (λ n. take (n - 1) (map f xs)) (sym (length-map xs f))

module _ (u : UnitTree) (tags : List Tag) (types : List (ℕ × CType)) (consts : List (ℕ × ℤ)) (enums : List ℕ) where
  pub undone_tag : (now : List Tag) → now ≡ without_last tags → with_parts u now types consts enums ≡ undone c.Tag (with_parts u tags types consts enums)
  undone_tag now e = ap (λ (ts : List TagTree). record (with_parts u tags types consts enums) { tags = ts }) (ap (map tag_tree) e ∙ last_of_map tag_tree tags)

  pub undone_typedef : (now : List (ℕ × CType)) → now ≡ without_last types → with_parts u tags now consts enums ≡ undone c.Typedef (with_parts u tags types consts enums)
  undone_typedef now e = ap (λ (ts : List (ℕ × TypeTree)). record (with_parts u tags types consts enums) { typedefs = ts }) (ap (map (λ (t : ℕ × CType). (t.0, type_tree t.1))) e ∙ last_of_map (λ (t : ℕ × CType). (t.0, type_tree t.1)) types)

  pub undone_members : (now : List Tag) (k : ℕ) (t : Tag) → now ≡ slice_set tags k t → tag_tree t ≡ undeclared_members t.name t.union_ → with_parts u now types consts enums ≡ undone (c.Members k t.name t.union_) (with_parts u tags types consts enums)
  undone_members now k t e f = ap (λ (ts : List TagTree). record (with_parts u tags types consts enums) { tags = ts }) (ap (map tag_tree) e ∙ map-set tag_tree tags k t ∙ ap (λ (s : TagTree). slice_set (map tag_tree tags) k s) f)

  pub undone_nowhere : (k : ℕ) (name : Option ℕ) (union : Bool) → length tags ≤ k → with_parts u tags types consts enums ≡ undone (c.Members k name union) (with_parts u tags types consts enums)
  undone_nowhere k name union h =
      let past_end : length (map tag_tree tags) ≤ k = omega (arith, h, length-map tags tag_tree) in
      ap (λ (ts : List TagTree). record (with_parts u tags types consts enums) { tags = ts }) (sym (set_past (map tag_tree tags) k (undeclared_members name union) past_end))

-- without the last of the changes that are left
pub before_less : (cs : List Change) (n : ℕ) (d : Change) (u : UnitTree) → 0 < n → n ≤ length cs → before (take (n - 1) cs) (undone (get_or cs (n - 1) d) u) ≡ before (take n cs) u
before_less cs zero d u h k = absurd (omega arith)
before_less cs (suc n) d u h k =
    let e : suc n - 1 ≡ n = omega arith in
    let lt : n < length cs = omega arith in
    rw e (sym (before_also (take n cs) (get_or cs n d) u) ∙ ap (λ (ds : List Change). before ds u) (sym (take-suc cs n d lt)))

pub before_all : (cs : List Change) (n : ℕ) (u w : UnitTree) → n ≡ 0 → before (take n cs) u ≡ w → u ≡ w
unfolding before
before_all cs n u w e told = ap (λ (k : ℕ). before (take k cs) u) (sym e) ∙ told

pub past_is : (cs : List Change) (u : Unit) → past cs u ≡ before cs (unit_tree u)
unfolding past
past_is cs u = refl

set_same : {A : Type 0} (xs : List A) (k : ℕ) (x y : A) → slice_get xs k ≡ Some y → slice_set (slice_set xs k x) k y ≡ xs
set_same [] k x y h = refl
set_same (z ∷ xs) zero x y h = let e : z ≡ y = cc in ap (λ v. v ∷ xs) (sym e)
set_same (z ∷ xs) (suc k) x y h = ap (λ vs. z ∷ vs) (set_same xs k x y h)

pub past_members : (cs ds : List Change) (u w : Unit) (k : ℕ) (old t : Tag) → ds ≡ cs ++ c.Members k old.name old.union_ ∷ [] → slice_get u.tags k ≡ Some old → tag_tree old ≡ undeclared_members old.name old.union_
    → w.tags ≡ slice_set u.tags k t → record (unit_tree w) { tags = tags_of u } ≡ unit_tree u → past ds w ≡ past cs u
unfolding past
past_members cs ds u w k old t d got is e rest =
    let o : TagTree = undeclared_members old.name old.union_ in
    let found : slice_get (tags_of u) k ≡ Some o = slice_get-map tag_tree u.tags k ∙ ap (option_map tag_tree) got ∙ ap Some is in
    let tags : tags_of w ≡ slice_set (tags_of u) k (tag_tree t) = ap (map tag_tree) e ∙ map-set tag_tree u.tags k t in
    ap (λ (ds : List Change). past ds w) d
    ∙ before_also cs (c.Members k old.name old.union_) (unit_tree w)
    ∙ ap (λ (tags : List TagTree). before cs (record (unit_tree w) { tags = slice_set tags k o })) tags
    ∙ ap (λ (tags : List TagTree). before cs (record (unit_tree w) { tags = tags })) (set_same (tags_of u) k (tag_tree t) o found)
    ∙ ap (before cs) rest
