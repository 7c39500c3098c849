-- Entries that are added item by item and tag by tag.
use Rattle.std.proofs.Common.{◌≡◌, ◌∙◌, ◌<◌, ◌+◌, ℕ, suc, Bool, List, ◌∷◌, ◌++◌, map, drop, get_or, length, refl, ap, sym, add-one}
use Rattle.std.proofs.Math.Seq.{drop-cons}
use Rattle.std.specs.List.{flat_map}
use Rattle.std.proofs.lemmas.List.Concat.{flat_map-append}
use Rattle.cx_ctree.specs.Decls.{DeclTree, ItemTree, known, passed, item_tree, tag_tree}
use Rattle.cx_ctree.specs.declared.decl.Item.{Item}
use Rattle.cx_ctree.specs.declared.decl.Tag.{Tag}
use Rattle.cx_cname.specs.Known.{declared_by}
use Rattle.cx_cindex.specs.UnitNames.{decls_of}
use Rattle.cx_ctable.specs.Firsts.{with_firsts}
use Rattle.cx_ctable.specs.Tables.{tag_at, tags_from}
use Rattle.cx_ctable.proofs.Adding.{firsts_append}

declared_first : (i : ItemTree) (is : List ItemTree) → declared_by (i ∷ is) ≡ decls_of i ++ declared_by is
declared_first (known ds) is = refl
declared_first (passed s) is = refl

declared_after : {V : Type 0} (f : DeclTree → List (ℕ × V)) (es : List (ℕ × V)) (i : ItemTree) (is : List ItemTree)
    → with_firsts es (flat_map f (declared_by (i ∷ is))) ≡ with_firsts (with_firsts es (flat_map f (decls_of i))) (flat_map f (declared_by is))
declared_after f es i is =
    ap (λ ds. with_firsts es (flat_map f ds)) (declared_first i is)
    ∙ ap (with_firsts es) (flat_map-append f (decls_of i) (declared_by is))
    ∙ firsts_append es (flat_map f (decls_of i)) (flat_map f (declared_by is))

-- the first of the items that are left, and those after it
next_item : (items : List Item) (n : ℕ) (item : Item) → n < length items → item ≡ get_or items n item
    → map item_tree (drop n items) ≡ item_tree item ∷ map item_tree (drop (n + 1) items)
next_item items n item below is = ap (map item_tree) (drop-cons items n item below ∙ ap (λ x. x ∷ drop (suc n) items) (sym is)) ∙ rw add-one refl

pub items_step : {V : Type 0} (f : DeclTree → List (ℕ × V)) (es new done : List (ℕ × V)) (items : List Item) (n : ℕ) (item : Item) → n < length items → item ≡ get_or items n item
    → new ≡ with_firsts es (flat_map f (decls_of (item_tree item)))
    → with_firsts es (flat_map f (declared_by (map item_tree (drop n items)))) ≡ done
    → with_firsts new (flat_map f (declared_by (map item_tree (drop (n + 1) items)))) ≡ done
items_step f es new done items n item below is e told =
    ap (λ ns. with_firsts ns (flat_map f (declared_by (map item_tree (drop (n + 1) items))))) e
    ∙ sym (declared_after f es (item_tree item) (map item_tree (drop (n + 1) items)))
    ∙ ap (λ is. with_firsts es (flat_map f (declared_by is))) (sym (next_item items n item below is))
    ∙ told

-- the first of the tags that are left, and those after it
next_tag : (tags : List Tag) (n : ℕ) (t : Tag) → n < length tags → t ≡ get_or tags n t
    → map tag_tree (drop n tags) ≡ tag_tree t ∷ map tag_tree (drop (n + 1) tags)
next_tag tags n t below is = ap (map tag_tree) (drop-cons tags n t below ∙ ap (λ x. x ∷ drop (suc n) tags) (sym is)) ∙ rw add-one refl

pub tags_step : (u : Bool) (es new done : List (ℕ × ℕ)) (tags : List Tag) (n : ℕ) (t : Tag) → n < length tags → t ≡ get_or tags n t
    → new ≡ with_firsts es (tag_at u n (tag_tree t))
    → with_firsts es (tags_from u n (map tag_tree (drop n tags))) ≡ done
    → with_firsts new (tags_from u (n + 1) (map tag_tree (drop (n + 1) tags))) ≡ done
tags_step u es new done tags n t below is e told =
    ap (λ ns. with_firsts ns (tags_from u (n + 1) (map tag_tree (drop (n + 1) tags)))) e
    ∙ sym (firsts_append es (tag_at u n (tag_tree t)) (tags_from u (n + 1) (map tag_tree (drop (n + 1) tags))))
    ∙ rw (add-one) refl
    ∙ ap (λ ts. with_firsts es (tags_from u n ts)) (sym (next_tag tags n t below is))
    ∙ told
