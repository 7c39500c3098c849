-- Lists in which each number stands once, made from one list after another.
use Rattle.std.proofs.Common.{◌≡◌, ◌∙◌, ◌<◌, ◌+◌, ℕ, suc, Bool, List, [], ◌∷◌, ◌++◌, map, drop, get_or, length, refl, ap, sym, add-one}
use Rattle.std.proofs.Math.Seq.{drop-cons}
use Rattle.std.specs.List.{flat_map}
use Rattle.std.proofs.lemmas.List.Concat.{flat_map-append}
use Rattle.cx_ctree.specs.Decls.{DeclTree, ItemTree, known, passed, item_tree, tag_tree}
use Rattle.cx_ctree.specs.declared.decl.Item.{Item}
use Rattle.cx_ctree.specs.declared.decl.Tag.{Tag}
use Rattle.cx_cname.specs.Known.{declared_by}
use Rattle.cx_cindex.specs.Sets.{with_number, with_numbers, with_field, with_fields}
use Rattle.cx_cindex.specs.UnitNames.{function_of, functions_of, object_of, objects_of, decls_of, tag_of, tags_of, fields_of, all_fields_of}
use Rattle.cx_cindex.specs.declared.sets.FieldName.{FieldName}

pub numbers_append : (seen a b : List ℕ) → with_numbers seen (a ++ b) ≡ with_numbers (with_numbers seen a) b
numbers_append seen [] b = refl
numbers_append seen (n ∷ a) b = numbers_append (with_number seen n) a b

pub fields_append : (seen a b : List FieldName) → with_fields seen (a ++ b) ≡ with_fields (with_fields seen a) b
fields_append seen [] b = refl
fields_append seen (f ∷ a) b = fields_append (with_field seen f) a b

declared_first : (i : ItemTree) (is : List ItemTree) → declared_by (i ∷ is) ≡ decls_of i ++ declared_by is
declared_first (known ds) is = refl
declared_first (passed s) is = refl

pub functions_after : (seen : List ℕ) (i : ItemTree) (is : List ItemTree)
    → with_numbers seen (functions_of (declared_by (i ∷ is))) ≡ with_numbers (with_numbers seen (functions_of (decls_of i))) (functions_of (declared_by is))
functions_after seen i is =
    ap (λ ds. with_numbers seen (functions_of ds)) (declared_first i is)
    ∙ ap (with_numbers seen) (flat_map-append function_of (decls_of i) (declared_by is))
    ∙ numbers_append seen (functions_of (decls_of i)) (functions_of (declared_by is))

pub objects_after : (seen : List ℕ) (i : ItemTree) (is : List ItemTree)
    → with_numbers seen (objects_of (declared_by (i ∷ is))) ≡ with_numbers (with_numbers seen (objects_of (decls_of i))) (objects_of (declared_by is))
objects_after seen i is =
    ap (λ ds. with_numbers seen (objects_of ds)) (declared_first i is)
    ∙ ap (with_numbers seen) (flat_map-append object_of (decls_of i) (declared_by is))
    ∙ numbers_append seen (objects_of (decls_of i)) (objects_of (declared_by is))

-- the first of the items that are left, and those after it
next_item : (items : List Item) (n : ℕ) (item : Item) → n < length items → item ≡ get_or items n item
    → map item_tree (drop n items) ≡ item_tree item ∷ map item_tree (drop (n + 1) items)
next_item items n item below is = ap (map item_tree) (drop-cons items n item below ∙ ap (λ x. x ∷ drop (suc n) items) (sym is)) ∙ rw add-one refl

pub functions_step : (seen new done : List ℕ) (items : List Item) (n : ℕ) (item : Item) → n < length items → item ≡ get_or items n item
    → new ≡ with_numbers seen (functions_of (decls_of (item_tree item)))
    → with_numbers seen (functions_of (declared_by (map item_tree (drop n items)))) ≡ done
    → with_numbers new (functions_of (declared_by (map item_tree (drop (n + 1) items)))) ≡ done
functions_step seen new done items n item below is e told =
    ap (λ ns. with_numbers ns (functions_of (declared_by (map item_tree (drop (n + 1) items))))) e
    ∙ sym (functions_after seen (item_tree item) (map item_tree (drop (n + 1) items)))
    ∙ ap (λ is. with_numbers seen (functions_of (declared_by is))) (sym (next_item items n item below is))
    ∙ told

pub objects_step : (seen new done : List ℕ) (items : List Item) (n : ℕ) (item : Item) → n < length items → item ≡ get_or items n item
    → new ≡ with_numbers seen (objects_of (decls_of (item_tree item)))
    → with_numbers seen (objects_of (declared_by (map item_tree (drop n items)))) ≡ done
    → with_numbers new (objects_of (declared_by (map item_tree (drop (n + 1) items)))) ≡ done
objects_step seen new done items n item below is e told =
    ap (λ ns. with_numbers ns (objects_of (declared_by (map item_tree (drop (n + 1) items))))) e
    ∙ sym (objects_after seen (item_tree item) (map item_tree (drop (n + 1) items)))
    ∙ ap (λ is. with_numbers seen (objects_of (declared_by is))) (sym (next_item items n item below is))
    ∙ told

-- the first of the tags that are left, and those after it
next_tag : (tags : List Tag) (n : ℕ) (t : Tag) → n < length tags → t ≡ get_or tags n t
    → map tag_tree (drop n tags) ≡ tag_tree t ∷ map tag_tree (drop (n + 1) tags)
next_tag tags n t below is = ap (map tag_tree) (drop-cons tags n t below ∙ ap (λ x. x ∷ drop (suc n) tags) (sym is)) ∙ rw add-one refl

pub tags_step : (u : Bool) (seen new done : List ℕ) (tags : List Tag) (n : ℕ) (t : Tag) → n < length tags → t ≡ get_or tags n t
    → new ≡ with_numbers seen (tag_of u (tag_tree t))
    → with_numbers seen (tags_of u (map tag_tree (drop n tags))) ≡ done
    → with_numbers new (tags_of u (map tag_tree (drop (n + 1) tags))) ≡ done
tags_step u seen new done tags n t below is e told =
    ap (λ ns. with_numbers ns (tags_of u (map tag_tree (drop (n + 1) tags)))) e
    ∙ sym (numbers_append seen (tag_of u (tag_tree t)) (tags_of u (map tag_tree (drop (n + 1) tags))))
    ∙ ap (λ ts. with_numbers seen (tags_of u ts)) (sym (next_tag tags n t below is))
    ∙ told

pub fields_step : (u : Bool) (seen new done : List FieldName) (tags : List Tag) (n : ℕ) (t : Tag) → n < length tags → t ≡ get_or tags n t
    → new ≡ with_fields seen (fields_of u (tag_tree t))
    → with_fields seen (all_fields_of u (map tag_tree (drop n tags))) ≡ done
    → with_fields new (all_fields_of u (map tag_tree (drop (n + 1) tags))) ≡ done
fields_step u seen new done tags n t below is e told =
    ap (λ fs. with_fields fs (all_fields_of u (map tag_tree (drop (n + 1) tags)))) e
    ∙ sym (fields_append seen (fields_of u (tag_tree t)) (all_fields_of u (map tag_tree (drop (n + 1) tags))))
    ∙ ap (λ ts. with_fields seen (all_fields_of u ts)) (sym (next_tag tags n t below is))
    ∙ told
