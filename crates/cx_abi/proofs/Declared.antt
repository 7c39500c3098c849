-- What the definitions say of a tag that the unit declares with members.
use Rattle.std.proofs.Common.{◌≡◌, ℕ, List, Some, None, ap, map, slice_get, option_map, ◌∙◌}
use Rattle.std.proofs.lemmas.Option.{slice_get-map}
use Rattle.cx_ctree.specs.declared.decl.Tag.{Tag}
use Rattle.cx_ctree.specs.declared.decl.Member.{Member}
use Rattle.cx_ctree.specs.Types.{tag}
use Rattle.cx_ctree.specs.Decls.{tag_tree, member_tree}
use Rattle.cx_ctree.specs.Tags.{AreRanked}
use Rattle.cx_ctree.specs.Layouts.{shape_of, shapes_of, declared, first_incomplete_in, fields_of, fields_from, members_by, members_fields, tag_fields}
use Rattle.cx_abi.proofs.Complete.{complete, declared_shape}

pub found_tree : (tags : List Tag) (k : ℕ) (t : Tag) → slice_get tags k ≡ Some t → slice_get (map tag_tree tags) k ≡ Some (tag_tree t)
found_tree tags k t e = slice_get-map tag_tree tags k ∙ ap (option_map tag_tree) e

pub members_trees : (t : Tag) (ms : List Member) → t.members ≡ Some ms → (tag_tree t).members ≡ Some (map member_tree ms)
members_trees t ms e = ap (option_map (map member_tree)) e

pub declared_at : (tags : List Tag) → AreRanked (map tag_tree tags) → (k : ℕ) (t : Tag) (ms : List Member) → slice_get tags k ≡ Some t → t.members ≡ Some ms
    → shape_of (map tag_tree tags) (tag k) ≡ declared k t.union_ (shapes_of (map tag_tree tags) (map member_tree ms))
declared_at tags a k t ms e f =
    declared_shape (map tag_tree tags) a k (tag_tree t) (found_tree tags k t e)
    ∙ ap (members_by (λ j. shape_of (map tag_tree tags) (tag j)) k t.union_) (members_trees t ms f)

pub complete_at : (tags : List Tag) → AreRanked (map tag_tree tags) → (k : ℕ) (t : Tag) (ms : List Member) → slice_get tags k ≡ Some t → t.members ≡ Some ms
    → first_incomplete_in (shapes_of (map tag_tree tags) (map member_tree ms)) ≡ None
complete_at tags a k t ms e f = complete (map tag_tree tags) a k (tag_tree t) (map member_tree ms) (found_tree tags k t e) (members_trees t ms f)

pub fields_at : (tags : List Tag) (k : ℕ) (t : Tag) (ms : List Member) → slice_get tags k ≡ Some t → t.members ≡ Some ms
    → fields_of (map tag_tree tags) (tag k) ≡ fields_from (map tag_tree tags) t.union_ 0 (map member_tree ms)
fields_at tags k t ms e f =
    ap (tag_fields (map tag_tree tags)) (found_tree tags k t e)
    ∙ ap (members_fields (map tag_tree tags) t.union_) (members_trees t ms f)
