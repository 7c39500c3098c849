-- The extents that a unit keeps of its tags.
use Rattle.std.proofs.Common.{◌≡◌, ℕ, List, Option, Some, None, Ok, ap, sym, refl, slice_get, subst, map, option_map, ◌∙◌}
use Rattle.std.specs.Option.{option_map_or}
use Rattle.std.proofs.lemmas.Option.{slice_get-map}
use Rattle.cx_ctree.specs.Types.{tag}
use Rattle.cx_ctree.specs.Decls.{TagTree, tag_tree}
use Rattle.cx_ctree.specs.Tags.{rank_of}
use Rattle.cx_ctree.specs.Layouts.{tag_shape, shape_of, undeclared}
use Rattle.cx_ctree.specs.Extents.{IsExtent, AreMeasured}
use Rattle.cx_ctree.specs.declared.extent.Extent as code
use Rattle.cx_ctree.specs.declared.decl.Tag.{Tag}

pub tag_measured : (tags : List Tag) → AreMeasured tags → (k : ℕ) (t : Tag) → Some t ≡ slice_get tags k → IsExtent (shape_of (map tag_tree tags) (tag k)) t.extent
tag_measured tags h k t e = h k t (sym e)

-- where no tag is, nothing is measured
pub no_tag_measured : (tags : List Tag) (k : ℕ) (e : code.Extent) → None ≡ slice_get tags k → e.size ≡ 0 → e.align ≡ 1 → IsExtent (shape_of (map tag_tree tags) (tag k)) (Ok e)
no_tag_measured tags k e none size align =
    let rank : rank_of (map tag_tree tags) k ≡ 0 = ap (λ (o : Option TagTree). option_map_or (λ t. t.rank) o 0) (slice_get-map tag_tree tags k ∙ ap (option_map tag_tree) (sym none)) in
    let shape : shape_of (map tag_tree tags) (tag k) ≡ undeclared k = ap (λ n. tag_shape (map tag_tree tags) n k) rank in
    subst (λ s. IsExtent s (Ok e)) (sym shape) (refl, rw (size, align) refl)
