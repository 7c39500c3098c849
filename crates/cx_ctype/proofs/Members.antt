-- The members of a tag in the list of tags as the code holds it.
use Rattle.std.proofs.Common.{◌≡◌, ℕ, zero, suc, List, [], ◌∷◌, map, refl}
use Rattle.std.specs.Prelude.{option_map, slice_get}
use Rattle.std.specs.Option.{option_and_then}
use Rattle.cx_ctree.specs.Decls.{tag_tree, member_tree}
use Rattle.cx_ctree.specs.declared.decl.Tag.{Tag}

pub members_at : (tags : List Tag) (k : ℕ) → option_and_then (λ t. t.members) (slice_get (map tag_tree tags) k) ≡ option_and_then (λ t. option_map (map member_tree) t.members) (slice_get tags k)
members_at [] k = refl
members_at (t ∷ tags) zero = refl
members_at (t ∷ tags) (suc k) = members_at tags k
