-- What a tag consists of, by what the types of its members consist of.
use Rattle.std.specs.Prelude.{ℕ, List, ◌≡◌, slice_get}
use Rattle.cx_ctree.specs.Types.{tag}
use Rattle.cx_ctree.specs.Decls.{TagTree}
use Rattle.cx_ctree.specs.Layouts.{shape_of, found_by}

-- the definition of what a tag consists of holds to every depth
abbrev pub IsByMembers : List TagTree → Type 0
IsByMembers tags = (k : ℕ) → shape_of tags (tag k) ≡ found_by (λ j. shape_of tags (tag j)) k (slice_get tags k)
