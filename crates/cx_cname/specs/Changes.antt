-- Changes of what a unit declares, and what it declared before them.
use Rattle.std.specs.Prelude.{◌≡◌, ◌⊎◌, ℕ, ℤ, ◌-◌, List, [], ◌∷◌, Some, map, length, take, slice_get, slice_set}
use Rattle.cx_ctree.specs.Types.{type_tree}
use Rattle.cx_ctree.specs.Decls.{tag_tree}
use Rattle.cx_ctree.specs.declared.ctype.CType.{CType}
use Rattle.cx_ctree.specs.declared.decl.Tag.{Tag}
use Rattle.cx_ctree.specs.Layouts.{undeclared}
use Rattle.cx_ctree.specs.Extents.{IsExtent}
use Rattle.cx_ctree.specs.Units.{UnitTree, unit_tree}
use Rattle.cx_ctree.specs.declared.unit.Unit.{Unit}
use Rattle.cx_cname.specs.declared.journal.Change.{Change}
use Rattle.cx_cname.specs.declared.journal.Change.TheVariants as c
use Rattle.cx_cname.specs.Known.{undeclared_members}

-- a list before its last item was added
abbrev pub without_last : {A : Type 0} → List A → List A
without_last xs = take (length xs - 1) xs

-- the unit before one change
abbrev pub undone : Change → UnitTree → UnitTree
undone c.Tag u = record u { tags = without_last u.tags }
undone (c.Members k name union) u = record u { tags = slice_set u.tags k (undeclared_members name union) }
undone c.Typedef u = record u { typedefs = without_last u.typedefs }
undone c.Constant u = record u { consts = without_last u.consts }
undone c.Enumeration u = record u { enums = without_last u.enums }

-- the unit before the changes, which are in order
unfoldable pub before : List Change → UnitTree → UnitTree
before [] u = u
before (c ∷ cs) u = undone c (before cs u)

-- the unit as it was before the changes
unfoldable pub past : List Change → Unit → UnitTree
past cs u = before cs (unit_tree u)

-- the unit with these declarations
abbrev pub with_parts : UnitTree → List Tag → List (ℕ × CType) → List (ℕ × ℤ) → List ℕ → UnitTree
with_parts u tags typedefs consts enums = record u { tags = map tag_tree tags; typedefs = map (λ t. (t.0, type_tree t.1)) typedefs; consts = consts; enums = enums }

-- the names, the items, the tokens and the named functions are the same
pub record SameFile (old new : Unit) : Type 0 where
  pub names : new.names ≡ old.names
  pub items : new.items ≡ old.items
  pub tokens : new.tokens ≡ old.tokens
  pub named : new.named ≡ old.named

-- a tag without members, which has the extent of nothing
pub record HasNothing (t : Tag) : Type 0 where
  pub rank : t.rank ≡ 0
  pub extent : (k : ℕ) → IsExtent (undeclared k) t.extent

-- each tag that is left stood at its place, or has no members
abbrev pub Remains : List Tag → List Tag → Type 0
Remains left tags = (k : ℕ) (t : Tag) → slice_get left k ≡ Some t → (slice_get tags k ≡ Some t) ⊎ HasNothing t
