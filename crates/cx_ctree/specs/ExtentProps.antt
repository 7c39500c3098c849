-- What is said of the extents of tags has at most one proof.
use Rattle.std.specs.Prelude.{ℕ, List, Result, Ok, Err}
use Rattle.std.proofs.Props.{props}
use Rattle.cx_ctree.specs.Layouts.{Shape}
use Rattle.cx_ctree.specs.Extents.{IsExtent, AreMeasured}
use Rattle.cx_ctree.specs.declared.extent.Extent as code
use Rattle.cx_ctree.specs.declared.decl.Tag.{Tag}

IsExtent-prop : (s : Shape) (r : Result code.Extent ℕ) → IsProp (IsExtent s r)
IsExtent-prop s (Ok e) = hlevel props
IsExtent-prop s (Err k) = hlevel props

pub AreMeasured-prop : (tags : List Tag) → IsProp (AreMeasured tags)
AreMeasured-prop tags = hlevel (props, IsExtent-prop)
