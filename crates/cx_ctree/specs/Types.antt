-- The types of C as plain data.
use Rattle.std.specs.Prelude.{ℕ}
use Rattle.cx_base.specs.declared.number.CInt.{CInt}
use Rattle.cx_ctree.specs.declared.ctype.CType.{CType, fold-CType}
use Rattle.cx_ctree.specs.declared.ctype.CType.TheOpen.{CType-F}

pub data TypeTree : Type 0 where
  void : TypeTree
  int : CInt → TypeTree
  pointer : TypeTree → TypeTree
  array : TypeTree → (count : ℕ) → TypeTree
  tag : ℕ → TypeTree

abbrev pub type_step : CType-F TypeTree → TypeTree
type_step CType-F.Void = void
type_step (CType-F.Int t) = int t
type_step (CType-F.Ptr t) = pointer t.value
type_step (CType-F.Array t n) = array t.value n
type_step (CType-F.Tag n) = tag n

-- the type
abbrev pub type_tree : CType → TypeTree
type_tree = fold-CType TypeTree type_step
