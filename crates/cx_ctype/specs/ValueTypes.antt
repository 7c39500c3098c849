-- The types of values as the code holds them.
use Rattle.cx_ctree.specs.Types.{TypeTree, void, int, pointer, tag, type_tree}
use Rattle.cx_ctype.specs.declared.value.ValueType.{ValueType}
use Rattle.cx_ctype.specs.declared.value.ValueType.TheVariants as v

abbrev pub value_tree : ValueType → TypeTree
value_tree v.Void = void
value_tree (v.Int t) = int t
value_tree (v.Ptr t) = pointer (type_tree t.now)
value_tree (v.Tag k) = tag k
