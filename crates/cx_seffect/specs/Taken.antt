-- Calls and values that are taken as the code holds them.
use Rattle.cx_ctree.specs.Types.{type_tree}
use Rattle.cx_ctree.specs.Exprs.{call_tree, rhs_tree}
use Rattle.cx_seffect.specs.Calls as spec
use Rattle.cx_seffect.specs.declared.call.TypedCall as c
use Rattle.cx_seffect.specs.declared.taken.Taken as t

abbrev pub call_view : c.TypedCall → spec.TypedCall
call_view d = record { tree = call_tree d.call; ctype = type_tree d.ctype.now }

abbrev pub taken_view : t.Taken → spec.Taken
taken_view v = record { tree = rhs_tree v.tree; ctype = type_tree v.ctype; zero = v.zero; span = v.span }
