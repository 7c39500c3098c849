-- The types of parameters.
use Rattle.std.specs.Borrow.{Bor}
use Rattle.std.specs.Prelude.{List, [], map, Option, Some, None}
use Rattle.cx_ctree.specs.Decls.{param_tree}
use Rattle.cx_ctree.specs.Types.{TypeTree}
use Rattle.cx_ctree.specs.declared.decl.Param.{Param}

abbrev pub params_tree : Option (Bor (List Param)) → List TypeTree
params_tree None = []
params_tree (Some ps) = map (λ p. p.ctype) (map param_tree ps.now)
