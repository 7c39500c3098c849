use Rattle.std.proofs.Common.{◌≡◌, length, map}
use Rattle.std.specs.List.{list_all}
use Rattle.cx_ctree.specs.Decls.{decl_tree}
use Rattle.cx_cdecl.specs.Declarations.{is_function}
use Rattle.cx_cdecl.proofs.declaration.are_functions.Given as goal

abbrev pub decreases-loop-rest : goal.decreases-loop-rest
decreases-loop-rest l = length l.rest

abbrev pub invariant-loop-rest : goal.invariant-loop-rest
invariant-loop-rest l = list_all is_function (map decl_tree l.rest) ≡ list_all is_function (map decl_tree l.decls)
