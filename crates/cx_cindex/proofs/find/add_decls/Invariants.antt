use Rattle.std.proofs.Common.{◌≡◌, map, drop}
use Rattle.cx_ctree.specs.Decls.{decl_tree}
use Rattle.cx_cindex.specs.Sets.{with_numbers}
use Rattle.cx_cindex.specs.UnitNames.{functions_of, objects_of}
use Rattle.cx_cindex.proofs.find.add_decls.Given as goal

abbrev pub invariant-loop-decl : goal.invariant-loop-decl
invariant-loop-decl l = record {
  functions : with_numbers l.functions (functions_of (map decl_tree (drop l.decl-index l.decls))) ≡ with_numbers l.fn.functions (functions_of (map decl_tree l.decls));
  objects : with_numbers l.objects (objects_of (map decl_tree (drop l.decl-index l.decls))) ≡ with_numbers l.fn.objects (objects_of (map decl_tree l.decls));
}
