use Rattle.std.proofs.Common.{◌≡◌, map, drop}
use Rattle.cx_ctree.specs.Types.{type_tree}
use Rattle.cx_ctree.specs.Decls.{signature_tree, decl_tree}
use Rattle.cx_ctable.specs.Firsts.{with_firsts}
use Rattle.cx_ctable.specs.Tables.{functions_of, objects_of}
use Rattle.cx_ctable.proofs.fill.add_decls.Given as goal

abbrev pub invariant-loop-decl : goal.invariant-loop-decl
invariant-loop-decl l = record {
  functions : with_firsts (map (λ e. (e.0, signature_tree e.1.now)) l.functions.entries) (functions_of (map decl_tree (drop l.decl-index l.decls))) ≡ with_firsts (map (λ e. (e.0, signature_tree e.1.now)) l.fn.functions.entries) (functions_of (map decl_tree l.decls));
  objects : with_firsts (map (λ e. (e.0, type_tree e.1.now)) l.objects.entries) (objects_of (map decl_tree (drop l.decl-index l.decls))) ≡ with_firsts (map (λ e. (e.0, type_tree e.1.now)) l.fn.objects.entries) (objects_of (map decl_tree l.decls));
}
