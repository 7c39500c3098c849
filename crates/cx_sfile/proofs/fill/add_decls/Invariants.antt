use Rattle.std.proofs.Common.{◌≡◌, map, drop}
use Rattle.cx_ctree.specs.Decls.{decl_tree}
use Rattle.cx_ctable.specs.Firsts.{with_firsts}
use Rattle.cx_sfile.specs.Entries.{seen_meanings, of_decls}
use Rattle.cx_sfile.proofs.fill.add_decls.Given as goal

abbrev pub invariant-loop-decl : goal.invariant-loop-decl
invariant-loop-decl l =
    with_firsts (seen_meanings l.meanings.entries) (of_decls (map decl_tree (drop l.decl-index l.decls))) ≡ with_firsts (seen_meanings l.fn.meanings.entries) (of_decls (map decl_tree l.decls))
