use Rattle.std.proofs.Common.{◌≡◌, map, drop}
use Rattle.cx_ctree.specs.Types.{type_tree}
use Rattle.cx_ctable.specs.Firsts.{with_firsts}
use Rattle.cx_sfile.specs.Entries.{seen_meanings, of_typedefs}
use Rattle.cx_sfile.proofs.fill.add_typedefs.Given as goal

abbrev pub invariant-loop-t : goal.invariant-loop-t
invariant-loop-t l =
    with_firsts (seen_meanings l.meanings.entries) (of_typedefs (map (λ t. (t.0, type_tree t.1)) (drop l.t-index l.typedefs))) ≡ with_firsts (seen_meanings l.fn.meanings.entries) (of_typedefs (map (λ t. (t.0, type_tree t.1)) l.typedefs))
