-- What is made of a part that has been judged, as the code holds it.
use Rattle.std.specs.Prelude.{◌≡◌, map, option_map, Result, Ok, Err}
use Rattle.cx_ctree.specs.Exprs.{expr_tree, effect_tree}
use Rattle.cx_ctree.specs.Stmts.{stmt_trees}
use Rattle.cx_snode.specs.declared.fault.SemaFault.{SemaFault}
use Rattle.cx_snode.specs.declared.fault.SemaFault.TheVariants as f
use Rattle.cx_sstmt.specs.Stmts.{ForHead}
use Rattle.cx_sstmt.specs.declared.join.Head as d

-- the answer is what is made of the part, or its fault, unless memory ran out
abbrev pub Makes : {A B C D : Type 0} → (A → C) → (B → D) → (C → D) → Result A SemaFault → Result B SemaFault → Type 0
Makes view look make (Ok x) (Ok y) = look y ≡ make (view x)
Makes view look make (Ok x) (Err e) = e ≡ f.NoMemory
Makes view look make (Err e) (Ok y) = ⊥
Makes view look make (Err e) (Err d) = d ≡ e

abbrev pub head_view : d.Head → ForHead
head_view x = record { init = stmt_trees x.init; c = option_map expr_tree x.c; steps = map effect_tree x.steps }
