-- Lines that are made from parts of a tree.
use Rattle.std.specs.Prelude.{ℕ, ◌+◌, List, [], ◌∷◌, Option}
use Rattle.cx_ctree.specs.Exprs.{ExprTree, CallTree}
use Rattle.cx_ctree.specs.Types.{TypeTree}
use Rattle.cx_goto.specs.Trees.{call}
use Rattle.cx_lcode.specs.Items.{Item, does}

-- as many locals as there are expressions, from the local t on
abbrev pub locals_for : List ExprTree → (t : ℕ) → List ℕ
locals_for [] t = []
locals_for (e ∷ es) t = t ∷ locals_for es (t + 1)

-- the call, whose arguments stand in the locals from L on; what it gives goes to L
abbrev pub calls : CallTree → Option TypeTree → (L : ℕ) → Item
calls c pointee L = does c.span (call L c.name (locals_for c.args L) pointee)
