use Rattle.std.proofs.Common.{◌≡◌, suc, map}
use Rattle.cx_reader.specs.Answers.{many_at, behind_at, listed_at}
use Rattle.cx_reader.proofs.items.listed.Given as goal

abbrev pub invariant-each : goal.invariant-each
invariant-each g l = many_at g.I.Items.between (behind_at (g.I.Items.item_at l.items)) (suc l.more) (map g.I.Items.tree l.tree) l.rest ≡ listed_at g.I.Items.between (g.I.Items.item_at l.fn.items) l.fn.lexemes

abbrev pub decreases-each : goal.decreases-each
decreases-each g l = l.more
