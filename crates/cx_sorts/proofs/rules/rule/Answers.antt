use Rattle.std.proofs.Common.{arith}
use Rattle.std.proofs.lemmas.Grind.{common_steps}
use Rattle.cx_sorts.proofs.rules.rule.Goals as goal

pub returns-then-not-may_store : goal.returns-then-not-may_store
returns-then-not-may_store c = grind (arith, common_steps, c.known_target-in-Store.ensures, c.held_at-in-Store.ensures, c.in-Store.is)

pub returns-else-not-may_store : goal.returns-else-not-may_store
returns-else-not-may_store c = grind (arith, common_steps, c.known_target-in-Store.ensures, c.held_at-in-Store.ensures, c.in-Store.is)
