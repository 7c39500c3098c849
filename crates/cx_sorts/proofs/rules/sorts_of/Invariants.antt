use Rattle.std.proofs.Common.{◌≡◌, map, take}
use Rattle.cx_sorts.specs.Rules.{sort_of}
use Rattle.cx_sorts.proofs.rules.sorts_of.Given as goal

abbrev pub invariant-loop-holds : goal.invariant-loop-holds
invariant-loop-holds l = l.sorts ≡ map (sort_of l.types) (take l.holds-index l.holds-items)
