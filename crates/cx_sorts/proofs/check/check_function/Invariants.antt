use Rattle.std.proofs.Common.{◌≡◌, drop}
use Rattle.cx_sorts.specs.Rules.{judge, verdict_of}
use Rattle.cx_sorts.proofs.Verdicts.{after}
use Rattle.cx_sorts.proofs.check.check_function.Given as goal

abbrev pub invariant-loop-statement : goal.invariant-loop-statement
invariant-loop-statement l =
    after l.accesses (judge l.c l.types l.function l.declared (drop l.statement-index l.statement-items) l.sorts)
    ≡ verdict_of l.c l.types l.function l.declared
