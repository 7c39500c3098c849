use Rattle.std.proofs.Common.{◌≡◌, arith}
use Rattle.std.proofs.lemmas.Grind.{common_steps}
use Rattle.cx_sorts.specs.declared.verdict.Verdict.{Verdict}
use Rattle.cx_sorts.specs.Rules.{verdict_of}
use Rattle.cx_sorts.proofs.Safety.{verdict_is_safe}
use Rattle.cx_sorts.proofs.check.check_function.Goals as goal

pub returns-clause-safe : goal.returns-clause-safe
returns-clause-safe c =
    let v : Verdict = record { accesses = c.loop-statement.accesses; alarm = c.return_alarm-alarm.result } in
    let is : v ≡ verdict_of c.args.c.now c.args.types.now c.args.function.now c.args.declared.now = grind (arith, common_steps) in
    verdict_is_safe c.args.c.now c.args.types.now c.args.function.now c.args.declared.now v is
