use Rattle.std.proofs.Common.{rules, ◌≡◌, None}
use Rattle.cx_term.proofs.SumParts.{konst_none}
use Rattle.cx_term.proofs.term.Term.sum_of.Goals as goal

pub returns-in_err-konst : goal.returns-in_err-konst
returns-in_err-konst c =
    let e : c.total.result ≡ None = search rules in
    let k = rw e at c.total.ensures in
    let r : c.from_residual.result ≡ None = search rules in
    record { exact = rw r (konst_none c.args.parts.now k) }
