use Rattle.std.proofs.Common.{eqb}
use Rattle.std.specs.Prelude.{IsTrue}
use Rattle.std.specs.HashSet.{contains}
use Rattle.cx_cells.proofs.Differing.{none_of}
use Rattle.cx_cells.proofs.kept.numbers.are_none_of.Goals as goal

pub returns : goal.returns
returns c =
    let p = none_of (λ q. IsTrue (contains eqb c.in_ok-set.set q)) c.args.others.now c.args.numbers.now c.in_ok-set.ensures in
    ((λ h. p.0 (c.are_outside.ensures.0 h)), (λ h. c.are_outside.ensures.1 (p.1 h)))
