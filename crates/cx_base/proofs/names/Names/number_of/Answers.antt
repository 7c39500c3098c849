use Rattle.std.proofs.Common.{◌≡◌, position, Some, arith}
use Rattle.std.specs.Str.{bytes_eq}
use Rattle.std.proofs.lemmas.Grind.{common_steps}
use Rattle.cx_base.proofs.Texts.{position_map, number_found, number_absent}
use Rattle.cx_base.proofs.names.Names.number_of.Goals as goal

pub returns-in_err-n-clause-absent : goal.returns-in_err-n-clause-absent
returns-in_err-n-clause-absent c =
    let e : c.from_residual.result ≡ position (bytes_eq c.args.text.now) c.args.self.now = grind (arith, common_steps, position_map) in
    number_absent c.from_residual.result c.args.self.now c.args.text.now e

pub returns-clause-found : goal.returns-clause-found
returns-clause-found c =
    let e : Some c.in_ok-n.n ≡ position (bytes_eq c.args.text.now) c.args.self.now = grind (arith, common_steps, position_map) in
    number_found (Some c.in_ok-n.n) c.args.self.now c.args.text.now e
