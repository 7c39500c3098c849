use Rattle.std.proofs.Common.{sym, ap, ◌∙◌}
use Rattle.std.specs.Prelude.{pos}
use Rattle.std.specs.Option.{unwrap_or}
use Rattle.std.proofs.lemmas.Int.{to_z-of_z}
use Rattle.std.proofs.Common.{rules}
use mir.Syntax.{w128}
use mir.Val.{SFits}
use Rattle.cx_tnumber.proofs.Symbols.{sum_found}
use Rattle.cx_tnumber.proofs.sums.Sums.of.Goals as goal

pub returns-in-Some : goal.returns-in-Some
returns-in-Some c =
    let fits : SFits w128 c.in-Some.z.now = search rules in
    to_z-of_z w128 c.in-Some.z.now fits ∙ ap (λ o. unwrap_or o (pos 0)) c.in-Some.ensures.value ∙ sym (sum_found c.args.text.now c.args.self.now.symbols.entries)

pub returns-in-None : goal.returns-in-None
returns-in-None c = ap (λ o. unwrap_or o (pos 0)) c.in-None.ensures.value ∙ sym (sum_found c.args.text.now c.args.self.now.symbols.entries)
