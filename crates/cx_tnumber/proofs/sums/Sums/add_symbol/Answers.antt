use Rattle.std.proofs.Common.{sym, ap, ◌∙◌, Some, rules}
use Rattle.std.specs.Prelude.{◌+ℤ◌}
use Rattle.std.proofs.lemmas.Int.{to_z-of_z}
use mir.Syntax.{w128}
use mir.Val.{SFits, to_z, of_z}
use Rattle.cx_tnumber.specs.Numbers.{share}
use Rattle.cx_tnumber.specs.Sums.{symbol_sum, sum_at}
use Rattle.cx_tnumber.proofs.Symbols.{texts, grown}
use Rattle.cx_tnumber.proofs.sums.Sums.add_symbol.Goals as goal

pub returns : goal.returns
returns c u =
    let more = to_z-of_z w128 c.args.z c.ranges.z in
    let fits : SFits w128 c.of.result = search rules in
    let before = to_z-of_z w128 c.of.result fits in
    let sum_fits : SFits w128 c.in_ok-more.more = search rules in
    let sum = to_z-of_z w128 c.in_ok-more.more sum_fits in
    ap (λ es. sum_at c.args.self.now.number (texts es) u) c.in_ok-insert.ensures.entries
    ∙ grown c.args.self.now.number c.args.z (to_z w128 (of_z w128 c.in_ok-more.more)) c.in_ok-text.text c.args.self.now.symbols.entries
    (sum
    ∙ c.in_ok-more.ensures.value
    ∙ ap (λ x. x +ℤ to_z w128 (of_z w128 c.of.result)) more
    ∙ ap (λ x. c.args.z +ℤ x) (before ∙ c.of.ensures ∙ ap (symbol_sum (texts c.args.self.now.symbols.entries)) (sym c.in_ok-text.ensures.items)))
    u
    ∙ ap (λ t. share (Some t, c.args.z) u +ℤ sum_at c.args.self.now.number (texts c.args.self.now.symbols.entries) u) c.in_ok-text.ensures.items
