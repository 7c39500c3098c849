use Rattle.std.proofs.Common.{◌≡◌, ◌∙◌, sym, subst, rules, to_z, of_z}
use mir.Syntax.{w128}
use Rattle.cx_base.specs.Number.{Congruent, wrapped}
use Rattle.cx_base.proofs.Wrapping.{wrapped-Congruent, only_wrapped}
use Rattle.cx_base.proofs.number.wrap.Goals as goal

pub returns-clause-congruent : goal.returns-clause-congruent
returns-clause-congruent c =
    let e : to_z w128 (of_z w128 c.wrapped.result) ≡ wrapped c.args.t.size c.args.t.signed c.args.v = search rules in
    subst (λ x. Congruent c.args.t.size x c.args.v) (sym e) (wrapped-Congruent c.args.t.size c.args.t.signed c.args.v c.args.t.known)

pub returns-clause-only : goal.returns-clause-only
returns-clause-only c =
    let e : to_z w128 (of_z w128 c.wrapped.result) ≡ wrapped c.args.t.size c.args.t.signed c.args.v = search rules in
    λ u r h. only_wrapped c.args.t.size c.args.t.signed c.args.v u c.args.t.known r h ∙ sym e
