use Rattle.std.proofs.Common.{◌≡◌, ◌∙◌, ap, ◌+ℤ◌, ◌*ℤ◌, pos, rules, refl, false, FitsSigned}
use Rattle.std.specs.Int.{int_wrap}
use Rattle.std.proofs.lemmas.Int.{to_z-of_z}
use mir.Syntax.{w128}
use Rattle.cx_ctree.specs.Conversions.{unsigned_long}
use Rattle.cx_cconst.specs.Constants.{converted}
use Rattle.cx_cconst.proofs.Modular as modular
use Rattle.cx_cconst.proofs.number.moved_on.Goals as goal

pub returns : goal.returns
returns c =
    let p = c.args.p in
    let i = c.args.i in
    let f : FitsSigned w128 p = search rules in
    let g : FitsSigned w128 i = search rules in
    let h : FitsSigned w128 c.times.result = search rules in
    let j : FitsSigned w128 c.wide.result = search rules in
    let k : FitsSigned w128 c.sum.result = search rules in
    let s : c.sum.result ≡ converted c.unsigned_long.result (p +ℤ c.times.result) = simp to_z-of_z at c.sum.ensures in
    let t : c.times.result ≡ int_wrap w128 (i *ℤ c.wide.result) = simp to_z-of_z at c.times.ensures in
    let step : c.times.result ≡ int_wrap w128 (i *ℤ pos c.args.size) = t ∙ ap (λ n. int_wrap w128 (i *ℤ n)) c.wide.ensures in
    to_z-of_z w128 c.sum.result k ∙ s ∙ ap (λ t. converted t (p +ℤ c.times.result)) c.unsigned_long.ensures ∙ ap (λ x. converted unsigned_long (p +ℤ x)) step ∙ modular.moved_on 8 false p (i *ℤ pos c.args.size) refl
