use Rattle.std.proofs.Common.{◌≡◌, ◌∙◌, ap, sym, refl, arith, rules, get_or, pos}
use Rattle.std.specs.Int.{w128}
use Rattle.std.proofs.lemmas.Int.{to_z-of_z}
use Rattle.std.proofs.lemmas.List.{take_more_same, get_or-map, length-map}
use Rattle.cx_term.specs.Forms.{value}
use Rattle.cx_cells.specs.Values.{values_of, all_values}
use Rattle.cx_member.proofs.valued.are_values.Goals as goal
use mir.Val.{SFits}

pub loop-i-preserved : goal.loop-i-preserved
loop-i-preserved c =
    let v = values_of c.args.values.now in
    let terms = c.args.terms.now in
    let i = c.loop-i.i in
    let f : SFits w128 (get_or c.args.given.now i (pos 0)) = search rules in
    let e : get_or c.args.given.now i (pos 0) ≡ value v c.index-terms-i.result = simp to_z-of_z at (c.if-not-is_value.ensures.0 refl) in
    let t : c.index-terms-i.result ≡ get_or terms i c.index-terms-i.result = c.index-terms-i.is in
    take_more_same c.args.given.now (all_values v terms) i (pos 0) (omega arith) (omega (arith, length-map terms (value v))) c.loop-i.invariant (e ∙ ap (value v) t ∙ sym (get_or-map (value v) terms i c.index-terms-i.result (pos 0) (omega arith)))
