use Rattle.std.proofs.Common.{arith, rules, ◌<◌, ◌^◌, pos, ◌+ℤ◌, get_or, length, ◌∙◌, ap, to_z}
use Rattle.std.specs.Int.{w128, w64}
use Rattle.std.proofs.lemmas.Int.{ints, to_z-of_z}
use Rattle.cx_term.specs.Forms.{Linear}
use Rattle.cx_term.proofs.Limits.{up_to-at}
use Rattle.cx_term.proofs.AllReplaced.{konst_step}
use Rattle.cx_term.proofs.replace.replaced_konst.Goals as goal
use mir.Val.{SFits}

pub loop-p-preserved : goal.loop-p-preserved
loop-p-preserved c =
    let parts = c.args.parts.now in
    let i = c.loop-p.p-index in
    let p = get_or parts i (0, pos 0) in
    let h = c.halves_times-more_low in
    let l : i < length parts = omega arith in
    let u = up_to-at (2 ^ 32) parts i (0, pos 0) l c.requires.small in
    let fp : SFits w64 p.1 = omega (arith, ints, u) in
    let fk : SFits w128 c.args.konst = c.ranges.konst in
    let fz : SFits w128 c.konst.result = search rules in
    let fa : SFits w128 h.result.0 = omega (arith, ints, h.ensures.low_small) in
    let fb : SFits w128 h.result.1 = omega (arith, ints, h.ensures.high_small) in
    let low = to_z w128 c.loop-p.low-bits in
    let high = to_z w128 c.loop-p.high-bits in
    let fl : SFits w128 (low +ℤ h.result.0) = omega (arith, ints, h.ensures.low_small, c.loop-p.invariant.low_small, c.loop-p.low-is) in
    let fh : SFits w128 (high +ℤ h.result.1) = omega (arith, ints, h.ensures.high_small, c.loop-p.invariant.high_small, c.loop-p.high-is) in
    let v = simp to_z-of_z at h.ensures.value in
    let s = simp to_z-of_z at c.loop-p.invariant.same in
    let k = konst_step c.args.forms.now parts i low high h.result.0 h.result.1 c.konst.result l v (c.konst.ensures ∙ ap (λ (t : Linear). t.konst) c.form_at.ensures.form) in
    record {
      same = simp to_z-of_z (k ∙ s);
      low_small = simp to_z-of_z (omega (arith, ints, h.ensures.low_small, c.loop-p.invariant.low_small, c.loop-p.low-is));
      high_small = simp to_z-of_z (omega (arith, ints, h.ensures.high_small, c.loop-p.invariant.high_small, c.loop-p.high-is));
    }
