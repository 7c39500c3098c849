use Rattle.std.proofs.Common.{arith, ◌≡◌, ◌<◌, ◌^◌, ◌*◌, pos, get_or, length, ◌∙◌}
use Rattle.std.specs.Int.{w128, w64}
use Rattle.std.proofs.lemmas.Int.{ints, to_z-of_z}
use Rattle.cx_term.specs.Sums.{with_parts}
use Rattle.cx_term.proofs.Limits.{up_to-at, up_to-weaker, term-up_to, term-few}
use Rattle.cx_term.proofs.AllReplaced.{parts_step}
use Rattle.cx_term.proofs.replace.replaced_parts.Goals as goal
use mir.Val.{SFits}

pub add_times-requires-clause-other_small : goal.add_times-requires-clause-other_small
add_times-requires-clause-other_small c = rw c.parts.ensures (term-up_to c.form_at.result c.form_at.ensures.known)

pub loop-p-preserved : goal.loop-p-preserved
loop-p-preserved c =
    let parts = c.args.parts.now in
    let i = c.loop-p.p-index in
    let p = get_or parts i (0, pos 0) in
    let l : i < length parts = omega arith in
    let u = up_to-at (2 ^ 32) parts i (0, pos 0) l c.requires.small in
    let fp : SFits w64 p.1 = omega (arith, ints, u) in
    let fp' : SFits w128 p.1 = omega (arith, ints, u) in
    let f = simp to_z-of_z at c.from.ensures in
    let a = rw (f, c.parts.ensures) at c.add_times.ensures in
    let a' : c.add_times.new.parts.items ≡ with_parts p.1 c.form_at.result.parts c.loop-p.wide.items = simp to_z-of_z at a in
    let n = term-few c.form_at.result c.form_at.ensures.known in
    let s = parts_step c.args.forms.now parts c.loop-p.wide.items c.add_times.new.parts.items c.form_at.result i (i * 2 ^ 67) l c.requires.small c.form_at.ensures.known n c.form_at.ensures.form a' c.loop-p.invariant.small in
    record {
      same = s.0 ∙ c.loop-p.invariant.same;
      few = omega (arith, s.1, c.loop-p.invariant.few);
      small = up_to-weaker _ _ _ (omega arith) s.2;
    }
