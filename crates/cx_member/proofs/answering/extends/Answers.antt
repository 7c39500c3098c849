use Rattle.std.proofs.Common.{◌≡◌, true, false, refl, arith}
use Rattle.cx_member.proofs.Extending.{one_more, extends_all, same_in}
use Rattle.cx_member.proofs.answering.extends.Goals as goal

pub loop-i-preserved : goal.loop-i-preserved
loop-i-preserved c =
    one_more c.args.before.now c.args.after.now c.loop-i.i (c.if-not-same_at.ensures.0 refl) c.loop-i.invariant

pub returns-then-not-same_at : goal.returns-then-not-same_at
returns-then-not-same_at c = (
  (λ x. absurd (let e : false ≡ true = x in cc)),
  (λ x. let e : false ≡ true = c.if-not-same_at.ensures.1 (same_in c.args.before.now c.args.after.now c.loop-i.i (omega arith) x) in absurd (cc)),
)

pub returns : goal.returns
returns c = (
  (λ x. extends_all c.args.before.now c.args.after.now c.loop-i.i (omega arith) c.loop-i.invariant),
  (λ x. refl),
)
