use Rattle.std.proofs.Common.{◌∙◌, ◌-◌, ◌+◌, ◌/◌, ◌≤◌, length, ap, sym, arith, length-set, ℕ}
use Rattle.std.proofs.lemmas.List.Edits.{sets}
use Rattle.cx_base.specs.Bytes.{bytes_of}
use Rattle.cx_base.proofs.Digits.{put_more, put_all, sets-splice}
use Rattle.cx_base.proofs.bytes.put_number.Goals as goal

pub loop-i-preserved : goal.loop-i-preserved
loop-i-preserved c = record {
  size = omega (arith, ap length c.set.ensures.new, length-set {A = ℕ});
  rest = ap (λ bytes. sets bytes (c.loop-i.i + 1) (bytes_of (c.args.to - (c.loop-i.i + 1)) (c.loop-i.rest / 256))) c.set.ensures.new
      ∙ put_more c.loop-i.bytes c.loop-i.i c.args.to c.loop-i.rest c.loop-i-test.true ∙ c.loop-i.invariant.rest;
}

pub returns : goal.returns
returns c =
    let all : c.args.to ≤ c.loop-i.i = omega arith in
    sym (put_all c.loop-i.bytes c.loop-i.i c.args.to c.loop-i.rest all) ∙ c.loop-i.invariant.rest ∙ sets-splice c.args.bytes.now c.args.from c.args.to c.args.n c.requires.order c.requires.inside
