use Rattle.std.proofs.Common.{◌≡◌, ◌+◌, ◌*◌, ◌^◌, sym, ap, ◌∙◌}
use Rattle.std.specs.Prelude.{min}
use Rattle.cx_cword.specs.Integers.{digit_value, digits_of}
use Rattle.cx_cword.proofs.DigitLemmas.{next}
use Rattle.cx_cword.proofs.integer.digits.Goals as goal

pub loop-b-preserved : goal.loop-b-preserved
loop-b-preserved c =
    let e : min c.grown-value.result (2 ^ 64) ≡ min (c.loop-b.value * c.args.base + digit_value c.in-Some.b) (2 ^ 64) = c.grown-value.ensures.value ∙ ap (λ d. min (c.loop-b.value * c.args.base + d) (2 ^ 64)) c.digit_value.ensures.value in
    record {
      same = next c.args.base c.loop-b.value c.grown-value.result c.in-Some.b c.in-Some.after.now c.loop-b.rest.now (digits_of c.args.base 0 c.args.text.now) c.requires.base.0 c.in-Some.ensures (sym c.is_digit_of.ensures ∙ c.if-not-is_digit_of.false) e c.loop-b.invariant.same;
      small = c.grown-value.ensures.small;
    }
