use Rattle.std.proofs.Common.{sym, arith}
use Rattle.std.proofs.lemmas.Result.{err_from_is_err_and}
use Rattle.cx_lex.proofs.Loop.{goes_on, fails, ends, answered}
use Rattle.cx_lex.proofs.lexer.read.Goals as goal

pub returns-in_err-turn : goal.returns-in_err-turn
returns-in_err-turn c =
    let p = err_from_is_err_and c.from_residual.result c.from_residual.ensures.1 in
    let f = c.in_err-turn.field-0.0 in
    let t = fails c.loop-i.tokens c.loop-i.state c.loop-i.i c.args.bytes.now f _ c.loop-i-test.true c.loop-i.invariant.told c.in_err-turn.ensures.value in
    rw (p.1, p.2) (answered f _ t)

pub loop-i-preserved : goal.loop-i-preserved
loop-i-preserved c = record {
  order = omega (arith, c.in_ok-turn.ensures.within);
  told =
      let t = c.in_ok-turn.turn in
      let g = goes_on c.loop-i.tokens c.loop-i.state c.loop-i.i c.args.bytes.now t _ c.loop-i-test.true c.loop-i.invariant.told c.in_ok-turn.ensures.value in
      rw (c.in_ok-add-2.ensures, c.in_ok-add.ensures) g;
}

pub returns : goal.returns
returns c = rw (sym (ends c.loop-i.tokens c.loop-i.state c.loop-i.i c.args.bytes.now _ c.loop-i-test.false c.loop-i.auto.i-end c.loop-i.invariant.told)) c.finish.ensures
