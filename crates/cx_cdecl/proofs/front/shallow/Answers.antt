use Rattle.std.proofs.Common.{◌≤◌, ◌∙◌, ap, ◌+◌, ◌++◌, take, drop, arith, sym}
use Rattle.cx_cdecl.specs.Derived.{open_after}
use Rattle.cx_cdecl.specs.Reading.{shallow_at}
use Rattle.cx_cdecl.proofs.Shallow.{shallow_step, whole_rest}
use Rattle.cx_cdecl.proofs.front.shallow.Goals as goal

pub each-preserved : goal.each-preserved
each-preserved c =
    let low : open_after c.in-Some.o.kind c.each.n ≤ 100 = omega (arith, c.open_after-open.ensures, c.if-open-gt100.false) in
    record {
      told =
          ap (λ n. take (c.each.i + 1) c.args.lexemes.now ++ shallow_at n (drop (c.each.i + 1) c.args.lexemes.now)) c.open_after-open.ensures
          ∙ shallow_step c.args.lexemes.now c.each.i c.each.n c.in-Some.o _ (sym (whole_rest c.args.lexemes.now c.each.i) ∙ c.in-Some.ensures) low
          ∙ c.each.invariant.told;
      within = omega arith;
      low = omega arith;
    }
