use Rattle.std.proofs.Common.{◌≤◌, ◌<◌, refl, arith}
use Rattle.cx_goto.specs.Trees.{instr_tree}
use Rattle.cx_lemit.proofs.Making.{line_makes, skip_makes}
use Rattle.cx_lemit.proofs.builder.line.Goals as goal

pub returns-then-code-ge4096 : goal.returns-then-code-ge4096
returns-then-code-ge4096 c = let few : 4096 ≤ c.args.code.now.count = omega arith in let more : 4096 < 4097 = omega arith in skip_makes _ _ (record { instr = instr_tree c.args.instr; span = c.args.span }) few more

pub returns : goal.returns
returns c = line_makes _ _ (record { instr = c.args.instr; span = c.args.span }) refl refl c.in_ok-push.ensures.ok refl
