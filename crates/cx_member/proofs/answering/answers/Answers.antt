use Rattle.std.proofs.Common.{sym}
use Rattle.cx_member.proofs.MetArgs.{fn_reads}
use Rattle.cx_member.proofs.answering.answers.Goals as goal

pub fn_answers-requires-clause-reads : goal.fn_answers-requires-clause-reads
fn_answers-requires-clause-reads c =
    fn_reads c.args.rules.now.forms c.args.rules.now.fns c.args.rules.now.kept.each_fn c.args.f c.in-Some.called.now (sym c.in-Some.ensures)
