use Rattle.cx_cells.specs.Layouts.{layout_of}
use Rattle.cx_member.proofs.MetArgs.{given_is, given_none, result_reads, result_few}
use Rattle.cx_member.proofs.answering.given_meets.Goals as goal

pub result_meets-requires-clause-few : goal.result_meets-requires-clause-few
result_meets-requires-clause-few c =
    result_few c.args.called.now c.args.args.now (layout_of c.args.before.now) c.in-Some.binders.items c.as_slice.result.now c.requires.reads c.in-Some.ensures c.as_slice.ensures.value

pub result_meets-requires-clause-reads : goal.result_meets-requires-clause-reads
result_meets-requires-clause-reads c =
    result_reads c.args.called.now c.args.args.now (layout_of c.args.before.now) c.in-Some.binders.items c.as_slice.result.now c.requires.reads c.in-Some.ensures c.as_slice.ensures.value

pub returns-in-Some : goal.returns-in-Some
returns-in-Some c =
    given_is c.args.called.now c.args.args.now (layout_of c.args.before.now) (layout_of c.args.after.now) c.in-Some.binders.items c.as_slice.result.now c.args.value c.result_meets.result c.in-Some.ensures c.as_slice.ensures.value c.result_meets.ensures

pub returns-in-None : goal.returns-in-None
returns-in-None c =
    given_none c.args.called.now c.args.args.now (layout_of c.args.before.now) (layout_of c.args.after.now) c.args.value c.in-None.ensures
