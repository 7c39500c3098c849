use Rattle.std.proofs.Common.{◌≡◌, IfSome, subst}
use Rattle.cx_run.specs.declared.status.Status.{Status}
use Rattle.cx_run.specs.declared.status.Status.TheVariants.{Done}
use Rattle.cx_run.specs.Answers.{Tells}
use Rattle.cx_run.specs.Words.{texts}
use Rattle.cx_run.specs.Outcome.{seen, outcome_by}
use Rattle.cx_run.specs.Headline.{Ends}
use Rattle.cx_run.proofs.Headline.{done_keeps_promise}
use Rattle.cx_run.proofs.top.run.Goals as goal

pub returns-in-Ok-answer_of-clause-headline : goal.returns-in-Ok-answer_of-clause-headline
returns-in-Ok-answer_of-clause-headline g c = λ done.
    let is : seen c.in-Ok-answer_of.answer ≡ outcome_by c.in-Ok.ending = c.in-Ok-answer_of.ensures in
    let told : IfSome (g.F.Files.map c.args.files.now) (λ m. Tells m (texts c.args.words.now) c.in-Ok.ending) = c.in-Ok.ensures.told in
    let ends : Ends Done (seen c.in-Ok-answer_of.answer) (g.K.Sink.written c.args.out.now) (g.K.Sink.written c.write_answer.new.out) =
    subst (λ (s : Status). Ends s (seen c.in-Ok-answer_of.answer) (g.K.Sink.written c.args.out.now) (g.K.Sink.written c.write_answer.new.out)) done c.write_answer.ensures.ends in
    done_keeps_promise (g.F.Files.map c.args.files.now) (texts c.args.words.now) c.in-Ok.ending (seen c.in-Ok-answer_of.answer) (g.K.Sink.written c.args.out.now) (g.K.Sink.written c.write_answer.new.out) told is ends.0 ends.1
