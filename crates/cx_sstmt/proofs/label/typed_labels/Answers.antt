use Rattle.cx_scope.specs.Views.{locals_of}
use Rattle.cx_sfile.specs.Views.{declared_in}
use Rattle.cx_sstmt.specs.Labels.{typed_labels}
use Rattle.cx_sstmt.specs.Around.{seen_view, label_trees}
use Rattle.cx_sstmt.proofs.Turns.{case_turn}
use Rattle.cx_sstmt.proofs.label.typed_labels.Goals as goal

pub loop-rest-preserved : goal.loop-rest-preserved
loop-rest-preserved c =
    case_turn (declared_in c.args.file.now) c.args.t c.args.span (seen_view c.loop-rest.seen) (seen_view c.see_case.new.seen) (locals_of c.new-no_locals.result) c.loop-rest.done c.push-in-Some.new.self c.loop-rest.rest.now
    (typed_labels (declared_in c.args.file.now) c.args.t c.args.span (seen_view c.args.seen.now) (label_trees c.args.labels.now))
    c.label-item.result c.in-Some.x c.in_ok-value-in-Some.value c.in-len1-up.len_at_least c.label-item.is c.in-Some.is c.new-no_locals.ensures c.in_ok-value-in-Some.ensures.answer c.in_ok-see_case-in-Some.ensures c.in_ok-push-in-Some.ensures.ok
    c.loop-rest.invariant
