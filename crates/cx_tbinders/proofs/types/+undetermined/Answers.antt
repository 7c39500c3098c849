use Rattle.std.proofs.Common.{ap, ◌∙◌, drop}
use Rattle.cx_tbinders.proofs.Told.{drop_more}
use Rattle.cx_tbinders.proofs.Parts.{found_field, passed_field}
use Rattle.cx_tbinders.proofs.types.«+undetermined».Goals as goal

pub undetermined_in_fields-returns-in-Some-clause-first : goal.undetermined_in_fields-returns-in-Some-clause-first
undetermined_in_fields-returns-in-Some-clause-first t c =
    found_field c.args.names.now c.loop-field.names c.args.place c.before_others-here.result c.loop-field.met c.args.fields.now c.loop-field.field-index c.field-item.result
    c.loop-field.after.now c.fields_behind-after.result.now c.some_field.result c.in_ok-span.field-0 _ c.in-Some.span
    c.loop-field-test.true c.field-item.is c.loop-field.invariant.left c.fields_behind-after.ensures c.some_field.ensures c.before_others-here.ensures c.loop-field.invariant.kept
    c.in_ok-span.ensures.first c.in-Some.is c.loop-field.invariant.found

pub undetermined_in_fields-loop-field-preserved : goal.undetermined_in_fields-loop-field-preserved
undetermined_in_fields-loop-field-preserved t c = record {
  found = passed_field c.args.names.now c.loop-field.names c.args.place c.before_others-here.result c.loop-field.met c.or_cases-met.result c.args.fields.now c.loop-field.field-index c.field-item.result
      c.loop-field.after.now c.fields_behind-after.result.now c.some_field.result c.in_ok-span.field-0 _
      c.loop-field-test.true c.field-item.is c.loop-field.invariant.left c.fields_behind-after.ensures c.some_field.ensures c.before_others-here.ensures c.loop-field.invariant.kept
      c.in_ok-span.ensures.first c.in-None.is c.or_cases-met.ensures c.loop-field.invariant.found;
  kept = c.in_ok-span.ensures.kept ∙ c.loop-field.invariant.kept;
  left = c.fields_behind-after.ensures ∙ ap (drop 1) c.loop-field.invariant.left ∙ drop_more c.loop-field.field-index c.args.fields.now;
}
