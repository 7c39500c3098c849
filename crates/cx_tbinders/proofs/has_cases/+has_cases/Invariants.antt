use Rattle.std.proofs.Common.{◌≡◌, drop}
use Rattle.cx_tsyn.specs.Types.{stype_trees, field_trees}
use Rattle.cx_tbinders.specs.Undetermined.{some_type_has_cases, some_field_has_cases}
use Rattle.cx_tbinders.proofs.has_cases.«+has_cases».Given as goal

abbrev pub invariant-some_type_has_cases-loop-part : goal.invariant-some_type_has_cases-loop-part
invariant-some_type_has_cases-loop-part l = some_type_has_cases (stype_trees (drop l.part-index l.parts)) ≡ some_type_has_cases (stype_trees l.parts)

abbrev pub invariant-some_field_has_cases-loop-field : goal.invariant-some_field_has_cases-loop-field
invariant-some_field_has_cases-loop-field l = some_field_has_cases (field_trees (drop l.field-index l.fields)) ≡ some_field_has_cases (field_trees l.fields)
