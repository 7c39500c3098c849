use Rattle.std.proofs.Common.{ap}
use Rattle.std.specs.Prelude.{option_map, map}
use Rattle.cx_ctree.specs.Types.{type_tree}
use Rattle.cx_ctree.specs.Decls.{member_tree}
use Rattle.cx_tmeasure.specs.Sizes.{branch_cells, some_branch_has_tail, field_cells, some_field_has_tail}
use Rattle.cx_tmeasure.specs.Views.{known_of}
use Rattle.cx_tmeasure.proofs.Told.{right_told, next_branch, next_field, cells_step, tail_step, found_branch, passed_branch, next_bytes, found_field, passed_field}
use Rattle.cx_tmeasure.proofs.measure.«+judged».Goals as goal

pub judged_branches-returns-in-Bad : goal.judged_branches-returns-in-Bad
judged_branches-returns-in-Bad t c =
    found_branch (known_of c.args.known.now) (option_map (λ t. type_tree t.now) c.args.m) c.args.branches.now c.loop-branch.branch-index c.branch-item.result c.loop-branch.bytes _
    c.in_ok-span.field-0 c.in-Bad.span _ c.loop-branch-test.true c.branch-item.is c.loop-branch.invariant.bytes c.in_ok-span.ensures c.in-Bad.is c.loop-branch.invariant.found

pub judged_branches-loop-branch-preserved : goal.judged_branches-loop-branch-preserved
judged_branches-loop-branch-preserved t c =
    let right = (right_told c.in_ok-span.field-0 c.in-Right.x _ _ c.in_ok-span.ensures c.in-Right.is).1 in
    let next = next_branch c.args.branches.now c.loop-branch.branch-index c.branch-item.result c.loop-branch-test.true c.branch-item.is in
    record {
      bytes = next_bytes (known_of c.args.known.now) (option_map (λ t. type_tree t.now) c.args.m) c.args.branches.now c.loop-branch.branch-index c.branch-item.result c.loop-branch.bytes _ _
          c.in_ok-span.field-0 c.in-Right.x _ c.loop-branch-test.true c.branch-item.is c.loop-branch.invariant.bytes c.in_ok-span.ensures c.in-Right.is c.first_or.ensures;
      found = passed_branch (known_of c.args.known.now) (option_map (λ t. type_tree t.now) c.args.m) c.args.branches.now c.loop-branch.branch-index c.branch-item.result c.loop-branch.bytes _
          c.in_ok-span.field-0 c.in-Right.x _ c.loop-branch-test.true c.branch-item.is c.loop-branch.invariant.bytes c.in_ok-span.ensures c.in-Right.is c.loop-branch.invariant.found;
      cells = cells_step c.loop-branch.all _ c.in-Right.x _ _ _ _ c.in_ok-all-in-Right.ensures right (ap branch_cells next) c.loop-branch.invariant.cells;
      tail = tail_step c.loop-branch.all _ c.in-Right.x _ _ _ _ c.in_ok-all-in-Right.ensures right (ap some_branch_has_tail next) c.loop-branch.invariant.tail;
    }

pub judged_fields-returns-in-Bad : goal.judged_fields-returns-in-Bad
judged_fields-returns-in-Bad t c =
    found_field (known_of c.args.known.now) c.args.union_ (map member_tree c.loop-field.left.now) c.args.fields.now c.loop-field.field-index c.field-item.result
    c.in_ok-span.field-0 c.in-Bad.span _ c.loop-field-test.true c.field-item.is c.in_ok-span.ensures c.in-Bad.is c.loop-field.invariant.found

pub judged_fields-loop-field-preserved : goal.judged_fields-loop-field-preserved
judged_fields-loop-field-preserved t c =
    let right = (right_told c.in_ok-span.field-0 c.in-Right.x _ _ c.in_ok-span.ensures c.in-Right.is).1 in
    let next = next_field c.args.fields.now c.loop-field.field-index c.field-item.result c.loop-field-test.true c.field-item.is in
    record {
      found = passed_field (known_of c.args.known.now) c.args.union_ (map member_tree c.loop-field.left.now) _ c.args.fields.now c.loop-field.field-index c.field-item.result
          c.in_ok-span.field-0 c.in-Right.x _ c.loop-field-test.true c.field-item.is c.in_ok-span.ensures c.in-Right.is c.behind-left.ensures c.loop-field.invariant.found;
      cells = cells_step c.loop-field.all _ c.in-Right.x _ _ _ _ c.in_ok-all-in-Right.ensures right (ap field_cells next) c.loop-field.invariant.cells;
      tail = tail_step c.loop-field.all _ c.in-Right.x _ _ _ _ c.in_ok-all-in-Right.ensures right (ap some_field_has_tail next) c.loop-field.invariant.tail;
    }
