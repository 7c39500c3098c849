use Rattle.std.proofs.Common.{map, subst, sym}
use Rattle.cx_ctree.specs.Decls.{tag_tree, member_tree}
use Rattle.cx_ctree.specs.Extents.{extent}
use Rattle.cx_abi.specs.Fields.{field_tree}
use Rattle.cx_ctree.specs.Layouts.{place}
use Rattle.cx_abi.proofs.FieldsMade.{field_made}
use Rattle.cx_abi.proofs.Places.{Making, starts_making, makes_on}
use Rattle.cx_abi.proofs.placing.tag_fields.Goals as goal

pub loop-m-init : goal.loop-m-init
loop-m-init c =
    subst (λ fs. Making (map tag_tree c.args.unit.now.tags) c.in-Some.union_ (map member_tree c.in-Some.members.now) (map member_tree c.in-Some.members.now) 0 (map field_tree fs)) (sym c.new-fields.ensures)
    (starts_making (map tag_tree c.args.unit.now.tags) c.args.tag c.in-Some.union_ (map member_tree c.in-Some.members.now) c.in-Some.ensures.some c.requires)

pub loop-m-preserved : goal.loop-m-preserved
loop-m-preserved c =
    makes_on (map tag_tree c.args.unit.now.tags) c.in-Some.union_ (map member_tree c.in-Some.members.now) c.in-Some.members.now c.loop-m.m-index c.m-item.result c.loop-m.end c.past-end.result (extent c.in-Ok.part)
    (map field_tree c.loop-m.fields) (map field_tree c.push.new.self)
    c.loop-m.invariant c.loop-m-test.true c.m-item.is c.in-Ok.ensures.1 c.past-end.ensures.value
    (field_made c.loop-m.fields c.push.new.self c.m-item.result c.in_ok-ctype.ctype c.place-offset.result (place c.in-Some.union_ c.loop-m.end (extent c.in-Ok.part)) c.in_ok-push.ensures.ok c.place-offset.ensures.value c.in_ok-ctype.ensures)
