use Rattle.std.proofs.Common.{map}
use Rattle.cx_ctree.specs.Decls.{tag_tree, member_tree}
use Rattle.cx_ctree.specs.Extents.{extent}
use Rattle.cx_abi.proofs.Places.{starts_seeking, seeks_on}
use Rattle.cx_abi.proofs.placing.member_place.Goals as goal

pub loop-m-init : goal.loop-m-init
loop-m-init c = starts_seeking (map tag_tree c.args.unit.now.tags) c.args.tag c.in_ok-union_.union_ (map member_tree c.in_ok-union_.members.now) c.args.name c.in_ok-union_.ensures.some c.requires

pub loop-m-preserved : goal.loop-m-preserved
loop-m-preserved c =
    seeks_on (map tag_tree c.args.unit.now.tags) c.in_ok-union_.union_ (map member_tree c.in_ok-union_.members.now) c.in_ok-union_.members.now c.loop-m.m-index c.m-item.result c.loop-m.end c.past-end.result c.args.name (extent c.in-Ok.part)
    c.loop-m.invariant c.loop-m-test.true c.m-item.is c.in-Ok.ensures.1 c.past-end.ensures.value c.if-m-name.false
