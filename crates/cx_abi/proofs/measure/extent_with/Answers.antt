use Rattle.std.proofs.Common.{map}
use Rattle.cx_ctree.specs.Decls.{tag_tree, member_tree}
use Rattle.cx_ctree.specs.Layouts.{shapes_of}
use Rattle.cx_abi.proofs.Runs.{starts}
use Rattle.cx_abi.proofs.measure.extent_with.Goals as goal

pub loop-m-init : goal.loop-m-init
loop-m-init c = starts c.args.union_ (shapes_of (map tag_tree c.args.unit.now.tags) (map member_tree c.args.members.now))
