use Rattle.std.proofs.Common.{ap}
use Rattle.std.specs.Prelude.{option_map}
use Rattle.cx_tsyn.specs.Types.{stype_tree}
use Rattle.cx_tmeasure.specs.Views.{known_of}
use Rattle.cx_tsizes.specs.Views.{row_of}
use Rattle.cx_tsizes.proofs.Elements.{element_right}
use Rattle.cx_tsizes.proofs.regions.region_tail.Goals as goal

pub size_of_element-requires : goal.size_of_element-requires
size_of_element-requires c =
    element_right (known_of c.args.known.now) (stype_tree c.args.t.now) (option_map row_of c.in_ok-tail_of.field-0) (row_of c.in-Some.row)
    c.requires c.in_ok-tail_of.ensures (ap (option_map row_of) c.in-Some.is)
