-- Regions and globals without their places, as plain data.
use Rattle.std.specs.Prelude.{ℤ, Bool, List, map}
use Rattle.cx_tsyn.specs.Words.{WordTree, word_tree}
use Rattle.cx_tsyn.specs.Types.{STypeTree, stype_tree}
use Rattle.cx_tregion.specs.declared.regions.RegionParts.{RegionParts}
use Rattle.cx_tregion.specs.declared.globals.GlobalParts.{GlobalParts}

abbrev pub parts_tree : RegionParts → Bool × WordTree × List WordTree × STypeTree
parts_tree r = (r.shared, word_tree r.name, map word_tree r.params, stype_tree r.body)

abbrev pub global_parts : GlobalParts → WordTree × WordTree × List ℤ
global_parts g = (word_tree g.name, word_tree g.region, g.args)
