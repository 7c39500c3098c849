-- Regions with their sizes, as the code holds them.
use Rattle.std.specs.Prelude.{ℕ, map, option_map}
use Rattle.cx_tsyn.specs.Words.{word_tree}
use Rattle.cx_tsyn.specs.Lins.{LinTree, lin_tree}
use Rattle.cx_tsyn.specs.Types.{AtomTree, atom_tree}
use Rattle.cx_tsizes.specs.Regions.{RegionSize, Regions}
use Rattle.cx_tsizes.specs.declared.tails.Row as row
use Rattle.cx_tsizes.specs.declared.regions.Tail as tail
use Rattle.cx_tsizes.specs.declared.regions.RegionSize as size
use Rattle.cx_tsizes.specs.declared.regions.Regions as regions

abbrev pub row_of : row.Row → LinTree × AtomTree
row_of r = (lin_tree r.length.now, atom_tree r.element.now)

abbrev pub tail_as : tail.Tail → LinTree × ℕ
tail_as t = (lin_tree t.length.now, t.each)

abbrev pub size_as : size.RegionSize → RegionSize
size_as r = record { params = map word_tree r.params.now; head = r.head; tail = option_map tail_as r.tail }

abbrev pub regions_as : regions.Regions → Regions
regions_as r = record { names = r.names; sizes = map (option_map size_as) r.sizes }
