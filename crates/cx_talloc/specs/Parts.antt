-- The pieces of an allocator as plain data.
use Rattle.std.specs.Prelude.{map, option_map}
use Rattle.cx_tsyn.specs.Words.{word_tree}
use Rattle.cx_tsyn.specs.Items.{arg_tree}
use Rattle.cx_tctype.specs.Words.{pointee_tree}
use Rattle.cx_talloc.specs.declared.pieces.Head.{Head}
use Rattle.cx_talloc.specs.declared.pieces.Placed.{Placed}
use Rattle.cx_talloc.specs.declared.pieces.Block.{Block}
use Rattle.cx_talloc.specs.declared.pieces.Size.{Size}
use Rattle.cx_talloc.specs.declared.alloc.AllocParts.{AllocParts}
use Rattle.cx_talloc.specs.Allocs.{HeadTree, PlacedTree, BlockTree, SizeTree, AllocBody}

abbrev pub head_tree : Head → HeadTree
head_tree x = record { name = word_tree x.name; params = map word_tree x.params }

abbrev pub placed_tree : Placed → PlacedTree
placed_tree x = record { pointee = pointee_tree x.pointee; span = x.span }

abbrev pub block_tree : Block → BlockTree
block_tree x = record { region = word_tree x.region; args = map arg_tree x.args }

abbrev pub size_tree : Size → SizeTree
size_tree x = record { bytes = word_tree x.bytes; times = option_map word_tree x.times; zero = x.zero }

abbrev pub alloc_parts : AllocParts → AllocBody
alloc_parts x = (head_tree x.head, placed_tree x.placed, block_tree x.block, size_tree x.size)
