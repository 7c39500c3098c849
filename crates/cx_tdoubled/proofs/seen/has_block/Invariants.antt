use Rattle.std.proofs.Common.{◌≡◌, map, drop}
use Rattle.cx_ctree.specs.Types.{type_tree}
use Rattle.cx_tsyn.specs.Words.{word_tree}
use Rattle.cx_tdoubled.specs.Seen.{block_tree, has_block}
use Rattle.cx_tdoubled.proofs.seen.has_block.Given as goal

abbrev pub invariant-loop-block : goal.invariant-loop-block
invariant-loop-block l = has_block (map block_tree (drop l.block-index l.blocks)) (word_tree l.name) (type_tree l.pointee) ≡ has_block (map block_tree l.blocks) (word_tree l.name) (type_tree l.pointee)
