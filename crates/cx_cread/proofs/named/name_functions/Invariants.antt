use Rattle.std.proofs.Common.{◌≡◌, ◌++◌, take}
use Rattle.cx_cread.specs.Reading.{numbers_of}
use Rattle.cx_cread.proofs.named.name_functions.Given as goal

abbrev pub invariant-loop-word : goal.invariant-loop-word
invariant-loop-word l = l.named ≡ l.initial.named ++ numbers_of l.names l.bytes (take l.word-index l.word-items)
