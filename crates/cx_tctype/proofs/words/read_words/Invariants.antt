use Rattle.std.proofs.Common.{◌≡◌, true, length}
use Rattle.cx_cexpr.specs.IntWords.{is_listed}
use Rattle.cx_tctype.specs.Words.{counts_in}
use Rattle.cx_tctype.specs.Reading.{words_at}
use Rattle.cx_tctype.proofs.words.read_words.Given as goal

abbrev pub invariant-loop-o : goal.invariant-loop-o
invariant-loop-o l = record {
  told : words_at (counts_in l.read.words) l.read.rest.now ≡ words_at (counts_in l.initial.read.words) l.initial.read.rest.now;
  listed : is_listed (counts_in l.read.words) ≡ true;
}

abbrev pub decreases-loop-o : goal.decreases-loop-o
decreases-loop-o l = length l.read.rest.now
