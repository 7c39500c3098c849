use Rattle.std.proofs.Common.{◌≡◌, map, drop, take, length}
use Rattle.cx_tsyn.specs.Words.{word_tree}
use Rattle.cx_tscope.specs.Faults.{first, first_of}
use Rattle.cx_tscope.specs.Scopes.{with_words, doubled_words}
use Rattle.cx_tscope.proofs.scope.Scope.declare_each.Given as goal

abbrev pub invariant-loop-word : goal.invariant-loop-word
invariant-loop-word l = record {
  names : with_words l.self (map word_tree (drop l.word-index l.words)) ≡ with_words l.fn.self (map word_tree l.words);
  places : first_of l.doubled (doubled_words l.self (map word_tree (drop l.word-index l.words))) ≡ first (doubled_words l.fn.self (map word_tree l.words));
  kept : take (length l.fn.self) l.self ≡ l.fn.self;
}
