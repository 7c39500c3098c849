use Rattle.std.proofs.Common.{◌≡◌, ◌+◌, ◌++◌, ◌≤◌, length}
use Rattle.cx_citem.specs.Items.{naming}
use Rattle.cx_citem.proofs.calls.naming.Given as goal

abbrev pub invariant-loop-o : goal.invariant-loop-o
invariant-loop-o l = record {
  told : l.words ++ naming l.covered l.rest ≡ naming 0 l.lexemes;
  within : l.covered + length l.rest ≤ length l.lexemes;
}

abbrev pub decreases-loop-o : goal.decreases-loop-o
decreases-loop-o l = length l.rest
