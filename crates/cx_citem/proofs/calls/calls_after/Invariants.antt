use Rattle.std.proofs.Common.{◌≡◌, ◌+◌, ◌≤◌, length}
use Rattle.cx_citem.specs.Items.{calls_after}
use Rattle.cx_citem.proofs.calls.calls_after.Given as goal

abbrev pub invariant-loop-o : goal.invariant-loop-o
invariant-loop-o l = record {
  told : calls_after l.inside l.rest ≡ calls_after 0 l.lexemes;
  within : l.inside + length l.rest ≤ length l.lexemes;
}

abbrev pub decreases-loop-o : goal.decreases-loop-o
decreases-loop-o l = length l.rest
