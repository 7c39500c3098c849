use Rattle.std.proofs.Common.{◌≡◌, ◌++◌, ◌+◌, length, map, drop, take}
use Rattle.cx_tsyn.specs.Words.{word_tree}
use Rattle.cx_flin.specs.Names.{numbered}
use Rattle.cx_flin.specs.Scopes.{scope_of}
use Rattle.cx_flin.proofs.names.declare.Given as goal

abbrev pub invariant-loop-w : goal.invariant-loop-w
invariant-loop-w l = record {
  count : l.next + length (drop l.w-index l.words) ≡ l.fn.next + length l.words;
  names : scope_of l.scope ++ numbered l.next (map word_tree (drop l.w-index l.words)) ≡ scope_of l.fn.scope ++ numbered l.fn.next (map word_tree l.words);
  kept : take (length l.fn.scope) l.scope ≡ l.fn.scope;
}
