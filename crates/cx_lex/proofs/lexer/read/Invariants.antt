use Rattle.std.proofs.Common.{◌≡◌, ◌≤◌, ◌+◌, drop, true}
use Rattle.cx_lex.specs.declared.mode.Mode.TheVariants as mode
use Rattle.cx_lex.specs.Machine.{run, at_mode, with_front, least}
use Rattle.cx_lex.proofs.lexer.read.Given as goal

abbrev pub invariant-loop-i : goal.invariant-loop-i
invariant-loop-i l = record {
  order : l.state.start + least l.state.mode ≤ l.i;
  told : with_front l.tokens (run l.state l.i (drop l.i l.bytes)) ≡ run (at_mode (mode.Blank true) 0) 0 l.bytes;
}
