use Rattle.std.proofs.Common.{◌≡◌, ◌-◌, length}
use Rattle.std.proofs.lemmas.List.Edits.{sets}
use Rattle.cx_base.specs.Bytes.{bytes_of}
use Rattle.cx_base.proofs.bytes.put_number.Given as goal

abbrev pub invariant-loop-i : goal.invariant-loop-i
invariant-loop-i l = record {
  size : length l.bytes ≡ length l.fn.bytes;
  rest : sets l.bytes l.i (bytes_of (l.to - l.i) l.rest) ≡ sets l.fn.bytes l.from (bytes_of (l.to - l.from) l.n);
}
