use Rattle.std.proofs.Common.{◌≡◌, ◌-◌, ◌<◌, ◌^◌, drop, length}
use Rattle.cx_base.specs.Bytes.{number_of}
use Rattle.cx_base.proofs.bytes.number_of.Given as goal

abbrev pub invariant-loop-i : goal.invariant-loop-i
invariant-loop-i l = record {
  value : l.n ≡ number_of (drop (length l.bytes - l.i) l.bytes);
  below : l.n < 256 ^ l.i;
}
