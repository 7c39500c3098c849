use Rattle.std.proofs.Common.{◌≡◌, ◌≤◌, length, drop}
use Rattle.cx_citem.specs.Numbering.{name_texts, number_all, numbering}
use Rattle.cx_citem.proofs.numbering.number_names.Given as goal

abbrev pub invariant-loop-token : goal.invariant-loop-token
invariant-loop-token l = record {
  told : number_all l.names (name_texts l.bytes (drop l.token-index l.tokens)) ≡ numbering l.bytes l.tokens;
  few : length l.names ≤ l.token-index;
}
