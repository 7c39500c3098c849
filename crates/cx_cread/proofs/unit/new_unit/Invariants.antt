use Rattle.std.proofs.Common.{◌≡◌, take}
use Rattle.cx_cread.proofs.unit.new_unit.Given as goal

abbrev pub invariant-loop-token : goal.invariant-loop-token
invariant-loop-token l = l.copied ≡ take l.token-index l.tokens
