use Rattle.std.proofs.Common.{◌≡◌, map, reverse, take}
use Rattle.cx_scope.specs.Locals.{found_in}
use Rattle.cx_scope.proofs.find.found_in.Given as goal

abbrev pub invariant-loop-block : goal.invariant-loop-block
invariant-loop-block l = found_in (reverse (map (λ b. b.entries) (take l.block-index l.blocks))) l.name ≡ l.found
