use Rattle.std.proofs.Common.{length}
use Rattle.vectors_types.proofs.text.unescaped.Given as goal

abbrev pub decreases-each : goal.decreases-each
decreases-each l = length l.rest
