use Rattle.std.proofs.Common.{◌≡◌}
use Rattle.std.specs.Prelude.{map}
use Rattle.cx_reader.specs.Answers.{many_at}
use Rattle.cx_tlin.specs.Kinds.{is_sign}
use Rattle.cx_tlin.specs.Reading.{signed_tree, signed_at, parts_at}
use Rattle.cx_tlin.proofs.forms.parts.Given as goal

abbrev pub invariant-each : goal.invariant-each
invariant-each l = many_at is_sign (signed_at l.bytes) l.n (map signed_tree l.tree) l.rest ≡ parts_at l.fn.bytes l.fn.lexemes

abbrev pub decreases-each : goal.decreases-each
decreases-each l = l.n
