use Rattle.std.proofs.Common.{◌≡◌, length}
use Rattle.std.specs.List.{find}
use Rattle.std.specs.Str.{bytes_eq}
use Rattle.cx_form.proofs.rules.find.Given as goal

abbrev pub invariant-loop-x : goal.invariant-loop-x
invariant-loop-x g l = find (λ x. bytes_eq (g.T.Named.text x) l.name) l.rest ≡ find (λ x. bytes_eq (g.T.Named.text x) l.name) l.fn.items

abbrev pub decreases-loop-x : goal.decreases-loop-x
decreases-loop-x g l = length l.rest
