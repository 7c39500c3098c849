use Rattle.std.proofs.Common.{◌≡◌, length}
use Rattle.std.specs.List.{list_any}
use Rattle.std.specs.Str.{bytes_eq}
use Rattle.cx_form.proofs.rules.has.Given as goal

abbrev pub invariant-loop-x : goal.invariant-loop-x
invariant-loop-x g l = list_any (λ x. bytes_eq l.name (g.T.Named.text x)) l.rest ≡ list_any (λ x. bytes_eq l.name (g.T.Named.text x)) l.fn.items

abbrev pub decreases-loop-x : goal.decreases-loop-x
decreases-loop-x g l = length l.rest
