use Rattle.std.proofs.Common.{◌≡◌, ◌++◌}
use Rattle.cx_head.specs.Heads.{zeros}
use Rattle.cx_head.proofs.heads.element_terms.Given as goal

abbrev pub invariant-loop-i : goal.invariant-loop-i
invariant-loop-i l = l.terms ≡ l.f.args ++ zeros l._i
