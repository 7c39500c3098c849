-- The verdict of the rules, a statement at a time.
use Rattle.std.proofs.Common.{◌≤◌, List, [], ◌∷◌, ◌++◌, arith}
use Rattle.cx_form.specs.declared.tree.Member.{Member}
use Rattle.cx_sorts.specs.declared.verdict.Access.{Access}
use Rattle.cx_sorts.specs.declared.verdict.Verdict.{Verdict}
use Rattle.cx_sorts.specs.Layout.{greatest_alignment}

-- a verdict with accesses before it
abbrev pub after : List Access → Verdict → Verdict
after accesses v = record { accesses = accesses ++ v.accesses; alarm = v.alarm }

pub alignment_some : (ms : List Member) → 1 ≤ greatest_alignment ms
alignment_some [] = omega arith
alignment_some (m ∷ ms) = omega (arith, alignment_some ms)
