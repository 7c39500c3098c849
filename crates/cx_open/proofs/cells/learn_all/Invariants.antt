use Rattle.std.proofs.Common.{◌≡◌, drop}
use Rattle.cx_open.specs.Cells.{learnt_all}
use Rattle.cx_open.proofs.cells.learn_all.Given as goal

abbrev pub invariant-loop-c : goal.invariant-loop-c
invariant-loop-c l = learnt_all l.values l.env (drop l.c-index l.conds) ≡ learnt_all l.values l.fn.env l.conds
