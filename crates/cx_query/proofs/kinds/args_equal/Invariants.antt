use Rattle.std.proofs.Common.{◌≡◌, drop}
use Rattle.cx_query.specs.Kinds.{args_equal, values_given}
use Rattle.cx_query.proofs.kinds.args_equal.Given as goal

abbrev pub invariant-loop-i : goal.invariant-loop-i
invariant-loop-i l = args_equal l.env (values_given l.given l.values) (drop l.i l.a) (drop l.i l.b) ≡ args_equal l.env (values_given l.given l.values) l.a l.b
