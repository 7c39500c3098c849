use Rattle.std.proofs.Common.{◌≡◌, drop}
use Rattle.cx_open.specs.Cells.{args_named, begun}
use Rattle.cx_open.proofs.cells.name_args.Given as goal

abbrev pub invariant-loop-u : goal.invariant-loop-u
invariant-loop-u l = args_named l.values (record { env = l.env; terms = l.terms }) (drop l.u-index l.args) ≡ args_named l.values (begun l.fn.env) l.args
