use Rattle.std.proofs.Common.{◌≡◌, take}
use Rattle.std.specs.Prelude.{filter}
use Rattle.cx_env.specs.Others.{is_private_cell}
use Rattle.cx_env.proofs.sharing.private_cells.Given as goal

abbrev pub invariant-loop-c : goal.invariant-loop-c
invariant-loop-c l = l.kept ≡ filter (is_private_cell l.forms l.env.facts) (take l.c-index l.c-items)
