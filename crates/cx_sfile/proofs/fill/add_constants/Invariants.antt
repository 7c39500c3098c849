use Rattle.std.proofs.Common.{◌≡◌, drop}
use Rattle.cx_ctable.specs.Firsts.{with_firsts}
use Rattle.cx_sfile.specs.Entries.{seen_meanings, of_constants}
use Rattle.cx_sfile.proofs.fill.add_constants.Given as goal

abbrev pub invariant-loop-c : goal.invariant-loop-c
invariant-loop-c l =
    with_firsts (seen_meanings l.meanings.entries) (of_constants (drop l.c-index l.consts)) ≡ with_firsts (seen_meanings l.fn.meanings.entries) (of_constants l.consts)
