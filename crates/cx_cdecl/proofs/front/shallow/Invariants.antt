use Rattle.std.proofs.Common.{◌≡◌, ◌≤◌, ◌-◌, ◌++◌, length, take, drop}
use Rattle.cx_cdecl.specs.Reading.{shallow_at}
use Rattle.cx_cdecl.proofs.front.shallow.Given as goal

abbrev pub decreases-each : goal.decreases-each
decreases-each l = length l.lexemes - l.i

abbrev pub invariant-each : goal.invariant-each
invariant-each l = record {
  told : take l.i l.lexemes ++ shallow_at l.n (drop l.i l.lexemes) ≡ shallow_at 0 l.lexemes;
  within : l.i ≤ length l.lexemes;
  low : l.n ≤ 100;
}
