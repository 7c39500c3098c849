use Rattle.std.proofs.Common.{◌≡◌, ◌≤◌, []}
use Rattle.std.specs.Prelude.{map}
use Rattle.cx_ctree.specs.Exprs.{effect_tree}
use Rattle.cx_ctree.specs.Path.{greatest, effect_path}
use Rattle.cx_cname.specs.Known.{known_of}
use Rattle.cx_ceffect.specs.Reading.{effects_at}
use Rattle.cx_ceffect.proofs.read.effects.Given as goal

abbrev pub invariant-each : goal.invariant-each
invariant-each l = record {
  told : effects_at (known_of l.known) l.n l.left (map effect_tree l.all) l.rest ≡ effects_at (known_of l.known) l.turns l.left [] l.fn.lexemes;
  measured : l.height ≡ greatest effect_path (map effect_tree l.all);
  low : l.height ≤ l.left;
}

abbrev pub decreases-each : goal.decreases-each
decreases-each l = l.n
