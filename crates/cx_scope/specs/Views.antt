-- The locals as the code holds them.
use Rattle.std.specs.Prelude.{map, reverse}
use Rattle.cx_ctree.specs.Types.{type_tree}
use Rattle.cx_scope.specs.Locals as spec
use Rattle.cx_scope.specs.declared.locals.Locals.{Locals}

abbrev pub locals_of : Locals → spec.Locals
locals_of l = record { types = map type_tree l.types; block = l.block.entries; outer = reverse (map (λ b. b.entries) l.outer) }
