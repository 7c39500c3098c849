use Rattle.std.proofs.Common.{◌≡◌, map}
use Rattle.cx_ctree.specs.Types.{type_tree}
use Rattle.cx_ctree.specs.Decls.{member_tree}
use Rattle.cx_cname.specs.Known.{known_of}
use Rattle.cx_cdecl.specs.Reading.{member_names_at}
use Rattle.cx_cdecl.proofs.member.member_names.Given as goal

abbrev pub decreases-each : goal.decreases-each
decreases-each l = l.n

abbrev pub invariant-each : goal.invariant-each
invariant-each l = member_names_at l.turns (known_of l.known) (type_tree l.base) l.n (map member_tree l.members) l.rest ≡ member_names_at l.turns (known_of l.known) (type_tree l.base) l.turns (map member_tree l.fn.before) l.fn.lexemes
