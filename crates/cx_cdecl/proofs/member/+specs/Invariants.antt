use Rattle.std.proofs.Common.{◌≡◌, ◌≤◌, [], map}
use Rattle.cx_ctree.specs.Decls.{member_tree}
use Rattle.cx_cname.specs.Known.{known_of, earlier_of}
use Rattle.cx_cname.specs.Changes.{past}
use Rattle.cx_cdecl.specs.Reading.{members_at}
use Rattle.cx_cdecl.proofs.member.+specs.Given as goal

abbrev pub decreases-specs : goal.decreases-specs
decreases-specs l = l.n

abbrev pub decreases-specifier : goal.decreases-specifier
decreases-specifier l = l.n

abbrev pub decreases-members : goal.decreases-members
decreases-members l = l.n

abbrev pub decreases-line : goal.decreases-line
decreases-line l = l.n

abbrev pub decreases-members-each : goal.decreases-members-each
decreases-members-each l = l.left

abbrev pub invariant-members-each : goal.invariant-members-each
invariant-members-each l = record {
  told : members_at l.turns (earlier_of l.fn.known) l.left (known_of l.known) (map member_tree l.so_far) l.rest ≡ members_at l.turns (earlier_of l.fn.known) l.n (known_of l.fn.known) [] l.fn.lexemes;
  within : l.left ≤ l.n;
  kept : past l.changes l.known ≡ past l.fn.changes l.fn.known;
  items : l.known.items ≡ l.fn.known.items;
}
