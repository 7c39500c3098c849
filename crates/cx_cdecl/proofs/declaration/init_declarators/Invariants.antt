use Rattle.std.proofs.Common.{◌≡◌, [], map}
use Rattle.cx_ctree.specs.Types.{type_tree}
use Rattle.cx_ctree.specs.Decls.{decl_tree}
use Rattle.cx_cname.specs.Known.{known_of, earlier_of}
use Rattle.cx_cname.specs.Changes.{past}
use Rattle.cx_cdecl.specs.Reading.{init_declarators_at}
use Rattle.cx_cdecl.proofs.declaration.init_declarators.Given as goal

abbrev pub decreases-each : goal.decreases-each
decreases-each l = l.n

abbrev pub invariant-each : goal.invariant-each
invariant-each l = record {
  told : init_declarators_at l.turns (earlier_of l.fn.known) (type_tree l.s.ctype) l.s.said.typedef_ l.n (known_of l.known) (map decl_tree l.decls) l.rest ≡ init_declarators_at l.turns (earlier_of l.fn.known) (type_tree l.s.ctype) l.s.said.typedef_ l.turns (known_of l.fn.known) [] l.s.rest.now;
  kept : past l.changes l.known ≡ past l.fn.changes l.fn.known;
  items : l.known.items ≡ l.fn.known.items;
}
