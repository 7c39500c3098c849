use Rattle.std.proofs.Common.{sym, ap, ◌∙◌}
use Rattle.std.specs.Prelude.{option_map}
use Rattle.cx_ctree.specs.Types.{type_tree}
use Rattle.cx_ctable.proofs.Adding.{lookup_seen}
use Rattle.cx_ctable.proofs.table.Table.object.Goals as goal

pub returns-in-Some : goal.returns-in-Some
returns-in-Some c = ap (option_map (λ t. type_tree t.now)) c.in-Some.ensures.value ∙ sym (lookup_seen (λ t. type_tree t.now) c.args.n c.args.self.now.objects.entries)

pub returns-in-None : goal.returns-in-None
returns-in-None c = ap (option_map (λ t. type_tree t.now)) c.in-None.ensures.value ∙ sym (lookup_seen (λ t. type_tree t.now) c.args.n c.args.self.now.objects.entries)
