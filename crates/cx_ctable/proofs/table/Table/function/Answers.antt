use Rattle.std.proofs.Common.{sym, ap, ◌∙◌}
use Rattle.std.specs.Prelude.{option_map}
use Rattle.cx_ctree.specs.Decls.{signature_tree}
use Rattle.cx_ctable.proofs.Adding.{lookup_seen}
use Rattle.cx_ctable.proofs.table.Table.function.Goals as goal

pub returns-in-Some : goal.returns-in-Some
returns-in-Some c = ap (option_map (λ s. signature_tree s.now)) c.in-Some.ensures.value ∙ sym (lookup_seen (λ s. signature_tree s.now) c.args.n c.args.self.now.functions.entries)

pub returns-in-None : goal.returns-in-None
returns-in-None c = ap (option_map (λ s. signature_tree s.now)) c.in-None.ensures.value ∙ sym (lookup_seen (λ s. signature_tree s.now) c.args.n c.args.self.now.functions.entries)
