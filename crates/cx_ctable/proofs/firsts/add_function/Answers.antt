use Rattle.std.proofs.Common.{sym, ap, ◌∙◌}
use Rattle.cx_ctree.specs.Decls.{signature_tree}
use Rattle.cx_ctable.proofs.Adding.{seen, any_seen, inserted_seen, first_added, first_kept}
use Rattle.cx_ctable.proofs.firsts.add_function.Goals as goal

pub returns-then-contains_key : goal.returns-then-contains_key
returns-then-contains_key c =
    first_kept (seen (λ s. signature_tree s.now) c.args.functions.now.entries) c.args.s.now.name (signature_tree c.args.s.now)
    (any_seen (λ s. signature_tree s.now) c.args.s.now.name c.args.functions.now.entries ∙ sym c.contains_key.ensures ∙ c.if-contains_key.true)

pub returns : goal.returns
returns c =
    ap (seen (λ s. signature_tree s.now)) c.in_ok-insert.ensures.entries
    ∙ inserted_seen (λ s. signature_tree s.now) c.args.functions.now.entries c.args.s.now.name c.args.s
    ∙ first_added (seen (λ s. signature_tree s.now) c.args.functions.now.entries) c.args.s.now.name (signature_tree c.args.s.now)
    (any_seen (λ s. signature_tree s.now) c.args.s.now.name c.args.functions.now.entries ∙ sym c.contains_key.ensures ∙ c.if-contains_key.false)
