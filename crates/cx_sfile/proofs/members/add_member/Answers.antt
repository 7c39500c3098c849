use Rattle.std.proofs.Common.{sym, ap, ◌∙◌}
use Rattle.cx_ctree.specs.Types.{type_tree}
use Rattle.cx_ctable.proofs.Adding.{seen, any_seen, inserted_seen, first_added, first_kept}
use Rattle.cx_sfile.proofs.members.add_member.Goals as goal

pub returns-then-contains_key : goal.returns-then-contains_key
returns-then-contains_key c =
    first_kept (seen (λ t. type_tree t.now) c.args.types.now.entries) c.args.n (type_tree c.args.t.now)
    (any_seen (λ t. type_tree t.now) c.args.n c.args.types.now.entries ∙ sym c.contains_key.ensures ∙ c.if-contains_key.true)

pub returns : goal.returns
returns c =
    ap (seen (λ t. type_tree t.now)) c.in_ok-insert.ensures.entries
    ∙ inserted_seen (λ t. type_tree t.now) c.args.types.now.entries c.args.n c.args.t
    ∙ first_added (seen (λ t. type_tree t.now) c.args.types.now.entries) c.args.n (type_tree c.args.t.now)
    (any_seen (λ t. type_tree t.now) c.args.n c.args.types.now.entries ∙ sym c.contains_key.ensures ∙ c.if-contains_key.false)
