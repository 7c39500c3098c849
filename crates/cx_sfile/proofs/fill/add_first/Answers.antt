use Rattle.std.proofs.Common.{sym, ap, ◌∙◌}
use Rattle.cx_sname.specs.Meanings.{meaning_tree}
use Rattle.cx_sfile.specs.Entries.{seen_meanings}
use Rattle.cx_ctable.proofs.Adding.{any_seen, inserted_seen, first_added, first_kept}
use Rattle.cx_sfile.proofs.fill.add_first.Goals as goal

pub returns-then-contains_key : goal.returns-then-contains_key
returns-then-contains_key c =
    first_kept (seen_meanings c.args.meanings.now.entries) c.args.n (meaning_tree c.args.meaning)
    (any_seen meaning_tree c.args.n c.args.meanings.now.entries ∙ sym c.contains_key.ensures ∙ c.if-contains_key.true)

pub returns : goal.returns
returns c =
    ap seen_meanings c.in_ok-insert.ensures.entries
    ∙ inserted_seen meaning_tree c.args.meanings.now.entries c.args.n c.args.meaning
    ∙ first_added (seen_meanings c.args.meanings.now.entries) c.args.n (meaning_tree c.args.meaning)
    (any_seen meaning_tree c.args.n c.args.meanings.now.entries ∙ sym c.contains_key.ensures ∙ c.if-contains_key.false)
