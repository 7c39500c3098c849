use Rattle.std.proofs.Common.{sym, ◌∙◌}
use Rattle.cx_ctable.proofs.Adding.{any_found, first_added, first_kept}
use Rattle.cx_ctable.proofs.firsts.add_place.Goals as goal

pub returns-then-contains_key : goal.returns-then-contains_key
returns-then-contains_key c =
    first_kept c.args.places.now.entries c.args.n c.args.at (any_found c.args.n c.args.places.now.entries ∙ sym c.contains_key.ensures ∙ c.if-contains_key.true)

pub returns : goal.returns
returns c =
    c.in_ok-insert.ensures.entries
    ∙ first_added c.args.places.now.entries c.args.n c.args.at (any_found c.args.n c.args.places.now.entries ∙ sym c.contains_key.ensures ∙ c.if-contains_key.false)
