use Rattle.cx_cells.proofs.Pairs.{pairs_at}
use Rattle.cx_cells.proofs.kept.pairs.apart_from_later.Goals as goal

pub returns : goal.returns
returns g c =
    let p = pairs_at g.T.Apart.apart c.args.items.now c.args.i c.index-items-i.result c.requires c.index-items-i.is in
    ((λ h. p.0 (c.apart_from_all.ensures.0 h)), (λ h. c.apart_from_all.ensures.1 (p.1 h)))
