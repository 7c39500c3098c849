use Rattle.std.proofs.Common.{◌≡◌, length, map, min, refl}
use Rattle.cx_ctree.specs.Exprs.{expr_tree}
use Rattle.cx_lneed.proofs.Needing.{counted}
use Rattle.cx_lneed.proofs.need.call_need.Goals as goal

pub returns : goal.returns
returns c =
    let count : c.capped-count.result ≡ min (length (map expr_tree c.args.call.now.args)) 200 = let e = counted c.args.call.now.args in cc in
    c.greater.ensures.capped _ _ refl (c.greater-both.ensures.capped _ _ c.given_need-given.ensures count)
