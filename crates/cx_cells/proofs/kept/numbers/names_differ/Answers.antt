use Rattle.std.proofs.Common.{◌≡◌, ◌∙◌, map}
use Rattle.cx_cells.proofs.Differing.{differing}
use Rattle.cx_cells.proofs.kept.numbers.names_differ.Goals as goal

pub returns : goal.returns
returns g c =
    let p = differing g.T.Named.named c.args.items.now in
    let e : c.as_slice.result.now ≡ map g.T.Named.named c.args.items.now = c.as_slice.ensures ∙ c.in_ok-names.ensures in
    let h = rw e at c.in_ok-differ.ensures in
    ((λ x. p.0 (h.0 x)), (λ x. h.1 (p.1 x)))
