use Rattle.std.proofs.Common.{◌≡◌, ◌∙◌, map}
use Rattle.cx_cells.proofs.Differing.{apart}
use Rattle.cx_cells.proofs.kept.numbers.names_apart.Goals as goal

pub returns : goal.returns
returns g c =
    let p = apart g.T.Named.named g.U.Named.named c.args.items.now c.args.others.now in
    let e : c.as_slice.result.now ≡ map g.T.Named.named c.args.items.now = c.as_slice.ensures ∙ c.in_ok-names.ensures in
    let f : c.as_slice-2.result.now ≡ map g.U.Named.named c.args.others.now = c.as_slice-2.ensures ∙ c.in_ok-taken.ensures in
    let h = rw (e, f) at c.in_ok-apart.ensures in
    ((λ x. p.0 (h.0 x)), (λ x. h.1 (p.1 x)))
