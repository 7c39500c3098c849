use Rattle.std.proofs.Common.{◌≡◌, Option, subst}
use Rattle.std.specs.Prelude.{IfOk}
use Rattle.cx_base.specs.declared.span.Span.{Span}
use Rattle.cx_ctree.specs.Units.{unit_tree}
use Rattle.cx_tmeasure.specs.Known.{known_in}
use Rattle.cx_tmeasure.specs.Views.{known_of}
use Rattle.cx_tsizes.specs.Views.{regions_as}
use Rattle.cx_tsizes.proofs.Forms.{found_told}
use Rattle.cx_tsizes.proofs.items.bad_size.Goals as goal

pub returns : goal.returns
returns c =
    subst (λ (x : Option Span). IfOk c.bad_in_items.result (λ s. s ≡ x))
    (found_told (known_of c.in_ok-known.known) (known_in (unit_tree c.args.unit.now)) _ (regions_as c.no_regions-regions.result) c.as_slice-items.result.now c.args.surface.now.items
    c.in_ok-known.ensures c.in_ok-add_items.ensures c.no_regions-regions.ensures c.as_slice-items.ensures)
    c.bad_in_items.ensures
