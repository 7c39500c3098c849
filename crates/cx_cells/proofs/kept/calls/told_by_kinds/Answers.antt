use Rattle.std.proofs.Common.{ap, sym, ◌∙◌, below_more, arith}
use Rattle.std.specs.Option.{is_some}
use Rattle.std.specs.Prelude.{IsTrue, false}
use Rattle.cx_cells.proofs.kept.calls.told_by_kinds.Goals as goal

pub returns-then-is_none : goal.returns-then-is_none
returns-then-is_none c = (
  (λ h. absurd (let e : IsTrue false = h in cc)),
  (λ h. sym (c.if-is_none.ensures) ∙ (ap is_some c.telling_kind.ensures ∙ h c.loop-s.s (omega arith))),
)

pub loop-s-preserved : goal.loop-s-preserved
loop-s-preserved c =
    below_more _ _ c.loop-s.invariant (sym (ap is_some c.telling_kind.ensures) ∙ c.if-is_none.ensures)
