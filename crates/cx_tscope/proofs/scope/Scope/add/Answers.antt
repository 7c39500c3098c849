use Rattle.std.proofs.Common.{◌∙◌, ap, map, ℕ, List}
use Rattle.std.specs.Prelude.{Vec}
use Rattle.std.specs.declared.alloc.Global.{Global}
use Rattle.cx_base.proofs.Texts.{numbered_map}
use Rattle.cx_tscope.proofs.scope.Scope.add.Goals as goal

pub returns-clause-new : goal.returns-clause-new
returns-clause-new c =
    rw (← c.self.view_is, ← c.in_ok-from_slice.ensures.items)
    (ap (λ (vs : List (Vec ℕ Global)). map (λ w. w.items) vs) c.in_ok-new.ensures.keys ∙ numbered_map c.self.inside.texts.keys c.in_ok-from_slice.field-0)
