use Rattle.std.proofs.Common.{◌∙◌, ◌<◌, ◌-◌, ◌^◌, ap, sym, subst, length, map, ℕ, List}
use Rattle.std.specs.Prelude.{Vec}
use Rattle.std.specs.declared.alloc.Global.{Global}
use Rattle.cx_base.specs.Names.{Numbering}
use Rattle.cx_base.proofs.Texts.{numbered_map, numbered-Numbering}
use Rattle.cx_base.proofs.names.Names.insert.Goals as goal

pub invariant_of-self-2 : goal.invariant_of-self-2
invariant_of-self-2 c =
    let old : List (Vec ℕ Global) = c.self.inside.texts.keys in
    let text : Vec ℕ Global = c.in_ok-from_slice.field-0 in
    let room = subst (λ texts. length texts < 2 ^ 32 - 1) (sym c.self.view_is) c.requires in
    let e = ap (λ (vs : List (Vec ℕ Global)). map (λ w. w.items) vs) c.in_ok-n.ensures.keys ∙ numbered_map old text in
    subst Numbering (sym e) (numbered-Numbering (map (λ w. w.items) old) text.items c.self.invariant room)

pub returns-clause-new : goal.returns-clause-new
returns-clause-new c =
    rw (← c.self.view_is, ← c.in_ok-from_slice.ensures.items)
    (ap (λ (vs : List (Vec ℕ Global)). map (λ w. w.items) vs) c.in_ok-n.ensures.keys ∙ numbered_map c.self.inside.texts.keys c.in_ok-from_slice.field-0)
