use Rattle.std.proofs.Common.{◌≡◌, ◌∙◌, ◌+◌, ◌≤◌, ◌⊎◌, ℕ, Bool, List, Some, ap, set, sym, subst, rules}
use Rattle.std.specs.Prelude.{slice_get, IfSome, IsSomeAnd}
use Rattle.cx_base.specs.declared.memory.Region.{Region}
use Rattle.cx_base.specs.Memory.{Valid, size_of, loaded, stored}
use Rattle.cx_base.specs.Number.{wrapped}
use Rattle.cx_base.proofs.Writing.{read_place, valid_stored, stored_new, stored_back, stored_apart, slice_get-set_other}
use Rattle.cx_base.proofs.memory.Memory.write.Goals as goal

-- the region that was there
place : (c : goal.After-self-1) → (slice_get c.self.inside.regions.items c.args.r ≡ Some c.index_mut.result.now) × (c.args.off + c.args.t.size ≤ size_of c.index_mut.result.now)
place c =
    let asks = subst (λ regions. IsSomeAnd (slice_get regions c.args.r) (λ region. c.args.off + c.args.t.size ≤ size_of region)) (sym c.self.view_is) c.requires in
    read_place c.self.inside.regions.items c.args.r c.index_mut.result.now (λ region. c.args.off + c.args.t.size ≤ size_of region) asks c.index_mut.ensures.value

-- the region that is there now
now : (c : goal.After-self-1) → c.store.new.r ≡ stored c.index_mut.result.now c.args.off c.args.t.size c.args.v
now c = search rules

pub invariant_of-self : goal.invariant_of-self
invariant_of-self c =
    subst (λ region. Valid (set c.self.inside.regions.items c.args.r region)) (sym (now c))
    (valid_stored c.self.inside.regions.items c.args.r c.args.off c.args.t.size c.args.v c.index_mut.result.now c.self.invariant (place c).0 (place c).1)

pub returns-clause-new : goal.returns-clause-new
returns-clause-new c =
    subst (λ regions. IfSome (slice_get regions c.args.r) (λ region. set c.self.inside.regions.items c.args.r c.store.new.r ≡ set regions c.args.r (stored region c.args.off c.args.t.size c.args.v))) c.self.view_is
    (subst (λ new. IfSome (slice_get c.self.inside.regions.items c.args.r) (λ region. set c.self.inside.regions.items c.args.r new ≡ set c.self.inside.regions.items c.args.r (stored region c.args.off c.args.t.size c.args.v))) (sym (now c))
    (stored_new c.self.inside.regions.items c.args.r c.args.off c.args.t.size c.args.v c.index_mut.result.now (place c).0))

pub returns-clause-read_back : goal.returns-clause-read_back
returns-clause-read_back c =
    subst (λ new. IsSomeAnd (slice_get (set c.self.inside.regions.items c.args.r new) c.args.r) (λ region. (signed : Bool) → loaded region c.args.off c.args.t.size signed ≡ wrapped c.args.t.size signed c.args.v)) (sym (now c))
    (stored_back c.self.inside.regions.items c.args.r c.args.off c.args.t.size c.args.v c.index_mut.result.now c.args.t.known (place c).0 (place c).1)

-- the clause, at a list of regions that was and a region that is there now
Apart : (c : goal.After-self-1) → List Region → Region → Type 0
Apart c old new = IfSome (slice_get old c.args.r) (λ before. IsSomeAnd (slice_get (set c.self.inside.regions.items c.args.r new) c.args.r)
    (λ after. (at size : ℕ) (signed : Bool) → (at + size ≤ c.args.off) ⊎ (c.args.off + c.args.t.size ≤ at) → loaded after at size signed ≡ loaded before at size signed))

pub returns-clause-read_apart : goal.returns-clause-read_apart
unfolding Apart
returns-clause-read_apart c =
    subst (λ old. Apart c old c.store.new.r) c.self.view_is
    (subst (λ new. Apart c c.self.inside.regions.items new) (sym (now c))
    (stored_apart c.self.inside.regions.items c.args.r c.args.off c.args.t.size c.args.v c.index_mut.result.now (place c).0 (place c).1))

pub returns-clause-others : goal.returns-clause-others
returns-clause-others c = λ i h. slice_get-set_other c.self.inside.regions.items c.args.r i c.store.new.r h ∙ ap (λ regions. slice_get regions i) c.self.view_is
