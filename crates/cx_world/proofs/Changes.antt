-- Where no type is shared, nothing can be changed.
use Rattle.std.proofs.Common.{◌≡◌, ℕ, true, false, ◌==◌, List, [], ◌∷◌, Option, Some, None, refl, length, slice_get}
use Rattle.std.specs.List.{list_all}
use Rattle.cx_base.specs.declared.memory.Region.{Region}
use Rattle.cx_base.proofs.General.{both_true, not_both_ways}
use Rattle.cx_cells.specs.declared.script.Rewrite.{Rewrite}
use Rattle.cx_world.specs.Laws.{OnlySharedChange}
use Rattle.cx_world.specs.Oracle.{Oracle}
use Rattle.cx_world.specs.World.{may_rewrite}

none_rewritten : (o : Oracle) → ((n : ℕ) → o.is_shared n ≡ false) → (x : Option Region) (size : ℕ) → may_rewrite o x size ≡ true → ⊥
none_rewritten o none None size h = cc h
none_rewritten o none (Some r) size h = not_both_ways (o.is_shared r.name) (both_true (o.is_shared r.name) (length r.bytes == size) h).0 (none r.name)

no_rewrites : (o : Oracle) (rs : List Region) → ((n : ℕ) → o.is_shared n ≡ false) → (ws : List Rewrite) → list_all (λ w. may_rewrite o (slice_get rs w.region) (length w.bytes)) ws ≡ true → ws ≡ []
no_rewrites o rs none [] h = refl
no_rewrites o rs none (w ∷ ws) h = absurd (none_rewritten o none (slice_get rs w.region) (length w.bytes) (both_true (may_rewrite o (slice_get rs w.region) (length w.bytes)) _ h).0)

none_added : (o : Oracle) → ((n : ℕ) → o.is_shared n ≡ false) → (rs : List Region) → list_all (λ r. o.is_shared r.name) rs ≡ true → rs ≡ []
none_added o none [] h = refl
none_added o none (r ∷ rs) h = absurd (not_both_ways (o.is_shared r.name) (both_true (o.is_shared r.name) _ h).0 (none r.name))

pub only_shared_change : OnlySharedChange
only_shared_change o c rs none h =
    let a = both_true (list_all (λ w. may_rewrite o (slice_get rs w.region) (length w.bytes)) c.rewrites) _ h in
    let b = both_true (list_all (λ r. o.is_shared r.name) c.added) _ a.1 in (no_rewrites o rs none c.rewrites a.0, none_added o none c.added b.0)
