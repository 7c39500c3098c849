-- At most one region of a memory holds some bytes.
use Rattle.std.proofs.Common.{◌≡◌, ◌<◌, ℕ, List, Option, Some, None, false, length, arith, get_or, refl, subst}
use Rattle.std.specs.Prelude.{slice_get, IsSomeAnd}
use Rattle.std.proofs.lemmas.Bool.Decides.{nat_tests}
use Rattle.std.proofs.lemmas.Option.{get_or_from_slice_get, slice_get_within}
use Rattle.cx_base.specs.declared.memory.Region.{Region}
use Rattle.cx_base.specs.Memory.{Valid, Holds, meets}
use Rattle.cx_base.specs.Number.{HasSize}
use Rattle.cx_base.proofs.Sizes.{at_sizes}

has_bytes : (k : ℕ) → HasSize k → 0 < k
has_bytes k h = at_sizes (λ n. 0 < n) (omega arith) (omega arith) (omega arith) (omega arith) k h

-- regions that hold the same bytes meet
meet_held : (r s : Region) (a k : ℕ) → 0 < k → Holds r a k → Holds s a k → meets r s ≡ false → ⊥
meet_held r s a k some h g e = grind (arith, nat_tests, h.from, h.to, g.from, g.to, e, some)

-- a place that has a region that holds the bytes
held_place : (rs : List Region) (i a k : ℕ) → IsSomeAnd (slice_get rs i) (λ r. Holds r a k) → (r : Region) × (slice_get rs i ≡ Some r) × Holds r a k
held_place rs i a k h = by_case (slice_get rs i) refl h
  where
    by_case : (o : Option Region) → slice_get rs i ≡ o → IsSomeAnd o (λ r. Holds r a k) → (r : Region) × (slice_get rs i ≡ Some r) × Holds r a k
    by_case None e h = absurd h
    by_case (Some r) e h = (r, e, h)

not_below : (rs : List Region) (i j a k : ℕ) → Valid rs → HasSize k → IsSomeAnd (slice_get rs i) (λ r. Holds r a k) → IsSomeAnd (slice_get rs j) (λ r. Holds r a k) → i < j → ⊥
not_below rs i j a k valid size h g less =
    let x = held_place rs i a k h in
    let y = held_place rs j a k g in
    let within : j < length rs = slice_get_within rs j y.0 y.1 in
    let e : meets (get_or rs j x.0) (get_or rs i x.0) ≡ false = valid.apart i j x.0 less within in
    let e' = subst (λ r. meets r (get_or rs i x.0) ≡ false) (get_or_from_slice_get rs j y.0 x.0 y.1) e in
    let e'' = subst (λ r. meets y.0 r ≡ false) (get_or_from_slice_get rs i x.0 x.0 x.1) e' in
    meet_held y.0 x.0 a k (has_bytes k size) y.2 x.2 e''

pub only_holder : (rs : List Region) (i j a k : ℕ) → Valid rs → HasSize k → IsSomeAnd (slice_get rs i) (λ r. Holds r a k) → IsSomeAnd (slice_get rs j) (λ r. Holds r a k) → j ≡ i
only_holder rs i j a k valid size h g =
    let up : i < j → ⊥ = not_below rs i j a k valid size h g in
    let down : j < i → ⊥ = not_below rs j i a k valid size g h in
    omega (arith, up, down)
