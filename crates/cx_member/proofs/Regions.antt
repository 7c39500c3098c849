-- Of two regions of a memory with one base there is but one.
use Rattle.std.specs.Prelude.{◌≡◌, ◌↔◌, ℕ, ℤ, pos, ◌<◌, ◌≤◌, ◌^◌, List, [], length, Any, slice_get, IsSomeAnd, IfSome, unsigned_abs, true, false, nat_lt, Option, Some, None}
use Rattle.std.proofs.Common.{arith, refl, sym, ap, ◌∙◌, get_or}
use Rattle.std.proofs.lemmas.Int.{ints}
use Rattle.std.proofs.lemmas.Bool.Decides.{nat_tests}
use Rattle.std.proofs.lemmas.List.{get_or-map, length-map}
use Rattle.std.proofs.lemmas.Option.{get_or_from_slice_get, slice_get_within, slice_get-get_or}
use Rattle.cx_base.specs.Memory.{Valid, IsArgument, meets, past_of}
use Rattle.cx_base.specs.declared.memory.Region.{Region}
use Rattle.cx_term.proofs.Tests.{and_both}
use Rattle.cx_cells.specs.Layouts.{Extent, extent_of, layout_of, IsAt}
use Rattle.cx_member.specs.Reading.{AreSmall, Stands}
use Rattle.cx_member.proofs.Places.{some_and}

before_past : (r s : Region) → r.base ≡ s.base → nat_lt r.base (past_of s) ≡ true
before_past r s e = let h : r.base < past_of s = omega arith in grind (arith, nat_tests)

meet_at_base : (r s : Region) → r.base ≡ s.base → meets r s ≡ false → ⊥
meet_at_base r s e m =
    let t : meets r s ≡ true = and_both _ _ (before_past r s e) (before_past s r (sym e)) in
    absurd (let z : true ≡ false = sym t ∙ m in cc)

pub same_place : (rs : List Region) → Valid rs → (i j : ℕ) (d : Region) → i < length rs → j < length rs → (get_or rs i d).base ≡ (get_or rs j d).base → i ≡ j
same_place rs v i j d g h e =
    let a : i < j → ⊥ = λ l. meet_at_base (get_or rs j d) (get_or rs i d) (sym e) (v.apart i j d l h) in
    let b : j < i → ⊥ = λ l. meet_at_base (get_or rs i d) (get_or rs j d) e (v.apart j i d l g) in
    omega arith

extent_at : (rs : List Region) (j : ℕ) (d : Region) (e : Extent) → j < length rs → get_or (layout_of rs) j e ≡ extent_of (get_or rs j d)
extent_at rs j d e h = get_or-map extent_of rs j d e h

module _ (rs : List Region) (valid : Valid rs) (i : ℕ) (r : Region) (here : slice_get rs i ≡ Some r) (name : ℕ) (base : ℤ) (stands : Stands name base r) (args : List ℤ) where
  within : i < length rs
  within = slice_get_within rs i r here

  at_i : get_or rs i r ≡ r
  at_i = get_or_from_slice_get rs i r r here

  to_args : Any (IsAt name args base) (layout_of rs) → r.args ≡ args
  to_args (j, e, l, g, at) =
      let m : j < length rs = omega (arith, length-map rs extent_of) in
      let x : extent_of (get_or rs j r) ≡ e = sym (extent_at rs j r e m) ∙ g in
      let b : pos (get_or rs j r).base ≡ base = ap (λ (y : Extent). pos y.base) x ∙ at.based in
      let s : (get_or rs i r).base ≡ (get_or rs j r).base = let p = stands.based in let q = ap (λ (y : Region). y.base) at_i in omega (arith, ints) in
      let k : i ≡ j = same_place rs valid i j r within m s in
      let y : extent_of (get_or rs i r) ≡ e = ap (λ n. extent_of (get_or rs n r)) k ∙ x in
      sym (ap (λ (y : Region). y.args) at_i) ∙ ap (λ (y : Extent). y.args) y ∙ at.given

  from_args : r.args ≡ args → Any (IsAt name args base) (layout_of rs)
  from_args g = (
    i,
    extent_of r,
    omega (arith, within, length-map rs extent_of),
    extent_at rs i r (extent_of r) within ∙ ap extent_of at_i,
    record { named = stands.named; given = g; based = stands.based },
  )

found_by : (rs : List Region) → Valid rs → (i name : ℕ) (base : ℤ) (x o : Option Region) → slice_get rs i ≡ x → o ≡ x → IsSomeAnd x (Stands name base) → (args : List ℤ) → Any (IsAt name args base) (layout_of rs) ↔ IsSomeAnd o (λ r. r.args ≡ args)
found_by rs valid i name base None o g e h args = absurd h
found_by rs valid i name base (Some r) o g e h args = rw e (to_args rs valid i r g name base h args, from_args rs valid i r g name base h args)

-- the region that stands at the place is the only one of its base
pub found : (rs : List Region) → Valid rs → (i name : ℕ) (base : ℤ) (o : Option Region) → o ≡ slice_get rs i → IsSomeAnd (slice_get rs i) (Stands name base) → (args : List ℤ) → Any (IsAt name args base) (layout_of rs) ↔ IsSomeAnd o (λ r. r.args ≡ args)
found rs valid i name base o e h args = found_by rs valid i name base (slice_get rs i) o refl e h args

-- none stands at any place
pub missed : (rs : List Region) (name : ℕ) (base : ℤ) → ((k : ℕ) → k < length rs → IsSomeAnd (slice_get rs k) (Stands name base) → ⊥) → (args : List ℤ) → Any (IsAt name args base) (layout_of rs) → ⊥
missed rs name base none args (j, e, l, g, at) = none j m (some_and (Stands name base) (slice_get rs j) r (slice_get-get_or rs j d m) (record { named = ap (λ (y : Extent). y.name) x ∙ at.named; based = ap (λ (y : Extent). pos y.base) x ∙ at.based }))
  where
    m : j < length rs
    m = omega (arith, length-map rs extent_of)

    d : Region
    d = record { base = e.base; name = e.name; args = e.args; bytes = [] }

    r : Region
    r = get_or rs j d

    x : extent_of r ≡ e
    x = sym (extent_at rs j d e m) ∙ g

argument_small : (a : ℤ) → IsArgument a → unsigned_abs a ≤ 2 ^ 64
argument_small a h = omega (arith, ints, h.low, h.high)

small_in : (rs : List Region) → Valid rs → (i : ℕ) (o : Option Region) → slice_get rs i ≡ o → IfSome o (λ r. AreSmall r.args)
small_in rs valid i None e = tt
small_in rs valid i (Some r) e =
    let g : get_or rs i r ≡ r = get_or_from_slice_get rs i r r e in
    λ k d h. argument_small _ ((rw g at (valid.ranges i r (slice_get_within rs i r e))).args k d h)

-- the arguments of a region of a memory are small
pub args_small : (rs : List Region) → Valid rs → (i : ℕ) (o : Option Region) → o ≡ slice_get rs i → IfSome o (λ r. AreSmall r.args)
args_small rs valid i o e = small_in rs valid i o (sym e)
