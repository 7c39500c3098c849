-- A memory after a store in one of its regions.
use Rattle.std.proofs.Common.{◌≡◌, ◌≢◌, ◌+◌, ◌<◌, ◌≤◌, ◌⊎◌, ℕ, zero, suc, ℤ, Bool, List, [], ◌∷◌, Option, Some, None, length, length-set, arith, get_or, set, refl, ap, sym, subst, ◌∙◌}
use Rattle.std.specs.Prelude.{All, slice_get, IfSome, IsSomeAnd}
use Rattle.std.proofs.lemmas.List.Elements.{All-set}
use Rattle.std.proofs.lemmas.Option.{get_or_from_slice_get, slice_get_within}
use Rattle.cx_base.specs.declared.memory.Region.{Region}
use Rattle.cx_base.specs.Memory.{Valid, InRange, IsArgument, size_of, meets, loaded, stored}
use Rattle.cx_base.specs.Number.{HasSize, wrapped}
use Rattle.cx_base.proofs.Storing.{load-stored, load-apart, size_of-stored}

slice_get-set_same : {X : Type 0} (xs : List X) (i : ℕ) (x y : X) → slice_get xs i ≡ Some x → slice_get (set xs i y) i ≡ Some y
slice_get-set_same [] i x y e = absurd (cc e)
slice_get-set_same (z ∷ xs) zero x y e = refl
slice_get-set_same (z ∷ xs) (suc i) x y e = slice_get-set_same xs i x y e

pub slice_get-set_other : {X : Type 0} (xs : List X) (i j : ℕ) (y : X) → j ≢ i → slice_get (set xs i y) j ≡ slice_get xs j
slice_get-set_other [] i j y h = refl
slice_get-set_other (z ∷ xs) zero zero y h = absurd (h refl)
slice_get-set_other (z ∷ xs) zero (suc j) y h = refl
slice_get-set_other (z ∷ xs) (suc i) zero y h = refl
slice_get-set_other (z ∷ xs) (suc i) (suc j) y h = slice_get-set_other xs i j y (λ e. h (ap suc e))

-- regions of the same base and size meet the same regions
meets_alike : (a b c d : Region) → a.base ≡ c.base → size_of a ≡ size_of c → b.base ≡ d.base → size_of b ≡ size_of d → meets a b ≡ meets c d
meets_alike a b c d e f g h = cc

same_place : (rs : List Region) (i : ℕ) (x y : Region) → slice_get rs i ≡ Some x → y.base ≡ x.base → size_of y ≡ size_of x
    → (k : ℕ) (d : Region) → ((get_or (set rs i y) k d).base ≡ (get_or rs k d).base) × (size_of (get_or (set rs i y) k d) ≡ size_of (get_or rs k d))
same_place [] i x y e f g k d = (refl, refl)
same_place (z ∷ rs) zero x y e f g zero d = (let h : z ≡ x = cc in f ∙ ap (λ r. r.base) (sym h), let h : z ≡ x = cc in g ∙ ap size_of (sym h))
same_place (z ∷ rs) zero x y e f g (suc k) d = (refl, refl)
same_place (z ∷ rs) (suc i) x y e f g zero d = (refl, refl)
same_place (z ∷ rs) (suc i) x y e f g (suc k) d = same_place rs i x y e f g k d

valid_set : (rs : List Region) (i : ℕ) (x y : Region) → Valid rs → slice_get rs i ≡ Some x → y.base ≡ x.base → size_of y ≡ size_of x → y.args ≡ x.args → Valid (set rs i y)
valid_set rs i x y valid e f g h =
    let within : i < length rs = slice_get_within rs i x e in
    let was : InRange x = subst InRange (get_or_from_slice_get rs i x x e) (valid.ranges i x within) in
    let now : InRange y = record {
      low = omega (arith, was.low, f);
      high = omega (arith, was.high, f, g);
      args = subst (λ args. All IsArgument args) (sym h) was.args;
    } in
    record {
      ranges = All-set InRange rs i y now valid.ranges;
      apart = λ k j d less below.
          let a = same_place rs i x y e f g k d in
          let b = same_place rs i x y e f g j d in
          let short : j < length rs = omega (arith, length-set {A = Region}) in
          meets_alike (get_or (set rs i y) j d) (get_or (set rs i y) k d) (get_or rs j d) (get_or rs k d) b.0 b.1 a.0 a.1 ∙ valid.apart k j d less short;
      few = omega (arith, length-set {A = Region}, valid.few);
    }

pub valid_stored : (rs : List Region) (i off size : ℕ) (v : ℤ) (x : Region) → Valid rs → slice_get rs i ≡ Some x → off + size ≤ size_of x → Valid (set rs i (stored x off size v))
valid_stored rs i off size v x valid e inside = valid_set rs i x (stored x off size v) valid e refl (size_of-stored x off size v inside) refl

pub stored_new : (rs : List Region) (i off size : ℕ) (v : ℤ) (x : Region) → slice_get rs i ≡ Some x → IfSome (slice_get rs i) (λ region. set rs i (stored x off size v) ≡ set rs i (stored region off size v))
stored_new rs i off size v x e = subst (λ o. IfSome o (λ region. set rs i (stored x off size v) ≡ set rs i (stored region off size v))) (sym e) refl

pub stored_back : (rs : List Region) (i off size : ℕ) (v : ℤ) (x : Region) → HasSize size → slice_get rs i ≡ Some x → off + size ≤ size_of x
    → IsSomeAnd (slice_get (set rs i (stored x off size v)) i) (λ region. (signed : Bool) → loaded region off size signed ≡ wrapped size signed v)
stored_back rs i off size v x h e inside =
    subst (λ o. IsSomeAnd o (λ region. (signed : Bool) → loaded region off size signed ≡ wrapped size signed v)) (sym (slice_get-set_same rs i x (stored x off size v) e))
    (λ signed. load-stored x off size v signed h inside)

pub stored_apart : (rs : List Region) (i off size : ℕ) (v : ℤ) (x : Region) → slice_get rs i ≡ Some x → off + size ≤ size_of x
    → IfSome (slice_get rs i) (λ before. IsSomeAnd (slice_get (set rs i (stored x off size v)) i) (λ after. (at k : ℕ) (signed : Bool) → (at + k ≤ off) ⊎ (off + size ≤ at) → loaded after at k signed ≡ loaded before at k signed))
stored_apart rs i off size v x e inside =
    subst (λ o. IfSome o (λ before. IsSomeAnd (slice_get (set rs i (stored x off size v)) i) (λ after. (at k : ℕ) (signed : Bool) → (at + k ≤ off) ⊎ (off + size ≤ at) → loaded after at k signed ≡ loaded before at k signed))) (sym e)
    (subst (λ o. IsSomeAnd o (λ after. (at k : ℕ) (signed : Bool) → (at + k ≤ off) ⊎ (off + size ≤ at) → loaded after at k signed ≡ loaded x at k signed)) (sym (slice_get-set_same rs i x (stored x off size v) e))
    (load-apart x off size v inside))

-- a place that has an element with P, and the element that is read there
pub read_place : {X : Type 0} (xs : List X) (i : ℕ) (x : X) (P : X → Type 0) → IsSomeAnd (slice_get xs i) P → x ≡ get_or xs i x → (slice_get xs i ≡ Some x) × P x
read_place {X = X} xs i x P h read = by_case (slice_get xs i) refl h
  where
    by_case : (o : Option X) → slice_get xs i ≡ o → IsSomeAnd o P → (slice_get xs i ≡ Some x) × P x
    by_case None e h = absurd h
    by_case (Some z) e h =
        let same : z ≡ x = sym (get_or_from_slice_get xs i z x e) ∙ sym read in (e ∙ ap Some same, subst P same h)
