-- Loads and stores in a valid memory.
use Rattle.std.proofs.Common.{◌≡◌, ℕ, zero, suc, ◌+◌, ◌-◌, ◌<◌, ◌≤◌, ◌^◌, max, List, [], ◌∷◌, length, get_or, set, Bool, true, false, Some, slice_get, refl, sym, ap, ◌∙◌, subst, subst₂, arith, ◌&&◌, nat_lt}
use Rattle.std.specs.List.{All}
use Rattle.std.proofs.Math.Seq.{map-set_same}
use Rattle.std.proofs.lemmas.List.{get_or-map, length-map}
use Rattle.std.proofs.lemmas.Bool.Decides.{nat_tests}
use Rattle.std.proofs.lemmas.Option.{slice_get_within, get_or_from_slice_get}
use Rattle.cx_base.specs.declared.memory.Region.{Region}
use Rattle.cx_base.specs.Memory.{Valid, InRange, IsArgument, meets}
use Rattle.cx_sorts.specs.TypedMemory.{Extent, extent, layout, number_at}
use Rattle.cx_sorts.specs.Meaning.{inside, load, store, with_number}

-- two regions that 8 bytes lie inside meet
elsewhere : (a : ℕ) (r s : Region) → meets r s ≡ false → inside a r ≡ true → inside a s ≡ false
elsewhere a r s apart here = grind (arith, nat_tests)

-- the first region that the 8 bytes from a on lie inside
load_there : (rs : List Region) (i : ℕ) (r : Region) (a : ℕ) → slice_get rs i ≡ Some r → inside a r ≡ true → ((j : ℕ) (s : Region) → j < i → slice_get rs j ≡ Some s → inside a s ≡ false) → load rs a ≡ Some (number_at r.bytes (a - r.base))
load_there [] i r a at here before = cc
load_there (s ∷ rs) zero r a at here before =
    let same : s ≡ r = cc in
    rw (same, here) refl
load_there (s ∷ rs) (suc i) r a at here before =
    let first : inside a s ≡ false = before 0 s (omega arith) refl in
    let rest : (j : ℕ) (t : Region) → j < i → slice_get rs j ≡ Some t → inside a t ≡ false = λ j t h e. before (suc j) t (omega arith) e in
    rw first (load_there rs i r a at here rest)

-- the region with a number written in it
abbrev pub written : Region → ℕ → ℕ → Region
written r a v = record r { bytes = with_number r.bytes (a - r.base) v }

store_there :
    (rs : List Region) (i : ℕ) (r : Region) (a v : ℕ) → slice_get rs i ≡ Some r → inside a r ≡ true
    → ((j : ℕ) (s : Region) → j < i → slice_get rs j ≡ Some s → inside a s ≡ false) → store rs a v ≡ Some (set rs i (written r a v))
store_there [] i r a v at here before = cc
store_there (s ∷ rs) zero r a v at here before =
    let same : s ≡ r = cc in
    rw (same, here) refl
store_there (s ∷ rs) (suc i) r a v at here before =
    let first : inside a s ≡ false = before 0 s (omega arith) refl in
    let rest : (j : ℕ) (t : Region) → j < i → slice_get rs j ≡ Some t → inside a t ≡ false = λ j t h e. before (suc j) t (omega arith) e in
    rw (first, store_there rs i r a v at here rest) refl

module _ (memory : List Region) (valid : Valid memory) (i : ℕ) (r : Region) (at : slice_get memory i ≡ Some r) where
  get : (d : Region) → get_or memory i d ≡ r
  get d = get_or_from_slice_get memory i r d at

  pub in_range : InRange r
  in_range = subst InRange (get r) (valid.ranges i r (slice_get_within memory i r at))

  before : (a : ℕ) → inside a r ≡ true → (j : ℕ) (s : Region) → j < i → slice_get memory j ≡ Some s → inside a s ≡ false
  before a here j s h e =
      let there : get_or memory j r ≡ s = get_or_from_slice_get memory j s r e in
      let meet : meets (get_or memory i r) (get_or memory j r) ≡ false = valid.apart j i r h (slice_get_within memory i r at) in
      let meet' : meets r s ≡ false = subst (λ (t : Region). meets r t ≡ false) there (subst (λ (t : Region). meets t (get_or memory j r) ≡ false) (get r) meet) in
      elsewhere a r s meet' here

  pub load_at : (offset : ℕ) → offset + 8 ≤ length r.bytes → load memory (r.base + offset) ≡ Some (number_at r.bytes offset)
  load_at offset fits =
      let here : inside (r.base + offset) r ≡ true = grind (arith, nat_tests) in
      let back : (r.base + offset) - r.base ≡ offset = omega arith in
      subst (λ (n : ℕ). load memory (r.base + offset) ≡ Some (number_at r.bytes n)) back
      (load_there memory i r (r.base + offset) at here (before (r.base + offset) here))

  pub store_at : (offset v : ℕ) → offset + 8 ≤ length r.bytes → store memory (r.base + offset) v ≡ Some (set memory i (record r { bytes = with_number r.bytes offset v }))
  store_at offset v fits =
      let here : inside (r.base + offset) r ≡ true = grind (arith, nat_tests) in
      let back : (r.base + offset) - r.base ≡ offset = omega arith in
      subst (λ (n : ℕ). store memory (r.base + offset) v ≡ Some (set memory i (record r { bytes = with_number r.bytes n v }))) back
      (store_there memory i r (r.base + offset) v at here (before (r.base + offset) here))

  pub same_layout : (bytes : List ℕ) → length bytes ≡ length r.bytes → layout (set memory i (record r { bytes = bytes })) ≡ layout memory
  same_layout bytes n =
      map-set_same extent memory i (record r { bytes = bytes }) r (rw (get r, n) refl)

-- whether regions meet is seen on the layout
abbrev meets_of : Extent → Extent → Bool
meets_of r s = nat_lt r.base (s.base + max s.size 1) && nat_lt s.base (r.base + max r.size 1)

in_range_of : (r s : Region) → extent r ≡ extent s → InRange s → InRange r
in_range_of r s e h = record {
  low = subst (λ (n : ℕ). 1 ≤ n) (sym (ap (λ (x : Extent). x.base) e)) h.low;
  high = subst (λ (x : Extent). x.base + max x.size 1 ≤ 2 ^ 47) (sym e) h.high;
  args = subst (λ (x : Extent). All IsArgument x.args) (sym e) h.args;
}

-- a memory is valid where another one of its layout is
pub valid_layout : (after memory : List Region) → layout after ≡ layout memory → Valid memory → Valid after
valid_layout after memory e valid =
    let many : length after ≡ length memory = sym (length-map after extent) ∙ ap length e ∙ length-map memory extent in
    let each : (k : ℕ) (d : Region) → k < length memory → extent (get_or after k d) ≡ extent (get_or memory k d) =
    λ k d h. sym (get_or-map extent after k d (extent d) (omega arith)) ∙ ap (λ (l : List Extent). get_or l k (extent d)) e ∙ get_or-map extent memory k d (extent d) h in
    record {
      ranges = λ k d h. in_range_of (get_or after k d) (get_or memory k d) (each k d (omega arith)) (valid.ranges k d (omega arith));
      apart = λ j k d h l.
          subst₂ (λ (x y : Extent). meets_of x y ≡ false) (sym (each k d (omega arith))) (sym (each j d (omega arith))) (valid.apart j k d h (omega arith));
      few = omega (arith, valid.few);
    }
