-- What the sorts of variables say of their values.
use Rattle.std.proofs.Common.{◌≡◌, ℕ, ◌<◌, ◌^◌, List, length, Bool, true, false, Option, Some, None, option_and_then, slice_get, refl, sym, ap, ◌∙◌, subst, arith, nat_eq, nat_lt, ◌^◌, if◌then◌else◌}
use Rattle.std.specs.List.{All, AllZip, Contains, position}
use Rattle.std.specs.Option.{option_map_or, option_eq}
use Rattle.std.proofs.lemmas.Bool.Decides.{nat_tests}
use Rattle.std.proofs.lemmas.Option.{slice_get_within, get_or_from_slice_get}
use Rattle.cx_form.specs.declared.tree.Word.{Word}
use Rattle.cx_form.specs.declared.tree.Parameter.{Parameter}
use Rattle.cx_form.specs.declared.tree.Argument.{Argument}
use Rattle.cx_form.specs.declared.tree.Argument.TheVariants as argument
use Rattle.cx_form.specs.declared.tree.CFile.{CFile}
use Rattle.cx_form.specs.declared.tree.Function.{Function}
use Rattle.cx_form.specs.declared.tree.TypeFile.{TypeFile}
use Rattle.cx_sorts.specs.declared.verdict.Sort.{Sort}
use Rattle.cx_sorts.specs.declared.verdict.Sort.TheVariants.{Any, Pointer}
use Rattle.cx_sorts.specs.Names.{same_name, variable, place_of}
use Rattle.cx_sorts.specs.TypedMemory.{Extent, layout, IsBase, Holds, Typed}
use Rattle.cx_sorts.specs.Meaning.{State, value_of}
use Rattle.cx_sorts.specs.Rules.{region_of, sort_of, target_of, known_target, fits}
use Rattle.cx_sorts.proofs.Lists.{and_then_some, at_place, all_zip_at}

-- the number is the base of a region whose type stands at place k
pub record Points (regions : List Extent) (k v : ℕ) : Type 0 where
  pub region : Extent
  pub there : Contains regions region
  pub base : region.base ≡ v
  pub name : region.name ≡ k

abbrev pub SortHolds : List Extent → Sort → ℕ → Type 0
SortHolds regions Any v = Unit {0}
SortHolds regions (Pointer k) v = Points regions k v

limited : (place : Option ℕ) (k : ℕ) → option_and_then (λ n. if nat_lt n (2 ^ 32) then Some n else None) place ≡ Some k → place ≡ Some k
limited None k e = cc
limited (Some n) k e = ap Some (grind (arith, nat_tests))

sort_at : (types : TypeFile) (regions : List Extent) (name : Word) (v : ℕ) (place : Option ℕ) → region_of types name ≡ place → IsBase types regions name v → SortHolds regions (option_map_or Pointer place Any) v
sort_at types regions name v None is h = tt
sort_at types regions name v (Some k) is h =
    let named : place_of types name ≡ Some k = limited (place_of types name) k is in
    record { region = h.region; there = h.there; base = h.base; name = cc (named, h.named) }

pub sort_holds : (types : TypeFile) (regions : List Extent) (a : Argument) (v : ℕ) → Holds types regions a v → SortHolds regions (sort_of types a) v
sort_holds types regions argument.Any v h = tt
sort_holds types regions (argument.Pointer name) v h = sort_at types regions name v (region_of types name) refl h

pub same_target : (known : Option ℕ) (k : ℕ) → option_eq nat_eq known (Some k) ≡ true → known ≡ Some k
same_target None k e = cc
same_target (Some t) k e = ap Some (grind (arith, nat_tests))

fits_at :
    (types : TypeFile) (regions : List Extent) (known : Option ℕ) (name : Word) (v : ℕ) (place : Option ℕ) → region_of types name ≡ place
    → ((k : ℕ) → known ≡ Some k → Points regions k v) → option_map_or (λ k. option_eq nat_eq known (Some k)) place false ≡ true → IsBase types regions name v
fits_at types regions known name v None is points e = cc
fits_at types regions known name v (Some k) is points e =
    let p : Points regions k v = points k (same_target known k e) in
    record { region = p.region; there = p.there; base = p.base; named = limited (place_of types name) k is ∙ ap Some (sym p.name) }

-- a value that fits a type holds it
pub fits_holds :
    (types : TypeFile) (regions : List Extent) (known : Option ℕ) (a : Argument) (v : ℕ) → ((k : ℕ) → known ≡ Some k → Points regions k v)
    → fits types known a ≡ true → Holds types regions a v
fits_holds types regions known argument.Any v points e = tt
fits_holds types regions known (argument.Pointer name) v points e = fits_at types regions known name v (region_of types name) refl points e

place_within : {A : Type 0} (p : A → Bool) (xs : List A) (i : ℕ) → position p xs ≡ Some i → i < length xs
place_within p xs i e = grind (arith, nat_tests)

-- the memory is typed, and the values of the variables have their sorts
pub record Stands (c : CFile) (types : TypeFile) (f : Function) (sorts : List Sort) (s : State) : Type 0 where
  pub typed : Typed c types s.memory
  pub count : length s.values ≡ length f.parameters
  pub small : All (λ v. v < 2 ^ 64) s.values
  pub sorted : AllZip (SortHolds (layout s.memory)) sorts s.values

target_points : (regions : List Extent) (sort : Sort) (k v : ℕ) → target_of sort ≡ Some k → SortHolds regions sort v → Points regions k v
target_points regions Any k v e h = cc
target_points regions (Pointer m) k v e h =
    let same : m ≡ k = cc in
    subst (λ (n : ℕ). Points regions n v) same h

module _ (c : CFile) (types : TypeFile) (f : Function) (sorts : List Sort) (s : State) (stands : Stands c types f sorts s) where
  pub value_small : (i v : ℕ) → slice_get s.values i ≡ Some v → v < 2 ^ 64
  value_small i v there =
      subst (λ (n : ℕ). n < 2 ^ 64) (get_or_from_slice_get s.values i v v there) (stands.small i v (slice_get_within s.values i v there))

  -- the value of a variable of known target
  pub known_points : (x : Word) (k : ℕ) → known_target f sorts x ≡ Some k → (v : ℕ) × (value_of f s.values x ≡ Some v) × Points (layout s.memory) k v
  known_points x k e =
      let (sort, has, target) = and_then_some target_of (option_and_then (slice_get sorts) (variable f x)) k e in
      let (i, place, there) = and_then_some (slice_get sorts) (variable f x) sort has in
      let (v, value, holds) = all_zip_at (SortHolds (layout s.memory)) sorts s.values i sort stands.sorted there in
      (v, ap (option_and_then (slice_get s.values)) place ∙ value, target_points (layout s.memory) sort k v target holds)

  -- every variable has a value
  pub variable_value :
      (x : Word) (i : ℕ) → variable f x ≡ Some i
      → (v : ℕ) × (value_of f s.values x ≡ Some v) × (v < 2 ^ 64) × ((k : ℕ) → known_target f sorts x ≡ Some k → Points (layout s.memory) k v)
  variable_value x i e =
      let many : i < length f.parameters = place_within (λ (p : Parameter). same_name p.name x) f.parameters i e in
      let (v, there) = at_place s.values i (omega (arith, stands.count)) in
      let value : value_of f s.values x ≡ Some v = ap (option_and_then (slice_get s.values)) e ∙ there in (
        v,
        value,
        value_small i v there,
        λ k known.
            let (w, is, points) = known_points x k known in
            let same : w ≡ v = cc in
            subst (λ (n : ℕ). Points (layout s.memory) k n) same points,
      )
