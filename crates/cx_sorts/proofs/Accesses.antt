-- Where an access lies that the rules show.
use Rattle.std.proofs.Common.{◌≡◌, ℕ, ◌+◌, ◌<◌, ◌≤◌, ◌^◌, max, List, length, get_or, Bool, Option, Some, option_map, option_and_then, slice_get, refl, sym, ap, ◌∙◌, subst, arith, nat_eq, mod-eq_of_lt}
use Rattle.std.specs.List.{Contains, find}
use Rattle.std.specs.Option.{option_eq}
use Rattle.std.proofs.lemmas.Bool.Decides.{nat_tests}
use Rattle.std.proofs.lemmas.List.{length-map, get_or-map}
use Rattle.std.proofs.lemmas.Option.{slice_get_within, get_or_from_slice_get}
use Rattle.cx_base.specs.declared.memory.Region.{Region}
use Rattle.cx_base.specs.Memory.{InRange}
use Rattle.cx_form.specs.declared.tree.Word.{Word}
use Rattle.cx_form.specs.declared.tree.Struct.{Struct}
use Rattle.cx_form.specs.declared.tree.Argument.{Argument}
use Rattle.cx_form.specs.declared.tree.Cell.{Cell}
use Rattle.cx_form.specs.declared.tree.RegionType.{RegionType}
use Rattle.cx_form.specs.declared.tree.CFile.{CFile}
use Rattle.cx_form.specs.declared.tree.Function.{Function}
use Rattle.cx_form.specs.declared.tree.TypeFile.{TypeFile}
use Rattle.cx_sorts.specs.declared.verdict.Sort.{Sort}
use Rattle.cx_sorts.specs.Layout.{offset_of, struct_size}
use Rattle.cx_sorts.specs.TypedMemory.{Extent, extent, layout, Holds, HoldsCell, HoldsType, number_at}
use Rattle.cx_sorts.specs.Meaning.{State, member_offset, address_of, value_of}
use Rattle.cx_sorts.specs.Rules.{known_target, region_type, cell_at, within, held_at}
use Rattle.cx_sorts.proofs.Lists.{and_then_some, map_some, at_place, found}
use Rattle.cx_sorts.proofs.Memories.{in_range}
use Rattle.cx_sorts.proofs.Sorts.{Stands, known_points, same_target}

region_there : (memory : List Region) (e : Extent) → Contains (layout memory) e → (i : ℕ) × (r : Region) × (slice_get memory i ≡ Some r) × (extent r ≡ e)
region_there memory e (i, h, is) =
    let inside : i < length memory = omega (arith, length-map memory extent) in
    let (r, there) = at_place memory i inside in
    let same : get_or (layout memory) i e ≡ extent r = get_or-map extent memory i r e inside ∙ ap extent (get_or_from_slice_get memory i r r there) in
    (i, r, there, sym same ∙ is)

within_some : (size o p : ℕ) → within size o ≡ Some p → (p ≡ o) × (o + 8 ≤ size)
within_some size o p e = (grind (arith, nat_tests), grind (arith, nat_tests))

address_is :
    (c : CFile) (f : Function) (values : List ℕ) (p m : Word) (v n a : ℕ) → value_of f values p ≡ Some v → member_offset c f p m ≡ Some n → v + n < 2 ^ 64
    → v + n ≡ a → address_of c f values p m ≡ Some a
address_is c f values p m v n a value offset small is = rw (value, offset) (ap Some (mod-eq_of_lt small ∙ is))

-- the region that p->m lies in, of the type at place k, and what its cell there holds
pub record Met (c : CFile) (types : TypeFile) (f : Function) (s : State) (p m : Word) (k : ℕ) (held : Option Argument) : Type 0 where
  pub place : ℕ
  pub region : Region
  pub there : slice_get s.memory place ≡ Some region
  pub name : region.name ≡ k
  pub offset : ℕ
  pub address : address_of c f s.values p m ≡ Some (region.base + offset)
  pub room : offset + 8 ≤ length region.bytes
  pub hold : HoldsType c types (layout s.memory) region
  pub cell : cell_at hold.type hold.struct offset ≡ held

pub met :
    (c : CFile) (types : TypeFile) (f : Function) (sorts : List Sort) (s : State) (p m : Word) (k : ℕ) (held : Option Argument) → Stands c types f sorts s
    → known_target f sorts p ≡ Some k → held_at c types f k p m ≡ Some held → Met c types f s p m k held
met c types f sorts s p m k held stands known holds =
    let (v, value, points) = known_points c types f sorts s stands p k known in
    let (i, r, there, same) = region_there s.memory points.region points.there in
    let base : r.base ≡ v = ap (λ (e : Extent). e.base) same ∙ points.base in
    let name : r.name ≡ k = ap (λ (e : Extent). e.name) same ∙ points.name in
    let hold : HoldsType c types (layout s.memory) r =
    subst (HoldsType c types (layout s.memory)) (get_or_from_slice_get s.memory i r r there) (stands.typed.holds i r (slice_get_within s.memory i r there)) in
    let kind : region_type c types k ≡ Some (hold.type, hold.struct) =
    subst (λ (n : ℕ). region_type c types n ≡ Some (hold.type, hold.struct)) name (rw (hold.known, hold.tagged) refl) in
    let opened : option_map (cell_at hold.type hold.struct) (option_and_then (within (struct_size hold.struct)) (member_offset c f p m)) ≡ Some held =
    rw kind at holds in
    let (o, inside, cell) = map_some (cell_at hold.type hold.struct) (option_and_then (within (struct_size hold.struct)) (member_offset c f p m)) held opened in
    let (n, offset, fits) = and_then_some (within (struct_size hold.struct)) (member_offset c f p m) o inside in
    let (is, room) = within_some (struct_size hold.struct) n o fits in
    let low : InRange r = in_range s.memory stands.typed.valid i r there in
    let size : length r.bytes ≡ struct_size hold.struct = hold.size in
    let high : r.base + max (length r.bytes) 1 ≤ 2 ^ 47 = low.high in
    let small : v + n < 2 ^ 64 = omega arith in
    record {
      place = i;
      region = r;
      there = there;
      name = name;
      offset = o;
      address = address_is c f s.values p m v n (r.base + o) value offset small (omega arith);
      room = omega arith;
      hold = hold;
      cell = cell;
    }

-- the cell that holds it
pub cell_there :
    (type : RegionType) (s : Struct) (offset : ℕ) (a : Argument) → cell_at type s offset ≡ Some a
    → (j : ℕ) × (cell : Cell) × (slice_get type.cells j ≡ Some cell) × (offset_of s cell.member ≡ Some offset) × (cell.holds ≡ a)
cell_there type s offset a e =
    let test : Cell → Bool = λ cell. option_eq nat_eq (offset_of s cell.member) (Some offset) in
    let (cell, first, holds) = map_some (λ (cell : Cell). cell.holds) (find test type.cells) a e in
    let (j, there, passes, place) = found test type.cells cell first in
    (j, cell, there, same_target (offset_of s cell.member) offset passes, holds)

-- the bytes there hold what the cell holds
pub met_holds :
    (c : CFile) (types : TypeFile) (regions : List Extent) (r : Region) (hold : HoldsType c types regions r) (offset : ℕ) (a : Argument)
    → cell_at hold.type hold.struct offset ≡ Some a → Holds types regions a (number_at r.bytes offset)
met_holds c types regions r hold offset a e =
    let (j, cell, there, of_member, holds) = cell_there hold.type hold.struct offset a e in
    let here : HoldsCell types regions hold.struct r.bytes cell =
    subst (HoldsCell types regions hold.struct r.bytes) (get_or_from_slice_get hold.type.cells j cell cell there)
    (hold.cells j cell (slice_get_within hold.type.cells j cell there)) in
    let same : here.offset ≡ offset = cc (here.of_member, of_member) in
    subst (λ (b : Argument). Holds types regions b (number_at r.bytes offset)) holds
    (subst (λ (n : ℕ). Holds types regions cell.holds (number_at r.bytes n)) same here.holds)
