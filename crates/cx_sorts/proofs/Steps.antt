-- A statement that the rules accept goes on, and keeps what they say of the variables.
use Rattle.std.proofs.Common.{◌≡◌, ℕ, ◌+◌, ◌<◌, ◌^◌, List, length, set, map, Bool, true, false, Option, Some, None, Result, Ok, Err, ok_or, option_map, slice_set, refl, sym, ap, ◌∙◌, subst, arith, if◌then◌else◌, length-set}
use Rattle.std.specs.List.{AllZip, Contains, find}
use Rattle.std.specs.Option.{option_map_or}
use Rattle.std.specs.Str.{bytes_eq}
use Rattle.std.proofs.lemmas.List.Elements.{All-set}
use Rattle.std.proofs.lemmas.Option.{slice_get_within, get_or_from_slice_get}
use Rattle.cx_base.specs.declared.memory.Region.{Region}
use Rattle.cx_base.specs.Memory as memory
use Rattle.cx_form.specs.declared.tree.Word.{Word}
use Rattle.cx_form.specs.declared.tree.Struct.{Struct}
use Rattle.cx_form.specs.declared.tree.Parameter.{Parameter}
use Rattle.cx_form.specs.declared.tree.Argument.{Argument}
use Rattle.cx_form.specs.declared.tree.Statement.{Statement}
use Rattle.cx_form.specs.declared.tree.Statement.TheVariants.{Load, Store}
use Rattle.cx_form.specs.declared.tree.CFile.{CFile}
use Rattle.cx_form.specs.declared.tree.Function.{Function}
use Rattle.cx_form.specs.declared.tree.TypeFile.{TypeFile}
use Rattle.cx_form.specs.Form.{IsCForm, IsStruct, IsTypeForm, IsRegion, IsStatement, variable_type, ctype_of}
use Rattle.cx_sorts.specs.declared.verdict.Access.{Access}
use Rattle.cx_sorts.specs.declared.verdict.Sort.{Sort}
use Rattle.cx_sorts.specs.declared.verdict.Sort.TheVariants.{Any}
use Rattle.cx_sorts.specs.Chain.{◌>>=◌}
use Rattle.cx_sorts.specs.Names.{same_name, variable}
use Rattle.cx_sorts.specs.TypedMemory.{Extent, layout, Holds, HoldsType, number_at}
use Rattle.cx_sorts.specs.Meaning.{State, MemoryAccess, cover, load, store, step, with_value, with_number}
use Rattle.cx_sorts.specs.Rules.{sort_of, known_target, held_at, fits, may_store, loaded, rule}
use Rattle.cx_sorts.proofs.Bytes.{number_at-below, with_number-length}
use Rattle.cx_sorts.proofs.Lists.{map_some, ok_or_then, found, all_zip_set}
use Rattle.cx_sorts.proofs.Memories.{load_at, store_at, same_layout}
use Rattle.cx_sorts.proofs.Sorts.{SortHolds, Stands, sort_holds, fits_holds, variable_value}
use Rattle.cx_sorts.proofs.Accesses.{Met, met, met_holds}
use Rattle.cx_sorts.proofs.Layouts.{member_text}
use Rattle.cx_sorts.proofs.Stores.{IsWhole, stored_holds, stored_typed}

-- an access that was made is the one that the rules list
pub record Meets (access : Access) (made : MemoryAccess) : Type 0 where
  pub region : Region
  pub there : Contains made.memory region
  pub inside : memory.Holds region made.address made.size
  pub span : access.span ≡ made.span
  pub name : access.name ≡ region.name

-- the statement goes on
pub record Goes (c : CFile) (types : TypeFile) (f : Function) (next : List Sort) (access : Access) (s : State) (statement : Statement) : Type 0 where
  pub made : MemoryAccess
  pub after : State
  pub is : step c f s statement ≡ Ok (made, after)
  pub stands : Stands c types f next after
  pub same : layout after.memory ≡ layout s.memory
  pub meets : Meets access made

-- a variable of a C type has a place
pub variable_place : (f : Function) (x : Word) (t : Option (List ℕ)) → variable_type f.parameters x.text ≡ Some t → (i : ℕ) × (variable f x ≡ Some i)
variable_place f x t e =
    let test : Parameter → Bool = λ p. same_name p.name x in
    let (p, first, type) = map_some (λ (p : Parameter). ctype_of p.ctype) (find test f.parameters) t e in
    let (i, there, passes, place) = found test f.parameters p first in
    (i, place)

-- the cells of a region type of the form are its struct's members
pub whole : (c : CFile) (types : TypeFile) (regions : List Extent) (r : Region) (hold : HoldsType c types regions r) → IsCForm c → IsTypeForm c types → IsWhole c types regions r hold
whole c types regions r hold cform tform =
    let region : IsRegion c.structs types.regions hold.type =
    subst (IsRegion c.structs types.regions) (get_or_from_slice_get types.regions r.name hold.type hold.type hold.known)
    (tform.each_region r.name hold.type (slice_get_within types.regions r.name hold.type hold.known))
    in
    let test : Struct → Bool = λ s. bytes_eq s.name.text hold.type.tag.text in
    let (i, there, passes, place) = found test c.structs hold.struct hold.tagged in
    let struct : IsStruct c.structs hold.struct =
    subst (IsStruct c.structs) (get_or_from_slice_get c.structs i hold.struct hold.struct there)
    (cform.each_struct i hold.struct (slice_get_within c.structs i hold.struct there))
    in
    let same : region.struct ≡ hold.struct = cc (region.tagged, hold.tagged) in
    record {
      once = struct.once;
      order = region.in_order ∙ ap (λ (s : Struct). map member_text s.members) same;
    }

loaded_holds : (types : TypeFile) (regions : List Extent) (held : Option Argument) (v : ℕ) → ((a : Argument) → held ≡ Some a → Holds types regions a v) → SortHolds regions (option_map_or (sort_of types) held Any) v
loaded_holds types regions None v h = tt
loaded_holds types regions (Some a) v h = sort_holds types regions a v (h a refl)

stored_type : (types : TypeFile) (target : Option ℕ) (held : Option Argument) → may_store types target held ≡ true → (a : Argument) × (held ≡ Some a) × (fits types target a ≡ true)
stored_type types target None e = cc
stored_type types target (Some a) e = (a, refl, e)

ok_same : {A : Type 0} (x y : A) → ◌≡◌ {A = Result A ℕ} (Ok x) (Ok y) → x ≡ y
ok_same x y e = cc

guarded : {A : Type 0} (b : Bool) (x y : A) (n : ℕ) → (if b then Ok x else Err n) ≡ Ok y → (b ≡ true) × (x ≡ y)
guarded true x y n e = (refl, cc)
guarded false x y n e = cc

-- the access to p->m is inside the region
reaches :
    (c : CFile) (types : TypeFile) (f : Function) (s : State) (p m : Word) (k : ℕ) (held : Option Argument) (at : Met c types f s p m k held)
    → Meets (record { span = cover p m; name = k }) (record { span = cover p m; address = at.region.base + at.offset; size = 8; memory = s.memory })
reaches c types f s p m k held at = record {
  region = at.region;
  there = (at.place, slice_get_within s.memory at.place at.region at.there, get_or_from_slice_get s.memory at.place at.region at.region at.there);
  inside = record { from = omega arith; to = omega (arith, at.room) };
  span = refl;
  name = sym at.name;
}

module _ (c : CFile) (types : TypeFile) (f : Function) (cform : IsCForm c) (tform : IsTypeForm c types) (sorts : List Sort) (s : State) (stands : Stands c types f sorts s) where
  load_goes :
      (x p m : Word) (k : ℕ) (held : Option Argument) (i : ℕ) → known_target f sorts p ≡ Some k → held_at c types f k p m ≡ Some held → variable f x ≡ Some i
      → Goes c types f (slice_set sorts i (option_map_or (sort_of types) held Any)) (record { span = cover p m; name = k }) s (Load x p m)
  load_goes x p m k held i known there place =
      let at : Met c types f s p m k held = met c types f sorts s p m k held stands known there in
      let v : ℕ = number_at at.region.bytes at.offset in
      let value : load s.memory (at.region.base + at.offset) ≡ Some (number_at at.region.bytes at.offset) =
      load_at s.memory stands.typed.valid at.place at.region at.there at.offset at.room
      in
      let small : number_at at.region.bytes at.offset < 2 ^ 64 = number_at-below at.region.bytes at.offset at.hold.bytes at.room in
      let holds : SortHolds (layout s.memory) (option_map_or (sort_of types) held Any) (number_at at.region.bytes at.offset) =
      loaded_holds types (layout s.memory) held (number_at at.region.bytes at.offset)
      (λ a e. met_holds c types (layout s.memory) at.region at.hold at.offset a (at.cell ∙ e))
      in
      let set_is : with_value f s.values x (number_at at.region.bytes at.offset) ≡ Some (slice_set s.values i (number_at at.region.bytes at.offset)) =
      ap (option_map (λ (n : ℕ). slice_set s.values n (number_at at.region.bytes at.offset))) place
      in
      record {
        made = record { span = cover p m; address = at.region.base + at.offset; size = 8; memory = s.memory };
        after = record { values = slice_set s.values i (number_at at.region.bytes at.offset); memory = s.memory };
        is = rw (at.address, value, set_is) refl;
        stands = record {
          typed = stands.typed;
          count = length-set s.values i (number_at at.region.bytes at.offset) ∙ stands.count;
          small = All-set (λ n. n < 2 ^ 64) s.values i (number_at at.region.bytes at.offset) small stands.small;
          sorted = all_zip_set (SortHolds (layout s.memory)) sorts s.values i (option_map_or (sort_of types) held Any) (number_at at.region.bytes at.offset) stands.sorted holds;
        };
        same = refl;
        meets = reaches c types f s p m k held at;
      }

  store_goes :
      (p m x : Word) (k : ℕ) (held : Option Argument) (i : ℕ) → known_target f sorts p ≡ Some k → held_at c types f k p m ≡ Some held → variable f x ≡ Some i
      → may_store types (known_target f sorts x) held ≡ true → Goes c types f sorts (record { span = cover p m; name = k }) s (Store p m x)
  store_goes p m x k held i known there place may =
      let at : Met c types f s p m k held = met c types f sorts s p m k held stands known there in
      let (v, value, small, points) = variable_value c types f sorts s stands x i place in
      let (a, held_is, fit) = stored_type types (known_target f sorts x) held may in
      let holds : Holds types (layout s.memory) a v = fits_holds types (layout s.memory) (known_target f sorts x) a v points fit in
      let bytes : List ℕ = with_number at.region.bytes at.offset v in
      let stored : store s.memory (at.region.base + at.offset) v ≡ Some (set s.memory at.place (record at.region { bytes = with_number at.region.bytes at.offset v })) =
      store_at s.memory stands.typed.valid at.place at.region at.there at.offset v at.room
      in
      let n : length (with_number at.region.bytes at.offset v) ≡ length at.region.bytes = with_number-length at.region.bytes at.offset v at.room in
      let same : layout (set s.memory at.place (record at.region { bytes = with_number at.region.bytes at.offset v })) ≡ layout s.memory =
      same_layout s.memory stands.typed.valid at.place at.region at.there (with_number at.region.bytes at.offset v) n
      in
      let new : HoldsType c types (layout s.memory) (record at.region { bytes = with_number at.region.bytes at.offset v }) =
      stored_holds c types (layout s.memory) at.region at.hold (whole c types (layout s.memory) at.region at.hold cform tform) at.offset v a at.room
      (at.cell ∙ held_is) small holds
      in
      record {
        made = record { span = cover p m; address = at.region.base + at.offset; size = 8; memory = s.memory };
        after = record { values = s.values; memory = set s.memory at.place (record at.region { bytes = with_number at.region.bytes at.offset v }) };
        is = rw (value, at.address, stored) refl;
        stands = record {
          typed = stored_typed c types s.memory at.place at.region (with_number at.region.bytes at.offset v) stands.typed at.there n new;
          count = stands.count;
          small = stands.small;
          sorted = subst (λ (l : List Extent). AllZip (SortHolds l) sorts s.values) (sym same) stands.sorted;
        };
        same = same;
        meets = reaches c types f s p m k held at;
      }

  pub goes :
      (statement : Statement) (access : Access) (next : List Sort) → IsStatement c.structs f.parameters statement → rule c types f sorts statement ≡ Ok (access, next)
      → Goes c types f next access s statement
  goes (Load x p m) access next form ruled =
      let on_held : ℕ → Option Argument → Result (Access × List Sort) ℕ = λ k held. Ok (record { span = cover p m; name = k }, loaded types f sorts x held) in
      let (k, known, rest) = ok_or_then (known_target f sorts p) 2 (λ (k : ℕ). ok_or (held_at c types f k p m) 4 >>= on_held k) (access, next) ruled in
      let (held, there, taken) = ok_or_then (held_at c types f k p m) 4 (on_held k) (access, next) rest in
      let (i, place) = variable_place f x form.type form.of_left in
      let both : ◌≡◌ {A = Access × List Sort} (record { span = cover p m; name = k }, loaded types f sorts x held) (access, next) =
      ok_same (record { span = cover p m; name = k }, loaded types f sorts x held) (access, next) taken
      in
      let access_is : record { span = cover p m; name = k } ≡ access = ap (λ t. t.0) both in
      let next_is : slice_set sorts i (option_map_or (sort_of types) held Any) ≡ next =
      sym (ap (λ (o : Option ℕ). option_map_or (λ (n : ℕ). slice_set sorts n (option_map_or (sort_of types) held Any)) o sorts) place) ∙ ap (λ t. t.1) both
      in
      subst (λ (a : Access). Goes c types f next a s (Load x p m)) access_is
      (subst (λ (l : List Sort). Goes c types f l (record { span = cover p m; name = k }) s (Load x p m)) next_is (load_goes x p m k held i known there place))
  goes (Store p m x) access next form ruled =
      let on_held : ℕ → Option Argument → Result (Access × List Sort) ℕ =
      λ k held. if may_store types (known_target f sorts x) held then Ok (record { span = cover p m; name = k }, sorts) else Err 5
      in
      let (k, known, rest) = ok_or_then (known_target f sorts p) 2 (λ (k : ℕ). ok_or (held_at c types f k p m) 4 >>= on_held k) (access, next) ruled in
      let (held, there, taken) = ok_or_then (held_at c types f k p m) 4 (on_held k) (access, next) rest in
      let (i, place) = variable_place f x form.type form.of_right in
      let (may, same) = guarded (may_store types (known_target f sorts x) held) (record { span = cover p m; name = k }, sorts) (access, next) 5 taken in
      let access_is : record { span = cover p m; name = k } ≡ access = ap (λ t. t.0) same in
      let next_is : sorts ≡ next = ap (λ t. t.1) same in
      subst (λ (a : Access). Goes c types f next a s (Store p m x)) access_is
      (subst (λ (l : List Sort). Goes c types f l (record { span = cover p m; name = k }) s (Store p m x)) next_is (store_goes p m x k held i known there place may))
