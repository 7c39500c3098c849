-- A store of a fitting value keeps a memory typed.
use Rattle.std.proofs.Common.{◌≡◌, ℕ, ◌+◌, ◌*◌, ◌<◌, ◌≤◌, ◌^◌, ◌⊎◌, inl, inr, List, length, get_or, set, map, Some, slice_get, sym, ap, ◌∙◌, subst, arith}
use Rattle.std.specs.List.{All, IsDistinct}
use Rattle.std.specs.Str.{bytes_eq}
use Rattle.std.proofs.lemmas.List.Elements.{All-set}
use Rattle.std.proofs.lemmas.Option.{slice_get_within, get_or_from_slice_get}
use Rattle.cx_base.specs.declared.memory.Region.{Region}
use Rattle.cx_form.specs.declared.tree.Argument.{Argument}
use Rattle.cx_form.specs.declared.tree.Cell.{Cell}
use Rattle.cx_form.specs.declared.tree.CFile.{CFile}
use Rattle.cx_form.specs.declared.tree.TypeFile.{TypeFile}
use Rattle.cx_sorts.specs.Layout.{offset_of}
use Rattle.cx_sorts.specs.TypedMemory.{Extent, layout, Holds, HoldsCell, HoldsType, Typed, number_at}
use Rattle.cx_sorts.specs.Meaning.{with_number}
use Rattle.cx_sorts.specs.Rules.{cell_at}
use Rattle.cx_sorts.proofs.Bytes.{with_number-length, with_number-bytes, number_at-with_number_same, number_at-with_number_before, number_at-with_number_after}
use Rattle.cx_sorts.proofs.Layouts.{member_text, cell_text, cell_offset}
use Rattle.cx_sorts.proofs.Memories.{same_layout, valid_layout}
use Rattle.cx_sorts.proofs.Accesses.{cell_there}

in_order : (i j : ℕ) → (i ≡ j) ⊎ (i < j) ⊎ (j < i)
in_order i j = grind arith

-- the cells of a region type are its struct's members, each once
pub record IsWhole (c : CFile) (types : TypeFile) (regions : List Extent) (r : Region) (hold : HoldsType c types regions r) : Type 0 where
  pub once : IsDistinct bytes_eq (map member_text hold.struct.members)
  pub order : map cell_text hold.type.cells ≡ map member_text hold.struct.members

module _ (c : CFile) (types : TypeFile) (regions : List Extent) (r : Region) (hold : HoldsType c types regions r) (whole : IsWhole c types regions r hold)
    (offset v : ℕ) (a : Argument) (room : offset + 8 ≤ length r.bytes) (at : cell_at hold.type hold.struct offset ≡ Some a)
    (small : v < 2 ^ 64) (holds : Holds types regions a v) where
  -- each cell holds its type: the one at the offset the new value, another one what it held
  cell_holds : (j : ℕ) (d : Cell) → j < length hold.type.cells → HoldsCell types regions hold.struct (with_number r.bytes offset v) (get_or hold.type.cells j d)
  cell_holds j d h =
      let (i, cell, there, of_member, is) = cell_there hold.type hold.struct offset a at in
      let found : get_or hold.type.cells i d ≡ cell = get_or_from_slice_get hold.type.cells i cell d there in
      let written : offset_of hold.struct (get_or hold.type.cells i d).member ≡ Some (8 * i) =
      cell_offset hold.struct hold.type.cells i d whole.once whole.order (slice_get_within hold.type.cells i cell there) in
      let written' : offset_of hold.struct cell.member ≡ Some (8 * i) = subst (λ (x : Cell). offset_of hold.struct x.member ≡ Some (8 * i)) found written in
      let at_offset : offset ≡ 8 * i = cc (of_member, written') in
      let old : HoldsCell types regions hold.struct r.bytes (get_or hold.type.cells j d) = hold.cells j d h in
      let here : offset_of hold.struct (get_or hold.type.cells j d).member ≡ Some (8 * j) =
      cell_offset hold.struct hold.type.cells j d whole.once whole.order h in
      let at_old : old.offset ≡ 8 * j = cc (old.of_member, here) in
      let kept : number_at (with_number r.bytes offset v) old.offset ≡ number_at r.bytes old.offset
      → HoldsCell types regions hold.struct (with_number r.bytes offset v) (get_or hold.type.cells j d) =
      λ e. record {
        offset = old.offset;
        of_member = old.of_member;
        holds = subst (Holds types regions (get_or hold.type.cells j d).holds) (sym e) old.holds;
      }
      in
      elim (in_order i j) [
        | inl same ↦
            let there' : get_or hold.type.cells j d ≡ cell = subst (λ (n : ℕ). get_or hold.type.cells n d ≡ cell) same found in
            let value : number_at (with_number r.bytes offset v) offset ≡ v = number_at-with_number_same r.bytes offset v room small in
            let target : a ≡ (get_or hold.type.cells j d).holds = sym (ap (λ (x : Cell). x.holds) there' ∙ is) in
            let now : Holds types regions (get_or hold.type.cells j d).holds v = subst (λ (b : Argument). Holds types regions b v) target holds in
            record {
              offset = offset;
              of_member = subst (λ (x : Cell). offset_of hold.struct x.member ≡ Some offset) (sym there') of_member;
              holds = subst (Holds types regions (get_or hold.type.cells j d).holds) (sym value) now;
            }
        | inr (inl less) ↦ kept (number_at-with_number_after r.bytes offset v room old.offset (omega arith))
        | inr (inr more) ↦ kept (number_at-with_number_before r.bytes offset v room old.offset (omega arith))
      ]

  pub stored_holds : HoldsType c types regions (record r { bytes = with_number r.bytes offset v })
  stored_holds = record {
    type = hold.type;
    known = hold.known;
    struct = hold.struct;
    tagged = hold.tagged;
    args = hold.args;
    size = with_number-length r.bytes offset v room ∙ hold.size;
    bytes = with_number-bytes r.bytes offset v room hold.bytes;
    cells = cell_holds;
  }

-- the memory with a region changed to one of its extent that holds its type
pub stored_typed :
    (c : CFile) (types : TypeFile) (memory : List Region) (i : ℕ) (r : Region) (bytes : List ℕ) → Typed c types memory → slice_get memory i ≡ Some r
    → length bytes ≡ length r.bytes → HoldsType c types (layout memory) (record r { bytes = bytes }) → Typed c types (set memory i (record r { bytes = bytes }))
stored_typed c types memory i r bytes typed there n hold =
    let same : layout (set memory i (record r { bytes = bytes })) ≡ layout memory = same_layout memory typed.valid i r there bytes n in
    record {
      valid = valid_layout (set memory i (record r { bytes = bytes })) memory same typed.valid;
      holds = subst (λ (l : List Extent). All (HoldsType c types l) (set memory i (record r { bytes = bytes }))) (sym same)
          (All-set (HoldsType c types (layout memory)) memory i (record r { bytes = bytes }) hold typed.holds);
    }
