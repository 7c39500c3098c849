-- The structs of the form: all members have 8 bytes, so the member at place j stands at 8 * j.
use Rattle.std.proofs.Common.{◌≡◌, ℕ, zero, suc, ◌+◌, ◌*◌, ◌<◌, List, [], ◌∷◌, length, get_or, map, true, false, Some, refl, sym, ap, ◌∙◌, subst, arith}
use Rattle.std.specs.List.{IsDistinct}
use Rattle.std.specs.Int.{next_multiple_of}
use Rattle.std.specs.Str.{bytes_eq}
use Rattle.std.proofs.lemmas.List.{length-map, get_or-map}
use Rattle.std.proofs.lemmas.List.Elements.{All-from_recursion}
use Rattle.std.proofs.lemmas.Slice.Eq.{bytes_eq-Decides}
use Rattle.cx_form.specs.declared.tree.Word.{Word}
use Rattle.cx_form.specs.declared.tree.Member.{Member}
use Rattle.cx_form.specs.declared.tree.Struct.{Struct}
use Rattle.cx_form.specs.declared.tree.Cell.{Cell}
use Rattle.cx_form.specs.declared.tree.ValueType.{ValueType}
use Rattle.cx_form.specs.declared.tree.ValueType.TheVariants.{UnsignedLong, Pointer}
use Rattle.cx_sorts.specs.Layout.{size_of, alignment_of, ends, offset_from, offset_of}

begins_aligned : (n : ℕ) (t : ValueType) → next_multiple_of (8 * n) (alignment_of t) ≡ 8 * n
begins_aligned n UnsignedLong = omega arith
begins_aligned n (Pointer tag) = omega arith

eight_bytes : (t : ValueType) → size_of t ≡ 8
eight_bytes UnsignedLong = refl
eight_bytes (Pointer tag) = refl

ends_aligned : (n : ℕ) (m : Member) → ends (8 * n) m ≡ 8 * suc n
ends_aligned n m = omega (arith, begins_aligned n m.ctype, eight_bytes m.ctype)

abbrev pub member_text : Member → List ℕ
member_text m = m.name.text

offset_at :
    (ms : List Member) (w : Word) (n j : ℕ) (d : List ℕ) → IsDistinct bytes_eq (map member_text ms) → j < length ms
    → get_or (map member_text ms) j d ≡ w.text → offset_from (8 * n) ms w ≡ Some (8 * (n + j))
unfolding IsDistinct
offset_at [] w n j d once h e = absurd (omega arith)
offset_at (m ∷ ms) w n zero d (others, once) h e =
    let same : bytes_eq m.name.text w.text ≡ true = (bytes_eq-Decides m.name.text w.text).1 e in
    rw (same, begins_aligned n m.ctype) (ap Some (omega arith))
offset_at (m ∷ ms) w n (suc j) d (others, once) h e =
    let IsOther : List ℕ → Type 0 = λ y. bytes_eq m.name.text y ≡ false in
    let there : j < length (map member_text ms) = omega (arith, length-map ms member_text) in
    let other : bytes_eq m.name.text w.text ≡ false = subst IsOther e (All-from_recursion IsOther (map member_text ms) others j d there) in
    rw (other, ends_aligned n m) (offset_at ms w (suc n) j d once (omega arith) e ∙ ap (λ (k : ℕ). Some (8 * k)) (omega arith))

abbrev pub cell_text : Cell → List ℕ
cell_text cell = cell.member.text

-- where the cells are the struct's members in order, the cell at place j stands at 8 * j
pub cell_offset :
    (s : Struct) (cells : List Cell) (j : ℕ) (d : Cell) → IsDistinct bytes_eq (map member_text s.members)
    → map cell_text cells ≡ map member_text s.members → j < length cells → offset_of s (get_or cells j d).member ≡ Some (8 * j)
cell_offset s cells j d once order h =
    let many : length cells ≡ length s.members = sym (length-map cells cell_text) ∙ ap length order ∙ length-map s.members member_text in
    let named : get_or (map member_text s.members) j (cell_text d) ≡ (get_or cells j d).member.text =
    ap (λ (l : List (List ℕ)). get_or l j (cell_text d)) (sym order) ∙ get_or-map cell_text cells j d (cell_text d) h in
    offset_at s.members (get_or cells j d).member 0 j (cell_text d) once (omega arith) named ∙ ap (λ (k : ℕ). Some (8 * k)) (omega arith)
