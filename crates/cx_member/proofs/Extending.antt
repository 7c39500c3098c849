-- A memory that extends another.
use Rattle.std.specs.Prelude.{◌≡◌, ◌↔◌, ℕ, ℤ, ◌+◌, ◌<◌, ◌≤◌, List, ◌++◌, take, drop, length, slice_get, IsSomeAnd, Option, Some, None}
use Rattle.std.proofs.Common.{arith, refl, sym, ap, ◌∙◌, get_or, length-append}
use Rattle.std.proofs.lemmas.List.{take_more_same, take_all, take-append-drop, get_or-map, length-map, get_or_append_left}
use Rattle.std.proofs.lemmas.Option.{get_or_from_slice_get, slice_get_within}
use Rattle.cx_base.specs.declared.memory.Region.{Region}
use Rattle.cx_cells.specs.Layouts.{Extent, extent_of, layout_of, Extends}
use Rattle.cx_member.specs.Passing.{AreSameAt}
use Rattle.cx_member.proofs.Places.{there, some_and}

extent_here : (rs : List Region) (i : ℕ) (r : Region) (d : Extent) → slice_get rs i ≡ Some r → get_or (layout_of rs) i d ≡ extent_of r
extent_here rs i r d e = get_or-map extent_of rs i r d (slice_get_within rs i r e) ∙ ap extent_of (get_or_from_slice_get rs i r r e)

more_by : (before after : List Region) (i : ℕ) (o p : Option Region) → slice_get before i ≡ o → slice_get after i ≡ p → IsSomeAnd o (λ r. IsSomeAnd p (λ s. extent_of r ≡ extent_of s)) → take i (layout_of after) ≡ take i (layout_of before) → take (i + 1) (layout_of after) ≡ take (i + 1) (layout_of before)
more_by before after i None p e g h t = absurd h
more_by before after i (Some r) None e g h t = absurd h
more_by before after i (Some r) (Some s) e g h t =
    let a = slice_get_within before i r e in
    let b = slice_get_within after i s g in
    take_more_same (layout_of after) (layout_of before) i (extent_of r) (omega (arith, length-map after extent_of)) (omega (arith, length-map before extent_of)) t (extent_here after i s (extent_of r) g ∙ sym h ∙ sym (extent_here before i r (extent_of r) e))

pub one_more : (before after : List Region) (i : ℕ) → AreSameAt before after i → take i (layout_of after) ≡ take i (layout_of before) → take (i + 1) (layout_of after) ≡ take (i + 1) (layout_of before)
one_more before after i h t = more_by before after i (slice_get before i) (slice_get after i) refl refl h t

pub extends_all : (before after : List Region) (n : ℕ) → length before ≡ n → take n (layout_of after) ≡ take n (layout_of before) → Extends before after
extends_all before after n e t =
    let g : take n (layout_of before) ≡ layout_of before = take_all n (layout_of before) (omega (arith, length-map before extent_of)) in
    record {
      more = drop n (layout_of after);
      same = sym (take-append-drop n (layout_of after)) ∙ ap (λ xs. xs ++ drop n (layout_of after)) (t ∙ g);
    }

extends_length : (before after : List Region) → Extends before after → length before ≤ length after
extends_length before after x =
    let e : length (layout_of after) ≡ length (layout_of before ++ x.more) = ap length x.same in
    omega (arith, length-map after extent_of, length-map before extent_of, length-append (layout_of before) x.more)

pub same_in : (before after : List Region) (i : ℕ) → i < length before → Extends before after → AreSameAt before after i
same_in before after i l x =
    let n = extends_length before after x in
    let r = there before i l in
    let s = there after i (omega arith) in
    let d = extent_of r.0 in
    let g : get_or (layout_of after) i d ≡ get_or (layout_of before) i d = ap (λ es. get_or es i d) x.same ∙ get_or_append_left (layout_of before) x.more d i (omega (arith, length-map before extent_of)) in
    let e : extent_of r.0 ≡ extent_of s.0 = sym (extent_here before i r.0 d r.1) ∙ sym g ∙ extent_here after i s.0 d s.1 in
    some_and (λ a. IsSomeAnd (slice_get after i) (λ b. extent_of a ≡ extent_of b)) (slice_get before i) r.0 r.1 (some_and (λ b. extent_of r.0 ≡ extent_of b) (slice_get after i) s.0 s.1 e)

abbrev extent : ℕ → ℕ → List ℤ → ℕ → Extent
extent base name args size = record { base = base; name = name; args = args; size = size }

same_made : (a b c d : ℕ) (x y : List ℤ) (m n : ℕ) → a ≡ b → c ≡ d → x ≡ y → m ≡ n → extent a c x m ≡ extent b d y n
same_made a b c d x y m n e f g h = rw (e, f, g, h)

-- regions are the same but for their bytes where these four are
pub same_extents : (r s : Region) → ((r.base ≡ s.base) × (r.name ≡ s.name) × (r.args ≡ s.args) × (length r.bytes ≡ length s.bytes)) ↔ (extent_of r ≡ extent_of s)
same_extents r s = (
  (λ h. same_made r.base s.base r.name s.name r.args s.args (length r.bytes) (length s.bytes) h.0 h.1 h.2 h.3),
  (λ h. (ap (λ (e : Extent). e.base) h, ap (λ (e : Extent). e.name) h, ap (λ (e : Extent). e.args) h, ap (λ (e : Extent). e.size) h)),
)
