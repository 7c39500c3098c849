-- Which cell begins at an offset: that of the member that begins there.
use Rattle.std.proofs.Common.{not, ◌≡◌, ℕ, ◌+◌, ◌≤◌, Bool, true, false, cond, nat_eq, List, [], ◌∷◌, Option, Some, None, refl, sym, ap, ◌∙◌, arith, option_map}
use Rattle.std.specs.Prelude.{find}
use Rattle.std.specs.Option.{option_eq}
use Rattle.std.specs.Int.{next_multiple_of}
use Rattle.std.specs.Str.{bytes_eq}
use Rattle.std.proofs.lemmas.Bool.Decides.{nat_tests}
use Rattle.std.proofs.lemmas.Option.{same_Some, none-some}
use Rattle.std.proofs.lemmas.Slice.Eq.{bytes_eq-Decides}
use Rattle.cx_form.specs.declared.tree.Word.{Word}
use Rattle.cx_form.specs.declared.tree.Member.{Member}
use Rattle.cx_form.specs.declared.tree.Struct.{Struct}
use Rattle.cx_form.specs.declared.tree.Cell.{Cell}
use Rattle.cx_form.specs.declared.tree.RegionType.{RegionType}
use Rattle.cx_form.specs.declared.tree.ValueType.{ValueType}
use Rattle.cx_form.specs.declared.tree.ValueType.TheVariants.{UnsignedLong, Pointer}
use Rattle.cx_sorts.specs.Names.{same_name}
use Rattle.cx_sorts.specs.Layout.{size_of, alignment_of, begins, ends, offset_from, offset_of, member_from}
use Rattle.cx_sorts.specs.Rules.{cell_at}

begins_after : (n : ℕ) (t : ValueType) → n ≤ next_multiple_of n (alignment_of t)
begins_after n UnsignedLong = omega arith
begins_after n (Pointer tag) = omega arith

takes_some : (t : ValueType) → 1 ≤ size_of t
takes_some UnsignedLong = omega arith
takes_some (Pointer tag) = omega arith

is_nat : (a b : ℕ) → nat_eq a b ≡ true → a ≡ b
is_nat a b h = grind (arith, nat_tests, h)

not_nat : (a b : ℕ) → a + 1 ≤ b → nat_eq a b ≡ false
not_nat a b h = grind (arith, nat_tests, h)

-- a member stands from `past` on
offset_low : (past : ℕ) (ms : List Member) (w : Word) (offset : ℕ) → offset_from past ms w ≡ Some offset → past ≤ offset
offset_low past [] w offset h = absurd (none-some offset h)
offset_low past (m ∷ ms) w offset h = low (λ e. offset_low (ends past m) ms w offset e) (same_name m.name w) h where
  low : (offset_from (ends past m) ms w ≡ Some offset → ends past m ≤ offset) → (b : Bool) → cond b (Some (begins past m)) (offset_from (ends past m) ms w) ≡ Some offset → past ≤ offset
  low below true e = let here = same_Some (begins past m) offset e in let after = begins_after past m.ctype in omega (arith, here, after)
  low below false e = let rest = below e in let after = begins_after past m.ctype in omega (arith, rest, after)

-- the member that a name means begins at its offset
meant : (past : ℕ) (ms : List Member) (w : Word) (offset : ℕ) → offset_from past ms w ≡ Some offset → (m : Member) × (member_from past ms offset ≡ Some m) × (same_name m.name w ≡ true)
meant past [] w offset h = absurd (none-some offset h)
meant past (m ∷ ms) w offset h = from (λ e. meant (ends past m) ms w offset e) (same_name m.name w) refl h where
  from : (offset_from (ends past m) ms w ≡ Some offset → (o : Member) × (member_from (ends past m) ms offset ≡ Some o) × (same_name o.name w ≡ true))
      → (b : Bool) → same_name m.name w ≡ b → cond b (Some (begins past m)) (offset_from (ends past m) ms w) ≡ Some offset → (o : Member) × (member_from past (m ∷ ms) offset ≡ Some o) × (same_name o.name w ≡ true)
  from later true is e =
      let here : begins past m ≡ offset = same_Some (begins past m) offset e in
      let test : nat_eq (begins past m) offset ≡ true = grind (arith, nat_tests, here) in
      (m, rw test refl, is)
  from later false is e =
      let low = offset_low (ends past m) ms w offset e in
      let some = takes_some m.ctype in
      let test : nat_eq (begins past m) offset ≡ false = not_nat (begins past m) offset (omega (arith, low, some)) in
      let rest = later e in
      (rest.0, rw test rest.1, rest.2)

-- words of one text mean one member
same_offset : (past : ℕ) (ms : List Member) (v w : Word) → v.text ≡ w.text → offset_from past ms v ≡ offset_from past ms w
same_offset past [] v w e = refl
same_offset past (m ∷ ms) v w e = λ i. cond (bytes_eq m.name.text (e i)) (Some (begins past m)) (same_offset (ends past m) ms v w e i)

found_same : {A : Type 0} (p q : A → Bool) → ((x : A) → p x ≡ q x) → (xs : List A) → find p xs ≡ find q xs
found_same p q h [] = refl
found_same p q h (x ∷ xs) = λ i. cond (h x i) (Some x) (found_same p q h xs i)

found_none : {A : Type 0} (p : A → Bool) → ((x : A) → p x ≡ false) → (xs : List A) → find p xs ≡ None
found_none p h [] = refl
found_none p h (x ∷ xs) = (λ i. cond (h x i) (Some x) (find p xs)) ∙ found_none p h xs

begins_at : Struct → ℕ → Word → Bool
begins_at s offset w = option_eq nat_eq (offset_of s w) (Some offset)

is_offset : (o : Option ℕ) (n : ℕ) → option_eq nat_eq o (Some n) ≡ true → o ≡ Some n
is_offset None n h = absurd cc
is_offset (Some k) n h = ap Some (is_nat k n h)

-- an offset that was compared
pub compared : (found o : Option ℕ) (n : ℕ) → found ≡ o → false ≡ not (option_eq nat_eq found (Some n)) → o ≡ Some n
compared found o n is h = sym is ∙ is_offset found n (not_false (option_eq nat_eq found (Some n)) (sym h)) where
  not_false : (b : Bool) → not b ≡ false → b ≡ true
  not_false true e = refl
  not_false false e = absurd (cc e)

no_offset : (s : Struct) (offset : ℕ) (w : Word) → (offset_of s w ≡ Some offset → ⊥) → option_eq nat_eq (offset_of s w) (Some offset) ≡ false
no_offset s offset w never = by (option_eq nat_eq (offset_of s w) (Some offset)) refl where
  by : (b : Bool) → option_eq nat_eq (offset_of s w) (Some offset) ≡ b → b ≡ false
  by true e = absurd (never (is_offset (offset_of s w) offset e))
  by false e = refl

-- where no member begins at the offset, no cell does
pub nothing_begins : (type : RegionType) (s : Struct) (offset : ℕ) → None ≡ member_from 0 s.members offset → None ≡ cell_at type s offset
nothing_begins type s offset none =
    sym (ap (option_map (λ (cell : Cell). cell.holds)) (found_none (λ (cell : Cell). option_eq nat_eq (offset_of s cell.member) (Some offset))
    (λ cell. no_offset s offset cell.member (λ h. let m = meant 0 s.members cell.member offset h in none-some m.0 (none ∙ m.1))) type.cells))

-- where the member that begins there is not the one that its name means, no cell does
pub another_is_meant : (type : RegionType) (s : Struct) (offset : ℕ) (m : Member) → Some m ≡ member_from 0 s.members offset → (offset_of s m.name ≡ Some offset → ⊥) → None ≡ cell_at type s offset
another_is_meant type s offset m is other =
    sym (ap (option_map (λ (cell : Cell). cell.holds)) (found_none (λ (cell : Cell). option_eq nat_eq (offset_of s cell.member) (Some offset))
    (λ cell. no_offset s offset cell.member (λ h.
    let o = meant 0 s.members cell.member offset h in
    let same : m ≡ o.0 = same_Some m o.0 (is ∙ o.1) in
    let text : m.name.text ≡ cell.member.text = ap (λ (x : Member). x.name.text) same ∙ (bytes_eq-Decides o.0.name.text cell.member.text).0 o.2 in
    other (same_offset 0 s.members m.name cell.member text ∙ h))) type.cells))

-- else it is the cell of its name
pub named_begins : (type : RegionType) (s : Struct) (offset : ℕ) (m : Member) → Some m ≡ member_from 0 s.members offset → offset_of s m.name ≡ Some offset
    → option_map (λ (cell : Cell). cell.holds) (find (λ (cell : Cell). same_name m.name cell.member) type.cells) ≡ cell_at type s offset
named_begins type s offset m is own =
    ap (option_map (λ (cell : Cell). cell.holds)) (found_same (λ (cell : Cell). same_name m.name cell.member) (λ (cell : Cell). option_eq nat_eq (offset_of s cell.member) (Some offset)) (λ cell. agree cell.member) type.cells) where
      agree : (w : Word) → same_name m.name w ≡ option_eq nat_eq (offset_of s w) (Some offset)
      agree w = by (same_name m.name w) refl where
        by : (b : Bool) → same_name m.name w ≡ b → b ≡ option_eq nat_eq (offset_of s w) (Some offset)
        by true e =
            let text : m.name.text ≡ w.text = (bytes_eq-Decides m.name.text w.text).0 e in
            let here : offset_of s w ≡ Some offset = sym (same_offset 0 s.members m.name w text) ∙ own in
            let test : nat_eq offset offset ≡ true = grind (arith, nat_tests) in
            sym (ap (λ (o : Option ℕ). option_eq nat_eq o (Some offset)) here ∙ test)
        by false e = sym (no_offset s offset w (λ h.
            let o = meant 0 s.members w offset h in
            let same : m ≡ o.0 = same_Some m o.0 (is ∙ o.1) in
            let so : true ≡ false = sym o.2 ∙ ap (λ (x : Member). same_name x.name w) (sym same) ∙ e in
            absurd (cc so)))
