-- The values that cells tell, and the parts of a form that hold with some values.
use Rattle.std.specs.Prelude.{◌≡◌, ◌↔◌, ℕ, ℤ, pos, ◌+◌, ◌<◌, ◌≤◌, ◌^◌, List, [], ◌∷◌, ◌++◌, drop, length, unsigned_abs, Some, None}
use Rattle.std.specs.List.{AllByRecursion}
use Rattle.std.proofs.Common.{arith, refl, sym, ap, ◌∙◌, subst, get_or, length-append, length-drop}
use Rattle.std.proofs.lemmas.List.{take_more, take_all, take-append-drop, take_at, take-append-le, length_push}
use Rattle.std.proofs.lemmas.List.Elements.{All-push}
use Rattle.cx_base.specs.declared.memory.Region.{Region}
use Rattle.cx_cells.specs.Layouts.{layout_of}
use Rattle.cx_cells.specs.Meaning.{PartHolds}
use Rattle.cx_term.specs.Conditions.{Holds}
use Rattle.cx_cells.specs.Values.{values_of}
use Rattle.cx_cells.specs.declared.form.Part.{Part}
use Rattle.cx_member.specs.Reading.{AreSmall, bytes_at, CellsHold, PartHoldsWith, IsOnly, BindsNone, Begun, Binds}

module _ (H : (ℕ → ℤ) → Type 0) (known : List ℤ) (n : ℕ) where
  pub begun-none : (values : List ℤ) → AreSmall known → values ≡ known → Begun H known n values (length known)
  begun-none values small e = rw e (record {
    count = refl;
    front = take_all (length known) known (omega arith);
    small = small;
    only = λ bs l h. take_at known bs (length known) refl;
  })

  pub begun-more : (values : List ℤ) (s : ℕ) (z : ℤ) → Begun H known n values s → length known ≤ s → s < length known + n → unsigned_abs z ≤ 2 ^ 64 → IsOnly H s (Some z) → Begun H known n (values ++ z ∷ []) (s + 1)
  begun-more values s z b low high small only = record {
    count = let c = b.count in omega (arith, length_push values z);
    front = take-append-le (length known) values (z ∷ []) (let c = b.count in omega arith) ∙ b.front;
    small = All-push (λ x. unsigned_abs x ≤ 2 ^ 64) values z b.small small;
    only = λ bs l h.
        let e : Some z ≡ Some (values_of (known ++ bs) s) = only (values_of (known ++ bs)) h in
        let g : get_or (known ++ bs) s (pos 0) ≡ z = cc in
        take_more (known ++ bs) s (pos 0) (omega (arith, length-append known bs)) ∙ ap (λ xs. xs ++ get_or (known ++ bs) s (pos 0) ∷ []) (b.only bs l h) ∙ ap (λ x. values ++ x ∷ []) g;
  }

  pub begun-stops : (s : ℕ) → IsOnly H s None → BindsNone H known n
  begun-stops s only bs l h =
      let e : None ≡ Some (values_of (known ++ bs) s) = only (values_of (known ++ bs)) h in absurd (cc)

  pub begun-all : (values : List ℤ) → Begun H known n values (length known + n) → Binds H known n values
  begun-all values b = record {
    count = b.count;
    front = b.front;
    small = b.small;
    only = λ bs l h. sym (take_all (length known + n) (known ++ bs) (omega (arith, length-append known bs))) ∙ b.only bs l h;
  }

  -- the known values and the binders' are all of them
  pub binders_known : (values : List ℤ) → Binds H known n values → known ++ drop (length known) values ≡ values
  binders_known values b = ap (λ xs. xs ++ drop (length known) values) (sym b.front) ∙ take-append-drop (length known) values

  pub binders_count : (values : List ℤ) → Binds H known n values → length (drop (length known) values) ≡ n
  binders_count values b = let c = b.count in omega (arith, length-drop (length known) values)

-- ---- parts

module _ (rs : List Region) (i off : ℕ) (known : List ℤ) (part : Part) where
  part_from : (values : List ℤ) → Binds (CellsHold rs i off part.cells) known part.binders values → PartHoldsWith values rs i off part → PartHolds known (layout_of rs) (bytes_at rs i) off part
  part_from values b h =
      let e = sym (binders_known (CellsHold rs i off part.cells) known part.binders values b) in
      record {
        binders = drop (length known) values;
        count = binders_count (CellsHold rs i off part.cells) known part.binders values b;
        conds = subst (λ zs. AllByRecursion (Holds (values_of zs)) part.conds) e h.conds;
        cells = subst (λ zs. CellsHold rs i off part.cells (values_of zs)) e h.cells;
      }

  part_to : (values : List ℤ) → Binds (CellsHold rs i off part.cells) known part.binders values → PartHolds known (layout_of rs) (bytes_at rs i) off part → PartHoldsWith values rs i off part
  part_to values b p =
      let e : known ++ p.binders ≡ values = b.only p.binders p.count p.cells in
      record {
        conds = subst (λ zs. AllByRecursion (Holds (values_of zs)) part.conds) e p.conds;
        cells = subst (λ zs. CellsHold rs i off part.cells (values_of zs)) e p.cells;
      }

  -- the part holds where it does with the values that are bound
  pub part_is : (values : List ℤ) → Binds (CellsHold rs i off part.cells) known part.binders values → PartHoldsWith values rs i off part ↔ PartHolds known (layout_of rs) (bytes_at rs i) off part
  part_is values b = (part_from values b, part_to values b)

  pub part_none : BindsNone (CellsHold rs i off part.cells) known part.binders → PartHolds known (layout_of rs) (bytes_at rs i) off part → ⊥
  part_none b p = b p.binders p.count p.cells
