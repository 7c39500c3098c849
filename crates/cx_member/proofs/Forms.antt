-- Heads and tails: what holds with the values that are bound, and where elements stand.
use Rattle.std.specs.Prelude.{◌≡◌, ◌↔◌, ℕ, ℤ, pos, negsuc, Bool, IsTrue, ◌*◌, ◌<◌, ◌≤◌, List, ◌++◌, drop, length, Some, option_map}
use Rattle.std.specs.List.{AllByRecursion}
use Rattle.std.proofs.Common.{arith, refl, sym, ap, subst}
use Rattle.std.proofs.lemmas.Int.{ints}
use Rattle.std.proofs.Math.Nat.{mul-le-mul_left}
use Rattle.cx_base.specs.declared.memory.Region.{Region}
use Rattle.cx_cells.specs.Layouts.{layout_of}
use Rattle.cx_cells.specs.Meaning.{PartHolds, HeadHolds, CasesHold, known_to_elements, element_at, element_count, size_with}
use Rattle.cx_term.specs.Conditions.{Holds}
use Rattle.cx_cells.specs.Values.{values_of, count_of}
use Rattle.cx_cells.specs.declared.form.Form.{Form}
use Rattle.cx_cells.specs.declared.form.Tail.{Tail}
use Rattle.cx_member.specs.Reading.{bytes_at, CellsHold, BindsNone, Binds, HeadHoldsWith, ElementsHoldUpTo, TailHolds}
use Rattle.cx_member.proofs.Bindings.{binders_known, binders_count}

-- ---- the head

module _ (rs : List Region) (i : ℕ) (args : List ℤ) (form : Form) where
  head_from : (values : List ℤ) → Binds (CellsHold rs i 0 form.head) args form.binders values → HeadHoldsWith values rs i form → HeadHolds form args (layout_of rs) (bytes_at rs i)
  head_from values b h =
      let e = sym (binders_known (CellsHold rs i 0 form.head) args form.binders values b) in
      record {
        binders = drop (length args) values;
        count = binders_count (CellsHold rs i 0 form.head) args form.binders values b;
        conds = subst (λ zs. AllByRecursion (Holds (values_of zs)) form.conds) e h.conds;
        cells = subst (λ zs. CellsHold rs i 0 form.head (values_of zs)) e h.cells;
        cases = subst (λ zs. CasesHold zs (layout_of rs) (bytes_at rs i) form.cases_at form.cases) e h.cases;
      }

  head_to : (values : List ℤ) → Binds (CellsHold rs i 0 form.head) args form.binders values → HeadHolds form args (layout_of rs) (bytes_at rs i) → HeadHoldsWith values rs i form
  head_to values b p =
      let e : args ++ p.binders ≡ values = b.only p.binders p.count p.cells in
      record {
        conds = subst (λ zs. AllByRecursion (Holds (values_of zs)) form.conds) e p.conds;
        cells = subst (λ zs. CellsHold rs i 0 form.head (values_of zs)) e p.cells;
        cases = subst (λ zs. CasesHold zs (layout_of rs) (bytes_at rs i) form.cases_at form.cases) e p.cases;
      }

  -- the head holds where it does with the values that are bound
  pub head_is : (values : List ℤ) → Binds (CellsHold rs i 0 form.head) args form.binders values → HeadHoldsWith values rs i form ↔ HeadHolds form args (layout_of rs) (bytes_at rs i)
  head_is values b = (head_from values b, head_to values b)

  pub head_none : BindsNone (CellsHold rs i 0 form.head) args form.binders → HeadHolds form args (layout_of rs) (bytes_at rs i) → ⊥
  head_none b p = b p.binders p.count p.cells

-- ---- the tail

-- where the number of elements is z, the whole is that many bytes
size_at : (form : Form) (args : List ℤ) (tail : Tail) (n bytes : ℕ) → element_count args tail ≡ pos n → element_at form tail n ≡ bytes → size_with form args (Some tail) ≡ Some bytes
size_at form args tail n bytes e g = rw e (ap Some g)

module _ (rs : List Region) (i : ℕ) (args : List ℤ) (form : Form) (tail : Tail) (bytes : ℕ) where
  -- the tail holds where each of its elements does
  pub tail_is : (n : ℕ) (known : List ℤ) (r : Bool) → element_count args tail ≡ pos n → element_at form tail n ≡ bytes → known ≡ known_to_elements form args → IsTrue r ↔ ElementsHoldUpTo n known rs i form tail → IsTrue r ↔ TailHolds bytes form args rs i (Some tail)
  tail_is n known r e g k h = (
    (λ t. record {
      size = size_at form args tail n bytes e g;
      elements = λ j l. subst (λ zs. PartHolds zs (layout_of rs) (bytes_at rs i) (element_at form tail j) tail.part) k (h.0 t j (omega (arith, ints, e, l)));
    }),
    (λ t. h.1 (λ j l. subst (λ zs. PartHolds zs (layout_of rs) (bytes_at rs i) (element_at form tail j) tail.part) (sym k) (t.elements j (omega (arith, ints, e, l))))),
  )

  tail_past_by : (z : ℤ) → element_count args tail ≡ z → ((n : ℕ) → z ≡ pos n → bytes < n) → 1 ≤ tail.part.size → option_map (element_at form tail) (count_of z) ≡ Some bytes → ⊥
  tail_past_by (pos n) e h l g =
      let k : element_at form tail n ≡ bytes = cc in
      let m : n * 1 ≤ n * tail.part.size = mul-le-mul_left n l in
      omega (arith, h n refl)
  tail_past_by (negsuc n) e h l g = absurd (cc)

  -- there are too many elements, or fewer than none
  pub tail_past : ((n : ℕ) → element_count args tail ≡ pos n → bytes < n) → 1 ≤ tail.part.size → TailHolds bytes form args rs i (Some tail) → ⊥
  tail_past h l t = tail_past_by (element_count args tail) refl h l t.size
