-- A known cell says of the region's bytes what its value is.
use Rattle.std.specs.Prelude.{◌≡◌, ℕ, ℤ, pos, ◌+ℤ◌, ◌-ℤ◌, ◌+◌, ◌&&◌, ◌==◌, List, Any, Option, Some, None, slice_get, slice_range, Bool, true, ◌⊎◌}
use Rattle.std.proofs.Common.{arith, refl, sym, ap, ◌∙◌, subst, inl, inr}
use Rattle.std.proofs.lemmas.Int.{ints}
use Rattle.cx_base.specs.Bytes.{number_of}
use Rattle.cx_base.specs.Number.{HasSize, InRange, Congruent}
use Rattle.cx_base.specs.declared.memory.Region.{Region}
use Rattle.cx_base.proofs.Wrapping.{wrapped-Congruent, only_wrapped}
use Rattle.cx_term.specs.Forms.{Linear, value}
use Rattle.cx_term.proofs.Tests.{and_left, and_right}
use Rattle.cx_entail.specs.Shows.{same_form}
use Rattle.cx_entail.proofs.Nonzero.{same_form-true}
use Rattle.cx_cells.specs.Meaning.{number_at}
use Rattle.cx_cells.specs.declared.cell.FlatCell.{FlatCell}
use Rattle.cx_state.specs.Known.{fact_at, is_cell_at, known_in}
use Rattle.cx_state.specs.Run.{Run}
use Rattle.cx_state.specs.Stands.{CellInRegion, IsNull, CellStands, StandsAtAccess}
use Rattle.cx_state.specs.declared.state.Cell.{Cell}
use Rattle.cx_state.specs.declared.state.Fact.{Fact}
use Rattle.cx_state.specs.declared.state.Env.{Env}
use Rattle.cx_query.specs.Shown.{number, sum}
use Rattle.cx_query.proofs.Comes.{Comes, some-comes, number-comes, sum-comes, difference-comes}
use Rattle.cx_query.proofs.KindLaws.{name_true}
use Rattle.cx_fact.proofs.Regions.{same_fact}
use Rattle.cx_apart.proofs.Places.{all_get, bases_differ}
use Rattle.cx_apart.proofs.Stores.{equal_or_not, any_get}
use Rattle.cx_close.specs.Knowing.{place_of, cell_at, known_cell}
use Rattle.cx_close.specs.Closing.{IsRegionOf}
use Rattle.cx_close.proofs.Lists.{found}

-- a number that bytes read as with one sign and that lies in the range of the other sign is read with that sign too
pub reads-as : (bytes : List ℕ) (off size : ℕ) (a b : Bool) (z : ℤ) → HasSize size → InRange size b z → number_at bytes off size a ≡ z → number_at bytes off size b ≡ z
reads-as bytes off size a b z h r e =
    let n : ℤ = pos (number_of (slice_range bytes off (off + size))) in
    sym (only_wrapped size b n z h r (subst (λ (x : ℤ). Congruent size x n) e (wrapped-Congruent size a n h)))

-- the cell has this symbol, size and place
record At (s size : ℕ) (at : Linear) (d : Cell) : Type 0 where
  sym_is : d.sym ≡ s
  size_is : d.size ≡ size
  at_is : d.at ≡ at

is_at : (s size : ℕ) (at : Linear) (d : Cell) → is_cell_at s at size d ≡ true → At s size at d
is_at s size at d e =
    let a = d.sym == s in
    let b = d.size == size in
    let c = same_form d.at at in
    let h = and_right a (b && c) e in
    record { sym_is = name_true d.sym s (and_left a (b && c) e); size_is = name_true d.size size (and_left b c h); at_is = same_form-true d.at at (and_right b c h) }

held_here : (v : ℕ → ℤ) (env : Env) (locals : List (Option ℤ)) (run : Run) (memory : List Region) (s i : ℕ) (d : Cell) → StandsAtAccess run v env locals memory → (x : IsRegionOf v env.facts memory s i) → d.sym ≡ s → Any (CellInRegion v x.f d) memory → CellInRegion v x.f d x.r
held_here v env locals run memory s i d S x e a =
    let same : a.1.base ≡ x.r.base = let g : v d.sym ≡ v s = ap v e in omega (arith, ints, a.4.is.based, x.is.based, g) in
    equal_or_not a.0 i (CellInRegion v x.f d x.r)
    (λ q.
    let w : Some a.1 ≡ Some x.r = sym (any_get (CellInRegion v x.f d) memory a) ∙ ap (slice_get memory) q ∙ x.there in
    let r : a.1 ≡ x.r = cc in
    subst (CellInRegion v x.f d) r a.4)
    (λ n. absurd (bases_differ memory a.0 i a.1 x.r S.memory_stands.valid (any_get (CellInRegion v x.f d) memory a) x.there n same))

held_by : (v : ℕ → ℤ) (env : Env) (locals : List (Option ℤ)) (run : Run) (memory : List Region) (s i : ℕ) (d : Cell) → StandsAtAccess run v env locals memory → (x : IsRegionOf v env.facts memory s i) → d.sym ≡ s → IsNull v x.f d.sym ⊎ Any (CellInRegion v x.f d) memory → CellInRegion v x.f d x.r
held_by v env locals run memory s i d S x e (inl n) = absurd (x.live (n.0, ap v (sym e) ∙ n.1))
held_by v env locals run memory s i d S x e (inr a) = held_here v env locals run memory s i d S x e a

-- a known cell of the symbol lies in the region
in_region : (run : Run) (v : ℕ → ℤ) (env : Env) (locals : List (Option ℤ)) (memory : List Region) (s i : ℕ) (d : Cell) → StandsAtAccess run v env locals memory → (x : IsRegionOf v env.facts memory s i) → d.sym ≡ s → CellStands v env.facts memory d → CellInRegion v x.f d x.r
in_region run v env locals memory s i d S x e h =
    let g = same_fact env.facts d.sym h.f x.f h.fact (subst (λ (y : ℕ). fact_at env.facts y ≡ Some x.f) (sym e) x.fact) in
    held_by v env locals run memory s i d S x e (subst (λ (f : Fact). IsNull v f d.sym ⊎ Any (CellInRegion v f d) memory) g h.held)

-- the cell at this place reads so
reads_at : (run : Run) (v : ℕ → ℤ) (env : Env) (locals : List (Option ℤ)) (memory : List Region) (s i size off : ℕ) (at : Linear) (d : Cell) → StandsAtAccess run v env locals memory → (x : IsRegionOf v env.facts memory s i) → value v at ≡ pos off -ℤ value v x.f.off → At s size at d → CellStands v env.facts memory d → number_at x.r.bytes off size d.signed ≡ value v d.value
reads_at run v env locals memory s i size off at d S x e h c =
    let p = in_region run v env locals memory s i d S x h.sym_is c in
    let f : value v d.at ≡ value v at = ap (value v) h.at_is in
    let g : p.at ≡ off = omega (arith, ints, p.place, e, f) in
    subst (λ (n : ℕ). number_at x.r.bytes off n d.signed ≡ value v d.value) h.size_is (subst (λ (n : ℕ). number_at x.r.bytes n d.size d.signed ≡ value v d.value) g p.bytes)

found_by : (run : Run) (v : ℕ → ℤ) (env : Env) (locals : List (Option ℤ)) (memory : List Region) (s i size off : ℕ) (at : Linear) (j : Option ℕ) (d : Cell) → StandsAtAccess run v env locals memory → (x : IsRegionOf v env.facts memory s i) → value v at ≡ pos off -ℤ value v x.f.off → known_in env.cells s at size ≡ j → cell_at env.cells j ≡ Some d → number_at x.r.bytes off size d.signed ≡ value v d.value
found_by run v env locals memory s i size off at None d S x e k q = absurd (cc)
found_by run v env locals memory s i size off at (Some j) d S x e k q =
    reads_at run v env locals memory s i size off at d S x e (is_at s size at d (found (is_cell_at s at size) env.cells j d k q)) (all_get (CellStands v env.facts memory) env.cells j d S.cells q)

pub placed_by : (run : Run) (v : ℕ → ℤ) (env : Env) (locals : List (Option ℤ)) (memory : List Region) (s i size off : ℕ) (o : Option Linear) (d : Cell) → StandsAtAccess run v env locals memory → (x : IsRegionOf v env.facts memory s i) → Comes v o (pos off -ℤ value v x.f.off) → known_cell env.cells s o size ≡ Some d → number_at x.r.bytes off size d.signed ≡ value v d.value
placed_by run v env locals memory s i size off None d S x c q = absurd (cc)
placed_by run v env locals memory s i size off (Some at) d S x c q = found_by run v env locals memory s i size off at (known_in env.cells s at size) d S x (c at refl) refl q

-- where a cell of a part that begins at the offset lies
pub place-comes : (v : ℕ → ℤ) (k : ℕ) (f : Fact) (c : FlatCell) → Comes v (place_of (number (pos k)) f c) (pos (k + c.at) -ℤ value v f.off)
place-comes v k f c =
    let a = sum-comes v (number (pos k)) (number (pos c.at)) (pos k) (pos c.at) (number-comes v (pos k)) (number-comes v (pos c.at)) in
    let e : pos k +ℤ pos c.at ≡ pos (k + c.at) = omega (arith, ints) in
    subst (λ (z : ℤ). Comes v (place_of (number (pos k)) f c) (z -ℤ value v f.off)) e (difference-comes v (sum (number (pos k)) (number (pos c.at))) (Some f.off) (pos k +ℤ pos c.at) (value v f.off) a (some-comes v f.off))

-- the bytes of the cell of a part that begins at the offset read as the known value
pub known-reads : (run : Run) (v : ℕ → ℤ) (env : Env) (locals : List (Option ℤ)) (memory : List Region) (s i k : ℕ) (c : FlatCell) (d : Cell) → StandsAtAccess run v env locals memory → (x : IsRegionOf v env.facts memory s i) → known_cell env.cells s (place_of (number (pos k)) x.f c) c.size ≡ Some d → number_at x.r.bytes (k + c.at) c.size d.signed ≡ value v d.value
known-reads run v env locals memory s i k c d S x q = placed_by run v env locals memory s i c.size (k + c.at) (place_of (number (pos k)) x.f c) d S x (place-comes v k x.f c) q
