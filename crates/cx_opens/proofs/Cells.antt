-- What is added for the cells of a part is true of the region's bytes.
use Rattle.std.specs.Prelude.{◌≡◌, ℕ, ℤ, pos, ◌-ℤ◌, ◌≤ℤ◌, ◌+◌, ◌≤◌, List, length, All, Option, Some, None, slice_get, slice_range, Ok, Bool, true, false, if◌then◌else◌}
use Rattle.std.proofs.Common.{arith, refl, sym, ap, ◌∙◌, subst, inr}
use Rattle.std.proofs.lemmas.Int.{ints}
use Rattle.std.proofs.lemmas.Option.{slice_get_within, get_or_from_slice_get}
use Rattle.cx_base.specs.Bytes.{number_of}
use Rattle.cx_base.specs.Memory.{size_of}
use Rattle.cx_base.specs.Number.{HasSize, InRange}
use Rattle.cx_base.specs.declared.memory.Region.{Region}
use Rattle.cx_base.proofs.Wrapping.{wrapped-InRange}
use Rattle.cx_term.specs.Forms.{Linear, value}
use Rattle.cx_cells.specs.Meaning.{number_at}
use Rattle.cx_cells.specs.Values.{all_values}
use Rattle.cx_cells.specs.Layouts.{extent_of, IsAt}
use Rattle.cx_state.specs.Known.{fact_at, known_in}
use Rattle.cx_state.specs.Run.{Run}
use Rattle.cx_state.specs.Stands.{IsNull, CellInRegion, CellStands, StandsAtAccess}
use Rattle.cx_state.specs.Valid.{TermBelow, CellBelow, IsValid}
use Rattle.cx_state.specs.declared.state.Cell.{Cell}
use Rattle.cx_state.specs.declared.state.Fact.{Fact}
use Rattle.cx_state.specs.declared.state.Env.{Env}
use Rattle.cx_query.specs.Kinds.{least_of, greatest_of}
use Rattle.cx_query.proofs.Comes.{Comes, some-comes}
use Rattle.cx_learn.proofs.Below.{IfBelow, some-below}
use Rattle.cx_apart.specs.Putting.{with_cell}
use Rattle.cx_apart.proofs.Places.{all_get}
use Rattle.cx_close.specs.Closing.{IsRegionOf}
use Rattle.cx_close.specs.Knowing.{cell_at, known_cell}
use Rattle.cx_close.proofs.Places.{placed_by}
use Rattle.cx_open.specs.Naming.{type_range, named}
use Rattle.cx_open.specs.Cells.{learnt_equal, learnt_type, cell_of, new_value, val_opened, same_sign}
use Rattle.cx_open.specs.declared.naming.Named.{Named}
use Rattle.cx_opens.proofs.Carried.{value-agrees, values-agree, fact-below, fact-within}
use Rattle.cx_opens.proofs.Steps.{below-more, Follows, follows-same, follows-then, cell-follows}
use Rattle.cx_opens.proofs.Terms.{bind-ok, then-ok}
use Rattle.cx_opens.proofs.Names.{type-has, Names, named-names}
use Rattle.cx_opens.proofs.Conds.{equal-follows, ends-follow}

-- ---- the region in hand
-- the symbol s with the fact f, which is not null, points into the region r at the place i of the memory
pub record Inside (run : Run) (v : ℕ → ℤ) (env : Env) (locals : List (Option ℤ)) (memory : List Region) (s i : ℕ) (f : Fact) (r : Region) : Type 0 where
  pub stands : StandsAtAccess run v env locals memory
  pub valid : IsValid run.forms env
  pub fact : fact_at env.facts s ≡ Some f
  pub live : IsNull v f s → ⊥
  pub there : slice_get memory i ≡ Some r
  pub is : IsAt f.name (all_values v f.args) (v s -ℤ value v f.off) (extent_of r)

pub inside-more : (run : Run) (v : ℕ → ℤ) (env : Env) (locals : List (Option ℤ)) (memory : List Region) (w : ℕ → ℤ) (next : Env) (s i : ℕ) (f : Fact) (r : Region) → Follows run v env locals memory w next → Inside run v env locals memory s i f r → Inside run w next locals memory s i f r
inside-more run v env locals memory w next s i f r F x =
    let n = length env.ranges in
    let b = fact-below env s f x.valid.scoped x.fact in
    let a = F.agrees s (fact-within env s f x.valid.scoped x.fact) in
    record {
      stands = F.stands;
      valid = F.valid;
      fact = F.facts s f x.fact;
      live = λ p. x.live (p.0, sym a ∙ p.1);
      there = x.there;
      is = rw (values-agree n v w f.args F.agrees b.args, value-agrees n v w f.off F.agrees b.off, a) x.is;
    }

region-of : (run : Run) (v : ℕ → ℤ) (env : Env) (locals : List (Option ℤ)) (memory : List Region) (s i : ℕ) (f : Fact) (r : Region) → Inside run v env locals memory s i f r → IsRegionOf v env.facts memory s i
region-of run v env locals memory s i f r x = record { f = f; fact = x.fact; live = x.live; r = r; there = x.there; is = x.is }

-- the form is the offset off of the region, counted from the symbol
pub record Placed (v : ℕ → ℤ) (n : ℕ) (f : Fact) (off : ℕ) (at : Linear) : Type 0 where
  pub value_is : value v at ≡ pos off -ℤ value v f.off
  pub below : TermBelow n at

pub placed-more : (run : Run) (v : ℕ → ℤ) (env : Env) (locals : List (Option ℤ)) (memory : List Region) (w : ℕ → ℤ) (next : Env) (s i : ℕ) (f : Fact) (r : Region) (off : ℕ) (at : Linear) → Follows run v env locals memory w next → Inside run v env locals memory s i f r → Placed v (length env.ranges) f off at → Placed w (length next.ranges) f off at
placed-more run v env locals memory w next s i f r off at F x p =
    let n = length env.ranges in
    let b = fact-below env s f x.valid.scoped x.fact in
    record { value_is = rw (value-agrees n v w at F.agrees p.below, value-agrees n v w f.off F.agrees b.off) p.value_is; below = below-more n (length next.ranges) at F.count p.below }

-- a cell whose bytes read as its value stands
cell_stands : (run : Run) (v : ℕ → ℤ) (env : Env) (locals : List (Option ℤ)) (memory : List Region) (s i : ℕ) (f : Fact) (r : Region) (off size : ℕ) (signed : Bool) (at t : Linear) → Inside run v env locals memory s i f r → Placed v (length env.ranges) f off at → off + size ≤ size_of r → number_at r.bytes off size signed ≡ value v t → CellStands v env.facts memory (cell_of s at size signed t)
cell_stands run v env locals memory s i f r off size signed at t x p l e =
    let c : CellInRegion v f (cell_of s at size signed t) r = record { is = x.is; at = off; place = (let q = p.value_is in omega (arith, ints, q)); inside = l; bytes = e } in
    record { f = f; fact = x.fact; held = inr (i, r, slice_get_within memory i r x.there, get_or_from_slice_get memory i r r x.there, c) }

-- it may be added
pub cell_added : (run : Run) (v : ℕ → ℤ) (env next : Env) (locals : List (Option ℤ)) (memory : List Region) (s i : ℕ) (f : Fact) (r : Region) (off size : ℕ) (signed : Bool) (at t : Linear) → with_cell env (cell_of s at size signed t) ≡ Ok next → Inside run v env locals memory s i f r → Placed v (length env.ranges) f off at → TermBelow (length env.ranges) t → off + size ≤ size_of r → number_at r.bytes off size signed ≡ value v t → Follows run v env locals memory v next
cell_added run v env next locals memory s i f r off size signed at t q x p b l e =
    cell-follows run v env next locals memory (cell_of s at size signed t) q (record { sym = fact-within env s f x.valid.scoped x.fact; at = p.below; value = b }) (cell_stands run v env locals memory s i f r off size signed at t x p l e) x.stands x.valid

-- ---- values
low_end : (size : ℕ) (signed : Bool) (z : ℤ) → InRange size signed z → least_of size signed ≤ℤ z
low_end size true z h = h.0
low_end size false z h = h.0

high_end : (size : ℕ) (signed : Bool) (z : ℤ) → InRange size signed z → z ≤ℤ greatest_of size signed
high_end size true z h = omega (arith, ints, h.1)
high_end size false z h = omega (arith, ints, h.1)

-- a state that follows, at some values
pub record FollowsSome (run : Run) (v : ℕ → ℤ) (env : Env) (locals : List (Option ℤ)) (memory : List Region) (next : Env) : Type 0 where
  pub w : ℕ → ℤ
  pub follows : Follows run v env locals memory w next

pub some-same : (run : Run) (v : ℕ → ℤ) (env next : Env) (locals : List (Option ℤ)) (memory : List Region) → env ≡ next → StandsAtAccess run v env locals memory → IsValid run.forms env → FollowsSome run v env locals memory next
some-same run v env next locals memory e S V = subst (λ (x : Env). FollowsSome run v env locals memory x) e (record { w = v; follows = follows-same run v env locals memory S V })

-- a new value and its cell
val_new : (run : Run) (v : ℕ → ℤ) (env next : Env) (locals : List (Option ℤ)) (memory : List Region) (s i : ℕ) (f : Fact) (r : Region) (off size : ℕ) (signed : Bool) (at : Linear) (n : Named) → new_value s at size signed n ≡ Ok next → Names run v env locals memory n (number_at r.bytes off size signed) → Inside run v env locals memory s i f r → Placed v (length env.ranges) f off at → off + size ≤ size_of r → HasSize size → FollowsSome run v env locals memory next
val_new run v env next locals memory s i f r off size signed at n q N x p l h =
    let z = number_at r.bytes off size signed in
    let k = then-ok (with_cell n.env (cell_of s at size signed n.term)) (λ mid. learnt_type mid size signed n.term) next q in
    let F = N.follows in
    let y = inside-more run v env locals memory N.w n.env s i f r F x in
    let G = cell_added run N.w n.env k.x locals memory s i f r off size signed at n.term k.first y (placed-more run v env locals memory N.w n.env s i f r off at F x p) N.below l (sym N.value_is) in
    let range : InRange size signed z = wrapped-InRange size signed (pos (number_of (slice_range r.bytes off (off + size)))) h in
    let a : least_of size signed ≤ℤ value N.w n.term = subst (λ (u : ℤ). least_of size signed ≤ℤ u) (sym N.value_is) (low_end size signed z range) in
    let b : value N.w n.term ≤ℤ greatest_of size signed = subst (λ (u : ℤ). u ≤ℤ greatest_of size signed) (sym N.value_is) (high_end size signed z range) in
    let H = ends-follow run N.w k.x next locals memory (least_of size signed) (greatest_of size signed) n.term k.then_ a b (below-more (length n.env.ranges) (length k.x.ranges) n.term G.count N.below) G.stands G.valid in
    record { w = N.w; follows = follows-then run v env locals memory N.w N.w n.env next F (follows-then run N.w n.env locals memory N.w N.w k.x next G H) }

-- the known cell is one of the state's
found_below : (n : ℕ) (cells : List Cell) (j : Option ℕ) (d : Cell) → All (CellBelow n) cells → cell_at cells j ≡ Some d → CellBelow n d
found_below n cells None d h e = absurd (cc)
found_below n cells (Some j) d h e = all_get (CellBelow n) cells j d h e

pub known_below : (n : ℕ) (cells : List Cell) (s : ℕ) (o : Option Linear) (size : ℕ) (d : Cell) → All (CellBelow n) cells → known_cell cells s o size ≡ Some d → CellBelow n d
known_below n cells s None size d h e = absurd (cc)
known_below n cells s (Some at) size d h e = found_below n cells (known_in cells s at size) d h e

same_signs : (a b : Bool) → same_sign a b ≡ true → a ≡ b
same_signs true true e = refl
same_signs true false e = absurd (let w : false ≡ true = e in cc)
same_signs false true e = absurd (let w : false ≡ true = e in cc)
same_signs false false e = refl

known_by : (run : Run) (v : ℕ → ℤ) (env next : Env) (locals : List (Option ℤ)) (memory : List Region) (signed : Bool) (u : Option Linear) (d : Cell) (z : ℤ) (b : Bool) → b ≡ same_sign d.signed signed → (if b then learnt_equal env (Some d.value) u else Ok env) ≡ Ok next → (d.signed ≡ signed → value v d.value ≡ z) → Comes v u z → TermBelow (length env.ranges) d.value → IfBelow (length env.ranges) u → StandsAtAccess run v env locals memory → IsValid run.forms env → FollowsSome run v env locals memory next
known_by run v env next locals memory signed u d z true e q k c a b S V =
    let h = k (same_signs d.signed signed (sym e)) in
    record { w = v; follows = equal-follows run v env next locals memory (Some d.value) u z q (subst (λ (x : ℤ). Comes v (Some d.value) x) h (some-comes v d.value)) c (some-below (length env.ranges) d.value a) b S V }
known_by run v env next locals memory signed u d z false e q k c a b S V = some-same run v env next locals memory (let w : env ≡ next = cc in w) S V

-- where the place of a cell is a form
abbrev pub IfPlaced : (ℕ → ℤ) → ℕ → Fact → ℕ → Option Linear → Type 0
IfPlaced v n f off o = (at : Linear) → o ≡ Some at → Placed v n f off at

pub known_reads : (run : Run) (v : ℕ → ℤ) (env : Env) (locals : List (Option ℤ)) (memory : List Region) (s i : ℕ) (f : Fact) (r : Region) (off size : ℕ) (o : Option Linear) (d : Cell) → Inside run v env locals memory s i f r → IfPlaced v (length env.ranges) f off o → known_cell env.cells s o size ≡ Some d → number_at r.bytes off size d.signed ≡ value v d.value
unfolding region-of
known_reads run v env locals memory s i f r off size o d x p e = placed_by run v env locals memory s i size off o d x.stands (region-of run v env locals memory s i f r x) (λ at q. (p at q).value_is) e

-- a value that the type says
pub val-follows : (run : Run) (v : ℕ → ℤ) (env next : Env) (locals : List (Option ℤ)) (memory : List Region) (s i : ℕ) (f : Fact) (r : Region) (off size : ℕ) (signed : Bool) (u o : Option Linear) (d : Option Cell) → val_opened env s size signed u o d ≡ Ok next → known_cell env.cells s o size ≡ d → Comes v u (number_at r.bytes off size signed) → IfBelow (length env.ranges) u → Inside run v env locals memory s i f r → IfPlaced v (length env.ranges) f off o → off + size ≤ size_of r → HasSize size → FollowsSome run v env locals memory next
val-follows run v env next locals memory s i f r off size signed u None d q e c b x p l h = some-same run v env next locals memory (let w : env ≡ next = cc in w) x.stands x.valid
val-follows run v env next locals memory s i f r off size signed u (Some at) None q e c b x p l h =
    let z = number_at r.bytes off size signed in
    let k = bind-ok (named env (type_range size signed) u) (λ n. new_value s at size signed n) next q in
    let N = named-names run v env locals memory (type_range size signed) u k.x z k.first c b (λ y. type-has size signed z (wrapped-InRange size signed (pos (number_of (slice_range r.bytes off (off + size)))) h)) x.stands x.valid in
    val_new run v env next locals memory s i f r off size signed at k.x k.then_ N x (p at refl) l h
val-follows run v env next locals memory s i f r off size signed u (Some at) (Some d) q e c b x p l h =
    let k = known_reads run v env locals memory s i f r off size (Some at) d x p e in
    known_by run v env next locals memory signed u d (number_at r.bytes off size signed) (same_sign d.signed signed) refl q (λ a. sym k ∙ ap (number_at r.bytes off size) a) c (known_below (length env.ranges) env.cells s (Some at) size d x.valid.scoped.cells e).value b x.stands x.valid
