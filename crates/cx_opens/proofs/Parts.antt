-- What is added for the cells of a part, in their order, is true of the region's bytes.
use Rattle.std.specs.Prelude.{◌≡◌, ℕ, ℤ, pos, ◌+ℤ◌, ◌-ℤ◌, ◌+◌, ◌≤◌, List, [], ◌∷◌, length, Option, Some, None, Ok, Bool, true, false, if◌then◌else◌}
use Rattle.std.specs.List.{AllByRecursion}
use Rattle.std.proofs.Common.{arith, refl, sym, ◌∙◌, subst}
use Rattle.std.proofs.lemmas.Int.{ints}
use Rattle.cx_base.specs.Memory.{size_of}
use Rattle.cx_base.specs.declared.memory.Region.{Region}
use Rattle.cx_term.specs.Forms.{Linear, value}
use Rattle.cx_cells.specs.Kept.{HasKindSize, HasParams}
use Rattle.cx_cells.specs.Meaning.{number_at, KindHolds, CellHolds}
use Rattle.cx_cells.specs.Values.{values_of, all_values}
use Rattle.cx_cells.specs.Layouts.{layout_of, Points}
use Rattle.cx_cells.specs.declared.cell.CellKind.{CellKind}
use Rattle.cx_cells.specs.declared.cell.CellKind.TheVariants.{Any, Val, Ptr}
use Rattle.cx_cells.specs.declared.cell.FlatCell.{FlatCell}
use Rattle.cx_cells.specs.declared.form.Form.{Form}
use Rattle.cx_state.specs.Run.{Run}
use Rattle.cx_state.specs.Stands.{block_bases, visible}
use Rattle.cx_state.specs.Valid.{TermBelow}
use Rattle.cx_state.specs.declared.state.Cell.{Cell}
use Rattle.cx_state.specs.declared.state.Fact.{Fact}
use Rattle.cx_state.specs.declared.state.Env.{Env}
use Rattle.cx_query.specs.Kinds.{is_size, instance}
use Rattle.cx_query.specs.Shown.{sum, number}
use Rattle.cx_query.proofs.Comes.{Comes, some-comes, number-comes, sum-comes, difference-comes}
use Rattle.cx_query.proofs.KindLaws.{has_size}
use Rattle.cx_learn.proofs.Below.{IfBelow, some-below, number-below, sum-below, difference-below}
use Rattle.cx_fact.proofs.Settles.{visible_by}
use Rattle.cx_close.specs.Knowing.{window, place_of, known_cell, known_at}
use Rattle.cx_open.specs.Cells.{val_opened, kind_opened, cell_opened, cells_opened}
use Rattle.cx_opens.proofs.Carried.{fact-below, value-agrees}
use Rattle.cx_opens.proofs.Steps.{below-more, Follows, follows-then}
use Rattle.cx_opens.proofs.Terms.{then-ok, Terms, terms-more, instance-value, instance-below}
use Rattle.cx_opens.proofs.Cells.{Inside, inside-more, IfPlaced, FollowsSome, some-same, val-follows}
use Rattle.cx_opens.proofs.Pointers.{ptr-follows}

-- ---- where a part begins
pub record Begins (v : ℕ → ℤ) (n : ℕ) (start : Option Linear) (k : ℕ) : Type 0 where
  pub comes : Comes v start (pos k)
  pub below : IfBelow n start

pub begins-more : (run : Run) (v : ℕ → ℤ) (env : Env) (locals : List (Option ℤ)) (memory : List Region) (w : ℕ → ℤ) (next : Env) (start : Option Linear) (k : ℕ) → Follows run v env locals memory w next → Begins v (length env.ranges) start k → Begins w (length next.ranges) start k
begins-more run v env locals memory w next start k F b =
    let n = length env.ranges in
    record { comes = λ u e. value-agrees n v w u F.agrees (b.below u e) ∙ b.comes u e; below = λ u e. below-more n (length next.ranges) u F.count (b.below u e) }

pub placed : (v : ℕ → ℤ) (n : ℕ) (start : Option Linear) (k : ℕ) (f : Fact) (c : FlatCell) → Begins v n start k → TermBelow n f.off → IfPlaced v n f (k + c.at) (place_of start f c)
placed v n start k f c b o at e =
    let a = sum-comes v start (number (pos c.at)) (pos k) (pos c.at) b.comes (number-comes v (pos c.at)) in
    let g : pos k +ℤ pos c.at ≡ pos (k + c.at) = omega (arith, ints) in
    let h = difference-comes v (sum start (number (pos c.at))) (Some f.off) (pos k +ℤ pos c.at) (value v f.off) a (some-comes v f.off) at e in
    record { value_is = subst (λ (z : ℤ). value v at ≡ z -ℤ value v f.off) g h; below = difference-below n (sum start (number (pos c.at))) (Some f.off) (sum-below n start (number (pos c.at)) b.below (number-below n (pos c.at))) (some-below n f.off o) at e }

-- ---- one cell
-- the kind's pointer has its type's number of arguments
abbrev pub HasType : List Form → CellKind → Type 0
HasType forms Any = Unit {0}
HasType forms (Val signed u) = Unit {0}
HasType forms (Ptr name args to null) = HasParams forms name (length args)

-- what a cell of the part keeps, in a region of so many bytes
pub record Fits (forms : List Form) (k size : ℕ) (c : FlatCell) : Type 0 where
  pub sized : HasKindSize c.size c.kind
  pub typed : HasType forms c.kind
  pub inside : k + c.at + c.size ≤ size

val_by : (run : Run) (v : ℕ → ℤ) (env next : Env) (locals : List (Option ℤ)) (memory : List Region) (s i : ℕ) (f : Fact) (r : Region) (off size : ℕ) (signed : Bool) (u o : Option Linear) (d : Option Cell) (b : Bool) → is_size size ≡ b → (if b then val_opened env s size signed u o d else Ok env) ≡ Ok next → known_cell env.cells s o size ≡ d → Comes v u (number_at r.bytes off size signed) → IfBelow (length env.ranges) u → Inside run v env locals memory s i f r → IfPlaced v (length env.ranges) f off o → off + size ≤ size_of r → FollowsSome run v env locals memory next
val_by run v env next locals memory s i f r off size signed u o d true e q k c b x p l = val-follows run v env next locals memory s i f r off size signed u o d q k c b x p l (has_size size e)
val_by run v env next locals memory s i f r off size signed u o d false e q k c b x p l = some-same run v env next locals memory (let w : env ≡ next = cc in w) x.stands x.valid

kind_follows : (run : Run) (v : ℕ → ℤ) (env next : Env) (locals : List (Option ℤ)) (memory : List Region) (s i : ℕ) (f : Fact) (r : Region) (off size : ℕ) (ts : List Linear) (zs : List ℤ) (kind : CellKind) (o : Option Linear) (d : Option Cell) → kind_opened run.forms ts env s size kind o d ≡ Ok next → known_cell env.cells s o size ≡ d → Inside run v env locals memory s i f r → IfPlaced v (length env.ranges) f off o → off + size ≤ size_of r → Terms v (length env.ranges) ts zs → HasKindSize size kind → HasType run.forms kind → KindHolds (values_of zs) (visible v env (layout_of memory)) r.bytes off size kind → FollowsSome run v env locals memory next
kind_follows run v env next locals memory s i f r off size ts zs Any o d q k x p l t h y c = some-same run v env next locals memory (let w : env ≡ next = cc in w) x.stands x.valid
kind_follows run v env next locals memory s i f r off size ts zs (Val signed u) o d q k x p l t h y c =
    let n = length env.ranges in
    val_by run v env next locals memory s i f r off size signed (instance (Some ts) u) o d (is_size size) refl q k (subst (λ (z : ℤ). Comes v (instance (Some ts) u) z) (sym c) (instance-value v n ts zs u t)) (instance-below v n ts zs u t) x p l
kind_follows run v env next locals memory s i f r off size ts zs (Ptr name args to null) o d q k x p l t h y c =
    let g : known_cell env.cells s o 8 ≡ d = subst (λ (n : ℕ). known_cell env.cells s o n ≡ d) h k in
    let m : off + 8 ≤ size_of r = subst (λ (n : ℕ). off + n ≤ size_of r) h l in
    let e : Points (visible v env (layout_of memory)) name (all_values (values_of zs) args) (value (values_of zs) to) null (number_at r.bytes off 8 false) = subst (λ (n : ℕ). Points (visible v env (layout_of memory)) name (all_values (values_of zs) args) (value (values_of zs) to) null (number_at r.bytes off n false)) h c in
    ptr-follows run v env next locals memory s i f r off ts zs name args to null o d q g x p m t y e

-- ---- the cells in order
pub cells-follow : (cs : List FlatCell) (run : Run) (v : ℕ → ℤ) (env next : Env) (locals : List (Option ℤ)) (memory : List Region) (s i : ℕ) (f : Fact) (r : Region) (start : Option Linear) (all : List FlatCell) (k : ℕ) (ts : List Linear) (zs bs : List ℤ) → cells_opened run.forms (window None s f start all) ts env cs ≡ Ok next → Inside run v env locals memory s i f r → Begins v (length env.ranges) start k → Terms v (length env.ranges) ts zs → block_bases v env.facts env.fresh ≡ bs → AllByRecursion (Fits run.forms k (size_of r)) cs → AllByRecursion (CellHolds (values_of zs) (visible_by bs (layout_of memory)) r.bytes k) cs → FollowsSome run v env locals memory next
cells-follow [] run v env next locals memory s i f r start all k ts zs bs q x b t e h c = some-same run v env next locals memory (let w : env ≡ next = cc in w) x.stands x.valid
cells-follow (d ∷ ds) run v env next locals memory s i f r start all k ts zs bs q x b t e h c =
    let n = length env.ranges in
    let w = window None s f start all in
    let a = then-ok (cell_opened run.forms w ts env d) (λ mid. cells_opened run.forms w ts mid ds) next q in
    let o = place_of start f d in
    let p = placed v n start k f d b (fact-below env s f x.valid.scoped x.fact).off in
    let l : k + d.at + d.size ≤ size_of r = h.0.inside in
    let y : KindHolds (values_of zs) (visible v env (layout_of memory)) r.bytes (k + d.at) d.size d.kind = subst (λ (xs : List ℤ). KindHolds (values_of zs) (visible_by xs (layout_of memory)) r.bytes (k + d.at) d.size d.kind) (sym e) c.0 in
    let F = kind_follows run v env a.x locals memory s i f r (k + d.at) d.size ts zs d.kind o (known_at env w d) a.first refl x p l t h.0.sized h.0.typed y in
    let g = F.follows in
    let R = cells-follow ds run F.w a.x next locals memory s i f r start all k ts zs bs a.then_ (inside-more run v env locals memory F.w a.x s i f r g x) (begins-more run v env locals memory F.w a.x start k g b) (terms-more v F.w n (length a.x.ranges) ts zs g.agrees g.count t) (g.blocks ∙ e) h.1 c.1 in
    record { w = R.w; follows = follows-then run v env locals memory F.w R.w a.x next g R.follows }
