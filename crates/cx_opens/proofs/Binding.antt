-- The binders of a part get the numbers that the region's bytes tell.
use Rattle.std.specs.Prelude.{◌≡◌, ℕ, zero, suc, ℤ, pos, ◌+◌, ◌<◌, ◌≤◌, List, [], ◌∷◌, ◌++◌, length, slice_get, slice_range, Option, Some, None, Ok, Bool, true, false, ◌||◌, ◌==◌, if◌then◌else◌}
use Rattle.std.specs.Option.{IsSome}
use Rattle.std.specs.List.{AllByRecursion}
use Rattle.std.proofs.Common.{arith, refl, sym, ap, ◌∙◌, subst, append_assoc, append-nil, length-append}
use Rattle.std.proofs.lemmas.List.Elements.{All-from_recursion}
use Rattle.std.proofs.lemmas.Option.{get_or_from_slice_get, slice_get_within}
use Rattle.cx_base.specs.Bytes.{number_of}
use Rattle.cx_base.specs.Memory.{size_of}
use Rattle.cx_base.specs.Number.{HasSize}
use Rattle.cx_base.specs.declared.memory.Region.{Region}
use Rattle.cx_base.proofs.Wrapping.{wrapped-InRange}
use Rattle.cx_term.specs.Forms.{Linear}
use Rattle.cx_entail.specs.Ranges.{Span, Has}
use Rattle.cx_cells.specs.Kept.{HasKindSize}
use Rattle.cx_cells.specs.Meaning.{number_at, KindHolds, CellHolds}
use Rattle.cx_cells.specs.Layouts.{layout_of}
use Rattle.cx_cells.specs.Symbols.{told_by, telling_cell}
use Rattle.cx_cells.specs.Values.{values_of}
use Rattle.cx_cells.specs.declared.cell.CellKind.{CellKind}
use Rattle.cx_cells.specs.declared.cell.CellKind.TheVariants.{Any, Val, Ptr}
use Rattle.cx_cells.specs.declared.cell.FlatCell.{FlatCell}
use Rattle.cx_cells.specs.declared.telling.Told.{Told}
use Rattle.cx_cells.specs.declared.telling.Told.TheVariants.{Value, Argument}
use Rattle.cx_member.proofs.Telling.{value-tells, telling_is}
use Rattle.cx_state.specs.Run.{Run}
use Rattle.cx_state.specs.Stands.{block_bases, visible, StandsAtAccess}
use Rattle.cx_state.specs.declared.state.Fact.{Fact}
use Rattle.cx_state.specs.declared.state.Env.{Env}
use Rattle.cx_query.specs.Kinds.{is_size}
use Rattle.cx_fact.proofs.Settles.{visible_by}
use Rattle.cx_close.specs.Knowing.{window, place_of, known_cell, told, told_by as told_at_cell, told_in, known_binder}
use Rattle.cx_open.specs.Naming.{argument_range, type_range, range_of_kind, range_by, range_in, binder_range, named, with_named, next_bound, bound}
use Rattle.cx_open.specs.declared.naming.Opening.{Opening}
use Rattle.cx_opens.proofs.Carried.{fact-below}
use Rattle.cx_opens.proofs.Steps.{follows-same}
use Rattle.cx_opens.proofs.Terms.{bind-ok, Terms, terms-count}
use Rattle.cx_opens.proofs.Names.{type-has, named-names, names-terms, Opens, opens-then}
use Rattle.cx_opens.proofs.Cells.{Inside, inside-more, IfPlaced}
use Rattle.cx_opens.proofs.Parts.{Begins, begins-more, placed, Fits}
use Rattle.cx_opens.proofs.Binders.{IsNumber, value-told}
use Rattle.cx_opens.proofs.Arguments.{argument-told, argument-has}

-- ---- sizes
four_any : (a b c d : Bool) → ((a || b) || c) || d ≡ true → a || (b || (c || d)) ≡ true
four_any true b c d e = refl
four_any false true c d e = refl
four_any false false c d e = e

is_size-true : (n : ℕ) → HasSize n → is_size n ≡ true
is_size-true n h = four_any (n == 1) (n == 2) (n == 4) (n == 8) h

-- ---- what the telling cell says
-- what is known of it is the binder's number
kind_told : (run : Run) (v w : ℕ → ℤ) (env : Env) (locals : List (Option ℤ)) (memory : List Region) (s i : ℕ) (f : Fact) (r : Region) (off size : ℕ) (kind : CellKind) (how : Told) (k : ℕ) (o : Option Linear) (t : Linear) → told_by k kind ≡ Some how → told None env size kind how (known_cell env.cells s o size) ≡ Some t → KindHolds w (visible v env (layout_of memory)) r.bytes off size kind → HasKindSize size kind → Inside run v env locals memory s i f r → IfPlaced v (length env.ranges) f off o → IsNumber v (length env.ranges) t (w k)
kind_told run v w env locals memory s i f r off size Any how k o t e q c h x p = absurd (cc)
kind_told run v w env locals memory s i f r off size (Val signed u) how k o t e q c h x p = value-told run v w env locals memory s i f r (visible v env (layout_of memory)) off size signed u how k o t e q c x p h
kind_told run v w env locals memory s i f r off size (Ptr name args to null) Value k o t e q c h x p = absurd (cc)
kind_told run v w env locals memory s i f r off size (Ptr name args to null) (Argument j) k o t e q c h x p =
    let q' = subst (λ (n : ℕ). told None env n (Ptr name args to null) (Argument j) (known_cell env.cells s o n) ≡ Some t) h q in
    let c' = subst (λ (n : ℕ). KindHolds w (visible v env (layout_of memory)) r.bytes off n (Ptr name args to null)) h c in
    argument-told run v w env locals memory s i f r off name args to null j k o (known_cell env.cells s o 8) t e refl q' c' x p

-- the number is in the range of a new symbol
size_by : (b : Bool) (size : ℕ) (signed : Bool) (z : ℤ) → b ≡ true → Has (type_range size signed) z → Has (if b then type_range size signed else argument_range) z
size_by true size signed z e h = h
size_by false size signed z e h = absurd (cc)

kind_has : (run : Run) (v w : ℕ → ℤ) (env : Env) (locals : List (Option ℤ)) (memory : List Region) (bytes : List ℕ) (off size : ℕ) (kind : CellKind) (how : Told) (k : ℕ) → told_by k kind ≡ Some how → KindHolds w (visible v env (layout_of memory)) bytes off size kind → HasKindSize size kind → StandsAtAccess run v env locals memory → Has (range_of_kind size kind) (w k)
kind_has run v w env locals memory bytes off size Any how k e c h S = absurd (cc)
kind_has run v w env locals memory bytes off size (Val signed u) how k e c h S =
    let z = value-tells w (visible v env (layout_of memory)) bytes off size k (Val signed u) how signed u refl e c in
    let g = type-has size signed (number_at bytes off size signed) (wrapped-InRange size signed (pos (number_of (slice_range bytes off (off + size)))) h) in
    size_by (is_size size) size signed (w k) (is_size-true size h) (subst (λ (x : ℤ). Has (type_range size signed) x) z g)
kind_has run v w env locals memory bytes off size (Ptr name args to null) how k e c h S =
    let c' = subst (λ (n : ℕ). KindHolds w (visible v env (layout_of memory)) bytes off n (Ptr name args to null)) h c in
    argument-has run v w env locals memory bytes off name args to null how k e c' S

-- ---- a binder that a cell of the part tells
-- the known value, where there is one, is the number; the number is in the range of a new symbol
record Tells (v : ℕ → ℤ) (n : ℕ) (range : Span) (o : Option Linear) (z : ℤ) : Type 0 where
  known : (t : Linear) → o ≡ Some t → IsNumber v n t z
  has : Has range z

cell_of : {X : Type 0} (P : X → Type 0) (xs : List X) (i : ℕ) (x : X) → slice_get xs i ≡ Some x → AllByRecursion P xs → P x
cell_of P xs i x e h = subst P (get_or_from_slice_get xs i x x e) (All-from_recursion P xs h i x (slice_get_within xs i x e))

telling_by : (run : Run) (v : ℕ → ℤ) (env : Env) (locals : List (Option ℤ)) (memory : List Region) (s i : ℕ) (f : Fact) (r : Region) (start : Option Linear) (cells : List FlatCell) (off q : ℕ) (zs : List ℤ) (a : Option (ℕ × Told)) → telling_cell q cells ≡ a → IsSome a → Inside run v env locals memory s i f r → Begins v (length env.ranges) start off → AllByRecursion (Fits run.forms off (size_of r)) cells → AllByRecursion (CellHolds (values_of zs) (visible v env (layout_of memory)) r.bytes off) cells → Tells v (length env.ranges) (range_in cells a) (told_in env (window None s f start cells) a) (values_of zs q)
telling_by run v env locals memory s i f r start cells off q zs None e h x b y c = absurd (let w : false ≡ true = h in cc)
telling_by run v env locals memory s i f r start cells off q zs (Some (j, how)) e h x b y c =
    let T = telling_is q cells j how e in
    let w = window None s f start cells in
    let n = length env.ranges in
    let layout = visible v env (layout_of memory) in
    let g = (cell_of (Fits run.forms off (size_of r)) cells j T.c T.at y).sized in
    let k = cell_of (CellHolds (values_of zs) layout r.bytes off) cells j T.c T.at c in
    let p = placed v n start off f T.c b (fact-below env s f x.valid.scoped x.fact).off in
    record {
      known = λ t m.
          kind_told run v (values_of zs) env locals memory s i f r (off + T.c.at) T.c.size T.c.kind how q (place_of start f T.c) t T.told (subst (λ (o : Option FlatCell). told_at_cell env w how o ≡ Some t) T.at m) k g x p;
      has = subst (λ (o : Option FlatCell). Has (range_by o) (values_of zs q)) (sym T.at) (kind_has run v (values_of zs) env locals memory r.bytes (off + T.c.at) T.c.size T.c.kind how q T.told k g x.stands);
    }

-- ---- the binders in order
here : (xs ys : List ℤ) (z : ℤ) → values_of (xs ++ z ∷ ys) (length xs) ≡ z
here [] ys z = refl
here (x ∷ xs) ys z = here xs ys z

pub bound-opens : (n : ℕ) (run : Run) (v : ℕ → ℤ) (locals : List (Option ℤ)) (memory : List Region) (s i : ℕ) (f : Fact) (r : Region) (start : Option Linear) (cells : List FlatCell) (off : ℕ) (o p : Opening) (done more bs : List ℤ) → bound n (window None s f start cells) o ≡ Ok p → length more ≡ n → Inside run v o.env locals memory s i f r → Begins v (length o.env.ranges) start off → Terms v (length o.env.ranges) o.terms done → block_bases v o.env.facts o.env.fresh ≡ bs → AllByRecursion (Fits run.forms off (size_of r)) cells → AllByRecursion (CellHolds (values_of (done ++ more)) (visible_by bs (layout_of memory)) r.bytes off) cells → ((q : ℕ) → length done ≤ q → q < length done + n → IsSome (telling_cell q cells)) → Opens run v o.env locals memory p (done ++ more)
bound-opens zero run v locals memory s i f r start cells off o p done [] bs q l x b t e y c told =
    let g : o ≡ p = cc in
    subst (λ (a : Opening). Opens run v o.env locals memory a (done ++ [])) g
    (record { w = v; follows = follows-same run v o.env locals memory x.stands x.valid; terms = subst (λ (xs : List ℤ). Terms v (length o.env.ranges) o.terms xs) (sym (append-nil done)) t })
bound-opens zero run v locals memory s i f r start cells off o p done (z ∷ zs) bs q l x b t e y c told = absurd (omega (arith, l))
bound-opens (suc n) run v locals memory s i f r start cells off o p done [] bs q l x b t e y c told = absurd (omega (arith, l))
bound-opens (suc n) run v locals memory s i f r start cells off o p done (z ∷ zs) bs q l x b t e y c told =
    let w = window None s f start cells in
    let m = length o.env.ranges in
    let k = length o.terms in
    let a = bind-ok (next_bound w o) (λ next. bound n w next) p q in
    let d = bind-ok (named o.env (binder_range cells k) (known_binder o.env w k)) (λ x. Ok (with_named o.terms x)) a.x a.first in
    let g : with_named o.terms d.x ≡ a.x = let u = d.then_ in cc in
    let then_ = subst (λ (a : Opening). bound n w a ≡ Ok p) (sym g) a.then_ in
    let count : k ≡ length done = terms-count v m o.terms done t in
    let c' = subst (λ (xs : List ℤ). AllByRecursion (CellHolds (values_of (done ++ z ∷ zs)) (visible_by xs (layout_of memory)) r.bytes off) cells) (sym e) c in
    let T = telling_by run v o.env locals memory s i f r start cells off k (done ++ z ∷ zs) (telling_cell k cells) refl (told k (omega (arith, count)) (omega (arith, count))) x b y c' in
    let is : values_of (done ++ z ∷ zs) k ≡ z = ap (values_of (done ++ z ∷ zs)) count ∙ here done zs z in
    let N = named-names run v o.env locals memory (binder_range cells k) (known_binder o.env w k) d.x z d.first (λ u h. (T.known u h).value_is ∙ is) (λ u h. (T.known u h).below) (λ h. subst (λ (y : ℤ). Has (binder_range cells k) y) is T.has) x.stands x.valid in
    let F = N.follows in
    let U = names-terms run v o.env locals memory o.terms done d.x z t N in
    let assoc : done ++ z ∷ zs ≡ (done ++ z ∷ []) ++ zs = sym (append_assoc done (z ∷ []) zs) in
    let h : length (done ++ z ∷ []) ≡ length done + 1 = length-append done (z ∷ []) in
    let R = bound-opens n run N.w locals memory s i f r start cells off (with_named o.terms d.x) p (done ++ z ∷ []) zs bs then_ (omega (arith, l)) (inside-more run v o.env locals memory N.w d.x.env s i f r F x) (begins-more run v o.env locals memory N.w d.x.env start off F b) U (F.blocks ∙ e) y (subst (λ (xs : List ℤ). AllByRecursion (CellHolds (values_of xs) (visible_by bs (layout_of memory)) r.bytes off) cells) assoc c) (λ j low high. told j (omega (arith, h, low)) (omega (arith, h, high))) in
    opens-then run v o.env locals memory N.w d.x.env p (done ++ z ∷ zs) F (subst (λ (xs : List ℤ). Opens run N.w d.x.env locals memory p xs) (sym assoc) R)
