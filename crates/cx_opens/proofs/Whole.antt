-- What is added for a part, a branch, the head and an element is true of the region's bytes.
use Rattle.std.specs.Prelude.{◌≡◌, ℕ, zero, suc, ℤ, pos, negsuc, ◌-◌, ◌*ℤ◌, ◌<ℤ◌, ◌+◌, ◌*◌, ◌<◌, ◌≤◌, List, [], ◌∷◌, ◌++◌, length, replicate, slice_index_or, All, Any, Option, Some, None, option_map, Ok}
use Rattle.std.specs.Option.{IsSome}
use Rattle.std.specs.List.{AllByRecursion}
use Rattle.std.proofs.Common.{arith, refl, sym, ap, ◌∙◌, subst, length-append}
use Rattle.std.proofs.Math.Nat.{add-mul}
use Rattle.std.proofs.Math.IntN.{pos-*ℤ-pos}
use Rattle.std.proofs.lemmas.Int.{ints}
use Rattle.std.proofs.lemmas.List.{length-map, map-append, length-replicate}
use Rattle.std.proofs.lemmas.List.Elements.{All-append, All-nil}
use Rattle.cx_base.specs.Memory.{size_of}
use Rattle.cx_base.specs.declared.memory.Region.{Region}
use Rattle.cx_term.specs.Forms.{Linear, value, constant_of}
use Rattle.cx_term.specs.Conditions.{Holds}
use Rattle.cx_term.specs.Sums.{plus_times}
use Rattle.cx_term.specs.declared.term.Ineq.{Ineq}
use Rattle.cx_term.proofs.Exact.{value-plus_times}
use Rattle.cx_cells.specs.Kept.{KindIn, CellKept, symbols_of, BranchKept, TailKept, FormKept}
use Rattle.cx_cells.specs.Meaning.{CellHolds, PartHolds, BranchHolds, CasesHold, HeadHolds, known_to_elements, element_at}
use Rattle.cx_cells.specs.Layouts.{Extent, layout_of}
use Rattle.cx_cells.specs.Symbols.{telling_cell}
use Rattle.cx_cells.specs.Values.{values_of, all_values, count_of}
use Rattle.cx_cells.specs.declared.cell.CellKind.{CellKind}
use Rattle.cx_cells.specs.declared.cell.CellKind.TheVariants.{Any as AnyBytes, Val, Ptr}
use Rattle.cx_cells.specs.declared.cell.FlatCell.{FlatCell}
use Rattle.cx_cells.specs.declared.form.CaseBranch.{CaseBranch}
use Rattle.cx_cells.specs.declared.form.Form.{Form}
use Rattle.cx_cells.specs.declared.form.Tail.{Tail}
use Rattle.cx_state.specs.Run.{Run}
use Rattle.cx_state.specs.Stands.{block_bases, visible}
use Rattle.cx_state.specs.Valid.{TermBelow}
use Rattle.cx_state.specs.declared.state.Fact.{Fact}
use Rattle.cx_state.specs.declared.state.Env.{Env}
use Rattle.cx_query.specs.Shown.{number}
use Rattle.cx_query.proofs.Comes.{Comes, number-comes, fit-comes}
use Rattle.cx_learn.proofs.Below.{IfBelow, to_recursion, fit-below, plus_times-below, constant-below, number-below}
use Rattle.cx_learn.proofs.Learns.{access-meets}
use Rattle.cx_fact.proofs.Regions.{any_with}
use Rattle.cx_fact.proofs.Settles.{visible_by}
use Rattle.cx_close.specs.Knowing.{window}
use Rattle.cx_open.specs.Naming.{bound}
use Rattle.cx_open.specs.Cells.{learnt_all, cells_opened}
use Rattle.cx_open.specs.Parts.{filled, filled_with, part_opened}
use Rattle.cx_open.specs.declared.naming.Opening.{Opening}
use Rattle.cx_head.specs.Branches.{only_possible, env_of, branch_window, branch_opened, one_opened, cases_opened}
use Rattle.cx_head.specs.Heads.{head_window, with_args, head_opened, element_start, element_window, zeros, element_values, element_opened}
use Rattle.cx_opens.proofs.Carried.{fact-below}
use Rattle.cx_opens.proofs.Steps.{follows-then}
use Rattle.cx_opens.proofs.Terms.{bind-ok, then-ok, Terms, terms-more}
use Rattle.cx_opens.proofs.Names.{Opens}
use Rattle.cx_opens.proofs.Conds.{all-follow}
use Rattle.cx_opens.proofs.Cells.{Inside, inside-more, FollowsSome, some-same}
use Rattle.cx_opens.proofs.Parts.{Begins, begins-more, HasType, Fits, cells-follow}
use Rattle.cx_opens.proofs.Branches.{guard-possible, only-holds}
use Rattle.cx_opens.proofs.Binding.{bound-opens}

-- ---- a part
part-opens : (n : ℕ) (run : Run) (v : ℕ → ℤ) (locals : List (Option ℤ)) (memory : List Region) (s i : ℕ) (f : Fact) (r : Region) (start : Option Linear) (cells : List FlatCell) (conds : List Ineq) (off : ℕ) (o p : Opening) (done more bs : List ℤ) → part_opened run.forms (window None s f start cells) n conds o ≡ Ok p → length more ≡ n → Inside run v o.env locals memory s i f r → Begins v (length o.env.ranges) start off → Terms v (length o.env.ranges) o.terms done → block_bases v o.env.facts o.env.fresh ≡ bs → AllByRecursion (Fits run.forms off (size_of r)) cells → AllByRecursion (Holds (values_of (done ++ more))) conds → AllByRecursion (CellHolds (values_of (done ++ more)) (visible_by bs (layout_of memory)) r.bytes off) cells → ((q : ℕ) → length done ≤ q → q < length done + n → IsSome (telling_cell q cells)) → Opens run v o.env locals memory p (done ++ more)
part-opens n run v locals memory s i f r start cells conds off o p done more bs q l x b t e y k c told =
    let w = window None s f start cells in
    let zs = done ++ more in
    let a = bind-ok (bound n w o) (λ next. filled_with run.forms w conds next) p q in
    let B = bound-opens n run v locals memory s i f r start cells off o a.x done more bs a.first l x b t e y c told in
    let d = bind-ok (filled run.forms w conds a.x) (λ next. Ok (record { env = next; terms = a.x.terms })) p a.then_ in
    let g : record { env = d.x; terms = a.x.terms } ≡ p = let u = d.then_ in cc in
    let h = then-ok (learnt_all a.x.terms a.x.env conds) (λ next. cells_opened run.forms w a.x.terms next cells) d.x d.first in
    let x1 = inside-more run v o.env locals memory B.w a.x.env s i f r B.follows x in
    let b1 = begins-more run v o.env locals memory B.w a.x.env start off B.follows b in
    let F = all-follow conds run B.w a.x.env h.x locals memory a.x.terms zs h.first k B.terms x1.stands x1.valid in
    let x2 = inside-more run B.w a.x.env locals memory B.w h.x s i f r F x1 in
    let b2 = begins-more run B.w a.x.env locals memory B.w h.x start off F b1 in
    let t2 = terms-more B.w B.w (length a.x.env.ranges) (length h.x.ranges) a.x.terms zs F.agrees F.count B.terms in
    let C = cells-follow cells run B.w h.x d.x locals memory s i f r start cells off a.x.terms zs bs h.then_ x2 b2 t2 (F.blocks ∙ B.follows.blocks ∙ e) y c in
    let G = follows-then run B.w a.x.env locals memory B.w C.w h.x d.x F C.follows in
    subst (λ (z : Opening). Opens run v o.env locals memory z zs) g
    (record {
      w = C.w;
      follows = follows-then run v o.env locals memory B.w C.w a.x.env d.x B.follows G;
      terms = terms-more B.w C.w (length a.x.env.ranges) (length d.x.ranges) a.x.terms zs G.agrees G.count B.terms;
    })

-- ---- what a part's cells keep
pub kind_type : (forms : List Form) (known first past : ℕ) (kind : CellKind) → KindIn forms known first past kind → HasType forms kind
kind_type forms known first past AnyBytes h = tt
kind_type forms known first past (Val signed u) h = tt
kind_type forms known first past (Ptr name args off null) h = h.2

fits_by : (forms : List Form) (known first past size off n : ℕ) (c : FlatCell) → off + size ≤ n → CellKept forms known first past size c → Fits forms off n c
fits_by forms known first past size off n c l h = record { sized = h.sized; typed = kind_type forms known first past c.kind h.kind; inside = omega (arith, l, h.ends) }

each_fits : (forms : List Form) (known first past size off n : ℕ) (cs : List FlatCell) → off + size ≤ n → AllByRecursion (CellKept forms known first past size) cs → AllByRecursion (Fits forms off n) cs
each_fits forms known first past size off n [] l h = tt
each_fits forms known first past size off n (c ∷ cs) l h = (fits_by forms known first past size off n c l h.0, each_fits forms known first past size off n cs l h.1)

all_fit : (forms : List Form) (known first past size off n : ℕ) (cs : List FlatCell) → off + size ≤ n → All (CellKept forms known first past size) cs → AllByRecursion (Fits forms off n) cs
all_fit forms known first past size off n cs l h = each_fits forms known first past size off n cs l (to_recursion (CellKept forms known first past size) cs h)

begins-at : (v : ℕ → ℤ) (n k : ℕ) → Begins v n (number (pos k)) k
begins-at v n k = record { comes = number-comes v (pos k); below = number-below n (pos k) }

-- ---- a branch
branch-opens : (run : Run) (v : ℕ → ℤ) (locals : List (Option ℤ)) (memory : List Region) (s i : ℕ) (f : Fact) (r : Region) (form : Form) (o : Opening) (next : Env) (zs bs : List ℤ) (b : CaseBranch) → branch_opened run.forms form s f o b ≡ Ok next → Inside run v o.env locals memory s i f r → Terms v (length o.env.ranges) o.terms zs → block_bases v o.env.facts o.env.fresh ≡ bs → BranchHolds zs (visible_by bs (layout_of memory)) r.bytes form.cases_at b → BranchKept run.forms form b → length zs ≡ symbols_of form → form.head_size ≤ size_of r → FollowsSome run v o.env locals memory next
branch-opens run v locals memory s i f r form o next zs bs b q x t e h k c l =
    let w = branch_window form s f b in
    let a = then-ok (learnt_all o.terms o.env b.guard) (λ mid. env_of (part_opened run.forms w b.part.binders b.part.conds (record { env = mid; terms = o.terms }))) next q in
    let F = all-follow b.guard run v o.env a.x locals memory o.terms zs a.first h.guard t x.stands x.valid in
    let mid : Opening = record { env = a.x; terms = o.terms } in
    let d = bind-ok (part_opened run.forms w b.part.binders b.part.conds mid) (λ p. Ok p.env) next a.then_ in
    let g : d.x.env ≡ next = let u = d.then_ in cc in
    let n = length a.x.ranges in
    let first = symbols_of form in
    let y = all_fit run.forms first first (first + b.part.binders) b.part.size form.cases_at (size_of r) b.part.cells (let z = k.ends in omega (arith, z, l)) k.part.cells in
    let P = part-opens b.part.binders run v locals memory s i f r (number (pos form.cases_at)) b.part.cells b.part.conds form.cases_at mid d.x zs h.part.binders bs d.first h.part.count (inside-more run v o.env locals memory v a.x s i f r F x) (begins-at v n form.cases_at) (terms-more v v (length o.env.ranges) n o.terms zs F.agrees F.count t) (F.blocks ∙ e) y h.part.conds h.part.cells (λ j low high. k.part.told j (omega (arith, c, low)) (omega (arith, c, high))) in
    subst (λ (z : Env). FollowsSome run v o.env locals memory z) g (record { w = P.w; follows = follows-then run v o.env locals memory v P.w a.x d.x.env F P.follows })

any_of : (known : List ℤ) (layout : List Extent) (bytes : List ℕ) (off : ℕ) (env : Env) (ts : List Linear) (bs : List CaseBranch) (b : CaseBranch) → CasesHold known layout bytes off bs → only_possible env ts bs ≡ Some b → Any (BranchHolds known layout bytes off) bs
any_of known layout bytes off env ts [] b h e = absurd (cc)
any_of known layout bytes off env ts (c ∷ cs) b h e = h

one-opens : (run : Run) (v : ℕ → ℤ) (locals : List (Option ℤ)) (memory : List Region) (s i : ℕ) (f : Fact) (r : Region) (form : Form) (o : Opening) (next : Env) (zs bs : List ℤ) (b : Option CaseBranch) → only_possible o.env o.terms form.cases ≡ b → one_opened run.forms form s f o b ≡ Ok next → Inside run v o.env locals memory s i f r → Terms v (length o.env.ranges) o.terms zs → block_bases v o.env.facts o.env.fresh ≡ bs → CasesHold zs (visible_by bs (layout_of memory)) r.bytes form.cases_at form.cases → All (BranchKept run.forms form) form.cases → length zs ≡ symbols_of form → form.head_size ≤ size_of r → FollowsSome run v o.env locals memory next
one-opens run v locals memory s i f r form o next zs bs None p q x t e h k c l = some-same run v o.env next locals memory (let w : o.env ≡ next = cc in w) x.stands x.valid
one-opens run v locals memory s i f r form o next zs bs (Some b) p q x t e h k c l =
    let layout = visible_by bs (layout_of memory) in
    let P : CaseBranch → Type 0 = BranchHolds zs layout r.bytes form.cases_at in
    let K : CaseBranch → Type 0 = BranchKept run.forms form in
    let m = access-meets run v o.env locals memory x.stands in
    let a = any_with P K (λ y. P y × K y) form.cases (λ y d g. (g, d)) k (any_of zs layout r.bytes form.cases_at o.env o.terms form.cases b h p) in
    let d = only-holds (λ y. P y × K y) o.env o.terms form.cases b (λ y g. guard-possible o.env v (length o.env.ranges) o.terms zs y m t g.0.guard) a p in
    branch-opens run v locals memory s i f r form o next zs bs b q x t e d.0 d.1 c l

-- ---- the head
pub head-opens : (run : Run) (v : ℕ → ℤ) (env next : Env) (locals : List (Option ℤ)) (memory : List Region) (s i : ℕ) (f : Fact) (r : Region) (form : Form) → head_opened run.forms form s f env ≡ Ok next → Inside run v env locals memory s i f r → HeadHolds form r.args (visible v env (layout_of memory)) r.bytes → FormKept run.forms form → form.params ≡ length f.args → form.head_size ≤ size_of r → FollowsSome run v env locals memory next
head-opens run v env next locals memory s i f r form q x h' k c l =
    let n = length env.ranges in
    let done = all_values v f.args in
    let h = subst (λ (zs : List ℤ). HeadHolds form zs (visible v env (layout_of memory)) r.bytes) x.is.given h' in
    let bs = block_bases v env.facts env.fresh in
    let o : Opening = with_args env f in
    let a = bind-ok (part_opened run.forms (head_window form s f) form.binders form.conds o) (λ p. cases_opened run.forms form s f p) next q in
    let t : Terms v n f.args done = record { values = refl; below = (fact-below env s f x.valid.scoped x.fact).args } in
    let count : length done ≡ form.params = length-map f.args (value v) ∙ sym c in
    let y = all_fit run.forms (symbols_of form) 0 0 form.head_size 0 (size_of r) form.head (omega (arith, l)) k.head in
    let P = part-opens form.binders run v locals memory s i f r (number (pos 0)) form.head form.conds 0 o a.x done h.binders bs a.first h.count x (begins-at v n 0) t refl y h.conds h.cells (λ j low high. k.told j (omega (arith, count, low)) (omega (arith, count, high))) in
    let x1 = inside-more run v env locals memory P.w a.x.env s i f r P.follows x in
    let g : length (done ++ h.binders) ≡ symbols_of form = length-append done h.binders ∙ omega (arith, count, h.count) in
    let C = one-opens run P.w locals memory s i f r form a.x next (done ++ h.binders) bs (only_possible a.x.env a.x.terms form.cases) refl a.then_ x1 P.terms P.follows.blocks h.cases k.cases g l in
    record { w = C.w; follows = follows-then run v env locals memory P.w C.w a.x.env next P.follows C.follows }

-- ---- an element
zero-values : (v : ℕ → ℤ) (n : ℕ) → all_values v (zeros n) ≡ replicate n (pos 0)
zero-values v zero = refl
zero-values v (suc n) = let e = zero-values v n in cc

pub zeros-below : (m n : ℕ) → All (TermBelow m) (zeros n)
zeros-below m zero = All-nil (TermBelow m)
zeros-below m (suc n) = All-append (TermBelow m) (constant_of (pos 0) ∷ []) (zeros n) (λ k d l. one_below m k d l) (zeros-below m n)
  where
    one_below : (m k : ℕ) (d : Linear) → k < 1 → TermBelow m (slice_index_or (constant_of (pos 0) ∷ []) k d)
    one_below m zero d l = constant-below m (pos 0)
    one_below m (suc k) d l = absurd (omega (arith, l))

-- where the element begins
start_begins : (v : ℕ → ℤ) (n : ℕ) (form : Form) (tail : Tail) (t : Linear) (k : ℕ) (o : Option Linear) → value v t ≡ pos k → TermBelow n t → Comes v o (pos form.head_size) → IfBelow n o → Begins v n (element_start form tail t o) (element_at form tail k)
start_begins v n form tail t k None e b c d = record { comes = λ u g. absurd (cc); below = λ u g. absurd (cc) }
start_begins v n form tail t k (Some u) e b c d =
    let size = tail.part.size in
    let m : pos size *ℤ pos k ≡ pos (size * k) = pos-*ℤ-pos size k in
    let g : pos size *ℤ value v t ≡ pos (size * k) = ap (λ (z : ℤ). pos size *ℤ z) e ∙ m in
    let h : size * k ≡ k * size = omega (arith) in
    let z : value v (plus_times (pos size) t u) ≡ pos (element_at form tail k) = value-plus_times (pos size) t u v ∙ omega (arith, ints, c u refl, g, h) in
    record { comes = fit-comes v (plus_times (pos size) t u) (pos (element_at form tail k)) z; below = fit-below n (plus_times (pos size) t u) (plus_times-below n (pos size) t u b (d u refl)) }

-- an element lies in the region
pub element_in : (form : Form) (tail : Tail) (z : ℤ) (k n : ℕ) → option_map (element_at form tail) (count_of z) ≡ Some n → pos k <ℤ z → element_at form tail k + tail.part.size ≤ n
element_in form tail (pos m) k n e l =
    let size = tail.part.size in
    let g : form.head_size + m * size ≡ n = cc in
    let h : suc k ≤ m = omega (arith, ints, l) in
    let d : m ≡ suc k + (m - suc k) = omega (arith, h) in
    let y : m * size ≡ suc k * size + (m - suc k) * size = ap (λ (x : ℕ). x * size) d ∙ add-mul (suc k) (m - suc k) size in
    omega (arith, g, y)
element_in form tail (negsuc m) k n e l = absurd (cc)

pub element-opens : (run : Run) (v : ℕ → ℤ) (env next : Env) (locals : List (Option ℤ)) (memory : List Region) (s i : ℕ) (f : Fact) (r : Region) (form : Form) (tail : Tail) (t : Linear) (j : ℕ) → element_opened run.forms form s f t env (Some tail) ≡ Ok next → Inside run v env locals memory s i f r → value v t ≡ pos j → TermBelow (length env.ranges) t → PartHolds (known_to_elements form r.args) (visible v env (layout_of memory)) r.bytes (element_at form tail j) tail.part → TailKept run.forms form tail → form.params ≡ length f.args → element_at form tail j + tail.part.size ≤ size_of r → FollowsSome run v env locals memory next
element-opens run v env next locals memory s i f r form tail t j q x z b h' k c l =
    let n = length env.ranges in
    let h = subst (λ (zs : List ℤ). PartHolds (known_to_elements form zs) (visible v env (layout_of memory)) r.bytes (element_at form tail j) tail.part) x.is.given h' in
    let args = all_values v f.args in
    let done = known_to_elements form args in
    let o : Opening = element_values form env f in
    let w = element_window form tail s f t in
    let start = element_start form tail t (number (pos form.head_size)) in
    let a = bind-ok (part_opened run.forms w tail.part.binders tail.part.conds o) (λ p. Ok p.env) next q in
    let g : a.x.env ≡ next = let u = a.then_ in cc in
    let values : all_values v (f.args ++ zeros form.binders) ≡ done = map-append (value v) f.args (zeros form.binders) ∙ ap (λ (ys : List ℤ). args ++ ys) (zero-values v form.binders) in
    let ts : Terms v n (f.args ++ zeros form.binders) done = record { values = values; below = All-append (TermBelow n) f.args (zeros form.binders) (fact-below env s f x.valid.scoped x.fact).args (zeros-below n form.binders) } in
    let count : length done ≡ symbols_of form = length-append args (replicate form.binders (pos 0)) ∙ omega (arith, length-map f.args (value v), c, length-replicate form.binders (pos 0)) in
    let first = symbols_of form in
    let y = all_fit run.forms form.params first (first + tail.part.binders) tail.part.size (element_at form tail j) (size_of r) tail.part.cells l k.part.cells in
    let B = start_begins v n form tail t j (number (pos form.head_size)) z b (number-comes v (pos form.head_size)) (number-below n (pos form.head_size)) in
    let P = part-opens tail.part.binders run v locals memory s i f r start tail.part.cells tail.part.conds (element_at form tail j) o a.x done h.binders (block_bases v env.facts env.fresh) a.first h.count x B ts refl y h.conds h.cells (λ m low high. k.part.told m (omega (arith, count, low)) (omega (arith, count, high))) in
    subst (λ (y : Env). FollowsSome run v env locals memory y) g (record { w = P.w; follows = P.follows })
