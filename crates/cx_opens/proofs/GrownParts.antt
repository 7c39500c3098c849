-- What opening makes of a valid state is valid: parts, branches, heads and elements.
use Rattle.std.specs.Prelude.{◌≡◌, ℕ, zero, suc, pos, ◌+◌, ◌<◌, ◌≤◌, List, [], ◌∷◌, length, All, Option, Some, None, slice_get, IfSome, Ok, Bool, true, false, not, ◌&&◌, ◌==◌, if◌then◌else◌}
use Rattle.std.specs.List.{AllByRecursion}
use Rattle.std.proofs.Common.{arith, refl, sym, ◌∙◌, subst, length-append}
use Rattle.std.proofs.lemmas.List.Elements.{All-push, All-append, All-nil}
use Rattle.cx_term.specs.Forms.{Linear, symbol_of}
use Rattle.cx_term.specs.Sums.{plus_times}
use Rattle.cx_term.specs.declared.term.Ineq.{Ineq}
use Rattle.cx_cells.specs.Kept.{HasParams, CellKept, BranchKept, TailKept, FormKept}
use Rattle.cx_cells.specs.Symbols.{telling_cell}
use Rattle.cx_cells.specs.declared.cell.CellKind.{CellKind}
use Rattle.cx_cells.specs.declared.cell.CellKind.TheVariants.{Any as AnyBytes, Val, Ptr}
use Rattle.cx_cells.specs.declared.cell.FlatCell.{FlatCell}
use Rattle.cx_cells.specs.declared.form.CaseBranch.{CaseBranch}
use Rattle.cx_cells.specs.declared.form.Form.{Form}
use Rattle.cx_cells.specs.declared.form.Tail.{Tail}
use Rattle.cx_cells.specs.declared.telling.Told.{Told}
use Rattle.cx_cells.specs.declared.telling.Told.TheVariants.{Value, Argument}
use Rattle.cx_state.specs.Known.{fact_at}
use Rattle.cx_state.specs.Valid.{TermBelow, LocalBelow, FactBelow, HasType, Scoped, IsValid}
use Rattle.cx_state.specs.declared.state.Cell.{Cell}
use Rattle.cx_state.specs.declared.state.Fact.{Fact}
use Rattle.cx_state.specs.declared.state.Env.{Env}
use Rattle.cx_state.specs.declared.state.Pointed.{Pointed}
use Rattle.cx_query.specs.Kinds.{is_size, in_type, instance, least_of, greatest_of}
use Rattle.cx_query.specs.Pointing.{point_of, not_fresh}
use Rattle.cx_query.specs.Shown.{sum, number, shown_equal}
use Rattle.cx_learn.specs.Answers.{and_then}
use Rattle.cx_learn.proofs.Below.{IfBelow, to_recursion, some-below, number-below, sum-below, difference-below, symbol-below, fit-below, plus_times-below}
use Rattle.cx_fact.specs.Telling.{told as told_fact_of, with_fact, settled}
use Rattle.cx_apart.specs.Putting.{with_cell}
use Rattle.cx_apart.proofs.Places.{all_get}
use Rattle.cx_close.specs.Knowing.{window, place_of, known_at, argument_of, argument_at, told, told_by, told_in, known_binder}
use Rattle.cx_open.specs.Naming.{argument_range, type_range, binder_range, added, named, with_named, next_bound, bound}
use Rattle.cx_open.specs.Cells.{learnt_all, learnt_equal, learnt_type, same_sign, cell_of, new_value, val_opened, args_named, begun, with_offset, offset_named, fact_named, new_pointer, lone_in, fact_given, lone_given, ptr_opened, kind_opened, cell_opened, cells_opened}
use Rattle.cx_open.specs.Parts.{filled, filled_with, part_opened}
use Rattle.cx_open.specs.declared.naming.Named.{Named}
use Rattle.cx_open.specs.declared.naming.Opening.{Opening}
use Rattle.cx_open.specs.declared.naming.Factual.{Factual}
use Rattle.cx_head.specs.Branches.{only_possible, env_of, branch_window, branch_opened, one_opened, cases_opened}
use Rattle.cx_head.specs.Heads.{head_window, with_args, head_opened, element_start, element_window, zeros, element_values, element_opened, part_chosen, form_opened, fact_opened, opened}
use Rattle.cx_head.proofs.Few.{only-kept}
use Rattle.cx_opens.proofs.Carried.{fact-below, fact-within}
use Rattle.cx_opens.proofs.Lists.{set-at}
use Rattle.cx_opens.proofs.Steps.{symbol-more, symbol-fact, below-more}
use Rattle.cx_opens.proofs.Terms.{then-ok, bind-ok, instance-within}
use Rattle.cx_opens.proofs.Conds.{if-more}
use Rattle.cx_opens.proofs.Facts.{fact-facts}
use Rattle.cx_opens.proofs.Cells.{known_below}
use Rattle.cx_opens.proofs.Pointers.{lone_at}
use Rattle.cx_opens.proofs.Parts.{HasType as KindType}
use Rattle.cx_opens.proofs.Whole.{kind_type, zeros-below}
use Rattle.cx_opens.proofs.Grown.{Grown, grown-same, grown-then, told-grown, cell-grown, symbol-grown, given-grown, settled-grown, all-grown, equal-grown, ends-grown, terms-within, named-grown}

-- ---- what is known where a part is opened
-- the symbol and the forms are of the state's symbols
pub record Scene (n s : ℕ) (f : Fact) (start : Option Linear) (ts : List Linear) : Type 0 where
  pub sym : s < n
  pub off : TermBelow n f.off
  pub begins : IfBelow n start
  pub terms : All (TermBelow n) ts

scene-more : (n m s : ℕ) (f : Fact) (start : Option Linear) (ts : List Linear) → n ≤ m → Scene n s f start ts → Scene m s f start ts
scene-more n m s f start ts l h = record { sym = (let x = h.sym in omega (arith, l, x)); off = below-more n m f.off l h.off; begins = if-more n m start l h.begins; terms = terms-within n m ts l h.terms }

place-within : (n s : ℕ) (f : Fact) (start : Option Linear) (ts : List Linear) (c : FlatCell) → Scene n s f start ts → IfBelow n (place_of start f c)
place-within n s f start ts c h = difference-below n (sum start (number (pos c.at))) (Some f.off) (sum-below n start (number (pos c.at)) h.begins (number-below n (pos c.at))) (some-below n f.off h.off)

-- ---- values
new_value-grown : (forms : List Form) (s : ℕ) (next : Env) (at : Linear) (size : ℕ) (signed : Bool) (n : Named) → new_value s at size signed n ≡ Ok next → s < length n.env.ranges → TermBelow (length n.env.ranges) at → TermBelow (length n.env.ranges) n.term → IsValid forms n.env → Grown forms s n.env next
new_value-grown forms s next at size signed n q l a b V =
    let c = cell_of s at size signed n.term in
    let d = then-ok (with_cell n.env c) (λ mid. learnt_type mid size signed n.term) next q in
    let G = cell-grown forms n.env d.x c d.first (record { sym = l; at = a; value = b }) V in
    grown-then forms s n.env d.x next G (ends-grown forms s d.x next (least_of size signed) (greatest_of size signed) n.term d.then_ (below-more (length n.env.ranges) (length d.x.ranges) n.term G.count b) G.valid)

known_by : (forms : List Form) (s : ℕ) (env next : Env) (u : Option Linear) (d : Cell) (b : Bool) → (if b then learnt_equal env (Some d.value) u else Ok env) ≡ Ok next → TermBelow (length env.ranges) d.value → IfBelow (length env.ranges) u → IsValid forms env → Grown forms s env next
known_by forms s env next u d true q a b V = equal-grown forms s env next (Some d.value) u q (some-below (length env.ranges) d.value a) b V
known_by forms s env next u d false q a b V = grown-same forms s env next (let w : env ≡ next = cc in w) V

val-grown : (forms : List Form) (s : ℕ) (env next : Env) (size : ℕ) (signed : Bool) (u at : Option Linear) (d : Option Cell) → val_opened env s size signed u at d ≡ Ok next → IfBelow (length env.ranges) u → IfBelow (length env.ranges) at → s < length env.ranges → ((c : Cell) → d ≡ Some c → TermBelow (length env.ranges) c.value) → IsValid forms env → Grown forms s env next
val-grown forms s env next size signed u None d q b a l k V = grown-same forms s env next (let w : env ≡ next = cc in w) V
val-grown forms s env next size signed u (Some at) None q b a l k V =
    let d = bind-ok (named env (type_range size signed) u) (λ n. new_value s at size signed n) next q in
    let N = named-grown forms s env (type_range size signed) u d.x d.first b V in
    let m = N.grown.count in
    grown-then forms s env d.x.env next N.grown (new_value-grown forms s next at size signed d.x d.then_ (omega (arith, l, m)) (below-more (length env.ranges) (length d.x.env.ranges) at m (a at refl)) N.below N.grown.valid)
val-grown forms s env next size signed u (Some at) (Some d) q b a l k V = known_by forms s env next u d (same_sign d.signed signed) q (k d refl) b V

-- ---- pointers
pub record OpenedWell (forms : List Form) (s : ℕ) (env : Env) (p : Opening) (k : ℕ) : Type 1 where
  pub grown : Grown forms s env p.env
  pub below : All (TermBelow (length p.env.ranges)) p.terms
  pub count : length p.terms ≡ k

args-grown : (us : List Linear) (forms : List Form) (s : ℕ) (ts : List Linear) (o p : Opening) → args_named ts o us ≡ Ok p → All (TermBelow (length o.env.ranges)) ts → All (TermBelow (length o.env.ranges)) o.terms → IsValid forms o.env → OpenedWell forms s o.env p (length o.terms + length us)
args-grown [] forms s ts o p q b c V =
    let e : o ≡ p = cc in
    subst (λ (x : Opening). OpenedWell forms s o.env x (length o.terms + 0)) e (record { grown = grown-same forms s o.env o.env refl V; below = c; count = omega arith })
args-grown (u ∷ us) forms s ts o p q b c V =
    let n = length o.env.ranges in
    let d = bind-ok (named o.env argument_range (instance (Some ts) u)) (λ n. args_named ts (with_named o.terms n) us) p q in
    let N = named-grown forms s o.env argument_range (instance (Some ts) u) d.x d.first (instance-within n ts u b) V in
    let m = length d.x.env.ranges in
    let R = args-grown us forms s ts (with_named o.terms d.x) p d.then_ (terms-within n m ts N.grown.count b) (All-push (TermBelow m) o.terms d.x.term (terms-within n m o.terms N.grown.count c) N.below) N.grown.valid in
    record { grown = grown-then forms s o.env d.x.env p.env N.grown R.grown; below = R.below; count = R.count ∙ omega (arith, length-append o.terms (d.x.term ∷ [])) }

record FactualWell (forms : List Form) (s : ℕ) (env : Env) (q : Factual) : Type 1 where
  grown : Grown forms s env q.env
  below : FactBelow (length q.env.ranges) q.fact
  typed : HasType forms (Some q.fact)

fact-grown : (forms : List Form) (s : ℕ) (env : Env) (ts : List Linear) (name : ℕ) (args : List Linear) (off : Linear) (null : Bool) (q : Factual) → fact_named ts env name args off null ≡ Ok q → All (TermBelow (length env.ranges)) ts → HasParams forms name (length args) → IsValid forms env → FactualWell forms s env q
fact-grown forms s env ts name args off null q e b h V =
    let d = bind-ok (args_named ts (begun env) args) (λ o. offset_named ts name off null o) q e in
    let A = args-grown args forms s ts (begun env) d.x d.first b (All-nil (TermBelow (length env.ranges))) V in
    let k = bind-ok (named d.x.env argument_range (instance (Some ts) off)) (λ n. Ok (with_offset name d.x.terms null n)) q d.then_ in
    let m = length d.x.env.ranges in
    let N = named-grown forms s d.x.env argument_range (instance (Some ts) off) k.x k.first (instance-within m ts off (terms-within (length env.ranges) m ts A.grown.count b)) A.grown.valid in
    let g : with_offset name d.x.terms null k.x ≡ q = let x = k.then_ in cc in
    let count : length d.x.terms ≡ length args = A.count ∙ omega arith in
    subst (λ (x : Factual). FactualWell forms s env x) g
    (record {
      grown = grown-then forms s env d.x.env k.x.env A.grown N.grown;
      below = record { args = terms-within m (length k.x.env.ranges) d.x.terms N.grown.count A.below; off = N.below };
      typed = subst (λ (n : ℕ). HasParams forms name n) (sym count) h;
    })

pointer-grown : (forms : List Form) (s : ℕ) (next : Env) (at : Linear) (o : Factual) → new_pointer forms s at o ≡ Ok next → FactBelow (length o.env.ranges) o.fact → HasType forms (Some o.fact) → s < length o.env.ranges → TermBelow (length o.env.ranges) at → IsValid forms o.env → Grown forms s o.env next
pointer-grown forms s next at o q b h l a V =
    let n = length o.env.ranges in
    let c = cell_of s at 8 false (symbol_of n) in
    let d = then-ok (added o.env (type_range 8 false) (Some o.fact)) (λ mid. and_then (told_fact_of forms mid n) (λ last. with_cell last c)) next q in
    let e = then-ok (told_fact_of forms d.x n) (λ last. with_cell last c) next d.then_ in
    let G = symbol-grown forms s o.env d.x (type_range 8 false) (Some o.fact) d.first b h V in
    let H = told-grown forms s d.x e.x n o.fact (symbol-fact o.env d.x (type_range 8 false) (Some o.fact) V.scoped d.first) e.first G.valid in
    let m = length e.x.ranges in
    let more = symbol-more o.env d.x (type_range 8 false) (Some o.fact) d.first in
    let C = cell-grown forms e.x next c e.then_ (record { sym = omega (arith, l, G.count, H.count); at = below-more n m at (omega (arith, G.count, H.count)) a; value = symbol-below m n (omega (arith, more, H.count)) }) H.valid in
    grown-then forms s o.env d.x next G (grown-then forms s d.x e.x next H C)

lone-grown : (forms : List Form) (s : ℕ) (env next : Env) (ts : List Linear) (name : ℕ) (args : List Linear) (off : Linear) (null : Bool) (d : Linear) (o : Option ℕ) → lone_given forms env ts name args off null o ≡ Ok next → lone_in env.facts d.konst d.parts ≡ o → TermBelow (length env.ranges) d → All (TermBelow (length env.ranges)) ts → HasParams forms name (length args) → IsValid forms env → Grown forms s env next
lone-grown forms s env next ts name args off null d None q e a b h V = grown-same forms s env next (let w : env ≡ next = cc in w) V
lone-grown forms s env next ts name args off null d (Some t) q e a b h V =
    let k = bind-ok (fact_named ts env name args off null) (λ o. fact_given forms t o) next q in
    let F = fact-grown forms s env ts name args off null k.x k.first b h V in
    let L = lone_at env.facts d.konst d.parts t e in
    let l = L.below (length env.ranges) (to_recursion (λ y. y.0 < length env.ranges) d.parts a) in
    let m : t < length k.x.env.facts = omega (arith, l, F.grown.count, F.grown.valid.scoped.facts_count) in
    let none : fact_at k.x.env.facts t ≡ None = fact-facts ts env name args off null k.x t k.first ∙ L.none in
    let G = given-grown forms s k.x.env t k.x.fact m (λ y g. absurd (let w : None ≡ Some y = sym none ∙ g in cc)) F.below F.typed F.grown.valid in
    let H = told-grown forms s (with_fact k.x.env t k.x.fact) next t k.x.fact (set-at k.x.env.facts t k.x.fact m) k.then_ G.valid in
    grown-then forms s env k.x.env next F.grown (grown-then forms s k.x.env (with_fact k.x.env t k.x.fact) next G H)

signed_by : (forms : List Form) (s : ℕ) (env next : Env) (ts : List Linear) (name : ℕ) (args : List Linear) (off : Linear) (null : Bool) (d : Linear) (b : Bool) → (if b then Ok env else lone_given forms env ts name args off null (lone_in env.facts d.konst d.parts)) ≡ Ok next → TermBelow (length env.ranges) d → All (TermBelow (length env.ranges)) ts → HasParams forms name (length args) → IsValid forms env → Grown forms s env next
signed_by forms s env next ts name args off null d true q a b h V = grown-same forms s env next (let w : env ≡ next = cc in w) V
signed_by forms s env next ts name args off null d false q a b h V = lone-grown forms s env next ts name args off null d (lone_in env.facts d.konst d.parts) q refl a b h V

ptr-grown : (forms : List Form) (s : ℕ) (env next : Env) (ts : List Linear) (name : ℕ) (args : List Linear) (off : Linear) (null : Bool) (at : Option Linear) (d : Option Cell) → ptr_opened forms env ts s name args off null at d ≡ Ok next → All (TermBelow (length env.ranges)) ts → IfBelow (length env.ranges) at → s < length env.ranges → ((c : Cell) → d ≡ Some c → TermBelow (length env.ranges) c.value) → HasParams forms name (length args) → IsValid forms env → Grown forms s env next
ptr-grown forms s env next ts name args off null None d q b a l k h V = grown-same forms s env next (let w : env ≡ next = cc in w) V
ptr-grown forms s env next ts name args off null (Some at) None q b a l k h V =
    let d = bind-ok (fact_named ts env name args off null) (λ o. new_pointer forms s at o) next q in
    let F = fact-grown forms s env ts name args off null d.x d.first b h V in
    let m = F.grown.count in
    grown-then forms s env d.x.env next F.grown (pointer-grown forms s next at d.x d.then_ F.below F.typed (omega (arith, l, m)) (below-more (length env.ranges) (length d.x.env.ranges) at m (a at refl)) F.grown.valid)
ptr-grown forms s env next ts name args off null (Some at) (Some d) q b a l k h V = signed_by forms s env next ts name args off null d.value d.signed q (k d refl) b h V

-- ---- cells
size_by : (forms : List Form) (s : ℕ) (env next : Env) (size : ℕ) (signed : Bool) (u at : Option Linear) (d : Option Cell) (b : Bool) → (if b then val_opened env s size signed u at d else Ok env) ≡ Ok next → IfBelow (length env.ranges) u → IfBelow (length env.ranges) at → s < length env.ranges → ((c : Cell) → d ≡ Some c → TermBelow (length env.ranges) c.value) → IsValid forms env → Grown forms s env next
size_by forms s env next size signed u at d true q b a l k V = val-grown forms s env next size signed u at d q b a l k V
size_by forms s env next size signed u at d false q b a l k V = grown-same forms s env next (let w : env ≡ next = cc in w) V

kind-grown : (forms : List Form) (s : ℕ) (env next : Env) (ts : List Linear) (size : ℕ) (kind : CellKind) (at : Option Linear) (d : Option Cell) → kind_opened forms ts env s size kind at d ≡ Ok next → All (TermBelow (length env.ranges)) ts → IfBelow (length env.ranges) at → s < length env.ranges → ((c : Cell) → d ≡ Some c → TermBelow (length env.ranges) c.value) → KindType forms kind → IsValid forms env → Grown forms s env next
kind-grown forms s env next ts size AnyBytes at d q b a l k h V = grown-same forms s env next (let w : env ≡ next = cc in w) V
kind-grown forms s env next ts size (Val signed u) at d q b a l k h V = size_by forms s env next size signed (instance (Some ts) u) at d (is_size size) q (instance-within (length env.ranges) ts u b) a l k V
kind-grown forms s env next ts size (Ptr name args off null) at d q b a l k h V = ptr-grown forms s env next ts name args off null at d q b a l k h V

abbrev Typed : List Form → FlatCell → Type 0
Typed forms c = KindType forms c.kind

cells-grown : (cs : List FlatCell) (forms : List Form) (s : ℕ) (f : Fact) (start : Option Linear) (all : List FlatCell) (env next : Env) (ts : List Linear) → cells_opened forms (window None s f start all) ts env cs ≡ Ok next → Scene (length env.ranges) s f start ts → AllByRecursion (Typed forms) cs → IsValid forms env → Grown forms s env next
cells-grown [] forms s f start all env next ts q x h V = grown-same forms s env next (let w : env ≡ next = cc in w) V
cells-grown (c ∷ cs) forms s f start all env next ts q x h V =
    let n = length env.ranges in
    let w = window None s f start all in
    let d = then-ok (cell_opened forms w ts env c) (λ mid. cells_opened forms w ts mid cs) next q in
    let G = kind-grown forms s env d.x ts c.size c.kind (place_of start f c) (known_at env w c) d.first x.terms (place-within n s f start ts c x) x.sym (λ y e. (known_below n env.cells s (place_of start f c) c.size y V.scoped.cells e).value) h.0 V in
    grown-then forms s env d.x next G (cells-grown cs forms s f start all d.x next ts d.then_ (scene-more n (length d.x.ranges) s f start ts G.count x) h.1 G.valid)

-- ---- known values of binders
number_within : (n : ℕ) (env : Env) (size : ℕ) (signed : Bool) (d : Cell) (b : Bool) (t : Linear) → (if b then Some d.value else None) ≡ Some t → TermBelow n d.value → TermBelow n t
number_within n env size signed d true t e h = let w : d.value ≡ t = cc in subst (TermBelow n) w h
number_within n env size signed d false t e h = absurd (cc)

argument_by : (n : ℕ) (g : Fact) (i : ℕ) (b : Bool) (t : Linear) → (if b then slice_get g.args i else None) ≡ Some t → FactBelow n g → TermBelow n t
argument_by n g i true t e h = all_get (TermBelow n) g.args i t h.args e
argument_by n g i false t e h = absurd (cc)

fact_within : (env : Env) (name : ℕ) (off : Linear) (i : ℕ) (p : Pointed) (o : Option Fact) (t : Linear) → fact_at env.facts p.sym ≡ o → argument_of env name off i p o ≡ Some t → Scoped env → TermBelow (length env.ranges) t
fact_within env name off i p None t e q S = absurd (cc)
fact_within env name off i p (Some g) t e q S = argument_by (length env.ranges) g i (not p.null && ((g.name == name) && shown_equal env (Some p.off) (Some off))) t q (fact-below env p.sym g S e)

point_within : (env : Env) (name : ℕ) (off : Linear) (i : ℕ) (o : Option Pointed) (t : Linear) → argument_at env name off i o ≡ Some t → Scoped env → TermBelow (length env.ranges) t
point_within env name off i None t q S = absurd (cc)
point_within env name off i (Some p) t q S = fact_within env name off i p (fact_at env.facts p.sym) t refl q S

kind_within : (env : Env) (size : ℕ) (kind : CellKind) (how : Told) (d : Option Cell) (t : Linear) → told None env size kind how d ≡ Some t → ((c : Cell) → d ≡ Some c → TermBelow (length env.ranges) c.value) → Scoped env → TermBelow (length env.ranges) t
kind_within env size AnyBytes how d t q k S = absurd (cc)
kind_within env size (Val signed u) how None t q k S = absurd (cc)
kind_within env size (Val signed u) how (Some d) t q k S = number_within (length env.ranges) env size signed d (in_type env size signed d.value) t q (k d refl)
kind_within env size (Ptr name args off null) Value d t q k S = absurd (cc)
kind_within env size (Ptr name args off null) (Argument i) None t q k S = absurd (cc)
kind_within env size (Ptr name args off null) (Argument i) (Some d) t q k S = point_within env name off i (point_of (not_fresh None env) d.value) t q S

cell_within : (env : Env) (s : ℕ) (f : Fact) (start : Option Linear) (cells : List FlatCell) (how : Told) (o : Option FlatCell) (t : Linear) → told_by env (window None s f start cells) how o ≡ Some t → Scoped env → TermBelow (length env.ranges) t
cell_within env s f start cells how None t q S = absurd (cc)
cell_within env s f start cells how (Some c) t q S = kind_within env c.size c.kind how (known_at env (window None s f start cells) c) t q (λ y e. (known_below (length env.ranges) env.cells s (place_of start f c) c.size y S.cells e).value) S

binder_within : (env : Env) (s : ℕ) (f : Fact) (start : Option Linear) (cells : List FlatCell) (a : Option (ℕ × Told)) (t : Linear) → told_in env (window None s f start cells) a ≡ Some t → Scoped env → TermBelow (length env.ranges) t
binder_within env s f start cells None t q S = absurd (cc)
binder_within env s f start cells (Some i) t q S = cell_within env s f start cells i.1 (slice_get cells i.0) t q S

-- ---- binders
bound-grown : (n : ℕ) (forms : List Form) (s : ℕ) (f : Fact) (start : Option Linear) (cells : List FlatCell) (o p : Opening) → bound n (window None s f start cells) o ≡ Ok p → All (TermBelow (length o.env.ranges)) o.terms → IsValid forms o.env → OpenedWell forms s o.env p (length o.terms + n)
bound-grown zero forms s f start cells o p q b V =
    let e : o ≡ p = cc in
    subst (λ (x : Opening). OpenedWell forms s o.env x (length o.terms + 0)) e (record { grown = grown-same forms s o.env o.env refl V; below = b; count = omega arith })
bound-grown (suc n) forms s f start cells o p q b V =
    let w = window None s f start cells in
    let k = length o.terms in
    let m = length o.env.ranges in
    let a = bind-ok (next_bound w o) (λ next. bound n w next) p q in
    let d = bind-ok (named o.env (binder_range cells k) (known_binder o.env w k)) (λ x. Ok (with_named o.terms x)) a.x a.first in
    let g : with_named o.terms d.x ≡ a.x = let u = d.then_ in cc in
    let then_ = subst (λ (a : Opening). bound n w a ≡ Ok p) (sym g) a.then_ in
    let N = named-grown forms s o.env (binder_range cells k) (known_binder o.env w k) d.x d.first (λ t e. binder_within o.env s f start cells (telling_cell k cells) t e V.scoped) V in
    let l = length d.x.env.ranges in
    let R = bound-grown n forms s f start cells (with_named o.terms d.x) p then_ (All-push (TermBelow l) o.terms d.x.term (terms-within m l o.terms N.grown.count b) N.below) N.grown.valid in
    record { grown = grown-then forms s o.env d.x.env p.env N.grown R.grown; below = R.below; count = R.count ∙ omega (arith, length-append o.terms (d.x.term ∷ [])) }

-- ---- a part
part-grown : (n : ℕ) (forms : List Form) (s : ℕ) (f : Fact) (start : Option Linear) (cells : List FlatCell) (conds : List Ineq) (o p : Opening) → part_opened forms (window None s f start cells) n conds o ≡ Ok p → Scene (length o.env.ranges) s f start o.terms → AllByRecursion (Typed forms) cells → IsValid forms o.env → OpenedWell forms s o.env p (length o.terms + n)
part-grown n forms s f start cells conds o p q x h V =
    let w = window None s f start cells in
    let a = bind-ok (bound n w o) (λ next. filled_with forms w conds next) p q in
    let B = bound-grown n forms s f start cells o a.x a.first x.terms V in
    let d = bind-ok (filled forms w conds a.x) (λ next. Ok (record { env = next; terms = a.x.terms })) p a.then_ in
    let g : record { env = d.x; terms = a.x.terms } ≡ p = let u = d.then_ in cc in
    let e = then-ok (learnt_all a.x.terms a.x.env conds) (λ next. cells_opened forms w a.x.terms next cells) d.x d.first in
    let A = all-grown conds forms s a.x.env e.x a.x.terms e.first B.below B.grown.valid in
    let l = length a.x.env.ranges in
    let m = length e.x.ranges in
    let y = scene-more (length o.env.ranges) m s f start o.terms (omega (arith, B.grown.count, A.count)) x in
    let z : Scene m s f start a.x.terms = record { sym = y.sym; off = y.off; begins = y.begins; terms = terms-within l m a.x.terms A.count B.below } in
    let C = cells-grown cells forms s f start cells e.x d.x a.x.terms e.then_ z h A.valid in
    let G = grown-then forms s a.x.env e.x d.x A C in
    subst (λ (y : Opening). OpenedWell forms s o.env y (length o.terms + n)) g
    (record { grown = grown-then forms s o.env a.x.env d.x B.grown G; below = terms-within l (length d.x.ranges) a.x.terms G.count B.below; count = B.count })

each_typed : (forms : List Form) (known first past size : ℕ) (cs : List FlatCell) → AllByRecursion (CellKept forms known first past size) cs → AllByRecursion (Typed forms) cs
each_typed forms known first past size [] h = tt
each_typed forms known first past size (c ∷ cs) h = (kind_type forms known first past c.kind h.0.kind, each_typed forms known first past size cs h.1)

all_typed : (forms : List Form) (known first past size : ℕ) (cs : List FlatCell) → All (CellKept forms known first past size) cs → AllByRecursion (Typed forms) cs
all_typed forms known first past size cs h = each_typed forms known first past size cs (to_recursion (CellKept forms known first past size) cs h)

-- ---- branches
branch-grown : (forms : List Form) (form : Form) (s : ℕ) (f : Fact) (o : Opening) (next : Env) (b : CaseBranch) → branch_opened forms form s f o b ≡ Ok next → Scene (length o.env.ranges) s f (number (pos form.cases_at)) o.terms → BranchKept forms form b → IsValid forms o.env → Grown forms s o.env next
branch-grown forms form s f o next b q x k V =
    let w = branch_window form s f b in
    let start = number (pos form.cases_at) in
    let a = then-ok (learnt_all o.terms o.env b.guard) (λ mid. env_of (part_opened forms w b.part.binders b.part.conds (record { env = mid; terms = o.terms }))) next q in
    let A = all-grown b.guard forms s o.env a.x o.terms a.first x.terms V in
    let mid : Opening = record { env = a.x; terms = o.terms } in
    let d = bind-ok (part_opened forms w b.part.binders b.part.conds mid) (λ p. Ok p.env) next a.then_ in
    let g : d.x.env ≡ next = let u = d.then_ in cc in
    let P = part-grown b.part.binders forms s f start b.part.cells b.part.conds mid d.x d.first (scene-more (length o.env.ranges) (length a.x.ranges) s f start o.terms A.count x) (all_typed forms _ _ _ _ b.part.cells k.part.cells) A.valid in
    subst (λ (z : Env). Grown forms s o.env z) g (grown-then forms s o.env a.x d.x.env A P.grown)

one-grown : (forms : List Form) (form : Form) (s : ℕ) (f : Fact) (o : Opening) (next : Env) (b : Option CaseBranch) → only_possible o.env o.terms form.cases ≡ b → one_opened forms form s f o b ≡ Ok next → Scene (length o.env.ranges) s f (number (pos form.cases_at)) o.terms → All (BranchKept forms form) form.cases → IsValid forms o.env → Grown forms s o.env next
one-grown forms form s f o next None e q x k V = grown-same forms s o.env next (let w : o.env ≡ next = cc in w) V
one-grown forms form s f o next (Some b) e q x k V = branch-grown forms form s f o next b q x (only-kept (BranchKept forms form) o.env o.terms form.cases b k e) V

-- ---- the head
head-grown : (forms : List Form) (form : Form) (s : ℕ) (f : Fact) (env next : Env) → head_opened forms form s f env ≡ Ok next → fact_at env.facts s ≡ Some f → FormKept forms form → IsValid forms env → Grown forms s env next
head-grown forms form s f env next q e k V =
    let n = length env.ranges in
    let o : Opening = with_args env f in
    let b = fact-below env s f V.scoped e in
    let l = fact-within env s f V.scoped e in
    let a = bind-ok (part_opened forms (head_window form s f) form.binders form.conds o) (λ p. cases_opened forms form s f p) next q in
    let P = part-grown form.binders forms s f (number (pos 0)) form.head form.conds o a.x a.first (record { sym = l; off = b.off; begins = number-below n (pos 0); terms = b.args }) (all_typed forms _ _ _ _ form.head k.head) V in
    let m = length a.x.env.ranges in
    let c = P.grown.count in
    let C = one-grown forms form s f a.x next (only_possible a.x.env a.x.terms form.cases) refl a.then_ (record { sym = omega (arith, l, c); off = below-more n m f.off c b.off; begins = number-below m (pos form.cases_at); terms = P.below }) k.cases P.grown.valid in
    grown-then forms s env a.x.env next P.grown C

-- ---- an element
start_within : (n : ℕ) (form : Form) (tail : Tail) (t : Linear) (o : Option Linear) → TermBelow n t → IfBelow n o → IfBelow n (element_start form tail t o)
start_within n form tail t None b h u e = absurd (cc)
start_within n form tail t (Some z) b h u e = fit-below n (plus_times (pos tail.part.size) t z) (plus_times-below n (pos tail.part.size) t z b (h z refl)) u e

element-grown : (forms : List Form) (form : Form) (s : ℕ) (f : Fact) (t : Linear) (env next : Env) (o : Option Tail) → element_opened forms form s f t env o ≡ Ok next → fact_at env.facts s ≡ Some f → TermBelow (length env.ranges) t → IfSome o (TailKept forms form) → IsValid forms env → Grown forms s env next
element-grown forms form s f t env next None q e d k V = grown-same forms s env next (let w : env ≡ next = cc in w) V
element-grown forms form s f t env next (Some tail) q e d k V =
    let n = length env.ranges in
    let o : Opening = element_values form env f in
    let b = fact-below env s f V.scoped e in
    let start = element_start form tail t (number (pos form.head_size)) in
    let a = bind-ok (part_opened forms (element_window form tail s f t) tail.part.binders tail.part.conds o) (λ p. Ok p.env) next q in
    let g : a.x.env ≡ next = let u = a.then_ in cc in
    let P = part-grown tail.part.binders forms s f start tail.part.cells tail.part.conds o a.x a.first
    (record { sym = fact-within env s f V.scoped e; off = b.off; begins = start_within n form tail t (number (pos form.head_size)) d (number-below n (pos form.head_size)); terms = All-append (TermBelow n) f.args (zeros form.binders) b.args (zeros-below n form.binders) })
    (all_typed forms _ _ _ _ tail.part.cells k.part.cells) V in
    subst (λ (z : Env). Grown forms s env z) g P.grown

part_of-grown : (forms : List Form) (element : Option Linear) (s : ℕ) (f : Fact) (env next : Env) (form : Form) → part_chosen forms element s f env form ≡ Ok next → fact_at env.facts s ≡ Some f → LocalBelow (length env.ranges) element → FormKept forms form → IsValid forms env → Grown forms s env next
part_of-grown forms None s f env next form q e b k V = head-grown forms form s f env next q e k V
part_of-grown forms (Some t) s f env next form q e b k V = element-grown forms form s f t env next form.tail q e b k.tail V

form-grown : (forms : List Form) (element : Option Linear) (s : ℕ) (f : Fact) (env next : Env) (o : Option Form) → slice_get forms f.name ≡ o → form_opened forms element s f env o ≡ Ok next → fact_at env.facts s ≡ Some f → LocalBelow (length env.ranges) element → All (FormKept forms) forms → IsValid forms env → Grown forms s env next
form-grown forms element s f env next None g q e b K V = grown-same forms s env next (let w : env ≡ next = cc in w) V
form-grown forms element s f env next (Some form) g q e b K V = part_of-grown forms element s f env next form q e b (all_get (FormKept forms) forms f.name form K g) V

pub fact_of-grown : (forms : List Form) (element : Option Linear) (s : ℕ) (env next : Env) (o : Option Fact) → fact_at env.facts s ≡ o → fact_opened forms element s env o ≡ Ok next → LocalBelow (length env.ranges) element → All (FormKept forms) forms → IsValid forms env → Grown forms s env next
fact_of-grown forms element s env next None e q b K V = grown-same forms s env next (let w : env ≡ next = cc in w) V
fact_of-grown forms element s env next (Some f) e q b K V = form-grown forms element s f env next (slice_get forms f.name) refl q e b K V

local_more : (n m : ℕ) (o : Option Linear) → n ≤ m → LocalBelow n o → LocalBelow m o
local_more n m None l h = tt
local_more n m (Some t) l h = below-more n m t l h

-- the state in which the symbol's region is opened
pub opened-grown : (forms : List Form) (s : ℕ) (env next : Env) (element : Option Linear) → opened forms env s element ≡ Ok next → LocalBelow (length env.ranges) element → All (FormKept forms) forms → IsValid forms env → Grown forms s env next
opened-grown forms s env next element q b K V =
    let a = then-ok (settled forms env s) (λ mid. fact_opened forms element s mid (fact_at mid.facts s)) next q in
    let G = settled-grown forms s env a.x s a.first V in
    grown-then forms s env a.x next G (fact_of-grown forms element s a.x next (fact_at a.x.facts s) refl a.then_ (local_more (length env.ranges) (length a.x.ranges) element G.count b) K G.valid)
