-- What closes holds: the bytes of the symbol's region hold its type.
use Rattle.std.specs.Prelude.{◌≡◌, ◌≢◌, ℕ, ℤ, pos, ◌+◌, ◌&&◌, ◌||◌, ◌==◌, not, ◌≤◌, List, [], ◌∷◌, ◌++◌, length, filter, slice_index_or, All, Any, Option, Some, None, slice_get, IsSomeAnd, Bool, true, false}
use Rattle.std.specs.List.{AllByRecursion, list_any}
use Rattle.std.proofs.Common.{arith, refl, sym, ap, ◌∙◌, subst}
use Rattle.std.proofs.lemmas.Int.{ints}
use Rattle.std.proofs.lemmas.Bool.Decides.{nat_tests}
use Rattle.std.proofs.lemmas.List.{length-map, map-append}
use Rattle.std.proofs.Common.{length-append}
use Rattle.cx_base.specs.Memory.{size_of}
use Rattle.cx_base.specs.declared.memory.Region.{Region}
use Rattle.cx_term.specs.Forms.{Linear, value}
use Rattle.cx_term.specs.Conditions.{Holds}
use Rattle.cx_term.proofs.Tests.{and_left, and_right}
use Rattle.cx_cells.specs.Kept.{HasKindSize, CellKept, BranchKept, FormKept, HasParams, symbols_of}
use Rattle.cx_cells.specs.Values.{values_of, all_values}
use Rattle.cx_cells.specs.Layouts.{Extent, layout_of}
use Rattle.cx_cells.specs.Meaning.{CellHolds, PartHolds, BranchHolds, CasesHold, HeadHolds, ElementsHold, form_size}
use Rattle.cx_cells.specs.declared.cell.FlatCell.{FlatCell}
use Rattle.cx_cells.specs.declared.form.CaseBranch.{CaseBranch}
use Rattle.cx_cells.specs.declared.form.Form.{Form}
use Rattle.cx_cells.specs.declared.form.Tail.{Tail}
use Rattle.cx_state.specs.Known.{inner, fact_at, is_one_of}
use Rattle.cx_state.specs.Run.{Run}
use Rattle.cx_state.specs.Stands.{is_base, region_bases, block_bases, is_block, IsNull, visible, RegionStands, StandsAtAccess}
use Rattle.cx_state.specs.Valid.{HasType, IsValid}
use Rattle.cx_state.specs.declared.state.Fact.{Fact}
use Rattle.cx_state.specs.declared.state.Env.{Env}
use Rattle.cx_query.specs.Pointing.{not_fresh}
use Rattle.cx_query.specs.Shown.{number}
use Rattle.cx_query.proofs.PointLaws.{stands-meets}
use Rattle.cx_learn.proofs.Below.{to_recursion}
use Rattle.cx_fact.proofs.Regions.{IsOf, fact_region}
use Rattle.cx_apart.proofs.Places.{region_all, all_get, bases_differ}
use Rattle.cx_apart.proofs.Blocks.{other_block, same_number}
use Rattle.cx_apart.proofs.Stores.{equal_or_not, any_get}
use Rattle.cx_close.specs.Knowing.{window, known_binders}
use Rattle.cx_close.specs.Closing.{conds_shown, is_any, cells_shown, branch_window, branch_with, branch_shown, cases_shown, head_window, head_with, head_shown, are_any, tail_is_any, closes_form, closes_by, closes, IsRegionOf, HoldsClosed, ClosesTruly}
use Rattle.cx_close.proofs.Lists.{any_true}
use Rattle.cx_close.proofs.Layouts.{all_others, own-knows}
use Rattle.cx_close.proofs.Known.{Scene, conds-hold, cells-hold, any_holds, longer}

-- ---- branches

-- the numbers of more forms come after the others
numbers-more : (v : ℕ → ℤ) (values more all : List Linear) → all ≡ values ++ more → all_values v all ≡ all_values v values ++ all_values v more
numbers-more v values more all e = ap (all_values v) e ∙ map-append (value v) values more

-- the cells have sizes that fit their kinds
abbrev Sized : List FlatCell → Type 0
Sized cells = AllByRecursion (λ c. HasKindSize c.size c.kind) cells

part_by : (run : Run) (v : ℕ → ℤ) (env : Env) (locals : List (Option ℤ)) (memory : List Region) (s i : ℕ) (form : Form) (values : List Linear) (b : CaseBranch) (o : Option (List Linear)) (x : Scene run v env locals memory s i) → Sized b.part.cells → known_binders env (branch_window (Some s) form s x.region.f b) b.part.binders (Some values) ≡ o → branch_with env (branch_window (Some s) form s x.region.f b) b o ≡ true → PartHolds (all_values v values) (visible v (not_fresh (Some s) env) (layout_of memory)) x.region.r.bytes form.cases_at b.part
part_by run v env locals memory s i form values b None x z q e = absurd (let w : false ≡ true = e in cc)
part_by run v env locals memory s i form values b (Some all) x z q e =
    let h = longer env (branch_window (Some s) form s x.region.f b) b.part.binders values all q in
    let n = numbers-more v values h.more all h.same in
    let p = conds_shown env all b.part.conds in
    let r = cells_shown env (branch_window (Some s) form s x.region.f b) all b.part.cells in
    record {
      binders = all_values v h.more;
      count = length-map h.more (value v) ∙ h.count;
      conds = subst (λ (zs : List ℤ). AllByRecursion (Holds (values_of zs)) b.part.conds) n (conds-hold env v all b.part.conds x.meets (and_left p r e));
      cells = subst (λ (zs : List ℤ). AllByRecursion (CellHolds (values_of zs) (visible v (not_fresh (Some s) env) (layout_of memory)) x.region.r.bytes form.cases_at) b.part.cells) n (cells-hold run v env locals memory s i form.cases_at all b.part.cells b.part.cells x z (and_right p r e));
    }

branch-holds : (run : Run) (v : ℕ → ℤ) (env : Env) (locals : List (Option ℤ)) (memory : List Region) (s i : ℕ) (form : Form) (values : List Linear) (b : CaseBranch) (x : Scene run v env locals memory s i) → Sized b.part.cells → branch_shown (Some s) env form s x.region.f values b ≡ true → BranchHolds (all_values v values) (visible v (not_fresh (Some s) env) (layout_of memory)) x.region.r.bytes form.cases_at b
branch-holds run v env locals memory s i form values b x z e =
    let w = branch_window (Some s) form s x.region.f b in
    let p = conds_shown env values b.guard in
    let r = branch_with env w b (known_binders env w b.part.binders (Some values)) in
    record {
      guard = conds-hold env v values b.guard x.meets (and_left p r e);
      part = part_by run v env locals memory s i form values b (known_binders env w b.part.binders (Some values)) x z refl (and_right p r e);
    }

any_given : {X : Type 0} (P Q R : X → Type 0) (xs : List X) → ((y : X) → Q y → P y → R y) → All Q xs → Any P xs → Any R xs
any_given P Q R xs f a h = (h.0, h.1, h.2, h.3, f h.1 (subst Q h.3 (a h.0 h.1 h.2)) h.4)

cases-hold : (run : Run) (v : ℕ → ℤ) (env : Env) (locals : List (Option ℤ)) (memory : List Region) (s i : ℕ) (form : Form) (values : List Linear) (bs : List CaseBranch) (x : Scene run v env locals memory s i) → All (λ b. Sized b.part.cells) bs → cases_shown (Some s) env form s x.region.f values bs ≡ true → CasesHold (all_values v values) (visible v (not_fresh (Some s) env) (layout_of memory)) x.region.r.bytes form.cases_at bs
cases-hold run v env locals memory s i form values [] x z e = tt
cases-hold run v env locals memory s i form values (b ∷ bs) x z e =
    any_given (λ c. branch_shown (Some s) env form s x.region.f values c ≡ true) (λ c. Sized c.part.cells) (BranchHolds (all_values v values) (visible v (not_fresh (Some s) env) (layout_of memory)) x.region.r.bytes form.cases_at) (b ∷ bs)
    (λ c k g. branch-holds run v env locals memory s i form values c x k g) z
    (any_true (branch_shown (Some s) env form s x.region.f values) (b ∷ bs) e)

-- ---- the head
head_by : (run : Run) (v : ℕ → ℤ) (env : Env) (locals : List (Option ℤ)) (memory : List Region) (s i : ℕ) (form : Form) (o : Option (List Linear)) (x : Scene run v env locals memory s i) → Sized form.head → All (λ b. Sized b.part.cells) form.cases → known_binders env (head_window (Some s) form s x.region.f) form.binders (Some x.region.f.args) ≡ o → head_with (Some s) env form s x.region.f o ≡ true → HeadHolds form (all_values v x.region.f.args) (visible v (not_fresh (Some s) env) (layout_of memory)) x.region.r.bytes
head_by run v env locals memory s i form None x z y q e = absurd (let w : false ≡ true = e in cc)
head_by run v env locals memory s i form (Some all) x z y q e =
    let l = visible v (not_fresh (Some s) env) (layout_of memory) in
    let w = head_window (Some s) form s x.region.f in
    let h = longer env w form.binders x.region.f.args all q in
    let n = numbers-more v x.region.f.args h.more all h.same in
    let p = conds_shown env all form.conds in
    let a = cells_shown env w all form.head in
    let b = cases_shown (Some s) env form s x.region.f all form.cases in
    let r = and_right p (a && b) e in
    record {
      binders = all_values v h.more;
      count = length-map h.more (value v) ∙ h.count;
      conds = subst (λ (zs : List ℤ). AllByRecursion (Holds (values_of zs)) form.conds) n (conds-hold env v all form.conds x.meets (and_left p (a && b) e));
      cells = subst (λ (zs : List ℤ). AllByRecursion (CellHolds (values_of zs) l x.region.r.bytes 0) form.head) n (cells-hold run v env locals memory s i 0 all form.head form.head x z (and_left a b r));
      cases = subst (λ (zs : List ℤ). CasesHold zs l x.region.r.bytes form.cases_at form.cases) n (cases-hold run v env locals memory s i form all form.cases x y (and_right a b r));
    }

kept-sized : (forms : List Form) (known first past size : ℕ) (cells : List FlatCell) → All (CellKept forms known first past size) cells → Sized cells
kept-sized forms known first past size cells h = to_recursion (λ c. HasKindSize c.size c.kind) cells (λ k d l. (h k d l).sized)

branches-sized : (forms : List Form) (form : Form) → FormKept forms form → All (λ b. Sized b.part.cells) form.cases
branches-sized forms form K = λ k d l. branch_sized (slice_index_or form.cases k d) (K.cases k d l)
  where
    branch_sized : (b : CaseBranch) → BranchKept forms form b → Sized b.part.cells
    branch_sized b h = kept-sized forms (symbols_of form) (symbols_of form) (symbols_of form + b.part.binders) b.part.size b.part.cells h.part.cells

head-holds : (run : Run) (v : ℕ → ℤ) (env : Env) (locals : List (Option ℤ)) (memory : List Region) (s i : ℕ) (forms : List Form) (form : Form) (x : Scene run v env locals memory s i) → FormKept forms form → head_shown (Some s) env form s x.region.f ≡ true → HeadHolds form x.region.r.args (visible v (not_fresh (Some s) env) (layout_of memory)) x.region.r.bytes
head-holds run v env locals memory s i forms form x K e =
    let h = head_by run v env locals memory s i form (known_binders env (head_window (Some s) form s x.region.f) form.binders (Some x.region.f.args)) x (kept-sized forms (symbols_of form) 0 0 form.head_size form.head K.head) (branches-sized forms form K) refl e in
    subst (λ (zs : List ℤ). HeadHolds form zs (visible v (not_fresh (Some s) env) (layout_of memory)) x.region.r.bytes) (sym x.region.is.given) h

-- ---- elements
all_any : (w : ℕ → ℤ) (layout : List Extent) (bytes : List ℕ) (off : ℕ) (cells : List FlatCell) → are_any cells ≡ true → AllByRecursion (CellHolds w layout bytes off) cells
all_any w layout bytes off [] e = tt
all_any w layout bytes off (c ∷ cs) e =
    (any_holds w layout bytes (off + c.at) c.size c.kind (and_left (is_any c.kind) (are_any cs) e), all_any w layout bytes off cs (and_right (is_any c.kind) (are_any cs) e))

no_items : {X : Type 0} (P : X → Type 0) (xs : List X) → (length xs == 0) ≡ true → AllByRecursion P xs
no_items P [] e = tt
no_items P (x ∷ xs) e = let h = same_number (length (x ∷ xs)) 0 e in absurd (omega (arith, h))

no_binders : (n : ℕ) → (n == 0) ≡ true → 0 ≡ n
no_binders n e = grind (arith, nat_tests)

elements-any : (form : Form) (args : List ℤ) (layout : List Extent) (bytes : List ℕ) (o : Option Tail) → tail_is_any o ≡ true → ElementsHold form args layout bytes o
elements-any form args layout bytes None e = tt
elements-any form args layout bytes (Some tail) e = λ i l.
    let a = tail.part.binders == 0 in
    let b = length tail.part.conds == 0 in
    let c = are_any tail.part.cells in
    let r = and_right a (b && c) e in
    record { binders = []; count = no_binders tail.part.binders (and_left a (b && c) e); conds = no_items _ tail.part.conds (and_left b c r); cells = all_any _ layout bytes _ tail.part.cells (and_right b c r) }

-- ---- the region
pub some_of : (P : Form → Type 0) (o : Option Form) (form : Form) → o ≡ Some form → IsSomeAnd o P → P form
some_of P o form e h = rw e at h

-- the region has its type's number of arguments, and their size
record Shaped (form : Form) (r : Region) : Type 0 where
  given : length r.args ≡ form.params
  sized : form_size form r.args ≡ Some (size_of r)

inner_some : (o : Option (Option Fact)) (f : Fact) → inner o ≡ Some f → o ≡ Some (Some f)
inner_some None f e = absurd (cc)
inner_some (Some x) f e = ap Some e

pub given_by : (forms : List Form) (env : Env) (s : ℕ) (f : Fact) (form : Form) → IsValid forms env → fact_at env.facts s ≡ Some f → slice_get forms f.name ≡ Some form → form.params ≡ length f.args
given_by forms env s f form V e q =
    let h : HasParams forms f.name (length f.args) = all_get (HasType forms) env.facts s (Some f) V.types (inner_some (slice_get env.facts s) f e) in
    some_of (λ g. g.params ≡ length f.args) (slice_get forms f.name) form q h

pub of_here : (run : Run) (v : ℕ → ℤ) (env : Env) (locals : List (Option ℤ)) (memory : List Region) (s i : ℕ) → StandsAtAccess run v env locals memory → (x : IsRegionOf v env.facts memory s i) → Any (IsOf run.forms v x.f (v s)) memory → IsOf run.forms v x.f (v s) x.r
of_here run v env locals memory s i S x a =
    let same : a.1.base ≡ x.r.base = omega (arith, ints, a.4.is.based, x.is.based) in
    equal_or_not a.0 i (IsOf run.forms v x.f (v s) x.r)
    (λ q.
    let w : Some a.1 ≡ Some x.r = sym (any_get (IsOf run.forms v x.f (v s)) memory a) ∙ ap (slice_get memory) q ∙ x.there in
    let r : a.1 ≡ x.r = cc in
    subst (IsOf run.forms v x.f (v s)) r a.4)
    (λ n. absurd (bases_differ memory a.0 i a.1 x.r S.memory_stands.valid (any_get (IsOf run.forms v x.f (v s)) memory a) x.there n same))

live_of : (v : ℕ → ℤ) (s : ℕ) (f : Fact) → (IsNull v f s → ⊥) → f.null ≡ true → v s ≢ pos 0
live_of v s f live n z = live (n, z)

shaped : (run : Run) (v : ℕ → ℤ) (env : Env) (locals : List (Option ℤ)) (memory : List Region) (s i : ℕ) (form : Form) → StandsAtAccess run v env locals memory → (x : IsRegionOf v env.facts memory s i) → IsValid run.forms env → slice_get run.forms x.f.name ≡ Some form → Shaped form x.r
shaped run v env locals memory s i form S x V q =
    let o = of_here run v env locals memory s i S x (fact_region run v env locals memory s x.f S x.fact (live_of v s x.f x.live)) in
    let g : length x.r.args ≡ length (all_values v x.f.args) = ap length x.is.given in
    record {
      given = g ∙ length-map x.f.args (value v) ∙ sym (given_by run.forms env s x.f form V x.fact q);
      sized = some_of (λ form. form_size form x.r.args ≡ Some (size_of x.r)) (slice_get run.forms x.f.name) form q o.sized;
    }

-- the layout is the same where the symbol is not fresh anyway
abbrev seen_with : (ℕ → ℤ) → List (Option Fact) → List Extent → List ℕ → List Extent
seen_with v facts layout ts = filter (λ e. not (is_base (block_bases v facts ts) e.base)) layout

elements-old : (run : Run) (v : ℕ → ℤ) (env : Env) (locals : List (Option ℤ)) (memory : List Region) (s i : ℕ) (form : Form) → StandsAtAccess run v env locals memory → (x : IsRegionOf v env.facts memory s i) → slice_get run.forms x.r.name ≡ Some form → is_one_of env.fresh s ≡ false → form.shared ≡ false → ElementsHold form x.r.args (visible v (not_fresh (Some s) env) (layout_of memory)) x.r.bytes form.tail
elements-old run v env locals memory s i form S x q e p =
    let b = other_block run v env locals memory s x.r.base x.f S x.fact x.live e x.is.based in
    let h = region_all (λ r. is_block v env r.base ≡ false → IsSomeAnd (slice_get run.forms r.name) (λ form. RegionStands form (layout_of memory) (visible v env (layout_of memory)) (is_base (region_bases v env.facts env.staged) r.base) r)) memory i x.r S.regions x.there b in
    let k = some_of (λ form. RegionStands form (layout_of memory) (visible v env (layout_of memory)) (is_base (region_bases v env.facts env.staged) x.r.base) x.r) (slice_get run.forms x.r.name) form q h in
    subst (λ (ts : List ℕ). ElementsHold form x.r.args (seen_with v env.facts (layout_of memory) ts) x.r.bytes form.tail) (sym (all_others env.fresh s e)) (k.elements p)

elements_by : (run : Run) (v : ℕ → ℤ) (env : Env) (locals : List (Option ℤ)) (memory : List Region) (s i : ℕ) (form : Form) (b : Bool) → StandsAtAccess run v env locals memory → (x : IsRegionOf v env.facts memory s i) → slice_get run.forms x.r.name ≡ Some form → is_one_of env.fresh s ≡ b → not b || tail_is_any form.tail ≡ true → form.shared ≡ false → ElementsHold form x.r.args (visible v (not_fresh (Some s) env) (layout_of memory)) x.r.bytes form.tail
elements_by run v env locals memory s i form true S x q e h p = elements-any form x.r.args (visible v (not_fresh (Some s) env) (layout_of memory)) x.r.bytes form.tail h
elements_by run v env locals memory s i form false S x q e h p = elements-old run v env locals memory s i form S x q e p

-- ---- all of it
closed_by : (run : Run) (v : ℕ → ℤ) (env : Env) (locals : List (Option ℤ)) (memory : List Region) (s i : ℕ) (o : Option Form) → StandsAtAccess run v env locals memory → (x : IsRegionOf v env.facts memory s i) → All (FormKept run.forms) run.forms → IsValid run.forms env → slice_get run.forms x.f.name ≡ o → closes_form env s x.f o ≡ true → IsSomeAnd o (λ form. HoldsClosed v env s memory form x.r)
closed_by run v env locals memory s i None S x K V q e = absurd (let w : false ≡ true = e in cc)
closed_by run v env locals memory s i (Some form) S x K V q e =
    let a = not (is_one_of env.fresh s) || tail_is_any form.tail in
    let b = head_shown (Some s) env form s x.f in
    let scene : Scene run v env locals memory s i = record { stands = S; region = x; meets = stands-meets run v env locals memory S; knows = own-knows run v env locals memory s S } in
    let k = all_get (FormKept run.forms) run.forms x.f.name form K q in
    let h = head-holds run v env locals memory s i run.forms form scene k (and_right a b e) in
    let t = shaped run v env locals memory s i form S x V q in
    let q' : slice_get run.forms x.r.name ≡ Some form = ap (slice_get run.forms) x.is.named ∙ q in
    record { head = h; all = λ p. record { given = t.given; size = t.sized; head = h; elements = elements_by run v env locals memory s i form (is_one_of env.fresh s) S x q' refl (and_left a b e) p } }

closed_at : (run : Run) (v : ℕ → ℤ) (env : Env) (locals : List (Option ℤ)) (memory : List Region) (s i : ℕ) → StandsAtAccess run v env locals memory → (x : IsRegionOf v env.facts memory s i) → All (FormKept run.forms) run.forms → IsValid run.forms env → closes run.forms env s ≡ true → IsSomeAnd (slice_get run.forms x.r.name) (λ form. HoldsClosed v env s memory form x.r)
closed_at run v env locals memory s i S x K V e =
    let g : closes_form env s x.f (slice_get run.forms x.f.name) ≡ true = subst (λ (o : Option Fact). closes_by run.forms env s o ≡ true) x.fact e in
    let h = closed_by run v env locals memory s i (slice_get run.forms x.f.name) S x K V refl g in
    subst (λ (n : ℕ). IsSomeAnd (slice_get run.forms n) (λ form. HoldsClosed v env s memory form x.r)) (sym x.is.named) h

pub closes-truly : (forms : List Form) (env : Env) (s : ℕ) → All (FormKept forms) forms → IsValid forms env → closes forms env s ≡ true → ClosesTruly forms env s
closes-truly forms env s K V e run v locals memory S q i x =
    subst (λ (fs : List Form). All (FormKept fs) fs → IsValid fs env → closes fs env s ≡ true → IsSomeAnd (slice_get fs x.r.name) (λ form. HoldsClosed v env s memory form x.r)) q
    (λ k w c. closed_at run v env locals memory s i S x k w c) K V e

-- ---- the code's ways

-- as many values as there are symbols
pub few_values : (env : Env) (form : Form) (own : Option ℕ) (s : ℕ) (f : Fact) (start : Option Linear) (head : List FlatCell) (args all values : List Linear) → args ≡ f.args → Some all ≡ known_binders env (window own s f start head) form.binders (Some args) → values ≡ all → length f.args + form.binders ≤ 24 → All (λ b. b.part.binders ≤ 16) form.cases → All (λ b. length values + b.part.binders ≤ 40) form.cases
few_values env form own s f start head args all values q e v h k i d l =
    let g = longer env (window own s f start head) form.binders args all (sym e) in
    let n : length all ≡ length args + form.binders = ap length g.same ∙ omega (arith, length-append args g.more, g.count) in
    omega (arith, n, ap length q, ap length v, h, k i d l)

pub no_cases : (own : Option ℕ) (env : Env) (form : Form) (s : ℕ) (f : Fact) (values : List Linear) (bs : List CaseBranch) → (length bs == 0) ≡ false → list_any (branch_shown own env form s f values) bs ≡ cases_shown own env form s f values bs
no_cases own env form s f values [] e = absurd (let w : true ≡ false = e in cc)
no_cases own env form s f values (b ∷ bs) e = refl

pub form_few : (forms : List Form) (env : Env) (s : ℕ) (f : Fact) (form : Form) → All (FormKept forms) forms → IsValid forms env → Some f ≡ fact_at env.facts s → Some form ≡ slice_get forms f.name → (length f.args + form.binders ≤ 24) × All (λ b. b.part.binders ≤ 16) form.cases
form_few forms env s f form K V e q =
    let k = all_get (FormKept forms) forms f.name form K (sym q) in
    let p = given_by forms env s f form V (sym e) (sym q) in
    (omega (arith, p, k.params, k.binders), λ i d l. (k.cases i d l).part.binders)
