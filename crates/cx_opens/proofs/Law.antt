-- What opening adds is true.
use Rattle.std.specs.Prelude.{◌≡◌, ℕ, ℤ, pos, negsuc, ◌-ℤ◌, ◌≤ℤ◌, ◌<ℤ◌, ◌+◌, ◌*◌, ◌<◌, ◌≤◌, List, [], ◌∷◌, length, All, Option, Some, None, option_map, slice_get, IsSomeAnd, IfSome, Ok, Err, Bool, true, false, ◌⊎◌}
use Rattle.std.proofs.Common.{arith, refl, sym, ap, ◌∙◌, subst, inl, inr}
use Rattle.std.proofs.lemmas.Int.{ints}
use Rattle.cx_base.specs.Memory.{size_of}
use Rattle.cx_base.specs.declared.memory.Region.{Region}
use Rattle.cx_term.specs.Forms.{Linear, value}
use Rattle.cx_cells.specs.Kept.{FormKept, TailKept}
use Rattle.cx_cells.specs.Meaning.{HeadHolds, ElementsHold, element_count, element_at, size_with}
use Rattle.cx_cells.specs.Layouts.{Extent, extent_of, layout_of, IsAt}
use Rattle.cx_cells.specs.Values.{all_values, count_of}
use Rattle.cx_cells.specs.declared.form.Form.{Form}
use Rattle.cx_cells.specs.declared.form.Tail.{Tail}
use Rattle.cx_state.specs.Known.{fact_at, is_one_of}
use Rattle.cx_state.specs.Run.{Run}
use Rattle.cx_state.specs.Stands.{IsPrivate, IsNull, is_base, is_block, region_bases, block_bases, visible, CellIsPrivate, RegionStands, StandsAtAccess}
use Rattle.cx_state.specs.Valid.{LocalBelow, IsValid}
use Rattle.cx_state.specs.declared.state.Fact.{Fact}
use Rattle.cx_state.specs.declared.state.Env.{Env}
use Rattle.cx_learn.specs.Answers.{Answer}
use Rattle.cx_fact.specs.Telling.{settled}
use Rattle.cx_fact.proofs.Formed.{settled-valid}
use Rattle.cx_fact.proofs.Regions.{IsOf, fact_region}
use Rattle.cx_fact.proofs.Settles.{visible_by, settled-keeps}
use Rattle.cx_apart.proofs.Blocks.{other_block}
use Rattle.cx_apart.proofs.Places.{all_get, region_all}
use Rattle.cx_apart.proofs.Stores.{any_get}
use Rattle.cx_close.proofs.Closed.{given_by}
use Rattle.cx_head.specs.Heads.{element_opened, part_chosen, form_opened, fact_opened, opened}
use Rattle.cx_head.specs.Staged.{aliased, answer_of, open_by, open_of}
use Rattle.cx_opens.specs.Opened.{Agree, IsElement, MayOpen, StandsOn, OpensTruly, OpensWell}
use Rattle.cx_opens.proofs.Carried.{fact-within}
use Rattle.cx_opens.proofs.Steps.{Follows}
use Rattle.cx_opens.proofs.Terms.{then-ok}
use Rattle.cx_opens.proofs.Cells.{Inside, FollowsSome, some-same}
use Rattle.cx_opens.proofs.Grown.{Grown}
use Rattle.cx_opens.proofs.GrownParts.{fact_of-grown, opened-grown}
use Rattle.cx_opens.proofs.Whole.{head-opens, element_in, element-opens}
use Rattle.cx_opens.proofs.Staged.{not-staged}
use Rattle.cx_opens.proofs.Settled.{settled-same, same-count, same-fact, same-bases}

-- ---- sizes
tail_by : (form : Form) (tail : Tail) (z : ℤ) (n : ℕ) → option_map (element_at form tail) (count_of z) ≡ Some n → form.head_size ≤ n
tail_by form tail (pos m) n e = let w : form.head_size + m * tail.part.size ≡ n = cc in omega (arith, w)
tail_by form tail (negsuc m) n e = absurd (cc)

-- a region of the form has the bytes of the head
head_in : (form : Form) (args : List ℤ) (o : Option Tail) (n : ℕ) → size_with form args o ≡ Some n → form.head_size ≤ n
head_in form args None n e = let w : form.head_size ≡ n = cc in omega (arith, w)
head_in form args (Some tail) n e = tail_by form tail (element_count args tail) n e

-- a number that is not negative
record Index (z : ℤ) : Type 0 where
  n : ℕ
  is : z ≡ pos n

index_of : (z : ℤ) → pos 0 ≤ℤ z → Index z
index_of (pos n) l = record { n = n; is = refl }
index_of (negsuc n) l = absurd (omega (arith, ints, l))

-- ---- what is visible where there are no fresh symbols
all_seen : (layout : List Extent) → visible_by [] layout ≡ layout
all_seen [] = refl
all_seen (e ∷ es) = ap (λ (ys : List Extent). e ∷ ys) (all_seen es)

none_hidden : (v : ℕ → ℤ) (env : Env) (layout : List Extent) → env.fresh ≡ [] → visible v env layout ≡ layout
none_hidden v env layout e = ap (λ (ss : List ℕ). visible_by (block_bases v env.facts ss) layout) e ∙ all_seen layout

-- ---- what the region holds
head_by : (form : Form) (v : ℕ → ℤ) (env : Env) (whole : List Extent) (r : Region) (b : Bool) → form.shared ≡ b → (form.shared ≡ false) ⊎ (env.fresh ≡ []) → RegionStands form whole (visible v env whole) false r → HeadHolds form r.args (visible v env whole) r.bytes
head_by form v env whole r false e a R = R.head e refl
head_by form v env whole r true e (inl p) R = absurd (let w : true ≡ false = sym e ∙ p in cc)
head_by form v env whole r true e (inr p) R = subst (λ (layout : List Extent). HeadHolds form r.args layout r.bytes) (sym (none_hidden v env whole p)) (R.shared e).head

elements_by : (form : Form) (v : ℕ → ℤ) (env : Env) (whole : List Extent) (r : Region) (b : Bool) → form.shared ≡ b → (form.shared ≡ false) ⊎ (env.fresh ≡ []) → RegionStands form whole (visible v env whole) false r → ElementsHold form r.args (visible v env whole) r.bytes form.tail
elements_by form v env whole r false e a R = R.elements e
elements_by form v env whole r true e (inl p) R = absurd (let w : true ≡ false = sym e ∙ p in cc)
elements_by form v env whole r true e (inr p) R = subst (λ (layout : List Extent). ElementsHold form r.args layout r.bytes form.tail) (sym (none_hidden v env whole p)) (R.shared e).elements

-- ---- the part that is opened
tail-opens : (run : Run) (v : ℕ → ℤ) (env next : Env) (locals : List (Option ℤ)) (memory : List Region) (s i : ℕ) (f : Fact) (r : Region) (form : Form) (t : Linear) (o : Option Tail) → element_opened run.forms form s f t env o ≡ Ok next → Inside run v env locals memory s i f r → LocalBelow (length env.ranges) (Some t) → pos 0 ≤ℤ value v t → IfSome o (λ tail. value v t <ℤ element_count (all_values v f.args) tail) → ElementsHold form r.args (visible v env (layout_of memory)) r.bytes o → IfSome o (TailKept run.forms form) → form.params ≡ length f.args → size_with form r.args o ≡ Some (size_of r) → FollowsSome run v env locals memory next
tail-opens run v env next locals memory s i f r form t None q x b l m h k c e = some-same run v env next locals memory (let w : env ≡ next = cc in w) x.stands x.valid
tail-opens run v env next locals memory s i f r form t (Some tail) q x b l m h k c e =
    let j = index_of (value v t) l in
    let below : pos j.n <ℤ element_count r.args tail = subst (λ (zs : List ℤ). pos j.n <ℤ element_count zs tail) (sym x.is.given) (subst (λ (z : ℤ). z <ℤ element_count (all_values v f.args) tail) j.is m) in
    element-opens run v env next locals memory s i f r form tail t j.n q x j.is b (h j.n below) k c (element_in form tail (element_count r.args tail) j.n (size_of r) e below)

-- the index is that of an element of the region
abbrev IsIndex : (ℕ → ℤ) → List ℤ → Form → Option Linear → Type 0
IsIndex v args form None = Unit {0}
IsIndex v args form (Some t) = (pos 0 ≤ℤ value v t) × IfSome form.tail (λ tail. value v t <ℤ element_count args tail)

part-opens : (run : Run) (v : ℕ → ℤ) (env next : Env) (locals : List (Option ℤ)) (memory : List Region) (s i : ℕ) (f : Fact) (r : Region) (form : Form) (element : Option Linear) → part_chosen run.forms element s f env form ≡ Ok next → Inside run v env locals memory s i f r → LocalBelow (length env.ranges) element → IsIndex v (all_values v f.args) form element → RegionStands form (layout_of memory) (visible v env (layout_of memory)) false r → (form.shared ≡ false) ⊎ (env.fresh ≡ []) → FormKept run.forms form → form.params ≡ length f.args → FollowsSome run v env locals memory next
part-opens run v env next locals memory s i f r form None q x b d R a k c =
    head-opens run v env next locals memory s i f r form q x (head_by form v env (layout_of memory) r form.shared refl a R) k c (head_in form r.args form.tail (size_of r) R.sized)
part-opens run v env next locals memory s i f r form (Some t) q x b d R a k c =
    tail-opens run v env next locals memory s i f r form t form.tail q x b d.0 d.1 (elements_by form v env (layout_of memory) r form.shared refl a R) k.tail c R.sized

index_by : (forms : List Form) (v : ℕ → ℤ) (f : Fact) (form : Form) (element : Option Linear) → slice_get forms f.name ≡ Some form → IsElement forms v f element → IsIndex v (all_values v f.args) form element
index_by forms v f form None e h = tt
index_by forms v f form (Some t) e h = (h.0, subst (λ (o : Option Form). IfSome o (λ form. IfSome form.tail (λ tail. value v t <ℤ element_count (all_values v f.args) tail))) e h.1)

alone_by : (forms : List Form) (env : Env) (n : ℕ) (form : Form) → slice_get forms n ≡ Some form → IsPrivate forms n ⊎ (env.fresh ≡ []) → (form.shared ≡ false) ⊎ (env.fresh ≡ [])
alone_by forms env n form e (inl h) = inl (subst (λ (o : Option Form). IsSomeAnd o (λ form. form.shared ≡ false)) e h)
alone_by forms env n form e (inr h) = inr h

form-opens : (run : Run) (v : ℕ → ℤ) (env next : Env) (locals : List (Option ℤ)) (memory : List Region) (s i : ℕ) (f : Fact) (r : Region) (element : Option Linear) (o : Option Form) → slice_get run.forms f.name ≡ o → form_opened run.forms element s f env o ≡ Ok next → Inside run v env locals memory s i f r → LocalBelow (length env.ranges) element → IsElement run.forms v f element → IsSomeAnd o (λ form. RegionStands form (layout_of memory) (visible v env (layout_of memory)) false r) → IsPrivate run.forms f.name ⊎ (env.fresh ≡ []) → All (FormKept run.forms) run.forms → FollowsSome run v env locals memory next
form-opens run v env next locals memory s i f r element None e q x b d R a K = absurd R
form-opens run v env next locals memory s i f r element (Some form) e q x b d R a K =
    part-opens run v env next locals memory s i f r form element q x b (index_by run.forms v f form element e d) R (alone_by run.forms env f.name form e a) (all_get (FormKept run.forms) run.forms f.name form K e) (given_by run.forms env s f form x.valid x.fact e)

-- ---- the symbol is settled first
lost_at : (v : ℕ → ℤ) (z : ℤ) (f g : Fact) (r : Region) → g.name ≡ f.name → g.args ≡ f.args → g.off ≡ f.off → IsAt f.name (all_values v f.args) (z -ℤ value v f.off) (extent_of r) → IsAt g.name (all_values v g.args) (z -ℤ value v g.off) (extent_of r)
lost_at v z f g r n a o h = rw (n, a, o) h

lost_element : (forms : List Form) (v : ℕ → ℤ) (f g : Fact) (element : Option Linear) → g.name ≡ f.name → g.args ≡ f.args → IsElement forms v f element → IsElement forms v g element
lost_element forms v f g None n a h = tt
lost_element forms v f g (Some t) n a h = rw (n, a) h

lost_alone : (forms : List Form) (env next : Env) (m n : ℕ) → n ≡ m → next.fresh ≡ env.fresh → IsPrivate forms m ⊎ (env.fresh ≡ []) → IsPrivate forms n ⊎ (next.fresh ≡ [])
lost_alone forms env next m n e g (inl h) = inl (subst (λ (k : ℕ). IsPrivate forms k) (sym e) h)
lost_alone forms env next m n e g (inr h) = inr (g ∙ h)

local-more : (n m : ℕ) (o : Option Linear) → m ≡ n → LocalBelow n o → LocalBelow m o
local-more n m o e h = rw e h

-- the symbol's region is of a type that is not shared, unless the symbol is null
record SymbolIsPrivate (forms : List Form) (v : ℕ → ℤ) (facts : List (Option Fact)) (t : ℕ) : Type 0 where
  f : Fact
  fact : fact_at facts t ≡ Some f
  private : IsNull v f t ⊎ IsPrivate forms f.name

null-more : (n : ℕ) (v w : ℕ → ℤ) (f : Fact) (t : ℕ) (P : Type 0) → Agree n v w → t < n → IsNull v f t ⊎ P → IsNull w f t ⊎ P
null-more n v w f t P a l (inl h) = inl (h.0, a t l ∙ h.1)
null-more n v w f t P a l (inr h) = inr h

-- the cells that are added are of the symbol
private-more : (run : Run) (v w : ℕ → ℤ) (env next : Env) (locals : List (Option ℤ)) (memory : List Region) (s : ℕ) (f : Fact) → Follows run v env locals memory w next → Grown run.forms s env next → IsValid run.forms env → fact_at env.facts s ≡ Some f → IsPrivate run.forms f.name → All (CellIsPrivate run.forms v env.facts) env.cells → All (CellIsPrivate run.forms w next.facts) next.cells
private-more run v w env next locals memory s f F G V e p h =
    let P : ℕ → Type 0 = SymbolIsPrivate run.forms v env.facts in
    let a : All (λ c. P c.sym) next.cells = G.cells P (record { f = f; fact = e; private = inr p }) (λ i d l. (let x = h i d l in record { f = x.f; fact = x.fact; private = x.private })) in
    λ i d l.
    (let x = a i d l in
    record { f = x.f; fact = F.facts _ x.f x.fact; private = null-more (length env.ranges) v w x.f _ (IsPrivate run.forms x.f.name) F.agrees (fact-within env _ x.f V.scoped x.fact) x.private })

opening-at : (run : Run) (v : ℕ → ℤ) (env next : Env) (locals : List (Option ℤ)) (memory : List Region) (s : ℕ) (element : Option Linear) → All (FormKept run.forms) run.forms → IsValid run.forms env → aliased env s env.staged ≡ None → opened run.forms env s element ≡ Ok next → StandsAtAccess run v env locals memory → (m : MayOpen run.forms v env s element) → StandsOn run v env next locals memory m.f.name
opening-at run v env next locals memory s element K V alias q S m =
    let f = m.f in
    let whole = layout_of memory in
    let a = then-ok (settled run.forms env s) (λ mid. fact_opened run.forms element s mid (fact_at mid.facts s)) next q in
    let mid = a.x in
    let keeps = settled-keeps run.forms env s mid a.first run v refl in
    let T = keeps.at_access locals memory S in
    let W = settled-valid run.forms env s mid a.first V in
    let h = settled-same run v env s mid locals memory a.first S V in
    let L = same-fact run.forms env mid s f h V m.fact in
    let g = L.g in
    let u = fact_region run v env locals memory s f S m.fact (λ n z. m.live (n, z)) in
    let i = u.0 in
    let r = u.1 in
    let there = any_get (IsOf run.forms v f (v s)) memory u in
    let x : Inside run v env locals memory s i f r = record { stands = S; valid = V; fact = m.fact; live = m.live; there = there; is = u.4.is } in
    let y : Inside run v mid locals memory s i g r = record { stands = T; valid = W; fact = L.fact; live = λ p. m.live (L.null p.0, p.1); there = there; is = lost_at v (v s) f g r L.name L.args L.off u.4.is } in
    let staged = subst (λ (bs : List ℤ). is_base bs r.base ≡ false) (sym (same-bases run.forms v env mid s h V)) (not-staged run v env locals memory s i f r x alias) in
    let old = subst (λ (ss : List ℕ). is_one_of ss s ≡ false) (sym h.fresh) m.old in
    let seen = other_block run v mid locals memory s r.base g T L.fact y.live old y.is.based in
    let R = region_all (λ r. is_block v mid r.base ≡ false → IsSomeAnd (slice_get run.forms r.name) (λ form. RegionStands form whole (visible v mid whole) (is_base (region_bases v mid.facts mid.staged) r.base) r)) memory i r T.regions there seen in
    let R1 = subst (λ (n : ℕ). IsSomeAnd (slice_get run.forms n) (λ form. RegionStands form whole (visible v mid whole) (is_base (region_bases v mid.facts mid.staged) r.base) r)) y.is.named R in
    let R2 = subst (λ (d : Bool). IsSomeAnd (slice_get run.forms g.name) (λ form. RegionStands form whole (visible v mid whole) d r)) staged R1 in
    let q1 = subst (λ (o : Option Fact). fact_opened run.forms element s mid o ≡ Ok next) L.fact a.then_ in
    let n = same-count run.forms env mid s h V W in
    let F = form-opens run v mid next locals memory s i g r element (slice_get run.forms g.name) refl q1 y (local-more (length env.ranges) (length mid.ranges) element n m.named) (lost_element run.forms v f g element L.name L.args m.has) R2 (lost_alone run.forms env mid f.name g.name L.name h.fresh m.alone) K in
    let G = fact_of-grown run.forms element s mid next (fact_at mid.facts s) refl a.then_ (local-more (length env.ranges) (length mid.ranges) element n m.named) K W in
    record {
      w = F.w;
      agrees = λ t l. F.follows.agrees t (omega (arith, l, n));
      at_access = F.follows.stands;
      stands = λ A p.
          record {
            at_access = F.follows.stands;
            private = private-more run v F.w mid next locals memory s g F.follows G W L.fact (subst (λ (k : ℕ). IsPrivate run.forms k) (sym L.name) p) (keeps.stands locals memory A).private;
          };
    }

-- ---- the answer
answer_ok : (a : Answer) (next : Env) → answer_of a ≡ Ok next → a ≡ Ok next
answer_ok (Ok x) next e = let w : x ≡ next = cc in ap (λ (y : Env). Ok y) w
answer_ok (Err fault) next e = absurd (cc)

-- where it is a state, no staged region may be the same, and the symbol's region is opened
record Opening (forms : List Form) (env : Env) (s : ℕ) (element : Option Linear) (next : Env) : Type 0 where
  none : aliased env s env.staged ≡ None
  opens : opened forms env s element ≡ Ok next

opening_by : (forms : List Form) (env : Env) (s : ℕ) (element : Option Linear) (next : Env) (o : Option ℕ) → aliased env s env.staged ≡ o → open_by forms env s element o ≡ Ok next → Opening forms env s element next
opening_by forms env s element next (Some t) e q = absurd (cc)
opening_by forms env s element next None e q = record { none = e; opens = answer_ok (opened forms env s element) next q }

pub opening_is_true : (forms : List Form) (env : Env) (s : ℕ) (element : Option Linear) (next : Env) → All (FormKept forms) forms → IsValid forms env → open_of forms env s element ≡ Ok next → OpensTruly forms env s element next
opening_is_true forms env s element next K V q run v locals memory e S m =
    subst (λ (fs : List Form). All (FormKept fs) fs → IsValid fs env → open_of fs env s element ≡ Ok next → (m : MayOpen fs v env s element) → StandsOn run v env next locals memory m.f.name) e
    (λ k w q m. (let o = opening_by run.forms env s element next (aliased env s env.staged) refl q in opening-at run v env next locals memory s element k w o.none o.opens S m))
    K V q m

-- the state is valid
pub opening_is_well : (forms : List Form) (env : Env) (s : ℕ) (element : Option Linear) (next : Env) → All (FormKept forms) forms → IsValid forms env → open_of forms env s element ≡ Ok next → OpensWell forms env element next
opening_is_well forms env s element next K V q b =
    let g = opened-grown forms s env next element (opening_by forms env s element next (aliased env s env.staged) refl q).opens b K V in
    record { valid = g.valid; symbols = g.count; locals = g.locals; fresh = g.fresh; staged = g.staged; facts = g.facts }
