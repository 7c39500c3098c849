-- What is added for the pointers of a part is true of the region's bytes.
use Rattle.std.specs.Prelude.{◌≡◌, ℕ, ℤ, pos, ◌*ℤ◌, ◌≤ℤ◌, ◌<ℤ◌, ◌+◌, ◌^◌, ◌<◌, ◌≤◌, ◌&&◌, List, [], ◌∷◌, length, Option, Some, None, is_some, not, slice_range, Ok, Bool, true, false, if◌then◌else◌}
use Rattle.std.proofs.Common.{arith, refl, sym, ap, ◌∙◌, subst}
use Rattle.std.proofs.lemmas.Bool.Decides.{nat_tests}
use Rattle.std.proofs.lemmas.Int.{ints}
use Rattle.cx_base.specs.Bytes.{number_of}
use Rattle.cx_base.specs.Memory.{size_of}
use Rattle.cx_base.specs.Number.{InRange}
use Rattle.cx_base.specs.declared.memory.Region.{Region}
use Rattle.cx_base.proofs.Wrapping.{wrapped-InRange}
use Rattle.cx_term.specs.Forms.{Linear, value, symbol_of}
use Rattle.cx_term.specs.Replaced.{with_value}
use Rattle.cx_term.specs.Sums.{is_zero}
use Rattle.cx_term.proofs.Tests.{and_left, and_right}
use Rattle.cx_term.proofs.Values.{is_zero-true}
use Rattle.cx_entail.specs.Ranges.{same_z}
use Rattle.cx_entail.proofs.Congruences.{zero_distance}
use Rattle.cx_cells.specs.Kept.{HasParams}
use Rattle.cx_cells.specs.Meaning.{number_at}
use Rattle.cx_cells.specs.Values.{values_of, all_values}
use Rattle.cx_cells.specs.Layouts.{layout_of, Points}
use Rattle.cx_state.specs.Known.{fact_at}
use Rattle.cx_state.specs.Run.{Run}
use Rattle.cx_state.specs.Stands.{visible, StandsAtAccess}
use Rattle.cx_state.specs.Valid.{TermBelow, IsValid}
use Rattle.cx_state.specs.declared.state.Cell.{Cell}
use Rattle.cx_state.specs.declared.state.Fact.{Fact}
use Rattle.cx_state.specs.declared.state.Env.{Env}
use Rattle.cx_query.proofs.Comes.{value-symbol}
use Rattle.cx_learn.specs.Answers.{and_then}
use Rattle.cx_learn.proofs.Below.{Below, to_recursion, symbol-below}
use Rattle.cx_fact.specs.Telling.{told, with_fact}
use Rattle.cx_fact.proofs.Regions.{not_false}
use Rattle.cx_apart.specs.Putting.{with_cell}
use Rattle.cx_close.specs.Knowing.{known_cell}
use Rattle.cx_open.specs.Naming.{type_range, added}
use Rattle.cx_open.specs.Cells.{cell_of, fact_named, new_pointer, fact_given, is_lone, lone_in, lone_given, ptr_opened}
use Rattle.cx_open.specs.declared.naming.Factual.{Factual}
use Rattle.cx_opens.proofs.Lists.{with_value-at, set-at}
use Rattle.cx_opens.proofs.Steps.{follows-then, told-follows, IsTrueFact, symbol-follows, symbol-more, symbol-fact, given-follows}
use Rattle.cx_opens.proofs.Terms.{bind-ok, then-ok, Terms}
use Rattle.cx_opens.proofs.Names.{type-has}
use Rattle.cx_opens.proofs.Facts.{eight, TrueFact, fact-true, fact-facts}
use Rattle.cx_opens.proofs.Cells.{Inside, inside-more, Placed, placed-more, IfPlaced, cell_added, known_below, known_reads, FollowsSome, some-same}

-- ---- addresses
address_low : (r : Region) (off : ℕ) → pos 0 ≤ℤ number_at r.bytes off 8 false
address_low r off = (wrapped-InRange 8 false (pos (number_of (slice_range r.bytes off (off + 8)))) refl).0

address_high : (r : Region) (off : ℕ) → number_at r.bytes off 8 false <ℤ pos (2 ^ 64)
address_high r off = subst (λ (n : ℕ). number_at r.bytes off 8 false <ℤ pos n) eight (wrapped-InRange 8 false (pos (number_of (slice_range r.bytes off (off + 8)))) refl).1

-- ---- a new symbol for a pointer
pointer_new : (run : Run) (v : ℕ → ℤ) (env next : Env) (locals : List (Option ℤ)) (memory : List Region) (s i : ℕ) (f : Fact) (r : Region) (off : ℕ) (at : Linear) (o : Factual) → new_pointer run.forms s at o ≡ Ok next → TrueFact run v env locals memory o (number_at r.bytes off 8 false) → Inside run v env locals memory s i f r → Placed v (length env.ranges) f off at → off + 8 ≤ size_of r → FollowsSome run v env locals memory next
pointer_new run v env next locals memory s i f r off at o q T x p l =
    let z = number_at r.bytes off 8 false in
    let n = length o.env.ranges in
    let w = with_value n z T.w in
    let a = then-ok (added o.env (type_range 8 false) (Some o.fact)) (λ mid. and_then (told run.forms mid n) (λ last. with_cell last (cell_of s at 8 false (symbol_of n)))) next q in
    let b = then-ok (told run.forms a.x n) (λ last. with_cell last (cell_of s at 8 false (symbol_of n))) next a.then_ in
    let x1 = inside-more run v env locals memory T.w o.env s i f r T.follows x in
    let p1 = placed-more run v env locals memory T.w o.env s i f r off at T.follows x p in
    let h : InRange 8 false z = wrapped-InRange 8 false (pos (number_of (slice_range r.bytes off (off + 8)))) refl in
    let F = symbol-follows run T.w o.env a.x locals memory (type_range 8 false) (Some o.fact) z a.first (type-has 8 false z h) T.is x1.stands x1.valid in
    let x2 = inside-more run T.w o.env locals memory w a.x s i f r F x1 in
    let p2 = placed-more run T.w o.env locals memory w a.x s i f r off at F x1 p1 in
    let G = told-follows run w a.x b.x locals memory n o.fact (symbol-fact o.env a.x (type_range 8 false) (Some o.fact) x1.valid.scoped a.first) b.first F.stands F.valid in
    let x3 = inside-more run w a.x locals memory w b.x s i f r G x2 in
    let p3 = placed-more run w a.x locals memory w b.x s i f r off at G x2 p2 in
    let u : TermBelow (length b.x.ranges) (symbol_of n) = symbol-below (length b.x.ranges) n (omega (arith, symbol-more o.env a.x (type_range 8 false) (Some o.fact) a.first, G.count)) in
    let H = cell_added run w b.x next locals memory s i f r off 8 false at (symbol_of n) b.then_ x3 p3 u l (sym (value-symbol w n ∙ with_value-at n z T.w)) in
    record { w = w; follows = follows-then run v env locals memory T.w w o.env next T.follows (follows-then run T.w o.env locals memory w w a.x next F (follows-then run w a.x locals memory w w b.x next G H)) }

-- ---- a symbol that gets the fact
-- the form is the symbol, which has no fact
pub record Lone (facts : List (Option Fact)) (d : Linear) (t : ℕ) : Type 0 where
  pub is : (v : ℕ → ℤ) → value v d ≡ v t
  pub none : fact_at facts t ≡ None
  pub below : (n : ℕ) → Below n d.parts → t < n

pub same_z-true : (a b : ℤ) → same_z a b ≡ true → a ≡ b
same_z-true a b e = zero_distance a b (grind (arith, nat_tests))

none_is : (o : Option Fact) → is_some o ≡ false → o ≡ None
none_is None e = refl
none_is (Some f) e = absurd (let w : true ≡ false = e in cc)

lone_by : (facts : List (Option Fact)) (z k : ℤ) (s t : ℕ) (b : Bool) → is_lone facts z (s, k) ≡ b → (if b then Some s else None) ≡ Some t → Lone facts (record { konst = z; parts = (s, k) ∷ [] }) t
lone_by facts z k s t false e q = absurd (cc)
lone_by facts z k s t true e q =
    let g : s ≡ t = cc in
    let a = is_zero-true z (and_left (is_zero z) (same_z k (pos 1) && not (is_some (fact_at facts s))) e) in
    let h = and_right (is_zero z) (same_z k (pos 1) && not (is_some (fact_at facts s))) e in
    let b = same_z-true k (pos 1) (and_left (same_z k (pos 1)) (not (is_some (fact_at facts s))) h) in
    let c = none_is (fact_at facts s) (not_false (is_some (fact_at facts s)) (and_right (same_z k (pos 1)) (not (is_some (fact_at facts s))) h)) in
    subst (λ (y : ℕ). Lone facts (record { konst = z; parts = (s, k) ∷ [] }) y) g
    (record { is = λ v. (let m : k *ℤ v s ≡ v s = ap (λ (y : ℤ). y *ℤ v s) b ∙ omega (arith, ints) in omega (arith, ints, a, m)); none = c; below = λ n l. l.0 })

pub lone_at : (facts : List (Option Fact)) (z : ℤ) (ps : List (ℕ × ℤ)) (t : ℕ) → lone_in facts z ps ≡ Some t → Lone facts (record { konst = z; parts = ps }) t
lone_at facts z [] t q = absurd (cc)
lone_at facts z (p ∷ []) t q = lone_by facts z p.1 p.0 t (is_lone facts z p) refl q
lone_at facts z (p ∷ r ∷ ps) t q = absurd (cc)

given_by : (run : Run) (v : ℕ → ℤ) (env next : Env) (locals : List (Option ℤ)) (memory : List Region) (t : ℕ) (z : ℤ) (o : Factual) → fact_given run.forms t o ≡ Ok next → TrueFact run v env locals memory o z → v t ≡ z → t < length env.ranges → fact_at o.env.facts t ≡ None → FollowsSome run v env locals memory next
given_by run v env next locals memory t z o q T e l n =
    let F = T.follows in
    let m : t < length o.env.ranges = omega (arith, l, F.count) in
    let g : z ≡ T.w t = sym e ∙ sym (F.agrees t l) in
    let G = given-follows run T.w o.env locals memory t o.fact m n (subst (λ (y : ℤ). IsTrueFact run T.w o.env memory y o.fact) g T.is) F.stands F.valid in
    let H = told-follows run T.w (with_fact o.env t o.fact) next locals memory t o.fact (set-at o.env.facts t o.fact (omega (arith, m, F.valid.scoped.facts_count))) q G.stands G.valid in
    record { w = T.w; follows = follows-then run v env locals memory T.w T.w o.env next F (follows-then run T.w o.env locals memory T.w T.w (with_fact o.env t o.fact) next G H) }

lone_follows : (run : Run) (v : ℕ → ℤ) (env next : Env) (locals : List (Option ℤ)) (memory : List Region) (ts : List Linear) (zs : List ℤ) (name : ℕ) (args : List Linear) (to : Linear) (null : Bool) (d : Linear) (z : ℤ) (o : Option ℕ) → lone_given run.forms env ts name args to null o ≡ Ok next → lone_in env.facts d.konst d.parts ≡ o → value v d ≡ z → TermBelow (length env.ranges) d → Terms v (length env.ranges) ts zs → HasParams run.forms name (length args) → pos 0 ≤ℤ z → z <ℤ pos (2 ^ 64) → Points (visible v env (layout_of memory)) name (all_values (values_of zs) args) (value (values_of zs) to) null z → StandsAtAccess run v env locals memory → IsValid run.forms env → FollowsSome run v env locals memory next
lone_follows run v env next locals memory ts zs name args to null d z None q e c b t h l u p S V = some-same run v env next locals memory (let w : env ≡ next = cc in w) S V
lone_follows run v env next locals memory ts zs name args to null d z (Some k) q e c b t h l u p S V =
    let L = lone_at env.facts d.konst d.parts k e in
    let r = bind-ok (fact_named ts env name args to null) (λ o. fact_given run.forms k o) next q in
    let T = fact-true run v env locals memory ts zs name args to null r.x z r.first t h l u p S V in
    given_by run v env next locals memory k z r.x r.then_ T (sym (L.is v) ∙ c) (L.below (length env.ranges) (to_recursion (λ y. y.0 < length env.ranges) d.parts b)) (fact-facts ts env name args to null r.x k r.first ∙ L.none)

known_by : (run : Run) (v : ℕ → ℤ) (env next : Env) (locals : List (Option ℤ)) (memory : List Region) (s i : ℕ) (f : Fact) (r : Region) (off : ℕ) (ts : List Linear) (zs : List ℤ) (name : ℕ) (args : List Linear) (to : Linear) (null : Bool) (o : Option Linear) (d : Cell) (b : Bool) → d.signed ≡ b → (if b then Ok env else lone_given run.forms env ts name args to null (lone_in env.facts d.value.konst d.value.parts)) ≡ Ok next → known_cell env.cells s o 8 ≡ Some d → Inside run v env locals memory s i f r → IfPlaced v (length env.ranges) f off o → Terms v (length env.ranges) ts zs → HasParams run.forms name (length args) → Points (visible v env (layout_of memory)) name (all_values (values_of zs) args) (value (values_of zs) to) null (number_at r.bytes off 8 false) → FollowsSome run v env locals memory next
known_by run v env next locals memory s i f r off ts zs name args to null o d true e q k x p t h c = some-same run v env next locals memory (let w : env ≡ next = cc in w) x.stands x.valid
known_by run v env next locals memory s i f r off ts zs name args to null o d false e q k x p t h c =
    let z = number_at r.bytes off 8 false in
    let g : value v d.value ≡ z = sym (known_reads run v env locals memory s i f r off 8 o d x p k) ∙ ap (number_at r.bytes off 8) e in
    let b = (known_below (length env.ranges) env.cells s o 8 d x.valid.scoped.cells k).value in
    lone_follows run v env next locals memory ts zs name args to null d.value z (lone_in env.facts d.value.konst d.value.parts) q refl g b t h (address_low r off) (address_high r off) c x.stands x.valid

-- a pointer that the type says
pub ptr-follows : (run : Run) (v : ℕ → ℤ) (env next : Env) (locals : List (Option ℤ)) (memory : List Region) (s i : ℕ) (f : Fact) (r : Region) (off : ℕ) (ts : List Linear) (zs : List ℤ) (name : ℕ) (args : List Linear) (to : Linear) (null : Bool) (o : Option Linear) (d : Option Cell) → ptr_opened run.forms env ts s name args to null o d ≡ Ok next → known_cell env.cells s o 8 ≡ d → Inside run v env locals memory s i f r → IfPlaced v (length env.ranges) f off o → off + 8 ≤ size_of r → Terms v (length env.ranges) ts zs → HasParams run.forms name (length args) → Points (visible v env (layout_of memory)) name (all_values (values_of zs) args) (value (values_of zs) to) null (number_at r.bytes off 8 false) → FollowsSome run v env locals memory next
ptr-follows run v env next locals memory s i f r off ts zs name args to null None d q k x p l t h c = some-same run v env next locals memory (let w : env ≡ next = cc in w) x.stands x.valid
ptr-follows run v env next locals memory s i f r off ts zs name args to null (Some at) None q k x p l t h c =
    let b = bind-ok (fact_named ts env name args to null) (λ o. new_pointer run.forms s at o) next q in
    let T = fact-true run v env locals memory ts zs name args to null b.x (number_at r.bytes off 8 false) b.first t h (address_low r off) (address_high r off) c x.stands x.valid in
    pointer_new run v env next locals memory s i f r off at b.x b.then_ T x (p at refl) l
ptr-follows run v env next locals memory s i f r off ts zs name args to null (Some at) (Some d) q k x p l t h c =
    known_by run v env next locals memory s i f r off ts zs name args to null (Some at) d d.signed refl q k x p t h c
