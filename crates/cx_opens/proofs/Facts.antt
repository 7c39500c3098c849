-- The fact that a pointer's kind says, of forms that are there and of new symbols.
use Rattle.std.specs.Prelude.{◌≡◌, ℕ, zero, suc, ℤ, pos, ◌-ℤ◌, ◌≤ℤ◌, ◌<ℤ◌, ◌*◌, ◌^◌, List, [], ◌∷◌, ◌++◌, length, Any, Option, Some, None, Ok, Bool, true, not}
use Rattle.std.specs.List.{AllByRecursion}
use Rattle.std.proofs.Common.{arith, refl, sym, ap, ◌∙◌, subst, inl, inr}
use Rattle.std.proofs.lemmas.Int.{ints}
use Rattle.std.proofs.lemmas.List.{length-map}
use Rattle.std.proofs.lemmas.List.Elements.{All-nil}
use Rattle.cx_base.specs.Memory.{InRange, IsArgument}
use Rattle.cx_base.specs.Number.{half_of}
use Rattle.cx_base.specs.declared.memory.Region.{Region}
use Rattle.cx_term.specs.Forms.{Linear, value, symbol_of}
use Rattle.cx_entail.specs.Ranges.{Span, Has}
use Rattle.cx_cells.specs.Kept.{HasParams}
use Rattle.cx_cells.specs.Values.{values_of, all_values}
use Rattle.cx_cells.specs.Layouts.{Extent, extent_of, layout_of, IsAt, Points}
use Rattle.cx_state.specs.Known.{fact_at}
use Rattle.cx_state.specs.Run.{Run}
use Rattle.cx_state.specs.Stands.{is_block, block_bases, visible, StandsAtAccess}
use Rattle.cx_state.specs.Valid.{TermBelow, IsValid}
use Rattle.cx_state.specs.declared.state.Fact.{Fact}
use Rattle.cx_state.specs.declared.state.Env.{Env}
use Rattle.cx_query.specs.Kinds.{instance}
use Rattle.cx_fact.proofs.Regions.{any-filter, any-map, any_with}
use Rattle.cx_fact.proofs.Settles.{visible_by}
use Rattle.cx_learn.proofs.Below.{to_recursion}
use Rattle.cx_open.specs.Naming.{argument_range, named, added, with_named}
use Rattle.cx_open.specs.Cells.{args_named, begun, with_offset, offset_named, fact_named}
use Rattle.cx_open.specs.declared.naming.Factual.{Factual}
use Rattle.cx_open.specs.declared.naming.Named.{Named}
use Rattle.cx_open.specs.declared.naming.Opening.{Opening}
use Rattle.cx_opens.proofs.Steps.{Follows, follows-then, IsTrueFact, symbol-facts}
use Rattle.cx_opens.proofs.Terms.{bind-ok, Terms, terms-more, terms-count, instance-value, instance-below}
use Rattle.cx_opens.proofs.Names.{has-between, Names, named-names, named-any, Opens, args-open, args-any}

-- ---- a fact of these values
pub record Factually (run : Run) (v : ℕ → ℤ) (env : Env) (locals : List (Option ℤ)) (memory : List Region) (q : Factual) (name : ℕ) (null : Bool) (as_ : List ℤ) (off : ℤ) : Type 0 where
  pub w : ℕ → ℤ
  pub follows : Follows run v env locals memory w q.env
  pub args : Terms w (length q.env.ranges) q.fact.args as_
  pub off_is : value w q.fact.off ≡ off
  pub off_below : TermBelow (length q.env.ranges) q.fact.off
  pub name_is : q.fact.name ≡ name
  pub null_is : q.fact.null ≡ null

with-off : (run : Run) (v : ℕ → ℤ) (env : Env) (locals : List (Option ℤ)) (memory : List Region) (o : Opening) (n : Named) (name : ℕ) (null : Bool) (zs : List ℤ) (z : ℤ) → (O : Opens run v env locals memory o zs) → Names run O.w o.env locals memory n z → Factually run v env locals memory (with_offset name o.terms null n) name null zs z
with-off run v env locals memory o n name null zs z O N =
    record {
      w = N.w;
      follows = follows-then run v env locals memory O.w N.w o.env n.env O.follows N.follows;
      args = terms-more O.w N.w (length o.env.ranges) (length n.env.ranges) o.terms zs N.follows.agrees N.follows.count O.terms;
      off_is = N.value_is;
      off_below = N.below;
      name_is = refl;
      null_is = refl;
    }

no-terms : (v : ℕ → ℤ) (n : ℕ) → Terms v n [] []
no-terms v n = record { values = refl; below = All-nil (TermBelow n) }

-- the values are those that the type says, where these are in the ranges of new symbols
pub fact-live : (run : Run) (v : ℕ → ℤ) (env : Env) (locals : List (Option ℤ)) (memory : List Region) (ts : List Linear) (zs : List ℤ) (name : ℕ) (args : List Linear) (off : Linear) (null : Bool) (q : Factual) → fact_named ts env name args off null ≡ Ok q → Terms v (length env.ranges) ts zs → AllByRecursion (Has argument_range) (all_values (values_of zs) args) → Has argument_range (value (values_of zs) off) → StandsAtAccess run v env locals memory → IsValid run.forms env → Factually run v env locals memory q name null (all_values (values_of zs) args) (value (values_of zs) off)
fact-live run v env locals memory ts zs name args off null q e t h k S V =
    let r = bind-ok (args_named ts (begun env) args) (λ o. offset_named ts name off null o) q e in
    let O = args-open args run v locals memory ts zs (begun env) r.x [] r.first t (no-terms v (length env.ranges)) h S V in
    let s = bind-ok (named r.x.env argument_range (instance (Some ts) off)) (λ n. Ok (with_offset name r.x.terms null n)) q r.then_ in
    let m = length r.x.env.ranges in
    let T = terms-more v O.w (length env.ranges) m ts zs O.follows.agrees O.follows.count t in
    let N = named-names run O.w r.x.env locals memory argument_range (instance (Some ts) off) s.x (value (values_of zs) off) s.first (instance-value O.w m ts zs off T) (instance-below O.w m ts zs off T) (λ d. k) O.follows.stands O.follows.valid in
    let g : with_offset name r.x.terms null s.x ≡ q = let x = s.then_ in cc in
    subst (λ (x : Factual). Factually run v env locals memory x name null (all_values (values_of zs) args) (value (values_of zs) off)) g (with-off run v env locals memory r.x s.x name null (all_values (values_of zs) args) (value (values_of zs) off) O N)

-- some values, where any serve
pub record FactuallyAny (run : Run) (v : ℕ → ℤ) (env : Env) (locals : List (Option ℤ)) (memory : List Region) (q : Factual) (name : ℕ) (null : Bool) (k : ℕ) : Type 0 where
  pub as_ : List ℤ
  pub off : ℤ
  pub count : length as_ ≡ k
  pub fact : Factually run v env locals memory q name null as_ off

pub fact-any : (run : Run) (v : ℕ → ℤ) (env : Env) (locals : List (Option ℤ)) (memory : List Region) (ts : List Linear) (zs : List ℤ) (name : ℕ) (args : List Linear) (off : Linear) (null : Bool) (q : Factual) → fact_named ts env name args off null ≡ Ok q → Terms v (length env.ranges) ts zs → StandsAtAccess run v env locals memory → IsValid run.forms env → FactuallyAny run v env locals memory q name null (length args)
fact-any run v env locals memory ts zs name args off null q e t S V =
    let r = bind-ok (args_named ts (begun env) args) (λ o. offset_named ts name off null o) q e in
    let A = args-any args run v locals memory ts zs (begun env) r.x [] r.first t (no-terms v (length env.ranges)) S V in
    let O = A.opens in
    let s = bind-ok (named r.x.env argument_range (instance (Some ts) off)) (λ n. Ok (with_offset name r.x.terms null n)) q r.then_ in
    let m = length r.x.env.ranges in
    let T = terms-more v O.w (length env.ranges) m ts zs O.follows.agrees O.follows.count t in
    let N = named-any run O.w r.x.env locals memory (instance (Some ts) off) s.x s.first (instance-below O.w m ts zs off T) O.follows.stands O.follows.valid in
    let g : with_offset name r.x.terms null s.x ≡ q = let x = s.then_ in cc in
    subst (λ (x : Factual). FactuallyAny run v env locals memory x name null (length args)) g
    (record { as_ = A.zs; off = N.z; count = A.count ∙ omega arith; fact = with-off run v env locals memory r.x s.x name null A.zs N.z O N.names })

-- ---- a region that a pointer of the type points to has such values
pub eight : 2 * half_of 8 ≡ 2 ^ 64
unfolding half_of
eight = refl

args-have : (zs : List ℤ) → AllByRecursion IsArgument zs → AllByRecursion (Has argument_range) zs
args-have [] h = tt
args-have (z ∷ zs) h = (has-between _ _ z (omega (arith, ints, h.0.low)) (omega (arith, ints, h.0.high)), args-have zs h.1)

-- the region's arguments and the pointer's offset
record Live (args : List ℤ) (off : ℤ) : Type 0 where
  args_have : AllByRecursion (Has argument_range) args
  off_has : Has argument_range off

live_by : (name : ℕ) (args : List ℤ) (off x : ℤ) (r : Region) → pos 0 ≤ℤ x → x <ℤ pos (2 ^ 64) → InRange r → IsAt name args (x -ℤ off) (extent_of r) → Live args off
live_by name args off x r l h i p =
    record {
      args_have = subst (λ (zs : List ℤ). AllByRecursion (Has argument_range) zs) p.given (args-have r.args (to_recursion IsArgument r.args i.args));
      off_has = has-between _ _ off (omega (arith, ints, l, p.based, i.high)) (omega (arith, ints, h, p.based, i.low));
    }

live : (run : Run) (v : ℕ → ℤ) (env : Env) (locals : List (Option ℤ)) (memory : List Region) (name : ℕ) (args : List ℤ) (off x : ℤ) → StandsAtAccess run v env locals memory → pos 0 ≤ℤ x → x <ℤ pos (2 ^ 64) → Any (IsAt name args (x -ℤ off)) (visible v env (layout_of memory)) → Live args off
live run v env locals memory name args off x S l h a =
    let P : Extent → Type 0 = IsAt name args (x -ℤ off) in
    let b = any-map (λ e. (not (is_block v env e.base) ≡ true) × P e) extent_of memory (any-filter P (λ e. not (is_block v env e.base)) (layout_of memory) a) in
    let c = any_with (λ r. (not (is_block v env r.base) ≡ true) × P (extent_of r)) InRange (λ r. InRange r × P (extent_of r)) memory (λ r i p. (i, p.1)) S.memory_stands.valid.ranges b in
    live_by name args off x c.1 l h c.4.0 c.4.1

-- ---- the fact is true
-- in a state that follows, the fact of the answer is true of the number
pub record TrueFact (run : Run) (v : ℕ → ℤ) (env : Env) (locals : List (Option ℤ)) (memory : List Region) (q : Factual) (x : ℤ) : Type 0 where
  pub w : ℕ → ℤ
  pub follows : Follows run v env locals memory w q.env
  pub is : IsTrueFact run w q.env memory x q.fact

true-fact : (run : Run) (v : ℕ → ℤ) (env : Env) (locals : List (Option ℤ)) (memory : List Region) (q : Factual) (name : ℕ) (null : Bool) (as_ : List ℤ) (off x : ℤ) (k : ℕ) → Factually run v env locals memory q name null as_ off → length as_ ≡ k → HasParams run.forms name k → Points (visible v env (layout_of memory)) name as_ off null x → TrueFact run v env locals memory q x
true-fact run v env locals memory q name null as_ off x k F c p h =
    let L = layout_of memory in
    let a : Points (visible_by (block_bases F.w q.env.facts q.env.fresh) L) name as_ off null x = subst (λ (bs : List ℤ). Points (visible_by bs L) name as_ off null x) (sym F.follows.blocks) h in
    record {
      w = F.w;
      follows = F.follows;
      is = record {
        below = record { args = F.args.below; off = F.off_below };
        typed = rw (F.name_is, terms-count F.w (length q.env.ranges) q.fact.args as_ F.args, c) p;
        points = rw (F.name_is, F.args.values, F.off_is, F.null_is) a;
      };
    }

pub fact-true : (run : Run) (v : ℕ → ℤ) (env : Env) (locals : List (Option ℤ)) (memory : List Region) (ts : List Linear) (zs : List ℤ) (name : ℕ) (args : List Linear) (off : Linear) (null : Bool) (q : Factual) (x : ℤ) → fact_named ts env name args off null ≡ Ok q → Terms v (length env.ranges) ts zs → HasParams run.forms name (length args) → pos 0 ≤ℤ x → x <ℤ pos (2 ^ 64) → Points (visible v env (layout_of memory)) name (all_values (values_of zs) args) (value (values_of zs) off) null x → StandsAtAccess run v env locals memory → IsValid run.forms env → TrueFact run v env locals memory q x
fact-true run v env locals memory ts zs name args off null q x e t p l h (inl n) S V =
    let A = fact-any run v env locals memory ts zs name args off null q e t S V in
    true-fact run v env locals memory q name null A.as_ A.off x (length args) A.fact A.count p (inl n)
fact-true run v env locals memory ts zs name args off null q x e t p l h (inr a) S V =
    let L = live run v env locals memory name (all_values (values_of zs) args) (value (values_of zs) off) x S l h a in
    let F = fact-live run v env locals memory ts zs name args off null q e t L.args_have L.off_has S V in
    true-fact run v env locals memory q name null (all_values (values_of zs) args) (value (values_of zs) off) x (length args) F (length-map args (value (values_of zs))) p (inr a)

-- ---- no symbol that there was gets a fact
none-more : (fs : List (Option Fact)) (s : ℕ) → fact_at (fs ++ None ∷ []) s ≡ fact_at fs s
none-more [] zero = refl
none-more [] (suc s) = refl
none-more (x ∷ fs) zero = refl
none-more (x ∷ fs) (suc s) = none-more fs s

symbol-none : (env next : Env) (range : Span) (s : ℕ) → added env range None ≡ Ok next → fact_at next.facts s ≡ fact_at env.facts s
symbol-none env next range s q = ap (λ (fs : List (Option Fact)). fact_at fs s) (symbol-facts env next range None q) ∙ none-more env.facts s

named-facts : (env : Env) (range : Span) (o : Option Linear) (n : Named) (s : ℕ) → named env range o ≡ Ok n → fact_at n.env.facts s ≡ fact_at env.facts s
named-facts env range (Some t) n s q = let e : record { env = env; term = t } ≡ n = cc in sym (ap (λ (x : Named). fact_at x.env.facts s) e)
named-facts env range None n s q =
    let r = bind-ok (added env range None) (λ next. Ok (record { env = next; term = symbol_of (length env.ranges) })) n q in
    let e : record { env = r.x; term = symbol_of (length env.ranges) } ≡ n = let t = r.then_ in cc in
    sym (ap (λ (x : Named). fact_at x.env.facts s) e) ∙ symbol-none env r.x range s r.first

args-facts : (us : List Linear) (ts : List Linear) (o p : Opening) (s : ℕ) → args_named ts o us ≡ Ok p → fact_at p.env.facts s ≡ fact_at o.env.facts s
args-facts [] ts o p s q = let e : o ≡ p = cc in sym (ap (λ (x : Opening). fact_at x.env.facts s) e)
args-facts (u ∷ us) ts o p s q =
    let r = bind-ok (named o.env argument_range (instance (Some ts) u)) (λ n. args_named ts (with_named o.terms n) us) p q in
    args-facts us ts (with_named o.terms r.x) p s r.then_ ∙ named-facts o.env argument_range (instance (Some ts) u) r.x s r.first

pub fact-facts : (ts : List Linear) (env : Env) (name : ℕ) (args : List Linear) (off : Linear) (null : Bool) (q : Factual) (s : ℕ) → fact_named ts env name args off null ≡ Ok q → fact_at q.env.facts s ≡ fact_at env.facts s
fact-facts ts env name args off null q s e =
    let r = bind-ok (args_named ts (begun env) args) (λ o. offset_named ts name off null o) q e in
    let t = bind-ok (named r.x.env argument_range (instance (Some ts) off)) (λ n. Ok (with_offset name r.x.terms null n)) q r.then_ in
    let g : with_offset name r.x.terms null t.x ≡ q = let x = t.then_ in cc in
    sym (ap (λ (x : Factual). fact_at x.env.facts s) g) ∙ named-facts r.x.env argument_range (instance (Some ts) off) t.x s t.first ∙ args-facts args ts (begun env) r.x s r.first
