-- Forms that are there, or new symbols in their place.
use Rattle.std.specs.Prelude.{◌≡◌, ℕ, ℤ, pos, ◌≤ℤ◌, ◌+◌, List, [], ◌∷◌, ◌++◌, length, Option, Some, None, Ok, Bool, true, false}
use Rattle.std.specs.List.{AllByRecursion}
use Rattle.std.proofs.Common.{arith, refl, sym, ap, ◌∙◌, subst, append_assoc, append-nil, length-append}
use Rattle.std.proofs.lemmas.Int.{ints}
use Rattle.cx_base.specs.Number.{InRange}
use Rattle.cx_base.specs.declared.memory.Region.{Region}
use Rattle.cx_term.specs.Forms.{Linear, value, symbol_of}
use Rattle.cx_term.specs.Replaced.{with_value}
use Rattle.cx_entail.specs.Ranges.{Span, Has}
use Rattle.cx_cells.specs.Values.{values_of, all_values}
use Rattle.cx_state.specs.Run.{Run}
use Rattle.cx_state.specs.Stands.{StandsAtAccess}
use Rattle.cx_state.specs.Valid.{TermBelow, IsValid}
use Rattle.cx_state.specs.declared.state.Env.{Env}
use Rattle.cx_query.specs.Kinds.{instance, least_of, greatest_of}
use Rattle.cx_query.proofs.Comes.{Comes, value-symbol}
use Rattle.cx_learn.proofs.Below.{IfBelow, symbol-below}
use Rattle.cx_open.specs.Naming.{between, argument_range, type_range, added, named, with_named}
use Rattle.cx_open.specs.Cells.{args_named}
use Rattle.cx_open.specs.declared.naming.Named.{Named}
use Rattle.cx_open.specs.declared.naming.Opening.{Opening}
use Rattle.cx_opens.proofs.Lists.{with_value-at}
use Rattle.cx_opens.proofs.Steps.{Follows, follows-same, follows-then, symbol-follows, symbol-more}
use Rattle.cx_opens.proofs.Terms.{bind-ok, Terms, terms-more, terms-push, instance-value, instance-below}

-- ---- numbers in ranges
pub has-between : (lo hi z : ℤ) → lo ≤ℤ z → z ≤ℤ hi → Has (between lo hi) z
has-between lo hi z l h = record { step = omega arith; low = l; high = h; rest = (z, omega (arith, ints)) }

pub type-has : (size : ℕ) (signed : Bool) (z : ℤ) → InRange size signed z → Has (type_range size signed) z
type-has size true z h = has-between (least_of size true) (greatest_of size true) z h.0 (omega (arith, ints, h.1))
type-has size false z h = has-between (least_of size false) (greatest_of size false) z h.0 (omega (arith, ints, h.1))

-- ---- a form or a new symbol
-- the form of the answer has the value, in a state that follows
pub record Names (run : Run) (v : ℕ → ℤ) (env : Env) (locals : List (Option ℤ)) (memory : List Region) (n : Named) (z : ℤ) : Type 0 where
  pub w : ℕ → ℤ
  pub follows : Follows run v env locals memory w n.env
  pub value_is : value w n.term ≡ z
  pub below : TermBelow (length n.env.ranges) n.term

symbol_named : (run : Run) (v : ℕ → ℤ) (env next : Env) (locals : List (Option ℤ)) (memory : List Region) (range : Span) (z : ℤ) → added env range None ≡ Ok next → Has range z → StandsAtAccess run v env locals memory → IsValid run.forms env → Names run v env locals memory (record { env = next; term = symbol_of (length env.ranges) }) z
symbol_named run v env next locals memory range z q h S V =
    let n = length env.ranges in
    record {
      w = with_value n z v;
      follows = symbol-follows run v env next locals memory range None z q h tt S V;
      value_is = value-symbol (with_value n z v) n ∙ with_value-at n z v;
      below = symbol-below (length next.ranges) n (omega (arith, symbol-more env next range None q));
    }

-- where it is a form, it comes to the number; where there is none, the number is in the range of the new symbol
pub named-names : (run : Run) (v : ℕ → ℤ) (env : Env) (locals : List (Option ℤ)) (memory : List Region) (range : Span) (o : Option Linear) (n : Named) (z : ℤ) → named env range o ≡ Ok n → Comes v o z → IfBelow (length env.ranges) o → (o ≡ None → Has range z) → StandsAtAccess run v env locals memory → IsValid run.forms env → Names run v env locals memory n z
named-names run v env locals memory range (Some t) n z q c b h S V =
    let e : record { env = env; term = t } ≡ n = cc in
    subst (λ (x : Named). Names run v env locals memory x z) e (record { w = v; follows = follows-same run v env locals memory S V; value_is = c t refl; below = b t refl })
named-names run v env locals memory range None n z q c b h S V =
    let r = bind-ok (added env range None) (λ next. Ok (record { env = next; term = symbol_of (length env.ranges) })) n q in
    let e : record { env = r.x; term = symbol_of (length env.ranges) } ≡ n = let t = r.then_ in cc in
    subst (λ (x : Named). Names run v env locals memory x z) e (symbol_named run v env r.x locals memory range z r.first (h refl) S V)

-- some number, where any serves
pub record NamesAny (run : Run) (v : ℕ → ℤ) (env : Env) (locals : List (Option ℤ)) (memory : List Region) (n : Named) : Type 0 where
  pub z : ℤ
  pub names : Names run v env locals memory n z

pub named-any : (run : Run) (v : ℕ → ℤ) (env : Env) (locals : List (Option ℤ)) (memory : List Region) (o : Option Linear) (n : Named) → named env argument_range o ≡ Ok n → IfBelow (length env.ranges) o → StandsAtAccess run v env locals memory → IsValid run.forms env → NamesAny run v env locals memory n
named-any run v env locals memory (Some t) n q b S V =
    record { z = value v t; names = named-names run v env locals memory argument_range (Some t) n (value v t) q (λ u e. (let g : t ≡ u = cc in ap (value v) (sym g))) b (λ e. absurd (cc)) S V }
named-any run v env locals memory None n q b S V =
    record { z = pos 0; names = named-names run v env locals memory argument_range None n (pos 0) q (λ u e. absurd (cc)) b (λ e. has-between _ _ (pos 0) (omega (arith, ints)) (omega (arith, ints))) S V }

-- ---- several
pub record Opens (run : Run) (v : ℕ → ℤ) (env : Env) (locals : List (Option ℤ)) (memory : List Region) (o : Opening) (zs : List ℤ) : Type 0 where
  pub w : ℕ → ℤ
  pub follows : Follows run v env locals memory w o.env
  pub terms : Terms w (length o.env.ranges) o.terms zs

-- the named form stands after the others
pub names-terms : (run : Run) (v : ℕ → ℤ) (env : Env) (locals : List (Option ℤ)) (memory : List Region) (terms : List Linear) (zs : List ℤ) (n : Named) (z : ℤ) → Terms v (length env.ranges) terms zs → (h : Names run v env locals memory n z) → Terms h.w (length n.env.ranges) (terms ++ n.term ∷ []) (zs ++ z ∷ [])
names-terms run v env locals memory terms zs n z t h =
    terms-push h.w (length n.env.ranges) terms zs n.term z (terms-more v h.w (length env.ranges) (length n.env.ranges) terms zs h.follows.agrees h.follows.count t) h.value_is h.below

pub opens-then : (run : Run) (v : ℕ → ℤ) (env : Env) (locals : List (Option ℤ)) (memory : List Region) (u : ℕ → ℤ) (mid : Env) (o : Opening) (zs : List ℤ) → Follows run v env locals memory u mid → Opens run u mid locals memory o zs → Opens run v env locals memory o zs
opens-then run v env locals memory u mid o zs f h = record { w = h.w; follows = follows-then run v env locals memory u h.w mid o.env f h.follows; terms = h.terms }

-- the arguments of a pointer's fact, where the type's are arguments of a region
pub args-open : (us : List Linear) (run : Run) (v : ℕ → ℤ) (locals : List (Option ℤ)) (memory : List Region) (ts : List Linear) (zs : List ℤ) (o p : Opening) (done : List ℤ) → args_named ts o us ≡ Ok p → Terms v (length o.env.ranges) ts zs → Terms v (length o.env.ranges) o.terms done → AllByRecursion (Has argument_range) (all_values (values_of zs) us) → StandsAtAccess run v o.env locals memory → IsValid run.forms o.env → Opens run v o.env locals memory p (done ++ all_values (values_of zs) us)
args-open [] run v locals memory ts zs o p done q t d h S V =
    let e : o ≡ p = cc in
    subst (λ (x : Opening). Opens run v o.env locals memory x (done ++ [])) e
    (record { w = v; follows = follows-same run v o.env locals memory S V; terms = subst (λ (xs : List ℤ). Terms v (length o.env.ranges) o.terms xs) (sym (append-nil done)) d })
args-open (u ∷ us) run v locals memory ts zs o p done q t d h S V =
    let r = bind-ok (named o.env argument_range (instance (Some ts) u)) (λ n. args_named ts (with_named o.terms n) us) p q in
    let n = length o.env.ranges in
    let z = value (values_of zs) u in
    let N = named-names run v o.env locals memory argument_range (instance (Some ts) u) r.x z r.first (instance-value v n ts zs u t) (instance-below v n ts zs u t) (λ e. h.0) S V in
    let T = names-terms run v o.env locals memory o.terms done r.x z d N in
    let m = length r.x.env.ranges in
    let R = args-open us run N.w locals memory ts zs (with_named o.terms r.x) p (done ++ z ∷ []) r.then_ (terms-more v N.w n m ts zs N.follows.agrees N.follows.count t) T h.1 N.follows.stands N.follows.valid in
    opens-then run v o.env locals memory N.w r.x.env p (done ++ z ∷ all_values (values_of zs) us) N.follows (subst (λ (xs : List ℤ). Opens run N.w r.x.env locals memory p xs) (append_assoc done (z ∷ []) (all_values (values_of zs) us)) R)

-- the same where any numbers serve
pub record OpensAny (run : Run) (v : ℕ → ℤ) (env : Env) (locals : List (Option ℤ)) (memory : List Region) (o : Opening) (k : ℕ) : Type 0 where
  pub zs : List ℤ
  pub count : length zs ≡ k
  pub opens : Opens run v env locals memory o zs

pub args-any : (us : List Linear) (run : Run) (v : ℕ → ℤ) (locals : List (Option ℤ)) (memory : List Region) (ts : List Linear) (zs : List ℤ) (o p : Opening) (done : List ℤ) → args_named ts o us ≡ Ok p → Terms v (length o.env.ranges) ts zs → Terms v (length o.env.ranges) o.terms done → StandsAtAccess run v o.env locals memory → IsValid run.forms o.env → OpensAny run v o.env locals memory p (length done + length us)
args-any [] run v locals memory ts zs o p done q t d S V =
    let e : o ≡ p = cc in
    subst (λ (x : Opening). OpensAny run v o.env locals memory x (length done + 0)) e
    (record { zs = done; count = omega arith; opens = record { w = v; follows = follows-same run v o.env locals memory S V; terms = d } })
args-any (u ∷ us) run v locals memory ts zs o p done q t d S V =
    let r = bind-ok (named o.env argument_range (instance (Some ts) u)) (λ n. args_named ts (with_named o.terms n) us) p q in
    let n = length o.env.ranges in
    let A = named-any run v o.env locals memory (instance (Some ts) u) r.x r.first (instance-below v n ts zs u t) S V in
    let m = length r.x.env.ranges in
    let T = names-terms run v o.env locals memory o.terms done r.x A.z d A.names in
    let R = args-any us run A.names.w locals memory ts zs (with_named o.terms r.x) p (done ++ A.z ∷ []) r.then_ (terms-more v A.names.w n m ts zs A.names.follows.agrees A.names.follows.count t) T A.names.follows.stands A.names.follows.valid in
    record { zs = R.zs; count = R.count ∙ omega (arith, length-append done (A.z ∷ [])); opens = opens-then run v o.env locals memory A.names.w r.x.env p R.zs A.names.follows R.opens }
