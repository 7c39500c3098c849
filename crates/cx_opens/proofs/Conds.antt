-- Conditions that are true may be learnt.
use Rattle.std.specs.Prelude.{◌≡◌, ◌≢◌, ℕ, ℤ, pos, ◌-ℤ◌, ◌≤ℤ◌, ◌≤◌, List, [], ◌∷◌, length, Option, Some, None, Ok}
use Rattle.std.specs.List.{AllByRecursion}
use Rattle.std.proofs.Common.{arith, refl, sym, ◌∙◌, subst}
use Rattle.std.proofs.lemmas.Int.{ints}
use Rattle.cx_base.specs.declared.memory.Region.{Region}
use Rattle.cx_term.specs.Forms.{Linear, value}
use Rattle.cx_term.specs.Conditions.{Holds}
use Rattle.cx_term.specs.declared.term.Ineq.{Ineq}
use Rattle.cx_term.specs.declared.term.Ineq.TheVariants.{Ge, Ne}
use Rattle.cx_cells.specs.Values.{values_of}
use Rattle.cx_state.specs.Run.{Run}
use Rattle.cx_state.specs.Stands.{StandsAtAccess}
use Rattle.cx_state.specs.Valid.{TermBelow, IsValid}
use Rattle.cx_state.specs.declared.state.Env.{Env}
use Rattle.cx_query.specs.Kinds.{instance}
use Rattle.cx_query.specs.Shown.{difference, number}
use Rattle.cx_query.proofs.Comes.{Comes, some-comes, number-comes, difference-comes}
use Rattle.cx_learn.specs.Learning.{learnt_if}
use Rattle.cx_learn.proofs.Below.{IfBelow, some-below, number-below, difference-below}
use Rattle.cx_learn.proofs.Learns.{access-meets, learnt_if-gives, learnt-gives}
use Rattle.cx_learn.proofs.Valids.{learnt_if-forms, valid-base, formed-valid, learnt-valid}
use Rattle.cx_open.specs.Cells.{learnt_ne_if, learnt_with, learnt_all, learnt_equal, learnt_ends}
use Rattle.cx_opens.proofs.Steps.{below-more, Follows, follows-same, follows-then, learns-follows}
use Rattle.cx_opens.proofs.Terms.{then-ok, Terms, terms-more, instance-value, instance-below}

pub if-follows : (run : Run) (v : ℕ → ℤ) (env next : Env) (locals : List (Option ℤ)) (memory : List Region) (o : Option Linear) (z : ℤ) → learnt_if env o ≡ Ok next → Comes v o z → pos 0 ≤ℤ z → IfBelow (length env.ranges) o → StandsAtAccess run v env locals memory → IsValid run.forms env → Follows run v env locals memory v next
if-follows run v env next locals memory o z q c p b S V =
    let m = access-meets run v env locals memory S in
    learns-follows run v env next locals memory (learnt_if-gives v env o z m c p next q) S V (formed-valid run.forms env next (learnt_if-forms (length env.ranges) env o (valid-base run.forms env V) b next q) V)

ne-follows : (run : Run) (v : ℕ → ℤ) (env next : Env) (locals : List (Option ℤ)) (memory : List Region) (o : Option Linear) (z : ℤ) → learnt_ne_if env o ≡ Ok next → Comes v o z → z ≢ pos 0 → IfBelow (length env.ranges) o → StandsAtAccess run v env locals memory → IsValid run.forms env → Follows run v env locals memory v next
ne-follows run v env next locals memory None z q c p b S V = let e : env ≡ next = cc in subst (λ (x : Env). Follows run v env locals memory v x) e (follows-same run v env locals memory S V)
ne-follows run v env next locals memory (Some u) z q c p b S V =
    let m = access-meets run v env locals memory S in
    learns-follows run v env next locals memory (learnt-gives v env (Ne u) m (λ e. p (sym (c u refl) ∙ e)) next q) S V (learnt-valid env (Ne u) next q run.forms (b u refl) V)

with-follows : (run : Run) (v : ℕ → ℤ) (env next : Env) (locals : List (Option ℤ)) (memory : List Region) (ts : List Linear) (zs : List ℤ) (c : Ineq) → learnt_with ts env c ≡ Ok next → Holds (values_of zs) c → Terms v (length env.ranges) ts zs → StandsAtAccess run v env locals memory → IsValid run.forms env → Follows run v env locals memory v next
with-follows run v env next locals memory ts zs (Ge u) q h t S V =
    if-follows run v env next locals memory (instance (Some ts) u) (value (values_of zs) u) q (instance-value v (length env.ranges) ts zs u t) h (instance-below v (length env.ranges) ts zs u t) S V
with-follows run v env next locals memory ts zs (Ne u) q h t S V =
    ne-follows run v env next locals memory (instance (Some ts) u) (value (values_of zs) u) q (instance-value v (length env.ranges) ts zs u t) h (instance-below v (length env.ranges) ts zs u t) S V

-- conditions of a type that are true at the numbers may be learnt of the forms
pub all-follow : (cs : List Ineq) (run : Run) (v : ℕ → ℤ) (env next : Env) (locals : List (Option ℤ)) (memory : List Region) (ts : List Linear) (zs : List ℤ) → learnt_all ts env cs ≡ Ok next → AllByRecursion (Holds (values_of zs)) cs → Terms v (length env.ranges) ts zs → StandsAtAccess run v env locals memory → IsValid run.forms env → Follows run v env locals memory v next
all-follow [] run v env next locals memory ts zs q h t S V = let e : env ≡ next = cc in subst (λ (x : Env). Follows run v env locals memory v x) e (follows-same run v env locals memory S V)
all-follow (c ∷ cs) run v env next locals memory ts zs q h t S V =
    let r = then-ok (learnt_with ts env c) (λ mid. learnt_all ts mid cs) next q in
    let F = with-follows run v env r.x locals memory ts zs c r.first h.0 t S V in
    let G = all-follow cs run v r.x next locals memory ts zs r.then_ h.1 (terms-more v v (length env.ranges) (length r.x.ranges) ts zs F.agrees F.count t) F.stands F.valid in
    follows-then run v env locals memory v v r.x next F G

pub if-more : (n m : ℕ) (o : Option Linear) → n ≤ m → IfBelow n o → IfBelow m o
if-more n m o l h = λ u e. below-more n m u l (h u e)

-- two forms of one number are equal
pub equal-follows : (run : Run) (v : ℕ → ℤ) (env next : Env) (locals : List (Option ℤ)) (memory : List Region) (t u : Option Linear) (z : ℤ) → learnt_equal env t u ≡ Ok next → Comes v t z → Comes v u z → IfBelow (length env.ranges) t → IfBelow (length env.ranges) u → StandsAtAccess run v env locals memory → IsValid run.forms env → Follows run v env locals memory v next
equal-follows run v env next locals memory t u z q a b i j S V =
    let n = length env.ranges in
    let r = then-ok (learnt_if env (difference t u)) (λ mid. learnt_if mid (difference u t)) next q in
    let F = if-follows run v env r.x locals memory (difference t u) (z -ℤ z) r.first (difference-comes v t u z z a b) (omega (arith, ints)) (difference-below n t u i j) S V in
    let m = length r.x.ranges in
    let G = if-follows run v r.x next locals memory (difference u t) (z -ℤ z) r.then_ (difference-comes v u t z z b a) (omega (arith, ints)) (difference-below m u t (if-more n m u F.count j) (if-more n m t F.count i)) F.stands F.valid in
    follows-then run v env locals memory v v r.x next F G

-- a form lies between the ends
pub ends-follow : (run : Run) (v : ℕ → ℤ) (env next : Env) (locals : List (Option ℤ)) (memory : List Region) (lo hi : ℤ) (t : Linear) → learnt_ends env lo hi t ≡ Ok next → lo ≤ℤ value v t → value v t ≤ℤ hi → TermBelow (length env.ranges) t → StandsAtAccess run v env locals memory → IsValid run.forms env → Follows run v env locals memory v next
ends-follow run v env next locals memory lo hi t q a b h S V =
    let n = length env.ranges in
    let z = value v t in
    let r = then-ok (learnt_if env (difference (Some t) (number lo))) (λ mid. learnt_if mid (difference (number hi) (Some t))) next q in
    let F = if-follows run v env r.x locals memory (difference (Some t) (number lo)) (z -ℤ lo) r.first (difference-comes v (Some t) (number lo) z lo (some-comes v t) (number-comes v lo)) (omega (arith, ints, a)) (difference-below n (Some t) (number lo) (some-below n t h) (number-below n lo)) S V in
    let m = length r.x.ranges in
    let k : TermBelow m t = λ i d l. (let y = h i d l in omega (arith, y, F.count)) in
    let G = if-follows run v r.x next locals memory (difference (number hi) (Some t)) (hi -ℤ z) r.then_ (difference-comes v (number hi) (Some t) hi z (number-comes v hi) (some-comes v t)) (omega (arith, ints, b)) (difference-below m (number hi) (Some t) (number-below m hi) (some-below m t k)) F.stands F.valid in
    follows-then run v env locals memory v v r.x next F G
