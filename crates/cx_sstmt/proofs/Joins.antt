-- What is made of a part that has been judged.
use Rattle.std.proofs.Common.{◌≡◌, Option, refl, ap, sym, ◌∙◌, subst}
use Rattle.std.specs.Prelude.{List, Result, Ok, Err}
use Rattle.cx_base.specs.declared.span.Span.{Span}
use Rattle.cx_ctree.specs.Exprs.{ExprTree, EffectTree}
use Rattle.cx_ctree.specs.Stmts.{StmtTree, stmt, if_else, for, StmtTrees}
use Rattle.cx_sname.specs.File.{Declared}
use Rattle.cx_scope.specs.Locals.{Locals, opened, closed}
use Rattle.cx_snode.specs.declared.fault.SemaFault.{SemaFault}
use Rattle.cx_snode.specs.declared.fault.SemaFault.TheVariants as f
use Rattle.cx_snode.specs.Judging.{Judged, ◌>>=◌, Tells, Gives}
use Rattle.cx_snode.proofs.Judged.{tells_then, gives_then, ok_same}
use Rattle.cx_seffect.specs.Effects.{typed_condition, typed_effects, typed_optional}
use Rattle.cx_sstmt.specs.Stmts.{Around, After, gives, leaving, ForHead, for_head, in_loop, typed_stmt, typed_stmt_kind, typed_stmts}
use Rattle.cx_sstmt.specs.Around.{Leaves}
use Rattle.cx_sstmt.specs.Joined.{Makes}

-- no memory tells of nothing
no_memory : {A : Type 0} (e : SemaFault) (j : Judged A) → e ≡ f.NoMemory → Tells e j
no_memory e j h = subst (λ (e : SemaFault). Tells e j) (sym h) tt

-- what is made of a part is left where the part is
pub makes_leaves : {A B C : Type 0} {D : Type 0} (view : A → C) (look : B → D) (make : C → D) (r : Result A SemaFault) (q : Result B SemaFault) (ls : Locals) (j : Judged (After C)) → Makes view look make r q → Leaves view r ls j
    → Leaves look q ls (j >>= (λ b. gives (make b.tree) b.locals))
makes_leaves view look make (Ok x) (Ok y) ls j h k = ap (λ r. r >>= (λ b. gives (make b.tree) b.locals)) k ∙ ap (λ t. gives t ls) (sym h)
makes_leaves view look make (Ok x) (Err e) ls j h k = no_memory e (j >>= (λ b. gives (make b.tree) b.locals)) h
makes_leaves view look make (Err e) (Ok y) ls j h k = absurd h
makes_leaves view look make (Err e) (Err d) ls j h k = subst (λ (e : SemaFault). Tells e (j >>= (λ b. gives (make b.tree) b.locals))) (sym h) (tells_then e j (λ b. gives (make b.tree) b.locals) k)

-- the same of a part that declares nothing
pub makes_gives : {A B C : Type 0} {D : Type 0} (view : A → C) (look : B → D) (make : C → D) (r : Result A SemaFault) (q : Result B SemaFault) (ls : Locals) (j : Judged C) → Makes view look make r q → Gives view r j
    → Leaves look q ls (j >>= (λ b. gives (make b) ls))
makes_gives view look make (Ok x) (Ok y) ls j h k = ap (λ r. r >>= (λ b. gives (make b) ls)) k ∙ ap (λ t. gives t ls) (sym h)
makes_gives view look make (Ok x) (Err e) ls j h k = no_memory e (j >>= (λ b. gives (make b) ls)) h
makes_gives view look make (Err e) (Ok y) ls j h k = absurd h
makes_gives view look make (Err e) (Err d) ls j h k = subst (λ (e : SemaFault). Tells e (j >>= (λ b. gives (make b) ls))) (sym h) (tells_then e j (λ b. gives (make b) ls) k)

-- the end of a block
pub leaves_closed : {A C : Type 0} (view : A → C) (r : Result A SemaFault) (ls now : Locals) (j : Judged (After C)) → now ≡ closed ls → Leaves view r ls j → Leaves view r now (leaving j)
leaves_closed view (Ok x) ls now j e k = ap leaving k ∙ ap (λ n. gives (view x) n) (sym e)
leaves_closed view (Err e) ls now j h k = tells_then e j (λ a. gives a.tree (closed a.locals)) k

-- a part is left before the whole is made of it, or after
pub leaving_later : {C D : Type 0} (make : C → D) (j : Judged (After C)) → leaving (j >>= (λ b. gives (make b.tree) b.locals)) ≡ (leaving j >>= (λ b. gives (make b.tree) b.locals))
leaving_later make (Ok a) = refl
leaving_later make (Err e) = refl

-- what follows a part that has been judged
pub follows : {A C D : Type 0} (view : A → C) (r : Result A SemaFault) (ls : Locals) (c : Judged D) (d : D) (go : D → Judged (After C)) → c ≡ Ok d → Leaves view r ls (go d) → Leaves view r ls (c >>= go)
follows view r ls c d go h k = subst (Leaves view r ls) (sym (gives_then c d go h)) k

-- ---- the head of a for

abbrev head_in : StmtTrees → Judged (Option ExprTree) → Judged (List EffectTree) → Judged ForHead
head_in init o p = o >>= (λ d. p >>= (λ es. Ok (record { init = init; c = d; steps = es })))

pub head_then : {D : Type 0} (init : StmtTrees) (o : Judged (Option ExprTree)) (p : Judged (List EffectTree)) (h : ForHead) (go : Option ExprTree → List EffectTree → Judged D) → head_in init o p ≡ Ok h → (o >>= (λ d. p >>= go d)) ≡ go h.c h.steps
head_then init (Ok d) (Ok es) h go e = let same = ok_same (record { init = init; c = d; steps = es }) h e in ap (λ (h : ForHead). go h.c h.steps) same
head_then init (Ok d) (Err b) h go e = absurd cc
head_then init (Err b) p h go e = absurd cc

pub head_init : (init : StmtTrees) (o : Judged (Option ExprTree)) (p : Judged (List EffectTree)) (h : ForHead) → head_in init o p ≡ Ok h → h.init ≡ init
head_init init (Ok d) (Ok es) h e = ap (λ (h : ForHead). h.init) (sym (ok_same (record { init = init; c = d; steps = es }) h e))
head_init init (Ok d) (Err b) h e = absurd cc
head_init init (Err b) p h e = absurd cc

pub head_tells : {D : Type 0} (e : SemaFault) (init : StmtTrees) (o : Judged (Option ExprTree)) (p : Judged (List EffectTree)) (go : Option ExprTree → List EffectTree → Judged D) → Tells e (head_in init o p) → Tells e (o >>= (λ d. p >>= go d))
head_tells f.NoMemory init o p go h = tt
head_tells (f.NotWellTyped s n) init (Ok d) (Ok es) go h = absurd cc
head_tells (f.NotWellTyped s n) init (Ok d) (Err b) go h = let same : b ≡ record { span = s; rule = n } = cc in ap Err same
head_tells (f.NotWellTyped s n) init (Err b) p go h = let same : b ≡ record { span = s; rule = n } = cc in ap Err same

-- ---- statements with parts

module _ (env : Declared) (around : Around) (ls : Locals) (s : Span) where
  pub else_leaves : {A B : Type 0} (view : A → StmtTree) (look : B → StmtTree) (r : Result A SemaFault) (q : Result B SemaFault) (mid now : Locals) (c d : ExprTree) (a b x : StmtTree)
      → typed_condition env ls c ≡ Ok d → leaving (typed_stmt env around (opened ls) a) ≡ gives x mid → Makes view look (λ y. stmt s (if_else d x y)) r q → Leaves view r now (leaving (typed_stmt env around (opened mid) b))
      → Leaves look q now (typed_stmt_kind env around ls s (if_else c a b))
  else_leaves view look r q mid now c d a b x h k m l =
      follows look q now (typed_condition env ls c) d (λ d. leaving (typed_stmt env around (opened ls) a) >>= (λ x. leaving (typed_stmt env around (opened x.locals) b) >>= (λ y. gives (stmt s (if_else d x.tree y.tree)) y.locals))) h
      (follows look q now (leaving (typed_stmt env around (opened ls) a)) (record { tree = x; locals = mid }) (λ x. leaving (typed_stmt env around (opened x.locals) b) >>= (λ y. gives (stmt s (if_else d x.tree y.tree)) y.locals)) k
      (makes_leaves view look (λ y. stmt s (if_else d x y)) r q now (leaving (typed_stmt env around (opened mid) b)) m l))

  -- what follows the first part of a for
  abbrev for_rest : Option ExprTree → List EffectTree → StmtTree → After StmtTrees → Judged (After StmtTree)
  for_rest c steps a i = typed_optional env i.locals c >>= (λ d. typed_effects env i.locals steps >>= (λ es. leaving (typed_stmt env (in_loop around) (opened i.locals) a) >>= (λ b. gives (stmt s (for i.tree d es b.tree)) b.locals)))

  pub for_leaves : {A B : Type 0} (view : A → StmtTree) (look : B → StmtTree) (r : Result A SemaFault) (q : Result B SemaFault) (mid end now : Locals) (init x : StmtTrees) (c : Option ExprTree) (steps : List EffectTree) (a : StmtTree) (h : ForHead)
      → now ≡ closed end → typed_stmts env around (opened ls) init ≡ gives x mid → for_head env mid x c steps ≡ Ok h → Makes view look (λ y. stmt s (for h.init h.c h.steps y)) r q → Leaves view r end (leaving (typed_stmt env (in_loop around) (opened mid) a))
      → Leaves look q now (typed_stmt_kind env around ls s (for init c steps a))
  for_leaves view look r q mid end now init x c steps a h e k p m l =
      let same = head_init x (typed_optional env mid c) (typed_effects env mid steps) h p in
      let made = subst (λ (i : StmtTrees). Makes view look (λ y. stmt s (for i h.c h.steps y)) r q) same m in
      leaves_closed look q end now (typed_stmts env around (opened ls) init >>= for_rest c steps a) e
      (follows look q end (typed_stmts env around (opened ls) init) (record { tree = x; locals = mid }) (for_rest c steps a) k
      (subst (Leaves look q end) (sym (head_then x (typed_optional env mid c) (typed_effects env mid steps) h (λ d es. leaving (typed_stmt env (in_loop around) (opened mid) a) >>= (λ b. gives (stmt s (for x d es b.tree)) b.locals)) p))
      (makes_leaves view look (λ y. stmt s (for x h.c h.steps y)) r q end (leaving (typed_stmt env (in_loop around) (opened mid) a)) made l)))

  pub for_breaks : (e : SemaFault) (mid : Locals) (init x : StmtTrees) (c : Option ExprTree) (steps : List EffectTree) (a : StmtTree)
      → typed_stmts env around (opened ls) init ≡ gives x mid → Tells e (for_head env mid x c steps) → Tells e (typed_stmt_kind env around ls s (for init c steps a))
  for_breaks e mid init x c steps a k p =
      tells_then e (typed_stmts env around (opened ls) init >>= for_rest c steps a) (λ a. gives a.tree (closed a.locals))
      (subst (Tells e) (sym (gives_then (typed_stmts env around (opened ls) init) (record { tree = x; locals = mid }) (for_rest c steps a) k))
      (head_tells e x (typed_optional env mid c) (typed_effects env mid steps) (λ d es. leaving (typed_stmt env (in_loop around) (opened mid) a) >>= (λ b. gives (stmt s (for x d es b.tree)) b.locals)) p))
