-- The walk gives a function its types exactly where the rules do.
use Rattle.std.proofs.Common.{◌≡◌, ℕ, List, [], ◌∷◌, Option, None, Some, ap, sym, ◌∙◌}
use Rattle.std.specs.Prelude.{Ok, Err, Result}
use Rattle.cx_base.specs.declared.span.Span.{Span}
use Rattle.cx_ctree.specs.Types.{TypeTree}
use Rattle.cx_ctree.specs.Stmts.{StmtTree, stmt, block, empty, effect, declare, if_alone, if_else, while, do_while, for, switch, break, continue, return, StmtTrees}
use Rattle.cx_ctree.specs.Decls.{ParamTree, FunctionTree, TypedTree, typed_tree}
use Rattle.cx_ctree.specs.declared.decl.Typed.{Typed}
use Rattle.cx_sname.specs.File.{Declared}
use Rattle.cx_scope.specs.Locals.{Locals, no_locals, declared}
use Rattle.cx_snode.specs.declared.fault.SemaFault.{SemaFault}
use Rattle.cx_snode.specs.declared.fault.SemaFault.TheVariants as f
use Rattle.cx_snode.specs.Judging.{Judged, breaks, ◌>>=◌, Gives}
use Rattle.cx_snode.proofs.Judged.{parts_of, ok_same, gives_then, judged_as}
use Rattle.cx_sstmt.specs.Stmts.{Around, After, is_variable, gives, typed_stmts}
use Rattle.cx_sema.specs.Functions.{typed_param, typed_params, typed_body, around_body, typed_function}
use Rattle.cx_sema.specs.StmtRules.{after, IsParamOf, AreParamsOf, IsBodyOf, IsFunctionOf, Resolves}
use Rattle.cx_sema.proofs.PartBoth.{test_then}
use Rattle.cx_sema.proofs.StmtBoth.{stmt_has, stmt_is, stmts_have, stmts_are}
use Rattle.cx_sema.proofs.Holding.{tested}

-- ---- parameters

param_has : (s : Span) (ls : Locals) (t : TypeTree) (n : Option ℕ) (m : Locals) → typed_param s ls t n ≡ Ok m → IsParamOf ls t n m
param_has s ls t None m h = absurd cc
param_has s ls t (Some n) m h =
    let p = tested (is_variable ls n t) (Ok (declared n t ls)) s 12 m h in
    (p.0, sym (ok_same (declared n t ls) m p.1))

param_is : (s : Span) (ls : Locals) (t : TypeTree) (n : Option ℕ) (m : Locals) → IsParamOf ls t n m → typed_param s ls t n ≡ Ok m
param_is s ls t None m h = absurd h
param_is s ls t (Some n) m h = test_then (is_variable ls n t) (Ok (declared n t ls)) s 12 h.0 ∙ ap judged_as (sym h.1)

params_have : (s : Span) (ls : Locals) (ps : List ParamTree) (m : Locals) → typed_params s ls ps ≡ Ok m → AreParamsOf ls ps m
params_have s ls [] m h = sym (ok_same ls m h)
params_have s ls (p ∷ ps) m h =
    let a = parts_of (typed_param s ls p.ctype p.name) (λ ms. typed_params s ms ps) m h in
    (a.0, param_has s ls p.ctype p.name a.0 a.1, params_have s a.0 ps m a.2)

params_are : (s : Span) (ls : Locals) (ps : List ParamTree) (m : Locals) → AreParamsOf ls ps m → typed_params s ls ps ≡ Ok m
params_are s ls [] m h = ap judged_as (sym h)
params_are s ls (p ∷ ps) m h =
    gives_then (typed_param s ls p.ctype p.name) h.0 (λ ms. typed_params s ms ps) (param_is s ls p.ctype p.name h.0 h.1) ∙ params_are s h.0 ps m h.2

-- ---- bodies

abbrev block_of : Span → After StmtTrees → Judged (After StmtTree)
block_of s b = gives (stmt s (block b.tree)) b.locals

body_has : (env : Declared) (around : Around) (ls : Locals) (b : StmtTree) (a : After StmtTree) → typed_body env around ls b ≡ Ok a → IsBodyOf env around ls b a
body_has env around ls (stmt s (block ss)) a h =
    let x = parts_of (typed_stmts env around ls ss) (block_of s) a h in
    (x.0, stmts_have env around ls ss x.0 x.1, sym (ok_same (after (stmt s (block x.0.tree)) x.0.locals) a x.2))
body_has env around ls (stmt s empty) a h = stmt_has env around ls (stmt s empty) a h
body_has env around ls (stmt s (effect e)) a h = stmt_has env around ls (stmt s (effect e)) a h
body_has env around ls (stmt s (declare n t r)) a h = stmt_has env around ls (stmt s (declare n t r)) a h
body_has env around ls (stmt s (if_alone c b)) a h = stmt_has env around ls (stmt s (if_alone c b)) a h
body_has env around ls (stmt s (if_else c b e)) a h = stmt_has env around ls (stmt s (if_else c b e)) a h
body_has env around ls (stmt s (while c b)) a h = stmt_has env around ls (stmt s (while c b)) a h
body_has env around ls (stmt s (do_while b c)) a h = stmt_has env around ls (stmt s (do_while b c)) a h
body_has env around ls (stmt s (for i c es b)) a h = stmt_has env around ls (stmt s (for i c es b)) a h
body_has env around ls (stmt s (switch v gs)) a h = stmt_has env around ls (stmt s (switch v gs)) a h
body_has env around ls (stmt s break) a h = stmt_has env around ls (stmt s break) a h
body_has env around ls (stmt s continue) a h = stmt_has env around ls (stmt s continue) a h
body_has env around ls (stmt s (return r)) a h = stmt_has env around ls (stmt s (return r)) a h

body_is : (env : Declared) (around : Around) (ls : Locals) (b : StmtTree) (a : After StmtTree) → IsBodyOf env around ls b a → typed_body env around ls b ≡ Ok a
body_is env around ls (stmt s (block ss)) a h = gives_then (typed_stmts env around ls ss) h.0 (block_of s) (stmts_are env around ls ss h.0 h.1) ∙ ap judged_as (sym h.2)
body_is env around ls (stmt s empty) a h = stmt_is env around ls (stmt s empty) a h
body_is env around ls (stmt s (effect e)) a h = stmt_is env around ls (stmt s (effect e)) a h
body_is env around ls (stmt s (declare n t r)) a h = stmt_is env around ls (stmt s (declare n t r)) a h
body_is env around ls (stmt s (if_alone c b)) a h = stmt_is env around ls (stmt s (if_alone c b)) a h
body_is env around ls (stmt s (if_else c b e)) a h = stmt_is env around ls (stmt s (if_else c b e)) a h
body_is env around ls (stmt s (while c b)) a h = stmt_is env around ls (stmt s (while c b)) a h
body_is env around ls (stmt s (do_while b c)) a h = stmt_is env around ls (stmt s (do_while b c)) a h
body_is env around ls (stmt s (for i c es b)) a h = stmt_is env around ls (stmt s (for i c es b)) a h
body_is env around ls (stmt s (switch v gs)) a h = stmt_is env around ls (stmt s (switch v gs)) a h
body_is env around ls (stmt s break) a h = stmt_is env around ls (stmt s break) a h
body_is env around ls (stmt s continue) a h = stmt_is env around ls (stmt s continue) a h
body_is env around ls (stmt s (return r)) a h = stmt_is env around ls (stmt s (return r)) a h

-- ---- functions

abbrev whole_of : FunctionTree → After StmtTree → TypedTree
whole_of g b = record { sig = g.sig; name_span = g.name_span; locals = b.locals.types; body = b.tree }

abbrev body_then : Declared → FunctionTree → Locals → Judged TypedTree
body_then env g ls = typed_body env (around_body g.sig) ls g.body >>= (λ b. Ok (whole_of g b))

function_has : (env : Declared) (g : FunctionTree) (t : TypedTree) → typed_function env g ≡ Ok t → IsFunctionOf env g t
function_has env g t h =
    let ls = parts_of (typed_params g.name_span no_locals g.sig.params) (body_then env g) t h in
    let b = parts_of (typed_body env (around_body g.sig) ls.0 g.body) (λ b. Ok (whole_of g b)) t ls.2 in
    (ls.0, params_have g.name_span no_locals g.sig.params ls.0 ls.1, b.0, body_has env (around_body g.sig) ls.0 g.body b.0 b.1, sym (ok_same (whole_of g b.0) t b.2))

function_is : (env : Declared) (g : FunctionTree) (t : TypedTree) → IsFunctionOf env g t → typed_function env g ≡ Ok t
function_is env g t h =
    gives_then (typed_params g.name_span no_locals g.sig.params) h.0 (body_then env g) (params_are g.name_span no_locals g.sig.params h.0 h.1)
    ∙ gives_then (typed_body env (around_body g.sig) h.0 g.body) h.2 (λ b. Ok (whole_of g b)) (body_is env (around_body g.sig) h.0 g.body h.2 h.3)
    ∙ ap judged_as (sym h.4)

never_both : (s : Span) (n : ℕ) (t : TypedTree) → breaks s n ≡ judged_as t → ⊥
never_both s n t e = cc

-- so does each answer of the walk
pub answer_resolves : (r : Result Typed SemaFault) (env : Declared) (g : FunctionTree) → Gives typed_tree r (typed_function env g) → Resolves r env g
answer_resolves (Ok t) env g h = (function_has env g (typed_tree t) h, λ u k. ok_same u (typed_tree t) (sym (function_is env g u k) ∙ h))
answer_resolves (Err f.NoMemory) env g h = tt
answer_resolves (Err (f.NotWellTyped s n)) env g h = λ u k. never_both s n u (sym h ∙ function_is env g u k)
