-- A typed function keeps the rules on types.
use Rattle.std.proofs.Common.{◌≡◌, ℕ, true, List, [], ◌∷◌, ◌++◌, map, Option, None, Some, refl, ap, sym, ◌∙◌, subst, append_assoc, append-nil}
use Rattle.std.specs.Prelude.{Ok, Result, Err, IfOk}
use Rattle.std.specs.List.{list_all}
use Rattle.cx_base.specs.declared.span.Span.{Span}
use Rattle.cx_base.proofs.General.{both_true, true_both}
use Rattle.cx_ctree.specs.Types.{TypeTree}
use Rattle.cx_ctree.specs.Stmts.{StmtTree, stmt, block, empty, effect, declare, if_alone, if_else, while, do_while, for, switch, break, continue, return}
use Rattle.cx_ctree.specs.Decls.{ParamTree, FunctionTree, TypedTree}
use Rattle.cx_ctype.specs.Operations.{is_scalar}
use Rattle.cx_sname.specs.File.{Declared}
use Rattle.cx_scope.specs.Locals.{Locals, no_locals, declared, is_new}
use Rattle.cx_snode.specs.declared.fault.SemaFault.{SemaFault}
use Rattle.cx_snode.specs.Judging.{◌>>=◌, Gives}
use Rattle.cx_snode.proofs.Judged.{parts_of, ok_same}
use Rattle.cx_sstmt.specs.Stmts.{Around, After, is_variable, gives, typed_stmts}
use Rattle.cx_sema.specs.Functions.{typed_param, typed_params, typed_body, around_body, typed_function}
use Rattle.cx_sema.specs.Kept.{IsTypedStmt, IsTypedFunction}
use Rattle.cx_sema.proofs.Holding.{tested, all_both, Keeps, gives_keeps, stmt_holds, stmts_hold}

param_is : (s : Span) (ls : Locals) (t : TypeTree) (n : Option ℕ) (m : Locals) → typed_param s ls t n ≡ Ok m → (is_scalar t ≡ true) × (m.types ≡ ls.types ++ t ∷ [])
param_is s ls t None m h = absurd cc
param_is s ls t (Some n) m h =
    let p = tested (is_variable ls n t) (Ok (declared n t ls)) s 12 m h in
    ((both_true (is_scalar t) (is_new ls n) p.0).0, ap (λ (l : Locals). l.types) (sym (ok_same (declared n t ls) m p.1)))

params_are : (s : Span) (ls : Locals) (ps : List ParamTree) (m : Locals) → typed_params s ls ps ≡ Ok m
    → (m.types ≡ ls.types ++ map (λ p. p.ctype) ps) × (list_all is_scalar (map (λ p. p.ctype) ps) ≡ true)
params_are s ls [] m h = (ap (λ (l : Locals). l.types) (sym (ok_same ls m h)) ∙ sym (append-nil ls.types), refl)
params_are s ls (p ∷ ps) m h =
    let a = parts_of (typed_param s ls p.ctype p.name) (λ ms. typed_params s ms ps) m h in
    let q = param_is s ls p.ctype p.name a.0 a.1 in
    let r = params_are s a.0 ps m a.2 in
    (r.0 ∙ ap (λ ts. ts ++ map (λ p. p.ctype) ps) q.1 ∙ append_assoc ls.types (p.ctype ∷ []) (map (λ p. p.ctype) ps), true_both (is_scalar p.ctype) _ q.0 r.1)

body_keeps : (env : Declared) (around : Around) (ls : Locals) (b : StmtTree) (a : After StmtTree) → typed_body env around ls b ≡ Ok a → Keeps (IsTypedStmt env around) ls a
body_keeps env around ls (stmt s (block ss)) a h =
    let x = parts_of (typed_stmts env around ls ss) (λ a. gives (stmt s (block a.tree)) a.locals) a h in
    let k = stmts_hold env around ls ss x.0 x.1 in
    gives_keeps (IsTypedStmt env around) ls x.0.locals (stmt s (block x.0.tree)) a x.2 k.0 k.1
body_keeps env around ls (stmt s empty) a h = stmt_holds env around ls (stmt s empty) a h
body_keeps env around ls (stmt s (effect e)) a h = stmt_holds env around ls (stmt s (effect e)) a h
body_keeps env around ls (stmt s (declare n t r)) a h = stmt_holds env around ls (stmt s (declare n t r)) a h
body_keeps env around ls (stmt s (if_alone c b)) a h = stmt_holds env around ls (stmt s (if_alone c b)) a h
body_keeps env around ls (stmt s (if_else c b e)) a h = stmt_holds env around ls (stmt s (if_else c b e)) a h
body_keeps env around ls (stmt s (while c b)) a h = stmt_holds env around ls (stmt s (while c b)) a h
body_keeps env around ls (stmt s (do_while b c)) a h = stmt_holds env around ls (stmt s (do_while b c)) a h
body_keeps env around ls (stmt s (for i c es b)) a h = stmt_holds env around ls (stmt s (for i c es b)) a h
body_keeps env around ls (stmt s (switch v gs)) a h = stmt_holds env around ls (stmt s (switch v gs)) a h
body_keeps env around ls (stmt s break) a h = stmt_holds env around ls (stmt s break) a h
body_keeps env around ls (stmt s continue) a h = stmt_holds env around ls (stmt s continue) a h
body_keeps env around ls (stmt s (return r)) a h = stmt_holds env around ls (stmt s (return r)) a h

function_keeps : (env : Declared) (f : FunctionTree) (t : TypedTree) → typed_function env f ≡ Ok t → IsTypedFunction env t
function_keeps env f t h =
    let ls = parts_of (typed_params f.name_span no_locals f.sig.params)
    (λ ls. typed_body env (around_body f.sig) ls f.body >>= (λ b. Ok (record { sig = f.sig; name_span = f.name_span; locals = b.locals.types; body = b.tree }))) t h in
    let b = parts_of (typed_body env (around_body f.sig) ls.0 f.body) (λ b. Ok (record { sig = f.sig; name_span = f.name_span; locals = b.locals.types; body = b.tree })) t ls.2 in
    let p = params_are f.name_span no_locals f.sig.params ls.0 ls.1 in
    let k = body_keeps env (around_body f.sig) ls.0 f.body b.0 b.1 in
    let whole : TypedTree = record { sig = f.sig; name_span = f.name_span; locals = b.0.locals.types; body = b.0.tree } in
    let params : b.0.locals.types ≡ map (λ p. p.ctype) f.sig.params ++ k.0.0 = k.0.1 ∙ ap (λ ts. ts ++ k.0.0) p.0 in
    subst (IsTypedFunction env) (ok_same whole t b.2)
    (record { others = k.0.0; params = params; scalar = subst (λ ts. list_all is_scalar ts ≡ true) (sym params) (all_both (map (λ p. p.ctype) f.sig.params) k.0.0 p.1 k.0.2); body = k.1 })

-- so does each answer of the walk
pub answer_keeps : {A : Type 0} (view : A → TypedTree) (r : Result A SemaFault) (env : Declared) (f : FunctionTree) → Gives view r (typed_function env f) → IfOk r (λ t. IsTypedFunction env (view t))
answer_keeps view (Ok t) env f h = function_keeps env f (view t) h
answer_keeps view (Err e) env f h = tt
