-- The typed tree of a function (C11 6.9.1), or the first rule on types that it breaks.
use Rattle.std.specs.Prelude.{ℕ, false, List, [], ◌∷◌, Option, Some, None, Ok, if◌then◌else◌}
use Rattle.cx_base.specs.declared.span.Span.{Span}
use Rattle.cx_ctree.specs.Types.{TypeTree}
use Rattle.cx_ctree.specs.Stmts.{StmtTree, stmt, block}
use Rattle.cx_ctree.specs.Decls.{ParamTree, SignatureTree, FunctionTree, TypedTree}
use Rattle.cx_sname.specs.File.{Declared}
use Rattle.cx_scope.specs.Locals.{Locals, no_locals, declared}
use Rattle.cx_snode.specs.Judging.{Judged, breaks, ◌>>=◌}
use Rattle.cx_sstmt.specs.Stmts.{Around, After, is_variable, gives, typed_stmt, typed_stmts}

-- a parameter, if it has a name
abbrev pub typed_param : Span → Locals → TypeTree → Option ℕ → Judged Locals
typed_param s ls t None = breaks s 12
typed_param s ls t (Some n) = if is_variable ls n t then Ok (declared n t ls) else breaks s 12

-- the parameters in order; what is wrong with one has the place of the function's name
abbrev pub typed_params : Span → Locals → List ParamTree → Judged Locals
typed_params s ls [] = Ok ls
typed_params s ls (p ∷ ps) = typed_param s ls p.ctype p.name >>= (λ ms. typed_params s ms ps)

-- the body; the parameters belong to its block (C11 6.2.1)
abbrev pub typed_body : Declared → Around → Locals → StmtTree → Judged (After StmtTree)
typed_body env around ls (stmt s (block ss)) = typed_stmts env around ls ss >>= (λ a. gives (stmt s (block a.tree)) a.locals)
typed_body env around ls a = typed_stmt env around ls a

abbrev pub around_body : SignatureTree → Around
around_body f = record { result = f.result; looped = false; breakable = false }

abbrev pub typed_function : Declared → FunctionTree → Judged TypedTree
typed_function env f =
    typed_params f.name_span no_locals f.sig.params
    >>= (λ ls. typed_body env (around_body f.sig) ls f.body
    >>= (λ b. Ok (record { sig = f.sig; name_span = f.name_span; locals = b.locals.types; body = b.tree })))
