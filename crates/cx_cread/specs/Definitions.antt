-- Reading a function with its body from left to right. `turns` bounds the calls of the readers of lists.
use Rattle.std.specs.Prelude.{ℕ, not, List, [], Option, Some, None}
use Rattle.std.specs.List.{list_any}
use Rattle.cx_base.specs.declared.span.Span.{Span}
use Rattle.cx_ctree.specs.declared.decl.Function.{Function}
use Rattle.cx_ctree.specs.Stmts.{StmtTree}
use Rattle.cx_ctree.specs.Decls.{SignatureTree, FunctionTree, DeclTree, types, object, proto, function, function_tree}
use Rattle.cx_cword.specs.declared.lexeme.Lexeme.{Lexeme}
use Rattle.cx_cword.specs.Reading.{◌>>=◌, at_lexeme}
use Rattle.cx_cname.specs.Known.{Known, function_type}
use Rattle.cx_cname.specs.Meanings.{may_be}
use Rattle.cx_cdecl.specs.Reading.{After, Specs, Declared, if_true, specs_at, declarator_at}
use Rattle.cx_cstmt.specs.Reading.{Got, block_at}
use Rattle.cx_cread.specs.Reads.{is_body_of}

abbrev pub function_after : Function → Known → After FunctionTree
function_after f env = record { tree = function_tree f; known = env; rest = [] }

-- the function with this body, after which nothing stands
abbrev pub with_body : Span → SignatureTree → Got StmtTree → Option (After FunctionTree)
with_body name_span f b = at_lexeme b.rest (Some (record { tree = record { sig = f; body = b.tree; name_span = name_span }; known = b.known; rest = [] })) (λ _ _. None)

-- goes on after the declarator of a function
unfoldable pub body_at : (turns : ℕ) → (earlier : List DeclTree) → Known → Span → SignatureTree → List Lexeme → Option (After FunctionTree)
body_at turns earlier env name_span f os =
    if_true (may_be env earlier f.name (function_type f)) (if_true (not (list_any (is_body_of f.name) earlier)) (block_at env turns 400 os >>= with_body name_span f))

-- goes on after a declarator, which is a function's
abbrev pub function_by : (turns : ℕ) → (earlier : List DeclTree) → Known → Span → List Lexeme → DeclTree → Option (After FunctionTree)
function_by turns earlier env name_span os (proto f) = body_at turns earlier env name_span f os
function_by turns earlier env name_span os types = None
function_by turns earlier env name_span os (object n t) = None
function_by turns earlier env name_span os (function f) = None

abbrev pub declarator_after : (turns : ℕ) → (earlier : List DeclTree) → After Declared → Option (After FunctionTree)
declarator_after turns earlier x = function_by turns earlier x.known x.tree.lexeme.span x.rest x.tree.decl

-- goes on after the words of a type, none of which is `typedef`
abbrev pub specs_after : (turns : ℕ) → (earlier : List DeclTree) → After Specs → Option (After FunctionTree)
specs_after turns earlier s = if_true (not s.tree.said.typedef_) (declarator_at turns s.known s.tree.ctype s.rest >>= declarator_after turns earlier)

-- a function with its body that is all of the lexemes
unfoldable pub definition_at : (turns : ℕ) → (earlier : List DeclTree) → Known → List Lexeme → Option (After FunctionTree)
definition_at turns earlier env os = specs_at turns earlier turns env os >>= specs_after turns earlier
