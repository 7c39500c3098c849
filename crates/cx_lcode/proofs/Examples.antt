-- The lowering of two functions, whose code another program gave.
use Rattle.std.proofs.Common.{◌≡◌, refl, ℕ, ◌+◌, arith, List, [], ◌∷◌, Some, None}
use Rattle.std.specs.Prelude.{pos}
use Rattle.cx_base.specs.Number.{half_of}
use Rattle.cx_base.specs.declared.span.Span.{Span}
use Rattle.cx_base.specs.declared.token.Token.{Token}
use Rattle.cx_base.specs.declared.token.TokenKind.TheVariants.{Name}
use Rattle.cx_sname.specs.File.{Declared}
use Rattle.cx_cmean.specs.Statements.{closing_brace}
use Rattle.cx_ctree.specs.Conversions.{signed_int, unsigned_long}
use Rattle.cx_ctree.specs.Decls.{ParamTree, TypedTree}
use Rattle.cx_ctree.specs.Exprs.{ExprTree, node, num, local, binary, index, value, set, update}
use Rattle.cx_ctree.specs.Stmts.{StmtTree, stmt, block, effect, declare, for, switch, break, return, StmtTrees, no_stmt, also_stmt, GroupTrees, no_group, also_group}
use Rattle.cx_ctree.specs.Types.{TypeTree, int, pointer}
use Rattle.cx_ctree.specs.declared.expr.Binary.TheVariants as b
use Rattle.cx_goto.specs.Trees.{InstrTree, const, copy, bin, conv, load, LineTree, BlockTree, CodeTree}
use Rattle.cx_goto.specs.declared.code.End.{End}
use Rattle.cx_goto.specs.declared.code.End.TheVariants.{Jump, Branch, Return, Missing}
use Rattle.cx_goto.specs.declared.code.Op.TheVariants.{Add, Mul}
use Rattle.cx_goto.specs.declared.code.Rel.TheVariants.{Eq, Lt}
use Rattle.cx_lcode.specs.Lowered.{lowered}

-- so many bytes from the first on
abbrev at : (first n : ℕ) → Span
at f n = record { first = f; past = f + n; ordered = omega arith }

abbrev token : (first n : ℕ) → Token
token f n = record { span = at f n; kind = Name }

abbrev does : Span → InstrTree → LineTree
does s i = record { instr = i; span = s }

abbrev blk : ℕ → List LineTree → End → Span → BlockTree
blk keep lines end s = record { keep = keep; lines = lines; end = end; span = s }

abbrev number : (first n v : ℕ) → ExprTree
number f n v = node (at f n) (int signed_int) (num (pos v) signed_int)

abbrev variable : (first x : ℕ) → ExprTree
variable f x = node (at f 1) (int signed_int) (local x)

abbrev stmts : List StmtTree → StmtTrees
stmts [] = no_stmt
stmts (s ∷ ss) = also_stmt s (stmts ss)

abbrev declared : Declared
declared = record { known = record { tags = []; typedefs = []; consts = []; enums = [] }; decls = [] }

abbrev parameter : TypeTree → ParamTree
parameter t = record { name = None; ctype = t }

abbrev function : List ParamTree → List TypeTree → List StmtTree → Span → TypedTree
function ps ls body s = record { sig = record { name = 0; result = int signed_int; params = ps }; name_span = at 4 1; locals = ls; body = stmt s (block (stmts body)) }

abbrev code : (params named locals : ℕ) → List BlockTree → CodeTree
code ps n m blocks = record { name_span = at 4 1; params = ps; named = n; locals = m; result = Some signed_int; blocks = blocks }

-- int f(int x) { int r = 0; switch (x) { case 1: r = 1; break; case 2: r = 2; case 3: r = r + 3; } return r; }
abbrev groups : GroupTrees
groups =
    also_group (Some (number 50 1 1) ∷ []) (stmts (stmt (at 53 6) (effect (set (variable 53 1) (value (number 57 1 1)) (at 53 5))) ∷ stmt (at 60 6) break ∷ []))
    (also_group (Some (number 74 1 2) ∷ []) (stmts (stmt (at 77 6) (effect (set (variable 77 1) (value (number 81 1 2)) (at 77 5))) ∷ []))
    (also_group (Some (number 91 1 3) ∷ [])
    (stmts (stmt (at 94 10) (effect (set (variable 94 1) (value (node (at 98 5) (int signed_int) (binary b.Add (variable 98 1) (number 102 1 3)))) (at 94 9))) ∷ [])) no_group))

abbrev switching : TypedTree
switching = function (parameter (int signed_int) ∷ []) (int signed_int ∷ int signed_int ∷ [])
    (stmt (at 21 1) (declare 1 (int signed_int) (Some (value (number 25 1 0)))) ∷ stmt (at 30 79) (switch (variable 38 0) groups) ∷ stmt (at 111 9) (return (Some (value (variable 118 1)))) ∷ [])
    (at 13 109)

switched : lowered declared (token 30 6 ∷ token 53 1 ∷ token 60 5 ∷ token 77 1 ∷ token 94 1 ∷ token 111 6 ∷ []) switching
    ≡ code 1 2 4
    (blk 2
    (does (at 25 1) (const 2 (pos 0)) ∷ does (at 21 1) (copy 1 2) ∷ does (at 38 1) (copy 2 0) ∷ does (at 50 1) (const 3 (pos 1)) ∷ [])
    (Branch Eq 2 3 4 1) (at 38 1)
    ∷ blk 3 (does (at 74 1) (const 3 (pos 2)) ∷ []) (Branch Eq 2 3 6 2) (at 38 1)
    ∷ blk 3 (does (at 91 1) (const 3 (pos 3)) ∷ []) (Branch Eq 2 3 7 3) (at 38 1)
    ∷ blk 3 [] (Jump 8) (at 30 6)
    ∷ blk 2 (does (at 57 1) (const 2 (pos 1)) ∷ does (at 53 1) (copy 1 2) ∷ []) (Jump 8) (at 60 5)
    ∷ blk 2 [] (Jump 6) (at 30 6)
    ∷ blk 2 (does (at 81 1) (const 2 (pos 2)) ∷ does (at 77 1) (copy 1 2) ∷ []) (Jump 7) (at 30 6)
    ∷ blk 2
    (does (at 98 1) (copy 2 1) ∷ does (at 102 1) (const 3 (pos 3)) ∷ does (at 98 5) (bin 2 Add signed_int 2 3) ∷ does (at 94 1) (copy 1 2) ∷ [])
    (Jump 8) (at 30 6)
    ∷ blk 2 (does (at 118 1) (copy 2 1) ∷ []) (Return (Some 2)) (at 111 9)
    ∷ blk 2 [] Missing (closing_brace (at 13 109))
    ∷ [])
unfolding half_of
switched = refl

-- int f(int *a, int n) { int s = 0; for (int i = 0; i < n; i++) s += a[i]; return s; }
abbrev element : ExprTree
element = node (at 67 4) (int signed_int) (index (node (at 67 1) (pointer (int signed_int)) (local 0)) (variable 69 3))

abbrev summing : TypedTree
summing = function (parameter (pointer (int signed_int)) ∷ parameter (int signed_int) ∷ []) (pointer (int signed_int) ∷ int signed_int ∷ int signed_int ∷ int signed_int ∷ [])
    (stmt (at 27 1) (declare 2 (int signed_int) (Some (value (number 31 1 0))))
    ∷ stmt (at 34 38)
    (for (stmts (stmt (at 43 1) (declare 3 (int signed_int) (Some (value (number 47 1 0)))) ∷ []))
    (Some (node (at 50 5) (int signed_int) (binary b.Lt (variable 50 3) (variable 54 1))))
    (update b.Add (variable 57 3) (number 57 3 1) (at 57 3) ∷ [])
    (stmt (at 62 10) (effect (update b.Add (variable 62 2) element (at 62 9)))))
    ∷ stmt (at 73 9) (return (Some (value (variable 80 2))))
    ∷ [])
    (at 21 63)

summed : lowered declared (token 34 3 ∷ token 62 1 ∷ token 73 6 ∷ []) summing
    ≡ code 2 4 7
    (blk 4
    (does (at 31 1) (const 4 (pos 0)) ∷ does (at 27 1) (copy 2 4) ∷ does (at 47 1) (const 4 (pos 0)) ∷ does (at 43 1) (copy 3 4) ∷ [])
    (Jump 1) (at 34 3)
    ∷ blk 4 (does (at 50 1) (copy 4 3) ∷ does (at 54 1) (copy 5 1) ∷ []) (Branch Lt 4 5 2 4) (at 50 5)
    ∷ blk 4
    (does (at 67 1) (copy 4 0) ∷ does (at 69 1) (copy 5 3) ∷ does (at 69 1) (conv 5 unsigned_long) ∷ does (at 67 4) (const 6 (pos 4))
    ∷ does (at 67 4) (bin 5 Mul unsigned_long 5 6) ∷ does (at 67 4) (bin 4 Add unsigned_long 4 5) ∷ does (at 67 4) (load 4 signed_int 4)
    ∷ does (at 62 1) (copy 6 2) ∷ does (at 62 9) (bin 6 Add signed_int 6 4) ∷ does (at 62 1) (copy 2 6) ∷ [])
    (Jump 3) (at 34 3)
    ∷ blk 4
    (does (at 57 3) (const 4 (pos 1)) ∷ does (at 57 1) (copy 6 3) ∷ does (at 57 3) (bin 6 Add signed_int 6 4) ∷ does (at 57 1) (copy 3 6) ∷ [])
    (Jump 1) (at 34 3)
    ∷ blk 4 (does (at 80 1) (copy 4 2) ∷ []) (Return (Some 4)) (at 73 9)
    ∷ blk 4 [] Missing (closing_brace (at 21 63))
    ∷ [])
unfolding half_of
summed = refl
