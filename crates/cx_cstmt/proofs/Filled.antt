-- What spells something is not empty.
use Rattle.std.proofs.Common.{◌<◌, Bool, List, [], ◌∷◌, ◌++◌, length, arith, length-append, Option}
use Rattle.cx_ctree.specs.Exprs.{ExprTree}
use Rattle.cx_ctree.specs.Stmts.{StmtTree, StmtTrees}
use Rattle.cx_ctree.specs.Decls.{DeclTree}
use Rattle.cx_cword.specs.declared.lexeme.Lexeme.{Lexeme}
use Rattle.cx_cname.specs.Known.{Known}
use Rattle.cx_cstmt.specs.Statements.{IsLocal, local, IsStmt, block_stmt, empty_stmt, effect_stmt, if_stmt, if_else_stmt, while_stmt, do_stmt, for_stmt, switch_stmt, break_stmt, continue_stmt, return_stmt, IsLabel, case_label, default_label, AreLabels, last_label, also_label}

pub local_filled : {earlier : List DeclTree} {env known : Known} {a : List Lexeme} {ss : StmtTrees} → IsLocal earlier env a ss known → 0 < length a
local_filled (local {a = a} {c = c} o h attributed type linked vs is) = omega (arith, length-append (a ++ c) (o ∷ []))

pub label_filled : {env : Known} {a : List Lexeme} {l : Option ExprTree} → IsLabel env a l → 1 < length a
label_filled (case_label {a = a} o w is h fixed colon) = omega (arith, length-append a (w ∷ []))
label_filled (default_label o w is colon) = omega arith

pub labels_filled : {env : Known} {a : List Lexeme} {xs : List (Option ExprTree)} → AreLabels env a xs → 1 < length a
labels_filled (last_label h) = label_filled h
labels_filled (also_label {a = a} {c = c} h hs) = let e = label_filled h in omega (arith, e, length-append a c)

pub stmt_filled : {earlier : List DeclTree} {env known : Known} {f : Bool} {a : List Lexeme} {s : StmtTree} → IsStmt earlier env f a s known → 0 < length a
stmt_filled (block_stmt o m e q g) = omega arith
stmt_filled (empty_stmt o e) = omega arith
stmt_filled (effect_stmt {a = a} o e g) = omega (arith, length-append a (o ∷ []))
stmt_filled (if_stmt i o m e g x u s) = omega arith
stmt_filled (if_else_stmt i o m e g1 g2 x g3 s g4 u) = omega arith
stmt_filled (while_stmt w o m e g x u s) = omega arith
stmt_filled (do_stmt d w o m e g s g1 g2 x g3 g4) = omega arith
stmt_filled (for_stmt w o m e g g1 i c g2 s g3 b) = omega arith
stmt_filled (switch_stmt w o m e f g g1 x g2 g3 gs g4) = omega arith
stmt_filled (break_stmt w o e g) = omega arith
stmt_filled (continue_stmt w o e g) = omega arith
stmt_filled (return_stmt w o e r g) = omega arith
