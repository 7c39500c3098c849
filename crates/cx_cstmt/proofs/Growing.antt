-- The names that statements declare are few.
use Rattle.std.proofs.Common.{Bool, List, [], ◌∷◌, ◌++◌, length, length-append, arith}
use Rattle.cx_ctree.specs.Stmts.{StmtTree, StmtTrees, GroupTrees}
use Rattle.cx_ctree.specs.Decls.{DeclTree}
use Rattle.cx_cword.specs.declared.lexeme.Lexeme.{Lexeme}
use Rattle.cx_cname.specs.Known.{Known}
use Rattle.cx_cdecl.proofs.Grows.{Grows, grows_none, grows_then, grows_more}
use Rattle.cx_cdecl.proofs.Growing.{specs_grow}
use Rattle.cx_cstmt.specs.Statements.{IsLocal, local, IsInit, init_local, init_nothing, init_effects, IsStmt, block_stmt, empty_stmt, effect_stmt, if_stmt, if_else_stmt, while_stmt, do_stmt, for_stmt, switch_stmt, break_stmt, continue_stmt, return_stmt, AreBlockItems, no_item, local_item, stmt_item, AreStmts, no_more, more, AreGroups, no_groups, last_group, also_groups}

pub local_grows : {earlier : List DeclTree} {env known : Known} {a : List Lexeme} {ss : StmtTrees} → IsLocal earlier env a ss known → Grows env known (length a)
local_grows {env = env} (local {a = a} {c = c} {known = known} o h attributed type linked vs is) =
    grows_more env known (length a) (length (a ++ c ++ o ∷ [])) (specs_grow h) (let e = length-append (a ++ c) (o ∷ []) in let f = length-append a c in omega (arith, e, f))

pub init_grows : {earlier : List DeclTree} {env known : Known} {a : List Lexeme} {ss : StmtTrees} → IsInit earlier env a ss known → Grows env known (length a)
init_grows (init_local h) = local_grows h
init_grows {env = env} (init_nothing o is) = grows_none env (length (o ∷ []))
init_grows {env = env} (init_effects {a = a} o h is) = grows_none env (length (a ++ o ∷ []))

mutual
  pub stmt_grows : {earlier : List DeclTree} {env known : Known} {f : Bool} {a : List Lexeme} {s : StmtTree} → IsStmt earlier env f a s known → Grows env known (length a)
  stmt_grows (block_stmt {env = env} {known = known} {a = a} o w is h shuts) =
      grows_more env known (length a) (length (o ∷ a ++ w ∷ [])) (items_grow h) (let e = length-append a (w ∷ []) in omega (arith, e))
  stmt_grows (empty_stmt {env = env} o is) = grows_none env (length (o ∷ []))
  stmt_grows (effect_stmt {env = env} {a = a} o h is) = grows_none env (length (a ++ o ∷ []))
  stmt_grows (if_stmt {env = env} {known = known} {a = a} {c = c} i o w is opening h closing s) =
      grows_more env known (length c) (length (i ∷ o ∷ a ++ w ∷ c)) (stmt_grows s) (let e = length-append a (w ∷ c) in omega (arith, e))
  stmt_grows (if_else_stmt {env = env} {known = known} {later = later} {a = a} {c = c} {d = d} i o w u is opening h closing s also t) =
      grows_then env known later (length c) (length d) (length (i ∷ o ∷ a ++ w ∷ c ++ u ∷ d)) (stmt_grows s) (stmt_grows t)
      (let e = length-append (a ++ w ∷ c) (u ∷ d) in let f = length-append a (w ∷ c) in omega (arith, e, f))
  stmt_grows (while_stmt {env = env} {known = known} {a = a} {c = c} i o w is opening h closing s) =
      grows_more env known (length c) (length (i ∷ o ∷ a ++ w ∷ c)) (stmt_grows s) (let e = length-append a (w ∷ c) in omega (arith, e))
  stmt_grows (do_stmt {env = env} {known = known} {a = a} {c = c} i w o u t is s while opening h closing ends) =
      grows_more env known (length a) (length (i ∷ a ++ w ∷ o ∷ c ++ u ∷ t ∷ [])) (stmt_grows s)
      (let e = length-append (a ++ w ∷ o ∷ c) (u ∷ t ∷ []) in let f = length-append a (w ∷ o ∷ c) in omega (arith, e, f))
  stmt_grows (for_stmt {env = env} {known = known} {later = later} {a = a} {c = c} {d = d} {r = r} i o w u is opening init test ends steps closing s) =
      grows_then env known later (length a) (length r) (length (i ∷ o ∷ a ++ c ++ w ∷ d ++ u ∷ r)) (init_grows init) (stmt_grows s)
      (let e = length-append (a ++ c ++ w ∷ d) (u ∷ r) in let f = length-append (a ++ c) (w ∷ d) in let g = length-append a c in omega (arith, e, f, g))
  stmt_grows (switch_stmt {env = env} {known = known} {a = a} {c = c} i o w u t is opening h closing begins gs shuts) =
      grows_more env known (length c) (length (i ∷ o ∷ a ++ w ∷ u ∷ c ++ t ∷ [])) (groups_grow gs)
      (let e = length-append (a ++ w ∷ u ∷ c) (t ∷ []) in let f = length-append a (w ∷ u ∷ c) in omega (arith, e, f))
  stmt_grows (break_stmt {env = env} i o is ends) = grows_none env (length (i ∷ o ∷ []))
  stmt_grows (continue_stmt {env = env} i o is ends) = grows_none env (length (i ∷ o ∷ []))
  stmt_grows (return_stmt {env = env} {a = a} i o is h ends) = grows_none env (length (i ∷ a ++ o ∷ []))

  pub items_grow : {earlier : List DeclTree} {env known : Known} {a : List Lexeme} {ss : StmtTrees} → AreBlockItems earlier env a ss known → Grows env known (length a)
  items_grow (no_item {env = env}) = grows_none env 0
  items_grow (local_item {env = env} {known = known} {later = later} {a = a} {c = c} h q) = grows_then env known later (length a) (length c) (length (a ++ c)) (local_grows h) (items_grow q) (let e = length-append a c in omega (arith, e))
  items_grow (stmt_item {env = env} {known = known} {later = later} {a = a} {c = c} h q) = grows_then env known later (length a) (length c) (length (a ++ c)) (stmt_grows h) (items_grow q) (let e = length-append a c in omega (arith, e))

  pub stmts_grow : {earlier : List DeclTree} {env known : Known} {a : List Lexeme} {ss : StmtTrees} → AreStmts earlier env a ss known → Grows env known (length a)
  stmts_grow (no_more {env = env}) = grows_none env 0
  stmts_grow (more {env = env} {known = known} {later = later} {a = a} {c = c} h q) = grows_then env known later (length a) (length c) (length (a ++ c)) (stmt_grows h) (stmts_grow q) (let e = length-append a c in omega (arith, e))

  pub groups_grow : {earlier : List DeclTree} {env known : Known} {a : List Lexeme} {gs : GroupTrees} → AreGroups earlier env a gs known → Grows env known (length a)
  groups_grow (no_groups {env = env}) = grows_none env 0
  groups_grow (last_group {env = env} {known = known} {a = a} {c = c} labels q) = grows_more env known (length c) (length (a ++ c)) (stmts_grow q) (let e = length-append a c in omega (arith, e))
  groups_grow (also_groups {env = env} {known = known} {later = later} {a = a} {c = c} {d = d} labels q some also r) =
      grows_then env known later (length c) (length d) (length (a ++ c ++ d)) (stmts_grow q) (groups_grow r) (let e = length-append (a ++ c) d in let f = length-append a c in omega (arith, e, f))
