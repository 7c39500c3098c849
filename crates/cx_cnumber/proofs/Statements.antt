-- The numbers in statements are small where the constants among their lexemes are, and so are the enumeration constants after them.
use Rattle.std.proofs.Common.{Bool, List, [], ◌∷◌, ◌++◌, Option}
use Rattle.std.specs.Prelude.{All}
use Rattle.std.proofs.lemmas.List.Elements.{All-nil, All-append}
use Rattle.cx_cname.specs.Known.{Known}
use Rattle.cx_cstmt.specs.Statements.{IsVariable, variable, initialised, AreVariables, last_variable, also_variable, IsLocal, local, all_of, AreInitEffects, last_init, also_init, IsInit, init_local, init_nothing, init_effects, IsCondition, no_condition, some_condition, AreSteps, no_step, some_steps, IsResult, no_result, some_result, IsLabel, case_label, default_label, AreLabels, last_label, also_label, IsStmt, block_stmt, empty_stmt, effect_stmt, if_stmt, if_else_stmt, while_stmt, do_stmt, for_stmt, switch_stmt, break_stmt, continue_stmt, return_stmt, AreBlockItems, no_item, local_item, stmt_item, AreStmts, no_more, more, AreGroups, no_groups, last_group, also_groups}
use Rattle.cx_ctree.specs.Decls.{DeclTree}
use Rattle.cx_ctree.specs.Exprs.{ExprTree, RhsTree, EffectTree}
use Rattle.cx_ctree.specs.Stmts.{StmtTree, StmtTrees, no_stmt, also_stmt, GroupTrees}
use Rattle.cx_ctree.specs.Types.{TypeTree}
use Rattle.cx_cword.specs.declared.lexeme.Lexeme.{Lexeme}
use Rattle.cx_gline.proofs.Keeping.{all_split}
use Rattle.cx_gline.specs.Inside.{numbers_in, effect_numbers, effects_numbers, initial_numbers, optional_numbers, labels_numbers, stmt_numbers, stmts_numbers, groups_numbers}
use Rattle.cx_gline.specs.Law.{EnumerationsSmall}
use Rattle.cx_gline.specs.Lines.{IsSmall}
use Rattle.cx_cnumber.proofs.Declarations.{specs_small}
use Rattle.cx_cnumber.proofs.Expressions.{cond_small, rhs_small, effect_small, effects_small}
use Rattle.cx_cnumber.proofs.Lexemes.{Small, front, rest, around, inner}

abbrev StmtSmall : StmtTree → Type 0
StmtSmall s = All IsSmall (stmt_numbers s)

abbrev StmtsSmall : StmtTrees → Type 0
StmtsSmall ss = All IsSmall (stmts_numbers ss)

pair : (s : StmtTree) (ss : StmtTrees) → StmtSmall s → StmtsSmall ss → StmtsSmall (also_stmt s ss)
pair s ss h k = All-append IsSmall (stmt_numbers s) (stmts_numbers ss) h k

all_of_small : (ss us : StmtTrees) → StmtsSmall ss → StmtsSmall us → StmtsSmall (all_of ss us)
all_of_small no_stmt us h k = k
all_of_small (also_stmt s ss) us h k = let p = all_split IsSmall (stmt_numbers s) (stmts_numbers ss) h in pair s (all_of ss us) p.0 (all_of_small ss us p.1 k)

-- ---- parts of statements

module _ (env : Known) where
  variable_small : {t : TypeTree} {os : List Lexeme} {s : StmtTree} → IsVariable env t os s → Small os → StmtSmall s
  variable_small (variable h no_type) s = All-nil IsSmall
  variable_small (initialised {a = a} {c = c} m h no_type is g) s = rhs_small env g (around a m c s).1

  variables_small : {t : TypeTree} {os : List Lexeme} {ss : StmtTrees} → AreVariables env t os ss → Small os → StmtsSmall ss
  variables_small (last_variable {s = x} h) s = pair x no_stmt (variable_small h s) (All-nil IsSmall)
  variables_small (also_variable {a = a} {c = c} {s = x} {ss = xs} o h comma g) s = let r = around a o c s in pair x xs (variable_small h r.0) (variables_small g r.1)

  init_effects_small : {os : List Lexeme} {ss : StmtTrees} → AreInitEffects env os ss → Small os → StmtsSmall ss
  init_effects_small (last_init {e = x} h) s = All-append IsSmall (effect_numbers x) [] (effect_small env h s) (All-nil IsSmall)
  init_effects_small (also_init {a = a} {c = c} {e = x} {ss = xs} o h comma g) s = let r = around a o c s in All-append IsSmall (effect_numbers x) (stmts_numbers xs) (effect_small env h r.0) (init_effects_small g r.1)

  condition_small : {os : List Lexeme} {x : Option ExprTree} → IsCondition env os x → Small os → All IsSmall (optional_numbers x)
  condition_small no_condition s = All-nil IsSmall
  condition_small (some_condition h) s = cond_small env h s

  steps_small : {os : List Lexeme} {es : List EffectTree} → AreSteps env os es → Small os → All IsSmall (effects_numbers es)
  steps_small no_step s = All-nil IsSmall
  steps_small (some_steps h) s = effects_small env h s

  result_small : {os : List Lexeme} {r : Option RhsTree} → IsResult env os r → Small os → All IsSmall (initial_numbers r)
  result_small no_result s = All-nil IsSmall
  result_small (some_result h) s = rhs_small env h s

  label_small : {os : List Lexeme} {x : Option ExprTree} → IsLabel env os x → Small os → All IsSmall (optional_numbers x)
  label_small (case_label {a = a} o m word h constant colon) s = cond_small env h (inner o a m [] s).0
  label_small (default_label o m word colon) s = All-nil IsSmall

  labels_small : {os : List Lexeme} {xs : List (Option ExprTree)} → AreLabels env os xs → Small os → All IsSmall (labels_numbers xs)
  labels_small (last_label {l = x} h) s = All-append IsSmall (optional_numbers x) [] (label_small h s) (All-nil IsSmall)
  labels_small (also_label {a = a} {c = c} {l = x} {ls = xs} h g) s = let r = front a c s in All-append IsSmall (optional_numbers x) (labels_numbers xs) (label_small h r.0) (labels_small g r.1)

-- ---- statements

-- the enumeration constants after a text are small, and the numbers in it
abbrev Keeps : Known → Type 0 → Type 0
Keeps known small = EnumerationsSmall known × small

module _ (earlier : List DeclTree) where
  local_small : {env known : Known} {os : List Lexeme} {ss : StmtTrees} → IsLocal earlier env os ss known → EnumerationsSmall env → Small os → Keeps known (StmtsSmall ss)
  local_small (local {a = a} {c = c} {known = now} o h attributed typedef linked g ends) e s = (specs_small earlier h e, variables_small now g (front a c (around (a ++ c) o [] s).0).1)

  init_small : {env known : Known} {os : List Lexeme} {ss : StmtTrees} → IsInit earlier env os ss known → EnumerationsSmall env → Small os → Keeps known (StmtsSmall ss)
  init_small (init_local h) e s = local_small h e s
  init_small (init_nothing o ends) e s = (e, All-nil IsSmall)
  init_small {env = env} (init_effects {a = a} o h ends) e s = (e, init_effects_small env h (around a o [] s).0)

  mutual
    pub stmt_small : {env known : Known} {z : Bool} {os : List Lexeme} {x : StmtTree} → IsStmt earlier env z os x known → EnumerationsSmall env → Small os → Keeps known (StmtSmall x)
    stmt_small (block_stmt {a = a} o m opens h closes) e s = block_items_small h e (inner o a m [] s).0
    stmt_small (empty_stmt o ends) e s = (e, All-nil IsSmall)
    stmt_small (effect_stmt {env = env} {a = a} o h ends) e s = (e, effect_small env h (around a o [] s).0)
    stmt_small (if_stmt {env = env} {a = a} {c = c} {x = x} {s = y} i o m word opens f closes h) e s =
        let r = inner o a m c (rest i (o ∷ a ++ m ∷ c) s) in let v = stmt_small h e r.1 in
        (v.0, All-append IsSmall (numbers_in x) (stmt_numbers y) (cond_small env f r.0) v.1)
    stmt_small (if_else_stmt {env = env} {a = a} {c = c} {d = d} {x = x} {s = y} {u = z} i o m l word opens f closes h other g) e s =
        let q = around (a ++ m ∷ c) l d (rest o ((a ++ m ∷ c) ++ l ∷ d) (rest i (o ∷ (a ++ m ∷ c) ++ l ∷ d) s)) in let r = around a m c q.0 in
        let v = stmt_small h e r.1 in let w = stmt_small g v.0 q.1 in
        (w.0, All-append IsSmall (numbers_in x) (stmt_numbers y ++ stmt_numbers z) (cond_small env f r.0) (All-append IsSmall (stmt_numbers y) (stmt_numbers z) v.1 w.1))
    stmt_small (while_stmt {env = env} {a = a} {c = c} {x = x} {s = y} w o m word opens f closes h) e s =
        let r = inner o a m c (rest w (o ∷ a ++ m ∷ c) s) in let v = stmt_small h e r.1 in
        (v.0, All-append IsSmall (numbers_in x) (stmt_numbers y) (cond_small env f r.0) v.1)
    stmt_small (do_stmt {known = now} {a = a} {c = c} {x = x} {s = y} d w o m l word h again opens f closes ends) e s =
        let r = around a w (o ∷ c) (around (a ++ w ∷ o ∷ c) m (l ∷ []) (rest d ((a ++ w ∷ o ∷ c) ++ m ∷ l ∷ []) s)).0 in let v = stmt_small h e r.0 in
        (v.0, All-append IsSmall (stmt_numbers y) (numbers_in x) v.1 (cond_small now f (rest o c r.1)))
    stmt_small (for_stmt {known = now} {a = a} {c = c} {d = d} {r = b} {init = init} {x = x} {es = es} {s = y} w o m l word opens i f ends g closes h) e s =
        let whole = ((a ++ c) ++ m ∷ d) ++ l ∷ b in
        let t = around ((a ++ c) ++ m ∷ d) l b (rest o whole (rest w (o ∷ whole) s)) in let q = around (a ++ c) m d t.0 in let r = front a c q.0 in
        let v = init_small i e r.0 in let u = stmt_small h v.0 t.1 in (
          u.0,
          All-append IsSmall (stmts_numbers init) (optional_numbers x ++ (effects_numbers es ++ stmt_numbers y)) v.1
              (All-append IsSmall (optional_numbers x) (effects_numbers es ++ stmt_numbers y) (condition_small now f r.1) (All-append IsSmall (effects_numbers es) (stmt_numbers y) (steps_small now g q.1) u.1)),
        )
    stmt_small (switch_stmt {env = env} {a = a} {c = c} {x = x} {gs = gs} w o m b l word opens f closes begins h ends) e s =
        let whole = (a ++ m ∷ b ∷ c) ++ l ∷ [] in
        let r = around a m (b ∷ c) (around (a ++ m ∷ b ∷ c) l [] (rest o whole (rest w (o ∷ whole) s))).0 in let v = groups_small h e (rest b c r.1) in
        (v.0, All-append IsSmall (numbers_in x) (groups_numbers gs) (cond_small env f r.0) v.1)
    stmt_small (break_stmt w o word ends) e s = (e, All-nil IsSmall)
    stmt_small (continue_stmt w o word ends) e s = (e, All-nil IsSmall)
    stmt_small (return_stmt {env = env} {a = a} w o word h ends) e s = (e, result_small env h (inner w a o [] s).0)

    pub block_items_small : {env known : Known} {os : List Lexeme} {ss : StmtTrees} → AreBlockItems earlier env os ss known → EnumerationsSmall env → Small os → Keeps known (StmtsSmall ss)
    block_items_small no_item e s = (e, All-nil IsSmall)
    block_items_small (local_item {a = a} {c = c} {ss = xs} {us = ys} h g) e s =
        let r = front a c s in let v = local_small h e r.0 in let w = block_items_small g v.0 r.1 in (w.0, all_of_small xs ys v.1 w.1)
    block_items_small (stmt_item {a = a} {c = c} {s = x} {ss = xs} h g) e s =
        let r = front a c s in let v = stmt_small h e r.0 in let w = block_items_small g v.0 r.1 in (w.0, pair x xs v.1 w.1)

    stmts_small : {env known : Known} {os : List Lexeme} {ss : StmtTrees} → AreStmts earlier env os ss known → EnumerationsSmall env → Small os → Keeps known (StmtsSmall ss)
    stmts_small no_more e s = (e, All-nil IsSmall)
    stmts_small (more {a = a} {c = c} {s = x} {ss = xs} h g) e s =
        let r = front a c s in let v = stmt_small h e r.0 in let w = stmts_small g v.0 r.1 in (w.0, pair x xs v.1 w.1)

    groups_small : {env known : Known} {os : List Lexeme} {gs : GroupTrees} → AreGroups earlier env os gs known → EnumerationsSmall env → Small os → Keeps known (All IsSmall (groups_numbers gs))
    groups_small no_groups e s = (e, All-nil IsSmall)
    groups_small (last_group {env = env} {a = a} {c = c} {ls = ls} {ss = ss} f h) e s =
        let r = front a c s in let v = stmts_small h e r.1 in
        (v.0, All-append IsSmall (labels_numbers ls) (stmts_numbers ss ++ []) (labels_small env f r.0) (All-append IsSmall (stmts_numbers ss) [] v.1 (All-nil IsSmall)))
    groups_small (also_groups {env = env} {a = a} {c = c} {d = d} {ls = ls} {ss = ss} {gs = gs} f h some others g) e s =
        let q = front (a ++ c) d s in let r = front a c q.0 in let v = stmts_small h e r.1 in let w = groups_small g v.0 q.1 in
        (w.0, All-append IsSmall (labels_numbers ls) (stmts_numbers ss ++ groups_numbers gs) (labels_small env f r.0) (All-append IsSmall (stmts_numbers ss) (groups_numbers gs) v.1 w.1))
