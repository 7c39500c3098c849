use Rattle.std.proofs.Common.{◌≡◌, map, ap, sym, ◌∙◌, subst, rules}
use Rattle.std.specs.Prelude.{Ok, option_map}
use Rattle.cx_ctree.specs.Exprs.{expr_tree, effect_tree}
use Rattle.cx_ctree.specs.Stmts.{StmtTree, GroupTree, stmt, block, if_alone, if_else, while, do_while, for, switch, stmt_tree, stmt_trees, group_tree, group_trees}
use Rattle.cx_ctree.specs.declared.stmt.Group.{Group, roll-Group, out-Group}
use Rattle.cx_scope.specs.Views.{locals_of}
use Rattle.cx_scope.specs.Locals.{Locals, opened}
use Rattle.cx_sfile.specs.Views.{declared_in}
use Rattle.cx_base.specs.declared.number.CInt.{CInt}
use Rattle.cx_snode.specs.Judging.{Tells, ◌>>=◌}
use Rattle.cx_seffect.specs.Effects.{typed_condition, typed_effects, typed_optional}
use Rattle.cx_sexpr.specs.Typing.{typed}
use Rattle.cx_sstmt.specs.Labels.{none_seen, typed_labels}
use Rattle.cx_sstmt.specs.Stmts.{Around, After, ForHead, for_head, gives, leaving, switched, label_type, in_loop, in_switch, typed_stmt, typed_stmts, typed_groups}
use Rattle.cx_sstmt.specs.Around.{around_view, seen_view, label_trees, Leaves}
use Rattle.cx_sstmt.specs.Joined.{head_view}
use Rattle.cx_sstmt.proofs.Folds.{of_group, group_out, of_for}
use Rattle.cx_sstmt.proofs.Joins.{makes_leaves, makes_gives, leaves_closed, leaving_later, follows, for_leaves, for_breaks}
use Rattle.cx_sstmt.proofs.Turns.{labels_done, stmt_turn, stmts_over, group_turn, groups_over, group_tells}
use Rattle.cx_sstmt.proofs.walk.«+statements».Goals as goal

pub typed_stmts-loop-s-preserved : goal.typed_stmts-loop-s-preserved
typed_stmts-loop-s-preserved t c =
    let env = declared_in c.args.file.now in
    let around = around_view c.args.around in
    stmt_turn env around (locals_of c.loop-s.locals) (locals_of c.typed_stmt.new.locals) c.loop-s.done c.push.new.self c.args.stmts.now c.loop-s.s-index (typed_stmts env around (locals_of c.args.locals.now) (stmt_trees c.args.stmts.now))
    c.s-item.result c.in_ok-s.s c.loop-s-test.true c.s-item.is c.in_ok-s.ensures c.in_ok-push.ensures.ok c.loop-s.invariant

pub typed_stmts-returns : goal.typed_stmts-returns
typed_stmts-returns t c =
    let env = declared_in c.args.file.now in
    let around = around_view c.args.around in
    stmts_over env around (locals_of c.loop-s.locals) c.loop-s.done c.args.stmts.now c.loop-s.s-index (typed_stmts env around (locals_of c.args.locals.now) (stmt_trees c.args.stmts.now)) c.loop-s-test.false c.loop-s.invariant

pub typed_groups-returns : goal.typed_groups-returns
typed_groups-returns t c =
    let env = declared_in c.args.file.now in
    let around = around_view c.args.around in
    groups_over env around (locals_of c.loop-g.locals) c.args.t c.args.span (seen_view c.loop-g.seen) c.loop-g.done c.args.groups.now c.loop-g.g-index
    (typed_groups env around (locals_of c.args.locals.now) c.args.t c.args.span none_seen (group_trees c.args.groups.now)) c.loop-g-test.false c.loop-g.invariant

pub typed_inner-returns : goal.typed_inner-returns
typed_inner-returns t c =
    let env = declared_in c.args.file.now in
    let around = around_view c.args.around in
    let s = stmt_tree c.args.s.now in
    leaves_closed stmt_tree c.typed_stmt-s.result (locals_of c.typed_stmt-s.new.locals) (locals_of c.close.new.self) (typed_stmt env around (opened (locals_of c.args.locals.now)) s) c.close.ensures
    (subst (λ (l : Locals). Leaves stmt_tree c.typed_stmt-s.result (locals_of c.typed_stmt-s.new.locals) (typed_stmt env around l s)) c.in_ok-open.ensures c.typed_stmt-s.ensures)

pub typed_body-returns : goal.typed_body-returns
typed_body-returns t c =
    let env = declared_in c.args.file.now in
    let around = around_view c.args.around in
    let gs = group_trees c.args.groups.now in
    leaves_closed group_trees c.typed_groups-gs.result (locals_of c.typed_groups-gs.new.locals) (locals_of c.close.new.self) (typed_groups env around (opened (locals_of c.args.locals.now)) c.args.t c.args.span none_seen gs) c.close.ensures
    (subst (λ (l : Locals). Leaves group_trees c.typed_groups-gs.result (locals_of c.typed_groups-gs.new.locals) (typed_groups env around l c.args.t c.args.span none_seen gs)) c.in_ok-open.ensures c.typed_groups-gs.ensures)

pub typed_block-returns : goal.typed_block-returns
typed_block-returns t c =
    let env = declared_in c.args.file.now in
    let around = around_view c.args.around in
    let ss = stmt_trees c.args.stmts.now in
    let ls = locals_of c.args.locals.now in
    leaves_closed stmt_tree c.block_of.result (locals_of c.typed_stmts-ss.new.locals) (locals_of c.close.new.self) (typed_stmts env around (opened ls) ss >>= (λ a. gives (stmt c.args.span (block a.tree)) a.locals)) c.close.ensures
    (makes_leaves stmt_trees stmt_tree (λ x. stmt c.args.span (block x)) c.typed_stmts-ss.result c.block_of.result (locals_of c.typed_stmts-ss.new.locals) (typed_stmts env around (opened ls) ss) c.block_of.ensures
    (subst (λ (l : Locals). Leaves stmt_trees c.typed_stmts-ss.result (locals_of c.typed_stmts-ss.new.locals) (typed_stmts env around l ss)) c.in_ok-open.ensures c.typed_stmts-ss.ensures))

pub typed_if-returns : goal.typed_if-returns
typed_if-returns t c =
    let env = declared_in c.args.file.now in
    let around = around_view c.args.around in
    let ls = locals_of c.args.locals.now in
    let a = stmt_tree c.args.a.now in
    let d = expr_tree c.in_ok-c.c in
    let s = c.args.span in
    follows stmt_tree c.if_of.result (locals_of c.typed_inner-a.new.locals) (typed_condition env ls (expr_tree c.args.c.now)) d (λ d. leaving (typed_stmt env around (opened ls) a) >>= (λ b. gives (stmt s (if_alone d b.tree)) b.locals)) c.in_ok-c.ensures
    (makes_leaves stmt_tree stmt_tree (λ x. stmt s (if_alone d x)) c.typed_inner-a.result c.if_of.result (locals_of c.typed_inner-a.new.locals) (leaving (typed_stmt env around (opened ls) a)) c.if_of.ensures c.typed_inner-a.ensures)

pub typed_while-returns : goal.typed_while-returns
typed_while-returns t c =
    let env = declared_in c.args.file.now in
    let around = in_loop (around_view c.args.around) in
    let ls = locals_of c.args.locals.now in
    let a = stmt_tree c.args.a.now in
    let d = expr_tree c.in_ok-c.c in
    let s = c.args.span in
    follows stmt_tree c.while_of.result (locals_of c.typed_inner-a.new.locals) (typed_condition env ls (expr_tree c.args.c.now)) d (λ d. leaving (typed_stmt env around (opened ls) a) >>= (λ b. gives (stmt s (while d b.tree)) b.locals)) c.in_ok-c.ensures
    (makes_leaves stmt_tree stmt_tree (λ x. stmt s (while d x)) c.typed_inner-a.result c.while_of.result (locals_of c.typed_inner-a.new.locals) (leaving (typed_stmt env around (opened ls) a)) c.while_of.ensures
    (subst (λ (r : Around). Leaves stmt_tree c.typed_inner-a.result (locals_of c.typed_inner-a.new.locals) (leaving (typed_stmt env r (opened ls) a))) c.in_loop.ensures c.typed_inner-a.ensures))

pub typed_do-returns : goal.typed_do-returns
typed_do-returns t c =
    let env = declared_in c.args.file.now in
    let around = in_loop (around_view c.args.around) in
    let ls = locals_of c.args.locals.now in
    let now = locals_of c.typed_inner.new.locals in
    let x = stmt_tree c.args.a.now in
    let a = stmt_tree c.in_ok-a.a in
    let s = c.args.span in
    let done : After StmtTree = record { tree = a; locals = now } in
    follows stmt_tree c.do_of.result now (leaving (typed_stmt env around (opened ls) x)) done (λ b. typed_condition env b.locals (expr_tree c.args.c.now) >>= (λ d. gives (stmt s (do_while b.tree d)) b.locals))
    (subst (λ (r : Around). leaving (typed_stmt env r (opened ls) x) ≡ Ok done) c.in_loop.ensures c.in_ok-a.ensures)
    (makes_gives expr_tree stmt_tree (λ d. stmt s (do_while a d)) c.typed_condition-c.result c.do_of.result now (typed_condition env now (expr_tree c.args.c.now)) c.do_of.ensures c.typed_condition-c.ensures)

pub typed_switch-returns : goal.typed_switch-returns
typed_switch-returns t c =
    let env = declared_in c.args.file.now in
    let around = in_switch (around_view c.args.around) in
    let ls = locals_of c.args.locals.now in
    let gs = group_trees c.args.groups.now in
    let a = expr_tree c.in_ok-typed.field-0 in
    let w = expr_tree c.in_ok-v.v in
    let s = c.args.span in
    let now = locals_of c.typed_body-gs.new.locals in
    follows stmt_tree c.switch_of.result now (typed env ls (expr_tree c.args.v.now)) a
    (λ a. switched a >>= (λ w. leaving (typed_groups env around (opened ls) (label_type w) s none_seen gs >>= (λ b. gives (stmt s (switch w b.tree)) b.locals)))) c.in_ok-typed.ensures.answer
    (follows stmt_tree c.switch_of.result now (switched a) w (λ w. leaving (typed_groups env around (opened ls) (label_type w) s none_seen gs >>= (λ b. gives (stmt s (switch w b.tree)) b.locals))) c.in_ok-v.ensures
    (subst (Leaves stmt_tree c.switch_of.result now) (sym (leaving_later (λ x. stmt s (switch w x)) (typed_groups env around (opened ls) (label_type w) s none_seen gs)))
    (makes_leaves group_trees stmt_tree (λ x. stmt s (switch w x)) c.typed_body-gs.result c.switch_of.result now (leaving (typed_groups env around (opened ls) (label_type w) s none_seen gs)) c.switch_of.ensures
    (subst (λ (r : Around). Leaves group_trees c.typed_body-gs.result now (leaving (typed_groups env r (opened ls) (label_type w) s none_seen gs))) c.in_switch.ensures
    (subst (λ (t : CInt). Leaves group_trees c.typed_body-gs.result now (leaving (typed_groups env (around_view c.in_switch.result) (opened ls) t s none_seen gs))) c.label_type-t.ensures c.typed_body-gs.ensures)))))

pub typed_groups-loop-g-preserved : goal.typed_groups-loop-g-preserved
typed_groups-loop-g-preserved t c =
    let env = declared_in c.args.file.now in
    let around = around_view c.args.around in
    let x = c.g-item.result in
    let a : Group = roll-Group (record { labels = c.in_ok-labels.labels; body = c.in-Ok.body }) in
    let e = of_group c.in_ok-labels.labels c.in-Ok.body in
    let out = group_out x in
    let labels_given : typed_labels env c.args.t c.args.span (seen_view c.loop-g.seen) (label_trees (out-Group x).labels) ≡ labels_done (label_trees c.in_ok-labels.labels) (seen_view c.typed_labels.new.seen) = search rules in
    let body_given : typed_stmts env around (locals_of c.loop-g.locals) (stmt_trees (out-Group x).body) ≡ gives (stmt_trees c.in-Ok.body) (locals_of c.typed_stmts.new.locals) = search rules in
    let labels_are = ap (λ (g : GroupTree). typed_labels env c.args.t c.args.span (seen_view c.loop-g.seen) g.labels) out ∙ labels_given in
    let body_is = ap (λ (g : GroupTree). typed_stmts env around (locals_of c.loop-g.locals) g.body) out ∙ body_given in
    group_turn env around (locals_of c.loop-g.locals) (locals_of c.typed_stmts.new.locals) c.args.t c.args.span (seen_view c.loop-g.seen) (seen_view c.typed_labels.new.seen) c.loop-g.done c.push.new.self c.args.groups.now c.loop-g.g-index
    (typed_groups env around (locals_of c.args.locals.now) c.args.t c.args.span none_seen (group_trees c.args.groups.now)) x a c.loop-g-test.true c.g-item.is
    (labels_are ∙ ap (λ (g : GroupTree). labels_done g.labels (seen_view c.typed_labels.new.seen)) (sym e))
    (body_is ∙ ap (λ (g : GroupTree). gives g.body (locals_of c.typed_stmts.new.locals)) (sym e))
    c.in_ok-push.ensures.ok c.loop-g.invariant

pub typed_stmt-returns-in_ok-head-in-For : goal.typed_stmt-returns-in_ok-head-in-For
typed_stmt-returns-in_ok-head-in-For t c =
    let env = declared_in c.args.file.now in
    let around = around_view c.args.around in
    let ls = locals_of c.args.locals.now in
    let s = c.args.s.now.span in
    let init = stmt_trees c.in-For.init in
    let cond = option_map expr_tree c.in-For.c in
    let steps = map effect_tree c.in-For.steps in
    let a = stmt_tree c.in-For.a.value in
    let x = stmt_trees c.in_ok-init-in-For.init in
    let mid = locals_of c.typed_stmts.new.locals in
    let end = locals_of c.typed_inner-a.new.locals in
    let now = locals_of c.close.new.self in
    let h = head_view c.in_ok-head-in-For.head in
    let e : stmt_tree c.args.s.now ≡ stmt s (for init cond steps a) = of_for c.args.s.now c.in-For.init c.in-For.c c.in-For.steps c.in-For.a c.in-For.is in
    let k : typed_stmts env around (opened ls) init ≡ gives x mid = search rules in
    let p : for_head env mid x cond steps ≡ Ok h = search rules in
    let l : Leaves stmt_tree c.typed_inner-a.result end (leaving (typed_stmt env (in_loop around) (opened mid) a)) = search rules in
    subst (λ (k : StmtTree). Leaves stmt_tree c.for_of.result now (typed_stmt env around ls k)) (sym e)
    (for_leaves env around ls s stmt_tree stmt_tree c.typed_inner-a.result c.for_of.result mid end now init x cond steps a h c.close.ensures k p c.for_of.ensures l)

pub typed_stmt-returns-in_err-head-in-For : goal.typed_stmt-returns-in_err-head-in-For
typed_stmt-returns-in_err-head-in-For t c =
    let env = declared_in c.args.file.now in
    let around = around_view c.args.around in
    let ls = locals_of c.args.locals.now in
    let s = c.args.s.now.span in
    let init = stmt_trees c.in-For.init in
    let cond = option_map expr_tree c.in-For.c in
    let steps = map effect_tree c.in-For.steps in
    let a = stmt_tree c.in-For.a.value in
    let x = stmt_trees c.in_ok-init-in-For.init in
    let mid = locals_of c.typed_stmts.new.locals in
    let fault = c.in_err-head-in-For.field-0.0 in
    let e : stmt_tree c.args.s.now ≡ stmt s (for init cond steps a) = of_for c.args.s.now c.in-For.init c.in-For.c c.in-For.steps c.in-For.a c.in-For.is in
    let k : typed_stmts env around (opened ls) init ≡ gives x mid = search rules in
    let p : Tells fault (for_head env mid x cond steps) = search rules in
    let broken : Tells fault (typed_stmt env around ls (stmt_tree c.args.s.now)) = subst (λ (k : StmtTree). Tells fault (typed_stmt env around ls k)) (sym e) (for_breaks env around ls s fault mid init x cond steps a k p) in
    search rules

pub typed_groups-returns-in-Err : goal.typed_groups-returns-in-Err
typed_groups-returns-in-Err t c =
    let env = declared_in c.args.file.now in
    let around = around_view c.args.around in
    let x = c.g-item.result in
    let out = group_out x in
    let labels_given : typed_labels env c.args.t c.args.span (seen_view c.loop-g.seen) (label_trees (out-Group x).labels) ≡ labels_done (label_trees c.in_ok-labels.labels) (seen_view c.typed_labels.new.seen) = search rules in
    let labels_are = ap (λ (g : GroupTree). typed_labels env c.args.t c.args.span (seen_view c.loop-g.seen) g.labels) out ∙ labels_given in
    let told : Tells c.in-Err.e (typed_stmts env around (locals_of c.loop-g.locals) (stmt_trees (out-Group x).body)) = search rules in
    let tells = subst (Tells c.in-Err.e) (sym (ap (λ (g : GroupTree). typed_stmts env around (locals_of c.loop-g.locals) g.body) out)) told in
    group_tells c.in-Err.e env around (locals_of c.loop-g.locals) c.args.t c.args.span (seen_view c.loop-g.seen) (record { labels = label_trees c.in_ok-labels.labels; seen = seen_view c.typed_labels.new.seen }) c.loop-g.done c.args.groups.now c.loop-g.g-index
    (typed_groups env around (locals_of c.args.locals.now) c.args.t c.args.span none_seen (group_trees c.args.groups.now)) x c.loop-g-test.true c.g-item.is labels_are tells c.loop-g.invariant
