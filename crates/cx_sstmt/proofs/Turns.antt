-- One more label, statement or group is judged, and the end of each list.
use Rattle.std.proofs.Common.{◌≡◌, ℕ, suc, ◌+◌, ◌-◌, ◌<◌, ◌≤◌, List, [], ◌∷◌, ◌++◌, map, length, take, drop, get_or, Option, Some, refl, ap, sym, ◌∙◌, subst, arith, add-one}
use Rattle.std.specs.Prelude.{Ok, option_map}
use Rattle.std.proofs.lemmas.List.{map-append, drop_all}
use Rattle.std.proofs.Math.Seq.{take-length, drop-cons}
use Rattle.cx_base.specs.declared.span.Span.{Span}
use Rattle.cx_base.specs.declared.number.CInt.{CInt}
use Rattle.cx_ctree.specs.declared.expr.Expr.{Expr}
use Rattle.cx_ctree.specs.declared.stmt.Stmt.{Stmt}
use Rattle.cx_ctree.specs.declared.stmt.Group.{Group}
use Rattle.cx_ctree.specs.Exprs.{ExprTree, expr_tree, span_of}
use Rattle.cx_ctree.specs.Stmts.{stmt_tree, StmtTrees, in_order, group_tree, GroupTrees, groups_in_order}
use Rattle.cx_cconst.specs.Constants.{constant_in}
use Rattle.cx_sname.specs.File.{Declared}
use Rattle.cx_scope.specs.Locals.{Locals, no_locals}
use Rattle.cx_snode.specs.declared.fault.SemaFault.{SemaFault}
use Rattle.cx_snode.specs.Judging.{Judged, Tells}
use Rattle.cx_sexpr.specs.Typing.{typed}
use Rattle.cx_sstmt.specs.Labels.{Seen, Labelled, case_seen, typed_labels}
use Rattle.cx_sstmt.specs.Around.{label_trees}
use Rattle.cx_sstmt.specs.Stmts.{Around, After, gives, typed_stmt, typed_stmts, typed_groups}
use Rattle.cx_sstmt.proofs.Steps.{behind_labels, case_next, behind_stmts, stmts_end, stmt_next, behind_groups, groups_end, group_next, body_breaks}

-- a list begins with its first item
first_of : {A : Type 0} (xs : List A) (x : A) → 1 ≤ length xs → x ≡ get_or xs 0 x → x ∷ take (length xs - 1) (drop 1 xs) ≡ xs
first_of [] x p q = absurd (omega (arith, p))
first_of (y ∷ ys) x p q =
    let n : length (y ∷ ys) - 1 ≡ length ys = omega arith in
    ap (λ z. z ∷ take (length (y ∷ ys) - 1) ys) q ∙ ap (λ k. y ∷ take k ys) n ∙ ap (λ zs. y ∷ zs) (take-length ys)

-- the item at a place, and those after it
next_of : {A B : Type 0} (f : A → B) (xs : List A) (n : ℕ) (x : A) → n < length xs → x ≡ get_or xs n x → map f (drop n xs) ≡ f x ∷ map f (drop (n + 1) xs)
next_of f xs n x below is = ap (map f) (drop-cons xs n x below ∙ ap (λ y. y ∷ drop (suc n) xs) (sym is)) ∙ rw add-one refl

-- ---- labels

abbrev pub labels_done : List (Option ExprTree) → Seen → Judged Labelled
labels_done ls seen = Ok (record { labels = ls; seen = seen })

pub case_turn : (env : Declared) (t : CInt) (s : Span) (seen now : Seen) (ls : Locals) (done new rest : List (Option Expr)) (whole : Judged Labelled) (item : Option Expr) (x a : Expr)
    → 1 ≤ length rest → item ≡ get_or rest 0 item → item ≡ Some x → ls ≡ no_locals → typed env ls (expr_tree x) ≡ Ok (expr_tree a)
    → case_seen (span_of (expr_tree x)) t seen (constant_in env.known (expr_tree x)) ≡ Ok now → new ≡ done ++ Some a ∷ []
    → behind_labels (label_trees done) (typed_labels env t s seen (label_trees rest)) ≡ whole
    → behind_labels (label_trees new) (typed_labels env t s now (label_trees (take (length rest - 1) (drop 1 rest)))) ≡ whole
case_turn env t s seen now ls done new rest whole item x a p q i e h k n inv =
    let after = take (length rest - 1) (drop 1 rest) in
    ap (λ d. behind_labels d (typed_labels env t s now (label_trees after))) (ap label_trees n ∙ map-append (option_map expr_tree) done (Some a ∷ []))
    ∙ sym (case_next env t s seen now (label_trees done) (label_trees after) (expr_tree x) (expr_tree a) (subst (λ l. typed env l (expr_tree x) ≡ Ok (expr_tree a)) e h) k)
    ∙ ap (λ (o : Option Expr). behind_labels (label_trees done) (typed_labels env t s seen (option_map expr_tree o ∷ label_trees after))) (sym i)
    ∙ ap (λ ls. behind_labels (label_trees done) (typed_labels env t s seen (label_trees ls))) (first_of rest item p q)
    ∙ inv

-- ---- statements

pub stmt_turn : (env : Declared) (around : Around) (ls now : Locals) (done new all : List Stmt) (n : ℕ) (whole : Judged (After StmtTrees)) (x a : Stmt)
    → n < length all → x ≡ get_or all n x → typed_stmt env around ls (stmt_tree x) ≡ gives (stmt_tree a) now → new ≡ done ++ a ∷ []
    → behind_stmts (map stmt_tree done) (typed_stmts env around ls (in_order (map stmt_tree (drop n all)))) ≡ whole
    → behind_stmts (map stmt_tree new) (typed_stmts env around now (in_order (map stmt_tree (drop (n + 1) all)))) ≡ whole
stmt_turn env around ls now done new all n whole x a below is h e inv =
    let rest = map stmt_tree (drop (n + 1) all) in
    ap (λ d. behind_stmts d (typed_stmts env around now (in_order rest))) (ap (map stmt_tree) e ∙ map-append stmt_tree done (a ∷ []))
    ∙ sym (stmt_next env around ls now (map stmt_tree done) (stmt_tree x) (stmt_tree a) (in_order rest) h)
    ∙ ap (λ ss. behind_stmts (map stmt_tree done) (typed_stmts env around ls (in_order ss))) (sym (next_of stmt_tree all n x below is))
    ∙ inv

pub stmts_over : (env : Declared) (around : Around) (ls : Locals) (done all : List Stmt) (n : ℕ) (whole : Judged (After StmtTrees)) → length all ≤ n
    → behind_stmts (map stmt_tree done) (typed_stmts env around ls (in_order (map stmt_tree (drop n all)))) ≡ whole
    → whole ≡ gives (in_order (map stmt_tree done)) ls
stmts_over env around ls done all n whole past inv =
    sym inv
    ∙ ap (λ ss. behind_stmts (map stmt_tree done) (typed_stmts env around ls (in_order (map stmt_tree ss)))) (drop_all n all past)
    ∙ stmts_end (map stmt_tree done) env around ls

-- ---- groups

pub group_turn : (env : Declared) (around : Around) (ls now : Locals) (t : CInt) (s : Span) (seen seen_now : Seen) (done new all : List Group) (n : ℕ) (whole : Judged (After GroupTrees)) (x a : Group)
    → n < length all → x ≡ get_or all n x → typed_labels env t s seen (group_tree x).labels ≡ Ok (record { labels = (group_tree a).labels; seen = seen_now })
    → typed_stmts env around ls (group_tree x).body ≡ gives (group_tree a).body now → new ≡ done ++ a ∷ []
    → behind_groups (map group_tree done) (typed_groups env around ls t s seen (groups_in_order (map group_tree (drop n all)))) ≡ whole
    → behind_groups (map group_tree new) (typed_groups env around now t s seen_now (groups_in_order (map group_tree (drop (n + 1) all)))) ≡ whole
group_turn env around ls now t s seen seen_now done new all n whole x a below is h k e inv =
    let rest = map group_tree (drop (n + 1) all) in
    ap (λ d. behind_groups d (typed_groups env around now t s seen_now (groups_in_order rest))) (ap (map group_tree) e ∙ map-append group_tree done (a ∷ []))
    ∙ sym (group_next env around ls now t s seen seen_now (map group_tree done) (group_tree x) (group_tree a) (groups_in_order rest) h k)
    ∙ ap (λ gs. behind_groups (map group_tree done) (typed_groups env around ls t s seen (groups_in_order gs))) (sym (next_of group_tree all n x below is))
    ∙ inv

pub groups_over : (env : Declared) (around : Around) (ls : Locals) (t : CInt) (s : Span) (seen : Seen) (done all : List Group) (n : ℕ) (whole : Judged (After GroupTrees)) → length all ≤ n
    → behind_groups (map group_tree done) (typed_groups env around ls t s seen (groups_in_order (map group_tree (drop n all)))) ≡ whole
    → whole ≡ gives (groups_in_order (map group_tree done)) ls
groups_over env around ls t s seen done all n whole past inv =
    sym inv
    ∙ ap (λ gs. behind_groups (map group_tree done) (typed_groups env around ls t s seen (groups_in_order (map group_tree gs)))) (drop_all n all past)
    ∙ groups_end (map group_tree done) env around ls t s seen

pub group_tells : (e : SemaFault) (env : Declared) (around : Around) (ls : Locals) (t : CInt) (s : Span) (seen : Seen) (l : Labelled) (done all : List Group) (n : ℕ) (whole : Judged (After GroupTrees)) (x : Group)
    → n < length all → x ≡ get_or all n x → typed_labels env t s seen (group_tree x).labels ≡ Ok l → Tells e (typed_stmts env around ls (group_tree x).body)
    → behind_groups (map group_tree done) (typed_groups env around ls t s seen (groups_in_order (map group_tree (drop n all)))) ≡ whole
    → Tells e whole
group_tells e env around ls t s seen l done all n whole x below is h k inv =
    let rest = map group_tree (drop (n + 1) all) in
    subst (Tells e)
    (ap (λ gs. behind_groups (map group_tree done) (typed_groups env around ls t s seen (groups_in_order gs))) (sym (next_of group_tree all n x below is)) ∙ inv)
    (body_breaks e env around ls t s seen l (map group_tree done) (group_tree x) (groups_in_order rest) h k)
