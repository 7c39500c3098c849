-- Lists of labels and of statements, judged one after another.
use Rattle.std.proofs.Common.{◌≡◌, List, [], ◌∷◌, ◌++◌, refl, ap, ◌∙◌, sym, append_assoc, subst, Option, None, Some}
use Rattle.std.specs.Prelude.{Result, Ok, Err}
use Rattle.cx_base.specs.declared.span.Span.{Span}
use Rattle.cx_base.specs.declared.number.CInt.{CInt}
use Rattle.cx_ctree.specs.Exprs.{ExprTree, span_of}
use Rattle.cx_ctree.specs.Stmts.{StmtTree, StmtTrees, no_stmt, also_stmt, in_order, GroupTree, GroupTrees, no_group, also_group, groups_in_order}
use Rattle.cx_cconst.specs.Constants.{constant_in}
use Rattle.cx_sname.specs.File.{Declared}
use Rattle.cx_scope.specs.Locals.{Locals, no_locals}
use Rattle.cx_snode.specs.declared.fault.SemaFault.{SemaFault}
use Rattle.cx_snode.specs.Judging.{Judged, ◌>>=◌, Tells, Gives}
use Rattle.cx_snode.proofs.Judged.{tells_then, gives_then}
use Rattle.cx_sexpr.specs.Typing.{typed}
use Rattle.cx_sstmt.specs.Labels.{Seen, Labelled, after_label, case_seen, default_seen, typed_labels}
use Rattle.cx_sstmt.specs.Around.{Leaves}
use Rattle.cx_sstmt.specs.Stmts.{Around, After, gives, staying, typed_stmt, typed_stmts, typed_groups}

-- what is judged of a statement that declares nothing
pub stays : {A : Type 0} (view : A → StmtTree) (r : Result A SemaFault) (ls : Locals) (j : Judged StmtTree) → Gives view r j → Leaves view r ls (staying ls j)
stays view (Ok x) ls j h = gives_then j (view x) (λ a. gives a ls) h
stays view (Err e) ls j h = tells_then e j (λ a. gives a ls) h

-- ---- labels

-- the labels that are done before those that are judged
abbrev pub behind_labels : List (Option ExprTree) → Judged Labelled → Judged Labelled
behind_labels done r = r >>= (λ l. Ok (record l { labels = done ++ l.labels }))

pub no_labels : (r : Judged Labelled) → behind_labels [] r ≡ r
no_labels (Ok l) = refl
no_labels (Err e) = refl

label_next : (done : List (Option ExprTree)) (x : Option ExprTree) (r : Judged Labelled) → behind_labels done (r >>= after_label x) ≡ behind_labels (done ++ x ∷ []) r
label_next done x (Ok l) = ap (λ ls. Ok (record l { labels = ls })) (sym (append_assoc done (x ∷ []) l.labels))
label_next done x (Err e) = refl

pub default_next : (env : Declared) (t : CInt) (s : Span) (seen now : Seen) (done ls : List (Option ExprTree)) → default_seen s seen ≡ Ok now
    → behind_labels done (typed_labels env t s seen (None ∷ ls)) ≡ behind_labels (done ++ None ∷ []) (typed_labels env t s now ls)
default_next env t s seen now done ls h =
    ap (behind_labels done) (gives_then (default_seen s seen) now (λ now. typed_labels env t s now ls >>= after_label None) h)
    ∙ label_next done None (typed_labels env t s now ls)

pub case_next : (env : Declared) (t : CInt) (s : Span) (seen now : Seen) (done ls : List (Option ExprTree)) (x a : ExprTree) → typed env no_locals x ≡ Ok a → case_seen (span_of x) t seen (constant_in env.known x) ≡ Ok now
    → behind_labels done (typed_labels env t s seen (Some x ∷ ls)) ≡ behind_labels (done ++ Some a ∷ []) (typed_labels env t s now ls)
case_next env t s seen now done ls x a h k =
    ap (behind_labels done)
    (gives_then (typed env no_locals x) a (λ a. case_seen (span_of x) t seen (constant_in env.known x) >>= (λ now. typed_labels env t s now ls >>= after_label (Some a))) h
    ∙ gives_then (case_seen (span_of x) t seen (constant_in env.known x)) now (λ now. typed_labels env t s now ls >>= after_label (Some a)) k)
    ∙ label_next done (Some a) (typed_labels env t s now ls)

pub default_breaks : (e : SemaFault) (env : Declared) (t : CInt) (s : Span) (seen : Seen) (done ls : List (Option ExprTree)) → Tells e (default_seen s seen) → Tells e (behind_labels done (typed_labels env t s seen (None ∷ ls)))
default_breaks e env t s seen done ls h = tells_then e _ _ (tells_then e (default_seen s seen) (λ now. typed_labels env t s now ls >>= after_label None) h)

pub value_breaks : (e : SemaFault) (env : Declared) (t : CInt) (s : Span) (seen : Seen) (done ls : List (Option ExprTree)) (x : ExprTree) → Tells e (typed env no_locals x) → Tells e (behind_labels done (typed_labels env t s seen (Some x ∷ ls)))
value_breaks e env t s seen done ls x h =
    tells_then e _ _ (tells_then e (typed env no_locals x) (λ a. case_seen (span_of x) t seen (constant_in env.known x) >>= (λ now. typed_labels env t s now ls >>= after_label (Some a))) h)

pub case_breaks : (e : SemaFault) (env : Declared) (t : CInt) (s : Span) (seen : Seen) (done ls : List (Option ExprTree)) (x a : ExprTree) → typed env no_locals x ≡ Ok a → Tells e (case_seen (span_of x) t seen (constant_in env.known x))
    → Tells e (behind_labels done (typed_labels env t s seen (Some x ∷ ls)))
case_breaks e env t s seen done ls x a h k =
    tells_then e _ _
    (subst (Tells e)
    (sym (gives_then (typed env no_locals x) a (λ a. case_seen (span_of x) t seen (constant_in env.known x) >>= (λ now. typed_labels env t s now ls >>= after_label (Some a))) h))
    (tells_then e (case_seen (span_of x) t seen (constant_in env.known x)) (λ now. typed_labels env t s now ls >>= after_label (Some a)) k))

-- ---- statements

-- these statements, and then the others
abbrev pub before : List StmtTree → StmtTrees → StmtTrees
before [] ss = ss
before (s ∷ done) ss = also_stmt s (before done ss)

before_none : (done : List StmtTree) → before done no_stmt ≡ in_order done
before_none [] = refl
before_none (s ∷ done) = ap (also_stmt s) (before_none done)

before_next : (done : List StmtTree) (s : StmtTree) (ss : StmtTrees) → before (done ++ s ∷ []) ss ≡ before done (also_stmt s ss)
before_next [] s ss = refl
before_next (d ∷ done) s ss = ap (also_stmt d) (before_next done s ss)

abbrev pub behind_stmts : List StmtTree → Judged (After StmtTrees) → Judged (After StmtTrees)
behind_stmts done r = r >>= (λ a. gives (before done a.tree) a.locals)

pub no_stmts : (r : Judged (After StmtTrees)) → behind_stmts [] r ≡ r
no_stmts (Ok a) = refl
no_stmts (Err e) = refl

pub stmts_end : (done : List StmtTree) (env : Declared) (around : Around) (ls : Locals) → behind_stmts done (typed_stmts env around ls no_stmt) ≡ gives (in_order done) ls
stmts_end done env around ls = ap (λ ss. gives ss ls) (before_none done)

stmt_behind : (done : List StmtTree) (s : StmtTree) (r : Judged (After StmtTrees)) → behind_stmts done (r >>= (λ b. gives (also_stmt s b.tree) b.locals)) ≡ behind_stmts (done ++ s ∷ []) r
stmt_behind done s (Ok b) = ap (λ ss. gives ss b.locals) (sym (before_next done s b.tree))
stmt_behind done s (Err e) = refl

pub stmt_next : (env : Declared) (around : Around) (ls now : Locals) (done : List StmtTree) (s u : StmtTree) (ss : StmtTrees) → typed_stmt env around ls s ≡ gives u now
    → behind_stmts done (typed_stmts env around ls (also_stmt s ss)) ≡ behind_stmts (done ++ u ∷ []) (typed_stmts env around now ss)
stmt_next env around ls now done s u ss h =
    ap (behind_stmts done) (gives_then (typed_stmt env around ls s) (record { tree = u; locals = now }) (λ a. typed_stmts env around a.locals ss >>= (λ b. gives (also_stmt a.tree b.tree) b.locals)) h)
    ∙ stmt_behind done u (typed_stmts env around now ss)

pub stmt_breaks : (e : SemaFault) (env : Declared) (around : Around) (ls : Locals) (done : List StmtTree) (s : StmtTree) (ss : StmtTrees) → Tells e (typed_stmt env around ls s) → Tells e (behind_stmts done (typed_stmts env around ls (also_stmt s ss)))
stmt_breaks e env around ls done s ss h =
    tells_then e _ _ (tells_then e (typed_stmt env around ls s) (λ a. typed_stmts env around a.locals ss >>= (λ b. gives (also_stmt a.tree b.tree) b.locals)) h)

-- ---- groups

-- these groups, and then the others
abbrev pub before_groups : List GroupTree → GroupTrees → GroupTrees
before_groups [] gs = gs
before_groups (g ∷ done) gs = also_group g.labels g.body (before_groups done gs)

groups_before_none : (done : List GroupTree) → before_groups done no_group ≡ groups_in_order done
groups_before_none [] = refl
groups_before_none (g ∷ done) = ap (also_group g.labels g.body) (groups_before_none done)

groups_before_next : (done : List GroupTree) (g : GroupTree) (gs : GroupTrees) → before_groups (done ++ g ∷ []) gs ≡ before_groups done (also_group g.labels g.body gs)
groups_before_next [] g gs = refl
groups_before_next (d ∷ done) g gs = ap (also_group d.labels d.body) (groups_before_next done g gs)

abbrev pub behind_groups : List GroupTree → Judged (After GroupTrees) → Judged (After GroupTrees)
behind_groups done r = r >>= (λ a. gives (before_groups done a.tree) a.locals)

pub no_groups : (r : Judged (After GroupTrees)) → behind_groups [] r ≡ r
no_groups (Ok a) = refl
no_groups (Err e) = refl

pub groups_end : (done : List GroupTree) (env : Declared) (around : Around) (ls : Locals) (t : CInt) (s : Span) (seen : Seen) → behind_groups done (typed_groups env around ls t s seen no_group) ≡ gives (groups_in_order done) ls
groups_end done env around ls t s seen = ap (λ gs. gives gs ls) (groups_before_none done)

group_behind : (done : List GroupTree) (g : GroupTree) (r : Judged (After GroupTrees)) → behind_groups done (r >>= (λ b. gives (also_group g.labels g.body b.tree) b.locals)) ≡ behind_groups (done ++ g ∷ []) r
group_behind done g (Ok b) = ap (λ gs. gives gs b.locals) (sym (groups_before_next done g b.tree))
group_behind done g (Err e) = refl

-- what follows the labels of a group
abbrev body_then : Declared → Around → Locals → CInt → Span → StmtTrees → GroupTrees → Labelled → Judged (After GroupTrees)
body_then env around ls t s ss gs l = typed_stmts env around ls ss >>= (λ a. typed_groups env around a.locals t s l.seen gs >>= (λ b. gives (also_group l.labels a.tree b.tree) b.locals))

-- what follows the statements of a group with these labels
abbrev groups_then : Declared → Around → CInt → Span → GroupTrees → Labelled → After StmtTrees → Judged (After GroupTrees)
groups_then env around t s gs l a = typed_groups env around a.locals t s l.seen gs >>= (λ b. gives (also_group l.labels a.tree b.tree) b.locals)

pub group_next : (env : Declared) (around : Around) (ls now : Locals) (t : CInt) (s : Span) (seen seen_now : Seen) (done : List GroupTree) (g h : GroupTree) (gs : GroupTrees)
    → typed_labels env t s seen g.labels ≡ Ok (record { labels = h.labels; seen = seen_now }) → typed_stmts env around ls g.body ≡ gives h.body now
    → behind_groups done (typed_groups env around ls t s seen (also_group g.labels g.body gs)) ≡ behind_groups (done ++ h ∷ []) (typed_groups env around now t s seen_now gs)
group_next env around ls now t s seen seen_now done g h gs p q =
    ap (behind_groups done)
    (gives_then (typed_labels env t s seen g.labels) (record { labels = h.labels; seen = seen_now }) (body_then env around ls t s g.body gs) p
    ∙ gives_then (typed_stmts env around ls g.body) (record { tree = h.body; locals = now }) (groups_then env around t s gs (record { labels = h.labels; seen = seen_now })) q)
    ∙ group_behind done h (typed_groups env around now t s seen_now gs)

pub labels_break : (e : SemaFault) (env : Declared) (around : Around) (ls : Locals) (t : CInt) (s : Span) (seen : Seen) (done : List GroupTree) (g : GroupTree) (gs : GroupTrees)
    → Tells e (typed_labels env t s seen g.labels) → Tells e (behind_groups done (typed_groups env around ls t s seen (also_group g.labels g.body gs)))
labels_break e env around ls t s seen done g gs h = tells_then e _ _ (tells_then e (typed_labels env t s seen g.labels) (body_then env around ls t s g.body gs) h)

pub body_breaks : (e : SemaFault) (env : Declared) (around : Around) (ls : Locals) (t : CInt) (s : Span) (seen : Seen) (l : Labelled) (done : List GroupTree) (g : GroupTree) (gs : GroupTrees)
    → typed_labels env t s seen g.labels ≡ Ok l → Tells e (typed_stmts env around ls g.body) → Tells e (behind_groups done (typed_groups env around ls t s seen (also_group g.labels g.body gs)))
body_breaks e env around ls t s seen l done g gs p h =
    tells_then e _ _
    (subst (Tells e)
    (sym (gives_then (typed_labels env t s seen g.labels) l (body_then env around ls t s g.body gs) p))
    (tells_then e (typed_stmts env around ls g.body) (groups_then env around t s gs l) h))
