-- The code of statements keeps what is asked of each line and end.
use Rattle.std.proofs.Common.{ℕ, ℤ, ◌+◌, ◌<◌, Bool, true, false, List, [], ◌∷◌, ◌++◌, Option, Some, None, is_some, arith}
use Rattle.std.specs.List.{list_any}
use Rattle.std.specs.Prelude.{All, if◌then◌else◌}
use Rattle.std.proofs.lemmas.List.Elements.{All-head}
use Rattle.cx_base.specs.declared.span.Span.{Span}
use Rattle.cx_cconst.specs.Constants.{number_type, converted, constant_in}
use Rattle.cx_cmean.specs.Numbers.{number_of, is_same}
use Rattle.cx_cmean.specs.Statements.{or_none, label_number, is_default}
use Rattle.cx_ctree.specs.Conversions.{promoted}
use Rattle.cx_ctree.specs.Exprs.{ExprTree, span_of, type_of, RhsTree, EffectTree}
use Rattle.cx_ctree.specs.Stmts.{StmtTree, stmt, StmtKindTree, block, empty, effect, declare, if_alone, if_else, while, do_while, for, switch, break, continue, return, StmtTrees, no_stmt, also_stmt, GroupTrees, no_group, also_group}
use Rattle.cx_ctree.specs.Types.{TypeTree}
use Rattle.cx_gline.proofs.Keeping.{Keeps, Allows, all_split}
use Rattle.cx_gline.proofs.Effects.{keeps_right, keeps_effect}
use Rattle.cx_gline.proofs.Values.{keeps_converts, keeps_of}
use Rattle.cx_gline.specs.Inside.{numbers_in, effect_numbers, effects_numbers, optional_numbers, labels_numbers, stmt_numbers, kind_stmt_numbers, stmts_numbers, groups_numbers, returns_in, kind_returns, stmts_returns, groups_returns}
use Rattle.cx_lcode.specs.Items.{Item, first_token}
use Rattle.cx_lcode.specs.Places.{last, effect_last, effects_last, condition_last, labels_last, all_labels_last, stmt_last, kind_stmt_last, stmts_last, groups_last}
use Rattle.cx_lcode.specs.Statements.{Setting, effects_code, test_code, condition_code, labels_code, all_labels_code, default_block, stmt_code, kind_code, stmts_code, groups_code}
use Rattle.cx_lright.proofs.Grows.{grows, effects_grow, condition_grows, all_labels_grow, labels_grow, stmt_grows, stmts_grow, groups_grow}
use Rattle.cx_lright.specs.Fine.{EffectsFine, StmtFine, KindStmtFine, StmtsFine, GroupsFine}

below_if : (z : Bool) (a b n : ℕ) → a < n → b < n → (if z then a else b) < n
below_if true a b n h k = h
below_if false a b n h k = k

-- the block of the default is below a number that the last block is below
default_below : (gs : GroupTrees) (g e n : ℕ) → groups_last gs g < n → e < n → default_block (g + 1) e gs < n
default_below no_group g e n lt le = le
default_below (also_group labels body gs) g e n lt le =
    let a = stmts_grow body (g + 1) in let c = groups_grow gs (stmts_last body (g + 1)) in
    below_if (list_any is_default labels) (g + 1) _ n (omega (arith, a, c, lt)) (default_below gs (stmts_last body (g + 1)) e n lt le)

module _ (z : Setting) (C : ℤ → Type 0) (R : Bool → Type 0) (n : ℕ) (ok : Allows z.unit C) where
  keeps_test : (q : Span) (c : ExprTree) → All C (numbers_in c) → (b j m : ℕ) (rest : List Item) → (last c).test b < n → j < n → m < n → Keeps z.unit C R n rest → Keeps z.unit C R n (test_code z q c b j m rest)
  keeps_test q c h b j m rest lt lj lm k = (keeps_of z.unit C R n ok q c h).test b z.served j m z.served rest lt lj lm k

  keeps_condition : (q : Span) (o : Option ExprTree) → All C (optional_numbers o) → (b j m : ℕ) (rest : List Item) → condition_last o b < n → j < n → m < n → Keeps z.unit C R n rest → Keeps z.unit C R n (condition_code z q o b j m rest)
  keeps_condition q None h b j m rest lt lj lm k = (lj, k)
  keeps_condition q (Some c) h b j m rest lt lj lm k = keeps_test q c h b j m rest lt lj lm k

  keeps_effects : (L : ℕ) (q : Span) (es : List EffectTree) → EffectsFine z.unit L es → All C (effects_numbers es) → (b : ℕ) (rest : List Item) → effects_last es b < n → Keeps z.unit C R n rest → Keeps z.unit C R n (effects_code z q es b rest)
  keeps_effects L q [] fine h b rest lt k = k
  keeps_effects L q (e ∷ es) fine h b rest lt k =
      let p = all_split C (effect_numbers e) (effects_numbers es) h in let up = effects_grow es (effect_last e b) in
      keeps_effect z.unit C R n ok L q e fine.0 p.0 b z.served _ (omega (arith, up, lt)) (keeps_effects L q es fine.1 p.1 (effect_last e b) rest lt k)

  label_keeps : (t : TypeTree) (e : ExprTree) → C (or_none (constant_in z.unit.known e)) → C (label_number z.unit t e)
  label_keeps t e h = by (is_same (number_of e) (promoted (number_type t)))
    where
      by : (y : Bool) → C (if y then or_none (constant_in z.unit.known e) else converted (promoted (number_type t)) (or_none (constant_in z.unit.known e)))
      by true = h
      by false = ok.wraps (promoted (number_type t)) (or_none (constant_in z.unit.known e))

  keeps_labels : (sv : Span) (t : TypeTree) (g : ℕ) (ls : List (Option ExprTree)) → All C (labels_numbers ls) → (b : ℕ) (rest : List Item) → g < n → labels_last ls b < n → Keeps z.unit C R n rest → Keeps z.unit C R n (labels_code z sv t g ls b rest)
  keeps_labels sv t g [] h b rest lg lt k = k
  keeps_labels sv t g (None ∷ ls) h b rest lg lt k = keeps_labels sv t g ls h b rest lg lt k
  keeps_labels sv t g (Some e ∷ ls) h b rest lg lt k =
      let p = all_split C (numbers_in e) (labels_numbers ls) h in let up = labels_grow ls (b + 1) in
      (label_keeps t e (ok.label e p.0), ((lg, omega (arith, up, lt)), keeps_labels sv t g ls p.1 (b + 1) rest lg lt k))

  keeps_all_labels : (sv : Span) (t : TypeTree) (g : ℕ) (gs : GroupTrees) → All C (groups_numbers gs) → (b : ℕ) (rest : List Item) → groups_last gs g < n → all_labels_last gs b < n → Keeps z.unit C R n rest → Keeps z.unit C R n (all_labels_code z sv t (g + 1) gs b rest)
  keeps_all_labels sv t g no_group h b rest lg lt k = k
  keeps_all_labels sv t g (also_group labels body gs) h b rest lg lt k =
      let p = all_split C (labels_numbers labels) (stmts_numbers body ++ groups_numbers gs) h in let r = all_split C (stmts_numbers body) (groups_numbers gs) p.1 in
      let a = stmts_grow body (g + 1) in let c = groups_grow gs (stmts_last body (g + 1)) in let up = all_labels_grow gs (labels_last labels b) in
      keeps_labels sv t (g + 1) labels p.0 b _ (omega (arith, a, c, lg)) (omega (arith, up, lt)) (keeps_all_labels sv t (stmts_last body (g + 1)) gs r.1 (labels_last labels b) rest lg lt k)

  abbrev Given : Option RhsTree → Type 0
  Given r = R (is_some r)

  mutual
    pub keeps_stmt : (L : ℕ) (il iw : Bool) (s : StmtTree) → StmtFine z.unit L il iw s → All C (stmt_numbers s) → All Given (returns_in s)
        → (b out next : ℕ) (rest : List Item) → stmt_last s b < n → out < n → next < n → Keeps z.unit C R n rest → Keeps z.unit C R n (stmt_code z b out next s rest)
    keeps_stmt L il iw (stmt s k) fine h g b out next rest lt lo ln r = keeps_kind L il iw (first_token z.tokens s) s k fine h g b out next rest lt lo ln r

    keeps_kind : (L : ℕ) (il iw : Bool) (q s : Span) (k : StmtKindTree) → KindStmtFine z.unit L il iw k → All C (kind_stmt_numbers k) → All Given (kind_returns k)
        → (b out next : ℕ) (rest : List Item) → kind_stmt_last k b < n → out < n → next < n → Keeps z.unit C R n rest → Keeps z.unit C R n (kind_code z q s b out next k rest)
    keeps_kind L il iw q s (block ss) fine h g b out next rest lt lo ln r = keeps_stmts L il iw ss fine h g b out next rest lt lo ln r
    keeps_kind L il iw q s empty fine h g b out next rest lt lo ln r = r
    keeps_kind L il iw q s (effect e) fine h g b out next rest lt lo ln r = keeps_effect z.unit C R n ok L q e fine h b z.served rest lt r
    keeps_kind L il iw q s (declare x t None) fine h g b out next rest lt lo ln r = (tt, r)
    keeps_kind L il iw q s (declare x t (Some v)) fine h g b out next rest lt lo ln r = keeps_right z.unit C R n ok L s t v fine.1 h b z.served _ lt (tt, r)
    keeps_kind L il iw q s (if_alone c x) fine h g b out next rest lt lo ln r =
        let p = all_split C (numbers_in c) (stmt_numbers x) h in let j = (last c).test b + 1 in let up = stmt_grows x j in
        keeps_test q c p.0 b j (stmt_last x j + 1) _ (omega (arith, up, lt)) (omega (arith, up, lt)) lt (keeps_stmt L il iw x fine.1 p.1 g j out next _ (omega (arith, lt)) lo ln (lt, r))
    keeps_kind L il iw q s (if_else c x y) fine h g b out next rest lt lo ln r =
        let p = all_split C (numbers_in c) (stmt_numbers x ++ stmt_numbers y) h in let o = all_split C (stmt_numbers x) (stmt_numbers y) p.1 in let v = all_split Given (returns_in x) (returns_in y) g in
        let j = (last c).test b + 1 in let m = stmt_last x j + 1 in let a = stmt_grows x j in let e = stmt_grows y m in
        keeps_test q c p.0 b j m _ (omega (arith, a, e, lt)) (omega (arith, a, e, lt)) (omega (arith, e, lt))
        (keeps_stmt L il iw x fine.1 o.0 v.0 j out next _ (omega (arith, e, lt)) lo ln (lt, keeps_stmt L il iw y fine.2 o.1 v.1 m out next _ (omega (arith, lt)) lo ln (lt, r)))
    keeps_kind L il iw q s (while c x) fine h g b out next rest lt lo ln r =
        let p = all_split C (numbers_in c) (stmt_numbers x) h in let j = (last c).test (b + 1) + 1 in let a = (grows c).test (b + 1) in let up = stmt_grows x j in
        let lh : b + 1 < n = omega (arith, a, up, lt) in
        (lh, keeps_test q c p.0 (b + 1) j (stmt_last x j + 1) _ (omega (arith, up, lt)) (omega (arith, up, lt)) lt (keeps_stmt L true true x fine.1 p.1 g j (stmt_last x j + 1) (b + 1) _ (omega (arith, lt)) lt lh (lh, r)))
    keeps_kind L il iw q s (do_while x c) fine h g b out next rest lt lo ln r =
        let p = all_split C (stmt_numbers x) (numbers_in c) h in let k = stmt_last x (b + 1) + 1 in let a = stmt_grows x (b + 1) in let up = (grows c).test k in
        let lh : b + 1 < n = omega (arith, a, up, lt) in let lk : k < n = omega (arith, up, lt) in
        (lh, keeps_stmt L true true x fine.0 p.0 g (b + 1) ((last c).test k + 1) k _ (omega (arith, lk)) lt lk (lk, keeps_test q c p.1 k (b + 1) ((last c).test k + 1) rest (omega (arith, lt)) lh lt r))
    keeps_kind L il iw q s (for init c steps x) fine h g b out next rest lt lo ln r =
        let p = all_split C (stmts_numbers init) (optional_numbers c ++ (effects_numbers steps ++ stmt_numbers x)) h in let o = all_split C (optional_numbers c) (effects_numbers steps ++ stmt_numbers x) p.1 in
        let i = all_split C (effects_numbers steps) (stmt_numbers x) o.1 in let v = all_split Given (stmts_returns init) (returns_in x) g in
        let l = stmts_last init b + 1 in let j = condition_last c l + 1 in let k = stmt_last x j + 1 in let e = effects_last steps k + 1 in
        let a = condition_grows c l in let f = stmt_grows x j in let u = effects_grow steps k in
        let lk : k < n = omega (arith, u, lt) in let lj : j < n = omega (arith, f, lk) in let lh : l < n = omega (arith, a, lj) in
        keeps_stmts L il iw init fine.0 p.0 v.0 b out next _ (omega (arith, lh)) lo ln
        (lh, keeps_condition q c o.0 l j e _ (omega (arith, lj)) lj lt (keeps_stmt L true true x fine.3 i.1 v.1 j e k _ (omega (arith, lk)) lt lk (lk, keeps_effects L q steps fine.2 i.0 k _ (omega (arith, lt)) (lh, r))))
    keeps_kind L il iw q s (switch v gs) fine h g b out next rest lt lo ln r =
        let p = all_split C (numbers_in v) (groups_numbers gs) h in let a = (last v).val b in let m = all_labels_last gs a in let up = all_labels_grow gs a in let f = groups_grow gs m in
        let lg : groups_last gs m < n = omega (arith, lt) in
        (keeps_of z.unit C R n ok q v p.0).val b z.served _ (omega (arith, up, f, lg)) (keeps_converts z.unit C R n ok (span_of v) (number_of v) (promoted (number_type (type_of v))) z.served _
        (keeps_all_labels (span_of v) (type_of v) m gs p.1 a _ lg (omega (arith, f, lg)) (default_below gs m (groups_last gs m + 1) n lg lt, keeps_groups L il q gs fine.1 p.1 g m (groups_last gs m + 1) next rest lt lt ln r)))
    keeps_kind L il iw q s break fine h g b out next rest lt lo ln r = (lo, r)
    keeps_kind L il iw q s continue fine h g b out next rest lt lo ln r = (ln, r)
    keeps_kind L il iw q s (return None) fine h g b out next rest lt lo ln r = (All-head Given None [] g, r)
    keeps_kind L il iw q s (return (Some v)) fine h g b out next rest lt lo ln r = keeps_right z.unit C R n ok L q z.result v fine h b z.served _ (omega (arith, lt)) (All-head Given (Some v) [] g, r)

    keeps_stmts : (L : ℕ) (il iw : Bool) (ss : StmtTrees) → StmtsFine z.unit L il iw ss → All C (stmts_numbers ss) → All Given (stmts_returns ss)
        → (b out next : ℕ) (rest : List Item) → stmts_last ss b < n → out < n → next < n → Keeps z.unit C R n rest → Keeps z.unit C R n (stmts_code z b out next ss rest)
    keeps_stmts L il iw no_stmt fine h g b out next rest lt lo ln r = r
    keeps_stmts L il iw (also_stmt s ss) fine h g b out next rest lt lo ln r =
        let p = all_split C (stmt_numbers s) (stmts_numbers ss) h in let v = all_split Given (returns_in s) (stmts_returns ss) g in let up = stmts_grow ss (stmt_last s b) in
        keeps_stmt L il iw s fine.0 p.0 v.0 b out next _ (omega (arith, up, lt)) lo ln (keeps_stmts L il iw ss fine.1 p.1 v.1 (stmt_last s b) out next rest lt lo ln r)

    -- the groups of a switch, where the first begins in the block after m
    keeps_groups : (L : ℕ) (il : Bool) (q : Span) (gs : GroupTrees) → GroupsFine z.unit L il true gs → All C (groups_numbers gs) → All Given (groups_returns gs)
        → (m out next : ℕ) (rest : List Item) → groups_last gs m + 1 < n → out < n → next < n → Keeps z.unit C R n rest → Keeps z.unit C R n (groups_code z q (m + 1) out next gs rest)
    keeps_groups L il q no_group fine h g m out next rest lt lo ln r = r
    keeps_groups L il q (also_group labels body gs) fine h g m out next rest lt lo ln r =
        let p = all_split C (labels_numbers labels) (stmts_numbers body ++ groups_numbers gs) h in let o = all_split C (stmts_numbers body) (groups_numbers gs) p.1 in let v = all_split Given (stmts_returns body) (groups_returns gs) g in
        let e = stmts_last body (m + 1) in let up = groups_grow gs e in
        keeps_stmts L il true body fine.0 o.0 v.0 (m + 1) out next _ (omega (arith, up, lt)) lo ln (omega (arith, up, lt), keeps_groups L il q gs fine.1 o.1 v.1 e out next rest lt lo ln r)
