-- What stands in the code after an effect and after a statement.
use Rattle.std.proofs.Common.{ℕ, pos, ◌≡◌, ◌+◌, Bool, true, List, [], ◌∷◌, length, Option, Some, None, arith}
use Rattle.cx_base.specs.declared.span.Span.{Span}
use Rattle.cx_base.specs.declared.token.Token.{Token}
use Rattle.cx_cconst.specs.Constants.{number_type}
use Rattle.cx_cmean.specs.Effects.{taken_as, pointee_of, local_of, operand_of}
use Rattle.cx_cmean.specs.Numbers.{value_type, number_of, applied_in, right_in}
use Rattle.cx_cmean.specs.Program.{function_of, unit_in}
use Rattle.cx_ctree.specs.Conversions.{unsigned_long, promoted}
use Rattle.cx_ctree.specs.Exprs.{ExprTree, span_of, type_of, CallTree, RhsTree, value, call, EffectTree, set, update, call_alone, value_alone}
use Rattle.cx_ctree.specs.Stmts.{StmtTree, stmt, StmtKindTree, block, empty, effect, declare, if_alone, if_else, while, do_while, for, switch, break, continue, return, StmtTrees, no_stmt, also_stmt, GroupTrees, no_group, also_group}
use Rattle.cx_ctree.specs.Types.{TypeTree, void, int, pointer, array, tag}
use Rattle.cx_ctree.specs.declared.expr.Binary.{Binary}
use Rattle.cx_goto.specs.Trees.{const, bin, copy}
use Rattle.cx_goto.specs.declared.code.End.TheVariants.{Jump, Return}
use Rattle.cx_goto.specs.declared.code.Op.TheVariants.{Mul}
use Rattle.cx_lcode.specs.Effects.{arguments_code, call_code, right_code, left_at_code, read_code, write_code, updates, effect_code}
use Rattle.cx_lcode.specs.Items.{Item, start, does, converts, first_token}
use Rattle.cx_lcode.specs.Lines.{calls}
use Rattle.cx_lcode.specs.Places as places
use Rattle.cx_lcode.specs.Places.{last, last_all, right_last, left_at_last, effect_last, effects_last, condition_last, labels_last, all_labels_last, stmt_last, stmts_last, groups_last}
use Rattle.cx_lcode.specs.Statements.{Setting, effects_code, test_code, condition_code, labels_code, all_labels_code, default_block, stmt_code, kind_code, stmts_code, groups_code}
use Rattle.cx_lcode.specs.Values.{op_of, code_of}
use Rattle.cx_lright.proofs.Machine.{Coded, Keeps, HasAt}
use Rattle.cx_lright.proofs.Rests.{after_converts, after_number, rest_of, place_rest}
use Rattle.cx_lright.specs.Fine.{CallFine, RightFine, EffectFine, EffectsFine, StmtFine, StmtsFine, GroupsFine, KindStmtFine}

-- the setting of the statements of a function of the program
abbrev pub in_setting : Coded → List Token → TypeTree → ℕ → Setting
in_setting c tokens r L = record { unit = c.program.unit; tokens = tokens; result = r; served = L }

abbrev Rests : Coded → ℕ → List Item → Type 0
Rests c b rest = (i' : ℕ) × HasAt c b i' rest

-- ---- effects

after_arguments : (c : Coded) (q : Span) (es : List ExprTree) (ts : List TypeTree) → length es ≡ length ts → (b i t : ℕ) (rest : List Item) → HasAt c b i (arguments_code c.program.unit q es ts b t rest) → Rests c (last_all es b) rest
after_arguments c q [] ts e b i t rest h = (i, h)
after_arguments c q (x ∷ es) [] e b i t rest h = absurd (omega (arith, e))
after_arguments c q (x ∷ es) (p ∷ ps) e b i t rest h =
    let d = c.program.unit in
    let r = after_number c (last x).val (code_of d q x).val (span_of x) (number_of x) (number_type p) (rest_of c d q x).val b i t (arguments_code d q es ps ((last x).val b) (t + 1) rest) h in
    after_arguments c q es ps (omega (arith, e)) ((last x).val b) r.0 (t + 1) rest r.1

after_call : (c : Coded) (L : ℕ) (q : Span) (k : CallTree) (p : Option TypeTree) → CallFine c.program.unit L k → (b i : ℕ) (rest : List Item) → HasAt c b i (call_code c.program.unit q k p b L rest) → Rests c (last_all k.args b) rest
after_call c L q k p fine b i rest h = let r = after_arguments c q k.args (function_of c.program.unit k.name).params fine.1 b i L (calls k p L ∷ rest) h in (r.0 + 1, r.1.1)

pub after_right : (c : Coded) (L : ℕ) (q : Span) (t : TypeTree) (r : RhsTree) → RightFine c.program.unit L r → (b i : ℕ) (rest : List Item) → HasAt c b i (right_code c.program.unit q t r b L rest) → Rests c (right_last r b) rest
after_right c L q t (value e) fine b i rest h = after_number c (last e).val (code_of c.program.unit q e).val (span_of e) (number_of e) (number_type t) (rest_of c c.program.unit q e).val b i L rest h
after_right c L q t (call k w) fine b i rest h =
    let d = c.program.unit in let tk = number_type (taken_as w t) in let f = number_type (function_of d k.name).result in let more = converts k.span tk (number_type t) L rest in
    let r = after_call c L q k (pointee_of (taken_as w t)) fine.0 b i (converts k.span f tk L more) h in
    let s = after_converts c (last_all k.args b) r.0 k.span f tk L more r.1 in after_converts c (last_all k.args b) s.0 k.span tk (number_type t) L rest s.1

after_left : (c : Coded) (L : ℕ) (q : Span) (l : ExprTree) (o : Option ℕ) (b i : ℕ) (rest : List Item) → HasAt c b i (left_at_code c.program.unit q l o b L rest) → Rests c (left_at_last l o b) rest
after_left c L q l (Some x) b i rest h = (i, h)
after_left c L q l None b i rest h = place_rest c c.program.unit q l b i (L + 1) rest h

after_read : (c : Coded) (L t : ℕ) (l : ExprTree) (o : Option ℕ) (b i : ℕ) (rest : List Item) → HasAt c b i (read_code l o L t ∷ rest) → HasAt c b (i + 1) rest
after_read c L t l (Some x) b i rest h = h.1
after_read c L t l None b i rest h = h.1

after_write : (c : Coded) (L t : ℕ) (l : ExprTree) (o : Option ℕ) (b i : ℕ) (rest : List Item) → HasAt c b i (write_code l o L t ∷ rest) → HasAt c b (i + 1) rest
after_write c L t l (Some x) b i rest h = h.1
after_write c L t l None b i rest h = h.1

after_updates : (c : Coded) (L : ℕ) (s : Span) (op : Binary) (t u : TypeTree) (b i : ℕ) (rest : List Item) → HasAt c b i (updates c.program.unit s op t u L rest) → Rests c b rest
after_updates c L s op (int t) (int u) b i rest h =
    let k = applied_in op t u in let r = right_in op t u in let last_one = converts s k t (L + 2) rest in let middle = does s (bin (L + 2) (op_of op) k (L + 2) L) ∷ last_one in
    let h1 = after_converts c b i s t k (L + 2) (converts s u r L middle) h in let h2 = after_converts c b h1.0 s u r L middle h1.1 in after_converts c b (h2.0 + 1) s k t (L + 2) rest h2.1.1
after_updates c L s op (pointer t) (int u) b i rest h =
    let more = does s (const (L + 3) (pos (unit_in c.program.unit t))) ∷ does s (bin L Mul unsigned_long L (L + 3)) ∷ does s (bin (L + 2) (op_of op) unsigned_long (L + 2) L) ∷ rest in
    let h1 = after_converts c b i s u unsigned_long L more h in (h1.0 + 1 + 1 + 1, h1.1.1.1.1)
after_updates c L s op void u b i rest h = (i, h)
after_updates c L s op (array t n) u b i rest h = (i, h)
after_updates c L s op (tag t) u b i rest h = (i, h)
after_updates c L s op (int t) void b i rest h = (i, h)
after_updates c L s op (int t) (pointer u) b i rest h = (i, h)
after_updates c L s op (int t) (array u n) b i rest h = (i, h)
after_updates c L s op (int t) (tag u) b i rest h = (i, h)
after_updates c L s op (pointer t) void b i rest h = (i, h)
after_updates c L s op (pointer t) (pointer u) b i rest h = (i, h)
after_updates c L s op (pointer t) (array u n) b i rest h = (i, h)
after_updates c L s op (pointer t) (tag u) b i rest h = (i, h)

pub after_effect : (c : Coded) (L : ℕ) (q : Span) (e : EffectTree) → EffectFine c.program.unit L e → (b i : ℕ) (rest : List Item) → HasAt c b i (effect_code c.program.unit q e b L rest) → Rests c (effect_last e b) rest
after_effect c L q (set l r s) fine b i rest h =
    let o = local_of l in let more = write_code l o L L ∷ rest in
    let h1 = after_right c L q (type_of l) r fine.0 b i (left_at_code c.program.unit q l o (right_last r b) L more) h in let h2 = after_left c L q l o (right_last r b) h1.0 more h1.1 in
    (h2.0 + 1, after_write c L L l o (left_at_last l o (right_last r b)) h2.0 rest h2.1)
after_effect c L q (update op l e s) fine b i rest h =
    let d = c.program.unit in let o = local_of l in let t = type_of l in let u = value_type (type_of e) in let b1 = (last e).val b in let b2 = left_at_last l o b1 in
    let write = write_code l o L (L + 2) ∷ rest in let change = updates d s op t u L write in let read = read_code l o L (L + 2) ∷ change in
    let h1 = (rest_of c d q e).val b i L (left_at_code d q l o b1 L read) h in let h2 = after_left c L q l o b1 h1.0 read h1.1 in let h3 = after_read c L (L + 2) l o b2 h2.0 change h2.1 in
    let h4 = after_updates c L s op t u b2 (h2.0 + 1) write h3 in (h4.0 + 1, after_write c L (L + 2) l o b2 h4.0 rest h4.1)
after_effect c L q (call_alone k) fine b i rest h = after_call c L q k None fine b i rest h
after_effect c L q (value_alone e) fine b i rest h = (rest_of c c.program.unit q (operand_of e)).val b i L rest h

pub after_effects : (c : Coded) (tokens : List Token) (r : TypeTree) (L : ℕ) (q : Span) (es : List EffectTree) → EffectsFine c.program.unit L es → (b i : ℕ) (rest : List Item) → HasAt c b i (effects_code (in_setting c tokens r L) q es b rest) → Rests c (effects_last es b) rest
after_effects c tokens r L q [] fine b i rest h = (i, h)
after_effects c tokens r L q (e ∷ es) fine b i rest h =
    let h1 = after_effect c L q e fine.0 b i (effects_code (in_setting c tokens r L) q es (effect_last e b) rest) h in after_effects c tokens r L q es fine.1 (effect_last e b) h1.0 rest h1.1

-- ---- statements

pub after_condition : (c : Coded) (tokens : List Token) (r : TypeTree) (L : ℕ) (q : Span) (o : Option ExprTree) (b i j m : ℕ) (rest : List Item) → HasAt c b i (condition_code (in_setting c tokens r L) q o b j m rest)
    → Keeps c (condition_last o b + 1) L × HasAt c (condition_last o b + 1) 0 rest
after_condition c tokens r L q None b i j m rest h = (h.1, h.2)
after_condition c tokens r L q (Some e) b i j m rest h = (rest_of c c.program.unit q e).test b i L j m L rest h

pub after_labels : (c : Coded) (tokens : List Token) (r : TypeTree) (L : ℕ) (sv : Span) (t : TypeTree) (g : ℕ) (ls : List (Option ExprTree)) (b i : ℕ) (rest : List Item) → HasAt c b i (labels_code (in_setting c tokens r L) sv t g ls b rest) → Rests c (labels_last ls b) rest
after_labels c tokens r L sv t g [] b i rest h = (i, h)
after_labels c tokens r L sv t g (None ∷ ls) b i rest h = after_labels c tokens r L sv t g ls b i rest h
after_labels c tokens r L sv t g (Some e ∷ ls) b i rest h = after_labels c tokens r L sv t g ls (b + 1) 0 rest h.1.2

pub after_all_labels : (c : Coded) (tokens : List Token) (r : TypeTree) (L : ℕ) (sv : Span) (t : TypeTree) (g : ℕ) (gs : GroupTrees) (b i : ℕ) (rest : List Item) → HasAt c b i (all_labels_code (in_setting c tokens r L) sv t g gs b rest) → Rests c (all_labels_last gs b) rest
after_all_labels c tokens r L sv t g no_group b i rest h = (i, h)
after_all_labels c tokens r L sv t g (also_group labels body gs) b i rest h =
    let h1 = after_labels c tokens r L sv t g labels b i (all_labels_code (in_setting c tokens r L) sv t (stmts_last body g + 1) gs (labels_last labels b) rest) h in
    after_all_labels c tokens r L sv t (stmts_last body g + 1) gs (labels_last labels b) h1.0 rest h1.1

mutual
  pub stmt_rest : (c : Coded) (tokens : List Token) (r : TypeTree) (L : ℕ) (il iw : Bool) (s : StmtTree) → StmtFine c.program.unit L il iw s → (b i out next : ℕ) (rest : List Item) → HasAt c b i (stmt_code (in_setting c tokens r L) b out next s rest) → Rests c (stmt_last s b) rest
  stmt_rest c tokens r L il iw (stmt s k) fine b i out next rest h = kind_stmt_rest c tokens r L il iw (first_token tokens s) s k fine b i out next rest h

  pub kind_stmt_rest : (c : Coded) (tokens : List Token) (r : TypeTree) (L : ℕ) (il iw : Bool) (q s : Span) (k : StmtKindTree) → KindStmtFine c.program.unit L il iw k → (b i out next : ℕ) (rest : List Item)
      → HasAt c b i (kind_code (in_setting c tokens r L) q s b out next k rest) → Rests c (places.kind_stmt_last k b) rest
  kind_stmt_rest c tokens r L il iw q s (block ss) fine b i out next rest h = stmts_rest c tokens r L il iw ss fine b i out next rest h
  kind_stmt_rest c tokens r L il iw q s empty fine b i out next rest h = (i, h)
  kind_stmt_rest c tokens r L il iw q s (effect e) fine b i out next rest h = after_effect c L q e fine b i rest h
  kind_stmt_rest c tokens r L il iw q s (declare x t None) fine b i out next rest h = (i + 1, h.1)
  kind_stmt_rest c tokens r L il iw q s (declare x t (Some v)) fine b i out next rest h = let h1 = after_right c L s t v fine.1 b i (does s (copy x L) ∷ rest) h in (h1.0 + 1, h1.1.1)
  kind_stmt_rest c tokens r L il iw q s (if_alone d x) fine b i out next rest h =
      let j = (last d).test b + 1 in let e = stmt_last x j + 1 in let more = start (Jump e) q L ∷ rest in
      let h1 = (rest_of c c.program.unit q d).test b i L j e L (stmt_code (in_setting c tokens r L) j out next x more) h in let h2 = stmt_rest c tokens r L il iw x fine.1 j 0 out next more h1.1 in (0, h2.1.2)
  kind_stmt_rest c tokens r L il iw q s (if_else d x y) fine b i out next rest h =
      let z = in_setting c tokens r L in let j = (last d).test b + 1 in let m = stmt_last x j + 1 in let e = stmt_last y m + 1 in let last_one = start (Jump e) q L ∷ rest in let other = start (Jump e) q L ∷ stmt_code z m out next y last_one in
      let h1 = (rest_of c c.program.unit q d).test b i L j m L (stmt_code z j out next x other) h in let h2 = stmt_rest c tokens r L il iw x fine.1 j 0 out next other h1.1 in
      let h3 = stmt_rest c tokens r L il iw y fine.2 m 0 out next last_one h2.1.2 in (0, h3.1.2)
  kind_stmt_rest c tokens r L il iw q s (while d x) fine b i out next rest h =
      let k = b + 1 in let j = (last d).test k + 1 in let e = stmt_last x j + 1 in let more = start (Jump k) q L ∷ rest in
      let h1 = (rest_of c c.program.unit q d).test k 0 L j e L (stmt_code (in_setting c tokens r L) j e k x more) h.2 in let h2 = stmt_rest c tokens r L true true x fine.1 j 0 e k more h1.1 in (0, h2.1.2)
  kind_stmt_rest c tokens r L il iw q s (do_while x d) fine b i out next rest h =
      let k = b + 1 in let m = stmt_last x k + 1 in let e = (last d).test m + 1 in let more = start (Jump m) q L ∷ test_code (in_setting c tokens r L) q d m k e rest in
      let h1 = stmt_rest c tokens r L true true x fine.0 k 0 e m more h.2 in let h2 = (rest_of c c.program.unit q d).test m 0 L k e L rest h1.1.2 in (0, h2.1)
  kind_stmt_rest c tokens r L il iw q s (for init o steps x) fine b i out next rest h =
      let z = in_setting c tokens r L in let k = stmts_last init b + 1 in let j = condition_last o k + 1 in let m = stmt_last x j + 1 in let e = effects_last steps m + 1 in
      let last_one = start (Jump k) q L ∷ rest in let stepping = start (Jump m) q L ∷ effects_code z q steps m last_one in let body = stmt_code z j e m x stepping in let head = start (Jump k) q L ∷ condition_code z q o k j e body in
      let h1 = stmts_rest c tokens r L il iw init fine.0 b i out next head h in let h2 = after_condition c tokens r L q o k 0 j e body h1.1.2 in
      let h3 = stmt_rest c tokens r L true true x fine.3 j 0 e m stepping h2.1 in let h4 = after_effects c tokens r L q steps fine.2 m 0 last_one h3.1.2 in (0, h4.1.2)
  kind_stmt_rest c tokens r L il iw q s (switch v gs) fine b i out next rest h =
      let z = in_setting c tokens r L in let a = (last v).val b in let n = all_labels_last gs a in let e = groups_last gs n + 1 in
      let last_one = groups_code z q (n + 1) e next gs rest in let chosen = start (Jump (default_block (n + 1) e gs)) q L ∷ last_one in
      let labels = all_labels_code z (span_of v) (type_of v) (n + 1) gs a chosen in
      let h1 = after_number c (last v).val (code_of c.program.unit q v).val (span_of v) (number_of v) (promoted (number_type (type_of v))) (rest_of c c.program.unit q v).val b i L labels h in
      let h2 = after_all_labels c tokens r L (span_of v) (type_of v) (n + 1) gs a h1.0 chosen h1.1 in
      groups_rest c tokens r L il true q gs fine.1 n 0 e next rest h2.1.2
  kind_stmt_rest c tokens r L il iw q s break fine b i out next rest h = (0, h.2)
  kind_stmt_rest c tokens r L il iw q s continue fine b i out next rest h = (0, h.2)
  kind_stmt_rest c tokens r L il iw q s (return None) fine b i out next rest h = (0, h.2)
  kind_stmt_rest c tokens r L il iw q s (return (Some v)) fine b i out next rest h = let h1 = after_right c L q r v fine b i (start (Return (Some L)) s L ∷ rest) h in (0, h1.1.2)

  pub stmts_rest : (c : Coded) (tokens : List Token) (r : TypeTree) (L : ℕ) (il iw : Bool) (ss : StmtTrees) → StmtsFine c.program.unit L il iw ss → (b i out next : ℕ) (rest : List Item) → HasAt c b i (stmts_code (in_setting c tokens r L) b out next ss rest) → Rests c (stmts_last ss b) rest
  stmts_rest c tokens r L il iw no_stmt fine b i out next rest h = (i, h)
  stmts_rest c tokens r L il iw (also_stmt s ss) fine b i out next rest h =
      let h1 = stmt_rest c tokens r L il iw s fine.0 b i out next (stmts_code (in_setting c tokens r L) (stmt_last s b) out next ss rest) h in stmts_rest c tokens r L il iw ss fine.1 (stmt_last s b) h1.0 out next rest h1.1

  -- the groups of a switch, where the first begins in the block after b
  pub groups_rest : (c : Coded) (tokens : List Token) (r : TypeTree) (L : ℕ) (il iw : Bool) (q : Span) (gs : GroupTrees) → GroupsFine c.program.unit L il iw gs → (b i out next : ℕ) (rest : List Item)
      → HasAt c (b + 1) i (groups_code (in_setting c tokens r L) q (b + 1) out next gs rest) → Rests c (groups_last gs b + 1) rest
  groups_rest c tokens r L il iw q no_group fine b i out next rest h = (i, h)
  groups_rest c tokens r L il iw q (also_group labels body gs) fine b i out next rest h =
      let z = in_setting c tokens r L in let e = stmts_last body (b + 1) + 1 in let more = start (Jump e) q L ∷ groups_code z q e out next gs rest in
      let h1 = stmts_rest c tokens r L il iw body fine.0 (b + 1) i out next more h in groups_rest c tokens r L il iw q gs fine.1 (stmts_last body (b + 1)) 0 out next rest h1.1.2
