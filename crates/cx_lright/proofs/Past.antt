-- The locals that code names.
use Rattle.std.proofs.Common.{ℕ, pos, negsuc, ◌≡◌, ◌+◌, ◌==◌, ◌≤◌, Bool, true, false, List, [], ◌∷◌, ◌++◌, length, Option, Some, None, ap, ◌∙◌, arith}
use Rattle.std.specs.Prelude.{max, if◌then◌else◌}
use Rattle.cx_base.specs.declared.number.CInt.{CInt}
use Rattle.cx_base.specs.declared.span.Span.{Span}
use Rattle.cx_cconst.specs.Constants.{number_type, converted}
use Rattle.cx_cmean.specs.Effects.{taken_as, pointee_of, local_of, operand_of}
use Rattle.cx_cmean.specs.Expressions.{target}
use Rattle.cx_cmean.specs.Numbers.{value_type, number_of, is_same, applied_in, right_in, compared_in}
use Rattle.cx_cmean.specs.Program.{offset_in, unit_in, function_of}
use Rattle.cx_ctree.specs.Conversions.{unsigned_long, signed_long, promoted}
use Rattle.cx_ctree.specs.Exprs.{ExprTree, node, ExprKindTree, num, name, local, global, unary, binary, cond, cast, size_of, size_of_expr, index, member, arrow, deref, address, span_of, type_of, CallTree, RhsTree, value, call, EffectTree, set, update, call_alone, value_alone}
use Rattle.cx_ctree.specs.Stmts.{StmtTree, stmt, StmtKindTree, block, empty, effect, declare, if_alone, if_else, while, do_while, for, switch, break, continue, return, StmtTrees, no_stmt, also_stmt, GroupTrees, no_group, also_group}
use Rattle.cx_ctree.specs.Types.{TypeTree, void, int, pointer, array, tag}
use Rattle.cx_ctree.specs.declared.expr.Binary.{Binary}
use Rattle.cx_ctree.specs.declared.expr.Binary.TheVariants as ops
use Rattle.cx_ctree.specs.declared.expr.Unary.TheVariants as u
use Rattle.cx_goto.specs.Trees as trees
use Rattle.cx_goto.specs.Trees.{LineTree, const, bin}
use Rattle.cx_goto.specs.declared.code.End.{End}
use Rattle.cx_goto.specs.declared.code.End.TheVariants.{Jump, Branch, Return}
use Rattle.cx_goto.specs.declared.code.Op.TheVariants.{Mul, Add, Sub, Div, Xor}
use Rattle.cx_goto.specs.declared.code.Rel.TheVariants.{Ne}
use Rattle.cx_lcode.specs.Effects.{arguments_code, call_code, right_code, left_at_code, read_code, write_code, updates, effect_code}
use Rattle.cx_lcode.specs.Items.{Item, line, start, does, converts, blocks_of, first_token}
use Rattle.cx_lcode.specs.Lines.{locals_for, calls}
use Rattle.cx_lcode.specs.Lowered.{past_all, instr_past, end_past, lines_past, blocks_past}
use Rattle.cx_lcode.specs.Needs.{Needs, by_value, by_test, two, operation_need, of_two, further_need, needs, kind_needs, place_need, kind_place_need, arguments_need, call_need, right_need, left_at_need, updated_need, effect_need, effects_need, condition_need, labels_need, stmt_need, kind_stmt_need, stmts_need, groups_need}
use Rattle.cx_lcode.specs.Places.{Last, Sort, both, either, comparing, computing, sort_of, last, last_of_two, right_last, effect_last, effects_last, condition_last, labels_last, all_labels_last, stmt_last, stmts_last, groups_last}
use Rattle.cx_lcode.specs.Statements.{Setting, effects_code, test_code, condition_code, labels_code, all_labels_code, default_block, stmt_code, kind_code as kind_stmt_code, stmts_code, groups_code}
use Rattle.cx_lcode.specs.Values.{Code, code_by_value, code_by_test, op_of, rel_of, operands, operation, scaled, object_code, further_code, binary_code, code_of, kind_code, place_code, kind_place_code}
use Rattle.cx_lright.proofs.Needing.{ones, place_ones}
use Rattle.cx_lright.specs.Fine.{Fine, KindFine, PlaceFine, KindPlaceFine, AllFine, CallFine, RightFine, LeftAtFine, EffectFine, EffectsFine, ConditionFine, StmtFine, KindStmtFine, StmtsFine, GroupsFine}
use Rattle.cx_sname.specs.File.{Declared}

-- one more than the greatest local that items name
abbrev pub past : List Item → ℕ
past [] = 0
past (line l ∷ is) = max (instr_past l.instr) (past is)
past (start e s k ∷ is) = max (end_past e) (past is)

-- ---- of the blocks

past_push : (ls : List LineTree) (l : LineTree) → lines_past (ls ++ l ∷ []) ≡ max (lines_past ls) (instr_past l.instr)
past_push [] l = omega arith
past_push (k ∷ ls) l = let h = past_push ls l in omega (arith, h)

pub blocks_are : (is : List Item) (keep : ℕ) (ls : List LineTree) (e : End) (s : Span) → blocks_past (blocks_of keep ls is e s) ≡ max (max (lines_past ls) (past is)) (end_past e)
blocks_are [] keep ls e s = omega arith
blocks_are (line l ∷ is) keep ls e s = let h = blocks_are is keep (ls ++ l ∷ []) e s in let p = past_push ls l in omega (arith, h, p)
blocks_are (start x q k ∷ is) keep ls e s = let h = blocks_are is k [] e s in omega (arith, h)

-- ---- of values

abbrev pub PastVal : (L need : ℕ) (val : ℕ → ℕ → List Item → List Item) → Type 0
PastVal L need val = (b t : ℕ) (rest : List Item) → L ≤ t → past (val b t rest) ≡ max (t + need) (past rest)

abbrev pub PastTest : (L need : ℕ) (test : ℕ → ℕ → ℕ → ℕ → ℕ → List Item → List Item) → Type 0
PastTest L need test = (b t j m keep : ℕ) (rest : List Item) → L ≤ t → past (test b t j m keep rest) ≡ max (t + need) (past rest)

pub record Past (L : ℕ) (need : Needs) (k : Code) : Type 0 where
  pub val : PastVal L need.val k.val
  pub test : PastTest L need.test k.test

record Between (low high n : ℕ) : Type 0 where
  from : low ≤ n
  to : n ≤ high

past_if : (l : LineTree) (rest : List Item) (z : Bool) → Between (past rest) (max (instr_past l.instr) (past rest)) (past (if z then rest else line l ∷ rest))
past_if l rest true = record { from = omega arith; to = omega arith }
past_if l rest false = record { from = omega arith; to = omega arith }

past_converts : (s : Span) (from to : CInt) (t : ℕ) (rest : List Item) → Between (past rest) (max (t + 1) (past rest)) (past (converts s from to t rest))
past_converts s from to t rest = past_if _ rest (is_same from to)

past_if_two : (l m : LineTree) (rest : List Item) (n k : ℕ) (z : Bool) → instr_past l.instr ≤ n + 2 → instr_past m.instr ≡ n + 2 → 1 ≤ k → max (n + k) (past (if z then rest else line l ∷ line m ∷ rest)) ≡ max (n + max k (if z then 1 else 2)) (past rest)
past_if_two l m rest n k true a b one = omega (arith, one)
past_if_two l m rest n k false a b one = omega (arith, a, b)

past_further : (s : Span) (off t k : ℕ) (rest : List Item) → 1 ≤ k → max (t + k) (past (further_code s off t rest)) ≡ max (t + max k (further_need off)) (past rest)
past_further s off t k rest one = past_if_two _ _ rest t k (off == 0) (omega arith) (omega arith) one

past_object : (s : Span) (v : TypeTree) (t : ℕ) (rest : List Item) → Between (past rest) (max (t + 1) (past rest)) (past (object_code s v t rest))
past_object s void t rest = record { from = omega arith; to = omega arith }
past_object s (int v) t rest = record { from = omega arith; to = omega arith }
past_object s (pointer v) t rest = record { from = omega arith; to = omega arith }
past_object s (array v n) t rest = record { from = omega arith; to = omega arith }
past_object s (tag v) t rest = record { from = omega arith; to = omega arith }

past_number : (L n : ℕ) (val : ℕ → ℕ → List Item → List Item) (s : Span) (from to : CInt) → 1 ≤ n → PastVal L n val → PastVal L n (λ b t rest. val b t (converts s from to t rest))
past_number L n val s from to one h b t rest lo =
    let e = h b t (converts s from to t rest) lo in let c = past_converts s from to t rest in let low = c.from in let high = c.to in omega (arith, e, low, high, one)

past_with_object : (L n : ℕ) (val : ℕ → ℕ → List Item → List Item) (s : Span) (v : TypeTree) → 1 ≤ n → PastVal L n val → PastVal L n (λ b t rest. val b t (object_code s v t rest))
past_with_object L n val s v one h b t rest lo =
    let e = h b t (object_code s v t rest) lo in let c = past_object s v t rest in let low = c.from in let high = c.to in omega (arith, e, low, high, one)

past_with_further : (L n : ℕ) (val : ℕ → ℕ → List Item → List Item) (s : Span) (off : ℕ) → 1 ≤ n → PastVal L n val → PastVal L (max n (further_need off)) (λ b t rest. val b t (further_code s off t rest))
past_with_further L n val s off one h b t rest lo = h b t (further_code s off t rest) lo ∙ past_further s off t n rest one

past_operands : (L nx ny : ℕ) (x y : Code) (sx sy : Span) (lx : Last) (v tx w ty : CInt) → 1 ≤ nx → 1 ≤ ny → PastVal L nx x.val → PastVal L ny y.val
    → (b t : ℕ) (rest : List Item) → L ≤ t → past (operands x y sx sy lx v tx w ty b t rest) ≡ max (t + two nx ny) (past rest)
past_operands L nx ny x y sx sy lx v tx w ty onex oney hx hy b t rest lo =
    let a = past_number L nx x.val sx v tx onex hx b t (y.val (lx.val b) (t + 1) (converts sy w ty (t + 1) rest)) lo in
    let e = past_number L ny y.val sy w ty oney hy (lx.val b) (t + 1) rest (omega (arith, lo)) in omega (arith, a, e)

past_two : (L nx ny : ℕ) (x y : Code) (lx : Last) → PastVal L nx x.val → PastVal L ny y.val → (b t : ℕ) (rest : List Item) → L ≤ t → past (x.val b t (y.val (lx.val b) (t + 1) rest)) ≡ max (t + two nx ny) (past rest)
past_two L nx ny x y lx hx hy b t rest lo = let a = hx b t (y.val (lx.val b) (t + 1) rest) lo in let e = hy (lx.val b) (t + 1) rest (omega (arith, lo)) in omega (arith, a, e)

past_operation : (L : ℕ) (d : Declared) (s : Span) (op : Binary) (x y : Code) (sx sy : Span) (lx : Last) (nx ny : ℕ) → 1 ≤ nx → 1 ≤ ny → PastVal L nx x.val → PastVal L ny y.val → (v w : TypeTree) → PastVal L (operation_need v w nx ny) (operation d s op v w x y sx sy lx)
past_operation L d s op x y sx sy lx nx ny onex oney hx hy (int v) (int w) b t rest lo =
    let a = past_operands L nx ny x y sx sy lx v (applied_in op v w) w (right_in op v w) onex oney hx hy b t (does s (bin t (op_of op) (applied_in op v w) t (t + 1)) ∷ rest) lo in omega (arith, a, oney)
past_operation L d s op x y sx sy lx nx ny onex oney hx hy (pointer v) (int w) b t rest lo =
    let a = past_operands L nx ny x y sx sy lx unsigned_long unsigned_long w unsigned_long onex oney hx hy b t (scaled s (unit_in d v) (t + 1) (does s (bin t (op_of op) unsigned_long t (t + 1)) ∷ rest)) lo in omega (arith, a)
past_operation L d s op x y sx sy lx nx ny onex oney hx hy (int v) (pointer w) b t rest lo =
    let last_one = does s (bin t (op_of op) unsigned_long t (t + 1)) ∷ rest in let more = scaled s (unit_in d w) t (y.val (lx.val b) (t + 1) last_one) in
    let a = past_number L nx x.val sx v unsigned_long onex hx b t more lo in let e = hy (lx.val b) (t + 1) last_one (omega (arith, lo)) in omega (arith, a, e, oney)
past_operation L d s op x y sx sy lx nx ny onex oney hx hy (pointer v) (pointer w) b t rest lo =
    let a = past_two L nx ny x y lx hx hy b t (does s (bin t (op_of op) signed_long t (t + 1)) ∷ does s (const (t + 1) (pos (unit_in d v))) ∷ does s (bin t Div signed_long t (t + 1)) ∷ rest) lo in omega (arith, a, oney)
past_operation L d s op x y sx sy lx nx ny onex oney hx hy void w b t rest lo = past_two L nx ny x y lx hx hy b t rest lo
past_operation L d s op x y sx sy lx nx ny onex oney hx hy (array v j) w b t rest lo = past_two L nx ny x y lx hx hy b t rest lo
past_operation L d s op x y sx sy lx nx ny onex oney hx hy (tag v) w b t rest lo = past_two L nx ny x y lx hx hy b t rest lo
past_operation L d s op x y sx sy lx nx ny onex oney hx hy (int v) void b t rest lo = past_two L nx ny x y lx hx hy b t rest lo
past_operation L d s op x y sx sy lx nx ny onex oney hx hy (int v) (array w j) b t rest lo = past_two L nx ny x y lx hx hy b t rest lo
past_operation L d s op x y sx sy lx nx ny onex oney hx hy (int v) (tag w) b t rest lo = past_two L nx ny x y lx hx hy b t rest lo
past_operation L d s op x y sx sy lx nx ny onex oney hx hy (pointer v) void b t rest lo = past_two L nx ny x y lx hx hy b t rest lo
past_operation L d s op x y sx sy lx nx ny onex oney hx hy (pointer v) (array w j) b t rest lo = past_two L nx ny x y lx hx hy b t rest lo
past_operation L d s op x y sx sy lx nx ny onex oney hx hy (pointer v) (tag w) b t rest lo = past_two L nx ny x y lx hx hy b t rest lo

past_by_value : (L n : ℕ) (s : Span) (val : ℕ → ℕ → List Item → List Item) → PastVal L n val → Past L (by_value n) (code_by_value s val)
past_by_value L n s val h = record {
  val = h;
  test = λ b t j m keep rest lo. let a = h b t (does s (const (t + 1) (pos 0)) ∷ start (Branch Ne t (t + 1) j m) s keep ∷ rest) lo in omega (arith, a);
}

past_by_test : (L n : ℕ) (q s : Span) (f : ℕ → ℕ) (test : ℕ → ℕ → ℕ → ℕ → ℕ → List Item → List Item) → 1 ≤ n → PastTest L n test → Past L (by_test n) (code_by_test q s f test)
past_by_test L n q s f test one h = record {
  val = λ b t rest lo. let j = f b + 1 in let m = j + 1 in let e = m + 1 in
      let a = h b t j m t (does s (const t (pos 1)) ∷ start (Jump e) q t ∷ does s (const t (pos 0)) ∷ start (Jump e) q (t + 1) ∷ rest) lo in omega (arith, a, one);
  test = h;
}

past_binary : (L : ℕ) (d : Declared) (q s : Span) (z : Sort) (op : Binary) (v w : TypeTree) (x y : Code) (sx sy : Span) (lx ly : Last) (nx ny : Needs) → 1 ≤ nx.val → 1 ≤ ny.val → 1 ≤ nx.test → Past L nx x → Past L ny y
    → Past L (of_two z v w nx ny) (binary_code d q s z op v w x y sx sy lx (last_of_two z lx ly))
past_binary L d q s both op v w x y sx sy lx ly nx ny onex oney one hx hy = past_by_test L _ q s _ _ (omega (arith, one))
    (λ b t j m keep rest lo. let k = lx.test b + 1 in let a = hx.test b t k m t (y.test k t j m keep rest) lo in let e = hy.test k t j m keep rest lo in omega (arith, a, e))
past_binary L d q s either op v w x y sx sy lx ly nx ny onex oney one hx hy = past_by_test L _ q s _ _ (omega (arith, one))
    (λ b t j m keep rest lo. let k = lx.test b + 1 in let a = hx.test b t j k t (y.test k t j m keep rest) lo in let e = hy.test k t j m keep rest lo in omega (arith, a, e))
past_binary L d q s comparing op v w x y sx sy lx ly nx ny onex oney one hx hy = past_by_test L _ q s _ _ (omega (arith, onex))
    (λ b t j m keep rest lo.
    let a = past_operands L nx.val ny.val x y sx sy lx (number_type v) (compared_in v w) (number_type w) (compared_in v w) onex oney hx.val hy.val b t (start (Branch (rel_of op) t (t + 1) j m) s keep ∷ rest) lo in omega (arith, a, oney))
past_binary L d q s computing op v w x y sx sy lx ly nx ny onex oney one hx hy = past_by_value L _ s _ (past_operation L d s op x y sx sy lx nx.val ny.val onex oney hx.val hy.val v w)

past_index : (L : ℕ) (d : Declared) (q s : Span) (x y : ExprTree) → Past L (needs d x) (code_of d q x) → Past L (needs d y) (code_of d q y) → PastVal L (kind_place_need d (index x y)) (kind_place_code d q s (index x y))
past_index L d q s x y hx hy =
    past_operation L d s ops.Add (code_of d q x) (code_of d q y) (span_of x) (span_of y) (last x) (needs d x).val (needs d y).val (ones d x).val (ones d y).val hx.val hy.val (value_type (type_of x)) (value_type (type_of y))

further_one : (n off : ℕ) → 1 ≤ n → 1 ≤ max n (further_need off)
further_one n off h = omega (arith, h)

mutual
  pub past_of : (L : ℕ) (d : Declared) (q : Span) (e : ExprTree) → Fine L e → Past L (needs d e) (code_of d q e)
  past_of L d q (node s t k) ok = kind_past L d q s t k ok

  pub kind_past : (L : ℕ) (d : Declared) (q s : Span) (ty : TypeTree) (k : ExprKindTree) → KindFine L k → Past L (kind_needs d k) (kind_code d q s ty k)
  kind_past L d q s ty (num v n) ok = past_by_value L _ s _ (λ b t rest lo. omega arith)
  kind_past L d q s ty (name n) ok = absurd ok
  kind_past L d q s ty (local x) ok = past_by_value L _ s _ (λ b t rest lo. omega (arith, ok, lo))
  kind_past L d q s ty (global x) ok = past_by_value L _ s _ (λ b t rest lo. let c = past_object s ty t rest in let low = c.from in let high = c.to in omega (arith, low, high))
  kind_past L d q s ty (unary u.Plus x) ok = past_by_value L _ s _ (past_number L _ _ (span_of x) (number_of x) (number_type ty) (ones d x).val (past_of L d q x ok).val)
  kind_past L d q s ty (unary u.Neg x) ok = past_by_value L _ s _
      (λ b t rest lo. let one = (ones d x).val in
      let a = past_number L (needs d x).val (code_of d q x).val (span_of x) (number_of x) (number_type ty) one (past_of L d q x ok).val b (t + 1) (does s (bin t Sub (number_type ty) t (t + 1)) ∷ rest) (omega (arith, lo)) in omega (arith, a, one))
  kind_past L d q s ty (unary u.Compl x) ok = past_by_value L _ s _
      (λ b t rest lo. let one = (ones d x).val in
      let a = past_number L (needs d x).val (code_of d q x).val (span_of x) (number_of x) (number_type ty) one (past_of L d q x ok).val b t (does s (const (t + 1) (converted (number_type ty) (negsuc 0))) ∷ does s (bin t Xor (number_type ty) t (t + 1)) ∷ rest) lo in omega (arith, a, one))
  kind_past L d q s ty (unary u.Not x) ok = past_by_test L _ q s _ _ (ones d x).test (λ b t j m keep rest lo. (past_of L d q x ok).test b t m j keep rest lo)
  kind_past L d q s ty (binary op x y) ok =
      past_binary L d q s (sort_of op) op (value_type (type_of x)) (value_type (type_of y)) (code_of d q x) (code_of d q y) (span_of x) (span_of y) (last x) (last y) (needs d x) (needs d y) (ones d x).val (ones d y).val (ones d x).test (past_of L d q x ok.1) (past_of L d q y ok.2)
  kind_past L d q s ty (cond e x y) ok = past_by_value L _ s _
      (λ b t rest lo. let j = (last e).test b + 1 in let m = (last x).val j + 1 in let f = (last y).val m + 1 in
      let end = start (Jump f) q (t + 1) ∷ rest in let other = start (Jump f) q t ∷ (code_of d q y).val m t (converts (span_of y) (number_of y) (number_type ty) t end) in
      let a = (past_of L d q e ok.0).test b t j m t ((code_of d q x).val j t (converts (span_of x) (number_of x) (number_type ty) t other)) lo in
      let c = past_number L (needs d x).val (code_of d q x).val (span_of x) (number_of x) (number_type ty) (ones d x).val (past_of L d q x ok.1).val j t other lo in
      let g = past_number L (needs d y).val (code_of d q y).val (span_of y) (number_of y) (number_type ty) (ones d y).val (past_of L d q y ok.2).val m t end lo in omega (arith, a, c, g))
  kind_past L d q s ty (cast w x) ok = past_by_value L _ s _ (past_number L _ _ (span_of x) (number_of x) (number_type ty) (ones d x).val (past_of L d q x ok).val)
  kind_past L d q s ty (size_of w) ok = past_by_value L _ s _ (λ b t rest lo. omega arith)
  kind_past L d q s ty (size_of_expr x) ok = past_by_value L _ s _ (λ b t rest lo. omega arith)
  kind_past L d q s ty (index x y) ok = past_by_value L _ s _ (past_with_object L _ _ s ty (place_ones d (node s ty (index x y))) (past_index L d q s x y (past_of L d q x ok.1) (past_of L d q y ok.2)))
  kind_past L d q s ty (member x m) ok = past_by_value L _ s _
      (past_with_object L _ _ s ty (further_one _ (offset_in d (type_of x) m) (place_ones d x)) (past_with_further L _ _ s (offset_in d (type_of x) m) (place_ones d x) (place_past L d q x ok)))
  kind_past L d q s ty (arrow x m) ok = past_by_value L _ s _
      (past_with_object L _ _ s ty (further_one _ (offset_in d (target (value_type (type_of x))) m) (ones d x).val) (past_with_further L _ _ s (offset_in d (target (value_type (type_of x))) m) (ones d x).val (past_of L d q x ok).val))
  kind_past L d q s ty (deref x) ok = past_by_value L _ s _ (past_with_object L _ _ s ty (ones d x).val (past_of L d q x ok).val)
  kind_past L d q s ty (address x) ok = past_by_value L _ s _ (place_past L d q x ok)

  pub place_past : (L : ℕ) (d : Declared) (q : Span) (e : ExprTree) → PlaceFine L e → PastVal L (place_need d e) (place_code d q e)
  place_past L d q (node s t k) ok = kind_place_past L d q s k ok

  pub kind_place_past : (L : ℕ) (d : Declared) (q s : Span) (k : ExprKindTree) → KindPlaceFine L k → PastVal L (kind_place_need d k) (kind_place_code d q s k)
  kind_place_past L d q s (global x) ok = λ b t rest lo. omega arith
  kind_place_past L d q s (index x y) ok = past_index L d q s x y (past_of L d q x ok.1) (past_of L d q y ok.2)
  kind_place_past L d q s (member x m) ok = past_with_further L _ _ s (offset_in d (type_of x) m) (place_ones d x) (place_past L d q x ok)
  kind_place_past L d q s (arrow x m) ok = past_with_further L _ _ s (offset_in d (target (value_type (type_of x))) m) (ones d x).val (past_of L d q x ok).val
  kind_place_past L d q s (deref x) ok = (past_of L d q x ok).val
  kind_place_past L d q s (num v n) ok = absurd ok
  kind_place_past L d q s (name n) ok = absurd ok
  kind_place_past L d q s (local x) ok = absurd ok
  kind_place_past L d q s (unary op x) ok = absurd ok
  kind_place_past L d q s (binary op x y) ok = absurd ok
  kind_place_past L d q s (cond e x y) ok = absurd ok
  kind_place_past L d q s (cast w x) ok = absurd ok
  kind_place_past L d q s (size_of w) ok = absurd ok
  kind_place_past L d q s (size_of_expr x) ok = absurd ok
  kind_place_past L d q s (address x) ok = absurd ok

-- ---- of effects

past_arguments : (L : ℕ) (d : Declared) (q : Span) (es : List ExprTree) (ts : List TypeTree) → AllFine L es → (b t : ℕ) (rest : List Item) → L ≤ t → max t (past (arguments_code d q es ts b t rest)) ≡ max (t + arguments_need d es ts) (past rest)
past_arguments L d q [] ts ok b t rest lo = omega arith
past_arguments L d q (e ∷ es) [] ok b t rest lo = omega arith
past_arguments L d q (e ∷ es) (p ∷ ps) ok b t rest lo =
    let more = arguments_code d q es ps ((last e).val b) (t + 1) rest in let one = (ones d e).val in
    let a = past_number L (needs d e).val (code_of d q e).val (span_of e) (number_of e) (number_type p) one (past_of L d q e ok.0).val b t more lo in
    let c = past_arguments L d q es ps ok.1 ((last e).val b) (t + 1) rest (omega (arith, lo)) in omega (arith, a, c, one)

past_locals : (es : List ExprTree) (t : ℕ) → max t (past_all (locals_for es t)) ≡ t + length es
past_locals [] t = omega arith
past_locals (e ∷ es) t = let h = past_locals es (t + 1) in omega (arith, h)

past_call : (L : ℕ) (d : Declared) (q : Span) (k : CallTree) (p : Option TypeTree) → CallFine d L k → (b : ℕ) (rest : List Item) → past (call_code d q k p b L rest) ≡ max (L + call_need d k) (past rest)
past_call L d q k p ok b rest =
    let a = past_arguments L d q k.args (function_of d k.name).params ok.0 b L (calls k p L ∷ rest) (omega arith) in let c = past_locals k.args L in omega (arith, a, c)

past_right : (L : ℕ) (d : Declared) (q : Span) (t : TypeTree) (r : RhsTree) → RightFine d L r → (b : ℕ) (rest : List Item) → past (right_code d q t r b L rest) ≡ max (L + right_need d r) (past rest)
past_right L d q t (value e) ok b rest = past_number L (needs d e).val (code_of d q e).val (span_of e) (number_of e) (number_type t) (ones d e).val (past_of L d q e ok).val b L rest (omega arith)
past_right L d q t (call k w) ok b rest =
    let tk = number_type (taken_as w t) in let f = number_type (function_of d k.name).result in let more = converts k.span tk (number_type t) L rest in
    let a = past_call L d q k (pointee_of (taken_as w t)) ok.0 b (converts k.span f tk L more) in
    let c = past_converts k.span f tk L more in let low = c.from in let high = c.to in let g = past_converts k.span tk (number_type t) L rest in let low2 = g.from in let high2 = g.to in omega (arith, a, low, high, low2, high2)

past_left : (L : ℕ) (d : Declared) (q : Span) (l : ExprTree) (o : Option ℕ) → LeftAtFine L l o → (b : ℕ) (rest : List Item) → max (L + 1) (past (left_at_code d q l o b L rest)) ≡ max (L + left_at_need d l o) (past rest)
past_left L d q l (Some x) ok b rest = omega arith
past_left L d q l None ok b rest = let a = place_past L d q l ok.0 b (L + 1) rest (omega arith) in let one = place_ones d l in omega (arith, a, one)

past_read : (L t : ℕ) (d : Declared) (l : ExprTree) (o : Option ℕ) → LeftAtFine L l o → L + 2 ≤ t → (rest : List Item) → past (read_code l o L t ∷ rest) ≡ max (t + 1) (past rest)
past_read L t d l (Some x) ok lo rest = omega (arith, ok, lo)
past_read L t d l None ok lo rest = omega (arith, lo)

past_write : (L t : ℕ) (d : Declared) (l : ExprTree) (o : Option ℕ) → LeftAtFine L l o → L ≤ t → (rest : List Item) → Between (max (t + 1) (past rest)) (max (max (t + 1) (L + left_at_need d l o)) (past rest)) (past (write_code l o L t ∷ rest))
past_write L t d l (Some x) ok lo rest = record { from = omega (arith, ok, lo); to = omega (arith, ok, lo) }
past_write L t d l None ok lo rest = let one = place_ones d l in record { from = omega (arith, lo); to = omega (arith, lo, one) }

past_updates : (L : ℕ) (d : Declared) (s : Span) (op : Binary) (t u : TypeTree) (rest : List Item) → max (L + 3) (past (updates d s op t u L rest)) ≡ max (L + updated_need t u) (past rest)
past_updates L d s op (int t) (int u) rest =
    let k = applied_in op t u in let r = right_in op t u in let end = converts s k t (L + 2) rest in let middle = does s (bin (L + 2) (op_of op) k (L + 2) L) ∷ end in let first = converts s u r L middle in
    let a = past_converts s t k (L + 2) first in let a1 = a.from in let a2 = a.to in let c = past_converts s u r L middle in let c1 = c.from in let c2 = c.to in let e = past_converts s k t (L + 2) rest in let e1 = e.from in let e2 = e.to in
    omega (arith, a1, a2, c1, c2, e1, e2)
past_updates L d s op (pointer t) (int u) rest =
    let more = does s (const (L + 3) (pos (unit_in d t))) ∷ does s (bin L Mul unsigned_long L (L + 3)) ∷ does s (bin (L + 2) (op_of op) unsigned_long (L + 2) L) ∷ rest in
    let a = past_converts s u unsigned_long L more in let a1 = a.from in let a2 = a.to in omega (arith, a1, a2)
past_updates L d s op void u rest = omega arith
past_updates L d s op (array t j) u rest = omega arith
past_updates L d s op (tag t) u rest = omega arith
past_updates L d s op (int t) void rest = omega arith
past_updates L d s op (int t) (pointer u) rest = omega arith
past_updates L d s op (int t) (array u j) rest = omega arith
past_updates L d s op (int t) (tag u) rest = omega arith
past_updates L d s op (pointer t) void rest = omega arith
past_updates L d s op (pointer t) (pointer u) rest = omega arith
past_updates L d s op (pointer t) (array u j) rest = omega arith
past_updates L d s op (pointer t) (tag u) rest = omega arith

left_one : (d : Declared) (l : ExprTree) (o : Option ℕ) → 1 ≤ left_at_need d l o
left_one d l (Some x) = omega arith
left_one d l None = omega arith

three_of : (t u : TypeTree) → 3 ≤ updated_need t u
three_of void u = omega arith
three_of (int t) u = omega arith
three_of (array t n) u = omega arith
three_of (tag t) u = omega arith
three_of (pointer t) void = omega arith
three_of (pointer t) (int u) = omega arith
three_of (pointer t) (pointer u) = omega arith
three_of (pointer t) (array u n) = omega arith
three_of (pointer t) (tag u) = omega arith

right_one : (d : Declared) (r : RhsTree) → 1 ≤ right_need d r
right_one d (value e) = (ones d e).val
right_one d (call k w) = omega arith

step_left : (p q L n k r : ℕ) → p ≡ max (L + n) q → max (L + 1) q ≡ max (L + k) r → 1 ≤ n → p ≡ max (max (L + n) (L + k)) r
step_left p q L n k r a c one = omega (arith, a, c, one)

three_more : (p q L : ℕ) → p ≡ max (L + 2 + 1) q → p ≡ max (L + 3) q
three_more p q L e = omega (arith, e)

step_write : (w rest L n k u : ℕ) → max (L + 2 + 1) rest ≤ w → w ≤ max (max (L + 2 + 1) (L + k)) rest → 3 ≤ u → max (max (L + n) (L + k)) (max (L + u) w) ≡ max (L + max (max n k) u) rest
step_write w rest L n k u low high three = omega (arith, low, high, three)

past_effect : (L : ℕ) (d : Declared) (q : Span) (e : EffectTree) → EffectFine d L e → (b : ℕ) (rest : List Item) → past (effect_code d q e b L rest) ≡ max (L + effect_need d e) (past rest)
past_effect L d q (set l r s) ok b rest =
    let o = local_of l in let write = write_code l o L L ∷ rest in
    let a = past_right L d q (type_of l) r ok.0 b (left_at_code d q l o (right_last r b) L write) in let c = past_left L d q l o ok.1 (right_last r b) write in
    let w = past_write L L d l o ok.1 (omega arith) rest in let w1 = w.from in let w2 = w.to in let one = left_one d l o in let two_ = right_one d r in omega (arith, a, c, w1, w2, one, two_)
past_effect L d q (update op l e s) ok b rest =
    let o = local_of l in let t = type_of l in let v = value_type (type_of e) in let b1 = (last e).val b in
    let write = write_code l o L (L + 2) ∷ rest in let change = updates d s op t v L write in let read = read_code l o L (L + 2) ∷ change in
    let a = (past_of L d q e ok.2).val b L (left_at_code d q l o b1 L read) (omega arith) in let c = past_left L d q l o ok.3 b1 read in let r = past_read L (L + 2) d l o ok.3 (omega arith) change in
    let g = past_updates L d s op t v write in let w = past_write L (L + 2) d l o ok.3 (omega arith) rest in let w1 = w.from in let w2 = w.to in let one = left_one d l o in let one_e = (ones d e).val in let three = three_of t v in
    step_left _ _ L (needs d e).val (left_at_need d l o) _ a c one_e ∙ ap (λ x. max (max (L + (needs d e).val) (L + left_at_need d l o)) x) (three_more _ _ L r ∙ g) ∙ step_write _ (past rest) L (needs d e).val (left_at_need d l o) (updated_need t v) w1 w2 three
past_effect L d q (call_alone k) ok b rest = past_call L d q k None ok b rest
past_effect L d q (value_alone e) ok b rest = (past_of L d q (operand_of e) ok).val b L rest (omega arith)

past_effects : (z : Setting) (q : Span) (es : List EffectTree) → EffectsFine z.unit z.served es → (b : ℕ) (rest : List Item) → max z.served (past (effects_code z q es b rest)) ≡ max (z.served + effects_need z.unit es) (past rest)
past_effects z q [] ok b rest = omega arith
past_effects z q (e ∷ es) ok b rest = let a = past_effect z.served z.unit q e ok.0 b (effects_code z q es (effect_last e b) rest) in let c = past_effects z q es ok.1 (effect_last e b) rest in omega (arith, a, c)

-- ---- of statements

past_test : (z : Setting) (q : Span) (c : ExprTree) → Fine z.served c → (b j m : ℕ) (rest : List Item) → past (test_code z q c b j m rest) ≡ max (z.served + (needs z.unit c).test) (past rest)
past_test z q c ok b j m rest = (past_of z.served z.unit q c ok).test b z.served j m z.served rest (omega arith)

past_condition : (z : Setting) (q : Span) (o : Option ExprTree) → ConditionFine z.served o → (b j m : ℕ) (rest : List Item) → max z.served (past (condition_code z q o b j m rest)) ≡ max (z.served + condition_need z.unit o) (past rest)
past_condition z q None ok b j m rest = omega arith
past_condition z q (Some c) ok b j m rest = let a = past_test z q c ok b j m rest in omega (arith, a)

past_labels : (z : Setting) (sv : Span) (t : TypeTree) (g : ℕ) (ls : List (Option ExprTree)) (b : ℕ) (rest : List Item) → max z.served (past (labels_code z sv t g ls b rest)) ≡ max (z.served + labels_need ls) (past rest)
past_labels z sv t g [] b rest = omega arith
past_labels z sv t g (None ∷ ls) b rest = past_labels z sv t g ls b rest
past_labels z sv t g (Some e ∷ ls) b rest = let a = past_labels z sv t g ls (b + 1) rest in let few = labels_few ls in omega (arith, a, few)
  where
    labels_few : (ls : List (Option ExprTree)) → labels_need ls ≤ 2
    labels_few [] = omega arith
    labels_few (None ∷ ls) = labels_few ls
    labels_few (Some e ∷ ls) = omega arith

abbrev labels_in : Declared → GroupTrees → ℕ
labels_in d no_group = 0
labels_in d (also_group labels body gs) = max (labels_need labels) (labels_in d gs)

past_all_labels : (z : Setting) (sv : Span) (t : TypeTree) (g : ℕ) (gs : GroupTrees) (b : ℕ) (rest : List Item) → max z.served (past (all_labels_code z sv t g gs b rest)) ≡ max (z.served + labels_in z.unit gs) (past rest)
past_all_labels z sv t g no_group b rest = omega arith
past_all_labels z sv t g (also_group labels body gs) b rest =
    let a = past_labels z sv t g labels b (all_labels_code z sv t (stmts_last body g + 1) gs (labels_last labels b) rest) in let c = past_all_labels z sv t (stmts_last body g + 1) gs (labels_last labels b) rest in omega (arith, a, c)

start_past : (n : ℕ) → max 0 n ≡ n
start_past n = omega arith

-- one after the other
step_two : (p q r L n m : ℕ) → max L p ≡ max (L + n) q → max L q ≡ max (L + m) r → max L p ≡ max (L + max n m) r
step_two p q r L n m a b = omega (arith, a, b)

behind_start : (p q L n : ℕ) → max L p ≡ max (L + n) (max 0 q) → max L p ≡ max (L + n) q
behind_start p q L n a = a ∙ ap (λ x. max (L + n) x) (start_past q)

with_floor : (p q L n : ℕ) → p ≡ max (L + n) q → max L p ≡ max (L + n) q
with_floor p q L n a = omega (arith, a)

more_floor : (p L n k : ℕ) → max (L + max n k) p ≡ max (max (L + n) (L + k)) (max L p)
more_floor p L n k = omega arith

swap_floor : (q L n k m : ℕ) → max (max (L + n) (L + k)) (max (L + m) q) ≡ max (max (L + n) (L + m)) (max (L + k) q)
swap_floor q L n k m = omega arith

one_floor : (r L n m g : ℕ) → max (max (L + n) (L + m)) (max (L + g) r) ≡ max (L + max (max n m) g) r
one_floor r L n m g = omega arith

groups_step : (p q r L n k m g : ℕ) → max L p ≡ max (L + m) q → max (L + k) q ≡ max (L + g) r → max (L + max n k) p ≡ max (L + max (max n m) g) r
groups_step p q r L n k m g a b =
    more_floor p L n k ∙ ap (λ x. max (max (L + n) (L + k)) x) a ∙ swap_floor q L n k m ∙ ap (λ x. max (max (L + n) (L + m)) x) b ∙ one_floor r L n m g

mutual
  pub past_stmt : (z : Setting) (il iw : Bool) (s : StmtTree) → StmtFine z.unit z.served il iw s → (b out next : ℕ) (rest : List Item) → max z.served (past (stmt_code z b out next s rest)) ≡ max (z.served + stmt_need z.unit s) (past rest)
  past_stmt z il iw (stmt s k) ok b out next rest = past_kind z il iw (first_token z.tokens s) s k ok b out next rest

  past_kind : (z : Setting) (il iw : Bool) (q s : Span) (k : StmtKindTree) → KindStmtFine z.unit z.served il iw k → (b out next : ℕ) (rest : List Item) → max z.served (past (kind_stmt_code z q s b out next k rest)) ≡ max (z.served + kind_stmt_need z.unit k) (past rest)
  past_kind z il iw q s (block ss) ok b out next rest = past_stmts z il iw ss ok b out next rest
  past_kind z il iw q s empty ok b out next rest = omega arith
  past_kind z il iw q s (effect e) ok b out next rest = let a = past_effect z.served z.unit q e ok b rest in omega (arith, a)
  past_kind z il iw q s (declare x t None) ok b out next rest = let below = ok.0 in omega (arith, below)
  past_kind z il iw q s (declare x t (Some r)) ok b out next rest =
      let below = ok.0 in let a = past_right z.served z.unit s t r ok.1 b (does s (trees.copy x z.served) ∷ rest) in let one = right_one z.unit r in omega (arith, a, below, one)
  past_kind z il iw q s (if_alone c x) ok b out next rest =
      let j = (last c).test b + 1 in let e = stmt_last x j + 1 in let more = start (Jump e) q z.served ∷ rest in
      let a = past_test z q c ok.0 b j e (stmt_code z j out next x more) in let f = past_stmt z il iw x ok.1 j out next more in omega (arith, a, f)
  past_kind z il iw q s (if_else c x y) ok b out next rest =
      let j = (last c).test b + 1 in let m = stmt_last x j + 1 in let e = stmt_last y m + 1 in let end = start (Jump e) q z.served ∷ rest in let other = start (Jump e) q z.served ∷ stmt_code z m out next y end in
      let d = z.unit in let L = z.served in
      let a = with_floor _ _ L (needs d c).test (past_test z q c ok.0 b j m (stmt_code z j out next x other)) in let f = behind_start _ _ L (stmt_need d x) (past_stmt z il iw x ok.1 j out next other) in let g = behind_start _ _ L (stmt_need d y) (past_stmt z il iw y ok.2 m out next end) in
      step_two _ _ _ L (needs d c).test (max (stmt_need d x) (stmt_need d y)) a (step_two _ _ _ L (stmt_need d x) (stmt_need d y) f g)
  past_kind z il iw q s (while c x) ok b out next rest =
      let h = b + 1 in let j = (last c).test h + 1 in let e = stmt_last x j + 1 in let more = start (Jump h) q z.served ∷ rest in
      let a = past_test z q c ok.0 h j e (stmt_code z j e h x more) in let f = past_stmt z true true x ok.1 j e h more in omega (arith, a, f)
  past_kind z il iw q s (do_while x c) ok b out next rest =
      let h = b + 1 in let k = stmt_last x h + 1 in let e = (last c).test k + 1 in let more = start (Jump k) q z.served ∷ test_code z q c k h e rest in
      let f = past_stmt z true true x ok.0 h e k more in let a = past_test z q c ok.1 k h e rest in omega (arith, a, f)
  past_kind z il iw q s (for init o steps x) ok b out next rest =
      let h = stmts_last init b + 1 in let j = condition_last o h + 1 in let k = stmt_last x j + 1 in let e = effects_last steps k + 1 in
      let end = start (Jump h) q z.served ∷ rest in let stepping = start (Jump k) q z.served ∷ effects_code z q steps k end in let body = stmt_code z j e k x stepping in let head = start (Jump h) q z.served ∷ condition_code z q o h j e body in
      let d = z.unit in let L = z.served in
      let a = behind_start _ _ L (stmts_need d init) (past_stmts z il iw init ok.0 b out next head) in let c = past_condition z q o ok.1 h j e body in
      let f = behind_start _ _ L (stmt_need d x) (past_stmt z true true x ok.3 j e k stepping) in let g = behind_start _ _ L (effects_need d steps) (past_effects z q steps ok.2 k end) in
      step_two _ _ _ L (max (stmts_need d init) (condition_need d o)) (max (stmt_need d x) (effects_need d steps)) (step_two _ _ _ L (stmts_need d init) (condition_need d o) a c) (step_two _ _ _ L (stmt_need d x) (effects_need d steps) f g)
  past_kind z il iw q s (switch v gs) ok b out next rest =
      let a = (last v).val b in let n = all_labels_last gs a in let e = groups_last gs n + 1 in let p = promoted (number_type (type_of v)) in
      let groups = groups_code z q (n + 1) e next gs rest in let chosen = start (Jump (default_block (n + 1) e gs)) q z.served ∷ groups in let labels = all_labels_code z (span_of v) (type_of v) (n + 1) gs a chosen in
      let one = (ones z.unit v).val in let c = past_number z.served (needs z.unit v).val (code_of z.unit q v).val (span_of v) (number_of v) p one (past_of z.served z.unit q v ok.0).val b z.served labels (omega arith) in
      let f = past_all_labels z (span_of v) (type_of v) (n + 1) gs a chosen in let g = past_groups z il q gs ok.1 (n + 1) e next rest in
      step_two _ _ _ z.served (needs z.unit v).val (groups_need z.unit gs) (with_floor _ _ z.served (needs z.unit v).val c) (behind_start _ _ z.served (labels_in z.unit gs) f ∙ g)
  past_kind z il iw q s break ok b out next rest = omega arith
  past_kind z il iw q s continue ok b out next rest = omega arith
  past_kind z il iw q s (return None) ok b out next rest = omega arith
  past_kind z il iw q s (return (Some r)) ok b out next rest = let a = past_right z.served z.unit q z.result r ok b (start (Return (Some z.served)) s z.served ∷ rest) in let one = right_one z.unit r in omega (arith, a, one)

  past_stmts : (z : Setting) (il iw : Bool) (ss : StmtTrees) → StmtsFine z.unit z.served il iw ss → (b out next : ℕ) (rest : List Item) → max z.served (past (stmts_code z b out next ss rest)) ≡ max (z.served + stmts_need z.unit ss) (past rest)
  past_stmts z il iw no_stmt ok b out next rest = omega arith
  past_stmts z il iw (also_stmt s ss) ok b out next rest =
      let a = past_stmt z il iw s ok.0 b out next (stmts_code z (stmt_last s b) out next ss rest) in let c = past_stmts z il iw ss ok.1 (stmt_last s b) out next rest in omega (arith, a, c)

  -- with the labels of the groups
  past_groups : (z : Setting) (il : Bool) (q : Span) (gs : GroupTrees) → GroupsFine z.unit z.served il true gs → (g out next : ℕ) (rest : List Item)
      → max (z.served + labels_in z.unit gs) (past (groups_code z q g out next gs rest)) ≡ max (z.served + groups_need z.unit gs) (past rest)
  past_groups z il q no_group ok g out next rest = omega arith
  past_groups z il q (also_group labels body gs) ok g out next rest =
      let e = stmts_last body g + 1 in let more = start (Jump e) q z.served ∷ groups_code z q e out next gs rest in
      groups_step _ _ _ z.served (labels_need labels) (labels_in z.unit gs) (stmts_need z.unit body) (groups_need z.unit gs) (behind_start _ _ z.served (stmts_need z.unit body) (past_stmts z il true body ok.0 g out next more)) (past_groups z il q gs ok.1 e out next rest)
