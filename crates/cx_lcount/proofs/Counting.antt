-- How many blocks code starts.
use Rattle.std.proofs.Common.{ℕ, pos, negsuc, ◌≡◌, ◌+◌, ◌==◌, Bool, true, false, List, [], ◌∷◌, ◌++◌, length, Option, Some, None, refl, arith}
use Rattle.std.specs.Prelude.{if◌then◌else◌}
use Rattle.cx_base.specs.declared.number.CInt.{CInt}
use Rattle.cx_base.specs.declared.span.Span.{Span}
use Rattle.cx_cconst.specs.Constants.{number_type, converted}
use Rattle.cx_cmean.specs.Effects.{taken_as, pointee_of, local_of, operand_of}
use Rattle.cx_cmean.specs.Expressions.{target}
use Rattle.cx_cmean.specs.Numbers.{value_type, number_of, is_same, applied_in, right_in, compared_in}
use Rattle.cx_cmean.specs.Program.{offset_in, unit_in, function_of}
use Rattle.cx_ctree.specs.Conversions.{unsigned_long, signed_long, promoted}
use Rattle.cx_ctree.specs.Exprs.{ExprTree, node, ExprKindTree, num, name, local, global, unary, binary, cond, cast, size_of, size_of_expr, index, member, arrow, deref, address, span_of, type_of, CallTree, RhsTree, value, call, EffectTree, set, update, call_alone, value_alone}
use Rattle.cx_ctree.specs.Stmts.{StmtTree, stmt, StmtKindTree, block, empty, effect, declare, if_alone, if_else, while, do_while, for, switch, break, continue, return, StmtTrees, no_stmt, also_stmt, GroupTrees, no_group, also_group}
use Rattle.cx_ctree.specs.Types.{TypeTree, void, int, pointer, array, tag}
use Rattle.cx_ctree.specs.declared.expr.Binary.{Binary}
use Rattle.cx_ctree.specs.declared.expr.Binary.TheVariants as ops
use Rattle.cx_ctree.specs.declared.expr.Unary.TheVariants as u
use Rattle.cx_goto.specs.Trees as trees
use Rattle.cx_goto.specs.Trees.{LineTree, const, bin}
use Rattle.cx_goto.specs.declared.code.End.{End}
use Rattle.cx_goto.specs.declared.code.End.TheVariants.{Jump, Branch, Return}
use Rattle.cx_goto.specs.declared.code.Op.TheVariants.{Mul, Sub, Div, Xor}
use Rattle.cx_goto.specs.declared.code.Rel.TheVariants.{Ne}
use Rattle.cx_lcode.specs.Effects.{arguments_code, call_code, right_code, left_at_code, read_code, write_code, updates, effect_code}
use Rattle.cx_lcode.specs.Items.{Item, line, start, does, converts, blocks_of, first_token}
use Rattle.cx_lcode.specs.Lines.{calls}
use Rattle.cx_lcode.specs.Places.{Last, Sort, both, either, comparing, computing, sort_of, last, last_of_two, right_last, effect_last, condition_last, labels_last, all_labels_last, stmt_last, stmts_last, groups_last, effects_last}
use Rattle.cx_lcode.specs.Starts.{Starts, by_value, by_test, of_two, starts, kind_starts, place_starts, kind_place_starts, all_starts, right_starts, left_at_starts, effect_starts, effects_starts, condition_starts, labels_starts, all_labels_starts, stmt_starts, kind_stmt_starts, stmts_starts, groups_starts}
use Rattle.cx_lcode.specs.Statements.{Setting, effects_code, test_code, condition_code, labels_code, all_labels_code, default_block, stmt_code, kind_code as kind_stmt_code, stmts_code, groups_code}
use Rattle.cx_lcode.specs.Values.{Code, code_by_value, code_by_test, op_of, rel_of, operands, operation, scaled, object_code, further_code, binary_code, code_of, kind_code, place_code, kind_place_code}
use Rattle.cx_lright.specs.Fine.{CallFine, RightFine, EffectFine, EffectsFine, StmtFine, KindStmtFine, StmtsFine, GroupsFine}
use Rattle.cx_sname.specs.File.{Declared}

-- how many blocks items start
abbrev pub starts_in : List Item → ℕ
starts_in [] = 0
starts_in (line l ∷ is) = starts_in is
starts_in (start e s k ∷ is) = starts_in is + 1

pub blocks_are_started : (is : List Item) (keep : ℕ) (ls : List LineTree) (e : End) (s : Span) → length (blocks_of keep ls is e s) ≡ starts_in is + 1
blocks_are_started [] keep ls e s = refl
blocks_are_started (line l ∷ is) keep ls e s = blocks_are_started is keep (ls ++ l ∷ []) e s
blocks_are_started (start x q k ∷ is) keep ls e s = let h = blocks_are_started is k [] e s in omega (arith, h)

-- ---- of values

abbrev pub StartsVal : (n : ℕ) (val : ℕ → ℕ → List Item → List Item) → Type 0
StartsVal n val = (b t : ℕ) (rest : List Item) → starts_in (val b t rest) ≡ n + starts_in rest

-- a test ends its last block
abbrev pub StartsTest : (n : ℕ) (test : ℕ → ℕ → ℕ → ℕ → ℕ → List Item → List Item) → Type 0
StartsTest n test = (b t j m keep : ℕ) (rest : List Item) → starts_in (test b t j m keep rest) ≡ n + 1 + starts_in rest

pub record Counts (n : Starts) (k : Code) : Type 0 where
  pub val : StartsVal n.val k.val
  pub test : StartsTest n.test k.test

if_line : (l : LineTree) (rest : List Item) (z : Bool) → starts_in (if z then rest else line l ∷ rest) ≡ starts_in rest
if_line l rest true = refl
if_line l rest false = refl

if_lines : (l m : LineTree) (rest : List Item) (z : Bool) → starts_in (if z then rest else line l ∷ line m ∷ rest) ≡ starts_in rest
if_lines l m rest true = refl
if_lines l m rest false = refl

of_converts : (s : Span) (from to : CInt) (t : ℕ) (rest : List Item) → starts_in (converts s from to t rest) ≡ starts_in rest
of_converts s from to t rest = if_line _ rest (is_same from to)

of_further : (s : Span) (off t : ℕ) (rest : List Item) → starts_in (further_code s off t rest) ≡ starts_in rest
of_further s off t rest = if_lines _ _ rest (off == 0)

of_object : (s : Span) (v : TypeTree) (t : ℕ) (rest : List Item) → starts_in (object_code s v t rest) ≡ starts_in rest
of_object s void t rest = refl
of_object s (int v) t rest = refl
of_object s (pointer v) t rest = refl
of_object s (array v n) t rest = refl
of_object s (tag v) t rest = refl

-- a value, and then lines alone
then_converted : (n : ℕ) (val : ℕ → ℕ → List Item → List Item) (s : Span) (from to : CInt) → StartsVal n val → StartsVal n (λ b t rest. val b t (converts s from to t rest))
then_converted n val s from to h b t rest = let e = h b t (converts s from to t rest) in let c = of_converts s from to t rest in omega (arith, e, c)

then_object : (n : ℕ) (val : ℕ → ℕ → List Item → List Item) (s : Span) (v : TypeTree) → StartsVal n val → StartsVal n (λ b t rest. val b t (object_code s v t rest))
then_object n val s v h b t rest = let e = h b t (object_code s v t rest) in let c = of_object s v t rest in omega (arith, e, c)

then_further : (n : ℕ) (val : ℕ → ℕ → List Item → List Item) (s : Span) (off : ℕ) → StartsVal n val → StartsVal n (λ b t rest. val b t (further_code s off t rest))
then_further n val s off h b t rest = let e = h b t (further_code s off t rest) in let c = of_further s off t rest in omega (arith, e, c)

of_operands : (nx ny : ℕ) (x y : Code) (sx sy : Span) (lx : Last) (v tx w ty : CInt) → StartsVal nx x.val → StartsVal ny y.val
    → (b t : ℕ) (rest : List Item) → starts_in (operands x y sx sy lx v tx w ty b t rest) ≡ nx + ny + starts_in rest
of_operands nx ny x y sx sy lx v tx w ty hx hy b t rest =
    let a = then_converted nx x.val sx v tx hx b t (y.val (lx.val b) (t + 1) (converts sy w ty (t + 1) rest)) in
    let e = then_converted ny y.val sy w ty hy (lx.val b) (t + 1) rest in omega (arith, a, e)

of_both : (nx ny : ℕ) (x y : Code) (lx : Last) → StartsVal nx x.val → StartsVal ny y.val → (b t : ℕ) (rest : List Item) → starts_in (x.val b t (y.val (lx.val b) (t + 1) rest)) ≡ nx + ny + starts_in rest
of_both nx ny x y lx hx hy b t rest = let a = hx b t (y.val (lx.val b) (t + 1) rest) in let e = hy (lx.val b) (t + 1) rest in omega (arith, a, e)

of_operation : (d : Declared) (s : Span) (op : Binary) (x y : Code) (sx sy : Span) (lx : Last) (nx ny : ℕ) → StartsVal nx x.val → StartsVal ny y.val → (v w : TypeTree) → StartsVal (nx + ny) (operation d s op v w x y sx sy lx)
of_operation d s op x y sx sy lx nx ny hx hy (int v) (int w) b t rest =
    of_operands nx ny x y sx sy lx v (applied_in op v w) w (right_in op v w) hx hy b t (does s (bin t (op_of op) (applied_in op v w) t (t + 1)) ∷ rest)
of_operation d s op x y sx sy lx nx ny hx hy (pointer v) (int w) b t rest =
    of_operands nx ny x y sx sy lx unsigned_long unsigned_long w unsigned_long hx hy b t (scaled s (unit_in d v) (t + 1) (does s (bin t (op_of op) unsigned_long t (t + 1)) ∷ rest))
of_operation d s op x y sx sy lx nx ny hx hy (int v) (pointer w) b t rest =
    let last_one = does s (bin t (op_of op) unsigned_long t (t + 1)) ∷ rest in let more = scaled s (unit_in d w) t (y.val (lx.val b) (t + 1) last_one) in
    let a = then_converted nx x.val sx v unsigned_long hx b t more in let e = hy (lx.val b) (t + 1) last_one in omega (arith, a, e)
of_operation d s op x y sx sy lx nx ny hx hy (pointer v) (pointer w) b t rest =
    of_both nx ny x y lx hx hy b t (does s (bin t (op_of op) signed_long t (t + 1)) ∷ does s (const (t + 1) (pos (unit_in d v))) ∷ does s (bin t Div signed_long t (t + 1)) ∷ rest)
of_operation d s op x y sx sy lx nx ny hx hy void w b t rest = of_both nx ny x y lx hx hy b t rest
of_operation d s op x y sx sy lx nx ny hx hy (array v j) w b t rest = of_both nx ny x y lx hx hy b t rest
of_operation d s op x y sx sy lx nx ny hx hy (tag v) w b t rest = of_both nx ny x y lx hx hy b t rest
of_operation d s op x y sx sy lx nx ny hx hy (int v) void b t rest = of_both nx ny x y lx hx hy b t rest
of_operation d s op x y sx sy lx nx ny hx hy (int v) (array w j) b t rest = of_both nx ny x y lx hx hy b t rest
of_operation d s op x y sx sy lx nx ny hx hy (int v) (tag w) b t rest = of_both nx ny x y lx hx hy b t rest
of_operation d s op x y sx sy lx nx ny hx hy (pointer v) void b t rest = of_both nx ny x y lx hx hy b t rest
of_operation d s op x y sx sy lx nx ny hx hy (pointer v) (array w j) b t rest = of_both nx ny x y lx hx hy b t rest
of_operation d s op x y sx sy lx nx ny hx hy (pointer v) (tag w) b t rest = of_both nx ny x y lx hx hy b t rest

counts_by_value : (n : ℕ) (s : Span) (val : ℕ → ℕ → List Item → List Item) → StartsVal n val → Counts (by_value n) (code_by_value s val)
counts_by_value n s val h = record {
  val = h;
  test = λ b t j m keep rest. let a = h b t (does s (const (t + 1) (pos 0)) ∷ start (Branch Ne t (t + 1) j m) s keep ∷ rest) in omega (arith, a);
}

counts_by_test : (n : ℕ) (q s : Span) (f : ℕ → ℕ) (test : ℕ → ℕ → ℕ → ℕ → ℕ → List Item → List Item) → StartsTest n test → Counts (by_test n) (code_by_test q s f test)
counts_by_test n q s f test h = record {
  val = λ b t rest. let j = f b + 1 in let m = j + 1 in let e = m + 1 in
      let a = h b t j m t (does s (const t (pos 1)) ∷ start (Jump e) q t ∷ does s (const t (pos 0)) ∷ start (Jump e) q (t + 1) ∷ rest) in omega (arith, a);
  test = h;
}

counts_binary : (d : Declared) (q s : Span) (z : Sort) (op : Binary) (v w : TypeTree) (x y : Code) (sx sy : Span) (lx ly : Last) (nx ny : Starts) → Counts nx x → Counts ny y
    → Counts (of_two z nx ny) (binary_code d q s z op v w x y sx sy lx (last_of_two z lx ly))
counts_binary d q s both op v w x y sx sy lx ly nx ny hx hy = counts_by_test _ q s _ _
    (λ b t j m keep rest. let k = lx.test b + 1 in let a = hx.test b t k m t (y.test k t j m keep rest) in let e = hy.test k t j m keep rest in omega (arith, a, e))
counts_binary d q s either op v w x y sx sy lx ly nx ny hx hy = counts_by_test _ q s _ _
    (λ b t j m keep rest. let k = lx.test b + 1 in let a = hx.test b t j k t (y.test k t j m keep rest) in let e = hy.test k t j m keep rest in omega (arith, a, e))
counts_binary d q s comparing op v w x y sx sy lx ly nx ny hx hy = counts_by_test _ q s _ _
    (λ b t j m keep rest.
    let a = of_operands nx.val ny.val x y sx sy lx (number_type v) (compared_in v w) (number_type w) (compared_in v w) hx.val hy.val b t (start (Branch (rel_of op) t (t + 1) j m) s keep ∷ rest) in omega (arith, a))
counts_binary d q s computing op v w x y sx sy lx ly nx ny hx hy = counts_by_value _ s _ (of_operation d s op x y sx sy lx nx.val ny.val hx.val hy.val v w)

counts_index : (d : Declared) (q s : Span) (x y : ExprTree) → Counts (starts x) (code_of d q x) → Counts (starts y) (code_of d q y) → StartsVal (kind_place_starts (index x y)) (kind_place_code d q s (index x y))
counts_index d q s x y hx hy =
    of_operation d s ops.Add (code_of d q x) (code_of d q y) (span_of x) (span_of y) (last x) (starts x).val (starts y).val hx.val hy.val (value_type (type_of x)) (value_type (type_of y))

mutual
  pub counts_of : (d : Declared) (q : Span) (e : ExprTree) → Counts (starts e) (code_of d q e)
  counts_of d q (node s t k) = kind_counts d q s t k

  pub kind_counts : (d : Declared) (q s : Span) (ty : TypeTree) (k : ExprKindTree) → Counts (kind_starts k) (kind_code d q s ty k)
  kind_counts d q s ty (num v n) = counts_by_value 0 s _ (λ b t rest. omega arith)
  kind_counts d q s ty (name n) = counts_by_value 0 s _ (λ b t rest. omega arith)
  kind_counts d q s ty (local x) = counts_by_value 0 s _ (λ b t rest. omega arith)
  kind_counts d q s ty (global x) = counts_by_value 0 s _ (λ b t rest. let c = of_object s ty t rest in omega (arith, c))
  kind_counts d q s ty (unary u.Plus x) = counts_by_value _ s _ (then_converted (starts x).val (code_of d q x).val (span_of x) (number_of x) (number_type ty) (counts_of d q x).val)
  kind_counts d q s ty (unary u.Neg x) = counts_by_value _ s _
      (λ b t rest. then_converted (starts x).val (code_of d q x).val (span_of x) (number_of x) (number_type ty) (counts_of d q x).val b (t + 1) (does s (bin t Sub (number_type ty) t (t + 1)) ∷ rest))
  kind_counts d q s ty (unary u.Compl x) = counts_by_value _ s _
      (λ b t rest. then_converted (starts x).val (code_of d q x).val (span_of x) (number_of x) (number_type ty) (counts_of d q x).val b t (does s (const (t + 1) (converted (number_type ty) (negsuc 0))) ∷ does s (bin t Xor (number_type ty) t (t + 1)) ∷ rest))
  kind_counts d q s ty (unary u.Not x) = counts_by_test _ q s _ _ (λ b t j m keep rest. (counts_of d q x).test b t m j keep rest)
  kind_counts d q s ty (binary op x y) =
      counts_binary d q s (sort_of op) op (value_type (type_of x)) (value_type (type_of y)) (code_of d q x) (code_of d q y) (span_of x) (span_of y) (last x) (last y) (starts x) (starts y) (counts_of d q x) (counts_of d q y)
  kind_counts d q s ty (cond e x y) = counts_by_value _ s _
      (λ b t rest. let j = (last e).test b + 1 in let m = (last x).val j + 1 in let f = (last y).val m + 1 in
      let end = start (Jump f) q (t + 1) ∷ rest in let other = start (Jump f) q t ∷ (code_of d q y).val m t (converts (span_of y) (number_of y) (number_type ty) t end) in
      let a = (counts_of d q e).test b t j m t ((code_of d q x).val j t (converts (span_of x) (number_of x) (number_type ty) t other)) in
      let c = then_converted (starts x).val (code_of d q x).val (span_of x) (number_of x) (number_type ty) (counts_of d q x).val j t other in
      let g = then_converted (starts y).val (code_of d q y).val (span_of y) (number_of y) (number_type ty) (counts_of d q y).val m t end in omega (arith, a, c, g))
  kind_counts d q s ty (cast w x) = counts_by_value _ s _ (then_converted (starts x).val (code_of d q x).val (span_of x) (number_of x) (number_type ty) (counts_of d q x).val)
  kind_counts d q s ty (size_of w) = counts_by_value 0 s _ (λ b t rest. omega arith)
  kind_counts d q s ty (size_of_expr x) = counts_by_value 0 s _ (λ b t rest. omega arith)
  kind_counts d q s ty (index x y) = counts_by_value _ s _ (then_object (kind_place_starts (index x y)) (kind_place_code d q s (index x y)) s ty (counts_index d q s x y (counts_of d q x) (counts_of d q y)))
  kind_counts d q s ty (member x m) = counts_by_value _ s _ (then_object (place_starts x) (λ b t rest. place_code d q x b t (further_code s (offset_in d (type_of x) m) t rest)) s ty (then_further (place_starts x) (place_code d q x) s (offset_in d (type_of x) m) (place_counts d q x)))
  kind_counts d q s ty (arrow x m) = counts_by_value _ s _ (then_object (starts x).val (λ b t rest. (code_of d q x).val b t (further_code s (offset_in d (target (value_type (type_of x))) m) t rest)) s ty (then_further (starts x).val (code_of d q x).val s (offset_in d (target (value_type (type_of x))) m) (counts_of d q x).val))
  kind_counts d q s ty (deref x) = counts_by_value _ s _ (then_object (starts x).val (code_of d q x).val s ty (counts_of d q x).val)
  kind_counts d q s ty (address x) = counts_by_value _ s _ (place_counts d q x)

  pub place_counts : (d : Declared) (q : Span) (e : ExprTree) → StartsVal (place_starts e) (place_code d q e)
  place_counts d q (node s t k) = kind_place_counts d q s k

  pub kind_place_counts : (d : Declared) (q s : Span) (k : ExprKindTree) → StartsVal (kind_place_starts k) (kind_place_code d q s k)
  kind_place_counts d q s (global x) = λ b t rest. omega arith
  kind_place_counts d q s (index x y) = counts_index d q s x y (counts_of d q x) (counts_of d q y)
  kind_place_counts d q s (member x m) = then_further (place_starts x) (place_code d q x) s (offset_in d (type_of x) m) (place_counts d q x)
  kind_place_counts d q s (arrow x m) = then_further (starts x).val (code_of d q x).val s (offset_in d (target (value_type (type_of x))) m) (counts_of d q x).val
  kind_place_counts d q s (deref x) = (counts_of d q x).val
  kind_place_counts d q s (num v n) = λ b t rest. omega arith
  kind_place_counts d q s (name n) = λ b t rest. omega arith
  kind_place_counts d q s (local x) = λ b t rest. omega arith
  kind_place_counts d q s (unary op x) = λ b t rest. omega arith
  kind_place_counts d q s (binary op x y) = λ b t rest. omega arith
  kind_place_counts d q s (cond e x y) = λ b t rest. omega arith
  kind_place_counts d q s (cast w x) = λ b t rest. omega arith
  kind_place_counts d q s (size_of w) = λ b t rest. omega arith
  kind_place_counts d q s (size_of_expr x) = λ b t rest. omega arith
  kind_place_counts d q s (address x) = λ b t rest. omega arith

-- ---- of effects

-- a call with more arguments than parameters has no code for the others
of_arguments : (d : Declared) (q : Span) (es : List ExprTree) (ts : List TypeTree) → length es ≡ length ts → (b t : ℕ) (rest : List Item) → starts_in (arguments_code d q es ts b t rest) ≡ all_starts es + starts_in rest
of_arguments d q [] ts h b t rest = omega arith
of_arguments d q (e ∷ es) [] h b t rest = absurd (omega (arith, h))
of_arguments d q (e ∷ es) (p ∷ ps) h b t rest =
    let more = arguments_code d q es ps ((last e).val b) (t + 1) rest in
    let a = then_converted (starts e).val (code_of d q e).val (span_of e) (number_of e) (number_type p) (counts_of d q e).val b t more in
    let c = of_arguments d q es ps (omega (arith, h)) ((last e).val b) (t + 1) rest in omega (arith, a, c)

of_call : (n : ℕ) (d : Declared) (q : Span) (k : CallTree) (p : Option TypeTree) → CallFine d n k → (b L : ℕ) (rest : List Item) → starts_in (call_code d q k p b L rest) ≡ all_starts k.args + starts_in rest
of_call n d q k p ok b L rest = of_arguments d q k.args (function_of d k.name).params ok.1 b L (calls k p L ∷ rest)

of_right : (n : ℕ) (d : Declared) (q : Span) (t : TypeTree) (r : RhsTree) → RightFine d n r → (b L : ℕ) (rest : List Item) → starts_in (right_code d q t r b L rest) ≡ right_starts r + starts_in rest
of_right n d q t (value e) ok b L rest = then_converted (starts e).val (code_of d q e).val (span_of e) (number_of e) (number_type t) (counts_of d q e).val b L rest
of_right n d q t (call k w) ok b L rest =
    let tk = number_type (taken_as w t) in let f = number_type (function_of d k.name).result in let more = converts k.span tk (number_type t) L rest in
    let a = of_call n d q k (pointee_of (taken_as w t)) ok.0 b L (converts k.span f tk L more) in
    let c = of_converts k.span f tk L more in let g = of_converts k.span tk (number_type t) L rest in omega (arith, a, c, g)

of_left : (d : Declared) (q : Span) (l : ExprTree) (o : Option ℕ) (b L : ℕ) (rest : List Item) → starts_in (left_at_code d q l o b L rest) ≡ left_at_starts l o + starts_in rest
of_left d q l (Some x) b L rest = omega arith
of_left d q l None b L rest = place_counts d q l b (L + 1) rest

of_read : (l : ExprTree) (o : Option ℕ) (L t : ℕ) (rest : List Item) → starts_in (read_code l o L t ∷ rest) ≡ starts_in rest
of_read l (Some x) L t rest = refl
of_read l None L t rest = refl

of_write : (l : ExprTree) (o : Option ℕ) (L t : ℕ) (rest : List Item) → starts_in (write_code l o L t ∷ rest) ≡ starts_in rest
of_write l (Some x) L t rest = refl
of_write l None L t rest = refl

of_updates : (d : Declared) (s : Span) (op : Binary) (t u : TypeTree) (L : ℕ) (rest : List Item) → starts_in (updates d s op t u L rest) ≡ starts_in rest
of_updates d s op (int t) (int u) L rest =
    let k = applied_in op t u in let r = right_in op t u in let end = converts s k t (L + 2) rest in let middle = does s (bin (L + 2) (op_of op) k (L + 2) L) ∷ end in
    let a = of_converts s t k (L + 2) (converts s u r L middle) in let c = of_converts s u r L middle in let e = of_converts s k t (L + 2) rest in omega (arith, a, c, e)
of_updates d s op (pointer t) (int u) L rest =
    of_converts s u unsigned_long L (does s (const (L + 3) (pos (unit_in d t))) ∷ does s (bin L Mul unsigned_long L (L + 3)) ∷ does s (bin (L + 2) (op_of op) unsigned_long (L + 2) L) ∷ rest)
of_updates d s op void u L rest = refl
of_updates d s op (array t j) u L rest = refl
of_updates d s op (tag t) u L rest = refl
of_updates d s op (int t) void L rest = refl
of_updates d s op (int t) (pointer u) L rest = refl
of_updates d s op (int t) (array u j) L rest = refl
of_updates d s op (int t) (tag u) L rest = refl
of_updates d s op (pointer t) void L rest = refl
of_updates d s op (pointer t) (pointer u) L rest = refl
of_updates d s op (pointer t) (array u j) L rest = refl
of_updates d s op (pointer t) (tag u) L rest = refl

of_effect : (n : ℕ) (d : Declared) (q : Span) (e : EffectTree) → EffectFine d n e → (b L : ℕ) (rest : List Item) → starts_in (effect_code d q e b L rest) ≡ effect_starts e + starts_in rest
of_effect n d q (set l r s) ok b L rest =
    let o = local_of l in let write = write_code l o L L ∷ rest in
    let a = of_right n d q (type_of l) r ok.0 b L (left_at_code d q l o (right_last r b) L write) in let c = of_left d q l o (right_last r b) L write in
    let w = of_write l o L L rest in omega (arith, a, c, w)
of_effect n d q (update op l e s) ok b L rest =
    let o = local_of l in let t = type_of l in let v = value_type (type_of e) in let b1 = (last e).val b in
    let write = write_code l o L (L + 2) ∷ rest in let change = updates d s op t v L write in let read = read_code l o L (L + 2) ∷ change in
    let a = (counts_of d q e).val b L (left_at_code d q l o b1 L read) in let c = of_left d q l o b1 L read in let r = of_read l o L (L + 2) change in
    let g = of_updates d s op t v L write in let w = of_write l o L (L + 2) rest in omega (arith, a, c, r, g, w)
of_effect n d q (call_alone k) ok b L rest = of_call n d q k None ok b L rest
of_effect n d q (value_alone e) ok b L rest = (counts_of d q (operand_of e)).val b L rest

of_effects : (n : ℕ) (z : Setting) (q : Span) (es : List EffectTree) → EffectsFine z.unit n es → (b : ℕ) (rest : List Item) → starts_in (effects_code z q es b rest) ≡ effects_starts es + starts_in rest
of_effects n z q [] ok b rest = omega arith
of_effects n z q (e ∷ es) ok b rest =
    let a = of_effect n z.unit q e ok.0 b z.served (effects_code z q es (effect_last e b) rest) in let c = of_effects n z q es ok.1 (effect_last e b) rest in omega (arith, a, c)

-- ---- of statements

of_test : (z : Setting) (q : Span) (c : ExprTree) (b j m : ℕ) (rest : List Item) → starts_in (test_code z q c b j m rest) ≡ (starts c).test + 1 + starts_in rest
of_test z q c b j m rest = (counts_of z.unit q c).test b z.served j m z.served rest

of_condition : (z : Setting) (q : Span) (o : Option ExprTree) (b j m : ℕ) (rest : List Item) → starts_in (condition_code z q o b j m rest) ≡ condition_starts o + 1 + starts_in rest
of_condition z q None b j m rest = omega arith
of_condition z q (Some c) b j m rest = of_test z q c b j m rest

of_labels : (z : Setting) (sv : Span) (t : TypeTree) (g : ℕ) (ls : List (Option ExprTree)) (b : ℕ) (rest : List Item) → starts_in (labels_code z sv t g ls b rest) ≡ labels_starts ls + starts_in rest
of_labels z sv t g [] b rest = omega arith
of_labels z sv t g (None ∷ ls) b rest = of_labels z sv t g ls b rest
of_labels z sv t g (Some e ∷ ls) b rest = let a = of_labels z sv t g ls (b + 1) rest in omega (arith, a)

of_all_labels : (z : Setting) (sv : Span) (t : TypeTree) (g : ℕ) (gs : GroupTrees) (b : ℕ) (rest : List Item) → starts_in (all_labels_code z sv t g gs b rest) ≡ all_labels_starts gs + starts_in rest
of_all_labels z sv t g no_group b rest = omega arith
of_all_labels z sv t g (also_group labels body gs) b rest =
    let a = of_labels z sv t g labels b (all_labels_code z sv t (stmts_last body g + 1) gs (labels_last labels b) rest) in let c = of_all_labels z sv t (stmts_last body g + 1) gs (labels_last labels b) rest in omega (arith, a, c)

mutual
  pub of_stmt : (n : ℕ) (z : Setting) (il iw : Bool) (s : StmtTree) → StmtFine z.unit n il iw s → (b out next : ℕ) (rest : List Item) → starts_in (stmt_code z b out next s rest) ≡ stmt_starts s + starts_in rest
  of_stmt n z il iw (stmt s k) ok b out next rest = of_kind n z il iw (first_token z.tokens s) s k ok b out next rest

  of_kind : (n : ℕ) (z : Setting) (il iw : Bool) (q s : Span) (k : StmtKindTree) → KindStmtFine z.unit n il iw k → (b out next : ℕ) (rest : List Item) → starts_in (kind_stmt_code z q s b out next k rest) ≡ kind_stmt_starts k + starts_in rest
  of_kind n z il iw q s (block ss) ok b out next rest = of_stmts n z il iw ss ok b out next rest
  of_kind n z il iw q s empty ok b out next rest = omega arith
  of_kind n z il iw q s (effect e) ok b out next rest = of_effect n z.unit q e ok b z.served rest
  of_kind n z il iw q s (declare x t None) ok b out next rest = omega arith
  of_kind n z il iw q s (declare x t (Some r)) ok b out next rest = of_right n z.unit s t r ok.1 b z.served (does s (trees.copy x z.served) ∷ rest)
  of_kind n z il iw q s (if_alone c x) ok b out next rest =
      let j = (last c).test b + 1 in let e = stmt_last x j + 1 in let more = start (Jump e) q z.served ∷ rest in
      let a = of_test z q c b j e (stmt_code z j out next x more) in let f = of_stmt n z il iw x ok.1 j out next more in omega (arith, a, f)
  of_kind n z il iw q s (if_else c x y) ok b out next rest =
      let j = (last c).test b + 1 in let m = stmt_last x j + 1 in let e = stmt_last y m + 1 in let end = start (Jump e) q z.served ∷ rest in let other = start (Jump e) q z.served ∷ stmt_code z m out next y end in
      let a = of_test z q c b j m (stmt_code z j out next x other) in let f = of_stmt n z il iw x ok.1 j out next other in let g = of_stmt n z il iw y ok.2 m out next end in omega (arith, a, f, g)
  of_kind n z il iw q s (while c x) ok b out next rest =
      let h = b + 1 in let j = (last c).test h + 1 in let e = stmt_last x j + 1 in let more = start (Jump h) q z.served ∷ rest in
      let a = of_test z q c h j e (stmt_code z j e h x more) in let f = of_stmt n z true true x ok.1 j e h more in omega (arith, a, f)
  of_kind n z il iw q s (do_while x c) ok b out next rest =
      let h = b + 1 in let k = stmt_last x h + 1 in let e = (last c).test k + 1 in let more = start (Jump k) q z.served ∷ test_code z q c k h e rest in
      let f = of_stmt n z true true x ok.0 h e k more in let a = of_test z q c k h e rest in omega (arith, a, f)
  of_kind n z il iw q s (for init o steps x) ok b out next rest =
      let h = stmts_last init b + 1 in let j = condition_last o h + 1 in let k = stmt_last x j + 1 in let e = effects_last steps k + 1 in
      let end = start (Jump h) q z.served ∷ rest in let stepping = start (Jump k) q z.served ∷ effects_code z q steps k end in let body = stmt_code z j e k x stepping in let head = start (Jump h) q z.served ∷ condition_code z q o h j e body in
      let a = of_stmts n z il iw init ok.0 b out next head in let c = of_condition z q o h j e body in
      let f = of_stmt n z true true x ok.3 j e k stepping in let g = of_effects n z q steps ok.2 k end in omega (arith, a, c, f, g)
  of_kind n z il iw q s (switch v gs) ok b out next rest =
      let a = (last v).val b in let m = all_labels_last gs a in let e = groups_last gs m + 1 in let p = promoted (number_type (type_of v)) in
      let groups = groups_code z q (m + 1) e next gs rest in let chosen = start (Jump (default_block (m + 1) e gs)) q z.served ∷ groups in let labels = all_labels_code z (span_of v) (type_of v) (m + 1) gs a chosen in
      let c = then_converted (starts v).val (code_of z.unit q v).val (span_of v) (number_of v) p (counts_of z.unit q v).val b z.served labels in
      let f = of_all_labels z (span_of v) (type_of v) (m + 1) gs a chosen in let g = of_groups n z il q gs ok.1 (m + 1) e next rest in omega (arith, c, f, g)
  of_kind n z il iw q s break ok b out next rest = omega arith
  of_kind n z il iw q s continue ok b out next rest = omega arith
  of_kind n z il iw q s (return None) ok b out next rest = omega arith
  of_kind n z il iw q s (return (Some r)) ok b out next rest = let a = of_right n z.unit q z.result r ok b z.served (start (Return (Some z.served)) s z.served ∷ rest) in omega (arith, a)

  of_stmts : (n : ℕ) (z : Setting) (il iw : Bool) (ss : StmtTrees) → StmtsFine z.unit n il iw ss → (b out next : ℕ) (rest : List Item) → starts_in (stmts_code z b out next ss rest) ≡ stmts_starts ss + starts_in rest
  of_stmts n z il iw no_stmt ok b out next rest = omega arith
  of_stmts n z il iw (also_stmt s ss) ok b out next rest =
      let a = of_stmt n z il iw s ok.0 b out next (stmts_code z (stmt_last s b) out next ss rest) in let c = of_stmts n z il iw ss ok.1 (stmt_last s b) out next rest in omega (arith, a, c)

  of_groups : (n : ℕ) (z : Setting) (il : Bool) (q : Span) (gs : GroupTrees) → GroupsFine z.unit n il true gs → (g out next : ℕ) (rest : List Item) → starts_in (groups_code z q g out next gs rest) ≡ groups_starts gs + starts_in rest
  of_groups n z il q no_group ok g out next rest = omega arith
  of_groups n z il q (also_group labels body gs) ok g out next rest =
      let e = stmts_last body g + 1 in let more = start (Jump e) q z.served ∷ groups_code z q e out next gs rest in
      let a = of_stmts n z il true body ok.0 g out next more in let c = of_groups n z il q gs ok.1 e out next rest in omega (arith, a, c)
