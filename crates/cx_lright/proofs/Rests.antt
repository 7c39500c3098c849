-- What stands in the code after a value, an address and a test.
use Rattle.std.proofs.Common.{ℕ, pos, ◌+◌, ◌==◌, Bool, true, false, List, ◌∷◌}
use Rattle.std.specs.Prelude.{if◌then◌else◌, negsuc}
use Rattle.cx_base.specs.declared.number.CInt.{CInt}
use Rattle.cx_base.specs.declared.span.Span.{Span}
use Rattle.cx_cmean.specs.Expressions.{target}
use Rattle.cx_cconst.specs.Constants.{number_type, converted}
use Rattle.cx_cmean.specs.Numbers.{value_type, number_of, is_same, applied_in, right_in, compared_in}
use Rattle.cx_cmean.specs.Program.{offset_in, unit_in}
use Rattle.cx_ctree.specs.Exprs.{ExprTree, node, ExprKindTree, num, name, local, global, unary, binary, cond, cast, size_of, size_of_expr, index, member, arrow, deref, address, span_of, type_of}
use Rattle.cx_ctree.specs.Types.{TypeTree, void, int, pointer, array, tag}
use Rattle.cx_ctree.specs.declared.expr.Binary.{Binary}
use Rattle.cx_ctree.specs.declared.expr.Binary.TheVariants as ops
use Rattle.cx_ctree.specs.declared.expr.Unary.TheVariants as u
use Rattle.cx_ctree.specs.Conversions.{unsigned_long, signed_long}
use Rattle.cx_goto.specs.Trees.{LineTree, const, bin}
use Rattle.cx_goto.specs.declared.code.End.TheVariants.{Jump, Branch}
use Rattle.cx_goto.specs.declared.code.Op.TheVariants.{Sub, Div, Xor}
use Rattle.cx_goto.specs.declared.code.Rel.TheVariants.{Ne}
use Rattle.cx_lcode.specs.Items.{Item, line, start, does, converts}
use Rattle.cx_lcode.specs.Places.{Last, last_by_value, last_by_test, Sort, both, either, comparing, computing, sort_of, last_of_two, last, kind_last, last_place, kind_last_place}
use Rattle.cx_lcode.specs.Values.{Code, code_by_value, code_by_test, op_of, rel_of, operands, operation, scaled, object_code, further_code, binary_code, code_of, kind_code, place_code, kind_place_code}
use Rattle.cx_lright.proofs.Machine.{Coded, Keeps, HasAt}
use Rattle.cx_sname.specs.File.{Declared}

abbrev pub AfterVal : Coded → (ℕ → ℕ) → (ℕ → ℕ → List Item → List Item) → Type 0
AfterVal c f val = (b i t : ℕ) (rest : List Item) → HasAt c b i (val b t rest) → (i' : ℕ) × HasAt c (f b) i' rest

abbrev pub AfterTest : Coded → (ℕ → ℕ) → (ℕ → ℕ → ℕ → ℕ → ℕ → List Item → List Item) → Type 0
AfterTest c f test = (b i t j m keep : ℕ) (rest : List Item) → HasAt c b i (test b t j m keep rest) → Keeps c (f b + 1) keep × HasAt c (f b + 1) 0 rest

pub record Rest (c : Coded) (l : Last) (k : Code) : Type 0 where
  pub val : AfterVal c l.val k.val
  pub test : AfterTest c l.test k.test

-- ---- lines that may be left out

after_if : (c : Coded) (b i : ℕ) (l : LineTree) (rest : List Item) (z : Bool) → HasAt c b i (if z then rest else line l ∷ rest) → (i' : ℕ) × HasAt c b i' rest
after_if c b i l rest true h = (i, h)
after_if c b i l rest false h = (i + 1, h.1)

pub after_converts : (c : Coded) (b i : ℕ) (s : Span) (from to : CInt) (t : ℕ) (rest : List Item) → HasAt c b i (converts s from to t rest) → (i' : ℕ) × HasAt c b i' rest
after_converts c b i s from to t rest h = after_if c b i _ rest (is_same from to) h

-- what stands after a converted value
pub after_number : (c : Coded) (f : ℕ → ℕ) (val : ℕ → ℕ → List Item → List Item) (s : Span) (from to : CInt) → AfterVal c f val → AfterVal c f (λ b t rest. val b t (converts s from to t rest))
after_number c f val s from to r b i t rest h = let q = r b i t (converts s from to t rest) h in after_converts c (f b) q.0 s from to t rest q.1

after_if_two : (c : Coded) (b i : ℕ) (l m : LineTree) (rest : List Item) (z : Bool) → HasAt c b i (if z then rest else line l ∷ line m ∷ rest) → (i' : ℕ) × HasAt c b i' rest
after_if_two c b i l m rest true h = (i, h)
after_if_two c b i l m rest false h = (i + 1 + 1, h.1.1)

pub after_further : (c : Coded) (b i : ℕ) (s : Span) (off t : ℕ) (rest : List Item) → HasAt c b i (further_code s off t rest) → (i' : ℕ) × HasAt c b i' rest
after_further c b i s off t rest h = after_if_two c b i _ _ rest (off == 0) h

pub after_object : (c : Coded) (b i : ℕ) (s : Span) (v : TypeTree) (t : ℕ) (rest : List Item) → HasAt c b i (object_code s v t rest) → (i' : ℕ) × HasAt c b i' rest
after_object c b i s void t rest h = (i, h)
after_object c b i s (int v) t rest h = (i + 1, h.1)
after_object c b i s (pointer v) t rest h = (i + 1, h.1)
after_object c b i s (array v n) t rest h = (i, h)
after_object c b i s (tag v) t rest h = (i, h)

-- ---- operators

after_operands : (c : Coded) (x y : Code) (sx sy : Span) (lx : Last) (fy : ℕ → ℕ) → AfterVal c lx.val x.val → AfterVal c fy y.val
    → (v tx w ty : CInt) (b i t : ℕ) (rest : List Item) → HasAt c b i (operands x y sx sy lx v tx w ty b t rest) → (i' : ℕ) × HasAt c (fy (lx.val b)) i' rest
after_operands c x y sx sy lx fy rx ry v tx w ty b i t rest h =
    let q = rx b i t _ h in let k = after_converts c (lx.val b) q.0 sx v tx t _ q.1 in let r = ry (lx.val b) k.0 (t + 1) _ k.1 in
    after_converts c (fy (lx.val b)) r.0 sy w ty (t + 1) rest r.1

after_two : (c : Coded) (x y : Code) (lx : Last) (fy : ℕ → ℕ) → AfterVal c lx.val x.val → AfterVal c fy y.val
    → (b i t : ℕ) (rest : List Item) → HasAt c b i (x.val b t (y.val (lx.val b) (t + 1) rest)) → (i' : ℕ) × HasAt c (fy (lx.val b)) i' rest
after_two c x y lx fy rx ry b i t rest h = let q = rx b i t _ h in ry (lx.val b) q.0 (t + 1) rest q.1

pub after_operation : (c : Coded) (d : Declared) (s : Span) (op : Binary) (x y : Code) (sx sy : Span) (lx : Last) (fy : ℕ → ℕ) → AfterVal c lx.val x.val → AfterVal c fy y.val
    → (v w : TypeTree) (b i t : ℕ) (rest : List Item) → HasAt c b i (operation d s op v w x y sx sy lx b t rest) → (i' : ℕ) × HasAt c (fy (lx.val b)) i' rest
after_operation c d s op x y sx sy lx fy rx ry (int v) (int w) b i t rest h =
    let q = after_operands c x y sx sy lx fy rx ry v (applied_in op v w) w (right_in op v w) b i t (does s (bin t (op_of op) (applied_in op v w) t (t + 1)) ∷ rest) h in (q.0 + 1, q.1.1)
after_operation c d s op x y sx sy lx fy rx ry (pointer v) (int w) b i t rest h =
    let q = after_operands c x y sx sy lx fy rx ry unsigned_long unsigned_long w unsigned_long b i t (scaled s (unit_in d v) (t + 1) (does s (bin t (op_of op) unsigned_long t (t + 1)) ∷ rest)) h in
    (q.0 + 1 + 1 + 1, q.1.1.1.1)
after_operation c d s op x y sx sy lx fy rx ry (int v) (pointer w) b i t rest h =
    let last = does s (bin t (op_of op) unsigned_long t (t + 1)) ∷ rest in let more = scaled s (unit_in d w) t (y.val (lx.val b) (t + 1) last) in
    let q = rx b i t (converts sx v unsigned_long t more) h in let k = after_converts c (lx.val b) q.0 sx v unsigned_long t more q.1 in
    let r = ry (lx.val b) (k.0 + 1 + 1) (t + 1) last k.1.1.1 in (r.0 + 1, r.1.1)
after_operation c d s op x y sx sy lx fy rx ry (pointer v) (pointer w) b i t rest h =
    let q = after_two c x y lx fy rx ry b i t (does s (bin t (op_of op) signed_long t (t + 1)) ∷ does s (const (t + 1) (pos (unit_in d v))) ∷ does s (bin t Div signed_long t (t + 1)) ∷ rest) h in
    (q.0 + 1 + 1 + 1, q.1.1.1.1)
after_operation c d s op x y sx sy lx fy rx ry void w b i t rest h = after_two c x y lx fy rx ry b i t rest h
after_operation c d s op x y sx sy lx fy rx ry (array v n) w b i t rest h = after_two c x y lx fy rx ry b i t rest h
after_operation c d s op x y sx sy lx fy rx ry (tag v) w b i t rest h = after_two c x y lx fy rx ry b i t rest h
after_operation c d s op x y sx sy lx fy rx ry (int v) void b i t rest h = after_two c x y lx fy rx ry b i t rest h
after_operation c d s op x y sx sy lx fy rx ry (int v) (array w n) b i t rest h = after_two c x y lx fy rx ry b i t rest h
after_operation c d s op x y sx sy lx fy rx ry (int v) (tag w) b i t rest h = after_two c x y lx fy rx ry b i t rest h
after_operation c d s op x y sx sy lx fy rx ry (pointer v) void b i t rest h = after_two c x y lx fy rx ry b i t rest h
after_operation c d s op x y sx sy lx fy rx ry (pointer v) (array w n) b i t rest h = after_two c x y lx fy rx ry b i t rest h
after_operation c d s op x y sx sy lx fy rx ry (pointer v) (tag w) b i t rest h = after_two c x y lx fy rx ry b i t rest h

rest_by_value : (c : Coded) (s : Span) (f : ℕ → ℕ) (val : ℕ → ℕ → List Item → List Item) → AfterVal c f val → Rest c (last_by_value f) (code_by_value s val)
rest_by_value c s f val g = record {
  val = g;
  test = λ b i t j m keep rest h. let q = g b i t (does s (const (t + 1) (pos 0)) ∷ start (Branch Ne t (t + 1) j m) s keep ∷ rest) h in (q.1.1.1, q.1.1.2);
}

rest_by_test : (c : Coded) (q s : Span) (f : ℕ → ℕ) (test : ℕ → ℕ → ℕ → ℕ → ℕ → List Item → List Item) → AfterTest c f test → Rest c (last_by_test f) (code_by_test q s f test)
rest_by_test c z s f test g = record { val = λ b i t rest h. let q = g b i t _ _ t _ h in (0, q.1.1.2.1.2); test = g }

pub rest_binary : (c : Coded) (d : Declared) (q s : Span) (z : Sort) (op : Binary) (v w : TypeTree) (x y : Code) (sx sy : Span) (lx ly : Last) → Rest c lx x → Rest c ly y
    → Rest c (last_of_two z lx ly) (binary_code d q s z op v w x y sx sy lx (last_of_two z lx ly))
rest_binary c d z s both op v w x y sx sy lx ly rx ry = rest_by_test c z s _ _
    (λ b i t j m keep rest h. let q = rx.test b i t _ _ _ _ h in ry.test (lx.test b + 1) 0 t j m keep rest q.1)
rest_binary c d z s either op v w x y sx sy lx ly rx ry = rest_by_test c z s _ _
    (λ b i t j m keep rest h. let q = rx.test b i t _ _ _ _ h in ry.test (lx.test b + 1) 0 t j m keep rest q.1)
rest_binary c d z s comparing op v w x y sx sy lx ly rx ry = rest_by_test c z s _ _
    (λ b i t j m keep rest h.
    let q = after_operands c x y sx sy lx ly.val rx.val ry.val (number_type v) (compared_in v w) (number_type w) (compared_in v w) b i t (start (Branch (rel_of op) t (t + 1) j m) s keep ∷ rest) h in
    (q.1.1, q.1.2))
rest_binary c d z s computing op v w x y sx sy lx ly rx ry = rest_by_value c s _ _ (after_operation c d s op x y sx sy lx ly.val rx.val ry.val v w)

mutual
  pub rest_of : (c : Coded) (d : Declared) (q : Span) (e : ExprTree) → Rest c (last e) (code_of d q e)
  rest_of c d q (node s t k) = kind_rest c d q s t k

  pub kind_rest : (c : Coded) (d : Declared) (q s : Span) (ty : TypeTree) (k : ExprKindTree) → Rest c (kind_last k) (kind_code d q s ty k)
  kind_rest c d z s ty (num v n) = rest_by_value c s _ _ (λ b i t rest h. (i + 1, h.1))
  kind_rest c d z s ty (name n) = rest_by_value c s _ _ (λ b i t rest h. (i + 1, h.1))
  kind_rest c d z s ty (local x) = rest_by_value c s _ _ (λ b i t rest h. (i + 1, h.1))
  kind_rest c d z s ty (global x) = rest_by_value c s _ _ (λ b i t rest h. after_object c b (i + 1) s ty t rest h.1)
  kind_rest c d z s ty (unary u.Plus x) = rest_by_value c s _ _ (λ b i t rest h. let q = (rest_of c d z x).val b i t (converts (span_of x) (number_of x) (number_type ty) t rest) h in after_converts c ((last x).val b) q.0 (span_of x) (number_of x) (number_type ty) t rest q.1)
  kind_rest c d z s ty (unary u.Neg x) = rest_by_value c s _ _
      (λ b i t rest h. let more = does s (bin t Sub (number_type ty) t (t + 1)) ∷ rest in
      let q = (rest_of c d z x).val b (i + 1) (t + 1) (converts (span_of x) (number_of x) (number_type ty) (t + 1) more) h.1 in
      let r = after_converts c ((last x).val b) q.0 (span_of x) (number_of x) (number_type ty) (t + 1) more q.1 in (r.0 + 1, r.1.1))
  kind_rest c d z s ty (unary u.Compl x) = rest_by_value c s _ _
      (λ b i t rest h. let more = does s (const (t + 1) (converted (number_type ty) (negsuc 0))) ∷ does s (bin t Xor (number_type ty) t (t + 1)) ∷ rest in
      let q = (rest_of c d z x).val b i t (converts (span_of x) (number_of x) (number_type ty) t more) h in
      let r = after_converts c ((last x).val b) q.0 (span_of x) (number_of x) (number_type ty) t more q.1 in (r.0 + 1 + 1, r.1.1.1))
  kind_rest c d z s ty (unary u.Not x) = rest_by_test c z s _ _ (λ b i t j m keep rest h. (rest_of c d z x).test b i t m j keep rest h)
  kind_rest c d z s ty (binary op x y) =
      rest_binary c d z s (sort_of op) op (value_type (type_of x)) (value_type (type_of y)) (code_of d z x) (code_of d z y) (span_of x) (span_of y) (last x) (last y) (rest_of c d z x) (rest_of c d z y)
  kind_rest c d z s ty (cond e x y) = rest_by_value c s _ _
      (λ b i t rest h. let j = (last e).test b + 1 in let m = (last x).val j + 1 in let f = (last y).val m + 1 in
      let end = start (Jump f) z (t + 1) ∷ rest in
      let other = start (Jump f) z t ∷ (code_of d z y).val m t (converts (span_of y) (number_of y) (number_type ty) t end) in
      let q = (rest_of c d z e).test b i t j m t ((code_of d z x).val j t (converts (span_of x) (number_of x) (number_type ty) t other)) h in
      let r = after_number c (last x).val (code_of d z x).val (span_of x) (number_of x) (number_type ty) (rest_of c d z x).val j 0 t other q.1 in
      let r2 = after_number c (last y).val (code_of d z y).val (span_of y) (number_of y) (number_type ty) (rest_of c d z y).val m 0 t end r.1.2 in (0, r2.1.2))
  kind_rest c d z s ty (cast w x) = rest_by_value c s _ _ (after_number c (last x).val (code_of d z x).val (span_of x) (number_of x) (number_type ty) (rest_of c d z x).val)
  kind_rest c d z s ty (size_of w) = rest_by_value c s _ _ (λ b i t rest h. (i + 1, h.1))
  kind_rest c d z s ty (size_of_expr x) = rest_by_value c s _ _ (λ b i t rest h. (i + 1, h.1))
  kind_rest c d z s ty (index x y) = rest_by_value c s _ _
      (λ b i t rest h.
      let q = after_operation c d s ops.Add (code_of d z x) (code_of d z y) (span_of x) (span_of y) (last x) (last y).val (rest_of c d z x).val (rest_of c d z y).val (value_type (type_of x)) (value_type (type_of y)) b i t (object_code s ty t rest) h in
      after_object c ((last y).val ((last x).val b)) q.0 s ty t rest q.1)
  kind_rest c d z s ty (member x m) = rest_by_value c s _ _
      (λ b i t rest h. let off = offset_in d (type_of x) m in let more = object_code s ty t rest in
      let q = place_rest c d z x b i t (further_code s off t more) h in let r = after_further c (last_place x b) q.0 s off t more q.1 in after_object c (last_place x b) r.0 s ty t rest r.1)
  kind_rest c d z s ty (arrow x m) = rest_by_value c s _ _
      (λ b i t rest h. let off = offset_in d (target (value_type (type_of x))) m in let more = object_code s ty t rest in
      let q = (rest_of c d z x).val b i t (further_code s off t more) h in let r = after_further c ((last x).val b) q.0 s off t more q.1 in after_object c ((last x).val b) r.0 s ty t rest r.1)
  kind_rest c d z s ty (deref x) = rest_by_value c s _ _
      (λ b i t rest h. let q = (rest_of c d z x).val b i t (object_code s ty t rest) h in after_object c ((last x).val b) q.0 s ty t rest q.1)
  kind_rest c d z s ty (address x) = rest_by_value c s _ _ (place_rest c d z x)

  pub place_rest : (c : Coded) (d : Declared) (q : Span) (e : ExprTree) → AfterVal c (last_place e) (place_code d q e)
  place_rest c d z (node s t k) = kind_place_rest c d z s k

  pub kind_place_rest : (c : Coded) (d : Declared) (q s : Span) (k : ExprKindTree) → AfterVal c (kind_last_place k) (kind_place_code d q s k)
  kind_place_rest c d z s (global x) b i t rest h = (i + 1, h.1)
  kind_place_rest c d z s (index x y) b i t rest h =
      after_operation c d s ops.Add (code_of d z x) (code_of d z y) (span_of x) (span_of y) (last x) (last y).val (rest_of c d z x).val (rest_of c d z y).val (value_type (type_of x)) (value_type (type_of y)) b i t rest h
  kind_place_rest c d z s (member x m) b i t rest h = let off = offset_in d (type_of x) m in let q = place_rest c d z x b i t (further_code s off t rest) h in after_further c (last_place x b) q.0 s off t rest q.1
  kind_place_rest c d z s (arrow x m) b i t rest h =
      let off = offset_in d (target (value_type (type_of x))) m in let q = (rest_of c d z x).val b i t (further_code s off t rest) h in after_further c ((last x).val b) q.0 s off t rest q.1
  kind_place_rest c d z s (deref x) b i t rest h = (rest_of c d z x).val b i t rest h
  kind_place_rest c d z s (num v n) b i t rest h = (i + 1, h.1)
  kind_place_rest c d z s (name n) b i t rest h = (i + 1, h.1)
  kind_place_rest c d z s (local x) b i t rest h = (i + 1, h.1)
  kind_place_rest c d z s (unary op x) b i t rest h = (i + 1, h.1)
  kind_place_rest c d z s (binary op x y) b i t rest h = (i + 1, h.1)
  kind_place_rest c d z s (cond e x y) b i t rest h = (i + 1, h.1)
  kind_place_rest c d z s (cast w x) b i t rest h = (i + 1, h.1)
  kind_place_rest c d z s (size_of w) b i t rest h = (i + 1, h.1)
  kind_place_rest c d z s (size_of_expr x) b i t rest h = (i + 1, h.1)
  kind_place_rest c d z s (address x) b i t rest h = (i + 1, h.1)
