-- The code of expressions: of a value in a local t, of the address of an object in t, and of a test that goes to one of two
-- blocks. Code uses the locals from t on. It stands before what follows it, and begins in a block whose number is b.
use Rattle.std.specs.Prelude.{ℕ, ◌+◌, ◌==◌, pos, negsuc, if◌then◌else◌, List, ◌∷◌}
use Rattle.cx_base.specs.declared.number.CInt.{CInt}
use Rattle.cx_base.specs.declared.span.Span.{Span}
use Rattle.cx_cconst.specs.Constants.{number_type, converted}
use Rattle.cx_cmean.specs.Expressions.{target}
use Rattle.cx_cmean.specs.Numbers.{value_type, number_of, applied_in, right_in, compared_in}
use Rattle.cx_cmean.specs.Program.{size_in, unit_in, offset_in}
use Rattle.cx_sname.specs.File.{Declared}
use Rattle.cx_ctree.specs.Conversions.{signed_long, unsigned_long}
use Rattle.cx_ctree.specs.Exprs.{ExprTree, node, ExprKindTree, num, name, local, global, unary, binary, cond, cast, size_of, size_of_expr, index, member, arrow, deref, address, span_of, type_of}
use Rattle.cx_ctree.specs.Types.{TypeTree, int, pointer}
use Rattle.cx_ctree.specs.declared.expr.Binary.{Binary}
use Rattle.cx_ctree.specs.declared.expr.Binary.TheVariants as ops
use Rattle.cx_ctree.specs.declared.expr.Unary.{Unary}
use Rattle.cx_ctree.specs.declared.expr.Unary.TheVariants as u
use Rattle.cx_goto.specs.declared.code.End.TheVariants.{Jump, Branch}
use Rattle.cx_goto.specs.Trees.{const, copy, unset, global as the_global, bin, load}
use Rattle.cx_goto.specs.declared.code.Op.{Op}
use Rattle.cx_goto.specs.declared.code.Op.TheVariants.{Add, Sub, Mul, Div, Rem, And, Or, Xor, Shl, Shr}
use Rattle.cx_goto.specs.declared.code.Rel.{Rel}
use Rattle.cx_goto.specs.declared.code.Rel.TheVariants.{Eq, Ne, Lt, Le, Gt, Ge}
use Rattle.cx_lcode.specs.Items.{Item, start, does, converts}
use Rattle.cx_lcode.specs.Places.{Last, Sort, both, either, comparing, computing, sort_of, last, kind_last}

-- the code of a value, and of a test, whose next block keeps so many locals
pub record Code : Type 0 where
  pub val : (b t : ℕ) → List Item → List Item
  pub test : (b t j m keep : ℕ) → List Item → List Item

-- a test by the value: whether it is not 0
abbrev pub code_by_value : Span → (ℕ → ℕ → List Item → List Item) → Code
code_by_value s val = record {
  val = val;
  test = λ b t j m keep rest. val b t (does s (const (t + 1) (pos 0)) ∷ start (Branch Ne t (t + 1) j m) s keep ∷ rest);
}

-- a value by the test: 1 or 0; the jumps have the place q
abbrev pub code_by_test : (q s : Span) → (ℕ → ℕ) → (ℕ → ℕ → ℕ → ℕ → ℕ → List Item → List Item) → Code
code_by_test q s f test = record {
  val = λ b t rest. let j = f b + 1 in let m = j + 1 in let e = m + 1 in
      test b t j m t (does s (const t (pos 1)) ∷ start (Jump e) q t ∷ does s (const t (pos 0)) ∷ start (Jump e) q (t + 1) ∷ rest);
  test = test;
}

-- ---- operators

abbrev pub op_of : Binary → Op
op_of ops.Add = Add
op_of ops.Sub = Sub
op_of ops.Mul = Mul
op_of ops.Div = Div
op_of ops.Rem = Rem
op_of ops.BitAnd = And
op_of ops.BitOr = Or
op_of ops.BitXor = Xor
op_of ops.Shl = Shl
op_of ops.Shr = Shr
op_of _ = Add

abbrev pub rel_of : Binary → Rel
rel_of ops.Eq = Eq
rel_of ops.Ne = Ne
rel_of ops.Lt = Lt
rel_of ops.Le = Le
rel_of ops.Gt = Gt
rel_of ops.Ge = Ge
rel_of _ = Ne

-- two operands, each as a number of a type, the second in the next local
abbrev pub operands : (x y : Code) (sx sy : Span) → (lx : Last) → (from_x to_x from_y to_y : CInt) → (b t : ℕ) → List Item → List Item
operands x y sx sy lx fx tx fy ty b t rest = x.val b t (converts sx fx tx t (y.val (lx.val b) (t + 1) (converts sy fy ty (t + 1) rest)))

-- the number of a local times a size, by the next local
abbrev pub scaled : Span → (size t : ℕ) → List Item → List Item
scaled s n t rest = does s (const (t + 1) (pos n)) ∷ does s (bin t Mul unsigned_long t (t + 1)) ∷ rest

-- an operator on two values of these types (C11 6.5.5 to 6.5.7, 6.5.10 to 6.5.12)
abbrev pub operation : Declared → Span → Binary → TypeTree → TypeTree → (x y : Code) (sx sy : Span) → Last → (b t : ℕ) → List Item → List Item
operation d s op (int v) (int w) x y sx sy lx b t rest =
    operands x y sx sy lx v (applied_in op v w) w (right_in op v w) b t (does s (bin t (op_of op) (applied_in op v w) t (t + 1)) ∷ rest)
operation d s op (pointer v) (int w) x y sx sy lx b t rest =
    operands x y sx sy lx unsigned_long unsigned_long w unsigned_long b t (scaled s (unit_in d v) (t + 1) (does s (bin t (op_of op) unsigned_long t (t + 1)) ∷ rest))
operation d s op (int v) (pointer w) x y sx sy lx b t rest =
    x.val b t (converts sx v unsigned_long t (scaled s (unit_in d w) t (y.val (lx.val b) (t + 1) (does s (bin t (op_of op) unsigned_long t (t + 1)) ∷ rest))))
operation d s op (pointer v) (pointer w) x y sx sy lx b t rest =
    x.val b t (y.val (lx.val b) (t + 1) (does s (bin t (op_of op) signed_long t (t + 1)) ∷ does s (const (t + 1) (pos (unit_in d v))) ∷ does s (bin t Div signed_long t (t + 1)) ∷ rest))
operation d s op v w x y sx sy lx b t rest = x.val b t (y.val (lx.val b) (t + 1) rest)

-- what stands at the address in the local
abbrev pub object_code : Span → TypeTree → (t : ℕ) → List Item → List Item
object_code s (int v) t rest = does s (load t v t) ∷ rest
object_code s (pointer v) t rest = does s (load t unsigned_long t) ∷ rest
object_code s _ t rest = rest

-- the address in the local, so many bytes further on
abbrev pub further_code : Span → (off t : ℕ) → List Item → List Item
further_code s off t rest = if off == 0 then rest else does s (const (t + 1) (pos off)) ∷ does s (bin t Add unsigned_long t (t + 1)) ∷ rest

-- what follows the operand of a unary operator
abbrev pub unary_code : Span → Unary → (x : Code) (sx : Span) → (from to : CInt) → (b t : ℕ) → List Item → List Item
unary_code s u.Neg x sx v w b t rest = does s (const t (pos 0)) ∷ x.val b (t + 1) (converts sx v w (t + 1) (does s (bin t Sub w t (t + 1)) ∷ rest))
unary_code s u.Compl x sx v w b t rest = x.val b t (converts sx v w t (does s (const (t + 1) (converted w (negsuc 0))) ∷ does s (bin t Xor w t (t + 1)) ∷ rest))
unary_code s _ x sx v w b t rest = x.val b t (converts sx v w t rest)

-- the second operand of && and || stands in a block of its own
abbrev pub both_test : (x y : Code) → Last → (b t j m keep : ℕ) → List Item → List Item
both_test x y lx b t j m keep rest = let k = lx.test b + 1 in x.test b t k m t (y.test k t j m keep rest)

abbrev pub either_test : (x y : Code) → Last → (b t j m keep : ℕ) → List Item → List Item
either_test x y lx b t j m keep rest = let k = lx.test b + 1 in x.test b t j k t (y.test k t j m keep rest)

abbrev pub compared_test : Span → Binary → TypeTree → TypeTree → (x y : Code) (sx sy : Span) → Last → (b t j m keep : ℕ) → List Item → List Item
compared_test s op v w x y sx sy lx b t j m keep rest =
    operands x y sx sy lx (number_type v) (compared_in v w) (number_type w) (compared_in v w) b t (start (Branch (rel_of op) t (t + 1) j m) s keep ∷ rest)

abbrev pub binary_code : Declared → (q s : Span) → Sort → Binary → TypeTree → TypeTree → (x y : Code) (sx sy : Span) → (lx l : Last) → Code
binary_code d q s both op v w x y sx sy lx l = code_by_test q s l.test (both_test x y lx)
binary_code d q s either op v w x y sx sy lx l = code_by_test q s l.test (either_test x y lx)
binary_code d q s comparing op v w x y sx sy lx l = code_by_test q s l.test (compared_test s op v w x y sx sy lx)
binary_code d q s computing op v w x y sx sy lx l = code_by_value s (operation d s op v w x y sx sy lx)

-- ---- expressions, whose jumps have the place q

abbrev mutual
  pub code_of : Declared → (q : Span) → ExprTree → Code
  code_of d q (node s t k) = kind_code d q s t k

  pub kind_code : Declared → (q s : Span) → TypeTree → ExprKindTree → Code
  kind_code d q s ty (num v n) = code_by_value s (λ b t rest. does s (const t v) ∷ rest)
  kind_code d q s ty (name n) = code_by_value s (λ b t rest. does s (unset t) ∷ rest)
  kind_code d q s ty (local x) = code_by_value s (λ b t rest. does s (copy t x) ∷ rest)
  kind_code d q s ty (global n) = code_by_value s (λ b t rest. does s (the_global t n) ∷ object_code s ty t rest)
  kind_code d q s ty (unary u.Not x) = code_by_test q s (last x).test (λ b t j m keep rest. (code_of d q x).test b t m j keep rest)
  kind_code d q s ty (unary op x) = code_by_value s (unary_code s op (code_of d q x) (span_of x) (number_of x) (number_type ty))
  kind_code d q s ty (binary op x y) =
      binary_code d q s (sort_of op) op (value_type (type_of x)) (value_type (type_of y)) (code_of d q x) (code_of d q y) (span_of x) (span_of y) (last x) (kind_last (binary op x y))
  kind_code d q s ty (cond c x y) = code_by_value s
      (λ b t rest.
      let j = (last c).test b + 1 in let m = (last x).val j + 1 in let e = (last y).val m + 1 in
      (code_of d q c).test b t j m t
      ((code_of d q x).val j t (converts (span_of x) (number_of x) (number_type ty) t (start (Jump e) q t
      ∷ (code_of d q y).val m t (converts (span_of y) (number_of y) (number_type ty) t (start (Jump e) q (t + 1) ∷ rest))))))
  kind_code d q s ty (cast w x) = code_by_value s (λ b t rest. (code_of d q x).val b t (converts (span_of x) (number_of x) (number_type ty) t rest))
  kind_code d q s ty (size_of w) = code_by_value s (λ b t rest. does s (const t (pos (size_in d w))) ∷ rest)
  kind_code d q s ty (size_of_expr x) = code_by_value s (λ b t rest. does s (const t (pos (size_in d (type_of x)))) ∷ rest)
  kind_code d q s ty (index x y) = code_by_value s
      (λ b t rest. operation d s ops.Add (value_type (type_of x)) (value_type (type_of y)) (code_of d q x) (code_of d q y) (span_of x) (span_of y) (last x) b t (object_code s ty t rest))
  kind_code d q s ty (member x m) = code_by_value s (λ b t rest. place_code d q x b t (further_code s (offset_in d (type_of x) m) t (object_code s ty t rest)))
  kind_code d q s ty (arrow x m) = code_by_value s (λ b t rest. (code_of d q x).val b t (further_code s (offset_in d (target (value_type (type_of x))) m) t (object_code s ty t rest)))
  kind_code d q s ty (deref x) = code_by_value s (λ b t rest. (code_of d q x).val b t (object_code s ty t rest))
  kind_code d q s ty (address x) = code_by_value s (place_code d q x)

  -- the address of an object in memory
  pub place_code : Declared → (q : Span) → ExprTree → (b t : ℕ) → List Item → List Item
  place_code d q (node s t k) = kind_place_code d q s k

  pub kind_place_code : Declared → (q s : Span) → ExprKindTree → (b t : ℕ) → List Item → List Item
  kind_place_code d q s (global n) b t rest = does s (the_global t n) ∷ rest
  kind_place_code d q s (index x y) b t rest =
      operation d s ops.Add (value_type (type_of x)) (value_type (type_of y)) (code_of d q x) (code_of d q y) (span_of x) (span_of y) (last x) b t rest
  kind_place_code d q s (member x m) b t rest = place_code d q x b t (further_code s (offset_in d (type_of x) m) t rest)
  kind_place_code d q s (arrow x m) b t rest = (code_of d q x).val b t (further_code s (offset_in d (target (value_type (type_of x))) m) t rest)
  kind_place_code d q s (deref x) b t rest = (code_of d q x).val b t rest
  kind_place_code d q s _ b t rest = does s (unset t) ∷ rest
