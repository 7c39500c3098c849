-- The code of expressions keeps what is asked of each line and end.
use Rattle.std.proofs.Common.{ℕ, ℤ, negsuc, ◌+◌, ◌<◌, ◌==◌, Bool, List, [], ◌++◌, arith}
use Rattle.std.specs.Prelude.{All}
use Rattle.std.proofs.lemmas.List.Elements.{All-head}
use Rattle.cx_base.specs.declared.number.CInt.{CInt}
use Rattle.cx_base.specs.declared.span.Span.{Span}
use Rattle.cx_cconst.specs.Constants.{number_type}
use Rattle.cx_cmean.specs.Expressions.{target}
use Rattle.cx_cmean.specs.Numbers.{value_type, number_of, is_same, applied_in, right_in, compared_in}
use Rattle.cx_cmean.specs.Program.{offset_in}
use Rattle.cx_ctree.specs.Conversions.{unsigned_long}
use Rattle.cx_ctree.specs.Exprs.{ExprTree, node, ExprKindTree, num, name, local, global, unary, binary, cond, cast, size_of, size_of_expr, index, member, arrow, deref, address, span_of, type_of}
use Rattle.cx_ctree.specs.Types.{TypeTree, void, int, pointer, array, tag}
use Rattle.cx_ctree.specs.declared.expr.Binary.{Binary}
use Rattle.cx_ctree.specs.declared.expr.Binary.TheVariants as ops
use Rattle.cx_ctree.specs.declared.expr.Unary.TheVariants as u
use Rattle.cx_gline.proofs.Keeping.{Keeps, Allows, all_split, keeps_if, keeps_if_two, keeps_object}
use Rattle.cx_gline.specs.Inside.{numbers_in, kind_numbers}
use Rattle.cx_lcode.specs.Items.{Item, converts}
use Rattle.cx_lcode.specs.Places.{Last, last_by_value, last_by_test, Sort, both, either, comparing, computing, sort_of, last_of_two, last, kind_last, last_place, kind_last_place}
use Rattle.cx_lcode.specs.Values.{Code, code_by_value, code_by_test, operands, operation, further_code, binary_code, code_of, kind_code, place_code, kind_place_code}
use Rattle.cx_lright.proofs.Grows.{Grows, grows}
use Rattle.cx_sname.specs.File.{Declared}

-- the code of a value, whose last block is below m, keeps it
abbrev pub ValKeeps : Declared → (C : ℤ → Type 0) → (R : Bool → Type 0) → (m : ℕ) → (f : ℕ → ℕ) → (ℕ → ℕ → List Item → List Item) → Type 0
ValKeeps d C R n f val = (b t : ℕ) (rest : List Item) → f b < n → Keeps d C R n rest → Keeps d C R n (val b t rest)

-- the same of a test, which goes to blocks below m
abbrev pub TestKeeps : Declared → (C : ℤ → Type 0) → (R : Bool → Type 0) → (m : ℕ) → (f : ℕ → ℕ) → (ℕ → ℕ → ℕ → ℕ → ℕ → List Item → List Item) → Type 0
TestKeeps d C R n f test = (b t j m keep : ℕ) (rest : List Item) → f b < n → j < n → m < n → Keeps d C R n rest → Keeps d C R n (test b t j m keep rest)

pub record CodeKeeps (d : Declared) (C : ℤ → Type 0) (R : Bool → Type 0) (m : ℕ) (l : Last) (k : Code) : Type 0 where
  pub val : ValKeeps d C R m l.val k.val
  pub test : TestKeeps d C R m l.test k.test

module _ (d : Declared) (C : ℤ → Type 0) (R : Bool → Type 0) (n : ℕ) (ok : Allows d C) where
  pub keeps_converts : (s : Span) (from to : CInt) (t : ℕ) (rest : List Item) → Keeps d C R n rest → Keeps d C R n (converts s from to t rest)
  keeps_converts s from to t rest h = keeps_if d C R n _ rest (is_same from to) tt h

  keeps_further : (s : Span) (v : TypeTree) (field t : ℕ) (rest : List Item) → Keeps d C R n rest → Keeps d C R n (further_code s (offset_in d v field) t rest)
  keeps_further s v field t rest h = keeps_if_two d C R n _ _ rest (offset_in d v field == 0) (ok.offset v field) tt h

  keeps_operands : (x y : Code) (sx sy : Span) (lx ly : Last) (v tx w ty : CInt) → Grows ly → ValKeeps d C R n lx.val x.val → ValKeeps d C R n ly.val y.val
      → (b t : ℕ) (rest : List Item) → ly.val (lx.val b) < n → Keeps d C R n rest → Keeps d C R n (operands x y sx sy lx v tx w ty b t rest)
  keeps_operands x y sx sy lx ly v tx w ty g hx hy b t rest lt h = let up = g.val (lx.val b) in
      hx b t _ (omega (arith, up, lt)) (keeps_converts sx v tx t _ (hy (lx.val b) (t + 1) _ lt (keeps_converts sy w ty (t + 1) rest h)))

  keeps_two : (x y : Code) (lx ly : Last) → Grows ly → ValKeeps d C R n lx.val x.val → ValKeeps d C R n ly.val y.val
      → (b t : ℕ) (rest : List Item) → ly.val (lx.val b) < n → Keeps d C R n rest → Keeps d C R n (x.val b t (y.val (lx.val b) (t + 1) rest))
  keeps_two x y lx ly g hx hy b t rest lt h = let up = g.val (lx.val b) in hx b t _ (omega (arith, up, lt)) (hy (lx.val b) (t + 1) rest lt h)

  keeps_operation : (s : Span) (op : Binary) (x y : Code) (sx sy : Span) (lx ly : Last) → Grows ly → ValKeeps d C R n lx.val x.val → ValKeeps d C R n ly.val y.val → (v w : TypeTree)
      → ValKeeps d C R n (λ b. ly.val (lx.val b)) (operation d s op v w x y sx sy lx)
  keeps_operation s op x y sx sy lx ly g hx hy (int v) (int w) b t rest lt h =
      keeps_operands x y sx sy lx ly v (applied_in op v w) w (right_in op v w) g hx hy b t _ lt (tt, h)
  keeps_operation s op x y sx sy lx ly g hx hy (pointer v) (int w) b t rest lt h =
      keeps_operands x y sx sy lx ly unsigned_long unsigned_long w unsigned_long g hx hy b t _ lt (ok.unit v, (tt, (tt, h)))
  keeps_operation s op x y sx sy lx ly g hx hy (int v) (pointer w) b t rest lt h = let up = g.val (lx.val b) in
      hx b t _ (omega (arith, up, lt)) (keeps_converts sx v unsigned_long t _ (ok.unit w, (tt, hy (lx.val b) (t + 1) _ lt (tt, h))))
  keeps_operation s op x y sx sy lx ly g hx hy (pointer v) (pointer w) b t rest lt h = keeps_two x y lx ly g hx hy b t _ lt (tt, (ok.unit v, (tt, h)))
  keeps_operation s op x y sx sy lx ly g hx hy void w b t rest lt h = keeps_two x y lx ly g hx hy b t rest lt h
  keeps_operation s op x y sx sy lx ly g hx hy (array v j) w b t rest lt h = keeps_two x y lx ly g hx hy b t rest lt h
  keeps_operation s op x y sx sy lx ly g hx hy (tag v) w b t rest lt h = keeps_two x y lx ly g hx hy b t rest lt h
  keeps_operation s op x y sx sy lx ly g hx hy (int v) void b t rest lt h = keeps_two x y lx ly g hx hy b t rest lt h
  keeps_operation s op x y sx sy lx ly g hx hy (int v) (array w j) b t rest lt h = keeps_two x y lx ly g hx hy b t rest lt h
  keeps_operation s op x y sx sy lx ly g hx hy (int v) (tag w) b t rest lt h = keeps_two x y lx ly g hx hy b t rest lt h
  keeps_operation s op x y sx sy lx ly g hx hy (pointer v) void b t rest lt h = keeps_two x y lx ly g hx hy b t rest lt h
  keeps_operation s op x y sx sy lx ly g hx hy (pointer v) (array w j) b t rest lt h = keeps_two x y lx ly g hx hy b t rest lt h
  keeps_operation s op x y sx sy lx ly g hx hy (pointer v) (tag w) b t rest lt h = keeps_two x y lx ly g hx hy b t rest lt h

  keeps_by_value : (s : Span) (f : ℕ → ℕ) (val : ℕ → ℕ → List Item → List Item) → ValKeeps d C R n f val → CodeKeeps d C R n (last_by_value f) (code_by_value s val)
  keeps_by_value s f val h = record {
    val = h;
    test = λ b t j m keep rest lt lj lm k. h b t _ lt (ok.nought, ((lj, lm), k));
  }

  keeps_by_test : (q s : Span) (f : ℕ → ℕ) (test : ℕ → ℕ → ℕ → ℕ → ℕ → List Item → List Item) → TestKeeps d C R n f test → CodeKeeps d C R n (last_by_test f) (code_by_test q s f test)
  keeps_by_test q s f test h = record {
    val = λ b t rest lt k. h b t (f b + 1) (f b + 1 + 1) t _ (omega (arith, lt)) (omega (arith, lt)) (omega (arith, lt)) (ok.one, (lt, (ok.nought, (lt, k))));
    test = h;
  }

  keeps_binary : (q s : Span) (z : Sort) (op : Binary) (v w : TypeTree) (x y : Code) (sx sy : Span) (lx ly : Last) → Grows ly → CodeKeeps d C R n lx x → CodeKeeps d C R n ly y
      → CodeKeeps d C R n (last_of_two z lx ly) (binary_code d q s z op v w x y sx sy lx (last_of_two z lx ly))
  keeps_binary q s both op v w x y sx sy lx ly g hx hy = keeps_by_test q s _ _
      (λ b t j m keep rest lt lj lm k. let up = g.test (lx.test b + 1) in hx.test b t (lx.test b + 1) m t _ (omega (arith, up, lt)) (omega (arith, up, lt)) lm (hy.test (lx.test b + 1) t j m keep rest lt lj lm k))
  keeps_binary q s either op v w x y sx sy lx ly g hx hy = keeps_by_test q s _ _
      (λ b t j m keep rest lt lj lm k. let up = g.test (lx.test b + 1) in hx.test b t j (lx.test b + 1) t _ (omega (arith, up, lt)) lj (omega (arith, up, lt)) (hy.test (lx.test b + 1) t j m keep rest lt lj lm k))
  keeps_binary q s comparing op v w x y sx sy lx ly g hx hy = keeps_by_test q s _ _
      (λ b t j m keep rest lt lj lm k. keeps_operands x y sx sy lx ly (number_type v) (compared_in v w) (number_type w) (compared_in v w) g hx.val hy.val b t _ lt ((lj, lm), k))
  keeps_binary q s computing op v w x y sx sy lx ly g hx hy = keeps_by_value s _ _ (keeps_operation s op x y sx sy lx ly g hx.val hy.val v w)

  index_keeps : (q s : Span) (x y : ExprTree) → CodeKeeps d C R n (last x) (code_of d q x) → CodeKeeps d C R n (last y) (code_of d q y) → ValKeeps d C R n (kind_last_place (index x y)) (kind_place_code d q s (index x y))
  index_keeps q s x y hx hy =
      keeps_operation s ops.Add (code_of d q x) (code_of d q y) (span_of x) (span_of y) (last x) (last y) (grows y) hx.val hy.val (value_type (type_of x)) (value_type (type_of y))

  mutual
    pub keeps_of : (q : Span) (e : ExprTree) → All C (numbers_in e) → CodeKeeps d C R n (last e) (code_of d q e)
    keeps_of q (node s t k) h = kind_keeps q s t k h

    pub kind_keeps : (q s : Span) (ty : TypeTree) (k : ExprKindTree) → All C (kind_numbers k) → CodeKeeps d C R n (kind_last k) (kind_code d q s ty k)
    kind_keeps q s ty (num v w) h = keeps_by_value s _ _ (λ b t rest lt k. (All-head C v [] h, k))
    kind_keeps q s ty (name x) h = keeps_by_value s _ _ (λ b t rest lt k. (tt, k))
    kind_keeps q s ty (local x) h = keeps_by_value s _ _ (λ b t rest lt k. (tt, k))
    kind_keeps q s ty (global x) h = keeps_by_value s _ _ (λ b t rest lt k. (tt, keeps_object d C R n s ty t rest k))
    kind_keeps q s ty (unary u.Not x) h = keeps_by_test q s _ _ (λ b t j m keep rest lt lj lm k. (keeps_of q x h).test b t m j keep rest lt lm lj k)
    kind_keeps q s ty (unary u.Plus x) h = keeps_by_value s _ _ (λ b t rest lt k. (keeps_of q x h).val b t _ lt (keeps_converts (span_of x) (number_of x) (number_type ty) t rest k))
    kind_keeps q s ty (unary u.Neg x) h = keeps_by_value s _ _
        (λ b t rest lt k. (ok.nought, (keeps_of q x h).val b (t + 1) _ lt (keeps_converts (span_of x) (number_of x) (number_type ty) (t + 1) _ (tt, k))))
    kind_keeps q s ty (unary u.Compl x) h = keeps_by_value s _ _
        (λ b t rest lt k. (keeps_of q x h).val b t _ lt (keeps_converts (span_of x) (number_of x) (number_type ty) t _ (ok.wraps (number_type ty) (negsuc 0), (tt, k))))
    kind_keeps q s ty (binary op x y) h = let p = all_split C (numbers_in x) (numbers_in y) h in
        keeps_binary q s (sort_of op) op (value_type (type_of x)) (value_type (type_of y)) (code_of d q x) (code_of d q y) (span_of x) (span_of y) (last x) (last y) (grows y) (keeps_of q x p.0) (keeps_of q y p.1)
    kind_keeps q s ty (cond c x y) h = let p = all_split C (numbers_in c) (numbers_in x ++ numbers_in y) h in let r = all_split C (numbers_in x) (numbers_in y) p.1 in keeps_by_value s _ _
        (λ b t rest lt k. let j = (last c).test b + 1 in let m = (last x).val j + 1 in let a = (grows x).val j in let e = (grows y).val m in
        (keeps_of q c p.0).test b t j m t _ (omega (arith, lt, a, e)) (omega (arith, lt, a, e)) (omega (arith, lt, e))
        ((keeps_of q x r.0).val j t _ (omega (arith, lt, e)) (keeps_converts (span_of x) (number_of x) (number_type ty) t _ (
          lt,
          (keeps_of q y r.1).val m t _ (omega (arith, lt)) (keeps_converts (span_of y) (number_of y) (number_type ty) t _ (lt, k)),
        ))))
    kind_keeps q s ty (cast w x) h = keeps_by_value s _ _ (λ b t rest lt k. (keeps_of q x h).val b t _ lt (keeps_converts (span_of x) (number_of x) (number_type ty) t rest k))
    kind_keeps q s ty (size_of w) h = keeps_by_value s _ _ (λ b t rest lt k. (ok.size w, k))
    kind_keeps q s ty (size_of_expr x) h = keeps_by_value s _ _ (λ b t rest lt k. (ok.size (type_of x), k))
    kind_keeps q s ty (index x y) h = let p = all_split C (numbers_in x) (numbers_in y) h in keeps_by_value s _ _
        (λ b t rest lt k. index_keeps q s x y (keeps_of q x p.0) (keeps_of q y p.1) b t _ lt (keeps_object d C R n s ty t rest k))
    kind_keeps q s ty (member x m) h = keeps_by_value s _ _ (λ b t rest lt k. place_keeps q x h b t _ lt (keeps_further s (type_of x) m t _ (keeps_object d C R n s ty t rest k)))
    kind_keeps q s ty (arrow x m) h = keeps_by_value s _ _ (λ b t rest lt k. (keeps_of q x h).val b t _ lt (keeps_further s (target (value_type (type_of x))) m t _ (keeps_object d C R n s ty t rest k)))
    kind_keeps q s ty (deref x) h = keeps_by_value s _ _ (λ b t rest lt k. (keeps_of q x h).val b t _ lt (keeps_object d C R n s ty t rest k))
    kind_keeps q s ty (address x) h = keeps_by_value s _ _ (place_keeps q x h)

    pub place_keeps : (q : Span) (e : ExprTree) → All C (numbers_in e) → ValKeeps d C R n (last_place e) (place_code d q e)
    place_keeps q (node s t k) h = kind_place_keeps q s k h

    kind_place_keeps : (q s : Span) (k : ExprKindTree) → All C (kind_numbers k) → ValKeeps d C R n (kind_last_place k) (kind_place_code d q s k)
    kind_place_keeps q s (global x) h = λ b t rest lt k. (tt, k)
    kind_place_keeps q s (index x y) h = let p = all_split C (numbers_in x) (numbers_in y) h in index_keeps q s x y (keeps_of q x p.0) (keeps_of q y p.1)
    kind_place_keeps q s (member x m) h = λ b t rest lt k. place_keeps q x h b t _ lt (keeps_further s (type_of x) m t rest k)
    kind_place_keeps q s (arrow x m) h = λ b t rest lt k. (keeps_of q x h).val b t _ lt (keeps_further s (target (value_type (type_of x))) m t rest k)
    kind_place_keeps q s (deref x) h = (keeps_of q x h).val
    kind_place_keeps q s (num v w) h = λ b t rest lt k. (tt, k)
    kind_place_keeps q s (name x) h = λ b t rest lt k. (tt, k)
    kind_place_keeps q s (local x) h = λ b t rest lt k. (tt, k)
    kind_place_keeps q s (unary op x) h = λ b t rest lt k. (tt, k)
    kind_place_keeps q s (binary op x y) h = λ b t rest lt k. (tt, k)
    kind_place_keeps q s (cond e x y) h = λ b t rest lt k. (tt, k)
    kind_place_keeps q s (cast w x) h = λ b t rest lt k. (tt, k)
    kind_place_keeps q s (size_of w) h = λ b t rest lt k. (tt, k)
    kind_place_keeps q s (size_of_expr x) h = λ b t rest lt k. (tt, k)
    kind_place_keeps q s (address x) h = λ b t rest lt k. (tt, k)
