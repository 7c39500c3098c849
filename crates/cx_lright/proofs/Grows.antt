-- The open block's number grows.
use Rattle.std.proofs.Common.{ℕ, ◌+◌, ◌≤◌, List, [], ◌∷◌, Option, Some, None, arith}
use Rattle.cx_cmean.specs.Effects.{local_of, operand_of}
use Rattle.cx_ctree.specs.Exprs.{ExprTree, node, ExprKindTree, num, name, local, global, unary, binary, cond, cast, size_of, size_of_expr, index, member, arrow, deref, address, RhsTree, value, call, EffectTree, set, update, call_alone, value_alone}
use Rattle.cx_ctree.specs.Stmts.{StmtTree, stmt, StmtKindTree, block, empty, effect, declare, if_alone, if_else, while, do_while, for, switch, break, continue, return, StmtTrees, no_stmt, also_stmt, GroupTrees, no_group, also_group}
use Rattle.cx_ctree.specs.declared.expr.Unary.TheVariants as u
use Rattle.cx_lcode.specs.Places.{Last, last_by_value, last_by_test, Sort, both, either, comparing, computing, sort_of, last_of_two, last, kind_last, last_place, kind_last_place, last_all, right_last, left_at_last, left_last, effect_last, effects_last, initial_last, condition_last, labels_last, all_labels_last, stmt_last, kind_stmt_last, stmts_last, groups_last}

pub record Grows (l : Last) : Type 0 where
  pub val : (b : ℕ) → b ≤ l.val b
  pub test : (b : ℕ) → b ≤ l.test b

grows_by_value : (f : ℕ → ℕ) → ((b : ℕ) → b ≤ f b) → Grows (last_by_value f)
grows_by_value f h = record { val = h; test = h }

grows_by_test : (f : ℕ → ℕ) → ((b : ℕ) → b ≤ f b) → Grows (last_by_test f)
grows_by_test f h = record { val = λ b. let e = h b in omega (arith, e); test = h }

grows_two : (z : Sort) (x y : Last) → Grows x → Grows y → Grows (last_of_two z x y)
grows_two both x y g h = grows_by_test _ (λ b. let e = g.test b in let f = h.test (x.test b + 1) in omega (arith, e, f))
grows_two either x y g h = grows_by_test _ (λ b. let e = g.test b in let f = h.test (x.test b + 1) in omega (arith, e, f))
grows_two comparing x y g h = grows_by_test _ (λ b. let e = g.val b in let f = h.val (x.val b) in omega (arith, e, f))
grows_two computing x y g h = grows_by_value _ (λ b. let e = g.val b in let f = h.val (x.val b) in omega (arith, e, f))

mutual
  pub grows : (e : ExprTree) → Grows (last e)
  grows (node s t k) = kind_grows k

  pub kind_grows : (k : ExprKindTree) → Grows (kind_last k)
  kind_grows (num v t) = grows_by_value _ (λ b. omega arith)
  kind_grows (name n) = grows_by_value _ (λ b. omega arith)
  kind_grows (local x) = grows_by_value _ (λ b. omega arith)
  kind_grows (global x) = grows_by_value _ (λ b. omega arith)
  kind_grows (unary u.Plus x) = grows_by_value _ (grows x).val
  kind_grows (unary u.Neg x) = grows_by_value _ (grows x).val
  kind_grows (unary u.Compl x) = grows_by_value _ (grows x).val
  kind_grows (unary u.Not x) = grows_by_test _ (grows x).test
  kind_grows (binary op x y) = grows_two (sort_of op) (last x) (last y) (grows x) (grows y)
  kind_grows (cond c x y) = grows_by_value _
      (λ b. let d = (grows c).test b in let e = (grows x).val ((last c).test b + 1) in let f = (grows y).val ((last x).val ((last c).test b + 1) + 1) in omega (arith, d, e, f))
  kind_grows (cast q x) = grows_by_value _ (grows x).val
  kind_grows (size_of q) = grows_by_value _ (λ b. omega arith)
  kind_grows (size_of_expr x) = grows_by_value _ (λ b. omega arith)
  kind_grows (index x y) = grows_by_value _ (λ b. let e = (grows x).val b in let f = (grows y).val ((last x).val b) in omega (arith, e, f))
  kind_grows (member x m) = grows_by_value _ (place_grows x)
  kind_grows (arrow x m) = grows_by_value _ (grows x).val
  kind_grows (deref x) = grows_by_value _ (grows x).val
  kind_grows (address x) = grows_by_value _ (place_grows x)

  pub place_grows : (e : ExprTree) (b : ℕ) → b ≤ last_place e b
  place_grows (node s t k) b = kind_place_grows k b

  pub kind_place_grows : (k : ExprKindTree) (b : ℕ) → b ≤ kind_last_place k b
  kind_place_grows (num v t) b = omega arith
  kind_place_grows (name n) b = omega arith
  kind_place_grows (local x) b = omega arith
  kind_place_grows (global x) b = omega arith
  kind_place_grows (unary op x) b = omega arith
  kind_place_grows (binary op x y) b = omega arith
  kind_place_grows (cond c x y) b = omega arith
  kind_place_grows (cast q x) b = omega arith
  kind_place_grows (size_of q) b = omega arith
  kind_place_grows (size_of_expr x) b = omega arith
  kind_place_grows (index x y) b = let e = (grows x).val b in let f = (grows y).val ((last x).val b) in omega (arith, e, f)
  kind_place_grows (member x m) b = place_grows x b
  kind_place_grows (arrow x m) b = (grows x).val b
  kind_place_grows (deref x) b = (grows x).val b
  kind_place_grows (address x) b = omega arith

-- ---- effects

pub all_grow : (es : List ExprTree) (b : ℕ) → b ≤ last_all es b
all_grow [] b = omega arith
all_grow (e ∷ es) b = let f = (grows e).val b in let g = all_grow es ((last e).val b) in omega (arith, f, g)

pub right_grows : (r : RhsTree) (b : ℕ) → b ≤ right_last r b
right_grows (value e) b = (grows e).val b
right_grows (call c q) b = all_grow c.args b

left_at_grows : (l : ExprTree) (o : Option ℕ) (b : ℕ) → b ≤ left_at_last l o b
left_at_grows l (Some x) b = omega arith
left_at_grows l None b = place_grows l b

pub left_grows : (l : ExprTree) (b : ℕ) → b ≤ left_last l b
left_grows l b = left_at_grows l (local_of l) b

pub effect_grows : (e : EffectTree) (b : ℕ) → b ≤ effect_last e b
effect_grows (set l r s) b = let f = right_grows r b in let g = left_grows l (right_last r b) in omega (arith, f, g)
effect_grows (update op l e s) b = let f = (grows e).val b in let g = left_grows l ((last e).val b) in omega (arith, f, g)
effect_grows (call_alone c) b = all_grow c.args b
effect_grows (value_alone e) b = (grows (operand_of e)).val b

pub effects_grow : (es : List EffectTree) (b : ℕ) → b ≤ effects_last es b
effects_grow [] b = omega arith
effects_grow (e ∷ es) b = let f = effect_grows e b in let g = effects_grow es (effect_last e b) in omega (arith, f, g)

-- ---- statements

pub initial_grows : (r : Option RhsTree) (b : ℕ) → b ≤ initial_last r b
initial_grows None b = omega arith
initial_grows (Some r) b = right_grows r b

pub condition_grows : (c : Option ExprTree) (b : ℕ) → b ≤ condition_last c b
condition_grows None b = omega arith
condition_grows (Some c) b = (grows c).test b

pub labels_grow : (ls : List (Option ExprTree)) (b : ℕ) → b ≤ labels_last ls b
labels_grow [] b = omega arith
labels_grow (None ∷ ls) b = labels_grow ls b
labels_grow (Some e ∷ ls) b = let f = labels_grow ls (b + 1) in omega (arith, f)

pub all_labels_grow : (gs : GroupTrees) (b : ℕ) → b ≤ all_labels_last gs b
all_labels_grow no_group b = omega arith
all_labels_grow (also_group labels body gs) b = let f = labels_grow labels b in let g = all_labels_grow gs (labels_last labels b) in omega (arith, f, g)

mutual
  pub stmt_grows : (s : StmtTree) (b : ℕ) → b ≤ stmt_last s b
  stmt_grows (stmt s k) b = kind_stmt_grows k b

  pub kind_stmt_grows : (k : StmtKindTree) (b : ℕ) → b ≤ kind_stmt_last k b
  kind_stmt_grows (block ss) b = stmts_grow ss b
  kind_stmt_grows empty b = omega arith
  kind_stmt_grows (effect e) b = effect_grows e b
  kind_stmt_grows (declare x t r) b = initial_grows r b
  kind_stmt_grows (if_alone c x) b = let d = (grows c).test b in let e = stmt_grows x ((last c).test b + 1) in omega (arith, d, e)
  kind_stmt_grows (if_else c x y) b =
      let d = (grows c).test b in let e = stmt_grows x ((last c).test b + 1) in let f = stmt_grows y (stmt_last x ((last c).test b + 1) + 1) in omega (arith, d, e, f)
  kind_stmt_grows (while c x) b = let d = (grows c).test (b + 1) in let e = stmt_grows x ((last c).test (b + 1) + 1) in omega (arith, d, e)
  kind_stmt_grows (do_while x c) b = let e = stmt_grows x (b + 1) in let d = (grows c).test (stmt_last x (b + 1) + 1) in omega (arith, d, e)
  kind_stmt_grows (for init c steps x) b =
      let a = stmts_grow init b in let h = stmts_last init b + 1 in let d = condition_grows c h in let j = condition_last c h + 1 in let e = stmt_grows x j in
      let f = effects_grow steps (stmt_last x j + 1) in omega (arith, a, d, e, f)
  kind_stmt_grows (switch v gs) b =
      let a = (grows v).val b in let d = all_labels_grow gs ((last v).val b) in let e = groups_grow gs (all_labels_last gs ((last v).val b)) in omega (arith, a, d, e)
  kind_stmt_grows break b = omega arith
  kind_stmt_grows continue b = omega arith
  kind_stmt_grows (return r) b = let f = initial_grows r b in omega (arith, f)

  pub stmts_grow : (ss : StmtTrees) (b : ℕ) → b ≤ stmts_last ss b
  stmts_grow no_stmt b = omega arith
  stmts_grow (also_stmt s ss) b = let e = stmt_grows s b in let f = stmts_grow ss (stmt_last s b) in omega (arith, e, f)

  pub groups_grow : (gs : GroupTrees) (b : ℕ) → b ≤ groups_last gs b
  groups_grow no_group b = omega arith
  groups_grow (also_group labels body gs) b = let e = stmts_grow body (b + 1) in let f = groups_grow gs (stmts_last body (b + 1)) in omega (arith, e, f)
