-- The open block's number grows by as many blocks as the code starts.
use Rattle.std.proofs.Common.{ℕ, ◌+◌, ◌≡◌, List, [], ◌∷◌, Option, Some, None, arith}
use Rattle.cx_cmean.specs.Effects.{local_of, operand_of}
use Rattle.cx_ctree.specs.Exprs.{ExprTree, node, ExprKindTree, num, name, local, global, unary, binary, cond, cast, size_of, size_of_expr, index, member, arrow, deref, address, RhsTree, value, call, EffectTree, set, update, call_alone, value_alone}
use Rattle.cx_ctree.specs.Stmts.{StmtTree, stmt, StmtKindTree, block, empty, effect, declare, if_alone, if_else, while, do_while, for, switch, break, continue, return, StmtTrees, no_stmt, also_stmt, GroupTrees, no_group, also_group}
use Rattle.cx_ctree.specs.declared.expr.Unary.TheVariants as u
use Rattle.cx_lcode.specs.Starts as starts_of
use Rattle.cx_lcode.specs.Starts.{Starts, starts, kind_starts, place_starts, kind_place_starts, all_starts, right_starts, left_at_starts, left_starts, effect_starts, effects_starts, initial_starts, condition_starts, labels_starts, all_labels_starts, stmt_starts, kind_stmt_starts, stmts_starts, groups_starts}
use Rattle.cx_lcode.specs.Places.{Last, last_by_value, last_by_test, Sort, both, either, comparing, computing, sort_of, last_of_two, last, kind_last, last_place, kind_last_place, last_all, right_last, left_at_last, left_last, effect_last, effects_last, initial_last, condition_last, labels_last, all_labels_last, stmt_last, kind_stmt_last, stmts_last, groups_last}

pub record Grows (l : Last) (s : Starts) : Type 0 where
  pub val : (b : ℕ) → l.val b ≡ b + s.val
  pub test : (b : ℕ) → l.test b ≡ b + s.test

grows_by_value : (f : ℕ → ℕ) (n : ℕ) → ((b : ℕ) → f b ≡ b + n) → Grows (last_by_value f) (starts_of.by_value n)
grows_by_value f n h = record { val = h; test = h }

grows_by_test : (f : ℕ → ℕ) (n : ℕ) → ((b : ℕ) → f b ≡ b + n) → Grows (last_by_test f) (starts_of.by_test n)
grows_by_test f n h = record { val = λ b. let e = h b in omega (arith, e); test = h }

grows_two : (z : Sort) (x y : Last) (u v : Starts) → Grows x u → Grows y v → Grows (last_of_two z x y) (starts_of.of_two z u v)
grows_two both x y u v g h = grows_by_test _ _ (λ b. let e = g.test b in let f = h.test (x.test b + 1) in omega (arith, e, f))
grows_two either x y u v g h = grows_by_test _ _ (λ b. let e = g.test b in let f = h.test (x.test b + 1) in omega (arith, e, f))
grows_two comparing x y u v g h = grows_by_test _ _ (λ b. let e = g.val b in let f = h.val (x.val b) in omega (arith, e, f))
grows_two computing x y u v g h = grows_by_value _ _ (λ b. let e = g.val b in let f = h.val (x.val b) in omega (arith, e, f))

mutual
  pub grows : (e : ExprTree) → Grows (last e) (starts e)
  grows (node s t k) = kind_grows k

  pub kind_grows : (k : ExprKindTree) → Grows (kind_last k) (kind_starts k)
  kind_grows (num v t) = grows_by_value _ _ (λ b. omega arith)
  kind_grows (name n) = grows_by_value _ _ (λ b. omega arith)
  kind_grows (local x) = grows_by_value _ _ (λ b. omega arith)
  kind_grows (global x) = grows_by_value _ _ (λ b. omega arith)
  kind_grows (unary u.Plus x) = grows_by_value _ _ (grows x).val
  kind_grows (unary u.Neg x) = grows_by_value _ _ (grows x).val
  kind_grows (unary u.Compl x) = grows_by_value _ _ (grows x).val
  kind_grows (unary u.Not x) = grows_by_test _ _ (grows x).test
  kind_grows (binary op x y) = grows_two (sort_of op) (last x) (last y) (starts x) (starts y) (grows x) (grows y)
  kind_grows (cond c x y) = grows_by_value _ _
      (λ b. let d = (grows c).test b in let e = (grows x).val ((last c).test b + 1) in let f = (grows y).val ((last x).val ((last c).test b + 1) + 1) in omega (arith, d, e, f))
  kind_grows (cast q x) = grows_by_value _ _ (grows x).val
  kind_grows (size_of q) = grows_by_value _ _ (λ b. omega arith)
  kind_grows (size_of_expr x) = grows_by_value _ _ (λ b. omega arith)
  kind_grows (index x y) = grows_by_value _ _ (λ b. let e = (grows x).val b in let f = (grows y).val ((last x).val b) in omega (arith, e, f))
  kind_grows (member x m) = grows_by_value _ _ (place_grows x)
  kind_grows (arrow x m) = grows_by_value _ _ (grows x).val
  kind_grows (deref x) = grows_by_value _ _ (grows x).val
  kind_grows (address x) = grows_by_value _ _ (place_grows x)

  pub place_grows : (e : ExprTree) (b : ℕ) → last_place e b ≡ b + place_starts e
  place_grows (node s t k) b = kind_place_grows k b

  pub kind_place_grows : (k : ExprKindTree) (b : ℕ) → kind_last_place k b ≡ b + kind_place_starts k
  kind_place_grows (num v t) b = omega arith
  kind_place_grows (name n) b = omega arith
  kind_place_grows (local x) b = omega arith
  kind_place_grows (global x) b = omega arith
  kind_place_grows (unary op x) b = omega arith
  kind_place_grows (binary op x y) b = omega arith
  kind_place_grows (cond c x y) b = omega arith
  kind_place_grows (cast q x) b = omega arith
  kind_place_grows (size_of q) b = omega arith
  kind_place_grows (size_of_expr x) b = omega arith
  kind_place_grows (index x y) b = let e = (grows x).val b in let f = (grows y).val ((last x).val b) in omega (arith, e, f)
  kind_place_grows (member x m) b = place_grows x b
  kind_place_grows (arrow x m) b = (grows x).val b
  kind_place_grows (deref x) b = (grows x).val b
  kind_place_grows (address x) b = omega arith

-- ---- effects

pub all_grow : (es : List ExprTree) (b : ℕ) → last_all es b ≡ b + all_starts es
all_grow [] b = omega arith
all_grow (e ∷ es) b = let f = (grows e).val b in let g = all_grow es ((last e).val b) in omega (arith, f, g)

pub right_grows : (r : RhsTree) (b : ℕ) → right_last r b ≡ b + right_starts r
right_grows (value e) b = (grows e).val b
right_grows (call c q) b = all_grow c.args b

left_at_grows : (l : ExprTree) (o : Option ℕ) (b : ℕ) → left_at_last l o b ≡ b + left_at_starts l o
left_at_grows l (Some x) b = omega arith
left_at_grows l None b = place_grows l b

pub left_grows : (l : ExprTree) (b : ℕ) → left_last l b ≡ b + left_starts l
left_grows l b = left_at_grows l (local_of l) b

pub effect_grows : (e : EffectTree) (b : ℕ) → effect_last e b ≡ b + effect_starts e
effect_grows (set l r s) b = let f = right_grows r b in let g = left_grows l (right_last r b) in omega (arith, f, g)
effect_grows (update op l e s) b = let f = (grows e).val b in let g = left_grows l ((last e).val b) in omega (arith, f, g)
effect_grows (call_alone c) b = all_grow c.args b
effect_grows (value_alone e) b = (grows (operand_of e)).val b

pub effects_grow : (es : List EffectTree) (b : ℕ) → effects_last es b ≡ b + effects_starts es
effects_grow [] b = omega arith
effects_grow (e ∷ es) b = let f = effect_grows e b in let g = effects_grow es (effect_last e b) in omega (arith, f, g)

-- ---- statements

pub initial_grows : (r : Option RhsTree) (b : ℕ) → initial_last r b ≡ b + initial_starts r
initial_grows None b = omega arith
initial_grows (Some r) b = right_grows r b

pub condition_grows : (c : Option ExprTree) (b : ℕ) → condition_last c b ≡ b + condition_starts c
condition_grows None b = omega arith
condition_grows (Some c) b = (grows c).test b

pub labels_grow : (ls : List (Option ExprTree)) (b : ℕ) → labels_last ls b ≡ b + labels_starts ls
labels_grow [] b = omega arith
labels_grow (None ∷ ls) b = labels_grow ls b
labels_grow (Some e ∷ ls) b = let f = labels_grow ls (b + 1) in omega (arith, f)

pub all_labels_grow : (gs : GroupTrees) (b : ℕ) → all_labels_last gs b ≡ b + all_labels_starts gs
all_labels_grow no_group b = omega arith
all_labels_grow (also_group labels body gs) b = let f = labels_grow labels b in let g = all_labels_grow gs (labels_last labels b) in omega (arith, f, g)

mutual
  pub stmt_grows : (s : StmtTree) (b : ℕ) → stmt_last s b ≡ b + stmt_starts s
  stmt_grows (stmt s k) b = kind_stmt_grows k b

  pub kind_stmt_grows : (k : StmtKindTree) (b : ℕ) → kind_stmt_last k b ≡ b + kind_stmt_starts k
  kind_stmt_grows (block ss) b = stmts_grow ss b
  kind_stmt_grows empty b = omega arith
  kind_stmt_grows (effect e) b = effect_grows e b
  kind_stmt_grows (declare x t r) b = initial_grows r b
  kind_stmt_grows (if_alone c x) b = let d = (grows c).test b in let e = stmt_grows x ((last c).test b + 1) in omega (arith, d, e)
  kind_stmt_grows (if_else c x y) b =
      let d = (grows c).test b in let e = stmt_grows x ((last c).test b + 1) in let f = stmt_grows y (stmt_last x ((last c).test b + 1) + 1) in omega (arith, d, e, f)
  kind_stmt_grows (while c x) b = let d = (grows c).test (b + 1) in let e = stmt_grows x ((last c).test (b + 1) + 1) in omega (arith, d, e)
  kind_stmt_grows (do_while x c) b = let e = stmt_grows x (b + 1) in let d = (grows c).test (stmt_last x (b + 1) + 1) in omega (arith, d, e)
  kind_stmt_grows (for init c steps x) b =
      let a = stmts_grow init b in let h = stmts_last init b + 1 in let d = condition_grows c h in let j = condition_last c h + 1 in let e = stmt_grows x j in
      let f = effects_grow steps (stmt_last x j + 1) in omega (arith, a, d, e, f)
  kind_stmt_grows (switch v gs) b =
      let a = (grows v).val b in let d = all_labels_grow gs ((last v).val b) in let e = groups_grow gs (all_labels_last gs ((last v).val b)) in omega (arith, a, d, e)
  kind_stmt_grows break b = omega arith
  kind_stmt_grows continue b = omega arith
  kind_stmt_grows (return r) b = let f = initial_grows r b in omega (arith, f)

  pub stmts_grow : (ss : StmtTrees) (b : ℕ) → stmts_last ss b ≡ b + stmts_starts ss
  stmts_grow no_stmt b = omega arith
  stmts_grow (also_stmt s ss) b = let e = stmt_grows s b in let f = stmts_grow ss (stmt_last s b) in omega (arith, e, f)

  pub groups_grow : (gs : GroupTrees) (b : ℕ) → groups_last gs b ≡ b + groups_starts gs
  groups_grow no_group b = omega arith
  groups_grow (also_group labels body gs) b = let e = stmts_grow body (b + 1) in let f = groups_grow gs (stmts_last body (b + 1)) in omega (arith, e, f)

-- ---- for the functions

pub val_is : (e : ExprTree) (b : ℕ) → (last e).val b ≡ b + (starts e).val
val_is e b = (grows e).val b

pub test_is : (e : ExprTree) (b : ℕ) → (last e).test b ≡ b + (starts e).test
test_is e b = (grows e).test b

pub right_is : (x : RhsTree) (b : ℕ) → right_last x b ≡ b + right_starts x
right_is x b = right_grows x b

pub effect_is : (x : EffectTree) (b : ℕ) → effect_last x b ≡ b + effect_starts x
effect_is x b = effect_grows x b

pub effects_is : (x : List EffectTree) (b : ℕ) → effects_last x b ≡ b + effects_starts x
effects_is x b = effects_grow x b

pub condition_is : (x : Option ExprTree) (b : ℕ) → condition_last x b ≡ b + condition_starts x
condition_is x b = condition_grows x b

pub labels_is : (x : List (Option ExprTree)) (b : ℕ) → labels_last x b ≡ b + labels_starts x
labels_is x b = labels_grow x b

pub all_labels_is : (x : GroupTrees) (b : ℕ) → all_labels_last x b ≡ b + all_labels_starts x
all_labels_is x b = all_labels_grow x b

pub stmt_is : (x : StmtTree) (b : ℕ) → stmt_last x b ≡ b + stmt_starts x
stmt_is x b = stmt_grows x b

pub stmts_is : (x : StmtTrees) (b : ℕ) → stmts_last x b ≡ b + stmts_starts x
stmts_is x b = stmts_grow x b

pub groups_is : (x : GroupTrees) (b : ℕ) → groups_last x b ≡ b + groups_starts x
groups_is x b = groups_grow x b
