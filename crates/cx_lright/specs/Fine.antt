-- What lowering asks of the typed tree of a function.
use Rattle.std.specs.Prelude.{◌≡◌, ℕ, ◌<◌, ◌≤◌, Bool, true, false, List, [], ◌∷◌, length, Option, Some, None}
use Rattle.cx_cmean.specs.Effects.{local_of, operand_of}
use Rattle.cx_cmean.specs.Numbers.{value_type}
use Rattle.cx_cmean.specs.Program.{function_of}
use Rattle.cx_ctree.specs.Decls.{TypedTree}
use Rattle.cx_ctree.specs.Exprs.{ExprTree, node, ExprKindTree, num, name, local, global, unary, binary, cond, cast, size_of, size_of_expr, index, member, arrow, deref, address, type_of, CallTree, RhsTree, value, call, EffectTree, set, update, call_alone, value_alone}
use Rattle.cx_ctree.specs.Stmts.{StmtTree, stmt, StmtKindTree, block, empty, effect, declare, if_alone, if_else, while, do_while, for, switch, break, continue, return, StmtTrees, no_stmt, also_stmt, GroupTrees, no_group, also_group}
use Rattle.cx_ctree.specs.Types.{TypeTree, void, int, pointer}
use Rattle.cx_ctree.specs.declared.expr.Binary.{Binary}
use Rattle.cx_ctree.specs.declared.expr.Binary.TheVariants as b
use Rattle.cx_lcode.specs.Places.{Sort, both, either, comparing, computing, sort_of}
use Rattle.cx_sname.specs.File.{Declared}

abbrev pub adds : Binary → Bool
adds b.Add = true
adds op = false

abbrev pub subtracts : Binary → Bool
subtracts b.Sub = true
subtracts op = false

-- the operator moves a pointer by a number
abbrev pub moves : Binary → Bool
moves b.Add = true
moves b.Sub = true
moves op = false

-- the operator takes two integers, or moves a pointer, or gives the distance of two
abbrev pub takes : Binary → TypeTree → TypeTree → Bool
takes op (int t) (int u) = true
takes op (pointer t) (int u) = moves op
takes op (int t) (pointer u) = adds op
takes op (pointer t) (pointer u) = subtracts op
takes op t u = false

-- such operands, unless the operator tests
abbrev pub sort_takes : Sort → Binary → TypeTree → TypeTree → Bool
sort_takes both op t u = true
sort_takes either op t u = true
sort_takes comparing op t u = true
sort_takes computing op t u = takes op t u

-- an expression's locals are below n, its names are gone, and its operators take their operands
abbrev mutual
  pub Fine : (n : ℕ) → ExprTree → Type 0
  Fine n (node s t k) = KindFine n k

  pub KindFine : (n : ℕ) → ExprKindTree → Type 0
  KindFine n (num v t) = Unit {0}
  KindFine n (name x) = ⊥
  KindFine n (local x) = x < n
  KindFine n (global x) = Unit {0}
  KindFine n (unary op x) = Fine n x
  KindFine n (binary op x y) = (sort_takes (sort_of op) op (value_type (type_of x)) (value_type (type_of y)) ≡ true) × Fine n x × Fine n y
  KindFine n (cond c x y) = Fine n c × Fine n x × Fine n y
  KindFine n (cast q x) = Fine n x
  KindFine n (size_of q) = Unit {0}
  KindFine n (size_of_expr x) = Unit {0}
  KindFine n (index x y) = (takes b.Add (value_type (type_of x)) (value_type (type_of y)) ≡ true) × Fine n x × Fine n y
  KindFine n (member x m) = PlaceFine n x
  KindFine n (arrow x m) = Fine n x
  KindFine n (deref x) = Fine n x
  KindFine n (address x) = PlaceFine n x

  -- the same of an object in memory
  pub PlaceFine : (n : ℕ) → ExprTree → Type 0
  PlaceFine n (node s t k) = KindPlaceFine n k

  pub KindPlaceFine : (n : ℕ) → ExprKindTree → Type 0
  KindPlaceFine n (global x) = Unit {0}
  KindPlaceFine n (index x y) = (takes b.Add (value_type (type_of x)) (value_type (type_of y)) ≡ true) × Fine n x × Fine n y
  KindPlaceFine n (member x m) = PlaceFine n x
  KindPlaceFine n (arrow x m) = Fine n x
  KindPlaceFine n (deref x) = Fine n x
  KindPlaceFine n k = ⊥

-- ---- effects

abbrev pub AllFine : (n : ℕ) → List ExprTree → Type 0
AllFine n [] = Unit {0}
AllFine n (e ∷ es) = Fine n e × AllFine n es

-- a call has as many arguments as its function has parameters
abbrev pub CallFine : Declared → (n : ℕ) → CallTree → Type 0
CallFine d n c = AllFine n c.args × (length c.args ≡ length (function_of d c.name).params)

abbrev pub is_void : TypeTree → Bool
is_void void = true
is_void t = false

-- the function whose result is taken has one
abbrev pub RightFine : Declared → (n : ℕ) → RhsTree → Type 0
RightFine d n (value e) = Fine n e
RightFine d n (call c q) = CallFine d n c × (is_void (function_of d c.name).result ≡ false)

abbrev pub is_scalar : TypeTree → Bool
is_scalar (int t) = true
is_scalar (pointer t) = true
is_scalar t = false

-- a left side is a local or a scalar in memory
abbrev pub LeftAtFine : (n : ℕ) → ExprTree → Option ℕ → Type 0
LeftAtFine n l (Some x) = x < n
LeftAtFine n l None = PlaceFine n l × (is_scalar (type_of l) ≡ true)

abbrev pub LeftFine : (n : ℕ) → ExprTree → Type 0
LeftFine n l = LeftAtFine n l (local_of l)

-- the operator changes an integer by an integer, or moves a pointer
abbrev pub changes : Binary → TypeTree → TypeTree → Bool
changes op (int t) (int u) = true
changes op (pointer t) (int u) = moves op
changes op t u = false

abbrev pub EffectFine : Declared → (n : ℕ) → EffectTree → Type 0
EffectFine d n (set l r s) = RightFine d n r × LeftFine n l
EffectFine d n (update op l e s) = (sort_of op ≡ computing) × (changes op (type_of l) (value_type (type_of e)) ≡ true) × Fine n e × LeftFine n l
EffectFine d n (call_alone c) = CallFine d n c
EffectFine d n (value_alone e) = Fine n (operand_of e)

abbrev pub EffectsFine : Declared → (n : ℕ) → List EffectTree → Type 0
EffectsFine d n [] = Unit {0}
EffectsFine d n (e ∷ es) = EffectFine d n e × EffectsFine d n es

-- ---- statements

abbrev pub InitialFine : Declared → (n : ℕ) → Option RhsTree → Type 0
InitialFine d n None = Unit {0}
InitialFine d n (Some r) = RightFine d n r

abbrev pub ConditionFine : (n : ℕ) → Option ExprTree → Type 0
ConditionFine n None = Unit {0}
ConditionFine n (Some c) = Fine n c

-- a break stands in a loop or a switch, a continue in a loop
abbrev mutual
  pub StmtFine : Declared → (n : ℕ) → (in_loop in_switch : Bool) → StmtTree → Type 0
  StmtFine d n l w (stmt s k) = KindStmtFine d n l w k

  pub KindStmtFine : Declared → (n : ℕ) → (in_loop in_switch : Bool) → StmtKindTree → Type 0
  KindStmtFine d n l w (block ss) = StmtsFine d n l w ss
  KindStmtFine d n l w empty = Unit {0}
  KindStmtFine d n l w (effect e) = EffectFine d n e
  KindStmtFine d n l w (declare x t r) = (x < n) × InitialFine d n r
  KindStmtFine d n l w (if_alone c x) = Fine n c × StmtFine d n l w x
  KindStmtFine d n l w (if_else c x y) = Fine n c × StmtFine d n l w x × StmtFine d n l w y
  KindStmtFine d n l w (while c x) = Fine n c × StmtFine d n true true x
  KindStmtFine d n l w (do_while x c) = StmtFine d n true true x × Fine n c
  KindStmtFine d n l w (for init c steps x) = StmtsFine d n l w init × ConditionFine n c × EffectsFine d n steps × StmtFine d n true true x
  KindStmtFine d n l w (switch v gs) = Fine n v × GroupsFine d n l true gs
  KindStmtFine d n l w break = w ≡ true
  KindStmtFine d n l w continue = l ≡ true
  KindStmtFine d n l w (return r) = InitialFine d n r

  pub StmtsFine : Declared → (n : ℕ) → (in_loop in_switch : Bool) → StmtTrees → Type 0
  StmtsFine d n l w no_stmt = Unit {0}
  StmtsFine d n l w (also_stmt s ss) = StmtFine d n l w s × StmtsFine d n l w ss

  pub GroupsFine : Declared → (n : ℕ) → (in_loop in_switch : Bool) → GroupTrees → Type 0
  GroupsFine d n l w no_group = Unit {0}
  GroupsFine d n l w (also_group labels body gs) = StmtsFine d n l w body × GroupsFine d n l w gs

-- the tree of a function
abbrev pub FunctionFine : Declared → TypedTree → Type 0
FunctionFine d f = (length f.sig.params ≤ length f.locals) × StmtFine d (length f.locals) false false f.body
