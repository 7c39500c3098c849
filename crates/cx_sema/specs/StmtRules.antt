-- Which types the statements of a function have (C11 6.8, 6.9.1), without a walk: their parts have types, and each keeps the rules on types.
use Rattle.std.specs.Prelude.{◌≡◌, ⊤, ℕ, ℤ, Bool, true, false, List, [], ◌∷◌, ◌++◌, length, Option, Some, None, Result, Ok, Err}
use Rattle.std.specs.List.{list_any}
use Rattle.std.specs.Ordering.{int_eq}
use Rattle.cx_base.specs.declared.span.Span.{Span}
use Rattle.cx_base.specs.declared.number.CInt.{CInt}
use Rattle.cx_ctree.specs.Types.{TypeTree}
use Rattle.cx_ctree.specs.Exprs.{ExprTree, RhsTree, EffectTree}
use Rattle.cx_ctree.specs.Stmts.{StmtTree, stmt, StmtKindTree, block, empty, effect, declare, if_alone, if_else, while, do_while, for, switch, break, continue, return, StmtTrees, no_stmt, also_stmt, GroupTrees, no_group, also_group}
use Rattle.cx_ctree.specs.Decls.{ParamTree, FunctionTree, TypedTree, typed_tree}
use Rattle.cx_ctree.specs.declared.decl.Typed.{Typed}
use Rattle.cx_cconst.specs.Constants.{converted, constant_in}
use Rattle.cx_ctype.specs.Operations.{is_int}
use Rattle.cx_sname.specs.File.{Declared}
use Rattle.cx_scope.specs.Locals.{Locals, no_locals, declared, opened, closed}
use Rattle.cx_snode.specs.declared.fault.SemaFault.{SemaFault}
use Rattle.cx_snode.specs.declared.fault.SemaFault.TheVariants as f
use Rattle.cx_snode.specs.Nodes.{value_of}
use Rattle.cx_seffect.specs.Calls.{is_void}
use Rattle.cx_sstmt.specs.Stmts.{Around, in_loop, in_switch, After, is_variable, label_type}
use Rattle.cx_sema.specs.ExprRules.{HasTypes}
use Rattle.cx_sema.specs.PartRules.{IsRhsOf, IsEffectOf, AreEffectsOf, IsConditionOf, IsOptionalOf, IsInitialOf}
use Rattle.cx_sema.specs.Functions.{around_body}

-- ---- labels (C11 6.8.4.2)

-- ys are the labels with their types, where the switch is on the type t, and vs what they stand for: a case for its value in that type, and the default for none; names in them are constants
abbrev pub AreLabelsOf : Declared → CInt → List (Option ExprTree) → (ys : List (Option ExprTree)) → (vs : List (Option ℤ)) → Type 0
AreLabelsOf env t [] ys vs = (ys ≡ []) × (vs ≡ [])
AreLabelsOf env t (None ∷ xs) ys vs = (zs : List (Option ExprTree)) × (ws : List (Option ℤ)) × AreLabelsOf env t xs zs ws × (ys ≡ None ∷ zs) × (vs ≡ None ∷ ws)
AreLabelsOf env t (Some x ∷ xs) ys vs =
    (a : ExprTree) × HasTypes env no_locals x a × (v : ℤ) × (constant_in env.known x ≡ Some v)
    × (zs : List (Option ExprTree)) × (ws : List (Option ℤ)) × AreLabelsOf env t xs zs ws × (ys ≡ Some a ∷ zs) × (vs ≡ Some (converted t v) ∷ ws)

-- both are the default, or cases of one value
abbrev pub same_label : Option ℤ → Option ℤ → Bool
same_label None None = true
same_label (Some v) (Some w) = int_eq v w
same_label _ _ = false

-- no two of the labels are the same
abbrev pub AreDifferent : List (Option ℤ) → Type 0
AreDifferent [] = ⊤
AreDifferent (v ∷ vs) = (list_any (λ w. same_label w v) vs ≡ false) × AreDifferent vs

-- ---- statements

-- a tree, with the locals after it
abbrev pub after : {A : Type 0} → A → Locals → After A
after x ls = record { tree = x; locals = ls }

-- a is the statement with its types, and the locals after it: blocks 6.8.2, selections 6.8.4, loops 6.8.5, jumps 6.8.6. A statement that is part of another is a block of its own
abbrev mutual
  pub IsStmtOf : Declared → Around → Locals → StmtTree → After StmtTree → Type 0
  IsStmtOf env around ls (stmt s k) a = IsKindOf env around ls s k a

  pub IsKindOf : Declared → Around → Locals → Span → StmtKindTree → After StmtTree → Type 0
  IsKindOf env around ls s (block ss) a = (b : After StmtTrees) × AreStmtsOf env around (opened ls) ss b × (a ≡ after (stmt s (block b.tree)) (closed b.locals))
  IsKindOf env around ls s empty a = a ≡ after (stmt s empty) ls
  IsKindOf env around ls s (effect e) a = (f : EffectTree) × IsEffectOf env ls e f × (a ≡ after (stmt s (effect f)) ls)
  IsKindOf env around ls s (declare n t r) a =
      (is_variable ls n t ≡ true) × (q : Option RhsTree) × IsInitialOf env (declared n t ls) t r q × (a ≡ after (stmt s (declare (length ls.types) t q)) (declared n t ls))
  IsKindOf env around ls s (if_alone c x) a =
      (d : ExprTree) × IsConditionOf env ls c d × (b : After StmtTree) × IsStmtOf env around (opened ls) x b × (a ≡ after (stmt s (if_alone d b.tree)) (closed b.locals))
  IsKindOf env around ls s (if_else c x y) a =
      (d : ExprTree) × IsConditionOf env ls c d × (b : After StmtTree) × IsStmtOf env around (opened ls) x b
      × (e : After StmtTree) × IsStmtOf env around (opened (closed b.locals)) y e × (a ≡ after (stmt s (if_else d b.tree e.tree)) (closed e.locals))
  IsKindOf env around ls s (while c x) a =
      (d : ExprTree) × IsConditionOf env ls c d × (b : After StmtTree) × IsStmtOf env (in_loop around) (opened ls) x b × (a ≡ after (stmt s (while d b.tree)) (closed b.locals))
  IsKindOf env around ls s (do_while x c) a =
      (b : After StmtTree) × IsStmtOf env (in_loop around) (opened ls) x b × (d : ExprTree) × IsConditionOf env (closed b.locals) c d × (a ≡ after (stmt s (do_while b.tree d)) (closed b.locals))
  IsKindOf env around ls s (for init c steps x) a =
      (i : After StmtTrees) × AreStmtsOf env around (opened ls) init i × (d : Option ExprTree) × IsOptionalOf env i.locals c d × (es : List EffectTree) × AreEffectsOf env i.locals steps es
      × (b : After StmtTree) × IsStmtOf env (in_loop around) (opened i.locals) x b × (a ≡ after (stmt s (for i.tree d es b.tree)) (closed (closed b.locals)))
  IsKindOf env around ls s (switch v gs) a =
      (w : ExprTree) × HasTypes env ls v w × (is_int (value_of w) ≡ true) × (b : After GroupTrees) × (vs : List (Option ℤ)) × AreGroupsOf env (in_switch around) (opened ls) (label_type w) gs b vs
      × AreDifferent vs × (a ≡ after (stmt s (switch w b.tree)) (closed b.locals))
  IsKindOf env around ls s break a = (around.breakable ≡ true) × (a ≡ after (stmt s break) ls)
  IsKindOf env around ls s continue a = (around.looped ≡ true) × (a ≡ after (stmt s continue) ls)
  IsKindOf env around ls s (return None) a = (is_void around.result ≡ true) × (a ≡ after (stmt s (return None)) ls)
  IsKindOf env around ls s (return (Some r)) a = (is_void around.result ≡ false) × (q : RhsTree) × IsRhsOf env ls around.result r q × (a ≡ after (stmt s (return (Some q))) ls)

  pub AreStmtsOf : Declared → Around → Locals → StmtTrees → After StmtTrees → Type 0
  AreStmtsOf env around ls no_stmt a = a ≡ after no_stmt ls
  AreStmtsOf env around ls (also_stmt s ss) a =
      (b : After StmtTree) × IsStmtOf env around ls s b × (rest : After StmtTrees) × AreStmtsOf env around b.locals ss rest × (a ≡ after (also_stmt b.tree rest.tree) rest.locals)

  -- the groups of a switch on the type t, and what their labels stand for
  pub AreGroupsOf : Declared → Around → Locals → CInt → GroupTrees → After GroupTrees → (vs : List (Option ℤ)) → Type 0
  AreGroupsOf env around ls t no_group a vs = (a ≡ after no_group ls) × (vs ≡ [])
  AreGroupsOf env around ls t (also_group xs ss gs) a vs =
      (ys : List (Option ExprTree)) × (us : List (Option ℤ)) × AreLabelsOf env t xs ys us × (b : After StmtTrees) × AreStmtsOf env around ls ss b
      × (rest : After GroupTrees) × (ws : List (Option ℤ)) × AreGroupsOf env around b.locals t gs rest ws
      × (a ≡ after (also_group ys b.tree rest.tree) rest.locals) × (vs ≡ us ++ ws)

-- ---- functions (C11 6.9.1)

-- a parameter has a name that is new, and a scalar type
abbrev pub IsParamOf : Locals → TypeTree → Option ℕ → Locals → Type 0
IsParamOf ls t None now = ⊥
IsParamOf ls t (Some n) now = (is_variable ls n t ≡ true) × (now ≡ declared n t ls)

-- now are the locals after the parameters
abbrev pub AreParamsOf : Locals → List ParamTree → Locals → Type 0
AreParamsOf ls [] now = now ≡ ls
AreParamsOf ls (p ∷ ps) now = (m : Locals) × IsParamOf ls p.ctype p.name m × AreParamsOf m ps now

-- the parameters belong to the block of the body (C11 6.2.1)
abbrev pub IsBodyOf : Declared → Around → Locals → StmtTree → After StmtTree → Type 0
IsBodyOf env around ls (stmt s (block ss)) a = (b : After StmtTrees) × AreStmtsOf env around ls ss b × (a ≡ after (stmt s (block b.tree)) b.locals)
IsBodyOf env around ls x a = IsStmtOf env around ls x a

-- t is the function with its types
abbrev pub IsFunctionOf : Declared → FunctionTree → TypedTree → Type 0
IsFunctionOf env f t =
    (ls : Locals) × AreParamsOf no_locals f.sig.params ls × (b : After StmtTree) × IsBodyOf env (around_body f.sig) ls f.body b
    × (t ≡ record { sig = f.sig; name_span = f.name_span; locals = b.locals.types; body = b.tree })

-- the answer is the function with its types, which has no others, or it has none, unless memory ran out
abbrev pub Resolves : Result Typed SemaFault → Declared → FunctionTree → Type 0
Resolves (Ok t) env f = IsFunctionOf env f (typed_tree t) × ((u : TypedTree) → IsFunctionOf env f u → u ≡ typed_tree t)
Resolves (Err f.NoMemory) env g = ⊤
Resolves (Err (f.NotWellTyped s n)) env g = (u : TypedTree) → IsFunctionOf env g u → ⊥
