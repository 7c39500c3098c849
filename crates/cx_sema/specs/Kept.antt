-- What holds of a function with its types, without a walk: each part keeps the rules on types, each local exists, each layout that is asked for exists, and each called function is declared.
use Rattle.std.specs.Prelude.{◌≡◌, ◌⊎◌, ⊤, Bool, true, false, List, [], ◌∷◌, ◌++◌, map, length, Option, Some, None, is_some, slice_get}
use Rattle.std.specs.List.{list_all}
use Rattle.cx_ctree.specs.Types.{TypeTree}
use Rattle.cx_ctree.specs.Exprs.{ExprTree, span_of, type_of, CallTree, RhsTree, value, call, EffectTree, set, update, call_alone, value_alone}
use Rattle.cx_ctree.specs.Stmts.{StmtTree, stmt, StmtKindTree, block, empty, effect, declare, if_alone, if_else, while, do_while, for, switch, break, continue, return, StmtTrees, no_stmt, also_stmt, GroupTrees, no_group, also_group}
use Rattle.cx_ctree.specs.Decls.{TypedTree}
use Rattle.cx_cname.specs.Known.{a_function}
use Rattle.cx_ctype.specs.Operations.{value_type, is_int, is_scalar, is_zero, cast_type, is_assignable, is_updatable, is_movable}
use Rattle.cx_sname.specs.File.{Declared, meaning_of}
use Rattle.cx_snode.specs.Nodes.{value_of}
use Rattle.cx_sexpr.specs.Kept.{IsTyped}
use Rattle.cx_seffect.specs.Calls.{is_void, is_callable}
use Rattle.cx_seffect.specs.Effects.{is_place, cast_to_void}
use Rattle.cx_sstmt.specs.Stmts.{Around, in_loop, in_switch}
use Rattle.cx_sema.specs.Functions.{around_body}

-- ---- calls and values

abbrev pub AreTyped : Declared → (locals : List TypeTree) → List ExprTree → Type 0
AreTyped env ls [] = ⊤
AreTyped env ls (x ∷ xs) = IsTyped env ls x × AreTyped env ls xs

-- each argument may be assigned to its parameter, and there are as many
abbrev pub ArePassed : Declared → List ExprTree → (params : List TypeTree) → Type 0
ArePassed env [] [] = ⊤
ArePassed env (x ∷ xs) (t ∷ ts) = (is_assignable (is_zero env.known x) (value_of x) t ≡ true) × ArePassed env xs ts
ArePassed env _ _ = ⊥

-- a call of a function that is declared with such parameters and this result, which something takes or nothing
abbrev pub IsTypedCall : Declared → (locals : List TypeTree) → (taken : Bool) → CallTree → (result : TypeTree) → Type 0
IsTypedCall env ls taken c r =
    AreTyped env ls c.args × (ps : List TypeTree) × (meaning_of env c.name ≡ Some (a_function r ps)) × (is_callable taken (length c.args) r ps ≡ true) × ArePassed env c.args ps

-- a value that an object of the type t takes
abbrev pub IsTypedRhs : Declared → (locals : List TypeTree) → (t : TypeTree) → RhsTree → Type 0
IsTypedRhs env ls t (value x) = IsTyped env ls x × (is_assignable (is_zero env.known x) (value_of x) t ≡ true)
IsTypedRhs env ls t (call c None) = (r : TypeTree) × IsTypedCall env ls true c r × (is_assignable false (value_type r) t ≡ true)
IsTypedRhs env ls t (call c (Some w)) = (r : TypeTree) × IsTypedCall env ls true c r × (is_some (cast_type w (value_type r)) ≡ true) × (is_assignable false (value_type w) t ≡ true)

-- a value that nothing takes: it is scalar, also before a cast to void of the whole
abbrev pub IsTypedAlone : Declared → (locals : List TypeTree) → ExprTree → Type 0
IsTypedAlone env ls x =
    (IsTyped env ls x × (is_scalar (value_of x) ≡ true))
    ⊎ ((a : ExprTree) × (x ≡ cast_to_void (span_of x) a) × IsTyped env ls a × (is_scalar (value_of a) ≡ true))

abbrev pub IsTypedEffect : Declared → (locals : List TypeTree) → EffectTree → Type 0
IsTypedEffect env ls (set l r s) = IsTyped env ls l × (is_place l ≡ true) × IsTypedRhs env ls (type_of l) r
IsTypedEffect env ls (update op l x s) =
    IsTyped env ls l × IsTyped env ls x × (is_place l ≡ true) × (is_updatable op (value_of l) (value_of x) ≡ true) × (is_movable env.known (value_of l) ≡ true)
IsTypedEffect env ls (call_alone c) = (r : TypeTree) × IsTypedCall env ls false c r
IsTypedEffect env ls (value_alone x) = IsTypedAlone env ls x

abbrev pub AreTypedEffects : Declared → (locals : List TypeTree) → List EffectTree → Type 0
AreTypedEffects env ls [] = ⊤
AreTypedEffects env ls (e ∷ es) = IsTypedEffect env ls e × AreTypedEffects env ls es

-- ---- statements

abbrev pub IsTypedCondition : Declared → (locals : List TypeTree) → ExprTree → Type 0
IsTypedCondition env ls x = IsTyped env ls x × (is_scalar (value_of x) ≡ true)

abbrev pub IsTypedOptional : Declared → (locals : List TypeTree) → Option ExprTree → Type 0
IsTypedOptional env ls None = ⊤
IsTypedOptional env ls (Some x) = IsTypedCondition env ls x

abbrev pub IsTypedInitial : Declared → (locals : List TypeTree) → (t : TypeTree) → Option RhsTree → Type 0
IsTypedInitial env ls t None = ⊤
IsTypedInitial env ls t (Some r) = IsTypedRhs env ls t r

-- a value is returned exactly where the function has a result
abbrev pub IsTypedReturn : Declared → (locals : List TypeTree) → (result : TypeTree) → Option RhsTree → Type 0
IsTypedReturn env ls t None = is_void t ≡ true
IsTypedReturn env ls t (Some r) = (is_void t ≡ false) × IsTypedRhs env ls t r

-- labels name no locals
abbrev pub AreTypedLabels : Declared → List (Option ExprTree) → Type 0
AreTypedLabels env [] = ⊤
AreTypedLabels env (None ∷ xs) = AreTypedLabels env xs
AreTypedLabels env (Some x ∷ xs) = IsTyped env [] x × AreTypedLabels env xs

abbrev mutual
  pub IsTypedStmt : Declared → Around → (locals : List TypeTree) → StmtTree → Type 0
  IsTypedStmt env around ls (stmt s k) = IsTypedKind env around ls k

  pub IsTypedKind : Declared → Around → (locals : List TypeTree) → StmtKindTree → Type 0
  IsTypedKind env around ls (block ss) = AreTypedStmts env around ls ss
  IsTypedKind env around ls empty = ⊤
  IsTypedKind env around ls (effect e) = IsTypedEffect env ls e
  IsTypedKind env around ls (declare x t r) = (slice_get ls x ≡ Some t) × IsTypedInitial env ls t r
  IsTypedKind env around ls (if_alone c a) = IsTypedCondition env ls c × IsTypedStmt env around ls a
  IsTypedKind env around ls (if_else c a b) = IsTypedCondition env ls c × IsTypedStmt env around ls a × IsTypedStmt env around ls b
  IsTypedKind env around ls (while c a) = IsTypedCondition env ls c × IsTypedStmt env (in_loop around) ls a
  IsTypedKind env around ls (do_while a c) = IsTypedStmt env (in_loop around) ls a × IsTypedCondition env ls c
  IsTypedKind env around ls (for init c steps a) =
      AreTypedStmts env around ls init × IsTypedOptional env ls c × AreTypedEffects env ls steps × IsTypedStmt env (in_loop around) ls a
  IsTypedKind env around ls (switch v gs) = IsTyped env ls v × (is_int (value_of v) ≡ true) × AreTypedGroups env (in_switch around) ls gs
  IsTypedKind env around ls break = around.breakable ≡ true
  IsTypedKind env around ls continue = around.looped ≡ true
  IsTypedKind env around ls (return r) = IsTypedReturn env ls around.result r

  pub AreTypedStmts : Declared → Around → (locals : List TypeTree) → StmtTrees → Type 0
  AreTypedStmts env around ls no_stmt = ⊤
  AreTypedStmts env around ls (also_stmt s ss) = IsTypedStmt env around ls s × AreTypedStmts env around ls ss

  pub AreTypedGroups : Declared → Around → (locals : List TypeTree) → GroupTrees → Type 0
  AreTypedGroups env around ls no_group = ⊤
  AreTypedGroups env around ls (also_group labels ss gs) = AreTypedLabels env labels × AreTypedStmts env around ls ss × AreTypedGroups env around ls gs

-- ---- functions

-- the first locals are the parameters, each local is scalar, and the body keeps the rules
pub record IsTypedFunction (env : Declared) (f : TypedTree) : Type 0 where
  pub others : List TypeTree
  pub params : f.locals ≡ map (λ p. p.ctype) f.sig.params ++ others
  pub scalar : list_all is_scalar f.locals ≡ true
  pub body : IsTypedStmt env (around_body f.sig) f.locals f.body
