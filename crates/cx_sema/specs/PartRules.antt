-- Which types calls, values that are taken and effects have (C11 6.5.2.2, 6.5.16, 6.8.3), without a walk: their parts have types, and each keeps the rules on types.
use Rattle.std.specs.Prelude.{◌≡◌, Bool, true, false, List, [], ◌∷◌, length, Option, Some, None, is_some}
use Rattle.cx_ctree.specs.Types.{TypeTree}
use Rattle.cx_ctree.specs.Exprs.{ExprTree, span_of, type_of, CallTree, RhsTree, value, call, EffectTree, set, update, call_alone, value_alone}
use Rattle.cx_cname.specs.Known.{a_function}
use Rattle.cx_ctype.specs.Operations.{value_type, is_scalar, is_zero, cast_type, is_assignable, is_updatable, is_movable}
use Rattle.cx_sname.specs.File.{Declared, meaning_of}
use Rattle.cx_scope.specs.Locals.{Locals}
use Rattle.cx_snode.specs.Nodes.{value_of}
use Rattle.cx_seffect.specs.Calls.{is_callable}
use Rattle.cx_seffect.specs.Effects.{is_place, cast_to_void, cast_away}
use Rattle.cx_sema.specs.ExprRules.{HasTypes}
use Rattle.cx_sema.specs.Kept.{ArePassed}

-- ---- calls (C11 6.5.2.2)

abbrev pub HaveTypes : Declared → Locals → List ExprTree → List ExprTree → Type 0
HaveTypes env ls [] ys = ys ≡ []
HaveTypes env ls (x ∷ xs) ys = (a : ExprTree) × HasTypes env ls x a × (rest : List ExprTree) × HaveTypes env ls xs rest × (ys ≡ a ∷ rest)

-- d is the call with its types, and r the type of its result, which something takes or nothing
abbrev pub IsCallOf : Declared → Locals → (taken : Bool) → CallTree → (d : CallTree) → (r : TypeTree) → Type 0
IsCallOf env ls taken c d r =
    (xs : List ExprTree) × HaveTypes env ls c.args xs × (ps : List TypeTree) × (meaning_of env c.name ≡ Some (a_function r ps))
    × (is_callable taken (length xs) r ps ≡ true) × ArePassed env xs ps × (d ≡ record c { args = xs })

-- ---- values that are taken (C11 6.5.16.1)

-- y is the value with its types, which an object of the type t takes
abbrev pub IsRhsOf : Declared → Locals → (t : TypeTree) → RhsTree → RhsTree → Type 0
IsRhsOf env ls t (value x) y = (a : ExprTree) × HasTypes env ls x a × (is_assignable (is_zero env.known a) (value_of a) t ≡ true) × (y ≡ value a)
IsRhsOf env ls t (call c None) y = (d : CallTree) × (r : TypeTree) × IsCallOf env ls true c d r × (is_assignable false (value_type r) t ≡ true) × (y ≡ call d None)
IsRhsOf env ls t (call c (Some w)) y =
    (d : CallTree) × (r : TypeTree) × IsCallOf env ls true c d r × (is_some (cast_type w (value_type r)) ≡ true) × (is_assignable false (value_type w) t ≡ true) × (y ≡ call d (Some w))

-- ---- effects

-- y is the value with its types, which nothing takes, where it is told what it casts to void
abbrev pub IsAloneOf : Declared → Locals → ExprTree → Option ExprTree → ExprTree → Type 0
IsAloneOf env ls x None y = HasTypes env ls x y × (is_scalar (value_of y) ≡ true)
IsAloneOf env ls x (Some z) y = (a : ExprTree) × HasTypes env ls z a × (is_scalar (value_of a) ≡ true) × (y ≡ cast_to_void (span_of x) a)

-- f is the effect with its types: assignments 6.5.16.1, compound assignments 6.5.16.2, calls and values 6.8.3
abbrev pub IsEffectOf : Declared → Locals → EffectTree → EffectTree → Type 0
IsEffectOf env ls (set l r s) f = (a : ExprTree) × HasTypes env ls l a × (is_place a ≡ true) × (v : RhsTree) × IsRhsOf env ls (type_of a) r v × (f ≡ set a v s)
IsEffectOf env ls (update op l x s) f =
    (a : ExprTree) × HasTypes env ls l a × (b : ExprTree) × HasTypes env ls x b × (is_place a ≡ true) × (is_updatable op (value_of a) (value_of b) ≡ true) × (is_movable env.known (value_of a) ≡ true) × (f ≡ update op a b s)
IsEffectOf env ls (call_alone c) f = (d : CallTree) × (r : TypeTree) × IsCallOf env ls false c d r × (f ≡ call_alone d)
IsEffectOf env ls (value_alone x) f = (y : ExprTree) × IsAloneOf env ls x (cast_away x) y × (f ≡ value_alone y)

abbrev pub AreEffectsOf : Declared → Locals → List EffectTree → List EffectTree → Type 0
AreEffectsOf env ls [] fs = fs ≡ []
AreEffectsOf env ls (e ∷ es) fs = (f : EffectTree) × IsEffectOf env ls e f × (rest : List EffectTree) × AreEffectsOf env ls es rest × (fs ≡ f ∷ rest)

-- ---- parts of statements

-- the condition of a statement (C11 6.8.4, 6.8.5)
abbrev pub IsConditionOf : Declared → Locals → ExprTree → ExprTree → Type 0
IsConditionOf env ls x y = HasTypes env ls x y × (is_scalar (value_of y) ≡ true)

abbrev pub IsOptionalOf : Declared → Locals → Option ExprTree → Option ExprTree → Type 0
IsOptionalOf env ls None y = y ≡ None
IsOptionalOf env ls (Some x) y = (a : ExprTree) × IsConditionOf env ls x a × (y ≡ Some a)

-- the initialiser of an object of the type t, or the value of a return from a function with this result
abbrev pub IsInitialOf : Declared → Locals → (t : TypeTree) → Option RhsTree → Option RhsTree → Type 0
IsInitialOf env ls t None q = q ≡ None
IsInitialOf env ls t (Some r) q = (v : RhsTree) × IsRhsOf env ls t r v × (q ≡ Some v)
