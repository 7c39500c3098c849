-- The walk finds the type and the value of the definitions.
use Rattle.std.proofs.Common.{◌≡◌, ℕ, refl, ap, ◌∙◌, ℤ, pos, Bool, true, false, Option, Some, None}
use Rattle.std.specs.Prelude.{option_map, is_some, ◌&&◌, if◌then◌else◌}
use Rattle.std.specs.Ordering.{int_eq}
use Rattle.std.specs.Option.{option_and_then, option_map_or}
use Rattle.cx_ctree.specs.declared.expr.Binary.{Binary}
use Rattle.cx_ctree.specs.declared.expr.Unary.{Unary}
use Rattle.cx_ctree.specs.Conversions.{signed_int, unsigned_long, promoted}
use Rattle.cx_ctree.specs.Types.{TypeTree, int}
use Rattle.cx_ctree.specs.Exprs.{ExprTree, node, ExprKindTree, num, name, local, global, unary, binary, cond, cast, size_of, size_of_expr, index, member, arrow, deref, address}
use Rattle.cx_ctree.specs.Layouts as layout
use Rattle.cx_cname.specs.Known.{Known, value_of}
use Rattle.cx_cconst.specs.Constants.{is_scalar, if_true, unary_type, binary_type, arms_type, is_zero, number_type, converted, unary_value, binary_value, decided, or_value, type_in, kind_type, value_in, kind_value, is_int, constant_in, is_constant}
use Rattle.cx_cconst.specs.Walk.{integer_found, is_found, TypedValue, found_unary, found_binary, found_cond, found_cast, chosen_value, found_in, found_kind}

-- the value beside the type
abbrev with : Option ℤ → Option TypeTree → Option TypedValue
with v t = option_map (λ t. (t, v)) t

unary_law : (op : Unary) (t : Option TypeTree) (v : Option ℤ)
    → option_and_then (found_unary op) (with v t) ≡ with (option_and_then (λ t. option_map (unary_value op (promoted (number_type t))) v) t) (option_and_then (unary_type op) t)
unary_law op None v = refl
unary_law op (Some t) v = refl

binary_law : (env : Known) (op : Binary) (z o : Bool) (t w : Option TypeTree) (x y : Option ℤ)
    → option_and_then (λ a. option_and_then (λ b. found_binary env op z o a b) (with y w)) (with x t)
    ≡ with (option_and_then (λ v. or_value (decided op v) (option_and_then (λ t. option_and_then (λ w. option_and_then (binary_value env op t w v) y) w) t)) x)
    (option_and_then (λ t. option_and_then (binary_type env op z o t) w) t)
binary_law env op z o None w x y = refl
binary_law env op z o (Some t) None x y = refl
binary_law env op z o (Some t) (Some w) x y = refl

cast_law : (t : TypeTree) (w : Option TypeTree) (v : Option ℤ)
    → option_and_then (found_cast t) (with v w) ≡ with (option_map (converted (number_type t)) v) (option_and_then (λ w. if_true (is_scalar t && is_scalar w) t) w)
cast_law t None v = refl
cast_law t (Some w) v = by_test (is_scalar t && is_scalar w)
  where
    by_test : (b : Bool) → if_true b (t, option_map (converted (number_type t)) v) ≡ with (option_map (converted (number_type t)) v) (if_true b t)
    by_test true = refl
    by_test false = refl

cond_law : (z o : Bool) (c t w : Option TypeTree) (q x y : Option ℤ)
    → option_and_then (λ q. option_and_then (λ a. option_and_then (λ b. found_cond z o q a b) (with y w)) (with x t)) (with q c)
    ≡ with
    (option_and_then (λ q. option_and_then (λ t. option_map (converted (number_type t)) (if int_eq q (pos 0) then y else x))
    (option_and_then (λ c. if is_scalar c then option_and_then (λ t. option_and_then (arms_type z o t) w) t else None) c)) q)
    (option_and_then (λ c. if is_scalar c then option_and_then (λ t. option_and_then (arms_type z o t) w) t else None) c)
cond_law z o None t w q x y = refl
cond_law z o (Some c) None w q x y = by_test (is_scalar c)
  where
    by_test : (b : Bool)
        → None ≡ with (option_and_then (λ q. option_and_then (λ t. option_map (converted (number_type t)) (if int_eq q (pos 0) then y else x)) (if b then None else None)) q) (if b then None else None)
    by_test true = refl
    by_test false = refl
cond_law z o (Some c) (Some t) None q x y = by_test (is_scalar c)
  where
    by_test : (b : Bool)
        → None ≡ with (option_and_then (λ q. option_and_then (λ t. option_map (converted (number_type t)) (if int_eq q (pos 0) then y else x)) (if b then None else None)) q) (if b then None else None)
    by_test true = refl
    by_test false = refl
cond_law z o (Some c) (Some t) (Some w) q x y = by_test (is_scalar c) (arms_type z o t w)
  where
    by_test : (b : Bool) (r : Option TypeTree)
        → (if b then option_map (λ t. (t, chosen_value t q x y)) r else None)
        ≡ with (option_and_then (λ q. option_and_then (λ t. option_map (converted (number_type t)) (if int_eq q (pos 0) then y else x)) (if b then r else None)) q) (if b then r else None)
    by_test true None = refl
    by_test true (Some t) = refl
    by_test false r = refl

name_law : (v : Option ℤ) → option_map (λ v. (int signed_int, Some v)) v ≡ with v (option_map (λ v. int signed_int) v)
name_law None = refl
name_law (Some v) = refl

size_law : (n : Option ℕ) → option_map (λ n. (int unsigned_long, Some (pos n))) n ≡ with (option_map (λ n. pos n) n) (option_map (λ n. int unsigned_long) n)
size_law None = refl
size_law (Some n) = refl

mutual
  pub found_law : (env : Known) (x : ExprTree) → found_in env x ≡ with (value_in env x) (type_in env x)
  found_law env (node s t k) = kind_law env k

  kind_law : (env : Known) (k : ExprKindTree) → found_kind env k ≡ with (kind_value env k) (kind_type env k)
  kind_law env (num v t) = refl
  kind_law env (name n) = name_law (value_of n env.consts)
  kind_law env (local n) = refl
  kind_law env (global n) = refl
  kind_law env (unary op x) = ap (option_and_then (found_unary op)) (found_law env x) ∙ unary_law op (type_in env x) (value_in env x)
  kind_law env (binary op x y) =
      (λ i. option_and_then (λ a. option_and_then (λ b. found_binary env op (is_zero env x) (is_zero env y) a b) (found_law env y i)) (found_law env x i))
      ∙ binary_law env op (is_zero env x) (is_zero env y) (type_in env x) (type_in env y) (value_in env x) (value_in env y)
  kind_law env (cond c x y) =
      (λ i. option_and_then (λ q. option_and_then (λ a. option_and_then (λ b. found_cond (is_zero env x) (is_zero env y) q a b) (found_law env y i)) (found_law env x i)) (found_law env c i))
      ∙ cond_law (is_zero env x) (is_zero env y) (type_in env c) (type_in env x) (type_in env y) (value_in env c) (value_in env x) (value_in env y)
  kind_law env (cast t x) = ap (option_and_then (found_cast t)) (found_law env x) ∙ cast_law t (type_in env x) (value_in env x)
  kind_law env (size_of t) = size_law (layout.size_of env.tags t)
  kind_law env (size_of_expr x) = refl
  kind_law env (index x y) = refl
  kind_law env (member x n) = refl
  kind_law env (arrow x n) = refl
  kind_law env (deref x) = refl
  kind_law env (address x) = refl

-- ---- what the walk tells

pub integer_law : (env : Known) (x : ExprTree) → integer_found (found_in env x) ≡ constant_in env x
integer_law env x = ap integer_found (found_law env x) ∙ by_type (type_in env x) (value_in env x)
  where
    by_type : (t : Option TypeTree) (v : Option ℤ) → integer_found (with v t) ≡ (if option_map_or is_int t false then v else None)
    by_type None v = refl
    by_type (Some t) v = refl

pub initial_law : (env : Known) (x : ExprTree) → is_found (found_in env x) ≡ is_constant env x
initial_law env x = ap is_found (found_law env x) ∙ by_type (type_in env x) (value_in env x)
  where
    by_type : (t : Option TypeTree) (v : Option ℤ) → is_found (with v t) ≡ (option_map_or is_scalar t false && is_some v)
    by_type None v = refl
    by_type (Some t) v = refl
