-- Expressions, and what holds them in a statement, as plain data.
use Rattle.std.specs.Prelude.{ℕ, ℤ, List, Option, map, option_map}
use Rattle.cx_base.specs.declared.number.CInt.{CInt}
use Rattle.cx_base.specs.declared.span.Span.{Span}
use Rattle.cx_ctree.specs.Types.{TypeTree, type_tree}
use Rattle.cx_ctree.specs.declared.expr.Unary.{Unary}
use Rattle.cx_ctree.specs.declared.expr.Binary.{Binary}
use Rattle.cx_ctree.specs.declared.expr.Expr.{Expr, fold-Expr}
use Rattle.cx_ctree.specs.declared.expr.ExprKind.TheOpen.{ExprKind-F, Expr-F}
use Rattle.cx_ctree.specs.declared.expr.Call as code
use Rattle.cx_ctree.specs.declared.expr.Rhs.{Rhs}
use Rattle.cx_ctree.specs.declared.expr.Rhs.TheVariants as r
use Rattle.cx_ctree.specs.declared.expr.Effect.{Effect}
use Rattle.cx_ctree.specs.declared.expr.Effect.TheVariants as e

mutual
  pub data ExprTree : Type 0 where
    node : Span → (ctype : TypeTree) → ExprKindTree → ExprTree

  pub data ExprKindTree : Type 0 where
    num : ℤ → CInt → ExprKindTree
    name : ℕ → ExprKindTree
    local : ℕ → ExprKindTree
    global : ℕ → ExprKindTree
    unary : Unary → ExprTree → ExprKindTree
    binary : Binary → ExprTree → ExprTree → ExprKindTree
    cond : ExprTree → ExprTree → ExprTree → ExprKindTree
    cast : TypeTree → ExprTree → ExprKindTree
    size_of : TypeTree → ExprKindTree
    size_of_expr : ExprTree → ExprKindTree
    index : ExprTree → ExprTree → ExprKindTree
    member : ExprTree → ℕ → ExprKindTree
    arrow : ExprTree → ℕ → ExprKindTree
    deref : ExprTree → ExprKindTree
    address : ExprTree → ExprKindTree

abbrev pub span_of : ExprTree → Span
span_of (node s t k) = s

abbrev pub type_of : ExprTree → TypeTree
type_of (node s t k) = t

abbrev pub kind_of : ExprTree → ExprKindTree
kind_of (node s t k) = k

pub record CallTree : Type 0 where
  pub span : Span
  pub name : ℕ
  pub args : List ExprTree

pub data RhsTree : Type 0 where
  value : ExprTree → RhsTree
  call : CallTree → (cast : Option TypeTree) → RhsTree

pub data EffectTree : Type 0 where
  set : ExprTree → RhsTree → Span → EffectTree
  update : Binary → ExprTree → ExprTree → Span → EffectTree
  call_alone : CallTree → EffectTree
  value_alone : ExprTree → EffectTree

abbrev pub kind_step : ExprKind-F ExprKindTree ExprTree → ExprKindTree
kind_step (ExprKind-F.Num v t) = num v t
kind_step (ExprKind-F.Name n) = name n
kind_step (ExprKind-F.Local x) = local x
kind_step (ExprKind-F.Global n) = global n
kind_step (ExprKind-F.Unary op a) = unary op a.value
kind_step (ExprKind-F.Binary op a b) = binary op a.value b.value
kind_step (ExprKind-F.Cond a b c) = cond a.value b.value c.value
kind_step (ExprKind-F.Cast t a) = cast (type_tree t) a.value
kind_step (ExprKind-F.SizeOf t) = size_of (type_tree t)
kind_step (ExprKind-F.SizeOfExpr a) = size_of_expr a.value
kind_step (ExprKind-F.Index a b) = index a.value b.value
kind_step (ExprKind-F.Member a m) = member a.value m
kind_step (ExprKind-F.Arrow a m) = arrow a.value m
kind_step (ExprKind-F.Deref a) = deref a.value
kind_step (ExprKind-F.Address a) = address a.value

abbrev pub expr_step : Expr-F ExprKindTree ExprTree → ExprTree
expr_step e = node e.span (type_tree e.ctype) e.kind

-- the expression
abbrev pub expr_tree : Expr → ExprTree
expr_tree = fold-Expr ExprKindTree ExprTree kind_step expr_step

abbrev pub call_tree : code.Call → CallTree
call_tree c = record { span = c.span; name = c.name; args = map expr_tree c.args }

abbrev pub rhs_tree : Rhs → RhsTree
rhs_tree (r.Value v) = value (expr_tree v)
rhs_tree (r.Call c t) = call (call_tree c) (option_map type_tree t)

abbrev pub effect_tree : Effect → EffectTree
effect_tree (e.Set l v s) = set (expr_tree l) (rhs_tree v) s
effect_tree (e.Update op l v s) = update op (expr_tree l) (expr_tree v) s
effect_tree (e.Call c) = call_alone (call_tree c)
effect_tree (e.Value v) = value_alone (expr_tree v)
