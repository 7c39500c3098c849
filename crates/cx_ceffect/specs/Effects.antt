-- Which lexemes spell an effect: what stands whole where C has expressions with side effects.
use Rattle.std.specs.Prelude.{◌≡◌, ℕ, pos, List, [], ◌∷◌, ◌++◌, Option, Some, None}
use Rattle.cx_base.specs.declared.span.Span.{Span}
use Rattle.cx_ctree.specs.declared.expr.Binary.{Binary}
use Rattle.cx_ctree.specs.declared.expr.Binary.TheVariants as b
use Rattle.cx_ctree.specs.Conversions.{signed_int}
use Rattle.cx_ctree.specs.Types.{TypeTree, void}
use Rattle.cx_ctree.specs.Exprs.{ExprTree, node, num, CallTree, RhsTree, value, call, EffectTree, set, update, call_alone, value_alone}
use Rattle.cx_cword.specs.declared.word.Punctuator.{Punctuator}
use Rattle.cx_cword.specs.declared.word.Punctuator.TheVariants as p
use Rattle.cx_cword.specs.declared.lexeme.Lexeme.{Lexeme}
use Rattle.cx_cword.specs.Reading.{Is, IsName, span_of}
use Rattle.cx_cname.specs.Known.{Known}
use Rattle.cx_cexpr.specs.Expressions.{IsType, IsCond, IsUnary, IsPostfix}

-- ---- calls and right sides

-- arguments, at least one
pub data AreArguments (env : Known) : List Lexeme → List ExprTree → Type 0 where
  last_argument : {a : List Lexeme} {x : ExprTree} → IsCond env a x → AreArguments env a (x ∷ [])
  also_argument : {a c : List Lexeme} {x : ExprTree} {xs : List ExprTree} (o : Lexeme) → IsCond env a x → Is p.Comma o → AreArguments env c xs → AreArguments env (a ++ o ∷ c) (x ∷ xs)

-- a call of a function by its name (C11 6.5.2.2)
pub data IsCall (env : Known) : List Lexeme → CallTree → Type 0 where
  call_alone_of : (o m c : Lexeme) (n : ℕ) → IsName n o → Is p.OpenParen m → Is p.CloseParen c → IsCall env (o ∷ m ∷ c ∷ []) (record { span = span_of (o ∷ m ∷ c ∷ []); name = n; args = [] })
  call_with : {a : List Lexeme} {xs : List ExprTree} (o m c : Lexeme) (n : ℕ) → IsName n o → Is p.OpenParen m → AreArguments env a xs → Is p.CloseParen c
      → IsCall env (o ∷ m ∷ a ++ c ∷ []) (record { span = span_of (o ∷ m ∷ a ++ c ∷ []); name = n; args = xs })

-- an expression, or a call whose result may be cast
pub data IsRhs (env : Known) : List Lexeme → RhsTree → Type 0 where
  rhs_value : {a : List Lexeme} {x : ExprTree} → IsCond env a x → IsRhs env a (value x)
  rhs_call : {a : List Lexeme} {x : CallTree} → IsCall env a x → IsRhs env a (call x None)
  rhs_cast : {a c : List Lexeme} {t : TypeTree} {x : CallTree} (o m : Lexeme) → Is p.OpenParen o → IsType env a t → Is p.CloseParen m → IsCall env c x → IsRhs env (o ∷ a ++ m ∷ c) (call x (Some t))

-- ---- effects (C11 6.5.16, 6.5.2.4, 6.5.3.1)

-- the operator of a compound assignment
abbrev pub assigned_by : Punctuator → Option Binary
assigned_by p.MulAssign = Some b.Mul
assigned_by p.DivAssign = Some b.Div
assigned_by p.RemAssign = Some b.Rem
assigned_by p.AddAssign = Some b.Add
assigned_by p.SubAssign = Some b.Sub
assigned_by p.ShlAssign = Some b.Shl
assigned_by p.ShrAssign = Some b.Shr
assigned_by p.AndAssign = Some b.BitAnd
assigned_by p.XorAssign = Some b.BitXor
assigned_by p.OrAssign = Some b.BitOr
assigned_by _ = None

-- the operator that ++ or -- stands for
abbrev pub stepped_by : Punctuator → Option Binary
stepped_by p.Increment = Some b.Add
stepped_by p.Decrement = Some b.Sub
stepped_by _ = None

-- the number 1 that ++ and -- add and take away, at the place of the whole
abbrev pub one : Span → ExprTree
one s = node s void (num (pos 1) signed_int)

pub data IsEffect (env : Known) : List Lexeme → EffectTree → Type 0 where
  assigned : {a c : List Lexeme} {x : ExprTree} {r : RhsTree} (o : Lexeme) → IsUnary env a x → Is p.Assign o → IsRhs env c r → IsEffect env (a ++ o ∷ c) (set x r (span_of (a ++ o ∷ c)))
  updated : {a c : List Lexeme} {x y : ExprTree} (o : Lexeme) (mark : Punctuator) (op : Binary) → IsUnary env a x → Is mark o → assigned_by mark ≡ Some op → IsCond env c y
      → IsEffect env (a ++ o ∷ c) (update op x y (span_of (a ++ o ∷ c)))
  stepped_after : {a : List Lexeme} {x : ExprTree} (o : Lexeme) (mark : Punctuator) (op : Binary) → IsPostfix env a x → Is mark o → stepped_by mark ≡ Some op
      → IsEffect env (a ++ o ∷ []) (update op x (one (span_of (a ++ o ∷ []))) (span_of (a ++ o ∷ [])))
  stepped_before : {a : List Lexeme} {x : ExprTree} (o : Lexeme) (mark : Punctuator) (op : Binary) → Is mark o → stepped_by mark ≡ Some op → IsUnary env a x
      → IsEffect env (o ∷ a) (update op x (one (span_of (o ∷ a))) (span_of (o ∷ a)))
  called : {a : List Lexeme} {x : CallTree} → IsCall env a x → IsEffect env a (call_alone x)
  evaluated : {a : List Lexeme} {x : ExprTree} → IsCond env a x → IsEffect env a (value_alone x)

-- effects with commas between them, at least one
pub data AreEffects (env : Known) : List Lexeme → List EffectTree → Type 0 where
  last_effect : {a : List Lexeme} {e : EffectTree} → IsEffect env a e → AreEffects env a (e ∷ [])
  also_effect : {a c : List Lexeme} {e : EffectTree} {es : List EffectTree} (o : Lexeme) → IsEffect env a e → Is p.Comma o → AreEffects env c es → AreEffects env (a ++ o ∷ c) (e ∷ es)
