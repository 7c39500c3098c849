-- Which lexemes spell a type without a declaration (C11 6.7.7), and which an expression (C11 6.5), among the names that are known.
use Rattle.std.specs.Prelude.{◌≡◌, ℕ, zero, suc, ℤ, Bool, true, false, List, [], ◌∷◌, ◌++◌, Option, Some, None}
use Rattle.cx_base.specs.declared.number.CInt.{CInt}
use Rattle.cx_ctree.specs.declared.expr.Binary.{Binary}
use Rattle.cx_ctree.specs.declared.expr.Binary.TheVariants as b
use Rattle.cx_ctree.specs.declared.expr.Unary.TheVariants as u
use Rattle.cx_ctree.specs.Conversions.{signed_int}
use Rattle.cx_ctree.specs.Types.{TypeTree, void, int, pointer, tag}
use Rattle.cx_ctree.specs.Exprs as e
use Rattle.cx_ctree.specs.Exprs.{ExprTree, ExprKindTree}
use Rattle.cx_cword.specs.declared.word.Keyword.{Keyword}
use Rattle.cx_cword.specs.declared.word.Keyword.TheVariants as k
use Rattle.cx_cword.specs.declared.word.Punctuator.{Punctuator}
use Rattle.cx_cword.specs.declared.word.Punctuator.TheVariants as p
use Rattle.cx_cword.specs.declared.lexeme.Lexeme.{Lexeme}
use Rattle.cx_cword.specs.declared.lexeme.LexemeKind.TheVariants as l
use Rattle.cx_cword.specs.Reading.{Is, IsWord, IsName, span_of}
use Rattle.cx_cexpr.specs.IntWords.{AreIntWords}
use Rattle.cx_cname.specs.Known.{Known, value_of, names_type, tag_place, HasKind, names_enum}

-- ---- types

-- words that are passed over beside a type
pub data AreSkipped : List Lexeme → Type 0 where
  no_skip : AreSkipped []
  also_skip : {os : List Lexeme} (o : Lexeme) → IsWord k.Skipped o → AreSkipped os → AreSkipped (o ∷ os)

-- the word struct, where it is false, or union
abbrev pub tag_word : Bool → Keyword
tag_word false = k.Struct
tag_word true = k.Union

-- the words of a type that is declared before
pub data IsBase (env : Known) : List Lexeme → TypeTree → Type 0 where
  void_word : (o : Lexeme) → IsWord k.Void o → IsBase env (o ∷ []) void
  int_words : {os : List Lexeme} (t : CInt) → AreIntWords os t → IsBase env os (int t)
  type_name : (o : Lexeme) (n : ℕ) (t : TypeTree) → IsName n o → value_of n env.typedefs ≡ Some t → IsBase env (o ∷ []) t
  tag_name : (o m : Lexeme) (n at : ℕ) (union : Bool) → IsWord (tag_word union) o → IsName n m → tag_place env n ≡ Some at → HasKind env at union → IsBase env (o ∷ m ∷ []) (tag at)
  enum_name : (o m : Lexeme) (n : ℕ) → IsWord k.Enum o → IsName n m → names_enum env n ≡ true → IsBase env (o ∷ m ∷ []) (int signed_int)

pub data IsType (env : Known) : List Lexeme → TypeTree → Type 0 where
  type_base : {a b c : List Lexeme} {t : TypeTree} → AreSkipped a → IsBase env b t → AreSkipped c → IsType env (a ++ b ++ c) t
  type_pointer : {a b : List Lexeme} {t : TypeTree} (o : Lexeme) → IsType env a t → Is p.Star o → AreSkipped b → IsType env (a ++ o ∷ b) (pointer t)

-- ---- expressions

-- a binary operator with its level (C11 6.5.5 to 6.5.14): 1 binds most
abbrev pub op_of : Punctuator → Option (ℕ × Binary)
op_of p.Star = Some (1, b.Mul)
op_of p.Slash = Some (1, b.Div)
op_of p.Percent = Some (1, b.Rem)
op_of p.Plus = Some (2, b.Add)
op_of p.Minus = Some (2, b.Sub)
op_of p.Shl = Some (3, b.Shl)
op_of p.Shr = Some (3, b.Shr)
op_of p.Less = Some (4, b.Lt)
op_of p.Greater = Some (4, b.Gt)
op_of p.LessEqual = Some (4, b.Le)
op_of p.GreaterEqual = Some (4, b.Ge)
op_of p.Equal = Some (5, b.Eq)
op_of p.NotEqual = Some (5, b.Ne)
op_of p.Ampersand = Some (6, b.BitAnd)
op_of p.Caret = Some (7, b.BitXor)
op_of p.Bar = Some (8, b.BitOr)
op_of p.AndAnd = Some (9, b.And)
op_of p.OrOr = Some (10, b.Or)
op_of _ = None

-- a unary operator in front of an operand (C11 6.5.3)
abbrev pub prefixed_by : Punctuator → ExprTree → Option ExprKindTree
prefixed_by p.Plus x = Some (e.unary u.Plus x)
prefixed_by p.Minus x = Some (e.unary u.Neg x)
prefixed_by p.Tilde x = Some (e.unary u.Compl x)
prefixed_by p.Bang x = Some (e.unary u.Not x)
prefixed_by p.Star x = Some (e.deref x)
prefixed_by p.Ampersand x = Some (e.address x)
prefixed_by _ x = None

-- a node of an expression that these lexemes spell, whose type is not known yet
abbrev pub untyped : List Lexeme → ExprKindTree → ExprTree
untyped os x = e.node (span_of os) void x

mutual
  -- a conditional expression (C11 6.5.15)
  pub data IsCond (env : Known) : List Lexeme → ExprTree → Type 0 where
    unconditional : {os : List Lexeme} {x : ExprTree} → IsBinary env 10 os x → IsCond env os x
    conditional : {a c d : List Lexeme} {x y z : ExprTree} (q o : Lexeme) → IsBinary env 10 a x → Is p.Question q → IsCond env c y → Is p.Colon o → IsCond env d z
        → IsCond env (a ++ q ∷ c ++ o ∷ d) (untyped (a ++ q ∷ c ++ o ∷ d) (e.cond x y z))

  -- binary operators up to a level, which group to the left
  pub data IsBinary (env : Known) : ℕ → List Lexeme → ExprTree → Type 0 where
    operand : {os : List Lexeme} {x : ExprTree} → IsCast env os x → IsBinary env zero os x
    lower : {n : ℕ} {os : List Lexeme} {x : ExprTree} → IsBinary env n os x → IsBinary env (suc n) os x
    joined : {n : ℕ} {a c : List Lexeme} {x y : ExprTree} (o : Lexeme) (mark : Punctuator) (op : Binary) → IsBinary env (suc n) a x → Is mark o → op_of mark ≡ Some (suc n, op) → IsBinary env n c y
        → IsBinary env (suc n) (a ++ o ∷ c) (untyped (a ++ o ∷ c) (e.binary op x y))

  -- (C11 6.5.4)
  pub data IsCast (env : Known) : List Lexeme → ExprTree → Type 0 where
    no_cast : {os : List Lexeme} {x : ExprTree} → IsUnary env os x → IsCast env os x
    casted : {a c : List Lexeme} {t : TypeTree} {x : ExprTree} (o m : Lexeme) → Is p.OpenParen o → IsType env a t → Is p.CloseParen m → IsCast env c x
        → IsCast env (o ∷ a ++ m ∷ c) (untyped (o ∷ a ++ m ∷ c) (e.cast t x))

  -- (C11 6.5.3)
  pub data IsUnary (env : Known) : List Lexeme → ExprTree → Type 0 where
    no_prefix : {os : List Lexeme} {x : ExprTree} → IsPostfix env os x → IsUnary env os x
    prefixed : {os : List Lexeme} {x : ExprTree} (o : Lexeme) (mark : Punctuator) (y : ExprKindTree) → Is mark o → IsCast env os x → prefixed_by mark x ≡ Some y
        → IsUnary env (o ∷ os) (untyped (o ∷ os) y)
    size_of_value : {os : List Lexeme} {x : ExprTree} (o : Lexeme) → IsWord k.SizeOf o → IsUnary env os x → IsUnary env (o ∷ os) (untyped (o ∷ os) (e.size_of_expr x))
    size_of_type : {os : List Lexeme} {t : TypeTree} (o m c : Lexeme) → IsWord k.SizeOf o → Is p.OpenParen m → IsType env os t → Is p.CloseParen c
        → IsUnary env (o ∷ m ∷ os ++ c ∷ []) (untyped (o ∷ m ∷ os ++ c ∷ []) (e.size_of t))

  -- (C11 6.5.2)
  pub data IsPostfix (env : Known) : List Lexeme → ExprTree → Type 0 where
    no_suffix : {os : List Lexeme} {x : ExprTree} → IsPrimary env os x → IsPostfix env os x
    indexed : {a c : List Lexeme} {x y : ExprTree} (o m : Lexeme) → IsPostfix env a x → Is p.OpenBracket o → IsCond env c y → Is p.CloseBracket m
        → IsPostfix env (a ++ o ∷ c ++ m ∷ []) (untyped (a ++ o ∷ c ++ m ∷ []) (e.index x y))
    member_of : {a : List Lexeme} {x : ExprTree} (o m : Lexeme) (n : ℕ) → IsPostfix env a x → Is p.Dot o → IsName n m
        → IsPostfix env (a ++ o ∷ m ∷ []) (untyped (a ++ o ∷ m ∷ []) (e.member x n))
    member_at : {a : List Lexeme} {x : ExprTree} (o m : Lexeme) (n : ℕ) → IsPostfix env a x → Is p.Arrow o → IsName n m
        → IsPostfix env (a ++ o ∷ m ∷ []) (untyped (a ++ o ∷ m ∷ []) (e.arrow x n))

  -- (C11 6.5.1); the name of a type is no expression
  pub data IsPrimary (env : Known) : List Lexeme → ExprTree → Type 0 where
    named : (o : Lexeme) (n : ℕ) → IsName n o → names_type env n ≡ false → IsPrimary env (o ∷ []) (untyped (o ∷ []) (e.name n))
    number : (o : Lexeme) (v : ℤ) (t : CInt) → o.kind ≡ l.Constant v t → IsPrimary env (o ∷ []) (untyped (o ∷ []) (e.num v t))
    inside : {os : List Lexeme} {x : ExprTree} (o m : Lexeme) → Is p.OpenParen o → IsCond env os x → Is p.CloseParen m → IsPrimary env (o ∷ os ++ m ∷ []) x
