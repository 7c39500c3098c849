-- What a lexeme can be at each place of a type or an expression.
use Rattle.std.specs.Prelude.{ℕ, Bool, true, false, Option, Some, None}
use Rattle.cx_ctree.specs.declared.expr.Binary.{Binary}
use Rattle.cx_ctree.specs.declared.expr.Unary.TheVariants as u
use Rattle.cx_ctree.specs.Exprs as e
use Rattle.cx_ctree.specs.Exprs.{ExprTree, ExprKindTree}
use Rattle.cx_cword.specs.declared.word.Keyword.{Keyword}
use Rattle.cx_cword.specs.declared.word.Keyword.TheVariants as k
use Rattle.cx_cword.specs.declared.word.Punctuator.{Punctuator}
use Rattle.cx_cword.specs.declared.word.Punctuator.TheVariants as p
use Rattle.cx_cword.specs.declared.lexeme.LexemeKind.{LexemeKind}
use Rattle.cx_cword.specs.declared.lexeme.LexemeKind.TheVariants as l
use Rattle.cx_cexpr.specs.declared.kinds.IntWord.{IntWord}
use Rattle.cx_cexpr.specs.declared.kinds.IntWord.TheVariants as w
use Rattle.cx_cexpr.specs.declared.kinds.Base.{Base}
use Rattle.cx_cexpr.specs.declared.kinds.Base.TheVariants as base
use Rattle.cx_cexpr.specs.declared.kinds.Tail.{Tail}
use Rattle.cx_cexpr.specs.declared.kinds.Tail.TheVariants as tail
use Rattle.cx_cexpr.specs.declared.kinds.Prefix.{Prefix}
use Rattle.cx_cexpr.specs.declared.kinds.Prefix.TheVariants as prefix
use Rattle.cx_cexpr.specs.declared.kinds.Head.{Head}
use Rattle.cx_cexpr.specs.declared.kinds.Head.TheVariants as h
use Rattle.cx_cexpr.specs.declared.kinds.Suffix.{Suffix}
use Rattle.cx_cexpr.specs.declared.kinds.Suffix.TheVariants as s
use Rattle.cx_cexpr.specs.declared.kinds.Leaf.{Leaf}
use Rattle.cx_cexpr.specs.declared.kinds.Leaf.TheVariants as leaf
use Rattle.cx_cexpr.specs.Expressions.{op_of}

-- ---- types

abbrev pub int_word : Keyword → Option IntWord
int_word k.Char = Some w.Char
int_word k.Short = Some w.Short
int_word k.Int = Some w.Int
int_word k.Long = Some w.Long
int_word k.Signed = Some w.Signed
int_word k.Unsigned = Some w.Unsigned
int_word _ = None

abbrev pub word_of : LexemeKind → Option IntWord
word_of (l.Keyword word) = int_word word
word_of _ = None

abbrev pub base_int : Option IntWord → Base
base_int (Some word) = base.Word word
base_int None = base.Other

abbrev pub base_word : Keyword → Base
base_word k.Void = base.Void
base_word k.Struct = base.Tag false
base_word k.Union = base.Tag true
base_word k.Enum = base.Enum
base_word word = base_int (int_word word)

abbrev pub base_name : Option ℕ → Base
base_name (Some n) = base.Name n
base_name None = base.Other

abbrev pub base_of : LexemeKind → Base
base_of (l.Keyword word) = base_word word
base_of (l.Name n) = base_name n
base_of (l.Attributive n) = base_name n
base_of _ = base.Other

abbrev pub is_skipped : LexemeKind → Bool
is_skipped (l.Keyword k.Skipped) = true
is_skipped _ = false

abbrev pub tail_of : LexemeKind → Tail
tail_of (l.Keyword k.Skipped) = tail.Skipped
tail_of (l.Punctuator p.Star) = tail.Star
tail_of _ = tail.Other

-- ---- expressions

-- a binary operator with its level
abbrev pub op_at : LexemeKind → Option (ℕ × Binary)
op_at (l.Punctuator mark) = op_of mark
op_at _ = None

abbrev pub prefix_of : Punctuator → Head
prefix_of p.Plus = h.Prefix (prefix.Number u.Plus)
prefix_of p.Minus = h.Prefix (prefix.Number u.Neg)
prefix_of p.Tilde = h.Prefix (prefix.Number u.Compl)
prefix_of p.Bang = h.Prefix (prefix.Number u.Not)
prefix_of p.Star = h.Prefix prefix.Deref
prefix_of p.Ampersand = h.Prefix prefix.Address
prefix_of _ = h.Other

abbrev pub head_of : LexemeKind → Head
head_of (l.Keyword k.SizeOf) = h.SizeOf
head_of (l.Punctuator mark) = prefix_of mark
head_of _ = h.Other

-- the operand with the operator in front of it
abbrev pub with_prefix : Prefix → ExprTree → ExprKindTree
with_prefix (prefix.Number op) x = e.unary op x
with_prefix prefix.Deref x = e.deref x
with_prefix prefix.Address x = e.address x

abbrev pub suffix_by : Punctuator → Option Suffix
suffix_by p.OpenBracket = Some s.Index
suffix_by p.Dot = Some (s.Member false)
suffix_by p.Arrow = Some (s.Member true)
suffix_by _ = None

abbrev pub suffix_of : LexemeKind → Option Suffix
suffix_of (l.Punctuator mark) = suffix_by mark
suffix_of _ = None

-- a member of a value, or of what a pointer points to
abbrev pub with_member : Bool → ExprTree → ℕ → ExprKindTree
with_member false x n = e.member x n
with_member true x n = e.arrow x n

abbrev pub leaf_name : Option ℕ → Leaf
leaf_name (Some n) = leaf.Name n
leaf_name None = leaf.Other

abbrev pub leaf_of : LexemeKind → Leaf
leaf_of (l.Constant v t) = leaf.Number v t
leaf_of (l.Name n) = leaf_name n
leaf_of (l.Attributive n) = leaf_name n
leaf_of (l.Punctuator p.OpenParen) = leaf.Open
leaf_of _ = leaf.Other
