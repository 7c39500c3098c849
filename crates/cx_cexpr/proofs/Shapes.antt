-- What a lexeme is that is taken at a place.
use Rattle.std.proofs.Common.{◌≡◌, ℕ, Bool, true, false, Option, Some, None, refl, sym, ap, ◌∙◌}
use Rattle.std.specs.Prelude.{ℤ}
use Rattle.cx_base.specs.declared.number.CInt.{CInt}
use Rattle.cx_ctree.specs.Exprs.{ExprTree, ExprKindTree}
use Rattle.cx_ctree.specs.declared.expr.Binary.{Binary}
use Rattle.cx_cword.specs.declared.word.Keyword.{Keyword}
use Rattle.cx_cword.specs.declared.word.Keyword.TheVariants as k
use Rattle.cx_cword.specs.declared.word.Punctuator.{Punctuator}
use Rattle.cx_cword.specs.declared.word.Punctuator.TheVariants as p
use Rattle.cx_cword.specs.declared.lexeme.LexemeKind.{LexemeKind}
use Rattle.cx_cword.specs.declared.lexeme.LexemeKind.TheVariants as l
use Rattle.cx_cword.specs.Reading.{name_of}
use Rattle.cx_cexpr.specs.declared.kinds.IntWord.{IntWord}
use Rattle.cx_cexpr.specs.declared.kinds.Base.TheVariants as base
use Rattle.cx_cexpr.specs.declared.kinds.Tail.TheVariants as tail
use Rattle.cx_cword.specs.declared.mark.Mark.{Mark}
use Rattle.cx_cword.specs.declared.mark.Mark.TheVariants as m
use Rattle.cx_cexpr.specs.declared.kinds.Prefix.{Prefix}
use Rattle.cx_cexpr.specs.declared.kinds.Head.TheVariants as h
use Rattle.cx_cexpr.specs.declared.kinds.Suffix.TheVariants as s
use Rattle.cx_cexpr.specs.declared.kinds.Leaf.TheVariants as leaf
use Rattle.cx_cexpr.specs.Expressions.{op_of, prefixed_by, tag_word}
use Rattle.cx_cexpr.specs.Kinds.{int_word, word_of, base_int, base_word, base_name, base_of, is_skipped, tail_of, op_at, prefix_of, head_of, with_prefix, suffix_of, leaf_name, leaf_of}
use Rattle.cx_cword.specs.Marks.{fits}

-- ---- types

pub skipped_is : (kind : LexemeKind) → is_skipped kind ≡ true → kind ≡ l.Keyword k.Skipped
skipped_is (l.Keyword k.Skipped) e = refl
skipped_is _ e = absurd cc

pub tail_star : (kind : LexemeKind) → tail_of kind ≡ tail.Star → kind ≡ l.Punctuator p.Star
tail_star (l.Punctuator p.Star) e = refl
tail_star (l.Keyword k.Skipped) e = absurd cc
tail_star _ e = absurd cc

pub tail_skipped : (kind : LexemeKind) → tail_of kind ≡ tail.Skipped → kind ≡ l.Keyword k.Skipped
tail_skipped (l.Keyword k.Skipped) e = refl
tail_skipped (l.Punctuator p.Star) e = absurd cc
tail_skipped _ e = absurd cc

base_int_is : (o : Option IntWord) (u : IntWord) → base_int o ≡ base.Word u → o ≡ Some u
base_int_is (Some v) u e = cc
base_int_is None u e = absurd cc

word_by : (word : Keyword) (u : IntWord) → base_word word ≡ base.Word u → int_word word ≡ Some u
word_by k.Void u e = absurd cc
word_by k.Struct u e = absurd cc
word_by k.Union u e = absurd cc
word_by k.Enum u e = absurd cc
word_by word u e = base_int_is (int_word word) u e

name_no_word : (o : Option ℕ) (u : IntWord) → base_name o ≡ base.Word u → word_of (l.Name o) ≡ Some u
name_no_word (Some n) u e = absurd cc
name_no_word None u e = absurd cc

pub base_word_is : (kind : LexemeKind) (u : IntWord) → base_of kind ≡ base.Word u → word_of kind ≡ Some u
base_word_is (l.Keyword word) u e = word_by word u e
base_word_is (l.Name o) u e = name_no_word o u e
base_word_is (l.Attributive o) u e = name_no_word o u e
base_word_is _ u e = absurd cc

pub base_void : (kind : LexemeKind) → base_of kind ≡ base.Void → kind ≡ l.Keyword k.Void
base_void (l.Keyword k.Void) e = refl
base_void (l.Name (Some n)) e = absurd cc
base_void (l.Name None) e = absurd cc
base_void (l.Attributive (Some n)) e = absurd cc
base_void (l.Attributive None) e = absurd cc
base_void _ e = absurd cc

pub base_enum : (kind : LexemeKind) → base_of kind ≡ base.Enum → kind ≡ l.Keyword k.Enum
base_enum (l.Keyword k.Enum) e = refl
base_enum (l.Name (Some n)) e = absurd cc
base_enum (l.Name None) e = absurd cc
base_enum (l.Attributive (Some n)) e = absurd cc
base_enum (l.Attributive None) e = absurd cc
base_enum _ e = absurd cc

pub base_tag : (kind : LexemeKind) (u : Bool) → base_of kind ≡ base.Tag u → kind ≡ l.Keyword (tag_word u)
base_tag (l.Keyword k.Struct) u e = let f : false ≡ u = cc in ap (λ v. l.Keyword (tag_word v)) f
base_tag (l.Keyword k.Union) u e = let f : true ≡ u = cc in ap (λ v. l.Keyword (tag_word v)) f
base_tag (l.Name (Some n)) u e = absurd cc
base_tag (l.Name None) u e = absurd cc
base_tag (l.Attributive (Some n)) u e = absurd cc
base_tag (l.Attributive None) u e = absurd cc
base_tag _ u e = absurd cc

base_name_is : (o : Option ℕ) (n : ℕ) → base_name o ≡ base.Name n → o ≡ Some n
base_name_is (Some v) n e = cc
base_name_is None n e = absurd cc

pub base_named : (kind : LexemeKind) (n : ℕ) → base_of kind ≡ base.Name n → name_of kind ≡ Some n
base_named (l.Name o) n e = base_name_is o n e
base_named (l.Attributive o) n e = base_name_is o n e
base_named (l.Keyword k.Void) n e = absurd cc
base_named _ n e = absurd cc

pub name_base : (kind : LexemeKind) (n : ℕ) → name_of kind ≡ Some n → base_of kind ≡ base.Name n
name_base (l.Name o) n e = ap base_name e
name_base (l.Attributive o) n e = ap base_name e
name_base _ n e = absurd cc

pub word_base : (kind : LexemeKind) (u : IntWord) → word_of kind ≡ Some u → base_of kind ≡ base.Word u
word_base (l.Keyword k.Char) u e = cc
word_base (l.Keyword k.Short) u e = cc
word_base (l.Keyword k.Int) u e = cc
word_base (l.Keyword k.Long) u e = cc
word_base (l.Keyword k.Signed) u e = cc
word_base (l.Keyword k.Unsigned) u e = cc
word_base _ u e = absurd cc

pub tag_base : (kind : LexemeKind) (u : Bool) → kind ≡ l.Keyword (tag_word u) → base_of kind ≡ base.Tag u
tag_base kind false e = ap base_of e
tag_base kind true e = ap base_of e

pub name_not_skipped : (kind : LexemeKind) (n : ℕ) → name_of kind ≡ Some n → is_skipped kind ≡ false
name_not_skipped (l.Name o) n e = refl
name_not_skipped (l.Attributive o) n e = refl
name_not_skipped _ n e = absurd cc

-- ---- expressions

pub op_is : (kind : LexemeKind) (f : ℕ × Binary) → op_at kind ≡ Some f → (mark : Punctuator) × (kind ≡ l.Punctuator mark) × (op_of mark ≡ Some f)
op_is (l.Punctuator mark) f e = (mark, refl, e)
op_is _ f e = absurd cc

pub is_op : (kind : LexemeKind) (mark : Punctuator) (f : ℕ × Binary) → kind ≡ l.Punctuator mark → op_of mark ≡ Some f → op_at kind ≡ Some f
is_op kind mark f is e = ap op_at is ∙ e

prefix_same : (f g : Prefix) → h.Prefix f ≡ h.Prefix g → f ≡ g
prefix_same f g e = cc

prefix_is : (mark : Punctuator) (f : Prefix) (x : ExprTree) → prefix_of mark ≡ h.Prefix f → prefixed_by mark x ≡ Some (with_prefix f x)
prefix_is p.Plus f x e = ap (λ g. Some (with_prefix g x)) (prefix_same _ f e)
prefix_is p.Minus f x e = ap (λ g. Some (with_prefix g x)) (prefix_same _ f e)
prefix_is p.Tilde f x e = ap (λ g. Some (with_prefix g x)) (prefix_same _ f e)
prefix_is p.Bang f x e = ap (λ g. Some (with_prefix g x)) (prefix_same _ f e)
prefix_is p.Star f x e = ap (λ g. Some (with_prefix g x)) (prefix_same _ f e)
prefix_is p.Ampersand f x e = ap (λ g. Some (with_prefix g x)) (prefix_same _ f e)
prefix_is _ f x e = absurd cc

pub head_prefix : (kind : LexemeKind) (f : Prefix) (x : ExprTree) → head_of kind ≡ h.Prefix f → (mark : Punctuator) × (kind ≡ l.Punctuator mark) × (prefixed_by mark x ≡ Some (with_prefix f x))
head_prefix (l.Punctuator mark) f x e = (mark, refl, prefix_is mark f x e)
head_prefix (l.Keyword k.SizeOf) f x e = absurd cc
head_prefix _ f x e = absurd cc

pub head_size : (kind : LexemeKind) → head_of kind ≡ h.SizeOf → kind ≡ l.Keyword k.SizeOf
head_size (l.Keyword k.SizeOf) e = refl
head_size (l.Punctuator mark) e = no_size mark e
  where
    no_size : (mark : Punctuator) → prefix_of mark ≡ h.SizeOf → l.Punctuator mark ≡ l.Keyword k.SizeOf
    no_size p.Plus e = absurd cc
    no_size p.Minus e = absurd cc
    no_size p.Tilde e = absurd cc
    no_size p.Bang e = absurd cc
    no_size p.Star e = absurd cc
    no_size p.Ampersand e = absurd cc
    no_size _ e = absurd cc
head_size _ e = absurd cc

-- the operator in front of an operand, which the lexeme is
pub prefixed_is : (mark : Punctuator) (x : ExprTree) (y : ExprKindTree) → prefixed_by mark x ≡ Some y → (f : Prefix) × (prefix_of mark ≡ h.Prefix f) × (with_prefix f x ≡ y)
prefixed_is p.Plus x y e = (_, refl, (cc))
prefixed_is p.Minus x y e = (_, refl, (cc))
prefixed_is p.Tilde x y e = (_, refl, (cc))
prefixed_is p.Bang x y e = (_, refl, (cc))
prefixed_is p.Star x y e = (_, refl, (cc))
prefixed_is p.Ampersand x y e = (_, refl, (cc))
prefixed_is _ x y e = absurd cc

pub prefix_no_paren : (mark : Punctuator) (f : Prefix) → prefix_of mark ≡ h.Prefix f → fits m.OpenParen (l.Punctuator mark) ≡ false
prefix_no_paren p.OpenParen f e = absurd cc
prefix_no_paren p.CloseParen f e = refl
prefix_no_paren p.CloseBracket f e = refl
prefix_no_paren p.Question f e = refl
prefix_no_paren p.Colon f e = refl
prefix_no_paren _ f e = refl

pub suffix_index : (kind : LexemeKind) → suffix_of kind ≡ Some s.Index → kind ≡ l.Punctuator p.OpenBracket
suffix_index (l.Punctuator p.OpenBracket) e = refl
suffix_index (l.Punctuator p.Dot) e = absurd cc
suffix_index (l.Punctuator p.Arrow) e = absurd cc
suffix_index _ e = absurd cc

abbrev pub selector : Bool → Punctuator
selector false = p.Dot
selector true = p.Arrow

pub suffix_member : (kind : LexemeKind) (arrow : Bool) → suffix_of kind ≡ Some (s.Member arrow) → kind ≡ l.Punctuator (selector arrow)
suffix_member (l.Punctuator p.OpenBracket) arrow e = absurd cc
suffix_member (l.Punctuator p.Dot) arrow e = let f : false ≡ arrow = cc in ap (λ v. l.Punctuator (selector v)) f
suffix_member (l.Punctuator p.Arrow) arrow e = let f : true ≡ arrow = cc in ap (λ v. l.Punctuator (selector v)) f
suffix_member _ arrow e = absurd cc

leaf_name_is : (o : Option ℕ) (n : ℕ) → leaf_name o ≡ leaf.Name n → o ≡ Some n
leaf_name_is (Some v) n e = cc
leaf_name_is None n e = absurd cc

pub leaf_named : (kind : LexemeKind) (n : ℕ) → leaf_of kind ≡ leaf.Name n → name_of kind ≡ Some n
leaf_named (l.Name o) n e = leaf_name_is o n e
leaf_named (l.Attributive o) n e = leaf_name_is o n e
leaf_named (l.Punctuator p.OpenParen) n e = absurd cc
leaf_named _ n e = absurd cc

pub name_leaf : (kind : LexemeKind) (n : ℕ) → name_of kind ≡ Some n → leaf_of kind ≡ leaf.Name n
name_leaf (l.Name o) n e = ap leaf_name e
name_leaf (l.Attributive o) n e = ap leaf_name e
name_leaf _ n e = absurd cc

pub name_head : (kind : LexemeKind) (n : ℕ) → name_of kind ≡ Some n → head_of kind ≡ h.Other
name_head (l.Name o) n e = refl
name_head (l.Attributive o) n e = refl
name_head _ n e = absurd cc

pub name_no_paren : (kind : LexemeKind) (n : ℕ) → name_of kind ≡ Some n → fits m.OpenParen kind ≡ false
name_no_paren (l.Name o) n e = refl
name_no_paren (l.Attributive o) n e = refl
name_no_paren _ n e = absurd cc

pub leaf_open : (kind : LexemeKind) → leaf_of kind ≡ leaf.Open → kind ≡ l.Punctuator p.OpenParen
leaf_open (l.Punctuator p.OpenParen) e = refl
leaf_open (l.Name (Some n)) e = absurd cc
leaf_open (l.Name None) e = absurd cc
leaf_open (l.Attributive (Some n)) e = absurd cc
leaf_open (l.Attributive None) e = absurd cc
leaf_open _ e = absurd cc

pub leaf_number : (kind : LexemeKind) (v : ℤ) (t : CInt) → leaf_of kind ≡ leaf.Number v t → kind ≡ l.Constant v t
leaf_number (l.Constant u s) v t e = cc
leaf_number (l.Punctuator p.OpenParen) v t e = absurd cc
leaf_number (l.Name (Some n)) v t e = absurd cc
leaf_number (l.Name None) v t e = absurd cc
leaf_number (l.Attributive (Some n)) v t e = absurd cc
leaf_number (l.Attributive None) v t e = absurd cc
leaf_number _ v t e = absurd cc
