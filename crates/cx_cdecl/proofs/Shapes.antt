-- What a lexeme is that is taken at a place of a declaration.
use Rattle.std.proofs.Common.{◌≡◌, Bool, true, false, Option, Some, None, refl, sym, ap, ◌∙◌}
use Rattle.cx_cword.specs.declared.word.Keyword.{Keyword}
use Rattle.cx_cword.specs.declared.word.Keyword.TheVariants as k
use Rattle.cx_cword.specs.declared.word.Punctuator.{Punctuator}
use Rattle.cx_cword.specs.declared.word.Punctuator.TheVariants as p
use Rattle.cx_cword.specs.declared.lexeme.LexemeKind.{LexemeKind}
use Rattle.cx_cword.specs.declared.lexeme.LexemeKind.TheVariants as l
use Rattle.cx_cexpr.specs.Expressions.{tag_word}
use Rattle.cx_cword.specs.declared.mark.Mark.{Mark}
use Rattle.cx_cword.specs.declared.mark.Mark.TheVariants as m
use Rattle.cx_cdecl.specs.declared.kinds.Head.TheVariants as h
use Rattle.cx_cdecl.specs.declared.kinds.Bracket.TheVariants as b
use Rattle.cx_cdecl.specs.Declarations.{Beside, also_said, partner, is_plain, is_void_word}
use Rattle.cx_cdecl.specs.Kinds.{also_says, is_attribute, is_after, head_word, head_of, bracket_by, bracket_of}
use Rattle.cx_cword.proofs.Marks.{kind_of}

-- ---- words

pub says_is : (kind : LexemeKind) (s r : Beside) → also_says kind s ≡ Some r → (w : Keyword) × (kind ≡ l.Keyword w) × (also_said w s ≡ Some r)
says_is (l.Keyword w) s r e = (w, refl, e)
says_is (l.Punctuator q) s r e = absurd cc
says_is (l.Constant v t) s r e = absurd cc
says_is (l.Name n) s r e = absurd cc
says_is (l.Attributive n) s r e = absurd cc
says_is l.Other s r e = absurd cc

pub attribute_is : (kind : LexemeKind) → is_attribute kind ≡ true → kind ≡ l.Keyword k.Attribute
attribute_is (l.Keyword k.Attribute) e = refl
attribute_is _ e = absurd cc

pub after_is : (kind : LexemeKind) → is_after kind ≡ true → (w : Keyword) × (kind ≡ l.Keyword w) × (is_after (l.Keyword w) ≡ true)
after_is (l.Keyword w) e = (w, refl, e)
after_is (l.Punctuator q) e = absurd cc
after_is (l.Constant v t) e = absurd cc
after_is (l.Name n) e = absurd cc
after_is (l.Attributive n) e = absurd cc
after_is l.Other e = absurd cc

pub void_is : (kind : LexemeKind) → is_void_word kind ≡ true → kind ≡ l.Keyword k.Void
void_is (l.Keyword k.Void) e = refl
void_is _ e = absurd cc

head_word_record : (w : Keyword) (union : Bool) → head_word w ≡ h.Record union → w ≡ tag_word union
head_word_record k.Struct false e = refl
head_word_record k.Struct true e = absurd cc
head_word_record k.Union false e = absurd cc
head_word_record k.Union true e = refl
head_word_record _ _ e = absurd cc

pub head_record : (kind : LexemeKind) (union : Bool) → head_of kind ≡ h.Record union → kind ≡ l.Keyword (tag_word union)
head_record (l.Keyword w) union e = ap l.Keyword (head_word_record w union e)
head_record (l.Punctuator q) union e = absurd cc
head_record (l.Constant v t) union e = absurd cc
head_record (l.Name n) union e = absurd cc
head_record (l.Attributive n) union e = absurd cc
head_record l.Other union e = absurd cc

pub head_enum : (kind : LexemeKind) → head_of kind ≡ h.Enum → kind ≡ l.Keyword k.Enum
head_enum (l.Keyword k.Enum) e = refl
head_enum _ e = absurd cc

-- ---- what stands among attributes

-- the bracket that the mark is closes what the lexeme opens
pub record Closing (kind : LexemeKind) (mark : Mark) : Type 0 where
  pub close : Punctuator
  pub is : partner kind ≡ Some close
  pub same : kind_of mark ≡ l.Punctuator close

open_by : (q : Punctuator) (close : Mark) → bracket_by q ≡ b.Open close → Closing (l.Punctuator q) close
open_by p.OpenParen close e = let f : m.CloseParen ≡ close = cc in record { close = p.CloseParen; is = refl; same = ap kind_of (sym f) }
open_by p.OpenBracket close e = let f : m.CloseBracket ≡ close = cc in record { close = p.CloseBracket; is = refl; same = ap kind_of (sym f) }
open_by p.OpenBrace close e = let f : m.CloseBrace ≡ close = cc in record { close = p.CloseBrace; is = refl; same = ap kind_of (sym f) }
open_by _ close e = absurd cc

pub bracket_open : (kind : LexemeKind) (close : Mark) → bracket_of kind ≡ b.Open close → Closing kind close
bracket_open (l.Punctuator q) close e = open_by q close e
bracket_open (l.Keyword w) close e = absurd cc
bracket_open (l.Constant v t) close e = absurd cc
bracket_open (l.Name n) close e = absurd cc
bracket_open (l.Attributive n) close e = absurd cc
bracket_open l.Other close e = absurd cc

plain_by : (q : Punctuator) → bracket_by q ≡ b.Plain → is_plain (l.Punctuator q) ≡ true
plain_by p.OpenParen e = absurd cc
plain_by p.OpenBracket e = absurd cc
plain_by p.OpenBrace e = absurd cc
plain_by p.CloseParen e = absurd cc
plain_by p.CloseBracket e = absurd cc
plain_by p.CloseBrace e = absurd cc
plain_by _ e = refl

pub bracket_plain : (kind : LexemeKind) → bracket_of kind ≡ b.Plain → is_plain kind ≡ true
bracket_plain (l.Punctuator q) e = plain_by q e
bracket_plain (l.Keyword w) e = refl
bracket_plain (l.Constant v t) e = refl
bracket_plain (l.Name n) e = refl
bracket_plain (l.Attributive n) e = absurd cc
bracket_plain l.Other e = refl
