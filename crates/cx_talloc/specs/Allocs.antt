-- Which lexemes spell an allocator.
use Rattle.std.specs.Prelude.{◌≡◌, ℕ, ◌^◌, ℤ, pos, negsuc, Bool, true, false, nat_lt, List, [], ◌∷◌, ◌++◌, Option, Some, None, if◌then◌else◌}
use Rattle.cx_base.specs.declared.span.Span.{Span}
use Rattle.cx_cword.specs.declared.lexeme.LexemeKind.{LexemeKind}
use Rattle.cx_cword.specs.declared.lexeme.LexemeKind.TheVariants as cl
use Rattle.cx_cword.specs.declared.word.Punctuator.TheVariants as p
use Rattle.cx_cname.specs.Known.{Known}
use Rattle.cx_tsyn.specs.Words.{WordTree}
use Rattle.cx_tsyn.specs.Items.{SArgTree, number, param, over, AllocItemTree}
use Rattle.cx_tword.specs.declared.word.TypeWord.TheVariants as tw
use Rattle.cx_tword.specs.declared.lexeme.TypeLexeme.{TypeLexeme}
use Rattle.cx_tword.specs.declared.lexeme.TypeLexemeKind.{TypeLexemeKind}
use Rattle.cx_tword.specs.declared.lexeme.TypeLexemeKind.TheVariants as l
use Rattle.cx_tword.specs.Marks.{Is, IsWord, is_mark}
use Rattle.cx_reader.specs.Answers.{next_is}
use Rattle.cx_tlin.specs.Lexemes.{span_of}
use Rattle.cx_tlin.specs.Lins.{IsName, AreNames}
use Rattle.cx_tcell.specs.Cells.{InParentheses}
use Rattle.cx_tfunc.specs.Funcs.{IsFunctionName}
use Rattle.cx_tctype.specs.Pointees.{PointeeTree, IsCType}

-- a divisor is a number from 0 up to below 2^64, as each integer constant is
abbrev pub divisor_of : ℤ → Option ℕ
divisor_of (pos d) = if nat_lt d (2 ^ 64) then Some d else None
divisor_of (negsuc d) = None

abbrev pub divisor_kind : TypeLexemeKind → Option ℕ
divisor_kind (l.Number z) = divisor_of z
divisor_kind _ = None

-- a number, a parameter, or a parameter divided by a number
pub data IsArg (bytes : List ℕ) : List TypeLexeme → SArgTree → Type 0 where
  arg_number : (o : TypeLexeme) (z : ℤ) → o.kind ≡ l.Number z → IsArg bytes (o ∷ []) (number z)
  arg_param : {a : List TypeLexeme} {x : WordTree} → IsName bytes a x → IsArg bytes a (param x)
  arg_over : {a : List TypeLexeme} {x : WordTree} (s o : TypeLexeme) (d : ℕ) → IsName bytes a x → Is p.Slash s → divisor_kind o.kind ≡ Some d → IsArg bytes (a ++ s ∷ o ∷ []) (over x d o.span)

-- nothing, or a star and a name
pub data IsFactor (bytes : List ℕ) : List TypeLexeme → Option WordTree → Type 0 where
  no_factor : IsFactor bytes [] None
  a_factor : {a : List TypeLexeme} {x : WordTree} (o : TypeLexeme) → Is p.Star o → IsName bytes a x → IsFactor bytes (o ∷ a) (Some x)

-- nothing, or the word zero
pub data IsZero : List TypeLexeme → Bool → Type 0 where
  not_zero : IsZero [] false
  is_zero : (o : TypeLexeme) → IsWord tw.Zero o → IsZero (o ∷ []) true

-- ---- what an allocator consists of

pub record HeadTree : Type 0 where
  pub name : WordTree
  pub params : List WordTree

pub record PlacedTree : Type 0 where
  pub pointee : PointeeTree
  pub span : Span

pub record BlockTree : Type 0 where
  pub region : WordTree
  pub args : List SArgTree

pub record SizeTree : Type 0 where
  pub bytes : WordTree
  pub times : Option WordTree
  pub zero : Bool

-- the name of a function, and names in parentheses with commas between them, at least one
pub data IsHead (bytes : List ℕ) : List TypeLexeme → HeadTree → Type 0 where
  a_head : {v a : List TypeLexeme} {name : WordTree} {params : List WordTree} (e r : TypeLexeme) → IsFunctionName bytes v name → Is p.OpenParen e → AreNames bytes a params → Is p.CloseParen r → IsHead bytes (v ++ (e ∷ a ++ r ∷ [])) (record { name = name; params = params })

-- the name of a region, with arguments
pub data IsBlock (bytes : List ℕ) : List TypeLexeme → BlockTree → Type 0 where
  a_block : {c d : List TypeLexeme} {region : WordTree} {args : List SArgTree} → IsName bytes c region → InParentheses (IsArg bytes) d args → IsBlock bytes (c ++ d) (record { region = region; args = args })

-- a name, perhaps times another name, and perhaps the word zero
pub data IsSize (bytes : List ℕ) : List TypeLexeme → SizeTree → Type 0 where
  a_size : {f g h : List TypeLexeme} {size : WordTree} {times : Option WordTree} {zero : Bool} → IsName bytes f size → IsFactor bytes g times → IsZero h zero → IsSize bytes (f ++ (g ++ h)) (record { bytes = size; times = times; zero = zero })

abbrev pub AllocBody : Type 0
AllocBody = HeadTree × PlacedTree × BlockTree × SizeTree

-- the allocator that these lexemes spell
abbrev pub alloc_of : List TypeLexeme → AllocBody → AllocItemTree
alloc_of os x = record {
  span = span_of os;
  name = x.0.name;
  params = x.0.params;
  pointee = x.1.pointee.ctype;
  pointee_span = x.1.span;
  unknown_tag = x.1.pointee.unknown_tag;
  region = x.2.region;
  args = x.2.args;
  bytes = x.3.bytes;
  times = x.3.times;
  zero = x.3.zero;
}

abbrev pub kind_is_equals : LexemeKind → Bool
kind_is_equals (cl.Punctuator p.Assign) = true
kind_is_equals _ = false

-- an equals sign, behind a type of C
abbrev pub is_equals : TypeLexeme → Bool
is_equals o = kind_is_equals o.c_kind

-- the word alloc, a function with its parameters, the word for and a type of C, an equals sign and a region with
-- its arguments, the word bytes and how many bytes, and a semicolon
pub data IsAlloc (bytes : List ℕ) (env : Known) : List TypeLexeme → AllocItemTree → Type 0 where
  an_alloc : {a b c d : List TypeLexeme} {x : HeadTree} {t : PointeeTree} {y : BlockTree} {z : SizeTree} (o q i k s : TypeLexeme) → IsWord tw.Alloc o → IsHead bytes a x → IsWord tw.For q → IsCType env b t → is_equals i ≡ true → IsBlock bytes c y → IsWord tw.Bytes k → IsSize bytes d z → Is p.Semicolon s
      → IsAlloc bytes env (o ∷ a ++ (q ∷ b ++ (i ∷ c ++ (k ∷ d ++ s ∷ [])))) (alloc_of (o ∷ a ++ (q ∷ b ++ (i ∷ c ++ (k ∷ d ++ s ∷ [])))) (x, record { pointee = t; span = span_of b }, y, z))

-- no slash: a parameter may be divided
abbrev pub EndsArg : List TypeLexeme → Type 0
EndsArg os = next_is (is_mark p.Slash) os ≡ false
