-- Reading lexemes from left to right. The first number bounds the calls, the second the heights of trees.
use Rattle.std.specs.Prelude.{◌≡◌, ℕ, zero, suc, pred, ◌-◌, ◌≤◌, Bool, true, false, ◌&&◌, ◌==◌, List, [], ◌∷◌, length, Option, Some, None, Result, Ok, Err, option_map, nat_eq, nat_le, nat_lt, slice_get, if◌then◌else◌}
use mathlib.Core.Path.{refl}
use Rattle.std.specs.Borrow.{Bor}
use Rattle.cx_base.specs.declared.number.CInt.{CInt}
use Rattle.cx_ctree.specs.declared.expr.Binary.{Binary}
use Rattle.cx_ctree.specs.Conversions.{signed_int}
use Rattle.cx_ctree.specs.Types.{TypeTree, void, int, pointer, tag, type_tree}
use Rattle.cx_ctree.specs.Exprs as e
use Rattle.cx_ctree.specs.Exprs.{ExprTree, ExprKindTree, expr_tree}
use Rattle.cx_ctree.specs.Path.{type_path, expr_path}
use Rattle.cx_cword.specs.declared.lexeme.Lexeme.{Lexeme}
use Rattle.cx_cword.specs.declared.lexeme.LexemeKind.{LexemeKind}
use Rattle.cx_cword.specs.declared.reading.Stop.{Stop}
use Rattle.cx_cword.specs.Reading.{name_of, span_between, ◌>>=◌, at_lexeme}
use Rattle.cx_cname.specs.Known.{Known, value_of, names_type, tag_place, names_enum}
use Rattle.cx_cexpr.specs.declared.kinds.IntWord.{IntWord}
use Rattle.cx_cexpr.specs.declared.kinds.IntWord.TheVariants as w
use Rattle.cx_cexpr.specs.declared.kinds.Base.{Base}
use Rattle.cx_cexpr.specs.declared.kinds.Base.TheVariants as base
use Rattle.cx_cexpr.specs.declared.kinds.Tail.{Tail}
use Rattle.cx_cexpr.specs.declared.kinds.Tail.TheVariants as tail
use Rattle.cx_cword.specs.declared.mark.Mark.{Mark}
use Rattle.cx_cword.specs.declared.mark.Mark.TheVariants as m
use Rattle.cx_cexpr.specs.declared.kinds.Prefix.{Prefix}
use Rattle.cx_cexpr.specs.declared.kinds.Head.{Head}
use Rattle.cx_cexpr.specs.declared.kinds.Head.TheVariants as h
use Rattle.cx_cexpr.specs.declared.kinds.Suffix.{Suffix}
use Rattle.cx_cexpr.specs.declared.kinds.Suffix.TheVariants as s
use Rattle.cx_cexpr.specs.declared.kinds.Leaf.{Leaf}
use Rattle.cx_cexpr.specs.declared.kinds.Leaf.TheVariants as leaf
use Rattle.cx_cexpr.specs.declared.make.Read.{Read}
use Rattle.cx_cexpr.specs.declared.make.ReadType.{ReadType}
use Rattle.cx_cexpr.specs.declared.words.Words.{Words}
use Rattle.cx_cexpr.specs.declared.words.ReadWords.{ReadWords}
use Rattle.cx_cexpr.specs.declared.words.Passed.{Passed}
use Rattle.cx_cexpr.specs.IntWords.{Counts, no_word, is_listed}
use Rattle.cx_cexpr.specs.Kinds.{word_of, base_of, is_skipped, tail_of, op_at, head_of, with_prefix, suffix_of, with_member, leaf_of}
use Rattle.cx_cword.specs.Marks.{fits}

-- what was read, the place past its last lexeme, and the lexemes after it
pub record Got (A : Type 0) : Type 0 where
  pub tree : A
  pub past : ℕ
  pub rest : List Lexeme

abbrev pub got : Read → Got ExprTree
got r = record { tree = expr_tree r.tree; past = r.past; rest = r.rest.now }

abbrev pub got_type : ReadType → Got TypeTree
got_type r = record { tree = type_tree r.tree; past = r.past; rest = r.rest.now }

abbrev pub Measured : ℕ → Result Read Stop → Type 0
Measured left (Ok r) = (r.height ≡ expr_path (expr_tree r.tree)) × (r.height ≤ left)
Measured left (Err e) = Unit {0}

abbrev pub MeasuredType : ℕ → Result ReadType Stop → Type 0
MeasuredType left (Ok r) = (r.height ≡ type_path (type_tree r.tree)) × (r.height ≤ left)
MeasuredType left (Err e) = Unit {0}

-- what was read, where it is not too high
unfoldable pub low_type : ℕ → Got TypeTree → Option (Got TypeTree)
low_type d x = if nat_le (type_path x.tree) d then Some x else None

unfoldable pub made : ℕ → ExprTree → ℕ → List Lexeme → Option (Got ExprTree)
made d x past rest = if nat_le (expr_path x) d then Some (record { tree = x; past = past; rest = rest }) else None

-- the lexeme that is wanted, and then
abbrev pub wanted : {A : Type 0} → Mark → List Lexeme → (Lexeme → List Lexeme → Option A) → Option A
wanted mark os go = at_lexeme os None (λ o rest. if fits mark o.kind then go o rest else None)

-- a name, and then
abbrev pub named_by : {A : Type 0} → (ℕ → List Lexeme → Option A) → List Lexeme → Option ℕ → Option A
named_by go rest None = None
named_by go rest (Some n) = go n rest

abbrev pub named : {A : Type 0} → List Lexeme → (Lexeme → ℕ → List Lexeme → Option A) → Option A
named os go = at_lexeme os None (λ o rest. named_by (go o) rest (name_of o.kind))

abbrev pub Unnamed : List Lexeme → Type 0
Unnamed [] = Unit {0}
Unnamed (o ∷ os) = name_of o.kind ≡ None

-- the first lexeme, where it is a name, its number, and the lexemes after it
abbrev pub Named : Option (Lexeme × ℕ × Bor (List Lexeme)) → List Lexeme → Type 0
Named None os = Unnamed os
Named (Some p) os = (os ≡ p.0 ∷ p.2.now) × (name_of p.0.kind ≡ Some p.1)

-- ---- types

-- the lexemes after words that are passed over, and the place past the last of these
abbrev pub Skipped : Passed → Got (Unit {0})
Skipped r = record { tree = tt; past = r.past; rest = r.rest.now }

unfoldable pub skip_at : ℕ → List Lexeme → Got (Unit {0})
skip_at past [] = record { tree = tt; past = past; rest = [] }
skip_at past (o ∷ os) = if is_skipped o.kind then skip_at o.span.past os else record { tree = tt; past = past; rest = o ∷ os }

abbrev pub with_word : IntWord → Counts → Counts
with_word w.Char n = record n { chars = suc n.chars }
with_word w.Short n = record n { shorts = suc n.shorts }
with_word w.Int n = record n { ints = suc n.ints }
with_word w.Long n = record n { longs = suc n.longs }
with_word w.Signed n = record n { signeds = suc n.signeds }
with_word w.Unsigned n = record n { unsigneds = suc n.unsigneds }

abbrev pub counts_in : Words → Counts
counts_in n = record { chars = n.chars; shorts = n.shorts; ints = n.ints; longs = n.longs; signeds = n.signeds; unsigneds = n.unsigneds }

abbrev pub got_words : ReadWords → Got Counts
got_words r = record { tree = counts_in r.words; past = r.past; rest = r.rest.now }

-- with the word, where C11 lists such words
abbrev pub next_words : Counts → Option IntWord → Option Counts
next_words n None = None
next_words n (Some w) = if is_listed (with_word w n) then Some (with_word w n) else None

abbrev pub words_by : (Counts → Got Counts) → Got Counts → Option Counts → Got Counts
words_by again x None = x
words_by again x (Some n) = again n

-- goes on with words of integer types while they are in a list of C11
unfoldable pub words_at : Counts → ℕ → List Lexeme → Got Counts
words_at n past [] = record { tree = n; past = past; rest = [] }
words_at n past (o ∷ os) = words_by (λ m. words_at m o.span.past os) (record { tree = n; past = past; rest = o ∷ os }) (next_words n (word_of o.kind))

abbrev pub byte_int : Bool → CInt
byte_int sign = record { size = 1; signed = sign; known = refl }

abbrev pub short_int : Bool → CInt
short_int sign = record { size = 2; signed = sign; known = refl }

abbrev pub plain_int : Bool → CInt
plain_int sign = record { size = 4; signed = sign; known = refl }

abbrev pub long_int : Bool → CInt
long_int sign = record { size = 8; signed = sign; known = refl }

-- the integer type of the words
unfoldable pub int_of : Counts → CInt
int_of n = if nat_lt 0 n.chars then byte_int (n.unsigneds == 0) else if nat_lt 0 n.shorts then short_int (n.unsigneds == 0) else if nat_lt 0 n.longs then long_int (n.unsigneds == 0) else plain_int (n.unsigneds == 0)

abbrev pub int_words : Got Counts → Got TypeTree
int_words x = record { tree = int (int_of x.tree); past = x.past; rest = x.rest }

-- a type can hold the place of each struct and union
abbrev pub Few : Known → Type 0
Few env = length env.tags ≤ 4294967296

abbrev pub same_kind : Bool → Option Bool → Bool
same_kind false (Some false) = true
same_kind true (Some true) = true
same_kind _ _ = false

-- the struct or union at the place, which a type can hold
abbrev pub kind_fits : Known → Bool → ℕ → Bool
kind_fits env union at = same_kind union (option_map (λ t. t.union_) (slice_get env.tags at)) && nat_lt at 4294967296

abbrev pub tag_by : Known → Bool → Lexeme → List Lexeme → Option ℕ → Option (Got TypeTree)
tag_by env union o rest None = None
tag_by env union o rest (Some at) = if kind_fits env union at then Some (record { tree = tag at; past = o.span.past; rest = rest }) else None

abbrev pub tag_at : Known → Bool → List Lexeme → Option (Got TypeTree)
tag_at env union os = named os (λ o n rest. tag_by env union o rest (tag_place env n))

abbrev pub enum_at : Known → List Lexeme → Option (Got TypeTree)
enum_at env os = named os (λ o n rest. if names_enum env n then Some (record { tree = int signed_int; past = o.span.past; rest = rest }) else None)

abbrev pub typedef_by : Lexeme → List Lexeme → Option TypeTree → Option (Got TypeTree)
typedef_by o rest None = None
typedef_by o rest (Some t) = Some (record { tree = t; past = o.span.past; rest = rest })

abbrev pub base_by : Known → Lexeme → List Lexeme → Base → Option (Got TypeTree)
base_by env o rest base.Void = Some (record { tree = void; past = o.span.past; rest = rest })
base_by env o rest (base.Word w) = Some (int_words (words_at (with_word w no_word) o.span.past rest))
base_by env o rest (base.Tag union) = tag_at env union rest
base_by env o rest base.Enum = enum_at env rest
base_by env o rest (base.Name n) = typedef_by o rest (value_of n env.typedefs)
base_by env o rest base.Other = None

-- the words of a type that is declared before
unfoldable pub base_at : Known → ℕ → List Lexeme → Option (Got TypeTree)
base_at env d os = at_lexeme os None (λ o rest. base_by env o rest (base_of o.kind) >>= low_type d)

abbrev pub tail_by : (TypeTree → Got TypeTree) → ℕ → Got TypeTree → Tail → Got TypeTree
tail_by again d x tail.Star = if nat_le (type_path (pointer x.tree)) d then again (pointer x.tree) else x
tail_by again d x tail.Skipped = again x.tree
tail_by again d x tail.Other = x

-- goes on with stars and words that are passed over, up to a star that would make the type too high
unfoldable pub tail_at : ℕ → TypeTree → ℕ → List Lexeme → Got TypeTree
tail_at d t past [] = record { tree = t; past = past; rest = [] }
tail_at d t past (o ∷ os) = tail_by (λ u. tail_at d u o.span.past os) d (record { tree = t; past = past; rest = o ∷ os }) (tail_of o.kind)

-- the longest type at the front
unfoldable pub type_at : Known → ℕ → List Lexeme → Option (Got TypeTree)
type_at env d os = base_at env d (skip_at 0 os).rest >>= λ x. Some (tail_at d x.tree x.past x.rest)

-- a type in parentheses
unfoldable pub enclosed_at : Known → ℕ → List Lexeme → Option (Got TypeTree)
enclosed_at env d os = wanted m.OpenParen os (λ o rest. type_at env d rest >>= λ x. wanted m.CloseParen x.rest (λ c after. Some (record { tree = x.tree; past = c.span.past; rest = after })))

abbrev pub names_by : Known → Option ℕ → Bool
names_by env None = false
names_by env (Some n) = names_type env n

abbrev pub begins_base : Known → Base → Bool
begins_base env base.Other = false
begins_base env (base.Name n) = names_type env n
begins_base env _ = true

-- a lexeme that begins a type
abbrev pub begins_by : Known → LexemeKind → Bool
begins_by env kind = if is_skipped kind then true else begins_base env (base_of kind)

abbrev pub begins_type : Known → List Lexeme → Bool
begins_type env [] = false
begins_type env (o ∷ os) = begins_by env o.kind

-- a parenthesis and a lexeme that begins a type
abbrev pub opens_type : Known → List Lexeme → Bool
opens_type env [] = false
opens_type env (o ∷ os) = fits m.OpenParen o.kind && begins_type env os

-- ---- expressions

-- a node from one place up to another
abbrev pub spelled : ℕ → ℕ → ExprKindTree → ExprTree
spelled first past kind = e.node (span_between first past) void kind

abbrev pub leaf_by : Known → (List Lexeme → Option (Got ExprTree)) → ℕ → Lexeme → List Lexeme → Leaf → Option (Got ExprTree)
leaf_by env inner d o rest (leaf.Number v t) = made d (spelled o.span.first o.span.past (e.num v t)) o.span.past rest
leaf_by env inner d o rest (leaf.Name n) = if names_type env n then None else made d (spelled o.span.first o.span.past (e.name n)) o.span.past rest
leaf_by env inner d o rest leaf.Open = inner rest >>= λ x. wanted m.CloseParen x.rest (λ c after. Some (record { tree = x.tree; past = c.span.past; rest = after }))
leaf_by env inner d o rest leaf.Other = None

abbrev pub indexed_at : ℕ → ℕ → Got ExprTree → Got ExprTree → Option (Got ExprTree)
indexed_at d first x y = wanted m.CloseBracket y.rest (λ c rest. made d (spelled first c.span.past (e.index x.tree y.tree)) c.span.past rest)

abbrev pub member_at : ℕ → ℕ → Bool → Got ExprTree → List Lexeme → Option (Got ExprTree)
member_at d first arrow x os = named os (λ o n rest. made d (spelled first o.span.past (with_member arrow x.tree n)) o.span.past rest)

abbrev pub suffixed_by : (List Lexeme → Option (Got ExprTree)) → (Got ExprTree → Option (Got ExprTree)) → ℕ → ℕ → Got ExprTree → List Lexeme → Option Suffix → Option (Got ExprTree)
suffixed_by inner again d first x rest (Some s.Index) = inner rest >>= (λ y. indexed_at d first x y >>= again)
suffixed_by inner again d first x rest (Some (s.Member arrow)) = member_at d first arrow x rest >>= again
suffixed_by inner again d first x rest None = Some x

abbrev pub prefixed_at : ℕ → ℕ → Prefix → Got ExprTree → Option (Got ExprTree)
prefixed_at d first f x = made d (spelled first x.past (with_prefix f x.tree)) x.past x.rest

abbrev pub unary_by : (List Lexeme → Option (Got ExprTree)) → Option (Got ExprTree) → Option (Got ExprTree) → ℕ → Lexeme → List Lexeme → Head → Option (Got ExprTree)
unary_by inner size postfix d o rest (h.Prefix f) = if nat_eq d 0 then None else (inner rest >>= prefixed_at d o.span.first f)
unary_by inner size postfix d o rest h.SizeOf = size
unary_by inner size postfix d o rest h.Other = postfix

abbrev pub size_of_type : ℕ → ℕ → Got TypeTree → Option (Got ExprTree)
size_of_type d first t = made d (spelled first t.past (e.size_of t.tree)) t.past t.rest

abbrev pub size_of_value : ℕ → ℕ → Got ExprTree → Option (Got ExprTree)
size_of_value d first x = made d (spelled first x.past (e.size_of_expr x.tree)) x.past x.rest

abbrev pub cast_to : ℕ → ℕ → Got TypeTree → Got ExprTree → Option (Got ExprTree)
cast_to d first t x = made d (spelled first x.past (e.cast t.tree x.tree)) x.past x.rest

abbrev pub joined_at : ℕ → ℕ → Binary → Got ExprTree → Got ExprTree → Option (Got ExprTree)
joined_at d first op x y = made d (spelled first y.past (e.binary op x.tree y.tree)) y.past y.rest

abbrev pub chosen_at : ℕ → ℕ → Got ExprTree → Got ExprTree → Got ExprTree → Option (Got ExprTree)
chosen_at d first x y z = made d (spelled first z.past (e.cond x.tree y.tree z.tree)) z.past z.rest

abbrev pub more_by : (List Lexeme → Option (Got ExprTree)) → (Got ExprTree → Option (Got ExprTree)) → ℕ → ℕ → ℕ → Got ExprTree → List Lexeme → Option (ℕ × Binary) → Option (Got ExprTree)
more_by side again d level first x rest None = Some x
more_by side again d level first x rest (Some f) = if nat_eq f.0 level then (side rest >>= (λ y. joined_at d first f.1 x y >>= again)) else Some x

abbrev pub choice_by : (List Lexeme → Option (Got ExprTree)) → ℕ → ℕ → Got ExprTree → List Lexeme → Option (Got ExprTree)
choice_by inner d first x rest = inner rest >>= λ y. wanted m.Colon y.rest (λ c after. inner after >>= chosen_at d first x y)

unfoldable mutual
  pub cond_at : Known → ℕ → ℕ → List Lexeme → Option (Got ExprTree)
  cond_at env zero d os = None
  cond_at env (suc n) d os = at_lexeme os None (λ o rest. binary_at env n d 10 os >>= choice_at env n d o.span.first)

  -- goes on after the first operand of a conditional expression
  pub choice_at : Known → ℕ → ℕ → ℕ → Got ExprTree → Option (Got ExprTree)
  choice_at env zero d first x = None
  choice_at env (suc n) d first x = at_lexeme x.rest (Some x) (λ o rest. if fits m.Question o.kind then choice_by (cond_at env n (d - 1)) d first x rest else Some x)

  pub binary_at : Known → ℕ → ℕ → ℕ → List Lexeme → Option (Got ExprTree)
  binary_at env zero d level os = None
  binary_at env (suc n) d level os = at_lexeme os None (λ o rest. cast_at env n d os >>= climb_at env n d level o.span.first)

  -- goes on after an operand with the operators up to a level
  pub climb_at : Known → ℕ → ℕ → ℕ → ℕ → Got ExprTree → Option (Got ExprTree)
  climb_at env zero d level first x = None
  climb_at env (suc n) d zero first x = Some x
  climb_at env (suc n) d (suc level) first x = climb_at env n d level first x >>= more_at env n d (suc level) first

  -- the operators of one level, over operands of the level below
  pub more_at : Known → ℕ → ℕ → ℕ → ℕ → Got ExprTree → Option (Got ExprTree)
  more_at env zero d level first x = None
  more_at env (suc n) d level first x = at_lexeme x.rest (Some x) (λ o rest. more_by (binary_at env n (d - 1) (pred level)) (more_at env n d level first) d level first x rest (op_at o.kind))

  pub cast_at : Known → ℕ → ℕ → List Lexeme → Option (Got ExprTree)
  cast_at env zero d os = None
  cast_at env (suc n) d os = at_lexeme os None (λ o rest. if opens_type env os then (enclosed_at env (d - 1) os >>= λ t. cast_at env n (d - 1) t.rest >>= cast_to d o.span.first t) else unary_at env n d os)

  pub unary_at : Known → ℕ → ℕ → List Lexeme → Option (Got ExprTree)
  unary_at env zero d os = None
  unary_at env (suc n) d os = at_lexeme os None (λ o rest. unary_by (cast_at env n (d - 1)) (size_at env n d o.span.first rest) (primary_at env n d os >>= suffix_at env n d o.span.first) d o rest (head_of o.kind))

  -- after the word sizeof
  pub size_at : Known → ℕ → ℕ → ℕ → List Lexeme → Option (Got ExprTree)
  size_at env zero d first os = None
  size_at env (suc n) d first os = if opens_type env os then (enclosed_at env (d - 1) os >>= size_of_type d first) else (if nat_eq d 0 then None else (unary_at env n (d - 1) os >>= size_of_value d first))

  pub suffix_at : Known → ℕ → ℕ → ℕ → Got ExprTree → Option (Got ExprTree)
  suffix_at env zero d first x = None
  suffix_at env (suc n) d first x = at_lexeme x.rest (Some x) (λ o rest. suffixed_by (cond_at env n (d - 1)) (suffix_at env n d first) d first x rest (suffix_of o.kind))

  pub primary_at : Known → ℕ → ℕ → List Lexeme → Option (Got ExprTree)
  primary_at env zero d os = None
  primary_at env (suc n) d os = at_lexeme os None (λ o rest. leaf_by env (cond_at env n d) d o rest (leaf_of o.kind))

-- goes on after an operand that no binary operator joins to what stands before it
abbrev pub rest_at : Known → ℕ → ℕ → ℕ → Got ExprTree → Option (Got ExprTree)
rest_at env n d first x = climb_at env n d 10 first x >>= choice_at env n d first
