-- What types and expressions begin with. Nothing begins like both.
use Rattle.std.proofs.Common.{◌≡◌, ℕ, ◌<◌, Bool, true, false, not, List, [], ◌∷◌, ◌++◌, length, Option, Some, None, refl, sym, ap, ◌∙◌, subst, append_assoc, arith}
use Rattle.std.specs.Prelude.{is_some, ◌&&◌}
use Rattle.cx_ctree.specs.Types.{TypeTree}
use Rattle.cx_ctree.specs.Exprs.{ExprTree}
use Rattle.cx_base.specs.declared.number.CInt.{CInt}
use Rattle.cx_base.proofs.General.{not_true, and_false}
use Rattle.cx_cword.specs.declared.word.Keyword.{Keyword}
use Rattle.cx_cword.specs.declared.word.Keyword.TheVariants as k
use Rattle.cx_cword.specs.declared.lexeme.Lexeme.{Lexeme}
use Rattle.cx_cword.specs.declared.lexeme.LexemeKind.{LexemeKind}
use Rattle.cx_cword.specs.declared.lexeme.LexemeKind.TheVariants as l
use Rattle.cx_cname.specs.Known.{Known, names_type}
use Rattle.cx_cexpr.specs.declared.kinds.Base.{Base}
use Rattle.cx_cexpr.specs.declared.kinds.Base.TheVariants as base
use Rattle.cx_cword.specs.declared.mark.Mark.TheVariants as m
use Rattle.cx_cexpr.specs.declared.kinds.Head.{Head}
use Rattle.cx_cexpr.specs.declared.kinds.Head.TheVariants as h
use Rattle.cx_cexpr.specs.declared.kinds.Leaf.{Leaf}
use Rattle.cx_cexpr.specs.declared.kinds.Leaf.TheVariants as leaf
use Rattle.cx_cexpr.specs.IntWords.{AreIntWords, counted, counts_of}
use Rattle.cx_cexpr.specs.Expressions.{AreSkipped, no_skip, also_skip, tag_word, IsBase, void_word, int_words, type_name, tag_name, enum_name, IsType, type_base, type_pointer, IsCond, unconditional, conditional, IsBinary, operand, lower, joined, IsCast, no_cast, casted, IsUnary, no_prefix, prefixed, size_of_value, size_of_type, IsPostfix, no_suffix, indexed, member_of, member_at, IsPrimary, named, number, inside}
use Rattle.cx_cexpr.specs.Kinds.{base_of, base_name, is_skipped, prefix_of, head_of, leaf_of, leaf_name}
use Rattle.cx_cexpr.specs.Reading.{begins_base, begins_by, begins_type, opens_type}
use Rattle.cx_cexpr.proofs.Shapes.{name_base, tag_base, name_not_skipped, name_head, name_leaf, name_no_paren, prefixed_is, prefix_no_paren}
use Rattle.cx_cexpr.proofs.Counting.{counted_some}
use Rattle.cx_cexpr.proofs.Steps.{bind_some}
use Rattle.cx_cword.specs.Marks.{fits}

-- ---- what begins an expression

abbrev pub starts_leaf : Known → Leaf → Bool
starts_leaf env (leaf.Name n) = not (names_type env n)
starts_leaf env leaf.Other = false
starts_leaf env _ = true

abbrev pub starts_head : Known → Head → Leaf → Bool
starts_head env (h.Prefix f) x = true
starts_head env h.SizeOf x = true
starts_head env h.Other x = starts_leaf env x

-- a lexeme that begins an expression
abbrev pub starts_by : Known → LexemeKind → Bool
starts_by env kind = starts_head env (head_of kind) (leaf_of kind)

abbrev pub starts : Known → List Lexeme → Bool
starts env [] = false
starts env (o ∷ os) = starts_by env o.kind

-- a lexeme that begins a primary expression
abbrev pub starts_primary : Known → List Lexeme → Type 0
starts_primary env [] = ⊥
starts_primary env (o ∷ os) = (head_of o.kind ≡ h.Other) × (starts_leaf env (leaf_of o.kind) ≡ true)

pub starts-append : (env : Known) (a b : List Lexeme) → starts env a ≡ true → starts env (a ++ b) ≡ true
starts-append env [] b e = absurd cc
starts-append env (o ∷ a) b e = e

pub starts_filled : (env : Known) (a : List Lexeme) → starts env a ≡ true → 0 < length a
starts_filled env [] e = absurd cc
starts_filled env (o ∷ a) e = omega arith

pub primary-append : (env : Known) (a b : List Lexeme) → starts_primary env a → starts_primary env (a ++ b)
primary-append env [] b e = absurd e
primary-append env (o ∷ a) b e = e

pub primary_starts_so : (env : Known) (a : List Lexeme) → starts_primary env a → starts env a ≡ true
primary_starts_so env [] e = absurd e
primary_starts_so env (o ∷ a) e = ap (λ (x : Head). starts_head env x (leaf_of o.kind)) e.0 ∙ e.1

name_apart : (env : Known) (o : Option ℕ) → starts_leaf env (leaf_name o) ≡ true → begins_base env (base_name o) ≡ false
name_apart env (Some n) e = not_true (names_type env n) e
name_apart env None e = absurd cc

-- no lexeme begins both
pub apart : (env : Known) (kind : LexemeKind) → starts_by env kind ≡ true → begins_by env kind ≡ false
apart env (l.Keyword k.SizeOf) e = refl
apart env (l.Keyword _) e = absurd cc
apart env (l.Punctuator q) e = refl
apart env (l.Constant v t) e = refl
apart env (l.Name o) e = name_apart env o e
apart env (l.Attributive o) e = name_apart env o e
apart env l.Other e = refl

pub starts_no_type : (env : Known) (a : List Lexeme) → starts env a ≡ true → begins_type env a ≡ false
starts_no_type env [] e = refl
starts_no_type env (o ∷ a) e = apart env o.kind e

-- the only keyword that begins an expression
pub starts_word : (env : Known) (word : Keyword) → starts_by env (l.Keyword word) ≡ true → word ≡ k.SizeOf
starts_word env k.SizeOf e = refl
starts_word env _ e = absurd cc

opens_no_type : (env : Known) (o : Lexeme) (os : List Lexeme) → begins_type env os ≡ false → opens_type env (o ∷ os) ≡ false
opens_no_type env o os e = ap (λ (b : Bool). fits m.OpenParen o.kind && b) e ∙ and_false (fits m.OpenParen o.kind)

opens_no_paren : (env : Known) (o : Lexeme) (os : List Lexeme) → fits m.OpenParen o.kind ≡ false → opens_type env (o ∷ os) ≡ false
opens_no_paren env o os e = ap (λ (b : Bool). b && begins_type env os) e

opens-append : (env : Known) (a b rest : List Lexeme) → opens_type env (a ++ (b ++ rest)) ≡ false → opens_type env ((a ++ b) ++ rest) ≡ false
opens-append env a b rest e = ap (opens_type env) (append_assoc a b rest) ∙ e

-- ---- each expression begins so

module _ {env : Known} where
  pub primary_begins : {os : List Lexeme} {x : ExprTree} → IsPrimary env os x → starts_primary env os
  primary_begins (named o n e f) = (name_head o.kind n e, ap (starts_leaf env) (name_leaf o.kind n e) ∙ ap not f)
  primary_begins (number o v t e) = (ap head_of e, ap (λ (x : LexemeKind). starts_leaf env (leaf_of x)) e)
  primary_begins (inside o c e d f) = (ap head_of e, ap (λ (x : LexemeKind). starts_leaf env (leaf_of x)) e)

  pub postfix_begins : {os : List Lexeme} {x : ExprTree} → IsPostfix env os x → starts_primary env os
  postfix_begins (no_suffix d) = primary_begins d
  postfix_begins (indexed {a = a} {c = c} o m d e i f) = primary-append env (a ++ o ∷ c) (m ∷ []) (primary-append env a (o ∷ c) (postfix_begins d))
  postfix_begins (member_of {a = a} o m n d e f) = primary-append env a (o ∷ m ∷ []) (postfix_begins d)
  postfix_begins (member_at {a = a} o m n d e f) = primary-append env a (o ∷ m ∷ []) (postfix_begins d)

  pub unary_begins : {os : List Lexeme} {x : ExprTree} → IsUnary env os x → starts env os ≡ true
  unary_begins (no_prefix {os = os} d) = primary_starts_so env os (postfix_begins d)
  unary_begins (prefixed {x = x} o mark y e d f) = let q = prefixed_is mark x y f in ap (λ (v : LexemeKind). starts_by env v) e ∙ ap (λ (v : Head). starts_head env v (leaf_of (l.Punctuator mark))) q.1
  unary_begins (size_of_value o e d) = ap (starts_by env) e
  unary_begins (size_of_type o m c e f d g) = ap (starts_by env) e

  pub cast_begins : {os : List Lexeme} {x : ExprTree} → IsCast env os x → starts env os ≡ true
  cast_begins (no_cast d) = unary_begins d
  cast_begins (casted o m e t f d) = ap (starts_by env) e

  pub binary_begins : {n : ℕ} {os : List Lexeme} {x : ExprTree} → IsBinary env n os x → starts env os ≡ true
  binary_begins (operand d) = cast_begins d
  binary_begins (lower d) = binary_begins d
  binary_begins (joined {a = a} {c = c} o mark op d e f g) = starts-append env a (o ∷ c) (binary_begins d)

  pub cond_begins : {os : List Lexeme} {x : ExprTree} → IsCond env os x → starts env os ≡ true
  cond_begins (unconditional d) = binary_begins d
  cond_begins (conditional {a = a} {c = c} {d = d} q o x e y f z) = starts-append env (a ++ q ∷ c) (o ∷ d) (starts-append env a (q ∷ c) (binary_begins x))

  pub cond_filled : {os : List Lexeme} {x : ExprTree} → IsCond env os x → 0 < length os
  cond_filled {os} d = starts_filled env os (cond_begins d)

  pub binary_filled : {n : ℕ} {os : List Lexeme} {x : ExprTree} → IsBinary env n os x → 0 < length os
  binary_filled {n} {os} d = starts_filled env os (binary_begins d)

  pub cast_filled : {os : List Lexeme} {x : ExprTree} → IsCast env os x → 0 < length os
  cast_filled {os} d = starts_filled env os (cast_begins d)

  pub unary_filled : {os : List Lexeme} {x : ExprTree} → IsUnary env os x → 0 < length os
  unary_filled {os} d = starts_filled env os (unary_begins d)

  pub postfix_filled : {os : List Lexeme} {x : ExprTree} → IsPostfix env os x → 0 < length os
  postfix_filled {os} d = starts_filled env os (primary_starts_so env os (postfix_begins d))

  pub primary_filled : {os : List Lexeme} {x : ExprTree} → IsPrimary env os x → 0 < length os
  primary_filled {os} d = starts_filled env os (primary_starts_so env os (primary_begins d))

  -- ---- no unary expression begins with a parenthesis and a type

  pub primary_no_cast : {os : List Lexeme} {x : ExprTree} → IsPrimary env os x → (rest : List Lexeme) → opens_type env (os ++ rest) ≡ false
  primary_no_cast (named o n e f) rest = opens_no_paren env o rest (name_no_paren o.kind n e)
  primary_no_cast (number o v t e) rest = opens_no_paren env o rest (ap (fits m.OpenParen) e)
  primary_no_cast (inside {os = os} o c e d f) rest = opens_no_type env o ((os ++ c ∷ []) ++ rest) (starts_no_type env ((os ++ c ∷ []) ++ rest) (starts-append env (os ++ c ∷ []) rest (starts-append env os (c ∷ []) (cond_begins d))))

  pub postfix_no_cast : {os : List Lexeme} {x : ExprTree} → IsPostfix env os x → (rest : List Lexeme) → opens_type env (os ++ rest) ≡ false
  postfix_no_cast (no_suffix d) rest = primary_no_cast d rest
  postfix_no_cast (indexed {a = a} {c = c} o m d e i f) rest = opens-append env (a ++ o ∷ c) (m ∷ []) rest (opens-append env a (o ∷ c) (m ∷ rest) (postfix_no_cast d ((o ∷ c) ++ (m ∷ rest))))
  postfix_no_cast (member_of {a = a} o m n d e f) rest = opens-append env a (o ∷ m ∷ []) rest (postfix_no_cast d (o ∷ m ∷ rest))
  postfix_no_cast (member_at {a = a} o m n d e f) rest = opens-append env a (o ∷ m ∷ []) rest (postfix_no_cast d (o ∷ m ∷ rest))

  pub unary_no_cast : {os : List Lexeme} {x : ExprTree} → IsUnary env os x → (rest : List Lexeme) → opens_type env (os ++ rest) ≡ false
  unary_no_cast (no_prefix d) rest = postfix_no_cast d rest
  unary_no_cast (prefixed {os = os} {x = x} o mark y e d f) rest = let q = prefixed_is mark x y f in opens_no_paren env o (os ++ rest) (ap (fits m.OpenParen) e ∙ prefix_no_paren mark q.0 q.1)
  unary_no_cast (size_of_value {os = os} o e d) rest = opens_no_paren env o (os ++ rest) (ap (fits m.OpenParen) e)
  unary_no_cast (size_of_type {os = os} o m' c e f d g) rest = opens_no_paren env o ((m' ∷ os ++ c ∷ []) ++ rest) (ap (fits m.OpenParen) e)

-- ---- each type begins with a lexeme that begins types

begins_as : (env : Known) (kind : LexemeKind) (b : Base) → is_skipped kind ≡ false → base_of kind ≡ b → begins_by env kind ≡ begins_base env b
begins_as env kind b e f = ap (λ (v : Bool). Rattle.std.proofs.Common.cond v true (begins_base env (base_of kind))) e ∙ ap (begins_base env) f

tag_not_skipped : (union : Bool) → is_skipped (l.Keyword (tag_word union)) ≡ false
tag_not_skipped false = refl
tag_not_skipped true = refl

word_begins : (env : Known) (kind : LexemeKind) (u : Rattle.cx_cexpr.specs.declared.kinds.IntWord.IntWord) → Rattle.cx_cexpr.specs.Kinds.word_of kind ≡ Some u → begins_by env kind ≡ true
word_begins env (l.Keyword k.Char) u e = refl
word_begins env (l.Keyword k.Short) u e = refl
word_begins env (l.Keyword k.Int) u e = refl
word_begins env (l.Keyword k.Long) u e = refl
word_begins env (l.Keyword k.Signed) u e = refl
word_begins env (l.Keyword k.Unsigned) u e = refl
word_begins env _ u e = absurd cc

pub begins-append : (env : Known) (a b : List Lexeme) → begins_type env a ≡ true → begins_type env (a ++ b) ≡ true
begins-append env [] b e = absurd cc
begins-append env (o ∷ a) b e = e

words_begin : (env : Known) (os : List Lexeme) (t : CInt) → AreIntWords os t → begins_type env os ≡ true
words_begin env [] t h = absurd (cc h.some_word)
words_begin env (o ∷ os) t h =
    let c = bind_some (counts_of os) (counted o.kind) h.counts h.counted_are in
    let u = counted_some o.kind c.0 h.counts c.2 in
    word_begins env o.kind u.0 u.1

pub base_begins : {env : Known} {os : List Lexeme} {t : TypeTree} → IsBase env os t → begins_type env os ≡ true
base_begins {env} (void_word o e) = ap (begins_by env) e
base_begins {env} (int_words {os = os} t h) = words_begin env os t h
base_begins {env} (type_name o n t e f) = begins_as env o.kind (base.Name n) (name_not_skipped o.kind n e) (name_base o.kind n e) ∙ ap is_some f
base_begins {env} (tag_name o m' n at union e f g i) = begins_as env o.kind (base.Tag union) (ap is_skipped e ∙ tag_not_skipped union) (tag_base o.kind union e)
base_begins {env} (enum_name o m' n e f g) = ap (begins_by env) e

pub skipped_begins : (env : Known) {a : List Lexeme} → AreSkipped a → (b : List Lexeme) → begins_type env b ≡ true → begins_type env (a ++ b) ≡ true
skipped_begins env no_skip b e = e
skipped_begins env (also_skip o f h) b e = ap (begins_by env) f

pub type_begins : {env : Known} {os : List Lexeme} {t : TypeTree} → IsType env os t → begins_type env os ≡ true
type_begins {env} (type_base {a = a} {b = b} {c = c} h i j) = begins-append env (a ++ b) c (skipped_begins env h b (base_begins i))
type_begins {env} (type_pointer {a = a} {b = b} o h e i) = begins-append env a (o ∷ b) (type_begins h)
