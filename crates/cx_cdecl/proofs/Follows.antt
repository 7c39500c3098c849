-- Which lexemes may follow what is derived, and steps of reading that go on.
use Rattle.std.proofs.Common.{◌≡◌, ℕ, ◌+◌, ◌*◌, ◌≤◌, length, Bool, true, false, cond, List, [], ◌∷◌, Option, Some, None, refl, ap, ◌∙◌, arith}
use Rattle.std.specs.Prelude.{not, ◌&&◌}
use Rattle.cx_base.proofs.General.{not_true, true_both, both_true}
use Rattle.cx_cword.specs.declared.word.Keyword.{Keyword}
use Rattle.cx_cword.specs.declared.word.Keyword.TheVariants as k
use Rattle.cx_cword.specs.declared.word.Punctuator.{Punctuator}
use Rattle.cx_cword.specs.declared.word.Punctuator.TheVariants as p
use Rattle.cx_cword.specs.declared.lexeme.Lexeme.{Lexeme}
use Rattle.cx_cword.specs.declared.lexeme.LexemeKind.{LexemeKind}
use Rattle.cx_cword.specs.declared.lexeme.LexemeKind.TheVariants as l
use Rattle.cx_cword.specs.Reading.{Is, IsName, name_of, ◌>>=◌}
use Rattle.cx_cexpr.specs.Kinds as expr
use Rattle.cx_cexpr.specs.Reading.{named, named_by}
use Rattle.cx_cexpr.proofs.Ends.{Ends, binds}
use Rattle.cx_cexpr.proofs.TypeAgain.{NoSkip}
use Rattle.cx_cexpr.proofs.Counted.{NoWord}
use Rattle.cx_cword.specs.declared.mark.Mark.{Mark}
use Rattle.cx_cword.specs.declared.mark.Mark.TheVariants as m
use Rattle.cx_cdecl.specs.Kinds.{is_after}
use Rattle.cx_cdecl.specs.Reading.{wanted, choose, if_true}
use Rattle.cx_cword.specs.Marks.{fits}
use Rattle.cx_cword.proofs.Marks.{is_fit, kind_of}

-- ---- what may follow

abbrev pub is_keyword : LexemeKind → Bool
is_keyword (l.Keyword w) = true
is_keyword _ = false

-- the first lexeme is no keyword
abbrev pub no_keyword : List Lexeme → Bool
no_keyword [] = true
no_keyword (o ∷ os) = not (is_keyword o.kind)

-- the first lexeme is not this mark
abbrev pub no_mark : Mark → List Lexeme → Bool
no_mark mark [] = true
no_mark mark (o ∷ os) = not (fits mark o.kind)

abbrev pub is_beside_word : Keyword → Bool
is_beside_word k.Typedef = true
is_beside_word k.Extern = true
is_beside_word k.Static = true
is_beside_word k.Inline = true
is_beside_word k.Register = true
is_beside_word k.Skipped = true
is_beside_word k.Attribute = true
is_beside_word _ = false

abbrev pub is_beside : LexemeKind → Bool
is_beside (l.Keyword w) = is_beside_word w
is_beside _ = false

-- the first lexeme is nothing that stands beside a type
abbrev pub no_beside : List Lexeme → Bool
no_beside [] = true
no_beside (o ∷ os) = not (is_beside o.kind)

abbrev pub is_closing : Punctuator → Bool
is_closing p.Comma = true
is_closing p.Semicolon = true
is_closing p.Assign = true
is_closing p.CloseParen = true
is_closing p.CloseBracket = true
is_closing p.CloseBrace = true
is_closing _ = false

abbrev pub is_closed_by : LexemeKind → Bool
is_closed_by (l.Punctuator q) = is_closing q
is_closed_by _ = false

-- the first lexeme is a mark that ends a declarator
abbrev pub closes : List Lexeme → Bool
closes [] = true
closes (o ∷ os) = is_closed_by o.kind

-- what may follow the words of a type
abbrev pub ends_type : List Lexeme → Bool
ends_type os = no_keyword os && no_mark m.OpenBrace os

-- ---- what follows from that

pub record Closing (kind : LexemeKind) : Type 0 where
  pub word : is_keyword kind ≡ false
  pub star : fits m.Star kind ≡ false
  pub bracket : fits m.OpenBracket kind ≡ false
  pub paren : fits m.OpenParen kind ≡ false
  pub brace : fits m.OpenBrace kind ≡ false
  pub free : binds kind ≡ 12

closing_mark : (q : Punctuator) → is_closing q ≡ true → Closing (l.Punctuator q)
closing_mark p.Comma e = record { word = refl; star = refl; bracket = refl; paren = refl; brace = refl; free = refl }
closing_mark p.Semicolon e = record { word = refl; star = refl; bracket = refl; paren = refl; brace = refl; free = refl }
closing_mark p.Assign e = record { word = refl; star = refl; bracket = refl; paren = refl; brace = refl; free = refl }
closing_mark p.CloseParen e = record { word = refl; star = refl; bracket = refl; paren = refl; brace = refl; free = refl }
closing_mark p.CloseBracket e = record { word = refl; star = refl; bracket = refl; paren = refl; brace = refl; free = refl }
closing_mark p.CloseBrace e = record { word = refl; star = refl; bracket = refl; paren = refl; brace = refl; free = refl }
closing_mark _ e = absurd cc

pub closing : (kind : LexemeKind) → is_closed_by kind ≡ true → Closing kind
closing (l.Punctuator q) e = closing_mark q e
closing (l.Keyword w) e = absurd cc
closing (l.Constant v t) e = absurd cc
closing (l.Name n) e = absurd cc
closing (l.Attributive n) e = absurd cc
closing l.Other e = absurd cc

pub closes_keyword : (os : List Lexeme) → closes os ≡ true → no_keyword os ≡ true
closes_keyword [] e = refl
closes_keyword (o ∷ os) e = ap not (closing o.kind e).word

pub closes_star : (os : List Lexeme) → closes os ≡ true → no_mark m.Star os ≡ true
closes_star [] e = refl
closes_star (o ∷ os) e = ap not (closing o.kind e).star

pub closes_bracket : (os : List Lexeme) → closes os ≡ true → no_mark m.OpenBracket os ≡ true
closes_bracket [] e = refl
closes_bracket (o ∷ os) e = ap not (closing o.kind e).bracket

pub closes_paren : (os : List Lexeme) → closes os ≡ true → no_mark m.OpenParen os ≡ true
closes_paren [] e = refl
closes_paren (o ∷ os) e = ap not (closing o.kind e).paren

pub closes_brace : (os : List Lexeme) → closes os ≡ true → no_mark m.OpenBrace os ≡ true
closes_brace [] e = refl
closes_brace (o ∷ os) e = ap not (closing o.kind e).brace

pub closes_type : (os : List Lexeme) → closes os ≡ true → ends_type os ≡ true
closes_type os e = true_both (no_keyword os) (no_mark m.OpenBrace os) (closes_keyword os e) (closes_brace os e)

pub closes_ends : (os : List Lexeme) → closes os ≡ true → Ends 11 os
closes_ends [] e = tt
closes_ends (o ∷ os) e = let f = (closing o.kind e).free in omega (arith, f)

plain_not_beside : (kind : LexemeKind) → is_keyword kind ≡ false → is_beside kind ≡ false
plain_not_beside (l.Keyword w) e = absurd cc
plain_not_beside _ e = refl

pub keyword_beside : (os : List Lexeme) → no_keyword os ≡ true → no_beside os ≡ true
keyword_beside [] e = refl
keyword_beside (o ∷ os) e = ap not (plain_not_beside o.kind (not_true (is_keyword o.kind) e))

plain_no_word : (kind : LexemeKind) → is_keyword kind ≡ false → expr.word_of kind ≡ None
plain_no_word (l.Keyword w) e = absurd cc
plain_no_word _ e = refl

pub keyword_word : (os : List Lexeme) → no_keyword os ≡ true → NoWord os
keyword_word [] e = tt
keyword_word (o ∷ os) e = plain_no_word o.kind (not_true (is_keyword o.kind) e)

plain_not_skipped : (kind : LexemeKind) → is_keyword kind ≡ false → expr.is_skipped kind ≡ false
plain_not_skipped (l.Keyword w) e = absurd cc
plain_not_skipped _ e = refl

pub keyword_skip : (os : List Lexeme) → no_keyword os ≡ true → NoSkip os
keyword_skip [] e = tt
keyword_skip (o ∷ os) e = plain_not_skipped o.kind (not_true (is_keyword o.kind) e)

plain_not_after : (kind : LexemeKind) → is_keyword kind ≡ false → is_after kind ≡ false
plain_not_after (l.Keyword w) e = absurd cc
plain_not_after _ e = refl

pub keyword_after : (o : Lexeme) (os : List Lexeme) → no_keyword (o ∷ os) ≡ true → is_after o.kind ≡ false
keyword_after o os e = plain_not_after o.kind (not_true (is_keyword o.kind) e)

pub name_plain : (kind : LexemeKind) (n : ℕ) → name_of kind ≡ Some n → is_keyword kind ≡ false
name_plain (l.Keyword w) n e = absurd cc
name_plain _ n e = refl

pub name_no_mark : (mark : Mark) (kind : LexemeKind) (n : ℕ) → name_of kind ≡ Some n → fits mark kind ≡ false
name_no_mark mark (l.Name v) n e = refl
name_no_mark mark (l.Attributive v) n e = refl
name_no_mark mark _ n e = absurd cc

-- ---- steps that go on

pub wanted_goes : {A : Type 0} (mark : Mark) (o : Lexeme) (rest : List Lexeme) (go : List Lexeme → Option A) → o.kind ≡ kind_of mark → wanted mark (o ∷ rest) go ≡ go rest
wanted_goes mark o rest go is = ap (λ (b : Bool). cond b (go rest) None) (is_fit mark o.kind is)

pub choose_goes : {A : Type 0} (mark : Mark) (o : Lexeme) (rest : List Lexeme) (other : Option A) (go : List Lexeme → Option A) → o.kind ≡ kind_of mark → choose mark (o ∷ rest) other go ≡ go rest
choose_goes mark o rest other go is = ap (λ (b : Bool). cond b (go rest) other) (is_fit mark o.kind is)

pub choose_other : {A : Type 0} (mark : Mark) (os : List Lexeme) (other : Option A) (go : List Lexeme → Option A) → no_mark mark os ≡ true → choose mark os other go ≡ other
choose_other mark [] other go e = refl
choose_other mark (o ∷ os) other go e = ap (λ (b : Bool). cond b (go os) other) (not_true (fits mark o.kind) e)

pub named_goes : {A : Type 0} (o : Lexeme) (n : ℕ) (rest : List Lexeme) (go : Lexeme → ℕ → List Lexeme → Option A) → IsName n o → named (o ∷ rest) go ≡ go o n rest
named_goes o n rest go e = ap (named_by (go o) rest) e

pub if_goes : {A : Type 0} (b : Bool) (o : Option A) → b ≡ true → if_true b o ≡ o
if_goes true o e = refl
if_goes false o e = absurd cc

pub bind_goes : {A B : Type 0} (o : Option A) (f : A → Option B) (x : A) → o ≡ Some x → (o >>= f) ≡ f x
bind_goes {A = A} o f x e = ap (λ (r : Option A). r >>= f) e

pub wanted_other : {A : Type 0} (mark : Mark) (os : List Lexeme) (go : List Lexeme → Option A) → no_mark mark os ≡ true → wanted mark os go ≡ None
wanted_other mark [] go e = refl
wanted_other mark (o ∷ os) go e = ap (λ (b : Bool). cond b (go os) None) (not_true (fits mark o.kind) e)

-- enough turns for what stands in a list
abbrev pub Room : ℕ → List Lexeme → Type 0
Room turns os = 16 * length os + 40 ≤ turns

-- a mark that ends a declarator or a value, and begins no initialiser
abbrev pub is_ending : LexemeKind → Bool
is_ending kind = is_closed_by kind && not (fits m.Assign kind)

abbrev pub ends_item : List Lexeme → Bool
ends_item [] = true
ends_item (o ∷ os) = is_ending o.kind

pub item_closes : (os : List Lexeme) → ends_item os ≡ true → closes os ≡ true
item_closes [] e = refl
item_closes (o ∷ os) e = (both_true (is_closed_by o.kind) (not (fits m.Assign o.kind)) e).0

pub item_assign : (os : List Lexeme) → ends_item os ≡ true → no_mark m.Assign os ≡ true
item_assign [] e = refl
item_assign (o ∷ os) e = (both_true (is_closed_by o.kind) (not (fits m.Assign o.kind)) e).1
