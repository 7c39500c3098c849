-- What is read beside a type is what stands there.
use Rattle.std.proofs.Common.{◌≡◌, ℕ, zero, suc, Bool, true, false, ◌||◌, ◌&&◌, List, [], ◌∷◌, ◌++◌, Option, Some, None, refl, sym, ap, ◌∙◌, subst, append_assoc}
use Rattle.std.proofs.lemmas.Option.{same_Some}
use Rattle.cx_base.proofs.General.{both_true}
use Rattle.cx_cword.specs.declared.word.Keyword.{Keyword}
use Rattle.cx_cword.specs.declared.word.Keyword.TheVariants as k
use Rattle.cx_cword.specs.declared.lexeme.Lexeme.{Lexeme}
use Rattle.cx_cword.specs.declared.lexeme.LexemeKind.TheVariants as l
use Rattle.cx_cword.specs.Reading.{IsWord, ◌>>=◌}
use Rattle.cx_cexpr.proofs.Steps.{bind_some}
use Rattle.cx_cword.specs.declared.mark.Mark.{Mark}
use Rattle.cx_cword.specs.declared.mark.Mark.TheVariants as m
use Rattle.cx_cdecl.specs.declared.kinds.Bracket.{Bracket}
use Rattle.cx_cdecl.specs.declared.kinds.Bracket.TheVariants as b
use Rattle.cx_cdecl.specs.Declarations.{Beside, nothing_said, also_said, both_said, partner, AreBalanced, none_balanced, plain_balanced, group_balanced, IsAttributes, attributes, AreBeside, none_beside, word_beside, attributes_beside, AreAfter, none_after, attributes_after, asm_after}
use Rattle.cx_cdecl.specs.Kinds.{also_says, is_attribute, is_after, bracket_of}
use Rattle.cx_cdecl.specs.Reading.{Got, wanted, if_true, balanced_by, balanced_at, attributes_at, beside_attributes, beside_by, beside_at, after_by, after_at}
use Rattle.cx_cdecl.proofs.Shapes.{says_is, attribute_is, after_is, Closing, bracket_open, bracket_plain}
use Rattle.cx_cdecl.proofs.Steps.{if_some, Marked, wanted_some, Front, both_parts}

-- ---- attributes

grouped : (o : Lexeme) (rest inside after g : List Lexeme) (close : Mark) → Closing o.kind close → Front AreBalanced rest inside → Marked close inside after → Front AreBalanced after g → Front AreBalanced (o ∷ rest) g
grouped o rest inside after g close is f m h = record {
  front = o ∷ f.front ++ m.at ∷ h.front;
  parts = ap (λ (v : List Lexeme). o ∷ v) (f.parts ∙ ap (λ (v : List Lexeme). f.front ++ v) (m.parts ∙ ap (λ (v : List Lexeme). m.at ∷ v) h.parts) ∙ sym (append_assoc f.front (m.at ∷ h.front) g));
  so = group_balanced o m.at is.close is.is f.so (m.is ∙ is.same) h.so;
}

balanced_step : (again : List Lexeme → Option (List Lexeme)) → ((os g : List Lexeme) → again os ≡ Some g → Front AreBalanced os g)
    → (o : Lexeme) (rest g : List Lexeme) (k : Bracket) → bracket_of o.kind ≡ k → balanced_by again o rest k ≡ Some g → Front AreBalanced (o ∷ rest) g
balanced_step again goes o rest g b.Plain is e =
    let f = goes rest g e in
    record { front = o ∷ f.front; parts = ap (λ (v : List Lexeme). o ∷ v) f.parts; so = plain_balanced o (bracket_plain o.kind is) f.so }
balanced_step again goes o rest g (b.Open close) is e =
    let i = bind_some (again rest) (λ inside. wanted close inside again) g e in
    let w = wanted_some close i.0 again g i.2 in
    grouped o rest i.0 w.0 g close (bracket_open o.kind close is) (goes rest i.0 i.1) w.1 (goes w.0 g w.2)
balanced_step again goes o rest g b.Stop is e = record { front = []; parts = same_Some (o ∷ rest) g e; so = none_balanced }

balanced_sound : (n : ℕ) (os g : List Lexeme) → balanced_at n os ≡ Some g → Front AreBalanced os g
unfolding balanced_at
balanced_sound zero os g e = absurd cc
balanced_sound (suc n) [] g e = record { front = []; parts = same_Some [] g e; so = none_balanced }
balanced_sound (suc n) (o ∷ rest) g e = balanced_step (balanced_at n) (balanced_sound n) o rest g (bracket_of o.kind) refl e

listed : (word : Keyword) (o : Lexeme) (os inside rest after : List Lexeme) → IsWord word o → Marked m.OpenParen os inside → Front AreBalanced inside rest → Marked m.CloseParen rest after → Front (IsAttributes word) (o ∷ os) after
listed word o os inside rest after is m f c = record {
  front = o ∷ m.at ∷ f.front ++ c.at ∷ [];
  parts = ap (λ (v : List Lexeme). o ∷ v) (m.parts ∙ ap (λ (v : List Lexeme). m.at ∷ v) (f.parts ∙ ap (λ (v : List Lexeme). f.front ++ v) c.parts ∙ sym (append_assoc f.front (c.at ∷ []) after)));
  so = attributes o m.at c.at is m.is f.so c.is;
}

abbrev shut : List Lexeme → Option (List Lexeme)
shut inside = wanted m.CloseParen inside (λ after. Some after)

pub attributes_sound : (turns : ℕ) (word : Keyword) (o : Lexeme) (os g : List Lexeme) → IsWord word o → attributes_at turns os ≡ Some g → Front (IsAttributes word) (o ∷ os) g
unfolding attributes_at
attributes_sound turns word o os g is e =
    let w = wanted_some m.OpenParen os (λ rest. balanced_at turns rest >>= shut) g e in
    let i = bind_some (balanced_at turns w.0) shut g w.2 in
    let c = wanted_some m.CloseParen i.0 (λ after. Some after) g i.2 in
    listed word o os w.0 i.0 g is w.1 (balanced_sound turns w.0 i.0 i.1) (subst (Marked m.CloseParen i.0) (same_Some c.0 g c.2) c.1)

-- ---- words and attributes beside a type

or_true : (b : Bool) → (b || true) ≡ true
or_true true = refl
or_true false = refl

abbrev beside_of : (typedef_ linked stored attributed : Bool) → Beside
beside_of t l s a = record { typedef_ = t; linked = l; stored = s; attributed = a }

-- a word says the same before and after the others
pub word_first : (w : Keyword) (s t r : Beside) → also_said w s ≡ Some t → (q : Beside) × (also_said w r ≡ Some q) × (both_said t r ≡ both_said s q)
word_first k.Typedef s t r e = (_, refl, subst (λ (v : Beside). both_said v r ≡ both_said s (record r { typedef_ = true; stored = true })) (same_Some _ t e) (sym (ap (λ (v : Bool). beside_of v (s.linked || r.linked) (s.stored || true) (s.attributed || r.attributed)) (or_true s.typedef_) ∙ ap (λ (v : Bool). beside_of true (s.linked || r.linked) v (s.attributed || r.attributed)) (or_true s.stored))))
word_first k.Extern s t r e = (_, refl, subst (λ (v : Beside). both_said v r ≡ both_said s (record r { linked = true; stored = true })) (same_Some _ t e) (sym (ap (λ (v : Bool). beside_of (s.typedef_ || r.typedef_) v (s.stored || true) (s.attributed || r.attributed)) (or_true s.linked) ∙ ap (λ (v : Bool). beside_of (s.typedef_ || r.typedef_) true v (s.attributed || r.attributed)) (or_true s.stored))))
word_first k.Static s t r e = (_, refl, subst (λ (v : Beside). both_said v r ≡ both_said s (record r { linked = true; stored = true })) (same_Some _ t e) (sym (ap (λ (v : Bool). beside_of (s.typedef_ || r.typedef_) v (s.stored || true) (s.attributed || r.attributed)) (or_true s.linked) ∙ ap (λ (v : Bool). beside_of (s.typedef_ || r.typedef_) true v (s.attributed || r.attributed)) (or_true s.stored))))
word_first k.Inline s t r e = (_, refl, subst (λ (v : Beside). both_said v r ≡ both_said s (record r { stored = true })) (same_Some _ t e) (sym (ap (λ (v : Bool). beside_of (s.typedef_ || r.typedef_) (s.linked || r.linked) v (s.attributed || r.attributed)) (or_true s.stored))))
word_first k.Register s t r e = (_, refl, subst (λ (v : Beside). both_said v r ≡ both_said s (record r { stored = true })) (same_Some _ t e) (sym (ap (λ (v : Bool). beside_of (s.typedef_ || r.typedef_) (s.linked || r.linked) v (s.attributed || r.attributed)) (or_true s.stored))))
word_first k.Skipped s t r e = (_, refl, subst (λ (v : Beside). both_said v r ≡ both_said s r) (same_Some _ t e) refl)
word_first _ s t r e = absurd cc

pub attributes_first : (s r : Beside) → both_said (record s { attributed = true }) r ≡ both_said s (record r { attributed = true })
attributes_first s r = sym (ap (λ (v : Bool). beside_of (s.typedef_ || r.typedef_) (s.linked || r.linked) (s.stored || r.stored) v) (or_true s.attributed))

or_false : (b : Bool) → (b || false) ≡ b
or_false true = refl
or_false false = refl

pub nothing_more : (s : Beside) → both_said s nothing_said ≡ s
nothing_more s =
    ap (λ (v : Bool). beside_of v (s.linked || false) (s.stored || false) (s.attributed || false)) (or_false s.typedef_)
    ∙ ap (λ (v : Bool). beside_of s.typedef_ v (s.stored || false) (s.attributed || false)) (or_false s.linked)
    ∙ ap (λ (v : Bool). beside_of s.typedef_ s.linked v (s.attributed || false)) (or_false s.stored)
    ∙ ap (λ (v : Bool). beside_of s.typedef_ s.linked s.stored v) (or_false s.attributed)

-- the words and attributes after those that say s; no attributes where these may not stand
pub record Said (open_ : Bool) (s : Beside) (os : List Lexeme) (g : Got Beside) : Type 0 where
  pub front : List Lexeme
  pub said : Beside
  pub parts : os ≡ front ++ g.rest
  pub so : AreBeside front said
  pub tree : both_said s said ≡ g.tree
  pub bare : open_ ≡ false → said.attributed ≡ false

abbrev stopped : Beside → List Lexeme → Got Beside
stopped s os = record { tree = s; rest = os }

said_nothing : (open_ : Bool) (s : Beside) (os : List Lexeme) → Said open_ s os (stopped s os)
said_nothing open_ s os = record { front = []; said = nothing_said; parts = refl; so = none_beside; tree = nothing_more s; bare = λ e. refl }

pub kept_bare : (w : Keyword) (r q : Beside) → also_said w r ≡ Some q → q.attributed ≡ r.attributed
kept_bare k.Typedef r q e = ap (λ (v : Beside). v.attributed) (sym (same_Some _ q e))
kept_bare k.Extern r q e = ap (λ (v : Beside). v.attributed) (sym (same_Some _ q e))
kept_bare k.Static r q e = ap (λ (v : Beside). v.attributed) (sym (same_Some _ q e))
kept_bare k.Inline r q e = ap (λ (v : Beside). v.attributed) (sym (same_Some _ q e))
kept_bare k.Register r q e = ap (λ (v : Beside). v.attributed) (sym (same_Some _ q e))
kept_bare k.Skipped r q e = ap (λ (v : Beside). v.attributed) (sym (same_Some _ q e))
kept_bare _ r q e = absurd cc

said_word : (open_ : Bool) (s t : Beside) (o : Lexeme) (os : List Lexeme) (g : Got Beside) (w : Keyword) → o.kind ≡ l.Keyword w → also_said w s ≡ Some t → Said open_ t os g → Said open_ s (o ∷ os) g
said_word open_ s t o os g w is e f =
    let q = word_first w s t f.said e in
    record { front = o ∷ f.front; said = q.0; parts = ap (λ (v : List Lexeme). o ∷ v) f.parts; so = word_beside o w is f.so q.1; tree = sym q.2 ∙ f.tree; bare = λ h. kept_bare w f.said q.0 q.1 ∙ f.bare h }

said_list : (s : Beside) (o : Lexeme) (os rest : List Lexeme) (g : Got Beside) → Front (IsAttributes k.Attribute) (o ∷ os) rest → Said true (record s { attributed = true }) rest g → Said true s (o ∷ os) g
said_list s o os rest g a f = record {
  front = a.front ++ f.front;
  said = record f.said { attributed = true };
  parts = both_parts (o ∷ os) a.front rest f.front g.rest a.parts f.parts;
  so = attributes_beside a.so f.so;
  tree = sym (attributes_first s f.said) ∙ f.tree;
  bare = λ h. absurd cc;
}

list_step : (turns : ℕ) (open_ : Bool) (s : Beside) (o : Lexeme) (os : List Lexeme) (again : List Lexeme → Got Beside)
    → ((rest : List Lexeme) → Said open_ (record s { attributed = true }) rest (again rest))
    → (found : Option (List Lexeme)) → if_true (open_ && is_attribute o.kind) (attributes_at turns os) ≡ found → Said open_ s (o ∷ os) (beside_attributes again (stopped s (o ∷ os)) found)
list_step turns open_ s o os again goes None is = said_nothing open_ s (o ∷ os)
list_step turns open_ s o os again goes (Some rest) is =
    let h = if_some (open_ && is_attribute o.kind) (attributes_at turns os) rest is in
    let t = both_true open_ (is_attribute o.kind) h.0 in
    subst (λ (v : Bool). Said v s (o ∷ os) (again rest)) (sym t.0)
    (said_list s o os rest (again rest) (attributes_sound turns k.Attribute o os rest (attribute_is o.kind t.1) h.1) (subst (λ (v : Bool). Said v (record s { attributed = true }) rest (again rest)) t.0 (goes rest)))

beside_step : (turns : ℕ) (open_ : Bool) (s : Beside) (o : Lexeme) (os : List Lexeme) (again : Beside → List Lexeme → Got Beside)
    → ((t : Beside) (rest : List Lexeme) → Said open_ t rest (again t rest))
    → (next : Option Beside) → also_says o.kind s ≡ next → Said open_ s (o ∷ os) (beside_by again (stopped s (o ∷ os)) next (if_true (open_ && is_attribute o.kind) (attributes_at turns os)) os)
beside_step turns open_ s o os again goes None is = list_step turns open_ s o os (again (record s { attributed = true })) (goes (record s { attributed = true })) (if_true (open_ && is_attribute o.kind) (attributes_at turns os)) refl
beside_step turns open_ s o os again goes (Some t) is =
    let w = says_is o.kind s t is in
    said_word open_ s t o os (again t os) w.0 w.1 w.2 (goes t os)

pub beside_sound : (turns : ℕ) (open_ : Bool) (n : ℕ) (s : Beside) (os : List Lexeme) → Said open_ s os (beside_at turns open_ n s os)
unfolding beside_at
beside_sound turns open_ zero s os = said_nothing open_ s os
beside_sound turns open_ (suc n) s [] = said_nothing open_ s []
beside_sound turns open_ (suc n) s (o ∷ os) = beside_step turns open_ s o os (beside_at turns open_ n) (beside_sound turns open_ n) (also_says o.kind s) refl

-- ---- after the parameters of a function

after_word : (turns : ℕ) (w : Keyword) (o : Lexeme) (os rest g : List Lexeme) → o.kind ≡ l.Keyword w → is_after (l.Keyword w) ≡ true → attributes_at turns os ≡ Some rest → Front AreAfter rest g → Front AreAfter (o ∷ os) g
after_word turns k.Attribute o os rest g is t e f = let a = attributes_sound turns k.Attribute o os rest is e in record { front = a.front ++ f.front; parts = both_parts (o ∷ os) a.front rest f.front g a.parts f.parts; so = attributes_after a.so f.so }
after_word turns k.Asm o os rest g is t e f = let a = attributes_sound turns k.Asm o os rest is e in record { front = a.front ++ f.front; parts = both_parts (o ∷ os) a.front rest f.front g a.parts f.parts; so = asm_after a.so f.so }
after_word turns _ o os rest g is t e f = absurd cc

after_none : (os : List Lexeme) → Front AreAfter os os
after_none os = record { front = []; parts = refl; so = none_after }

after_step : (turns : ℕ) (o : Lexeme) (os : List Lexeme) (again : List Lexeme → List Lexeme) → ((rest : List Lexeme) → Front AreAfter rest (again rest))
    → (found : Option (List Lexeme)) → if_true (is_after o.kind) (attributes_at turns os) ≡ found → Front AreAfter (o ∷ os) (after_by again (o ∷ os) found)
after_step turns o os again goes None is = after_none (o ∷ os)
after_step turns o os again goes (Some rest) is =
    let h = if_some (is_after o.kind) (attributes_at turns os) rest is in
    let w = after_is o.kind h.0 in
    after_word turns w.0 o os rest (again rest) w.1 w.2 h.1 (goes rest)

pub after_sound : (turns n : ℕ) (os : List Lexeme) → Front AreAfter os (after_at turns n os)
unfolding after_at
after_sound turns zero os = after_none os
after_sound turns (suc n) [] = after_none []
after_sound turns (suc n) (o ∷ os) = after_step turns o os (after_at turns n) (after_sound turns n) (if_true (is_after o.kind) (attributes_at turns os)) refl
