-- The words of a file have numbers.
use Rattle.std.proofs.Common.{◌≡◌, ℕ, ℤ, ◌≤◌, Bool, true, false, ◌&&◌, List, [], ◌∷◌, ◌++◌, length, Option, Some, None, refl, sym, ◌∙◌, subst}
use Rattle.std.specs.Prelude.{All, IsSome, position, if◌then◌else◌, ◌==◌}
use Rattle.std.specs.List.{list_any}
use Rattle.std.specs.Str.{bytes_eq}
use Rattle.std.proofs.lemmas.Bool.{false≢true}
use Rattle.std.proofs.lemmas.List.Folds.{list_any-append, list_any_none}
use Rattle.std.proofs.lemmas.List.Elements.{All-nil, All-cons, All-head, All-tail, All-append, All-map}
use Rattle.std.proofs.lemmas.Slice.Eq.{bytes_eq-Decides}
use Rattle.cx_base.proofs.Positions.{position_none}
use Rattle.cx_base.specs.declared.number.CInt.{CInt}
use Rattle.cx_base.specs.declared.token.Token.{Token}
use Rattle.cx_base.specs.declared.token.TokenKind.{TokenKind}
use Rattle.cx_base.specs.declared.token.TokenKind.TheVariants as t
use Rattle.cx_base.specs.Names.{numbered}
use Rattle.cx_cword.specs.declared.word.Punctuator.{Punctuator}
use Rattle.cx_cword.specs.declared.lexeme.Lexeme.{Lexeme}
use Rattle.cx_cword.specs.Words.{punctuator_of}
use Rattle.cx_cword.specs.Integers.{int_of}
use Rattle.cx_cword.specs.Characters.{char_of}
use Rattle.cx_cword.specs.Lexemes.{text_of, kind_of, number_kind, char_kind, punctuator_kind, lexeme_of, lexemes}
use Rattle.cx_citem.specs.Items.{is_word, calls_after, covered_after, naming}
use Rattle.cx_citem.specs.Numbering.{is_name_token, name_texts, number_all, numbering}
use Rattle.cx_cread.specs.Reading.{InText, IsNumbered}

-- ---- which texts a numbering has

abbrev has : List ℕ → List (List ℕ) → Bool
has text names = list_any (bytes_eq text) names

has_more : (text : List ℕ) (names more : List (List ℕ)) → has text names ≡ true → has text (names ++ more) ≡ true
has_more text names more h = rw (list_any-append (bytes_eq text) names more, h) refl

numbered_keeps : (text x : List ℕ) (names : List (List ℕ)) → has text names ≡ true → has text (numbered names x) ≡ true
numbered_keeps text x names h = by_test (has x names)
  where
    by_test : (b : Bool) → has text (if b then names else names ++ x ∷ []) ≡ true
    by_test true = h
    by_test false = has_more text names (x ∷ []) h

numbered_has : (x : List ℕ) (names : List (List ℕ)) → has x (numbered names x) ≡ true
numbered_has x names = by_test (has x names) refl
  where
    by_test : (b : Bool) → has x names ≡ b → has x (if b then names else names ++ x ∷ []) ≡ true
    by_test true e = e
    by_test false e = rw (list_any-append (bytes_eq x) names (x ∷ []), e, (bytes_eq-Decides x x).1 refl) refl

number_all_keeps : (text : List ℕ) (names more : List (List ℕ)) → has text names ≡ true → has text (number_all names more) ≡ true
number_all_keeps text names [] h = h
number_all_keeps text names (x ∷ more) h = number_all_keeps text (numbered names x) more (numbered_keeps text x names h)

-- ---- the tokens that are names

NameIn : (names : List (List ℕ)) (bytes : List ℕ) → Token → Type 0
NameIn names bytes o = is_name_token o.kind ≡ true → has (text_of bytes o.span) names ≡ true

first_name : (b : Bool) (text : List ℕ) (names more : List (List ℕ)) → b ≡ true → has text (number_all names ((if b then text ∷ [] else []) ++ more)) ≡ true
first_name true text names more h = number_all_keeps text (numbered names text) more (numbered_has text names)
first_name false text names more h = absurd (false≢true h)

later_names : (b : Bool) (text : List ℕ) (names more : List (List ℕ)) → number_all (if b then numbered names text else names) more ≡ number_all names ((if b then text ∷ [] else []) ++ more)
later_names true text names more = refl
later_names false text names more = refl

names_in : (names : List (List ℕ)) (bytes : List ℕ) (tokens : List Token) → All (NameIn (number_all names (name_texts bytes tokens)) bytes) tokens
unfolding NameIn
names_in names bytes [] = All-nil (NameIn (number_all names []) bytes)
names_in names bytes (o ∷ os) =
    let b = is_name_token o.kind in
    let text = text_of bytes o.span in
    let all = number_all names (name_texts bytes (o ∷ os)) in
    let next = if b then numbered names text else names in
    let same : number_all next (name_texts bytes os) ≡ all = later_names b text names (name_texts bytes os) in
    All-cons (NameIn all bytes) o os (first_name b text names (name_texts bytes os)) (subst (λ (ns : List (List ℕ)). All (NameIn ns bytes) os) same (names_in next bytes os))

-- ---- lexemes

number_no_word : (o : Option (ℕ × CInt)) → is_word (number_kind o) ≡ true → true ≡ false
number_no_word None h = sym h
number_no_word (Some x) h = sym h

char_no_word : (o : Option ℤ) → is_word (char_kind o) ≡ true → true ≡ false
char_no_word None h = sym h
char_no_word (Some x) h = sym h

mark_no_word : (o : Option Punctuator) → is_word (punctuator_kind o) ≡ true → true ≡ false
mark_no_word None h = sym h
mark_no_word (Some x) h = sym h

word_is_name : (names : List (List ℕ)) (kind : TokenKind) (text : List ℕ) → is_word (kind_of names kind text) ≡ true → is_name_token kind ≡ true
word_is_name names t.Name text h = refl
word_is_name names t.Number text h = absurd (false≢true (sym (number_no_word (int_of text) h)))
word_is_name names t.Char text h = absurd (false≢true (sym (char_no_word (char_of text) h)))
word_is_name names t.Text text h = absurd (false≢true h)
word_is_name names t.Punct text h = absurd (false≢true (sym (mark_no_word (punctuator_of text) h)))

in_text : (names : List (List ℕ)) (bytes : List ℕ) (tokens : List Token) → All (λ o. o.span.past ≤ length bytes) tokens → All (NameIn names bytes) tokens → All (λ o. InText names bytes (lexeme_of names bytes o)) tokens
unfolding NameIn
in_text names bytes tokens inside named = λ k d below. record {
  inside = inside k d below;
  numbered = λ h. named k d below (word_is_name names _ _ h);
}

-- the lexemes of a file lie inside its text, and its words have numbers
pub text_all : (bytes : List ℕ) (tokens : List Token) → All (λ o. o.span.past ≤ length bytes) tokens → All (InText (numbering bytes tokens) bytes) (lexemes (numbering bytes tokens) bytes tokens)
text_all bytes tokens inside =
    let names = numbering bytes tokens in
    All-map (InText names bytes) (lexeme_of names bytes) tokens (in_text names bytes tokens inside (names_in [] bytes tokens))

-- ---- the words by which an item names functions

first_word : (names : List (List ℕ)) (bytes : List ℕ) (o : Lexeme) (a w c : Bool) → InText names bytes o → (w ≡ true → is_word o.kind ≡ true) → All (IsNumbered names bytes) (if a && w && c then o ∷ [] else [])
first_word names bytes o true true true h word = All-cons (IsNumbered names bytes) o [] (record { inside = h.inside; numbered = h.numbered (word refl) }) (All-nil (IsNumbered names bytes))
first_word names bytes o true true false h word = All-nil (IsNumbered names bytes)
first_word names bytes o true false c h word = All-nil (IsNumbered names bytes)
first_word names bytes o false w c h word = All-nil (IsNumbered names bytes)

naming_all : (names : List (List ℕ)) (bytes : List ℕ) (covered : ℕ) (os : List Lexeme) → All (InText names bytes) os → All (IsNumbered names bytes) (naming covered os)
naming_all names bytes covered [] h = All-nil (IsNumbered names bytes)
naming_all names bytes covered (o ∷ os) h =
    All-append (IsNumbered names bytes) (if (covered == 0) && is_word o.kind && calls_after 0 os then o ∷ [] else []) (naming (covered_after covered o.kind) os)
    (first_word names bytes o (covered == 0) (is_word o.kind) (calls_after 0 os) (All-head (InText names bytes) o os h) (λ e. e))
    (naming_all names bytes (covered_after covered o.kind) os (All-tail (InText names bytes) o os h))

pub words_all : (names : List (List ℕ)) (bytes : List ℕ) (os words : List Lexeme) → words ≡ naming 0 os → All (InText names bytes) os → All (IsNumbered names bytes) words
words_all names bytes os words e h = subst (λ (ws : List Lexeme). All (IsNumbered names bytes) ws) (sym e) (naming_all names bytes 0 os h)

-- ---- a text that a numbering has is found

pub found : (r : Option ℕ) (text : List ℕ) (names : List (List ℕ)) → r ≡ position (bytes_eq text) names → list_any (bytes_eq text) names ≡ true → IsSome r
found (Some n) text names e h = refl
found None text names e h = absurd (false≢true (sym (list_any_none (bytes_eq text) names (position_none (bytes_eq text) names (sym e))) ∙ h))
