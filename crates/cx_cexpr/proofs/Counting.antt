-- Words of integer types counted one by one.
use Rattle.std.proofs.Common.{◌≡◌, ℕ, ◌<◌, Bool, true, false, cond, List, [], ◌∷◌, ◌++◌, length, Option, Some, None, refl, sym, ap, ◌∙◌, subst, append_assoc, arith, length-append, inl, inr}
use Rattle.std.proofs.lemmas.Bool.{cases_Bool}
use Rattle.std.proofs.lemmas.Bool.Decides.{nat_tests}
use Rattle.std.specs.Prelude.{option_map, option_and_then, nat_eq, nat_lt}
use Rattle.std.proofs.lemmas.Option.{same_Some}
use Rattle.cx_cword.specs.declared.word.Keyword.TheVariants as k
use Rattle.cx_cword.specs.declared.lexeme.Lexeme.{Lexeme}
use Rattle.cx_cword.specs.declared.lexeme.LexemeKind.{LexemeKind}
use Rattle.cx_cword.specs.declared.lexeme.LexemeKind.TheVariants as l
use Rattle.cx_cword.specs.Reading.{past_of}
use Rattle.cx_cexpr.specs.declared.kinds.IntWord.{IntWord}
use Rattle.cx_cexpr.specs.declared.kinds.IntWord.TheVariants as w
use Rattle.cx_cexpr.specs.IntWords.{Counts, no_word, counted, counts_of, is_listed, AreIntWords}
use Rattle.cx_cexpr.specs.Kinds.{word_of}
use Rattle.cx_cexpr.specs.Reading.{Got, with_word, next_words, words_by, words_at, byte_int, short_int, long_int, plain_int, int_of}
use Rattle.cx_cexpr.proofs.Spans.{past-append}
use Rattle.cx_cexpr.proofs.Steps.{bind_some}

pub counted_word : (kind : LexemeKind) (n : Counts) → counted kind n ≡ option_map (λ u. with_word u n) (word_of kind)
counted_word (l.Keyword k.Char) n = refl
counted_word (l.Keyword k.Short) n = refl
counted_word (l.Keyword k.Int) n = refl
counted_word (l.Keyword k.Long) n = refl
counted_word (l.Keyword k.Signed) n = refl
counted_word (l.Keyword k.Unsigned) n = refl
counted_word _ n = refl

-- words in any order count alike
pub words_commute : (u v : IntWord) (n : Counts) → with_word u (with_word v n) ≡ with_word v (with_word u n)
words_commute w.Char w.Char n = refl
words_commute w.Short w.Char n = refl
words_commute w.Int w.Char n = refl
words_commute w.Long w.Char n = refl
words_commute w.Signed w.Char n = refl
words_commute w.Unsigned w.Char n = refl
words_commute w.Char w.Short n = refl
words_commute w.Char w.Int n = refl
words_commute w.Char w.Long n = refl
words_commute w.Char w.Signed n = refl
words_commute w.Char w.Unsigned n = refl
words_commute _ w.Short n = refl
words_commute _ w.Int n = refl
words_commute _ w.Long n = refl
words_commute _ w.Signed n = refl
words_commute _ w.Unsigned n = refl

some_word : (o : Option IntWord) (m n : Counts) → option_map (λ u. with_word u m) o ≡ Some n → (u : IntWord) × (o ≡ Some u) × (with_word u m ≡ n)
some_word (Some u) m n e = (u, refl, same_Some (with_word u m) n e)
some_word None m n e = absurd cc

pub counted_some : (kind : LexemeKind) (m n : Counts) → counted kind m ≡ Some n → (u : IntWord) × (word_of kind ≡ Some u) × (with_word u m ≡ n)
counted_some kind m n e = some_word (word_of kind) m n (sym (counted_word kind m) ∙ e)

pub counted_by : (kind : LexemeKind) (u : IntWord) (n : Counts) → word_of kind ≡ Some u → counted kind n ≡ Some (with_word u n)
counted_by kind u n e = counted_word kind n ∙ ap (option_map (λ v. with_word v n)) e

counted_after : (kind : LexemeKind) (v : IntWord) (m n : Counts) → counted kind m ≡ Some n → counted kind (with_word v m) ≡ Some (with_word v n)
counted_after kind v m n e =
    let c = counted_some kind m n e in
    counted_by kind c.0 (with_word v m) c.1 ∙ ap Some (words_commute c.0 v m ∙ ap (with_word v) c.2)

pub counts_push : (ws : List Lexeme) (o : Lexeme) (n : Counts) (v : IntWord) → counts_of ws ≡ Some n → word_of o.kind ≡ Some v → counts_of (ws ++ o ∷ []) ≡ Some (with_word v n)
counts_push [] o n v e is = counted_by o.kind v no_word is ∙ ap (λ m. Some (with_word v m)) (same_Some no_word n e)
counts_push (x ∷ ws) o n v e is =
    let c = bind_some (counts_of ws) (counted x.kind) n e in
    ap (option_and_then (counted x.kind)) (counts_push ws o c.0 v c.1 is) ∙ counted_after x.kind v c.0 n c.2

next_some : (n m : Counts) (o : Option IntWord) → next_words n o ≡ Some m → (u : IntWord) × (o ≡ Some u) × (with_word u n ≡ m) × (is_listed m ≡ true)
next_some n m None e = absurd cc
next_some n m (Some u) e = elim (cases_Bool (is_listed (with_word u n))) [
  | inl yes' ↦ let f : with_word u n ≡ m = same_Some (with_word u n) m (rw yes' at e) in (u, refl, f, subst (λ (c : Counts). is_listed c ≡ true) f yes')
  | inr no' ↦ absurd (cc (rw no' at e))
]

-- the words that were read
pub record WordsFound (whole : List Lexeme) (g : Got Counts) : Type 0 where
  pub front : List Lexeme
  pub parts : whole ≡ front ++ g.rest
  pub counts_are : counts_of front ≡ Some g.tree
  pub listed : is_listed g.tree ≡ true
  pub past : past_of front ≡ g.past
  pub filled : 0 < length front

words_step : (whole front os : List Lexeme) (n : Counts) (past : ℕ) (o : Lexeme) (again : Counts → Got Counts)
    → ((m : Counts) → counts_of (front ++ o ∷ []) ≡ Some m → is_listed m ≡ true → WordsFound whole (again m))
    → whole ≡ front ++ o ∷ os → counts_of front ≡ Some n → is_listed n ≡ true → past_of front ≡ past → 0 < length front
    → (next : Option Counts) → next_words n (word_of o.kind) ≡ next → WordsFound whole (words_by again (record { tree = n; past = past; rest = o ∷ os }) next)
words_step whole front os n past o again goes parts are listed ends filled None is = record { front = front; parts = parts; counts_are = are; listed = listed; past = ends; filled = filled }
words_step whole front os n past o again goes parts are listed ends filled (Some m) is =
    let c = next_some n m (word_of o.kind) is in
    goes m (counts_push front o n c.0 are c.1 ∙ ap Some c.2) c.3

pub words_sound : (os whole front : List Lexeme) (n : Counts) (past : ℕ) → whole ≡ front ++ os → counts_of front ≡ Some n → is_listed n ≡ true → past_of front ≡ past → 0 < length front → WordsFound whole (words_at n past os)
unfolding words_at
words_sound [] whole front n past parts are listed ends filled = record { front = front; parts = parts; counts_are = are; listed = listed; past = ends; filled = filled }
words_sound (o ∷ os) whole front n past parts are listed ends filled =
    words_step whole front os n past o (λ m. words_at m o.span.past os)
    (λ m are listed. words_sound os whole (front ++ o ∷ []) m o.span.past (parts ∙ sym (append_assoc front (o ∷ []) os)) are listed (past-append front (o ∷ []) (omega arith)) (omega (arith, length-append front (o ∷ []))))
    parts are listed ends filled (next_words n (word_of o.kind)) refl

-- ---- the integer type of words

pub sizes : (a b c s : Bool) → (cond a (byte_int s) (cond b (short_int s) (cond c (long_int s) (plain_int s)))).size ≡ cond a 1 (cond b 2 (cond c 8 4))
sizes true b c s = refl
sizes false true c s = refl
sizes false false true s = refl
sizes false false false s = refl

pub signs : (a b c s : Bool) → (cond a (byte_int s) (cond b (short_int s) (cond c (long_int s) (plain_int s)))).signed ≡ s
signs true b c s = refl
signs false true c s = refl
signs false false true s = refl
signs false false false s = refl

pub int_of_words : (ws : List Lexeme) (n : Counts) → counts_of ws ≡ Some n → is_listed n ≡ true → 0 < length ws → AreIntWords ws (int_of n)
unfolding int_of
int_of_words ws n are listed filled = record {
  counts = n;
  counted_are = are;
  some_word = grind (arith, nat_tests);
  listed = listed;
  size = sizes (nat_lt 0 n.chars) (nat_lt 0 n.shorts) (nat_lt 0 n.longs) (nat_eq n.unsigneds 0);
  sign = signs (nat_lt 0 n.chars) (nat_lt 0 n.shorts) (nat_lt 0 n.longs) (nat_eq n.unsigneds 0);
}
