-- Words of integer types that are counted are read, in any order.
use Rattle.std.proofs.Common.{◌≡◌, ℕ, suc, ◌+◌, ◌*◌, ◌≤◌, Bool, true, cond, List, [], ◌∷◌, ◌++◌, length, Option, Some, None, refl, sym, ap, ◌∙◌, append_assoc, append-nil, arith}
use Rattle.std.proofs.lemmas.Bool.Decides.{nat_tests}
use Rattle.std.specs.Prelude.{option_and_then, nat_lt, nat_eq}
use Rattle.std.proofs.lemmas.Option.{same_Some}
use Rattle.cx_base.specs.declared.number.CInt.{CInt}
use Rattle.cx_cword.specs.declared.lexeme.Lexeme.{Lexeme}
use Rattle.cx_cexpr.specs.declared.kinds.IntWord.{IntWord}
use Rattle.cx_cexpr.specs.declared.kinds.IntWord.TheVariants as w
use Rattle.cx_cexpr.specs.IntWords.{Counts, no_word, counted, counts_of, is_listed, AreIntWords}
use Rattle.cx_cexpr.specs.Kinds.{word_of}
use Rattle.cx_cexpr.specs.Reading.{Got, with_word, next_words, words_by, words_at, int_of}
use Rattle.cx_cexpr.proofs.Spans.{past_from, past_from-cons}
use Rattle.cx_cexpr.proofs.Steps.{bind_some}
use Rattle.cx_ctree.proofs.Numbers.{number_same}
use Rattle.cx_cexpr.proofs.IntWords.{words_none, words_more, words_stop}
use Rattle.cx_cexpr.proofs.Counting.{counted_some, counted_by, counts_push, words_commute, sizes, signs}

-- ---- fewer words of a list are words of a list

-- what C11 lists, as bounds on sums
record Bounded (n : Counts) : Type 0 where
  signs : n.signeds + n.unsigneds ≤ 1
  ints : n.ints ≤ 1
  short : n.chars + n.shorts ≤ 1
  longs : n.longs ≤ 2
  chars : n.chars + n.ints ≤ 1
  apart : 2 * (n.chars + n.shorts) + n.longs ≤ 2

bounded : (n : Counts) → is_listed n ≡ true → Bounded n
unfolding is_listed
bounded n e = record {
  signs = grind (arith, nat_tests);
  ints = grind (arith, nat_tests);
  short = grind (arith, nat_tests);
  longs = grind (arith, nat_tests);
  chars = grind (arith, nat_tests);
  apart = grind (arith, nat_tests);
}

listed_so : (n : Counts) → Bounded n → is_listed n ≡ true
unfolding is_listed
listed_so n h = grind (arith, nat_tests, h.signs, h.ints, h.short, h.longs, h.chars, h.apart)

bounded_less : (u : IntWord) (n : Counts) → Bounded (with_word u n) → Bounded n
bounded_less w.Char n h = record { signs = omega (arith, h.signs); ints = omega (arith, h.ints); short = omega (arith, h.short); longs = omega (arith, h.longs); chars = omega (arith, h.chars); apart = omega (arith, h.apart) }
bounded_less w.Short n h = record { signs = omega (arith, h.signs); ints = omega (arith, h.ints); short = omega (arith, h.short); longs = omega (arith, h.longs); chars = omega (arith, h.chars); apart = omega (arith, h.apart) }
bounded_less w.Int n h = record { signs = omega (arith, h.signs); ints = omega (arith, h.ints); short = omega (arith, h.short); longs = omega (arith, h.longs); chars = omega (arith, h.chars); apart = omega (arith, h.apart) }
bounded_less w.Long n h = record { signs = omega (arith, h.signs); ints = omega (arith, h.ints); short = omega (arith, h.short); longs = omega (arith, h.longs); chars = omega (arith, h.chars); apart = omega (arith, h.apart) }
bounded_less w.Signed n h = record { signs = omega (arith, h.signs); ints = omega (arith, h.ints); short = omega (arith, h.short); longs = omega (arith, h.longs); chars = omega (arith, h.chars); apart = omega (arith, h.apart) }
bounded_less w.Unsigned n h = record { signs = omega (arith, h.signs); ints = omega (arith, h.ints); short = omega (arith, h.short); longs = omega (arith, h.longs); chars = omega (arith, h.chars); apart = omega (arith, h.apart) }

listed_less : (u : IntWord) (n : Counts) → is_listed (with_word u n) ≡ true → is_listed n ≡ true
listed_less u n e = listed_so n (bounded_less u n (bounded (with_word u n) e))

-- with all these words
abbrev with_words : List IntWord → Counts → Counts
with_words [] n = n
with_words (u ∷ us) n = with_word u (with_words us n)

with_words_listed : (us : List IntWord) (n : Counts) → is_listed (with_words us n) ≡ true → is_listed n ≡ true
with_words_listed [] n e = e
with_words_listed (u ∷ us) n e = with_words_listed us n (listed_less u (with_words us n) e)

with_words_commute : (u : IntWord) (us : List IntWord) (n : Counts) → with_word u (with_words us n) ≡ with_words us (with_word u n)
with_words_commute u [] n = refl
with_words_commute u (v ∷ us) n = words_commute u v (with_words us n) ∙ ap (with_word v) (with_words_commute u us n)

-- a part of counted words is counted, and the others are words more
record Part (x : List Lexeme) (c : Counts) : Type 0 where
  n : Counts
  us : List IntWord
  are : counts_of x ≡ Some n
  more : with_words us n ≡ c

all_words : (y : List Lexeme) (c : Counts) → counts_of y ≡ Some c → Part [] c
all_words [] c e = record { n = no_word; us = []; are = refl; more = same_Some no_word c e }
all_words (o ∷ y) c e =
    let b = bind_some (counts_of y) (counted o.kind) c e in
    let u = counted_some o.kind b.0 c b.2 in
    let h = all_words y b.0 b.1 in
    let same : no_word ≡ h.n = same_Some no_word h.n h.are in
    record { n = no_word; us = u.0 ∷ h.us; are = refl; more = ap (λ v. with_word u.0 (with_words h.us v)) same ∙ ap (with_word u.0) h.more ∙ u.2 }

part_of : (x y : List Lexeme) (c : Counts) → counts_of (x ++ y) ≡ Some c → Part x c
part_of [] y c e = all_words y c e
part_of (o ∷ x) y c e =
    let b = bind_some (counts_of (x ++ y)) (counted o.kind) c e in
    let u = counted_some o.kind b.0 c b.2 in
    let h = part_of x y b.0 b.1 in
    record { n = with_word u.0 h.n; us = h.us; are = ap (option_and_then (counted o.kind)) h.are ∙ counted_by o.kind u.0 h.n u.1; more = sym (with_words_commute u.0 h.us h.n) ∙ ap (with_word u.0) h.more ∙ u.2 }

word_among : (a b : List Lexeme) (o : Lexeme) (c : Counts) → counts_of (a ++ o ∷ b) ≡ Some c → (u : IntWord) × (word_of o.kind ≡ Some u)
word_among [] b o c e =
    let h = bind_some (counts_of b) (counted o.kind) c e in
    let u = counted_some o.kind h.0 c h.2 in
    (u.0, u.1)
word_among (x ∷ a) b o c e = word_among a b o (bind_some (counts_of (a ++ o ∷ b)) (counted x.kind) c e).0 (bind_some (counts_of (a ++ o ∷ b)) (counted x.kind) c e).1

-- ---- words that are counted are read

listed_next : (n : Counts) (u : IntWord) (o : Option IntWord) → o ≡ Some u → is_listed (with_word u n) ≡ true → next_words n o ≡ Some (with_word u n)
listed_next n u o e listed = ap (next_words n) e ∙ ap (λ (b : Bool). cond b (Some (with_word u n)) None) listed

pub words_read : (b a : List Lexeme) (n c : Counts) (past : ℕ) (more : List Lexeme) → counts_of a ≡ Some n → counts_of (a ++ b) ≡ Some c → is_listed c ≡ true → words_at n past (b ++ more) ≡ words_at c (past_from past b) more
words_read [] a n c past more are all listed = ap (λ (m : Counts). words_at m past more) (same_Some n c (sym are ∙ ap counts_of (sym (append-nil a)) ∙ all))
words_read (o ∷ b) a n c past more are all listed =
    let u = word_among a b o c all in
    let grouped : counts_of ((a ++ o ∷ []) ++ b) ≡ Some c = ap counts_of (append_assoc a (o ∷ []) b) ∙ all in
    let h = part_of (a ++ o ∷ []) b c grouped in
    let pushed = counts_push a o n u.0 are u.1 in
    let same : with_word u.0 n ≡ h.n = same_Some (with_word u.0 n) h.n (sym pushed ∙ h.are) in
    let low : is_listed h.n ≡ true = with_words_listed h.us h.n (ap is_listed h.more ∙ listed) in
    let next = listed_next n u.0 (word_of o.kind) u.1 (ap is_listed same ∙ low) in
    words_more n (with_word u.0 n) past o (b ++ more) next ∙ words_read b (a ++ o ∷ []) (with_word u.0 n) c o.span.past more pushed grouped listed ∙ ap (λ (v : ℕ). words_at c v more) (sym (past_from-cons past o b))

-- the first lexeme is no word of an integer type
abbrev pub NoWord : List Lexeme → Type 0
NoWord [] = Unit {0}
NoWord (o ∷ os) = word_of o.kind ≡ None

pub words_end : (c : Counts) (past : ℕ) (more : List Lexeme) → NoWord more → words_at c past more ≡ record { tree = c; past = past; rest = more }
words_end c past [] h = words_none c past
words_end c past (o ∷ more) h = words_stop c past o more (ap (next_words c) h)

less_step : (again : Counts → Got Counts) (x : Got Counts) (k : ℕ) (next : Option Counts) → ((m : Counts) → length (again m).rest ≤ k) → length x.rest ≤ k → length (words_by again x next).rest ≤ k
less_step again x k None goes low = low
less_step again x k (Some m) goes low = goes m

pub words_less : (os : List Lexeme) (n : Counts) (past : ℕ) → length (words_at n past os).rest ≤ length os
unfolding words_at
words_less [] n past = omega arith
words_less (o ∷ os) n past = less_step (λ m. words_at m o.span.past os) (record { tree = n; past = past; rest = o ∷ os }) (suc (length os)) (next_words n (word_of o.kind)) (λ m. let h = words_less os m o.span.past in omega (arith, h)) (omega arith)

pub int_same : (ws : List Lexeme) (t : CInt) (h : AreIntWords ws t) → t ≡ int_of h.counts
unfolding int_of
int_same ws t h =
    let n : Counts = h.counts in
    number_same t (int_of n)
    (h.size ∙ sym (sizes (nat_lt 0 n.chars) (nat_lt 0 n.shorts) (nat_lt 0 n.longs) (nat_eq n.unsigneds 0)))
    (h.sign ∙ sym (signs (nat_lt 0 n.chars) (nat_lt 0 n.shorts) (nat_lt 0 n.longs) (nat_eq n.unsigneds 0)))
