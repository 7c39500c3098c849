-- Words of integer types and words that are passed over, one by one.
use Rattle.std.proofs.Common.{◌≡◌, ℕ, ◌≤◌, true, false, List, [], ◌∷◌, refl, arith, ap, Some, None}
use Rattle.std.proofs.lemmas.Bool.Decides.{nat_tests}
use Rattle.cx_cword.specs.declared.lexeme.Lexeme.{Lexeme}
use Rattle.cx_cexpr.specs.Kinds.{is_skipped, word_of}
use Rattle.cx_cexpr.specs.declared.kinds.IntWord.{IntWord}
use Rattle.cx_cexpr.specs.declared.kinds.IntWord.TheVariants as word
use Rattle.cx_cexpr.specs.IntWords.{Counts, no_word, is_listed}
use Rattle.cx_cexpr.specs.Reading.{skip_at, with_word, words_at, words_by, next_words}

pub skip_none : (past : ℕ) → skip_at past [] ≡ record { tree = tt; past = past; rest = [] }
unfolding skip_at
skip_none past = refl

pub skip_more : (past : ℕ) (o : Lexeme) (os : List Lexeme) → is_skipped o.kind ≡ true → skip_at past (o ∷ os) ≡ skip_at o.span.past os
unfolding skip_at
skip_more past o os e = rw e refl

pub skip_stops : (past : ℕ) (o : Lexeme) (os : List Lexeme) → is_skipped o.kind ≡ false → skip_at past (o ∷ os) ≡ record { tree = tt; past = past; rest = o ∷ os }
unfolding skip_at
skip_stops past o os e = rw e refl

pub record Small (n : Counts) : Type 0 where
  pub chars : n.chars ≤ 1
  pub shorts : n.shorts ≤ 1
  pub ints : n.ints ≤ 1
  pub longs : n.longs ≤ 2
  pub signeds : n.signeds ≤ 1
  pub unsigneds : n.unsigneds ≤ 1

pub listed_small : (n : Counts) → is_listed n ≡ true → Small n
unfolding is_listed
listed_small n e = record {
  chars = grind (arith, nat_tests);
  shorts = grind (arith, nat_tests);
  ints = grind (arith, nat_tests);
  longs = grind (arith, nat_tests);
  signeds = grind (arith, nat_tests);
  unsigneds = grind (arith, nat_tests);
}

pub words_none : (n : Counts) (past : ℕ) → words_at n past [] ≡ record { tree = n; past = past; rest = [] }
unfolding words_at
words_none n past = refl

pub words_more : (n m : Counts) (past : ℕ) (o : Lexeme) (os : List Lexeme) → next_words n (word_of o.kind) ≡ Some m → words_at n past (o ∷ os) ≡ words_at m o.span.past os
unfolding words_at
words_more n m past o os e = ap (words_by (λ m. words_at m o.span.past os) (record { tree = n; past = past; rest = o ∷ os })) e

pub words_stop : (n : Counts) (past : ℕ) (o : Lexeme) (os : List Lexeme) → next_words n (word_of o.kind) ≡ None → words_at n past (o ∷ os) ≡ record { tree = n; past = past; rest = o ∷ os }
unfolding words_at
words_stop n past o os e = ap (words_by (λ m. words_at m o.span.past os) (record { tree = n; past = past; rest = o ∷ os })) e

pub none_listed : is_listed no_word ≡ true
unfolding is_listed
none_listed = refl

pub first_listed : (w : IntWord) → is_listed (with_word w no_word) ≡ true
unfolding is_listed
first_listed word.Char = refl
first_listed word.Short = refl
first_listed word.Int = refl
first_listed word.Long = refl
first_listed word.Signed = refl
first_listed word.Unsigned = refl
