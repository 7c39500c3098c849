-- What one lexeme does in the lists of words and stars, and what words C11 lists.
use Rattle.std.proofs.Common.{◌≡◌, ℕ, ◌≤◌, Bool, true, false, cond, List, [], ◌∷◌, length, Option, Some, None, refl, sym, ap, ◌∙◌, arith}
use Rattle.std.proofs.lemmas.Bool.Decides.{nat_tests}
use Rattle.cx_ctree.specs.Types.{int, pointer}
use Rattle.cx_cword.specs.declared.word.Keyword.{Keyword}
use Rattle.cx_cname.specs.Known.{Known}
use Rattle.cx_cexpr.specs.declared.kinds.IntWord.{IntWord}
use Rattle.cx_cexpr.specs.declared.kinds.IntWord.TheVariants as w
use Rattle.cx_cexpr.specs.Kinds.{word_of, is_skipped, int_word, base_int}
use Rattle.cx_cexpr.specs.IntWords.{Counts, no_word, is_listed}
use Rattle.cx_cexpr.specs.Reading.{with_word, next_words, int_of}
use Rattle.cx_tword.specs.declared.lexeme.TypeLexeme.{TypeLexeme}
use Rattle.cx_reader.specs.Answers.{Got, read, fault, ◌>>=◌, give}
use Rattle.cx_tctype.specs.Pointees.{PointeeTree, known, is_low, is_star, pointed}
use Rattle.cx_tctype.specs.Reading.{after_skips, words_by, words_at, int_from, base_by, tail_at}

-- ---- words that are passed over

pub skips_none : after_skips [] ≡ []
unfolding after_skips
skips_none = refl

pub skips_more : (o : TypeLexeme) (os : List TypeLexeme) → is_skipped o.c_kind ≡ true → after_skips (o ∷ os) ≡ after_skips os
unfolding after_skips
skips_more o os e = rw e refl

pub skips_stop : (o : TypeLexeme) (os : List TypeLexeme) → is_skipped o.c_kind ≡ false → after_skips (o ∷ os) ≡ o ∷ os
unfolding after_skips
skips_stop o os e = rw e refl

-- ---- words of integer types

pub record Small (n : Counts) : Type 0 where
  pub chars : n.chars ≤ 1
  pub shorts : n.shorts ≤ 1
  pub ints : n.ints ≤ 1
  pub longs : n.longs ≤ 2
  pub signeds : n.signeds ≤ 1
  pub unsigneds : n.unsigneds ≤ 1

pub listed_small : (n : Counts) → is_listed n ≡ true → Small n
unfolding is_listed
listed_small n e = record {
  chars = grind (arith, nat_tests);
  shorts = grind (arith, nat_tests);
  ints = grind (arith, nat_tests);
  longs = grind (arith, nat_tests);
  signeds = grind (arith, nat_tests);
  unsigneds = grind (arith, nat_tests);
}

pub none_listed : is_listed no_word ≡ true
unfolding is_listed
none_listed = refl

pub first_listed : (w : IntWord) → is_listed (with_word w no_word) ≡ true
unfolding is_listed
first_listed w.Char = refl
first_listed w.Short = refl
first_listed w.Int = refl
first_listed w.Long = refl
first_listed w.Signed = refl
first_listed w.Unsigned = refl

pub words_none : (n : Counts) → words_at n [] ≡ record { tree = n; rest = [] }
unfolding words_at
words_none n = refl

pub words_more : (n m : Counts) (o : TypeLexeme) (os : List TypeLexeme) → next_words n (word_of o.c_kind) ≡ Some m → words_at n (o ∷ os) ≡ words_at m os
unfolding words_at
words_more n m o os e = ap (words_by (λ m. words_at m os) (record { tree = n; rest = o ∷ os })) e

pub words_stop : (n : Counts) (o : TypeLexeme) (os : List TypeLexeme) → next_words n (word_of o.c_kind) ≡ None → words_at n (o ∷ os) ≡ record { tree = n; rest = o ∷ os }
unfolding words_at
words_stop n o os e = ap (words_by (λ m. words_at m os) (record { tree = n; rest = o ∷ os })) e

-- the first word of an integer type
first_of : (word : Option IntWord) (n : Counts) → next_words no_word word ≡ Some n → (w : IntWord) × (word ≡ Some w) × (n ≡ with_word w no_word)
first_of None n e = absurd cc
first_of (Some w) n e = (w, refl, some_is n (with_word w no_word) (ap (λ (b : Bool). cond b (Some (with_word w no_word)) None) (first_listed w)) e)
  where
    some_is : (n m : Counts) → next_words no_word (Some w) ≡ Some m → next_words no_word (Some w) ≡ Some n → n ≡ m
    some_is n m e f = cc

first_absent : (word : Option IntWord) → next_words no_word word ≡ None → word ≡ None
first_absent None e = refl
first_absent (Some w) e = absurd (clash (ap (λ (b : Bool). cond b (Some (with_word w no_word)) None) (first_listed w)) e)
  where
    clash : next_words no_word (Some w) ≡ Some (with_word w no_word) → next_words no_word (Some w) ≡ None → ⊥
    clash e f = cc

pub first_none : (env : Known) (os rest : List TypeLexeme) (word : Keyword) → next_words no_word (int_word word) ≡ None → base_by env os rest (base_int (int_word word)) ≡ fault (length os)
first_none env os rest word e = ap (λ (v : Option IntWord). base_by env os rest (base_int v)) (first_absent (int_word word) e)

pub first_some : (env : Known) (os rest : List TypeLexeme) (word : Keyword) (n : Counts) → next_words no_word (int_word word) ≡ Some n → base_by env os rest (base_int (int_word word)) ≡ int_from n rest
first_some env os rest word n e =
    let h = first_of (int_word word) n e in
    ap (λ (v : Option IntWord). base_by env os rest (base_int v)) h.1 ∙ ap (λ (v : Counts). int_from v rest) (sym h.2)

-- ---- stars

pub tail_none : (x : PointeeTree) → tail_at x [] ≡ record { tree = x; rest = [] }
unfolding tail_at
tail_none x = refl

pub tail_stars : (x : PointeeTree) (o : TypeLexeme) (os : List TypeLexeme) → is_star o.c_kind ≡ true → is_low (pointer x.ctype) ≡ true → tail_at x (o ∷ os) ≡ tail_at (pointed x) os
unfolding tail_at
tail_stars x o os e f =
    let stop : Got TypeLexeme PointeeTree = record { tree = x; rest = o ∷ os } in
    ap (λ (b : Bool). cond b (cond (is_low (pointer x.ctype)) (tail_at (pointed x) os) stop) (cond (is_skipped o.c_kind) (tail_at x os) stop)) e
    ∙ ap (λ (b : Bool). cond b (tail_at (pointed x) os) stop) f

pub tail_full : (x : PointeeTree) (o : TypeLexeme) (os : List TypeLexeme) → is_star o.c_kind ≡ true → is_low (pointer x.ctype) ≡ false → tail_at x (o ∷ os) ≡ record { tree = x; rest = o ∷ os }
unfolding tail_at
tail_full x o os e f =
    let stop : Got TypeLexeme PointeeTree = record { tree = x; rest = o ∷ os } in
    ap (λ (b : Bool). cond b (cond (is_low (pointer x.ctype)) (tail_at (pointed x) os) stop) (cond (is_skipped o.c_kind) (tail_at x os) stop)) e
    ∙ ap (λ (b : Bool). cond b (tail_at (pointed x) os) stop) f

pub tail_skips : (x : PointeeTree) (o : TypeLexeme) (os : List TypeLexeme) → is_star o.c_kind ≡ false → is_skipped o.c_kind ≡ true → tail_at x (o ∷ os) ≡ tail_at x os
unfolding tail_at
tail_skips x o os e f =
    let stop : Got TypeLexeme PointeeTree = record { tree = x; rest = o ∷ os } in
    ap (λ (b : Bool). cond b (cond (is_low (pointer x.ctype)) (tail_at (pointed x) os) stop) (cond (is_skipped o.c_kind) (tail_at x os) stop)) e
    ∙ ap (λ (b : Bool). cond b (tail_at x os) stop) f

pub tail_stops : (x : PointeeTree) (o : TypeLexeme) (os : List TypeLexeme) → is_star o.c_kind ≡ false → is_skipped o.c_kind ≡ false → tail_at x (o ∷ os) ≡ record { tree = x; rest = o ∷ os }
unfolding tail_at
tail_stops x o os e f =
    let stop : Got TypeLexeme PointeeTree = record { tree = x; rest = o ∷ os } in
    ap (λ (b : Bool). cond b (cond (is_low (pointer x.ctype)) (tail_at (pointed x) os) stop) (cond (is_skipped o.c_kind) (tail_at x os) stop)) e
    ∙ ap (λ (b : Bool). cond b (tail_at x os) stop) f
