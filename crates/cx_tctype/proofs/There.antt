-- What spells a type of C is read, where what ends it follows.
use Rattle.std.proofs.Common.{◌≡◌, ℕ, suc, Bool, true, false, cond, List, [], ◌∷◌, ◌++◌, length, Option, Some, None, inl, inr, refl, sym, ap, ◌∙◌, append_assoc}
use Rattle.std.proofs.lemmas.Bool.{cases_Bool}
use Rattle.std.specs.Prelude.{is_some, ◌==◌}
use Rattle.std.specs.List.{list_any}
use Rattle.cx_ctree.specs.Conversions.{signed_int}
use Rattle.cx_ctree.specs.Types.{TypeTree, int, pointer}
use Rattle.cx_cword.specs.declared.word.Keyword.TheVariants as k
use Rattle.cx_cword.specs.declared.word.Punctuator.TheVariants as p
use Rattle.cx_cword.specs.declared.lexeme.LexemeKind.{LexemeKind}
use Rattle.cx_cword.specs.declared.lexeme.LexemeKind.TheVariants as cl
use Rattle.cx_cname.specs.Known.{Known, value_of, names_enum}
use Rattle.cx_cexpr.specs.declared.kinds.IntWord.{IntWord}
use Rattle.cx_cexpr.specs.declared.kinds.Base.{Base}
use Rattle.cx_cexpr.specs.declared.kinds.Base.TheVariants as base
use Rattle.cx_cexpr.specs.Kinds.{word_of, base_of, is_skipped}
use Rattle.cx_cexpr.specs.IntWords.{Counts, no_word}
use Rattle.cx_cexpr.specs.Reading.{with_word, next_words, int_of}
use Rattle.cx_tword.specs.declared.lexeme.TypeLexeme.{TypeLexeme}
use Rattle.cx_reader.specs.Answers.{Got, Answer, read, fault, ◌>>=◌, give, next_is}
use Rattle.cx_tctype.specs.Pointees.{PointeeTree, known, is_low, is_star, pointed, AreSkips, no_skips, more_skips, AreWords, no_words, more_words, IsBase, base_void, base_int, base_typedef, base_tag, base_enum, IsTail, no_tail, tail_skip, tail_star, IsCType, a_ctype, EndsWords, EndsTail, EndsCType}
use Rattle.cx_tctype.specs.Reading.{after_skips, words_at, int_from, typedef_by, tag_by, enum_by, enum_at, has_some, base_by, base_at, tail_at, ctype_at}
use Rattle.cx_tctype.proofs.Turns.{skips_none, skips_more, skips_stop, words_none, words_more, words_stop, tail_none, tail_stars, tail_skips, tail_stops}

-- ---- kinds of lexemes

skipped_other : (kind : LexemeKind) → is_skipped kind ≡ true → base_of kind ≡ base.Other
skipped_other (cl.Keyword k.Skipped) e = refl
skipped_other _ e = absurd cc

skipped_word : (kind : LexemeKind) → is_skipped kind ≡ true → word_of kind ≡ None
skipped_word (cl.Keyword k.Skipped) e = refl
skipped_word _ e = absurd cc

skipped_star : (kind : LexemeKind) → is_skipped kind ≡ true → is_star kind ≡ false
skipped_star (cl.Keyword k.Skipped) e = refl
skipped_star _ e = absurd cc

star_word : (kind : LexemeKind) → is_star kind ≡ true → word_of kind ≡ None
star_word (cl.Punctuator p.Star) e = refl
star_word _ e = absurd cc

abbrev begins : Base → Bool
begins base.Other = false
begins _ = true

-- what begins the words of a type is not passed over
no_skip : (kind : LexemeKind) (b : Base) → base_of kind ≡ b → begins b ≡ true → is_skipped kind ≡ false
no_skip kind b e f = elim (cases_Bool (is_skipped kind)) [
  | inl so ↦ absurd (clash (ap begins (sym (skipped_other kind so) ∙ e) ∙ f))
  | inr off ↦ off
]
  where
    clash : false ≡ true → ⊥
    clash e = cc

absent : {A : Type 0} (x : Option A) → is_some x ≡ false → x ≡ None
absent None e = refl
absent (Some x) e = absurd cc

-- ---- words that are passed over

skips_there : {a : List TypeLexeme} → AreSkips a → (rest : List TypeLexeme) → next_is (λ o. is_skipped o.c_kind) rest ≡ false → after_skips (a ++ rest) ≡ rest
skips_there no_skips [] e = skips_none
skips_there no_skips (o ∷ os) e = skips_stop o os e
skips_there (more_skips {a = a} o so s) rest e = skips_more o (a ++ rest) so ∙ skips_there s rest e

-- ---- words of integer types

words_there : {n m : Counts} {a : List TypeLexeme} → AreWords n a m → (rest : List TypeLexeme) → EndsWords rest → words_at n (a ++ rest) ≡ record { tree = m; rest = rest }
words_there {n} no_words [] e = words_none n
words_there {n} no_words (o ∷ os) e = words_stop n o os (ap (next_words n) (absent (word_of o.c_kind) e))
words_there {n} (more_words {m = m} {a = a} o e s) rest ends = words_more n m o (a ++ rest) e ∙ words_there s rest ends

module _ (env : Known) where
  -- ---- the words of a type

  base_first : {b : List TypeLexeme} {x : PointeeTree} → IsBase env b x → (rest : List TypeLexeme) → next_is (λ o. is_skipped o.c_kind) (b ++ rest) ≡ false
  base_first (base_void o e) rest = no_skip o.c_kind base.Void e refl
  base_first (base_int o w e s) rest = no_skip o.c_kind (base.Word w) e refl
  base_first (base_typedef o n t e f g) rest = no_skip o.c_kind (base.Name n) e refl
  base_first (base_tag o m union n e f) rest = no_skip o.c_kind (base.Tag union) e refl
  base_first (base_enum o m n e f g) rest = no_skip o.c_kind base.Enum e refl

  -- an enumeration with a name that has a list: there is one
  some_enum : (n : ℕ) → names_enum env n ≡ true → has_some env.enums ≡ true
  some_enum n e = some_in env.enums e
    where
      some_in : (ns : List ℕ) → list_any (λ m. m == n) ns ≡ true → has_some ns ≡ true
      some_in [] e = e
      some_in (m ∷ ns) e = refl

  base_there : {b : List TypeLexeme} {x : PointeeTree} → IsBase env b x → (rest : List TypeLexeme) → EndsWords rest → base_at env (b ++ rest) ≡ give x rest
  unfolding base_at
  base_there (base_void o e) rest ends = ap (base_by env (o ∷ rest) rest) e
  base_there (base_int {a = a} o w e s) rest ends =
      ap (base_by env (o ∷ a ++ rest) (a ++ rest)) e ∙ ap (λ (g : Got TypeLexeme Counts). read g >>= λ x. give (known (int (int_of x.tree))) x.rest) (words_there s rest ends)
  base_there (base_typedef o n t e f g) rest ends =
      ap (base_by env (o ∷ rest) rest) e ∙ ap (typedef_by (o ∷ rest) rest) f ∙ ap (λ (b : Bool). cond b (give (known t) rest) (fault (suc (length rest)))) g
  base_there (base_tag o m union n e f) rest ends = ap (base_by env (o ∷ m ∷ rest) (m ∷ rest)) e ∙ ap (tag_by env union m (m ∷ rest) rest) f
  base_there (base_enum o m n e f g) rest ends =
      ap (base_by env (o ∷ m ∷ rest) (m ∷ rest)) e
      ∙ ap (λ (b : Bool). cond b (enum_at env (m ∷ rest)) (fault (suc (suc (length rest))))) (some_enum n g)
      ∙ ap (enum_by env (m ∷ rest) rest) f
      ∙ ap (λ (b : Bool). cond b (give (known (int signed_int)) rest) (fault (suc (length rest)))) g

-- ---- stars

tail_there : {x y : PointeeTree} {a : List TypeLexeme} → IsTail x a y → (rest : List TypeLexeme) → EndsTail rest → tail_at x (a ++ rest) ≡ record { tree = y; rest = rest }
tail_there {x} no_tail [] e = tail_none x
tail_there {x} no_tail (o ∷ os) e = tail_stops x o os e.0 e.1
tail_there {x} (tail_skip {a = a} o so s) rest e = tail_skips x o (a ++ rest) (skipped_star o.c_kind so) so ∙ tail_there s rest e
tail_there {x} (tail_star {a = a} o so low s) rest e = tail_stars x o (a ++ rest) so low ∙ tail_there s rest e

-- no word of an integer type
tail_words : {x y : PointeeTree} {a : List TypeLexeme} → IsTail x a y → (rest : List TypeLexeme) → EndsWords rest → EndsWords (a ++ rest)
tail_words no_tail rest e = e
tail_words (tail_skip o so s) rest e = ap (λ v. is_some v) (skipped_word o.c_kind so)
tail_words (tail_star o so low s) rest e = ap (λ v. is_some v) (star_word o.c_kind so)

-- ---- types

module _ (env : Known) where
  three : (a b c rest : List TypeLexeme) → (a ++ (b ++ c)) ++ rest ≡ a ++ (b ++ (c ++ rest))
  three a b c rest = append_assoc a (b ++ c) rest ∙ ap (λ (w : List TypeLexeme). a ++ w) (append_assoc b c rest)

  pub ctype_there : {a : List TypeLexeme} {x : PointeeTree} → IsCType env a x → (rest : List TypeLexeme) → EndsCType rest → ctype_at env (a ++ rest) ≡ give x rest
  unfolding ctype_at
  ctype_there (a_ctype {a = a} {b = b} {c = c} {x = x} {y = y} s t u) rest ends =
      let go : Got TypeLexeme PointeeTree → Answer TypeLexeme PointeeTree = λ x. read (tail_at x.tree x.rest) in
      ap (λ (w : List TypeLexeme). base_at env (after_skips w) >>= go) (three a b c rest)
      ∙ ap (λ (w : List TypeLexeme). base_at env w >>= go) (skips_there s (b ++ (c ++ rest)) (base_first env t (c ++ rest)))
      ∙ ap (λ (r : Answer TypeLexeme PointeeTree). r >>= go) (base_there env t (c ++ rest) (tail_words u rest ends.0))
      ∙ ap (λ (g : Got TypeLexeme PointeeTree). read g) (tail_there u rest ends.1)
