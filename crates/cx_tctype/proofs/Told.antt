-- What is told of the reader of types of C.
use Rattle.std.proofs.Common.{◌≡◌, ℕ, suc, ◌<◌, Bool, true, false, cond, List, [], ◌∷◌, ◌++◌, length, Option, Some, None, refl, sym, ap, ◌∙◌, arith}
use Rattle.std.proofs.lemmas.Bool.Decides.{nat_tests}
use Rattle.std.specs.List.{list_any}
use Rattle.std.specs.Prelude.{◌==◌, ◌||◌}
use Rattle.cx_ctree.specs.Conversions.{signed_int}
use Rattle.cx_ctree.specs.Types.{TypeTree, void, int, pointer}
use Rattle.cx_cword.specs.declared.lexeme.LexemeKind.{LexemeKind}
use Rattle.cx_cword.specs.declared.lexeme.LexemeKind.TheVariants as cl
use Rattle.cx_cword.specs.Reading.{span_between}
use Rattle.cx_cname.specs.Known.{Known, value_of, names_enum}
use Rattle.cx_cexpr.specs.declared.kinds.IntWord.{IntWord}
use Rattle.cx_cexpr.specs.declared.kinds.Base.{Base}
use Rattle.cx_cexpr.specs.declared.kinds.Base.TheVariants as base
use Rattle.cx_cexpr.specs.Kinds.{word_of, base_of, is_skipped}
use Rattle.cx_cexpr.specs.IntWords.{Counts, no_word}
use Rattle.cx_cexpr.specs.Reading.{with_word, next_words, int_of}
use Rattle.cx_tword.specs.declared.word.TypeWord.TheVariants as tw
use Rattle.cx_tword.specs.declared.lexeme.TypeLexeme.{TypeLexeme}
use Rattle.cx_tword.specs.declared.lexeme.TypeLexemeKind.TheVariants as l
use Rattle.cx_tword.proofs.Marks.{a_word, a_name}
use Rattle.cx_reader.specs.Answers.{Got, Answer, read, fault, ◌>>=◌, give}
use Rattle.cx_reader.proofs.Laws.{Viable, Good}
use Rattle.cx_reader.proofs.Tells.{viable, gives, fails, maps, takes, stays, none_left, thens, sends}
use Rattle.cx_tctype.specs.Pointees.{PointeeTree, known, tagged, tag_found, is_low, is_star, pointed, AreSkips, no_skips, more_skips, AreWords, no_words, more_words, IsBase, base_void, base_int, base_typedef, base_tag, base_enum, IsTail, no_tail, tail_skip, tail_star, IsCType, a_ctype}
use Rattle.cx_tctype.specs.Reading.{after_skips, words_by, words_at, int_from, typedef_by, tag_by, tag_at, enum_by, enum_at, has_some, base_by, base_at, tail_at, ctype_at}
use Rattle.cx_tctype.proofs.Turns.{skips_more, skips_stop, words_more, words_stop, tail_stars, tail_full, tail_skips, tail_stops}

-- ---- words that are passed over

-- they give nothing
abbrev Skips : List TypeLexeme → Unit {0} → Type 0
Skips a x = AreSkips a

abbrev skip_at : ℕ → List TypeLexeme → Answer TypeLexeme (Unit {0})
skip_at m os = give tt (after_skips os)

skips_step : (n : ℕ) (o : TypeLexeme) (rest : List TypeLexeme) (test : Bool) → is_skipped o.c_kind ≡ test → length (o ∷ rest) < n → Good Skips skip_at n rest → Good Skips skip_at n (o ∷ rest)
skips_step n o rest true so less h =
    takes Skips skip_at skip_at n o rest (omega (arith, less)) (λ m w some. ap (λ (v : List TypeLexeme). give tt v) (skips_more o w so)) (maps Skips (λ b x. Skips (o ∷ b) x) skip_at n rest (λ b x s. more_skips o so s) h)
skips_step n o rest false off less h =
    stays Skips skip_at (λ m w. give tt w) n o rest (omega (arith, less)) (λ m w some. ap (λ (v : List TypeLexeme). give tt v) (skips_stop o w off)) (gives Skips tt n (o ∷ rest) no_skips)

skips_good : (n : ℕ) (os : List TypeLexeme) → length os < n → Good Skips skip_at n os
unfolding after_skips
skips_good n [] less = none_left Skips skip_at (λ m w. give tt w) n (omega (arith, less)) (λ m some. refl) (gives Skips tt n [] no_skips)
skips_good n (o ∷ rest) less = skips_step n o rest (is_skipped o.c_kind) refl less (skips_good n rest (omega (arith, less)))

-- ---- words of integer types

abbrev words_read : Counts → ℕ → List TypeLexeme → Answer TypeLexeme Counts
words_read n m os = read (words_at n os)

words_next : (n : ℕ) (c : Counts) (o : TypeLexeme) (rest : List TypeLexeme) (next : Option Counts) → next_words c (word_of o.c_kind) ≡ next → length (o ∷ rest) < n → ((m : Counts) → Good (AreWords m) (words_read m) n rest) → Good (AreWords c) (words_read c) n (o ∷ rest)
words_next n c o rest (Some m) e less h =
    takes (AreWords c) (words_read c) (words_read m) n o rest (omega (arith, less)) (λ k w some. ap (λ (g : Got TypeLexeme Counts). read g) (words_more c m o w e)) (maps (AreWords m) (λ b x. AreWords c (o ∷ b) x) (words_read m) n rest (λ b x s. more_words o e s) (h m))
words_next n c o rest None e less h =
    stays (AreWords c) (words_read c) (λ m w. give c w) n o rest (omega (arith, less)) (λ k w some. ap (λ (g : Got TypeLexeme Counts). read g) (words_stop c o w e)) (gives (AreWords c) c n (o ∷ rest) no_words)

words_good : (n : ℕ) (os : List TypeLexeme) (c : Counts) → length os < n → Good (AreWords c) (words_read c) n os
unfolding words_at
words_good n [] c less = none_left (AreWords c) (words_read c) (λ m w. give c w) n (omega (arith, less)) (λ m some. refl) (gives (AreWords c) c n [] no_words)
words_good n (o ∷ rest) c less = words_next n c o rest (next_words c (word_of o.c_kind)) refl less (λ m. words_good n rest m (omega (arith, less)))

-- ---- the words of a type

-- an enumeration that has a list has a name
enum_named : (ns : List ℕ) → has_some ns ≡ true → (n : ℕ) × (list_any (λ m. m == n) ns ≡ true)
enum_named [] e = absurd cc
enum_named (n ∷ ns) e = (n, ap (λ (b : Bool). b || list_any (λ m. m == n) ns) same)
  where
    same : (n == n) ≡ true
    same = grind (arith, nat_tests)

module _ (env : Known) where
  abbrev pub small_base : Viable (IsBase env)
  small_base = record { more = a_word tw.Void ∷ []; tree = known void; spelled_so = base_void (a_word tw.Void) refl }

  -- the reader goes on as another one behind a lexeme with which a type begins so
  base_takes : (n : ℕ) (o : TypeLexeme) (rest : List TypeLexeme) (b : Base) (go : List TypeLexeme → Answer TypeLexeme PointeeTree) → length (o ∷ rest) < n → base_of o.c_kind ≡ b → ((w : List TypeLexeme) → base_by env (o ∷ w) w b ≡ go w)
      → Good (λ a x. IsBase env (o ∷ a) x) (λ m w. go w) n rest → Good (IsBase env) (λ m w. base_at env w) n (o ∷ rest)
  unfolding base_at
  base_takes n o rest b go less e f h = takes (IsBase env) (λ m w. base_at env w) (λ m w. go w) n o rest (omega (arith, less)) (λ m w some. ap (base_by env (o ∷ w) w) e ∙ f w) h

  base_fails : (n : ℕ) (o : TypeLexeme) (rest : List TypeLexeme) (b : Base) → length (o ∷ rest) < n → base_of o.c_kind ≡ b → ((w : List TypeLexeme) → base_by env (o ∷ w) w b ≡ fault (length (o ∷ w))) → Good (IsBase env) (λ m w. base_at env w) n (o ∷ rest)
  unfolding base_at
  base_fails n o rest b less e f = stays (IsBase env) (λ m w. base_at env w) (λ m w. fault (length w)) n o rest (omega (arith, less)) (λ m w some. ap (base_by env (o ∷ w) w) e ∙ f w) (fails (IsBase env) n (o ∷ rest) small_base)

  int_good : (n : ℕ) (o : TypeLexeme) (w : IntWord) (rest : List TypeLexeme) → base_of o.c_kind ≡ base.Word w → length rest < n → Good (λ a x. IsBase env (o ∷ a) x) (λ m v. int_from (with_word w no_word) v) n rest
  int_good n o w rest e less = sends (AreWords (with_word w no_word)) (λ a x. IsBase env (o ∷ a) x) (words_read (with_word w no_word)) (λ c. known (int (int_of c))) n rest (λ a c s. base_int o w e s) (words_good n rest (with_word w no_word) less)

  -- ---- struct and union

  abbrev a_tag : Bool → PointeeTree
  a_tag union = tagged a_name.span (tag_found env union None)

  tag_step : (n : ℕ) (o m : TypeLexeme) (union : Bool) (rest : List TypeLexeme) (kind : LexemeKind) → base_of o.c_kind ≡ base.Tag union → m.c_kind ≡ kind → length (m ∷ rest) < n → Good (λ a x. IsBase env (o ∷ a) x) (λ k v. tag_at env union v) n (m ∷ rest)
  tag_step n o m union rest (cl.Name i) e f less =
      takes (λ a x. IsBase env (o ∷ a) x) (λ k v. tag_at env union v) (λ k v. give (tagged m.span (tag_found env union i)) v) n m rest (omega (arith, less)) (λ k v some. ap (tag_by env union m (m ∷ v) v) f)
      (gives (λ a x. IsBase env (o ∷ m ∷ a) x) (tagged m.span (tag_found env union i)) n rest (base_tag o m union i e f))
  tag_step n o m union rest _ e f less =
      stays (λ a x. IsBase env (o ∷ a) x) (λ k v. tag_at env union v) (λ k v. fault (length v)) n m rest (omega (arith, less)) (λ k v some. ap (tag_by env union m (m ∷ v) v) f)
      (fails (λ a x. IsBase env (o ∷ a) x) n (m ∷ rest) (viable (a_tag union) (a_name ∷ []) (base_tag o a_name union None e refl)))

  tag_good : (n : ℕ) (o : TypeLexeme) (union : Bool) (os : List TypeLexeme) → base_of o.c_kind ≡ base.Tag union → length os < n → Good (λ a x. IsBase env (o ∷ a) x) (λ k v. tag_at env union v) n os
  tag_good n o union [] e less =
      none_left (λ a x. IsBase env (o ∷ a) x) (λ k v. tag_at env union v) (λ k v. fault (length v)) n (omega (arith, less)) (λ k some. refl)
      (fails (λ a x. IsBase env (o ∷ a) x) n [] (viable (a_tag union) (a_name ∷ []) (base_tag o a_name union None e refl)))
  tag_good n o union (m ∷ rest) e less = tag_step n o m union rest m.c_kind e refl less

  -- ---- enumerations

  module _ (n : ℕ) (o : TypeLexeme) (e : base_of o.c_kind ≡ base.Enum) (i : ℕ) (named : names_enum env i ≡ true) where
    abbrev a_name_of : TypeLexeme
    a_name_of = record { span = span_between 0 0; kind = l.Name; c_kind = cl.Name (Some i) }

    small_enum : Viable (λ a x. IsBase env (o ∷ a) x)
    small_enum = viable (known (int signed_int)) (a_name_of ∷ []) (base_enum o a_name_of i e refl named)

    -- a name is an enumeration's, or the fault is there
    enum_name : (m : TypeLexeme) (j : ℕ) (rest : List TypeLexeme) (test : Bool) → m.c_kind ≡ cl.Name (Some j) → names_enum env j ≡ test → length (m ∷ rest) < n → Good (λ a x. IsBase env (o ∷ a) x) (λ k v. enum_at env v) n (m ∷ rest)
    enum_name m j rest true f so less =
        takes (λ a x. IsBase env (o ∷ a) x) (λ k v. enum_at env v) (λ k v. give (known (int signed_int)) v) n m rest (omega (arith, less)) (λ k v some. ap (enum_by env (m ∷ v) v) f ∙ ap (λ (b : Bool). cond b (give (known (int signed_int)) v) (fault (suc (length v)))) so)
        (gives (λ a x. IsBase env (o ∷ m ∷ a) x) (known (int signed_int)) n rest (base_enum o m j e f so))
    enum_name m j rest false f off less =
        stays (λ a x. IsBase env (o ∷ a) x) (λ k v. enum_at env v) (λ k v. fault (length v)) n m rest (omega (arith, less)) (λ k v some. ap (enum_by env (m ∷ v) v) f ∙ ap (λ (b : Bool). cond b (give (known (int signed_int)) v) (fault (suc (length v)))) off)
        (fails (λ a x. IsBase env (o ∷ a) x) n (m ∷ rest) small_enum)

    enum_step : (m : TypeLexeme) (rest : List TypeLexeme) (kind : LexemeKind) → m.c_kind ≡ kind → length (m ∷ rest) < n → Good (λ a x. IsBase env (o ∷ a) x) (λ k v. enum_at env v) n (m ∷ rest)
    enum_step m rest (cl.Name (Some j)) f less = enum_name m j rest (names_enum env j) f refl less
    enum_step m rest _ f less =
        stays (λ a x. IsBase env (o ∷ a) x) (λ k v. enum_at env v) (λ k v. fault (length v)) n m rest (omega (arith, less)) (λ k v some. ap (enum_by env (m ∷ v) v) f)
        (fails (λ a x. IsBase env (o ∷ a) x) n (m ∷ rest) small_enum)

    enum_good : (os : List TypeLexeme) → length os < n → Good (λ a x. IsBase env (o ∷ a) x) (λ k v. enum_at env v) n os
    enum_good [] less = none_left (λ a x. IsBase env (o ∷ a) x) (λ k v. enum_at env v) (λ k v. fault (length v)) n (omega (arith, less)) (λ k some. refl) (fails (λ a x. IsBase env (o ∷ a) x) n [] small_enum)
    enum_good (m ∷ rest) less = enum_step m rest m.c_kind refl less

  enum_base : (n : ℕ) (o : TypeLexeme) (rest : List TypeLexeme) (test : Bool) → base_of o.c_kind ≡ base.Enum → has_some env.enums ≡ test → length (o ∷ rest) < n → Good (IsBase env) (λ m w. base_at env w) n (o ∷ rest)
  enum_base n o rest true e so less =
      let h = enum_named env.enums so in
      base_takes n o rest base.Enum (enum_at env) less e (λ w. ap (λ (b : Bool). cond b (enum_at env w) (fault (suc (length w)))) so) (enum_good n o e h.0 h.1 rest (omega (arith, less)))
  enum_base n o rest false e off less = base_fails n o rest base.Enum less e (λ w. ap (λ (b : Bool). cond b (enum_at env w) (fault (suc (length w)))) off)

  -- ---- typedefs

  typedef_low : (n : ℕ) (o : TypeLexeme) (i : ℕ) (t : TypeTree) (rest : List TypeLexeme) (low : Bool) → base_of o.c_kind ≡ base.Name i → value_of i env.typedefs ≡ Some t → is_low t ≡ low → length (o ∷ rest) < n → Good (IsBase env) (λ m w. base_at env w) n (o ∷ rest)
  typedef_low n o i t rest true e f so less =
      base_takes n o rest (base.Name i) (λ w. give (known t) w) less e (λ w. ap (typedef_by (o ∷ w) w) f ∙ ap (λ (b : Bool). cond b (give (known t) w) (fault (suc (length w)))) so)
      (gives (λ a x. IsBase env (o ∷ a) x) (known t) n rest (base_typedef o i t e f so))
  typedef_low n o i t rest false e f off less = base_fails n o rest (base.Name i) less e (λ w. ap (typedef_by (o ∷ w) w) f ∙ ap (λ (b : Bool). cond b (give (known t) w) (fault (suc (length w)))) off)

  typedef_good : (n : ℕ) (o : TypeLexeme) (i : ℕ) (rest : List TypeLexeme) (t : Option TypeTree) → base_of o.c_kind ≡ base.Name i → value_of i env.typedefs ≡ t → length (o ∷ rest) < n → Good (IsBase env) (λ m w. base_at env w) n (o ∷ rest)
  typedef_good n o i rest None e f less = base_fails n o rest (base.Name i) less e (λ w. ap (typedef_by (o ∷ w) w) f)
  typedef_good n o i rest (Some t) e f less = typedef_low n o i t rest (is_low t) e f refl less

  -- ---- all of these

  base_step : (n : ℕ) (o : TypeLexeme) (rest : List TypeLexeme) (b : Base) → base_of o.c_kind ≡ b → length (o ∷ rest) < n → Good (IsBase env) (λ m w. base_at env w) n (o ∷ rest)
  base_step n o rest base.Void e less = base_takes n o rest base.Void (λ w. give (known void) w) less e (λ w. refl) (gives (λ a x. IsBase env (o ∷ a) x) (known void) n rest (base_void o e))
  base_step n o rest (base.Word w) e less = base_takes n o rest (base.Word w) (int_from (with_word w no_word)) less e (λ v. refl) (int_good n o w rest e (omega (arith, less)))
  base_step n o rest (base.Tag union) e less = base_takes n o rest (base.Tag union) (tag_at env union) less e (λ w. refl) (tag_good n o union rest e (omega (arith, less)))
  base_step n o rest base.Enum e less = enum_base n o rest (has_some env.enums) e refl less
  base_step n o rest (base.Name i) e less = typedef_good n o i rest (value_of i env.typedefs) e refl less
  base_step n o rest base.Other e less = base_fails n o rest base.Other less e (λ w. refl)

  base_good : (n : ℕ) (os : List TypeLexeme) → length os < n → Good (IsBase env) (λ m w. base_at env w) n os
  unfolding base_at
  base_good n [] less = none_left (IsBase env) (λ m w. base_at env w) (λ m w. fault (length w)) n (omega (arith, less)) (λ m some. refl) (fails (IsBase env) n [] small_base)
  base_good n (o ∷ rest) less = base_step n o rest (base_of o.c_kind) refl less

-- ---- stars

abbrev tail_read : PointeeTree → ℕ → List TypeLexeme → Answer TypeLexeme PointeeTree
tail_read x m os = read (tail_at x os)

tail_ends : (n : ℕ) (x : PointeeTree) (o : TypeLexeme) (rest : List TypeLexeme) → length (o ∷ rest) < n → ((w : List TypeLexeme) → tail_at x (o ∷ w) ≡ record { tree = x; rest = o ∷ w }) → Good (IsTail x) (tail_read x) n (o ∷ rest)
tail_ends n x o rest less f = stays (IsTail x) (tail_read x) (λ m w. give x w) n o rest (omega (arith, less)) (λ k w some. ap (λ (g : Got TypeLexeme PointeeTree). read g) (f w)) (gives (IsTail x) x n (o ∷ rest) no_tail)

tail_step : (n : ℕ) (x : PointeeTree) (o : TypeLexeme) (rest : List TypeLexeme) (star low skip : Bool) → is_star o.c_kind ≡ star → is_low (pointer x.ctype) ≡ low → is_skipped o.c_kind ≡ skip → length (o ∷ rest) < n → ((y : PointeeTree) → Good (IsTail y) (tail_read y) n rest) → Good (IsTail x) (tail_read x) n (o ∷ rest)
tail_step n x o rest true true skip e f g less h =
    takes (IsTail x) (tail_read x) (tail_read (pointed x)) n o rest (omega (arith, less)) (λ k w some. ap (λ (g : Got TypeLexeme PointeeTree). read g) (tail_stars x o w e f)) (maps (IsTail (pointed x)) (λ b y. IsTail x (o ∷ b) y) (tail_read (pointed x)) n rest (λ b y s. tail_star o e f s) (h (pointed x)))
tail_step n x o rest true false skip e f g less h = tail_ends n x o rest less (λ w. tail_full x o w e f)
tail_step n x o rest false low true e f g less h =
    takes (IsTail x) (tail_read x) (tail_read x) n o rest (omega (arith, less)) (λ k w some. ap (λ (g : Got TypeLexeme PointeeTree). read g) (tail_skips x o w e g)) (maps (IsTail x) (λ b y. IsTail x (o ∷ b) y) (tail_read x) n rest (λ b y s. tail_skip o g s) (h x))
tail_step n x o rest false low false e f g less h = tail_ends n x o rest less (λ w. tail_stops x o w e g)

tail_good : (n : ℕ) (os : List TypeLexeme) (x : PointeeTree) → length os < n → Good (IsTail x) (tail_read x) n os
unfolding tail_at
tail_good n [] x less = none_left (IsTail x) (tail_read x) (λ m w. give x w) n (omega (arith, less)) (λ m some. refl) (gives (IsTail x) x n [] no_tail)
tail_good n (o ∷ rest) x less = tail_step n x o rest (is_star o.c_kind) (is_low (pointer x.ctype)) (is_skipped o.c_kind) refl refl refl less (λ y. tail_good n rest y (omega (arith, less)))

-- ---- types

module _ (env : Known) where
  abbrev pub small_ctype : Viable (IsCType env)
  small_ctype = record { more = a_word tw.Void ∷ []; tree = known void; spelled_so = a_ctype no_skips (base_void (a_word tw.Void) refl) no_tail }

  pub ctype_good : (n : ℕ) (os : List TypeLexeme) → length os < n → Good (IsCType env) (λ m w. ctype_at env w) n os
  unfolding ctype_at
  ctype_good n os less =
      thens Skips (IsCType env) skip_at (λ m u. base_at env u.rest >>= λ x. read (tail_at x.tree x.rest)) n os less (skips_good n os less)
      (λ a u s. viable (known void) (a_word tw.Void ∷ []) (a_ctype s (base_void (a_word tw.Void) refl) no_tail))
      (λ a rest u s less.
      thens (IsBase env) (λ b y. IsCType env (a ++ b) y) (λ m w. base_at env w) (λ m x. read (tail_at x.tree x.rest)) n rest less (base_good env n rest less)
      (λ b x t. viable x [] (a_ctype s t no_tail))
      (λ b rest x t less. maps (IsTail x) (λ c y. IsCType env (a ++ (b ++ c)) y) (tail_read x) n rest (λ c y r. a_ctype s t r) (tail_good n rest x less)))
