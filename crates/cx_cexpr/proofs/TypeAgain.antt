-- What is spelled as a type is read, and no longer front is.
use Rattle.std.proofs.Common.{◌≡◌, ℕ, suc, ◌<◌, ◌≤◌, Bool, true, false, cond, List, [], ◌∷◌, ◌++◌, length, Option, Some, None, refl, sym, ap, ◌∙◌, append_assoc, arith, length-append}
use Rattle.std.proofs.lemmas.Bool.Decides.{nat_tests}
use Rattle.std.proofs.lemmas.Option.{slice_get_within}
use Rattle.std.specs.Prelude.{option_map, slice_get, nat_le, nat_lt, ◌&&◌}
use Rattle.cx_base.specs.declared.number.CInt.{CInt}
use Rattle.cx_base.proofs.General.{true_both}
use Rattle.cx_ctree.specs.Decls.{TagTree}
use Rattle.cx_ctree.specs.Types.{TypeTree, void, int, pointer, tag}
use Rattle.cx_ctree.specs.Path.{type_path}
use Rattle.cx_cword.specs.declared.word.Keyword.TheVariants as k
use Rattle.cx_cword.specs.declared.word.Punctuator.TheVariants as p
use Rattle.cx_cword.specs.declared.lexeme.Lexeme.{Lexeme}
use Rattle.cx_cword.specs.declared.lexeme.LexemeKind.{LexemeKind}
use Rattle.cx_cword.specs.declared.lexeme.LexemeKind.TheVariants as l
use Rattle.cx_cword.specs.Reading.{Is, IsName, past_of, ◌>>=◌}
use Rattle.cx_cname.specs.Known.{Known, tag_place, HasKind, names_enum}
use Rattle.cx_cexpr.specs.declared.kinds.Tail.{Tail}
use Rattle.cx_cexpr.specs.declared.kinds.Tail.TheVariants as tail
use Rattle.cx_cword.specs.declared.mark.Mark.TheVariants as m
use Rattle.cx_cexpr.specs.IntWords.{Counts, no_word, counted, counts_of, is_listed, AreIntWords}
use Rattle.cx_cexpr.specs.Expressions.{AreSkipped, no_skip, also_skip, tag_word, IsBase, void_word, int_words, type_name, tag_name, enum_name, IsType, type_base, type_pointer}
use Rattle.cx_cexpr.specs.Kinds.{word_of, base_of, is_skipped, tail_of}
use Rattle.cx_cexpr.specs.Reading.{Got, Few, low_type, wanted, skip_at, words_at, with_word, same_kind, kind_fits, tag_by, tag_at, enum_at, typedef_by, base_by, base_at, tail_by, tail_at, type_at, enclosed_at}
use Rattle.cx_cexpr.specs.Reading as reading
use Rattle.cx_cexpr.proofs.Lows.{low_type_low, tail_turn}
use Rattle.cx_cexpr.proofs.IntWords.{skip_none, skip_more, skip_stops}
use Rattle.cx_cexpr.proofs.Shapes.{word_base, name_base, tag_base, name_not_skipped}
use Rattle.cx_cexpr.proofs.Spans.{past-append, past_from, past_from-cons, past_after}
use Rattle.cx_cexpr.proofs.Steps.{bind_some}
use Rattle.cx_cexpr.proofs.Counting.{counted_some, counted_by}
use Rattle.cx_cexpr.proofs.Counted.{words_read, NoWord, words_end, words_less, int_same}
use Rattle.cx_cexpr.proofs.TypeSound.{base_filled}
use Rattle.cx_cword.proofs.Marks.{is_fit}

abbrev pub got_of : {A : Type 0} → List Lexeme → A → List Lexeme → Got A
got_of front t rest = record { tree = t; past = past_of front; rest = rest }

-- ---- words that are passed over

-- the first lexeme is no word that is passed over
abbrev pub NoSkip : List Lexeme → Type 0
NoSkip [] = Unit {0}
NoSkip (o ∷ os) = is_skipped o.kind ≡ false

pub skip_ends : (past : ℕ) (rest : List Lexeme) → NoSkip rest → skip_at past rest ≡ record { tree = tt; past = past; rest = rest }
skip_ends past [] h = skip_none past
skip_ends past (o ∷ rest) h = skip_stops past o rest h

pub skip_reads : {a : List Lexeme} → AreSkipped a → (past : ℕ) (rest : List Lexeme) → skip_at past (a ++ rest) ≡ skip_at (past_from past a) rest
skip_reads no_skip past rest = refl
skip_reads (also_skip {os = os} o e h) past rest = skip_more past o (os ++ rest) (ap is_skipped e) ∙ skip_reads h o.span.past rest ∙ ap (λ (v : ℕ). skip_at v rest) (sym (past_from-cons past o os))

-- words that are passed over are read, where no more of them follow
pub skip_there : {a : List Lexeme} → AreSkipped a → (past : ℕ) (rest : List Lexeme) → NoSkip rest → skip_at past (a ++ rest) ≡ record { tree = tt; past = past_from past a; rest = rest }
skip_there {a} h past rest ends = skip_reads h past rest ∙ skip_ends (past_from past a) rest ends

-- ---- the words of a type

-- reading does not fail, and goes only on
pub record GoesOn (rest : List Lexeme) (r : Option (Got TypeTree)) : Type 0 where
  pub g : Got TypeTree
  pub is : r ≡ Some g
  pub less : length g.rest ≤ length rest

kind_self : (union : Bool) → same_kind union (Some union) ≡ true
kind_self true = refl
kind_self false = refl

tag_within : (tags : List TagTree) (at : ℕ) (union : Bool) (o : Option TagTree) → slice_get tags at ≡ o → option_map (λ t. t.union_) o ≡ Some union → at < length tags
tag_within tags at union (Some t) e f = slice_get_within tags at t e
tag_within tags at union None e f = absurd cc

module _ (env : Known) (few : Few env) where
  kind_there : (at : ℕ) (union : Bool) → HasKind env at union → kind_fits env union at ≡ true
  kind_there at union h =
      let within = tag_within env.tags at union (slice_get env.tags at) refl h in
      let low : nat_lt at 4294967296 ≡ true = grind (arith, nat_tests, within, few) in
      true_both (same_kind union (option_map (λ t. t.union_) (slice_get env.tags at))) (nat_lt at 4294967296) (ap (same_kind union) h ∙ kind_self union) low

  -- what the dispatch gives for a name behind a word
  named_goes : {A : Type 0} (o : Lexeme) (n : ℕ) (rest : List Lexeme) (go : Lexeme → ℕ → List Lexeme → Option A) → IsName n o → reading.named (o ∷ rest) go ≡ go o n rest
  named_goes o n rest go e = ap (reading.named_by (go o) rest) e

  tag_reads : (o : Lexeme) (n at : ℕ) (union : Bool) (rest : List Lexeme) → IsName n o → tag_place env n ≡ Some at → HasKind env at union → tag_at env union (o ∷ rest) ≡ Some (record { tree = tag at; past = o.span.past; rest = rest })
  tag_reads o n at union rest called place kind =
      named_goes o n rest (λ o n rest. tag_by env union o rest (tag_place env n)) called ∙ ap (tag_by env union o rest) place
      ∙ ap (λ (b : Bool). cond b (Some (record { tree = tag at; past = o.span.past; rest = rest })) None) (kind_there at union kind)

  enum_reads : (o : Lexeme) (n : ℕ) (rest : List Lexeme) → IsName n o → names_enum env n ≡ true → enum_at env (o ∷ rest) ≡ Some (record { tree = int Rattle.cx_ctree.specs.Conversions.signed_int; past = o.span.past; rest = rest })
  enum_reads o n rest called known =
      let yes' : Lexeme → List Lexeme → Option (Got TypeTree) = λ o rest. Some (record { tree = int Rattle.cx_ctree.specs.Conversions.signed_int; past = o.span.past; rest = rest }) in
      named_goes o n rest (λ o n rest. cond (names_enum env n) (yes' o rest) None) called ∙ ap (λ (b : Bool). cond b (yes' o rest) None) known

  -- the first word of a list, and what reading goes on with
  record Opens (ws : List Lexeme) (t : CInt) : Type 0 where
    o : Lexeme
    os : List Lexeme
    n : Counts
    c : Counts
    parts : ws ≡ o ∷ os
    begins : (rest : List Lexeme) → base_by env o rest (base_of o.kind) ≡ Some (reading.int_words (words_at n o.span.past rest))
    counts_are : counts_of (o ∷ []) ≡ Some n
    all : counts_of ws ≡ Some c
    listed : is_listed c ≡ true
    same : t ≡ reading.int_of c

  opens : (ws : List Lexeme) (t : CInt) → AreIntWords ws t → Opens ws t
  opens [] t h = absurd (cc h.some_word)
  opens (o ∷ os) t h =
      let b = bind_some (counts_of os) (counted o.kind) h.counts h.counted_are in
      let u = counted_some o.kind b.0 h.counts b.2 in
      record {
        o = o;
        os = os;
        n = with_word u.0 no_word;
        c = h.counts;
        parts = refl;
        begins = λ rest. ap (base_by env o rest) (word_base o.kind u.0 u.1);
        counts_are = counted_by o.kind u.0 no_word u.1;
        all = h.counted_are;
        listed = h.listed;
        same = int_same (o ∷ os) t h;
      }

  base_dispatch : (d : ℕ) (o : Lexeme) (rest : List Lexeme) (x : Got TypeTree) → base_by env o rest (base_of o.kind) ≡ Some x → type_path x.tree ≤ d → base_at env d (o ∷ rest) ≡ Some x
  unfolding base_at
  base_dispatch d o rest x e low = ap (λ (r : Option (Got TypeTree)). r >>= low_type d) e ∙ low_type_low d x low

  int_reads : (d : ℕ) (ws : List Lexeme) (t : CInt) (h : Opens ws t) (more : List Lexeme) → 1 ≤ d → base_at env d (ws ++ more) ≡ Some (reading.int_words (words_at h.c (past_of ws) more))
  int_reads d ws t h more low =
      let grouped : counts_of ((h.o ∷ []) ++ h.os) ≡ Some h.c = ap counts_of (sym h.parts) ∙ h.all in
      let read = words_read h.os (h.o ∷ []) h.n h.c h.o.span.past more h.counts_are grouped h.listed in
      let past : past_from h.o.span.past h.os ≡ past_of ws = sym (past_from-cons 0 h.o h.os) ∙ ap past_of (sym h.parts) in
      ap (λ (v : List Lexeme). base_at env d (v ++ more)) h.parts
      ∙ base_dispatch d h.o (h.os ++ more) (reading.int_words (words_at h.n h.o.span.past (h.os ++ more))) (h.begins (h.os ++ more)) low
      ∙ ap (λ (x : Got Counts). Some (reading.int_words x)) (read ∙ ap (λ (v : ℕ). words_at h.c v more) past)

  int_there : (d : ℕ) (ws : List Lexeme) (t : CInt) → AreIntWords ws t → (more : List Lexeme) → 1 ≤ d → NoWord more → base_at env d (ws ++ more) ≡ Some (got_of ws (int t) more)
  int_there d ws t a more low ends =
      let h = opens ws t a in
      int_reads d ws t h more low ∙ ap (λ (x : Got Counts). Some (reading.int_words x)) (words_end h.c (past_of ws) more ends)
      ∙ ap (λ (v : CInt). Some (got_of ws (int v) more)) (sym h.same)

  int_goes : (d : ℕ) (ws : List Lexeme) (t : CInt) → AreIntWords ws t → (more : List Lexeme) → 1 ≤ d → GoesOn more (base_at env d (ws ++ more))
  int_goes d ws t a more low =
      let h = opens ws t a in
      record { g = reading.int_words (words_at h.c (past_of ws) more); is = int_reads d ws t h more low; less = words_less more h.c (past_of ws) }

  -- where no word of an integer type follows, the words of a type are read
  pub base_there : {b : List Lexeme} {t : TypeTree} → IsBase env b t → (d : ℕ) (more : List Lexeme) → NoWord more → type_path t ≤ d → base_at env d (b ++ more) ≡ Some (got_of b t more)
  base_there (void_word o e) d more ends low = base_dispatch d o more (got_of (o ∷ []) void more) (ap (λ (x : LexemeKind). base_by env o more (base_of x)) e) low
  base_there (int_words {os = os} t h) d more ends low = int_there d os t h more low ends
  base_there (type_name o n t e f) d more ends low = base_dispatch d o more (got_of (o ∷ []) t more) (ap (base_by env o more) (name_base o.kind n e) ∙ ap (typedef_by o more) f) low
  base_there (tag_name o m' n at union e f g h) d more ends low = base_dispatch d o (m' ∷ more) (got_of (o ∷ m' ∷ []) (tag at) more) (ap (base_by env o (m' ∷ more)) (tag_base o.kind union e) ∙ tag_reads m' n at union more f g h) low
  base_there (enum_name o m' n e f g) d more ends low = base_dispatch d o (m' ∷ more) (got_of (o ∷ m' ∷ []) (int Rattle.cx_ctree.specs.Conversions.signed_int) more) (ap (λ (x : LexemeKind). base_by env o (m' ∷ more) (base_of x)) e ∙ enum_reads m' n more f g) low

  stays : (b : List Lexeme) (t : TypeTree) (more : List Lexeme) (r : Option (Got TypeTree)) → r ≡ Some (got_of b t more) → GoesOn more r
  stays b t more r e = record { g = got_of b t more; is = e; less = omega arith }

  -- whatever follows
  pub base_longest : {b : List Lexeme} {t : TypeTree} → IsBase env b t → (d : ℕ) (more : List Lexeme) → type_path t ≤ d → GoesOn more (base_at env d (b ++ more))
  base_longest (void_word o e) d more low = stays (o ∷ []) void more (base_at env d (o ∷ more)) (base_dispatch d o more (got_of (o ∷ []) void more) (ap (λ (x : LexemeKind). base_by env o more (base_of x)) e) low)
  base_longest (int_words {os = os} t h) d more low = int_goes d os t h more low
  base_longest (type_name o n t e f) d more low = stays (o ∷ []) t more (base_at env d (o ∷ more)) (base_dispatch d o more (got_of (o ∷ []) t more) (ap (base_by env o more) (name_base o.kind n e) ∙ ap (typedef_by o more) f) low)
  base_longest (tag_name o m' n at union e f g h) d more low = stays (o ∷ m' ∷ []) (tag at) more (base_at env d (o ∷ m' ∷ more)) (base_dispatch d o (m' ∷ more) (got_of (o ∷ m' ∷ []) (tag at) more) (ap (base_by env o (m' ∷ more)) (tag_base o.kind union e) ∙ tag_reads m' n at union more f g h) low)
  base_longest (enum_name o m' n e f g) d more low = stays (o ∷ m' ∷ []) (int Rattle.cx_ctree.specs.Conversions.signed_int) more (base_at env d (o ∷ m' ∷ more)) (base_dispatch d o (m' ∷ more) (got_of (o ∷ m' ∷ []) (int Rattle.cx_ctree.specs.Conversions.signed_int) more) (ap (λ (x : LexemeKind). base_by env o (m' ∷ more) (base_of x)) e ∙ enum_reads m' n more f g) low)

-- ---- stars, and words that are passed over

low_test : (t : TypeTree) (d : ℕ) → type_path t ≤ d → nat_le (type_path t) d ≡ true
low_test t d h = grind (arith, nat_tests)

tail_star_reads : (d : ℕ) (t : TypeTree) (past : ℕ) (o : Lexeme) (rest : List Lexeme) → Is p.Star o → type_path (pointer t) ≤ d → tail_at d t past (o ∷ rest) ≡ tail_at d (pointer t) o.span.past rest
tail_star_reads d t past o rest e low =
    tail_turn d t past o rest ∙ ap (λ (x : LexemeKind). tail_by (λ u. tail_at d u o.span.past rest) d (record { tree = t; past = past; rest = o ∷ rest }) (tail_of x)) e
    ∙ ap (λ (b : Bool). cond b (tail_at d (pointer t) o.span.past rest) (record { tree = t; past = past; rest = o ∷ rest })) (low_test (pointer t) d low)

tail_skips : {c : List Lexeme} → AreSkipped c → (d : ℕ) (t : TypeTree) (past : ℕ) (rest : List Lexeme) → tail_at d t past (c ++ rest) ≡ tail_at d t (past_from past c) rest
tail_skips no_skip d t past rest = refl
tail_skips (also_skip {os = os} o e h) d t past rest =
    tail_turn d t past o (os ++ rest) ∙ ap (λ (x : LexemeKind). tail_by (λ u. tail_at d u o.span.past (os ++ rest)) d (record { tree = t; past = past; rest = o ∷ (os ++ rest) }) (tail_of x)) e
    ∙ tail_skips h d t o.span.past rest ∙ ap (λ (v : ℕ). tail_at d t v rest) (sym (past_from-cons past o os))

-- the first lexeme is neither a star nor a word that is passed over
abbrev pub NoTail : List Lexeme → Type 0
NoTail [] = Unit {0}
NoTail (o ∷ os) = tail_of o.kind ≡ tail.Other

pub tail_ends : (d : ℕ) (t : TypeTree) (past : ℕ) (rest : List Lexeme) → NoTail rest → tail_at d t past rest ≡ record { tree = t; past = past; rest = rest }
tail_ends d t past [] h = Rattle.cx_cexpr.proofs.Lows.tail_none d t past
tail_ends d t past (o ∷ rest) h = tail_turn d t past o rest ∙ ap (tail_by (λ u. tail_at d u o.span.past rest) d (record { tree = t; past = past; rest = o ∷ rest })) h

pick_less : (b : Bool) (k : ℕ) (g h : Got TypeTree) → length g.rest ≤ k → length h.rest ≤ k → length (cond b g h).rest ≤ k
pick_less true k g h p q = p
pick_less false k g h p q = q

tail_step : (again : TypeTree → Got TypeTree) (d : ℕ) (x : Got TypeTree) (k : ℕ) (next : Tail) → ((u : TypeTree) → length (again u).rest ≤ k) → length x.rest ≤ k → length (tail_by again d x next).rest ≤ k
tail_step again d x k tail.Star goes low = pick_less (nat_le (type_path (pointer x.tree)) d) k (again (pointer x.tree)) x (goes (pointer x.tree)) low
tail_step again d x k tail.Skipped goes low = goes x.tree
tail_step again d x k tail.Other goes low = low

pub tail_less : (os : List Lexeme) (d : ℕ) (t : TypeTree) (past : ℕ) → length (tail_at d t past os).rest ≤ length os
unfolding tail_at
tail_less [] d t past = omega arith
tail_less (o ∷ os) d t past = tail_step (λ u. tail_at d u o.span.past os) d (record { tree = t; past = past; rest = o ∷ os }) (suc (length os)) (tail_of o.kind) (λ u. let h = tail_less os d u o.span.past in omega (arith, h)) (omega arith)

-- ---- types

word_not_skipped : (kind : LexemeKind) (u : Rattle.cx_cexpr.specs.declared.kinds.IntWord.IntWord) → word_of kind ≡ Some u → is_skipped kind ≡ false
word_not_skipped (l.Keyword k.Skipped) u e = absurd cc
word_not_skipped (l.Keyword _) u e = refl
word_not_skipped _ u e = refl

words_no_skip : (env : Known) (os : List Lexeme) (t : CInt) → AreIntWords os t → (rest : List Lexeme) → NoSkip (os ++ rest)
words_no_skip env [] t h rest = absurd (cc h.some_word)
words_no_skip env (o ∷ os) t h rest =
    let b = bind_some (counts_of os) (counted o.kind) h.counts h.counted_are in
    let u = counted_some o.kind b.0 h.counts b.2 in
    word_not_skipped o.kind u.0 u.1

tag_not_skipped : (union : Bool) → is_skipped (l.Keyword (tag_word union)) ≡ false
tag_not_skipped false = refl
tag_not_skipped true = refl

pub base_no_skip : {env : Known} {b : List Lexeme} {t : TypeTree} → IsBase env b t → (rest : List Lexeme) → NoSkip (b ++ rest)
base_no_skip (void_word o e) rest = ap is_skipped e
base_no_skip {env} (int_words {os = os} t h) rest = words_no_skip env os t h rest
base_no_skip (type_name o n t e f) rest = name_not_skipped o.kind n e
base_no_skip (tag_name o m' n at union e f g h) rest = ap is_skipped e ∙ tag_not_skipped union
base_no_skip (enum_name o m' n e f g) rest = ap is_skipped e

skipped_no_word : {c : List Lexeme} → AreSkipped c → (rest : List Lexeme) → NoWord rest → NoWord (c ++ rest)
skipped_no_word no_skip rest h = h
skipped_no_word (also_skip o e i) rest h = ap word_of e

module _ (env : Known) (few : Few env) where
  -- from the words of a type on, reading goes on with what follows them
  from_base : (d : ℕ) {a : List Lexeme} (b more : List Lexeme) (x : Got TypeTree) → AreSkipped a → NoSkip (b ++ more) → base_at env d (b ++ more) ≡ Some x → type_at env d (a ++ (b ++ more)) ≡ Some (tail_at d x.tree x.past x.rest)
  unfolding type_at
  from_base d b more x skips ends read =
      ap (λ (y : Got (Unit {0})). base_at env d y.rest >>= λ x. Some (tail_at d x.tree x.past x.rest)) (skip_there skips 0 (b ++ more) ends)
      ∙ ap (λ (r : Option (Got TypeTree)). r >>= λ x. Some (tail_at d x.tree x.past x.rest)) read

  -- where no word of an integer type follows directly, reading comes to the end of each derived front, and goes on there; whatever follows, it does not fail
  pub record Passes (d : ℕ) (front : List Lexeme) (t : TypeTree) : Type 0 where
    pub reads : (more : List Lexeme) → NoWord more → type_at env d (front ++ more) ≡ Some (tail_at d t (past_of front) more)
    pub goes : (more : List Lexeme) → GoesOn more (type_at env d (front ++ more))

  base_ends : (a b c : List Lexeme) → 0 < length b → past_from (past_of b) c ≡ past_of ((a ++ b) ++ c)
  base_ends a b c h = sym (ap past_of (append_assoc a b c) ∙ past-append a (b ++ c) (let e = length-append b c in omega (arith, e, h)) ∙ past_after b c h)

  after_base : (d : ℕ) {a b c : List Lexeme} {t : TypeTree} → AreSkipped a → IsBase env b t → AreSkipped c → type_path t ≤ d → (more : List Lexeme) → NoWord (c ++ more) → type_at env d (((a ++ b) ++ c) ++ more) ≡ Some (tail_at d t (past_of ((a ++ b) ++ c)) more)
  after_base d {a} {b} {c} {t} skips words after low more ends =
      let parts : ((a ++ b) ++ c) ++ more ≡ a ++ (b ++ (c ++ more)) = append_assoc (a ++ b) c more ∙ append_assoc a b (c ++ more) in
      ap (type_at env d) parts ∙ from_base d b (c ++ more) (got_of b t (c ++ more)) skips (base_no_skip words (c ++ more)) (base_there env few words d (c ++ more) ends low)
      ∙ ap Some (tail_skips after d t (past_of b) more ∙ ap (λ (v : ℕ). tail_at d t v more) (base_ends a b c (base_filled env words)))

  goes_from : (d : ℕ) (t : TypeTree) (past : ℕ) (more : List Lexeme) (r : Option (Got TypeTree)) → r ≡ Some (tail_at d t past more) → GoesOn more r
  goes_from d t past more r e = record { g = tail_at d t past more; is = e; less = tail_less more d t past }

  base_goes : (d : ℕ) {a b c : List Lexeme} {t : TypeTree} → AreSkipped a → IsBase env b t → AreSkipped c → type_path t ≤ d → (more : List Lexeme) → GoesOn more (type_at env d (((a ++ b) ++ c) ++ more))
  base_goes d {a} {b} {t = t} skips words no_skip low more =
      let h = base_longest env few words d more low in
      let x : Got TypeTree = h.g in
      let parts : ((a ++ b) ++ []) ++ more ≡ a ++ (b ++ more) = append_assoc (a ++ b) [] more ∙ append_assoc a b more in
      record { g = tail_at d x.tree x.past x.rest; is = ap (type_at env d) parts ∙ from_base d b more x skips (base_no_skip words more) h.is; less = let f = tail_less x.rest d x.tree x.past in omega (arith, f, h.less) }
  base_goes d {a} {b} {t = t} skips words (also_skip {os = os} o e i) low more =
      goes_from d t (past_of ((a ++ b) ++ (o ∷ os))) more (type_at env d (((a ++ b) ++ (o ∷ os)) ++ more)) (after_base d skips words (also_skip o e i) low more (ap word_of e))

  pub passes : (d : ℕ) {front : List Lexeme} {t : TypeTree} → IsType env front t → type_path t ≤ d → Passes d front t
  passes d (type_base skips words after) low = record {
    reads = λ more ends. after_base d skips words after low more (skipped_no_word after more ends);
    goes = λ more. base_goes d skips words after low more;
  }
  passes d (type_pointer {a = a} {b = b} {t = t} o h e skips) low =
      let q = passes d h (omega (arith, low)) in
      let front : List Lexeme = a ++ o ∷ b in
      let reads : (more : List Lexeme) → type_at env d (front ++ more) ≡ Some (tail_at d (pointer t) (past_of front) more) = λ more.
      let parts : front ++ more ≡ a ++ (o ∷ (b ++ more)) = append_assoc a (o ∷ b) more in
      let past : past_from o.span.past b ≡ past_of front = sym (past-append a (o ∷ b) (omega arith) ∙ past_from-cons 0 o b) in
      ap (type_at env d) parts ∙ q.reads (o ∷ (b ++ more)) (ap word_of e)
      ∙ ap Some (tail_star_reads d t (past_of a) o (b ++ more) e low ∙ tail_skips skips d (pointer t) o.span.past more ∙ ap (λ (v : ℕ). tail_at d (pointer t) v more) past) in
      record {
        reads = λ more ends. reads more;
        goes = λ more. goes_from d (pointer t) (past_of front) more (type_at env d (front ++ more)) (reads more);
      }

  -- a type is read where no word of an integer type, no star and no word that is passed over follows
  pub type_there : (d : ℕ) {front : List Lexeme} {t : TypeTree} → IsType env front t → (rest : List Lexeme) → NoWord rest → NoTail rest → type_path t ≤ d → type_at env d (front ++ rest) ≡ Some (got_of front t rest)
  type_there d {front} {t} h rest no_word no_tail low = (passes d h low).reads rest no_word ∙ ap Some (tail_ends d t (past_of front) rest no_tail)

  -- where a front is derived reading gives one, and none that is derived is longer
  pub type_longest : (d : ℕ) {front : List Lexeme} {t : TypeTree} → IsType env front t → (rest : List Lexeme) → type_path t ≤ d → GoesOn rest (type_at env d (front ++ rest))
  type_longest d h rest low = (passes d h low).goes rest

  -- a type in parentheses is read
  pub enclosed_there : (d : ℕ) {front : List Lexeme} {t : TypeTree} (o c : Lexeme) (rest : List Lexeme) → Is p.OpenParen o → IsType env front t → Is p.CloseParen c → type_path t ≤ d → enclosed_at env d (o ∷ (front ++ c ∷ rest)) ≡ Some (record { tree = t; past = c.span.past; rest = rest })
  unfolding enclosed_at
  enclosed_there d {front} {t} o c rest is h close low =
      let shut : Got TypeTree → Lexeme → List Lexeme → Option (Got TypeTree) = λ x c after. Some (record { tree = x.tree; past = c.span.past; rest = after }) in
      let next : List Lexeme → Option (Got TypeTree) = λ rest. type_at env d rest >>= λ x. wanted m.CloseParen x.rest (shut x) in
      ap (λ (b : Bool). cond b (next (front ++ c ∷ rest)) None) (is_fit m.OpenParen o.kind is)
      ∙ ap (λ (r : Option (Got TypeTree)). r >>= λ x. wanted m.CloseParen x.rest (shut x)) (type_there d h (c ∷ rest) (ap word_of close) (ap tail_of close) low)
      ∙ ap (λ (b : Bool). cond b (shut (got_of front t (c ∷ rest)) c rest) None) (is_fit m.CloseParen c.kind close)
