-- What is read as a type is spelled so.
use Rattle.std.proofs.Common.{◌≡◌, ℕ, ◌<◌, ◌≤◌, Bool, true, false, cond, List, [], ◌∷◌, ◌++◌, length, Option, Some, None, refl, sym, ap, ◌∙◌, subst, append_assoc, append-nil, arith}
use Rattle.std.proofs.lemmas.Bool.Decides.{nat_tests}
use Rattle.std.specs.Prelude.{option_map, slice_get, nat_le, nat_lt, ◌&&◌}
use Rattle.std.proofs.lemmas.Option.{same_Some}
use Rattle.cx_ctree.specs.Types.{TypeTree, int, pointer, tag}
use Rattle.cx_ctree.specs.Path.{type_path}
use Rattle.cx_cword.specs.declared.word.Keyword.TheVariants as k
use Rattle.cx_cword.specs.declared.word.Punctuator.TheVariants as p
use Rattle.cx_cword.specs.declared.lexeme.Lexeme.{Lexeme}
use Rattle.cx_cword.specs.Reading.{Is, IsWord, IsName, past_of, ◌>>=◌}
use Rattle.cx_cname.specs.Known.{Known, value_of, tag_place, HasKind, names_enum}
use Rattle.cx_cexpr.specs.declared.kinds.Base.{Base}
use Rattle.cx_cexpr.specs.declared.kinds.Base.TheVariants as base
use Rattle.cx_cexpr.specs.declared.kinds.Tail.{Tail}
use Rattle.cx_cexpr.specs.declared.kinds.Tail.TheVariants as tail
use Rattle.cx_cword.specs.declared.mark.Mark.TheVariants as m
use Rattle.cx_base.specs.declared.number.CInt.{CInt}
use Rattle.cx_cexpr.specs.IntWords.{no_word, AreIntWords}
use Rattle.cx_cexpr.specs.Expressions.{AreSkipped, no_skip, also_skip, IsBase, void_word, int_words, type_name, tag_name, enum_name, IsType, type_base, type_pointer}
use Rattle.cx_cexpr.specs.Kinds.{base_of, is_skipped, tail_of}
use Rattle.cx_cexpr.specs.Reading.{Got, low_type, wanted, named, skip_at, words_at, with_word, same_kind, kind_fits, tag_by, tag_at, enum_at, typedef_by, base_by, base_at, tail_by, tail_at, type_at, enclosed_at}
use Rattle.cx_cexpr.specs.Reading as reading
use Rattle.cx_cexpr.proofs.IntWords.{first_listed}
use Rattle.cx_cexpr.proofs.Shapes.{skipped_is, tail_star, tail_skipped, base_word_is, base_void, base_enum, base_tag, base_named}
use Rattle.cx_cexpr.proofs.Spans.{past-append, past_from, past_from-cons}
use Rattle.cx_cexpr.proofs.Steps.{bind_some, at_first, test_some, wanted_some, named_some, low_type_some, Found}
use Rattle.cx_cexpr.proofs.Counting.{counted_by, words_sound, int_of_words}
use Rattle.cx_cword.specs.Marks.{fits}
use Rattle.cx_cword.proofs.Marks.{fits_is}

-- ---- words that are passed over

pub record PassedOver (past : ℕ) (whole : List Lexeme) (g : Got (Unit {0})) : Type 0 where
  pub front : List Lexeme
  pub parts : whole ≡ front ++ g.rest
  pub words : AreSkipped front
  pub ends : past_from past front ≡ g.past

one_passed : (past : ℕ) (o : Lexeme) (os : List Lexeme) (g : Got (Unit {0})) → is_skipped o.kind ≡ true → PassedOver o.span.past os g → PassedOver past (o ∷ os) g
one_passed past o os g e h = record {
  front = o ∷ h.front;
  parts = ap (λ (r : List Lexeme). o ∷ r) h.parts;
  words = also_skip o (skipped_is o.kind e) h.words;
  ends = past_from-cons past o h.front ∙ h.ends;
}

none_passed : (past : ℕ) (os : List Lexeme) → PassedOver past os (record { tree = tt; past = past; rest = os })
none_passed past os = record { front = []; parts = refl; words = no_skip; ends = refl }

pick_passed : (past : ℕ) (os : List Lexeme) (b : Bool) (g h : Got (Unit {0})) → (b ≡ true → PassedOver past os g) → PassedOver past os h → PassedOver past os (cond b g h)
pick_passed past os true g h yes' no' = yes' refl
pick_passed past os false g h yes' no' = no'

pub skip_sound : (past : ℕ) (os : List Lexeme) → PassedOver past os (skip_at past os)
unfolding skip_at
skip_sound past [] = none_passed past []
skip_sound past (o ∷ os) = pick_passed past (o ∷ os) (is_skipped o.kind) (skip_at o.span.past os) (record { tree = tt; past = past; rest = o ∷ os })
    (λ e. one_passed past o os (skip_at o.span.past os) e (skip_sound o.span.past os)) (none_passed past (o ∷ os))

-- ---- the words of a type

abbrev pub FoundBase : Known → ℕ → List Lexeme → Got TypeTree → Type 0
FoundBase env d whole g = Found type_path (IsBase env) d whole g

abbrev pub FoundType : Known → ℕ → List Lexeme → Got TypeTree → Type 0
FoundType env d whole g = Found type_path (IsType env) d whole g

-- a type of the words, whatever its height
record Spelled (env : Known) (whole : List Lexeme) (g : Got TypeTree) : Type 0 where
  front : List Lexeme
  parts : whole ≡ front ++ g.rest
  words : IsBase env front g.tree
  ends : past_of front ≡ g.past

module _ (env : Known) where
  word_spelled : (o : Lexeme) (rest : List Lexeme) (u : Rattle.cx_cexpr.specs.declared.kinds.IntWord.IntWord) → base_of o.kind ≡ base.Word u → Spelled env (o ∷ rest) (reading.int_words (words_at (with_word u no_word) o.span.past rest))
  word_spelled o rest u e =
      let w = words_sound rest (o ∷ rest) (o ∷ []) (with_word u no_word) o.span.past refl (counted_by o.kind u no_word (base_word_is o.kind u e)) (first_listed u) refl (omega arith) in
      record { front = w.front; parts = w.parts; words = int_words _ (int_of_words w.front _ w.counts_are w.listed w.filled); ends = w.past }

  kind_same : (union : Bool) (o : Option Bool) → same_kind union o ≡ true → o ≡ Some union
  kind_same false (Some false) e = refl
  kind_same true (Some true) e = refl
  kind_same _ _ e = absurd cc

  both : (a b : Bool) → (a && b) ≡ true → a ≡ true
  both true b e = refl
  both false b e = e

  tag_by_some : (union : Bool) (o : Lexeme) (rest : List Lexeme) (place : Option ℕ) (g : Got TypeTree) → tag_by env union o rest place ≡ Some g
      → (at : ℕ) × (place ≡ Some at) × (HasKind env at union) × (◌≡◌ {A = Got TypeTree} (record { tree = tag at; past = o.span.past; rest = rest }) g)
  tag_by_some union o rest None g e = absurd cc
  tag_by_some union o rest (Some at) g e =
      let b = test_some (kind_fits env union at) (Some (record { tree = tag at; past = o.span.past; rest = rest })) g e in
      (at, refl, kind_same union (option_map (λ t. t.union_) (slice_get env.tags at)) (both (same_kind union (option_map (λ t. t.union_) (slice_get env.tags at))) (nat_lt at 4294967296) b.0), same_Some _ g b.1)

  tag_spelled : (o : Lexeme) (rest : List Lexeme) (union : Bool) (g : Got TypeTree) → base_of o.kind ≡ base.Tag union → tag_at env union rest ≡ Some g → Spelled env (o ∷ rest) g
  tag_spelled o rest union g is e =
      let h = named_some rest (λ o n rest. tag_by env union o rest (tag_place env n)) g e in
      let t = tag_by_some union h.0 h.2 (tag_place env h.1) g h.5 in
      subst (Spelled env (o ∷ rest)) t.3 (record { front = o ∷ h.0 ∷ []; parts = ap (λ (r : List Lexeme). o ∷ r) h.3; words = tag_name o h.0 h.1 t.0 union (base_tag o.kind union is) h.4 t.1 t.2; ends = refl })

  enum_spelled : (o : Lexeme) (rest : List Lexeme) (g : Got TypeTree) → base_of o.kind ≡ base.Enum → enum_at env rest ≡ Some g → Spelled env (o ∷ rest) g
  enum_spelled o rest g is e =
      let go : Lexeme → ℕ → List Lexeme → Option (Got TypeTree) = λ o n rest. cond (names_enum env n) (Some (record { tree = int Rattle.cx_ctree.specs.Conversions.signed_int; past = o.span.past; rest = rest })) None in
      let h = named_some rest go g e in
      let t = test_some (names_enum env h.1) (Some (record { tree = int Rattle.cx_ctree.specs.Conversions.signed_int; past = h.0.span.past; rest = h.2 })) g h.5 in
      subst (Spelled env (o ∷ rest)) (same_Some _ g t.1) (record { front = o ∷ h.0 ∷ []; parts = ap (λ (r : List Lexeme). o ∷ r) h.3; words = enum_name o h.0 h.1 (base_enum o.kind is) h.4 t.0; ends = refl })

  typedef_some : (o : Lexeme) (rest : List Lexeme) (n : ℕ) (found : Option TypeTree) (g : Got TypeTree) → IsName n o → value_of n env.typedefs ≡ found → typedef_by o rest found ≡ Some g → Spelled env (o ∷ rest) g
  typedef_some o rest n None g called is e = absurd cc
  typedef_some o rest n (Some t) g called is e = subst (Spelled env (o ∷ rest)) (same_Some _ g e) (record { front = o ∷ []; parts = refl; words = type_name o n t called is; ends = refl })

  base_spelled : (o : Lexeme) (rest : List Lexeme) (b : Base) (g : Got TypeTree) → base_of o.kind ≡ b → base_by env o rest b ≡ Some g → Spelled env (o ∷ rest) g
  base_spelled o rest base.Void g is e = subst (Spelled env (o ∷ rest)) (same_Some _ g e) (record { front = o ∷ []; parts = refl; words = void_word o (base_void o.kind is); ends = refl })
  base_spelled o rest (base.Word u) g is e = subst (Spelled env (o ∷ rest)) (same_Some _ g e) (word_spelled o rest u is)
  base_spelled o rest (base.Tag union) g is e = tag_spelled o rest union g is e
  base_spelled o rest base.Enum g is e = enum_spelled o rest g is e
  base_spelled o rest (base.Name n) g is e = typedef_some o rest n (value_of n env.typedefs) g (base_named o.kind n is) refl e
  base_spelled o rest base.Other g is e = absurd cc

  pub base_sound : (d : ℕ) (os : List Lexeme) (g : Got TypeTree) → base_at env d os ≡ Some g → FoundBase env d os g
  unfolding base_at
  base_sound d os g e =
      let h = at_first os (λ o rest. base_by env o rest (base_of o.kind) >>= low_type d) g e in
      let b = bind_some (base_by env h.0 h.1 (base_of h.0.kind)) (low_type d) g h.3 in
      let m = low_type_some d b.0 g b.2 in
      let s = base_spelled h.0 h.1 (base_of h.0.kind) b.0 refl b.1 in
      subst (FoundBase env d os) m.1 (record { front = s.front; parts = h.2 ∙ s.parts; spelled_so = s.words; past = s.ends; low = m.0 })

  -- ---- types

  skips_more : {a : List Lexeme} → AreSkipped a → (o : Lexeme) → IsWord k.Skipped o → AreSkipped (a ++ o ∷ [])
  skips_more no_skip o e = also_skip o e no_skip
  skips_more (also_skip n f h) o e = also_skip n f (skips_more h o e)

  -- a word that is passed over may follow a type
  type_skips : {a : List Lexeme} {t : TypeTree} → IsType env a t → (o : Lexeme) → IsWord k.Skipped o → IsType env (a ++ o ∷ []) t
  type_skips (type_base {a = a} {b = b} {c = c} {t = t} h i j) o e = subst (λ (v : List Lexeme). IsType env v t) (sym (append_assoc (a ++ b) c (o ∷ []))) (type_base h i (skips_more j o e))
  type_skips (type_pointer {a = a} {b = b} {t = t} n h f j) o e = subst (λ (v : List Lexeme). IsType env v (pointer t)) (sym (append_assoc a (n ∷ b) (o ∷ []))) (type_pointer n h f (skips_more j o e))

  one_more : (d : ℕ) (whole os front : List Lexeme) (t u : TypeTree) (o : Lexeme) → whole ≡ front ++ o ∷ os → IsType env (front ++ o ∷ []) u → type_path u ≤ d → FoundType env d whole (record { tree = u; past = o.span.past; rest = os })
  one_more d whole os front t u o parts so low = record { front = front ++ o ∷ []; parts = parts ∙ sym (append_assoc front (o ∷ []) os); spelled_so = so; past = past-append front (o ∷ []) (omega arith); low = low }

  pick_type : (d : ℕ) (whole : List Lexeme) (b : Bool) (g h : Got TypeTree) → (b ≡ true → FoundType env d whole g) → FoundType env d whole h → FoundType env d whole (cond b g h)
  pick_type d whole true g h yes' no' = yes' refl
  pick_type d whole false g h yes' no' = no'

  low_test : (t : TypeTree) (d : ℕ) → nat_le (type_path t) d ≡ true → type_path t ≤ d
  low_test t d e = grind (arith, nat_tests)

  tail_step : (d : ℕ) (whole os : List Lexeme) (t : TypeTree) (past : ℕ) (o : Lexeme) (again : TypeTree → Got TypeTree)
      → ((u : TypeTree) → FoundType env d whole (record { tree = u; past = o.span.past; rest = os }) → FoundType env d whole (again u))
      → FoundType env d whole (record { tree = t; past = past; rest = o ∷ os })
      → (next : Tail) → tail_of o.kind ≡ next → FoundType env d whole (tail_by again d (record { tree = t; past = past; rest = o ∷ os }) next)
  tail_step d whole os t past o again goes f tail.Other is = f
  tail_step d whole os t past o again goes f tail.Skipped is = goes t (one_more d whole os f.front t t o f.parts (type_skips f.spelled_so o (tail_skipped o.kind is)) f.low)
  tail_step d whole os t past o again goes f tail.Star is =
      pick_type d whole (nat_le (type_path (pointer t)) d) (again (pointer t)) (record { tree = t; past = past; rest = o ∷ os })
      (λ e. goes (pointer t) (one_more d whole os f.front t (pointer t) o f.parts (type_pointer o f.spelled_so (tail_star o.kind is) no_skip) (low_test (pointer t) d e))) f

  pub tail_sound : (d : ℕ) (os whole : List Lexeme) (t : TypeTree) (past : ℕ) → FoundType env d whole (record { tree = t; past = past; rest = os }) → FoundType env d whole (tail_at d t past os)
  unfolding tail_at
  tail_sound d [] whole t past f = f
  tail_sound d (o ∷ os) whole t past f = tail_step d whole os t past o (λ u. tail_at d u o.span.past os) (λ u f. tail_sound d os whole u o.span.past f) f (tail_of o.kind) refl

  int_filled : (os : List Lexeme) (t : CInt) → AreIntWords os t → 0 < length os
  int_filled os t h = let some = h.some_word in grind (arith, nat_tests)

  pub base_filled : {os : List Lexeme} {t : TypeTree} → IsBase env os t → 0 < length os
  base_filled (void_word o e) = omega arith
  base_filled (int_words {os = os} t h) = int_filled os t h
  base_filled (type_name o n t e f) = omega arith
  base_filled (tag_name o m n at union e f g h) = omega arith
  base_filled (enum_name o m n e f g) = omega arith

  from_base : (d : ℕ) (os : List Lexeme) (y : Got (Unit {0})) (x : Got TypeTree) → PassedOver 0 os y → FoundBase env d y.rest x → FoundType env d os x
  from_base d os y x s f = record {
    front = (s.front ++ f.front) ++ [];
    parts = s.parts ∙ ap (λ (v : List Lexeme). s.front ++ v) f.parts ∙ sym (append_assoc s.front f.front x.rest) ∙ ap (λ (v : List Lexeme). v ++ x.rest) (sym (append-nil (s.front ++ f.front)));
    spelled_so = type_base s.words f.spelled_so no_skip;
    past = ap past_of (append-nil (s.front ++ f.front)) ∙ past-append s.front f.front (base_filled f.spelled_so) ∙ f.past;
    low = f.low;
  }

  -- what is read as a type is spelled so
  pub type_sound : (d : ℕ) (os : List Lexeme) (g : Got TypeTree) → type_at env d os ≡ Some g → FoundType env d os g
  unfolding type_at
  type_sound d os g e =
      let b = bind_some (base_at env d (skip_at 0 os).rest) (λ x. Some (tail_at d x.tree x.past x.rest)) g e in
      let x : Got TypeTree = b.0 in
      subst (FoundType env d os) (same_Some (tail_at d x.tree x.past x.rest) g b.2) (tail_sound d x.rest os x.tree x.past (from_base d os (skip_at 0 os) x (skip_sound 0 os) (base_sound d (skip_at 0 os).rest x b.1)))

  -- a type in parentheses
  pub record Enclosed (d : ℕ) (whole : List Lexeme) (g : Got TypeTree) : Type 0 where
    pub front : List Lexeme
    pub open_mark : Lexeme
    pub close_mark : Lexeme
    pub parts : whole ≡ open_mark ∷ (front ++ close_mark ∷ g.rest)
    pub opens : Is p.OpenParen open_mark
    pub spelled_so : IsType env front g.tree
    pub closes : Is p.CloseParen close_mark
    pub past : close_mark.span.past ≡ g.past
    pub low : type_path g.tree ≤ d

  abbrev shut : Got TypeTree → Lexeme → List Lexeme → Option (Got TypeTree)
  shut x c after = Some (record { tree = x.tree; past = c.span.past; rest = after })

  closed : (d : ℕ) (os ts after : List Lexeme) (o c : Lexeme) (x g : Got TypeTree) → os ≡ o ∷ ts → fits m.OpenParen o.kind ≡ true → FoundType env d ts x → x.rest ≡ c ∷ after → fits m.CloseParen c.kind ≡ true → shut x c after ≡ Some g → Enclosed d os g
  closed d os ts after o c x g is opens f then closes e = subst (Enclosed d os) (same_Some (record { tree = x.tree; past = c.span.past; rest = after }) g e) (record {
    front = f.front;
    open_mark = o;
    close_mark = c;
    parts = is ∙ ap (λ (v : List Lexeme). o ∷ v) (f.parts ∙ ap (λ (v : List Lexeme). f.front ++ v) then);
    opens = fits_is m.OpenParen o.kind opens;
    spelled_so = f.spelled_so;
    closes = fits_is m.CloseParen c.kind closes;
    past = refl;
    low = f.low;
  })

  pub enclosed_sound : (d : ℕ) (os : List Lexeme) (g : Got TypeTree) → enclosed_at env d os ≡ Some g → Enclosed d os g
  unfolding enclosed_at
  enclosed_sound d os g e =
      let a = wanted_some m.OpenParen os (λ o rest. type_at env d rest >>= λ x. wanted m.CloseParen x.rest (shut x)) g e in
      let b = bind_some (type_at env d a.1) (λ x. wanted m.CloseParen x.rest (shut x)) g a.4 in
      let c = wanted_some m.CloseParen b.0.rest (shut b.0) g b.2 in
      closed d os a.1 c.1 a.0 c.0 b.0 g a.2 a.3 (type_sound d a.1 b.0 b.1) c.2 c.3 c.4
