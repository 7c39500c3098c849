-- What is told of the readers of regions and globals.
use Rattle.std.proofs.Common.{◌≡◌, ℕ, ℤ, pos, ◌<◌, Bool, true, false, List, [], ◌∷◌, ◌++◌, length, refl, ap, arith}
use Rattle.cx_cword.specs.declared.lexeme.LexemeKind.TheVariants as cl
use Rattle.cx_cword.specs.declared.word.Punctuator.TheVariants as p
use Rattle.cx_cword.specs.Reading.{span_between}
use Rattle.cx_tsyn.specs.Words.{WordTree}
use Rattle.cx_tsyn.specs.Types.{STypeTree}
use Rattle.cx_tword.specs.declared.word.TypeWord.TheVariants as tw
use Rattle.cx_tword.specs.declared.lexeme.TypeLexeme.{TypeLexeme}
use Rattle.cx_tword.specs.declared.lexeme.TypeLexemeKind.{TypeLexemeKind}
use Rattle.cx_tword.specs.declared.lexeme.TypeLexemeKind.TheVariants as l
use Rattle.cx_tword.specs.Marks.{Is, IsWord, is_mark, is_word}
use Rattle.cx_tword.proofs.Marks.{mark_is, word_is, a_mark, a_word, a_name}
use Rattle.cx_reader.specs.Answers.{fault, ◌>>=◌, give, next_at}
use Rattle.cx_reader.specs.Lists.{not_enclosed}
use Rattle.cx_reader.proofs.Laws.{Viable, Good}
use Rattle.cx_reader.proofs.Tells.{viable, gives, fails, takes, stays, none_left, thens, wants, may, makes}
use Rattle.cx_tlin.specs.Lins.{IsName}
use Rattle.cx_tlin.specs.Reading.{name_at}
use Rattle.cx_tlin.proofs.Told.{small_name, name_good}
use Rattle.cx_tcell.specs.Cells.{InParentheses}
use Rattle.cx_tcell.specs.Reading.{in_parentheses_at}
use Rattle.cx_tcell.proofs.Told.{in_parentheses_good}
use Rattle.cx_ttype.specs.Types.{IsType}
use Rattle.cx_ttype.specs.Reading.{closed_at, stype_at}
use Rattle.cx_ttype.proofs.Told.{closed_good, small_type, stype_good}
use Rattle.cx_tregion.specs.Regions.{IsShared, not_shared, is_shared, region_of, IsRegion, a_region, IsNumber, a_number, global_of, IsGlobal, a_global}
use Rattle.cx_tregion.specs.Reading.{shared_at, region_end, region_from, region_at, number_by, number_at, global_end, global_from, global_at}

-- ---- numbers

abbrev a_zero : TypeLexeme
a_zero = record { span = span_between 0 0; kind = l.Number (pos 0); c_kind = cl.Other }

abbrev small_number : Viable IsNumber
small_number = record { more = a_zero ∷ []; tree = pos 0; spelled_so = a_number a_zero (pos 0) refl }

number_step : (n : ℕ) (o : TypeLexeme) (rest : List TypeLexeme) (kind : TypeLexemeKind) → length (o ∷ rest) < n → o.kind ≡ kind → Good IsNumber (λ m v. number_at v) n (o ∷ rest)
unfolding number_at
number_step n o rest (l.Number z) less e = takes IsNumber (λ m v. number_at v) (λ m v. give z v) n o rest (omega (arith, less)) (λ m v some. ap (number_by (o ∷ v) v) e) (gives (λ b x. IsNumber (o ∷ b) x) z n rest (a_number o z e))
number_step n o rest _ less e = stays IsNumber (λ m v. number_at v) (λ m v. fault (length v)) n o rest (omega (arith, less)) (λ m v some. ap (number_by (o ∷ v) v) e) (fails IsNumber n (o ∷ rest) small_number)

number_good : (n : ℕ) (os : List TypeLexeme) → length os < n → Good IsNumber (λ m v. number_at v) n os
unfolding number_at
number_good n [] less = none_left IsNumber (λ m v. number_at v) (λ m v. fault (length v)) n (omega (arith, less)) (λ m some. refl) (fails IsNumber n [] small_number)
number_good n (o ∷ rest) less = number_step n o rest o.kind less refl

shared_good : (n : ℕ) (os : List TypeLexeme) → length os < n → Good IsShared (λ m v. shared_at v) n os
unfolding shared_at
shared_good n os less =
    may IsShared (is_word tw.Shared) false not_shared (λ m o v. give true v) n os less
    (λ o rest so less. gives (λ b x. IsShared (o ∷ b) x) true n rest (is_shared o (word_is tw.Shared o so)))

module _ (bytes : List ℕ) where
  -- ---- regions

  abbrev semicolon : TypeLexeme
  semicolon = a_mark p.Semicolon

  abbrev equals : TypeLexeme
  equals = a_mark p.Assign

  abbrev any_type : List TypeLexeme
  any_type = (small_type bytes).more

  -- a region without its place
  abbrev IsParts : List TypeLexeme → Bool × WordTree × List WordTree × STypeTree → Type 0
  IsParts a x = IsRegion bytes a (region_of a x)

  -- behind the equals sign
  end_good : (a v b : List TypeLexeme) (shared : Bool) (name : WordTree) (params : List WordTree) (o e : TypeLexeme) → IsShared a shared → IsWord tw.Region o → IsName bytes v name → InParentheses (IsName bytes) b params → Is p.Assign e
      → (n : ℕ) (os : List TypeLexeme) → length os < n → Good (λ c x. IsParts (a ++ (o ∷ v ++ (b ++ (e ∷ c)))) x) (λ m w. region_end bytes shared name params w) n os
  end_good a v b shared name params o e s f t u g n os less =
      thens (IsType bytes) (λ c x. IsParts (a ++ (o ∷ v ++ (b ++ (e ∷ c)))) x) (λ m w. stype_at bytes w) (λ m t. closed_at p.Semicolon (shared, name, params, t.tree) t.rest) n os less (stype_good bytes n os less)
      (λ c y h. viable (shared, name, params, y) (semicolon ∷ []) (a_region o e semicolon s f t u g h refl))
      (λ c rest y h less. closed_good bytes (λ d x. IsParts (a ++ (o ∷ v ++ (b ++ (e ∷ c ++ d)))) x) p.Semicolon (shared, name, params, y) n rest less (λ z k. a_region o e z s f t u g h k))

  -- behind the word region
  from_good : (a : List TypeLexeme) (shared : Bool) (o : TypeLexeme) → IsShared a shared → IsWord tw.Region o → (n : ℕ) (os : List TypeLexeme) → length os < n → Good (λ b x. IsParts (a ++ (o ∷ b)) x) (λ m w. region_from bytes shared w) n os
  from_good a shared o s f n os less =
      thens (IsName bytes) (λ b x. IsParts (a ++ (o ∷ b)) x) (λ m w. name_at bytes w) (λ m v. in_parentheses_at (name_at bytes) v.rest >>= λ ps. next_at (is_mark p.Assign) ps.rest (λ e rest. region_end bytes shared v.tree ps.tree rest)) n os less (name_good bytes n os less)
      (λ v i t. viable (shared, i, [], (small_type bytes).tree) (equals ∷ any_type ++ semicolon ∷ []) (a_region o equals semicolon s f t not_enclosed refl (small_type bytes).spelled_so refl))
      (λ v rest i t less.
      thens (InParentheses (IsName bytes)) (λ b x. IsParts (a ++ (o ∷ v ++ b)) x) (λ m w. in_parentheses_at (name_at bytes) w) (λ m ps. next_at (is_mark p.Assign) ps.rest (λ e rest. region_end bytes shared i ps.tree rest)) n rest less
      (in_parentheses_good (IsName bytes) (name_at bytes) (small_name bytes) (name_good bytes) n rest less)
      (λ b ps u. viable (shared, i, ps, (small_type bytes).tree) (equals ∷ any_type ++ semicolon ∷ []) (a_region o equals semicolon s f t u refl (small_type bytes).spelled_so refl))
      (λ b rest ps u less.
      wants (λ c x. IsParts (a ++ (o ∷ v ++ (b ++ c))) x) (is_mark p.Assign) equals (λ m e w. region_end bytes shared i ps w) n rest less
      (viable (shared, i, ps, (small_type bytes).tree) (any_type ++ semicolon ∷ []) (a_region o equals semicolon s f t u refl (small_type bytes).spelled_so refl))
      (λ e rest so less. end_good a v b shared i ps o e s f t u (mark_is p.Assign e so) n rest less)))

  pub region_good : (n : ℕ) (os : List TypeLexeme) → length os < n → Good (IsRegion bytes) (λ m w. region_at bytes w) n os
  unfolding region_at
  region_good n os less =
      makes (IsRegion bytes) (λ m w. shared_at w >>= λ x. next_at (is_word tw.Region) x.rest (λ o rest. region_from bytes x.tree rest)) region_of n os
      (thens IsShared IsParts (λ m w. shared_at w) (λ m x. next_at (is_word tw.Region) x.rest (λ o rest. region_from bytes x.tree rest)) n os less (shared_good n os less)
      (λ a sh s. viable (sh, (small_name bytes).tree, [], (small_type bytes).tree) (a_word tw.Region ∷ a_name ∷ equals ∷ any_type ++ semicolon ∷ []) (a_region (a_word tw.Region) equals semicolon s refl (small_name bytes).spelled_so not_enclosed refl (small_type bytes).spelled_so refl))
      (λ a rest sh s less.
      wants (λ b x. IsParts (a ++ b) x) (is_word tw.Region) (a_word tw.Region) (λ m o w. region_from bytes sh w) n rest less
      (viable (sh, (small_name bytes).tree, [], (small_type bytes).tree) (a_name ∷ equals ∷ any_type ++ semicolon ∷ []) (a_region (a_word tw.Region) equals semicolon s refl (small_name bytes).spelled_so not_enclosed refl (small_type bytes).spelled_so refl))
      (λ o rest so less. from_good a sh o s (word_is tw.Region o so) n rest less)))

  -- ---- globals

  -- a global without its place
  abbrev IsGlobalParts : List TypeLexeme → WordTree × WordTree × List ℤ → Type 0
  IsGlobalParts a x = IsGlobal bytes a (global_of a x)

  -- behind the equals sign
  global_end_good : (v : List TypeLexeme) (name : WordTree) (o e : TypeLexeme) → IsWord tw.Global o → IsName bytes v name → Is p.Assign e → (n : ℕ) (os : List TypeLexeme) → length os < n → Good (λ b x. IsGlobalParts (o ∷ v ++ (e ∷ b)) x) (λ m w. global_end bytes name w) n os
  global_end_good v name o e s t f n os less =
      thens (IsName bytes) (λ b x. IsGlobalParts (o ∷ v ++ (e ∷ b)) x) (λ m w. name_at bytes w) (λ m c. in_parentheses_at number_at c.rest >>= λ xs. closed_at p.Semicolon (name, c.tree, xs.tree) xs.rest) n os less (name_good bytes n os less)
      (λ c i u. viable (name, i, []) (semicolon ∷ []) (a_global o e semicolon s t f u not_enclosed refl))
      (λ c rest i u less.
      thens (InParentheses IsNumber) (λ b x. IsGlobalParts (o ∷ v ++ (e ∷ c ++ b)) x) (λ m w. in_parentheses_at number_at w) (λ m xs. closed_at p.Semicolon (name, i, xs.tree) xs.rest) n rest less (in_parentheses_good IsNumber number_at small_number number_good n rest less)
      (λ d xs h. viable (name, i, xs) (semicolon ∷ []) (a_global o e semicolon s t f u h refl))
      (λ d rest xs h less. closed_good bytes (λ b x. IsGlobalParts (o ∷ v ++ (e ∷ c ++ (d ++ b))) x) p.Semicolon (name, i, xs) n rest less (λ z k. a_global o e z s t f u h k)))

  -- behind the word global
  global_from_good : (o : TypeLexeme) → IsWord tw.Global o → (n : ℕ) (os : List TypeLexeme) → length os < n → Good (λ b x. IsGlobalParts (o ∷ b) x) (λ m w. global_from bytes w) n os
  global_from_good o s n os less =
      thens (IsName bytes) (λ b x. IsGlobalParts (o ∷ b) x) (λ m w. name_at bytes w) (λ m v. next_at (is_mark p.Assign) v.rest (λ e rest. global_end bytes v.tree rest)) n os less (name_good bytes n os less)
      (λ v i t. viable (i, (small_name bytes).tree, []) (equals ∷ a_name ∷ semicolon ∷ []) (a_global o equals semicolon s t refl (small_name bytes).spelled_so not_enclosed refl))
      (λ v rest i t less.
      wants (λ b x. IsGlobalParts (o ∷ v ++ b) x) (is_mark p.Assign) equals (λ m e w. global_end bytes i w) n rest less
      (viable (i, (small_name bytes).tree, []) (a_name ∷ semicolon ∷ []) (a_global o equals semicolon s t refl (small_name bytes).spelled_so not_enclosed refl))
      (λ e rest so less. global_end_good v i o e s t (mark_is p.Assign e so) n rest less))

  pub global_good : (n : ℕ) (os : List TypeLexeme) → length os < n → Good (IsGlobal bytes) (λ m w. global_at bytes w) n os
  unfolding global_at
  global_good n os less =
      makes (IsGlobal bytes) (λ m w. next_at (is_word tw.Global) w (λ o rest. global_from bytes rest)) global_of n os
      (wants IsGlobalParts (is_word tw.Global) (a_word tw.Global) (λ m o w. global_from bytes w) n os less
      (viable ((small_name bytes).tree, (small_name bytes).tree, []) (a_name ∷ equals ∷ a_name ∷ semicolon ∷ []) (a_global (a_word tw.Global) equals semicolon refl (small_name bytes).spelled_so refl (small_name bytes).spelled_so not_enclosed refl))
      (λ o rest so less. global_from_good o (word_is tw.Global o so) n rest less))
