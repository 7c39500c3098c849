-- What is told of the reader of cells.
use Rattle.std.proofs.Common.{◌≡◌, ℕ, ◌<◌, true, false, List, [], ◌∷◌, ◌++◌, length, Some, None, refl, ap, ◌∙◌, arith}
use Rattle.cx_cword.specs.declared.word.Punctuator.TheVariants as p
use Rattle.cx_tsyn.specs.Lins.{LinTree}
use Rattle.cx_tsyn.specs.Cells.{SCellKindTree, any, any_bytes, val, unsigned, signed, ptr}
use Rattle.cx_tword.specs.declared.word.TypeWord.TheVariants as tw
use Rattle.cx_tword.specs.declared.lexeme.TypeLexeme.{TypeLexeme}
use Rattle.cx_tword.specs.declared.lexeme.TypeLexemeKind.{TypeLexemeKind}
use Rattle.cx_tword.specs.declared.lexeme.TypeLexemeKind.TheVariants as l
use Rattle.cx_tword.specs.Marks.{Is, IsWord, is_mark, is_word}
use Rattle.cx_tword.proofs.Marks.{mark_is, word_is, a_mark, a_word}
use Rattle.cx_reader.specs.Answers.{Answer, fault, ◌>>=◌, give}
use Rattle.cx_reader.specs.Lists.{not_enclosed}
use Rattle.cx_reader.proofs.Laws.{Viable, Good}
use Rattle.cx_reader.proofs.Tells.{viable, gives, fails, maps, takes, stays, none_left, thens, sends, may, makes}
use Rattle.cx_reader.proofs.ListsTold.{enclosed_good}
use Rattle.cx_tlin.specs.Lins.{IsName, IsLin}
use Rattle.cx_tlin.specs.Reading.{name_at, lin_at}
use Rattle.cx_tlin.proofs.Told.{name_good, small_lin, lin_good}
use Rattle.cx_tcell.specs.Cells.{InParentheses, IsOffset, no_offset, an_offset, IsNull, no_null, a_null, Holds, holds_any, holds_any_bytes, holds_val, holds_unsigned, holds_signed, holds_ptr, IsCell, is_cell}
use Rattle.cx_tcell.specs.Reading.{in_parentheses_at, offset_at, null_at, pointer_at, number_of, holds_by, holds_at, cell_of, cell_at}

-- nothing, or a list in parentheses
pub in_parentheses_good : {A : Type 0} (S : List TypeLexeme → A → Type 0) (one : List TypeLexeme → Answer TypeLexeme A) → Viable S → ((n : ℕ) (os : List TypeLexeme) → length os < n → Good S (λ m w. one w) n os)
    → (n : ℕ) (os : List TypeLexeme) → length os < n → Good (InParentheses S) (λ m w. in_parentheses_at one w) n os
in_parentheses_good S one small h =
    enclosed_good S one small h (Is p.Comma) (is_mark p.Comma) (mark_is p.Comma) (Is p.OpenParen) (Is p.CloseParen) (is_mark p.OpenParen) (is_mark p.CloseParen) (mark_is p.OpenParen) (mark_is p.CloseParen) (a_mark p.CloseParen) refl

module _ (bytes : List ℕ) where
  offset_good : (n : ℕ) (os : List TypeLexeme) → length os < n → Good (IsOffset bytes) (λ m w. offset_at bytes w) n os
  unfolding offset_at
  offset_good n os less =
      may (IsOffset bytes) (is_mark p.Plus) None no_offset (λ m o w. lin_at bytes w >>= λ x. give (Some x.tree) x.rest) n os less
      (λ o rest so less. sends (IsLin bytes) (λ b x. IsOffset bytes (o ∷ b) x) (λ m w. lin_at bytes w) (λ x. Some x) n rest (λ b x s. an_offset o (mark_is p.Plus o so) s) (lin_good bytes n rest less))

  null_good : (n : ℕ) (os : List TypeLexeme) → length os < n → Good IsNull (λ m w. null_at w) n os
  unfolding null_at
  null_good n os less =
      may IsNull (is_word tw.Null) false no_null (λ m o v. give true v) n os less
      (λ o rest so less. gives (λ b x. IsNull (o ∷ b) x) true n rest (a_null o (word_is tw.Null o so)))

  pointer_good : (n : ℕ) (o : TypeLexeme) (os : List TypeLexeme) → IsWord tw.Ptr o → length os < n → Good (λ b x. Holds bytes (o ∷ b) x) (λ m w. pointer_at bytes w) n os
  unfolding pointer_at
  pointer_good n o os e less =
      thens (IsName bytes) (λ b x. Holds bytes (o ∷ b) x) (λ m w. name_at bytes w) (λ m v. in_parentheses_at (lin_at bytes) v.rest >>= λ xs. offset_at bytes xs.rest >>= λ y. null_at y.rest >>= λ z. give (ptr v.tree xs.tree y.tree z.tree) z.rest) n os less (name_good bytes n os less)
      (λ v i s. viable _ [] (holds_ptr o e s not_enclosed no_offset no_null))
      (λ v rest i s less.
      thens (InParentheses (IsLin bytes)) (λ b x. Holds bytes (o ∷ v ++ b) x) (λ m w. in_parentheses_at (lin_at bytes) w) (λ m xs. offset_at bytes xs.rest >>= λ y. null_at y.rest >>= λ z. give (ptr i xs.tree y.tree z.tree) z.rest) n rest less
      (in_parentheses_good (IsLin bytes) (lin_at bytes) (small_lin bytes) (lin_good bytes) n rest less)
      (λ a xs t. viable _ [] (holds_ptr o e s t no_offset no_null))
      (λ a rest xs t less.
      thens (IsOffset bytes) (λ b x. Holds bytes (o ∷ v ++ (a ++ b)) x) (λ m w. offset_at bytes w) (λ m y. null_at y.rest >>= λ z. give (ptr i xs y.tree z.tree) z.rest) n rest less (offset_good n rest less)
      (λ b y u. viable _ [] (holds_ptr o e s t u no_null))
      (λ b rest y u less. sends IsNull (λ d x. Holds bytes (o ∷ v ++ (a ++ (b ++ d))) x) (λ m w. null_at w) (λ z. ptr i xs y z) n rest (λ d z h. holds_ptr o e s t u h) (null_good n rest less))))

  abbrev pub small_holds : Viable (Holds bytes)
  small_holds = record { more = a_word tw.Any ∷ []; tree = any; spelled_so = holds_any (a_word tw.Any) refl }

  -- a number behind a lexeme
  number_good : (n : ℕ) (o : TypeLexeme) (rest : List TypeLexeme) (make : LinTree → SCellKindTree) → length (o ∷ rest) < n → ((b : List TypeLexeme) (x : LinTree) → IsLin bytes b x → Holds bytes (o ∷ b) (make x)) → Good (λ b x. Holds bytes (o ∷ b) x) (λ m w. number_of bytes make w) n rest
  number_good n o rest make less f = sends (IsLin bytes) (λ b x. Holds bytes (o ∷ b) x) (λ m w. lin_at bytes w) make n rest f (lin_good bytes n rest (omega (arith, less)))

  -- the reader goes on as another one behind a lexeme of this kind
  holds_takes : (n : ℕ) (o : TypeLexeme) (rest : List TypeLexeme) (kind : TypeLexemeKind) (go : List TypeLexeme → Answer TypeLexeme SCellKindTree) → length (o ∷ rest) < n → o.kind ≡ kind → ((w : List TypeLexeme) → holds_by bytes (o ∷ w) w kind ≡ go w)
      → Good (λ b x. Holds bytes (o ∷ b) x) (λ m w. go w) n rest → Good (Holds bytes) (λ m w. holds_at bytes w) n (o ∷ rest)
  unfolding holds_at
  holds_takes n o rest kind go less e f h = takes (Holds bytes) (λ m w. holds_at bytes w) (λ m w. go w) n o rest (omega (arith, less)) (λ m w some. ap (holds_by bytes (o ∷ w) w) e ∙ f w) h

  holds_fails : (n : ℕ) (o : TypeLexeme) (rest : List TypeLexeme) (kind : TypeLexemeKind) → length (o ∷ rest) < n → o.kind ≡ kind → ((w : List TypeLexeme) → holds_by bytes (o ∷ w) w kind ≡ fault (length (o ∷ w))) → Good (Holds bytes) (λ m w. holds_at bytes w) n (o ∷ rest)
  unfolding holds_at
  holds_fails n o rest kind less e f = stays (Holds bytes) (λ m w. holds_at bytes w) (λ m w. fault (length w)) n o rest (omega (arith, less)) (λ m w some. ap (holds_by bytes (o ∷ w) w) e ∙ f w) (fails (Holds bytes) n (o ∷ rest) small_holds)

  holds_step : (n : ℕ) (o : TypeLexeme) (rest : List TypeLexeme) (kind : TypeLexemeKind) → length (o ∷ rest) < n → o.kind ≡ kind → Good (Holds bytes) (λ m w. holds_at bytes w) n (o ∷ rest)
  holds_step n o rest (l.Word tw.Any) less e = holds_takes n o rest (l.Word tw.Any) (λ w. give any w) less e (λ w. refl) (gives (λ b x. Holds bytes (o ∷ b) x) any n rest (holds_any o e))
  holds_step n o rest (l.Word tw.Val) less e = holds_takes n o rest (l.Word tw.Val) (number_of bytes val) less e (λ w. refl) (number_good n o rest val less (λ b x s. holds_val o e s))
  holds_step n o rest (l.Word tw.Ptr) less e = holds_takes n o rest (l.Word tw.Ptr) (pointer_at bytes) less e (λ w. refl) (pointer_good n o rest e (omega (arith, less)))
  holds_step n o rest (l.AnyBytes k) less e = holds_takes n o rest (l.AnyBytes k) (λ w. give (any_bytes k) w) less e (λ w. refl) (gives (λ b x. Holds bytes (o ∷ b) x) (any_bytes k) n rest (holds_any_bytes o k e))
  holds_step n o rest (l.Unsigned k) less e = holds_takes n o rest (l.Unsigned k) (number_of bytes (unsigned k)) less e (λ w. refl) (number_good n o rest (unsigned k) less (λ b x s. holds_unsigned o k e s))
  holds_step n o rest (l.Signed k) less e = holds_takes n o rest (l.Signed k) (number_of bytes (signed k)) less e (λ w. refl) (number_good n o rest (signed k) less (λ b x s. holds_signed o k e s))
  holds_step n o rest _ less e = holds_fails n o rest _ less e (λ w. refl)

  holds_good : (n : ℕ) (os : List TypeLexeme) → length os < n → Good (Holds bytes) (λ m w. holds_at bytes w) n os
  unfolding holds_at
  holds_good n [] less = none_left (Holds bytes) (λ m w. holds_at bytes w) (λ m w. fault (length w)) n (omega (arith, less)) (λ m some. refl) (fails (Holds bytes) n [] small_holds)
  holds_good n (o ∷ rest) less = holds_step n o rest o.kind less refl

  abbrev pub small_cell : Viable (IsCell bytes)
  small_cell = record { more = a_word tw.Any ∷ []; tree = cell_of (a_word tw.Any ∷ []) any; spelled_so = is_cell (holds_any (a_word tw.Any) refl) }

  pub cell_good : (n : ℕ) (os : List TypeLexeme) → length os < n → Good (IsCell bytes) (λ m w. cell_at bytes w) n os
  unfolding cell_at
  cell_good n os less = makes (IsCell bytes) (λ m w. holds_at bytes w) cell_of n os (maps (Holds bytes) (λ b x. IsCell bytes b (cell_of b x)) (λ m w. holds_at bytes w) n os (λ b x s. is_cell s) (holds_good n os less))
