-- What spells a cell is read, where what ends it follows.
use Rattle.std.proofs.Common.{◌≡◌, ℕ, Bool, true, false, List, [], ◌∷◌, ◌++◌, Option, Some, None, refl, ap, ◌∙◌, append_assoc}
use Rattle.cx_cword.specs.declared.word.Punctuator.TheVariants as p
use Rattle.cx_tsyn.specs.Words.{WordTree}
use Rattle.cx_tsyn.specs.Lins.{LinTree}
use Rattle.cx_tsyn.specs.Cells.{SCellKindTree, val, unsigned, signed, ptr, SCellTree}
use Rattle.cx_tword.specs.declared.word.TypeWord.TheVariants as tw
use Rattle.cx_tword.specs.declared.lexeme.TypeLexeme.{TypeLexeme}
use Rattle.cx_tword.specs.declared.lexeme.TypeLexemeKind.{TypeLexemeKind}
use Rattle.cx_tword.specs.declared.lexeme.TypeLexemeKind.TheVariants as l
use Rattle.cx_tword.specs.Marks.{Is, kind_is_mark, kind_is_word, is_mark, is_word}
use Rattle.cx_tword.proofs.Marks.{mark_so, word_so}
use Rattle.cx_reader.specs.Answers.{Got, Answer, ◌>>=◌, give, next_is}
use Rattle.cx_reader.proofs.Laws.{There}
use Rattle.cx_reader.proofs.ListsThere.{maybe_there, absent_there, made_there, enclosed_there}
use Rattle.cx_tlin.specs.Lins.{IsName, IsLin, EndsLin}
use Rattle.cx_tlin.specs.Reading.{name_at, lin_at}
use Rattle.cx_tlin.proofs.There.{lin_ends, comma_ends, name_there, lin_there}
use Rattle.cx_tcell.specs.Cells.{InParentheses, IsOffset, no_offset, an_offset, IsNull, no_null, a_null, Holds, holds_any, holds_any_bytes, holds_val, holds_unsigned, holds_signed, holds_ptr, IsCell, is_cell, goes_cell, EndsCell}
use Rattle.cx_tcell.specs.Reading.{in_parentheses_at, offset_at, null_at, pointer_at, number_of, holds_by, holds_at, cell_of, cell_at}

-- ---- what does not go on

star_off : (kind : TypeLexemeKind) → goes_cell kind ≡ false → kind_is_mark p.Star kind ≡ false
star_off (l.Punctuator p.Star) e = absurd cc
star_off (l.Punctuator _) e = refl
star_off _ e = refl

plus_off : (kind : TypeLexemeKind) → goes_cell kind ≡ false → kind_is_mark p.Plus kind ≡ false
plus_off (l.Punctuator p.Plus) e = absurd cc
plus_off (l.Punctuator _) e = refl
plus_off _ e = refl

minus_off : (kind : TypeLexemeKind) → goes_cell kind ≡ false → kind_is_mark p.Minus kind ≡ false
minus_off (l.Punctuator p.Minus) e = absurd cc
minus_off (l.Punctuator _) e = refl
minus_off _ e = refl

paren_off : (kind : TypeLexemeKind) → goes_cell kind ≡ false → kind_is_mark p.OpenParen kind ≡ false
paren_off (l.Punctuator p.OpenParen) e = absurd cc
paren_off (l.Punctuator _) e = refl
paren_off _ e = refl

null_off : (kind : TypeLexemeKind) → goes_cell kind ≡ false → kind_is_word tw.Null kind ≡ false
null_off (l.Word tw.Null) e = absurd cc
null_off (l.Word _) e = refl
null_off _ e = refl

pub ends_lin : (os : List TypeLexeme) → EndsCell os → EndsLin os
ends_lin [] e = (refl, refl, refl)
ends_lin (o ∷ os) e = (star_off o.kind e, plus_off o.kind e, minus_off o.kind e)

no_paren : (os : List TypeLexeme) → EndsCell os → next_is (is_mark p.OpenParen) os ≡ false
no_paren [] e = refl
no_paren (o ∷ os) e = paren_off o.kind e

no_word : (os : List TypeLexeme) → EndsCell os → next_is (is_word tw.Null) os ≡ false
no_word [] e = refl
no_word (o ∷ os) e = null_off o.kind e

-- ---- lists in parentheses

close_lin : (o : TypeLexeme) (w : List TypeLexeme) → Is p.CloseParen o → EndsLin (o ∷ w)
close_lin o w e = lin_ends p.CloseParen o w e (refl, refl, refl)

pub in_parentheses_there : {A : Type 0} (S : List TypeLexeme → A → Type 0) (one : List TypeLexeme → Answer TypeLexeme A) (Ends : List TypeLexeme → Type 0) → There S Ends (λ m w. one w) → ((o : TypeLexeme) (w : List TypeLexeme) → is_mark p.Comma o ≡ true → Ends (o ∷ w)) → ((o : TypeLexeme) (w : List TypeLexeme) → Is p.CloseParen o → Ends (o ∷ w))
    → {a : List TypeLexeme} {xs : List A} → InParentheses S a xs → (rest : List TypeLexeme) → next_is (is_mark p.OpenParen) rest ≡ false → in_parentheses_at one (a ++ rest) ≡ give xs rest
in_parentheses_there S one Ends there comma close s rest off =
    enclosed_there S one Ends there (Is p.Comma) (is_mark p.Comma) (mark_so p.Comma) comma (Is p.OpenParen) (Is p.CloseParen) (is_mark p.OpenParen) (is_mark p.CloseParen) (mark_so p.OpenParen) (mark_so p.CloseParen) close (λ o e. ap (kind_is_mark p.Comma) e) s rest off

module _ (bytes : List ℕ) where
  args_there : {a : List TypeLexeme} {xs : List LinTree} → InParentheses (IsLin bytes) a xs → (rest : List TypeLexeme) → next_is (is_mark p.OpenParen) rest ≡ false → in_parentheses_at (lin_at bytes) (a ++ rest) ≡ give xs rest
  args_there s rest off = in_parentheses_there (IsLin bytes) (lin_at bytes) EndsLin (λ m a rest x s less ends. lin_there bytes s rest ends) comma_ends close_lin s rest off

  -- ---- cells

  -- the word null ends what stands before it
  null_ends : {c : List TypeLexeme} {z : Bool} → IsNull c z → (rest : List TypeLexeme) → EndsCell rest → EndsLin (c ++ rest)
  null_ends no_null rest e = ends_lin rest e
  null_ends (a_null o f) rest e = (ap (kind_is_mark p.Star) f, ap (kind_is_mark p.Plus) f, ap (kind_is_mark p.Minus) f)

  null_no_paren : {c : List TypeLexeme} {z : Bool} → IsNull c z → (rest : List TypeLexeme) → EndsCell rest → next_is (is_mark p.OpenParen) (c ++ rest) ≡ false
  null_no_paren no_null rest e = no_paren rest e
  null_no_paren (a_null o f) rest e = ap (kind_is_mark p.OpenParen) f

  offset_no_paren : {b : List TypeLexeme} {y : Option LinTree} → IsOffset bytes b y → (rest : List TypeLexeme) → next_is (is_mark p.OpenParen) rest ≡ false → next_is (is_mark p.OpenParen) (b ++ rest) ≡ false
  offset_no_paren no_offset rest e = e
  offset_no_paren (an_offset o f s) rest e = ap (kind_is_mark p.OpenParen) f

  null_there : {c : List TypeLexeme} {z : Bool} → IsNull c z → (rest : List TypeLexeme) → EndsCell rest → null_at (c ++ rest) ≡ give z rest
  unfolding null_at
  null_there no_null rest e = absent_there (is_word tw.Null) false rest (λ o rest. give true rest) (no_word rest e)
  null_there (a_null o f) rest e = maybe_there (is_word tw.Null) false o rest (λ o rest. give true rest) (word_so tw.Null o f)

  abbrev offset_of : TypeLexeme → List TypeLexeme → Answer TypeLexeme (Option LinTree)
  offset_of o rest = lin_at bytes rest >>= λ x. give (Some x.tree) x.rest

  offset_there : {b : List TypeLexeme} {y : Option LinTree} → IsOffset bytes b y → (rest : List TypeLexeme) → EndsLin rest → offset_at bytes (b ++ rest) ≡ give y rest
  unfolding offset_at
  offset_there no_offset rest e = absent_there (is_mark p.Plus) None rest offset_of e.1
  offset_there (an_offset {a = a} o f s) rest e =
      maybe_there (is_mark p.Plus) None o (a ++ rest) offset_of (mark_so p.Plus o f)
      ∙ ap (λ (r : Answer TypeLexeme LinTree). r >>= λ x. give (Some x.tree) x.rest) (lin_there bytes s rest e)

  four : (v a b c rest : List TypeLexeme) → (v ++ (a ++ (b ++ c))) ++ rest ≡ v ++ (a ++ (b ++ (c ++ rest)))
  four v a b c rest = append_assoc v (a ++ (b ++ c)) rest ∙ ap (λ (w : List TypeLexeme). v ++ w) (append_assoc a (b ++ c) rest ∙ ap (λ (w : List TypeLexeme). a ++ w) (append_assoc b c rest))

  pointer_there : {v a b c : List TypeLexeme} {i : WordTree} {xs : List LinTree} {y : Option LinTree} {z : Bool} → IsName bytes v i → InParentheses (IsLin bytes) a xs → IsOffset bytes b y → IsNull c z → (rest : List TypeLexeme) → EndsCell rest
      → pointer_at bytes ((v ++ (a ++ (b ++ c))) ++ rest) ≡ give (ptr i xs y z) rest
  unfolding pointer_at
  pointer_there {v} {a} {b} {c} {i} {xs} {y} {z} s t u h rest e =
      let go4 : WordTree → List LinTree → Option LinTree → Got TypeLexeme Bool → Answer TypeLexeme SCellKindTree = λ v xs y z. give (ptr v xs y z.tree) z.rest in
      let go3 : WordTree → List LinTree → Got TypeLexeme (Option LinTree) → Answer TypeLexeme SCellKindTree = λ v xs y. null_at y.rest >>= go4 v xs y.tree in
      let go2 : WordTree → Got TypeLexeme (List LinTree) → Answer TypeLexeme SCellKindTree = λ v xs. offset_at bytes xs.rest >>= go3 v xs.tree in
      let go1 : Got TypeLexeme WordTree → Answer TypeLexeme SCellKindTree = λ v. in_parentheses_at (lin_at bytes) v.rest >>= go2 v.tree in
      ap (λ (w : List TypeLexeme). name_at bytes w >>= go1) (four v a b c rest)
      ∙ ap (λ (r : Answer TypeLexeme WordTree). r >>= go1) (name_there bytes s (a ++ (b ++ (c ++ rest))))
      ∙ ap (λ (r : Answer TypeLexeme (List LinTree)). r >>= go2 i) (args_there t (b ++ (c ++ rest)) (offset_no_paren u (c ++ rest) (null_no_paren h rest e)))
      ∙ ap (λ (r : Answer TypeLexeme (Option LinTree)). r >>= go3 i xs) (offset_there u (c ++ rest) (null_ends h rest e))
      ∙ ap (λ (r : Answer TypeLexeme Bool). r >>= go4 i xs y) (null_there h rest e)

  number_there : {a : List TypeLexeme} {x : LinTree} (make : LinTree → SCellKindTree) → IsLin bytes a x → (rest : List TypeLexeme) → EndsCell rest → number_of bytes make (a ++ rest) ≡ give (make x) rest
  number_there make s rest e = ap (λ (r : Answer TypeLexeme LinTree). r >>= λ x. give (make x.tree) x.rest) (lin_there bytes s rest (ends_lin rest e))

  holds_there : {a : List TypeLexeme} {k : SCellKindTree} → Holds bytes a k → (rest : List TypeLexeme) → EndsCell rest → holds_at bytes (a ++ rest) ≡ give k rest
  unfolding holds_at
  holds_there (holds_any o e) rest ends = ap (holds_by bytes (o ∷ rest) rest) e
  holds_there (holds_any_bytes o k e) rest ends = ap (holds_by bytes (o ∷ rest) rest) e
  holds_there (holds_val {a = a} o e s) rest ends = ap (holds_by bytes (o ∷ a ++ rest) (a ++ rest)) e ∙ number_there val s rest ends
  holds_there (holds_unsigned {a = a} o k e s) rest ends = ap (holds_by bytes (o ∷ a ++ rest) (a ++ rest)) e ∙ number_there (unsigned k) s rest ends
  holds_there (holds_signed {a = a} o k e s) rest ends = ap (holds_by bytes (o ∷ a ++ rest) (a ++ rest)) e ∙ number_there (signed k) s rest ends
  holds_there (holds_ptr {v = v} {a = a} {b = b} {c = c} o e s t u h) rest ends =
      let w = (v ++ (a ++ (b ++ c))) ++ rest in
      ap (holds_by bytes (o ∷ w) w) e ∙ pointer_there s t u h rest ends

  pub cell_there : {a : List TypeLexeme} {x : SCellTree} → IsCell bytes a x → (rest : List TypeLexeme) → EndsCell rest → cell_at bytes (a ++ rest) ≡ give x rest
  unfolding cell_at
  cell_there (is_cell {a = a} {k = k} s) rest ends = made_there cell_of a rest k (holds_at bytes (a ++ rest)) (holds_there s rest ends)
