-- What is spelled is read, where lexemes follow that end it.
use Rattle.std.proofs.Common.{◌≡◌, ℕ, ℤ, suc, Bool, true, false, cond, List, [], ◌∷◌, ◌++◌, length, Some, refl, sym, ap, ◌∙◌, append_assoc, arith}
use Rattle.std.specs.Prelude.{◌||◌}
use Rattle.cx_cword.specs.declared.word.Punctuator.{Punctuator}
use Rattle.cx_cword.specs.declared.word.Punctuator.TheVariants as p
use Rattle.cx_tsyn.specs.Words.{WordTree}
use Rattle.cx_tsyn.specs.Lins.{LinPartTree, number, times, symbol, LinTree, RelationTree}
use Rattle.cx_tsyn.specs.declared.lin.SRel.{SRel}
use Rattle.cx_tword.specs.declared.lexeme.TypeLexeme.{TypeLexeme}
use Rattle.cx_tword.specs.declared.lexeme.TypeLexemeKind.{TypeLexemeKind}
use Rattle.cx_tword.specs.declared.lexeme.TypeLexemeKind.TheVariants as l
use Rattle.cx_tword.specs.Marks.{Is, kind_is_mark, is_mark, is_name}
use Rattle.cx_tword.proofs.Marks.{mark_is, mark_so, name_so}
use Rattle.cx_reader.specs.Answers.{Got, Answer, ◌>>=◌, give, next_is}
use Rattle.cx_reader.specs.Lists.{Many}
use Rattle.cx_reader.proofs.ListsThere.{next_there, maybe_there, absent_there, made_there, Element, many_ends, many_there, listed_there}
use Rattle.cx_tlin.specs.Lins.{IsName, named, IsPart, part_number, part_times, part_symbol, IsSigned, plus_part, minus_part, IsLin, lin_plain, lin_negative, compared_by, IsRelation, related, AreNames, AreLins, AreRelations, EndsName, EndsPart, EndsLin, EndsNames, EndsLins}
use Rattle.cx_tlin.specs.Kinds.{is_sign, relation_of}
use Rattle.cx_tlin.specs.Reading.{word_at, name_at, number_at, part_by, part_at, signed_at, parts_at, LinBody, lin_from, body_at, lin_of, lin_at, relation, related_by, related_at, relation_at, names_at, lins_at, relations_at}

-- a mark that is none of these ends a linear form
pub lin_ends : (mark : Punctuator) (o : TypeLexeme) (w : List TypeLexeme) → Is mark o → (kind_is_mark p.Star (l.Punctuator mark) ≡ false) × (kind_is_mark p.Plus (l.Punctuator mark) ≡ false) × (kind_is_mark p.Minus (l.Punctuator mark) ≡ false) → EndsLin (o ∷ w)
lin_ends mark o w e h = (ap (kind_is_mark p.Star) e ∙ h.0, ap (kind_is_mark p.Plus) e ∙ h.1, ap (kind_is_mark p.Minus) e ∙ h.2)

-- so does a comma
pub comma_ends : (o : TypeLexeme) (w : List TypeLexeme) → is_mark p.Comma o ≡ true → EndsLin (o ∷ w)
comma_ends o w so = lin_ends p.Comma o w (mark_is p.Comma o so) (refl, refl, refl)

module _ (bytes : List ℕ) where
  -- ---- names and parts

  pub name_there : {a : List TypeLexeme} {v : WordTree} → IsName bytes a v → (rest : List TypeLexeme) → name_at bytes (a ++ rest) ≡ give v rest
  unfolding name_at
  name_there (named o e) rest = next_there is_name o rest (λ o rest. give (word_at bytes o.span) rest) (name_so o e)

  abbrev factor : ℤ → TypeLexeme → List TypeLexeme → Answer TypeLexeme LinPartTree
  factor z m rest = name_at bytes rest >>= λ x. give (times z x.tree) x.rest

  number_off : (z : ℤ) (rest : List TypeLexeme) → EndsPart rest → number_at bytes z rest ≡ give (number z) rest
  unfolding number_at
  number_off z rest off = absent_there (is_mark p.Star) (number z) rest (factor z) off

  number_times : {a : List TypeLexeme} {v : WordTree} (z : ℤ) (m : TypeLexeme) → Is p.Star m → IsName bytes a v → (rest : List TypeLexeme) → number_at bytes z (m ∷ a ++ rest) ≡ give (times z v) rest
  unfolding number_at
  number_times {a} {v} z m e s rest =
      maybe_there (is_mark p.Star) (number z) m (a ++ rest) (factor z) (mark_so p.Star m e)
      ∙ ap (λ (r : Answer TypeLexeme WordTree). r >>= λ x. give (times z x.tree) x.rest) (name_there s rest)

  symbol_there : {a : List TypeLexeme} {v : WordTree} → IsName bytes a v → (rest : List TypeLexeme) → part_at bytes (a ++ rest) ≡ give (symbol v) rest
  unfolding part_at
  symbol_there (named o e) rest = ap (part_by bytes o (o ∷ rest) rest) e

  pub part_there : {a : List TypeLexeme} {x : LinPartTree} → IsPart bytes a x → (rest : List TypeLexeme) → EndsPart rest → part_at bytes (a ++ rest) ≡ give x rest
  unfolding part_at
  part_there (part_number o z e) rest off = ap (part_by bytes o (o ∷ rest) rest) e ∙ number_off z rest off
  part_there (part_times {a = a} o m z e f s) rest off = ap (part_by bytes o (o ∷ m ∷ a ++ rest) (m ∷ a ++ rest)) e ∙ number_times z m f s rest
  part_there (part_symbol s) rest off = symbol_there s rest

  -- ---- linear forms

  kind_sign : (kind : TypeLexemeKind) → (kind_is_mark p.Plus kind || kind_is_mark p.Minus kind) ≡ true → kind_is_mark p.Star kind ≡ false
  kind_sign (l.Punctuator p.Plus) so = refl
  kind_sign (l.Punctuator p.Minus) so = refl
  kind_sign _ so = absurd cc

  sign_ends : (o : TypeLexeme) (w : List TypeLexeme) → is_sign o ≡ true → EndsPart (o ∷ w)
  sign_ends o w so = kind_sign o.kind so

  abbrev kind_signed : TypeLexemeKind → LinPartTree → Bool × LinPartTree
  kind_signed kind x = (kind_is_mark p.Minus kind, x)

  signed_element : (a : List TypeLexeme) (x : Bool × LinPartTree) → IsSigned bytes a x → Element is_sign (signed_at bytes) EndsPart a x
  signed_element _ _ (plus_part {a = a} {x = x} o e s) = record {
    o = o;
    more = a;
    parts = refl;
    goes_so = ap (λ (v : TypeLexemeKind). kind_is_mark p.Plus v || kind_is_mark p.Minus v) e;
    there = λ rest ends. ap (λ (r : Answer TypeLexeme LinPartTree). r >>= λ y. give (is_mark p.Minus o, y.tree) y.rest) (part_there s rest ends) ∙ ap (λ (v : TypeLexemeKind). give (kind_signed v x) rest) e;
  }
  signed_element _ _ (minus_part {a = a} {x = x} o e s) = record {
    o = o;
    more = a;
    parts = refl;
    goes_so = ap (λ (v : TypeLexemeKind). kind_is_mark p.Plus v || kind_is_mark p.Minus v) e;
    there = λ rest ends. ap (λ (r : Answer TypeLexeme LinPartTree). r >>= λ y. give (is_mark p.Minus o, y.tree) y.rest) (part_there s rest ends) ∙ ap (λ (v : TypeLexemeKind). give (kind_signed v x) rest) e;
  }

  no_sign : (rest : List TypeLexeme) → EndsLin rest → next_is is_sign rest ≡ false
  no_sign [] e = refl
  no_sign (o ∷ os) e = ap (λ (b : Bool). b || is_mark p.Minus o) e.1 ∙ e.2

  from_there : {a c : List TypeLexeme} {x : LinPartTree} {xs : List (Bool × LinPartTree)} → IsPart bytes a x → Many (IsSigned bytes) c xs → (negative : Bool) (rest : List TypeLexeme) → EndsLin rest → lin_from bytes negative ((a ++ c) ++ rest) ≡ give (negative, x, xs) rest
  unfolding lin_from
  from_there {a} {c} {x} {xs} s ss negative rest e =
      let last : LinPartTree → Got TypeLexeme (List (Bool × LinPartTree)) → Answer TypeLexeme LinBody = λ x y. give (negative, x, y.tree) y.rest in
      let go : Got TypeLexeme LinPartTree → Answer TypeLexeme LinBody = λ x. parts_at bytes x.rest >>= last x.tree in
      ap (λ (v : List TypeLexeme). part_at bytes v >>= go) (append_assoc a c rest)
      ∙ ap (λ (r : Answer TypeLexeme LinPartTree). r >>= go) (part_there s (c ++ rest) (many_ends (IsSigned bytes) is_sign (signed_at bytes) EndsPart sign_ends signed_element ss rest e.0))
      ∙ ap (λ (r : Answer TypeLexeme (List (Bool × LinPartTree))). r >>= last x) (many_there (IsSigned bytes) is_sign (signed_at bytes) EndsPart sign_ends signed_element ss (suc (length (c ++ rest))) [] rest (omega arith) e.0 (no_sign rest e))

  begins_name : {a : List TypeLexeme} {v : WordTree} → IsName bytes a v → (os : List TypeLexeme) → body_at bytes (a ++ os) ≡ lin_from bytes false (a ++ os)
  unfolding body_at
  begins_name (named o e) os = ap (λ (v : TypeLexemeKind). cond (kind_is_mark p.Minus v) (lin_from bytes true os) (lin_from bytes false (o ∷ os))) e

  begins_plain : {a : List TypeLexeme} {x : LinPartTree} → IsPart bytes a x → (os : List TypeLexeme) → body_at bytes (a ++ os) ≡ lin_from bytes false (a ++ os)
  unfolding body_at
  begins_plain (part_number o z e) os = ap (λ (v : TypeLexemeKind). cond (kind_is_mark p.Minus v) (lin_from bytes true os) (lin_from bytes false (o ∷ os))) e
  begins_plain (part_times {a = a} o m z e f h) os = ap (λ (v : TypeLexemeKind). cond (kind_is_mark p.Minus v) (lin_from bytes true (m ∷ a ++ os)) (lin_from bytes false (o ∷ m ∷ a ++ os))) e
  begins_plain (part_symbol s) os = begins_name s os

  abbrev body_of : LinTree → LinBody
  body_of x = (x.negative, x.first, x.rest)

  body_there : {a : List TypeLexeme} {x : LinTree} → IsLin bytes a x → (rest : List TypeLexeme) → EndsLin rest → body_at bytes (a ++ rest) ≡ give (body_of x) rest
  unfolding body_at
  body_there (lin_plain {a = a} {c = c} s ss) rest e =
      ap (body_at bytes) (append_assoc a c rest) ∙ begins_plain s (c ++ rest) ∙ ap (lin_from bytes false) (sym (append_assoc a c rest)) ∙ from_there s ss false rest e
  body_there (lin_negative {a = a} {c = c} o e s ss) rest ends =
      ap (λ (v : TypeLexemeKind). cond (kind_is_mark p.Minus v) (lin_from bytes true ((a ++ c) ++ rest)) (lin_from bytes false (o ∷ (a ++ c) ++ rest))) e ∙ from_there s ss true rest ends

  -- the tree has its place
  placed : {a : List TypeLexeme} {x : LinTree} → IsLin bytes a x → lin_of a (body_of x) ≡ x
  placed (lin_plain s ss) = refl
  placed (lin_negative o e s ss) = refl

  pub lin_there : {a : List TypeLexeme} {x : LinTree} → IsLin bytes a x → (rest : List TypeLexeme) → EndsLin rest → lin_at bytes (a ++ rest) ≡ give x rest
  unfolding lin_at
  lin_there {a} {x} s rest ends = made_there lin_of a rest (body_of x) (body_at bytes (a ++ rest)) (body_there s rest ends) ∙ ap (λ (v : LinTree). give v rest) (placed s)

  -- ---- relations

  compared_ends : (mark : Punctuator) (f : SRel) → compared_by mark ≡ Some f → (kind_is_mark p.Star (l.Punctuator mark) ≡ false) × (kind_is_mark p.Plus (l.Punctuator mark) ≡ false) × (kind_is_mark p.Minus (l.Punctuator mark) ≡ false)
  compared_ends p.Equal f e = (refl, refl, refl)
  compared_ends p.NotEqual f e = (refl, refl, refl)
  compared_ends p.Less f e = (refl, refl, refl)
  compared_ends p.LessEqual f e = (refl, refl, refl)
  compared_ends p.Greater f e = (refl, refl, refl)
  compared_ends p.GreaterEqual f e = (refl, refl, refl)
  compared_ends _ f e = absurd cc

  pub relation_there : {a : List TypeLexeme} {x : RelationTree} → IsRelation bytes a x → (rest : List TypeLexeme) → EndsLin rest → relation_at bytes (a ++ rest) ≡ give x rest
  unfolding relation_at
  relation_there (related {a = a} {c = c} {x = x} {y = y} o mark f s e g t) rest ends =
      let last : Got TypeLexeme LinTree → Answer TypeLexeme RelationTree = λ y. give (relation x f y.tree) y.rest in
      ap (λ (v : List TypeLexeme). lin_at bytes v >>= related_at bytes) (append_assoc a (o ∷ c) rest)
      ∙ ap (λ (r : Answer TypeLexeme LinTree). r >>= related_at bytes) (lin_there s (o ∷ c ++ rest) (lin_ends mark o (c ++ rest) e (compared_ends mark f g)))
      ∙ ap (related_by bytes x (o ∷ c ++ rest) (c ++ rest)) (ap relation_of e ∙ g)
      ∙ ap (λ (r : Answer TypeLexeme LinTree). r >>= last) (lin_there t rest ends)

  -- ---- lists

  pub names_there : {a : List TypeLexeme} {xs : List WordTree} → AreNames bytes a xs → (rest : List TypeLexeme) → EndsNames rest → names_at bytes (a ++ rest) ≡ give xs rest
  names_there s rest ends = listed_there (IsName bytes) (name_at bytes) EndsName (λ m a rest x s less ends. name_there s rest) (Is p.Comma) (is_mark p.Comma) (mark_so p.Comma) (λ o w so. tt) s rest tt ends

  pub lins_there : {a : List TypeLexeme} {xs : List LinTree} → AreLins bytes a xs → (rest : List TypeLexeme) → EndsLins rest → lins_at bytes (a ++ rest) ≡ give xs rest
  lins_there s rest ends = listed_there (IsLin bytes) (lin_at bytes) EndsLin (λ m a rest x s less ends. lin_there s rest ends) (Is p.Comma) (is_mark p.Comma) (mark_so p.Comma) comma_ends s rest ends.0 ends.1

  pub relations_there : {a : List TypeLexeme} {xs : List RelationTree} → AreRelations bytes a xs → (rest : List TypeLexeme) → EndsLins rest → relations_at bytes (a ++ rest) ≡ give xs rest
  relations_there s rest ends = listed_there (IsRelation bytes) (relation_at bytes) EndsLin (λ m a rest x s less ends. relation_there s rest ends) (Is p.Comma) (is_mark p.Comma) (mark_so p.Comma) comma_ends s rest ends.0 ends.1
