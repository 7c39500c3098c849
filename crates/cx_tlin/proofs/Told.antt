-- What is told of the readers of names, parts, linear forms and relations.
use Rattle.std.proofs.Common.{◌≡◌, ℕ, ℤ, ◌<◌, Bool, true, false, List, [], ◌∷◌, ◌++◌, length, Option, Some, None, refl, sym, ap, subst, arith}
use Rattle.std.specs.Prelude.{◌||◌}
use Rattle.cx_cword.specs.declared.word.Punctuator.{Punctuator}
use Rattle.cx_cword.specs.declared.word.Punctuator.TheVariants as p
use Rattle.cx_tsyn.specs.Lins.{LinPartTree, number, times, symbol, LinTree, RelationTree}
use Rattle.cx_tsyn.specs.declared.lin.SRel.{SRel}
use Rattle.cx_tsyn.specs.declared.lin.SRel.TheVariants as r
use Rattle.cx_tword.specs.declared.lexeme.TypeLexeme.{TypeLexeme}
use Rattle.cx_tword.specs.declared.lexeme.TypeLexemeKind.{TypeLexemeKind}
use Rattle.cx_tword.specs.declared.lexeme.TypeLexemeKind.TheVariants as l
use Rattle.cx_tword.specs.Marks.{Is, is_mark, is_name}
use Rattle.cx_tword.proofs.Marks.{mark_is, name_is, a_mark, a_name}
use Rattle.cx_reader.specs.Answers.{Answer, fault, ◌>>=◌, give}
use Rattle.cx_reader.specs.Lists.{Many, no_more}
use Rattle.cx_reader.proofs.Laws.{Viable, Good}
use Rattle.cx_reader.proofs.Tells.{viable, gives, fails, takes, stays, none_left, thens, sends, wants, may, chooses, makes}
use Rattle.cx_reader.proofs.ListsTold.{Grown, many_length, listed_good}
use Rattle.cx_tlin.specs.Lins.{IsName, named, IsPart, part_number, part_times, part_symbol, IsSigned, plus_part, minus_part, IsLin, lin_plain, lin_negative, compared_by, IsRelation, related, AreNames, AreLins, AreRelations}
use Rattle.cx_tlin.specs.Kinds.{is_sign, relation_of}
use Rattle.cx_tlin.specs.Reading.{word_at, name_at, number_at, part_by, part_at, signed_at, parts_at, LinBody, lin_from, body_at, lin_of, lin_at, relation, related_by, related_at, relation_at, names_at, lins_at, relations_at}

module _ (bytes : List ℕ) where
  -- ---- names

  abbrev pub small_name : Viable (IsName bytes)
  small_name = record { more = a_name ∷ []; tree = word_at bytes a_name.span; spelled_so = named a_name refl }

  pub name_good : (n : ℕ) (os : List TypeLexeme) → length os < n → Good (IsName bytes) (λ m w. name_at bytes w) n os
  unfolding name_at
  name_good n os less =
      wants (IsName bytes) is_name a_name (λ m o w. give (word_at bytes o.span) w) n os less (viable _ [] (named a_name refl))
      (λ o rest so less. gives (λ b x. IsName bytes (o ∷ b) x) (word_at bytes o.span) n rest (named o (name_is o so)))

  -- ---- parts

  abbrev pub small_part : Viable (IsPart bytes)
  small_part = record { more = a_name ∷ []; tree = symbol (word_at bytes a_name.span); spelled_so = part_symbol (named a_name refl) }

  number_good : (n : ℕ) (o : TypeLexeme) (z : ℤ) (os : List TypeLexeme) → length os < n → o.kind ≡ l.Number z → Good (λ b x. IsPart bytes (o ∷ b) x) (λ m w. number_at bytes z w) n os
  unfolding number_at
  number_good n o z os less e =
      may (λ b x. IsPart bytes (o ∷ b) x) (is_mark p.Star) (number z) (part_number o z e) (λ m s w. name_at bytes w >>= λ x. give (times z x.tree) x.rest) n os less
      (λ s rest so less. sends (IsName bytes) (λ b x. IsPart bytes (o ∷ s ∷ b) x) (λ m w. name_at bytes w) (λ v. times z v) n rest (λ b v h. part_times o s z e (mark_is p.Star s so) h) (name_good n rest less))

  part_step : (n : ℕ) (o : TypeLexeme) (rest : List TypeLexeme) (kind : TypeLexemeKind) → length (o ∷ rest) < n → o.kind ≡ kind → Good (IsPart bytes) (λ m w. part_at bytes w) n (o ∷ rest)
  unfolding part_at
  part_step n o rest (l.Number z) less e = takes (IsPart bytes) (λ m w. part_at bytes w) (λ m w. number_at bytes z w) n o rest (omega (arith, less)) (λ m w some. ap (part_by bytes o (o ∷ w) w) e) (number_good n o z rest (omega (arith, less)) e)
  part_step n o rest l.Name less e =
      takes (IsPart bytes) (λ m w. part_at bytes w) (λ m w. give (symbol (word_at bytes o.span)) w) n o rest (omega (arith, less)) (λ m w some. ap (part_by bytes o (o ∷ w) w) e)
      (gives (λ b x. IsPart bytes (o ∷ b) x) (symbol (word_at bytes o.span)) n rest (part_symbol (named o e)))
  part_step n o rest _ less e = stays (IsPart bytes) (λ m w. part_at bytes w) (λ m w. fault (length w)) n o rest (omega (arith, less)) (λ m w some. ap (part_by bytes o (o ∷ w) w) e) (fails (IsPart bytes) n (o ∷ rest) small_part)

  pub part_good : (n : ℕ) (os : List TypeLexeme) → length os < n → Good (IsPart bytes) (λ m w. part_at bytes w) n os
  unfolding part_at
  part_good n [] less = none_left (IsPart bytes) (λ m w. part_at bytes w) (λ m w. fault (length w)) n (omega (arith, less)) (λ m some. refl) (fails (IsPart bytes) n [] small_part)
  part_good n (o ∷ rest) less = part_step n o rest o.kind less refl

  -- ---- linear forms

  signed_by : (o : TypeLexeme) (minus plus : Bool) → is_mark p.Minus o ≡ minus → is_mark p.Plus o ≡ plus → (plus || minus) ≡ true → (b : List TypeLexeme) (x : LinPartTree) → IsPart bytes b x → IsSigned bytes (o ∷ b) (is_mark p.Minus o, x)
  signed_by o true plus e f g b x s = subst (λ (v : Bool). IsSigned bytes (o ∷ b) (v, x)) (sym e) (minus_part o (mark_is p.Minus o e) s)
  signed_by o false true e f g b x s = subst (λ (v : Bool). IsSigned bytes (o ∷ b) (v, x)) (sym e) (plus_part o (mark_is p.Plus o f) s)
  signed_by o false false e f g b x s = absurd cc

  signed_good : (n : ℕ) (o : TypeLexeme) (rest : List TypeLexeme) → is_sign o ≡ true → length rest < n → Good (λ b x. IsSigned bytes (o ∷ b) x) (λ m w. signed_at bytes o w) n rest
  signed_good n o rest so less = sends (IsPart bytes) (λ b x. IsSigned bytes (o ∷ b) x) (λ m w. part_at bytes w) (λ x. (is_mark p.Minus o, x)) n rest (signed_by o (is_mark p.Minus o) (is_mark p.Plus o) refl refl so) (part_good n rest less)

  from_good : (S : List TypeLexeme → LinBody → Type 0) (negative : Bool) → ((a c : List TypeLexeme) (x : LinPartTree) (xs : List (Bool × LinPartTree)) → IsPart bytes a x → Many (IsSigned bytes) c xs → S (a ++ c) (negative, x, xs))
      → (n : ℕ) (os : List TypeLexeme) → length os < n → Good S (λ m w. lin_from bytes negative w) n os
  unfolding lin_from
  from_good S negative f n os less =
      thens (IsPart bytes) S (λ m w. part_at bytes w) (λ m x. parts_at bytes x.rest >>= λ y. give (negative, x.tree, y.tree) y.rest) n os less (part_good n os less)
      (λ a x s. viable _ [] (f a [] x [] s no_more))
      (λ a rest x s less. sends (Grown (Many (IsSigned bytes)) []) (λ b y. S (a ++ b) y) (λ m w. parts_at bytes w) (λ ys. (negative, x, ys)) n rest
      (λ b ys g. subst (λ (v : List (Bool × LinPartTree)). S (a ++ b) (negative, x, v)) (sym g.parts) (f a b x g.more s g.are))
      (many_length (IsSigned bytes) is_sign (signed_at bytes) signed_good n [] rest))

  -- a linear form without its place
  abbrev IsBody : List TypeLexeme → LinBody → Type 0
  IsBody a x = IsLin bytes a (lin_of a x)

  abbrev pub small_lin : Viable (IsLin bytes)
  small_lin = record { more = a_name ∷ []; tree = lin_of (a_name ∷ []) (false, small_part.tree, []); spelled_so = lin_plain small_part.spelled_so no_more }

  small_body : Viable IsBody
  small_body = record { more = a_name ∷ []; tree = (false, small_part.tree, []); spelled_so = lin_plain small_part.spelled_so no_more }

  body_good : (n : ℕ) (os : List TypeLexeme) → length os < n → Good IsBody (λ m w. body_at bytes w) n os
  unfolding body_at
  body_good n [] less = none_left IsBody (λ m w. body_at bytes w) (λ m w. fault (length w)) n (omega (arith, less)) (λ m some. refl) (fails IsBody n [] small_body)
  body_good n (o ∷ rest) less =
      chooses IsBody (λ m w. body_at bytes w) n o rest (is_mark p.Minus o) (λ m w. lin_from bytes true w) (λ m w. lin_from bytes false w) (omega (arith, less)) (λ m w some. refl)
      (λ so. from_good (λ b x. IsBody (o ∷ b) x) true (λ a c x xs s ss. lin_negative o (mark_is p.Minus o so) s ss) n rest (omega (arith, less)))
      (λ off. from_good IsBody false (λ a c x xs s ss. lin_plain s ss) n (o ∷ rest) less)

  pub lin_good : (n : ℕ) (os : List TypeLexeme) → length os < n → Good (IsLin bytes) (λ m w. lin_at bytes w) n os
  unfolding lin_at
  lin_good n os less = makes (IsLin bytes) (λ m w. body_at bytes w) lin_of n os (body_good n os less)

  -- ---- relations

  abbrev a_less : TypeLexeme
  a_less = a_mark p.Less

  abbrev pub small_relation : Viable (IsRelation bytes)
  small_relation = record { more = a_name ∷ a_less ∷ a_name ∷ []; tree = relation small_lin.tree r.Lt small_lin.tree; spelled_so = related a_less p.Less r.Lt small_lin.spelled_so refl refl small_lin.spelled_so }

  -- goes on behind the left side
  goes_on_related : (a : List TypeLexeme) (x : LinTree) → IsLin bytes a x → Viable (λ b y. IsRelation bytes (a ++ b) y)
  goes_on_related a x s = record { more = a_less ∷ a_name ∷ []; tree = relation x r.Lt small_lin.tree; spelled_so = related a_less p.Less r.Lt s refl refl small_lin.spelled_so }

  abbrev right_at : LinTree → ℕ → List TypeLexeme → Answer TypeLexeme RelationTree
  right_at x m w = related_at bytes (record { tree = x; rest = w })

  right_by : (n : ℕ) (a : List TypeLexeme) (x : LinTree) (o : TypeLexeme) (rest : List TypeLexeme) (mark : Punctuator) (f : Option SRel) → length (o ∷ rest) < n → IsLin bytes a x → Is mark o → compared_by mark ≡ f → relation_of o.kind ≡ f → Good (λ b y. IsRelation bytes (a ++ b) y) (right_at x) n (o ∷ rest)
  right_by n a x o rest mark (Some f) less s e g h =
      takes (λ b y. IsRelation bytes (a ++ b) y) (right_at x) (λ m w. lin_at bytes w >>= λ y. give (relation x f y.tree) y.rest) n o rest (omega (arith, less)) (λ m w some. ap (related_by bytes x (o ∷ w) w) h)
      (sends (IsLin bytes) (λ b y. IsRelation bytes (a ++ o ∷ b) y) (λ m w. lin_at bytes w) (λ y. relation x f y) n rest (λ b y t. related o mark f s e g t) (lin_good n rest (omega (arith, less))))
  right_by n a x o rest mark None less s e g h = stays (λ b y. IsRelation bytes (a ++ b) y) (right_at x) (λ m w. fault (length w)) n o rest (omega (arith, less)) (λ m w some. ap (related_by bytes x (o ∷ w) w) h) (fails (λ b y. IsRelation bytes (a ++ b) y) n (o ∷ rest) (goes_on_related a x s))

  right_step : (n : ℕ) (a : List TypeLexeme) (x : LinTree) (o : TypeLexeme) (rest : List TypeLexeme) (kind : TypeLexemeKind) → length (o ∷ rest) < n → IsLin bytes a x → o.kind ≡ kind → Good (λ b y. IsRelation bytes (a ++ b) y) (right_at x) n (o ∷ rest)
  right_step n a x o rest (l.Punctuator mark) less s e = right_by n a x o rest mark (compared_by mark) less s e refl (ap relation_of e)
  right_step n a x o rest _ less s e = stays (λ b y. IsRelation bytes (a ++ b) y) (right_at x) (λ m w. fault (length w)) n o rest (omega (arith, less)) (λ m w some. ap (related_by bytes x (o ∷ w) w) (ap relation_of e)) (fails (λ b y. IsRelation bytes (a ++ b) y) n (o ∷ rest) (goes_on_related a x s))

  right_good : (n : ℕ) (a : List TypeLexeme) (x : LinTree) (os : List TypeLexeme) → length os < n → IsLin bytes a x → Good (λ b y. IsRelation bytes (a ++ b) y) (right_at x) n os
  right_good n a x [] less s = none_left (λ b y. IsRelation bytes (a ++ b) y) (right_at x) (λ m w. fault (length w)) n (omega (arith, less)) (λ m some. refl) (fails (λ b y. IsRelation bytes (a ++ b) y) n [] (goes_on_related a x s))
  right_good n a x (o ∷ rest) less s = right_step n a x o rest o.kind less s refl

  pub relation_good : (n : ℕ) (os : List TypeLexeme) → length os < n → Good (IsRelation bytes) (λ m w. relation_at bytes w) n os
  unfolding relation_at
  relation_good n os less = thens (IsLin bytes) (IsRelation bytes) (λ m w. lin_at bytes w) (λ m x. related_at bytes x) n os less (lin_good n os less) goes_on_related (λ a rest x s less. right_good n a x rest less s)

  -- ---- lists

  pub names_good : (n : ℕ) (os : List TypeLexeme) → length os < n → Good (AreNames bytes) (λ m w. names_at bytes w) n os
  names_good n os less = listed_good (IsName bytes) (name_at bytes) small_name name_good (Is p.Comma) (is_mark p.Comma) (mark_is p.Comma) n os less

  pub lins_good : (n : ℕ) (os : List TypeLexeme) → length os < n → Good (AreLins bytes) (λ m w. lins_at bytes w) n os
  lins_good n os less = listed_good (IsLin bytes) (lin_at bytes) small_lin lin_good (Is p.Comma) (is_mark p.Comma) (mark_is p.Comma) n os less

  pub relations_good : (n : ℕ) (os : List TypeLexeme) → length os < n → Good (AreRelations bytes) (λ m w. relations_at bytes w) n os
  relations_good n os less = listed_good (IsRelation bytes) (relation_at bytes) small_relation relation_good (Is p.Comma) (is_mark p.Comma) (mark_is p.Comma) n os less
