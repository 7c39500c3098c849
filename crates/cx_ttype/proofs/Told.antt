-- What is told of the readers of types.
use Rattle.std.proofs.Common.{◌≡◌, ℕ, zero, suc, ◌<◌, Bool, true, false, cond, List, [], ◌∷◌, ◌++◌, length, Option, Some, None, refl, sym, ap, ◌∙◌, subst, append_assoc, length-append, arith}
use Rattle.std.specs.Prelude.{◌||◌}
use Rattle.cx_cword.specs.declared.word.Punctuator.{Punctuator}
use Rattle.cx_cword.specs.declared.word.Punctuator.TheVariants as p
use Rattle.cx_tsyn.specs.Words.{WordTree}
use Rattle.cx_tsyn.specs.Types.{STypeTree, AtomTree, cell, paren, tagged, product, cases, SFieldTree, SBranchTree, types_in_order, fields_in_order, branches_in_order}
use Rattle.cx_tword.specs.declared.word.TypeWord.TheVariants as tw
use Rattle.cx_tword.specs.declared.lexeme.TypeLexeme.{TypeLexeme}
use Rattle.cx_tword.specs.Marks.{Is, IsWord, is_mark, is_word}
use Rattle.cx_tword.proofs.Marks.{mark_is, word_is, a_mark, a_word, a_name}
use Rattle.cx_reader.specs.Answers.{Answer, fault, ◌>>=◌, give, next_is, next_at}
use Rattle.cx_reader.specs.Lists.{no_more, listed}
use Rattle.cx_reader.proofs.Laws.{Viable, Good}
use Rattle.cx_reader.proofs.Tells.{viable, gives, fails, maps, lengths, takes_turn, stays, none_left, turn_less, thens, thens_turn, sends, wants, may, makes}
use Rattle.cx_reader.proofs.ListsTold.{Grown, none_grown, join_grown, step}
use Rattle.cx_tlin.specs.Lins.{IsName, IsLin, AreNames, AreRelations}
use Rattle.cx_tlin.specs.Reading.{word_at, name_at, lin_at, names_at, relations_at}
use Rattle.cx_tlin.proofs.Told.{small_name, name_good, lin_good, names_good, small_relation, relations_good}
use Rattle.cx_tcell.specs.Cells.{IsCell}
use Rattle.cx_tcell.specs.Reading.{cell_at}
use Rattle.cx_tcell.proofs.Told.{small_cell, cell_good}
use Rattle.cx_ttype.specs.Types.{AreBinders, no_binders, some_binders, IsTimes, no_times, a_times, AreConds, no_conds, some_conds, IsTagWord, word_struct, word_union, IsAsTag, no_as_tag, an_as_tag, names_field, IsType, is_type, IsAtom, atom_cell, atom_paren, atom_tagged, atom_product, atom_cases, IsPiece, a_piece, ArePieces, no_pieces, more_pieces, IsBody, a_body, IsField, a_field, AreFields, no_fields, more_fields, IsBranch, a_branch, AreBranches, no_branches, more_branches}
use Rattle.cx_ttype.specs.Reading.{binders_at, times_at, conds_at, is_tag_word, tag_at, as_tag_of, as_tag_at, closed_at, TypeBody, type_of, parts_by, piece_from, body_by, field_by, branch_by, cell_from, paren_from, product_end, product_from, opened_tag_at, tagged_by, cases_by, atom_by, atom_at, pieces_at, fields_at, branches_at, type_at, stype_at}

-- ---- words for struct and union

tag_by : (d : TypeLexeme) (union struct : Bool) → is_word tw.Union d ≡ union → is_word tw.Struct d ≡ struct → (struct || union) ≡ true → IsTagWord d (is_word tw.Union d)
tag_by d true struct e f g = subst (IsTagWord d) (sym e) (word_union d (word_is tw.Union d e))
tag_by d false true e f g = subst (IsTagWord d) (sym e) (word_struct d (word_is tw.Struct d f))
tag_by d false false e f g = absurd cc

pub tag_word_is : (d : TypeLexeme) → is_tag_word d ≡ true → IsTagWord d (is_word tw.Union d)
tag_word_is d so = tag_by d (is_word tw.Union d) (is_word tw.Struct d) refl refl so

-- a tag and a brace
data IsOpened (bytes : List ℕ) : List TypeLexeme → WordTree → Type 0 where
  opened : {v : List TypeLexeme} {t : WordTree} (o : TypeLexeme) → IsName bytes v t → Is p.OpenBrace o → IsOpened bytes (v ++ o ∷ []) t

-- one branch or more
data AreSome (bytes : List ℕ) : List TypeLexeme → List SBranchTree → Type 0 where
  some_branches : {a b : List TypeLexeme} {x : SBranchTree} {xs : List SBranchTree} → IsBranch bytes a x → AreBranches bytes b xs → AreSome bytes (a ++ b) (x ∷ xs)

module _ (bytes : List ℕ) where
  -- ---- what stands around an atom

  pub binders_good : (n : ℕ) (os : List TypeLexeme) → length os < n → Good (AreBinders bytes) (λ m w. binders_at bytes w) n os
  unfolding binders_at
  binders_good n os less =
      may (AreBinders bytes) (is_word tw.Some) [] no_binders (λ m o v. names_at bytes v >>= λ xs. next_at (is_word tw.Of) xs.rest (λ c rest. give xs.tree rest)) n os less
      (λ o rest so less. let e = word_is tw.Some o so in
      thens (AreNames bytes) (λ b x. AreBinders bytes (o ∷ b) x) (λ m v. names_at bytes v) (λ m xs. next_at (is_word tw.Of) xs.rest (λ c rest. give xs.tree rest)) n rest less (names_good bytes n rest less)
      (λ a xs s. viable _ (a_word tw.Of ∷ []) (some_binders o (a_word tw.Of) e s refl))
      (λ a rest xs s less. wants (λ b x. AreBinders bytes (o ∷ a ++ b) x) (is_word tw.Of) (a_word tw.Of) (λ m c v. give xs v) n rest less (viable _ [] (some_binders o (a_word tw.Of) e s refl))
      (λ c rest f less. gives (λ b x. AreBinders bytes (o ∷ a ++ c ∷ b) x) xs n rest (some_binders o c e s (word_is tw.Of c f)))))

  times_good : (n : ℕ) (os : List TypeLexeme) → length os < n → Good (IsTimes bytes) (λ m w. times_at bytes w) n os
  unfolding times_at
  times_good n os less =
      may (IsTimes bytes) (is_mark p.OpenBracket) None no_times (λ m o v. lin_at bytes v >>= λ x. next_at (is_mark p.CloseBracket) x.rest (λ c rest. give (Some x.tree) rest)) n os less
      (λ o rest so less. let e = mark_is p.OpenBracket o so in
      thens (IsLin bytes) (λ b x. IsTimes bytes (o ∷ b) x) (λ m v. lin_at bytes v) (λ m x. next_at (is_mark p.CloseBracket) x.rest (λ c rest. give (Some x.tree) rest)) n rest less (lin_good bytes n rest less)
      (λ a x s. viable _ (a_mark p.CloseBracket ∷ []) (a_times o (a_mark p.CloseBracket) e s refl))
      (λ a rest x s less. wants (λ b y. IsTimes bytes (o ∷ a ++ b) y) (is_mark p.CloseBracket) (a_mark p.CloseBracket) (λ m c v. give (Some x) v) n rest less (viable _ [] (a_times o (a_mark p.CloseBracket) e s refl))
      (λ c rest f less. gives (λ b y. IsTimes bytes (o ∷ a ++ c ∷ b) y) (Some x) n rest (a_times o c e s (mark_is p.CloseBracket c f)))))

  pub conds_good : (n : ℕ) (os : List TypeLexeme) → length os < n → Good (AreConds bytes) (λ m w. conds_at bytes w) n os
  unfolding conds_at
  conds_good n os less =
      may (AreConds bytes) (is_word tw.Where) [] no_conds (λ m o v. relations_at bytes v) n os less
      (λ o rest so less. maps (AreRelations bytes) (λ b x. AreConds bytes (o ∷ b) x) (λ m v. relations_at bytes v) n rest (λ b x s. some_conds o (word_is tw.Where o so) s) (relations_good bytes n rest less))

  -- ---- tags

  -- a tag behind the word as, without its place
  abbrev IsTag : List TypeLexeme → Option (Bool × WordTree) → Type 0
  IsTag a t = IsAsTag bytes a (as_tag_of a t)

  tag_good : (n : ℕ) (os : List TypeLexeme) → length os < n → Good IsTag (λ m w. tag_at bytes w) n os
  unfolding tag_at
  tag_good n os less =
      may IsTag (is_word tw.As) None no_as_tag (λ m o v. next_at is_tag_word v (λ d rest. name_at bytes rest >>= λ x. give (Some (is_word tw.Union d, x.tree)) x.rest)) n os less
      (λ o rest so less. let e = word_is tw.As o so in
      wants (λ b t. IsTag (o ∷ b) t) is_tag_word (a_word tw.Struct) (λ m d v. name_at bytes v >>= λ x. give (Some (is_word tw.Union d, x.tree)) x.rest) n rest less
      (viable (Some (false, (small_name bytes).tree)) (a_name ∷ []) (an_as_tag o (a_word tw.Struct) e (word_struct (a_word tw.Struct) refl) (small_name bytes).spelled_so))
      (λ d rest f less. sends (IsName bytes) (λ b t. IsTag (o ∷ d ∷ b) t) (λ m v. name_at bytes v) (λ x. Some (is_word tw.Union d, x)) n rest (λ b x s. an_as_tag o d e (tag_word_is d f) s) (name_good bytes n rest less)))

  as_tag_good : (n : ℕ) (os : List TypeLexeme) → length os < n → Good (IsAsTag bytes) (λ m w. as_tag_at bytes w) n os
  unfolding as_tag_at
  as_tag_good n os less = makes (IsAsTag bytes) (λ m w. tag_at bytes w) as_tag_of n os (tag_good n os less)

  -- ---- types, where atoms are good

  -- a type without its place
  abbrev IsParts : List TypeLexeme → TypeBody → Type 0
  IsParts a x = IsType bytes a (type_of a x)

  parts_good : (n : ℕ) (os : List TypeLexeme) → length os < n → ((os : List TypeLexeme) → length os < n → Good (IsAtom bytes) (atom_at bytes) n os) → Good IsParts (λ m w. parts_by bytes (atom_at bytes m) w) n os
  parts_good n os less h =
      thens (AreBinders bytes) IsParts (λ m v. binders_at bytes v) (λ m bs. atom_at bytes m bs.rest >>= λ x. times_at bytes x.rest >>= λ t. conds_at bytes t.rest >>= λ c. give (bs.tree, x.tree, t.tree, c.tree) c.rest) n os less (binders_good n os less)
      (λ a bs s. viable (bs, cell (small_cell bytes).tree, None, []) (a_word tw.Any ∷ []) (is_type s (atom_cell (small_cell bytes).spelled_so) no_times no_conds))
      (λ a rest bs s less.
      thens (IsAtom bytes) (λ b x. IsParts (a ++ b) x) (atom_at bytes) (λ m x. times_at bytes x.rest >>= λ t. conds_at bytes t.rest >>= λ c. give (bs, x.tree, t.tree, c.tree) c.rest) n rest less (h rest less)
      (λ b x u. viable (bs, x, None, []) [] (is_type s u no_times no_conds))
      (λ b rest x u less.
      thens (IsTimes bytes) (λ c y. IsParts (a ++ (b ++ c)) y) (λ m v. times_at bytes v) (λ m t. conds_at bytes t.rest >>= λ c. give (bs, x, t.tree, c.tree) c.rest) n rest less (times_good n rest less)
      (λ c t v. viable (bs, x, t, []) [] (is_type s u v no_conds))
      (λ c rest t v less. sends (AreConds bytes) (λ d y. IsParts (a ++ (b ++ (c ++ d))) y) (λ m w. conds_at bytes w) (λ cs. (bs, x, t, cs)) n rest (λ d cs h. is_type s u v h) (conds_good n rest less))))

  pub type_good : (n : ℕ) (os : List TypeLexeme) → length os < n → ((os : List TypeLexeme) → length os < n → Good (IsAtom bytes) (atom_at bytes) n os) → Good (IsType bytes) (type_at bytes) n os
  type_good n os less h = makes (IsType bytes) (λ m w. parts_by bytes (atom_at bytes m) w) type_of n os (parts_good n os less h)

  abbrev pub small_type : Viable (IsType bytes)
  small_type = record { more = a_word tw.Any ∷ []; tree = type_of (a_word tw.Any ∷ []) ([], cell (small_cell bytes).tree, None, []); spelled_so = is_type no_binders (atom_cell (small_cell bytes).spelled_so) no_times no_conds }

  abbrev small_atom : Viable (IsAtom bytes)
  small_atom = record { more = a_word tw.Any ∷ []; tree = cell (small_cell bytes).tree; spelled_so = atom_cell (small_cell bytes).spelled_so }

  -- ---- a mark behind what is read

  pub closed_good : {A : Type 0} (S : List TypeLexeme → A → Type 0) (mark : Punctuator) (x : A) (n : ℕ) (os : List TypeLexeme) → length os < n → ((c : TypeLexeme) → Is mark c → S (c ∷ []) x) → Good S (λ m w. closed_at mark x w) n os
  closed_good S mark x n os less f = wants S (is_mark mark) (a_mark mark) (λ m c v. give x v) n os less (viable x [] (f (a_mark mark) refl)) (λ c rest so less. gives (λ b y. S (c ∷ b) y) x n rest (f c (mark_is mark c so)))

  abbrev semicolon : TypeLexeme
  semicolon = a_mark p.Semicolon

  piece_good : (n : ℕ) (os : List TypeLexeme) → length os < n → Good (IsType bytes) (type_at bytes) n os → Good (IsPiece bytes) (λ m w. piece_from (type_at bytes m w)) n os
  piece_good n os less h =
      thens (IsType bytes) (IsPiece bytes) (type_at bytes) (λ m x. closed_at p.Semicolon x.tree x.rest) n os less h
      (λ a t s. viable t (semicolon ∷ []) (a_piece semicolon s refl))
      (λ a rest t s less. closed_good (λ b x. IsPiece bytes (a ++ b) x) p.Semicolon t n rest less (λ c e. a_piece c s e))

  piece_body : (o : TypeLexeme) (a : List TypeLexeme) (t : STypeTree) → Is p.Colon o → IsPiece bytes a t → IsBody bytes (o ∷ a) t
  piece_body o _ t e (a_piece s h f) = a_body o s e h f

  body_good : (n : ℕ) (os : List TypeLexeme) → length os < n → ((os : List TypeLexeme) → length os < n → Good (IsType bytes) (type_at bytes) n os) → Good (IsBody bytes) (λ m w. body_by (type_at bytes m) w) n os
  body_good n os less h =
      wants (IsBody bytes) (is_mark p.Colon) (a_mark p.Colon) (λ m o v. piece_from (type_at bytes m v)) n os less
      (viable (small_type.tree) (a_word tw.Any ∷ semicolon ∷ []) (a_body (a_mark p.Colon) semicolon refl small_type.spelled_so refl))
      (λ o rest so less. maps (IsPiece bytes) (λ b x. IsBody bytes (o ∷ b) x) (λ m v. piece_from (type_at bytes m v)) n rest (λ b x s. piece_body o b x (mark_is p.Colon o so) s) (piece_good n rest less (h rest less)))

  abbrev small_body : Viable (IsBody bytes)
  small_body = record { more = a_mark p.Colon ∷ a_word tw.Any ∷ semicolon ∷ []; tree = small_type.tree; spelled_so = a_body (a_mark p.Colon) semicolon refl small_type.spelled_so refl }

  field_good : (n : ℕ) (o : TypeLexeme) (rest : List TypeLexeme) → names_field o ≡ true → length rest < n → ((os : List TypeLexeme) → length os < n → Good (IsType bytes) (type_at bytes) n os) → Good (λ b x. IsField bytes (o ∷ b) x) (λ m w. field_by bytes (type_at bytes m) o w) n rest
  field_good n o rest so less h = sends (IsBody bytes) (λ b x. IsField bytes (o ∷ b) x) (λ m v. body_by (type_at bytes m) v) (λ t. record { name = word_at bytes o.span; body = t }) n rest (λ b t s. a_field o so s) (body_good n rest less h)

  branch_good : (n : ℕ) (o : TypeLexeme) (rest : List TypeLexeme) → is_word tw.When o ≡ true → length rest < n → ((os : List TypeLexeme) → length os < n → Good (IsType bytes) (type_at bytes) n os) → Good (λ b x. IsBranch bytes (o ∷ b) x) (λ m w. branch_by bytes (type_at bytes m) w) n rest
  branch_good n o rest so less h =
      let e = word_is tw.When o so in
      thens (AreRelations bytes) (λ b x. IsBranch bytes (o ∷ b) x) (λ m v. relations_at bytes v) (λ m gs. body_by (type_at bytes m) gs.rest >>= λ t. give (record { guard = gs.tree; body = t.tree }) t.rest) n rest less (relations_good bytes n rest less)
      (λ a gs s. viable _ small_body.more (a_branch o e s small_body.spelled_so))
      (λ a rest gs s less. sends (IsBody bytes) (λ b x. IsBranch bytes (o ∷ a ++ b) x) (λ m v. body_by (type_at bytes m) v) (λ t. record { guard = gs; body = t }) n rest (λ b t u. a_branch o e s u) (body_good n rest less h))

  paren_good : (n : ℕ) (o : TypeLexeme) (rest : List TypeLexeme) → Is p.OpenParen o → length rest < n → Good (IsType bytes) (type_at bytes) n rest → Good (λ b x. IsAtom bytes (o ∷ b) x) (λ m w. paren_from (type_at bytes m w)) n rest
  paren_good n o rest e less h =
      thens (IsType bytes) (λ b x. IsAtom bytes (o ∷ b) x) (type_at bytes) (λ m x. closed_at p.CloseParen (paren x.tree) x.rest) n rest less h
      (λ a t s. viable _ (a_mark p.CloseParen ∷ []) (atom_paren o (a_mark p.CloseParen) e s refl))
      (λ a rest t s less. closed_good (λ b x. IsAtom bytes (o ∷ a ++ b) x) p.CloseParen (paren t) n rest less (λ c f. atom_paren o c e s f))

  abbrev brace : TypeLexeme
  brace = a_mark p.CloseBrace

  product_good : (n : ℕ) (o : TypeLexeme) (rest : List TypeLexeme) → Is p.OpenBrace o → length rest < n → Good (ArePieces bytes) (λ m w. pieces_at bytes m [] w) n rest → Good (λ b x. IsAtom bytes (o ∷ b) x) (λ m w. product_from bytes (pieces_at bytes m [] w)) n rest
  product_good n o rest e less h =
      thens (ArePieces bytes) (λ b x. IsAtom bytes (o ∷ b) x) (λ m w. pieces_at bytes m [] w) (λ m x. product_end bytes x.tree x.rest) n rest less h
      (λ a ts s. viable _ (brace ∷ []) (atom_product o brace e s refl no_as_tag))
      (λ a rest ts s less.
      wants (λ b x. IsAtom bytes (o ∷ a ++ b) x) (is_mark p.CloseBrace) brace (λ m c v. as_tag_at bytes v >>= λ t. give (product (types_in_order ts) t.tree) t.rest) n rest less (viable _ [] (atom_product o brace e s refl no_as_tag))
      (λ c rest so less. sends (IsAsTag bytes) (λ b x. IsAtom bytes (o ∷ a ++ c ∷ b) x) (λ m v. as_tag_at bytes v) (λ t. product (types_in_order ts) t) n rest (λ b t u. atom_product o c e s (mark_is p.CloseBrace c so) u) (as_tag_good n rest less)))

  opened_good : (n : ℕ) (os : List TypeLexeme) → length os < n → Good (IsOpened bytes) (λ m w. opened_tag_at bytes w) n os
  opened_good n os less =
      thens (IsName bytes) (IsOpened bytes) (λ m v. name_at bytes v) (λ m v. closed_at p.OpenBrace v.tree v.rest) n os less (name_good bytes n os less)
      (λ v t s. viable t (a_mark p.OpenBrace ∷ []) (opened (a_mark p.OpenBrace) s refl))
      (λ v rest t s less. closed_good (λ b x. IsOpened bytes (v ++ b) x) p.OpenBrace t n rest less (λ c e. opened c s e))

  tagged_of : (d : TypeLexeme) (u : Bool) (v a : List TypeLexeme) (t : WordTree) (fs : List SFieldTree) (c : TypeLexeme) → IsTagWord d u → IsOpened bytes v t → AreFields bytes a fs → Is p.CloseBrace c → IsAtom bytes (d ∷ v ++ (a ++ c ∷ [])) (tagged u t (fields_in_order fs))
  tagged_of d u _ a t fs c e (opened {v = v} o s f) g h = subst (λ (w : List TypeLexeme). IsAtom bytes (d ∷ w) (tagged u t (fields_in_order fs))) (sym (append_assoc v (o ∷ []) (a ++ c ∷ []))) (atom_tagged d o c e s f g h)

  tagged_good : (n : ℕ) (d : TypeLexeme) (rest : List TypeLexeme) → is_tag_word d ≡ true → length rest < n → ((os : List TypeLexeme) → length os < n → Good (AreFields bytes) (λ m w. fields_at bytes m [] w) n os) → Good (λ b x. IsAtom bytes (d ∷ b) x) (λ m w. tagged_by bytes (is_word tw.Union d) (fields_at bytes m []) w) n rest
  tagged_good n d rest so less h =
      let u = is_word tw.Union d in
      let e = tag_word_is d so in
      thens (IsOpened bytes) (λ b x. IsAtom bytes (d ∷ b) x) (λ m v. opened_tag_at bytes v) (λ m v. fields_at bytes m [] v.rest >>= λ fs. closed_at p.CloseBrace (tagged u v.tree (fields_in_order fs.tree)) fs.rest) n rest less (opened_good n rest less)
      (λ v t s. viable _ (brace ∷ []) (tagged_of d u v [] t [] brace e s no_fields refl))
      (λ v rest t s less.
      thens (AreFields bytes) (λ b x. IsAtom bytes (d ∷ v ++ b) x) (λ m w. fields_at bytes m [] w) (λ m fs. closed_at p.CloseBrace (tagged u t (fields_in_order fs.tree)) fs.rest) n rest less (h rest less)
      (λ a fs g. viable _ (brace ∷ []) (tagged_of d u v a t fs brace e s g refl))
      (λ a rest fs g less. closed_good (λ b x. IsAtom bytes (d ∷ v ++ (a ++ b)) x) p.CloseBrace (tagged u t (fields_in_order fs)) n rest less (λ c f. tagged_of d u v a t fs c e s g f)))

  -- ---- lists that grow

  one_piece : (a c : List TypeLexeme) (x : STypeTree) (xs : List STypeTree) → IsPiece bytes a x → ArePieces bytes c xs → ArePieces bytes (a ++ c) (x ∷ xs)
  one_piece a c x xs s ss = more_pieces s ss

  one_field : (a c : List TypeLexeme) (x : SFieldTree) (xs : List SFieldTree) → IsField bytes a x → AreFields bytes c xs → AreFields bytes (a ++ c) (x ∷ xs)
  one_field a c x xs s ss = more_fields s ss

  one_branch : (a c : List TypeLexeme) (x : SBranchTree) (xs : List SBranchTree) → IsBranch bytes a x → AreBranches bytes c xs → AreBranches bytes (a ++ c) (x ∷ xs)
  one_branch a c x xs s ss = more_branches s ss

  piece_filled : (a : List TypeLexeme) (t : STypeTree) → IsPiece bytes a t → 0 < length a
  piece_filled _ t (a_piece {a = a} s h e) = omega (arith, length-append a (s ∷ []))

  -- ---- one turn of each reader

  atom_end : (m : ℕ) → 0 < m → atom_at bytes m [] ≡ fault 0
  unfolding atom_at
  atom_end zero some = absurd (omega (arith, some))
  atom_end (suc m) some = refl

  abbrev atom_of : ℕ → List TypeLexeme → Answer TypeLexeme AtomTree
  atom_of m os = atom_by bytes (type_at bytes m) (pieces_at bytes m []) (fields_at bytes m []) (branches_at bytes m []) os

  pub atom_turn : (m : ℕ) (os : List TypeLexeme) → atom_at bytes (suc m) os ≡ atom_of m os
  unfolding atom_at
  atom_turn m os = refl

  -- the tests on a first lexeme, in their order
  abbrev chosen : {A : Type 0} → (round brace tag word : Bool) → (a b c d e : A) → A
  chosen round brace tag word a b c d e = cond round a (cond brace b (cond tag c (cond word d e)))

  abbrev atom_as : ℕ → TypeLexeme → List TypeLexeme → (round brace tag word : Bool) → Answer TypeLexeme AtomTree
  atom_as m o w round brace tag word =
      chosen round brace tag word (paren_from (type_at bytes m w)) (product_from bytes (pieces_at bytes m [] w)) (tagged_by bytes (is_word tw.Union o) (fields_at bytes m []) w) (cases_by (branches_at bytes m []) w) (cell_from (cell_at bytes (o ∷ w)))

  pub atom_is : (m : ℕ) (o : TypeLexeme) (w : List TypeLexeme) (round brace tag word : Bool) → is_mark p.OpenParen o ≡ round → is_mark p.OpenBrace o ≡ brace → is_tag_word o ≡ tag → is_word tw.Cases o ≡ word → atom_at bytes (suc m) (o ∷ w) ≡ atom_as m o w round brace tag word
  atom_is m o w round brace tag word e f g h =
      atom_turn m (o ∷ w)
      ∙ ap (λ (b : Bool). atom_as m o w b (is_mark p.OpenBrace o) (is_tag_word o) (is_word tw.Cases o)) e
      ∙ ap (λ (b : Bool). atom_as m o w round b (is_tag_word o) (is_word tw.Cases o)) f
      ∙ ap (λ (b : Bool). atom_as m o w round brace b (is_word tw.Cases o)) g
      ∙ ap (atom_as m o w round brace tag) h

  -- with a turn, and without one none is wanted
  pub atom_cell_is : (o : TypeLexeme) → is_mark p.OpenParen o ≡ false → is_mark p.OpenBrace o ≡ false → is_tag_word o ≡ false → is_word tw.Cases o ≡ false → (m : ℕ) (w : List TypeLexeme) → 0 < m → atom_at bytes m (o ∷ w) ≡ cell_from (cell_at bytes (o ∷ w))
  atom_cell_is o e f g h zero w some = absurd (omega (arith, some))
  atom_cell_is o e f g h (suc m) w some = atom_is m o w false false false false e f g h

  pub pieces_end : (all : List STypeTree) (m : ℕ) → pieces_at bytes (suc m) all [] ≡ give all []
  unfolding atom_at
  pieces_end all m = refl

  pub pieces_turn : (all : List STypeTree) (m : ℕ) (o : TypeLexeme) (w : List TypeLexeme) → pieces_at bytes (suc m) all (o ∷ w) ≡ cond (is_mark p.CloseBrace o) (give all (o ∷ w)) (piece_from (type_at bytes (suc m) (o ∷ w)) >>= λ x. pieces_at bytes m (all ++ x.tree ∷ []) x.rest)
  unfolding atom_at
  pieces_turn all m o w = refl

  pieces_none : (all : List STypeTree) (m : ℕ) → 0 < m → pieces_at bytes m all [] ≡ give all []
  pieces_none all zero some = absurd (omega (arith, some))
  pieces_none all (suc m) some = pieces_end all m

  pieces_off : (all : List STypeTree) (o : TypeLexeme) → is_mark p.CloseBrace o ≡ true → (m : ℕ) (w : List TypeLexeme) → 0 < m → pieces_at bytes m all (o ∷ w) ≡ give all (o ∷ w)
  pieces_off all o e zero w some = absurd (omega (arith, some))
  pieces_off all o e (suc m) w some = pieces_turn all m o w ∙ ap (λ (b : Bool). cond b (give all (o ∷ w)) (piece_from (type_at bytes (suc m) (o ∷ w)) >>= λ x. pieces_at bytes m (all ++ x.tree ∷ []) x.rest)) e

  pieces_on : (all : List STypeTree) (o : TypeLexeme) → is_mark p.CloseBrace o ≡ false → (m : ℕ) (w : List TypeLexeme) → 0 < m → pieces_at bytes m all (o ∷ w) ≡ (piece_from (type_at bytes m (o ∷ w)) >>= λ x. pieces_at bytes (turn_less m) (all ++ x.tree ∷ []) x.rest)
  pieces_on all o e zero w some = absurd (omega (arith, some))
  pieces_on all o e (suc m) w some = pieces_turn all m o w ∙ ap (λ (b : Bool). cond b (give all (o ∷ w)) (piece_from (type_at bytes (suc m) (o ∷ w)) >>= λ x. pieces_at bytes m (all ++ x.tree ∷ []) x.rest)) e

  pub fields_end : (all : List SFieldTree) (m : ℕ) → fields_at bytes (suc m) all [] ≡ give all []
  unfolding atom_at
  fields_end all m = refl

  pub fields_turn : (all : List SFieldTree) (m : ℕ) (o : TypeLexeme) (w : List TypeLexeme) → fields_at bytes (suc m) all (o ∷ w) ≡ cond (names_field o) (field_by bytes (type_at bytes m) o w >>= λ x. fields_at bytes m (all ++ x.tree ∷ []) x.rest) (give all (o ∷ w))
  unfolding atom_at
  fields_turn all m o w = refl

  pub branches_end : (all : List SBranchTree) (m : ℕ) → branches_at bytes (suc m) all [] ≡ give all []
  unfolding atom_at
  branches_end all m = refl

  pub branches_turn : (all : List SBranchTree) (m : ℕ) (o : TypeLexeme) (w : List TypeLexeme) → branches_at bytes (suc m) all (o ∷ w) ≡ cond (is_word tw.When o) (branch_by bytes (type_at bytes m) w >>= λ x. branches_at bytes m (all ++ x.tree ∷ []) x.rest) (give all (o ∷ w))
  unfolding atom_at
  branches_turn all m o w = refl

  only_grown : {A : Type 0} (Are : List TypeLexeme → List A → Type 0) (b : List TypeLexeme) (ys : List A) → Grown Are [] b ys → Are b ys
  only_grown Are b ys g = subst (Are b) (sym g.parts) g.are

  -- ---- cases, with what is told of branches

  cases_of : (d o c : TypeLexeme) (a : List TypeLexeme) (bs : List SBranchTree) → IsWord tw.Cases d → Is p.OpenBrace o → AreSome bytes a bs → Is p.CloseBrace c → IsAtom bytes (d ∷ o ∷ a ++ c ∷ []) (cases (branches_in_order bs))
  cases_of d o c _ _ e f (some_branches s ss) g = atom_cases d o c e f (more_branches s ss) g

  abbrev small_branch : Viable (IsBranch bytes)
  small_branch = record {
    more = a_word tw.When ∷ ((small_relation bytes).more ++ []) ++ small_body.more;
    tree = record { guard = (small_relation bytes).tree ∷ []; body = small_body.tree };
    spelled_so = a_branch (a_word tw.When) refl (listed (small_relation bytes).spelled_so no_more) small_body.spelled_so;
  }

  abbrev small_some : Viable (AreSome bytes)
  small_some = record { more = small_branch.more ++ []; tree = small_branch.tree ∷ []; spelled_so = some_branches small_branch.spelled_so no_branches }

  some_grown : (a b : List TypeLexeme) (x : SBranchTree) (ys : List SBranchTree) → IsBranch bytes a x → Grown (AreBranches bytes) (x ∷ []) b ys → AreSome bytes (a ++ b) ys
  some_grown a b x ys s g = subst (AreSome bytes (a ++ b)) (sym g.parts) (some_branches s g.are)

  branches_on : (o : TypeLexeme) → is_word tw.When o ≡ true → (m : ℕ) (w : List TypeLexeme) → branches_at bytes (suc m) [] (o ∷ w) ≡ (branch_by bytes (type_at bytes m) w >>= λ x. branches_at bytes m (x.tree ∷ []) x.rest)
  branches_on o e m w = branches_turn [] m o w ∙ ap (λ (b : Bool). cond b (branch_by bytes (type_at bytes m) w >>= λ x. branches_at bytes m (x.tree ∷ []) x.rest) (give [] (o ∷ w))) e

  module _ (n : ℕ) (types : (os : List TypeLexeme) → length os < n → Good (IsType bytes) (type_at bytes) n os) (branches : (all : List SBranchTree) (os : List TypeLexeme) → length os < n → Good (Grown (AreBranches bytes) all) (λ m w. branches_at bytes m all w) n os) where
    some_good : (o : TypeLexeme) (rest : List TypeLexeme) → is_word tw.When o ≡ true → length (o ∷ rest) < suc n → Good (AreSome bytes) (λ m w. branches_at bytes m [] w) (suc n) (o ∷ rest)
    some_good o rest so less =
        takes_turn (AreSome bytes) (λ m w. branches_at bytes m [] w) (λ m w. branch_by bytes (type_at bytes m) w >>= λ x. branches_at bytes m (x.tree ∷ []) x.rest) n o rest (branches_on o so)
        (thens (λ b x. IsBranch bytes (o ∷ b) x) (λ b ys. AreSome bytes (o ∷ b) ys) (λ m w. branch_by bytes (type_at bytes m) w) (λ m x. branches_at bytes m (x.tree ∷ []) x.rest) n rest (omega (arith, less)) (branch_good n o rest so (omega (arith, less)) types)
        (λ a x s. viable (x ∷ []) [] (some_branches s no_branches))
        (λ a rest x s less. maps (Grown (AreBranches bytes) (x ∷ [])) (λ b ys. AreSome bytes (o ∷ a ++ b) ys) (λ m w. branches_at bytes m (x ∷ []) w) n rest (λ b ys g. some_grown (o ∷ a) b x ys s g) (branches (x ∷ []) rest less)))

  -- behind the word cases
  abbrev peeked : ℕ → List TypeLexeme → Answer TypeLexeme AtomTree
  peeked m v = cond (next_is (is_word tw.When) v) (branches_at bytes m [] v >>= λ bs. closed_at p.CloseBrace (cases (branches_in_order bs.tree)) bs.rest) (fault (length v))

  module _ (n : ℕ) (some : (o : TypeLexeme) (rest : List TypeLexeme) → is_word tw.When o ≡ true → length (o ∷ rest) < n → Good (AreSome bytes) (λ m w. branches_at bytes m [] w) n (o ∷ rest)) (d o : TypeLexeme) (e : IsWord tw.Cases d) (f : Is p.OpenBrace o) where
    cases_more : Viable (λ b x. IsAtom bytes (d ∷ o ∷ b) x)
    cases_more = viable _ (small_some.more ++ brace ∷ []) (cases_of d o brace small_some.more small_some.tree e f small_some.spelled_so refl)

    peek_by : (v : TypeLexeme) (rest : List TypeLexeme) (test : Bool) → is_word tw.When v ≡ test → length (v ∷ rest) < n → Good (λ b x. IsAtom bytes (d ∷ o ∷ b) x) peeked n (v ∷ rest)
    peek_by v rest true so less =
        stays (λ b x. IsAtom bytes (d ∷ o ∷ b) x) peeked (λ m u. branches_at bytes m [] u >>= λ bs. closed_at p.CloseBrace (cases (branches_in_order bs.tree)) bs.rest) n v rest (omega (arith, less))
        (λ m u some. ap (λ (b : Bool). cond b (branches_at bytes m [] (v ∷ u) >>= λ bs. closed_at p.CloseBrace (cases (branches_in_order bs.tree)) bs.rest) (fault (suc (length u)))) so)
        (thens (AreSome bytes) (λ b x. IsAtom bytes (d ∷ o ∷ b) x) (λ m u. branches_at bytes m [] u) (λ m bs. closed_at p.CloseBrace (cases (branches_in_order bs.tree)) bs.rest) n (v ∷ rest) less (some v rest so less)
        (λ a bs s. viable _ (brace ∷ []) (cases_of d o brace a bs e f s refl))
        (λ a rest bs s less. closed_good (λ b x. IsAtom bytes (d ∷ o ∷ a ++ b) x) p.CloseBrace (cases (branches_in_order bs)) n rest less (λ c g. cases_of d o c a bs e f s g)))
    peek_by v rest false off less =
        stays (λ b x. IsAtom bytes (d ∷ o ∷ b) x) peeked (λ m u. fault (length u)) n v rest (omega (arith, less))
        (λ m u some. ap (λ (b : Bool). cond b (branches_at bytes m [] (v ∷ u) >>= λ bs. closed_at p.CloseBrace (cases (branches_in_order bs.tree)) bs.rest) (fault (suc (length u)))) off)
        (fails (λ b x. IsAtom bytes (d ∷ o ∷ b) x) n (v ∷ rest) cases_more)

    peek_good : (os : List TypeLexeme) → length os < n → Good (λ b x. IsAtom bytes (d ∷ o ∷ b) x) peeked n os
    peek_good [] less = none_left (λ b x. IsAtom bytes (d ∷ o ∷ b) x) peeked (λ m u. fault (length u)) n (omega (arith, less)) (λ m some. refl) (fails (λ b x. IsAtom bytes (d ∷ o ∷ b) x) n [] cases_more)
    peek_good (v ∷ rest) less = peek_by v rest (is_word tw.When v) refl less

  cases_good : (n : ℕ) (d : TypeLexeme) (rest : List TypeLexeme) → IsWord tw.Cases d → length rest < n → ((o : TypeLexeme) (rest : List TypeLexeme) → is_word tw.When o ≡ true → length (o ∷ rest) < n → Good (AreSome bytes) (λ m w. branches_at bytes m [] w) n (o ∷ rest))
      → Good (λ b x. IsAtom bytes (d ∷ b) x) (λ m w. cases_by (branches_at bytes m []) w) n rest
  cases_good n d rest e less some =
      wants (λ b x. IsAtom bytes (d ∷ b) x) (is_mark p.OpenBrace) (a_mark p.OpenBrace) (λ m o v. peeked m v) n rest less (cases_more n some d (a_mark p.OpenBrace) e refl)
      (λ o rest so less. peek_good n some d o e (mark_is p.OpenBrace o so) rest less)

  -- ---- a turn more

  module _ (n : ℕ) (types : (os : List TypeLexeme) → length os < n → Good (IsType bytes) (type_at bytes) n os) (pieces : (all : List STypeTree) (os : List TypeLexeme) → length os < n → Good (Grown (ArePieces bytes) all) (λ m w. pieces_at bytes m all w) n os)
      (fields : (os : List TypeLexeme) → length os < n → Good (Grown (AreFields bytes) []) (λ m w. fields_at bytes m [] w) n os)
      (some : (o : TypeLexeme) (rest : List TypeLexeme) → is_word tw.When o ≡ true → length (o ∷ rest) < n → Good (AreSome bytes) (λ m w. branches_at bytes m [] w) n (o ∷ rest)) where
    pieces_only : (os : List TypeLexeme) → length os < n → Good (ArePieces bytes) (λ m w. pieces_at bytes m [] w) n os
    pieces_only os less = maps (Grown (ArePieces bytes) []) (ArePieces bytes) (λ m w. pieces_at bytes m [] w) n os (only_grown (ArePieces bytes)) (pieces [] os less)

    fields_only : (os : List TypeLexeme) → length os < n → Good (AreFields bytes) (λ m w. fields_at bytes m [] w) n os
    fields_only os less = maps (Grown (AreFields bytes) []) (AreFields bytes) (λ m w. fields_at bytes m [] w) n os (only_grown (AreFields bytes)) (fields os less)

    atom_step : (o : TypeLexeme) (rest : List TypeLexeme) (round brace tag word : Bool) → length (o ∷ rest) < suc n → is_mark p.OpenParen o ≡ round → is_mark p.OpenBrace o ≡ brace → is_tag_word o ≡ tag → is_word tw.Cases o ≡ word → Good (IsAtom bytes) (atom_at bytes) (suc n) (o ∷ rest)
    atom_step o rest true brace tag word less e f g h =
        takes_turn (IsAtom bytes) (atom_at bytes) (λ m v. paren_from (type_at bytes m v)) n o rest (λ m v. atom_is m o v true brace tag word e f g h)
        (paren_good n o rest (mark_is p.OpenParen o e) (omega (arith, less)) (types rest (omega (arith, less))))
    atom_step o rest false true tag word less e f g h =
        takes_turn (IsAtom bytes) (atom_at bytes) (λ m v. product_from bytes (pieces_at bytes m [] v)) n o rest (λ m v. atom_is m o v false true tag word e f g h)
        (product_good n o rest (mark_is p.OpenBrace o f) (omega (arith, less)) (pieces_only rest (omega (arith, less))))
    atom_step o rest false false true word less e f g h =
        takes_turn (IsAtom bytes) (atom_at bytes) (λ m v. tagged_by bytes (is_word tw.Union o) (fields_at bytes m []) v) n o rest (λ m v. atom_is m o v false false true word e f g h)
        (tagged_good n o rest g (omega (arith, less)) fields_only)
    atom_step o rest false false false true less e f g h =
        takes_turn (IsAtom bytes) (atom_at bytes) (λ m v. cases_by (branches_at bytes m []) v) n o rest (λ m v. atom_is m o v false false false true e f g h)
        (cases_good n o rest (word_is tw.Cases o h) (omega (arith, less)) some)
    atom_step o rest false false false false less e f g h =
        stays (IsAtom bytes) (atom_at bytes) (λ m v. cell_from (cell_at bytes v)) (suc n) o rest (omega arith) (atom_cell_is o e f g h)
        (sends (IsCell bytes) (IsAtom bytes) (λ m v. cell_at bytes v) (λ x. cell x) (suc n) (o ∷ rest) (λ b x s. atom_cell s) (cell_good bytes (suc n) (o ∷ rest) less))

    atom_next : (os : List TypeLexeme) → length os < suc n → Good (IsAtom bytes) (atom_at bytes) (suc n) os
    atom_next [] less = none_left (IsAtom bytes) (atom_at bytes) (λ m v. fault (length v)) (suc n) (omega arith) atom_end (fails (IsAtom bytes) (suc n) [] small_atom)
    atom_next (o ∷ rest) less = atom_step o rest (is_mark p.OpenParen o) (is_mark p.OpenBrace o) (is_tag_word o) (is_word tw.Cases o) less refl refl refl refl

    none_pieces : (all : List STypeTree) → Grown (ArePieces bytes) all [] all
    none_pieces = none_grown (IsPiece bytes) (ArePieces bytes) one_piece no_pieces

    pieces_step : (all : List STypeTree) (o : TypeLexeme) (rest : List TypeLexeme) (end : Bool) → length (o ∷ rest) < suc n → is_mark p.CloseBrace o ≡ end → Good (Grown (ArePieces bytes) all) (λ m w. pieces_at bytes m all w) (suc n) (o ∷ rest)
    pieces_step all o rest true less e = stays (Grown (ArePieces bytes) all) (λ m w. pieces_at bytes m all w) (λ m w. give all w) (suc n) o rest (omega arith) (pieces_off all o e) (gives (Grown (ArePieces bytes) all) all (suc n) (o ∷ rest) (none_pieces all))
    pieces_step all o rest false less e =
        stays (Grown (ArePieces bytes) all) (λ m w. pieces_at bytes m all w) (λ m w. piece_from (type_at bytes m w) >>= λ x. pieces_at bytes (turn_less m) (all ++ x.tree ∷ []) x.rest) (suc n) o rest (omega arith) (pieces_on all o e)
        (thens_turn (IsPiece bytes) (Grown (ArePieces bytes) all) (λ m w. piece_from (type_at bytes m w)) (λ m x. pieces_at bytes m (all ++ x.tree ∷ []) x.rest) n (o ∷ rest) piece_filled less (piece_good (suc n) (o ∷ rest) less (type_good (suc n) (o ∷ rest) less atom_next))
        (λ a x s. viable (all ++ x ∷ []) [] (join_grown (IsPiece bytes) (ArePieces bytes) one_piece all a [] x (all ++ x ∷ []) s (none_pieces (all ++ x ∷ []))))
        (λ a rest x s less. maps (Grown (ArePieces bytes) (all ++ x ∷ [])) (λ b ys. Grown (ArePieces bytes) all (a ++ b) ys) (λ m w. pieces_at bytes m (all ++ x ∷ []) w) n rest (λ b ys g. join_grown (IsPiece bytes) (ArePieces bytes) one_piece all a b x ys s g) (pieces (all ++ x ∷ []) rest less)))

    pieces_next : (all : List STypeTree) (os : List TypeLexeme) → length os < suc n → Good (Grown (ArePieces bytes) all) (λ m w. pieces_at bytes m all w) (suc n) os
    pieces_next all [] less = none_left (Grown (ArePieces bytes) all) (λ m w. pieces_at bytes m all w) (λ m w. give all w) (suc n) (omega arith) (pieces_none all) (gives (Grown (ArePieces bytes) all) all (suc n) [] (none_pieces all))
    pieces_next all (o ∷ rest) less = pieces_step all o rest (is_mark p.CloseBrace o) less refl

  -- ---- types

  mutual
    pub atom_good : (n : ℕ) (os : List TypeLexeme) → length os < n → Good (IsAtom bytes) (atom_at bytes) n os
    atom_good zero os less = absurd (omega (arith, less))
    atom_good (suc n) os less = atom_next n (λ os less. type_good n os less (atom_good n)) (pieces_good n) (fields_good n []) (some_told n) os less

    pub pieces_good : (n : ℕ) (all : List STypeTree) (os : List TypeLexeme) → length os < n → Good (Grown (ArePieces bytes) all) (λ m w. pieces_at bytes m all w) n os
    pieces_good zero all os less = absurd (omega (arith, less))
    pieces_good (suc n) all os less = pieces_next n (λ os less. type_good n os less (atom_good n)) (pieces_good n) (fields_good n []) (some_told n) all os less

    pub fields_good : (n : ℕ) (all : List SFieldTree) (os : List TypeLexeme) → length os < n → Good (Grown (AreFields bytes) all) (λ m w. fields_at bytes m all w) n os
    fields_good zero all os less = absurd (omega (arith, less))
    fields_good (suc n) all os less =
        step (λ all. IsField bytes) (Grown (AreFields bytes)) (λ all x. all ++ x ∷ []) (none_grown (IsField bytes) (AreFields bytes) one_field no_fields) (join_grown (IsField bytes) (AreFields bytes) one_field) (λ all. names_field) (λ m o w. field_by bytes (type_at bytes m) o w) (λ all m w. fields_at bytes m all w) fields_end fields_turn n all os less
        (λ all o rest so less. field_good n o rest so less (λ os less. type_good n os less (atom_good n))) (fields_good n)

    pub branches_good : (n : ℕ) (all : List SBranchTree) (os : List TypeLexeme) → length os < n → Good (Grown (AreBranches bytes) all) (λ m w. branches_at bytes m all w) n os
    branches_good zero all os less = absurd (omega (arith, less))
    branches_good (suc n) all os less =
        step (λ all. IsBranch bytes) (Grown (AreBranches bytes)) (λ all x. all ++ x ∷ []) (none_grown (IsBranch bytes) (AreBranches bytes) one_branch no_branches) (join_grown (IsBranch bytes) (AreBranches bytes) one_branch) (λ all. is_word tw.When) (λ m o w. branch_by bytes (type_at bytes m) w) (λ all m w. branches_at bytes m all w) branches_end branches_turn n all os less
        (λ all o rest so less. branch_good n o rest so less (λ os less. type_good n os less (atom_good n))) (branches_good n)

    some_told : (n : ℕ) (o : TypeLexeme) (rest : List TypeLexeme) → is_word tw.When o ≡ true → length (o ∷ rest) < n → Good (AreSome bytes) (λ m w. branches_at bytes m [] w) n (o ∷ rest)
    some_told zero o rest so less = absurd (omega (arith, less))
    some_told (suc n) o rest so less = some_good n (λ os less. type_good n os less (atom_good n)) (branches_good n) o rest so less

  pub types_good : (n : ℕ) (os : List TypeLexeme) → length os < n → Good (IsType bytes) (type_at bytes) n os
  types_good n os less = type_good n os less (atom_good n)

  pub stype_good : (n : ℕ) (os : List TypeLexeme) → length os < n → Good (IsType bytes) (λ m w. stype_at bytes w) n os
  stype_good n os less = lengths (IsType bytes) (type_at bytes) n os (types_good (suc (length os)) os (omega arith))
