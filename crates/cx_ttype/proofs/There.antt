-- What spells a type is read, where what ends it follows.
use Rattle.std.proofs.Common.{◌≡◌, ℕ, zero, suc, ◌<◌, Bool, true, false, cond, List, [], ◌∷◌, ◌++◌, length, Option, Some, None, refl, sym, ap, ◌∙◌, subst, append_assoc, append-nil, length-append, arith}
use Rattle.std.specs.Prelude.{◌||◌}
use Rattle.cx_cword.specs.declared.word.Punctuator.{Punctuator}
use Rattle.cx_cword.specs.declared.word.Punctuator.TheVariants as p
use Rattle.cx_tsyn.specs.Words.{WordTree}
use Rattle.cx_tsyn.specs.Lins.{LinTree, RelationTree}
use Rattle.cx_tsyn.specs.Cells.{SCellKindTree, SCellTree}
use Rattle.cx_tsyn.specs.Types.{AsTagTree, STypeTree, AtomTree, cell, paren, tagged, product, cases, SFieldTree, SBranchTree, types_in_order, fields_in_order, branches_in_order}
use Rattle.cx_tword.specs.declared.word.TypeWord.TheVariants as tw
use Rattle.cx_tword.specs.declared.lexeme.TypeLexeme.{TypeLexeme}
use Rattle.cx_tword.specs.declared.lexeme.TypeLexemeKind.{TypeLexemeKind}
use Rattle.cx_tword.specs.declared.lexeme.TypeLexemeKind.TheVariants as l
use Rattle.cx_tword.specs.Marks.{Is, IsWord, kind_is_mark, kind_is_word, is_mark, is_word}
use Rattle.cx_tword.proofs.Marks.{mark_so, word_so}
use Rattle.cx_reader.specs.Answers.{Got, Answer, fault, ◌>>=◌, give, next_is, next_at}
use Rattle.cx_reader.proofs.ListsThere.{next_there, maybe_there, absent_there, made_there}
use Rattle.cx_tlin.specs.Lins.{IsName, EndsLins}
use Rattle.cx_tlin.specs.Reading.{word_at, name_at, lin_at, names_at, relations_at}
use Rattle.cx_tlin.proofs.There.{lin_ends, name_there, lin_there, names_there, relations_there}
use Rattle.cx_tcell.specs.Cells.{Holds, holds_any, holds_any_bytes, holds_val, holds_unsigned, holds_signed, holds_ptr, IsCell, is_cell, goes_cell}
use Rattle.cx_tcell.specs.Reading.{cell_at}
use Rattle.cx_tcell.proofs.There.{cell_there}
use Rattle.cx_ttype.specs.Types.{AreBinders, no_binders, some_binders, IsTimes, no_times, a_times, AreConds, no_conds, some_conds, IsTagWord, word_struct, word_union, IsAsTag, no_as_tag, an_as_tag, kind_names_field, names_field, IsType, is_type, IsAtom, atom_cell, atom_paren, atom_tagged, atom_product, atom_cases, IsPiece, a_piece, ArePieces, no_pieces, more_pieces, IsBody, a_body, a_field, AreFields, no_fields, more_fields, IsBranch, a_branch, AreBranches, no_branches, more_branches, goes_type, EndsType}
use Rattle.cx_ttype.specs.Reading.{binders_at, times_at, conds_at, is_tag_word, tag_at, as_tag_of, as_tag_at, closed_at, TypeBody, type_of, parts_by, piece_from, body_by, field_by, branch_by, cell_from, paren_from, product_from, opened_tag_at, tagged_by, atom_at, pieces_at, fields_at, branches_at, type_at, stype_at}
use Rattle.cx_ttype.proofs.Told.{atom_is, atom_cell_is, pieces_turn, fields_end, fields_turn, branches_end, branches_turn}

-- ---- what may go on

-- with an atom: what may with a cell, and the word as
abbrev goes_atom : TypeLexemeKind → Bool
goes_atom (l.Punctuator p.Star) = true
goes_atom (l.Punctuator p.Plus) = true
goes_atom (l.Punctuator p.Minus) = true
goes_atom (l.Punctuator p.OpenParen) = true
goes_atom (l.Word tw.Null) = true
goes_atom (l.Word tw.As) = true
goes_atom _ = false

-- the first lexeme does not go on
abbrev pub Stops : (TypeLexemeKind → Bool) → List TypeLexeme → Type 0
Stops goes os = next_is (λ o. goes o.kind) os ≡ false

-- what goes on with less stops where what goes on with more does
stops_sub : (few many : TypeLexemeKind → Bool) → ((k : TypeLexemeKind) → many k ≡ false → few k ≡ false) → (os : List TypeLexeme) → Stops many os → Stops few os
stops_sub few many f [] e = refl
stops_sub few many f (o ∷ os) e = f o.kind e

type_atom : (k : TypeLexemeKind) → goes_type k ≡ false → goes_atom k ≡ false
type_atom (l.Punctuator p.Star) e = absurd cc
type_atom (l.Punctuator p.Plus) e = absurd cc
type_atom (l.Punctuator p.Minus) e = absurd cc
type_atom (l.Punctuator p.OpenParen) e = absurd cc
type_atom (l.Punctuator _) e = refl
type_atom (l.Word tw.Null) e = absurd cc
type_atom (l.Word tw.As) e = absurd cc
type_atom (l.Word _) e = refl
type_atom _ e = refl

atom_cell_goes : (k : TypeLexemeKind) → goes_atom k ≡ false → goes_cell k ≡ false
atom_cell_goes (l.Punctuator p.Star) e = absurd cc
atom_cell_goes (l.Punctuator p.Plus) e = absurd cc
atom_cell_goes (l.Punctuator p.Minus) e = absurd cc
atom_cell_goes (l.Punctuator p.OpenParen) e = absurd cc
atom_cell_goes (l.Punctuator _) e = refl
atom_cell_goes (l.Word tw.Null) e = absurd cc
atom_cell_goes (l.Word _) e = refl
atom_cell_goes _ e = refl

atom_as_goes : (k : TypeLexemeKind) → goes_atom k ≡ false → kind_is_word tw.As k ≡ false
atom_as_goes (l.Word tw.As) e = absurd cc
atom_as_goes (l.Word _) e = refl
atom_as_goes _ e = refl

type_bracket : (k : TypeLexemeKind) → goes_type k ≡ false → kind_is_mark p.OpenBracket k ≡ false
type_bracket (l.Punctuator p.OpenBracket) e = absurd cc
type_bracket (l.Punctuator _) e = refl
type_bracket _ e = refl

type_where : (k : TypeLexemeKind) → goes_type k ≡ false → kind_is_word tw.Where k ≡ false
type_where (l.Word tw.Where) e = absurd cc
type_where (l.Word _) e = refl
type_where _ e = refl

type_comma : (k : TypeLexemeKind) → goes_type k ≡ false → kind_is_mark p.Comma k ≡ false
type_comma (l.Punctuator p.Comma) e = absurd cc
type_comma (l.Punctuator _) e = refl
type_comma _ e = refl

type_star : (k : TypeLexemeKind) → goes_type k ≡ false → kind_is_mark p.Star k ≡ false
type_star (l.Punctuator p.Star) e = absurd cc
type_star (l.Punctuator _) e = refl
type_star _ e = refl

type_plus : (k : TypeLexemeKind) → goes_type k ≡ false → kind_is_mark p.Plus k ≡ false
type_plus (l.Punctuator p.Plus) e = absurd cc
type_plus (l.Punctuator _) e = refl
type_plus _ e = refl

type_minus : (k : TypeLexemeKind) → goes_type k ≡ false → kind_is_mark p.Minus k ≡ false
type_minus (l.Punctuator p.Minus) e = absurd cc
type_minus (l.Punctuator _) e = refl
type_minus _ e = refl

pub type_ends_lins : (os : List TypeLexeme) → EndsType os → EndsLins os
type_ends_lins [] e = ((refl, refl, refl), refl)
type_ends_lins (o ∷ os) e = ((type_star o.kind e, type_plus o.kind e, type_minus o.kind e), type_comma o.kind e)

-- a mark that does not go on with a type ends it
pub mark_ends : (mark : Punctuator) (o : TypeLexeme) (v : List TypeLexeme) → Is mark o → goes_type (l.Punctuator mark) ≡ false → EndsType (o ∷ v)
mark_ends mark o v e f = ap goes_type e ∙ f

-- ---- what begins a cell, an atom and a type

abbrev pub begins_cell : TypeLexemeKind → Bool
begins_cell (l.Word tw.Any) = true
begins_cell (l.Word tw.Val) = true
begins_cell (l.Word tw.Ptr) = true
begins_cell (l.AnyBytes k) = true
begins_cell (l.Unsigned k) = true
begins_cell (l.Signed k) = true
begins_cell _ = false

abbrev begins_atom : TypeLexemeKind → Bool
begins_atom (l.Word tw.Any) = true
begins_atom (l.Word tw.Val) = true
begins_atom (l.Word tw.Ptr) = true
begins_atom (l.Word tw.Struct) = true
begins_atom (l.Word tw.Union) = true
begins_atom (l.Word tw.Cases) = true
begins_atom (l.AnyBytes k) = true
begins_atom (l.Unsigned k) = true
begins_atom (l.Signed k) = true
begins_atom (l.Punctuator p.OpenParen) = true
begins_atom (l.Punctuator p.OpenBrace) = true
begins_atom _ = false

-- the lexemes begin with one that passes the test
pub record First (test : TypeLexemeKind → Bool) (a : List TypeLexeme) : Type 0 where
  pub o : TypeLexeme
  pub more : List TypeLexeme
  pub parts : a ≡ o ∷ more
  pub so : test o.kind ≡ true

first_so : (test : TypeLexemeKind → Bool) (o : TypeLexeme) (more : List TypeLexeme) (kind : TypeLexemeKind) → o.kind ≡ kind → test kind ≡ true → First test (o ∷ more)
first_so test o more kind e f = record { o = o; more = more; parts = refl; so = ap test e ∙ f }

-- behind it others may stand
pub first_and : {test : TypeLexemeKind → Bool} {a : List TypeLexeme} (b : List TypeLexeme) → First test a → First test (a ++ b)
first_and b f = record { o = f.o; more = f.more ++ b; parts = ap (λ (v : List TypeLexeme). v ++ b) f.parts; so = f.so }

first_sub : (few many : TypeLexemeKind → Bool) {a : List TypeLexeme} → ((k : TypeLexemeKind) → few k ≡ true → many k ≡ true) → First few a → First many a
first_sub few many f h = record { o = h.o; more = h.more; parts = h.parts; so = f h.o.kind h.so }

cell_atom : (k : TypeLexemeKind) → begins_cell k ≡ true → begins_atom k ≡ true
cell_atom (l.Word tw.Any) e = refl
cell_atom (l.Word tw.Val) e = refl
cell_atom (l.Word tw.Ptr) e = refl
cell_atom (l.AnyBytes k) e = refl
cell_atom (l.Unsigned k) e = refl
cell_atom (l.Signed k) e = refl
cell_atom _ e = absurd cc

abbrev kind_is_tag : TypeLexemeKind → Bool
kind_is_tag k = kind_is_word tw.Struct k || kind_is_word tw.Union k

-- no other atom begins so
cell_only : (k : TypeLexemeKind) → begins_cell k ≡ true → (kind_is_mark p.OpenParen k ≡ false) × (kind_is_mark p.OpenBrace k ≡ false) × (kind_is_tag k ≡ false) × (kind_is_word tw.Cases k ≡ false)
cell_only (l.Word tw.Any) e = (refl, refl, refl, refl)
cell_only (l.Word tw.Val) e = (refl, refl, refl, refl)
cell_only (l.Word tw.Ptr) e = (refl, refl, refl, refl)
cell_only (l.AnyBytes k) e = (refl, refl, refl, refl)
cell_only (l.Unsigned k) e = (refl, refl, refl, refl)
cell_only (l.Signed k) e = (refl, refl, refl, refl)
cell_only _ e = absurd cc

-- an atom begins with no brace that closes, and with no word some
atom_only : (k : TypeLexemeKind) → begins_atom k ≡ true → (kind_is_mark p.CloseBrace k ≡ false) × (kind_is_word tw.Some k ≡ false)
atom_only (l.Word tw.Any) e = (refl, refl)
atom_only (l.Word tw.Val) e = (refl, refl)
atom_only (l.Word tw.Ptr) e = (refl, refl)
atom_only (l.Word tw.Struct) e = (refl, refl)
atom_only (l.Word tw.Union) e = (refl, refl)
atom_only (l.Word tw.Cases) e = (refl, refl)
atom_only (l.AnyBytes k) e = (refl, refl)
atom_only (l.Unsigned k) e = (refl, refl)
atom_only (l.Signed k) e = (refl, refl)
atom_only (l.Punctuator p.OpenParen) e = (refl, refl)
atom_only (l.Punctuator p.OpenBrace) e = (refl, refl)
atom_only _ e = absurd cc

pub first_next : (test goes : TypeLexemeKind → Bool) (a b : List TypeLexeme) → ((k : TypeLexemeKind) → test k ≡ true → goes k ≡ false) → First test a → Stops goes (a ++ b)
first_next test goes a b f h = subst (λ (v : List TypeLexeme). Stops goes (v ++ b)) (sym h.parts) (f h.o.kind h.so)

module _ (bytes : List ℕ) where
  holds_first : {a : List TypeLexeme} {k : SCellKindTree} → Holds bytes a k → First begins_cell a
  holds_first (holds_any o e) = first_so begins_cell o [] (l.Word tw.Any) e refl
  holds_first (holds_any_bytes o k e) = first_so begins_cell o [] (l.AnyBytes k) e refl
  holds_first (holds_val {a = a} o e s) = first_so begins_cell o a (l.Word tw.Val) e refl
  holds_first (holds_unsigned {a = a} o k e s) = first_so begins_cell o a (l.Unsigned k) e refl
  holds_first (holds_signed {a = a} o k e s) = first_so begins_cell o a (l.Signed k) e refl
  holds_first (holds_ptr {v = v} {a = a} {b = b} {c = c} o e s t u h) = first_so begins_cell o (v ++ (a ++ (b ++ c))) (l.Word tw.Ptr) e refl

  pub cell_first : {a : List TypeLexeme} {x : SCellTree} → IsCell bytes a x → First begins_cell a
  cell_first (is_cell s) = holds_first s

  tag_first : {d : TypeLexeme} {u : Bool} (more : List TypeLexeme) → IsTagWord d u → First begins_atom (d ∷ more)
  tag_first more (word_struct d e) = first_so begins_atom d more (l.Word tw.Struct) e refl
  tag_first more (word_union d e) = first_so begins_atom d more (l.Word tw.Union) e refl

  atom_first : {a : List TypeLexeme} {x : AtomTree} → IsAtom bytes a x → First begins_atom a
  atom_first (atom_cell s) = first_sub begins_cell begins_atom cell_atom (cell_first s)
  atom_first (atom_paren {a = a} o c e s f) = first_so begins_atom o (a ++ c ∷ []) (l.Punctuator p.OpenParen) e refl
  atom_first (atom_tagged {v = v} {a = a} d o c e s f g h) = tag_first (v ++ (o ∷ a ++ c ∷ [])) e
  atom_first (atom_product {a = a} {b = b} o c e s f t) = first_so begins_atom o (a ++ c ∷ b) (l.Punctuator p.OpenBrace) e refl
  atom_first (atom_cases {a = a} d o c e f ss g) = first_so begins_atom d (o ∷ a ++ c ∷ []) (l.Word tw.Cases) e refl

  -- a type begins with no brace that closes
  abbrev begins_type : TypeLexemeKind → Bool
  begins_type k = cond (kind_is_mark p.CloseBrace k) false true

  begins_so : (b : Bool) → b ≡ false → cond b false true ≡ true
  begins_so true e = sym e
  begins_so false e = refl

  type_first : {a : List TypeLexeme} {t : STypeTree} → IsType bytes a t → First begins_type a
  type_first (is_type {b = b} {c = c} {d = d} no_binders s u v) = first_and (c ++ d) (first_sub begins_atom begins_type (λ k so. begins_so (kind_is_mark p.CloseBrace k) (atom_only k so).0) (atom_first s))
  type_first (is_type {b = b} {c = c} {d = d} (some_binders {a = a} o e f g h) s u v) = first_so begins_type o ((a ++ e ∷ []) ++ (b ++ (c ++ d))) (l.Word tw.Some) f refl

  piece_long : {a : List TypeLexeme} {t : STypeTree} → IsPiece bytes a t → 0 < length a
  piece_long (a_piece {a = a} s h e) = omega (arith, length-append a (s ∷ []))

  piece_first : {a : List TypeLexeme} {t : STypeTree} → IsPiece bytes a t → First begins_type a
  piece_first (a_piece s h e) = first_and (s ∷ []) (type_first h)

  -- ---- what stands around an atom

  abbrev binders_of : TypeLexeme → List TypeLexeme → Answer TypeLexeme (List WordTree)
  binders_of o rest = names_at bytes rest >>= λ xs. next_at (is_word tw.Of) xs.rest (λ c rest. give xs.tree rest)

  pub binders_there : {a : List TypeLexeme} {xs : List WordTree} → AreBinders bytes a xs → (rest : List TypeLexeme) → next_is (is_word tw.Some) rest ≡ false → binders_at bytes (a ++ rest) ≡ give xs rest
  unfolding binders_at
  binders_there no_binders rest off = absent_there (is_word tw.Some) [] rest binders_of off
  binders_there (some_binders {a = a} {xs = xs} o c e s f) rest off =
      maybe_there (is_word tw.Some) [] o ((a ++ c ∷ []) ++ rest) binders_of (word_so tw.Some o e)
      ∙ ap (λ (v : List TypeLexeme). binders_of o v) (append_assoc a (c ∷ []) rest)
      ∙ ap (λ (r : Answer TypeLexeme (List WordTree)). r >>= λ xs. next_at (is_word tw.Of) xs.rest (λ c rest. give xs.tree rest)) (names_there bytes s (c ∷ rest) (ap (kind_is_mark p.Comma) f))
      ∙ next_there (is_word tw.Of) c rest (λ c rest. give xs rest) (word_so tw.Of c f)

  abbrev times_of : TypeLexeme → List TypeLexeme → Answer TypeLexeme (Option LinTree)
  times_of o rest = lin_at bytes rest >>= λ x. next_at (is_mark p.CloseBracket) x.rest (λ c rest. give (Some x.tree) rest)

  times_there : {a : List TypeLexeme} {n : Option LinTree} → IsTimes bytes a n → (rest : List TypeLexeme) → next_is (is_mark p.OpenBracket) rest ≡ false → times_at bytes (a ++ rest) ≡ give n rest
  unfolding times_at
  times_there no_times rest off = absent_there (is_mark p.OpenBracket) None rest times_of off
  times_there (a_times {a = a} {x = x} o c e s f) rest off =
      maybe_there (is_mark p.OpenBracket) None o ((a ++ c ∷ []) ++ rest) times_of (mark_so p.OpenBracket o e)
      ∙ ap (λ (v : List TypeLexeme). times_of o v) (append_assoc a (c ∷ []) rest)
      ∙ ap (λ (r : Answer TypeLexeme LinTree). r >>= λ x. next_at (is_mark p.CloseBracket) x.rest (λ c rest. give (Some x.tree) rest)) (lin_there bytes s (c ∷ rest) (lin_ends p.CloseBracket c rest f (refl, refl, refl)))
      ∙ next_there (is_mark p.CloseBracket) c rest (λ c rest. give (Some x) rest) (mark_so p.CloseBracket c f)

  pub conds_there : {a : List TypeLexeme} {cs : List RelationTree} → AreConds bytes a cs → (rest : List TypeLexeme) → next_is (is_word tw.Where) rest ≡ false → EndsLins rest → conds_at bytes (a ++ rest) ≡ give cs rest
  unfolding conds_at
  conds_there no_conds rest off ends = absent_there (is_word tw.Where) [] rest (λ o rest. relations_at bytes rest) off
  conds_there (some_conds {a = a} o e s) rest off ends = maybe_there (is_word tw.Where) [] o (a ++ rest) (λ o rest. relations_at bytes rest) (word_so tw.Where o e) ∙ relations_there bytes s rest ends

  conds_next : {a : List TypeLexeme} {cs : List RelationTree} → AreConds bytes a cs → (goes : TypeLexemeKind → Bool) → goes (l.Word tw.Where) ≡ false → (rest : List TypeLexeme) → Stops goes rest → Stops goes (a ++ rest)
  conds_next no_conds goes f rest e = e
  conds_next (some_conds o g s) goes f rest e = ap goes g ∙ f

  times_next : {a : List TypeLexeme} {n : Option LinTree} → IsTimes bytes a n → (goes : TypeLexemeKind → Bool) → goes (l.Punctuator p.OpenBracket) ≡ false → (rest : List TypeLexeme) → Stops goes rest → Stops goes (a ++ rest)
  times_next no_times goes f rest e = e
  times_next (a_times o c g s h) goes f rest e = ap goes g ∙ f

  -- ---- tags

  tag_so : {d : TypeLexeme} {u : Bool} → IsTagWord d u → (is_tag_word d ≡ true) × (is_word tw.Union d ≡ u)
  tag_so (word_struct d e) = (ap kind_is_tag e, ap (kind_is_word tw.Union) e)
  tag_so (word_union d e) = (ap kind_is_tag e, ap (kind_is_word tw.Union) e)

  abbrev tag_body : Option AsTagTree → Option (Bool × WordTree)
  tag_body None = None
  tag_body (Some t) = Some (t.union_, t.tag)

  abbrev named_tag : TypeLexeme → List TypeLexeme → Answer TypeLexeme (Option (Bool × WordTree))
  named_tag d rest = name_at bytes rest >>= λ x. give (Some (is_word tw.Union d, x.tree)) x.rest

  tag_there : {a : List TypeLexeme} {t : Option AsTagTree} → IsAsTag bytes a t → (rest : List TypeLexeme) → next_is (is_word tw.As) rest ≡ false → tag_at bytes (a ++ rest) ≡ give (tag_body t) rest
  unfolding tag_at
  tag_there no_as_tag rest off = absent_there (is_word tw.As) None rest (λ o rest. next_at is_tag_word rest named_tag) off
  tag_there (an_as_tag {a = a} {t = t} {u = u} o d e f s) rest off =
      let h = tag_so f in
      maybe_there (is_word tw.As) None o (d ∷ a ++ rest) (λ o rest. next_at is_tag_word rest named_tag) (word_so tw.As o e)
      ∙ next_there is_tag_word d (a ++ rest) named_tag h.0
      ∙ ap (λ (r : Answer TypeLexeme WordTree). r >>= λ x. give (Some (is_word tw.Union d, x.tree)) x.rest) (name_there bytes s rest)
      ∙ ap (λ (b : Bool). give (Some (b, t)) rest) h.1

  tag_placed : {a : List TypeLexeme} {t : Option AsTagTree} → IsAsTag bytes a t → as_tag_of a (tag_body t) ≡ t
  tag_placed no_as_tag = refl
  tag_placed (an_as_tag o d e f s) = refl

  as_tag_there : {a : List TypeLexeme} {t : Option AsTagTree} → IsAsTag bytes a t → (rest : List TypeLexeme) → next_is (is_word tw.As) rest ≡ false → as_tag_at bytes (a ++ rest) ≡ give t rest
  unfolding as_tag_at
  as_tag_there {a} {t} s rest off = made_there as_tag_of a rest (tag_body t) (tag_at bytes (a ++ rest)) (tag_there s rest off) ∙ ap (λ (v : Option AsTagTree). give v rest) (tag_placed s)

  -- ---- a mark behind what is read

  pub closed_there : {A : Type 0} (mark : Punctuator) (x : A) (c : TypeLexeme) (rest : List TypeLexeme) → Is mark c → closed_at mark x (c ∷ rest) ≡ give x rest
  closed_there mark x c rest e = next_there (is_mark mark) c rest (λ c rest. give x rest) (mark_so mark c e)

  four : (a b c d rest : List TypeLexeme) → (a ++ (b ++ (c ++ d))) ++ rest ≡ a ++ (b ++ (c ++ (d ++ rest)))
  four a b c d rest = append_assoc a (b ++ (c ++ d)) rest ∙ ap (λ (v : List TypeLexeme). a ++ v) (append_assoc b (c ++ d) rest ∙ ap (λ (v : List TypeLexeme). b ++ v) (append_assoc c d rest))

  -- ---- lists without an item

  no_more_fields : (n : ℕ) (all : List SFieldTree) (rest : List TypeLexeme) → length rest < n → next_is names_field rest ≡ false → fields_at bytes n all rest ≡ give all rest
  no_more_fields zero all rest less off = absurd (omega (arith, less))
  no_more_fields (suc n) all [] less off = fields_end bytes all n
  no_more_fields (suc n) all (o ∷ os) less off = fields_turn bytes all n o os ∙ ap (λ (b : Bool). cond b (field_by bytes (type_at bytes n) o os >>= λ x. fields_at bytes n (all ++ x.tree ∷ []) x.rest) (give all (o ∷ os))) off

  no_more_branches : (n : ℕ) (all : List SBranchTree) (rest : List TypeLexeme) → length rest < n → next_is (is_word tw.When) rest ≡ false → branches_at bytes n all rest ≡ give all rest
  no_more_branches zero all rest less off = absurd (omega (arith, less))
  no_more_branches (suc n) all [] less off = branches_end bytes all n
  no_more_branches (suc n) all (o ∷ os) less off = branches_turn bytes all n o os ∙ ap (λ (b : Bool). cond b (branch_by bytes (type_at bytes n) os >>= λ x. branches_at bytes n (all ++ x.tree ∷ []) x.rest) (give all (o ∷ os))) off

  no_more_pieces : (n : ℕ) (all : List STypeTree) (c : TypeLexeme) (rest : List TypeLexeme) → 0 < n → Is p.CloseBrace c → pieces_at bytes n all (c ∷ rest) ≡ give all (c ∷ rest)
  no_more_pieces zero all c rest some e = absurd (omega (arith, some))
  no_more_pieces (suc n) all c rest some e =
      pieces_turn bytes all n c rest ∙ ap (λ (b : Bool). cond b (give all (c ∷ rest)) (piece_from (type_at bytes (suc n) (c ∷ rest)) >>= λ x. pieces_at bytes n (all ++ x.tree ∷ []) x.rest)) (mark_so p.CloseBrace c e)

  -- a list of types goes on where a type begins
  not_brace : (b : Bool) → cond b false true ≡ true → b ≡ false
  not_brace true e = sym e
  not_brace false e = refl

  pieces_go : (all : List STypeTree) (n : ℕ) (a v : List TypeLexeme) → First begins_type a → pieces_at bytes (suc n) all (a ++ v) ≡ (piece_from (type_at bytes (suc n) (a ++ v)) >>= λ x. pieces_at bytes n (all ++ x.tree ∷ []) x.rest)
  pieces_go all n a v f =
      ap (λ (u : List TypeLexeme). pieces_at bytes (suc n) all (u ++ v)) f.parts
      ∙ pieces_turn bytes all n f.o (f.more ++ v)
      ∙ ap (λ (b : Bool). cond b (give all (f.o ∷ f.more ++ v)) (piece_from (type_at bytes (suc n) (f.o ∷ f.more ++ v)) >>= λ x. pieces_at bytes n (all ++ x.tree ∷ []) x.rest)) (not_brace (is_mark p.CloseBrace f.o) f.so)
      ∙ ap (λ (u : List TypeLexeme). piece_from (type_at bytes (suc n) (u ++ v)) >>= λ x. pieces_at bytes n (all ++ x.tree ∷ []) x.rest) (sym f.parts)

  -- ---- atoms of a cell

  cell_is_atom : {a : List TypeLexeme} {x : SCellTree} → IsCell bytes a x → (n : ℕ) (rest : List TypeLexeme) → 0 < n → Stops goes_atom rest → atom_at bytes n (a ++ rest) ≡ give (cell x) rest
  cell_is_atom {a} {x} s n rest some ends =
      let f = cell_first s in
      let g = cell_only f.o.kind f.so in
      ap (λ (v : List TypeLexeme). atom_at bytes n (v ++ rest)) f.parts
      ∙ atom_cell_is bytes f.o g.0 g.1 g.2 g.3 n (f.more ++ rest) some
      ∙ ap (λ (v : List TypeLexeme). cell_from (cell_at bytes (v ++ rest))) (sym f.parts)
      ∙ ap cell_from (cell_there bytes s rest (stops_sub goes_cell goes_atom atom_cell_goes rest ends))

  -- ---- steps, with what is read in them as arguments

  piece_done : (a : List TypeLexeme) (t : STypeTree) (s : TypeLexeme) (n : ℕ) (rest : List TypeLexeme) → Is p.Semicolon s → type_at bytes n (a ++ (s ∷ rest)) ≡ give t (s ∷ rest) → piece_from (type_at bytes n ((a ++ s ∷ []) ++ rest)) ≡ give t rest
  piece_done a t s n rest e h =
      ap (λ (v : List TypeLexeme). piece_from (type_at bytes n v)) (append_assoc a (s ∷ []) rest) ∙ ap piece_from h ∙ closed_there p.Semicolon t s rest e

  semicolon_ends : (s : TypeLexeme) (rest : List TypeLexeme) → Is p.Semicolon s → EndsType (s ∷ rest)
  semicolon_ends s rest e = mark_ends p.Semicolon s rest e refl

  abbrev after_atom : List WordTree → Got TypeLexeme AtomTree → Answer TypeLexeme TypeBody
  after_atom bs x = times_at bytes x.rest >>= λ t. conds_at bytes t.rest >>= λ c. give (bs, x.tree, t.tree, c.tree) c.rest

  -- what follows the atom of a type
  type_done : {a b c d : List TypeLexeme} {bs : List WordTree} {x : AtomTree} {m : Option LinTree} {cs : List RelationTree} → AreBinders bytes a bs → IsAtom bytes b x → IsTimes bytes c m → AreConds bytes d cs → (n : ℕ) (rest : List TypeLexeme) → EndsType rest
      → (Stops goes_atom (c ++ (d ++ rest)) → atom_at bytes n (b ++ (c ++ (d ++ rest))) ≡ give x (c ++ (d ++ rest)))
      → type_at bytes n ((a ++ (b ++ (c ++ d))) ++ rest) ≡ give (type_of (a ++ (b ++ (c ++ d))) (bs, x, m, cs)) rest
  type_done {a} {b} {c} {d} {bs} {x} {m} {cs} s u v h n rest ends atom =
      let go3 : Got TypeLexeme (List RelationTree) → Answer TypeLexeme TypeBody = λ c. give (bs, x, m, c.tree) c.rest in
      let go2 : Got TypeLexeme (Option LinTree) → Answer TypeLexeme TypeBody = λ t. conds_at bytes t.rest >>= λ c. give (bs, x, t.tree, c.tree) c.rest in
      let go0 : Got TypeLexeme (List WordTree) → Answer TypeLexeme TypeBody = λ bs. atom_at bytes n bs.rest >>= after_atom bs.tree in
      let tail = c ++ (d ++ rest) in
      let stop : Stops goes_atom tail = times_next v goes_atom refl (d ++ rest) (conds_next h goes_atom refl rest (stops_sub goes_atom goes_type type_atom rest ends)) in
      let parts : parts_by bytes (atom_at bytes n) ((a ++ (b ++ (c ++ d))) ++ rest) ≡ give (bs, x, m, cs) rest =
      ap (λ (v : List TypeLexeme). binders_at bytes v >>= go0) (four a b c d rest)
      ∙ ap (λ (r : Answer TypeLexeme (List WordTree)). r >>= go0) (binders_there s (b ++ tail) (first_next begins_atom (kind_is_word tw.Some) b tail (λ k so. (atom_only k so).1) (atom_first u)))
      ∙ ap (λ (r : Answer TypeLexeme AtomTree). r >>= after_atom bs) (atom stop)
      ∙ ap (λ (r : Answer TypeLexeme (Option LinTree)). r >>= go2) (times_there v (d ++ rest) (conds_next h (kind_is_mark p.OpenBracket) refl rest (stops_sub (kind_is_mark p.OpenBracket) goes_type type_bracket rest ends)))
      ∙ ap (λ (r : Answer TypeLexeme (List RelationTree)). r >>= go3) (conds_there h rest (stops_sub (kind_is_word tw.Where) goes_type type_where rest ends) (type_ends_lins rest ends)) in
      made_there type_of (a ++ (b ++ (c ++ d))) rest (bs, x, m, cs) (parts_by bytes (atom_at bytes n) ((a ++ (b ++ (c ++ d))) ++ rest)) parts

  paren_done : (o c : TypeLexeme) (a : List TypeLexeme) (t : STypeTree) (n : ℕ) (rest : List TypeLexeme) → Is p.OpenParen o → Is p.CloseParen c → type_at bytes n (a ++ (c ∷ rest)) ≡ give t (c ∷ rest) → atom_at bytes (suc n) ((o ∷ a ++ c ∷ []) ++ rest) ≡ give (paren t) rest
  paren_done o c a t n rest e f h =
      atom_is bytes n o ((a ++ c ∷ []) ++ rest) true false false false (mark_so p.OpenParen o e) (ap (kind_is_mark p.OpenBrace) e) (ap kind_is_tag e) (ap (kind_is_word tw.Cases) e)
      ∙ ap (λ (v : List TypeLexeme). paren_from (type_at bytes n v)) (append_assoc a (c ∷ []) rest)
      ∙ ap paren_from h
      ∙ closed_there p.CloseParen (paren t) c rest f

  product_done : (o c : TypeLexeme) (a b : List TypeLexeme) (ts : List STypeTree) (t : Option AsTagTree) (n : ℕ) (rest : List TypeLexeme) → Is p.OpenBrace o → Is p.CloseBrace c → IsAsTag bytes b t → Stops goes_atom rest → pieces_at bytes n [] (a ++ (c ∷ (b ++ rest))) ≡ give ts (c ∷ (b ++ rest))
      → atom_at bytes (suc n) ((o ∷ a ++ c ∷ b) ++ rest) ≡ give (product (types_in_order ts) t) rest
  product_done o c a b ts t n rest e f s ends h =
      atom_is bytes n o ((a ++ c ∷ b) ++ rest) false true false false (ap (kind_is_mark p.OpenParen) e) (mark_so p.OpenBrace o e) (ap kind_is_tag e) (ap (kind_is_word tw.Cases) e)
      ∙ ap (λ (v : List TypeLexeme). product_from bytes (pieces_at bytes n [] v)) (append_assoc a (c ∷ b) rest)
      ∙ ap (product_from bytes) h
      ∙ next_there (is_mark p.CloseBrace) c (b ++ rest) (λ c rest. as_tag_at bytes rest >>= λ t. give (product (types_in_order ts) t.tree) t.rest) (mark_so p.CloseBrace c f)
      ∙ ap (λ (r : Answer TypeLexeme (Option AsTagTree)). r >>= λ t. give (product (types_in_order ts) t.tree) t.rest) (as_tag_there s rest (stops_sub (kind_is_word tw.As) goes_atom atom_as_goes rest ends))

  opened_there : {v : List TypeLexeme} {t : WordTree} → IsName bytes v t → (o : TypeLexeme) → Is p.OpenBrace o → (rest : List TypeLexeme) → opened_tag_at bytes (v ++ (o ∷ rest)) ≡ give t rest
  opened_there {v} {t} s o e rest = ap (λ (r : Answer TypeLexeme WordTree). r >>= λ v. closed_at p.OpenBrace v.tree v.rest) (name_there bytes s (o ∷ rest)) ∙ closed_there p.OpenBrace t o rest e

  tag_alone : {d : TypeLexeme} {u : Bool} → IsTagWord d u → (is_mark p.OpenParen d ≡ false) × (is_mark p.OpenBrace d ≡ false) × (is_word tw.Cases d ≡ false)
  tag_alone (word_struct d e) = (ap (kind_is_mark p.OpenParen) e, ap (kind_is_mark p.OpenBrace) e, ap (kind_is_word tw.Cases) e)
  tag_alone (word_union d e) = (ap (kind_is_mark p.OpenParen) e, ap (kind_is_mark p.OpenBrace) e, ap (kind_is_word tw.Cases) e)

  tagged_done : (d o c : TypeLexeme) (u : Bool) (v a : List TypeLexeme) (t : WordTree) (fs : List SFieldTree) (n : ℕ) (rest : List TypeLexeme) → IsTagWord d u → IsName bytes v t → Is p.OpenBrace o → Is p.CloseBrace c → fields_at bytes n [] (a ++ (c ∷ rest)) ≡ give fs (c ∷ rest)
      → atom_at bytes (suc n) ((d ∷ v ++ (o ∷ a ++ c ∷ [])) ++ rest) ≡ give (tagged u t (fields_in_order fs)) rest
  tagged_done d o c u v a t fs n rest e s f g h =
      let k = tag_so e in
      let j = tag_alone e in
      let go2 : Bool → WordTree → Got TypeLexeme (List SFieldTree) → Answer TypeLexeme AtomTree = λ u t fs. closed_at p.CloseBrace (tagged u t (fields_in_order fs.tree)) fs.rest in
      let go : Bool → Got TypeLexeme WordTree → Answer TypeLexeme AtomTree = λ u v. fields_at bytes n [] v.rest >>= go2 u v.tree in
      atom_is bytes n d ((v ++ (o ∷ a ++ c ∷ [])) ++ rest) false false true false j.0 j.1 k.0 j.2
      ∙ ap (λ (b : Bool). tagged_by bytes b (fields_at bytes n []) ((v ++ (o ∷ a ++ c ∷ [])) ++ rest)) k.1
      ∙ ap (λ (w : List TypeLexeme). opened_tag_at bytes w >>= go u) (append_assoc v (o ∷ a ++ c ∷ []) rest ∙ ap (λ (w : List TypeLexeme). v ++ (o ∷ w)) (append_assoc a (c ∷ []) rest))
      ∙ ap (λ (r : Answer TypeLexeme WordTree). r >>= go u) (opened_there s o f (a ++ (c ∷ rest)))
      ∙ ap (λ (r : Answer TypeLexeme (List SFieldTree)). r >>= go2 u t) h
      ∙ closed_there p.CloseBrace (tagged u t (fields_in_order fs)) c rest g

  branch_first : {a : List TypeLexeme} {x : SBranchTree} → IsBranch bytes a x → First (kind_is_word tw.When) a
  branch_first (a_branch {a = a} {b = b} o e s t) = first_so (kind_is_word tw.When) o (a ++ b) (l.Word tw.When) e refl

  -- a branch or more begins with the word when
  some_first : {a : List TypeLexeme} {bs : List SBranchTree} {x : SBranchTree} {xs : List SBranchTree} → AreBranches bytes a bs → bs ≡ x ∷ xs → First (kind_is_word tw.When) a
  some_first no_branches e = absurd cc
  some_first (more_branches {c = c} s ss) e = first_and c (branch_first s)

  cases_done : (d o c : TypeLexeme) (a : List TypeLexeme) (bs : List SBranchTree) (n : ℕ) (rest : List TypeLexeme) → IsWord tw.Cases d → Is p.OpenBrace o → Is p.CloseBrace c → First (kind_is_word tw.When) a → branches_at bytes n [] (a ++ (c ∷ rest)) ≡ give bs (c ∷ rest)
      → atom_at bytes (suc n) ((d ∷ o ∷ a ++ c ∷ []) ++ rest) ≡ give (cases (branches_in_order bs)) rest
  cases_done d o c a bs n rest e f g q h =
      let go : Answer TypeLexeme (List SBranchTree) → Answer TypeLexeme AtomTree = λ r. r >>= λ bs. closed_at p.CloseBrace (cases (branches_in_order bs.tree)) bs.rest in
      let peek : List TypeLexeme → Answer TypeLexeme AtomTree = λ rest. cond (next_is (is_word tw.When) rest) (go (branches_at bytes n [] rest)) (fault (length rest)) in
      atom_is bytes n d (o ∷ (a ++ c ∷ []) ++ rest) false false false true (ap (kind_is_mark p.OpenParen) e) (ap (kind_is_mark p.OpenBrace) e) (ap kind_is_tag e) (word_so tw.Cases d e)
      ∙ next_there (is_mark p.OpenBrace) o ((a ++ c ∷ []) ++ rest) (λ o rest. peek rest) (mark_so p.OpenBrace o f)
      ∙ ap peek (append_assoc a (c ∷ []) rest)
      ∙ ap (λ (b : Bool). cond b (go (branches_at bytes n [] (a ++ (c ∷ rest)))) (fault (length (a ++ (c ∷ rest))))) (ap (λ (v : List TypeLexeme). next_is (is_word tw.When) (v ++ (c ∷ rest))) q.parts ∙ q.so)
      ∙ ap go h
      ∙ closed_there p.CloseBrace (cases (branches_in_order bs)) c rest g

  body_done : (o s : TypeLexeme) (a : List TypeLexeme) (t : STypeTree) (n : ℕ) (rest : List TypeLexeme) → Is p.Colon o → Is p.Semicolon s → type_at bytes n (a ++ (s ∷ rest)) ≡ give t (s ∷ rest) → body_by (type_at bytes n) ((o ∷ a ++ s ∷ []) ++ rest) ≡ give t rest
  body_done o s a t n rest e f h = next_there (is_mark p.Colon) o ((a ++ s ∷ []) ++ rest) (λ o rest. piece_from (type_at bytes n rest)) (mark_so p.Colon o e) ∙ piece_done a t s n rest f h

  -- a field behind those that were read
  field_done : (o : TypeLexeme) (b c : List TypeLexeme) (t : STypeTree) (fs : List SFieldTree) (n : ℕ) (all : List SFieldTree) (rest : List TypeLexeme) → names_field o ≡ true → body_by (type_at bytes n) (b ++ (c ++ rest)) ≡ give t (c ++ rest)
      → fields_at bytes n (all ++ record { name = word_at bytes o.span; body = t } ∷ []) (c ++ rest) ≡ give ((all ++ record { name = word_at bytes o.span; body = t } ∷ []) ++ fs) rest
      → fields_at bytes (suc n) all ((o ∷ b ++ c) ++ rest) ≡ give (all ++ record { name = word_at bytes o.span; body = t } ∷ fs) rest
  field_done o b c t fs n all rest so h k =
      let x : SFieldTree = record { name = word_at bytes o.span; body = t } in
      let again : Got TypeLexeme SFieldTree → Answer TypeLexeme (List SFieldTree) = λ x. fields_at bytes n (all ++ x.tree ∷ []) x.rest in
      let make : Answer TypeLexeme STypeTree → Answer TypeLexeme SFieldTree = λ r. r >>= λ t. give (record { name = word_at bytes o.span; body = t.tree }) t.rest in
      fields_turn bytes all n o ((b ++ c) ++ rest)
      ∙ ap (λ (d : Bool). cond d (field_by bytes (type_at bytes n) o ((b ++ c) ++ rest) >>= again) (give all (o ∷ (b ++ c) ++ rest))) so
      ∙ ap (λ (v : List TypeLexeme). make (body_by (type_at bytes n) v) >>= again) (append_assoc b c rest)
      ∙ ap (λ (r : Answer TypeLexeme STypeTree). make r >>= again) h
      ∙ k
      ∙ ap (λ (v : List SFieldTree). give v rest) (append_assoc all (x ∷ []) fs)

  -- a branch behind those that were read
  branch_done : (o : TypeLexeme) (a b c : List TypeLexeme) (gs : List RelationTree) (t : STypeTree) (bs : List SBranchTree) (n : ℕ) (all : List SBranchTree) (rest : List TypeLexeme) → IsWord tw.When o → relations_at bytes (a ++ (b ++ (c ++ rest))) ≡ give gs (b ++ (c ++ rest)) → body_by (type_at bytes n) (b ++ (c ++ rest)) ≡ give t (c ++ rest)
      → branches_at bytes n (all ++ record { guard = gs; body = t } ∷ []) (c ++ rest) ≡ give ((all ++ record { guard = gs; body = t } ∷ []) ++ bs) rest
      → branches_at bytes (suc n) all (((o ∷ a ++ b) ++ c) ++ rest) ≡ give (all ++ record { guard = gs; body = t } ∷ bs) rest
  branch_done o a b c gs t bs n all rest e g h k =
      let x : SBranchTree = record { guard = gs; body = t } in
      let again : Got TypeLexeme SBranchTree → Answer TypeLexeme (List SBranchTree) = λ x. branches_at bytes n (all ++ x.tree ∷ []) x.rest in
      let make : List RelationTree → Answer TypeLexeme STypeTree → Answer TypeLexeme SBranchTree = λ gs r. r >>= λ t. give (record { guard = gs; body = t.tree }) t.rest in
      let go : Got TypeLexeme (List RelationTree) → Answer TypeLexeme SBranchTree = λ gs. make gs.tree (body_by (type_at bytes n) gs.rest) in
      branches_turn bytes all n o (((a ++ b) ++ c) ++ rest)
      ∙ ap (λ (d : Bool). cond d (branch_by bytes (type_at bytes n) (((a ++ b) ++ c) ++ rest) >>= again) (give all (o ∷ ((a ++ b) ++ c) ++ rest))) (word_so tw.When o e)
      ∙ ap (λ (v : List TypeLexeme). relations_at bytes v >>= go >>= again) (append_assoc (a ++ b) c rest ∙ append_assoc a b (c ++ rest))
      ∙ ap (λ (r : Answer TypeLexeme (List RelationTree)). r >>= go >>= again) g
      ∙ ap (λ (r : Answer TypeLexeme STypeTree). make gs r >>= again) h
      ∙ k
      ∙ ap (λ (v : List SBranchTree). give v rest) (append_assoc all (x ∷ []) bs)

  colon_ends : (o : TypeLexeme) (rest : List TypeLexeme) → Is p.Colon o → EndsLins (o ∷ rest)
  colon_ends o rest e = (lin_ends p.Colon o rest e (refl, refl, refl), ap (kind_is_mark p.Comma) e)

  body_ends : {b : List TypeLexeme} {t : STypeTree} → IsBody bytes b t → (rest : List TypeLexeme) → EndsLins (b ++ rest)
  body_ends (a_body {a = a} o s e h f) rest = colon_ends o ((a ++ s ∷ []) ++ rest) e

  -- ---- types

  mutual
    pub type_there : {a : List TypeLexeme} {t : STypeTree} → IsType bytes a t → (n : ℕ) (rest : List TypeLexeme) → length (a ++ rest) < n → EndsType rest → type_at bytes n (a ++ rest) ≡ give t rest
    type_there (is_type {a = a} {b = b} {c = c} {d = d} s u v h) n rest less ends =
        type_done s u v h n rest ends (atom_there u n (c ++ (d ++ rest)) (omega (arith, less, ap length (four a b c d rest), length-append a (b ++ (c ++ (d ++ rest))))))

    pub atom_there : {a : List TypeLexeme} {x : AtomTree} → IsAtom bytes a x → (n : ℕ) (rest : List TypeLexeme) → length (a ++ rest) < n → Stops goes_atom rest → atom_at bytes n (a ++ rest) ≡ give x rest
    atom_there (atom_cell s) n rest less ends = cell_is_atom s n rest (omega (arith, less)) ends
    atom_there (atom_paren o c e s f) zero rest less ends = absurd (omega (arith, less))
    atom_there (atom_paren {a = a} {t = t} o c e s f) (suc n) rest less ends = paren_done o c a t n rest e f (type_there s n (c ∷ rest) (omega (arith, less, ap length (append_assoc a (c ∷ []) rest))) (mark_ends p.CloseParen c rest f refl))
    atom_there (atom_tagged d o c e s f g h) zero rest less ends = absurd (omega (arith, less))
    atom_there (atom_tagged {v = v} {a = a} {u = u} {t = t} {fs = fs} d o c e s f g h) (suc n) rest less ends =
        tagged_done d o c u v a t fs n rest e s f h (fields_there g n [] (c ∷ rest) (omega (arith, less, ap length (append_assoc v (o ∷ a ++ c ∷ []) rest), ap length (append_assoc a (c ∷ []) rest), length-append v (o ∷ (a ++ c ∷ []) ++ rest))) (ap kind_names_field h))
    atom_there (atom_product o c e s f t) zero rest less ends = absurd (omega (arith, less))
    atom_there (atom_product {a = a} {b = b} {ts = ts} {t = t} o c e s f h) (suc n) rest less ends =
        product_done o c a b ts t n rest e f h ends (pieces_there s n [] c (b ++ rest) f (omega (arith, less, ap length (append_assoc a (c ∷ b) rest))))
    atom_there (atom_cases d o c e f ss g) zero rest less ends = absurd (omega (arith, less))
    atom_there (atom_cases {a = a} {x = x} {xs = xs} d o c e f ss g) (suc n) rest less ends =
        cases_done d o c a (x ∷ xs) n rest e f g (some_first ss refl) (branches_there ss n [] (c ∷ rest) (omega (arith, less, ap length (append_assoc a (c ∷ []) rest))) (ap (kind_is_word tw.When) g))

    pub pieces_there : {a : List TypeLexeme} {ts : List STypeTree} → ArePieces bytes a ts → (n : ℕ) (all : List STypeTree) (c : TypeLexeme) (rest : List TypeLexeme) → Is p.CloseBrace c → length (a ++ (c ∷ rest)) < n → pieces_at bytes n all (a ++ (c ∷ rest)) ≡ give (all ++ ts) (c ∷ rest)
    pieces_there no_pieces n all c rest e less = no_more_pieces n all c rest (omega (arith, less)) e ∙ ap (λ (v : List STypeTree). give v (c ∷ rest)) (sym (append-nil all))
    pieces_there (more_pieces s ss) zero all c rest e less = absurd (omega (arith, less))
    pieces_there (more_pieces {a = a} {c = b} {x = x} {xs = xs} s ss) (suc n) all c rest e less =
        let again : Got TypeLexeme STypeTree → Answer TypeLexeme (List STypeTree) = λ x. pieces_at bytes n (all ++ x.tree ∷ []) x.rest in
        let long = ap length (append_assoc a b (c ∷ rest)) in
        ap (pieces_at bytes (suc n) all) (append_assoc a b (c ∷ rest))
        ∙ pieces_go all n a (b ++ (c ∷ rest)) (piece_first s)
        ∙ ap (λ (r : Answer TypeLexeme STypeTree). r >>= again) (piece_there s (suc n) (b ++ (c ∷ rest)) (omega (arith, less, long)))
        ∙ pieces_there ss n (all ++ x ∷ []) c rest e (omega (arith, less, long, length-append a (b ++ (c ∷ rest)), piece_long s))
        ∙ ap (λ (v : List STypeTree). give v (c ∷ rest)) (append_assoc all (x ∷ []) xs)

    piece_there : {a : List TypeLexeme} {t : STypeTree} → IsPiece bytes a t → (n : ℕ) (rest : List TypeLexeme) → length (a ++ rest) < n → piece_from (type_at bytes n (a ++ rest)) ≡ give t rest
    piece_there (a_piece {a = a} {t = t} s h e) n rest less = piece_done a t s n rest e (type_there h n (s ∷ rest) (omega (arith, less, ap length (append_assoc a (s ∷ []) rest))) (semicolon_ends s rest e))

    body_there : {b : List TypeLexeme} {t : STypeTree} → IsBody bytes b t → (n : ℕ) (rest : List TypeLexeme) → length (b ++ rest) < suc n → body_by (type_at bytes n) (b ++ rest) ≡ give t rest
    body_there (a_body {a = a} {t = t} o s e h f) n rest less = body_done o s a t n rest e f (type_there h n (s ∷ rest) (omega (arith, less, ap length (append_assoc a (s ∷ []) rest))) (semicolon_ends s rest f))

    pub fields_there : {a : List TypeLexeme} {fs : List SFieldTree} → AreFields bytes a fs → (n : ℕ) (all : List SFieldTree) (rest : List TypeLexeme) → length (a ++ rest) < n → next_is names_field rest ≡ false → fields_at bytes n all (a ++ rest) ≡ give (all ++ fs) rest
    fields_there no_fields n all rest less off = no_more_fields n all rest less off ∙ ap (λ (v : List SFieldTree). give v rest) (sym (append-nil all))
    fields_there (more_fields (a_field o so h) ss) zero all rest less off = absurd (omega (arith, less))
    fields_there (more_fields {c = c} {xs = xs} (a_field {a = b} {t = t} o so h) ss) (suc n) all rest less off =
        let long = ap length (append_assoc b c rest) in
        field_done o b c t xs n all rest so (body_there h n (c ++ rest) (omega (arith, less, long)))
        (fields_there ss n (all ++ record { name = word_at bytes o.span; body = t } ∷ []) rest (omega (arith, less, long, length-append b (c ++ rest))) off)

    pub branches_there : {a : List TypeLexeme} {bs : List SBranchTree} → AreBranches bytes a bs → (n : ℕ) (all : List SBranchTree) (rest : List TypeLexeme) → length (a ++ rest) < n → next_is (is_word tw.When) rest ≡ false → branches_at bytes n all (a ++ rest) ≡ give (all ++ bs) rest
    branches_there no_branches n all rest less off = no_more_branches n all rest less off ∙ ap (λ (v : List SBranchTree). give v rest) (sym (append-nil all))
    branches_there (more_branches (a_branch o e s h) ss) zero all rest less off = absurd (omega (arith, less))
    branches_there (more_branches {c = c} {xs = xs} (a_branch {a = a} {b = b} {gs = gs} {t = t} o e s h) ss) (suc n) all rest less off =
        let long = ap length (append_assoc (a ++ b) c rest ∙ append_assoc a b (c ++ rest)) in
        let behind = length-append a (b ++ (c ++ rest)) in
        branch_done o a b c gs t xs n all rest e (relations_there bytes s (b ++ (c ++ rest)) (body_ends h (c ++ rest))) (body_there h n (c ++ rest) (omega (arith, less, long, behind)))
        (branches_there ss n (all ++ record { guard = gs; body = t } ∷ []) rest (omega (arith, less, long, behind, length-append b (c ++ rest))) off)

  pub stype_there : {a : List TypeLexeme} {t : STypeTree} → IsType bytes a t → (rest : List TypeLexeme) → EndsType rest → stype_at bytes (a ++ rest) ≡ give t rest
  stype_there {a} s rest ends = type_there s (suc (length (a ++ rest))) rest (omega arith) ends
