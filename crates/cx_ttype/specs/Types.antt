-- Which lexemes spell a type of bytes.
use Rattle.std.specs.Prelude.{◌≡◌, ℕ, Bool, true, false, List, [], ◌∷◌, ◌++◌, Option, Some, None}
use Rattle.cx_cword.specs.declared.word.Punctuator.TheVariants as p
use Rattle.cx_tsyn.specs.Words.{WordTree}
use Rattle.cx_tsyn.specs.Lins.{LinTree, RelationTree}
use Rattle.cx_tsyn.specs.Cells.{SCellTree}
use Rattle.cx_tsyn.specs.Types.{AsTagTree, STypeTree, stype, AtomTree, cell, paren, tagged, product, cases, SFieldTree, SBranchTree, types_in_order, fields_in_order, branches_in_order}
use Rattle.cx_tword.specs.declared.word.TypeWord.{TypeWord}
use Rattle.cx_tword.specs.declared.word.TypeWord.TheVariants as tw
use Rattle.cx_tword.specs.declared.lexeme.TypeLexeme.{TypeLexeme}
use Rattle.cx_tword.specs.declared.lexeme.TypeLexemeKind.{TypeLexemeKind}
use Rattle.cx_tword.specs.declared.lexeme.TypeLexemeKind.TheVariants as l
use Rattle.cx_tword.specs.Marks.{Is, IsWord}
use Rattle.cx_reader.specs.Answers.{next_is}
use Rattle.cx_tlin.specs.Lexemes.{span_of}
use Rattle.cx_tlin.specs.Lins.{IsName, IsLin, AreNames, AreRelations}
use Rattle.cx_tlin.specs.Reading.{word_at}
use Rattle.cx_tcell.specs.Cells.{IsCell}

-- ---- what stands around an atom

-- nothing, or names between the words some and of
pub data AreBinders (bytes : List ℕ) : List TypeLexeme → List WordTree → Type 0 where
  no_binders : AreBinders bytes [] []
  some_binders : {a : List TypeLexeme} {xs : List WordTree} (o c : TypeLexeme) → IsWord tw.Some o → AreNames bytes a xs → IsWord tw.Of c → AreBinders bytes (o ∷ a ++ c ∷ []) xs

-- nothing, or how many in brackets
pub data IsTimes (bytes : List ℕ) : List TypeLexeme → Option LinTree → Type 0 where
  no_times : IsTimes bytes [] None
  a_times : {a : List TypeLexeme} {x : LinTree} (o c : TypeLexeme) → Is p.OpenBracket o → IsLin bytes a x → Is p.CloseBracket c → IsTimes bytes (o ∷ a ++ c ∷ []) (Some x)

-- nothing, or relations behind the word where
pub data AreConds (bytes : List ℕ) : List TypeLexeme → List RelationTree → Type 0 where
  no_conds : AreConds bytes [] []
  some_conds : {a : List TypeLexeme} {xs : List RelationTree} (o : TypeLexeme) → IsWord tw.Where o → AreRelations bytes a xs → AreConds bytes (o ∷ a) xs

-- ---- tags and fields

-- the word struct, or the word union, with whether it is the second
pub data IsTagWord : TypeLexeme → Bool → Type 0 where
  word_struct : (o : TypeLexeme) → IsWord tw.Struct o → IsTagWord o false
  word_union : (o : TypeLexeme) → IsWord tw.Union o → IsTagWord o true

-- nothing, or the word as, the word struct or union, and a tag
pub data IsAsTag (bytes : List ℕ) : List TypeLexeme → Option AsTagTree → Type 0 where
  no_as_tag : IsAsTag bytes [] None
  an_as_tag : {a : List TypeLexeme} {t : WordTree} {u : Bool} (o d : TypeLexeme) → IsWord tw.As o → IsTagWord d u → IsName bytes a t → IsAsTag bytes (o ∷ d ∷ a) (Some (record { span = span_of (o ∷ d ∷ a); union_ = u; tag = t }))

-- a reserved word that is no keyword of C (C11 6.4.1)
abbrev pub is_no_keyword : TypeWord → Bool
is_no_keyword tw.Struct = false
is_no_keyword tw.Union = false
is_no_keyword tw.For = false
is_no_keyword tw.Void = false
is_no_keyword _ = true

-- a member of C may have this name: it is a name, or a reserved word that is no keyword of C
abbrev pub kind_names_field : TypeLexemeKind → Bool
kind_names_field l.Name = true
kind_names_field (l.Word v) = is_no_keyword v
kind_names_field (l.AnyBytes k) = true
kind_names_field (l.Unsigned k) = true
kind_names_field (l.Signed k) = true
kind_names_field l.OtherSize = true
kind_names_field _ = false

abbrev pub names_field : TypeLexeme → Bool
names_field o = kind_names_field o.kind

-- ---- types

mutual
  pub data IsType (bytes : List ℕ) : List TypeLexeme → STypeTree → Type 0 where
    is_type : {a b c d : List TypeLexeme} {bs : List WordTree} {x : AtomTree} {n : Option LinTree} {cs : List RelationTree} → AreBinders bytes a bs → IsAtom bytes b x → IsTimes bytes c n → AreConds bytes d cs
        → IsType bytes (a ++ (b ++ (c ++ d))) (stype (span_of (a ++ (b ++ (c ++ d)))) bs x n cs)

  pub data IsAtom (bytes : List ℕ) : List TypeLexeme → AtomTree → Type 0 where
    atom_cell : {a : List TypeLexeme} {x : SCellTree} → IsCell bytes a x → IsAtom bytes a (cell x)
    atom_paren : {a : List TypeLexeme} {t : STypeTree} (o c : TypeLexeme) → Is p.OpenParen o → IsType bytes a t → Is p.CloseParen c → IsAtom bytes (o ∷ a ++ c ∷ []) (paren t)
    atom_tagged : {v a : List TypeLexeme} {u : Bool} {t : WordTree} {fs : List SFieldTree} (d o c : TypeLexeme) → IsTagWord d u → IsName bytes v t → Is p.OpenBrace o → AreFields bytes a fs → Is p.CloseBrace c
        → IsAtom bytes (d ∷ v ++ (o ∷ a ++ c ∷ [])) (tagged u t (fields_in_order fs))
    atom_product : {a b : List TypeLexeme} {ts : List STypeTree} {t : Option AsTagTree} (o c : TypeLexeme) → Is p.OpenBrace o → ArePieces bytes a ts → Is p.CloseBrace c → IsAsTag bytes b t → IsAtom bytes (o ∷ a ++ c ∷ b) (product (types_in_order ts) t)
    -- one branch or more
    atom_cases : {a : List TypeLexeme} {x : SBranchTree} {xs : List SBranchTree} (d o c : TypeLexeme) → IsWord tw.Cases d → Is p.OpenBrace o → AreBranches bytes a (x ∷ xs) → Is p.CloseBrace c → IsAtom bytes (d ∷ o ∷ a ++ c ∷ []) (cases (branches_in_order (x ∷ xs)))

  -- a type and a semicolon
  pub data IsPiece (bytes : List ℕ) : List TypeLexeme → STypeTree → Type 0 where
    a_piece : {a : List TypeLexeme} {t : STypeTree} (s : TypeLexeme) → IsType bytes a t → Is p.Semicolon s → IsPiece bytes (a ++ s ∷ []) t

  pub data ArePieces (bytes : List ℕ) : List TypeLexeme → List STypeTree → Type 0 where
    no_pieces : ArePieces bytes [] []
    more_pieces : {a c : List TypeLexeme} {x : STypeTree} {xs : List STypeTree} → IsPiece bytes a x → ArePieces bytes c xs → ArePieces bytes (a ++ c) (x ∷ xs)

  -- a colon, a type and a semicolon
  pub data IsBody (bytes : List ℕ) : List TypeLexeme → STypeTree → Type 0 where
    a_body : {a : List TypeLexeme} {t : STypeTree} (o s : TypeLexeme) → Is p.Colon o → IsType bytes a t → Is p.Semicolon s → IsBody bytes (o ∷ a ++ s ∷ []) t

  -- the name of a member of C and its body
  pub data IsField (bytes : List ℕ) : List TypeLexeme → SFieldTree → Type 0 where
    a_field : {a : List TypeLexeme} {t : STypeTree} (o : TypeLexeme) → names_field o ≡ true → IsBody bytes a t → IsField bytes (o ∷ a) (record { name = word_at bytes o.span; body = t })

  pub data AreFields (bytes : List ℕ) : List TypeLexeme → List SFieldTree → Type 0 where
    no_fields : AreFields bytes [] []
    more_fields : {a c : List TypeLexeme} {x : SFieldTree} {xs : List SFieldTree} → IsField bytes a x → AreFields bytes c xs → AreFields bytes (a ++ c) (x ∷ xs)

  -- the word when, relations and a body
  pub data IsBranch (bytes : List ℕ) : List TypeLexeme → SBranchTree → Type 0 where
    a_branch : {a b : List TypeLexeme} {gs : List RelationTree} {t : STypeTree} (o : TypeLexeme) → IsWord tw.When o → AreRelations bytes a gs → IsBody bytes b t → IsBranch bytes (o ∷ a ++ b) (record { guard = gs; body = t })

  pub data AreBranches (bytes : List ℕ) : List TypeLexeme → List SBranchTree → Type 0 where
    no_branches : AreBranches bytes [] []
    more_branches : {a c : List TypeLexeme} {x : SBranchTree} {xs : List SBranchTree} → IsBranch bytes a x → AreBranches bytes c xs → AreBranches bytes (a ++ c) (x ∷ xs)

-- what may go on with a type: what may with a cell, a bracket, the words as and where, a comma
abbrev pub goes_type : TypeLexemeKind → Bool
goes_type (l.Punctuator p.Star) = true
goes_type (l.Punctuator p.Plus) = true
goes_type (l.Punctuator p.Minus) = true
goes_type (l.Punctuator p.OpenParen) = true
goes_type (l.Punctuator p.OpenBracket) = true
goes_type (l.Punctuator p.Comma) = true
goes_type (l.Word tw.Null) = true
goes_type (l.Word tw.As) = true
goes_type (l.Word tw.Where) = true
goes_type _ = false

-- none of these
abbrev pub EndsType : List TypeLexeme → Type 0
EndsType os = next_is (λ o. goes_type o.kind) os ≡ false
