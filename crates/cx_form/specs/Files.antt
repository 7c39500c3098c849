-- What a whole text is.
use Rattle.std.specs.Prelude.{◌≡◌, ℕ, List, [], Some}
use Rattle.cx_form.specs.declared.tree.Word.{Word}
use Rattle.cx_form.specs.declared.tree.CFile.{CFile}
use Rattle.cx_form.specs.declared.tree.TypeFile.{TypeFile}
use Rattle.cx_form.specs.Tokens.{tokens_of}
use Rattle.cx_form.specs.Grammar.{Piece, Spells, c_file_pieces, type_file_pieces}
use Rattle.cx_form.specs.Form.{IsCForm, IsTypeForm}

-- the bytes are white space and tokens, and the tokens are these pieces one by one
pub record IsTextOf (bytes : List ℕ) (pieces : List Piece) : Type 0 where
  pub tokens : List Word
  pub made : tokens_of bytes ≡ Some tokens
  pub spelled : Spells pieces tokens []

-- the bytes are the text of the C file, which keeps the rules
pub record CFileOf (bytes : List ℕ) (c : CFile) : Type 0 where
  pub text : IsTextOf bytes (c_file_pieces c)
  pub rules : IsCForm c

-- the bytes are the text of the type file, which keeps the rules beside the C file
pub record TypeFileOf (bytes : List ℕ) (c : CFile) (t : TypeFile) : Type 0 where
  pub text : IsTextOf bytes (type_file_pieces t)
  pub rules : IsTypeForm c t
