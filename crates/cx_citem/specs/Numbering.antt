-- The numbering of the names of a text.
use Rattle.std.specs.Prelude.{ℕ, Bool, true, false, List, [], ◌∷◌, ◌++◌, if◌then◌else◌}
use Rattle.cx_base.specs.declared.token.Token.{Token}
use Rattle.cx_base.specs.declared.token.TokenKind.{TokenKind}
use Rattle.cx_base.specs.declared.token.TokenKind.TheVariants as t
use Rattle.cx_base.specs.Names.{numbered}
use Rattle.cx_cword.specs.Lexemes.{text_of}

abbrev pub is_name_token : TokenKind → Bool
is_name_token t.Name = true
is_name_token _ = false

abbrev pub name_texts : List ℕ → List Token → List (List ℕ)
name_texts bytes [] = []
name_texts bytes (o ∷ os) = (if is_name_token o.kind then text_of bytes o.span ∷ [] else []) ++ name_texts bytes os

abbrev pub number_all : List (List ℕ) → List (List ℕ) → List (List ℕ)
number_all names [] = names
number_all names (x ∷ xs) = number_all (numbered names x) xs

-- all names of the file, keywords included, by first sight
abbrev pub numbering : List ℕ → List Token → List (List ℕ)
numbering bytes tokens = number_all [] (name_texts bytes tokens)
