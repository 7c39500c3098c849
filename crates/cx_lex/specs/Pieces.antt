-- A text cut into tokens and what is passed over.
use Rattle.std.specs.Prelude.{◌≡◌, ℕ, ◌+◌, true, false, ◌==◌, List, [], ◌∷◌, ◌++◌, length}
use Rattle.cx_base.specs.declared.token.Token.{Token}
use Rattle.cx_lex.specs.Bytes.{is_blank}

-- none of these bytes is a newline
abbrev pub IsOneLine : List ℕ → Type 0
IsOneLine [] = Unit {0}
IsOneLine (b ∷ bs) = ((b == 10) ≡ false) × IsOneLine bs

-- a byte of white space, a comment (C11 6.4.9) of either form, or a line from its # on
pub data IsPassed : List ℕ → Type 0 where
  blank : (b : ℕ) → is_blank b ≡ true → IsPassed (b ∷ [])
  comment : (text : List ℕ) → IsPassed (47 ∷ 42 ∷ text ++ 42 ∷ 47 ∷ [])
  remark : (text : List ℕ) → IsOneLine text → IsPassed (47 ∷ 47 ∷ text)
  directive : (text : List ℕ) → IsOneLine text → IsPassed (35 ∷ text)

-- from a place on the text is made of these tokens and of pieces that are passed over: each byte is in exactly one of them
pub data IsCut : ℕ → List ℕ → List Token → Type 0 where
  ended : (at : ℕ) → IsCut at [] []
  over : (at : ℕ) (piece : List ℕ) {rest : List ℕ} {ts : List Token} → IsPassed piece → IsCut (at + length piece) rest ts → IsCut at (piece ++ rest) ts
  kept : (at : ℕ) (piece : List ℕ) (t : Token) {rest : List ℕ} {ts : List Token} → t.span.first ≡ at → t.span.past ≡ at + length piece → IsCut (at + length piece) rest ts → IsCut at (piece ++ rest) (t ∷ ts)
