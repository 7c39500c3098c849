-- Cutting one token off the front of bytes.
use Rattle.std.specs.Prelude.{◌≡◌, ℕ, zero, suc, List, [], ◌∷◌, ◌++◌, take, drop, Option, Some, None, option_map}
use Rattle.std.specs.Borrow.{Bor}
use Rattle.cx_form.specs.declared.tree.Word.{Word}
use Rattle.cx_form.specs.Tokens.{token_len, word_at}

-- the first byte and those after it
abbrev pub SplitsBytes : Option (ℕ × Bor (List ℕ)) → List ℕ → Type 0
SplitsBytes None bs = bs ≡ []
SplitsBytes (Some p) bs = bs ≡ p.0 ∷ p.1.now

abbrev pub cut : ℕ → List ℕ → ℕ → Option (Word × List ℕ)
cut at bs zero = None
cut at bs (suc n) = Some (word_at at (take (suc n) bs), drop (suc n) bs)

-- the token at the front, which is no white space, and the bytes after it
unfoldable pub token_at : ℕ → List ℕ → Option (Word × List ℕ)
token_at at [] = None
token_at at (b ∷ bs) = cut at (b ∷ bs) (token_len b bs)

-- tokens behind others
abbrev pub behind : List Word → Option (List Word) → Option (List Word)
behind front found = option_map (λ ts. front ++ ts) found
