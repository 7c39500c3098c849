-- How a text is made of white space and tokens. A token is its text with the place where it stands.
use Rattle.std.specs.Prelude.{ℕ, zero, suc, ◌+◌, Bool, false, ◌==◌, ◌&&◌, ◌||◌, if◌then◌else◌, nat_le, List, [], ◌∷◌, length, take, Option, Some, None, option_map}
use Rattle.std.specs.List.{prefix_len}
use Rattle.std.proofs.Math.Nat.{le-add_right}
use Rattle.cx_form.specs.declared.tree.Word.{Word}

-- white space: tab to carriage return, and space
unfoldable pub is_blank : ℕ → Bool
is_blank b = (nat_le 9 b && nat_le b 13) || (b == 32)

-- a letter, _ or $
unfoldable pub starts_name : ℕ → Bool
starts_name b = (nat_le 65 b && nat_le b 90) || (nat_le 97 b && nat_le b 122) || (b == 95) || (b == 36)

unfoldable pub is_digit : ℕ → Bool
is_digit b = nat_le 48 b && nat_le b 57

unfoldable pub goes_on : ℕ → Bool
goes_on b = starts_name b || is_digit b

-- a punctuator of one byte: { } ( ) ; : , * =
unfoldable pub is_mark : ℕ → Bool
is_mark b = (b == 123) || (b == 125) || (b == 40) || (b == 41) || (b == 59) || (b == 58) || (b == 44) || (b == 42) || (b == 61)

-- the byte at the front is this one
abbrev pub next_is : ℕ → List ℕ → Bool
next_is a [] = false
next_is a (b ∷ bs) = b == a

-- how many bytes the token has that begins with this byte before these: a Name is as long as it can be, and `->` has two; 0 where none begins
unfoldable pub token_len : ℕ → List ℕ → ℕ
token_len b bs = if starts_name b then suc (prefix_len goes_on bs) else (if is_mark b then 1 else (if (b == 45) && next_is 62 bs then 2 else 0))

-- the token with this text whose first byte stands at this place
abbrev pub word_at : ℕ → List ℕ → Word
word_at at text = record { span = record { first = at; past = at + length text; ordered = le-add_right at (length text) }; text = text }

-- a token of so many bytes in front of those that follow
abbrev pub then_token : ℕ → ℕ → List ℕ → (ℕ → Option (List Word)) → Option (List Word)
then_token zero at bs after = None
then_token (suc n) at bs after = option_map (λ ts. word_at at (take (suc n) bs) ∷ ts) (after n)

-- the tokens of the bytes from a place on, of which the first so many are in a token that began before; none where they are not made of white space and tokens
unfoldable pub tokens_from : ℕ → ℕ → List ℕ → Option (List Word)
tokens_from n at [] = Some []
tokens_from (suc n) at (b ∷ bs) = tokens_from n (suc at) bs
tokens_from zero at (b ∷ bs) = if is_blank b then tokens_from 0 (suc at) bs else then_token (token_len b bs) at (b ∷ bs) (λ n. tokens_from n (suc at) bs)

-- the tokens of a text
abbrev pub tokens_of : List ℕ → Option (List Word)
tokens_of bytes = tokens_from 0 0 bytes
