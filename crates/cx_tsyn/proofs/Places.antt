-- The first place in the list of words as plain data is that in the list of the words.
use Rattle.std.proofs.Common.{◌≡◌, refl, ℕ, Bool, List, [], ◌∷◌, map, position}
use Rattle.std.specs.List.{position_or_len}
use Rattle.std.proofs.lemmas.List.{length-map}
use Rattle.cx_tsyn.specs.Words.{word_tree, has_text}
use Rattle.cx_tsyn.specs.declared.word.Word as code

place_map : {A B : Type 0} (p : B → Bool) (f : A → B) (xs : List A) → position_or_len p (map f xs) ≡ position_or_len (λ x. p (f x)) xs
place_map p f [] = refl
place_map p f (x ∷ xs) = rw (place_map p f xs) refl

pub position_seen : (text : List ℕ) (words : List code.Word) → position (has_text text) (map word_tree words) ≡ position (λ w. has_text text (word_tree w)) words
position_seen text words = rw (place_map (has_text text) word_tree words, length-map) refl
