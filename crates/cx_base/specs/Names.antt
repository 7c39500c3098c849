-- A numbering of texts by first sight: texts that are all different, where a text's number is its place.
use Rattle.std.specs.Prelude.{ℕ, List, [], ◌∷◌, ◌++◌, ◌≢◌, ◌<◌, ◌^◌, length, AllPairs, if◌then◌else◌}
use Rattle.std.specs.List.{list_any}
use Rattle.std.specs.Str.{bytes_eq}

-- texts that are a numbering
pub record Numbering (texts : List (List ℕ)) : Type 0 where
  pub different : AllPairs (λ a b. a ≢ b) texts
  pub few : length texts < 2 ^ 32

-- the texts, with this one at the end where it is not among them
abbrev pub numbered : List (List ℕ) → List ℕ → List (List ℕ)
numbered texts text = if list_any (bytes_eq text) texts then texts else texts ++ text ∷ []
