-- Lists of what lexemes spell.
use Rattle.std.specs.Prelude.{List, [], ◌∷◌, ◌++◌}

-- what is spelled, again and again
pub data Many {O A : Type 0} (Spells : List O → A → Type 0) : List O → List A → Type 0 where
  no_more : Many Spells [] []
  one_more : {a c : List O} {x : A} {xs : List A} → Spells a x → Many Spells c xs → Many Spells (a ++ c) (x ∷ xs)

-- behind such a lexeme
pub data Behind {O A : Type 0} (Mark : O → Type 0) (Spells : List O → A → Type 0) : List O → A → Type 0 where
  behind : {a : List O} {x : A} (o : O) → Mark o → Spells a x → Behind Mark Spells (o ∷ a) x

-- one or more, with such a lexeme between each two
pub data Listed {O A : Type 0} (Comma : O → Type 0) (Spells : List O → A → Type 0) : List O → List A → Type 0 where
  listed : {a c : List O} {x : A} {xs : List A} → Spells a x → Many (Behind Comma Spells) c xs → Listed Comma Spells (a ++ c) (x ∷ xs)

-- nothing, or one or more between two lexemes
pub data Enclosed {O A : Type 0} (Open Comma Close : O → Type 0) (Spells : List O → A → Type 0) : List O → List A → Type 0 where
  not_enclosed : Enclosed Open Comma Close Spells [] []
  enclosed : {a : List O} {xs : List A} (o c : O) → Open o → Listed Comma Spells a xs → Close c → Enclosed Open Comma Close Spells (o ∷ a ++ c ∷ []) xs
