-- Where the fault is in lexemes that spell nothing as a whole.
use Rattle.std.specs.Prelude.{◌≡◌, ℕ, ◌-◌, max, List, [], ◌∷◌, ◌++◌, length, Option, slice_get}
use Rattle.cx_reader.specs.Parts.{Begins}

-- the lexemes spell this, and nothing else
pub record IsOnly {O A : Type 0} (Spells : List O → A → Type 0) (os : List O) (x : A) : Type 0 where
  pub spelled_so : Spells os x
  pub alone : (y : A) → Spells os y → y ≡ x

-- the first lexeme such that nothing begins with the lexemes up to and with it, or the last one where the
-- lexemes end too early
pub data FaultAt {O A : Type 0} (Spells : List O → A → Type 0) (os : List O) : O → Type 0 where
  breaks : (front rest : List O) (o : O) → os ≡ front ++ o ∷ rest → Begins Spells front → (Begins Spells (front ++ o ∷ []) → ⊥) → FaultAt Spells os o
  ends : (front : List O) (o : O) → os ≡ front ++ o ∷ [] → Begins Spells os → ((x : A) → Spells os x → ⊥) → FaultAt Spells os o

-- the lexeme with which so many are left, or the last one
abbrev pub lexeme_left : {O : Type 0} → List O → (left : ℕ) → Option O
lexeme_left os left = slice_get os (length os - max 1 left)
