-- What a reading function tells. Its first argument is a number of turns.
use Rattle.std.proofs.Common.{◌≡◌, ℕ, ◌<◌, List, [], ◌∷◌, ◌++◌, length, Option, Some, None}
use Rattle.cx_reader.specs.Answers.{Got, Answer, read, fault}

abbrev pub first_lexeme : {O : Type 0} → List O → Option O
first_lexeme [] = None
first_lexeme (o ∷ os) = Some o

-- some lexemes spell something
pub record Viable {O A : Type 0} (Spells : List O → A → Type 0) : Type 0 where
  pub more : List O
  pub tree : A
  pub spelled_so : Spells more tree

-- a front spells what is read, and it is read whatever stands behind the next lexeme
pub record Found {O A : Type 0} (Spells : List O → A → Type 0) (q : ℕ → List O → Answer O A) (whole : List O) (g : Got O A) : Type 0 where
  pub front : List O
  pub parts : whole ≡ front ++ g.rest
  pub spelled_so : Spells front g.tree
  pub again : (m : ℕ) (other : List O) → first_lexeme g.rest ≡ first_lexeme other → length (front ++ other) < m → q m (front ++ other) ≡ read (record { tree = g.tree; rest = other })

-- a front can be gone on with, and the fault is behind it whatever stands behind the next lexeme
pub record Stuck {O A : Type 0} (Spells : List O → A → Type 0) (q : ℕ → List O → Answer O A) (whole : List O) (count : ℕ) : Type 0 where
  pub front : List O
  pub left : List O
  pub parts : whole ≡ front ++ left
  pub counted : count ≡ length left
  pub goes_on : Viable (λ b x. Spells (front ++ b) x)
  pub again : (m : ℕ) (other : List O) → first_lexeme left ≡ first_lexeme other → length (front ++ other) < m → q m (front ++ other) ≡ fault (length other)

abbrev pub Tells : {O A : Type 0} → (List O → A → Type 0) → (ℕ → List O → Answer O A) → List O → Answer O A → Type 0
Tells Spells q whole (read g) = Found Spells q whole g
Tells Spells q whole (fault count) = Stuck Spells q whole count

-- so does the reading function at so many turns
abbrev pub Good : {O A : Type 0} → (List O → A → Type 0) → (ℕ → List O → Answer O A) → ℕ → List O → Type 0
Good Spells q n os = Tells Spells q os (q n os)

-- what is spelled is read where what ends it follows
abbrev pub There : {O A : Type 0} → (List O → A → Type 0) → (List O → Type 0) → (ℕ → List O → Answer O A) → Type 0
There Spells Ends q = (m : ℕ) (a rest : List _) (x : _) → Spells a x → length (a ++ rest) < m → Ends rest → q m (a ++ rest) ≡ read (record { tree = x; rest = rest })
