-- What the answer of a reader means that reads a front of the lexemes.
use Rattle.std.specs.Prelude.{◌≡◌, ℕ, List, [], ◌∷◌, ◌++◌, length, Result, Ok, Err}
use Rattle.cx_reader.specs.declared.stop.Stop.{Stop}
use Rattle.cx_reader.specs.declared.stop.Stop.TheVariants as stop
use Rattle.cx_reader.specs.declared.read.Read.{Read}
use Rattle.cx_reader.specs.Answers.{Got}
use Rattle.cx_reader.specs.Reading.{got}

-- lexemes that begin with these spell something
pub record Begins {O A : Type 0} (Spells : List O → A → Type 0) (os : List O) : Type 0 where
  pub more : List O
  pub tree : A
  pub spelled_so : Spells (os ++ more) tree

-- whatever follows ends what stands before it
abbrev pub AnyRest : {O : Type 0} → List O → Type 0
AnyRest os = Unit {0}

-- no front spells anything that is followed by what ends it
abbrev pub NoneIn : {O A : Type 0} → (List O → A → Type 0) → (List O → Type 0) → List O → Type 0
NoneIn Spells Ends os = (a rest : List _) (x : _) → os ≡ a ++ rest → Spells a x → Ends rest → ⊥

-- a front spells what was read, which is what each front spells that is followed by what ends it
pub record ReadIn {O A : Type 0} (Spells : List O → A → Type 0) (Ends : List O → Type 0) (whole : List O) (g : Got O A) : Type 0 where
  pub front : List O
  pub parts : whole ≡ front ++ g.rest
  pub spelled_so : Spells front g.tree
  pub alone : (a rest : List O) (x : A) → whole ≡ a ++ rest → Spells a x → Ends rest → record { tree = x; rest = rest } ≡ g

-- something begins with the lexemes before the last so many, but nothing is in any that begin with one more;
-- where none is left, nothing is in these
pub record FaultIn {O A : Type 0} (Spells : List O → A → Type 0) (Ends : List O → Type 0) (whole : List O) (left : ℕ) : Type 0 where
  pub front : List O
  pub others : List O
  pub parts : whole ≡ front ++ others
  pub counted : left ≡ length others
  pub goes_on : Begins Spells front
  pub breaks : (o : O) (rest more : List O) → others ≡ o ∷ rest → NoneIn Spells Ends (front ++ o ∷ more)
  pub stops : others ≡ [] → NoneIn Spells Ends whole

abbrev pub StopsIn : {O A : Type 0} → (List O → A → Type 0) → (List O → Type 0) → List O → Stop → Type 0
StopsIn Spells Ends whole stop.NoMemory = Unit {0}
StopsIn Spells Ends whole (stop.Unread left) = FaultIn Spells Ends whole left

-- what is read at the front, or where the fault is, unless memory ran out
abbrev pub ReadsFront : {O A B : Type 0} → (List O → A → Type 0) → (List O → Type 0) → (B → A) → List O → Result (Read O B) Stop → Type 0
ReadsFront Spells Ends view whole (Ok r) = ReadIn Spells Ends whole (got view r)
ReadsFront Spells Ends view whole (Err e) = StopsIn Spells Ends whole e
