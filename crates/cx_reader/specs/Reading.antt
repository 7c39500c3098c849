-- What a function of the code returned, seen as an answer.
use Rattle.std.specs.Prelude.{◌≡◌, List, [], ◌∷◌, Option, Some, None, Result, Ok, Err}
use Rattle.std.specs.Borrow.{Bor}
use Rattle.cx_reader.specs.declared.stop.Stop.{Stop}
use Rattle.cx_reader.specs.declared.stop.Stop.TheVariants as stop
use Rattle.cx_reader.specs.declared.read.Read.{Read}
use Rattle.cx_reader.specs.Answers.{Got, Answer, read, fault}

-- the first lexeme and those after it
abbrev pub Splits : {O : Type 0} → Option (O × Bor (List O)) → List O → Type 0
Splits None os = os ≡ []
Splits (Some p) os = os ≡ p.0 ∷ p.1.now

-- what was read, with the tree seen as plain data
abbrev pub got : {O A B : Type 0} → (B → A) → Read O B → Got O A
got view r = record { tree = view r.tree; rest = r.rest.now }

abbrev pub Stops : {O A : Type 0} → Stop → Answer O A → Type 0
Stops stop.NoMemory a = Unit {0}
Stops (stop.Unread left) a = a ≡ fault left

-- the answer, unless memory ran out
abbrev pub Gives : {O A B : Type 0} → (B → A) → Result (Read O B) Stop → Answer O A → Type 0
Gives view (Ok r) a = a ≡ read (got view r)
Gives view (Err e) a = Stops e a
