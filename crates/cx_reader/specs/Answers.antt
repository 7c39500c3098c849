-- What reading lexemes from left to right gives, with no way back.
use Rattle.std.specs.Prelude.{ℕ, zero, suc, ◌-◌, Bool, false, List, [], ◌∷◌, ◌++◌, length, take, if◌then◌else◌}

-- what was read, and the lexemes after it
pub record Got (O A : Type 0) : Type 0 where
  pub tree : A
  pub rest : List O

-- what was read, or a fault: so many lexemes are left from the first on that cannot go on
pub data Answer (O A : Type 0) : Type 0 where
  read : Got O A → Answer O A
  fault : (left : ℕ) → Answer O A

abbrev pub give : {O A : Type 0} → A → List O → Answer O A
give x os = read (record { tree = x; rest = os })

infixl 10 ◌>>=◌
abbrev pub ◌>>=◌ : {O A B : Type 0} → Answer O A → (Got O A → Answer O B) → Answer O B
read g >>= f = f g
fault left >>= f = fault left

-- the lexemes before the rest of the whole
abbrev pub front_of : {O : Type 0} → (whole rest : List O) → List O
front_of whole rest = take (length whole - length rest) whole

abbrev pub at_lexeme : {O A : Type 0} → List O → Answer O A → (O → List O → Answer O A) → Answer O A
at_lexeme [] end go = end
at_lexeme (o ∷ os) end go = go o os

-- whether a first lexeme passes the test
abbrev pub next_is : {O : Type 0} → (O → Bool) → List O → Bool
next_is test [] = false
next_is test (o ∷ os) = test o

-- a lexeme has to come next that passes the test
abbrev pub next_at : {O A : Type 0} → (O → Bool) → List O → (O → List O → Answer O A) → Answer O A
next_at test os go = at_lexeme os (fault (length os)) (λ o rest. if test o then go o rest else fault (length os))

-- where the next lexeme passes the test it goes on behind it, else nothing is read
abbrev pub maybe_at : {O A : Type 0} → (O → Bool) → A → List O → (O → List O → Answer O A) → Answer O A
maybe_at test absent os go = at_lexeme os (give absent os) (λ o rest. if test o then go o rest else give absent os)

-- what is read behind a lexeme that passes the test, again and again, after what was read; no more than so many times
unfoldable pub many_at : {O A : Type 0} → (O → Bool) → (O → List O → Answer O A) → ℕ → List A → List O → Answer O (List A)
many_at test one zero all os = fault (length os)
many_at test one (suc n) all os = at_lexeme os (give all os) (λ o rest. if test o then (one o rest >>= λ x. many_at test one n (all ++ x.tree ∷ []) x.rest) else give all os)

abbrev pub behind_at : {O A : Type 0} → (List O → Answer O A) → O → List O → Answer O A
behind_at one o rest = one rest

-- one or more, with a lexeme between each two that passes the test
abbrev pub listed_at : {O A : Type 0} → (O → Bool) → (List O → Answer O A) → List O → Answer O (List A)
listed_at test one os = one os >>= λ x. many_at test (behind_at one) (suc (length x.rest)) (x.tree ∷ []) x.rest

-- nothing, or one or more between two lexemes
abbrev pub enclosed_at : {O A : Type 0} → (opens comma closes : O → Bool) → (List O → Answer O A) → List O → Answer O (List A)
enclosed_at opens comma closes one os = maybe_at opens [] os (λ o rest. listed_at comma one rest >>= λ xs. next_at closes xs.rest (λ c rest. give xs.tree rest))
