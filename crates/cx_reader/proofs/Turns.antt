-- What a turn of a list does, where one is left, and where none is.
use Rattle.std.proofs.Common.{◌≡◌, ℕ, zero, suc, ◌-◌, ◌<◌, Bool, cond, List, [], ◌∷◌, ◌++◌, length, refl, arith}
use Rattle.cx_reader.specs.Answers.{Answer, fault, ◌>>=◌, give, at_lexeme, many_at}

pub many_turn : {O A : Type 0} (test : O → Bool) (one : O → List O → Answer O A) (n : ℕ) (all : List A) (os : List O) → 0 < n
    → many_at test one n all os ≡ at_lexeme os (give all os) (λ o rest. cond (test o) (one o rest >>= λ x. many_at test one (n - 1) (all ++ x.tree ∷ []) x.rest) (give all os))
unfolding many_at
many_turn test one zero all os h = absurd (omega arith)
many_turn test one (suc n) all os h = let e : suc n - 1 ≡ n = omega arith in rw e refl

pub many_none : {O A : Type 0} (test : O → Bool) (one : O → List O → Answer O A) (n : ℕ) (all : List A) (os : List O) → n ≡ 0 → many_at test one n all os ≡ fault (length os)
unfolding many_at
many_none test one n all os h = rw h refl
