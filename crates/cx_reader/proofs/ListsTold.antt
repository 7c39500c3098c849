-- What is told of the readers of lists.
use Rattle.std.proofs.Common.{◌≡◌, ℕ, zero, suc, ◌<◌, Bool, true, false, cond, List, [], ◌∷◌, ◌++◌, length, refl, sym, ap, ◌∙◌, subst, append_assoc, append-nil, arith}
use Rattle.cx_reader.specs.Answers.{Answer, ◌>>=◌, give, next_at, many_at, behind_at, listed_at, enclosed_at}
use Rattle.cx_reader.specs.Lists.{Many, no_more, one_more, Behind, behind, Listed, listed, Enclosed, not_enclosed, enclosed}
use Rattle.cx_reader.proofs.Laws.{Viable, Good}
use Rattle.cx_reader.proofs.Tells.{viable, gives, maps, lengths, takes_turn, stays, none_left, thens, wants, may}

-- a list behind those that were read
pub record Grown {O A : Type 0} (Are : List O → List A → Type 0) (all : List A) (front : List O) (ys : List A) : Type 0 where
  pub more : List A
  pub parts : ys ≡ all ++ more
  pub are : Are front more

-- a turn of a reader of a list: of what is spelled from a lexeme on that goes on, put behind what was read; both
-- may hang on that
module _ {O A B : Type 0} (S : B → List O → A → Type 0) (G : B → List O → B → Type 0) (push : B → A → B) (none : (all : B) → G all [] all)
    (join : (all : B) (a b : List O) (x : A) (ys : B) → S all a x → G (push all x) b ys → G all (a ++ b) ys)
    (goes : B → O → Bool) (one : ℕ → O → List O → Answer O A) (q : B → ℕ → List O → Answer O B)
    (end : (all : B) (m : ℕ) → q all (suc m) [] ≡ give all [])
    (turn : (all : B) (m : ℕ) (o : O) (w : List O) → q all (suc m) (o ∷ w) ≡ cond (goes all o) (one m o w >>= λ x. q (push all x.tree) m x.rest) (give all (o ∷ w))) where
  ended : (all : B) (m : ℕ) → 0 < m → q all m [] ≡ give all []
  ended all zero some = absurd (omega (arith, some))
  ended all (suc m) some = end all m

  off_turn : (all : B) (o : O) → goes all o ≡ false → (m : ℕ) (w : List O) → 0 < m → q all m (o ∷ w) ≡ give all (o ∷ w)
  off_turn all o off zero w some = absurd (omega (arith, some))
  off_turn all o off (suc m) w some = turn all m o w ∙ ap (λ (b : Bool). cond b (one m o w >>= λ x. q (push all x.tree) m x.rest) (give all (o ∷ w))) off

  on_turn : (all : B) (o : O) → goes all o ≡ true → (m : ℕ) (w : List O) → q all (suc m) (o ∷ w) ≡ (one m o w >>= λ x. q (push all x.tree) m x.rest)
  on_turn all o so m w = turn all m o w ∙ ap (λ (b : Bool). cond b (one m o w >>= λ x. q (push all x.tree) m x.rest) (give all (o ∷ w))) so

  step_by : (n : ℕ) (all : B) (o : O) (rest : List O) (test : Bool) → goes all o ≡ test → length (o ∷ rest) < suc n
      → ((all : B) (o : O) (rest : List O) → goes all o ≡ true → length rest < n → Good (λ b x. S all (o ∷ b) x) (λ m w. one m o w) n rest)
      → ((all : B) (os : List O) → length os < n → Good (G all) (q all) n os) → Good (G all) (q all) (suc n) (o ∷ rest)
  step_by n all o rest true e less h again =
      takes_turn (G all) (q all) (λ m w. one m o w >>= λ x. q (push all x.tree) m x.rest) n o rest (on_turn all o e)
      (thens (λ b x. S all (o ∷ b) x) (λ b ys. G all (o ∷ b) ys) (λ m w. one m o w) (λ m x. q (push all x.tree) m x.rest) n rest (omega (arith, less)) (h all o rest e (omega (arith, less)))
      (λ a x s. viable _ [] (join all (o ∷ a) [] x (push all x) s (none (push all x))))
      (λ a rest x s less. maps (G (push all x)) (λ b ys. G all (o ∷ a ++ b) ys) (q (push all x)) n rest (λ b ys g. join all (o ∷ a) b x ys s g) (again (push all x) rest less)))
  step_by n all o rest false e less h again = stays (G all) (q all) (λ m w. give all w) (suc n) o rest (omega arith) (off_turn all o e) (gives (G all) all (suc n) (o ∷ rest) (none all))

  pub step : (n : ℕ) (all : B) (os : List O) → length os < suc n
      → ((all : B) (o : O) (rest : List O) → goes all o ≡ true → length rest < n → Good (λ b x. S all (o ∷ b) x) (λ m w. one m o w) n rest)
      → ((all : B) (os : List O) → length os < n → Good (G all) (q all) n os) → Good (G all) (q all) (suc n) os
  step n all [] less h again = none_left (G all) (q all) (λ m w. give all w) (suc n) (omega arith) (ended all) (gives (G all) all (suc n) [] (none all))
  step n all (o ∷ rest) less h again = step_by n all o rest (goes all o) refl less h again

-- lists that grow
module _ {O A : Type 0} (S : List O → A → Type 0) (Are : List O → List A → Type 0) (join : (a c : List O) (x : A) (xs : List A) → S a x → Are c xs → Are (a ++ c) (x ∷ xs)) where
  pub none_grown : Are [] [] → (all : List A) → Grown Are all [] all
  none_grown none all = record { more = []; parts = sym (append-nil all); are = none }

  pub join_grown : (all : List A) (a b : List O) (x : A) (ys : List A) → S a x → Grown Are (all ++ x ∷ []) b ys → Grown Are all (a ++ b) ys
  join_grown all a b x ys s g = record { more = x ∷ g.more; parts = g.parts ∙ append_assoc all (x ∷ []) g.more; are = join a b x g.more s g.are }

module _ {O A : Type 0} (test : O → Bool) (one : O → List O → Answer O A) where
  pub many_end : (all : List A) (m : ℕ) → many_at test one (suc m) all [] ≡ give all []
  unfolding many_at
  many_end all m = refl

  pub many_turn : (all : List A) (m : ℕ) (o : O) (w : List O) → many_at test one (suc m) all (o ∷ w) ≡ cond (test o) (one o w >>= λ x. many_at test one m (all ++ x.tree ∷ []) x.rest) (give all (o ∷ w))
  unfolding many_at
  many_turn all m o w = refl

module _ {O A : Type 0} (S : List O → A → Type 0) (test : O → Bool) (one : O → List O → Answer O A)
    (h : (n : ℕ) (o : O) (rest : List O) → test o ≡ true → length rest < n → Good (λ b x. S (o ∷ b) x) (λ m w. one o w) n rest) where
  pub many_good : (n : ℕ) (all : List A) (os : List O) → length os < n → Good (Grown (Many S) all) (λ m w. many_at test one m all w) n os
  many_good zero all os less = absurd (omega (arith, less))
  many_good (suc n) all os less = step (λ all. S) (Grown (Many S)) (λ all x. all ++ x ∷ []) (none_grown S (Many S) (λ a c x xs s ss. one_more s ss) no_more) (join_grown S (Many S) (λ a c x xs s ss. one_more s ss)) (λ all. test) (λ m. one) (λ all m w. many_at test one m all w) (many_end test one) (many_turn test one) n all os less (λ all. h n) (many_good n)

  -- with turns for the lexemes that are left
  pub many_length : (n : ℕ) (all : List A) (os : List O) → Good (Grown (Many S) all) (λ m w. many_at test one (suc (length w)) all w) n os
  many_length n all os = lengths (Grown (Many S) all) (λ m w. many_at test one m all w) n os (many_good (suc (length os)) all os (omega arith))

-- one or more with commas between them, and such a list between two lexemes
module _ {O A : Type 0} (S : List O → A → Type 0) (one : List O → Answer O A) (small : Viable S) (h : (n : ℕ) (os : List O) → length os < n → Good S (λ m w. one w) n os) (Comma : O → Type 0) (comma : O → Bool) (comma_is : (o : O) → comma o ≡ true → Comma o) where
  comma_good : (n : ℕ) (o : O) (rest : List O) → comma o ≡ true → length rest < n → Good (λ b x. Behind Comma S (o ∷ b) x) (λ m w. behind_at one o w) n rest
  comma_good n o rest so less = maps S (λ b x. Behind Comma S (o ∷ b) x) (λ m w. one w) n rest (λ b x s. behind o (comma_is o so) s) (h n rest less)

  grown_listed : (a b : List O) (x : A) (ys : List A) → S a x → Grown (Many (Behind Comma S)) (x ∷ []) b ys → Listed Comma S (a ++ b) ys
  grown_listed a b x ys s g = subst (Listed Comma S (a ++ b)) (sym g.parts) (listed s g.are)

  pub listed_good : (n : ℕ) (os : List O) → length os < n → Good (Listed Comma S) (λ m w. listed_at comma one w) n os
  listed_good n os less =
      thens S (Listed Comma S) (λ m w. one w) (λ m x. many_at comma (behind_at one) (suc (length x.rest)) (x.tree ∷ []) x.rest) n os less (h n os less)
      (λ a x s. viable _ [] (listed s no_more))
      (λ a rest x s less. maps (Grown (Many (Behind Comma S)) (x ∷ [])) (λ b ys. Listed Comma S (a ++ b) ys) (λ m w. many_at comma (behind_at one) (suc (length w)) (x ∷ []) w) n rest (λ b ys g. grown_listed a b x ys s g)
      (many_length (Behind Comma S) comma (behind_at one) comma_good n (x ∷ []) rest))

  abbrev pub small_list : Viable (Listed Comma S)
  small_list = record { more = small.more ++ []; tree = small.tree ∷ []; spelled_so = listed small.spelled_so no_more }

  module _ (Open Close : O → Type 0) (open_by close_by : O → Bool) (open_is : (o : O) → open_by o ≡ true → Open o) (close_is : (o : O) → close_by o ≡ true → Close o) (mark : O) (close_mark : Close mark) where
    pub enclosed_good : (n : ℕ) (os : List O) → length os < n → Good (Enclosed Open Comma Close S) (λ m w. enclosed_at open_by comma close_by one w) n os
    enclosed_good n os less =
        may (Enclosed Open Comma Close S) open_by [] not_enclosed (λ m o rest. listed_at comma one rest >>= λ xs. next_at close_by xs.rest (λ c rest. give xs.tree rest)) n os less
        (λ o rest so less.
        thens (Listed Comma S) (λ b xs. Enclosed Open Comma Close S (o ∷ b) xs) (λ m w. listed_at comma one w) (λ m xs. next_at close_by xs.rest (λ c rest. give xs.tree rest)) n rest less (listed_good n rest less)
        (λ a xs s. viable _ (mark ∷ []) (enclosed o mark (open_is o so) s close_mark))
        (λ a rest xs s less. wants (λ b ys. Enclosed Open Comma Close S (o ∷ a ++ b) ys) close_by mark (λ m c w. give xs w) n rest less (viable _ [] (enclosed o mark (open_is o so) s close_mark))
        (λ c rest f less. gives (λ b ys. Enclosed Open Comma Close S (o ∷ a ++ c ∷ b) ys) xs n rest (enclosed o c (open_is o so) s (close_is c f)))))
