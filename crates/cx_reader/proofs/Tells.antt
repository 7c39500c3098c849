-- How what is told of readers is put together.
use Rattle.std.proofs.Common.{◌≡◌, ℕ, zero, suc, ◌<◌, Bool, true, false, cond, List, [], ◌∷◌, ◌++◌, length, Some, refl, sym, ap, ◌∙◌, subst, append_assoc, length-append, arith, inl, inr, take, ◌-◌}
use Rattle.std.proofs.lemmas.Bool.{cases_Bool}
use Rattle.cx_reader.specs.Answers.{Got, Answer, read, fault, ◌>>=◌, give, front_of, next_at, maybe_at}
use Rattle.cx_reader.proofs.Laws.{first_lexeme, Viable, Found, Stuck, Tells, Good}

some_is : {A : Type 0} (x y : A) → Some x ≡ Some y → x ≡ y
some_is x y e = cc

-- ---- lists that begin with the same lexeme

same_first : {O : Type 0} → (o : O) (rest w : List O) → first_lexeme (o ∷ rest) ≡ first_lexeme w → (more : List O) × (w ≡ o ∷ more)
same_first {O} o rest [] e = absurd cc
same_first {O} o rest (x ∷ w) e = (w, ap (λ (v : O). v ∷ w) (some_is x o (sym e)))

no_first : {O : Type 0} → (w : List O) → first_lexeme {O = O} [] ≡ first_lexeme w → w ≡ []
no_first [] e = refl
no_first (x ∷ w) e = absurd cc

first_behind : {O : Type 0} → (whole front left other : List O) → whole ≡ front ++ left → first_lexeme left ≡ first_lexeme other → first_lexeme whole ≡ first_lexeme (front ++ other)
first_behind whole [] left other e f = ap first_lexeme e ∙ f
first_behind whole (o ∷ front) left other e f = ap first_lexeme e

-- a list with the first lexeme of this one, or its front with other lexemes behind it
begins_so : {O : Type 0} → (o : O) (rest front left other : List O) → o ∷ rest ≡ front ++ left → first_lexeme left ≡ first_lexeme other → (more : List O) × (front ++ other ≡ o ∷ more)
begins_so o rest front left other e f = same_first o rest (front ++ other) (first_behind (o ∷ rest) front left other e f)

nothing_so : {O : Type 0} → (front left other : List O) → [] ≡ front ++ left → first_lexeme left ≡ first_lexeme other → front ++ other ≡ []
nothing_so front left other e f = no_first (front ++ other) (first_behind [] front left other e f)

-- ---- readers of a front

-- what is spelled tells the tree
pub viable : {O A : Type 0} {S : List O → A → Type 0} (x : A) (more : List O) → S more x → Viable S
viable x more s = record { more = more; tree = x; spelled_so = s }

module _ {O A : Type 0} (S : List O → A → Type 0) where
  pub gives : (x : A) (n : ℕ) (os : List O) → S [] x → Good S (λ m w. give x w) n os
  gives x n os s = record { front = []; parts = refl; spelled_so = s; again = λ m other e less. refl }

  pub fails : (n : ℕ) (os : List O) → Viable S → Good S (λ m w. fault (length w)) n os
  fails n os v = record { front = []; left = os; parts = refl; counted = refl; goes_on = v; again = λ m other e less. refl }

  maps_by : (T : List O → A → Type 0) (q : ℕ → List O → Answer O A) (os : List O) (a : Answer O A) → ((b : List O) (x : A) → S b x → T b x) → Tells S q os a → Tells T q os a
  maps_by T q os (read g) f t = record { front = t.front; parts = t.parts; spelled_so = f t.front g.tree t.spelled_so; again = t.again }
  maps_by T q os (fault c) f t = record { front = t.front; left = t.left; parts = t.parts; counted = t.counted; goes_on = record { more = t.goes_on.more; tree = t.goes_on.tree; spelled_so = f (t.front ++ t.goes_on.more) t.goes_on.tree t.goes_on.spelled_so }; again = t.again }

  pub maps : (T : List O → A → Type 0) (q : ℕ → List O → Answer O A) (n : ℕ) (os : List O) → ((b : List O) (x : A) → S b x → T b x) → Good S q n os → Good T q n os
  maps T q n os f t = maps_by T q os (q n os) f t

  -- a reader that takes its number of turns from the lexemes
  lengths_by : (q : ℕ → List O → Answer O A) (os : List O) (a : Answer O A) → Tells S q os a → Tells S (λ m w. q (suc (length w)) w) os a
  lengths_by q os (read g) t = record { front = t.front; parts = t.parts; spelled_so = t.spelled_so; again = λ m other e less. t.again (suc (length (t.front ++ other))) other e (omega arith) }
  lengths_by q os (fault c) t = record { front = t.front; left = t.left; parts = t.parts; counted = t.counted; goes_on = t.goes_on; again = λ m other e less. t.again (suc (length (t.front ++ other))) other e (omega arith) }

  pub lengths : (q : ℕ → List O → Answer O A) (n : ℕ) (os : List O) → Good S q (suc (length os)) os → Good S (λ m w. q (suc (length w)) w) n os
  lengths q n os t = lengths_by q os (q (suc (length os)) os) t

  -- the reader goes on as another one behind the first lexeme
  takes_by : (q go : ℕ → List O → Answer O A) (o : O) (rest : List O) (a : Answer O A) → ((m : ℕ) (w : List O) → 0 < m → q m (o ∷ w) ≡ go m w) → Tells (λ b x. S (o ∷ b) x) go rest a → Tells S q (o ∷ rest) a
  takes_by q go o rest (read g) f t = record { front = o ∷ t.front; parts = ap (λ (v : List O). o ∷ v) t.parts; spelled_so = t.spelled_so; again = λ m other e less. f m (t.front ++ other) (omega (arith, less)) ∙ t.again m other e (omega (arith, less)) }
  takes_by q go o rest (fault c) f t = record { front = o ∷ t.front; left = t.left; parts = ap (λ (v : List O). o ∷ v) t.parts; counted = t.counted; goes_on = t.goes_on; again = λ m other e less. f m (t.front ++ other) (omega (arith, less)) ∙ t.again m other e (omega (arith, less)) }

  pub takes : (q go : ℕ → List O → Answer O A) (n : ℕ) (o : O) (rest : List O) → 0 < n → ((m : ℕ) (w : List O) → 0 < m → q m (o ∷ w) ≡ go m w) → Good (λ b x. S (o ∷ b) x) go n rest → Good S q n (o ∷ rest)
  takes q go n o rest some f t = subst (Tells S q (o ∷ rest)) (sym (f n rest some)) (takes_by q go o rest (go n rest) f t)

  -- the same with one turn less
  after_by : (q go : ℕ → List O → Answer O A) (o : O) (f : (m : ℕ) (w : List O) → q (suc m) (o ∷ w) ≡ go m w) (front other : List O) (a : Answer O A) (again : (m : ℕ) → length (front ++ other) < m → go m (front ++ other) ≡ a) (m : ℕ) → length (o ∷ front ++ other) < m → q m (o ∷ front ++ other) ≡ a
  after_by q go o f front other a again zero less = absurd (omega (arith, less))
  after_by q go o f front other a again (suc m) less = f m (front ++ other) ∙ again m (omega (arith, less))

  turns_by : (q go : ℕ → List O → Answer O A) (o : O) (rest : List O) (a : Answer O A) → ((m : ℕ) (w : List O) → q (suc m) (o ∷ w) ≡ go m w) → Tells (λ b x. S (o ∷ b) x) go rest a → Tells S q (o ∷ rest) a
  turns_by q go o rest (read g) f t = record { front = o ∷ t.front; parts = ap (λ (v : List O). o ∷ v) t.parts; spelled_so = t.spelled_so; again = λ m other e less. after_by q go o f t.front other (give g.tree other) (λ m less. t.again m other e less) m less }
  turns_by q go o rest (fault c) f t = record { front = o ∷ t.front; left = t.left; parts = ap (λ (v : List O). o ∷ v) t.parts; counted = t.counted; goes_on = t.goes_on; again = λ m other e less. after_by q go o f t.front other (fault (length other)) (λ m less. t.again m other e less) m less }

  pub takes_turn : (q go : ℕ → List O → Answer O A) (n : ℕ) (o : O) (rest : List O) → ((m : ℕ) (w : List O) → q (suc m) (o ∷ w) ≡ go m w) → Good (λ b x. S (o ∷ b) x) go n rest → Good S q (suc n) (o ∷ rest)
  takes_turn q go n o rest f t = subst (Tells S q (o ∷ rest)) (sym (f n rest)) (turns_by q go o rest (go n rest) f t)

  -- at this first lexeme the reader acts as another one
  stays_at : (q r : ℕ → List O → Answer O A) (o : O) (f : (m : ℕ) (w : List O) → 0 < m → q m (o ∷ w) ≡ r m (o ∷ w)) (m : ℕ) (v : List O) (b : (more : List O) × (v ≡ o ∷ more)) → length v < m → q m v ≡ r m v
  stays_at q r o f m v b less = ap (q m) b.1 ∙ f m b.0 (omega (arith, less)) ∙ sym (ap (r m) b.1)

  stays_by : (q r : ℕ → List O → Answer O A) (o : O) (rest : List O) (a : Answer O A) → ((m : ℕ) (w : List O) → 0 < m → q m (o ∷ w) ≡ r m (o ∷ w)) → Tells S r (o ∷ rest) a → Tells S q (o ∷ rest) a
  stays_by q r o rest (read g) f t = record { front = t.front; parts = t.parts; spelled_so = t.spelled_so; again = λ m other e less. stays_at q r o f m (t.front ++ other) (begins_so o rest t.front g.rest other t.parts e) less ∙ t.again m other e less }
  stays_by q r o rest (fault c) f t = record { front = t.front; left = t.left; parts = t.parts; counted = t.counted; goes_on = t.goes_on; again = λ m other e less. stays_at q r o f m (t.front ++ other) (begins_so o rest t.front t.left other t.parts e) less ∙ t.again m other e less }

  pub stays : (q r : ℕ → List O → Answer O A) (n : ℕ) (o : O) (rest : List O) → 0 < n → ((m : ℕ) (w : List O) → 0 < m → q m (o ∷ w) ≡ r m (o ∷ w)) → Good S r n (o ∷ rest) → Good S q n (o ∷ rest)
  stays q r n o rest some f t = subst (Tells S q (o ∷ rest)) (sym (f n rest some)) (stays_by q r o rest (r n (o ∷ rest)) f t)

  -- where no lexeme is left it acts as another one
  none_at : (q r : ℕ → List O → Answer O A) (f : (m : ℕ) → 0 < m → q m [] ≡ r m []) (m : ℕ) (v : List O) → v ≡ [] → length v < m → q m v ≡ r m v
  none_at q r f m v e less = ap (q m) e ∙ f m (omega (arith, less)) ∙ sym (ap (r m) e)

  none_by : (q r : ℕ → List O → Answer O A) (a : Answer O A) → ((m : ℕ) → 0 < m → q m [] ≡ r m []) → Tells S r [] a → Tells S q [] a
  none_by q r (read g) f t = record { front = t.front; parts = t.parts; spelled_so = t.spelled_so; again = λ m other e less. none_at q r f m (t.front ++ other) (nothing_so t.front g.rest other t.parts e) less ∙ t.again m other e less }
  none_by q r (fault c) f t = record { front = t.front; left = t.left; parts = t.parts; counted = t.counted; goes_on = t.goes_on; again = λ m other e less. none_at q r f m (t.front ++ other) (nothing_so t.front t.left other t.parts e) less ∙ t.again m other e less }

  pub none_left : (q r : ℕ → List O → Answer O A) (n : ℕ) → 0 < n → ((m : ℕ) → 0 < m → q m [] ≡ r m []) → Good S r n [] → Good S q n []
  none_left q r n some f t = subst (Tells S q []) (sym (f n some)) (none_by q r (r n []) f t)

-- ---- one reader behind another

abbrev pub turn_less : ℕ → ℕ
turn_less zero = zero
turn_less (suc n) = n

fewer : {O : Type 0} → (a v : List O) (m : ℕ) → 0 < length a → length (a ++ v) < m → length v < turn_less m
fewer a v zero some less = absurd (omega (arith, less))
fewer a v (suc m) some less = omega (arith, some, less, length-append a v)

-- the second one may have fewer turns
module _ {O A B : Type 0} (low : ℕ → ℕ) (S1 : List O → A → Type 0) (lows : (a v : List O) (x : A) (m : ℕ) → S1 a x → length (a ++ v) < m → length v < low m)
    (S : List O → B → Type 0) (r1 : ℕ → List O → Answer O A) (r2 : ℕ → Got O A → Answer O B) where
  abbrev both : ℕ → List O → Answer O B
  both m w = r1 m w >>= r2 (low m)

  abbrev second : A → ℕ → List O → Answer O B
  second x m w = r2 m (record { tree = x; rest = w })

  both_again : (m : ℕ) (a b other : List O) (x : A) (end : Answer O B) → r1 m (a ++ (b ++ other)) ≡ give x (b ++ other) → second x (low m) (b ++ other) ≡ end → both m ((a ++ b) ++ other) ≡ end
  both_again m a b other x end e f = ap (both m) (append_assoc a b other) ∙ ap (λ (r : Answer O A). r >>= r2 (low m)) e ∙ f

  less_so : (a b c : List O) (m : ℕ) → length ((a ++ b) ++ c) < m → length (a ++ (b ++ c)) < m
  less_so a b c m less = subst (λ (v : List O). length v < m) (append_assoc a b c) less

  first_found : (os : List O) (g : Got O A) (t : Found S1 r1 os g) (a : Answer O B) → Tells (λ b y. S (t.front ++ b) y) (second g.tree) g.rest a → Tells S both os a
  first_found os g t (read h) u = record {
    front = t.front ++ u.front;
    parts = t.parts ∙ ap (λ (v : List O). t.front ++ v) u.parts ∙ sym (append_assoc t.front u.front h.rest);
    spelled_so = u.spelled_so;
    again = λ m other e less. both_again m t.front u.front other g.tree (give h.tree other)
        (t.again m (u.front ++ other) (first_behind g.rest u.front h.rest other u.parts e) (less_so t.front u.front other m less))
        (u.again (low m) other e (lows t.front (u.front ++ other) g.tree m t.spelled_so (less_so t.front u.front other m less)));
  }
  first_found os g t (fault c) u = record {
    front = t.front ++ u.front;
    left = u.left;
    parts = t.parts ∙ ap (λ (v : List O). t.front ++ v) u.parts ∙ sym (append_assoc t.front u.front u.left);
    counted = u.counted;
    goes_on = record { more = u.goes_on.more; tree = u.goes_on.tree; spelled_so = subst (λ (v : List O). S v u.goes_on.tree) (sym (append_assoc t.front u.front u.goes_on.more)) u.goes_on.spelled_so };
    again = λ m other e less. both_again m t.front u.front other g.tree (fault (length other))
        (t.again m (u.front ++ other) (first_behind g.rest u.front u.left other u.parts e) (less_so t.front u.front other m less))
        (u.again (low m) other e (lows t.front (u.front ++ other) g.tree m t.spelled_so (less_so t.front u.front other m less)));
  }

  first_stuck : (os : List O) (c : ℕ) (t : Stuck S1 r1 os c) → ((a : List O) (x : A) → S1 a x → Viable (λ b y. S (a ++ b) y)) → Stuck S both os c
  first_stuck os c t finish =
      let v = t.goes_on in
      let u = finish (t.front ++ v.more) v.tree v.spelled_so in
      record {
        front = t.front;
        left = t.left;
        parts = t.parts;
        counted = t.counted;
        goes_on = record { more = v.more ++ u.more; tree = u.tree; spelled_so = subst (λ (w : List O). S w u.tree) (append_assoc t.front v.more u.more) u.spelled_so };
        again = λ m other e less. ap (λ (r : Answer O A). r >>= r2 (low m)) (t.again m other e less);
      }

  thens_by : (n : ℕ) (os : List O) (a1 : Answer O A) → length os < n → Tells S1 r1 os a1 → ((a : List O) (x : A) → S1 a x → Viable (λ b y. S (a ++ b) y))
      → ((a rest : List O) (x : A) → S1 a x → os ≡ a ++ rest → length rest < low n → Good (λ b y. S (a ++ b) y) (second x) (low n) rest) → Tells S both os (a1 >>= r2 (low n))
  thens_by n os (read g) less t finish next = first_found os g t (second g.tree (low n) g.rest) (next t.front g.rest g.tree t.spelled_so t.parts (lows t.front g.rest g.tree n t.spelled_so (subst (λ (v : List O). length v < n) t.parts less)))
  thens_by n os (fault c) less t finish next = first_stuck os c t finish

  pub thens_low : (n : ℕ) (os : List O) → length os < n → Good S1 r1 n os → ((a : List O) (x : A) → S1 a x → Viable (λ b y. S (a ++ b) y))
      → ((a rest : List O) (x : A) → S1 a x → os ≡ a ++ rest → length rest < low n → Good (λ b y. S (a ++ b) y) (second x) (low n) rest) → Good S both n os
  thens_low n os less t finish next = thens_by n os (r1 n os) less t finish next

module _ {O A B : Type 0} (S1 : List O → A → Type 0) (S : List O → B → Type 0) (r1 : ℕ → List O → Answer O A) (r2 : ℕ → Got O A → Answer O B) where
  abbrev then_at : A → ℕ → List O → Answer O B
  then_at x m w = r2 m (record { tree = x; rest = w })

  -- what follows a front is told of behind it, and each front can be gone on with
  pub thens : (n : ℕ) (os : List O) → length os < n → Good S1 r1 n os → ((a : List O) (x : A) → S1 a x → Viable (λ b y. S (a ++ b) y))
      → ((a rest : List O) (x : A) → S1 a x → length rest < n → Good (λ b y. S (a ++ b) y) (then_at x) n rest) → Good S (λ m w. r1 m w >>= r2 m) n os
  thens n os less t finish next = thens_low (λ m. m) S1 (λ a v x m s less. omega (arith, less, length-append a v)) S r1 r2 n os less t finish (λ a rest x s parts. next a rest x s)

  -- the same, where the front of these lexemes has to be known
  pub thens_front : (n : ℕ) (os : List O) → length os < n → Good S1 r1 n os → ((a : List O) (x : A) → S1 a x → Viable (λ b y. S (a ++ b) y))
      → ((a rest : List O) (x : A) → S1 a x → os ≡ a ++ rest → length rest < n → Good (λ b y. S (a ++ b) y) (then_at x) n rest) → Good S (λ m w. r1 m w >>= r2 m) n os
  thens_front n os less t finish next = thens_low (λ m. m) S1 (λ a v x m s less. omega (arith, less, length-append a v)) S r1 r2 n os less t finish next

  -- the same, where the front has a lexeme and the second reader has a turn less
  pub thens_turn : (n : ℕ) (os : List O) → ((a : List O) (x : A) → S1 a x → 0 < length a) → length os < suc n → Good S1 r1 (suc n) os → ((a : List O) (x : A) → S1 a x → Viable (λ b y. S (a ++ b) y))
      → ((a rest : List O) (x : A) → S1 a x → length rest < n → Good (λ b y. S (a ++ b) y) (then_at x) n rest) → Good S (λ m w. r1 m w >>= r2 (turn_less m)) (suc n) os
  thens_turn n os filled less t finish next = thens_low turn_less S1 (λ a v x m s less. fewer a v m (filled a x s) less) S r1 r2 (suc n) os less t finish (λ a rest x s parts. next a rest x s)

module _ {O A B : Type 0} (S1 : List O → A → Type 0) (S : List O → B → Type 0) (r1 : ℕ → List O → Answer O A) (f : A → B) where
  sends_by : (os : List O) (a : Answer O A) → ((b : List O) (x : A) → S1 b x → S b (f x)) → Tells S1 r1 os a → Tells S (λ m w. r1 m w >>= λ x. give (f x.tree) x.rest) os (a >>= λ x. give (f x.tree) x.rest)
  sends_by os (read g) h t = record { front = t.front; parts = t.parts; spelled_so = h t.front g.tree t.spelled_so; again = λ m other e less. ap (λ (r : Answer O A). r >>= λ x. give (f x.tree) x.rest) (t.again m other e less) }
  sends_by os (fault c) h t = record {
    front = t.front;
    left = t.left;
    parts = t.parts;
    counted = t.counted;
    goes_on = record { more = t.goes_on.more; tree = f t.goes_on.tree; spelled_so = h (t.front ++ t.goes_on.more) t.goes_on.tree t.goes_on.spelled_so };
    again = λ m other e less. ap (λ (r : Answer O A). r >>= λ x. give (f x.tree) x.rest) (t.again m other e less);
  }

  -- nothing is read behind it
  pub sends : (n : ℕ) (os : List O) → ((b : List O) (x : A) → S1 b x → S b (f x)) → Good S1 r1 n os → Good S (λ m w. r1 m w >>= λ x. give (f x.tree) x.rest) n os
  sends n os h t = sends_by os (r1 n os) h t

-- ---- a lexeme that has to come next

module _ {O A : Type 0} (S : List O → A → Type 0) (test : O → Bool) (mark : O) (go : ℕ → O → List O → Answer O A) where
  pub wants : (n : ℕ) (os : List O) → length os < n → Viable (λ b x. S (mark ∷ b) x) → ((o : O) (rest : List O) → test o ≡ true → length rest < n → Good (λ b x. S (o ∷ b) x) (λ m w. go m o w) n rest) → Good S (λ m w. next_at test w (go m)) n os
  wants n [] less v h = none_left S (λ m w. next_at test w (go m)) (λ m w. fault (length w)) n (omega (arith, less)) (λ m some. refl) (fails S n [] (record { more = mark ∷ v.more; tree = v.tree; spelled_so = v.spelled_so }))
  wants n (o ∷ rest) less v h = elim (cases_Bool (test o)) [
    | inl so ↦ takes S (λ m w. next_at test w (go m)) (λ m w. go m o w) n o rest (omega (arith, less)) (λ m w some. ap (λ (b : Bool). cond b (go m o w) (fault (suc (length w)))) so) (h o rest so (omega (arith, less)))
    | inr off ↦ stays S (λ m w. next_at test w (go m)) (λ m w. fault (length w)) n o rest (omega (arith, less)) (λ m w some. ap (λ (b : Bool). cond b (go m o w) (fault (suc (length w)))) off) (fails S n (o ∷ rest) (record { more = mark ∷ v.more; tree = v.tree; spelled_so = v.spelled_so }))
  ]

-- ---- what may be absent

module _ {O A : Type 0} (S : List O → A → Type 0) (test : O → Bool) (absent : A) (none : S [] absent) (go : ℕ → O → List O → Answer O A) where
  pub may : (n : ℕ) (os : List O) → length os < n → ((o : O) (rest : List O) → test o ≡ true → length rest < n → Good (λ b x. S (o ∷ b) x) (λ m w. go m o w) n rest) → Good S (λ m w. maybe_at test absent w (go m)) n os
  may n [] less h = none_left S (λ m w. maybe_at test absent w (go m)) (λ m w. give absent w) n (omega (arith, less)) (λ m some. refl) (gives S absent n [] none)
  may n (o ∷ rest) less h = elim (cases_Bool (test o)) [
    | inl so ↦ takes S (λ m w. maybe_at test absent w (go m)) (λ m w. go m o w) n o rest (omega (arith, less)) (λ m w some. ap (λ (b : Bool). cond b (go m o w) (give absent (o ∷ w))) so) (h o rest so (omega (arith, less)))
    | inr off ↦ stays S (λ m w. maybe_at test absent w (go m)) (λ m w. give absent w) n o rest (omega (arith, less)) (λ m w some. ap (λ (b : Bool). cond b (go m o w) (give absent (o ∷ w))) off) (gives S absent n (o ∷ rest) none)
  ]

-- ---- a choice by a test on the first lexeme

module _ {O A : Type 0} (S : List O → A → Type 0) (q : ℕ → List O → Answer O A) where
  -- with one lexeme it goes on behind it; without it, it acts as another reader
  pub chooses : (n : ℕ) (o : O) (rest : List O) (test : Bool) (go r : ℕ → List O → Answer O A) → 0 < n → ((m : ℕ) (w : List O) → 0 < m → q m (o ∷ w) ≡ cond test (go m w) (r m (o ∷ w)))
      → (test ≡ true → Good (λ b x. S (o ∷ b) x) go n rest) → (test ≡ false → Good S r n (o ∷ rest)) → Good S q n (o ∷ rest)
  chooses n o rest true go r some f hit miss = takes S q go n o rest some f (hit refl)
  chooses n o rest false go r some f hit miss = stays S q r n o rest some f (miss refl)

-- ---- the front that was read

take_front : {O : Type 0} (a b : List O) → take (length a) (a ++ b) ≡ a
take_front {O} [] b = refl
take_front {O} (o ∷ a) b = ap (λ (v : List O). o ∷ v) (take_front a b)

pub front_is : {O : Type 0} (whole a rest : List O) → whole ≡ a ++ rest → front_of whole rest ≡ a
front_is {O} whole a rest e =
    let n : length whole - length rest ≡ length a = omega (arith, ap length e, length-append a rest) in
    ap (λ (k : ℕ). take k whole) n ∙ ap (take (length a)) e ∙ take_front a rest

-- a tree made of what is read and of its front
module _ {O A B : Type 0} (S : List O → B → Type 0) (r : ℕ → List O → Answer O A) (f : List O → A → B) where
  abbrev made : List O → Got O A → Answer O B
  made w x = give (f (front_of w x.rest) x.tree) x.rest

  made_again : (a other : List O) (x : A) → made (a ++ other) (record { tree = x; rest = other }) ≡ give (f a x) other
  made_again a other x = ap (λ (v : List O). give (f v x) other) (front_is (a ++ other) a other refl)

  makes_by : (os : List O) (a : Answer O A) → Tells (λ b x. S b (f b x)) r os a → Tells S (λ m w. r m w >>= made w) os (a >>= made os)
  makes_by os (read g) t = record {
    front = t.front;
    parts = t.parts;
    spelled_so = subst (λ (v : List O). S t.front (f v g.tree)) (sym (front_is os t.front g.rest t.parts)) t.spelled_so;
    again = λ m other e less.
        ap (λ (x : Answer O A). x >>= made (t.front ++ other)) (t.again m other e less) ∙ made_again t.front other g.tree
        ∙ ap (λ (v : List O). give (f v g.tree) other) (sym (front_is os t.front g.rest t.parts));
  }
  makes_by os (fault c) t = record {
    front = t.front;
    left = t.left;
    parts = t.parts;
    counted = t.counted;
    goes_on = record { more = t.goes_on.more; tree = f (t.front ++ t.goes_on.more) t.goes_on.tree; spelled_so = t.goes_on.spelled_so };
    again = λ m other e less. ap (λ (x : Answer O A). x >>= made (t.front ++ other)) (t.again m other e less);
  }

  pub makes : (n : ℕ) (os : List O) → Good (λ b x. S b (f b x)) r n os → Good S (λ m w. r m w >>= made w) n os
  makes n os t = makes_by os (r n os) t
