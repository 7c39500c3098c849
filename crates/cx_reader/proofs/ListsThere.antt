-- What is spelled is read, where lexemes follow that end it: marks, what may be absent, and lists.
use Rattle.std.proofs.Common.{◌≡◌, ℕ, zero, suc, ◌<◌, Bool, true, false, cond, List, [], ◌∷◌, ◌++◌, length, refl, sym, ap, ◌∙◌, subst, append_assoc, append-nil, length-append, arith}
use Rattle.cx_reader.specs.Answers.{Got, Answer, fault, ◌>>=◌, give, front_of, next_is, next_at, maybe_at, many_at, behind_at, listed_at, enclosed_at}
use Rattle.cx_reader.specs.Lists.{Many, no_more, one_more, Behind, behind, Listed, listed, Enclosed, not_enclosed, enclosed}
use Rattle.cx_reader.proofs.Laws.{There}
use Rattle.cx_reader.proofs.Tells.{front_is}
use Rattle.cx_reader.proofs.ListsTold.{many_end, many_turn}

-- ---- a lexeme

pub next_there : {O A : Type 0} (test : O → Bool) (o : O) (rest : List O) (go : O → List O → Answer O A) → test o ≡ true → next_at test (o ∷ rest) go ≡ go o rest
next_there test o rest go e = ap (λ (b : Bool). cond b (go o rest) (fault (suc (length rest)))) e

pub maybe_there : {O A : Type 0} (test : O → Bool) (absent : A) (o : O) (rest : List O) (go : O → List O → Answer O A) → test o ≡ true → maybe_at test absent (o ∷ rest) go ≡ go o rest
maybe_there test absent o rest go e = ap (λ (b : Bool). cond b (go o rest) (give absent (o ∷ rest))) e

pub absent_there : {O A : Type 0} (test : O → Bool) (absent : A) (rest : List O) (go : O → List O → Answer O A) → next_is test rest ≡ false → maybe_at test absent rest go ≡ give absent rest
absent_there test absent [] go e = refl
absent_there test absent (o ∷ os) go e = ap (λ (b : Bool). cond b (go o os) (give absent (o ∷ os))) e

-- a tree made of what is read and of its front
pub made_there : {O A B : Type 0} (f : List O → A → B) (a rest : List O) (x : A) (r : Answer O A) → r ≡ give x rest → (r >>= λ x. give (f (front_of (a ++ rest) x.rest) x.tree) x.rest) ≡ give (f a x) rest
made_there {O} {A} {B} f a rest x r e = ap (λ (r : Answer O A). r >>= λ x. give (f (front_of (a ++ rest) x.rest) x.tree) x.rest) e ∙ ap (λ (v : List O). give (f v x) rest) (front_is (a ++ rest) a rest refl)

-- ---- lists

-- a lexeme that goes on, and what is read behind it
pub record Element {O A : Type 0} (test : O → Bool) (one : O → List O → Answer O A) (Ends : List O → Type 0) (a : List O) (x : A) : Type 0 where
  pub o : O
  pub more : List O
  pub parts : a ≡ o ∷ more
  pub goes_so : test o ≡ true
  pub there : (rest : List O) → Ends rest → one o (more ++ rest) ≡ give x rest

module _ {O A : Type 0} (S : List O → A → Type 0) (test : O → Bool) (one : O → List O → Answer O A) (Ends : List O → Type 0) (next : (o : O) (w : List O) → test o ≡ true → Ends (o ∷ w)) (element : (a : List O) (x : A) → S a x → Element test one Ends a x) where
  pub many_ends : {c : List O} {xs : List A} → Many S c xs → (rest : List O) → Ends rest → Ends (c ++ rest)
  many_ends no_more rest e = e
  many_ends (one_more {a = a} {c = c} {x = x} s ss) rest e = let h = element a x s in subst (λ (v : List O). Ends ((v ++ c) ++ rest)) (sym h.parts) (next h.o ((h.more ++ c) ++ rest) h.goes_so)

  none_there : (n : ℕ) (all : List A) (rest : List O) → length rest < n → next_is test rest ≡ false → many_at test one n all rest ≡ give all rest
  none_there zero all rest less off = absurd (omega (arith, less))
  none_there (suc n) all [] less off = many_end test one all n
  none_there (suc n) all (o ∷ os) less off = many_turn test one all n o os ∙ ap (λ (b : Bool). cond b (one o os >>= λ x. many_at test one n (all ++ x.tree ∷ []) x.rest) (give all (o ∷ os))) off

  one_there : (n : ℕ) (all : List A) (a w : List O) (x : A) → Element test one Ends a x → Ends w → many_at test one (suc n) all (a ++ w) ≡ many_at test one n (all ++ x ∷ []) w
  one_there n all a w x h e =
      let go : Got O A → Answer O (List A) = λ x. many_at test one n (all ++ x.tree ∷ []) x.rest in
      ap (λ (v : List O). many_at test one (suc n) all (v ++ w)) h.parts
      ∙ many_turn test one all n h.o (h.more ++ w)
      ∙ ap (λ (b : Bool). cond b (one h.o (h.more ++ w) >>= go) (give all (h.o ∷ h.more ++ w))) h.goes_so
      ∙ ap (λ (r : Answer O A). r >>= go) (h.there w e)

  element_long : (a : List O) (x : A) → Element test one Ends a x → 0 < length a
  element_long a x h = omega (arith, ap length h.parts)

  pub many_there : {front : List O} {xs : List A} → Many S front xs → (n : ℕ) (all : List A) (rest : List O) → length (front ++ rest) < n → Ends rest → next_is test rest ≡ false → many_at test one n all (front ++ rest) ≡ give (all ++ xs) rest
  many_there no_more n all rest less e off = none_there n all rest less off ∙ ap (λ (v : List A). give v rest) (sym (append-nil all))
  many_there (one_more {a = a} {c = c} {x = x} {xs = xs} s ss) zero all rest less e off = absurd (omega (arith, less))
  many_there (one_more {a = a} {c = c} {x = x} {xs = xs} s ss) (suc n) all rest less e off =
      let h = element a x s in
      ap (many_at test one (suc n) all) (append_assoc a c rest)
      ∙ one_there n all a (c ++ rest) x h (many_ends ss rest e)
      ∙ many_there ss n (all ++ x ∷ []) rest (omega (arith, less, ap length (append_assoc a c rest), length-append a (c ++ rest), element_long a x h)) e off
      ∙ ap (λ (v : List A). give v rest) (append_assoc all (x ∷ []) xs)

module _ {O A : Type 0} (S : List O → A → Type 0) (one : List O → Answer O A) (Ends : List O → Type 0) (there : There S Ends (λ m w. one w)) (Comma : O → Type 0) (comma : O → Bool) (comma_so : (o : O) → Comma o → comma o ≡ true) (next : (o : O) (w : List O) → comma o ≡ true → Ends (o ∷ w)) where
  comma_element : (a : List O) (x : A) → Behind Comma S a x → Element comma (behind_at one) Ends a x
  comma_element _ x (behind {a = a} o e s) = record { o = o; more = a; parts = refl; goes_so = comma_so o e; there = λ rest ends. there (suc (length (a ++ rest))) a rest x s (omega arith) ends }

  pub listed_there : {front : List O} {xs : List A} → Listed Comma S front xs → (rest : List O) → Ends rest → next_is comma rest ≡ false → listed_at comma one (front ++ rest) ≡ give xs rest
  listed_there (listed {a = a} {c = c} {x = x} {xs = xs} s ss) rest e off =
      let go : Got O A → Answer O (List A) = λ x. many_at comma (behind_at one) (suc (length x.rest)) (x.tree ∷ []) x.rest in
      ap (λ (v : List O). one v >>= go) (append_assoc a c rest)
      ∙ ap (λ (r : Answer O A). r >>= go) (there (suc (length (a ++ (c ++ rest)))) a (c ++ rest) x s (omega arith) (many_ends (Behind Comma S) comma (behind_at one) Ends next comma_element ss rest e))
      ∙ many_there (Behind Comma S) comma (behind_at one) Ends next comma_element ss (suc (length (c ++ rest))) (x ∷ []) rest (omega arith) e off

  module _ (Open Close : O → Type 0) (open_by close_by : O → Bool) (open_so : (o : O) → Open o → open_by o ≡ true) (close_so : (o : O) → Close o → close_by o ≡ true) (close_ends : (o : O) (w : List O) → Close o → Ends (o ∷ w)) (no_comma : (o : O) → Close o → comma o ≡ false) where
    pub enclosed_there : {front : List O} {xs : List A} → Enclosed Open Comma Close S front xs → (rest : List O) → next_is open_by rest ≡ false → enclosed_at open_by comma close_by one (front ++ rest) ≡ give xs rest
    enclosed_there not_enclosed rest off = absent_there open_by [] rest (λ o rest. listed_at comma one rest >>= λ xs. next_at close_by xs.rest (λ c rest. give xs.tree rest)) off
    enclosed_there (enclosed {a = a} {xs = xs} o c e s f) rest off =
        let go : Got O (List A) → Answer O (List A) = λ xs. next_at close_by xs.rest (λ c rest. give xs.tree rest) in
        maybe_there open_by [] o ((a ++ c ∷ []) ++ rest) (λ o rest. listed_at comma one rest >>= go) (open_so o e)
        ∙ ap (λ (v : List O). listed_at comma one v >>= go) (append_assoc a (c ∷ []) rest)
        ∙ ap (λ (r : Answer O (List A)). r >>= go) (listed_there s (c ∷ rest) (close_ends c rest f) (no_comma c f))
        ∙ next_there close_by c rest (λ c rest. give xs rest) (close_so c f)
