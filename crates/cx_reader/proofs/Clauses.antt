-- The clause of a reader of a front, from what is told of its reading function.
use Rattle.std.proofs.Common.{◌≡◌, ℕ, suc, ◌<◌, List, [], ◌∷◌, ◌++◌, length, Result, Ok, Err, sym, ap, ◌∙◌, subst, arith}
use Rattle.cx_reader.specs.declared.stop.Stop.{Stop}
use Rattle.cx_reader.specs.declared.stop.Stop.TheVariants as stop
use Rattle.cx_reader.specs.declared.read.Read.{Read}
use Rattle.cx_reader.specs.Answers.{Got, Answer, read, fault}
use Rattle.cx_reader.specs.Reading.{got, Gives}
use Rattle.cx_reader.specs.Parts.{ReadIn, FaultIn, ReadsFront}
use Rattle.cx_reader.proofs.Laws.{first_lexeme, Found, Stuck, Tells, Good, There}

got_is : {O A : Type 0} (x y : Got O A) → read x ≡ read y → x ≡ y
got_is {O} {A} x y e = ap got_of e
  where
    got_of : Answer O A → Got O A
    got_of (read g) = g
    got_of (fault c) = x

no_fault : {O A : Type 0} (g : Got O A) (c : ℕ) → read g ≡ fault c → ⊥
no_fault g c e = cc

module _ {O A : Type 0} (Spells : List O → A → Type 0) (Ends : List O → Type 0) (q : ℕ → List O → Answer O A) (there : There Spells Ends q) where
  read_in : (n : ℕ) (os : List O) (g : Got O A) → length os < n → q n os ≡ read g → Found Spells q os g → ReadIn Spells Ends os g
  read_in n os g less e t = record {
    front = t.front;
    parts = t.parts;
    spelled_so = t.spelled_so;
    alone = λ a rest x parts s ends. got_is (record { tree = x; rest = rest }) g (sym (there n a rest x s (subst (λ (v : List O). length v < n) parts less) ends) ∙ ap (q n) (sym parts) ∙ e);
  }

  fault_in : (n : ℕ) (os : List O) (c : ℕ) → length os < n → q n os ≡ fault c → Stuck Spells q os c → FaultIn Spells Ends os c
  fault_in n os c less e t = record {
    front = t.front;
    others = t.left;
    parts = t.parts;
    counted = t.counted;
    goes_on = record { more = t.goes_on.more; tree = t.goes_on.tree; spelled_so = t.goes_on.spelled_so };
    breaks = λ o rest more left a tail x parts s ends.
        let m = suc (length (t.front ++ o ∷ more)) in
        no_fault (record { tree = x; rest = tail }) (suc (length more)) (sym (there m a tail x s (subst (λ (v : List O). length v < m) parts (omega arith)) ends) ∙ ap (q m) (sym parts) ∙ t.again m (o ∷ more) (ap first_lexeme left) (omega arith));
    stops = λ left a tail x parts s ends.
        no_fault (record { tree = x; rest = tail }) c (sym (there n a tail x s (subst (λ (v : List O). length v < n) parts less) ends) ∙ ap (q n) (sym parts) ∙ e);
  }

  module _ (n : ℕ) (os : List O) (less : length os < n) (good : Good Spells q n os) where
    of_fault : (c : ℕ) → q n os ≡ fault c → FaultIn Spells Ends os c
    of_fault c e = fault_in n os c less e (subst (Tells Spells q os) e good)

    -- so the reader's clause follows from that on the reading function
    pub reads_front : {B : Type 0} (view : B → A) (r : Result (Read O B) Stop) → Gives view r (q n os) → ReadsFront Spells Ends view os r
    reads_front view (Ok x) e = read_in n os (got view x) less e (subst (Tells Spells q os) e good)
    reads_front view (Err (stop.Unread c)) e = of_fault c e
    reads_front view (Err stop.NoMemory) e = tt

-- what spells a tree spells no other, where it is read
pub one_tree : {O A : Type 0} (Spells : List O → A → Type 0) (Ends : List O → Type 0) (q : ℕ → List O → Answer O A) → There Spells Ends q → Ends [] → (a : List O) (x y : A) → Spells a x → Spells a y → x ≡ y
one_tree {O} {A} Spells Ends q there none a x y s t =
    let n = suc (length (a ++ [])) in
    ap (λ (g : Got O A). g.tree) (got_is (record { tree = x; rest = [] }) (record { tree = y; rest = [] }) (sym (there n a [] x s (omega arith) none) ∙ there n a [] y t (omega arith) none))
