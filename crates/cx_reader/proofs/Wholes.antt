-- What a reading function of a whole tells: the only tree, or where the fault is.
use Rattle.std.proofs.Common.{◌≡◌, ℕ, suc, ◌<◌, ◌-◌, List, [], ◌∷◌, ◌++◌, length, Some, refl, sym, ap, ◌∙◌, subst, append_assoc, append-nil, length-append, arith}
use Rattle.std.specs.Prelude.{max, slice_get}
use Rattle.cx_reader.specs.Answers.{Got, Answer, read, fault, give}
use Rattle.cx_reader.specs.Parts.{Begins}
use Rattle.cx_reader.specs.Faults.{IsOnly, FaultAt, breaks, ends, lexeme_left}
use Rattle.cx_reader.proofs.Laws.{first_lexeme, Found, Stuck, Tells, Good}

read_is : {O A : Type 0} (x y : A) (v w : List O) → give x v ≡ give y w → x ≡ y
read_is {O} {A} x y v w e = ap tree_of e
  where
    tree_of : Answer O A → A
    tree_of (read g) = g.tree
    tree_of (fault c) = x

counts : {O A : Type 0} (x : A) (v : List O) (c : ℕ) → give x v ≡ fault c → ⊥
counts x v c e = cc

last_of : {O : Type 0} (o : O) (os : List O) → (front : List O) × (t : O) × (o ∷ os ≡ front ++ t ∷ [])
last_of {O} o [] = ([], o, refl)
last_of {O} o (x ∷ os) = let h = last_of x os in (o ∷ h.0, h.1, ap (λ (v : List O). o ∷ v) h.2)

get_at : {O : Type 0} (front rest : List O) (o : O) → slice_get (front ++ o ∷ rest) (length front) ≡ Some o
get_at [] rest o = refl
get_at (x ∷ front) rest o = get_at front rest o

placed : {O : Type 0} (os front rest : List O) (o : O) (c : ℕ) → os ≡ front ++ o ∷ rest → max 1 c ≡ suc (length rest) → lexeme_left os c ≡ Some o
placed {O} os front rest o c e f =
    let k : length os - max 1 c ≡ length front = omega (arith, ap length e, length-append front (o ∷ rest), f) in
    ap (λ (m : ℕ). slice_get os m) k ∙ ap (λ (v : List O). slice_get v (length front)) e ∙ get_at front rest o

module _ {O A : Type 0} (S : List O → A → Type 0) (q : ℕ → List O → Answer O A) (good : (n : ℕ) (os : List O) → length os < n → Good S q n os) (there : (n : ℕ) (os : List O) (x : A) → S os x → length os < n → q n os ≡ give x [])
    (whole : (n : ℕ) (os : List O) (g : Got O A) → q n os ≡ read g → g.rest ≡ []) where
  -- what is read is the only tree
  pub whole_read : (n : ℕ) (os : List O) (g : Got O A) → length os < n → q n os ≡ read g → IsOnly S os g.tree
  whole_read n os g less e =
      let t : Found S q os g = subst (Tells S q os) e (good n os less) in
      let all : os ≡ t.front = t.parts ∙ ap (λ (v : List O). t.front ++ v) (whole n os g e) ∙ append-nil t.front in
      record {
        spelled_so = subst (λ (v : List O). S v g.tree) (sym all) t.spelled_so;
        alone = λ y s. read_is y g.tree [] g.rest (sym (there n os y s less) ∙ e);
      }

  -- nothing begins with the lexemes up to and with the one at fault
  nothing_so : (front : List O) (o : O) → ((m : ℕ) (more : List O) → length (front ++ o ∷ more) < m → q m (front ++ o ∷ more) ≡ fault (suc (length more))) → Begins S (front ++ o ∷ []) → ⊥
  nothing_so front o again b =
      let all = front ++ o ∷ b.more in
      let s : S all b.tree = subst (λ (v : List O). S v b.tree) (append_assoc front (o ∷ []) b.more) b.spelled_so in
      counts b.tree [] (suc (length b.more)) (sym (there (suc (length all)) all b.tree s (omega arith)) ∙ again (suc (length all)) b.more (omega arith))

  begun : (os : List O) (c : ℕ) (t : Stuck S q os c) → Begins S t.front
  begun os c t = record { more = t.goes_on.more; tree = t.goes_on.tree; spelled_so = t.goes_on.spelled_so }

  module _ (none : A) (nothing : S [] none) where
    breaks_at : (n : ℕ) (os : List O) (c : ℕ) (t : Stuck S q os c) (left : List O) → t.left ≡ left → length os < n → q n os ≡ fault c → (o : O) × (lexeme_left os c ≡ Some o) × FaultAt S os o
    breaks_at n os c t (o ∷ rest) e less f =
        let parts : os ≡ t.front ++ o ∷ rest = t.parts ∙ ap (λ (v : List O). t.front ++ v) e in
        let count : c ≡ suc (length rest) = t.counted ∙ ap length e in
        (o, placed os t.front rest o c parts (omega (arith, count)), breaks t.front rest o parts (begun os c t) (nothing_so t.front o (λ m more less. t.again m (o ∷ more) (ap first_lexeme e) less)))
    breaks_at n [] c t [] e less f = absurd (counts none [] c (sym (there n [] none nothing less) ∙ f))
    breaks_at n (x ∷ os) c t [] e less f =
        let all : x ∷ os ≡ t.front = t.parts ∙ ap (λ (v : List O). t.front ++ v) e ∙ append-nil t.front in
        let h = last_of x os in
        let count : c ≡ 0 = t.counted ∙ ap length e in
        (h.1, placed (x ∷ os) h.0 [] h.1 c h.2 (omega (arith, count)), ends h.0 h.1 h.2 (subst (Begins S) (sym all) (begun (x ∷ os) c t)) (λ y s. counts y [] c (sym (there n (x ∷ os) y s less) ∙ f)))

    -- the fault is at the lexeme with which so many are left
    pub whole_fault : (n : ℕ) (os : List O) (c : ℕ) → length os < n → q n os ≡ fault c → (o : O) × (lexeme_left os c ≡ Some o) × FaultAt S os o
    whole_fault n os c less e = let t : Stuck S q os c = subst (Tells S q os) e (good n os less) in breaks_at n os c t t.left refl less e
