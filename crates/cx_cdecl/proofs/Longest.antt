-- The longest derived front, from what is read of the lexemes up to the first bracket that opens the 101st level.
use Rattle.std.proofs.Common.{◌≡◌, ℕ, zero, suc, ◌+◌, ◌-◌, ◌≤◌, Bool, true, false, List, [], ◌∷◌, ◌++◌, length, take, drop, Option, Some, None, refl, sym, ap, ◌∙◌, subst, arith, inl, inr, ◌⊎◌, length-append, length-drop, cond}
use Rattle.std.specs.Prelude.{nat_le}
use Rattle.std.proofs.lemmas.Bool.Decides.{nat_tests}
use Rattle.std.proofs.lemmas.List.{take-append-drop}
use Rattle.std.proofs.Math.Seq.{take-append_seam, take-length}
use Rattle.std.proofs.lemmas.Option.{none-some, same_Some}
use Rattle.cx_cword.specs.declared.lexeme.Lexeme.{Lexeme}
use Rattle.cx_cdecl.specs.Derived.{open_after, deepest, AreShallow}
use Rattle.cx_cdecl.specs.Reading.{shallow_at}

is_low : (n : ℕ) → n ≤ 100 → nat_le n 100 ≡ true
is_low n h = grind (arith, nat_tests)

low_is : (n : ℕ) → nat_le n 100 ≡ true → n ≤ 100
low_is n h = grind (arith, nat_tests)

le_of : (m n : ℕ) → nat_le m n ≡ true → m ≤ n
le_of m n e = grind (arith, nat_tests)

ge_of : (m n : ℕ) → nat_le m n ≡ false → n ≤ m
ge_of m n e = grind (arith, nat_tests)

-- the next level is no deeper than the deepest
next_low : (n : ℕ) (os : List Lexeme) → n ≤ deepest n os
next_low n [] = omega arith
next_low n (o ∷ os) = omega arith

-- a front that is shallow stands before the bracket
pub shallow_front : (n m : ℕ) (os : List Lexeme) → deepest n (take m os) ≤ 100 → m ≤ length os → (m ≤ length (shallow_at n os)) × (take m (shallow_at n os) ≡ take m os)
shallow_front n zero os h le = (omega arith, refl)
shallow_front n (suc m) [] h le = absurd (omega arith)
shallow_front n (suc m) (o ∷ os) h le =
    let below = next_low (open_after o.kind n) (take m os) in
    let low : nat_le (open_after o.kind n) 100 ≡ true = is_low (open_after o.kind n) (omega (arith, h, below)) in
    let rest = shallow_front (open_after o.kind n) m os (omega (arith, h)) (omega arith) in
    rw low (omega (arith, rest.0), ap (λ os. o ∷ os) rest.1)

-- before the bracket each front is shallow, and a front of all
pub shallow_low : (n m : ℕ) (os : List Lexeme) → n ≤ 100 → deepest n (take m (shallow_at n os)) ≤ 100
shallow_low n zero os h = h
shallow_low n (suc m) [] h = h
shallow_low n (suc m) (o ∷ os) h =
    let P : Bool → Type 0 = λ b. nat_le (open_after o.kind n) 100 ≡ b → deepest n (take (suc m) (cond b (o ∷ shallow_at (open_after o.kind n) os) [])) ≤ 100 in
    elim (nat_le (open_after o.kind n) 100) as P [
      | true ↦ λ e. let rest = shallow_low (open_after o.kind n) m os (low_is (open_after o.kind n) e) in omega (arith, rest)
      | false ↦ λ e. h
    ] refl

pub shallow_same : (n m : ℕ) (os : List Lexeme) → m ≤ length (shallow_at n os) → (m ≤ length os) × (take m os ≡ take m (shallow_at n os))
shallow_same n zero os h = (omega arith, refl)
shallow_same n (suc m) [] h = absurd (omega arith)
shallow_same n (suc m) (o ∷ os) h =
    let P : Bool → Type 0 = λ b. suc m ≤ length (cond b (o ∷ shallow_at (open_after o.kind n) os) []) → (suc m ≤ length (o ∷ os)) × (take (suc m) (o ∷ os) ≡ take (suc m) (cond b (o ∷ shallow_at (open_after o.kind n) os) [])) in
    elim (nat_le (open_after o.kind n) 100) as P [
      | true ↦ λ k. let rest = shallow_same (open_after o.kind n) m os (omega (arith, k)) in (omega (arith, rest.0), ap (λ os. o ∷ os) rest.1)
      | false ↦ λ k. absurd (omega (arith, k))
    ] h

-- what is read: a tree, and the lexemes after it
pub record Taken (A : Type 0) : Type 0 where
  pub tree : A
  pub rest : List Lexeme

pub record FrontIs {A : Type 0} (D : List Lexeme → A → Type 0) (os : List Lexeme) (g : Taken A) : Type 0 where
  pub front : List Lexeme
  pub parts : os ≡ front ++ g.rest
  pub so : D front g.tree

-- reading comes at least as far as a front that is derived, and gives its tree where it comes no further
pub record Goes {A : Type 0} (r : Option (Taken A)) (x : A) (rest : List Lexeme) : Type 0 where
  pub g : Taken A
  pub is : r ≡ Some g
  pub less : length g.rest ≤ length rest
  pub same : length g.rest ≡ length rest → x ≡ g.tree

pub record Longest {A : Type 0} (D : List Lexeme → A → Type 0) (os : List Lexeme) (n : ℕ) (x : A) : Type 0 where
  pub within : n ≤ length os
  pub so : D (take n os) x
  pub shallow : AreShallow (take n os)
  pub only : (y : A) → D (take n os) y → AreShallow (take n os) → y ≡ x
  pub longest : (m : ℕ) (y : A) → m ≤ length os → D (take m os) y → AreShallow (take m os) → m ≤ n

within : (m n : ℕ) → (m ≤ n) ⊎ (n ≤ m)
within m n = elim (nat_le m n) as (λ b. nat_le m n ≡ b → (m ≤ n) ⊎ (n ≤ m)) [ true ↦ λ e. inl (le_of m n e) | false ↦ λ e. inr (ge_of m n e) ] refl

take_past : {A : Type 0} (m : ℕ) (xs : List A) → length xs ≤ m → take m xs ≡ xs
take_past zero [] h = refl
take_past zero (x ∷ xs) h = absurd (omega arith)
take_past (suc m) [] h = refl
take_past (suc m) (x ∷ xs) h = ap (λ xs. x ∷ xs) (take_past m xs (omega arith))

module _ {A : Type 0} (D : List Lexeme → A → Type 0) (os : List Lexeme) (r : Option (Taken A)) where
  -- a derived front that is shallow is one of the lexemes before the bracket, and reading goes on from it
  from_front : ((a rest : List Lexeme) (x : A) → shallow_at 0 os ≡ a ++ rest → D a x → Goes r x rest) → (m : ℕ) (x : A) → m ≤ length os → D (take m os) x → AreShallow (take m os)
      → (m ≤ length (shallow_at 0 os)) × Goes r x (drop m (shallow_at 0 os))
  from_front goes m x le d s =
      let f = shallow_front 0 m os s le in
      (f.0, goes (take m (shallow_at 0 os)) (drop m (shallow_at 0 os)) x (sym (take-append-drop m (shallow_at 0 os))) (subst (λ (a : List Lexeme). D a x) (sym f.1) d))

  pub front_some : (g : Taken A) → r ≡ Some g → FrontIs D (shallow_at 0 os) g → ((a rest : List Lexeme) (x : A) → shallow_at 0 os ≡ a ++ rest → D a x → Goes r x rest) → Longest D os (length (shallow_at 0 os) - length g.rest) g.tree
  front_some g is f goes =
      let cut = shallow_at 0 os in
      let n = length cut - length g.rest in
      let long : length cut ≡ length f.front + length g.rest = ap length f.parts ∙ length-append f.front g.rest in
      let at : n ≡ length f.front = omega (arith, long) in
      let inside : n ≤ length cut = omega (arith, long) in
      let same = shallow_same 0 n os inside in
      let front : take n os ≡ f.front = same.1 ∙ ap (λ k. take k cut) at ∙ ap (take (length f.front)) f.parts ∙ take-append_seam f.front g.rest in
      let shallow : AreShallow (take n os) = subst (λ (a : List Lexeme). AreShallow a) (sym same.1) (shallow_low 0 n os (omega arith)) in
      record {
        within = same.0;
        so = subst (λ (a : List Lexeme). D a g.tree) (sym front) f.so;
        shallow = shallow;
        only = λ y d s.
            let h = from_front goes n y same.0 d s in
            let e : h.1.g ≡ g = same_Some h.1.g g (sym h.1.is ∙ is) in
            let far : length h.1.g.rest ≡ length (drop n cut) = ap (λ (t : Taken A). length t.rest) e ∙ omega (arith, long, length-drop n cut) in
            h.1.same far ∙ ap (λ (t : Taken A). t.tree) e;
        longest = λ m y le d s.
            let h = from_front goes m y le d s in
            let e : length h.1.g.rest ≡ length g.rest = ap (λ (t : Taken A). length t.rest) (same_Some h.1.g g (sym h.1.is ∙ is)) in
            omega (arith, long, h.0, h.1.less, e, length-drop m cut);
      }

  pub front_none : r ≡ None → ((a rest : List Lexeme) (x : A) → shallow_at 0 os ≡ a ++ rest → D a x → Goes r x rest) → (m : ℕ) (x : A) → D (take m os) x → AreShallow (take m os) → ⊥
  front_none none goes m x d s =
      elim (within m (length os)) [
        | inl le ↦ let h = from_front goes m x le d s in none-some h.1.g (sym none ∙ h.1.is)
        | inr ge ↦
            let e : take m os ≡ take (length os) os = take_past m os ge ∙ sym (take-length os) in
            let h = from_front goes (length os) x (omega arith) (subst (λ (a : List Lexeme). D a x) e d) (subst (λ (a : List Lexeme). AreShallow a) e s) in
            none-some h.1.g (sym none ∙ h.1.is)
      ]
