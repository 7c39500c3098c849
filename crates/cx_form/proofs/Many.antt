-- Reading a list, one turn after the other.
use Rattle.std.proofs.Common.{◌≡◌, ℕ, zero, suc, ◌-◌, ◌<◌, Bool, true, false, List, [], ◌∷◌, ◌++◌, Some, None, refl, arith}
use Rattle.cx_form.specs.declared.tree.Word.{Word}
use Rattle.cx_form.specs.Reading.{Reader, many_from}

pub many_turn : {A : Type 0} (read : Reader A) (test : List Word → Bool) (n : ℕ) (all : List A) (ts rest : List Word) (x : A) → 0 < n → test ts ≡ true → read ts ≡ Some (x, rest)
    → many_from read test n all ts ≡ many_from read test (n - 1) (all ++ x ∷ []) rest
unfolding many_from
many_turn read test zero all ts rest x h on e = absurd (omega arith)
many_turn read test (suc n) all ts rest x h on e = let same : suc n - 1 ≡ n = omega arith in rw (on, e, same) refl

pub many_fails : {A : Type 0} (read : Reader A) (test : List Word → Bool) (n : ℕ) (all : List A) (ts : List Word) → 0 < n → test ts ≡ true → read ts ≡ None → many_from read test n all ts ≡ None
unfolding many_from
many_fails read test zero all ts h on e = absurd (omega arith)
many_fails read test (suc n) all ts h on e = rw (on, e) refl

pub many_stops : {A : Type 0} (read : Reader A) (test : List Word → Bool) (n : ℕ) (all : List A) (ts : List Word) → test ts ≡ false → many_from read test n all ts ≡ Some (all, ts)
unfolding many_from
many_stops read test zero all ts off = refl
many_stops read test (suc n) all ts off = rw off refl

pub many_ends : {A : Type 0} (read : Reader A) (test : List Word → Bool) (n : ℕ) (all : List A) (ts : List Word) → n ≡ 0 → many_from read test n all ts ≡ Some (all, ts)
unfolding many_from
many_ends read test n all ts e = rw e refl
