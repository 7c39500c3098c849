-- What a turn does, where one is left, and where none is.
use Rattle.std.proofs.Common.{◌≡◌, ℕ, zero, suc, ◌-◌, ◌<◌, List, [], ◌∷◌, ◌++◌, length, refl, arith}
use Rattle.cx_cname.specs.Known.{Known}
use Rattle.cx_tsyn.specs.Items.{TypeItemTree}
use Rattle.cx_tword.specs.declared.lexeme.TypeLexeme.{TypeLexeme}
use Rattle.cx_reader.specs.Answers.{fault, ◌>>=◌, give}
use Rattle.cx_titem.specs.Reading.{item_at, items_at}

pub items_more : (bytes : List ℕ) (env : Known) (n : ℕ) (all : List TypeItemTree) (os : List TypeLexeme) → 0 < n → 0 < length os → items_at bytes env n all os ≡ (item_at bytes env os >>= λ x. items_at bytes env (n - 1) (all ++ x.tree ∷ []) x.rest)
unfolding items_at
items_more bytes env zero all os h some = absurd (omega arith)
items_more bytes env (suc n) all [] h some = absurd (omega (arith, some))
items_more bytes env (suc n) all (o ∷ os) h some = let e : suc n - 1 ≡ n = omega arith in rw e refl

pub items_end : (bytes : List ℕ) (env : Known) (n : ℕ) (all : List TypeItemTree) (os : List TypeLexeme) → 0 < n → length os ≡ 0 → items_at bytes env n all os ≡ give all os
unfolding items_at
items_end bytes env zero all os h none = absurd (omega arith)
items_end bytes env (suc n) all [] h none = refl
items_end bytes env (suc n) all (o ∷ os) h none = absurd (omega (arith, none))

pub items_none : (bytes : List ℕ) (env : Known) (n : ℕ) (all : List TypeItemTree) (os : List TypeLexeme) → n ≡ 0 → items_at bytes env n all os ≡ fault (length os)
unfolding items_at
items_none bytes env n all os h = rw h refl
