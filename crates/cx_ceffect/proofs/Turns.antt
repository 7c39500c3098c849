-- What a turn does, where one is left, and where none is.
use Rattle.std.proofs.Common.{◌≡◌, ℕ, zero, suc, ◌-◌, ◌<◌, List, [], ◌∷◌, ◌++◌, Some, None, refl, arith}
use Rattle.cx_ctree.specs.Exprs.{ExprTree, EffectTree}
use Rattle.cx_cword.specs.declared.lexeme.Lexeme.{Lexeme}
use Rattle.cx_cword.specs.Reading.{◌>>=◌, at_lexeme}
use Rattle.cx_cname.specs.Known.{Known}
use Rattle.cx_cexpr.specs.Reading.{cond_at}
use Rattle.cx_ceffect.specs.Kinds.{separator_of}
use Rattle.cx_ceffect.specs.Reading.{argument_by, arguments_at, listed_by, effect_at, effects_at}

module _ (env : Known) where
  pub arguments_turn : (n d : ℕ) (all : List ExprTree) (os : List Lexeme) → 0 < n
      → arguments_at env n d all os ≡ (cond_at env (n - 1) d os >>= λ x. at_lexeme x.rest None (λ c rest. argument_by (arguments_at env (n - 1) d) (all ++ x.tree ∷ []) c rest (separator_of c.kind)))
  unfolding arguments_at
  arguments_turn zero d all os h = absurd (omega arith)
  arguments_turn (suc n) d all os h = let e : suc n - 1 ≡ n = omega arith in rw e refl

  pub arguments_none : (n d : ℕ) (all : List ExprTree) (os : List Lexeme) → n ≡ 0 → arguments_at env n d all os ≡ None
  unfolding arguments_at
  arguments_none n d all os h = rw h refl

  pub effects_turn : (n d : ℕ) (all : List EffectTree) (os : List Lexeme) → 0 < n
      → effects_at env n d all os ≡ (effect_at env (n - 1) d os >>= λ x. at_lexeme x.rest (Some (record { tree = all ++ x.tree ∷ []; past = x.past; rest = x.rest }))
      (λ c rest. listed_by (effects_at env (n - 1) d (all ++ x.tree ∷ [])) (record { tree = all ++ x.tree ∷ []; past = x.past; rest = x.rest }) rest (separator_of c.kind)))
  unfolding effects_at
  effects_turn zero d all os h = absurd (omega arith)
  effects_turn (suc n) d all os h = let e : suc n - 1 ≡ n = omega arith in rw e refl

  pub effects_none : (n d : ℕ) (all : List EffectTree) (os : List Lexeme) → n ≡ 0 → effects_at env n d all os ≡ None
  unfolding effects_at
  effects_none n d all os h = rw h refl
