-- What a turn does, where one is left, and where none is.
use Rattle.std.proofs.Common.{◌≡◌, ℕ, zero, suc, ◌-◌, ◌<◌, false, List, Option, Some, None, refl, arith, cond}
use Rattle.std.proofs.lemmas.Bool.Decides.{nat_tests}
use Rattle.std.specs.Prelude.{nat_eq}
use Rattle.cx_ctree.specs.Exprs.{ExprTree}
use Rattle.cx_cword.specs.declared.lexeme.Lexeme.{Lexeme}
use Rattle.cx_cword.specs.Reading.{◌>>=◌, at_lexeme}
use Rattle.cx_cname.specs.Known.{Known}
use Rattle.cx_cword.specs.declared.mark.Mark.TheVariants as m
use Rattle.cx_cexpr.specs.Kinds.{op_at, head_of, suffix_of, leaf_of}
use Rattle.cx_cexpr.specs.Reading.{Got, enclosed_at, opens_type, leaf_by, suffixed_by, unary_by, size_of_type, size_of_value, cast_to, more_by, choice_by, cond_at, choice_at, binary_at, climb_at, more_at, cast_at, unary_at, size_at, suffix_at, primary_at}
use Rattle.cx_cword.specs.Marks.{fits}

-- an operand is read where the tree may have one more node
pub operand_left : {A : Type 0} (d : ℕ) (o : Option A) → 0 < d → cond (nat_eq d 0) None o ≡ o
operand_left d o h = let off : nat_eq d 0 ≡ false = grind (arith, nat_tests) in rw off refl

module _ (env : Known) where
  pub cond_turn : (n d : ℕ) (os : List Lexeme) → 0 < n → cond_at env n d os ≡ at_lexeme os None (λ o rest. binary_at env (n - 1) d 10 os >>= choice_at env (n - 1) d o.span.first)
  unfolding cond_at
  cond_turn zero d os h = absurd (omega arith)
  cond_turn (suc n) d os h = let e : suc n - 1 ≡ n = omega arith in rw e refl

  pub cond_none : (n d : ℕ) (os : List Lexeme) → n ≡ 0 → cond_at env n d os ≡ None
  unfolding cond_at
  cond_none n d os h = rw h refl

  pub choice_turn : (n d first : ℕ) (x : Got ExprTree) → 0 < n → choice_at env n d first x ≡ at_lexeme x.rest (Some x) (λ o rest. cond (fits m.Question o.kind) (choice_by (cond_at env (n - 1) (d - 1)) d first x rest) (Some x))
  unfolding cond_at
  choice_turn zero d first x h = absurd (omega arith)
  choice_turn (suc n) d first x h = let e : suc n - 1 ≡ n = omega arith in rw e refl

  pub choice_none : (n d first : ℕ) (x : Got ExprTree) → n ≡ 0 → choice_at env n d first x ≡ None
  unfolding cond_at
  choice_none n d first x h = rw h refl

  pub binary_turn : (n d level : ℕ) (os : List Lexeme) → 0 < n → binary_at env n d level os ≡ at_lexeme os None (λ o rest. cast_at env (n - 1) d os >>= climb_at env (n - 1) d level o.span.first)
  unfolding cond_at
  binary_turn zero d level os h = absurd (omega arith)
  binary_turn (suc n) d level os h = let e : suc n - 1 ≡ n = omega arith in rw e refl

  pub binary_none : (n d level : ℕ) (os : List Lexeme) → n ≡ 0 → binary_at env n d level os ≡ None
  unfolding cond_at
  binary_none n d level os h = rw h refl

  pub cast_turn : (n d : ℕ) (os : List Lexeme) → 0 < n → cast_at env n d os ≡ at_lexeme os None (λ o rest. cond (opens_type env os) (enclosed_at env (d - 1) os >>= λ t. cast_at env (n - 1) (d - 1) t.rest >>= cast_to d o.span.first t) (unary_at env (n - 1) d os))
  unfolding cond_at
  cast_turn zero d os h = absurd (omega arith)
  cast_turn (suc n) d os h = let e : suc n - 1 ≡ n = omega arith in rw e refl

  pub cast_none : (n d : ℕ) (os : List Lexeme) → n ≡ 0 → cast_at env n d os ≡ None
  unfolding cond_at
  cast_none n d os h = rw h refl

  pub unary_turn : (n d : ℕ) (os : List Lexeme) → 0 < n → unary_at env n d os ≡ at_lexeme os None (λ o rest. unary_by (cast_at env (n - 1) (d - 1)) (size_at env (n - 1) d o.span.first rest) (primary_at env (n - 1) d os >>= suffix_at env (n - 1) d o.span.first) d o rest (head_of o.kind))
  unfolding cond_at
  unary_turn zero d os h = absurd (omega arith)
  unary_turn (suc n) d os h = let e : suc n - 1 ≡ n = omega arith in rw e refl

  pub unary_none : (n d : ℕ) (os : List Lexeme) → n ≡ 0 → unary_at env n d os ≡ None
  unfolding cond_at
  unary_none n d os h = rw h refl

  pub size_turn : (n d first : ℕ) (os : List Lexeme) → 0 < n → size_at env n d first os ≡ cond (opens_type env os) (enclosed_at env (d - 1) os >>= size_of_type d first) (cond (nat_eq d 0) None (unary_at env (n - 1) (d - 1) os >>= size_of_value d first))
  unfolding cond_at
  size_turn zero d first os h = absurd (omega arith)
  size_turn (suc n) d first os h = let e : suc n - 1 ≡ n = omega arith in rw e refl

  pub size_none : (n d first : ℕ) (os : List Lexeme) → n ≡ 0 → size_at env n d first os ≡ None
  unfolding cond_at
  size_none n d first os h = rw h refl

  pub suffix_turn : (n d first : ℕ) (x : Got ExprTree) → 0 < n → suffix_at env n d first x ≡ at_lexeme x.rest (Some x) (λ o rest. suffixed_by (cond_at env (n - 1) (d - 1)) (suffix_at env (n - 1) d first) d first x rest (suffix_of o.kind))
  unfolding cond_at
  suffix_turn zero d first x h = absurd (omega arith)
  suffix_turn (suc n) d first x h = let e : suc n - 1 ≡ n = omega arith in rw e refl

  pub suffix_none : (n d first : ℕ) (x : Got ExprTree) → n ≡ 0 → suffix_at env n d first x ≡ None
  unfolding cond_at
  suffix_none n d first x h = rw h refl

  pub primary_turn : (n d : ℕ) (os : List Lexeme) → 0 < n → primary_at env n d os ≡ at_lexeme os None (λ o rest. leaf_by env (cond_at env (n - 1) d) d o rest (leaf_of o.kind))
  unfolding cond_at
  primary_turn zero d os h = absurd (omega arith)
  primary_turn (suc n) d os h = let e : suc n - 1 ≡ n = omega arith in rw e refl

  pub primary_none : (n d : ℕ) (os : List Lexeme) → n ≡ 0 → primary_at env n d os ≡ None
  unfolding cond_at
  primary_none n d os h = rw h refl

  pub climb_operand : (n d first : ℕ) (x : Got ExprTree) → 0 < n → climb_at env n d 0 first x ≡ Some x
  unfolding cond_at
  climb_operand zero d first x h = absurd (omega arith)
  climb_operand (suc n) d first x h = refl

  pub climb_turn : (n d level first : ℕ) (x : Got ExprTree) → 0 < n → 0 < level → climb_at env n d level first x ≡ (climb_at env (n - 1) d (level - 1) first x >>= more_at env (n - 1) d level first)
  unfolding cond_at
  climb_turn zero d level first x h k = absurd (omega arith)
  climb_turn (suc n) d zero first x h k = absurd (omega arith)
  climb_turn (suc n) d (suc level) first x h k = let e : suc n - 1 ≡ n = omega arith in let f : suc level - 1 ≡ level = omega arith in rw (e, f) refl

  pub climb_none : (n d level first : ℕ) (x : Got ExprTree) → n ≡ 0 → climb_at env n d level first x ≡ None
  unfolding cond_at
  climb_none n d level first x h = rw h refl

  pub more_turn : (n d level first : ℕ) (x : Got ExprTree) → 0 < n → 0 < level → more_at env n d level first x ≡ at_lexeme x.rest (Some x) (λ o rest. more_by (binary_at env (n - 1) (d - 1) (level - 1)) (more_at env (n - 1) d level first) d level first x rest (op_at o.kind))
  unfolding cond_at
  more_turn zero d level first x h k = absurd (omega arith)
  more_turn (suc n) d zero first x h k = absurd (omega arith)
  more_turn (suc n) d (suc level) first x h k = let e : suc n - 1 ≡ n = omega arith in let f : suc level - 1 ≡ level = omega arith in rw (e, f) refl

  pub more_none : (n d level first : ℕ) (x : Got ExprTree) → n ≡ 0 → more_at env n d level first x ≡ None
  unfolding cond_at
  more_none n d level first x h = rw h refl
