-- What a turn does, where one is left, and where none is.
use Rattle.std.proofs.Common.{◌≡◌, ℕ, zero, suc, ◌-◌, ◌<◌, List, [], ◌∷◌, ◌++◌, Option, Some, None, refl, arith, cond, false}
use Rattle.std.specs.Prelude.{nat_eq}
use Rattle.std.proofs.lemmas.Bool.Decides.{nat_tests}
use Rattle.cx_ctree.specs.Types.{TypeTree}
use Rattle.cx_ctree.specs.Exprs.{ExprTree}
use Rattle.cx_ctree.specs.Stmts.{StmtTrees, GroupTrees, no_stmt, no_group, effect}
use Rattle.cx_cword.specs.declared.lexeme.Lexeme.{Lexeme}
use Rattle.cx_cword.specs.Reading.{◌>>=◌, at_lexeme}
use Rattle.cx_cname.specs.Known.{Known}
use Rattle.cx_ceffect.specs.Reading.{effect_at}
use Rattle.cx_cword.specs.declared.mark.Mark.{Mark}
use Rattle.cx_cword.specs.declared.mark.Mark.TheVariants as m
use Rattle.cx_cstmt.specs.Kinds.{head_of, begins_label, ends_group}
use Rattle.cx_cstmt.specs.Reading.{listed, made, spelled, push, push_group, next, variable_at, variables_at, label_at, labels_at, init_effects_at, stmt_by, item_by, stmt_at, items_at, stmts_at, groups_at}
use Rattle.cx_cword.specs.Marks.{Lacks}

pub next_lacks : {A : Type 0} (mark : Mark) (os : List Lexeme) (other : Option A) (go : Lexeme → List Lexeme → Option A) → Lacks mark os → next mark os other go ≡ other
next_lacks mark [] other go h = refl
next_lacks mark (o ∷ os) other go h = rw h refl

module _ (env : Known) where
  pub variables_turn : (n d : ℕ) (t : TypeTree) (all : StmtTrees) (os : List Lexeme) → 0 < n
      → variables_at env n d t all os ≡ (variable_at env (n - 1) d t os >>= λ s. next m.Comma s.rest (Some (listed (push all s.tree) env s.rest)) (λ o rest. variables_at env (n - 1) d t (push all s.tree) rest))
  unfolding variables_at
  variables_turn zero d t all os h = absurd (omega arith)
  variables_turn (suc n) d t all os h = let e : suc n - 1 ≡ n = omega arith in rw e refl

  pub variables_none : (n d : ℕ) (t : TypeTree) (all : StmtTrees) (os : List Lexeme) → n ≡ 0 → variables_at env n d t all os ≡ None
  unfolding variables_at
  variables_none n d t all os h = rw h refl

  pub labels_turn : (n d : ℕ) (all : List (Option ExprTree)) (os : List Lexeme) → 0 < n
      → labels_at env n d all os ≡ (label_at env (n - 1) d os >>= λ x. cond (begins_label x.rest) (labels_at env (n - 1) d (all ++ x.tree ∷ []) x.rest) (Some (record { tree = all ++ x.tree ∷ []; rest = x.rest })))
  unfolding labels_at
  labels_turn zero d all os h = absurd (omega arith)
  labels_turn (suc n) d all os h = let e : suc n - 1 ≡ n = omega arith in rw e refl

  pub labels_none : (n d : ℕ) (all : List (Option ExprTree)) (os : List Lexeme) → n ≡ 0 → labels_at env n d all os ≡ None
  unfolding labels_at
  labels_none n d all os h = rw h refl

  pub init_effects_turn : (n d : ℕ) (all : StmtTrees) (os : List Lexeme) → 0 < n
      → init_effects_at env n d all os ≡ at_lexeme os None (λ o _. effect_at env (n - 1) (d - 1) os >>= λ e. made d (spelled o.span.first e.past (effect e.tree)) env e.past e.rest >>= λ s.
      next m.Comma s.rest (Some (listed (push all s.tree) env s.rest)) (λ c rest. init_effects_at env (n - 1) d (push all s.tree) rest))
  unfolding init_effects_at
  init_effects_turn zero d all os h = absurd (omega arith)
  init_effects_turn (suc n) d all os h = let e : suc n - 1 ≡ n = omega arith in rw e refl

  pub init_effects_none : (n d : ℕ) (all : StmtTrees) (os : List Lexeme) → n ≡ 0 → init_effects_at env n d all os ≡ None
  unfolding init_effects_at
  init_effects_none n d all os h = rw h refl

  pub stmt_turn : (n d : ℕ) (os : List Lexeme) → 0 < n
      → stmt_at env n d os ≡ cond (nat_eq d 0) None (at_lexeme os None (λ o rest. stmt_by (λ e ts. stmt_at e (n - 1) (d - 1) ts) (λ e ts. items_at e (n - 1) (d - 1) no_stmt ts) (λ e ts. groups_at e (n - 1) (d - 1) no_group ts) env (n - 1) d o os rest (head_of o.kind)))
  unfolding stmt_at
  stmt_turn zero d os h = absurd (omega arith)
  stmt_turn (suc n) d os h = let e : suc n - 1 ≡ n = omega arith in rw e refl

  -- a statement is read where the tree may have one more node
  pub stmt_goes : (n d : ℕ) (os : List Lexeme) → 0 < n → 0 < d
      → stmt_at env n d os ≡ at_lexeme os None (λ o rest. stmt_by (λ e ts. stmt_at e (n - 1) (d - 1) ts) (λ e ts. items_at e (n - 1) (d - 1) no_stmt ts) (λ e ts. groups_at e (n - 1) (d - 1) no_group ts) env (n - 1) d o os rest (head_of o.kind))
  stmt_goes n d os h k = let e : nat_eq d 0 ≡ false = grind (arith, nat_tests) in rw (stmt_turn n d os h, e) refl

  pub stmt_stops : (n d : ℕ) (os : List Lexeme) → d ≡ 0 → stmt_at env n d os ≡ None
  unfolding stmt_at
  stmt_stops zero d os h = refl
  stmt_stops (suc n) d os h = rw h refl

  pub stmt_none : (n d : ℕ) (os : List Lexeme) → n ≡ 0 → stmt_at env n d os ≡ None
  unfolding stmt_at
  stmt_none n d os h = rw h refl

  pub items_turn : (n d : ℕ) (all : StmtTrees) (os : List Lexeme) → 0 < n
      → items_at env n d all os ≡ next m.CloseBrace os (item_by (λ e ts. stmt_at e (n - 1) d ts) env (n - 1) d all os >>= λ x. items_at x.known (n - 1) d x.tree x.rest) (λ _ _. Some (listed all env os))
  unfolding stmt_at
  items_turn zero d all os h = absurd (omega arith)
  items_turn (suc n) d all os h = let e : suc n - 1 ≡ n = omega arith in rw e refl

  pub items_none : (n d : ℕ) (all : StmtTrees) (os : List Lexeme) → n ≡ 0 → items_at env n d all os ≡ None
  unfolding stmt_at
  items_none n d all os h = rw h refl

  pub stmts_turn : (n d : ℕ) (all : StmtTrees) (os : List Lexeme) → 0 < n
      → stmts_at env n d all os ≡ at_lexeme os None (λ o _. cond (ends_group o.kind) (Some (listed all env os)) (stmt_at env (n - 1) d os >>= λ x. stmts_at x.known (n - 1) d (push all x.tree) x.rest))
  unfolding stmt_at
  stmts_turn zero d all os h = absurd (omega arith)
  stmts_turn (suc n) d all os h = let e : suc n - 1 ≡ n = omega arith in rw e refl

  pub stmts_none : (n d : ℕ) (all : StmtTrees) (os : List Lexeme) → n ≡ 0 → stmts_at env n d all os ≡ None
  unfolding stmt_at
  stmts_none n d all os h = rw h refl

  pub groups_turn : (n d : ℕ) (all : GroupTrees) (os : List Lexeme) → 0 < n
      → groups_at env n d all os ≡ next m.CloseBrace os (labels_at env (n - 1) d [] os >>= λ ls. stmts_at env (n - 1) d no_stmt ls.rest >>= λ ss. groups_at ss.known (n - 1) d (push_group all ls.tree ss.tree) ss.rest) (λ _ _. Some (listed all env os))
  unfolding stmt_at
  groups_turn zero d all os h = absurd (omega arith)
  groups_turn (suc n) d all os h = let e : suc n - 1 ≡ n = omega arith in rw e refl

  pub groups_none : (n d : ℕ) (all : GroupTrees) (os : List Lexeme) → n ≡ 0 → groups_at env n d all os ≡ None
  unfolding stmt_at
  groups_none n d all os h = rw h refl
