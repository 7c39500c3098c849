-- What a statement is read as where its parts are read, rule by rule.
use Rattle.std.proofs.Common.{◌≡◌, ℕ, ◌-◌, ◌≤◌, Bool, true, false, cond, ◌||◌, List, [], ◌∷◌, length, Option, Some, None, ap, ◌∙◌, arith}
use Rattle.std.proofs.lemmas.Bool.Decides.{nat_tests}
use Rattle.std.specs.Prelude.{nat_eq}
use Rattle.cx_base.proofs.General.{not_true}
use Rattle.cx_ctree.specs.Exprs.{ExprTree, RhsTree, EffectTree}
use Rattle.cx_ctree.specs.Stmts.{StmtTree, StmtKindTree, block, effect, if_alone, if_else, while, do_while, for, switch, return, StmtTrees, no_stmt, GroupTrees, no_group}
use Rattle.cx_ctree.specs.Path.{stmt_path}
use Rattle.cx_cword.specs.declared.word.Punctuator.TheVariants as p
use Rattle.cx_cword.specs.declared.word.Keyword.TheVariants as k
use Rattle.cx_cword.specs.declared.lexeme.Lexeme.{Lexeme}
use Rattle.cx_cword.specs.Reading.{Is, IsWord, ◌>>=◌, at_lexeme, first_of, past_of}
use Rattle.cx_cname.specs.Known.{Known}
use Rattle.cx_cexpr.specs.Reading as expr
use Rattle.cx_ceffect.specs.Reading.{rhs_at, effect_at}
use Rattle.cx_cdecl.proofs.Follows.{bind_goes}
use Rattle.cx_cword.specs.declared.mark.Mark.TheVariants as m
use Rattle.cx_cstmt.specs.declared.kinds.Head.{Head}
use Rattle.cx_cstmt.specs.Kinds.{head_of, label_of, is_label, begins_label, ends_group, begins_local}
use Rattle.cx_cstmt.specs.Statements as grammar
use Rattle.cx_cstmt.specs.Reading.{Got, listed, After, Header, Reader, made, spelled, next, push, push_group, enclosed_at, labels_at, local_at, header_at, else_after, if_after, while_after, do_ends, do_after, for_after, switch_ends, switch_after, block_ends, jump_at, return_at, effect_stmt_at, stmt_by, item_by, stmt_at, items_at, stmts_at, groups_at}
use Rattle.cx_cstmt.proofs.Turns.{stmt_turn, items_turn, stmts_turn, groups_turn}
use Rattle.cx_cstmt.proofs.Steps.{lacks}
use Rattle.cx_cstmt.proofs.Goes.{next_goes, next_other, stmt_got, built}
use Rattle.cx_cword.specs.Marks.{fits}

-- ---- readers of what stands in a statement

abbrev pub inner_at : ℕ → ℕ → Reader
inner_at n d env os = stmt_at env n d os

abbrev pub within_at : ℕ → ℕ → Known → List Lexeme → Option (Got StmtTrees)
within_at n d env os = items_at env n d no_stmt os

abbrev pub cases_at : ℕ → ℕ → Known → List Lexeme → Option (Got GroupTrees)
cases_at n d env os = groups_at env n d no_group os

not_zero : (d : ℕ) → 1 ≤ d → nat_eq d 0 ≡ false
not_zero d high = grind (arith, nat_tests)

pub stmt_head : (env : Known) (n d : ℕ) (o : Lexeme) (ts : List Lexeme) (head : Head) → 1 ≤ n → 1 ≤ d → head_of o.kind ≡ head
    → stmt_at env n d (o ∷ ts) ≡ stmt_by (inner_at (n - 1) (d - 1)) (within_at (n - 1) (d - 1)) (cases_at (n - 1) (d - 1)) env (n - 1) d o (o ∷ ts) ts head
stmt_head env n d o ts head some high is =
    let by : Head → Option (Got StmtTree) = stmt_by (inner_at (n - 1) (d - 1)) (within_at (n - 1) (d - 1)) (cases_at (n - 1) (d - 1)) env (n - 1) d o (o ∷ ts) ts in
    stmt_turn env n d (o ∷ ts) some ∙ ap (λ (b : Bool). cond b None (by (head_of o.kind))) (not_zero d high) ∙ ap by is

-- an expression in parentheses, before a rest
abbrev pub inside : ExprTree → ℕ → List Lexeme → expr.Got ExprTree
inside x past rest = record { tree = x; past = past; rest = rest }

-- a statement up to some place, before a rest
abbrev pub stmt_to : StmtTree → ℕ → Known → List Lexeme → Got StmtTree
stmt_to s past known rest = record { tree = s; known = known; past = past; rest = rest }

-- the front spells the statement from the first place to the last, and the statement is not too high
pub record Spans (front : List Lexeme) (first past d : ℕ) (kind : StmtKindTree) : Type 0 where
  pub begins : first_of front ≡ first
  pub ends : past_of front ≡ past
  pub low : stmt_path (grammar.spelled front kind) ≤ d

made_so : (d first past : ℕ) (front rest : List Lexeme) (kind : StmtKindTree) (known : Known) → Spans front first past d kind → made d (spelled first past kind) known past rest ≡ Some (stmt_got (grammar.spelled front kind) front known rest)
made_so d first past front rest kind known q = built d first past front rest kind known q.begins q.ends q.low

module _ (inner : Reader) (env known : Known) (n d first : ℕ) where
  if_begins : (os ts rest : List Lexeme) (x : ExprTree) (s : StmtTree) (at past : ℕ) → enclosed_at env n (d - 1) os ≡ Some (inside x at ts) → inner env ts ≡ Some (stmt_to s past known rest)
      → if_after inner env n d first os ≡ else_after inner d first x (stmt_to s past known rest)
  if_begins os ts rest x s at past read then =
      bind_goes (enclosed_at env n (d - 1) os) (λ x. inner env x.rest >>= else_after inner d first x.tree) (inside x at ts) read
      ∙ bind_goes (inner env ts) (else_after inner d first x) (stmt_to s past known rest) then

  pub if_goes : (os ts front rest : List Lexeme) (x : ExprTree) (s : StmtTree) (at past : ℕ) → enclosed_at env n (d - 1) os ≡ Some (inside x at ts) → inner env ts ≡ Some (stmt_to s past known rest) → lacks m.Else rest ≡ true → Spans front first past d (if_alone x s)
      → if_after inner env n d first os ≡ Some (stmt_got (grammar.spelled front (if_alone x s)) front known rest)
  if_goes os ts front rest x s at past read then off q =
      let a : Got StmtTree = stmt_to s past known rest in
      if_begins os ts rest x s at past read then
      ∙ next_other m.Else rest (made d (spelled first past (if_alone x s)) known past rest) (λ e rest. inner known rest >>= λ b. made d (spelled first b.past (if_else x s b.tree)) b.known b.past b.rest) off
      ∙ made_so d first past front rest (if_alone x s) known q

  pub else_goes : (os ts us front rest : List Lexeme) (e : Lexeme) (x : ExprTree) (s u : StmtTree) (at past end : ℕ) (later : Known) → enclosed_at env n (d - 1) os ≡ Some (inside x at ts) → inner env ts ≡ Some (stmt_to s past known (e ∷ us)) → IsWord k.Else e
      → inner known us ≡ Some (stmt_to u end later rest) → Spans front first end d (if_else x s u) → if_after inner env n d first os ≡ Some (stmt_got (grammar.spelled front (if_else x s u)) front later rest)
  else_goes os ts us front rest e x s u at past end later read then is also q =
      let last : Got StmtTree → Option (Got StmtTree) = λ b. made d (spelled first b.past (if_else x s b.tree)) b.known b.past b.rest in
      if_begins os ts (e ∷ us) x s at past read then
      ∙ next_goes m.Else e us (made d (spelled first past (if_alone x s)) known past (e ∷ us)) (λ e rest. inner known rest >>= last) is
      ∙ bind_goes (inner known us) last (stmt_to u end later rest) also
      ∙ made_so d first end front rest (if_else x s u) later q

  pub while_goes : (os ts front rest : List Lexeme) (x : ExprTree) (s : StmtTree) (at past : ℕ) → enclosed_at env n (d - 1) os ≡ Some (inside x at ts) → inner env ts ≡ Some (stmt_to s past known rest) → Spans front first past d (while x s)
      → while_after inner env n d first os ≡ Some (stmt_got (grammar.spelled front (while x s)) front known rest)
  while_goes os ts front rest x s at past read then q =
      let last : expr.Got ExprTree → Got StmtTree → Option (Got StmtTree) = λ x a. made d (spelled first a.past (while x.tree a.tree)) a.known a.past a.rest in
      bind_goes (enclosed_at env n (d - 1) os) (λ x. inner env x.rest >>= last x) (inside x at ts) read
      ∙ bind_goes (inner env ts) (last (inside x at ts)) (stmt_to s past known rest) then
      ∙ made_so d first past front rest (while x s) known q

  pub do_goes : (os us front rest : List Lexeme) (w e : Lexeme) (s : StmtTree) (x : ExprTree) (past at : ℕ) → inner env os ≡ Some (stmt_to s past known (w ∷ us)) → IsWord k.While w → enclosed_at known n (d - 1) us ≡ Some (inside x at (e ∷ rest)) → Is p.Semicolon e
      → Spans front first e.span.past d (do_while s x) → do_after inner env n d first os ≡ Some (stmt_got (grammar.spelled front (do_while s x)) front known rest)
  do_goes os us front rest w e s x past at read is test ends q =
      let a : Got StmtTree = stmt_to s past known (w ∷ us) in
      bind_goes (inner env os) (λ a. next m.While a.rest None (λ w rest. enclosed_at a.known n (d - 1) rest >>= do_ends d first a)) a read
      ∙ next_goes m.While w us None (λ w rest. enclosed_at known n (d - 1) rest >>= do_ends d first a) is
      ∙ bind_goes (enclosed_at known n (d - 1) us) (do_ends d first a) (inside x at (e ∷ rest)) test
      ∙ next_goes m.Semicolon e rest None (λ c after. made d (spelled first c.span.past (do_while s x)) known c.span.past after) ends
      ∙ made_so d first e.span.past front rest (do_while s x) known q

  pub for_goes : (os ts front rest : List Lexeme) (x : Header) (s : StmtTree) (past : ℕ) (later : Known) → header_at env n (d - 1) os ≡ Some (listed x known ts) → inner known ts ≡ Some (stmt_to s past later rest) → Spans front first past d (for x.init x.test x.steps s)
      → for_after inner env n d first os ≡ Some (stmt_got (grammar.spelled front (for x.init x.test x.steps s)) front later rest)
  for_goes os ts front rest x s past later read then q =
      let last : Got Header → Got StmtTree → Option (Got StmtTree) = λ h a. made d (spelled first a.past (for h.tree.init h.tree.test h.tree.steps a.tree)) a.known a.past a.rest in
      bind_goes (header_at env n (d - 1) os) (λ h. inner h.known h.rest >>= last h) (listed x known ts) read
      ∙ bind_goes (inner known ts) (last (listed x known ts)) (stmt_to s past later rest) then
      ∙ made_so d first past front rest (for x.init x.test x.steps s) later q

pub switch_goes : (groups : Known → List Lexeme → Option (Got GroupTrees)) (env known : Known) (n d first : ℕ) (os us front rest : List Lexeme) (o c : Lexeme) (x : ExprTree) (gs : GroupTrees) (at : ℕ) → enclosed_at env n (d - 1) os ≡ Some (inside x at (o ∷ us)) → Is p.OpenBrace o
    → groups env us ≡ Some (listed gs known (c ∷ rest)) → Is p.CloseBrace c → Spans front first c.span.past d (switch x gs) → switch_after groups env n d first os ≡ Some (stmt_got (grammar.spelled front (switch x gs)) front known rest)
switch_goes groups env known n d first os us front rest o c x gs at read opens inner shuts q =
    bind_goes (enclosed_at env n (d - 1) os) (λ x. next m.OpenBrace x.rest None (λ o rest. groups env rest >>= switch_ends d first x.tree)) (inside x at (o ∷ us)) read
    ∙ next_goes m.OpenBrace o us None (λ o rest. groups env rest >>= switch_ends d first x) opens
    ∙ bind_goes (groups env us) (switch_ends d first x) (listed gs known (c ∷ rest)) inner
    ∙ next_goes m.CloseBrace c rest None (λ c after. made d (spelled first c.span.past (switch x gs)) known c.span.past after) shuts
    ∙ made_so d first c.span.past front rest (switch x gs) known q

pub block_goes : (items : Known → List Lexeme → Option (Got StmtTrees)) (env known : Known) (d first : ℕ) (os front rest : List Lexeme) (c : Lexeme) (ss : StmtTrees) → items env os ≡ Some (listed ss known (c ∷ rest)) → Is p.CloseBrace c → Spans front first c.span.past d (block ss)
    → (items env os >>= block_ends d first) ≡ Some (stmt_got (grammar.spelled front (block ss)) front known rest)
block_goes items env known d first os front rest c ss inner shuts q =
    bind_goes (items env os) (block_ends d first) (listed ss known (c ∷ rest)) inner
    ∙ next_goes m.CloseBrace c rest None (λ c after. made d (spelled first c.span.past (block ss)) known c.span.past after) shuts
    ∙ made_so d first c.span.past front rest (block ss) known q

pub jump_goes : (env : Known) (d first : ℕ) (kind : StmtKindTree) (front rest : List Lexeme) (c : Lexeme) → Is p.Semicolon c → Spans front first c.span.past d kind → jump_at d first kind env (c ∷ rest) ≡ Some (stmt_got (grammar.spelled front kind) front env rest)
jump_goes env d first kind front rest c is q =
    next_goes m.Semicolon c rest None (λ c after. made d (spelled first c.span.past kind) env c.span.past after) is ∙ made_so d first c.span.past front rest kind env q

abbrev pub valued : Known → ℕ → ℕ → ℕ → List Lexeme → Option (Got StmtTree)
valued env n d first os = rhs_at env n (d - 1) os >>= λ r. jump_at d first (return (Some r.tree)) env r.rest

pub return_goes : (env : Known) (n d first : ℕ) (os front rest : List Lexeme) (c : Lexeme) (r : RhsTree) (past : ℕ) → lacks m.Semicolon os ≡ true → rhs_at env n (d - 1) os ≡ Some (record { tree = r; past = past; rest = c ∷ rest }) → Is p.Semicolon c
    → Spans front first c.span.past d (return (Some r)) → return_at env n d first os ≡ Some (stmt_got (grammar.spelled front (return (Some r))) front env rest)
return_goes env n d first os front rest c r past off read is q =
    next_other m.Semicolon os (valued env n d first os) (λ c after. made d (spelled first c.span.past (return None)) env c.span.past after) off
    ∙ bind_goes (rhs_at env n (d - 1) os) (λ r. jump_at d first (return (Some r.tree)) env r.rest) (record { tree = r; past = past; rest = c ∷ rest }) read
    ∙ jump_goes env d first (return (Some r)) front rest c is q

pub return_alone : (env : Known) (n d first : ℕ) (front rest : List Lexeme) (c : Lexeme) → Is p.Semicolon c → Spans front first c.span.past d (return None) → return_at env n d first (c ∷ rest) ≡ Some (stmt_got (grammar.spelled front (return None)) front env rest)
return_alone env n d first front rest c is q =
    next_goes m.Semicolon c rest (valued env n d first (c ∷ rest)) (λ c after. made d (spelled first c.span.past (return None)) env c.span.past after) is
    ∙ made_so d first c.span.past front rest (return None) env q

pub effect_goes : (env : Known) (n d first : ℕ) (os front rest : List Lexeme) (c : Lexeme) (x : EffectTree) (past : ℕ) → effect_at env n (d - 1) os ≡ Some (record { tree = x; past = past; rest = c ∷ rest }) → Is p.Semicolon c → Spans front first c.span.past d (effect x)
    → effect_stmt_at env n d first os ≡ Some (stmt_got (grammar.spelled front (effect x)) front env rest)
effect_goes env n d first os front rest c x past read is q =
    bind_goes (effect_at env n (d - 1) os) (λ e. jump_at d first (effect e.tree) env e.rest) (record { tree = x; past = past; rest = c ∷ rest }) read
    ∙ jump_goes env d first (effect x) front rest c is q

-- the first lexeme ends the statements of a group
abbrev pub ends_stmts : List Lexeme → Bool
ends_stmts [] = false
ends_stmts (o ∷ os) = ends_group o.kind

-- ---- the items of a block

module _ (env : Known) (n d : ℕ) where
  abbrev more_items : StmtTrees → List Lexeme → Option (Got StmtTrees)
  more_items all os = item_by (λ e ts. stmt_at e (n - 1) d ts) env (n - 1) d all os >>= λ x. items_at x.known (n - 1) d x.tree x.rest

  pub items_end : (all : StmtTrees) (c : Lexeme) (rest : List Lexeme) → 1 ≤ n → Is p.CloseBrace c → items_at env n d all (c ∷ rest) ≡ Some (listed all env (c ∷ rest))
  items_end all c rest some is = items_turn env n d all (c ∷ rest) some ∙ next_goes m.CloseBrace c rest (more_items all (c ∷ rest)) (λ _ _. Some (listed all env (c ∷ rest))) is

  items_more : (all : StmtTrees) (os : List Lexeme) (x : Got StmtTrees) → 1 ≤ n → lacks m.CloseBrace os ≡ true → item_by (λ e ts. stmt_at e (n - 1) d ts) env (n - 1) d all os ≡ Some x → items_at env n d all os ≡ items_at x.known (n - 1) d x.tree x.rest
  items_more all os x some off read =
      items_turn env n d all os some ∙ next_other m.CloseBrace os (more_items all os) (λ _ _. Some (listed all env os)) off
      ∙ bind_goes (item_by (λ e ts. stmt_at e (n - 1) d ts) env (n - 1) d all os) (λ x. items_at x.known (n - 1) d x.tree x.rest) x read

  abbrev item_with : StmtTrees → List Lexeme → Bool → Option (Got StmtTrees)
  item_with all os b = cond b (local_at env (n - 1) d all os) (stmt_at env (n - 1) d os >>= λ x. Some (listed (push all x.tree) x.known x.rest))

  pub items_local : (all : StmtTrees) (os : List Lexeme) (x : Got StmtTrees) → 1 ≤ n → lacks m.CloseBrace os ≡ true → begins_local env os ≡ true → local_at env (n - 1) d all os ≡ Some x → items_at env n d all os ≡ items_at x.known (n - 1) d x.tree x.rest
  items_local all os x some off e read = items_more all os x some off (ap (item_with all os) e ∙ read)

  pub items_stmt : (all : StmtTrees) (os : List Lexeme) (x : Got StmtTree) → 1 ≤ n → lacks m.CloseBrace os ≡ true → begins_local env os ≡ false → stmt_at env (n - 1) d os ≡ Some x
      → items_at env n d all os ≡ items_at x.known (n - 1) d (push all x.tree) x.rest
  items_stmt all os x some off e read =
      items_more all os (listed (push all x.tree) x.known x.rest) some off (ap (item_with all os) e ∙ bind_goes (stmt_at env (n - 1) d os) (λ x. Some (listed (push all x.tree) x.known x.rest)) x read)

  -- ---- the statements of a group

  abbrev more_stmts : StmtTrees → List Lexeme → Option (Got StmtTrees)
  more_stmts all os = stmt_at env (n - 1) d os >>= λ x. stmts_at x.known (n - 1) d (push all x.tree) x.rest

  ended : (all : StmtTrees) (os : List Lexeme) → ends_stmts os ≡ true → at_lexeme os None (λ o _. cond (ends_group o.kind) (Some (listed all env os)) (more_stmts all os)) ≡ Some (listed all env os)
  ended all [] is = absurd cc
  ended all (o ∷ os) is = ap (λ (b : Bool). cond b (Some (listed all env (o ∷ os))) (more_stmts all (o ∷ os))) is

  pub stmts_end : (all : StmtTrees) (os : List Lexeme) → 1 ≤ n → ends_stmts os ≡ true → stmts_at env n d all os ≡ Some (listed all env os)
  stmts_end all os some is = stmts_turn env n d all os some ∙ ended all os is

  nor_so : (a b : Bool) → a ≡ false → b ≡ false → (a || b) ≡ false
  nor_so true b e f = absurd cc
  nor_so false b e f = f

  stmts_on : (all : StmtTrees) (os : List Lexeme) → 1 ≤ length os → lacks m.CloseBrace os ≡ true → begins_label os ≡ false → at_lexeme os None (λ o _. cond (ends_group o.kind) (Some (listed all env os)) (more_stmts all os)) ≡ more_stmts all os
  stmts_on all [] filled off label = absurd (omega (arith, filled))
  stmts_on all (o ∷ os) filled off label = ap (λ (b : Bool). cond b (Some (listed all env (o ∷ os))) (more_stmts all (o ∷ os))) (nor_so (fits m.CloseBrace o.kind) (is_label (label_of o.kind)) (not_true (fits m.CloseBrace o.kind) off) label)

  pub stmts_more : (all : StmtTrees) (os : List Lexeme) (x : Got StmtTree) → 1 ≤ n → 1 ≤ length os → lacks m.CloseBrace os ≡ true → begins_label os ≡ false → stmt_at env (n - 1) d os ≡ Some x
      → stmts_at env n d all os ≡ stmts_at x.known (n - 1) d (push all x.tree) x.rest
  stmts_more all os x some filled off label read =
      stmts_turn env n d all os some ∙ stmts_on all os filled off label ∙ bind_goes (stmt_at env (n - 1) d os) (λ x. stmts_at x.known (n - 1) d (push all x.tree) x.rest) x read

  -- ---- the groups of a `switch`

  abbrev more_groups : GroupTrees → List Lexeme → Option (Got GroupTrees)
  more_groups all os = labels_at env (n - 1) d [] os >>= λ ls. stmts_at env (n - 1) d no_stmt ls.rest >>= λ ss. groups_at ss.known (n - 1) d (push_group all ls.tree ss.tree) ss.rest

  pub groups_end : (all : GroupTrees) (c : Lexeme) (rest : List Lexeme) → 1 ≤ n → Is p.CloseBrace c → groups_at env n d all (c ∷ rest) ≡ Some (listed all env (c ∷ rest))
  groups_end all c rest some is = groups_turn env n d all (c ∷ rest) some ∙ next_goes m.CloseBrace c rest (more_groups all (c ∷ rest)) (λ _ _. Some (listed all env (c ∷ rest))) is

  pub groups_more : (all : GroupTrees) (os inside rest : List Lexeme) (ls : List (Option ExprTree)) (ss : StmtTrees) (known : Known) → 1 ≤ n → lacks m.CloseBrace os ≡ true → labels_at env (n - 1) d [] os ≡ Some (record { tree = ls; rest = inside })
      → stmts_at env (n - 1) d no_stmt inside ≡ Some (listed ss known rest) → groups_at env n d all os ≡ groups_at known (n - 1) d (push_group all ls ss) rest
  groups_more all os inside rest ls ss known some off labels body =
      let last : After (List (Option ExprTree)) → Got StmtTrees → Option (Got GroupTrees) = λ ls ss. groups_at ss.known (n - 1) d (push_group all ls.tree ss.tree) ss.rest in
      let x : After (List (Option ExprTree)) = record { tree = ls; rest = inside } in
      groups_turn env n d all os some ∙ next_other m.CloseBrace os (more_groups all os) (λ _ _. Some (listed all env os)) off
      ∙ bind_goes (labels_at env (n - 1) d [] os) (λ ls. stmts_at env (n - 1) d no_stmt ls.rest >>= last ls) x labels
      ∙ bind_goes (stmts_at env (n - 1) d no_stmt inside) (last x) (listed ss known rest) body
