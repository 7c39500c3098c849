-- Reading statements from left to right. The first number bounds the calls, the second the heights of trees.
use Rattle.std.specs.Prelude.{◌≡◌, ℕ, zero, suc, ◌-◌, ◌≤◌, Bool, true, false, not, ◌&&◌, List, [], ◌∷◌, ◌++◌, map, Option, Some, None, is_some, option_map, Result, Ok, Err, nat_eq, nat_le, if◌then◌else◌}
use Rattle.std.specs.Option.{option_map_or}
use Rattle.cx_ctree.specs.Types.{TypeTree}
use Rattle.cx_ctree.specs.Exprs.{ExprTree, expr_tree, RhsTree, EffectTree, effect_tree}
use Rattle.cx_ctree.specs.Stmts.{StmtTree, stmt, StmtKindTree, block, empty, effect, declare, if_alone, if_else, while, do_while, for, switch, break, continue, return, StmtTrees, no_stmt, also_stmt, GroupTrees, no_group, also_group, stmt_tree, stmt_trees, group_trees}
use Rattle.cx_ctree.specs.Path.{greatest, expr_path, effect_path, stmt_path, stmts_path, groups_path}
use Rattle.cx_cword.specs.declared.lexeme.Lexeme.{Lexeme}
use Rattle.cx_cword.specs.declared.reading.Stop.{Stop}
use Rattle.cx_cword.specs.Reading.{span_between, ◌>>=◌, at_lexeme}
use Rattle.cx_cname.specs.Known.{Known, names_type}
use Rattle.cx_cconst.specs.Constants.{constant_in}
use Rattle.cx_cexpr.specs.Reading.{cond_at}
use Rattle.cx_cexpr.specs.Reading as expr
use Rattle.cx_ceffect.specs.Reading.{rhs_at, effect_at, effects_at}
use Rattle.cx_cdecl.specs.Declarations.{Beside}
use Rattle.cx_cdecl.specs.Reading.{Named, Specs, object_at, plain_specs_at}
use Rattle.cx_cdecl.specs.Reading as decl
use Rattle.cx_cword.specs.declared.mark.Mark.{Mark}
use Rattle.cx_cword.specs.declared.mark.Mark.TheVariants as m
use Rattle.cx_cstmt.specs.declared.kinds.Head.{Head}
use Rattle.cx_cstmt.specs.declared.kinds.Head.TheVariants as h
use Rattle.cx_cstmt.specs.declared.kinds.Label.{Label}
use Rattle.cx_cstmt.specs.declared.kinds.Label.TheVariants as label
use Rattle.cx_cstmt.specs.declared.make.ReadStmt.{ReadStmt}
use Rattle.cx_cstmt.specs.declared.make.Stmts.{Stmts}
use Rattle.cx_cstmt.specs.declared.make.ReadStmts.{ReadStmts}
use Rattle.cx_cstmt.specs.declared.make.Groups.{Groups}
use Rattle.cx_cstmt.specs.declared.make.ReadGroups.{ReadGroups}
use Rattle.cx_cstmt.specs.declared.make.ReadLabel.{ReadLabel}
use Rattle.cx_cstmt.specs.declared.make.ReadLabels.{ReadLabels}
use Rattle.cx_cstmt.specs.declared.make.ReadTest.{ReadTest}
use Rattle.cx_cstmt.specs.declared.make.ReadSteps.{ReadSteps}
use Rattle.cx_cstmt.specs.declared.make.ReadHeader.{ReadHeader}
use Rattle.cx_cstmt.specs.Kinds.{head_of, label_of, begins_label, ends_group, begins_local}
use Rattle.cx_cword.specs.Marks.{fits}

-- ---- what was read

-- what was read, the names known after it, the place past its last lexeme, and the lexemes after it
pub record Got (A : Type 0) : Type 0 where
  pub tree : A
  pub known : Known
  pub past : ℕ
  pub rest : List Lexeme

abbrev pub got : ReadStmt → Known → Got StmtTree
got r env = record { tree = stmt_tree r.tree; known = env; past = r.past; rest = r.rest.now }

-- lists, whose end is of no interest
abbrev pub listed : {A : Type 0} → A → Known → List Lexeme → Got A
listed x env rest = record { tree = x; known = env; past = 0; rest = rest }

abbrev pub got_stmts : ReadStmts → Known → Got StmtTrees
got_stmts r env = listed (stmt_trees r.stmts.all) env r.rest.now

abbrev pub got_groups : ReadGroups → Known → Got GroupTrees
got_groups r env = listed (group_trees r.groups.all) env r.rest.now

-- what was read that declares no name, and the lexemes after it
pub record After (A : Type 0) : Type 0 where
  pub tree : A
  pub rest : List Lexeme

abbrev pub got_label : ReadLabel → After (Option ExprTree)
got_label r = record { tree = option_map expr_tree r.label; rest = r.rest.now }

abbrev pub got_labels : ReadLabels → After (List (Option ExprTree))
got_labels r = record { tree = map (option_map expr_tree) r.labels; rest = r.rest.now }

abbrev pub got_test : ReadTest → After (Option ExprTree)
got_test r = record { tree = option_map expr_tree r.test; rest = r.rest.now }

abbrev pub got_steps : ReadSteps → After (List EffectTree)
got_steps r = record { tree = map effect_tree r.steps; rest = r.rest.now }

-- what stands between the parentheses of `for`
pub record Header : Type 0 where
  pub init : StmtTrees
  pub test : Option ExprTree
  pub steps : List EffectTree

abbrev pub got_header : ReadHeader → Known → Got Header
got_header r env = listed (record { init = stmt_trees r.init.all; test = option_map expr_tree r.test; steps = map effect_tree r.steps }) env r.rest.now

-- ---- heights

abbrev pub test_path : Option ExprTree → ℕ
test_path t = option_map_or expr_path t 0

abbrev pub Measured : ℕ → Result ReadStmt Stop → Type 0
Measured left (Ok r) = (r.height ≡ stmt_path (stmt_tree r.tree)) × (r.height ≤ left)
Measured left (Err e) = Unit {0}

abbrev pub LowStmts : ℕ → Stmts → Type 0
LowStmts left s = (s.height ≡ stmts_path (stmt_trees s.all)) × (s.height ≤ left)

abbrev pub LowGroups : ℕ → Groups → Type 0
LowGroups left g = (g.height ≡ groups_path (group_trees g.all)) × (g.height ≤ left)

abbrev pub MeasuredStmts : ℕ → Result ReadStmts Stop → Type 0
MeasuredStmts left (Ok r) = LowStmts left r.stmts
MeasuredStmts left (Err e) = Unit {0}

abbrev pub MeasuredGroups : ℕ → Result ReadGroups Stop → Type 0
MeasuredGroups left (Ok r) = LowGroups left r.groups
MeasuredGroups left (Err e) = Unit {0}

abbrev pub MeasuredLabel : ℕ → Result ReadLabel Stop → Type 0
MeasuredLabel left (Ok r) = (r.height ≡ test_path (option_map expr_tree r.label)) × (r.height ≤ left)
MeasuredLabel left (Err e) = Unit {0}

abbrev pub MeasuredLabels : ℕ → Result ReadLabels Stop → Type 0
MeasuredLabels left (Ok r) = (r.height ≡ greatest test_path (map (option_map expr_tree) r.labels)) × (r.height ≤ left)
MeasuredLabels left (Err e) = Unit {0}

abbrev pub MeasuredTest : ℕ → Result ReadTest Stop → Type 0
MeasuredTest left (Ok r) = (r.height ≡ test_path (option_map expr_tree r.test)) × (r.height ≤ left)
MeasuredTest left (Err e) = Unit {0}

abbrev pub MeasuredSteps : ℕ → Result ReadSteps Stop → Type 0
MeasuredSteps left (Ok r) = (r.height ≡ greatest effect_path (map effect_tree r.steps)) × (r.height ≤ left)
MeasuredSteps left (Err e) = Unit {0}

abbrev pub MeasuredHeader : ℕ → Result ReadHeader Stop → Type 0
MeasuredHeader left (Ok r) = LowStmts left r.init × (r.test_height ≡ test_path (option_map expr_tree r.test)) × (r.test_height ≤ left) × (r.steps_height ≡ greatest effect_path (map effect_tree r.steps)) × (r.steps_height ≤ left)
MeasuredHeader left (Err e) = Unit {0}

-- ---- steps

-- a statement from one place up to another
abbrev pub spelled : ℕ → ℕ → StmtKindTree → StmtTree
spelled first past kind = stmt (span_between first past) kind

-- the statement, where it is not too high
unfoldable pub made : ℕ → StmtTree → Known → ℕ → List Lexeme → Option (Got StmtTree)
made d x env past rest = if nat_le (stmt_path x) d then Some (record { tree = x; known = env; past = past; rest = rest }) else None

-- a statement of this kind, which ends where the statement in it ends
abbrev pub ended : ℕ → ℕ → StmtKindTree → Got StmtTree → Option (Got StmtTree)
ended d first kind a = made d (spelled first a.past kind) a.known a.past a.rest

abbrev pub push : StmtTrees → StmtTree → StmtTrees
push no_stmt s = also_stmt s no_stmt
push (also_stmt x ss) s = also_stmt x (push ss s)

abbrev pub push_group : GroupTrees → List (Option ExprTree) → StmtTrees → GroupTrees
push_group no_group ls ss = also_group ls ss no_group
push_group (also_group ms us gs) ls ss = also_group ms us (push_group gs ls ss)

-- the mark, and then; or without it
abbrev pub next : {A : Type 0} → Mark → List Lexeme → Option A → (Lexeme → List Lexeme → Option A) → Option A
next mark os other go = at_lexeme os other (λ o rest. if fits mark o.kind then go o rest else other)

-- an expression in parentheses
unfoldable pub enclosed_at : Known → ℕ → ℕ → List Lexeme → Option (expr.Got ExprTree)
enclosed_at env n d os = next m.OpenParen os None (λ o rest. cond_at env n d rest >>= λ x. next m.CloseParen x.rest None (λ c after. Some (record { tree = x.tree; past = c.span.past; rest = after })))

-- ---- declarations of a block

abbrev pub declared_at : ℕ → Known → Named → Option RhsTree → List Lexeme → Option (Got StmtTree)
declared_at d env x r rest = made d (stmt x.lexeme.span (declare x.name x.ctype r)) env 0 rest

unfoldable pub variable_at : Known → ℕ → ℕ → TypeTree → List Lexeme → Option (Got StmtTree)
variable_at env n d t os =
    object_at n env t os >>= λ x. if names_type env x.tree.name then None else next m.Assign x.rest (declared_at d env x.tree None x.rest) (λ o rest. rhs_at env n (d - 1) rest >>= λ r. declared_at d env x.tree (Some r.tree) r.rest)

-- variables after those statements that were read
unfoldable pub variables_at : Known → ℕ → ℕ → TypeTree → StmtTrees → List Lexeme → Option (Got StmtTrees)
variables_at env zero d t all os = None
variables_at env (suc n) d t all os = variable_at env n d t os >>= λ s. next m.Comma s.rest (Some (listed (push all s.tree) env s.rest)) (λ o rest. variables_at env n d t (push all s.tree) rest)

-- none of the words typedef, extern and static, and no attribute
abbrev pub is_plain : Beside → Bool
is_plain s = not s.attributed && not s.typedef_ && not s.linked

abbrev pub local_by : ℕ → ℕ → StmtTrees → decl.After Specs → Option (Got StmtTrees)
local_by n d all s = if is_plain s.tree.said then (variables_at s.known n d s.tree.ctype all s.rest >>= λ x. next m.Semicolon x.rest None (λ c rest. Some (listed x.tree x.known rest))) else None

-- a declaration of a block, after those statements that were read
unfoldable pub local_at : Known → ℕ → ℕ → StmtTrees → List Lexeme → Option (Got StmtTrees)
local_at env n d all os = plain_specs_at n env os >>= local_by n d all

-- ---- labels

abbrev pub label_by : Known → ℕ → ℕ → List Lexeme → Label → Option (After (Option ExprTree))
label_by env n d rest label.Case = cond_at env n d rest >>= λ x. next m.Colon x.rest None (λ c after. if is_some (constant_in env x.tree) then Some (record { tree = Some x.tree; rest = after }) else None)
label_by env n d rest label.Default = next m.Colon rest None (λ c after. Some (record { tree = None; rest = after }))
label_by env n d rest label.Other = None

unfoldable pub label_at : Known → ℕ → ℕ → List Lexeme → Option (After (Option ExprTree))
label_at env n d os = at_lexeme os None (λ o rest. label_by env n d rest (label_of o.kind))

-- labels, at least one, after those that were read
unfoldable pub labels_at : Known → ℕ → ℕ → List (Option ExprTree) → List Lexeme → Option (After (List (Option ExprTree)))
labels_at env zero d all os = None
labels_at env (suc n) d all os = label_at env n d os >>= λ x. if begins_label x.rest then labels_at env n d (all ++ x.tree ∷ []) x.rest else Some (record { tree = all ++ x.tree ∷ []; rest = x.rest })

-- ---- the parentheses of `for`

-- effects before a loop, each a statement at its own place
unfoldable pub init_effects_at : Known → ℕ → ℕ → StmtTrees → List Lexeme → Option (Got StmtTrees)
init_effects_at env zero d all os = None
init_effects_at env (suc n) d all os =
    at_lexeme os None (λ o _. effect_at env n (d - 1) os >>= λ e. made d (spelled o.span.first e.past (effect e.tree)) env e.past e.rest >>= λ s.
    next m.Comma s.rest (Some (listed (push all s.tree) env s.rest)) (λ c rest. init_effects_at env n d (push all s.tree) rest))

abbrev pub init_ends : Got StmtTrees → Option (Got StmtTrees)
init_ends x = next m.Semicolon x.rest None (λ c after. Some (listed x.tree x.known after))

-- what stands first between the parentheses, with its semicolon
unfoldable pub init_at : Known → ℕ → ℕ → List Lexeme → Option (Got StmtTrees)
init_at env n d os = next m.Semicolon os (if begins_local env os then local_at env n d no_stmt os else (init_effects_at env n d no_stmt os >>= init_ends)) (λ c after. Some (listed no_stmt env after))

-- the condition with its semicolon
unfoldable pub test_at : Known → ℕ → ℕ → List Lexeme → Option (After (Option ExprTree))
test_at env n d os =
    next m.Semicolon os (cond_at env n d os >>= λ x. next m.Semicolon x.rest None (λ c after. Some (record { tree = Some x.tree; rest = after }))) (λ c after. Some (record { tree = None; rest = after }))

-- the steps with the parenthesis after them
unfoldable pub steps_at : Known → ℕ → ℕ → List Lexeme → Option (After (List EffectTree))
steps_at env n d os =
    next m.CloseParen os (effects_at env n d [] os >>= λ x. next m.CloseParen x.rest None (λ c after. Some (record { tree = x.tree; rest = after }))) (λ c after. Some (record { tree = []; rest = after }))

unfoldable pub header_at : Known → ℕ → ℕ → List Lexeme → Option (Got Header)
header_at env n d os =
    next m.OpenParen os None (λ o rest. init_at env n d rest >>= λ i. test_at i.known n d i.rest >>= λ t. steps_at i.known n d t.rest >>= λ s.
    Some (listed (record { init = i.tree; test = t.tree; steps = s.tree }) i.known s.rest))

-- ---- statements

-- a reader of statements
abbrev pub Reader : Type 0
Reader = Known → List Lexeme → Option (Got StmtTree)

abbrev pub else_after : Reader → ℕ → ℕ → ExprTree → Got StmtTree → Option (Got StmtTree)
else_after inner d first x a =
    next m.Else a.rest (ended d first (if_alone x a.tree) a) (λ e rest. inner a.known rest >>= λ b. ended d first (if_else x a.tree b.tree) b)

abbrev pub if_after : Reader → Known → ℕ → ℕ → ℕ → List Lexeme → Option (Got StmtTree)
if_after inner env n d first os = enclosed_at env n (d - 1) os >>= λ x. inner env x.rest >>= else_after inner d first x.tree

abbrev pub while_after : Reader → Known → ℕ → ℕ → ℕ → List Lexeme → Option (Got StmtTree)
while_after inner env n d first os = enclosed_at env n (d - 1) os >>= λ x. inner env x.rest >>= λ a. ended d first (while x.tree a.tree) a

abbrev pub do_ends : ℕ → ℕ → Got StmtTree → expr.Got ExprTree → Option (Got StmtTree)
do_ends d first a x = next m.Semicolon x.rest None (λ c after. made d (spelled first c.span.past (do_while a.tree x.tree)) a.known c.span.past after)

abbrev pub do_after : Reader → Known → ℕ → ℕ → ℕ → List Lexeme → Option (Got StmtTree)
do_after inner env n d first os = inner env os >>= λ a. next m.While a.rest None (λ w rest. enclosed_at a.known n (d - 1) rest >>= do_ends d first a)

-- a loop with this between its parentheses
abbrev pub for_kind : Header → StmtTree → StmtKindTree
for_kind h a = for h.init h.test h.steps a

abbrev pub for_after : Reader → Known → ℕ → ℕ → ℕ → List Lexeme → Option (Got StmtTree)
for_after inner env n d first os = header_at env n (d - 1) os >>= λ h. inner h.known h.rest >>= λ a. ended d first (for_kind h.tree a.tree) a

abbrev pub switch_ends : ℕ → ℕ → ExprTree → Got GroupTrees → Option (Got StmtTree)
switch_ends d first x g = next m.CloseBrace g.rest None (λ c after. made d (spelled first c.span.past (switch x g.tree)) g.known c.span.past after)

abbrev pub switch_after : (Known → List Lexeme → Option (Got GroupTrees)) → Known → ℕ → ℕ → ℕ → List Lexeme → Option (Got StmtTree)
switch_after groups env n d first os = enclosed_at env n (d - 1) os >>= λ x. next m.OpenBrace x.rest None (λ o rest. groups env rest >>= switch_ends d first x.tree)

abbrev pub block_ends : ℕ → ℕ → Got StmtTrees → Option (Got StmtTree)
block_ends d first x = next m.CloseBrace x.rest None (λ c after. made d (spelled first c.span.past (block x.tree)) x.known c.span.past after)

abbrev pub jump_at : ℕ → ℕ → StmtKindTree → Known → List Lexeme → Option (Got StmtTree)
jump_at d first kind env os = next m.Semicolon os None (λ c after. made d (spelled first c.span.past kind) env c.span.past after)

abbrev pub return_at : Known → ℕ → ℕ → ℕ → List Lexeme → Option (Got StmtTree)
return_at env n d first os =
    next m.Semicolon os (rhs_at env n (d - 1) os >>= λ r. jump_at d first (return (Some r.tree)) env r.rest) (λ c after. made d (spelled first c.span.past (return None)) env c.span.past after)

abbrev pub effect_stmt_at : Known → ℕ → ℕ → ℕ → List Lexeme → Option (Got StmtTree)
effect_stmt_at env n d first os = effect_at env n (d - 1) os >>= λ e. jump_at d first (effect e.tree) env e.rest

abbrev pub stmt_by : Reader → (Known → List Lexeme → Option (Got StmtTrees)) → (Known → List Lexeme → Option (Got GroupTrees)) → Known → ℕ → ℕ → Lexeme → List Lexeme → List Lexeme → Head → Option (Got StmtTree)
stmt_by inner items groups env n d o os rest h.Block = items env rest >>= block_ends d o.span.first
stmt_by inner items groups env n d o os rest h.Empty = made d (spelled o.span.first o.span.past empty) env o.span.past rest
stmt_by inner items groups env n d o os rest h.If = if_after inner env n d o.span.first rest
stmt_by inner items groups env n d o os rest h.While = while_after inner env n d o.span.first rest
stmt_by inner items groups env n d o os rest h.Do = do_after inner env n d o.span.first rest
stmt_by inner items groups env n d o os rest h.For = for_after inner env n d o.span.first rest
stmt_by inner items groups env n d o os rest h.Switch = switch_after groups env n d o.span.first rest
stmt_by inner items groups env n d o os rest h.Break = jump_at d o.span.first break env rest
stmt_by inner items groups env n d o os rest h.Continue = jump_at d o.span.first continue env rest
stmt_by inner items groups env n d o os rest h.Return = return_at env n d o.span.first rest
stmt_by inner items groups env n d o os rest h.Other = effect_stmt_at env n d o.span.first os

-- a declaration or a statement of a block, after those that were read
abbrev pub item_by : (Known → List Lexeme → Option (Got StmtTree)) → Known → ℕ → ℕ → StmtTrees → List Lexeme → Option (Got StmtTrees)
item_by inner env n d all os = if begins_local env os then local_at env n d all os else (inner env os >>= λ x. Some (listed (push all x.tree) x.known x.rest))

unfoldable mutual
  pub stmt_at : Known → ℕ → ℕ → List Lexeme → Option (Got StmtTree)
  stmt_at env zero d os = None
  stmt_at env (suc n) d os = if nat_eq d 0 then None else at_lexeme os None (λ o rest. stmt_by (λ e ts. stmt_at e n (d - 1) ts) (λ e ts. items_at e n (d - 1) no_stmt ts) (λ e ts. groups_at e n (d - 1) no_group ts) env n d o os rest (head_of o.kind))

  -- the declarations and statements of a block, after those that were read, up to its brace
  pub items_at : Known → ℕ → ℕ → StmtTrees → List Lexeme → Option (Got StmtTrees)
  items_at env zero d all os = None
  items_at env (suc n) d all os = next m.CloseBrace os (item_by (λ e ts. stmt_at e n d ts) env n d all os >>= λ x. items_at x.known n d x.tree x.rest) (λ _ _. Some (listed all env os))

  -- the statements of a group, after those that were read
  pub stmts_at : Known → ℕ → ℕ → StmtTrees → List Lexeme → Option (Got StmtTrees)
  stmts_at env zero d all os = None
  stmts_at env (suc n) d all os = at_lexeme os None (λ o _. if ends_group o.kind then Some (listed all env os) else (stmt_at env n d os >>= λ x. stmts_at x.known n d (push all x.tree) x.rest))

  -- the groups of a `switch`, after those that were read, up to its brace
  pub groups_at : Known → ℕ → ℕ → GroupTrees → List Lexeme → Option (Got GroupTrees)
  groups_at env zero d all os = None
  groups_at env (suc n) d all os =
      next m.CloseBrace os (labels_at env n d [] os >>= λ ls. stmts_at env n d no_stmt ls.rest >>= λ ss. groups_at ss.known n d (push_group all ls.tree ss.tree) ss.rest) (λ _ _. Some (listed all env os))

-- a statement that begins with a brace
abbrev pub block_at : Known → ℕ → ℕ → List Lexeme → Option (Got StmtTree)
block_at env n d os = next m.OpenBrace os None (λ _ _. stmt_at env n d os)
