-- The code of statements. L is the first local that serves them; break and continue go to the blocks `out` and `next`.
use Rattle.std.specs.Prelude.{ℕ, ◌+◌, List, [], ◌∷◌, if◌then◌else◌, Option, Some, None}
use Rattle.std.specs.List.{list_any}
use Rattle.cx_base.specs.declared.span.Span.{Span}
use Rattle.cx_base.specs.declared.token.Token.{Token}
use Rattle.cx_cconst.specs.Constants.{number_type}
use Rattle.cx_cmean.specs.Numbers.{number_of}
use Rattle.cx_sname.specs.File.{Declared}
use Rattle.cx_cmean.specs.Statements.{label_number, is_default}
use Rattle.cx_ctree.specs.Conversions.{promoted}
use Rattle.cx_ctree.specs.Exprs.{ExprTree, RhsTree, EffectTree, span_of, type_of}
use Rattle.cx_ctree.specs.Stmts.{StmtTree, stmt, StmtKindTree, block, empty, effect, declare, if_alone, if_else, while, do_while, for, switch, break, continue, return, StmtTrees, no_stmt, also_stmt, GroupTrees, no_group, also_group}
use Rattle.cx_ctree.specs.Types.{TypeTree}
use Rattle.cx_goto.specs.Trees.{const, copy, unset}
use Rattle.cx_goto.specs.declared.code.End.TheVariants.{Jump, Branch, Return}
use Rattle.cx_goto.specs.declared.code.Rel.TheVariants.{Eq}
use Rattle.cx_lcode.specs.Effects.{right_code, effect_code}
use Rattle.cx_lcode.specs.Items.{Item, start, does, converts, first_token}
use Rattle.cx_lcode.specs.Places.{last, effect_last, effects_last, condition_last, labels_last, all_labels_last, stmt_last, stmts_last, groups_last}
use Rattle.cx_lcode.specs.Values.{code_of}

-- what the statements of a function are lowered by: what the unit declares, its tokens, and the type of the function's result
pub record Setting : Type 0 where
  pub unit : Declared
  pub tokens : List Token
  pub result : TypeTree
  -- the first local that serves a statement
  pub served : ℕ

-- a variable that is declared is set to its initialiser's value, or unset
abbrev pub declare_code : Setting → Span → (x : ℕ) → TypeTree → Option RhsTree → (b : ℕ) → List Item → List Item
declare_code z s x t None b rest = does s (unset x) ∷ rest
declare_code z s x t (Some r) b rest = right_code z.unit s t r b z.served (does s (copy x z.served) ∷ rest)

abbrev pub return_code : Setting → (q s : Span) → Option RhsTree → (b : ℕ) → List Item → List Item
return_code z q s None b rest = start (Return None) s z.served ∷ rest
return_code z q s (Some r) b rest = right_code z.unit q z.result r b z.served (start (Return (Some z.served)) s z.served ∷ rest)

-- effects in order, whose jumps have the place q
abbrev pub effects_code : Setting → (q : Span) → List EffectTree → (b : ℕ) → List Item → List Item
effects_code z q [] b rest = rest
effects_code z q (e ∷ es) b rest = effect_code z.unit q e b z.served (effects_code z q es (effect_last e b) rest)

-- the test of a statement, which goes to one of two blocks
abbrev pub test_code : Setting → (q : Span) → ExprTree → (b j m : ℕ) → List Item → List Item
test_code z q c b j m rest = (code_of z.unit q c).test b z.served j m z.served rest

-- the test of a for; one that is left out goes to the body
abbrev pub condition_code : Setting → (q : Span) → Option ExprTree → (b j m : ℕ) → List Item → List Item
condition_code z q None b j m rest = start (Jump j) q z.served ∷ rest
condition_code z q (Some c) b j m rest = test_code z q c b j m rest

-- ---- switches: sv and t are the place and the type of the value, which stands in the first local

-- the labels of a group that begins in the block g
abbrev pub labels_code : Setting → (sv : Span) → TypeTree → (g : ℕ) → List (Option ExprTree) → (b : ℕ) → List Item → List Item
labels_code z sv t g [] b rest = rest
labels_code z sv t g (None ∷ ls) b rest = labels_code z sv t g ls b rest
labels_code z sv t g (Some e ∷ ls) b rest =
    does (span_of e) (const (z.served + 1) (label_number z.unit t e)) ∷ start (Branch Eq z.served (z.served + 1) g (b + 1)) sv (z.served + 1) ∷ labels_code z sv t g ls (b + 1) rest

-- the labels of all groups, of which the first begins in the block g
abbrev pub all_labels_code : Setting → (sv : Span) → TypeTree → (g : ℕ) → GroupTrees → (b : ℕ) → List Item → List Item
all_labels_code z sv t g no_group b rest = rest
all_labels_code z sv t g (also_group labels body gs) b rest = labels_code z sv t g labels b (all_labels_code z sv t (stmts_last body g + 1) gs (labels_last labels b) rest)

-- the block of the group with the default, where the first begins in the block g; the block e where there is none
abbrev pub default_block : (g e : ℕ) → GroupTrees → ℕ
default_block g e no_group = e
default_block g e (also_group labels body gs) = if list_any is_default labels then g else default_block (stmts_last body g + 1) e gs

-- ---- statements

abbrev mutual
  pub stmt_code : Setting → (b out next : ℕ) → StmtTree → List Item → List Item
  stmt_code z b out next (stmt s k) rest = kind_code z (first_token z.tokens s) s b out next k rest

  -- the jumps of the statement have the place q
  pub kind_code : Setting → (q s : Span) → (b out next : ℕ) → StmtKindTree → List Item → List Item
  kind_code z q s b out next (block ss) rest = stmts_code z b out next ss rest
  kind_code z q s b out next empty rest = rest
  kind_code z q s b out next (effect e) rest = effect_code z.unit q e b z.served rest
  kind_code z q s b out next (declare x t r) rest = declare_code z s x t r b rest
  kind_code z q s b out next (if_alone c x) rest =
      let j = (last c).test b + 1 in let e = stmt_last x j + 1 in
      test_code z q c b j e (stmt_code z j out next x (start (Jump e) q z.served ∷ rest))
  kind_code z q s b out next (if_else c x y) rest =
      let j = (last c).test b + 1 in let m = stmt_last x j + 1 in let e = stmt_last y m + 1 in
      test_code z q c b j m (stmt_code z j out next x (start (Jump e) q z.served ∷ stmt_code z m out next y (start (Jump e) q z.served ∷ rest)))
  kind_code z q s b out next (while c x) rest =
      let h = b + 1 in let j = (last c).test h + 1 in let e = stmt_last x j + 1 in
      start (Jump h) q z.served ∷ test_code z q c h j e (stmt_code z j e h x (start (Jump h) q z.served ∷ rest))
  kind_code z q s b out next (do_while x c) rest =
      let h = b + 1 in let k = stmt_last x h + 1 in let e = (last c).test k + 1 in
      start (Jump h) q z.served ∷ stmt_code z h e k x (start (Jump k) q z.served ∷ test_code z q c k h e rest)
  kind_code z q s b out next (for init c steps x) rest =
      let h = stmts_last init b + 1 in let j = condition_last c h + 1 in let k = stmt_last x j + 1 in let e = effects_last steps k + 1 in
      stmts_code z b out next init
      (start (Jump h) q z.served ∷ condition_code z q c h j e (stmt_code z j e k x (start (Jump k) q z.served ∷ effects_code z q steps k (start (Jump h) q z.served ∷ rest))))
  kind_code z q s b out next (switch v gs) rest =
      let a = (last v).val b in let n = all_labels_last gs a in let e = groups_last gs n + 1 in
      (code_of z.unit q v).val b z.served
      (converts (span_of v) (number_of v) (promoted (number_type (type_of v))) z.served
      (all_labels_code z (span_of v) (type_of v) (n + 1) gs a
      (start (Jump (default_block (n + 1) e gs)) q z.served ∷ groups_code z q (n + 1) e next gs rest)))
  kind_code z q s b out next break rest = start (Jump out) q z.served ∷ rest
  kind_code z q s b out next continue rest = start (Jump next) q z.served ∷ rest
  kind_code z q s b out next (return r) rest = return_code z q s r b rest

  pub stmts_code : Setting → (b out next : ℕ) → StmtTrees → List Item → List Item
  stmts_code z b out next no_stmt rest = rest
  stmts_code z b out next (also_stmt s ss) rest = stmt_code z b out next s (stmts_code z (stmt_last s b) out next ss rest)

  -- the groups of a switch, each in a block of its own from the block g on
  pub groups_code : Setting → (q : Span) → (g out next : ℕ) → GroupTrees → List Item → List Item
  groups_code z q g out next no_group rest = rest
  groups_code z q g out next (also_group labels body gs) rest =
      let e = stmts_last body g + 1 in stmts_code z g out next body (start (Jump e) q z.served ∷ groups_code z q e out next gs rest)
