-- What the code finds of a type: the first fault in it, or how much it takes.
use Rattle.std.specs.Prelude.{◌≡◌, ℕ, ◌+◌, Bool, false, ◌||◌, List, Option, Some, None}
use Rattle.cx_base.specs.declared.span.Span.{Span}
use Rattle.cx_ctree.specs.Types.{TypeTree}
use Rattle.cx_ctree.specs.Decls.{MemberTree}
use Rattle.cx_tsyn.specs.Words.{WordTree}
use Rattle.cx_tsyn.specs.Lins.{LinTree}
use Rattle.cx_tsyn.specs.Cells.{SCellTree}
use Rattle.cx_tsyn.specs.Types.{STypeTree, AtomTree, STypeTrees, SFieldTrees, SBranchTrees}
use Rattle.cx_tscope.specs.Faults.{first}
use Rattle.cx_tmeasure.specs.Known.{Known}
use Rattle.cx_tmeasure.specs.Sizes.{in_all, kind_size, size, atom_size, sum_size, cells, atom_cells, sum_cells, field_cells, branch_cells, is_symbolic, has_tail, atom_has_tail, some_type_has_tail, some_field_has_tail, some_branch_has_tail}
use Rattle.cx_tmeasure.specs.BadTypes.{field_type}
use Rattle.cx_tmeasure.specs.declared.amount.Amount.{Amount}
use Rattle.cx_tmeasure.specs.declared.amount.Judged.{Judged}
use Rattle.cx_tmeasure.specs.declared.amount.Judged.TheVariants.{Bad, Right}

abbrev pub IsJudged : Judged → List Span → Amount → Type 0
IsJudged (Bad s) bad y = first bad ≡ Some s
IsJudged (Right x) bad y = (first bad ≡ None) × (x ≡ y)

abbrev pub amount : Known → (m : Option TypeTree) → STypeTree → Amount
amount k m t = record { size = size k m t; cells = cells t; tail = has_tail t }

abbrev pub amount_atom : Known → (m : Option TypeTree) → AtomTree → Amount
amount_atom k m a = record { size = atom_size k m a; cells = atom_cells a; tail = atom_has_tail a }

abbrev pub amount_types : Known → STypeTrees → Amount
amount_types k ts = record { size = sum_size k ts; cells = sum_cells ts; tail = some_type_has_tail ts }

abbrev pub amount_field : Known → (u : Bool) → (left : List MemberTree) → WordTree → STypeTree → Amount
amount_field k u ms f t = amount k (field_type k u ms f) t

-- of the fields, whose bytes are those of the struct or union
abbrev pub amount_fields : (bytes : ℕ) → SFieldTrees → Amount
amount_fields n fs = record { size = n; cells = field_cells fs; tail = some_field_has_tail fs }

-- of branches of so many bytes
abbrev pub amount_branches : (bytes : ℕ) → SBranchTrees → Amount
amount_branches n bs = record { size = n; cells = branch_cells bs; tail = some_branch_has_tail bs }

abbrev pub amount_cell : Known → (m : Option TypeTree) → SCellTree → Amount
amount_cell k m x = record { size = kind_size k m x.kind; cells = 1; tail = false }

abbrev pub nothing : Amount
nothing = record { size = 0; cells = 0; tail = false }

abbrev pub plus : Amount → Amount → Amount
plus a b = record { size = a.size + b.size; cells = a.cells + b.cells; tail = a.tail || b.tail }

-- of an array of this length
abbrev pub in_row : Option LinTree → Amount → Amount
in_row n x = record { size = in_all n x.size; cells = in_all n x.cells; tail = is_symbolic n || x.tail }
