-- Binders and conditions counted up to the limit: every number past it is as good as the next.
use Rattle.std.specs.Prelude.{ℕ, ◌+◌, ◌*◌, min, ℤ, Bool, false, ◌||◌, nat_lt, Option, Some, None}
use Rattle.cx_tsyn.specs.Lins.{LinTree}
use Rattle.cx_tsyn.specs.Types.{STypeTree, AtomTree, STypeTrees, SFieldTrees, SBranchTrees}
use Rattle.cx_tnumber.specs.Numbers.{number_of}
use Rattle.cx_tarity.specs.Counts.{turns, binders, conditions, count, count_atom, count_types, count_fields, most, has_many, has_many_in, many_types, many_fields, many_branches}
use Rattle.cx_tarity.specs.declared.count.Amounts.{Amounts}

abbrev pub few : ℕ → ℕ
few n = min n 17

abbrev pub counted : STypeTree → Amounts
counted t = record { binders = few (count binders t); conds = few (count conditions t); over = has_many t }

abbrev pub counted_atom : AtomTree → Amounts
counted_atom a = record { binders = few (count_atom binders a); conds = few (count_atom conditions a); over = has_many_in a }

abbrev pub counted_types : STypeTrees → Amounts
counted_types ts = record { binders = few (count_types binders ts); conds = few (count_types conditions ts); over = many_types ts }

abbrev pub counted_fields : SFieldTrees → Amounts
counted_fields fs = record { binders = few (count_fields binders fs); conds = few (count_fields conditions fs); over = many_fields fs }

abbrev pub counted_branches : SBranchTrees → Amounts
counted_branches bs = record { binders = 0; conds = 0; over = many_branches bs }

abbrev pub nothing : Amounts
nothing = record { binders = 0; conds = 0; over = false }

abbrev pub plus : Amounts → Amounts → Amounts
plus a b = record { binders = few (a.binders + b.binders); conds = few (a.conds + b.conds); over = a.over || b.over }

abbrev pub is_over : Amounts → Bool
is_over c = nat_lt most c.binders || nat_lt most c.conds

-- so many in a row; those of symbolic length are a part by themselves
abbrev pub in_row_by : Option ℤ → Amounts → Amounts
in_row_by None c = record { binders = 0; conds = 0; over = is_over c || c.over }
in_row_by (Some z) c = record { binders = few (turns z * c.binders); conds = few (turns z * c.conds); over = c.over }

abbrev pub in_row : Option LinTree → Amounts → Amounts
in_row None c = c
in_row (Some l) c = in_row_by (number_of l) c

abbrev pub with_own : (binders conds : ℕ) → Amounts → Amounts
with_own bs cs c = record { binders = few (bs + c.binders); conds = few (cs + c.conds); over = c.over }
