-- How many binders and conditions a type has, if arrays of a fixed length are written out: in the part in which it stands, and in
-- each branch and each element of symbolic length in it, which are parts by themselves. Guards are not counted.
use Rattle.std.specs.Prelude.{ℕ, ◌+◌, ◌*◌, ℤ, pos, negsuc, Bool, false, ◌||◌, nat_lt, List, length, Option, Some, None}
use Rattle.cx_tsyn.specs.Words.{WordTree}
use Rattle.cx_tsyn.specs.Lins.{LinTree, RelationTree}
use Rattle.cx_tsyn.specs.Types.{STypeTree, stype, AtomTree, cell, paren, tagged, product, cases, STypeTrees, no_type, also_type, SFieldTrees, no_field, also_field, SBranchTrees, no_branch, also_branch}
use Rattle.cx_tnumber.specs.Numbers.{number_of}

-- what is counted
pub data Counted : Type 0 where
  binders : Counted
  conditions : Counted

abbrev pub own : Counted → List WordTree → List RelationTree → ℕ
own binders bs cs = length bs
own conditions bs cs = length cs

-- ---- lengths of arrays

-- as a number of turns: none below 0
abbrev pub turns : ℤ → ℕ
turns (pos n) = n
turns (negsuc n) = 0

-- what all elements of an array have together, where one has `each`; an array of symbolic length has its elements by itself
abbrev pub in_length : Option ℤ → (each : ℕ) → ℕ
in_length None each = 0
in_length (Some z) each = turns z * each

abbrev pub in_all : (times : Option LinTree) → (each : ℕ) → ℕ
in_all None each = each
in_all (Some l) each = in_length (number_of l) each

-- ---- in the part in which the type stands

abbrev mutual
  pub count : Counted → STypeTree → ℕ
  count w (stype s bs a n cs) = own w bs cs + in_all n (count_atom w a)

  pub count_atom : Counted → AtomTree → ℕ
  count_atom w (cell c) = 0
  count_atom w (paren t) = count w t
  count_atom w (tagged u tag fs) = count_fields w fs
  count_atom w (product ts a) = count_types w ts
  count_atom w (cases bs) = 0

  pub count_types : Counted → STypeTrees → ℕ
  count_types w no_type = 0
  count_types w (also_type t ts) = count w t + count_types w ts

  pub count_fields : Counted → SFieldTrees → ℕ
  count_fields w no_field = 0
  count_fields w (also_field f t fs) = count w t + count_fields w fs

-- ---- limits

abbrev pub most : ℕ
most = 16

abbrev pub are_many : STypeTree → Bool
are_many t = nat_lt most (count binders t) || nat_lt most (count conditions t)

abbrev pub are_many_in : AtomTree → Bool
are_many_in a = nat_lt most (count_atom binders a) || nat_lt most (count_atom conditions a)

-- an element of symbolic length, a part by itself, has more than it may
abbrev pub many_by : Option ℤ → AtomTree → Bool
many_by None a = are_many_in a
many_by (Some z) a = false

abbrev pub many_each : Option LinTree → AtomTree → Bool
many_each None a = false
many_each (Some l) a = many_by (number_of l) a

-- a branch or an element in the type has more than it may
abbrev mutual
  pub has_many : STypeTree → Bool
  has_many (stype s bs a n cs) = many_each n a || has_many_in a

  pub has_many_in : AtomTree → Bool
  has_many_in (cell c) = false
  has_many_in (paren t) = has_many t
  has_many_in (tagged u tag fs) = many_fields fs
  has_many_in (product ts a) = many_types ts
  has_many_in (cases bs) = many_branches bs

  pub many_types : STypeTrees → Bool
  many_types no_type = false
  many_types (also_type t ts) = has_many t || many_types ts

  pub many_fields : SFieldTrees → Bool
  many_fields no_field = false
  many_fields (also_field f t fs) = has_many t || many_fields fs

  pub many_branches : SBranchTrees → Bool
  many_branches no_branch = false
  many_branches (also_branch g t bs) = are_many t || has_many t || many_branches bs
