-- How deep a type is nested: it has one level more than the deepest type in it, and a cell alone has one.
use Rattle.std.specs.Prelude.{ℕ, ◌+◌, max}
use Rattle.cx_tsyn.specs.Types.{STypeTree, stype, AtomTree, cell, paren, tagged, product, cases, STypeTrees, no_type, also_type, SFieldTrees, no_field, also_field, SBranchTrees, no_branch, also_branch}

abbrev mutual
  pub levels : STypeTree → ℕ
  levels (stype s bs a n cs) = 1 + levels_within a

  pub levels_within : AtomTree → ℕ
  levels_within (cell c) = 0
  levels_within (paren t) = levels t
  levels_within (tagged u t fs) = most_of_fields fs
  levels_within (product ts a) = most_of_types ts
  levels_within (cases bs) = most_of_branches bs

  pub most_of_types : STypeTrees → ℕ
  most_of_types no_type = 0
  most_of_types (also_type t ts) = max (levels t) (most_of_types ts)

  pub most_of_fields : SFieldTrees → ℕ
  most_of_fields no_field = 0
  most_of_fields (also_field f t fs) = max (levels t) (most_of_fields fs)

  pub most_of_branches : SBranchTrees → ℕ
  most_of_branches no_branch = 0
  most_of_branches (also_branch g t bs) = max (levels t) (most_of_branches bs)
