-- The types of bytes as plain data.
use Rattle.std.specs.Prelude.{Bool, List, [], ◌∷◌, Option, map, option_map}
use Rattle.cx_base.specs.declared.span.Span.{Span}
use Rattle.cx_tsyn.specs.Words.{WordTree, word_tree}
use Rattle.cx_tsyn.specs.Lins.{LinTree, lin_tree, RelationTree, relation_tree}
use Rattle.cx_tsyn.specs.Cells.{SCellTree, cell_tree}
use Rattle.cx_tsyn.specs.declared.stype.AsTag.{AsTag}
use Rattle.cx_tsyn.specs.declared.stype.SType.{SType, fold-SType}
use Rattle.cx_tsyn.specs.declared.stype.SField.{SField, fold-SField}
use Rattle.cx_tsyn.specs.declared.stype.SBranch.{SBranch, fold-SBranch}
use Rattle.cx_tsyn.specs.declared.stype.Atom.{Atom, fold-Atom}
use Rattle.cx_tsyn.specs.declared.stype.Atom.TheOpen.{Atom-F, SBranch-F, SField-F, SType-F}

-- as struct t, or as union t
pub record AsTagTree : Type 0 where
  pub span : Span
  pub union_ : Bool
  pub tag : WordTree

mutual
  pub data STypeTree : Type 0 where
    stype : Span → (binders : List WordTree) → AtomTree → (times : Option LinTree) → (conds : List RelationTree) → STypeTree

  pub data AtomTree : Type 0 where
    cell : SCellTree → AtomTree
    paren : STypeTree → AtomTree
    tagged : (union_ : Bool) → (tag : WordTree) → SFieldTrees → AtomTree
    product : STypeTrees → (as_tag : Option AsTagTree) → AtomTree
    cases : SBranchTrees → AtomTree

  -- types in order
  pub data STypeTrees : Type 0 where
    no_type : STypeTrees
    also_type : STypeTree → STypeTrees → STypeTrees

  -- the fields of a struct or union in order, each with its type
  pub data SFieldTrees : Type 0 where
    no_field : SFieldTrees
    also_field : (name : WordTree) → STypeTree → SFieldTrees → SFieldTrees

  -- the branches of cases in order, each with its type
  pub data SBranchTrees : Type 0 where
    no_branch : SBranchTrees
    also_branch : (guard : List RelationTree) → STypeTree → SBranchTrees → SBranchTrees

abbrev pub stype_span : STypeTree → Span
stype_span (stype s bs a n cs) = s

abbrev pub binders_of : STypeTree → List WordTree
binders_of (stype s bs a n cs) = bs

abbrev pub atom_of : STypeTree → AtomTree
atom_of (stype s bs a n cs) = a

abbrev pub times_of : STypeTree → Option LinTree
times_of (stype s bs a n cs) = n

abbrev pub conds_of : STypeTree → List RelationTree
conds_of (stype s bs a n cs) = cs

-- a field, before it is set in its struct
pub record SFieldTree : Type 0 where
  pub name : WordTree
  pub body : STypeTree

-- a branch, before it is set in its cases
pub record SBranchTree : Type 0 where
  pub guard : List RelationTree
  pub body : STypeTree

abbrev pub types_in_order : List STypeTree → STypeTrees
types_in_order [] = no_type
types_in_order (t ∷ ts) = also_type t (types_in_order ts)

abbrev pub fields_in_order : List SFieldTree → SFieldTrees
fields_in_order [] = no_field
fields_in_order (f ∷ fs) = also_field f.name f.body (fields_in_order fs)

abbrev pub branches_in_order : List SBranchTree → SBranchTrees
branches_in_order [] = no_branch
branches_in_order (b ∷ bs) = also_branch b.guard b.body (branches_in_order bs)

abbrev pub as_tag_tree : AsTag → AsTagTree
as_tag_tree a = record { span = a.span; union_ = a.union_; tag = word_tree a.tag }

abbrev pub atom_step : Atom-F AtomTree SBranchTree SFieldTree STypeTree → AtomTree
atom_step (Atom-F.Cell c) = cell (cell_tree c)
atom_step (Atom-F.Paren t) = paren t.value
atom_step (Atom-F.Tagged u t fs) = tagged u (word_tree t) (fields_in_order fs)
atom_step (Atom-F.Product ts a) = product (types_in_order ts) (option_map as_tag_tree a)
atom_step (Atom-F.Cases bs) = cases (branches_in_order bs)

abbrev pub branch_step : SBranch-F AtomTree SBranchTree SFieldTree STypeTree → SBranchTree
branch_step b = record { guard = map relation_tree b.guard; body = b.body }

abbrev pub field_step : SField-F AtomTree SBranchTree SFieldTree STypeTree → SFieldTree
field_step f = record { name = word_tree f.name; body = f.body }

abbrev pub stype_step : SType-F AtomTree SBranchTree SFieldTree STypeTree → STypeTree
stype_step t = stype t.span (map word_tree t.binders) t.atom (option_map lin_tree t.times) (map relation_tree t.conds)

-- the type
abbrev pub stype_tree : SType → STypeTree
stype_tree = fold-SType AtomTree SBranchTree SFieldTree STypeTree atom_step branch_step field_step stype_step

abbrev pub atom_tree : Atom → AtomTree
atom_tree = fold-Atom AtomTree SBranchTree SFieldTree STypeTree atom_step branch_step field_step stype_step

abbrev pub field_tree : SField → SFieldTree
field_tree = fold-SField AtomTree SBranchTree SFieldTree STypeTree atom_step branch_step field_step stype_step

abbrev pub branch_tree : SBranch → SBranchTree
branch_tree = fold-SBranch AtomTree SBranchTree SFieldTree STypeTree atom_step branch_step field_step stype_step

abbrev pub stype_trees : List SType → STypeTrees
stype_trees ts = types_in_order (map stype_tree ts)

abbrev pub field_trees : List SField → SFieldTrees
field_trees fs = fields_in_order (map field_tree fs)

abbrev pub branch_trees : List SBranch → SBranchTrees
branch_trees bs = branches_in_order (map branch_tree bs)
