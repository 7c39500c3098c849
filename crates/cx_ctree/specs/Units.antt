-- The unit of a C file as plain data.
use Rattle.std.specs.Prelude.{ℕ, ℤ, List, map}
use Rattle.cx_base.specs.declared.token.Token.{Token}
use Rattle.cx_ctree.specs.Types.{TypeTree, type_tree}
use Rattle.cx_ctree.specs.Decls.{TagTree, tag_tree, ItemTree, item_tree}
use Rattle.cx_ctree.specs.declared.unit.Unit.{Unit}

pub record UnitTree : Type 0 where
  pub names : List (List ℕ)
  pub tags : List TagTree
  pub typedefs : List (ℕ × TypeTree)
  pub consts : List (ℕ × ℤ)
  pub enums : List ℕ
  pub items : List ItemTree
  pub tokens : List Token
  pub named : List ℕ

-- the struct and union types of the unit, by their places
abbrev pub tags_of : Unit → List TagTree
tags_of u = map tag_tree u.tags

abbrev pub unit_tree : Unit → UnitTree
unit_tree u = record {
  names = u.names;
  tags = tags_of u;
  typedefs = map (λ t. (t.0, type_tree t.1)) u.typedefs;
  consts = u.consts;
  enums = u.enums;
  items = map item_tree u.items;
  tokens = u.tokens;
  named = u.named;
}
