-- The items of a type file as plain data.
use Rattle.std.specs.Prelude.{ℕ, ℤ, Bool, List, Option, map, option_map}
use Rattle.cx_base.specs.declared.span.Span.{Span}
use Rattle.cx_ctree.specs.Types.{TypeTree, type_tree}
use Rattle.cx_tsyn.specs.Words.{WordTree, word_tree}
use Rattle.cx_tsyn.specs.Lins.{RelationTree, relation_tree}
use Rattle.cx_tsyn.specs.Cells.{SCellTree, cell_tree}
use Rattle.cx_tsyn.specs.Types.{STypeTree, stype_tree}
use Rattle.cx_tsyn.specs.declared.item.RegionItem.{RegionItem}
use Rattle.cx_tsyn.specs.declared.item.SResult.{SResult}
use Rattle.cx_tsyn.specs.declared.item.FuncItem.{FuncItem}
use Rattle.cx_tsyn.specs.declared.item.SArg.{SArg}
use Rattle.cx_tsyn.specs.declared.item.SArg.TheVariants as a
use Rattle.cx_tsyn.specs.declared.item.AllocItem.{AllocItem}
use Rattle.cx_tsyn.specs.declared.item.GlobalItem.{GlobalItem}
use Rattle.cx_tsyn.specs.declared.item.TypeItem.{TypeItem}
use Rattle.cx_tsyn.specs.declared.item.TypeItem.TheVariants as i
use Rattle.cx_tsyn.specs.declared.item.Surface.{Surface}

pub record RegionItemTree : Type 0 where
  pub span : Span
  pub shared : Bool
  pub name : WordTree
  pub params : List WordTree
  pub body : STypeTree

pub record SResultTree : Type 0 where
  pub binders : List WordTree
  pub cell : SCellTree
  pub conds : List RelationTree

-- without a result: void
pub record FuncItemTree : Type 0 where
  pub span : Span
  pub name : WordTree
  pub binders : List WordTree
  pub args : List SCellTree
  pub conds : List RelationTree
  pub result : Option SResultTree
  pub result_span : Span

pub data SArgTree : Type 0 where
  number : ℤ → SArgTree
  param : WordTree → SArgTree
  over : WordTree → (divisor : ℕ) → (divisor_span : Span) → SArgTree

pub record AllocItemTree : Type 0 where
  pub span : Span
  pub name : WordTree
  pub params : List WordTree
  pub pointee : TypeTree
  pub pointee_span : Span
  pub unknown_tag : Option Span
  pub region : WordTree
  pub args : List SArgTree
  pub bytes : WordTree
  pub times : Option WordTree
  pub zero : Bool

pub record GlobalItemTree : Type 0 where
  pub span : Span
  pub name : WordTree
  pub region : WordTree
  pub args : List ℤ

pub data TypeItemTree : Type 0 where
  region : RegionItemTree → TypeItemTree
  func : FuncItemTree → TypeItemTree
  alloc : AllocItemTree → TypeItemTree
  global : GlobalItemTree → TypeItemTree

pub record SurfaceTree : Type 0 where
  pub items : List TypeItemTree

abbrev pub region_tree : RegionItem → RegionItemTree
region_tree r = record { span = r.span; shared = r.shared; name = word_tree r.name; params = map word_tree r.params; body = stype_tree r.body }

abbrev pub result_tree : SResult → SResultTree
result_tree r = record { binders = map word_tree r.binders; cell = cell_tree r.cell; conds = map relation_tree r.conds }

abbrev pub func_tree : FuncItem → FuncItemTree
func_tree f = record {
  span = f.span;
  name = word_tree f.name;
  binders = map word_tree f.binders;
  args = map cell_tree f.args;
  conds = map relation_tree f.conds;
  result = option_map result_tree f.result;
  result_span = f.result_span;
}

abbrev pub arg_tree : SArg → SArgTree
arg_tree (a.Number z) = number z
arg_tree (a.Param w) = param (word_tree w)
arg_tree (a.Over w d s) = over (word_tree w) d s

abbrev pub alloc_tree : AllocItem → AllocItemTree
alloc_tree f = record {
  span = f.span;
  name = word_tree f.name;
  params = map word_tree f.params;
  pointee = type_tree f.pointee;
  pointee_span = f.pointee_span;
  unknown_tag = f.unknown_tag;
  region = word_tree f.region;
  args = map arg_tree f.args;
  bytes = word_tree f.bytes;
  times = option_map word_tree f.times;
  zero = f.zero;
}

abbrev pub global_tree : GlobalItem → GlobalItemTree
global_tree g = record { span = g.span; name = word_tree g.name; region = word_tree g.region; args = g.args }

abbrev pub type_item_tree : TypeItem → TypeItemTree
type_item_tree (i.Region r) = region (region_tree r)
type_item_tree (i.Func f) = func (func_tree f)
type_item_tree (i.Alloc f) = alloc (alloc_tree f)
type_item_tree (i.Global g) = global (global_tree g)

-- the type file
abbrev pub surface_tree : Surface → SurfaceTree
surface_tree s = record { items = map type_item_tree s.items }
