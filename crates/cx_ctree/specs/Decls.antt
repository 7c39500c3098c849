-- Struct and union types, functions and declarations as plain data.
use Rattle.std.specs.Prelude.{ℕ, Bool, List, Option, map, option_map}
use Rattle.cx_base.specs.declared.span.Span.{Span}
use Rattle.cx_ctree.specs.Types.{TypeTree, type_tree}
use Rattle.cx_ctree.specs.Stmts.{StmtTree, stmt_tree}
use Rattle.cx_ctree.specs.declared.decl.Member.{Member}
use Rattle.cx_ctree.specs.declared.decl.Tag.{Tag}
use Rattle.cx_ctree.specs.declared.decl.Param.{Param}
use Rattle.cx_ctree.specs.declared.decl.Signature.{Signature}
use Rattle.cx_ctree.specs.declared.decl.Function.{Function}
use Rattle.cx_ctree.specs.declared.decl.Decl.{Decl}
use Rattle.cx_ctree.specs.declared.decl.Decl.TheVariants as d
use Rattle.cx_ctree.specs.declared.decl.Item.{Item}
use Rattle.cx_ctree.specs.declared.decl.Item.TheVariants as i
use Rattle.cx_ctree.specs.declared.decl.Typed.{Typed}

pub record MemberTree : Type 0 where
  pub name : ℕ
  pub ctype : TypeTree

pub record TagTree : Type 0 where
  pub name : Option ℕ
  pub union_ : Bool
  pub rank : ℕ
  pub members : Option (List MemberTree)

pub record ParamTree : Type 0 where
  pub name : Option ℕ
  pub ctype : TypeTree

pub record SignatureTree : Type 0 where
  pub name : ℕ
  pub result : TypeTree
  pub params : List ParamTree

pub record FunctionTree : Type 0 where
  pub sig : SignatureTree
  pub body : StmtTree
  pub name_span : Span

pub data DeclTree : Type 0 where
  types : DeclTree
  object : ℕ → TypeTree → DeclTree
  proto : SignatureTree → DeclTree
  function : FunctionTree → DeclTree

pub data ItemTree : Type 0 where
  known : List DeclTree → ItemTree
  passed : Span → ItemTree

pub record TypedTree : Type 0 where
  pub sig : SignatureTree
  pub name_span : Span
  pub locals : List TypeTree
  pub body : StmtTree

abbrev pub member_tree : Member → MemberTree
member_tree m = record { name = m.name; ctype = type_tree m.ctype }

abbrev pub tag_tree : Tag → TagTree
tag_tree t = record { name = t.name; union_ = t.union_; rank = t.rank; members = option_map (map member_tree) t.members }

abbrev pub param_tree : Param → ParamTree
param_tree p = record { name = p.name; ctype = type_tree p.ctype }

abbrev pub signature_tree : Signature → SignatureTree
signature_tree s = record { name = s.name; result = type_tree s.result; params = map param_tree s.params }

abbrev pub function_tree : Function → FunctionTree
function_tree f = record { sig = signature_tree f.sig; body = stmt_tree f.body; name_span = f.name_span }

abbrev pub decl_tree : Decl → DeclTree
decl_tree d.Types = types
decl_tree (d.Object n t) = object n (type_tree t)
decl_tree (d.Proto s) = proto (signature_tree s)
decl_tree (d.Body f) = function (function_tree f)

abbrev pub item_tree : Item → ItemTree
item_tree (i.Known ds) = known (map decl_tree ds)
item_tree (i.Passed s) = passed s

abbrev pub typed_tree : Typed → TypedTree
typed_tree t = record { sig = signature_tree t.sig; name_span = t.name_span; locals = map type_tree t.locals; body = stmt_tree t.body }
