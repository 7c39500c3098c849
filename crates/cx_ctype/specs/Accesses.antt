-- Types of what lies in memory: elements, targets of pointers, members, and sizes of types (C11 6.5.2.1, 6.5.2.3, 6.5.3.2, 6.5.3.4).
use Rattle.std.specs.Prelude.{ℕ, Bool, true, false, ◌==◌, List, [], ◌∷◌, Option, Some, None, is_some, slice_get, if◌then◌else◌}
use Rattle.std.specs.Option.{option_and_then}
use Rattle.cx_ctree.specs.Conversions.{unsigned_long}
use Rattle.cx_ctree.specs.Types.{TypeTree, int, pointer, tag}
use Rattle.cx_ctree.specs.Decls.{MemberTree}
use Rattle.cx_ctree.specs.Exprs.{ExprTree, node, global, index, member, arrow, deref}
use Rattle.cx_ctree.specs.Layouts.{size_of}
use Rattle.cx_cname.specs.Known.{Known, is_complete}
use Rattle.cx_ctype.specs.Operations.{if_true}

-- the type of a size, where the type has one
abbrev pub size_type : Known → TypeTree → Option TypeTree
size_type env t = if_true (is_some (size_of env.tags t)) (int unsigned_long)

-- what a value of the type points to
abbrev pub pointee : TypeTree → Option TypeTree
pointee (pointer t) = Some t
pointee _ = None

-- what the pointer of a[b] points to: one of the two is a pointer, the other an integer
abbrev pub element : TypeTree → TypeTree → Option TypeTree
element (pointer t) (int w) = Some t
element (int w) (pointer t) = Some t
element _ _ = None

-- such a type where it is complete
abbrev pub if_complete : Known → Option TypeTree → Option TypeTree
if_complete env None = None
if_complete env (Some t) = if_true (is_complete env t) t

-- such a type where it has a size
abbrev pub if_sized : Known → Option TypeTree → Option TypeTree
if_sized env None = None
if_sized env (Some t) = if_true (is_some (size_of env.tags t)) t

-- the type of the member of this name
abbrev pub named_member : (name : ℕ) → List MemberTree → Option TypeTree
named_member n [] = None
named_member n (m ∷ ms) = if m.name == n then Some m.ctype else named_member n ms

-- the members of a struct or union
abbrev pub members_of : Known → TypeTree → Option (List MemberTree)
members_of env (tag k) = option_and_then (λ t. t.members) (slice_get env.tags k)
members_of env _ = None

-- the type of the member of this name of a struct or union
abbrev pub member_type : Known → TypeTree → (name : ℕ) → Option TypeTree
member_type env t n = option_and_then (named_member n) (members_of env t)

-- the expression is an object in memory (C11 6.5.3.2)
abbrev pub in_memory : ExprTree → Bool
in_memory (node s t (global n)) = true
in_memory (node s t (deref x)) = true
in_memory (node s t (index x y)) = true
in_memory (node s t (arrow x m)) = true
in_memory (node s t (member x m)) = in_memory x
in_memory _ = false
