-- Reading the lexemes of declarations from left to right. `turns` bounds the calls of the readers of expressions and of lists.
use Rattle.std.specs.Prelude.{◌≡◌, ℕ, zero, suc, ◌-◌, ◌≤◌, ◌<◌, ℤ, pos, nat_abs, ◌+ℤ◌, ◌-ℤ◌, int_le, int_lt, Bool, true, false, not, ◌&&◌, ◌||◌, ◌==◌, nat_le, List, [], ◌∷◌, ◌++◌, map, length, take, Option, Some, None, Result, Ok, Err, if◌then◌else◌}
use Rattle.std.specs.List.{list_all, list_any}
use Rattle.std.specs.Borrow.{Bor}
use Rattle.cx_ctree.specs.Conversions.{signed_int}
use Rattle.cx_ctree.specs.Types.{TypeTree, int, pointer, array, tag, type_tree}
use Rattle.cx_ctree.specs.Path.{type_path}
use Rattle.cx_ctree.specs.Decls.{member_tree, param_tree, signature_tree, decl_tree, MemberTree, ParamTree, SignatureTree, DeclTree, types, object, proto, function}
use Rattle.cx_ctree.specs.declared.decl.Param.{Param}
use Rattle.cx_ctree.specs.declared.decl.Decl.{Decl}
use Rattle.cx_ctree.specs.declared.unit.Unit.{Unit as UnitOf}
use Rattle.cx_cword.specs.declared.lexeme.Lexeme.{Lexeme}
use Rattle.cx_cword.specs.declared.reading.Stop.{Stop}
use Rattle.cx_cword.specs.declared.reading.Stop.TheVariants as stop
use Rattle.cx_cword.specs.Reading.{name_of, ◌>>=◌, at_lexeme}
use Rattle.cx_cname.specs.Known.{Known, earlier_of, names_type, a_type, an_object, function_type, with_typedef, with_constant, with_tag, with_members, with_enum, tag_place, is_complete, has_name}
use Rattle.cx_cname.specs.Meanings.{is_new, may_be, may_have}
use Rattle.cx_cconst.specs.Constants.{constant_in, is_constant}
use Rattle.cx_cexpr.specs.Reading.{named, skip_at, base_at, cond_at, same_kind}
use Rattle.cx_cexpr.specs.Reading as expr
use Rattle.std.specs.Prelude.{slice_get, option_map}
use Rattle.cx_cword.specs.declared.mark.Mark.{Mark}
use Rattle.cx_cword.specs.declared.mark.Mark.TheVariants as m
use Rattle.cx_cdecl.specs.declared.kinds.Head.{Head}
use Rattle.cx_cdecl.specs.declared.kinds.Head.TheVariants as h
use Rattle.cx_cdecl.specs.declared.kinds.Bracket.{Bracket}
use Rattle.cx_cdecl.specs.declared.kinds.Bracket.TheVariants as b
use Rattle.cx_cdecl.specs.declared.kinds.Said.{Said}
use Rattle.cx_cdecl.specs.declared.declarator.ReadPointers.{ReadPointers}
use Rattle.cx_cdecl.specs.declared.declarator.ReadSize.{ReadSize}
use Rattle.cx_cdecl.specs.declared.declarator.ReadSizes.{ReadSizes}
use Rattle.cx_cdecl.specs.declared.declarator.ReadNamed.{ReadNamed}
use Rattle.cx_cdecl.specs.declared.enumerator.ReadValue.{ReadValue}
use Rattle.cx_cdecl.specs.declared.specifier.ReadSpecifier.{ReadSpecifier}
use Rattle.cx_cdecl.specs.declared.specifier.ReadSpecs.{ReadSpecs}
use Rattle.cx_cdecl.specs.declared.member.ReadMembers.{ReadMembers}
use Rattle.cx_cdecl.specs.declared.member.ReadListing.{ReadListing}
use Rattle.cx_cdecl.specs.declared.param.ReadSized.{ReadSized}
use Rattle.cx_cdecl.specs.declared.param.ReadUsed.{ReadUsed}
use Rattle.cx_cdecl.specs.declared.param.ReadParams.{ReadParams}
use Rattle.cx_cdecl.specs.declared.param.ReadParamList.{ReadParamList}
use Rattle.cx_cdecl.specs.declared.declaration.DeclaratorKind.{DeclaratorKind}
use Rattle.cx_cdecl.specs.declared.declaration.DeclaratorKind.TheVariants as d
use Rattle.cx_cdecl.specs.declared.declaration.ReadDeclarator.{ReadDeclarator}
use Rattle.cx_cdecl.specs.declared.declaration.ReadDecl.{ReadDecl}
use Rattle.cx_cdecl.specs.declared.declaration.ReadDecls.{ReadDecls}
use Rattle.cx_cdecl.specs.declared.attributes.ReadSaid.{ReadSaid}
use Rattle.cx_cdecl.specs.Declarations.{Beside, nothing_said, both_said, adjusted, names_used, are_outside, is_void_word, is_function}
use Rattle.cx_cdecl.specs.Derived.{open_after}
use Rattle.cx_cdecl.specs.Kinds.{also_says, is_attribute, is_after, head_of, bracket_of}
use Rattle.cx_cword.specs.Marks.{fits}

-- what was read, and the lexemes after it
pub record Got (A : Type 0) : Type 0 where
  pub tree : A
  pub rest : List Lexeme

-- what was read, the names known after it, and the lexemes after it
pub record After (A : Type 0) : Type 0 where
  pub tree : A
  pub known : Known
  pub rest : List Lexeme

abbrev pub said_tree : Said → Beside
said_tree s = record { typedef_ = s.typedef_; linked = s.linked; stored = s.stored; attributed = s.attributed }

abbrev pub got_said : ReadSaid → Got Beside
got_said r = record { tree = said_tree r.said; rest = r.rest.now }

-- the declarations of the unit and those that follow it
abbrev pub earlier_in : UnitOf → List Decl → List DeclTree
earlier_in u ds = earlier_of u ++ map decl_tree ds

-- ---- marks

-- the mark, and then
abbrev pub wanted : {A : Type 0} → Mark → List Lexeme → (List Lexeme → Option A) → Option A
wanted mark os go = at_lexeme os None (λ o rest. if fits mark o.kind then go rest else None)

-- the mark, and then; or without it
abbrev pub choose : {A : Type 0} → Mark → List Lexeme → Option A → (List Lexeme → Option A) → Option A
choose mark os other go = at_lexeme os other (λ o rest. if fits mark o.kind then go rest else other)

abbrev pub if_true : {A : Type 0} → Bool → Option A → Option A
if_true b o = if b then o else None

-- ---- attributes and words beside a type

abbrev pub balanced_by : (List Lexeme → Option (List Lexeme)) → Lexeme → List Lexeme → Bracket → Option (List Lexeme)
balanced_by again o rest b.Plain = again rest
balanced_by again o rest (b.Open close) = again rest >>= λ inside. wanted close inside again
balanced_by again o rest b.Stop = Some (o ∷ rest)

-- the lexemes after all whose brackets pair
unfoldable pub balanced_at : ℕ → List Lexeme → Option (List Lexeme)
balanced_at zero os = None
balanced_at (suc n) os = at_lexeme os (Some os) (λ o rest. balanced_by (balanced_at n) o rest (bracket_of o.kind))

-- the lexemes after a list of attributes, of which the word is read
unfoldable pub attributes_at : ℕ → List Lexeme → Option (List Lexeme)
attributes_at turns os = wanted m.OpenParen os (λ rest. balanced_at turns rest >>= λ inside. wanted m.CloseParen inside (λ after. Some after))

abbrev pub beside_attributes : (List Lexeme → Got Beside) → Got Beside → Option (List Lexeme) → Got Beside
beside_attributes again stop None = stop
beside_attributes again stop (Some rest) = again rest

abbrev pub beside_by : (Beside → List Lexeme → Got Beside) → Got Beside → Option Beside → Option (List Lexeme) → List Lexeme → Got Beside
beside_by again stop (Some s) list rest = again s rest
beside_by again stop None list rest = beside_attributes (again (record stop.tree { attributed = true })) stop list

-- goes on with words beside a type, and with lists of attributes where they may stand
unfoldable pub beside_at : (turns : ℕ) → (open_ : Bool) → ℕ → Beside → List Lexeme → Got Beside
beside_at turns open_ zero s os = record { tree = s; rest = os }
beside_at turns open_ (suc n) s [] = record { tree = s; rest = [] }
beside_at turns open_ (suc n) s (o ∷ os) =
    beside_by (beside_at turns open_ n) (record { tree = s; rest = o ∷ os }) (also_says o.kind s) (if_true (open_ && is_attribute o.kind) (attributes_at turns os)) os

abbrev pub after_by : (List Lexeme → List Lexeme) → List Lexeme → Option (List Lexeme) → List Lexeme
after_by again stop None = stop
after_by again stop (Some rest) = again rest

-- goes on with what may stand after the parameters of a function
unfoldable pub after_at : (turns : ℕ) → ℕ → List Lexeme → List Lexeme
after_at turns zero os = os
after_at turns (suc n) [] = []
after_at turns (suc n) (o ∷ os) = after_by (after_at turns n) (o ∷ os) (if_true (is_after o.kind) (attributes_at turns os))

-- ---- declarators

abbrev pub got_pointers : ReadPointers → Got TypeTree
got_pointers r = record { tree = type_tree r.ctype; rest = r.rest.now }

abbrev pub got_size : ReadSize → Got ℕ
got_size r = record { tree = r.size; rest = r.rest.now }

abbrev pub got_sizes : ReadSizes → Got (List ℕ)
got_sizes r = record { tree = r.sizes; rest = r.rest.now }

-- the type with the stars that stand there, of at most d nodes on a path
unfoldable pub pointers_at : ℕ → ℕ → TypeTree → List Lexeme → Option (Got TypeTree)
pointers_at zero d t os = None
pointers_at (suc n) d t os = if_true (nat_le (type_path t) d) (choose m.Star os (Some (record { tree = t; rest = os })) (λ rest. pointers_at n d (pointer t) (skip_at 0 rest).rest))

abbrev pub in_size : ℤ → Bool
in_size v = int_le (pos 1) v && int_le v (pos 2147483648)

-- the number as one of elements
abbrev pub Numbered : ℤ → Option ℕ → Type 0
Numbered v None = in_size v ≡ false
Numbered v (Some n) = (in_size v ≡ true) × (n ≡ nat_abs v)

abbrev pub size_by : List Lexeme → Option ℤ → Option (Got ℕ)
size_by rest None = None
size_by rest (Some v) = if_true (in_size v) (Some (record { tree = nat_abs v; rest = rest }))

-- a size in brackets
unfoldable pub size_at : (turns : ℕ) → Known → List Lexeme → Option (Got ℕ)
size_at turns env os = wanted m.OpenBracket os (λ rest. cond_at env turns 400 rest >>= λ x. wanted m.CloseBracket x.rest (λ after. size_by after (constant_in env x.tree)))

abbrev pub sizes_by : (ℕ → List Lexeme → Got (List ℕ)) → Got (List ℕ) → Option (Got ℕ) → Got (List ℕ)
sizes_by again stop None = stop
sizes_by again stop (Some x) = again x.tree x.rest

-- goes on with sizes, at most d of them
unfoldable pub sizes_at : (turns : ℕ) → Known → ℕ → List ℕ → List Lexeme → Got (List ℕ)
sizes_at turns env zero ns os = record { tree = ns; rest = os }
sizes_at turns env (suc d) ns os = sizes_by (λ n rest. sizes_at turns env d (ns ++ n ∷ []) rest) (record { tree = ns; rest = os }) (size_at turns env os)

-- the sizes of arrays of this type, of at most d nodes on a path
abbrev pub sized_at : (turns : ℕ) → Known → ℕ → TypeTree → List Lexeme → Got (List ℕ)
sized_at turns env d t os = if is_complete env t then sizes_at turns env (d - type_path t) [] os else record { tree = []; rest = os }

-- arrays of these sizes, of which the first is the outermost
abbrev pub arrays : TypeTree → List ℕ → TypeTree
arrays t [] = t
arrays t (n ∷ ns) = array (arrays t ns) n

pub record Named : Type 0 where
  pub name : ℕ
  pub lexeme : Lexeme
  pub ctype : TypeTree

abbrev pub got_named : ReadNamed → Got Named
got_named r = record { tree = record { name = r.name; lexeme = r.lexeme; ctype = type_tree r.ctype }; rest = r.rest.now }

-- the stars and the name of a declarator
unfoldable pub name_at : (turns : ℕ) → TypeTree → List Lexeme → Option (Got Named)
name_at turns t os = pointers_at turns 400 t os >>= λ x. named x.rest (λ o n rest. Some (record { tree = record { name = n; lexeme = o; ctype = x.tree }; rest = rest }))

abbrev pub array_of : Named → Got (List ℕ) → Got Named
array_of x s = record { tree = record x { ctype = arrays x.ctype s.tree }; rest = s.rest }

-- goes on after the name of an object
unfoldable pub sizes_after : (turns : ℕ) → Known → Got Named → Got Named
sizes_after turns env x = array_of x.tree (sized_at turns env 400 x.tree.ctype x.rest)

-- a declarator of an object
unfoldable pub object_at : (turns : ℕ) → Known → TypeTree → List Lexeme → Option (Got Named)
object_at turns env t os = name_at turns t os >>= λ x. Some (sizes_after turns env x)

-- ---- enumerators

abbrev pub in_int : ℤ → Bool
in_int v = int_le (pos 0 -ℤ pos 2147483648) v && int_lt v (pos 2147483648)

abbrev pub value_by : List Lexeme → Option ℤ → Option (Got ℤ)
value_by rest None = None
value_by rest (Some v) = Some (record { tree = v; rest = rest })

-- the value of an enumerator, after its name
unfoldable pub value_at : (turns : ℕ) → Known → (next : ℤ) → List Lexeme → Option (Got ℤ)
value_at turns env next os = choose m.Assign os (Some (record { tree = next; rest = os })) (λ rest. cond_at env turns 400 rest >>= λ x. value_by x.rest (constant_in env x.tree))

abbrev pub got_value : ReadValue → Got ℤ
got_value r = record { tree = r.value; rest = r.rest.now }

abbrev pub enumerator_by : (earlier : List DeclTree) → Known → ℕ → Got ℤ → Option (After ℤ)
enumerator_by earlier env name v = if_true (in_int v.tree && is_new env earlier name) (Some (record { tree = v.tree; known = with_constant env name v.tree; rest = v.rest }))

-- an enumerator, with its value
unfoldable pub enumerator_at : (turns : ℕ) → (earlier : List DeclTree) → Known → (next : ℤ) → List Lexeme → Option (After ℤ)
enumerator_at turns earlier env next os = named os (λ o name rest. value_at turns env next rest >>= enumerator_by earlier env name)

abbrev pub no_more : Known → List Lexeme → Option (After (Unit {0}))
no_more env os = Some (record { tree = tt; known = env; rest = os })

abbrev pub enumerators_by : (Known → ℤ → List Lexeme → Option (After (Unit {0}))) → After ℤ → Option (After (Unit {0}))
enumerators_by again x = choose m.Comma x.rest (no_more x.known x.rest) (λ rest. choose m.CloseBrace rest (again x.known (x.tree +ℤ pos 1) rest) (λ after. no_more x.known rest))

-- enumerators up to the brace, with a last comma that may stand there
unfoldable pub enumerators_at : (turns : ℕ) → (earlier : List DeclTree) → ℕ → Known → (next : ℤ) → List Lexeme → Option (After (Unit {0}))
enumerators_at turns earlier zero env next os = None
enumerators_at turns earlier (suc n) env next os = enumerator_at turns earlier env next os >>= enumerators_by (enumerators_at turns earlier n)

-- ---- types with the tags and enumerations that they declare

pub record Specifier : Type 0 where
  pub ctype : TypeTree
  -- whether a list in braces stands there
  pub listed : Bool

pub record Specs : Type 0 where
  pub ctype : TypeTree
  pub said : Beside
  pub listed : Bool

abbrev pub got_specifier : ReadSpecifier → Known → After Specifier
got_specifier r env = record { tree = record { ctype = type_tree r.ctype; listed = r.listed }; known = env; rest = r.rest.now }

abbrev pub got_specs : ReadSpecs → Known → After Specs
got_specs r env = record { tree = record { ctype = type_tree r.ctype; said = said_tree r.said; listed = r.listed }; known = env; rest = r.rest.now }

-- a tag's place, and the names known after it
pub record Placed : Type 0 where
  pub place : ℕ
  pub known : Known

-- the same place, unless it is too great to be held
abbrev pub Narrow : ℕ → Result ℕ Stop → Type 0
Narrow at (Ok n) = n ≡ at
Narrow at (Err stop.NoMemory) = Unit {0}
Narrow at (Err stop.Unread) = ⊥

abbrev pub new_tag : Known → Bool → Option ℕ → Placed
new_tag env union name = record { place = length env.tags; known = with_tag env name union }

abbrev pub is_kind : Known → Bool → ℕ → Bool
is_kind env union at = same_kind union (option_map (λ t. t.union_) (slice_get env.tags at))

abbrev pub place_by : Known → Bool → ℕ → Option ℕ → Option Placed
place_by env union n None = Some (new_tag env union (Some n))
place_by env union n (Some at) = if_true (is_kind env union at) (Some (record { place = at; known = env }))

-- the place of a struct, or a union where it is true, which is declared where it is not
abbrev pub place_at : Known → Bool → Option ℕ → Option Placed
place_at env union None = Some (new_tag env union None)
place_at env union (Some n) = place_by env union n (tag_place env n)

abbrev pub plain_tag : List Lexeme → Placed → Option (After Specifier)
plain_tag rest p = Some (record { tree = record { ctype = tag p.place; listed = false }; known = p.known; rest = rest })

abbrev pub plain_base : Known → Option (expr.Got TypeTree) → Option (After Specifier)
plain_base env None = None
plain_base env (Some x) = Some (record { tree = record { ctype = x.tree; listed = false }; known = env; rest = x.rest })

abbrev pub plain_by : Known → List Lexeme → List Lexeme → Head → Option (After Specifier)
plain_by env os rest (h.Record union) = named rest (λ o n after. place_at env union (Some n) >>= plain_tag after)
plain_by env os rest h.Enum = plain_base env (base_at env 400 os)
plain_by env os rest h.Other = plain_base env (base_at env 400 os)

-- the words of a type without a list in braces
unfoldable pub plain_at : Known → List Lexeme → Option (After Specifier)
plain_at env os = at_lexeme os None (λ o rest. plain_by env os rest (head_of o.kind))

abbrev pub specs_of : Got Beside → After Specifier → Got Beside → After Specs
specs_of s x r = record { tree = record { ctype = x.tree.ctype; said = both_said s.tree r.tree; listed = x.tree.listed }; known = x.known; rest = r.rest }

-- the words of a type with the words beside it, without a list in braces
unfoldable pub plain_specs_at : (turns : ℕ) → Known → List Lexeme → Option (After Specs)
plain_specs_at turns env os =
    let s = beside_at turns true turns nothing_said os in
    plain_at env s.rest >>= λ x. Some (specs_of s x (beside_at turns true turns nothing_said x.rest))

-- ---- members

abbrev pub got_members : ReadMembers → Got (List MemberTree)
got_members r = record { tree = map member_tree r.members; rest = r.rest.now }

abbrev pub members_after : ReadMembers → Known → After (List MemberTree)
members_after r env = record { tree = map member_tree r.members; known = env; rest = r.rest.now }

-- the declarators of members, after those before them
unfoldable pub member_names_at : (turns : ℕ) → Known → TypeTree → ℕ → List MemberTree → List Lexeme → Option (Got (List MemberTree))
member_names_at turns env t zero ms os = None
member_names_at turns env t (suc n) ms os =
    object_at turns env t os >>= λ x. if_true (is_complete env x.tree.ctype)
    (choose m.Comma x.rest (Some (record { tree = ms ++ record { name = x.tree.name; ctype = x.tree.ctype } ∷ []; rest = x.rest }))
    (λ rest. member_names_at turns env t n (ms ++ record { name = x.tree.name; ctype = x.tree.ctype } ∷ []) rest))

abbrev pub names_member : ℕ → List MemberTree → Bool
names_member n ms = list_any (λ m. m.name == n) ms

-- no two members have one name
abbrev pub are_distinct : List MemberTree → Bool
are_distinct [] = true
are_distinct (m ∷ ms) = not (names_member m.name ms) && are_distinct ms

-- a struct or union, where it is Some, or an enumeration, with its name, whose list in braces follows
pub record Listing : Type 0 where
  pub union_ : Option Bool
  pub name : Option ℕ

abbrev pub got_listing : ReadListing → Got Listing
got_listing r = record { tree = record { union_ = r.union_; name = r.name }; rest = r.rest.now }

abbrev pub braced : Option Bool → Option ℕ → List Lexeme → Option (Got Listing)
braced union name os = choose m.OpenBrace os None (λ rest. Some (record { tree = record { union_ = union; name = name }; rest = rest }))

abbrev pub braced_name : Option Bool → List Lexeme → Option ℕ → Option (Got Listing)
braced_name union rest None = None
braced_name union rest (Some n) = braced union (Some n) rest

abbrev pub listing_after : Option Bool → List Lexeme → Option (Got Listing)
listing_after union os = at_lexeme os None (λ o rest. if fits m.OpenBrace o.kind then Some (record { tree = record { union_ = union; name = None }; rest = rest }) else braced_name union rest (name_of o.kind))

abbrev pub listing_by : List Lexeme → Head → Option (Got Listing)
listing_by rest (h.Record union) = listing_after (Some union) rest
listing_by rest h.Enum = listing_after None rest
listing_by rest h.Other = None

-- what stands before a list in braces, up to and with its first brace
unfoldable pub listing_at : List Lexeme → Option (Got Listing)
listing_at os = at_lexeme os None (λ o rest. listing_by rest (head_of o.kind))

abbrev pub named_enum : Option ℕ → Known → Known
named_enum None env = env
named_enum (Some n) env = with_enum env n

abbrev pub enum_listed : Option ℕ → After (Unit {0}) → After Specifier
enum_listed name x = record { tree = record { ctype = int signed_int; listed = true }; known = named_enum name x.known; rest = x.rest }

-- a tag with its members, the brace after them wanted
abbrev pub members_listed : Bool → Option ℕ → ℕ → After (List MemberTree) → Option (After Specifier)
members_listed union name at x =
    wanted m.CloseBrace x.rest (λ after. if_true (are_distinct x.tree && may_have x.known at x.tree)
    (Some (record { tree = record { ctype = tag at; listed = true }; known = with_members x.known at name union x.tree; rest = after })))

abbrev pub listed_by : (Known → List MemberTree → List Lexeme → Option (After (List MemberTree))) → (Known → List Lexeme → Option (After (Unit {0}))) → Known → Option ℕ → List Lexeme → Option Bool → Option (After Specifier)
listed_by members enumerators env name rest None = enumerators env rest >>= λ x. Some (enum_listed name x)
listed_by members enumerators env name rest (Some union) = place_at env union name >>= λ p. members p.known [] rest >>= members_listed union name p.place

-- enumerators up to the brace after them
abbrev pub enumerators_in : (turns : ℕ) → (earlier : List DeclTree) → Known → List Lexeme → Option (After (Unit {0}))
enumerators_in turns earlier env os = enumerators_at turns earlier turns env (pos 0) os >>= λ x. wanted m.CloseBrace x.rest (λ after. Some (record { tree = tt; known = x.known; rest = after }))

abbrev pub specifier_by : (Got Listing → Option (After Specifier)) → Option (After Specifier) → Option (Got Listing) → Option (After Specifier)
specifier_by list plain None = plain
specifier_by list plain (Some x) = list x

-- words and attributes after a type; no attribute stands beside a list in braces
abbrev pub specs_after : (turns : ℕ) → Got Beside → After Specifier → Option (After Specs)
specs_after turns s x = if_true (not (x.tree.listed && s.tree.attributed)) (Some (specs_of s x (beside_at turns (not x.tree.listed) turns nothing_said x.rest)))

abbrev pub line_names : (turns : ℕ) → List MemberTree → After Specs → Option (After (List MemberTree))
line_names turns ms s =
    if_true (not (s.tree.said.stored || s.tree.said.attributed))
    (member_names_at turns s.known s.tree.ctype turns ms s.rest >>= λ x. wanted m.Semicolon x.rest (λ after. Some (record { tree = x.tree; known = s.known; rest = after })))

abbrev pub members_by : (Known → List MemberTree → List Lexeme → Option (After (List MemberTree))) → After (List MemberTree) → Option (After (List MemberTree))
members_by again x = at_lexeme x.rest None (λ o rest. if fits m.CloseBrace o.kind then Some x else again x.known x.tree x.rest)

unfoldable mutual
  -- the words of a type with the words beside it
  pub specs_at : (turns : ℕ) → (earlier : List DeclTree) → ℕ → Known → List Lexeme → Option (After Specs)
  specs_at turns earlier zero env os = None
  specs_at turns earlier (suc n) env os = let s = beside_at turns true turns nothing_said os in specifier_at turns earlier n env s.rest >>= specs_after turns s

  -- the words of a type, with the list in braces where one follows
  pub specifier_at : (turns : ℕ) → (earlier : List DeclTree) → ℕ → Known → List Lexeme → Option (After Specifier)
  specifier_at turns earlier zero env os = None
  specifier_at turns earlier (suc n) env os =
      specifier_by (λ x. listed_by (members_at turns earlier n) (enumerators_in turns earlier) env x.tree.name x.rest x.tree.union_) (plain_at env os) (listing_at os)

  -- members up to the brace, after those before them
  pub members_at : (turns : ℕ) → (earlier : List DeclTree) → ℕ → Known → List MemberTree → List Lexeme → Option (After (List MemberTree))
  members_at turns earlier zero env ms os = None
  members_at turns earlier (suc n) env ms os = line_at turns earlier n env ms os >>= members_by (members_at turns earlier n)

  -- members of one line, after those before them
  pub line_at : (turns : ℕ) → (earlier : List DeclTree) → ℕ → Known → List MemberTree → List Lexeme → Option (After (List MemberTree))
  line_at turns earlier zero env ms os = None
  line_at turns earlier (suc n) env ms os = specs_at turns earlier n env os >>= line_names turns ms

-- ---- parameters

-- the lexemes before the rest
abbrev pub taken : List Lexeme → List Lexeme → List Lexeme
taken os rest = take (length os - length rest) os

-- a type, with the names that its sizes use
pub record Sized : Type 0 where
  pub ctype : TypeTree
  pub used : List ℕ

abbrev pub element_of : TypeTree → List ℕ → TypeTree
element_of t [] = adjusted t
element_of t (n ∷ ns) = pointer (arrays t ns)

abbrev pub param_open : (turns : ℕ) → Known → TypeTree → List Lexeme → Option (Got Sized)
param_open turns env t os =
    if_true (is_complete env t && nat_le (type_path (pointer t)) 400)
    (let x = sizes_at turns env (399 - type_path t) [] os in Some (record { tree = record { ctype = pointer (arrays t x.tree); used = names_used (taken os x.rest) }; rest = x.rest }))

abbrev pub param_sized : (turns : ℕ) → Known → TypeTree → List Lexeme → Got Sized
param_sized turns env t os = let x = sized_at turns env 400 t os in record { tree = record { ctype = element_of t x.tree; used = names_used (taken os x.rest) }; rest = x.rest }

abbrev pub got_sized : ReadSized → Got Sized
got_sized r = record { tree = record { ctype = type_tree r.ctype; used = r.used }; rest = r.rest.now }

-- what stands after the name of a parameter
unfoldable pub param_size_at : (turns : ℕ) → Known → TypeTree → List Lexeme → Option (Got Sized)
param_size_at turns env t os = choose m.OpenBracket os (Some (param_sized turns env t os)) (λ rest. choose m.CloseBracket rest (Some (param_sized turns env t os)) (λ after. param_open turns env t after))

pub record Used : Type 0 where
  pub param : ParamTree
  pub used : List ℕ

abbrev pub got_used : ReadUsed → Known → After Used
got_used r env = record { tree = record { param = param_tree r.param; used = r.used }; known = env; rest = r.rest.now }

abbrev pub with_name : Option ℕ → Known → Got Sized → Option (After Used)
with_name name env x = Some (record { tree = record { param = record { name = name; ctype = x.tree.ctype }; used = x.tree.used }; known = env; rest = x.rest })

abbrev pub unnamed : (turns : ℕ) → Known → Got TypeTree → Option (After Used)
unnamed turns env x = param_size_at turns env x.tree x.rest >>= with_name None env

abbrev pub param_by : (turns : ℕ) → Known → Got TypeTree → List Lexeme → Option ℕ → Option (After Used)
param_by turns env x rest None = unnamed turns env x
param_by turns env x rest (Some n) = if_true (not (names_type env n)) (param_size_at turns env x.tree rest >>= with_name (Some n) env)

-- after the stars of a parameter
abbrev pub param_named : (turns : ℕ) → Known → Got TypeTree → Option (After Used)
param_named turns env x = at_lexeme x.rest (unnamed turns env x) (λ o rest. param_by turns env x rest (name_of o.kind))

unfoldable pub param_at : (turns : ℕ) → Known → List Lexeme → Option (After Used)
param_at turns env os = plain_specs_at turns env os >>= λ s. if_true (not s.tree.said.attributed) (pointers_at turns 400 s.tree.ctype s.rest >>= param_named turns s.known)

pub record Params : Type 0 where
  pub params : List ParamTree
  pub used : List ℕ

abbrev pub params_tree : List Param → List ℕ → Params
params_tree qs ns = record { params = map param_tree qs; used = ns }

abbrev pub got_params : ReadParams → Known → After Params
got_params r env = record { tree = params_tree r.params r.used; known = env; rest = r.rest.now }

abbrev pub list_after : ReadParamList → Known → After (List ParamTree)
list_after r env = record { tree = map param_tree r.params; known = env; rest = r.rest.now }

abbrev pub names_param : ℕ → List ParamTree → Bool
names_param n qs = list_any (λ q. has_name n q.name) qs

abbrev pub also_param : Params → Used → Params
also_param qs q = record { params = qs.params ++ q.param ∷ []; used = qs.used ++ q.used }

-- parameters, after those before them
unfoldable pub params_at : (turns : ℕ) → ℕ → Known → Params → List Lexeme → Option (After Params)
params_at turns zero env qs os = None
params_at turns (suc n) env qs os =
    param_at turns env os >>= λ q. choose m.Comma q.rest (Some (record { tree = also_param qs q.tree; known = q.known; rest = q.rest })) (λ rest. params_at turns n q.known (also_param qs q.tree) rest)

abbrev pub no_params : Params
no_params = record { params = []; used = [] }

-- no parameter, up to the parenthesis
abbrev pub closes_params : List Lexeme → Bool
closes_params [] = false
closes_params (o ∷ os) = fits m.CloseParen o.kind

abbrev pub some_params : (turns : ℕ) → Known → List Lexeme → Option (After (List ParamTree))
some_params turns env os = params_at turns turns env no_params os >>= λ x. if_true (are_outside x.tree.params x.tree.used) (Some (record { tree = x.tree.params; known = x.known; rest = x.rest }))

-- what stands between the parentheses of a function, up to the one that closes
unfoldable pub param_list_at : (turns : ℕ) → Known → List Lexeme → Option (After (List ParamTree))
param_list_at turns env os =
    at_lexeme os None (λ o rest.
    if fits m.CloseParen o.kind then Some (record { tree = []; known = env; rest = os })
    else if is_void_word o.kind && closes_params rest then Some (record { tree = []; known = env; rest = rest })
    else some_params turns env os)

-- ---- declarations

-- a declarator: what it declares, and the lexeme of its name
pub record Declared : Type 0 where
  pub decl : DeclTree
  pub lexeme : Lexeme

abbrev pub declarator_tree : DeclaratorKind → DeclTree
declarator_tree (d.Object n t) = object n (type_tree t)
declarator_tree (d.Function s) = proto (signature_tree s)

abbrev pub got_declared : ReadDeclarator → Known → After Declared
got_declared r env = record { tree = record { decl = declarator_tree r.kind; lexeme = r.lexeme }; known = env; rest = r.rest.now }

abbrev pub decl_after : ReadDecl → Known → After DeclTree
decl_after r env = record { tree = decl_tree r.decl; known = env; rest = r.rest.now }

abbrev pub decls_after : ReadDecls → Known → After (List DeclTree)
decls_after r env = record { tree = map decl_tree r.decls; known = env; rest = r.rest.now }

abbrev pub declares_object : Known → Got Named → After Declared
declares_object env x = record { tree = record { decl = object x.tree.name x.tree.ctype; lexeme = x.tree.lexeme }; known = env; rest = x.rest }

-- goes on after the parenthesis of a function
unfoldable pub function_after : (turns : ℕ) → Known → Named → List Lexeme → Option (After Declared)
function_after turns env x os =
    param_list_at turns env os >>= λ q. wanted m.CloseParen q.rest (λ after.
    Some (record { tree = record { decl = proto (record { name = x.name; result = x.ctype; params = q.tree }); lexeme = x.lexeme }; known = q.known; rest = after_at turns turns after }))

-- a declarator of a function or an object
unfoldable pub declarator_at : (turns : ℕ) → Known → TypeTree → List Lexeme → Option (After Declared)
declarator_at turns env t os =
    name_at turns t os >>= λ x. choose m.OpenParen x.rest (Some (declares_object env (sizes_after turns env x))) (λ rest. function_after turns env x.tree rest)

-- an initialiser, where one stands there: the lexemes after it
unfoldable pub initialiser_at : (turns : ℕ) → Known → List Lexeme → Option (List Lexeme)
initialiser_at turns env os = choose m.Assign os (Some os) (λ rest. cond_at env turns 400 rest >>= λ x. if_true (is_constant env x.tree) (Some x.rest))

abbrev pub declared_type : (earlier : List DeclTree) → Known → List Lexeme → ℕ → TypeTree → Option (After DeclTree)
declared_type earlier env rest n t = if_true (may_be env earlier n (a_type t)) (Some (record { tree = types; known = with_typedef env n t; rest = rest }))

abbrev pub declared_object : (turns : ℕ) → (earlier : List DeclTree) → Known → List Lexeme → ℕ → TypeTree → Option (After DeclTree)
declared_object turns earlier env rest n t = if_true (may_be env earlier n (an_object t)) (initialiser_at turns env rest >>= λ after. Some (record { tree = object n t; known = env; rest = after }))

abbrev pub declared_function : (earlier : List DeclTree) → Known → List Lexeme → SignatureTree → Option (After DeclTree)
declared_function earlier env rest f = if_true (may_be env earlier f.name (function_type f)) (Some (record { tree = proto f; known = env; rest = rest }))

-- what a declarator declares, as a type where it is true
abbrev pub declared_by : (turns : ℕ) → (earlier : List DeclTree) → (typedef_ : Bool) → Known → List Lexeme → DeclTree → Option (After DeclTree)
declared_by turns earlier typedef_ env rest (object n t) = if typedef_ then declared_type earlier env rest n t else declared_object turns earlier env rest n t
declared_by turns earlier typedef_ env rest (proto f) = if typedef_ then None else declared_function earlier env rest f
declared_by turns earlier typedef_ env rest types = None
declared_by turns earlier typedef_ env rest (function f) = None

-- a declarator of a declaration
unfoldable pub init_declarator_at : (turns : ℕ) → (earlier : List DeclTree) → Known → TypeTree → (typedef_ : Bool) → List Lexeme → Option (After DeclTree)
init_declarator_at turns earlier env t typedef_ os = declarator_at turns env t os >>= λ x. declared_by turns earlier typedef_ x.known x.rest x.tree.decl

-- declarators of a declaration, after those before them
unfoldable pub init_declarators_at : (turns : ℕ) → (earlier : List DeclTree) → TypeTree → (typedef_ : Bool) → ℕ → Known → List DeclTree → List Lexeme → Option (After (List DeclTree))
init_declarators_at turns earlier t typedef_ zero env ds os = None
init_declarators_at turns earlier t typedef_ (suc n) env ds os =
    init_declarator_at turns (earlier ++ ds) env t typedef_ os >>= λ x.
    choose m.Comma x.rest (Some (record { tree = ds ++ x.tree ∷ []; known = x.known; rest = x.rest })) (λ rest. init_declarators_at turns earlier t typedef_ n x.known (ds ++ x.tree ∷ []) rest)

abbrev pub some_declarators : (turns : ℕ) → (earlier : List DeclTree) → After Specs → Option (After (List DeclTree))
some_declarators turns earlier s =
    init_declarators_at turns earlier s.tree.ctype s.tree.said.typedef_ turns s.known [] s.rest >>= λ x. wanted m.Semicolon x.rest (λ after.
    if_true (not (s.tree.said.attributed && not (list_all is_function x.tree))) (Some (record { tree = x.tree; known = x.known; rest = after })))

-- goes on after the type of a declaration
unfoldable pub declarators_after : (turns : ℕ) → (earlier : List DeclTree) → After Specs → Option (After (List DeclTree))
declarators_after turns earlier s = choose m.Semicolon s.rest (some_declarators turns earlier s) (λ after. if_true (not s.tree.said.attributed) (Some (record { tree = types ∷ []; known = s.known; rest = after })))

-- a declaration
unfoldable pub declaration_at : (turns : ℕ) → (earlier : List DeclTree) → Known → List Lexeme → Option (After (List DeclTree))
declaration_at turns earlier env os = specs_at turns earlier turns env os >>= declarators_after turns earlier

abbrev pub whole_after : List Decl → Known → After (List DeclTree)
whole_after ds env = record { tree = map decl_tree ds; known = env; rest = [] }

abbrev pub at_end : {A : Type 0} → After A → Option (After A)
at_end x = at_lexeme x.rest (Some (record x { rest = [] })) (λ o rest. None)

-- a declaration that is all of the lexemes
unfoldable pub whole_at : (turns : ℕ) → (earlier : List DeclTree) → Known → List Lexeme → Option (After (List DeclTree))
whole_at turns earlier env os = declaration_at turns earlier env os >>= at_end

-- ---- the longest fronts

-- a height, if not more than the most
abbrev pub Within : ℕ → Option ℕ → ℕ → Type 0
Within most None height = most < height
Within most (Some n) height = (n ≡ height) × (n ≤ most)

-- up to the first bracket that opens the 101st level, where n are open before
abbrev pub shallow_at : ℕ → List Lexeme → List Lexeme
shallow_at n [] = []
shallow_at n (o ∷ os) = if nat_le (open_after o.kind n) 100 then o ∷ shallow_at (open_after o.kind n) os else []

abbrev pub or_else : {A : Type 0} → Option A → Option A → Option A
or_else None other = other
or_else (Some x) other = Some x

-- the words of a type with the words beside it; without a list in braces, where that is not derived
unfoldable pub front_specs_at : (turns : ℕ) → (earlier : List DeclTree) → Known → List Lexeme → Option (After Specs)
front_specs_at turns earlier env os = or_else (specs_at turns earlier turns env os) (plain_specs_at turns env os)

abbrev pub object_front : Known → Option (Got Named) → Option (After Declared)
object_front env None = None
object_front env (Some x) = Some (declares_object env x)

-- a declarator; of an object, where the parameters are not derived
unfoldable pub front_declarator_at : (turns : ℕ) → Known → TypeTree → List Lexeme → Option (After Declared)
front_declarator_at turns env t os = or_else (declarator_at turns env t os) (object_front env (object_at turns env t os))
