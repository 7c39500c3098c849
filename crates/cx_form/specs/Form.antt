-- The rules that files of the straight-line form keep. Names are spoken of by their texts.
use Rattle.std.specs.Prelude.{◌≡◌, ◌≢◌, ℕ, ◌≤◌, List, [], length, map, Option, Some, None, IsSome, IfSome, All, option_map, option_and_then, find}
use Rattle.std.specs.List.{IsDistinct}
use Rattle.std.specs.Str.{bytes_eq}
use Rattle.cx_form.specs.declared.tree.Word.{Word}
use Rattle.cx_form.specs.declared.tree.ValueType.{ValueType}
use Rattle.cx_form.specs.declared.tree.ValueType.TheVariants as value
use Rattle.cx_form.specs.declared.tree.Member.{Member}
use Rattle.cx_form.specs.declared.tree.Struct.{Struct}
use Rattle.cx_form.specs.declared.tree.Parameter.{Parameter}
use Rattle.cx_form.specs.declared.tree.Statement.{Statement}
use Rattle.cx_form.specs.declared.tree.Statement.TheVariants.{Load, Store}
use Rattle.cx_form.specs.declared.tree.Ending.{Ending}
use Rattle.cx_form.specs.declared.tree.Function.{Function}
use Rattle.cx_form.specs.declared.tree.CFile.{CFile}
use Rattle.cx_form.specs.declared.tree.Argument.{Argument}
use Rattle.cx_form.specs.declared.tree.Argument.TheVariants as argument
use Rattle.cx_form.specs.declared.tree.RegionType.{RegionType}
use Rattle.cx_form.specs.declared.tree.FunctionType.{FunctionType}
use Rattle.cx_form.specs.declared.tree.TypeFile.{TypeFile}

-- no two of these texts are the same
abbrev pub AreDistinct : List (List ℕ) → Type 0
AreDistinct texts = IsDistinct bytes_eq texts

-- a C type of the form: none is `unsigned long`, a text is a pointer to the struct of that tag
abbrev pub CType : Type 0
CType = Option (List ℕ)

abbrev pub ctype_of : ValueType → CType
ctype_of value.UnsignedLong = None
ctype_of (value.Pointer tag) = Some tag.text

-- the first struct of a tag
abbrev pub struct_named : List Struct → List ℕ → Option Struct
struct_named structs tag = find (λ s. bytes_eq s.name.text tag) structs

-- the C type of the first member of a name
abbrev pub member_type : List Member → List ℕ → Option CType
member_type members name = option_map (λ m. ctype_of m.ctype) (find (λ m. bytes_eq m.name.text name) members)

-- the C type of the first parameter of a name; the variables of the statements are the parameters
abbrev pub variable_type : List Parameter → List ℕ → Option CType
variable_type parameters name = option_map (λ p. ctype_of p.ctype) (find (λ p. bytes_eq p.name.text name) parameters)

-- the C type of the member of a name in the struct to which a value of a C type points
abbrev pub member_through : List Struct → CType → List ℕ → Option CType
member_through structs None member = None
member_through structs (Some tag) member = option_and_then (λ s. member_type s.members member) (struct_named structs tag)

-- the C type of p->m: p is a parameter of type struct N *, and m a member of the struct N of the file
abbrev pub field_type : List Struct → List Parameter → List ℕ → List ℕ → Option CType
field_type structs parameters pointer member = option_and_then (λ t. member_through structs t member) (variable_type parameters pointer)

-- the struct that the C type names is one of the file
abbrev pub IsKnownType : List Struct → ValueType → Type 0
IsKnownType structs value.UnsignedLong = Unit {0}
IsKnownType structs (value.Pointer tag) = IsSome (struct_named structs tag.text)

-- both sides are known, and have one C type
pub record HasOneType (left right : Option CType) : Type 0 where
  pub type : CType
  pub of_left : left ≡ Some type
  pub of_right : right ≡ Some type

pub record IsStruct (structs : List Struct) (s : Struct) : Type 0 where
  pub filled : s.members ≢ []
  pub once : AreDistinct (map (λ m. m.name.text) s.members)
  pub known : All (λ m. IsKnownType structs m.ctype) s.members

-- `t = p->m` and `p->m = v`
abbrev pub IsStatement : List Struct → List Parameter → Statement → Type 0
IsStatement structs parameters (Load target pointer member) = HasOneType (variable_type parameters target.text) (field_type structs parameters pointer.text member.text)
IsStatement structs parameters (Store pointer member value) = HasOneType (field_type structs parameters pointer.text member.text) (variable_type parameters value.text)

-- a function of this result ends with a `return` of a variable of its C type; a void function has no `return`, or one without a name
abbrev pub Returns : List Parameter → Option ValueType → Option Word → Type 0
Returns parameters (Some t) (Some v) = variable_type parameters v.text ≡ Some (ctype_of t)
Returns parameters (Some t) None = ⊥
Returns parameters None (Some v) = ⊥
Returns parameters None None = Unit {0}

abbrev pub value_of : Option Ending → Option Word
value_of ending = option_and_then (λ e. e.value) ending

pub record IsFunction (structs : List Struct) (f : Function) : Type 0 where
  pub few : length f.parameters ≤ 8
  pub once : AreDistinct (map (λ p. p.name.text) f.parameters)
  pub known : All (λ p. IsKnownType structs p.ctype) f.parameters
  pub known_result : IfSome f.result (IsKnownType structs)
  pub statements : All (IsStatement structs f.parameters) f.body
  pub returned : Returns f.parameters f.result (value_of f.ending)

-- the rules of a C file
pub record IsCForm (c : CFile) : Type 0 where
  pub once : AreDistinct (map (λ s. s.name.text) c.structs)
  pub each_struct : All (IsStruct c.structs) c.structs
  pub the_function : IfSome c.function (IsFunction c.structs)

-- the region of a `ptr` is one of the file
abbrev pub IsKnownRegion : List RegionType → Argument → Type 0
IsKnownRegion regions argument.Any = Unit {0}
IsKnownRegion regions (argument.Pointer name) = IsSome (find (λ r. bytes_eq r.name.text name.text) regions)

-- the tag is a struct of the C file, whose members are all listed, in order
pub record IsRegion (structs : List Struct) (regions : List RegionType) (r : RegionType) : Type 0 where
  pub struct : Struct
  pub tagged : struct_named structs r.tag.text ≡ Some struct
  pub in_order : map (λ cell. cell.member.text) r.cells ≡ map (λ m. m.name.text) struct.members
  pub known : All (λ cell. IsKnownRegion regions cell.holds) r.cells

-- the result is void in both, or in neither
abbrev pub AreBothVoid : Option ValueType → Option Argument → Type 0
AreBothVoid None None = Unit {0}
AreBothVoid (Some t) (Some a) = Unit {0}
AreBothVoid None (Some a) = ⊥
AreBothVoid (Some t) None = ⊥

-- the `fn` line is about the function
pub record AreAgreed (regions : List RegionType) (f : Function) (g : FunctionType) : Type 0 where
  pub name : g.name.text ≡ f.name.text
  pub number : length g.arguments ≡ length f.parameters
  pub result : AreBothVoid f.result g.result
  pub known : All (IsKnownRegion regions) g.arguments
  pub known_result : IfSome g.result (IsKnownRegion regions)

-- the `fn` line and the function are both there or both missing
abbrev pub AreBoth : List RegionType → Option Function → Option FunctionType → Type 0
AreBoth regions None None = Unit {0}
AreBoth regions (Some f) (Some g) = AreAgreed regions f g
AreBoth regions None (Some g) = ⊥
AreBoth regions (Some f) None = ⊥

-- the rules of a type file beside its C file
pub record IsTypeForm (c : CFile) (t : TypeFile) : Type 0 where
  pub once : AreDistinct (map (λ r. r.name.text) t.regions)
  pub each_region : All (IsRegion c.structs t.regions) t.regions
  pub both : AreBoth t.regions c.function t.function
