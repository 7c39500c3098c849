-- The rules of Form as tests.
use Rattle.std.specs.Prelude.{◌≡◌, ℕ, Bool, true, false, not, ◌&&◌, nat_le, nat_eq, List, [], ◌∷◌, length, Option, Some, None, find}
use Rattle.std.specs.List.{list_any, list_all}
use Rattle.std.specs.Str.{bytes_eq}
use Rattle.std.specs.Borrow.{Bor}
use Rattle.cx_form.specs.declared.tree.Word.{Word}
use Rattle.cx_form.specs.declared.tree.ValueType.{ValueType}
use Rattle.cx_form.specs.declared.tree.ValueType.TheVariants as value
use Rattle.cx_form.specs.declared.tree.Member.{Member}
use Rattle.cx_form.specs.declared.tree.Struct.{Struct}
use Rattle.cx_form.specs.declared.tree.Parameter.{Parameter}
use Rattle.cx_form.specs.declared.tree.Statement.{Statement}
use Rattle.cx_form.specs.declared.tree.Statement.TheVariants.{Load, Store}
use Rattle.cx_form.specs.declared.tree.Function.{Function}
use Rattle.cx_form.specs.declared.tree.CFile.{CFile}
use Rattle.cx_form.specs.declared.tree.Argument.{Argument}
use Rattle.cx_form.specs.declared.tree.Argument.TheVariants as argument
use Rattle.cx_form.specs.declared.tree.Cell.{Cell}
use Rattle.cx_form.specs.declared.tree.RegionType.{RegionType}
use Rattle.cx_form.specs.declared.tree.FunctionType.{FunctionType}
use Rattle.cx_form.specs.declared.tree.TypeFile.{TypeFile}
use Rattle.cx_form.specs.Form.{CType, ctype_of, struct_named, variable_type, field_type, value_of}

-- the first item and those after it
abbrev pub Splits : {A : Type 0} → Option (Bor A × Bor (List A)) → List A → Type 0
Splits None xs = xs ≡ []
Splits (Some p) xs = xs ≡ p.0.now ∷ p.1.now

abbrev pub is_there : {A : Type 0} → Option A → Bool
is_there None = false
is_there (Some x) = true

abbrev pub holds_if_there : {A : Type 0} → (A → Bool) → Option A → Bool
holds_if_there test None = true
holds_if_there test (Some x) = test x

abbrev pub holds_of : {A : Type 0} → (A → Bool) → Option A → Bool
holds_of test None = false
holds_of test (Some x) = test x

-- no two have one name
abbrev pub are_distinct : {A : Type 0} → (A → List ℕ) → List A → Bool
are_distinct name [] = true
are_distinct name (x ∷ xs) = not (list_any (λ y. bytes_eq (name x) (name y)) xs) && are_distinct name xs

abbrev pub are_filled : List Member → Bool
are_filled [] = false
are_filled (m ∷ ms) = true

abbrev pub is_known_type : List Struct → ValueType → Bool
is_known_type structs value.UnsignedLong = true
is_known_type structs (value.Pointer tag) = is_there (struct_named structs tag.text)

abbrev pub are_same_type : CType → CType → Bool
are_same_type None None = true
are_same_type (Some a) (Some b) = bytes_eq a b
are_same_type _ _ = false

abbrev pub have_one_type : Option CType → Option CType → Bool
have_one_type (Some a) (Some b) = are_same_type a b
have_one_type _ _ = false

unfoldable pub is_struct : List Struct → Struct → Bool
is_struct structs s = are_filled s.members && are_distinct (λ m. m.name.text) s.members && list_all (λ m. is_known_type structs m.ctype) s.members

unfoldable pub is_statement : List Struct → List Parameter → Statement → Bool
is_statement structs parameters (Load target pointer member) = have_one_type (variable_type parameters target.text) (field_type structs parameters pointer.text member.text)
is_statement structs parameters (Store pointer member value) = have_one_type (field_type structs parameters pointer.text member.text) (variable_type parameters value.text)

unfoldable pub returns : List Parameter → Option ValueType → Option Word → Bool
returns parameters (Some t) (Some v) = have_one_type (variable_type parameters v.text) (Some (ctype_of t))
returns parameters None None = true
returns parameters _ _ = false

unfoldable pub is_function : List Struct → Function → Bool
is_function structs f =
    nat_le (length f.parameters) 8 && are_distinct (λ p. p.name.text) f.parameters && list_all (λ p. is_known_type structs p.ctype) f.parameters && holds_if_there (is_known_type structs) f.result
    && list_all (is_statement structs f.parameters) f.body && returns f.parameters f.result (value_of f.ending)

unfoldable pub is_c_form : CFile → Bool
is_c_form c = are_distinct (λ s. s.name.text) c.structs && list_all (is_struct c.structs) c.structs && holds_if_there (is_function c.structs) c.function

abbrev pub is_known_region : List RegionType → Argument → Bool
is_known_region regions argument.Any = true
is_known_region regions (argument.Pointer name) = is_there (find (λ r. bytes_eq r.name.text name.text) regions)

-- the cells have the names of the members, in order
unfoldable pub are_in_order : List Cell → List Member → Bool
are_in_order [] [] = true
are_in_order (cell ∷ cells) (m ∷ ms) = bytes_eq cell.member.text m.name.text && are_in_order cells ms
are_in_order _ _ = false

unfoldable pub is_region : List Struct → List RegionType → RegionType → Bool
is_region structs regions r = holds_of (λ s. are_in_order r.cells s.members) (struct_named structs r.tag.text) && list_all (λ cell. is_known_region regions cell.holds) r.cells

unfoldable pub are_both_void : Option ValueType → Option Argument → Bool
are_both_void None None = true
are_both_void (Some t) (Some a) = true
are_both_void _ _ = false

unfoldable pub are_agreed : List RegionType → Function → FunctionType → Bool
are_agreed regions f g =
    bytes_eq g.name.text f.name.text && nat_eq (length g.arguments) (length f.parameters) && are_both_void f.result g.result && list_all (is_known_region regions) g.arguments && holds_if_there (is_known_region regions) g.result

unfoldable pub are_both : List RegionType → Option Function → Option FunctionType → Bool
are_both regions None None = true
are_both regions (Some f) (Some g) = are_agreed regions f g
are_both regions _ _ = false

unfoldable pub is_type_form : CFile → TypeFile → Bool
is_type_form c t = are_distinct (λ r. r.name.text) t.regions && list_all (is_region c.structs t.regions) t.regions && are_both t.regions c.function t.function
