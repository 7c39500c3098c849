-- The tests of the rules decide the rules.
use Rattle.std.proofs.Common.{◌≡◌, ◌≢◌, ℕ, ◌≤◌, Bool, true, false, not, ◌&&◌, nat_le, nat_eq, List, [], ◌∷◌, length, map, Option, Some, None, IsSome, IfSome, refl, sym, ap, ◌∙◌, arith, inl, inr}
use Rattle.std.specs.List.{All, list_any, list_all, find, IsDistinct, AllByRecursion}
use Rattle.std.specs.Str.{bytes_eq}
use Rattle.std.specs.Bool.{Decides}
use Rattle.std.proofs.lemmas.Bool.{cases_Bool}
use Rattle.std.proofs.lemmas.Bool.Decides.{nat_tests}
use Rattle.std.proofs.lemmas.List.Sums.{AllPass-from_list_all, list_all-from_AllPass}
use Rattle.cx_base.proofs.General.{both_true}
use Rattle.cx_form.specs.declared.tree.Word.{Word}
use Rattle.cx_form.specs.declared.tree.ValueType.{ValueType}
use Rattle.cx_form.specs.declared.tree.ValueType.TheVariants as value
use Rattle.cx_form.specs.declared.tree.Member.{Member}
use Rattle.cx_form.specs.declared.tree.Struct.{Struct}
use Rattle.cx_form.specs.declared.tree.Parameter.{Parameter}
use Rattle.cx_form.specs.declared.tree.Statement.{Statement}
use Rattle.cx_form.specs.declared.tree.Statement.TheVariants.{Load, Store}
use Rattle.cx_form.specs.declared.tree.Function.{Function}
use Rattle.cx_form.specs.declared.tree.CFile.{CFile}
use Rattle.cx_form.specs.declared.tree.Argument.{Argument}
use Rattle.cx_form.specs.declared.tree.Argument.TheVariants as argument
use Rattle.cx_form.specs.declared.tree.Cell.{Cell}
use Rattle.cx_form.specs.declared.tree.RegionType.{RegionType}
use Rattle.cx_form.specs.declared.tree.FunctionType.{FunctionType}
use Rattle.cx_form.specs.declared.tree.TypeFile.{TypeFile}
use Rattle.cx_form.specs.Form.{AreDistinct, CType, ctype_of, struct_named, variable_type, field_type, value_of, IsKnownType, HasOneType, IsStruct, IsStatement, Returns, IsFunction, IsCForm, IsKnownRegion, IsRegion, AreBothVoid, AreAgreed, AreBoth, IsTypeForm}
use Rattle.cx_form.specs.Rules.{is_there, holds_if_there, holds_of, are_distinct, are_filled, is_known_type, are_same_type, have_one_type, is_struct, is_statement, returns, is_function, is_c_form, is_known_region, are_in_order, is_region, are_both_void, are_agreed, are_both, is_type_form}
use Rattle.cx_form.proofs.Texts.{same, is_same}

-- ---- tests put together

and_true : (p q : Bool) → p ≡ true → q ≡ true → (p && q) ≡ true
and_true true q e f = f
and_true false q e f = absurd cc

pub both : {p q : Bool} {P Q : Type 0} → Decides p P → Decides q Q → Decides (p && q) (P × Q)
both {p} {q} d e = (λ h. let k = both_true p q h in (d.0 k.0, e.0 k.1), λ h. and_true p q (d.1 h.0) (e.1 h.1))

-- the same for a rule with another shape
shaped : {p : Bool} {P Q : Type 0} → Decides p P → (P → Q) → (Q → P) → Decides p Q
shaped d f g = (λ h. f (d.0 h), λ h. d.1 (g h))

all_decides : {A : Type 0} {test : A → Bool} {Rule : A → Type 0} → ((x : A) → Decides (test x) (Rule x)) → (xs : List A) → Decides (list_all test xs) (All Rule xs)
all_decides {A} {test} {Rule} d xs = (λ h. let k = AllPass-from_list_all test xs h in λ i x l. (d _).0 (k i x l), λ h. list_all-from_AllPass test xs (λ i x l. (d _).1 (h i x l)))

if_there : {A : Type 0} {test : A → Bool} {Rule : A → Type 0} → ((x : A) → Decides (test x) (Rule x)) → (o : Option A) → Decides (holds_if_there test o) (IfSome o Rule)
if_there d None = (λ h. tt, λ h. refl)
if_there d (Some x) = d x

there : {A : Type 0} (o : Option A) → Decides (is_there o) (IsSome o)
there None = (λ h. absurd cc, λ h. absurd cc)
there (Some x) = (λ h. refl, λ h. refl)

-- ---- names

no_other : {A : Type 0} (name : A → List ℕ) (text : List ℕ) (xs : List A) → Decides (not (list_any (λ y. bytes_eq text (name y)) xs)) (AllByRecursion (λ other. bytes_eq text other ≡ false) (map name xs))
no_other name text [] = (λ h. tt, λ h. refl)
no_other name text (x ∷ xs) = let d = no_other name text xs in elim (cases_Bool (bytes_eq text (name x))) [
  | inl on ↦ (λ h. absurd (false_true (rw on at h)), λ h. absurd (false_true (sym h.0 ∙ on)))
  | inr off ↦ (λ h. (off, d.0 (rw off at h)), λ h. rw off (d.1 h.1))
]
  where
    false_true : false ≡ true → ⊥
    false_true e = cc

distinct_decides : {A : Type 0} (name : A → List ℕ) (xs : List A) → Decides (are_distinct name xs) (AreDistinct (map name xs))
unfolding IsDistinct
distinct_decides name [] = (λ h. tt, λ h. refl)
distinct_decides name (x ∷ xs) = both (no_other name (name x) xs) (distinct_decides name xs)

-- ---- C files

known_type : (structs : List Struct) (t : ValueType) → Decides (is_known_type structs t) (IsKnownType structs t)
known_type structs value.UnsignedLong = (λ h. tt, λ h. refl)
known_type structs (value.Pointer tag) = there (struct_named structs tag.text)

same_type : (a b : CType) → Decides (are_same_type a b) (a ≡ b)
same_type None None = (λ h. refl, λ h. refl)
same_type None (Some b) = (λ h. absurd cc, λ h. absurd cc)
same_type (Some a) None = (λ h. absurd cc, λ h. absurd cc)
same_type (Some a) (Some b) = (λ h. ap Some (is_same a b h), λ h. same a b cc)

one_type : (a b : Option CType) → Decides (have_one_type a b) (HasOneType a b)
one_type None b = (λ h. absurd cc, λ h. let e = h.of_left in absurd cc)
one_type (Some a) None = (λ h. absurd cc, λ h. let e = h.of_right in absurd cc)
one_type (Some a) (Some b) = (λ h. record { type = a; of_left = refl; of_right = ap Some (sym ((same_type a b).0 h)) }, λ h. let e = h.of_left in let f = h.of_right in (same_type a b).1 cc)

filled : (ms : List Member) → Decides (are_filled ms) (ms ≢ [])
filled [] = (λ h. absurd cc, λ h. absurd (h refl))
filled (m ∷ ms) = (λ h e. cc, λ h. refl)

struct_decides : (structs : List Struct) (s : Struct) → Decides (is_struct structs s) (IsStruct structs s)
unfolding is_struct
struct_decides structs s = shaped (both (both (filled s.members) (distinct_decides (λ m. m.name.text) s.members)) (all_decides (λ m. known_type structs m.ctype) s.members))
    (λ h. record { filled = h.0.0; once = h.0.1; known = h.1 }) (λ h. ((h.filled, h.once), h.known))

statement_decides : (structs : List Struct) (parameters : List Parameter) (s : Statement) → Decides (is_statement structs parameters s) (IsStatement structs parameters s)
unfolding is_statement
statement_decides structs parameters (Load target pointer member) = one_type (variable_type parameters target.text) (field_type structs parameters pointer.text member.text)
statement_decides structs parameters (Store pointer member value) = one_type (field_type structs parameters pointer.text member.text) (variable_type parameters value.text)

returns_decides : (parameters : List Parameter) (r : Option ValueType) (v : Option Word) → Decides (returns parameters r v) (Returns parameters r v)
unfolding returns
returns_decides parameters None None = (λ h. tt, λ h. refl)
returns_decides parameters None (Some v) = (λ h. absurd cc, λ h. absurd h)
returns_decides parameters (Some t) None = (λ h. absurd cc, λ h. absurd h)
returns_decides parameters (Some t) (Some v) = shaped (one_type (variable_type parameters v.text) (Some (ctype_of t)))
    (λ h. h.of_left ∙ sym h.of_right) (λ h. record { type = ctype_of t; of_left = h; of_right = refl })

le_decides : (n k : ℕ) → Decides (nat_le n k) (n ≤ k)
le_decides n k = (λ h. grind (arith, nat_tests), λ h. grind (arith, nat_tests))

function_decides : (structs : List Struct) (f : Function) → Decides (is_function structs f) (IsFunction structs f)
unfolding is_function
function_decides structs f = shaped
    (both (both (both (both (both (le_decides (length f.parameters) 8) (distinct_decides (λ p. p.name.text) f.parameters)) (all_decides (λ p. known_type structs p.ctype) f.parameters)) (if_there (known_type structs) f.result))
    (all_decides (statement_decides structs f.parameters) f.body)) (returns_decides f.parameters f.result (value_of f.ending)))
    (λ h. record { few = h.0.0.0.0.0; once = h.0.0.0.0.1; known = h.0.0.0.1; known_result = h.0.0.1; statements = h.0.1; returned = h.1 })
    (λ h. (((((h.few, h.once), h.known), h.known_result), h.statements), h.returned))

pub c_form_decides : (c : CFile) → Decides (is_c_form c) (IsCForm c)
unfolding is_c_form
c_form_decides c = shaped (both (both (distinct_decides (λ s. s.name.text) c.structs) (all_decides (struct_decides c.structs) c.structs)) (if_there (function_decides c.structs) c.function))
    (λ h. record { once = h.0.0; each_struct = h.0.1; the_function = h.1 }) (λ h. ((h.once, h.each_struct), h.the_function))

-- ---- type files

known_region : (regions : List RegionType) (a : Argument) → Decides (is_known_region regions a) (IsKnownRegion regions a)
known_region regions argument.Any = (λ h. tt, λ h. refl)
known_region regions (argument.Pointer name) = there (find (λ r. bytes_eq r.name.text name.text) regions)

in_order : (cells : List Cell) (ms : List Member) → Decides (are_in_order cells ms) (map (λ cell. cell.member.text) cells ≡ map (λ m. m.name.text) ms)
unfolding are_in_order
in_order [] [] = (λ h. refl, λ h. refl)
in_order [] (m ∷ ms) = (λ h. absurd cc, λ h. absurd cc)
in_order (c ∷ cells) [] = (λ h. absurd cc, λ h. absurd cc)
in_order (c ∷ cells) (m ∷ ms) = let d = in_order cells ms in (
  λ h. let k = both_true (bytes_eq c.member.text m.name.text) (are_in_order cells ms) h in let e = is_same c.member.text m.name.text k.0 in let f = d.0 k.1 in cc,
  λ h. and_true (bytes_eq c.member.text m.name.text) (are_in_order cells ms) (same c.member.text m.name.text cc) (d.1 cc),
)

record Listed (structs : List Struct) (r : RegionType) : Type 0 where
  struct : Struct
  tagged : struct_named structs r.tag.text ≡ Some struct
  in_order : map (λ cell. cell.member.text) r.cells ≡ map (λ m. m.name.text) struct.members

listed : (structs : List Struct) (r : RegionType) (o : Option Struct) → struct_named structs r.tag.text ≡ o → Decides (holds_of (λ s. are_in_order r.cells s.members) o) (Listed structs r)
listed structs r None e = (λ h. absurd cc, λ h. let k = h.tagged in absurd cc)
listed structs r (Some s) e = (
  λ h. record { struct = s; tagged = e; in_order = (in_order r.cells s.members).0 h },
  λ h. let same : h.struct ≡ s = (let k = h.tagged in cc) in (in_order r.cells s.members).1 (h.in_order ∙ ap (λ (v : Struct). map (λ m. m.name.text) v.members) same),
)

region_decides : (structs : List Struct) (regions : List RegionType) (r : RegionType) → Decides (is_region structs regions r) (IsRegion structs regions r)
unfolding is_region
region_decides structs regions r = shaped (both (listed structs r (struct_named structs r.tag.text) refl) (all_decides (λ cell. known_region regions cell.holds) r.cells))
    (λ h. record { struct = h.0.struct; tagged = h.0.tagged; in_order = h.0.in_order; known = h.1 }) (λ h. (record { struct = h.struct; tagged = h.tagged; in_order = h.in_order }, h.known))

void_decides : (r : Option ValueType) (a : Option Argument) → Decides (are_both_void r a) (AreBothVoid r a)
unfolding are_both_void
void_decides None None = (λ h. tt, λ h. refl)
void_decides None (Some a) = (λ h. absurd cc, λ h. absurd h)
void_decides (Some t) None = (λ h. absurd cc, λ h. absurd h)
void_decides (Some t) (Some a) = (λ h. tt, λ h. refl)

text_decides : (a b : List ℕ) → Decides (bytes_eq a b) (a ≡ b)
text_decides a b = (is_same a b, same a b)

eq_decides : (n k : ℕ) → Decides (nat_eq n k) (n ≡ k)
eq_decides n k = (λ h. grind (arith, nat_tests), λ h. grind (arith, nat_tests))

agreed_decides : (regions : List RegionType) (f : Function) (g : FunctionType) → Decides (are_agreed regions f g) (AreAgreed regions f g)
unfolding are_agreed
agreed_decides regions f g = shaped
    (both (both (both (both (text_decides g.name.text f.name.text) (eq_decides (length g.arguments) (length f.parameters))) (void_decides f.result g.result)) (all_decides (known_region regions) g.arguments)) (if_there (known_region regions) g.result))
    (λ h. record { name = h.0.0.0.0; number = h.0.0.0.1; result = h.0.0.1; known = h.0.1; known_result = h.1 })
    (λ h. ((((h.name, h.number), h.result), h.known), h.known_result))

both_decide : (regions : List RegionType) (f : Option Function) (g : Option FunctionType) → Decides (are_both regions f g) (AreBoth regions f g)
unfolding are_both
both_decide regions None None = (λ h. tt, λ h. refl)
both_decide regions None (Some g) = (λ h. absurd cc, λ h. absurd h)
both_decide regions (Some f) None = (λ h. absurd cc, λ h. absurd h)
both_decide regions (Some f) (Some g) = agreed_decides regions f g

pub type_form_decides : (c : CFile) (t : TypeFile) → Decides (is_type_form c t) (IsTypeForm c t)
unfolding is_type_form
type_form_decides c t = shaped (both (both (distinct_decides (λ r. r.name.text) t.regions) (all_decides (region_decides c.structs t.regions) t.regions)) (both_decide t.regions c.function t.function))
    (λ h. record { once = h.0.0; each_region = h.0.1; both = h.1 }) (λ h. ((h.once, h.each_region), h.both))
