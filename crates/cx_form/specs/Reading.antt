-- Reading tokens from left to right: a reader gives what it read and the tokens after it. The public functions' clauses tie these to the grammar.
use Rattle.std.specs.Prelude.{◌≡◌, ℕ, zero, suc, Bool, true, false, not, ◌&&◌, nat_le, max, if◌then◌else◌, List, [], ◌∷◌, ◌++◌, length, Option, Some, None, Result, Ok, Err, option_and_then, codes}
use Rattle.std.specs.Str.{bytes_eq}
use Rattle.std.specs.Borrow.{Bor}
use Rattle.std.proofs.Math.Nat.{le-max_left}
use Rattle.cx_base.specs.declared.span.Span.{Span}
use Rattle.cx_form.specs.declared.tree.Word.{Word}
use Rattle.cx_form.specs.declared.tree.ValueType.{ValueType}
use Rattle.cx_form.specs.declared.tree.ValueType.TheVariants as value
use Rattle.cx_form.specs.declared.tree.Member.{Member}
use Rattle.cx_form.specs.declared.tree.Struct.{Struct}
use Rattle.cx_form.specs.declared.tree.Parameter.{Parameter}
use Rattle.cx_form.specs.declared.tree.Statement.{Statement}
use Rattle.cx_form.specs.declared.tree.Statement.TheVariants.{Load, Store}
use Rattle.cx_form.specs.declared.tree.Ending.{Ending}
use Rattle.cx_form.specs.declared.tree.Function.{Function}
use Rattle.cx_form.specs.declared.tree.CFile.{CFile}
use Rattle.cx_form.specs.declared.tree.Argument.{Argument}
use Rattle.cx_form.specs.declared.tree.Argument.TheVariants as argument
use Rattle.cx_form.specs.declared.tree.Cell.{Cell}
use Rattle.cx_form.specs.declared.tree.RegionType.{RegionType}
use Rattle.cx_form.specs.declared.tree.FunctionType.{FunctionType}
use Rattle.cx_form.specs.declared.tree.TypeFile.{TypeFile}
use Rattle.cx_form.specs.declared.c_file.Body.{Body}
use Rattle.cx_form.specs.declared.read.Stop.{Stop}
use Rattle.cx_form.specs.declared.read.Stop.TheVariants as stop
use Rattle.cx_form.specs.Tokens.{tokens_of}
use Rattle.cx_form.specs.Grammar.{is_name}
use Rattle.cx_form.specs.Rules.{is_c_form, is_type_form}

abbrev pub Reader : Type 0 → Type 0
Reader A = List Word → Option (A × List Word)

-- what a function returned, seen by the view, is what is read, unless memory ran out
abbrev pub Stops : {B : Type 0} → Stop → Option B → Type 0
Stops stop.NoMemory read = Unit {0}
Stops stop.Unread read = read ≡ None

abbrev pub Gives : {A B : Type 0} → (A → B) → Result A Stop → Option B → Type 0
Gives view (Ok x) read = read ≡ Some (view x)
Gives view (Err e) read = Stops e read

-- a value and the tokens after it
abbrev pub got : {A : Type 0} → A × Bor (List Word) → A × List Word
got p = (p.0, p.1.now)

-- the first token and those after it
abbrev pub Splits : Option (Bor Word × Bor (List Word)) → List Word → Type 0
Splits None ts = ts ≡ []
Splits (Some p) ts = ts ≡ p.0.now ∷ p.1.now

infixl 10 ◌>>=◌
abbrev pub ◌>>=◌ : {A B : Type 0} → Option A → (A → Option B) → Option B
o >>= f = option_and_then f o

-- ---- tokens

-- the first token has this text
abbrev pub next_has : List ℕ → List Word → Bool
next_has text [] = false
next_has text (t ∷ ts) = bytes_eq t.text text

-- the first token is a NAME
abbrev pub next_names : List Word → Bool
next_names [] = false
next_names (t ∷ ts) = is_name t.text

-- the tokens after a fixed text
abbrev pub past : List ℕ → List Word → Option (List Word)
past text [] = None
past text (t ∷ ts) = if bytes_eq t.text text then Some ts else None

-- a fixed text, of which the place counts
abbrev pub placed_at : List ℕ → Reader Span
placed_at text [] = None
placed_at text (t ∷ ts) = if bytes_eq t.text text then Some (t.span, ts) else None

abbrev pub named_at : Reader Word
named_at [] = None
named_at (t ∷ ts) = if is_name t.text then Some (t, ts) else None

-- ---- ways to put readers together

-- a fixed text, and then this
abbrev pub before : {A : Type 0} → List ℕ → Reader A → Reader A
before text read ts = past text ts >>= read

-- this, and then a fixed text
abbrev pub closed : {A : Type 0} → Reader A → List ℕ → Reader A
closed read text ts = read ts >>= λ a. past text a.1 >>= λ rest. Some (a.0, rest)

abbrev pub mapped : {A B : Type 0} → (A → B) → Reader A → Reader B
mapped f read ts = read ts >>= λ a. Some (f a.0, a.1)

-- one after the other
abbrev pub both : {A B C : Type 0} → Reader A → Reader B → (A → B → C) → Reader C
both left right make ts = left ts >>= λ a. right a.1 >>= λ b. Some (make a.0 b.0, b.1)

abbrev pub pair : {A B : Type 0} → A → B → A × B
pair a b = (a, b)

-- no tokens read
abbrev pub nothing : Reader (Unit {0})
nothing ts = Some (tt, ts)

abbrev pub either : {A : Type 0} → (List Word → Bool) → Reader A → Reader A → Reader A
either test one other ts = if test ts then one ts else other ts

-- behind those that are read, at most so many more, while the next tokens pass the test
unfoldable pub many_from : {A : Type 0} → Reader A → (List Word → Bool) → ℕ → List A → Reader (List A)
many_from read test zero all ts = Some (all, ts)
many_from read test (suc n) all ts = if test ts then (read ts >>= λ a. many_from read test n (all ++ a.0 ∷ []) a.1) else Some (all, ts)

abbrev pub many : {A : Type 0} → Reader A → (List Word → Bool) → Reader (List A)
many read test ts = many_from read test (length ts) [] ts

-- ---- C files

unfoldable pub type_at : Reader ValueType
type_at = either (next_has (codes "struct")) (mapped value.Pointer (before (codes "struct") (closed named_at (codes "*")))) (mapped (λ _. value.UnsignedLong) (before (codes "unsigned") (before (codes "long") nothing)))

unfoldable pub member_at : Reader Member
member_at = both type_at (closed named_at (codes ";")) (λ t w. record { ctype = t; name = w })

abbrev pub goes_on_members : List Word → Bool
goes_on_members ts = not (next_has (codes "}") ts)

unfoldable pub members_at : Reader (List Member)
members_at = many member_at goes_on_members

unfoldable pub struct_at : Reader Struct
struct_at = before (codes "struct") (both named_at (before (codes "{") (closed (closed members_at (codes "}")) (codes ";"))) (λ w ms. record { name = w; members = ms }))

-- "struct", any token, "{"
abbrev pub begins_struct : List Word → Bool
begins_struct (s ∷ w ∷ ts) = bytes_eq s.text (codes "struct") && next_has (codes "{") ts
begins_struct ts = false

unfoldable pub structs_at : Reader (List Struct)
structs_at = many struct_at begins_struct

unfoldable pub result_at : Reader (Option ValueType)
result_at = either (next_has (codes "void")) (mapped (λ _. None) (before (codes "void") nothing)) (mapped Some type_at)

unfoldable pub parameter_at : Reader Parameter
parameter_at = both type_at named_at (λ t w. record { ctype = t; name = w })

-- "," param
abbrev pub next_parameter_at : Reader Parameter
next_parameter_at = before (codes ",") parameter_at

unfoldable pub more_parameters_at : Parameter → Reader (List Parameter)
more_parameters_at first ts = many_from next_parameter_at (next_has (codes ",")) (length ts) (first ∷ []) ts

unfoldable pub parameters_at : Reader (List Parameter)
parameters_at = either (next_has (codes "void")) (mapped (λ _. []) (before (codes "void") nothing)) (λ ts. parameter_at ts >>= λ p. more_parameters_at p.0 p.1)

-- what follows the first NAME of a statement
pub data Tail : Type 0 where
  loads : Word → Word → Tail
  stores : Word → Word → Tail

abbrev pub statement_of : Word → Tail → Statement
statement_of target (loads pointer member) = Load target pointer member
statement_of pointer (stores member value) = Store pointer member value

-- "=" NAME "->" NAME ";"
unfoldable pub load_at : Reader (Word × Word)
load_at = before (codes "=") (both (closed named_at (codes "->")) (closed named_at (codes ";")) pair)

-- "->" NAME "=" NAME ";"
unfoldable pub store_at : Reader (Word × Word)
store_at = before (codes "->") (both (closed named_at (codes "=")) (closed named_at (codes ";")) pair)

unfoldable pub tail_at : Reader Tail
tail_at = either (next_has (codes "=")) (mapped (λ p. loads p.0 p.1) load_at) (mapped (λ p. stores p.0 p.1) store_at)

unfoldable pub statement_at : Reader Statement
statement_at = both named_at tail_at statement_of

unfoldable pub statements_at : Reader (List Statement)
statements_at = many statement_at next_names

-- the span from one place up to another, where that is not before it
abbrev pub span_between : ℕ → ℕ → Option Span
span_between first past = if nat_le first past then Some (record { first = first; past = max first past; ordered = le-max_left first past }) else None

-- [ NAME ]
unfoldable pub returned_at : Reader (Option Word)
returned_at = either (next_has (codes ";")) (mapped (λ _. None) nothing) (mapped Some named_at)

abbrev pub ended_by : Span → Option Word → Span × List Word → Option (Option Ending × List Word)
ended_by begun value end = span_between begun.first end.0.past >>= λ s. Some (Some (record { span = s; value = value }), end.1)

unfoldable pub return_at : Reader (Option Ending)
return_at ts = placed_at (codes "return") ts >>= λ begun. returned_at begun.1 >>= λ value. placed_at (codes ";") value.1 >>= ended_by begun.0 value.0

unfoldable pub ending_at : Reader (Option Ending)
ending_at = either (next_has (codes "return")) return_at (mapped (λ _. None) nothing)

unfoldable pub block_at : Reader Body
block_at = before (codes "{") (both statements_at (closed ending_at (codes "}")) (λ ss e. record { body = ss; ending = e }))

abbrev pub function_of : Option ValueType → Word × (List Parameter × Body) → Function
function_of result parts = record { result = result; name = parts.0; parameters = parts.1.0; body = parts.1.1.body; ending = parts.1.1.ending }

unfoldable pub function_at : Reader Function
function_at = both result_at (both named_at (before (codes "(") (both parameters_at (before (codes ")") block_at) pair)) pair) function_of

abbrev pub is_end : List Word → Bool
is_end [] = true
is_end (t ∷ ts) = false

abbrev pub optional_at : {A : Type 0} → Reader A → Reader (Option A)
optional_at read = either is_end (mapped (λ _. None) nothing) (mapped Some read)

unfoldable pub c_file_at : Reader CFile
c_file_at = both structs_at (optional_at function_at) (λ ss f. record { structs = ss; function = f })

-- ---- type files

unfoldable pub argument_at : Reader Argument
argument_at = either (next_has (codes "any")) (mapped (λ _. argument.Any) (before (codes "any") nothing)) (mapped argument.Pointer (before (codes "ptr") named_at))

unfoldable pub held_at : Reader Argument
held_at = either (next_has (codes "any8")) (mapped (λ _. argument.Any) (before (codes "any8") nothing)) (mapped argument.Pointer (before (codes "ptr") named_at))

unfoldable pub cell_at : Reader Cell
cell_at = both named_at (before (codes ":") (closed held_at (codes ";"))) (λ w a. record { member = w; holds = a })

unfoldable pub cells_at : Reader (List Cell)
cells_at = many cell_at next_names

unfoldable pub region_at : Reader RegionType
region_at =
    before (codes "region") (both named_at (before (codes "=") (before (codes "struct") (both named_at (before (codes "{") (closed (closed cells_at (codes "}")) (codes ";"))) pair)))
    (λ w parts. record { name = w; tag = parts.0; cells = parts.1 }))

unfoldable pub regions_at : Reader (List RegionType)
regions_at = many region_at (next_has (codes "region"))

-- "," arg
abbrev pub next_argument_at : Reader Argument
next_argument_at = before (codes ",") argument_at

unfoldable pub more_arguments_at : Argument → Reader (List Argument)
more_arguments_at first ts = many_from next_argument_at (next_has (codes ",")) (length ts) (first ∷ []) ts

unfoldable pub arguments_at : Reader (List Argument)
arguments_at = either (next_has (codes ")")) (mapped (λ _. []) nothing) (λ ts. argument_at ts >>= λ a. more_arguments_at a.0 a.1)

unfoldable pub answer_at : Reader (Option Argument)
answer_at = either (next_has (codes "void")) (mapped (λ _. None) (before (codes "void") nothing)) (mapped Some argument_at)

unfoldable pub function_type_at : Reader FunctionType
function_type_at =
    before (codes "fn") (both named_at (before (codes "(") (both arguments_at (before (codes ")") (before (codes "->") (closed answer_at (codes ";")))) pair))
    (λ w parts. record { name = w; arguments = parts.0; result = parts.1 }))

unfoldable pub type_file_at : Reader TypeFile
type_file_at = both regions_at (optional_at function_type_at) (λ rs f. record { regions = rs; function = f })

-- ---- whole texts

-- what the tokens spell, all of them
abbrev pub whole : {A : Type 0} → Reader A → List Word → Option A
whole read ts = read ts >>= λ a. if is_end a.1 then Some a.0 else None

-- the C file of a text, which keeps the rules
unfoldable pub c_file_of : List ℕ → Option CFile
c_file_of bytes = tokens_of bytes >>= λ ts. whole c_file_at ts >>= λ c. if is_c_form c then Some c else None

-- the type file of a text, which keeps the rules beside the C file
unfoldable pub type_file_of : List ℕ → CFile → Option TypeFile
type_file_of bytes c = tokens_of bytes >>= λ ts. whole type_file_at ts >>= λ t. if is_type_form c t then Some t else None
