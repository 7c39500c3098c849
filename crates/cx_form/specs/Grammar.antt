-- The grammar of the straight-line form: how each part of a tree is spelled by tokens.
--
--   cfile  = { struct } [ func ]
--   struct = "struct" NAME "{" member { member } "}" ";"
--   type   = "unsigned" "long" | "struct" NAME "*"
--   member = type NAME ";"
--   func   = ("void" | type) NAME "(" ( "void" | param { "," param } ) ")" "{" { stmt } [ "return" [ NAME ] ";" ] "}"
--   param  = type NAME
--   stmt   = NAME "->" NAME "=" NAME ";" | NAME "=" NAME "->" NAME ";"
--   tfile  = { region } [ fn ]
--   region = "region" NAME "=" "struct" NAME "{" { cell } "}" ";"
--   cell   = NAME ":" ( "any8" | "ptr" NAME ) ";"
--   fn     = "fn" NAME "(" [ arg { "," arg } ] ")" "->" ( "void" | arg ) ";"
--   arg    = "any" | "ptr" NAME
use Rattle.std.specs.Prelude.{◌≡◌, ℕ, Bool, true, false, ◌&&◌, ◌||◌, not, List, [], ◌∷◌, ◌++◌, length, nat_lt, take, drop, Option, Some, None, codes}
use Rattle.std.specs.List.{list_any, list_all, flat_map}
use Rattle.std.specs.Str.{bytes_eq}
use Rattle.cx_form.specs.declared.tree.Word.{Word}
use Rattle.cx_form.specs.declared.tree.ValueType.{ValueType}
use Rattle.cx_form.specs.declared.tree.ValueType.TheVariants as value
use Rattle.cx_form.specs.declared.tree.Member.{Member}
use Rattle.cx_form.specs.declared.tree.Struct.{Struct}
use Rattle.cx_form.specs.declared.tree.Parameter.{Parameter}
use Rattle.cx_form.specs.declared.tree.Statement.{Statement}
use Rattle.cx_form.specs.declared.tree.Statement.TheVariants.{Load, Store}
use Rattle.cx_form.specs.declared.tree.Ending.{Ending}
use Rattle.cx_form.specs.declared.tree.Function.{Function}
use Rattle.cx_form.specs.declared.tree.CFile.{CFile}
use Rattle.cx_form.specs.declared.tree.Argument.{Argument}
use Rattle.cx_form.specs.declared.tree.Argument.TheVariants as argument
use Rattle.cx_form.specs.declared.tree.Cell.{Cell}
use Rattle.cx_form.specs.declared.tree.RegionType.{RegionType}
use Rattle.cx_form.specs.declared.tree.FunctionType.{FunctionType}
use Rattle.cx_form.specs.declared.tree.TypeFile.{TypeFile}
use Rattle.cx_form.specs.Tokens.{starts_name, is_digit}

-- the keywords of C (C11 6.4.1), and the reserved words of type files
unfoldable pub reserved : List (List ℕ)
reserved =
    codes "auto" ∷ codes "break" ∷ codes "case" ∷ codes "char" ∷ codes "const" ∷ codes "continue" ∷ codes "default" ∷ codes "do" ∷ codes "double" ∷ codes "else" ∷ codes "enum" ∷ codes "extern" ∷ codes "float" ∷ codes "for" ∷ codes "goto" ∷ codes "if"
    ∷ codes "inline" ∷ codes "int" ∷ codes "long" ∷ codes "register" ∷ codes "restrict" ∷ codes "return" ∷ codes "short" ∷ codes "signed" ∷ codes "sizeof" ∷ codes "static" ∷ codes "struct" ∷ codes "switch" ∷ codes "typedef" ∷ codes "union" ∷ codes "unsigned"
    ∷ codes "void" ∷ codes "volatile" ∷ codes "while" ∷ codes "_Alignas" ∷ codes "_Alignof" ∷ codes "_Atomic" ∷ codes "_Bool" ∷ codes "_Complex" ∷ codes "_Generic" ∷ codes "_Imaginary" ∷ codes "_Noreturn" ∷ codes "_Static_assert" ∷ codes "_Thread_local"
    ∷ codes "region" ∷ codes "some" ∷ codes "of" ∷ codes "where" ∷ codes "cases" ∷ codes "when" ∷ codes "any" ∷ codes "val" ∷ codes "ptr" ∷ codes "null" ∷ codes "as" ∷ codes "fn" ∷ codes "alloc" ∷ codes "bytes" ∷ codes "zero" ∷ codes "global" ∷ []

-- the words that GNU C adds, and its spellings of words of C: a compiler reads none of them as a name
unfoldable pub gnu_words : List (List ℕ)
gnu_words =
    codes "asm" ∷ codes "typeof" ∷ codes "__RTL" ∷ codes "__seg_fs" ∷ codes "__seg_gs" ∷ codes "__alignof" ∷ codes "__alignof__" ∷ codes "__asm" ∷
    codes "__asm__" ∷ codes "__attribute" ∷ codes "__attribute__" ∷ codes "__auto_type" ∷ codes "__auto_type__" ∷ codes "__complex" ∷
    codes "__complex__" ∷ codes "__const" ∷ codes "__const__" ∷ codes "__extension" ∷ codes "__extension__" ∷ codes "__imag" ∷ codes "__imag__" ∷
    codes "__inline" ∷ codes "__inline__" ∷ codes "__int128" ∷ codes "__int128__" ∷ codes "__label" ∷ codes "__label__" ∷ codes "__real" ∷
    codes "__real__" ∷ codes "__restrict" ∷ codes "__restrict__" ∷ codes "__signed" ∷ codes "__signed__" ∷ codes "__thread" ∷ codes "__thread__" ∷
    codes "__typeof" ∷ codes "__typeof__" ∷ codes "__volatile" ∷ codes "__volatile__" ∷ []

-- one digit or more
abbrev pub are_digits : List ℕ → Bool
are_digits text = nat_lt 0 (length text) && list_all is_digit text

-- this stem, and then digits
abbrev pub is_stem_with_digits : List ℕ → List ℕ → Bool
is_stem_with_digits stem text = bytes_eq (take (length stem) text) stem && are_digits (drop (length stem) text)

-- `any`, `u` or `s`, and then digits: a reserved word too
abbrev pub is_sized : List ℕ → Bool
is_sized text = is_stem_with_digits (codes "any") text || is_stem_with_digits (codes "u") text || is_stem_with_digits (codes "s") text

-- a Name that is no reserved word
abbrev pub is_name : List ℕ → Bool
is_name [] = false
is_name (b ∷ bs) = starts_name b && not (list_any (bytes_eq (b ∷ bs)) reserved) && not (list_any (bytes_eq (b ∷ bs)) gnu_words) && not (is_sized (b ∷ bs))

-- what one token is to be: the NAME of the tree, at its place; or a fixed text, which may have to begin or to end at a place that the tree tells
pub data Piece : Type 0 where
  named : Word → Piece
  fixed : List ℕ → Piece
  fixed_from : ℕ → List ℕ → Piece
  fixed_upto : List ℕ → ℕ → Piece

abbrev pub Fits : Piece → Word → Type 0
Fits (named w) t = (w ≡ t) × (is_name t.text ≡ true)
Fits (fixed text) t = t.text ≡ text
Fits (fixed_from first text) t = (t.text ≡ text) × (t.span.first ≡ first)
Fits (fixed_upto text past) t = (t.text ≡ text) × (t.span.past ≡ past)

-- the tokens begin with these pieces, one by one, and go on with the rest
unfoldable pub Spells : List Piece → List Word → List Word → Type 0
Spells [] ts rest = ts ≡ rest
Spells (p ∷ ps) [] rest = ⊥
Spells (p ∷ ps) (t ∷ ts) rest = Fits p t × Spells ps ts rest

-- ---- C files

-- type = "unsigned" "long" | "struct" NAME "*"
abbrev pub type_pieces : ValueType → List Piece
type_pieces value.UnsignedLong = fixed (codes "unsigned") ∷ fixed (codes "long") ∷ []
type_pieces (value.Pointer tag) = fixed (codes "struct") ∷ named tag ∷ fixed (codes "*") ∷ []

-- member = type NAME ";"
abbrev pub member_pieces : Member → List Piece
member_pieces m = type_pieces m.ctype ++ named m.name ∷ fixed (codes ";") ∷ []

-- struct = "struct" NAME "{" member { member } "}" ";"   (that there is a member is a rule of Form)
abbrev pub struct_pieces : Struct → List Piece
struct_pieces s = fixed (codes "struct") ∷ named s.name ∷ fixed (codes "{") ∷ flat_map member_pieces s.members ++ fixed (codes "}") ∷ fixed (codes ";") ∷ []

-- "void" | type
abbrev pub result_pieces : Option ValueType → List Piece
result_pieces None = fixed (codes "void") ∷ []
result_pieces (Some t) = type_pieces t

-- param = type NAME
abbrev pub parameter_pieces : Parameter → List Piece
parameter_pieces p = type_pieces p.ctype ++ named p.name ∷ []

-- "," param
abbrev pub next_parameter_pieces : Parameter → List Piece
next_parameter_pieces p = fixed (codes ",") ∷ parameter_pieces p

-- "void" | param { "," param }
abbrev pub parameters_pieces : List Parameter → List Piece
parameters_pieces [] = fixed (codes "void") ∷ []
parameters_pieces (p ∷ ps) = parameter_pieces p ++ flat_map next_parameter_pieces ps

-- stmt = NAME "=" NAME "->" NAME ";" | NAME "->" NAME "=" NAME ";"
abbrev pub statement_pieces : Statement → List Piece
statement_pieces (Load target pointer member) = named target ∷ fixed (codes "=") ∷ named pointer ∷ fixed (codes "->") ∷ named member ∷ fixed (codes ";") ∷ []
statement_pieces (Store pointer member value) = named pointer ∷ fixed (codes "->") ∷ named member ∷ fixed (codes "=") ∷ named value ∷ fixed (codes ";") ∷ []

-- [ NAME ] ";", of which the last byte ends at a place
abbrev pub value_pieces : Option Word → ℕ → List Piece
value_pieces None past = fixed_upto (codes ";") past ∷ []
value_pieces (Some w) past = named w ∷ fixed_upto (codes ";") past ∷ []

-- [ "return" [ NAME ] ";" ], where the span of the tree is that of the whole
abbrev pub ending_pieces : Option Ending → List Piece
ending_pieces None = []
ending_pieces (Some e) = fixed_from e.span.first (codes "return") ∷ value_pieces e.value e.span.past

-- "{" { stmt } [ "return" [ NAME ] ";" ] "}"
abbrev pub block_pieces : List Statement → Option Ending → List Piece
block_pieces body ending = fixed (codes "{") ∷ flat_map statement_pieces body ++ (ending_pieces ending ++ fixed (codes "}") ∷ [])

-- func = ("void" | type) NAME "(" ( "void" | param { "," param } ) ")" "{" { stmt } [ "return" [ NAME ] ";" ] "}"
abbrev pub function_pieces : Function → List Piece
function_pieces f = result_pieces f.result ++ (named f.name ∷ fixed (codes "(") ∷ parameters_pieces f.parameters ++ (fixed (codes ")") ∷ block_pieces f.body f.ending))

abbrev pub optional_pieces : {A : Type 0} → (A → List Piece) → Option A → List Piece
optional_pieces pieces None = []
optional_pieces pieces (Some x) = pieces x

-- cfile = { struct } [ func ]
abbrev pub c_file_pieces : CFile → List Piece
c_file_pieces c = flat_map struct_pieces c.structs ++ optional_pieces function_pieces c.function

-- ---- type files

-- arg = "any" | "ptr" NAME
abbrev pub argument_pieces : Argument → List Piece
argument_pieces argument.Any = fixed (codes "any") ∷ []
argument_pieces (argument.Pointer region) = fixed (codes "ptr") ∷ named region ∷ []

-- "any8" | "ptr" NAME
abbrev pub held_pieces : Argument → List Piece
held_pieces argument.Any = fixed (codes "any8") ∷ []
held_pieces (argument.Pointer region) = fixed (codes "ptr") ∷ named region ∷ []

-- cell = NAME ":" ( "any8" | "ptr" NAME ) ";"
abbrev pub cell_pieces : Cell → List Piece
cell_pieces cell = named cell.member ∷ fixed (codes ":") ∷ held_pieces cell.holds ++ fixed (codes ";") ∷ []

-- region = "region" NAME "=" "struct" NAME "{" { cell } "}" ";"
abbrev pub region_pieces : RegionType → List Piece
region_pieces r = fixed (codes "region") ∷ named r.name ∷ fixed (codes "=") ∷ fixed (codes "struct") ∷ named r.tag ∷ fixed (codes "{") ∷ flat_map cell_pieces r.cells ++ fixed (codes "}") ∷ fixed (codes ";") ∷ []

-- "," arg
abbrev pub next_argument_pieces : Argument → List Piece
next_argument_pieces a = fixed (codes ",") ∷ argument_pieces a

-- [ arg { "," arg } ]
abbrev pub arguments_pieces : List Argument → List Piece
arguments_pieces [] = []
arguments_pieces (a ∷ rest) = argument_pieces a ++ flat_map next_argument_pieces rest

-- "void" | arg
abbrev pub answer_pieces : Option Argument → List Piece
answer_pieces None = fixed (codes "void") ∷ []
answer_pieces (Some a) = argument_pieces a

-- fn = "fn" NAME "(" [ arg { "," arg } ] ")" "->" ( "void" | arg ) ";"
abbrev pub function_type_pieces : FunctionType → List Piece
function_type_pieces f = fixed (codes "fn") ∷ named f.name ∷ fixed (codes "(") ∷ arguments_pieces f.arguments ++ (fixed (codes ")") ∷ fixed (codes "->") ∷ answer_pieces f.result ++ fixed (codes ";") ∷ [])

-- tfile = { region } [ fn ]
abbrev pub type_file_pieces : TypeFile → List Piece
type_file_pieces t = flat_map region_pieces t.regions ++ optional_pieces function_type_pieces t.function
