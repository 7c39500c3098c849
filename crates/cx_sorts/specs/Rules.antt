-- The rules by sorts. Of each variable it is known that it points to the base of a region of some region type, or nothing.
-- A statement through p wants that p points to a region (else C2, address not shown to lie in a region), and that the member
-- lies inside it (else C4, access not shown inside its region). A store of x into a cell that holds pointers wants that x
-- points to a region of their type (else C5), and so does a return (else C14, result not shown of its type). The first
-- condition that is not shown ends the function.
use Rattle.std.specs.Prelude.{ℕ, ◌+◌, ◌^◌, List, [], ◌∷◌, map, find, Bool, true, false, nat_eq, nat_le, nat_lt, if◌then◌else◌, Option, Some, None, option_map, option_and_then, ok_or, slice_get, slice_set, Result, Ok, Err}
use Rattle.std.specs.Option.{option_map_or, option_eq}
use Rattle.cx_base.specs.declared.span.Span.{Span}
use Rattle.cx_form.specs.declared.tree.Word.{Word}
use Rattle.cx_form.specs.declared.tree.Struct.{Struct}
use Rattle.cx_form.specs.declared.tree.Statement.{Statement}
use Rattle.cx_form.specs.declared.tree.Statement.TheVariants.{Load, Store}
use Rattle.cx_form.specs.declared.tree.Argument.{Argument}
use Rattle.cx_form.specs.declared.tree.Argument.TheVariants as argument
use Rattle.cx_form.specs.declared.tree.Cell.{Cell}
use Rattle.cx_form.specs.declared.tree.RegionType.{RegionType}
use Rattle.cx_form.specs.declared.tree.Ending.{Ending}
use Rattle.cx_form.specs.declared.tree.CFile.{CFile}
use Rattle.cx_form.specs.declared.tree.Function.{Function}
use Rattle.cx_form.specs.declared.tree.FunctionType.{FunctionType}
use Rattle.cx_form.specs.declared.tree.TypeFile.{TypeFile}
use Rattle.cx_sorts.specs.declared.verdict.Access.{Access}
use Rattle.cx_sorts.specs.declared.verdict.Condition.{Condition}
use Rattle.cx_sorts.specs.declared.verdict.Verdict.{Verdict}
use Rattle.cx_sorts.specs.declared.verdict.Sort.{Sort}
use Rattle.cx_sorts.specs.declared.verdict.Sort.TheVariants.{Any, Pointer}
use Rattle.cx_sorts.specs.Chain.{◌>>=◌}
use Rattle.cx_sorts.specs.Names.{struct_of, variable, place_of}
use Rattle.cx_sorts.specs.Layout.{offset_of, struct_size}
use Rattle.cx_sorts.specs.Meaning.{cover, member_offset}

-- the region type of this name, by its place in the type file, which is a number of 4 bytes; no file that is read has more
abbrev pub region_of : TypeFile → Word → Option ℕ
region_of types name = option_and_then (λ k. if nat_lt k (2 ^ 32) then Some k else None) (place_of types name)

-- what is known of a value that holds this type
abbrev pub sort_of : TypeFile → Argument → Sort
sort_of types argument.Any = Any
sort_of types (argument.Pointer name) = option_map_or Pointer (region_of types name) Any

-- the region type to whose regions a value of this sort points
abbrev pub target_of : Sort → Option ℕ
target_of Any = None
target_of (Pointer k) = Some k

-- the region type to whose regions a variable points, where that is known
abbrev pub known_target : Function → List Sort → Word → Option ℕ
known_target f sorts x = option_and_then target_of (option_and_then (slice_get sorts) (variable f x))

-- a region type with its struct
abbrev pub region_type : CFile → TypeFile → ℕ → Option (RegionType × Struct)
region_type c types k = option_and_then (λ type. option_map (λ s. (type, s)) (struct_of c type.tag)) (slice_get types.regions k)

-- what the cell at this offset of a region holds
abbrev pub cell_at : RegionType → Struct → ℕ → Option Argument
cell_at type s offset =
    option_map (λ (cell : Cell). cell.holds) (find (λ (cell : Cell). option_eq nat_eq (offset_of s cell.member) (Some offset)) type.cells)

-- the offset, where the 8 bytes from there on lie inside a region of this size
abbrev pub within : ℕ → ℕ → Option ℕ
within size offset = if nat_le (offset + 8) size then Some offset else None

-- what the cell at p->m holds, if a cell begins there; None where p->m is not inside the regions of the type at place k
abbrev pub held_at : CFile → TypeFile → Function → ℕ → Word → Word → Option (Option Argument)
held_at c types f k p m =
    option_and_then (λ (type, s). option_map (cell_at type s) (option_and_then (within (struct_size s)) (member_offset c f p m))) (region_type c types k)

-- a value that points to the regions of this type, where that is known, holds the type
abbrev pub fits : TypeFile → Option ℕ → Argument → Bool
fits types known argument.Any = true
fits types known (argument.Pointer name) = option_map_or (λ k. option_eq nat_eq known (Some k)) (region_of types name) false

-- a store wants a cell there, whose type the value holds
abbrev pub may_store : TypeFile → Option ℕ → Option Argument → Bool
may_store types known held = option_map_or (fits types known) held false

-- the sorts after x is loaded from a cell; nothing is known of a value from where no cell begins
abbrev pub loaded : TypeFile → Function → List Sort → Word → Option Argument → List Sort
loaded types f sorts x held = option_map_or (λ i. slice_set sorts i (option_map_or (sort_of types) held Any)) (variable f x) sorts

-- a statement: the access that it makes and the sorts after it, or the number of the condition that is not shown
abbrev pub rule : CFile → TypeFile → Function → List Sort → Statement → Result (Access × List Sort) ℕ
rule c types f sorts (Load x p m) =
    ok_or (known_target f sorts p) 2 >>= λ k.
    ok_or (held_at c types f k p m) 4 >>= λ held.
    Ok (record { span = cover p m; name = k }, loaded types f sorts x held)
rule c types f sorts (Store p m x) =
    ok_or (known_target f sorts p) 2 >>= λ k.
    ok_or (held_at c types f k p m) 4 >>= λ held.
    if may_store types (known_target f sorts x) held then Ok (record { span = cover p m; name = k }, sorts) else Err 5

-- the span of a statement's access
abbrev pub access_span : Statement → Span
access_span (Load x p m) = cover p m
access_span (Store p m x) = cover p m

-- the condition that a return of x does not show, where the result has this declared type
abbrev pub result_alarm : TypeFile → Function → List Sort → Span → Option Word → Option Argument → Option Condition
result_alarm types f sorts span None holds = None
result_alarm types f sorts span (Some x) None = None
result_alarm types f sorts span (Some x) (Some holds) =
    if fits types (known_target f sorts x) holds then None else Some (record { number = 14; span = span })

-- the condition that the function's return does not show
abbrev pub return_alarm : TypeFile → Function → FunctionType → List Sort → Option Condition
return_alarm types f declared sorts =
    option_and_then (λ (e : Ending). result_alarm types f sorts e.span e.value declared.result) f.ending

-- a verdict that goes on after a statement
abbrev pub go_on : Span → Result (Access × List Sort) ℕ → (List Sort → Verdict) → Verdict
go_on span (Err number) judge = record { accesses = []; alarm = Some (record { number = number; span = span }) }
go_on span (Ok (access, sorts)) judge = record { accesses = access ∷ (judge sorts).accesses; alarm = (judge sorts).alarm }

-- the statements under these sorts, and the return
abbrev pub judge : CFile → TypeFile → Function → FunctionType → List Statement → List Sort → Verdict
judge c types f declared [] sorts = record { accesses = []; alarm = return_alarm types f declared sorts }
judge c types f declared (statement ∷ rest) sorts =
    go_on (access_span statement) (rule c types f sorts statement) (λ (next : List Sort). judge c types f declared rest next)

-- the verdict on a function: its parameters have the sorts of the declared arguments
abbrev pub verdict_of : CFile → TypeFile → Function → FunctionType → Verdict
verdict_of c types f declared = judge c types f declared f.body (map (sort_of types) declared.arguments)
