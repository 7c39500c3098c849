-- What a function of the form does, over any memory: C11 6.5.2.3 (members), 6.5.16 (assignment), 6.8.6.4 (return), with
-- numbers of 8 bytes, the least significant byte first (System V AMD64 ABI, 3.1.1). Its variables are its parameters.
-- These choices are this project's own: addresses are numbers, and `p->m` is at p plus the offset of m, modulo 2 ^ 64; an
-- access to bytes that lie inside no region is a fault, and so is the use of a name that is no parameter, which the form
-- rules out; in an assignment the right side comes first, then the address of the left side, then the write (6.5.16 leaves
-- the order open).
use Rattle.std.specs.Prelude.{ℕ, ◌+◌, ◌-◌, ◌%◌, ◌^◌, min, max, List, [], ◌∷◌, ◌++◌, length, take, drop, Bool, ◌&&◌, nat_le, if◌then◌else◌, Option, Some, None, option_map, option_and_then, ok_or, slice_get, slice_set, Result, Ok, Err}
use Rattle.std.specs.Option.{option_map_or}
use Rattle.std.proofs.Math.Nat.{le_trans, min-le_left, le-max_left}
use Rattle.cx_base.specs.declared.memory.Region.{Region}
use Rattle.cx_base.specs.declared.span.Span.{Span}
use Rattle.cx_base.specs.Bytes.{bytes_of}
use Rattle.cx_form.specs.declared.tree.Word.{Word}
use Rattle.cx_form.specs.declared.tree.Parameter.{Parameter}
use Rattle.cx_form.specs.declared.tree.Struct.{Struct}
use Rattle.cx_form.specs.declared.tree.ValueType.{ValueType}
use Rattle.cx_form.specs.declared.tree.ValueType.TheVariants.{UnsignedLong, Pointer}
use Rattle.cx_form.specs.declared.tree.Statement.{Statement}
use Rattle.cx_form.specs.declared.tree.Statement.TheVariants.{Load, Store}
use Rattle.cx_form.specs.declared.tree.CFile.{CFile}
use Rattle.cx_form.specs.declared.tree.Ending.{Ending}
use Rattle.cx_form.specs.declared.tree.Function.{Function}
use Rattle.cx_sorts.specs.Chain.{◌>>=◌}
use Rattle.cx_sorts.specs.Names.{struct_of, variable}
use Rattle.cx_sorts.specs.Layout.{offset_of}
use Rattle.cx_sorts.specs.TypedMemory.{number_at}

-- the 8 bytes from the address a on lie inside the region
abbrev pub inside : ℕ → Region → Bool
inside a r = nat_le r.base a && nat_le (a + 8) (r.base + length r.bytes)

-- the number at the address a, from the region that its 8 bytes lie inside
abbrev pub load : List Region → ℕ → Option ℕ
load [] a = None
load (r ∷ rs) a = if inside a r then Some (number_at r.bytes (a - r.base)) else load rs a

-- the bytes with the 8 low bytes of a number at this offset
unfoldable pub with_number : List ℕ → ℕ → ℕ → List ℕ
with_number bytes offset v = take offset bytes ++ bytes_of 8 v ++ drop (offset + 8) bytes

-- the memory with the 8 low bytes of a number at the address a, in the region that they lie inside
abbrev pub store : List Region → ℕ → ℕ → Option (List Region)
store [] a v = None
store (r ∷ rs) a v =
    if inside a r then Some (record r { bytes = with_number r.bytes (a - r.base) v } ∷ rs) else option_map (λ rest. r ∷ rest) (store rs a v)

-- the values of the parameters, in order, and the memory
pub record State : Type 0 where
  pub values : List ℕ
  pub memory : List Region

-- an access: where it stands in the text, its first address, how many bytes it has, and the memory at that moment
pub record MemoryAccess : Type 0 where
  pub span : Span
  pub address : ℕ
  pub size : ℕ
  pub memory : List Region

-- how a run ends: by a fault, or by a return with its value, if there is one, and the memory
pub data End : Type 0 where
  Fault : Span → End
  Return : Option ℕ → List Region → End

-- a run: the accesses in order, and its end
pub record Run : Type 0 where
  pub accesses : List MemoryAccess
  pub end : End

-- the smallest piece of the text that has both words
abbrev pub cover : Word → Word → Span
cover a b = record {
  first = min a.span.first b.span.first;
  past = max a.span.past b.span.past;
  ordered = le_trans (min-le_left a.span.first b.span.first) (le_trans a.span.ordered (le-max_left a.span.past b.span.past));
}

-- the value of a variable
abbrev pub value_of : Function → List ℕ → Word → Option ℕ
value_of f values x = option_and_then (slice_get values) (variable f x)

-- the values after a variable is set to v
abbrev pub with_value : Function → List ℕ → Word → ℕ → Option (List ℕ)
with_value f values x v = option_map (λ i. slice_set values i v) (variable f x)

-- the tag N of a type struct N *
abbrev pub pointee : ValueType → Option Word
pointee UnsignedLong = None
pointee (Pointer tag) = Some tag

-- the struct N of the file, where the C type of p is struct N *
abbrev pub pointed_struct : CFile → Function → Word → Option Struct
pointed_struct c f p =
    let parameter : Option Parameter = option_and_then (slice_get f.parameters) (variable f p) in
    let tag : Option Word = option_and_then (λ (x : Parameter). pointee x.ctype) parameter in
    option_and_then (struct_of c) tag

-- the offset of m in that struct
abbrev pub member_offset : CFile → Function → Word → Word → Option ℕ
member_offset c f p m = option_and_then (λ s. offset_of s m) (pointed_struct c f p)

-- the address of p->m (C11 6.5.2.3 and 6.5.6)
abbrev pub address_of : CFile → Function → List ℕ → Word → Word → Option ℕ
address_of c f values p m =
    option_and_then (λ v. option_map (λ offset. (v + offset) % 2 ^ 64) (member_offset c f p m)) (value_of f values p)

-- a statement, from a state: the access that it makes and the next state, or the span of a fault
abbrev pub step : CFile → Function → State → Statement → Result (MemoryAccess × State) Span
step c f s (Load x p m) =
    ok_or (address_of c f s.values p m) (cover p m) >>= λ a.
    ok_or (load s.memory a) (cover p m) >>= λ v.
    ok_or (with_value f s.values x v) x.span >>= λ values.
    Ok (record { span = cover p m; address = a; size = 8; memory = s.memory }, record { values = values; memory = s.memory })
step c f s (Store p m x) =
    ok_or (value_of f s.values x) x.span >>= λ v.
    ok_or (address_of c f s.values p m) (cover p m) >>= λ a.
    ok_or (store s.memory a v) (cover p m) >>= λ memory.
    Ok (record { span = cover p m; address = a; size = 8; memory = s.memory }, record { values = s.values; memory = memory })

-- a return of the value of a variable, or of none
abbrev pub returned : Function → State → Option Word → End
returned f s None = Return None s.memory
returned f s (Some x) = option_map_or (λ v. Return (Some v) s.memory) (value_of f s.values x) (Fault x.span)

-- the return at the end of the body; a body without one ends without a value
abbrev pub return_of : Function → State → Option Ending → End
return_of f s None = Return None s.memory
return_of f s (Some e) = returned f s e.value

-- a run that goes on after a statement
abbrev pub go_on : Result (MemoryAccess × State) Span → (State → Run) → Run
go_on (Err span) run = record { accesses = []; end = Fault span }
go_on (Ok (access, s)) run = record { accesses = access ∷ (run s).accesses; end = (run s).end }

-- the statements from a state on, and the return
abbrev pub run_body : CFile → Function → List Statement → State → Run
run_body c f [] s = record { accesses = []; end = return_of f s f.ending }
run_body c f (statement ∷ rest) s = go_on (step c f s statement) (λ (next : State). run_body c f rest next)

-- the function called with these values of its parameters, over this memory
abbrev pub run_of : CFile → Function → List ℕ → List Region → Run
run_of c f values memory = run_body c f f.body (record { values = values; memory = memory })
