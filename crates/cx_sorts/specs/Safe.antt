-- What it means that a function is safe under its declared types.
use Rattle.std.specs.Prelude.{◌≡◌, ℕ, ◌<◌, ◌^◌, List, All, Contains, Option, Some, None}
use Rattle.std.specs.List.{AllZip}
use Rattle.cx_base.specs.declared.memory.Region.{Region}
use Rattle.cx_base.specs.Memory as memory
use Rattle.cx_form.specs.declared.tree.ValueType.{ValueType}
use Rattle.cx_form.specs.declared.tree.ValueType.TheVariants.{UnsignedLong, Pointer}
use Rattle.cx_form.specs.declared.tree.Parameter.{Parameter}
use Rattle.cx_form.specs.declared.tree.Argument.{Argument}
use Rattle.cx_form.specs.declared.tree.CFile.{CFile}
use Rattle.cx_form.specs.declared.tree.Function.{Function}
use Rattle.cx_form.specs.declared.tree.FunctionType.{FunctionType}
use Rattle.cx_form.specs.declared.tree.TypeFile.{TypeFile}
use Rattle.cx_form.specs.Form.{IsCForm, IsTypeForm}
use Rattle.cx_sorts.specs.declared.verdict.Access.{Access}
use Rattle.cx_sorts.specs.TypedMemory.{Extent, layout, Extends, Holds, Typed}
use Rattle.cx_sorts.specs.Meaning.{MemoryAccess, End, Fault, Return, run_of}

-- the number is a value of the C type; a pointer's is its address (C11 6.2.5, System V AMD64 ABI 3.1.2)
abbrev pub InType : ValueType → ℕ → Type 0
InType UnsignedLong v = v < 2 ^ 64
InType (Pointer tag) v = v < 2 ^ 64

-- each argument is a value of its parameter's C type and holds its declared type
pub record ArgumentsMeet (types : TypeFile) (regions : List Extent) (f : Function) (declared : FunctionType) (values : List ℕ) : Type 0 where
  pub in_type : AllZip (λ (p : Parameter) v. InType p.ctype v) f.parameters values
  pub hold : AllZip (Holds types regions) declared.arguments values

-- the returned value is one of the C type of the result and holds the declared type; a void function returns none
abbrev pub ResultMeets : TypeFile → List Extent → Option ValueType → Option Argument → Option ℕ → Type 0
ResultMeets types regions None None None = Unit {0}
ResultMeets types regions None None (Some v) = ⊥
ResultMeets types regions None (Some declared) v = ⊥
ResultMeets types regions (Some ctype) None v = ⊥
ResultMeets types regions (Some ctype) (Some declared) None = ⊥
ResultMeets types regions (Some ctype) (Some declared) (Some v) = InType ctype v × Holds types regions declared v

-- the access lies inside a region of the memory at that moment, and the table has its span with that region's name; the
-- regions of a valid memory have no byte in common, so there is one such region
pub record IsListed (table : List Access) (access : MemoryAccess) : Type 0 where
  pub region : Region
  pub there : Contains access.memory region
  pub inside : memory.Holds region access.address access.size
  pub listed : Contains table (record { span = access.span; name = region.name })

-- the run has no fault; at its return the old regions keep base, name, arguments and size, all regions hold their types,
-- and so does the returned value
abbrev pub EndsWell : CFile → TypeFile → Function → FunctionType → List Region → End → Type 0
EndsWell c types f declared before (Fault span) = ⊥
EndsWell c types f declared before (Return value after) =
    Extends before after × Typed c types after × ResultMeets types (layout after) f.result declared.result value

-- from every memory whose regions hold their types, with arguments of their types, the function ends well, and each of its
-- accesses is one of the table
abbrev pub Safe : CFile → TypeFile → Function → FunctionType → List Access → Type 0
Safe c types f declared table =
    (memory : List Region) (values : List ℕ) → Typed c types memory → ArgumentsMeet types (layout memory) f declared values →
    All (IsListed table) (run_of c f values memory).accesses × EndsWell c types f declared memory (run_of c f values memory).end

-- the two files keep the rules of the form, and the function and its declared type are theirs
pub record AreOfForm (c : CFile) (types : TypeFile) (f : Function) (declared : FunctionType) : Type 0 where
  pub c_form : IsCForm c
  pub type_form : IsTypeForm c types
  pub of_c : c.function ≡ Some f
  pub of_types : types.function ≡ Some declared
