-- What the meaning of a function's body looks up: sizes and members of types, and the functions that are called.
use Rattle.std.specs.Prelude.{ℕ, List, [], Option, Some, None}
use Rattle.cx_ctree.specs.Layouts as layout
use Rattle.cx_ctree.specs.Types.{TypeTree, void, tag}
use Rattle.cx_cname.specs.Known.{Meaning, a_function}
use Rattle.cx_sname.specs.File.{Declared, meaning_of}
use Rattle.cx_world.specs.Oracle.{Oracle}

-- what a unit declares, beside what a type file decides
pub record Program : Type 0 where
  pub unit : Declared
  pub oracle : Oracle

abbrev pub or_zero : Option ℕ → ℕ
or_zero None = 0
or_zero (Some n) = n

-- the size of a type that has one (C11 6.5.3.4)
abbrev pub size_in : Declared → TypeTree → ℕ
size_in d t = or_zero (layout.size_of d.known.tags t)

-- the size of what a pointer to the type is moved by: 1 for void
abbrev pub unit_in : Declared → TypeTree → ℕ
unit_in d void = 1
unit_in d t = size_in d t

-- where the member of this name stands in a struct or union (System V AMD64 ABI, 3.1.2)
abbrev pub offset_in : Declared → TypeTree → (name : ℕ) → ℕ
offset_in d (tag k) n = or_zero (layout.offset_of d.known.tags k n)
offset_in d _ n = 0

-- the types of the parameters of a function, and of its result
pub record Function : Type 0 where
  pub result : TypeTree
  pub params : List TypeTree

abbrev pub function_as : Option Meaning → Function
function_as (Some (a_function result params)) = record { result = result; params = params }
function_as _ = record { result = void; params = [] }

-- the function that is declared by this name
abbrev pub function_of : Declared → ℕ → Function
function_of d n = function_as (meaning_of d n)
