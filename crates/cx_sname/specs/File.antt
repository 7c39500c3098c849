-- What the file declares around a function: types, constants, objects and functions.
use Rattle.std.specs.Prelude.{ℕ, ℤ, List, Option, Some, None}
use Rattle.cx_ctree.specs.Types.{TypeTree}
use Rattle.cx_ctree.specs.Decls.{DeclTree}
use Rattle.cx_ctree.specs.declared.unit.Unit.{Unit}
use Rattle.cx_cname.specs.Known.{Known, Meaning, a_constant, an_object, a_function, meaning, known_of, earlier_of}

pub record Declared : Type 0 where
  pub known : Known
  -- its objects and functions in order
  pub decls : List DeclTree

abbrev pub declared_of : Unit → Declared
declared_of u = record { known = known_of u; decls = earlier_of u }

-- what an ordinary name is declared as in the file
abbrev pub meaning_of : Declared → ℕ → Option Meaning
meaning_of env n = meaning env.known env.decls n
