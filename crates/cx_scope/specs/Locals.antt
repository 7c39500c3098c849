-- The locals of a function: its parameters and the variables of its blocks, numbered in the order of their declarations, and the names in scope (C11 6.2.1).
use Rattle.std.specs.Prelude.{ℕ, Bool, not, ◌==◌, List, [], ◌∷◌, ◌++◌, length, Option, Some, None, is_some, if◌then◌else◌}
use Rattle.cx_ctree.specs.Types.{TypeTree}

-- the names that a block declares, with the numbers of their locals
abbrev pub Block : Type 0
Block = List (ℕ × ℕ)

pub record Locals : Type 0 where
  -- the types of all locals so far, by their numbers
  pub types : List TypeTree
  -- the innermost block
  pub block : Block
  -- the blocks around it, the innermost of them first
  pub outer : List Block

abbrev pub no_locals : Locals
no_locals = record { types = []; block = []; outer = [] }

-- the block with this name declared, which takes the place of an equal one
abbrev pub with_name : ℕ → (number : ℕ) → Block → Block
with_name n x [] = (n, x) ∷ []
with_name n x (e ∷ es) = if n == e.0 then (e.0, x) ∷ es else e ∷ with_name n x es

-- a further local of this name, in scope from here on
abbrev pub declared : ℕ → TypeTree → Locals → Locals
declared n t ls = record ls { types = ls.types ++ t ∷ []; block = with_name n (length ls.types) ls.block }

abbrev pub number_in : Block → ℕ → Option ℕ
number_in [] n = None
number_in (e ∷ es) n = if n == e.0 then Some e.1 else number_in es n

abbrev pub inner_first : Option ℕ → Option ℕ → Option ℕ
inner_first None outer = outer
inner_first (Some x) outer = Some x

abbrev pub found_in : List Block → ℕ → Option ℕ
found_in [] n = None
found_in (b ∷ bs) n = inner_first (number_in b n) (found_in bs n)

-- the local that the name stands for: a block hides the names of those around it
abbrev pub local_of : Locals → ℕ → Option ℕ
local_of ls n = inner_first (number_in ls.block n) (found_in ls.outer n)

-- the innermost block does not declare the name
abbrev pub is_new : Locals → ℕ → Bool
is_new ls n = not (is_some (number_in ls.block n))

-- where a block begins
abbrev pub opened : Locals → Locals
opened ls = record ls { block = []; outer = ls.block ∷ ls.outer }

-- where the innermost block ends, and `outer` are the blocks around it
abbrev pub left_to : List Block → Locals → Locals
left_to [] ls = record ls { block = []; outer = [] }
left_to (b ∷ bs) ls = record ls { block = b; outer = bs }

-- where the innermost block ends: its names are gone, its locals keep their numbers
abbrev pub closed : Locals → Locals
closed ls = left_to ls.outer ls
