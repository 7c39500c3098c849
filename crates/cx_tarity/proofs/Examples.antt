-- Pieces of type files, and whether their numbers agree.
use Rattle.std.proofs.Common.{◌≡◌, refl, ℕ, List, [], ◌∷◌, Some, None, true, false, codes}
use Rattle.std.specs.Prelude.{ℤ, pos}
use Rattle.cx_base.specs.declared.span.Span.{Span}
use Rattle.cx_tsyn.specs.Words.{WordTree}
use Rattle.cx_tsyn.specs.Lins.{LinTree, number, symbol}
use Rattle.cx_tsyn.specs.Cells.{unsigned, ptr}
use Rattle.cx_tsyn.specs.Types.{STypeTree, stype, cell, paren, cases, no_branch, also_branch}
use Rattle.cx_tarity.specs.Known.{Known}
use Rattle.cx_tarity.specs.Counts.{are_many, has_many}
use Rattle.cx_tarity.specs.Arity.{arity_in_type}

abbrev word : Span → List ℕ → WordTree
word s text = record { span = s; text = text }

abbrev the_number : Span → ℤ → LinTree
the_number s z = record { span = s; negative = false; first = number z; rest = [] }

abbrev the_symbol : Span → LinTree
the_symbol s = record { span = s; negative = false; first = symbol (word s (codes "n")); rest = [] }

-- (some n of u8 n)[..]
abbrev row : Span → LinTree → STypeTree
row s l = stype s [] (paren (stype s (word s (codes "n") ∷ []) (cell (record { span = s; kind = unsigned 8 (the_symbol s) })) None [])) (Some l) []

sixteen : (s : Span) → are_many (row s (the_number s (pos 16))) ≡ false
sixteen s = refl

seventeen : (s : Span) → are_many (row s (the_number s (pos 17))) ≡ true
seventeen s = refl

-- of symbolic length the element is a part by itself
symbolic : (s : Span) → are_many (row s (the_symbol s)) ≡ false
symbolic s = refl

-- cases { when ..: (some n of u8 n)[17]; }
in_a_branch : (s : Span) → has_many (stype s [] (cases (also_branch [] (row s (the_number s (pos 17))) no_branch)) None []) ≡ true
in_a_branch s = refl

-- a region a(n), and nothing of C
abbrev one_region : Known
one_region = record {
  regions = record { names = codes "a" ∷ []; counts = 1 ∷ [] };
  names = [];
  table = record { functions = []; objects = []; structs = []; unions = [] };
  tags = [];
}

-- ptr a, and ptr a(1)
too_few : (s t : Span) → arity_in_type one_region (stype s [] (cell (record { span = s; kind = ptr (word t (codes "a")) [] None false })) None []) ≡ t ∷ []
too_few s t = refl

just_one : (s t : Span) → arity_in_type one_region (stype s [] (cell (record { span = s; kind = ptr (word t (codes "a")) (the_number s (pos 1) ∷ []) None false })) None []) ≡ []
just_one s t = refl
