-- Pieces of type files, and the names in them that are declared twice.
use Rattle.std.proofs.Common.{◌≡◌, refl, ℕ, List, [], ◌∷◌, Some, None, false, codes}
use Rattle.cx_base.specs.declared.span.Span.{Span}
use Rattle.cx_ctree.specs.Types.{pointer, void}
use Rattle.cx_tsyn.specs.Words.{WordTree}
use Rattle.cx_tsyn.specs.Lins.{LinTree, symbol}
use Rattle.cx_tsyn.specs.Cells.{any, unsigned}
use Rattle.cx_tsyn.specs.Types.{STypeTree, stype, AtomTree, cell, product, cases, no_type, also_type, no_branch, also_branch}
use Rattle.cx_tsyn.specs.Items.{TypeItemTree, region, func, alloc}
use Rattle.cx_tdoubled.specs.Doubled.{doubled_in_type, doubled_names}

abbrev word : Span → List ℕ → WordTree
word s text = record { span = s; text = text }

abbrev the_n : Span → LinTree
the_n s = record { span = s; negative = false; first = symbol (word s (codes "n")); rest = [] }

-- u8 n
abbrev number : Span → AtomTree
number s = cell (record { span = s; kind = unsigned 8 (the_n s) })

-- some n of u8 n, where the word stands at t
abbrev binding : (s t : Span) → STypeTree
binding s t = stype s (word t (codes "n") ∷ []) (number s) None []

abbrev bare : Span → AtomTree → STypeTree
bare s a = stype s [] a None []

-- some n, n of u8 n
two_binders : (s t u : Span) → doubled_in_type [] (stype s (word t (codes "n") ∷ word u (codes "n") ∷ []) (number s) None []) ≡ u ∷ []
two_binders s t u = refl

-- some n of { u8 n; some n of u8 n; }
in_scope : (s t u : Span) → doubled_in_type [] (stype s (word t (codes "n") ∷ []) (product (also_type (bare s (number s)) (also_type (binding s u) no_type)) None) None []) ≡ u ∷ []
in_scope s t u = refl

-- cases { when ..: some n of u8 n; when ..: some n of u8 n; }
out_of_scope : (s t u : Span) → doubled_in_type [] (bare s (cases (also_branch [] (binding s t) (also_branch [] (binding s u) no_branch)))) ≡ []
out_of_scope s t u = refl

-- region a(n) = some n of u8 n, where the name stands at s and the binder at t
abbrev a_region : (s t : Span) → TypeItemTree
a_region s t = region (record { span = s; shared = false; name = word s (codes "a"); params = word s (codes "n") ∷ []; body = binding s t })

-- the binder of the first region, the name of the second, and its binder
two_regions : (s t u v : Span) → doubled_names (record { items = a_region s t ∷ a_region u v ∷ [] }) ≡ t ∷ u ∷ v ∷ []
two_regions s t u v = refl

abbrev a_function : Span → TypeItemTree
a_function s = func (record { span = s; name = word s (codes "f"); binders = []; args = []; conds = []; result = None; result_span = s })

abbrev an_allocator : Span → TypeItemTree
an_allocator s = alloc (record {
  span = s;
  name = word s (codes "f");
  params = word s (codes "k") ∷ [];
  pointee = pointer void;
  pointee_span = s;
  unknown_tag = None;
  region = word s (codes "a");
  args = [];
  bytes = word s (codes "k");
  times = None;
  zero = false;
})

-- a function that is an allocator: the later of the two
both_ways : (s t : Span) → doubled_names (record { items = a_function s ∷ an_allocator t ∷ [] }) ≡ t ∷ []
both_ways s t = refl

other_way : (s t : Span) → doubled_names (record { items = an_allocator s ∷ a_function t ∷ [] }) ≡ t ∷ []
other_way s t = refl

-- an allocator twice for one type
twice : (s t : Span) → doubled_names (record { items = an_allocator s ∷ an_allocator t ∷ [] }) ≡ t ∷ []
twice s t = refl
