-- Types, and the symbols in them that nothing determines.
use Rattle.std.proofs.Common.{◌≡◌, refl, ℕ, List, [], ◌∷◌, Some, None, false, codes}
use Rattle.std.specs.Prelude.{pos}
use Rattle.cx_base.specs.declared.span.Span.{Span}
use Rattle.cx_tsyn.specs.Words.{WordTree}
use Rattle.cx_tsyn.specs.Lins.{LinTree, number, symbol}
use Rattle.cx_tsyn.specs.Cells.{SCellKindTree, any_bytes, unsigned}
use Rattle.cx_tsyn.specs.Types.{STypeTree, stype, AtomTree, cell, product, cases, no_type, also_type, no_branch, also_branch}
use Rattle.cx_tbinders.specs.Left.{left_in}
use Rattle.cx_tbinders.specs.Undetermined.{whole_region, undetermined_in_type}

abbrev word : Span → List ℕ → WordTree
word s text = record { span = s; text = text }

abbrev the_symbol : Span → LinTree
the_symbol s = record { span = s; negative = false; first = symbol (word s (codes "x")); rest = [] }

abbrev one_more : Span → LinTree
one_more s = record { span = s; negative = false; first = symbol (word s (codes "x")); rest = (false, number (pos 1)) ∷ [] }

abbrev atom : Span → SCellKindTree → AtomTree
atom s k = cell (record { span = s; kind = k })

abbrev bare : Span → AtomTree → STypeTree
bare s a = stype s [] a None []

abbrev with_x : (s t : Span) → AtomTree → STypeTree
with_x s t a = stype s (word t (codes "x") ∷ []) a None []

-- some x of any8
no_cell : (s t : Span) → undetermined_in_type [] whole_region false (with_x s t (atom s (any_bytes 8))) ≡ t ∷ []
no_cell s t = refl

-- some x of u8 x
held : (s t : Span) → undetermined_in_type [] whole_region false (with_x s t (atom s (unsigned 8 (the_symbol s)))) ≡ []
unfolding left_in
held s t = refl

-- some x of { u8 x + 1; u8 x; }
first_is_less : (s t : Span)
    → undetermined_in_type [] whole_region false (with_x s t (product (also_type (bare s (atom s (unsigned 8 (one_more s)))) (also_type (bare s (atom s (unsigned 8 (the_symbol s)))) no_type)) None)) ≡ t ∷ []
unfolding left_in
first_is_less s t = refl

-- some x of cases { when ..: u8 x; }
in_a_branch : (s t : Span) → undetermined_in_type [] whole_region false (with_x s t (cases (also_branch [] (bare s (atom s (unsigned 8 (the_symbol s)))) no_branch))) ≡ t ∷ []
unfolding left_in
in_a_branch s t = refl

-- { any1[x]; any1; } where x is a parameter: the array is not last
not_last : (s t : Span) → undetermined_in_type [] whole_region false (bare s (product (also_type (stype t [] (atom s (any_bytes 1)) (Some (the_symbol s)) []) (also_type (bare s (atom s (any_bytes 1))) no_type)) None)) ≡ t ∷ []
unfolding left_in
not_last s t = refl

-- { any1; any1[x]; }
is_last : (s t : Span) → undetermined_in_type [] whole_region false (bare s (product (also_type (bare s (atom s (any_bytes 1))) (also_type (stype t [] (atom s (any_bytes 1)) (Some (the_symbol s)) []) no_type)) None)) ≡ []
unfolding left_in
is_last s t = refl
