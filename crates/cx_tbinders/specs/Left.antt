-- The words of a type file that are one of the first n of some names, and are left in the linear form in which they stand, as the list
-- of their places in order.
use Rattle.std.specs.Prelude.{ℕ, ℤ, Bool, false, not, ◌&&◌, nat_lt, List, [], ◌++◌, Option, Some, None, position}
use Rattle.std.specs.List.{flat_map}
use Rattle.std.specs.Option.{option_map_or}
use Rattle.std.specs.Str.{bytes_eq}
use Rattle.cx_base.specs.declared.span.Span.{Span}
use Rattle.cx_tsyn.specs.Words.{WordTree}
use Rattle.cx_tsyn.specs.Lins.{LinPartTree, number, times, symbol, LinTree, RelationTree}
use Rattle.cx_tsyn.specs.Cells.{SCellKindTree, any, any_bytes, val, unsigned, signed, ptr}
use Rattle.cx_tscope.specs.Faults.{unless}
use Rattle.cx_tnumber.specs.Numbers.{is_zero, sum_of}

-- the word is one of the first n of the names
abbrev pub is_among : (names : List (List ℕ)) → (n : ℕ) → WordTree → Bool
is_among names n w = option_map_or (λ at. nat_lt at n) (position (bytes_eq w.text) names) false

abbrev pub left_word : (names : List (List ℕ)) → (n : ℕ) → (sum : Option (List ℕ) → ℤ) → WordTree → List Span
left_word names n sum w = unless (not (is_among names n w && not (is_zero (sum (Some w.text))))) w

abbrev pub left_in_part : (names : List (List ℕ)) → (n : ℕ) → (sum : Option (List ℕ) → ℤ) → LinPartTree → List Span
left_in_part names n sum (number z) = []
left_in_part names n sum (times z w) = left_word names n sum w
left_in_part names n sum (symbol w) = left_word names n sum w

abbrev pub left_in_rest : (names : List (List ℕ)) → (n : ℕ) → (sum : Option (List ℕ) → ℤ) → List (Bool × LinPartTree) → List Span
left_in_rest names n sum ps = flat_map (λ p. left_in_part names n sum p.1) ps

abbrev pub left_by : (names : List (List ℕ)) → (n : ℕ) → (sum : Option (List ℕ) → ℤ) → LinTree → List Span
left_by names n sum l = left_in_part names n sum l.first ++ left_in_rest names n sum l.rest

unfoldable pub left_in : (names : List (List ℕ)) → (n : ℕ) → LinTree → List Span
left_in names n l = left_by names n (sum_of l) l

abbrev pub left_in_lins : (names : List (List ℕ)) → (n : ℕ) → List LinTree → List Span
left_in_lins names n ls = flat_map (left_in names n) ls

abbrev pub left_in_offset : (names : List (List ℕ)) → (n : ℕ) → Option LinTree → List Span
left_in_offset names n None = []
left_in_offset names n (Some l) = left_in names n l

abbrev pub left_in_kind : (names : List (List ℕ)) → (n : ℕ) → SCellKindTree → List Span
left_in_kind names n any = []
left_in_kind names n (any_bytes k) = []
left_in_kind names n (val e) = left_in names n e
left_in_kind names n (unsigned k e) = left_in names n e
left_in_kind names n (signed k e) = left_in names n e
left_in_kind names n (ptr r args off null) = left_in_lins names n args ++ left_in_offset names n off

abbrev pub left_in_relation : (names : List (List ℕ)) → (n : ℕ) → RelationTree → List Span
left_in_relation names n r = left_in names n r.left ++ left_in names n r.right

abbrev pub left_in_relations : (names : List (List ℕ)) → (n : ℕ) → List RelationTree → List Span
left_in_relations names n rs = flat_map (left_in_relation names n) rs
