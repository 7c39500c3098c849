-- The views on pieces of type files, and the levels of types.
use Rattle.std.proofs.Common.{◌≡◌, refl, rules, ℕ, pos, List, [], ◌∷◌, Some, None, true, false, position, codes, Box, Global}
use Rattle.cx_base.specs.declared.span.Span.{Span}
use Rattle.cx_tsyn.specs.Words.{WordTree, has_text}
use Rattle.cx_tsyn.specs.Lins.{LinTree, number, times, symbol, lin_tree, relation_tree}
use Rattle.cx_tsyn.specs.Cells.{any_bytes, unsigned, ptr, cell_tree}
use Rattle.cx_tsyn.specs.Types.{STypeTree, stype, cell, paren, tagged, product, cases, no_type, also_type, no_field, also_field, no_branch, also_branch, stype_tree}
use Rattle.cx_tsyn.specs.Items.{global, surface_tree}
use Rattle.cx_tsyn.specs.Levels.{levels}
use Rattle.cx_tsyn.specs.declared.word.Word as code
use Rattle.cx_tsyn.specs.declared.lin.Lin.{Lin}
use Rattle.cx_tsyn.specs.declared.lin.LinPart.TheVariants as p
use Rattle.cx_tsyn.specs.declared.lin.SRel.TheVariants as r
use Rattle.cx_tsyn.specs.declared.cell.SCellKind.TheVariants as k
use Rattle.cx_tsyn.specs.declared.stype.SType.{SType, roll-SType}
use Rattle.cx_tsyn.specs.declared.stype.SField.{SField, roll-SField}
use Rattle.cx_tsyn.specs.declared.stype.SBranch.{SBranch, roll-SBranch}
use Rattle.cx_tsyn.specs.declared.stype.Atom.{Atom}
use Rattle.cx_tsyn.specs.declared.stype.Atom.TheVariants as a
use Rattle.cx_tsyn.specs.declared.stype.Atom.TheFolds.{the_lemmas}
use Rattle.cx_tsyn.specs.declared.item.TypeItem.TheVariants as i

abbrev written : Span → List ℕ → code.Word
written s text = record { span = s; text = text }

abbrev seen : Span → List ℕ → WordTree
seen s text = record { span = s; text = text }

-- n
abbrev alone : Span → Lin
alone s = record { span = s; negative = false; first = p.Symbol (written s (codes "n")); rest = [] }

abbrev alone_seen : Span → LinTree
alone_seen s = record { span = s; negative = false; first = symbol (seen s (codes "n")); rest = [] }

-- -3 * n + 2 - m
signs : (s : Span)
    → lin_tree (record { span = s; negative = true; first = p.Times (pos 3) (written s (codes "n")); rest = (false, p.Number (pos 2)) ∷ (true, p.Symbol (written s (codes "m"))) ∷ [] })
    ≡ record { span = s; negative = true; first = times (pos 3) (seen s (codes "n")); rest = (false, number (pos 2)) ∷ (true, symbol (seen s (codes "m"))) ∷ [] }
signs s = refl

-- n <= n
relation : (s : Span) → relation_tree (record { left = alone s; rel = r.Le; right = alone s }) ≡ record { left = alone_seen s; rel = r.Le; right = alone_seen s }
relation s = refl

-- ptr vec(n, n) null
pointer : (s : Span)
    → cell_tree (record { span = s; kind = k.Ptr (written s (codes "vec")) (alone s ∷ alone s ∷ []) None true })
    ≡ record { span = s; kind = ptr (seen s (codes "vec")) (alone_seen s ∷ alone_seen s ∷ []) None true }
pointer s = refl

abbrev bare : Span → Atom → SType
bare s x = roll-SType (record { span = s; binders = []; atom = x; times = None; conds = [] })

abbrev field : Span → SType → SField
field s t = roll-SField (record { name = written s (codes "f"); body = t })

abbrev branch : Span → SType → SBranch
branch s t = roll-SBranch (record { guard = record { left = alone s; rel = r.Lt; right = alone s } ∷ []; body = t })

-- union t { f: u8 n; f: (any4); }
abbrev union_written : Span → (inner : Box SType Global) → SType
union_written s inner = bare s (a.Tagged true (written s (codes "t")) (field s (bare s (a.Cell (record { span = s; kind = k.Unsigned 8 (alone s) }))) ∷ field s (bare s (a.Paren inner)) ∷ []))

abbrev four_bytes : Span → STypeTree
four_bytes s = stype s [] (cell (record { span = s; kind = any_bytes 4 })) None []

abbrev number_of_eight : Span → STypeTree
number_of_eight s = stype s [] (cell (record { span = s; kind = unsigned 8 (alone_seen s) })) None []

abbrev union_seen : Span → STypeTree
union_seen s = stype s [] (tagged true (seen s (codes "t")) (also_field (seen s (codes "f")) (number_of_eight s) (also_field (seen s (codes "f")) (stype s [] (paren (four_bytes s)) None []) no_field))) None []

union_as_data : (s : Span) (inner : Box SType Global) → inner.value ≡ bare s (a.Cell (record { span = s; kind = k.AnyBytes 4 })) → stype_tree (union_written s inner) ≡ union_seen s
union_as_data s inner e = search (rules, the_lemmas)

-- cases { when n < n: { any4; any4; }; }
cases_as_data : (s : Span) (part : SType) → stype_tree part ≡ four_bytes s
    → stype_tree (bare s (a.Cases (branch s (bare s (a.Product (part ∷ part ∷ []) None)) ∷ [])))
    ≡ stype s [] (cases (also_branch (record { left = alone_seen s; rel = r.Lt; right = alone_seen s } ∷ []) (stype s [] (product (also_type (four_bytes s) (also_type (four_bytes s) no_type)) None) None []) no_branch)) None []
cases_as_data s part e = search (rules, the_lemmas)

-- global g = vec(4);
one_global : (s : Span)
    → surface_tree (record { items = i.Global (record { span = s; name = written s (codes "g"); region = written s (codes "vec"); args = pos 4 ∷ [] }) ∷ [] })
    ≡ record { items = global (record { span = s; name = seen s (codes "g"); region = seen s (codes "vec"); args = pos 4 ∷ [] }) ∷ [] }
one_global s = refl

cell_has_one_level : (s : Span) → levels (four_bytes s) ≡ 1
cell_has_one_level s = refl

deepest_field_counts : (s : Span) → levels (union_seen s) ≡ 3
deepest_field_counts s = refl

no_parts_no_levels_within : (s : Span) → levels (stype s [] (product no_type None) None []) ≡ 1
no_parts_no_levels_within s = refl

first_of_two : (s t : Span) → position (has_text (codes "m")) (seen s (codes "n") ∷ seen s (codes "m") ∷ seen t (codes "m") ∷ []) ≡ Some 1
first_of_two s t = refl

longer_is_another : (s : Span) → position (has_text (codes "m")) (seen s (codes "mm") ∷ []) ≡ None
longer_is_another s = refl
