-- The lexemes of a file from left to right, with what is kept between them.
use Rattle.std.specs.Prelude.{ℕ, ◌+◌, Bool, true, false, ◌&&◌, ◌||◌, nat_lt, List, [], ◌∷◌, length, reverse, Option, Some, None, is_some, if◌then◌else◌}
use Rattle.cx_base.specs.declared.span.Span.{Span}
use Rattle.cx_cword.specs.declared.lexeme.Lexeme.{Lexeme}
use Rattle.cx_cword.specs.declared.lexeme.LexemeKind.{LexemeKind}
use Rattle.cx_citem.specs.declared.bracket.Opened.{Opened}
use Rattle.cx_citem.specs.declared.nesting.Nesting.{Nesting}
use Rattle.cx_citem.specs.declared.faults.ItemFault.{ItemFault}
use Rattle.cx_citem.specs.declared.faults.ItemFault.TheVariants.{TooDeep, Unclosed}
use Rattle.cx_citem.specs.Items.{Place, opens, closes, is_open_brace, closes_last, ends_item, next_place}

-- the place that the code has come to
abbrev pub place_of : Nesting → Place
place_of n = record { open_ = reverse n.open; after_paren = n.after_paren; begins = n.begins }

abbrev pub is_deep : Place → LexemeKind → Bool
is_deep at o = is_some (opens o) && nat_lt 99 (length at.open_)

-- a closing bracket without a partner, or a brace that begins an item
abbrev pub is_misplaced : Place → LexemeKind → Bool
is_misplaced at o = (is_some (closes o) && (if closes_last at.open_ (closes o) then false else true)) || (at.begins && is_open_brace o)

abbrev pub or_span : Option Span → Option Span → Option Span
or_span None other = other
or_span (Some s) other = Some s

abbrev pub none_if_some : Option Span → Span → Option Span
none_if_some None s = Some s
none_if_some (Some f) s = None

-- the first bracket that is open, where it comes before the first lexeme that is misplaced
abbrev pub bottom_after : List Opened → (bottom found : Option Span) → Span → Option Span
bottom_after [] bottom found s = None
bottom_after (w ∷ ws) bottom found s = or_span bottom (none_if_some found s)

-- the first lexeme that is misplaced
abbrev pub found_after : Place → (found : Option Span) → Lexeme → Option Span
found_after at found o = or_span found (if is_misplaced at o.kind then Some o.span else None)

-- the first lexeme of the item
abbrev pub first_after : Place → (first : Option Span) → Lexeme → Option Span
first_after at first o = if ends_item at.open_ o.kind then None else or_span first (Some o.span)

abbrev pub unclosed_at : Option Span → Option ItemFault
unclosed_at None = None
unclosed_at (Some s) = Some (Unclosed s)

-- the fault, from a place on
unfoldable pub fault_from : Place → (bottom found first : Option Span) → List Lexeme → Option ItemFault
fault_from at bottom found first [] = unclosed_at (or_span (or_span bottom found) first)
fault_from at bottom found first (o ∷ os) =
    if is_deep at o.kind
    then Some (TooDeep o.span)
    else fault_from (next_place at o.kind) (bottom_after (next_place at o.kind).open_ bottom (found_after at found o) o.span) (found_after at found o) (first_after at first o) os

-- how many lexemes come up to the end of the item, from a place on, with `n` of it before
unfoldable pub length_from : Place → (n : ℕ) → List Lexeme → Option ℕ
length_from at n [] = None
length_from at n (o ∷ os) = if ends_item at.open_ o.kind then Some (n + 1) else length_from (next_place at o.kind) (n + 1) os
