-- How the lexemes of a file are cut into items, and where its brackets do not pair.
use Rattle.std.specs.Prelude.{ℕ, suc, Bool, true, false, ◌&&◌, ◌||◌, ◌==◌, nat_lt, List, [], ◌∷◌, ◌++◌, ◌-◌, length, Option, Some, None, is_some, if◌then◌else◌}
use Rattle.cx_cword.specs.declared.word.Punctuator.TheVariants as p
use Rattle.cx_cword.specs.declared.lexeme.Lexeme.{Lexeme}
use Rattle.cx_cword.specs.declared.lexeme.LexemeKind.{LexemeKind}
use Rattle.cx_cword.specs.declared.lexeme.LexemeKind.TheVariants as l
use Rattle.cx_citem.specs.declared.bracket.Bracket.{Bracket}
use Rattle.cx_citem.specs.declared.bracket.Bracket.TheVariants.{Paren, Square, Brace}
use Rattle.cx_citem.specs.declared.bracket.Opened.{Opened}
use Rattle.cx_citem.specs.declared.faults.ItemFault.{ItemFault}
use Rattle.cx_citem.specs.declared.faults.ItemFault.TheVariants.{TooDeep, Unclosed}

-- ---- brackets

abbrev pub same_bracket : Bracket → Bracket → Bool
same_bracket Paren Paren = true
same_bracket Square Square = true
same_bracket Brace Brace = true
same_bracket _ _ = false

-- the bracket that the lexeme opens
abbrev pub opens : LexemeKind → Option Bracket
opens (l.Punctuator p.OpenParen) = Some Paren
opens (l.Punctuator p.OpenBracket) = Some Square
opens (l.Punctuator p.OpenBrace) = Some Brace
opens _ = None

-- the bracket that the lexeme would close
abbrev pub closes : LexemeKind → Option Bracket
closes (l.Punctuator p.CloseParen) = Some Paren
closes (l.Punctuator p.CloseBracket) = Some Square
closes (l.Punctuator p.CloseBrace) = Some Brace
closes _ = None

-- what is known between two lexemes: the brackets that are open, the last one first; whether the lexeme before is a `)`; whether an item begins here
pub record Place : Type 0 where
  pub open_ : List Opened
  pub after_paren : Bool
  pub begins : Bool

abbrev pub beginning : Place
beginning = record { open_ = []; after_paren = false; begins = true }

-- the lexeme is the partner of the last bracket that is open
abbrev pub closes_last : List Opened → Option Bracket → Bool
closes_last [] b = false
closes_last (w ∷ ws) None = false
closes_last (w ∷ ws) (Some b) = same_bracket w.kind b

abbrev pub without_last : List Opened → List Opened
without_last [] = []
without_last (w ∷ ws) = ws

-- the brackets that are open after a lexeme
abbrev pub open_after : Place → Option Bracket → Option Bracket → List Opened
open_after at (Some b) c = record { kind = b; follows = at.after_paren } ∷ at.open_
open_after at None c = if closes_last at.open_ c then without_last at.open_ else at.open_

-- a `}` whose partner is the only bracket that is open and stands directly after a `)`
abbrev pub closes_body : List Opened → Bool
closes_body (w ∷ []) = w.follows && same_bracket w.kind Brace
closes_body _ = false

-- the lexeme ends an item: a `;` outside brackets, or the `}` of a body
abbrev pub ends_item : List Opened → LexemeKind → Bool
ends_item [] (l.Punctuator p.Semicolon) = true
ends_item ws (l.Punctuator p.CloseBrace) = closes_body ws
ends_item _ _ = false

abbrev pub is_close_paren : LexemeKind → Bool
is_close_paren (l.Punctuator p.CloseParen) = true
is_close_paren _ = false

abbrev pub next_place : Place → LexemeKind → Place
next_place at o = record { open_ = open_after at (opens o) (closes o); after_paren = is_close_paren o; begins = ends_item at.open_ o }

-- ---- items

-- the items of the lexemes from a place on, where `item` are those of its item before it; and the lexemes after the last item
abbrev pub cut : Place → (item : List Lexeme) → List Lexeme → List (List Lexeme) × List Lexeme
cut at item [] = ([], item)
cut at item (o ∷ os) =
    if ends_item at.open_ o.kind
    then (let r = cut (next_place at o.kind) [] os in ((item ++ o ∷ []) ∷ r.0, r.1))
    else cut (next_place at o.kind) (item ++ o ∷ []) os

-- ---- faults

-- the first bracket that opens level 101
abbrev pub first_deep : Place → List Lexeme → Option Lexeme
first_deep at [] = None
first_deep at (o ∷ os) = if is_some (opens o.kind) && nat_lt 99 (length at.open_) then Some o else first_deep (next_place at o.kind) os

-- so many brackets at least stay open up to the end
abbrev pub stay_open : ℕ → Place → List Lexeme → Bool
stay_open n at [] = true
stay_open n at (o ∷ os) = if nat_lt (length (next_place at o.kind).open_) n then false else stay_open n (next_place at o.kind) os

abbrev pub is_open_brace : LexemeKind → Bool
is_open_brace (l.Punctuator p.OpenBrace) = true
is_open_brace _ = false

-- the lexeme is a bracket without a partner, or a brace that begins an item
abbrev pub is_unpaired : Place → Lexeme → List Lexeme → Bool
is_unpaired at o os =
    (is_some (opens o.kind) && stay_open (suc (length at.open_)) (next_place at o.kind) os)
    || (is_some (closes o.kind) && (if closes_last at.open_ (closes o.kind) then false else true))
    || (at.begins && is_open_brace o.kind)

abbrev pub first_unpaired : Place → List Lexeme → Option Lexeme
first_unpaired at [] = None
first_unpaired at (o ∷ os) = if is_unpaired at o os then Some o else first_unpaired (next_place at o.kind) os

-- why a file has no items: a bracket that opens level 101, or the first lexeme that is unpaired or begins an item without an end
abbrev pub fault_of : (deep unpaired : Option Lexeme) → (left : List Lexeme) → Option ItemFault
fault_of (Some o) u left = Some (TooDeep o.span)
fault_of None (Some o) left = Some (Unclosed o.span)
fault_of None None (o ∷ os) = Some (Unclosed o.span)
fault_of None None [] = None

-- the fault of a file
abbrev pub unit_fault : List Lexeme → Option ItemFault
unit_fault os = fault_of (first_deep beginning os) (first_unpaired beginning os) (cut beginning [] os).1

-- the items of a file
abbrev pub items_of : List Lexeme → List (List Lexeme)
items_of os = (cut beginning [] os).0

-- ---- names of functions

abbrev pub is_word : LexemeKind → Bool
is_word (l.Keyword w) = true
is_word (l.Name n) = true
is_word (l.Attributive n) = true
is_word _ = false

-- how many `[` are open after a lexeme inside a group
abbrev pub inside_after : ℕ → LexemeKind → ℕ
inside_after n (l.Punctuator p.OpenBracket) = suc n
inside_after n (l.Punctuator p.CloseBracket) = n - 1
inside_after n _ = n

-- what stands next outside groups: a `(`; a `)`, and then what follows it; a `[`, and then what follows its group
abbrev pub calls_by : (after group : Bool) → LexemeKind → Bool
calls_by after group (l.Punctuator p.OpenParen) = true
calls_by after group (l.Punctuator p.CloseParen) = after
calls_by after group (l.Punctuator p.OpenBracket) = group
calls_by after group _ = false

-- after groups in `[ ]`, of which so many are open, and any number of `)` comes a `(`
abbrev pub calls_after : (inside : ℕ) → List Lexeme → Bool
calls_after inside [] = false
calls_after inside (o ∷ os) = if inside == 0 then calls_by (calls_after 0 os) (calls_after 1 os) o.kind else calls_after (inside_after inside o.kind) os

-- how many of the brackets `{` and `[` are open after a lexeme
abbrev pub covered_after : ℕ → LexemeKind → ℕ
covered_after n (l.Punctuator p.OpenBrace) = suc n
covered_after n (l.Punctuator p.OpenBracket) = suc n
covered_after n (l.Punctuator p.CloseBrace) = n - 1
covered_after n (l.Punctuator p.CloseBracket) = n - 1
covered_after n _ = n

-- the words by which an item names a function: outside `{ }` and `[ ]`, and followed by a `(`
abbrev pub naming : (covered : ℕ) → List Lexeme → List Lexeme
naming covered [] = []
naming covered (o ∷ os) = (if (covered == 0) && is_word o.kind && calls_after 0 os then o ∷ [] else []) ++ naming (covered_after covered o.kind) os
