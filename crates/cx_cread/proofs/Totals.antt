-- The items of a file have no more lexemes than the file.
use Rattle.std.proofs.Common.{ℕ, ◌+◌, ◌≤◌, Bool, true, false, List, [], ◌∷◌, ◌++◌, length, length-append, arith}
use Rattle.std.specs.Prelude.{if◌then◌else◌}
use Rattle.cx_cword.specs.declared.lexeme.Lexeme.{Lexeme}
use Rattle.cx_citem.specs.Items.{Place, beginning, next_place, ends_item, cut, items_of}

abbrev pub total : List (List Lexeme) → ℕ
total [] = 0
total (os ∷ rest) = length os + total rest

cut_total : (at : Place) (item os : List Lexeme) → total (cut at item os).0 ≤ length item + length os
cut_total at item [] = omega arith
cut_total at item (o ∷ os) = by_end (ends_item at.open_ o.kind) (cut_total (next_place at o.kind) [] os) (cut_total (next_place at o.kind) (item ++ o ∷ []) os)
  where
    by_end : (b : Bool) → total (cut (next_place at o.kind) [] os).0 ≤ length {A = Lexeme} [] + length os → total (cut (next_place at o.kind) (item ++ o ∷ []) os).0 ≤ length (item ++ o ∷ []) + length os
        → total (if b then (let r = cut (next_place at o.kind) [] os in ((item ++ o ∷ []) ∷ r.0, r.1)) else cut (next_place at o.kind) (item ++ o ∷ []) os).0 ≤ length item + length (o ∷ os)
    by_end true e g = let f = length-append item (o ∷ []) in omega (arith, e, f)
    by_end false e g = let f = length-append item (o ∷ []) in omega (arith, g, f)

pub total_items : (os : List Lexeme) → total (items_of os) ≤ length os
total_items os = let e = cut_total beginning [] os in omega (arith, e)
