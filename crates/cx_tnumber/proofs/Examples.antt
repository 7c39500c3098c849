-- Linear forms, and what they come to.
use Rattle.std.proofs.Common.{◌≡◌, refl, arith, inl, inr, ◌^◌, ℕ, List, [], ◌∷◌, Bool, true, false, Some, None, codes}
use Rattle.std.specs.Prelude.{pos, negsuc}
use Rattle.cx_base.specs.declared.span.Span.{Span}
use Rattle.cx_tsyn.specs.Words.{WordTree}
use Rattle.cx_tsyn.specs.Lins.{LinPartTree, number, times, symbol, LinTree}
use Rattle.cx_tnumber.specs.Limits.{IsNoI128, Overflows}
use Rattle.cx_tnumber.specs.Numbers.{number_of, has_symbol, is_whole, parts_of}

abbrev word : Span → List ℕ → WordTree
word s text = record { span = s; text = text }

abbrev form : Span → Bool → LinPartTree → List (Bool × LinPartTree) → LinTree
form s minus first rest = record { span = s; negative = minus; first = first; rest = rest }

-- -3 + n - n - 2
gone : (s : Span) → number_of (form s true (number (pos 3)) ((false, symbol (word s (codes "n"))) ∷ (true, symbol (word s (codes "n"))) ∷ (true, number (pos 2)) ∷ [])) ≡ Some (negsuc 4)
gone s = refl

-- 2 * n - n - m
left : (s : Span) → number_of (form s false (times (pos 2) (word s (codes "n"))) ((true, symbol (word s (codes "n"))) ∷ (true, symbol (word s (codes "m"))) ∷ [])) ≡ None
left s = refl

-- 2 * n - n + 1 - 1
whole : (s : Span) → is_whole (codes "n") (form s false (times (pos 2) (word s (codes "n"))) ((true, symbol (word s (codes "n"))) ∷ (false, number (pos 1)) ∷ (true, number (pos 1)) ∷ [])) ≡ true
whole s = refl

-- n + 1, and 2 * n
more : (s : Span) → is_whole (codes "n") (form s false (symbol (word s (codes "n"))) ((false, number (pos 1)) ∷ [])) ≡ false
more s = refl

twice : (s : Span) → is_whole (codes "n") (form s false (times (pos 2) (word s (codes "n"))) []) ≡ false
twice s = refl

-- 0 * n
none : (s : Span) → has_symbol (codes "n") (form s false (times (pos 0) (word s (codes "n"))) []) ≡ false
none s = refl

-- 2^126 * n + 2^126 * n
too_much : IsNoI128 (pos (2 ^ 127))
too_much f = omega arith

passed : (s : Span) → Overflows (pos 0) (parts_of (form s false (times (pos (2 ^ 126)) (word s (codes "n"))) ((false, times (pos (2 ^ 126)) (word s (codes "n"))) ∷ []))) (Some (codes "n"))
passed s = inr (inl too_much)
