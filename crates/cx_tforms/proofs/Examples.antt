-- Linear forms and relations, and whether they are terms.
use Rattle.std.proofs.Common.{◌≡◌, refl, ℕ, List, [], ◌∷◌, Bool, true, false, codes}
use Rattle.std.specs.Prelude.{pos, ◌^◌}
use Rattle.cx_base.specs.declared.span.Span.{Span}
use Rattle.cx_tsyn.specs.Words.{WordTree}
use Rattle.cx_tsyn.specs.Lins.{LinPartTree, times, symbol, LinTree}
use Rattle.cx_tsyn.specs.declared.lin.SRel.TheVariants as r
use Rattle.cx_tforms.specs.Terms.{lin_is_term, differences_are_terms}

abbrev word : Span → List ℕ → WordTree
word s text = record { span = s; text = text }

abbrev form : Span → LinPartTree → List (Bool × LinPartTree) → LinTree
form s first rest = record { span = s; negative = false; first = first; rest = rest }

-- so many times x
abbrev some_x : Span → ℕ → LinPartTree
some_x s n = times (pos n) (word s (codes "x"))

-- 4294967296 * x, and one more
most : (s : Span) → lin_is_term (form s (some_x s (2 ^ 32)) []) ≡ true
most s = refl

more : (s : Span) → lin_is_term (form s (some_x s 4294967297) []) ≡ false
more s = refl

-- 2147483648 * x + 2147483649 * x, and 4294967297 * x - 2 * x
together : (s : Span) → lin_is_term (form s (some_x s 2147483648) ((false, some_x s 2147483649) ∷ [])) ≡ false
together s = refl

gone : (s : Span) → lin_is_term (form s (some_x s 4294967297) ((true, some_x s 2) ∷ [])) ≡ true
gone s = refl

abbrev named : Span → List ℕ → LinPartTree
named s text = symbol (word s text)

-- u + v + x against y + z, and against x + y
five : (s : Span)
    → differences_are_terms (record { left = form s (named s (codes "u")) ((false, named s (codes "v")) ∷ (false, named s (codes "x")) ∷ []); rel = r.Lt; right = form s (named s (codes "y")) ((false, named s (codes "z")) ∷ []) })
    ≡ false
five s = refl

four : (s : Span)
    → differences_are_terms (record { left = form s (named s (codes "u")) ((false, named s (codes "v")) ∷ (false, named s (codes "x")) ∷ []); rel = r.Lt; right = form s (named s (codes "x")) ((false, named s (codes "y")) ∷ []) })
    ≡ true
four s = refl
