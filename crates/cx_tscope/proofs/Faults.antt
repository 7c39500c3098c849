-- The first of the places at fault of one part and then of another.
use Rattle.std.proofs.Common.{◌≡◌, List, [], ◌∷◌, ◌++◌, Option, Some, None, refl}
use Rattle.cx_base.specs.declared.span.Span.{Span}
use Rattle.cx_tscope.specs.Faults.{first, first_of}

pub first_after : (a b : List Span) → first a ≡ None → first (a ++ b) ≡ first b
first_after [] b e = refl
first_after (s ∷ a) b e = absurd (cc)

pub first_in : (a b : List Span) (s : Span) → first a ≡ Some s → first (a ++ b) ≡ Some s
first_in [] b s e = absurd (cc)
first_in (x ∷ a) b s e = e

pub first_both : (a b : List Span) → first (a ++ b) ≡ first_of (first a) b
first_both [] b = refl
first_both (x ∷ a) b = refl

pub first_of_both : (o : Option Span) (a b : List Span) → first_of o (a ++ b) ≡ first_of (first_of o a) b
first_of_both None a b = first_both a b
first_of_both (Some s) a b = refl
