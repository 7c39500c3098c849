-- Where a list of lexemes ends.
use Rattle.std.proofs.Common.{◌≡◌, suc, ◌-◌, List, [], ◌∷◌, length, Some, sym, ap, arith}
use Rattle.std.specs.Prelude.{slice_get}
use Rattle.cx_cword.specs.declared.lexeme.Lexeme.{Lexeme}
use Rattle.cx_cword.specs.Reading.{past_of}

pub past_parts : (os : List Lexeme) (o : Lexeme) → slice_get os (length os - 1) ≡ Some o → o.span.past ≡ past_of os
past_parts [] o h = absurd cc
past_parts (a ∷ []) o h = let e : a ≡ o = cc in ap (λ (x : Lexeme). x.span.past) (sym e)
past_parts (a ∷ c ∷ os) o h =
    let n : length (a ∷ c ∷ os) - 1 ≡ suc (length (c ∷ os) - 1) = omega arith in
    let at : slice_get (a ∷ c ∷ os) (suc (length (c ∷ os) - 1)) ≡ Some o = rw n at h in
    past_parts (c ∷ os) o at
