-- From the first lexeme of a list to the last is where the list stands.
use Rattle.std.proofs.Common.{◌≡◌, ℕ, ◌-◌, ◌<◌, List, [], ◌∷◌, length, get_or, refl, sym, ap, ◌∙◌, arith}
use Rattle.cx_cword.specs.Reading.{span_between}
use Rattle.cx_tword.specs.declared.lexeme.TypeLexeme.{TypeLexeme}
use Rattle.cx_tlin.specs.Lexemes.{past_of, span_of}

past_get : (o : TypeLexeme) (os : List TypeLexeme) (d : TypeLexeme) → past_of (o ∷ os) ≡ (get_or (o ∷ os) (length os) d).span.past
past_get o [] d = refl
past_get o (n ∷ os) d = past_get n os d

pub spanned : (os : List TypeLexeme) (o d : TypeLexeme) → 0 < length os → o ≡ get_or os 0 o → span_between o.span.first (get_or os (length os - 1) d).span.past ≡ span_of os
spanned [] o d some e = absurd (omega (arith, some))
spanned (t ∷ os) o d some e =
    let k : length (t ∷ os) - 1 ≡ length os = omega arith in
    let first : o.span.first ≡ t.span.first = ap (λ (v : TypeLexeme). v.span.first) e in
    let past : (get_or (t ∷ os) (length (t ∷ os) - 1) d).span.past ≡ past_of (t ∷ os) = ap (λ (i : ℕ). (get_or (t ∷ os) i d).span.past) k ∙ sym (past_get t os d) in
    λ i. span_between (first i) (past i)
