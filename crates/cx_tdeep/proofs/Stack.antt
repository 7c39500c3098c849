-- Open brackets, of which the last one stands at the end of the list of the code.
use Rattle.std.proofs.Common.{◌≡◌, ℕ, ◌-◌, List, [], ◌∷◌, ◌++◌, length, reverse, take, refl, ap, ◌∙◌, subst, arith, length-append}
use Rattle.std.proofs.lemmas.List.{reverse-reverse, reverse-append}
use Rattle.std.proofs.Math.Seq.{take-append_seam}
use Rattle.cx_cword.specs.declared.word.Punctuator.{Punctuator}
use Rattle.cx_tdeep.specs.Brackets.{without_first}

take_reverse : (ws : List Punctuator) → reverse (take (length (reverse ws) - 1) (reverse ws)) ≡ without_first ws
take_reverse [] = refl
take_reverse (w ∷ ws) =
    let e : reverse (w ∷ ws) ≡ reverse ws ++ w ∷ [] = reverse-append (w ∷ []) ws in
    let n : length (reverse ws ++ w ∷ []) - 1 ≡ length (reverse ws) = omega (arith, length-append (reverse ws) (w ∷ [])) in
    ap (λ (l : List Punctuator). reverse (take (length l - 1) l)) e
    ∙ ap (λ (m : ℕ). reverse (take m (reverse ws ++ w ∷ []))) n
    ∙ ap reverse (take-append_seam (reverse ws) (w ∷ []))
    ∙ reverse-reverse ws

-- the brackets without the last one
pub reversed : (l : List Punctuator) → reverse (take (length l - 1) l) ≡ without_first (reverse l)
reversed l = let e : reverse (reverse l) ≡ l = reverse-reverse l in subst (λ (m : List Punctuator). reverse (take (length m - 1) m) ≡ without_first (reverse l)) e (take_reverse (reverse l))
