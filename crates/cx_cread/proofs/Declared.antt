-- The lexemes of a declaration are read as one, and as no other.
use Rattle.std.proofs.Common.{◌≡◌, ℕ, ◌+◌, ◌*◌, ◌≤◌, List, [], ◌∷◌, ◌++◌, length, Some, None, refl, sym, ap, ◌∙◌, subst, arith, length-append, append-nil}
use Rattle.std.proofs.lemmas.Option.{none-some}
use Rattle.cx_ctree.specs.Decls.{DeclTree}
use Rattle.cx_cword.specs.declared.lexeme.Lexeme.{Lexeme}
use Rattle.cx_cword.specs.Reading.{◌>>=◌}
use Rattle.cx_cname.specs.Known.{Known}
use Rattle.cx_cexpr.proofs.Steps.{bind_some}
use Rattle.cx_cdecl.specs.Declarations.{IsDeclaration, declares_types, declares}
use Rattle.cx_cdecl.specs.Reading.{After, at_end, whole_at, declaration_at}
use Rattle.cx_cdecl.proofs.Grows.{Fits, Grows, grows_then, grows_more}
use Rattle.cx_cdecl.proofs.Growing.{specs_grow}
use Rattle.cx_cdecl.proofs.DeclarationSound.{declaration_sound}
use Rattle.cx_cdecl.proofs.DeclarationThere.{inits_grow, declaration_there}
use Rattle.cx_cread.specs.Reading.{IsNoDeclaration}

abbrev pub made : {A : Type 0} → A → Known → List Lexeme → After A
made t k rest = record { tree = t; known = k; rest = rest }

ended : {A : Type 0} (rest : List Lexeme) (t : A) (k : Known) (r : After A) → at_end (made t k rest) ≡ Some r → (rest ≡ []) × (made t k [] ≡ r)
ended {A} [] t k r e = (refl, cc)
ended (o ∷ rest) t k r e = absurd cc

pub declaration_read : (turns : ℕ) (earlier : List DeclTree) (env : Known) (os : List Lexeme) (g : After (List DeclTree)) → whole_at turns earlier env os ≡ Some g → IsDeclaration earlier env os g.tree g.known
unfolding whole_at
declaration_read turns earlier env os g e =
    let i = bind_some (declaration_at turns earlier env os) at_end g e in
    let x = ended i.0.rest i.0.tree i.0.known g i.2 in
    let f = declaration_sound turns earlier env os i.0 i.1 in
    let front : os ≡ f.front = f.parts ∙ ap (λ (xs : List Lexeme). f.front ++ xs) x.0 ∙ append-nil f.front in
    subst (λ (r : After (List DeclTree)). IsDeclaration earlier env os r.tree r.known) x.1 (subst (λ (xs : List Lexeme). IsDeclaration earlier env xs i.0.tree i.0.known) (sym front) f.so)

pub declaration_unread : (turns : ℕ) (earlier : List DeclTree) (env : Known) (os : List Lexeme) → Fits env os → 16 * length os + 64 ≤ turns → whole_at turns earlier env os ≡ None → IsNoDeclaration earlier env os
unfolding whole_at
declaration_unread turns earlier env os fit enough e ds later d =
    let some : (declaration_at turns earlier env os >>= at_end) ≡ Some (made ds later []) = ap (λ o. o >>= at_end) (declaration_there d turns fit (omega (arith, enough))) in
    none-some (made ds later []) (sym e ∙ some)

-- each lexeme declares one tag at most
pub declaration_grows : {earlier : List DeclTree} {env known : Known} {a : List Lexeme} {ds : List DeclTree} → IsDeclaration earlier env a ds known → Grows env known (length a)
declaration_grows {env = env} (declares_types {a = a} {known = known} o words bare end) =
    grows_more env known (length a) (length (a ++ o ∷ [])) (specs_grow words) (let e = length-append a (o ∷ []) in omega (arith, e))
declaration_grows {env = env} (declares {a = a} {c = c} {known = known} {later = later} o words all bare end) =
    grows_then env known later (length a) (length c) (length ((a ++ c) ++ o ∷ [])) (specs_grow words) (inits_grow all) (let e = length-append (a ++ c) (o ∷ []) in let f = length-append a c in omega (arith, e, f))
