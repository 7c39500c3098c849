-- Steps of reading that gave an answer.
use Rattle.std.proofs.Common.{◌≡◌, Bool, true, false, cond, List, [], ◌∷◌, ◌++◌, Option, Some, None, refl, sym, ap, ◌∙◌, append_assoc, inl, inr, ◌⊎◌}
use Rattle.cx_cword.specs.declared.lexeme.Lexeme.{Lexeme}
use Rattle.cx_cword.specs.Reading.{Is}
use Rattle.cx_cexpr.proofs.Steps.{at_first, test_some}
use Rattle.cx_cword.specs.declared.mark.Mark.{Mark}
use Rattle.cx_cdecl.specs.Reading.{wanted, choose, if_true}
use Rattle.cx_cword.specs.Marks.{fits}
use Rattle.cx_cword.proofs.Marks.{fits_is, kind_of}

pub if_some : {A : Type 0} (b : Bool) (o : Option A) (g : A) → if_true b o ≡ Some g → (b ≡ true) × (o ≡ Some g)
if_some true o g e = (refl, e)
if_some false o g e = absurd cc

-- the mark stands first
pub record Marked (mark : Mark) (os rest : List Lexeme) : Type 0 where
  pub at : Lexeme
  pub parts : os ≡ at ∷ rest
  pub is : at.kind ≡ kind_of mark

pub wanted_some : {A : Type 0} (mark : Mark) (os : List Lexeme) (go : List Lexeme → Option A) (g : A) → wanted mark os go ≡ Some g
    → (rest : List Lexeme) × Marked mark os rest × (go rest ≡ Some g)
wanted_some mark os go g e =
    let h = at_first os (λ o rest. cond (fits mark o.kind) (go rest) None) g e in
    let b = test_some (fits mark h.0.kind) (go h.1) g h.3 in
    (h.1, record { at = h.0; parts = h.2; is = fits_is mark h.0.kind b.0 }, b.1)

choose_by : {A : Type 0} (mark : Mark) (o : Lexeme) (rest : List Lexeme) (b : Bool) (other : Option A) (go : List Lexeme → Option A) (g : A) → fits mark o.kind ≡ b → cond b (go rest) other ≡ Some g
    → ((after : List Lexeme) × Marked mark (o ∷ rest) after × (go after ≡ Some g)) ⊎ (other ≡ Some g)
choose_by mark o rest true other go g is e = inl (rest, record { at = o; parts = refl; is = fits_is mark o.kind is }, e)
choose_by mark o rest false other go g is e = inr e

-- the mark was taken, or what is without it was given
pub choose_some : {A : Type 0} (mark : Mark) (os : List Lexeme) (other : Option A) (go : List Lexeme → Option A) (g : A) → choose mark os other go ≡ Some g
    → ((after : List Lexeme) × Marked mark os after × (go after ≡ Some g)) ⊎ (other ≡ Some g)
choose_some mark [] other go g e = inr e
choose_some mark (o ∷ rest) other go g e = choose_by mark o rest (fits mark o.kind) other go g refl e

-- what was read stands at the front
pub record Front (Spells : List Lexeme → Type 0) (os rest : List Lexeme) : Type 0 where
  pub front : List Lexeme
  pub parts : os ≡ front ++ rest
  pub so : Spells front

-- one front after another
pub both_parts : (os a mid c rest : List Lexeme) → os ≡ a ++ mid → mid ≡ c ++ rest → os ≡ (a ++ c) ++ rest
both_parts os a mid c rest e f = e ∙ ap (λ (v : List Lexeme). a ++ v) f ∙ sym (append_assoc a c rest)
