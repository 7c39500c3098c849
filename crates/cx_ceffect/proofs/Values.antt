-- A value that is read from its first operand on is read as a conditional expression.
use Rattle.std.proofs.Common.{◌≡◌, ℕ, zero, suc, ◌-◌, Bool, false, cond, List, ◌∷◌, Option, Some, None, refl, sym, ap, ◌∙◌, arith, pred}
use Rattle.std.proofs.lemmas.Option.{same_Some}
use Rattle.cx_ctree.specs.Exprs.{ExprTree}
use Rattle.cx_cword.specs.declared.lexeme.Lexeme.{Lexeme}
use Rattle.cx_cword.specs.Reading.{◌>>=◌, at_lexeme}
use Rattle.cx_cname.specs.Known.{Known}
use Rattle.cx_cword.specs.declared.mark.Mark.TheVariants as m
use Rattle.cx_cexpr.specs.Kinds.{op_at}
use Rattle.cx_cexpr.specs.Reading.{Got, opens_type, enclosed_at, cast_to, more_by, choice_by, cond_at, choice_at, binary_at, climb_at, more_at, cast_at, unary_at}
use Rattle.cx_cexpr.proofs.Steps.{bind_some}
use Rattle.cx_cword.specs.Marks.{fits}

bind_assoc : {A B C : Type 0} (o : Option A) (f : A → Option B) (g : B → Option C) → ((o >>= f) >>= g) ≡ (o >>= λ x. f x >>= g)
bind_assoc None f g = refl
bind_assoc (Some x) f g = refl

module _ (env : Known) where
  -- what goes on after the first operand
  abbrev pub rest_from : ℕ → ℕ → ℕ → Got ExprTree → Option (Got ExprTree)
  rest_from n d first x = climb_at env (n - 2) d 10 first x >>= choice_at env (n - 1) d first

  pub cond_as_value : (n d : ℕ) (o : Lexeme) (ts : List Lexeme) → opens_type env (o ∷ ts) ≡ false → cond_at env n d (o ∷ ts) ≡ (unary_at env (n - 3) d (o ∷ ts) >>= rest_from n d o.span.first)
  unfolding cond_at
  cond_as_value zero d o ts h = refl
  cond_as_value (suc zero) d o ts h = refl
  cond_as_value (suc (suc zero)) d o ts h = refl
  cond_as_value (suc (suc (suc n))) d o ts h =
      let first : ℕ = o.span.first in
      let k : ℕ = suc (suc (suc n)) in
      let e3 : k - 3 ≡ n = omega arith in
      let e2 : k - 2 ≡ suc n = omega arith in
      let e1 : k - 1 ≡ suc (suc n) = omega arith in
      ap (λ (b : Bool). cond b (enclosed_at env (d - 1) (o ∷ ts) >>= λ t. cast_at env n (d - 1) t.rest >>= cast_to d first t) (unary_at env n d (o ∷ ts)) >>= climb_at env (suc n) d 10 first >>= choice_at env (suc (suc n)) d first) h
      ∙ bind_assoc (unary_at env n d (o ∷ ts)) (climb_at env (suc n) d 10 first) (choice_at env (suc (suc n)) d first)
      ∙ (λ i. unary_at env (sym e3 i) d (o ∷ ts) >>= λ x. climb_at env (sym e2 i) d 10 first x >>= choice_at env (sym e1 i) d first)

  -- ---- where no operator follows, reading does not go on

  more_stays : (n d level first : ℕ) (x y : Got ExprTree) (o : Lexeme) (ts : List Lexeme) → x.rest ≡ o ∷ ts → op_at o.kind ≡ None → more_at env n d level first x ≡ Some y → x ≡ y
  unfolding cond_at
  more_stays zero d level first x y o ts is off e = absurd cc
  more_stays (suc n) d level first x y o ts is off e = same_Some x y (sym (
      ap (λ (r : List Lexeme). at_lexeme r (Some x) (λ o ts. more_by (binary_at env n (d - 1) (pred level)) (more_at env n d level first) d level first x ts (op_at o.kind))) is
      ∙ ap (more_by (binary_at env n (d - 1) (pred level)) (more_at env n d level first) d level first x ts) off
      ) ∙ e)

  climb_stays : (n d level first : ℕ) (x y : Got ExprTree) (o : Lexeme) (ts : List Lexeme) → x.rest ≡ o ∷ ts → op_at o.kind ≡ None → climb_at env n d level first x ≡ Some y → x ≡ y
  unfolding cond_at
  climb_stays zero d level first x y o ts is off e = absurd cc
  climb_stays (suc n) d zero first x y o ts is off e = same_Some x y e
  climb_stays (suc n) d (suc level) first x y o ts is off e =
      let b = bind_some (climb_at env n d level first x) (more_at env n d (suc level) first) y e in
      let same = climb_stays n d level first x b.0 o ts is off b.1 in
      same ∙ more_stays n d (suc level) first b.0 y o ts (ap (λ (v : Got ExprTree). v.rest) (sym same) ∙ is) off b.2

  choice_stays : (n d first : ℕ) (x y : Got ExprTree) (o : Lexeme) (ts : List Lexeme) → x.rest ≡ o ∷ ts → fits m.Question o.kind ≡ false → choice_at env n d first x ≡ Some y → x ≡ y
  unfolding cond_at
  choice_stays zero d first x y o ts is off e = absurd cc
  choice_stays (suc n) d first x y o ts is off e = same_Some x y (sym (
      ap (λ (r : List Lexeme). at_lexeme r (Some x) (λ o ts. cond (fits m.Question o.kind) (choice_by (cond_at env n (d - 1)) d first x ts) (Some x))) is
      ∙ ap (λ (b : Bool). cond b (choice_by (cond_at env n (d - 1)) d first x ts) (Some x)) off
      ) ∙ e)

  pub rest_stays : (n d first : ℕ) (x y : Got ExprTree) (o : Lexeme) (ts : List Lexeme) → x.rest ≡ o ∷ ts → op_at o.kind ≡ None → fits m.Question o.kind ≡ false → rest_from n d first x ≡ Some y → x ≡ y
  rest_stays n d first x y o ts is off none e =
      let b = bind_some (climb_at env (n - 2) d 10 first x) (choice_at env (n - 1) d first) y e in
      let same = climb_stays (n - 2) d 10 first x b.0 o ts is off b.1 in
      same ∙ choice_stays (n - 1) d first b.0 y o ts (ap (λ (v : Got ExprTree). v.rest) (sym same) ∙ is) none b.2
