-- Steps of reading that gave an answer.
use Rattle.std.proofs.Common.{◌≡◌, ℕ, ◌≤◌, Bool, true, false, cond, List, [], ◌∷◌, ◌++◌, Option, Some, None, refl, subst, arith, inl, inr, ◌⊎◌}
use Rattle.std.proofs.lemmas.Bool.Decides.{nat_tests}
use Rattle.std.specs.Prelude.{nat_le}
use Rattle.std.proofs.lemmas.Option.{same_Some}
use Rattle.cx_ctree.specs.Types.{TypeTree, void}
use Rattle.cx_ctree.specs.Exprs as e
use Rattle.cx_ctree.specs.Exprs.{ExprTree, ExprKindTree}
use Rattle.cx_ctree.specs.Path.{type_path, expr_path}
use Rattle.cx_base.specs.declared.span.Span.{Span}
use Rattle.cx_cword.specs.declared.lexeme.Lexeme.{Lexeme}
use Rattle.cx_cword.specs.Reading.{name_of, IsName, first_of, past_of, ◌>>=◌, at_lexeme}
use Rattle.cx_cword.specs.declared.mark.Mark.{Mark}
use Rattle.cx_cexpr.specs.Expressions.{untyped}
use Rattle.cx_cexpr.specs.Reading.{Got, wanted, named, named_by, made, low_type, spelled}
use Rattle.cx_cexpr.proofs.Spans.{spanned}
use Rattle.cx_cword.specs.Marks.{fits}

pub bind_some : {A B : Type 0} (o : Option A) (f : A → Option B) (y : B) → (o >>= f) ≡ Some y → (x : A) × (o ≡ Some x) × (f x ≡ Some y)
bind_some (Some x) f y e = (x, refl, e)
bind_some None f y e = absurd cc

pub at_first : {A : Type 0} (os : List Lexeme) (go : Lexeme → List Lexeme → Option A) (g : A) → at_lexeme os None go ≡ Some g → (o : Lexeme) × (rest : List Lexeme) × (os ≡ o ∷ rest) × (go o rest ≡ Some g)
at_first [] go g e = absurd cc
at_first (o ∷ os) go g e = (o, os, refl, e)

pub at_rest : {A : Type 0} (os : List Lexeme) (end : Option A) (go : Lexeme → List Lexeme → Option A) (g : A) → at_lexeme os end go ≡ Some g
    → ((os ≡ []) × (end ≡ Some g)) ⊎ ((o : Lexeme) × (rest : List Lexeme) × (os ≡ o ∷ rest) × (go o rest ≡ Some g))
at_rest [] end go g e = inl (refl, e)
at_rest (o ∷ os) end go g e = inr (o, os, refl, e)

pub test_some : {A : Type 0} (b : Bool) (o : Option A) (g : A) → cond b o None ≡ Some g → (b ≡ true) × (o ≡ Some g)
test_some true o g e = (refl, e)
test_some false o g e = absurd cc

pub pick : {A : Type 0} (b : Bool) (u v : Option A) (g : A) → cond b u v ≡ Some g → ((b ≡ true) × (u ≡ Some g)) ⊎ ((b ≡ false) × (v ≡ Some g))
pick true u v g e = inl (refl, e)
pick false u v g e = inr (refl, e)

pub wanted_some : {A : Type 0} (mark : Mark) (os : List Lexeme) (go : Lexeme → List Lexeme → Option A) (g : A) → wanted mark os go ≡ Some g
    → (c : Lexeme) × (rest : List Lexeme) × (os ≡ c ∷ rest) × (fits mark c.kind ≡ true) × (go c rest ≡ Some g)
wanted_some mark os go g e =
    let h = at_first os (λ o rest. cond (fits mark o.kind) (go o rest) None) g e in
    let b = test_some (fits mark h.0.kind) (go h.0 h.1) g h.3 in
    (h.0, h.1, h.2, b.0, b.1)

named_by_some : {A : Type 0} (go : ℕ → List Lexeme → Option A) (rest : List Lexeme) (o : Option ℕ) (g : A) → named_by go rest o ≡ Some g → (n : ℕ) × (o ≡ Some n) × (go n rest ≡ Some g)
named_by_some go rest (Some n) g e = (n, refl, e)
named_by_some go rest None g e = absurd cc

pub named_some : {A : Type 0} (os : List Lexeme) (go : Lexeme → ℕ → List Lexeme → Option A) (g : A) → named os go ≡ Some g
    → (o : Lexeme) × (n : ℕ) × (rest : List Lexeme) × (os ≡ o ∷ rest) × IsName n o × (go o n rest ≡ Some g)
named_some os go g e =
    let h = at_first os (λ o rest. named_by (go o) rest (name_of o.kind)) g e in
    let b = named_by_some (go h.0) h.1 (name_of h.0.kind) g h.3 in
    (h.0, b.0, h.1, h.2, b.1, b.2)

pub made_some : (d : ℕ) (x : ExprTree) (past : ℕ) (rest : List Lexeme) (g : Got ExprTree) → made d x past rest ≡ Some g → (expr_path x ≤ d) × (◌≡◌ {A = Got ExprTree} (record { tree = x; past = past; rest = rest }) g)
unfolding made
made_some d x past rest g e = let b = test_some (nat_le (expr_path x) d) (Some (record { tree = x; past = past; rest = rest })) g e in (grind (arith, nat_tests, b.0), same_Some _ g b.1)

pub low_type_some : (d : ℕ) (x g : Got TypeTree) → low_type d x ≡ Some g → (type_path x.tree ≤ d) × (x ≡ g)
unfolding low_type
low_type_some d x g e = let b = test_some (nat_le (type_path x.tree) d) (Some x) g e in (grind (arith, nat_tests, b.0), same_Some _ g b.1)

-- the lexemes begin with a spelling of the tree, which is not too high
pub record Found {A : Type 0} (high : A → ℕ) (Spells : List Lexeme → A → Type 0) (d : ℕ) (whole : List Lexeme) (g : Got A) : Type 0 where
  pub front : List Lexeme
  pub parts : whole ≡ front ++ g.rest
  pub spelled_so : Spells front g.tree
  pub past : past_of front ≡ g.past
  pub low : high g.tree ≤ d

-- a node that was made is found where its lexemes spell it
pub built : (Spells : List Lexeme → ExprTree → Type 0) (d : ℕ) (whole front rest : List Lexeme) (first past : ℕ) (kind : ExprKindTree) (z : Got ExprTree) → whole ≡ front ++ rest → first_of front ≡ first → past_of front ≡ past
    → Spells front (untyped front kind) → made d (spelled first past kind) past rest ≡ Some z → Found expr_path Spells d whole z
built Spells d whole front rest first past kind z parts begins ends so made_so =
    let m = made_some d (spelled first past kind) past rest z made_so in
    subst (Found expr_path Spells d whole) m.1 (record {
      front = front;
      parts = parts;
      spelled_so = subst (λ (s : Span). Spells front (e.node s void kind)) (spanned front first past begins ends) so;
      past = ends;
      low = m.0;
    })
