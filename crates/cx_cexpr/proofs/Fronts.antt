-- The longest type at a front, and the first operand of an expression.
use Rattle.std.proofs.Common.{◌≡◌, ℕ, ◌+◌, ◌*◌, ◌≤◌, true, false, List, [], ◌∷◌, ◌++◌, length, Option, Some, None, sym, ap, ◌∙◌, subst, arith}
use Rattle.std.specs.Prelude.{max}
use Rattle.std.proofs.lemmas.Option.{same_Some}
use Rattle.cx_ctree.specs.Types.{TypeTree}
use Rattle.cx_ctree.specs.Exprs.{ExprTree}
use Rattle.cx_ctree.specs.Path.{type_path, expr_path}
use Rattle.cx_cword.specs.declared.lexeme.Lexeme.{Lexeme}
use Rattle.cx_cword.specs.Reading.{first_of}
use Rattle.cx_cname.specs.Known.{Known}
use Rattle.cx_cexpr.specs.Expressions.{IsBase, IsType, IsCond, IsCast, no_cast, casted, IsUnary}
use Rattle.cx_cexpr.specs.Reading.{Got, Few, base_at, type_at, opens_type, rest_at}
use Rattle.cx_cexpr.proofs.TypeSound.{FoundBase, FoundType, base_sound, type_sound}
use Rattle.cx_cexpr.proofs.TypeAgain.{got_of, GoesOn, base_there, base_longest, type_there, type_longest}
use Rattle.cx_cexpr.proofs.Begins.{begins-append, type_begins}
use Rattle.cx_cexpr.proofs.Ends.{Ends, Continues}
use Rattle.cx_cexpr.proofs.Again.{opens_so, cond_parts}

module _ (env : Known) (few : Few env) (d : ℕ) where
  -- the type is at the front, and no type that is not too high has a longer front
  pub record LongestType (os : List Lexeme) (g : Got TypeTree) : Type 0 where
    pub found : FoundType env d os g
    pub longest : (front rest : List Lexeme) (t : TypeTree) → os ≡ front ++ rest → IsType env front t → type_path t ≤ d → length g.rest ≤ length rest

  goes_less : (rest : List Lexeme) (r : Option (Got TypeTree)) (g : Got TypeTree) → GoesOn rest r → r ≡ Some g → length g.rest ≤ length rest
  goes_less rest r g h e = let same : h.g ≡ g = same_Some h.g g (sym h.is ∙ e) in subst (λ (x : Got TypeTree). length x.rest ≤ length rest) same h.less

  goes_not_none : (rest : List Lexeme) (r : Option (Got TypeTree)) → GoesOn rest r → r ≡ None → ⊥
  goes_not_none rest r h e = let is = h.is in cc

  -- what is read is the longest
  pub type_read : (os : List Lexeme) (g : Got TypeTree) → type_at env d os ≡ Some g → LongestType os g
  type_read os g e = record {
    found = type_sound env d os g e;
    longest = λ front rest t parts h low. goes_less rest (type_at env d (front ++ rest)) g (type_longest env few d h rest low) (ap (type_at env d) (sym parts) ∙ e);
  }

  -- where nothing is read, none is at the front
  pub type_unread : (os : List Lexeme) → type_at env d os ≡ None → (front rest : List Lexeme) (t : TypeTree) → os ≡ front ++ rest → IsType env front t → type_path t ≤ d → ⊥
  type_unread os e front rest t parts h low = goes_not_none rest (type_at env d (front ++ rest)) (type_longest env few d h rest low) (ap (type_at env d) (sym parts) ∙ e)

  -- the same of the words of a type alone
  pub record LongestBase (os : List Lexeme) (g : Got TypeTree) : Type 0 where
    pub found : FoundBase env d os g
    pub longest : (front rest : List Lexeme) (t : TypeTree) → os ≡ front ++ rest → IsBase env front t → type_path t ≤ d → length g.rest ≤ length rest

  pub base_read : (os : List Lexeme) (g : Got TypeTree) → base_at env d os ≡ Some g → LongestBase os g
  base_read os g e = record {
    found = base_sound env d os g e;
    longest = λ front rest t parts h low. goes_less rest (base_at env d (front ++ rest)) g (base_longest env few h d rest low) (ap (base_at env d) (sym parts) ∙ e);
  }

  pub base_unread : (os : List Lexeme) → base_at env d os ≡ None → (front rest : List Lexeme) (t : TypeTree) → os ≡ front ++ rest → IsBase env front t → type_path t ≤ d → ⊥
  base_unread os e front rest t parts h low = goes_not_none rest (base_at env d (front ++ rest)) (base_longest env few h d rest low) (ap (base_at env d) (sym parts) ∙ e)

module _ (env : Known) (few : Few env) where
  -- the same lexemes spell no other type
  pub type_only : {front : List Lexeme} {t u : TypeTree} → IsType env front t → IsType env front u → t ≡ u
  type_only {front} {t} {u} h g =
      let d : ℕ = max (type_path t) (type_path u) in
      let same : Some (got_of front t []) ≡ Some (got_of front u []) = sym (type_there env few d h [] tt tt (omega arith)) ∙ type_there env few d g [] tt tt (omega arith) in
      ap (λ (x : Got TypeTree). x.tree) (same_Some (got_of front t []) (got_of front u []) same)

  pub base_only : {front : List Lexeme} {t u : TypeTree} → IsBase env front t → IsBase env front u → t ≡ u
  base_only {front} {t} {u} h g =
      let d : ℕ = max (type_path t) (type_path u) in
      let same : Some (got_of front t []) ≡ Some (got_of front u []) = sym (base_there env few h d [] tt (omega arith)) ∙ base_there env few g d [] tt (omega arith) in
      ap (λ (x : Got TypeTree). x.tree) (same_Some (got_of front t []) (got_of front u []) same)

  -- ---- expressions

  is_unary : {a : List Lexeme} {x : ExprTree} → IsCast env a x → (rest : List Lexeme) → opens_type env (a ++ rest) ≡ false → IsUnary env a x
  is_unary (no_cast h) rest e = h
  is_unary (casted {a = a} {c = c} o q f h g i) rest e =
      let yes' : opens_type env (o ∷ ((a ++ q ∷ c) ++ rest)) ≡ true = opens_so env o ((a ++ q ∷ c) ++ rest) f (begins-append env (a ++ q ∷ c) rest (begins-append env a (q ∷ c) (type_begins h))) in
      absurd (cc)

  -- an expression that begins with no cast is a unary expression and what reading goes on with to its end
  pub record FromUnary (front : List Lexeme) (t : ExprTree) : Type 0 where
    pub lead : List Lexeme
    pub more : List Lexeme
    pub x : ExprTree
    pub lead_is : IsUnary env lead x
    pub parts : front ≡ lead ++ more
    pub low : expr_path x ≤ expr_path t
    pub on : Continues 11 more
    pub goes : (n d : ℕ) (rest : List Lexeme) → Ends 11 rest → 16 * length (more ++ rest) + 11 ≤ n → expr_path t ≤ d → rest_at env n d (first_of lead) (got_of lead x (more ++ rest)) ≡ Some (got_of front t rest)

  pub from_unary : {front : List Lexeme} {t : ExprTree} → IsCond env front t → opens_type env front ≡ false → FromUnary front t
  from_unary {front} {t} h e =
      let q = cond_parts env few h in
      record {
        lead = q.lead;
        more = q.more;
        x = q.x;
        lead_is = is_unary q.lead_is q.more (ap (opens_type env) (sym q.parts) ∙ e);
        parts = q.parts;
        low = q.low;
        on = q.on;
        goes = λ n d rest ends enough low. q.goes n n d rest ends enough enough low;
      }
