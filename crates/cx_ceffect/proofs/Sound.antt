-- What is read as a call, a right side or an effect is spelled so.
use Rattle.std.proofs.Common.{◌≡◌, ℕ, zero, suc, ◌-◌, ◌<◌, ◌≤◌, true, false, cond, List, [], ◌∷◌, ◌++◌, length, Option, Some, None, refl, sym, ap, ◌∙◌, subst, append_assoc, arith, length-append, inl, inr}
use Rattle.std.specs.Prelude.{max}
use Rattle.std.proofs.lemmas.Option.{same_Some}
use Rattle.cx_base.specs.declared.span.Span.{Span}
use Rattle.cx_ctree.specs.declared.expr.Binary.{Binary}
use Rattle.cx_ctree.specs.Types.{TypeTree}
use Rattle.cx_ctree.specs.Exprs.{ExprTree, CallTree, RhsTree, value, call, EffectTree, set, update, call_alone, value_alone}
use Rattle.cx_ctree.specs.Path.{greatest, expr_path, call_path, rhs_path, effect_path}
use Rattle.cx_cword.specs.declared.word.Punctuator.TheVariants as p
use Rattle.cx_cword.specs.declared.lexeme.Lexeme.{Lexeme}
use Rattle.cx_cword.specs.Reading.{Is, IsName, first_of, past_of, span_of, span_between, ◌>>=◌, at_lexeme}
use Rattle.cx_cname.specs.Known.{Known}
use Rattle.cx_cword.specs.declared.mark.Mark.TheVariants as m
use Rattle.cx_cexpr.specs.Expressions.{IsCond, IsUnary}
use Rattle.cx_cexpr.specs.Reading.{Got, wanted, opens_type, enclosed_at, cond_at, unary_at}
use Rattle.cx_cexpr.proofs.Spans.{first-append, past-append, spanned}
use Rattle.cx_cexpr.proofs.Steps.{bind_some, at_first, at_rest, pick, test_some, wanted_some, named_some, Found}
use Rattle.cx_cexpr.proofs.TypeSound.{Enclosed, enclosed_sound}
use Rattle.cx_cexpr.proofs.Begins.{cond_filled, unary_filled}
use Rattle.cx_cexpr.proofs.Sound.{FoundExpr, cond_sound, unary_sound}
use Rattle.cx_ceffect.specs.declared.kinds.After.{After}
use Rattle.cx_ceffect.specs.declared.kinds.After.TheVariants as after
use Rattle.cx_ceffect.specs.declared.kinds.Separator.{Separator}
use Rattle.cx_ceffect.specs.declared.kinds.Separator.TheVariants as s
use Rattle.cx_ceffect.specs.Effects.{AreArguments, last_argument, also_argument, IsCall, call_alone_of, call_with, IsRhs, rhs_value, rhs_call, rhs_cast, one, IsEffect, assigned, updated, stepped_after, stepped_before, called, evaluated, AreEffects, last_effect, also_effect}
use Rattle.cx_ceffect.specs.Kinds.{after_of, step_of, separator_of, begins_postfix, calls}
use Rattle.cx_ceffect.specs.Reading as reading
use Rattle.cx_ceffect.specs.Reading.{argument_by, arguments_at, enclosed_arguments, called_at, call_at, cast_rhs_at, rhs_at, value_effect, call_effect, assigned_at, updated_at, stepped_at, value_at, after_by, after_at, plain_at, effect_by, effect_at, listed_by, effects_at}
use Rattle.cx_ceffect.proofs.Shapes.{separator_comma, separator_close, step_is, after_assign, after_update, after_step}
use Rattle.cx_cword.proofs.Marks.{fits_is}
use Rattle.cx_ceffect.proofs.Parts.{begins_at, two_parts, two_ends, starts_postfix, postfix_front, unary_postfix}
use Rattle.cx_ceffect.proofs.Values.{rest_from, cond_as_value}
use Rattle.cx_cword.specs.Marks.{fits}

-- ---- what begins with a lexeme and is not empty

pub call_filled : {env : Known} {os : List Lexeme} {x : CallTree} → IsCall env os x → 0 < length os
call_filled (call_alone_of o m c n e f g) = omega arith
call_filled (call_with o m c n e f h g) = omega arith

pub rhs_filled : {env : Known} {os : List Lexeme} {x : RhsTree} → IsRhs env os x → 0 < length os
rhs_filled (rhs_value h) = cond_filled h
rhs_filled (rhs_call h) = call_filled h
rhs_filled (rhs_cast o m e t f h) = omega arith

pub effect_filled : {env : Known} {os : List Lexeme} {x : EffectTree} → IsEffect env os x → 0 < length os
effect_filled (assigned {a = a} {c = c} o h e r) = omega (arith, length-append a (o ∷ c))
effect_filled (updated {a = a} {c = c} o mark op h e f r) = omega (arith, length-append a (o ∷ c))
effect_filled (stepped_after {a = a} o mark op h e f) = omega (arith, length-append a (o ∷ []))
effect_filled (stepped_before o mark op e f h) = omega arith
effect_filled (called h) = call_filled h
effect_filled (evaluated h) = cond_filled h

pub effects_filled : {env : Known} {os : List Lexeme} {es : List EffectTree} → AreEffects env os es → 0 < length os
effects_filled (last_effect h) = effect_filled h
effects_filled (also_effect {a = a} {c = c} o h e hs) = omega (arith, length-append a (o ∷ c))

abbrev pub FoundCall : Known → ℕ → List Lexeme → Got CallTree → Type 0
FoundCall env d whole g = Found call_path (IsCall env) d whole g

abbrev pub FoundRhs : Known → ℕ → List Lexeme → Got RhsTree → Type 0
FoundRhs env d whole g = Found rhs_path (IsRhs env) d whole g

abbrev pub FoundEffect : Known → ℕ → List Lexeme → Got EffectTree → Type 0
FoundEffect env d whole g = Found effect_path (IsEffect env) d whole g

abbrev pub FoundEffects : Known → ℕ → List Lexeme → Got (List EffectTree) → Type 0
FoundEffects env d whole g = Found (greatest effect_path) (AreEffects env) d whole g

module _ (env : Known) where
  -- ---- calls

  -- arguments after those that were read, with the parenthesis after them
  record FoundArguments (d : ℕ) (all : List ExprTree) (whole : List Lexeme) (g : Got (List ExprTree)) : Type 0 where
    front : List Lexeme
    xs : List ExprTree
    close : Lexeme
    parts : whole ≡ front ++ close ∷ g.rest
    spelled_so : AreArguments env front xs
    closes : Is p.CloseParen close
    past : close.span.past ≡ g.past
    tree : all ++ xs ≡ g.tree
    low : greatest expr_path xs ≤ d

  argument_step : (d : ℕ) (again : List ExprTree → List Lexeme → Option (Got (List ExprTree))) → ((all : List ExprTree) (os : List Lexeme) (g : Got (List ExprTree)) → again all os ≡ Some g → FoundArguments d all os g)
      → (all : List ExprTree) (whole : List Lexeme) (x : Got ExprTree) (c : Lexeme) (ts : List Lexeme) (sep : Separator) (g : Got (List ExprTree)) → FoundExpr (IsCond env) d whole x → x.rest ≡ c ∷ ts → separator_of c.kind ≡ sep
      → argument_by again (all ++ x.tree ∷ []) c ts sep ≡ Some g → FoundArguments d all whole g
  argument_step d again sound all whole x c ts s.Comma g f is kind e =
      let q = sound (all ++ x.tree ∷ []) ts g e in
      record {
        front = f.front ++ c ∷ q.front;
        xs = x.tree ∷ q.xs;
        close = q.close;
        parts = two_parts whole f.front x.rest ts q.front (q.close ∷ g.rest) c f.parts is q.parts;
        spelled_so = also_argument c f.spelled_so (separator_comma c.kind kind) q.spelled_so;
        closes = q.closes;
        past = q.past;
        tree = sym (append_assoc all (x.tree ∷ []) q.xs) ∙ q.tree;
        low = let a = f.low in let b = q.low in omega arith;
      }
  argument_step d again sound all whole x c ts s.Close g f is kind e = subst (FoundArguments d all whole) (same_Some (record { tree = all ++ x.tree ∷ []; past = c.span.past; rest = ts }) g e) (record {
    front = f.front;
    xs = x.tree ∷ [];
    close = c;
    parts = f.parts ∙ ap (λ (v : List Lexeme). f.front ++ v) is;
    spelled_so = last_argument f.spelled_so;
    closes = separator_close c.kind kind;
    past = refl;
    tree = refl;
    low = let a = f.low in omega arith;
  })
  argument_step d again sound all whole x c ts s.Other g f is kind e = absurd cc

  arguments_sound : (n d : ℕ) (all : List ExprTree) (os : List Lexeme) (g : Got (List ExprTree)) → arguments_at env n d all os ≡ Some g → FoundArguments d all os g
  unfolding arguments_at
  arguments_sound zero d all os g e = absurd cc
  arguments_sound (suc n) d all os g e =
      let b = bind_some (cond_at env n d os) (λ x. at_lexeme x.rest None (λ c rest. argument_by (arguments_at env n d) (all ++ x.tree ∷ []) c rest (separator_of c.kind))) g e in
      let a = at_first b.0.rest (λ c rest. argument_by (arguments_at env n d) (all ++ b.0.tree ∷ []) c rest (separator_of c.kind)) g b.2 in
      argument_step d (arguments_at env n d) (λ all os g e. arguments_sound n d all os g e) all os b.0 a.0 a.1 (separator_of a.0.kind) g (cond_sound env n d os b.0 b.1) a.2 refl a.3

  -- what stands between the parentheses of a call, with the second of them
  record FoundEnclosed (d : ℕ) (whole : List Lexeme) (g : Got (List ExprTree)) : Type 0 where
    front : List Lexeme
    close : Lexeme
    parts : whole ≡ front ++ close ∷ g.rest
    past : close.span.past ≡ g.past
    low : greatest expr_path g.tree ≤ d
    spelled_so : (o m : Lexeme) (n : ℕ) → IsName n o → Is p.OpenParen m → IsCall env (o ∷ m ∷ front ++ close ∷ []) (record { span = span_of (o ∷ m ∷ front ++ close ∷ []); name = n; args = g.tree })

  enclosed_some : (d : ℕ) (whole : List Lexeme) (g : Got (List ExprTree)) → FoundArguments d [] whole g → FoundEnclosed d whole g
  enclosed_some d whole g f = record {
    front = f.front;
    close = f.close;
    parts = f.parts;
    past = f.past;
    low = subst (λ (xs : List ExprTree). greatest expr_path xs ≤ d) f.tree f.low;
    spelled_so = λ o m n called opens. subst (λ (xs : List ExprTree). IsCall env (o ∷ m ∷ f.front ++ f.close ∷ []) (record { span = span_of (o ∷ m ∷ f.front ++ f.close ∷ []); name = n; args = xs })) f.tree (call_with o m f.close n called opens f.spelled_so f.closes);
  }

  enclosed_none : (d : ℕ) (c : Lexeme) (ts : List Lexeme) (g : Got (List ExprTree)) → Is p.CloseParen c → Some (record { tree = []; past = c.span.past; rest = ts }) ≡ Some g → FoundEnclosed d (c ∷ ts) g
  enclosed_none d c ts g closes e = subst (FoundEnclosed d (c ∷ ts)) (same_Some (record { tree = []; past = c.span.past; rest = ts }) g e) (record {
    front = [];
    close = c;
    parts = refl;
    past = refl;
    low = omega arith;
    spelled_so = λ o m n called opens. call_alone_of o m c n called opens closes;
  })

  arguments_found : (n d : ℕ) (os : List Lexeme) (g : Got (List ExprTree)) → enclosed_arguments env n d os ≡ Some g → FoundEnclosed d os g
  unfolding enclosed_arguments
  arguments_found n d os g e =
      let a = at_first os (λ c rest. cond (fits m.CloseParen c.kind) (Some (record { tree = []; past = c.span.past; rest = rest })) (arguments_at env n d [] os)) g e in
      elim (pick (fits m.CloseParen a.0.kind) (Some (record { tree = []; past = a.0.span.past; rest = a.1 })) (arguments_at env n d [] os) g a.3) [
        | inl q ↦ subst (λ (w : List Lexeme). FoundEnclosed d w g) (sym a.2) (enclosed_none d a.0 a.1 g (fits_is m.CloseParen a.0.kind q.0) q.1)
        | inr q ↦ enclosed_some d os g (arguments_sound n d [] os g q.1)
      ]

  found_call : (d v : ℕ) (o m : Lexeme) (ts : List Lexeme) (x : Got (List ExprTree)) (g : Got CallTree) → IsName v o → Is p.OpenParen m → FoundEnclosed d ts x → Some (called_at o.span.first v x) ≡ Some g → FoundCall env d (o ∷ m ∷ ts) g
  found_call d v o m ts x g name opens f e =
      let front : List Lexeme = o ∷ m ∷ f.front ++ f.close ∷ [] in
      let ends : past_of front ≡ x.past = past-append (o ∷ m ∷ f.front) (f.close ∷ []) (omega arith) ∙ f.past in
      subst (FoundCall env d (o ∷ m ∷ ts)) (same_Some (called_at o.span.first v x) g e) (record {
        front = front;
        parts = ap (λ (w : List Lexeme). o ∷ m ∷ w) (f.parts ∙ sym (append_assoc f.front (f.close ∷ []) x.rest));
        spelled_so = subst (λ (z : Span). IsCall env front (record { span = z; name = v; args = x.tree })) (spanned front o.span.first x.past refl ends) (f.spelled_so o m v name opens);
        past = ends;
        low = f.low;
      })

  pub call_sound : (n d : ℕ) (os : List Lexeme) (g : Got CallTree) → call_at env n d os ≡ Some g → FoundCall env d os g
  unfolding call_at
  call_sound n d os g e =
      let a = named_some os (λ o v rest. wanted m.OpenParen rest (λ c after. enclosed_arguments env n d after >>= λ x. Some (called_at o.span.first v x))) g e in
      let b = wanted_some m.OpenParen a.2 (λ c after. enclosed_arguments env n d after >>= λ x. Some (called_at a.0.span.first a.1 x)) g a.5 in
      let c = bind_some (enclosed_arguments env n d b.1) (λ x. Some (called_at a.0.span.first a.1 x)) g b.4 in
      subst (λ (w : List Lexeme). FoundCall env d w g) (sym (a.3 ∙ ap (λ (w : List Lexeme). a.0 ∷ w) b.2)) (found_call d a.1 a.0 b.0 b.1 c.0 g a.4 (fits_is m.OpenParen b.0.kind b.3) (arguments_found n d b.1 c.0 c.1) c.2)

  -- ---- right sides

  rhs_is_value : (d : ℕ) (whole : List Lexeme) (x : Got ExprTree) (g : Got RhsTree) → FoundExpr (IsCond env) d whole x → reading.rhs_value x ≡ Some g → FoundRhs env d whole g
  rhs_is_value d whole x g f e = subst (FoundRhs env d whole) (same_Some (record { tree = value x.tree; past = x.past; rest = x.rest }) g e) (record { front = f.front; parts = f.parts; spelled_so = rhs_value f.spelled_so; past = f.past; low = f.low })

  rhs_is_call : (d : ℕ) (whole : List Lexeme) (x : Got CallTree) (g : Got RhsTree) → FoundCall env d whole x → reading.rhs_call None x ≡ Some g → FoundRhs env d whole g
  rhs_is_call d whole x g f e = subst (FoundRhs env d whole) (same_Some (record { tree = call x.tree None; past = x.past; rest = x.rest }) g e) (record { front = f.front; parts = f.parts; spelled_so = rhs_call f.spelled_so; past = f.past; low = let a = f.low in omega arith })

  rhs_is_cast : (d : ℕ) (whole : List Lexeme) (t : Got TypeTree) (x : Got CallTree) (g : Got RhsTree) → Enclosed env d whole t → FoundCall env d t.rest x → reading.rhs_call (Some t.tree) x ≡ Some g → FoundRhs env d whole g
  rhs_is_cast d whole t x g q f e = subst (FoundRhs env d whole) (same_Some (record { tree = call x.tree (Some t.tree); past = x.past; rest = x.rest }) g e) (record {
    front = q.open_mark ∷ q.front ++ q.close_mark ∷ f.front;
    parts = q.parts ∙ ap (λ (v : List Lexeme). q.open_mark ∷ v) (ap (λ (v : List Lexeme). q.front ++ q.close_mark ∷ v) f.parts ∙ sym (append_assoc q.front (q.close_mark ∷ f.front) x.rest));
    spelled_so = rhs_cast q.open_mark q.close_mark q.opens q.spelled_so q.closes f.spelled_so;
    past = two_ends (q.open_mark ∷ q.front) f.front q.close_mark x.past (call_filled f.spelled_so) f.past;
    low = let a = f.low in let b = q.low in omega arith;
  })

  value_found : (n d : ℕ) (os : List Lexeme) (g : Got RhsTree) → (cond_at env n d os >>= reading.rhs_value) ≡ Some g → FoundRhs env d os g
  value_found n d os g e = let b = bind_some (cond_at env n d os) reading.rhs_value g e in rhs_is_value d os b.0 g (cond_sound env n d os b.0 b.1) b.2

  cast_rhs_sound : (n d : ℕ) (os : List Lexeme) (g : Got RhsTree) → cast_rhs_at env n d os ≡ Some g → FoundRhs env d os g
  unfolding cast_rhs_at
  cast_rhs_sound n d os g e =
      let b = bind_some (enclosed_at env d os) (λ t. cond (calls t.rest) (call_at env n d t.rest >>= reading.rhs_call (Some t.tree)) (cond_at env n d os >>= reading.rhs_value)) g e in
      elim (pick (calls b.0.rest) (call_at env n d b.0.rest >>= reading.rhs_call (Some b.0.tree)) (cond_at env n d os >>= reading.rhs_value) g b.2) [
        | inl q ↦ let c = bind_some (call_at env n d b.0.rest) (reading.rhs_call (Some b.0.tree)) g q.1 in rhs_is_cast d os b.0 c.0 g (enclosed_sound env d os b.0 b.1) (call_sound n d b.0.rest c.0 c.1) c.2
        | inr q ↦ value_found n d os g q.1
      ]

  pub rhs_sound : (n d : ℕ) (os : List Lexeme) (g : Got RhsTree) → rhs_at env n d os ≡ Some g → FoundRhs env d os g
  unfolding rhs_at
  rhs_sound n d os g e = elim (pick (calls os) (call_at env n d os >>= reading.rhs_call None) (cond (opens_type env os) (cast_rhs_at env n d os) (cond_at env n d os >>= reading.rhs_value)) g e) [
    | inl q ↦ let b = bind_some (call_at env n d os) (reading.rhs_call None) g q.1 in rhs_is_call d os b.0 g (call_sound n d os b.0 b.1) b.2
    | inr q ↦ elim (pick (opens_type env os) (cast_rhs_at env n d os) (cond_at env n d os >>= reading.rhs_value) g q.1) [
      | inl r ↦ cast_rhs_sound n d os g r.1
      | inr r ↦ value_found n d os g r.1
    ]
  ]

  -- ---- effects

  effect_is_value : (d : ℕ) (whole : List Lexeme) (x : Got ExprTree) (g : Got EffectTree) → FoundExpr (IsCond env) d whole x → value_effect x ≡ Some g → FoundEffect env d whole g
  effect_is_value d whole x g f e = subst (FoundEffect env d whole) (same_Some (record { tree = value_alone x.tree; past = x.past; rest = x.rest }) g e) (record { front = f.front; parts = f.parts; spelled_so = evaluated f.spelled_so; past = f.past; low = f.low })

  effect_is_call : (d : ℕ) (whole : List Lexeme) (x : Got CallTree) (g : Got EffectTree) → FoundCall env d whole x → call_effect x ≡ Some g → FoundEffect env d whole g
  effect_is_call d whole x g f e = subst (FoundEffect env d whole) (same_Some (record { tree = call_alone x.tree; past = x.past; rest = x.rest }) g e) (record { front = f.front; parts = f.parts; spelled_so = called f.spelled_so; past = f.past; low = f.low })

  -- an effect that spells a tree with its own place
  placed : (d first : ℕ) (whole front rest : List Lexeme) (past : ℕ) (tree : Span → EffectTree) (g : Got EffectTree) → whole ≡ front ++ rest → first_of front ≡ first → past_of front ≡ past → IsEffect env front (tree (span_of front)) → effect_path (tree (span_between first past)) ≤ d
      → Some (record { tree = tree (span_between first past); past = past; rest = rest }) ≡ Some g → FoundEffect env d whole g
  placed d first whole front rest past tree g parts begins ends so low e = subst (FoundEffect env d whole) (same_Some (record { tree = tree (span_between first past); past = past; rest = rest }) g e) (record {
    front = front;
    parts = parts;
    spelled_so = subst (λ (z : Span). IsEffect env front (tree z)) (spanned front first past begins ends) so;
    past = ends;
    low = low;
  })

  module _ (d first : ℕ) (whole : List Lexeme) (begins : first_of whole ≡ first) where
    found_assigned : (x : Got ExprTree) (r : Got RhsTree) (g : Got EffectTree) (o : Lexeme) (ts : List Lexeme) → FoundExpr (IsUnary env) d whole x → x.rest ≡ o ∷ ts → Is p.Assign o → FoundRhs env d ts r → assigned_at first x r ≡ Some g → FoundEffect env d whole g
    found_assigned x r g o ts f is kind q e =
        placed d first whole (f.front ++ o ∷ q.front) r.rest r.past (set x.tree r.tree) g
        (two_parts whole f.front x.rest ts q.front r.rest o f.parts is q.parts)
        (first-append f.front (o ∷ q.front) (unary_filled f.spelled_so) ∙ begins_at whole f.front x.rest first f.parts (unary_filled f.spelled_so) begins)
        (two_ends f.front q.front o r.past (rhs_filled q.spelled_so) q.past)
        (assigned o f.spelled_so kind q.spelled_so) (let a = f.low in let b = q.low in omega arith) e

    found_updated : (x y : Got ExprTree) (op : Binary) (g : Got EffectTree) (o : Lexeme) (ts : List Lexeme) → FoundExpr (IsUnary env) d whole x → x.rest ≡ o ∷ ts → after_of o.kind ≡ after.Update op → FoundExpr (IsCond env) d ts y → updated_at first op x y ≡ Some g → FoundEffect env d whole g
    found_updated x y op g o ts f is kind q e =
        let w = after_update o.kind op kind in
        placed d first whole (f.front ++ o ∷ q.front) y.rest y.past (update op x.tree y.tree) g
        (two_parts whole f.front x.rest ts q.front y.rest o f.parts is q.parts)
        (first-append f.front (o ∷ q.front) (unary_filled f.spelled_so) ∙ begins_at whole f.front x.rest first f.parts (unary_filled f.spelled_so) begins)
        (two_ends f.front q.front o y.past (cond_filled q.spelled_so) q.past)
        (updated o w.0 op f.spelled_so w.1 w.2 q.spelled_so) (let a = f.low in let b = q.low in omega arith) e

    found_stepped : (x : Got ExprTree) (op : Binary) (g : Got EffectTree) (o : Lexeme) (ts : List Lexeme) → FoundExpr (IsUnary env) d whole x → starts_postfix whole ≡ true → x.rest ≡ o ∷ ts → after_of o.kind ≡ after.Step op → stepped_at first o.span.past op x.tree ts ≡ Some g → FoundEffect env d whole g
    found_stepped x op g o ts f postfix is kind e =
        let w = after_step o.kind op kind in
        let filled = unary_filled f.spelled_so in
        placed d first whole (f.front ++ o ∷ []) ts o.span.past (λ z. update op x.tree (one z) z) g
        (two_parts whole f.front x.rest ts [] ts o f.parts is refl)
        (first-append f.front (o ∷ []) filled ∙ begins_at whole f.front x.rest first f.parts filled begins)
        (past-append f.front (o ∷ []) (omega arith))
        (stepped_after o w.0 op (unary_postfix f.spelled_so (postfix_front f.front x.rest filled (ap starts_postfix (sym f.parts) ∙ postfix))) w.1 w.2) (low x f.low) e
      where
        low : (x : Got ExprTree) → expr_path x.tree ≤ d → max (expr_path x.tree) 1 ≤ d
        low x h = let s = Rattle.cx_ceffect.proofs.Lists.some_path x.tree in omega (arith, h, s)

  found_before : (d : ℕ) (o : Lexeme) (ts : List Lexeme) (x : Got ExprTree) (op : Binary) (g : Got EffectTree) → step_of o.kind ≡ Some op → FoundExpr (IsUnary env) d ts x → stepped_at o.span.first x.past op x.tree x.rest ≡ Some g → FoundEffect env d (o ∷ ts) g
  found_before d o ts x op g kind f e =
      let w = step_is o.kind op kind in
      let s = Rattle.cx_ceffect.proofs.Lists.some_path x.tree in
      placed d o.span.first (o ∷ ts) (o ∷ f.front) x.rest x.past (λ z. update op x.tree (one z) z) g
      (ap (λ (v : List Lexeme). o ∷ v) f.parts) refl (past-append (o ∷ []) f.front (unary_filled f.spelled_so) ∙ f.past)
      (stepped_before o w.0 op w.1 w.2 f.spelled_so) (let a = f.low in omega (arith, s)) e

  -- what goes on as a value
  value_sound : (n d : ℕ) (o : Lexeme) (ts : List Lexeme) (x : Got ExprTree) (g : Got EffectTree) → opens_type env (o ∷ ts) ≡ false → unary_at env (n - 3) d (o ∷ ts) ≡ Some x → value_at env n d o.span.first x ≡ Some g → FoundEffect env d (o ∷ ts) g
  unfolding value_at
  value_sound n d o ts x g off read e =
      let b = bind_some (rest_from env n d o.span.first x) value_effect g e in
      let all : cond_at env n d (o ∷ ts) ≡ Some b.0 = cond_as_value env n d o ts off ∙ ap (λ (r : Option (Got ExprTree)). r >>= rest_from env n d o.span.first) read ∙ b.1 in
      effect_is_value d (o ∷ ts) b.0 g (cond_sound env n d (o ∷ ts) b.0 all) b.2

  after_found : (n d : ℕ) (w : Lexeme) (ws : List Lexeme) (x : Got ExprTree) (o : Lexeme) (ts : List Lexeme) (a : After) (g : Got EffectTree) → opens_type env (w ∷ ws) ≡ false → unary_at env (n - 3) d (w ∷ ws) ≡ Some x → x.rest ≡ o ∷ ts → after_of o.kind ≡ a
      → after_by env n d (begins_postfix w.kind) w.span.first x o ts a ≡ Some g → FoundEffect env d (w ∷ ws) g
  after_found n d w ws x o ts after.Assign g off read is kind e =
      let b = bind_some (rhs_at env n d ts) (assigned_at w.span.first x) g e in
      found_assigned d w.span.first (w ∷ ws) refl x b.0 g o ts (unary_sound env (n - 3) d (w ∷ ws) x read) is (after_assign o.kind kind) (rhs_sound n d ts b.0 b.1) b.2
  after_found n d w ws x o ts (after.Update op) g off read is kind e =
      let b = bind_some (cond_at env n d ts) (updated_at w.span.first op x) g e in
      found_updated d w.span.first (w ∷ ws) refl x b.0 op g o ts (unary_sound env (n - 3) d (w ∷ ws) x read) is kind (cond_sound env n d ts b.0 b.1) b.2
  after_found n d w ws x o ts (after.Step op) g off read is kind e =
      let b = test_some (begins_postfix w.kind) (stepped_at w.span.first o.span.past op x.tree ts) g e in
      found_stepped d w.span.first (w ∷ ws) refl x op g o ts (unary_sound env (n - 3) d (w ∷ ws) x read) b.0 is kind b.1
  after_found n d w ws x o ts after.Other g off read is kind e = value_sound n d w ws x g off read e

  after_sound : (n d : ℕ) (w : Lexeme) (ws : List Lexeme) (x : Got ExprTree) (g : Got EffectTree) → opens_type env (w ∷ ws) ≡ false → unary_at env (n - 3) d (w ∷ ws) ≡ Some x → after_at env n d (begins_postfix w.kind) w.span.first x ≡ Some g → FoundEffect env d (w ∷ ws) g
  unfolding after_at
  after_sound n d w ws x g off read e =
      elim (at_rest x.rest (value_at env n d w.span.first x) (λ o rest. after_by env n d (begins_postfix w.kind) w.span.first x o rest (after_of o.kind)) g e) [
        | inl a ↦ value_sound n d w ws x g off read a.1
        | inr a ↦ after_found n d w ws x a.0 a.1 (after_of a.0.kind) g off read a.2 refl a.3
      ]

  plain_sound : (n d : ℕ) (w : Lexeme) (ws : List Lexeme) (g : Got EffectTree) → plain_at env n d w (w ∷ ws) ≡ Some g → FoundEffect env d (w ∷ ws) g
  unfolding plain_at
  plain_sound n d w ws g e =
      let os : List Lexeme = w ∷ ws in
      let go : Got ExprTree → Option (Got EffectTree) = after_at env n d (begins_postfix w.kind) w.span.first in
      elim (pick (calls os) (call_at env n d os >>= call_effect) (cond (opens_type env os) (cond_at env n d os >>= value_effect) (unary_at env (n - 3) d os >>= go)) g e) [
        | inl q ↦ let b = bind_some (call_at env n d os) call_effect g q.1 in effect_is_call d os b.0 g (call_sound n d os b.0 b.1) b.2
        | inr q ↦ elim (pick (opens_type env os) (cond_at env n d os >>= value_effect) (unary_at env (n - 3) d os >>= go) g q.1) [
          | inl r ↦ let b = bind_some (cond_at env n d os) value_effect g r.1 in effect_is_value d os b.0 g (cond_sound env n d os b.0 b.1) b.2
          | inr r ↦ let b = bind_some (unary_at env (n - 3) d os) go g r.1 in after_sound n d w ws b.0 g r.0 b.1 b.2
        ]
      ]

  effect_step : (n d : ℕ) (o : Lexeme) (ts : List Lexeme) (f : Option Binary) (g : Got EffectTree) → step_of o.kind ≡ f → effect_by env n d o (o ∷ ts) ts f ≡ Some g → FoundEffect env d (o ∷ ts) g
  effect_step n d o ts (Some op) g kind e =
      let b = bind_some (unary_at env n d ts) (λ x. stepped_at o.span.first x.past op x.tree x.rest) g e in
      found_before d o ts b.0 op g kind (unary_sound env n d ts b.0 b.1) b.2
  effect_step n d o ts None g kind e = plain_sound n d o ts g e

  pub effect_sound : (n d : ℕ) (os : List Lexeme) (g : Got EffectTree) → effect_at env n d os ≡ Some g → FoundEffect env d os g
  unfolding effect_at
  effect_sound n d [] g e = absurd cc
  effect_sound n d (o ∷ ts) g e = effect_step n d o ts (step_of o.kind) g refl e

  -- ---- effects with commas between them

  record FoundMore (d : ℕ) (all : List EffectTree) (whole : List Lexeme) (g : Got (List EffectTree)) : Type 0 where
    front : List Lexeme
    es : List EffectTree
    parts : whole ≡ front ++ g.rest
    spelled_so : AreEffects env front es
    past : past_of front ≡ g.past
    tree : all ++ es ≡ g.tree
    low : greatest effect_path es ≤ d

  abbrev done_with : List EffectTree → Got EffectTree → Got (List EffectTree)
  done_with all x = record { tree = all ++ x.tree ∷ []; past = x.past; rest = x.rest }

  last_found : (d : ℕ) (all : List EffectTree) (whole : List Lexeme) (x : Got EffectTree) (g : Got (List EffectTree)) → FoundEffect env d whole x → Some (done_with all x) ≡ Some g → FoundMore d all whole g
  last_found d all whole x g f e = subst (FoundMore d all whole) (same_Some (done_with all x) g e) (record {
    front = f.front;
    es = x.tree ∷ [];
    parts = f.parts;
    spelled_so = last_effect f.spelled_so;
    past = f.past;
    tree = refl;
    low = let a = f.low in omega arith;
  })

  listed_step : (d : ℕ) (all : List EffectTree) (again : List Lexeme → Option (Got (List EffectTree))) (whole : List Lexeme) (x : Got EffectTree) (c : Lexeme) (ts : List Lexeme) (sep : Separator) (g : Got (List EffectTree))
      → ((os : List Lexeme) (g : Got (List EffectTree)) → again os ≡ Some g → FoundMore d (all ++ x.tree ∷ []) os g) → FoundEffect env d whole x → x.rest ≡ c ∷ ts → separator_of c.kind ≡ sep
      → listed_by again (done_with all x) ts sep ≡ Some g → FoundMore d all whole g
  listed_step d all again whole x c ts s.Comma g sound f is kind e =
      let q = sound ts g e in
      record {
        front = f.front ++ c ∷ q.front;
        es = x.tree ∷ q.es;
        parts = two_parts whole f.front x.rest ts q.front g.rest c f.parts is q.parts;
        spelled_so = also_effect c f.spelled_so (separator_comma c.kind kind) q.spelled_so;
        past = two_ends f.front q.front c g.past (effects_filled q.spelled_so) q.past;
        tree = sym (append_assoc all (x.tree ∷ []) q.es) ∙ q.tree;
        low = let a = f.low in let b = q.low in omega arith;
      }
  listed_step d all again whole x c ts s.Close g sound f is kind e = last_found d all whole x g f e
  listed_step d all again whole x c ts s.Other g sound f is kind e = last_found d all whole x g f e

  more_sound : (n d : ℕ) (all : List EffectTree) (os : List Lexeme) (g : Got (List EffectTree)) → effects_at env n d all os ≡ Some g → FoundMore d all os g
  unfolding effects_at
  more_sound zero d all os g e = absurd cc
  more_sound (suc n) d all os g e =
      let again : Got EffectTree → List Lexeme → Option (Got (List EffectTree)) = λ x. effects_at env n d (all ++ x.tree ∷ []) in
      let b = bind_some (effect_at env n d os) (λ x. at_lexeme x.rest (Some (done_with all x)) (λ c rest. listed_by (again x) (done_with all x) rest (separator_of c.kind))) g e in
      let f = effect_sound n d os b.0 b.1 in
      elim (at_rest b.0.rest (Some (done_with all b.0)) (λ c rest. listed_by (again b.0) (done_with all b.0) rest (separator_of c.kind)) g b.2) [
        | inl a ↦ last_found d all os b.0 g f a.1
        | inr a ↦ listed_step d all (again b.0) os b.0 a.0 a.1 (separator_of a.0.kind) g (λ os g e. more_sound n d (all ++ b.0.tree ∷ []) os g e) f a.2 refl a.3
      ]

  pub effects_sound : (n d : ℕ) (os : List Lexeme) (g : Got (List EffectTree)) → effects_at env n d [] os ≡ Some g → FoundEffects env d os g
  effects_sound n d os g e =
      let f = more_sound n d [] os g e in
      record {
        front = f.front;
        parts = f.parts;
        spelled_so = subst (AreEffects env f.front) f.tree f.spelled_so;
        past = f.past;
        low = subst (λ (es : List EffectTree). greatest effect_path es ≤ d) f.tree f.low;
      }
