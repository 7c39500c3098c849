-- The numbers in expressions and effects are small where the constants among their lexemes are.
use Rattle.std.proofs.Common.{ℕ, pos, ◌≡◌, List, [], ◌∷◌, ◌++◌, Some, subst, arith}
use Rattle.std.specs.Prelude.{All}
use Rattle.std.proofs.lemmas.List.Elements.{All-nil, All-cons, All-head, All-append}
use Rattle.cx_ceffect.specs.Effects.{AreArguments, last_argument, also_argument, IsCall, call_alone_of, call_with, IsRhs, rhs_value, rhs_call, rhs_cast, IsEffect, assigned, updated, stepped_after, stepped_before, called, evaluated, AreEffects, last_effect, also_effect}
use Rattle.cx_cexpr.specs.Expressions.{prefixed_by, IsCond, unconditional, conditional, IsBinary, operand, lower, joined, IsCast, no_cast, casted, IsUnary, no_prefix, prefixed, size_of_value, size_of_type, IsPostfix, no_suffix, indexed, member_of, member_at, IsPrimary, named, number, inside}
use Rattle.cx_cname.specs.Known.{Known}
use Rattle.cx_ctree.specs.Exprs as e
use Rattle.cx_ctree.specs.Exprs.{ExprTree, ExprKindTree, CallTree, RhsTree, EffectTree}
use Rattle.cx_ctree.specs.declared.expr.Unary.TheVariants as u
use Rattle.cx_cword.specs.declared.lexeme.Lexeme.{Lexeme}
use Rattle.cx_cword.specs.declared.word.Punctuator.{Punctuator}
use Rattle.cx_cword.specs.declared.word.Punctuator.TheVariants as p
use Rattle.cx_gline.proofs.Bounds.{few_small}
use Rattle.cx_gline.specs.Inside.{numbers_in, kind_numbers, all_numbers, right_numbers, effect_numbers, effects_numbers}
use Rattle.cx_gline.specs.Lines.{IsSmall}
use Rattle.cx_cnumber.proofs.Lexemes.{KindSmall, LexemeSmall, Small, rest, around, inner}

abbrev ExprSmall : ExprTree → Type 0
ExprSmall x = All IsSmall (numbers_in x)

abbrev KindNumbersSmall : ExprKindTree → Type 0
KindNumbersSmall k = All IsSmall (kind_numbers k)

prefixed_small : (mark : Punctuator) (x : ExprTree) (y : ExprKindTree) → prefixed_by mark x ≡ Some y → ExprSmall x → KindNumbersSmall y
prefixed_small p.Plus x y is h = let same : e.unary u.Plus x ≡ y = cc in subst KindNumbersSmall same h
prefixed_small p.Minus x y is h = let same : e.unary u.Neg x ≡ y = cc in subst KindNumbersSmall same h
prefixed_small p.Tilde x y is h = let same : e.unary u.Compl x ≡ y = cc in subst KindNumbersSmall same h
prefixed_small p.Bang x y is h = let same : e.unary u.Not x ≡ y = cc in subst KindNumbersSmall same h
prefixed_small p.Star x y is h = let same : e.deref x ≡ y = cc in subst KindNumbersSmall same h
prefixed_small p.Ampersand x y is h = let same : e.address x ≡ y = cc in subst KindNumbersSmall same h
prefixed_small _ x y is h = absurd cc

module _ (env : Known) where
  mutual
    pub cond_small : {os : List Lexeme} {x : ExprTree} → IsCond env os x → Small os → ExprSmall x
    cond_small (unconditional h) s = binary_small h s
    cond_small (conditional {a = a} {c = c} {d = d} {x = x} {y = y} {z = z} q o f is g colon h) s =
        let r = around (a ++ q ∷ c) o d s in let v = around a q c r.0 in
        All-append IsSmall (numbers_in x) (numbers_in y ++ numbers_in z) (binary_small f v.0) (All-append IsSmall (numbers_in y) (numbers_in z) (cond_small g v.1) (cond_small h r.1))

    binary_small : {n : ℕ} {os : List Lexeme} {x : ExprTree} → IsBinary env n os x → Small os → ExprSmall x
    binary_small (operand h) s = cast_small h s
    binary_small (lower h) s = binary_small h s
    binary_small (joined {a = a} {c = c} {x = x} {y = y} o mark op f is by g) s = let r = around a o c s in All-append IsSmall (numbers_in x) (numbers_in y) (binary_small f r.0) (binary_small g r.1)

    cast_small : {os : List Lexeme} {x : ExprTree} → IsCast env os x → Small os → ExprSmall x
    cast_small (no_cast h) s = unary_small h s
    cast_small (casted {a = a} {c = c} o m opens t closes h) s = cast_small h (inner o a m c s).1

    pub unary_small : {os : List Lexeme} {x : ExprTree} → IsUnary env os x → Small os → ExprSmall x
    unary_small (no_prefix h) s = postfix_small h s
    unary_small (prefixed {os = os} {x = x} o mark y is h by) s = prefixed_small mark x y by (cast_small h (rest o os s))
    unary_small (size_of_value o word h) s = All-nil IsSmall
    unary_small (size_of_type o m c word opens t closes) s = All-nil IsSmall

    pub postfix_small : {os : List Lexeme} {x : ExprTree} → IsPostfix env os x → Small os → ExprSmall x
    postfix_small (no_suffix h) s = primary_small h s
    postfix_small (indexed {a = a} {c = c} {x = x} {y = y} o m f opens g closes) s =
        let r = around a o c (around (a ++ o ∷ c) m [] s).0 in All-append IsSmall (numbers_in x) (numbers_in y) (postfix_small f r.0) (cond_small g r.1)
    postfix_small (member_of {a = a} o m n h dot name) s = postfix_small h (around a o (m ∷ []) s).0
    postfix_small (member_at {a = a} o m n h arrow name) s = postfix_small h (around a o (m ∷ []) s).0

    primary_small : {os : List Lexeme} {x : ExprTree} → IsPrimary env os x → Small os → ExprSmall x
    primary_small (named o n name no_type) s = All-nil IsSmall
    primary_small (number o v t is) s = All-cons IsSmall v [] (subst KindSmall is (All-head LexemeSmall o [] s)) (All-nil IsSmall)
    primary_small (inside {os = os} o m opens h closes) s = cond_small h (inner o os m [] s).0

  -- ---- effects

  arguments_small : {os : List Lexeme} {xs : List ExprTree} → AreArguments env os xs → Small os → All IsSmall (all_numbers xs)
  arguments_small (last_argument {x = x} h) s = All-append IsSmall (numbers_in x) [] (cond_small h s) (All-nil IsSmall)
  arguments_small (also_argument {a = a} {c = c} {x = x} {xs = xs} o h comma g) s = let r = around a o c s in All-append IsSmall (numbers_in x) (all_numbers xs) (cond_small h r.0) (arguments_small g r.1)

  call_small : {os : List Lexeme} {c : CallTree} → IsCall env os c → Small os → All IsSmall (all_numbers c.args)
  call_small (call_alone_of o m c n name opens closes) s = All-nil IsSmall
  call_small (call_with {a = a} o m c n name opens h closes) s = arguments_small h (around a c [] (rest m (a ++ c ∷ []) (rest o (m ∷ a ++ c ∷ []) s))).0

  pub rhs_small : {os : List Lexeme} {r : RhsTree} → IsRhs env os r → Small os → All IsSmall (right_numbers r)
  rhs_small (rhs_value h) s = cond_small h s
  rhs_small (rhs_call h) s = call_small h s
  rhs_small (rhs_cast {a = a} {c = c} o m opens t closes h) s = call_small h (inner o a m c s).1

  -- the number 1 that ++ and -- stand for is small
  stepped_small : (x : ExprTree) → ExprSmall x → All IsSmall (pos 1 ∷ numbers_in x)
  stepped_small x h = All-cons IsSmall (pos 1) (numbers_in x) (few_small 1 (omega arith)) h

  pub effect_small : {os : List Lexeme} {x : EffectTree} → IsEffect env os x → Small os → All IsSmall (effect_numbers x)
  effect_small (assigned {a = a} {c = c} {x = x} {r = r} o h is g) s = let v = around a o c s in All-append IsSmall (right_numbers r) (numbers_in x) (rhs_small g v.1) (unary_small h v.0)
  effect_small (updated {a = a} {c = c} {x = x} {y = y} o mark op h is by g) s = let v = around a o c s in All-append IsSmall (numbers_in y) (numbers_in x) (cond_small g v.1) (unary_small h v.0)
  effect_small (stepped_after {a = a} {x = x} o mark op h is by) s = stepped_small x (postfix_small h (around a o [] s).0)
  effect_small (stepped_before {a = a} {x = x} o mark op is by h) s = stepped_small x (unary_small h (rest o a s))
  effect_small (called h) s = call_small h s
  effect_small (evaluated h) s = cond_small h s

  pub effects_small : {os : List Lexeme} {xs : List EffectTree} → AreEffects env os xs → Small os → All IsSmall (effects_numbers xs)
  effects_small (last_effect {e = x} h) s = All-append IsSmall (effect_numbers x) [] (effect_small h s) (All-nil IsSmall)
  effects_small (also_effect {a = a} {c = c} {e = x} {es = xs} o h comma g) s = let r = around a o c s in All-append IsSmall (effect_numbers x) (effects_numbers xs) (effect_small h r.0) (effects_small g r.1)
