-- Reading effects from left to right. The first number bounds the calls, the second the heights of trees.
use Rattle.std.specs.Prelude.{◌≡◌, ℕ, zero, suc, ◌-◌, ◌≤◌, Bool, List, [], ◌∷◌, ◌++◌, map, Option, Some, None, Result, Ok, Err, if◌then◌else◌}
use Rattle.cx_ctree.specs.declared.expr.Binary.{Binary}
use Rattle.cx_ctree.specs.Types.{TypeTree}
use Rattle.cx_ctree.specs.Exprs as e
use Rattle.cx_ctree.specs.Exprs.{ExprTree, expr_tree, CallTree, call_tree, RhsTree, rhs_tree, EffectTree, effect_tree}
use Rattle.cx_ctree.specs.Path.{greatest, expr_path, call_path, rhs_path, effect_path}
use Rattle.cx_cword.specs.declared.lexeme.Lexeme.{Lexeme}
use Rattle.cx_cword.specs.declared.reading.Stop.{Stop}
use Rattle.cx_cword.specs.Reading.{span_between, ◌>>=◌, at_lexeme}
use Rattle.cx_cname.specs.Known.{Known}
use Rattle.cx_cword.specs.declared.mark.Mark.TheVariants as m
use Rattle.cx_cexpr.specs.Reading.{Got, named, wanted, opens_type, enclosed_at, cond_at, choice_at, climb_at, unary_at}
use Rattle.cx_ceffect.specs.declared.kinds.After.{After}
use Rattle.cx_ceffect.specs.declared.kinds.After.TheVariants as after
use Rattle.cx_ceffect.specs.declared.kinds.Separator.{Separator}
use Rattle.cx_ceffect.specs.declared.kinds.Separator.TheVariants as s
use Rattle.cx_ceffect.specs.declared.make.ReadArguments.{ReadArguments}
use Rattle.cx_ceffect.specs.declared.make.ReadCall.{ReadCall}
use Rattle.cx_ceffect.specs.declared.make.ReadRhs.{ReadRhs}
use Rattle.cx_ceffect.specs.declared.make.ReadEffect.{ReadEffect}
use Rattle.cx_ceffect.specs.declared.make.ReadEffects.{ReadEffects}
use Rattle.cx_ceffect.specs.Effects.{one}
use Rattle.cx_ceffect.specs.Kinds.{after_of, step_of, separator_of, begins_postfix, calls}
use Rattle.cx_cword.specs.Marks.{fits}

-- ---- what was read

abbrev pub got_arguments : ReadArguments → Got (List ExprTree)
got_arguments r = record { tree = map expr_tree r.all; past = r.past; rest = r.rest.now }

abbrev pub got_call : ReadCall → Got CallTree
got_call r = record { tree = call_tree r.tree; past = r.past; rest = r.rest.now }

abbrev pub got_rhs : ReadRhs → Got RhsTree
got_rhs r = record { tree = rhs_tree r.tree; past = r.past; rest = r.rest.now }

abbrev pub got_effect : ReadEffect → Got EffectTree
got_effect r = record { tree = effect_tree r.tree; past = r.past; rest = r.rest.now }

abbrev pub got_effects : ReadEffects → Got (List EffectTree)
got_effects r = record { tree = map effect_tree r.all; past = r.past; rest = r.rest.now }

abbrev pub MeasuredArguments : ℕ → Result ReadArguments Stop → Type 0
MeasuredArguments left (Ok r) = (r.height ≡ greatest expr_path (map expr_tree r.all)) × (r.height ≤ left)
MeasuredArguments left (Err e) = Unit {0}

abbrev pub MeasuredCall : ℕ → Result ReadCall Stop → Type 0
MeasuredCall left (Ok r) = (r.height ≡ call_path (call_tree r.tree)) × (r.height ≤ left)
MeasuredCall left (Err e) = Unit {0}

abbrev pub MeasuredRhs : ℕ → Result ReadRhs Stop → Type 0
MeasuredRhs left (Ok r) = (r.height ≡ rhs_path (rhs_tree r.tree)) × (r.height ≤ left)
MeasuredRhs left (Err e) = Unit {0}

abbrev pub MeasuredEffect : ℕ → Result ReadEffect Stop → Type 0
MeasuredEffect left (Ok r) = (r.height ≡ effect_path (effect_tree r.tree)) × (r.height ≤ left)
MeasuredEffect left (Err e) = Unit {0}

abbrev pub MeasuredEffects : ℕ → Result ReadEffects Stop → Type 0
MeasuredEffects left (Ok r) = (r.height ≡ greatest effect_path (map effect_tree r.all)) × (r.height ≤ left)
MeasuredEffects left (Err e) = Unit {0}

-- ---- calls and right sides

abbrev pub argument_by : (List ExprTree → List Lexeme → Option (Got (List ExprTree))) → List ExprTree → Lexeme → List Lexeme → Separator → Option (Got (List ExprTree))
argument_by again all c rest s.Comma = again all rest
argument_by again all c rest s.Close = Some (record { tree = all; past = c.span.past; rest = rest })
argument_by again all c rest s.Other = None

-- arguments after those that were read, up to the parenthesis after them
unfoldable pub arguments_at : Known → ℕ → ℕ → List ExprTree → List Lexeme → Option (Got (List ExprTree))
arguments_at env zero d all os = None
arguments_at env (suc n) d all os = cond_at env n d os >>= λ x. at_lexeme x.rest None (λ c rest. argument_by (arguments_at env n d) (all ++ x.tree ∷ []) c rest (separator_of c.kind))

-- what stands between the parentheses of a call, with the second of them
unfoldable pub enclosed_arguments : Known → ℕ → ℕ → List Lexeme → Option (Got (List ExprTree))
enclosed_arguments env n d os = at_lexeme os None (λ c rest. if fits m.CloseParen c.kind then Some (record { tree = []; past = c.span.past; rest = rest }) else arguments_at env n d [] os)

abbrev pub called_at : ℕ → ℕ → Got (List ExprTree) → Got CallTree
called_at first n x = record { tree = record { span = span_between first x.past; name = n; args = x.tree }; past = x.past; rest = x.rest }

unfoldable pub call_at : Known → ℕ → ℕ → List Lexeme → Option (Got CallTree)
call_at env n d os = named os (λ o v rest. wanted m.OpenParen rest (λ c after. enclosed_arguments env n d after >>= λ x. Some (called_at o.span.first v x)))

abbrev pub rhs_value : Got ExprTree → Option (Got RhsTree)
rhs_value x = Some (record { tree = e.value x.tree; past = x.past; rest = x.rest })

abbrev pub rhs_call : Option TypeTree → Got CallTree → Option (Got RhsTree)
rhs_call t x = Some (record { tree = e.call x.tree t; past = x.past; rest = x.rest })

-- a call whose result is cast, where a call follows the type; else a value
unfoldable pub cast_rhs_at : Known → ℕ → ℕ → List Lexeme → Option (Got RhsTree)
cast_rhs_at env n d os = enclosed_at env d os >>= λ t. if calls t.rest then (call_at env n d t.rest >>= rhs_call (Some t.tree)) else (cond_at env n d os >>= rhs_value)

unfoldable pub rhs_at : Known → ℕ → ℕ → List Lexeme → Option (Got RhsTree)
rhs_at env n d os = if calls os then (call_at env n d os >>= rhs_call None) else if opens_type env os then cast_rhs_at env n d os else (cond_at env n d os >>= rhs_value)

-- ---- effects

abbrev pub value_effect : Got ExprTree → Option (Got EffectTree)
value_effect x = Some (record { tree = e.value_alone x.tree; past = x.past; rest = x.rest })

abbrev pub call_effect : Got CallTree → Option (Got EffectTree)
call_effect x = Some (record { tree = e.call_alone x.tree; past = x.past; rest = x.rest })

abbrev pub assigned_at : ℕ → Got ExprTree → Got RhsTree → Option (Got EffectTree)
assigned_at first x r = Some (record { tree = e.set x.tree r.tree (span_between first r.past); past = r.past; rest = r.rest })

abbrev pub updated_at : ℕ → Binary → Got ExprTree → Got ExprTree → Option (Got EffectTree)
updated_at first op x y = Some (record { tree = e.update op x.tree y.tree (span_between first y.past); past = y.past; rest = y.rest })

-- one more or one less, from one place up to another
abbrev pub stepped_at : ℕ → ℕ → Binary → ExprTree → List Lexeme → Option (Got EffectTree)
stepped_at first past op x rest = Some (record { tree = e.update op x (one (span_between first past)) (span_between first past); past = past; rest = rest })

-- goes on after a unary expression that is the first operand of a value
unfoldable pub value_at : Known → ℕ → ℕ → ℕ → Got ExprTree → Option (Got EffectTree)
value_at env n d first x = climb_at env (n - 2) d 10 first x >>= choice_at env (n - 1) d first >>= value_effect

abbrev pub after_by : Known → ℕ → ℕ → Bool → ℕ → Got ExprTree → Lexeme → List Lexeme → After → Option (Got EffectTree)
after_by env n d postfix first x o rest after.Assign = rhs_at env n d rest >>= assigned_at first x
after_by env n d postfix first x o rest (after.Update op) = cond_at env n d rest >>= updated_at first op x
after_by env n d postfix first x o rest (after.Step op) = if postfix then stepped_at first o.span.past op x.tree rest else None
after_by env n d postfix first x o rest after.Other = value_at env n d first x

-- goes on after a unary expression, which is a postfix expression or not
unfoldable pub after_at : Known → ℕ → ℕ → Bool → ℕ → Got ExprTree → Option (Got EffectTree)
after_at env n d postfix first x = at_lexeme x.rest (value_at env n d first x) (λ o rest. after_by env n d postfix first x o rest (after_of o.kind))

-- an effect that does not begin with ++ or --
unfoldable pub plain_at : Known → ℕ → ℕ → Lexeme → List Lexeme → Option (Got EffectTree)
plain_at env n d o os = if calls os then (call_at env n d os >>= call_effect) else if opens_type env os then (cond_at env n d os >>= value_effect) else (unary_at env (n - 3) d os >>= after_at env n d (begins_postfix o.kind) o.span.first)

abbrev pub effect_by : Known → ℕ → ℕ → Lexeme → List Lexeme → List Lexeme → Option Binary → Option (Got EffectTree)
effect_by env n d o os rest (Some op) = unary_at env n d rest >>= λ x. stepped_at o.span.first x.past op x.tree x.rest
effect_by env n d o os rest None = plain_at env n d o os

unfoldable pub effect_at : Known → ℕ → ℕ → List Lexeme → Option (Got EffectTree)
effect_at env n d os = at_lexeme os None (λ o rest. effect_by env n d o os rest (step_of o.kind))

abbrev pub listed_by : (List Lexeme → Option (Got (List EffectTree))) → Got (List EffectTree) → List Lexeme → Separator → Option (Got (List EffectTree))
listed_by again x rest s.Comma = again rest
listed_by again x rest _ = Some x

-- effects with commas between them, after those that were read
unfoldable pub effects_at : Known → ℕ → ℕ → List EffectTree → List Lexeme → Option (Got (List EffectTree))
effects_at env zero d all os = None
effects_at env (suc n) d all os =
    effect_at env n d os >>= λ x. let done : Got (List EffectTree) = record { tree = all ++ x.tree ∷ []; past = x.past; rest = x.rest } in
    at_lexeme x.rest (Some done) (λ c rest. listed_by (effects_at env n d (all ++ x.tree ∷ [])) done rest (separator_of c.kind))
