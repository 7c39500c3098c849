-- What follows an effect and what begins one.
use Rattle.std.proofs.Common.{◌≡◌, ℕ, ◌≤◌, Bool, true, false, List, [], ◌∷◌, ◌++◌, Option, Some, None, refl, ap, ◌∙◌, append_assoc, arith}
use Rattle.std.specs.Prelude.{is_some, ◌&&◌}
use Rattle.cx_base.proofs.General.{and_false}
use Rattle.cx_ctree.specs.declared.expr.Binary.{Binary}
use Rattle.cx_ctree.specs.declared.expr.Binary.TheVariants as b
use Rattle.cx_ctree.specs.Exprs.{ExprTree, CallTree, EffectTree}
use Rattle.cx_cword.specs.declared.word.Keyword.TheVariants as k
use Rattle.cx_cword.specs.declared.word.Punctuator.{Punctuator}
use Rattle.cx_cword.specs.declared.word.Punctuator.TheVariants as p
use Rattle.cx_cword.specs.declared.lexeme.Lexeme.{Lexeme}
use Rattle.cx_cword.specs.declared.lexeme.LexemeKind.{LexemeKind}
use Rattle.cx_cword.specs.declared.lexeme.LexemeKind.TheVariants as l
use Rattle.cx_cword.specs.Reading.{Is, IsName, name_of}
use Rattle.cx_cname.specs.Known.{Known}
use Rattle.cx_cword.specs.declared.mark.Mark.TheVariants as mk
use Rattle.cx_cexpr.specs.declared.kinds.Head.TheVariants as h
use Rattle.cx_cexpr.specs.Kinds.{op_at, prefix_of, head_of}
use Rattle.cx_cexpr.specs.Reading.{Got}
use Rattle.cx_cexpr.specs.Expressions.{op_of, IsCond, unconditional, conditional, IsBinary, operand, lower, joined, IsCast, no_cast, casted, IsUnary, no_prefix, prefixed, size_of_value, size_of_type, IsPostfix, no_suffix, indexed, member_of, member_at, IsPrimary, named, number, inside}
use Rattle.cx_cexpr.proofs.Begins.{starts_by, starts_primary}
use Rattle.cx_cexpr.proofs.Ends.{binds, Ends, Continues}
use Rattle.cx_ceffect.specs.declared.kinds.After.{After}
use Rattle.cx_ceffect.specs.declared.kinds.After.TheVariants as after
use Rattle.cx_ceffect.specs.Effects.{assigned_by, stepped_by, IsCall, call_alone_of, call_with}
use Rattle.cx_ceffect.specs.Kinds as kinds
use Rattle.cx_ceffect.specs.Reading.{listed_by}
use Rattle.cx_ceffect.specs.Kinds.{begins_postfix, after_mark, after_of, step_of, separator_of, opens, calls}
use Rattle.cx_cword.proofs.Marks.{fits_is}
use Rattle.cx_ceffect.proofs.Parts.{starts_postfix}
use Rattle.cx_cword.specs.Marks.{fits}

-- ---- what follows an effect

abbrev pub closes : LexemeKind → Bool
closes (l.Punctuator p.Semicolon) = true
closes (l.Punctuator p.Comma) = true
closes (l.Punctuator p.CloseParen) = true
closes _ = false

-- nothing, a semicolon, a comma or a closing parenthesis
abbrev pub Closed : List Lexeme → Type 0
Closed [] = Unit {0}
Closed (o ∷ os) = closes o.kind ≡ true

abbrev pub ends_list : LexemeKind → Bool
ends_list (l.Punctuator p.Semicolon) = true
ends_list (l.Punctuator p.CloseParen) = true
ends_list _ = false

-- nothing, a semicolon or a closing parenthesis
abbrev pub Ended : List Lexeme → Type 0
Ended [] = Unit {0}
Ended (o ∷ os) = ends_list o.kind ≡ true

ended_kind : (kind : LexemeKind) → ends_list kind ≡ true → closes kind ≡ true
ended_kind (l.Punctuator p.Semicolon) e = refl
ended_kind (l.Punctuator p.CloseParen) e = refl
ended_kind (l.Punctuator p.Comma) e = absurd cc
ended_kind _ e = absurd cc

pub ended_closed : (rest : List Lexeme) → Ended rest → Closed rest
ended_closed [] h = tt
ended_closed (o ∷ os) h = ended_kind o.kind h

closes_binds : (kind : LexemeKind) → closes kind ≡ true → binds kind ≡ 12
closes_binds (l.Punctuator p.Semicolon) e = refl
closes_binds (l.Punctuator p.CloseParen) e = refl
closes_binds (l.Punctuator p.Comma) e = refl
closes_binds _ e = absurd cc

pub closed_ends : (rest : List Lexeme) (level : ℕ) → level ≤ 11 → Closed rest → Ends level rest
closed_ends [] level k h = tt
closed_ends (o ∷ os) level k h = let is = closes_binds o.kind h in omega (arith, is, k)

closes_no_open : (kind : LexemeKind) → closes kind ≡ true → fits mk.OpenParen kind ≡ false
closes_no_open (l.Punctuator p.Semicolon) e = refl
closes_no_open (l.Punctuator p.CloseParen) e = refl
closes_no_open (l.Punctuator p.Comma) e = refl
closes_no_open _ e = absurd cc

pub closed_no_open : (rest : List Lexeme) → Closed rest → opens rest ≡ false
closed_no_open [] h = refl
closed_no_open (o ∷ os) h = closes_no_open o.kind h

pub closes_other : (kind : LexemeKind) → closes kind ≡ true → after_of kind ≡ after.Other
closes_other (l.Punctuator p.Semicolon) e = refl
closes_other (l.Punctuator p.CloseParen) e = refl
closes_other (l.Punctuator p.Comma) e = refl
closes_other _ e = absurd cc

open_binds : (kind : LexemeKind) (f : Bool) → fits mk.OpenParen kind ≡ f → binds kind ≤ 11 → f ≡ false
open_binds kind false e h = refl
open_binds kind true e h = let is : binds kind ≡ 12 = ap binds (fits_is mk.OpenParen kind e) in absurd (omega (arith, is, h))

pub continues_no_open : (more rest : List Lexeme) → Continues 11 more → opens rest ≡ false → opens (more ++ rest) ≡ false
continues_no_open [] rest on off = off
continues_no_open (o ∷ os) rest on off = open_binds o.kind (fits mk.OpenParen o.kind) refl on.1

-- ---- what follows the left side of an effect

abbrev pub goes_on : After → Bool
goes_on after.Other = false
goes_on _ = true

-- a lexeme that goes on with an effect goes on with no value
pub record Apart (kind : LexemeKind) : Type 0 where
  pub loose : binds kind ≡ 12
  pub closed : fits mk.OpenParen kind ≡ false
  pub no_op : op_at kind ≡ None
  pub no_question : fits mk.Question kind ≡ false

apart_mark : (mark : Punctuator) → goes_on (after_mark mark) ≡ true → Apart (l.Punctuator mark)
apart_mark p.Assign e = record { loose = refl; closed = refl; no_op = refl; no_question = refl }
apart_mark p.MulAssign e = record { loose = refl; closed = refl; no_op = refl; no_question = refl }
apart_mark p.DivAssign e = record { loose = refl; closed = refl; no_op = refl; no_question = refl }
apart_mark p.RemAssign e = record { loose = refl; closed = refl; no_op = refl; no_question = refl }
apart_mark p.AddAssign e = record { loose = refl; closed = refl; no_op = refl; no_question = refl }
apart_mark p.SubAssign e = record { loose = refl; closed = refl; no_op = refl; no_question = refl }
apart_mark p.ShlAssign e = record { loose = refl; closed = refl; no_op = refl; no_question = refl }
apart_mark p.ShrAssign e = record { loose = refl; closed = refl; no_op = refl; no_question = refl }
apart_mark p.AndAssign e = record { loose = refl; closed = refl; no_op = refl; no_question = refl }
apart_mark p.XorAssign e = record { loose = refl; closed = refl; no_op = refl; no_question = refl }
apart_mark p.OrAssign e = record { loose = refl; closed = refl; no_op = refl; no_question = refl }
apart_mark p.Increment e = record { loose = refl; closed = refl; no_op = refl; no_question = refl }
apart_mark p.Decrement e = record { loose = refl; closed = refl; no_op = refl; no_question = refl }
apart_mark _ e = absurd cc

pub goes_apart : (kind : LexemeKind) → goes_on (after_of kind) ≡ true → Apart kind
goes_apart (l.Punctuator mark) e = apart_mark mark e
goes_apart _ e = absurd cc

update_same : (a c : Binary) → Some a ≡ Some c → after.Update a ≡ after.Update c
update_same a c e = cc

pub update_mark : (mark : Punctuator) (op : Binary) → assigned_by mark ≡ Some op → after_mark mark ≡ after.Update op
update_mark p.MulAssign op e = update_same b.Mul op e
update_mark p.DivAssign op e = update_same b.Div op e
update_mark p.RemAssign op e = update_same b.Rem op e
update_mark p.AddAssign op e = update_same b.Add op e
update_mark p.SubAssign op e = update_same b.Sub op e
update_mark p.ShlAssign op e = update_same b.Shl op e
update_mark p.ShrAssign op e = update_same b.Shr op e
update_mark p.AndAssign op e = update_same b.BitAnd op e
update_mark p.XorAssign op e = update_same b.BitXor op e
update_mark p.OrAssign op e = update_same b.BitOr op e
update_mark _ op e = absurd cc

step_same : (a c : Binary) → Some a ≡ Some c → after.Step a ≡ after.Step c
step_same a c e = cc

pub step_mark : (mark : Punctuator) (op : Binary) → stepped_by mark ≡ Some op → after_mark mark ≡ after.Step op
step_mark p.Increment op e = step_same b.Add op e
step_mark p.Decrement op e = step_same b.Sub op e
step_mark _ op e = absurd cc

-- ---- what begins an expression

pub starts_no_step : (env : Known) (kind : LexemeKind) → starts_by env kind ≡ true → step_of kind ≡ None
starts_no_step env (l.Punctuator p.Increment) e = absurd cc
starts_no_step env (l.Punctuator p.Decrement) e = absurd cc
starts_no_step env _ e = refl

pub starts_no_close : (env : Known) (kind : LexemeKind) → starts_by env kind ≡ true → fits mk.CloseParen kind ≡ false
starts_no_close env (l.Punctuator p.CloseParen) e = absurd cc
starts_no_close env (l.Keyword k.While) e = refl
starts_no_close env (l.Keyword _) e = refl
starts_no_close env _ e = refl

pub name_no_step : (kind : LexemeKind) (n : ℕ) → name_of kind ≡ Some n → step_of kind ≡ None
name_no_step (l.Punctuator mark) n e = absurd cc
name_no_step _ n e = refl

-- ---- a call begins with a name and a parenthesis, and no expression does

open_fits : (o : Lexeme) → Is p.OpenParen o → fits mk.OpenParen o.kind ≡ true
open_fits o e = ap (fits mk.OpenParen) e

pub calls_so : (o m : Lexeme) (n : ℕ) (os : List Lexeme) → IsName n o → Is p.OpenParen m → calls (o ∷ m ∷ os) ≡ true
calls_so o m n os e f = ap (λ (v : Option ℕ). is_some v && fits mk.OpenParen m.kind) e ∙ open_fits m f

pub call_calls : {env : Known} {a : List Lexeme} {x : CallTree} → IsCall env a x → (rest : List Lexeme) → calls (a ++ rest) ≡ true
call_calls (call_alone_of o m c n e f g) rest = calls_so o m n (c ∷ rest) e f
call_calls (call_with {a = a} o m c n e f h g) rest = calls_so o m n ((a ++ c ∷ []) ++ rest) e f

pub calls_off : (o : Lexeme) (os : List Lexeme) → name_of o.kind ≡ None → calls (o ∷ os) ≡ false
calls_off o os e = ap (λ (v : Option ℕ). is_some v && opens os) e

calls_alone : (o : Lexeme) (os : List Lexeme) → opens os ≡ false → calls (o ∷ os) ≡ false
calls_alone o os e = ap (λ (v : Bool). is_some (name_of o.kind) && v) e ∙ and_false (is_some (name_of o.kind))

calls-append : (a b rest : List Lexeme) → calls (a ++ (b ++ rest)) ≡ false → calls ((a ++ b) ++ rest) ≡ false
calls-append a b rest e = ap calls (append_assoc a b rest) ∙ e

mark_no_open : (o : Lexeme) (mark : Punctuator) → Is mark o → fits mk.OpenParen (l.Punctuator mark) ≡ false → fits mk.OpenParen o.kind ≡ false
mark_no_open o mark e f = ap (fits mk.OpenParen) e ∙ f

op_no_open : (mark : Punctuator) (f : ℕ × Binary) → op_of mark ≡ Some f → fits mk.OpenParen (l.Punctuator mark) ≡ false
op_no_open p.OpenParen f e = absurd cc
op_no_open p.CloseParen f e = refl
op_no_open p.CloseBracket f e = refl
op_no_open p.Question f e = refl
op_no_open p.Colon f e = refl
op_no_open _ f e = refl

module _ {env : Known} where
  primary_no_call : {os : List Lexeme} {x : ExprTree} → IsPrimary env os x → (rest : List Lexeme) → opens rest ≡ false → calls (os ++ rest) ≡ false
  primary_no_call (named o n e f) rest off = calls_alone o rest off
  primary_no_call (number o v t e) rest off = calls_off o rest (ap name_of e)
  primary_no_call (inside {os = os} o c e d f) rest off = calls_off o ((os ++ c ∷ []) ++ rest) (ap name_of e)

  postfix_no_call : {os : List Lexeme} {x : ExprTree} → IsPostfix env os x → (rest : List Lexeme) → opens rest ≡ false → calls (os ++ rest) ≡ false
  postfix_no_call (no_suffix d) rest off = primary_no_call d rest off
  postfix_no_call (indexed {a = a} {c = c} o m d e i f) rest off = calls-append (a ++ o ∷ c) (m ∷ []) rest (calls-append a (o ∷ c) (m ∷ rest) (postfix_no_call d (o ∷ (c ++ m ∷ rest)) (mark_no_open o p.OpenBracket e refl)))
  postfix_no_call (member_of {a = a} o m n d e f) rest off = calls-append a (o ∷ m ∷ []) rest (postfix_no_call d (o ∷ m ∷ rest) (mark_no_open o p.Dot e refl))
  postfix_no_call (member_at {a = a} o m n d e f) rest off = calls-append a (o ∷ m ∷ []) rest (postfix_no_call d (o ∷ m ∷ rest) (mark_no_open o p.Arrow e refl))

  pub unary_no_call : {os : List Lexeme} {x : ExprTree} → IsUnary env os x → (rest : List Lexeme) → opens rest ≡ false → calls (os ++ rest) ≡ false
  unary_no_call (no_prefix d) rest off = postfix_no_call d rest off
  unary_no_call (prefixed {os = os} o mark y e d f) rest off = calls_off o (os ++ rest) (ap name_of e)
  unary_no_call (size_of_value {os = os} o e d) rest off = calls_off o (os ++ rest) (ap name_of e)
  unary_no_call (size_of_type {os = os} o m c e f d g) rest off = calls_off o ((m ∷ os ++ c ∷ []) ++ rest) (ap name_of e)

  pub cast_no_call : {os : List Lexeme} {x : ExprTree} → IsCast env os x → (rest : List Lexeme) → opens rest ≡ false → calls (os ++ rest) ≡ false
  cast_no_call (no_cast d) rest off = unary_no_call d rest off
  cast_no_call (casted {a = a} {c = c} o m e t f d) rest off = calls_off o ((a ++ m ∷ c) ++ rest) (ap name_of e)

  binary_no_call : {n : ℕ} {os : List Lexeme} {x : ExprTree} → IsBinary env n os x → (rest : List Lexeme) → opens rest ≡ false → calls (os ++ rest) ≡ false
  binary_no_call (operand d) rest off = cast_no_call d rest off
  binary_no_call (lower d) rest off = binary_no_call d rest off
  binary_no_call (joined {n = n} {a = a} {c = c} o mark op d e f g) rest off = calls-append a (o ∷ c) rest (binary_no_call d (o ∷ (c ++ rest)) (mark_no_open o mark e (op_no_open mark _ f)))

  pub cond_no_call : {os : List Lexeme} {x : ExprTree} → IsCond env os x → (rest : List Lexeme) → opens rest ≡ false → calls (os ++ rest) ≡ false
  cond_no_call (unconditional d) rest off = binary_no_call d rest off
  cond_no_call (conditional {a = a} {c = c} {d = d} q o x e y f z) rest off = calls-append (a ++ q ∷ c) (o ∷ d) rest (calls-append a (q ∷ c) (o ∷ (d ++ rest)) (binary_no_call x (q ∷ (c ++ o ∷ (d ++ rest))) (mark_no_open q p.Question e refl)))

-- ---- a primary expression begins with no operator in front

postfix_mark : (mark : Punctuator) → prefix_of mark ≡ h.Other → kinds.no_prefix mark ≡ true
postfix_mark p.Plus e = absurd cc
postfix_mark p.Minus e = absurd cc
postfix_mark p.Tilde e = absurd cc
postfix_mark p.Bang e = absurd cc
postfix_mark p.Star e = absurd cc
postfix_mark p.Ampersand e = absurd cc
postfix_mark _ e = refl

postfix_kind : (kind : LexemeKind) → head_of kind ≡ h.Other → begins_postfix kind ≡ true
postfix_kind (l.Keyword k.SizeOf) e = absurd cc
postfix_kind (l.Punctuator mark) e = postfix_mark mark e
postfix_kind _ e = refl

pub postfix_starts : (env : Known) (a : List Lexeme) → starts_primary env a → starts_postfix a ≡ true
postfix_starts env [] h = absurd h
postfix_starts env (o ∷ a) h = postfix_kind o.kind h.0

-- ---- where effects end

pub list_ends_by : (again : List Lexeme → Option (Got (List EffectTree))) (x : Got (List EffectTree)) (rest : List Lexeme) (kind : LexemeKind) → ends_list kind ≡ true → listed_by again x rest (separator_of kind) ≡ Some x
list_ends_by again x rest (l.Punctuator p.Semicolon) e = refl
list_ends_by again x rest (l.Punctuator p.CloseParen) e = refl
list_ends_by again x rest (l.Punctuator p.Comma) e = absurd cc
list_ends_by again x rest _ e = absurd cc
