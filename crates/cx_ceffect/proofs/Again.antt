-- What is spelled as a call, a right side or an effect is read, whatever follows that ends it.
use Rattle.std.proofs.Common.{◌≡◌, ℕ, zero, suc, ◌+◌, ◌-◌, ◌*◌, ◌<◌, ◌≤◌, Bool, true, false, cond, List, [], ◌∷◌, ◌++◌, length, Option, Some, None, refl, sym, ap, ◌∙◌, subst, append_assoc, arith, length-append, inl, inr}
use Rattle.std.proofs.lemmas.Bool.{cases_Bool}
use Rattle.std.specs.Prelude.{◌&&◌}
use Rattle.cx_base.specs.declared.span.Span.{Span}
use Rattle.cx_base.proofs.General.{not_both_ways}
use Rattle.cx_ctree.specs.declared.expr.Binary.{Binary}
use Rattle.cx_ctree.specs.Types.{TypeTree}
use Rattle.cx_ctree.specs.Exprs.{ExprTree, CallTree, RhsTree, value, call, EffectTree, set, update}
use Rattle.cx_ctree.specs.Path.{greatest, expr_path, call_path, rhs_path, effect_path}
use Rattle.cx_cword.specs.declared.word.Punctuator.TheVariants as p
use Rattle.cx_cword.specs.declared.lexeme.Lexeme.{Lexeme}
use Rattle.cx_cword.specs.declared.lexeme.LexemeKind.{LexemeKind}
use Rattle.cx_cword.specs.Reading.{Is, IsName, name_of, first_of, past_of, span_of, span_between, ◌>>=◌, at_lexeme}
use Rattle.cx_cname.specs.Known.{Known}
use Rattle.cx_cword.specs.declared.mark.Mark.TheVariants as mk
use Rattle.cx_cexpr.specs.Expressions.{IsCond, IsCast, no_cast, casted, IsUnary, no_prefix}
use Rattle.cx_cexpr.specs.Reading.{Got, Few, named, named_by, wanted, begins_type, opens_type, enclosed_at, cond_at, unary_at}
use Rattle.cx_cexpr.proofs.Spans.{first-append, past-append}
use Rattle.cx_cexpr.proofs.Steps.{bind_some}
use Rattle.cx_cexpr.proofs.Begins.{starts, starts-append, type_begins, begins-append, cond_begins, cond_filled, unary_begins, unary_filled, postfix_begins, postfix_filled, unary_no_cast}
use Rattle.cx_cexpr.proofs.TypeAgain.{got_of, enclosed_there}
use Rattle.cx_cexpr.proofs.Ends.{Ends, mark_ends}
use Rattle.cx_cexpr.proofs.Again.{cond_there, unary_there, cond_parts}
use Rattle.cx_ceffect.specs.declared.kinds.After.{After}
use Rattle.cx_ceffect.specs.declared.kinds.After.TheVariants as after
use Rattle.cx_ceffect.specs.Effects.{AreArguments, last_argument, also_argument, IsCall, call_alone_of, call_with, IsRhs, rhs_value, rhs_call, rhs_cast, one, IsEffect, assigned, updated, stepped_after, stepped_before, called, evaluated, AreEffects, last_effect, also_effect}
use Rattle.cx_ceffect.specs.Kinds.{after_of, step_of, separator_of, begins_postfix, opens, calls}
use Rattle.cx_ceffect.specs.Reading as reading
use Rattle.cx_ceffect.specs.Reading.{argument_by, arguments_at, enclosed_arguments, called_at, call_at, cast_rhs_at, rhs_at, value_effect, call_effect, assigned_at, updated_at, stepped_at, value_at, after_by, after_at, plain_at, effect_by, effect_at, listed_by, effects_at}
use Rattle.cx_ceffect.proofs.Parts.{starts_postfix}
use Rattle.cx_ceffect.proofs.Values.{rest_from, cond_as_value, rest_stays}
use Rattle.cx_ceffect.proofs.Follows.{Closed, Ended, ended_closed, closed_ends, closed_no_open, closes_other, continues_no_open, goes_on, Apart, goes_apart, update_mark, step_mark, starts_no_step, starts_no_close, name_no_step, calls_so, call_calls, calls_off, unary_no_call, cast_no_call, cond_no_call, postfix_starts, list_ends_by}
use Rattle.cx_ceffect.proofs.Sound.{call_filled, rhs_filled, effects_filled}
use Rattle.cx_cword.specs.Marks.{fits}

-- ---- steps that are taken

named_there : {A : Type 0} (o : Lexeme) (v : ℕ) (rest : List Lexeme) (go : Lexeme → ℕ → List Lexeme → Option A) → IsName v o → named (o ∷ rest) go ≡ go o v rest
named_there o v rest go e = ap (named_by (go o) rest) e

open_there : {A : Type 0} (o : Lexeme) (rest : List Lexeme) (go : Lexeme → List Lexeme → Option A) → Is p.OpenParen o → wanted mk.OpenParen (o ∷ rest) go ≡ go o rest
open_there o rest go e = ap (λ (k : LexemeKind). cond (fits mk.OpenParen k) (go o rest) None) e

comma_ends : (o : Lexeme) (rest : List Lexeme) → Is p.Comma o → Ends 11 (o ∷ rest)
comma_ends o rest e = mark_ends o p.Comma 11 rest e refl (omega arith)

close_ends : (o : Lexeme) (rest : List Lexeme) → Is p.CloseParen o → Ends 11 (o ∷ rest)
close_ends o rest e = mark_ends o p.CloseParen 11 rest e refl (omega arith)

comma_closed : (o : Lexeme) (rest : List Lexeme) → Is p.Comma o → Closed (o ∷ rest)
comma_closed o rest e = ap Rattle.cx_ceffect.proofs.Follows.closes e

apart_ends : (o : Lexeme) (rest : List Lexeme) → Apart o.kind → Ends 0 (o ∷ rest)
apart_ends o rest h = let is = h.loose in omega (arith, is)

call_same : (v : ℕ) (xs : List ExprTree) (front rest : List Lexeme) (first past : ℕ) → first_of front ≡ first → past_of front ≡ past
    → ◌≡◌ {A = Got CallTree} (called_at first v (record { tree = xs; past = past; rest = rest })) (got_of front (record { span = span_of front; name = v; args = xs }) rest)
call_same v xs front rest first past e h = λ i. record { tree = record { span = span_between (sym e i) (sym h i); name = v; args = xs }; past = sym h i; rest = rest }

effect_same : (tree : Span → EffectTree) (front rest : List Lexeme) (first past : ℕ) → first_of front ≡ first → past_of front ≡ past
    → ◌≡◌ {A = Got EffectTree} (record { tree = tree (span_between first past); past = past; rest = rest }) (got_of front (tree (span_of front)) rest)
effect_same tree front rest first past e h = λ i. record { tree = tree (span_between (sym e i) (sym h i)); past = sym h i; rest = rest }

joined_past : (a c : List Lexeme) (o : Lexeme) → 0 < length c → past_of (a ++ o ∷ c) ≡ past_of c
joined_past a c o filled = past-append a (o ∷ c) (omega arith) ∙ past-append (o ∷ []) c filled

-- a front is as a whole before a rest
tree_past : {A : Type 0} (x : A) (rest : List Lexeme) (p q : ℕ) → p ≡ q → ◌≡◌ {A = Got A} (record { tree = x; past = p; rest = rest }) (record { tree = x; past = q; rest = rest })
tree_past x rest p q e = λ i. record { tree = x; past = e i; rest = rest }

module _ (env : Known) (few : Few env) where
  -- ---- calls

  arguments_begin : {a : List Lexeme} {xs : List ExprTree} → AreArguments env a xs → starts env a ≡ true
  arguments_begin (last_argument h) = cond_begins h
  arguments_begin (also_argument {a = a} {c = c} o h e hs) = starts-append env a (o ∷ c) (cond_begins h)

  arguments_there : {a : List Lexeme} {xs : List ExprTree} → AreArguments env a xs → (n d : ℕ) (all : List ExprTree) (c : Lexeme) (rest : List Lexeme) → Is p.CloseParen c → 16 * length (a ++ c ∷ rest) + 6 ≤ n → greatest expr_path xs ≤ d
      → arguments_at env n d all (a ++ c ∷ rest) ≡ Some (record { tree = all ++ xs; past = c.span.past; rest = rest })
  unfolding arguments_at
  arguments_there h zero d all c rest close enough low = absurd (omega arith)
  arguments_there (last_argument {a = a} {x = x} h) (suc n) d all c rest close enough low =
      let read = cond_there env few h n d (c ∷ rest) (close_ends c rest close) (omega (arith, enough)) (omega (arith, low)) in
      ap (λ (r : Option (Got ExprTree)). r >>= λ x. at_lexeme x.rest None (λ c rest. argument_by (arguments_at env n d) (all ++ x.tree ∷ []) c rest (separator_of c.kind))) read
      ∙ ap (λ (k : LexemeKind). argument_by (arguments_at env n d) (all ++ x ∷ []) c rest (separator_of k)) close
  arguments_there (also_argument {a = a} {c = b} {x = x} {xs = xs} o h e hs) (suc n) d all c rest close enough low =
      let tail : List Lexeme = b ++ c ∷ rest in
      let parts : (a ++ o ∷ b) ++ c ∷ rest ≡ a ++ o ∷ tail = append_assoc a (o ∷ b) (c ∷ rest) in
      let lengths = ap length parts in
      let sizes = length-append a (o ∷ tail) in
      let read = cond_there env few h n d (o ∷ tail) (comma_ends o tail e) (omega (arith, enough, lengths)) (omega (arith, low)) in
      ap (arguments_at env (suc n) d all) parts
      ∙ ap (λ (r : Option (Got ExprTree)). r >>= λ x. at_lexeme x.rest None (λ c rest. argument_by (arguments_at env n d) (all ++ x.tree ∷ []) c rest (separator_of c.kind))) read
      ∙ ap (λ (k : LexemeKind). argument_by (arguments_at env n d) (all ++ x ∷ []) o tail (separator_of k)) e
      ∙ arguments_there hs n d (all ++ x ∷ []) c rest close (omega (arith, enough, lengths, sizes)) (omega (arith, low))
      ∙ ap (λ (v : List ExprTree). Some (record { tree = v; past = c.span.past; rest = rest })) (append_assoc all (x ∷ []) xs)

  enclosed_goes : (n d : ℕ) (a rest : List Lexeme) → starts env a ≡ true → enclosed_arguments env n d (a ++ rest) ≡ arguments_at env n d [] (a ++ rest)
  unfolding enclosed_arguments
  enclosed_goes n d [] rest e = absurd cc
  enclosed_goes n d (o ∷ a) rest e = ap (λ (b : Bool). cond b (Some (record { tree = []; past = o.span.past; rest = a ++ rest })) (arguments_at env n d [] (o ∷ (a ++ rest)))) (starts_no_close env o.kind e)

  enclosed_none : (n d : ℕ) (c : Lexeme) (rest : List Lexeme) → Is p.CloseParen c → enclosed_arguments env n d (c ∷ rest) ≡ Some (record { tree = []; past = c.span.past; rest = rest })
  unfolding enclosed_arguments
  enclosed_none n d c rest e = ap (λ (k : LexemeKind). cond (fits mk.CloseParen k) (Some (record { tree = []; past = c.span.past; rest = rest })) (arguments_at env n d [] (c ∷ rest))) e

  call_goes : (n d : ℕ) (o m : Lexeme) (v : ℕ) (ts : List Lexeme) (x : Got (List ExprTree)) → IsName v o → Is p.OpenParen m → enclosed_arguments env n d ts ≡ Some x → call_at env n d (o ∷ m ∷ ts) ≡ Some (called_at o.span.first v x)
  unfolding call_at
  call_goes n d o m v ts x name opening read =
      let go : Lexeme → ℕ → List Lexeme → Option (Got CallTree) = λ o v rest. wanted mk.OpenParen rest (λ c after. enclosed_arguments env n d after >>= λ x. Some (called_at o.span.first v x)) in
      named_there o v (m ∷ ts) go name
      ∙ open_there m ts (λ c after. enclosed_arguments env n d after >>= λ x. Some (called_at o.span.first v x)) opening
      ∙ ap (λ (r : Option (Got (List ExprTree))). r >>= λ x. Some (called_at o.span.first v x)) read

  pub call_there : {front : List Lexeme} {x : CallTree} → IsCall env front x → (n d : ℕ) (rest : List Lexeme) → 16 * length (front ++ rest) + 5 ≤ n → call_path x ≤ d → call_at env n d (front ++ rest) ≡ Some (got_of front x rest)
  call_there (call_alone_of o m c v name opening close) n d rest enough low =
      call_goes n d o m v (c ∷ rest) (record { tree = []; past = c.span.past; rest = rest }) name opening (enclosed_none n d c rest close)
  call_there (call_with {a = a} {xs = xs} o m c v name opening h close) n d rest enough low =
      let front : List Lexeme = o ∷ m ∷ a ++ c ∷ [] in
      let parts : (a ++ c ∷ []) ++ rest ≡ a ++ c ∷ rest = append_assoc a (c ∷ []) rest in
      let lengths = ap length parts in
      let read = enclosed_goes n d a (c ∷ rest) (arguments_begin h) ∙ arguments_there h n d [] c rest close (omega (arith, enough, lengths)) low in
      ap (λ (w : List Lexeme). call_at env n d (o ∷ m ∷ w)) parts
      ∙ call_goes n d o m v (a ++ c ∷ rest) (record { tree = xs; past = c.span.past; rest = rest }) name opening read
      ∙ ap Some (call_same v xs front rest o.span.first c.span.past refl (past-append (o ∷ m ∷ a) (c ∷ []) (omega arith)))

  -- ---- right sides

  rhs_calls : (n d : ℕ) (os : List Lexeme) → calls os ≡ true → rhs_at env n d os ≡ (call_at env n d os >>= reading.rhs_call None)
  unfolding rhs_at
  rhs_calls n d os e = ap (λ (b : Bool). cond b (call_at env n d os >>= reading.rhs_call None) (cond (opens_type env os) (cast_rhs_at env n d os) (cond_at env n d os >>= reading.rhs_value))) e

  rhs_types : (n d : ℕ) (os : List Lexeme) → calls os ≡ false → opens_type env os ≡ true → rhs_at env n d os ≡ cast_rhs_at env n d os
  unfolding rhs_at
  rhs_types n d os e f =
      ap (λ (b : Bool). cond b (call_at env n d os >>= reading.rhs_call None) (cond (opens_type env os) (cast_rhs_at env n d os) (cond_at env n d os >>= reading.rhs_value))) e
      ∙ ap (λ (b : Bool). cond b (cast_rhs_at env n d os) (cond_at env n d os >>= reading.rhs_value)) f

  rhs_values : (n d : ℕ) (os : List Lexeme) → calls os ≡ false → opens_type env os ≡ false → rhs_at env n d os ≡ (cond_at env n d os >>= reading.rhs_value)
  unfolding rhs_at
  rhs_values n d os e f =
      ap (λ (b : Bool). cond b (call_at env n d os >>= reading.rhs_call None) (cond (opens_type env os) (cast_rhs_at env n d os) (cond_at env n d os >>= reading.rhs_value))) e
      ∙ ap (λ (b : Bool). cond b (cast_rhs_at env n d os) (cond_at env n d os >>= reading.rhs_value)) f

  cast_goes : (n d : ℕ) (os : List Lexeme) (t : Got TypeTree) → enclosed_at env d os ≡ Some t → cast_rhs_at env n d os ≡ cond (calls t.rest) (call_at env n d t.rest >>= reading.rhs_call (Some t.tree)) (cond_at env n d os >>= reading.rhs_value)
  unfolding cast_rhs_at
  cast_goes n d os t e = ap (λ (r : Option (Got TypeTree)). r >>= λ t. cond (calls t.rest) (call_at env n d t.rest >>= reading.rhs_call (Some t.tree)) (cond_at env n d os >>= reading.rhs_value)) e

  -- a cast expression that begins with a type begins with one in parentheses, after which no call stands
  cast_led : {lead : List Lexeme} {x : ExprTree} → IsCast env lead x → (d : ℕ) (tail : List Lexeme) → opens_type env (lead ++ tail) ≡ true → opens tail ≡ false → expr_path x ≤ d → (t : Got TypeTree) × (enclosed_at env d (lead ++ tail) ≡ Some t) × (calls t.rest ≡ false)
  cast_led (no_cast {os = os} h) d tail e off low = absurd (not_both_ways (opens_type env (os ++ tail)) e (unary_no_cast h tail))
  cast_led (casted {a = a} {c = c} {t = t} o m opening ty close h) d tail e off low =
      let parts : (a ++ m ∷ c) ++ tail ≡ a ++ m ∷ (c ++ tail) = append_assoc a (m ∷ c) tail in
      (record { tree = t; past = m.span.past; rest = c ++ tail }, ap (λ (v : List Lexeme). enclosed_at env d (o ∷ v)) parts ∙ enclosed_there env few d o m (c ++ tail) opening ty close (omega (arith, low)), cast_no_call h tail off)

  cond_led : {front : List Lexeme} {x : ExprTree} → IsCond env front x → (d : ℕ) (rest : List Lexeme) → opens_type env (front ++ rest) ≡ true → opens rest ≡ false → expr_path x ≤ d → (t : Got TypeTree) × (enclosed_at env d (front ++ rest) ≡ Some t) × (calls t.rest ≡ false)
  cond_led {front} {x} h d rest e off low =
      let c = cond_parts env few h in
      let parts : front ++ rest ≡ c.lead ++ (c.more ++ rest) = ap (λ (v : List Lexeme). v ++ rest) c.parts ∙ append_assoc c.lead c.more rest in
      let r = cast_led c.lead_is d (c.more ++ rest) (ap (opens_type env) (sym parts) ∙ e) (continues_no_open c.more rest c.on off) (omega (arith, c.low, low)) in
      (r.0, ap (enclosed_at env d) parts ∙ r.1, r.2)

  value_there : {front : List Lexeme} {x : ExprTree} → IsCond env front x → (n d : ℕ) (rest : List Lexeme) → Closed rest → 16 * length (front ++ rest) + 5 ≤ n → expr_path x ≤ d → (cond_at env n d (front ++ rest) >>= reading.rhs_value) ≡ Some (got_of front (value x) rest)
  value_there h n d rest ends enough low = ap (λ (r : Option (Got ExprTree)). r >>= reading.rhs_value) (cond_there env few h n d rest (closed_ends rest 11 (omega arith) ends) enough low)

  pub rhs_there : {front : List Lexeme} {r : RhsTree} → IsRhs env front r → (n d : ℕ) (rest : List Lexeme) → Closed rest → 16 * length (front ++ rest) + 5 ≤ n → rhs_path r ≤ d → rhs_at env n d (front ++ rest) ≡ Some (got_of front r rest)
  rhs_there (rhs_value {a = front} {x = x} h) n d rest ends enough low =
      let off = closed_no_open rest ends in
      let os : List Lexeme = front ++ rest in
      elim (cases_Bool (opens_type env os)) [
        | inl e ↦
            let t = cond_led h d rest e off low in
            rhs_types n d os (cond_no_call h rest off) e ∙ cast_goes n d os t.0 t.1
            ∙ ap (λ (b : Bool). cond b (call_at env n d t.0.rest >>= reading.rhs_call (Some t.0.tree)) (cond_at env n d os >>= reading.rhs_value)) t.2
            ∙ value_there h n d rest ends enough low
        | inr e ↦ rhs_values n d os (cond_no_call h rest off) e ∙ value_there h n d rest ends enough low
      ]
  rhs_there (rhs_call {a = front} {x = x} h) n d rest ends enough low =
      rhs_calls n d (front ++ rest) (call_calls h rest) ∙ ap (λ (r : Option (Got CallTree)). r >>= reading.rhs_call None) (call_there h n d rest enough (omega (arith, low)))
  rhs_there (rhs_cast {a = a} {c = c} {t = t} {x = x} o m opening ty close h) n d rest ends enough low =
      let tail : List Lexeme = a ++ m ∷ (c ++ rest) in
      let parts : (a ++ m ∷ c) ++ rest ≡ tail = append_assoc a (m ∷ c) rest in
      let lengths = ap length parts in
      let sizes = length-append a (m ∷ (c ++ rest)) in
      let opened : opens_type env (o ∷ tail) ≡ true = ap (λ (k : LexemeKind). fits mk.OpenParen k && begins_type env tail) opening ∙ begins-append env a (m ∷ (c ++ rest)) (type_begins ty) in
      let typed = enclosed_there env few d o m (c ++ rest) opening ty close (omega (arith, low)) in
      let read = call_there h n d rest (omega (arith, enough, lengths, sizes)) (omega (arith, low)) in
      ap (λ (v : List Lexeme). rhs_at env n d (o ∷ v)) parts
      ∙ rhs_types n d (o ∷ tail) (calls_off o tail (ap name_of opening)) opened
      ∙ cast_goes n d (o ∷ tail) (record { tree = t; past = m.span.past; rest = c ++ rest }) typed
      ∙ ap (λ (b : Bool). cond b (call_at env n d (c ++ rest) >>= reading.rhs_call (Some t)) (cond_at env n d (o ∷ tail) >>= reading.rhs_value)) (call_calls h rest)
      ∙ ap (λ (r : Option (Got CallTree)). r >>= reading.rhs_call (Some t)) read
      ∙ ap Some (tree_past (call x (Some t)) rest (past_of c) (past_of (o ∷ a ++ m ∷ c)) (sym (joined_past (o ∷ a) c m (call_filled h))))

  -- ---- effects

  -- what an effect is that begins like an expression or a call
  abbrev plain_by : ℕ → ℕ → ℕ → Bool → List Lexeme → Option (Got EffectTree)
  plain_by n d first postfix os = cond (calls os) (call_at env n d os >>= call_effect) (cond (opens_type env os) (cond_at env n d os >>= value_effect) (unary_at env (n - 3) d os >>= after_at env n d postfix first))

  effect_goes : (n d : ℕ) (front rest : List Lexeme) → starts env front ≡ true → effect_at env n d (front ++ rest) ≡ plain_by n d (first_of front) (starts_postfix front) (front ++ rest)
  unfolding effect_at plain_at
  effect_goes n d [] rest e = absurd cc
  effect_goes n d (o ∷ front) rest e = ap (effect_by env n d o (o ∷ (front ++ rest)) (front ++ rest)) (starts_no_step env o.kind e)

  effect_calls : (n d : ℕ) {front : List Lexeme} {x : CallTree} → IsCall env front x → (rest : List Lexeme) → effect_at env n d (front ++ rest) ≡ (call_at env n d (front ++ rest) >>= call_effect)
  unfolding effect_at plain_at
  effect_calls n d (call_alone_of o m c v name opening close) rest =
      let os : List Lexeme = o ∷ m ∷ c ∷ rest in
      ap (effect_by env n d o os (m ∷ c ∷ rest)) (name_no_step o.kind v name)
      ∙ ap (λ (b : Bool). cond b (call_at env n d os >>= call_effect) (cond (opens_type env os) (cond_at env n d os >>= value_effect) (unary_at env (n - 3) d os >>= after_at env n d (begins_postfix o.kind) o.span.first))) (calls_so o m v (c ∷ rest) name opening)
  effect_calls n d (call_with {a = a} o m c v name opening h close) rest =
      let ts : List Lexeme = m ∷ ((a ++ c ∷ []) ++ rest) in
      let os : List Lexeme = o ∷ ts in
      ap (effect_by env n d o os ts) (name_no_step o.kind v name)
      ∙ ap (λ (b : Bool). cond b (call_at env n d os >>= call_effect) (cond (opens_type env os) (cond_at env n d os >>= value_effect) (unary_at env (n - 3) d os >>= after_at env n d (begins_postfix o.kind) o.span.first))) (calls_so o m v ((a ++ c ∷ []) ++ rest) name opening)

  plain_values : (n d first : ℕ) (postfix : Bool) (os : List Lexeme) → calls os ≡ false → opens_type env os ≡ true → plain_by n d first postfix os ≡ (cond_at env n d os >>= value_effect)
  plain_values n d first postfix os e f =
      ap (λ (b : Bool). cond b (call_at env n d os >>= call_effect) (cond (opens_type env os) (cond_at env n d os >>= value_effect) (unary_at env (n - 3) d os >>= after_at env n d postfix first))) e
      ∙ ap (λ (b : Bool). cond b (cond_at env n d os >>= value_effect) (unary_at env (n - 3) d os >>= after_at env n d postfix first)) f

  plain_unary : (n d first : ℕ) (postfix : Bool) (os : List Lexeme) (x : Got ExprTree) → calls os ≡ false → opens_type env os ≡ false → unary_at env (n - 3) d os ≡ Some x → plain_by n d first postfix os ≡ after_at env n d postfix first x
  plain_unary n d first postfix os x e f read =
      ap (λ (b : Bool). cond b (call_at env n d os >>= call_effect) (cond (opens_type env os) (cond_at env n d os >>= value_effect) (unary_at env (n - 3) d os >>= after_at env n d postfix first))) e
      ∙ ap (λ (b : Bool). cond b (cond_at env n d os >>= value_effect) (unary_at env (n - 3) d os >>= after_at env n d postfix first)) f
      ∙ ap (λ (r : Option (Got ExprTree)). r >>= after_at env n d postfix first) read

  -- the left side of an effect is read, and what follows it is looked at
  left_goes : {front : List Lexeme} {x : ExprTree} → IsUnary env front x → (n d : ℕ) (o : Lexeme) (ts : List Lexeme) → Apart o.kind → 16 * length (front ++ o ∷ ts) + 5 ≤ n → expr_path x ≤ d
      → effect_at env n d (front ++ o ∷ ts) ≡ after_by env n d (starts_postfix front) (first_of front) (got_of front x (o ∷ ts)) o ts (after_of o.kind)
  unfolding after_at
  left_goes {front} {x} h n d o ts off enough low =
      let read = unary_there env few h (n - 3) d (o ∷ ts) (apart_ends o ts off) (omega (arith, enough)) low in
      effect_goes n d front (o ∷ ts) (unary_begins h)
      ∙ plain_unary n d (first_of front) (starts_postfix front) (front ++ o ∷ ts) (got_of front x (o ∷ ts)) (unary_no_call h (o ∷ ts) off.closed) (unary_no_cast h (o ∷ ts)) read

  -- no lexeme that goes on with an effect stands after the first operand of a whole value
  no_after : (n d first : ℕ) (u y : Got ExprTree) (o : Lexeme) (ts : List Lexeme) → rest_from env n d first u ≡ Some y → Closed y.rest → u.rest ≡ o ∷ ts → goes_on (after_of o.kind) ≡ true → ⊥
  no_after n d first u y o ts e ends is on =
      let off = goes_apart o.kind on in
      let same = rest_stays env n d first u y o ts is off.no_op off.no_question e in
      let closed : Closed (o ∷ ts) = subst Closed (ap (λ (v : Got ExprTree). v.rest) (sym same) ∙ is) ends in
      not_both_ways (goes_on (after_of o.kind)) on (ap goes_on (closes_other o.kind closed))

  -- a value whose first operand was read
  after_value_by : (n d first : ℕ) (postfix : Bool) (u y : Got ExprTree) (o : Lexeme) (ts : List Lexeme) (a : After) → rest_from env n d first u ≡ Some y → Closed y.rest → u.rest ≡ o ∷ ts → after_of o.kind ≡ a → after_by env n d postfix first u o ts a ≡ value_effect y
  unfolding value_at
  after_value_by n d first postfix u y o ts after.Other e ends is kind = ap (λ (r : Option (Got ExprTree)). r >>= value_effect) e
  after_value_by n d first postfix u y o ts after.Assign e ends is kind = absurd (no_after n d first u y o ts e ends is (ap goes_on kind))
  after_value_by n d first postfix u y o ts (after.Update op) e ends is kind = absurd (no_after n d first u y o ts e ends is (ap goes_on kind))
  after_value_by n d first postfix u y o ts (after.Step op) e ends is kind = absurd (no_after n d first u y o ts e ends is (ap goes_on kind))

  after_value_at : (n d first : ℕ) (postfix : Bool) (u y : Got ExprTree) (us : List Lexeme) → u.rest ≡ us → rest_from env n d first u ≡ Some y → Closed y.rest → at_lexeme us (value_at env n d first u) (λ o rest. after_by env n d postfix first u o rest (after_of o.kind)) ≡ value_effect y
  unfolding value_at
  after_value_at n d first postfix u y [] is e ends = ap (λ (r : Option (Got ExprTree)). r >>= value_effect) e
  after_value_at n d first postfix u y (o ∷ ts) is e ends = after_value_by n d first postfix u y o ts (after_of o.kind) e ends is refl

  after_value : (n d first : ℕ) (postfix : Bool) (u y : Got ExprTree) → rest_from env n d first u ≡ Some y → Closed y.rest → after_at env n d postfix first u ≡ value_effect y
  unfolding after_at
  after_value n d first postfix u y e ends = after_value_at n d first postfix u y u.rest refl e ends

  -- a value that does not begin with a type in parentheses is read from its first operand on
  first_operand : (n d : ℕ) (front rest : List Lexeme) (y : Got ExprTree) → 0 < length front → opens_type env (front ++ rest) ≡ false → cond_at env n d (front ++ rest) ≡ Some y
      → (u : Got ExprTree) × (unary_at env (n - 3) d (front ++ rest) ≡ Some u) × (rest_from env n d (first_of front) u ≡ Some y)
  first_operand n d [] rest y filled off e = absurd (omega arith)
  first_operand n d (o ∷ front) rest y filled off e = bind_some (unary_at env (n - 3) d (o ∷ (front ++ rest))) (rest_from env n d o.span.first) y (sym (cond_as_value env n d o (front ++ rest) off) ∙ e)

  before_goes : (n d : ℕ) (o : Lexeme) (ts : List Lexeme) (op : Binary) (x : Got ExprTree) → step_of o.kind ≡ Some op → unary_at env n d ts ≡ Some x → effect_at env n d (o ∷ ts) ≡ stepped_at o.span.first x.past op x.tree x.rest
  unfolding effect_at
  before_goes n d o ts op x e read =
      ap (effect_by env n d o (o ∷ ts) ts) e ∙ ap (λ (r : Option (Got ExprTree)). r >>= λ x. stepped_at o.span.first x.past op x.tree x.rest) read

  pub effect_there : {front : List Lexeme} {e : EffectTree} → IsEffect env front e → (n d : ℕ) (rest : List Lexeme) → Closed rest → 16 * length (front ++ rest) + 5 ≤ n → effect_path e ≤ d → effect_at env n d (front ++ rest) ≡ Some (got_of front e rest)
  effect_there (assigned {a = a} {c = c} {x = x} {r = r} o h e q) n d rest ends enough low =
      let tail : List Lexeme = c ++ rest in
      let first : ℕ = first_of a in
      let parts : (a ++ o ∷ c) ++ rest ≡ a ++ o ∷ tail = append_assoc a (o ∷ c) rest in
      let lengths = ap length parts in
      let sizes = length-append a (o ∷ tail) in
      let kind : after_of o.kind ≡ after.Assign = ap after_of e in
      let read = rhs_there q n d rest ends (omega (arith, enough, lengths, sizes)) (omega (arith, low)) in
      ap (effect_at env n d) parts
      ∙ left_goes h n d o tail (goes_apart o.kind (ap goes_on kind)) (omega (arith, enough, lengths)) (omega (arith, low))
      ∙ ap (after_by env n d (starts_postfix a) first (got_of a x (o ∷ tail)) o tail) kind
      ∙ ap (λ (v : Option (Got RhsTree)). v >>= assigned_at first (got_of a x (o ∷ tail))) read
      ∙ ap Some (effect_same (set x r) (a ++ o ∷ c) rest first (past_of c) (first-append a (o ∷ c) (unary_filled h)) (joined_past a c o (rhs_filled q)))
  effect_there (updated {a = a} {c = c} {x = x} {y = y} o mark op h e f q) n d rest ends enough low =
      let tail : List Lexeme = c ++ rest in
      let first : ℕ = first_of a in
      let parts : (a ++ o ∷ c) ++ rest ≡ a ++ o ∷ tail = append_assoc a (o ∷ c) rest in
      let lengths = ap length parts in
      let sizes = length-append a (o ∷ tail) in
      let kind : after_of o.kind ≡ after.Update op = ap after_of e ∙ update_mark mark op f in
      let read = cond_there env few q n d rest (closed_ends rest 11 (omega arith) ends) (omega (arith, enough, lengths, sizes)) (omega (arith, low)) in
      ap (effect_at env n d) parts
      ∙ left_goes h n d o tail (goes_apart o.kind (ap goes_on kind)) (omega (arith, enough, lengths)) (omega (arith, low))
      ∙ ap (after_by env n d (starts_postfix a) first (got_of a x (o ∷ tail)) o tail) kind
      ∙ ap (λ (v : Option (Got ExprTree)). v >>= updated_at first op (got_of a x (o ∷ tail))) read
      ∙ ap Some (effect_same (update op x y) (a ++ o ∷ c) rest first (past_of c) (first-append a (o ∷ c) (unary_filled h)) (joined_past a c o (cond_filled q)))
  effect_there (stepped_after {a = a} {x = x} o mark op h e f) n d rest ends enough low =
      let first : ℕ = first_of a in
      let parts : (a ++ o ∷ []) ++ rest ≡ a ++ o ∷ rest = append_assoc a (o ∷ []) rest in
      let lengths = ap length parts in
      let kind : after_of o.kind ≡ after.Step op = ap after_of e ∙ step_mark mark op f in
      ap (effect_at env n d) parts
      ∙ left_goes (no_prefix h) n d o rest (goes_apart o.kind (ap goes_on kind)) (omega (arith, enough, lengths)) (omega (arith, low))
      ∙ ap (after_by env n d (starts_postfix a) first (got_of a x (o ∷ rest)) o rest) kind
      ∙ ap (λ (b : Bool). cond b (stepped_at first o.span.past op x rest) None) (postfix_starts env a (postfix_begins h))
      ∙ ap Some (effect_same (λ z. update op x (one z) z) (a ++ o ∷ []) rest first o.span.past (first-append a (o ∷ []) (postfix_filled h)) (past-append a (o ∷ []) (omega arith)))
  effect_there (stepped_before {a = a} {x = x} o mark op e f h) n d rest ends enough low =
      let read = unary_there env few h n d rest (closed_ends rest 0 (omega arith) ends) (omega (arith, enough)) (omega (arith, low)) in
      before_goes n d o (a ++ rest) op (got_of a x rest) (ap step_of e ∙ f) read
      ∙ ap Some (effect_same (λ z. update op x (one z) z) (o ∷ a) rest o.span.first (past_of a) refl (past-append (o ∷ []) a (unary_filled h)))
  effect_there (called {a = a} {x = x} h) n d rest ends enough low =
      effect_calls n d h rest ∙ ap (λ (r : Option (Got CallTree)). r >>= call_effect) (call_there h n d rest enough low)
  effect_there (evaluated {a = a} {x = x} h) n d rest ends enough low =
      let os : List Lexeme = a ++ rest in
      let first : ℕ = first_of a in
      let off = cond_no_call h rest (closed_no_open rest ends) in
      let read = cond_there env few h n d rest (closed_ends rest 11 (omega arith) ends) enough low in
      effect_goes n d a rest (cond_begins h) ∙ elim (cases_Bool (opens_type env os)) [
        | inl e ↦ plain_values n d first (starts_postfix a) os off e ∙ ap (λ (r : Option (Got ExprTree)). r >>= value_effect) read
        | inr e ↦
            let u = first_operand n d a rest (got_of a x rest) (cond_filled h) e read in
            plain_unary n d first (starts_postfix a) os u.0 off e u.1 ∙ after_value n d first (starts_postfix a) u.0 (got_of a x rest) u.2 ends
      ]

  -- ---- effects with commas between them

  listed_goes : (n d : ℕ) (all : List EffectTree) (os : List Lexeme) (x : Got EffectTree) → effect_at env n d os ≡ Some x
      → effects_at env (suc n) d all os ≡ at_lexeme x.rest (Some (record { tree = all ++ x.tree ∷ []; past = x.past; rest = x.rest })) (λ c rest. listed_by (effects_at env n d (all ++ x.tree ∷ [])) (record { tree = all ++ x.tree ∷ []; past = x.past; rest = x.rest }) rest (separator_of c.kind))
  unfolding effects_at
  listed_goes n d all os x e = ap (λ (r : Option (Got EffectTree)). r >>= λ x. at_lexeme x.rest (Some (record { tree = all ++ x.tree ∷ []; past = x.past; rest = x.rest })) (λ c rest. listed_by (effects_at env n d (all ++ x.tree ∷ [])) (record { tree = all ++ x.tree ∷ []; past = x.past; rest = x.rest }) rest (separator_of c.kind))) e

  list_ends : (again : List Lexeme → Option (Got (List EffectTree))) (x : Got (List EffectTree)) (rest : List Lexeme) → Ended rest → at_lexeme rest (Some x) (λ c rest. listed_by again x rest (separator_of c.kind)) ≡ Some x
  list_ends again x [] h = refl
  list_ends again x (o ∷ rest) h = list_ends_by again x rest o.kind h

  effects_again : {a : List Lexeme} {es : List EffectTree} → AreEffects env a es → (n d : ℕ) (all : List EffectTree) (rest : List Lexeme) → Ended rest → 16 * length (a ++ rest) + 6 ≤ n → greatest effect_path es ≤ d
      → effects_at env n d all (a ++ rest) ≡ Some (record { tree = all ++ es; past = past_of a; rest = rest })
  effects_again h zero d all rest ends enough low = absurd (omega arith)
  effects_again (last_effect {a = a} {e = e} h) (suc n) d all rest ends enough low =
      let read = effect_there h n d rest (ended_closed rest ends) (omega (arith, enough)) (omega (arith, low)) in
      listed_goes n d all (a ++ rest) (got_of a e rest) read
      ∙ list_ends (effects_at env n d (all ++ e ∷ [])) (record { tree = all ++ e ∷ []; past = past_of a; rest = rest }) rest ends
  effects_again (also_effect {a = a} {c = c} {e = e} {es = es} o h comma hs) (suc n) d all rest ends enough low =
      let tail : List Lexeme = c ++ rest in
      let parts : (a ++ o ∷ c) ++ rest ≡ a ++ o ∷ tail = append_assoc a (o ∷ c) rest in
      let lengths = ap length parts in
      let sizes = length-append a (o ∷ tail) in
      let read = effect_there h n d (o ∷ tail) (comma_closed o tail comma) (omega (arith, enough, lengths)) (omega (arith, low)) in
      let done : Got (List EffectTree) = record { tree = all ++ e ∷ []; past = past_of a; rest = o ∷ tail } in
      ap (effects_at env (suc n) d all) parts ∙ listed_goes n d all (a ++ o ∷ tail) (got_of a e (o ∷ tail)) read
      ∙ ap (λ (k : LexemeKind). listed_by (effects_at env n d (all ++ e ∷ [])) done tail (separator_of k)) comma
      ∙ effects_again hs n d (all ++ e ∷ []) rest ends (omega (arith, enough, lengths, sizes)) (omega (arith, low))
      ∙ λ i. Some (record { tree = append_assoc all (e ∷ []) es i; past = sym (joined_past a c o (effects_filled hs)) i; rest = rest })

  pub effects_there : {front : List Lexeme} {es : List EffectTree} → AreEffects env front es → (n d : ℕ) (rest : List Lexeme) → Ended rest → 16 * length (front ++ rest) + 6 ≤ n → greatest effect_path es ≤ d → effects_at env n d [] (front ++ rest) ≡ Some (got_of front es rest)
  effects_there h n d rest ends enough low = effects_again h n d [] rest ends enough low
