-- The code of effects keeps what is asked of each line and end.
use Rattle.std.proofs.Common.{ℕ, ℤ, ◌≡◌, ◌+◌, ◌<◌, Bool, List, [], ◌∷◌, length, Option, Some, None, refl, ◌∙◌, arith}
use Rattle.std.specs.Prelude.{All}
use Rattle.cx_base.specs.declared.span.Span.{Span}
use Rattle.cx_cconst.specs.Constants.{number_type}
use Rattle.cx_cmean.specs.Effects.{taken_as, pointee_of, local_of, operand_of}
use Rattle.cx_cmean.specs.Numbers.{value_type, number_of, applied_in, right_in}
use Rattle.cx_cmean.specs.Program.{function_of}
use Rattle.cx_ctree.specs.Conversions.{unsigned_long}
use Rattle.cx_ctree.specs.Exprs.{ExprTree, node, cast, span_of, type_of, CallTree, RhsTree, value, call, EffectTree, set, update, call_alone, value_alone}
use Rattle.cx_ctree.specs.Types.{TypeTree, void, int, pointer, array, tag}
use Rattle.cx_ctree.specs.declared.expr.Binary.{Binary}
use Rattle.cx_gline.proofs.Keeping.{Keeps, Allows, all_split}
use Rattle.cx_gline.proofs.Values.{keeps_converts, keeps_of, place_keeps}
use Rattle.cx_gline.specs.Inside.{numbers_in, all_numbers, right_numbers, effect_numbers}
use Rattle.cx_lcode.specs.Effects.{arguments_code, call_code, right_code, left_at_code, read_code, write_code, updates, effect_code}
use Rattle.cx_lcode.specs.Items.{Item}
use Rattle.cx_lcode.specs.Lines.{locals_for}
use Rattle.cx_lcode.specs.Places.{last, last_all, right_last, left_at_last, effect_last}
use Rattle.cx_lright.proofs.Grows.{all_grow, left_grows}
use Rattle.cx_lright.specs.Fine.{CallFine, RightFine, EffectFine}
use Rattle.cx_sname.specs.File.{Declared}

-- each argument has a local
one_each : (es : List ExprTree) (t : ℕ) → length (locals_for es t) ≡ length es
one_each [] t = refl
one_each (e ∷ es) t = let h = one_each es (t + 1) in omega (arith, h)

-- what stands in the operand of a cast to void stands in the cast
in_operand : (C : ℤ → Type 0) (e : ExprTree) → All C (numbers_in e) → All C (numbers_in (operand_of e))
in_operand C (node s t (cast void x)) h = h
in_operand C _ h = h

module _ (d : Declared) (C : ℤ → Type 0) (R : Bool → Type 0) (n : ℕ) (ok : Allows d C) where
  keeps_arguments : (q : Span) (es : List ExprTree) (ts : List TypeTree) → length es ≡ length ts → All C (all_numbers es) → (b t : ℕ) (rest : List Item) → last_all es b < n → Keeps d C R n rest → Keeps d C R n (arguments_code d q es ts b t rest)
  keeps_arguments q [] ts e h b t rest lt k = k
  keeps_arguments q (x ∷ es) [] e h b t rest lt k = absurd (omega (arith, e))
  keeps_arguments q (x ∷ es) (w ∷ ws) e h b t rest lt k =
      let p = all_split C (numbers_in x) (all_numbers es) h in let up = all_grow es ((last x).val b) in
      (keeps_of d C R n ok q x p.0).val b t _ (omega (arith, up, lt)) (keeps_converts d C R n ok (span_of x) (number_of x) (number_type w) t _ (keeps_arguments q es ws (omega (arith, e)) p.1 ((last x).val b) (t + 1) rest lt k))

  keeps_call : (L : ℕ) (q : Span) (c : CallTree) (p : Option TypeTree) → CallFine d L c → All C (all_numbers c.args) → (b t : ℕ) (rest : List Item) → last_all c.args b < n → Keeps d C R n rest → Keeps d C R n (call_code d q c p b t rest)
  keeps_call L q c p fine h b t rest lt k = keeps_arguments q c.args (function_of d c.name).params fine.1 h b t _ lt (one_each c.args t ∙ fine.1, k)

  pub keeps_right : (L : ℕ) (q : Span) (t : TypeTree) (r : RhsTree) → RightFine d L r → All C (right_numbers r) → (b x : ℕ) (rest : List Item) → right_last r b < n → Keeps d C R n rest → Keeps d C R n (right_code d q t r b x rest)
  keeps_right L q t (value e) fine h b x rest lt k = (keeps_of d C R n ok q e h).val b x _ lt (keeps_converts d C R n ok (span_of e) (number_of e) (number_type t) x rest k)
  keeps_right L q t (call c w) fine h b x rest lt k =
      keeps_call L q c (pointee_of (taken_as w t)) fine.0 h b x _ lt
      (keeps_converts d C R n ok c.span (number_type (function_of d c.name).result) (number_type (taken_as w t)) x _ (keeps_converts d C R n ok c.span (number_type (taken_as w t)) (number_type t) x rest k))

  keeps_left : (q : Span) (l : ExprTree) (o : Option ℕ) → All C (numbers_in l) → (b x : ℕ) (rest : List Item) → left_at_last l o b < n → Keeps d C R n rest → Keeps d C R n (left_at_code d q l o b x rest)
  keeps_left q l (Some y) h b x rest lt k = k
  keeps_left q l None h b x rest lt k = place_keeps d C R n ok q l h b (x + 1) rest lt k

  keeps_read : (l : ExprTree) (o : Option ℕ) (x t : ℕ) (rest : List Item) → Keeps d C R n rest → Keeps d C R n (read_code l o x t ∷ rest)
  keeps_read l (Some y) x t rest k = (tt, k)
  keeps_read l None x t rest k = (tt, k)

  keeps_write : (l : ExprTree) (o : Option ℕ) (x t : ℕ) (rest : List Item) → Keeps d C R n rest → Keeps d C R n (write_code l o x t ∷ rest)
  keeps_write l (Some y) x t rest k = (tt, k)
  keeps_write l None x t rest k = (tt, k)

  keeps_updates : (s : Span) (op : Binary) (t u : TypeTree) (x : ℕ) (rest : List Item) → Keeps d C R n rest → Keeps d C R n (updates d s op t u x rest)
  keeps_updates s op (int t) (int u) x rest k =
      keeps_converts d C R n ok s t (applied_in op t u) (x + 2) _ (keeps_converts d C R n ok s u (right_in op t u) x _ (tt, keeps_converts d C R n ok s (applied_in op t u) t (x + 2) rest k))
  keeps_updates s op (pointer t) (int u) x rest k = keeps_converts d C R n ok s u unsigned_long x _ (ok.unit t, (tt, (tt, k)))
  keeps_updates s op void u x rest k = k
  keeps_updates s op (array t j) u x rest k = k
  keeps_updates s op (tag t) u x rest k = k
  keeps_updates s op (int t) void x rest k = k
  keeps_updates s op (int t) (pointer u) x rest k = k
  keeps_updates s op (int t) (array u j) x rest k = k
  keeps_updates s op (int t) (tag u) x rest k = k
  keeps_updates s op (pointer t) void x rest k = k
  keeps_updates s op (pointer t) (pointer u) x rest k = k
  keeps_updates s op (pointer t) (array u j) x rest k = k
  keeps_updates s op (pointer t) (tag u) x rest k = k

  pub keeps_effect : (L : ℕ) (q : Span) (e : EffectTree) → EffectFine d L e → All C (effect_numbers e) → (b x : ℕ) (rest : List Item) → effect_last e b < n → Keeps d C R n rest → Keeps d C R n (effect_code d q e b x rest)
  keeps_effect L q (set l r s) fine h b x rest lt k =
      let o = local_of l in let p = all_split C (right_numbers r) (numbers_in l) h in let up = left_grows l (right_last r b) in
      keeps_right L q (type_of l) r fine.0 p.0 b x _ (omega (arith, up, lt)) (keeps_left q l o p.1 (right_last r b) x _ lt (keeps_write l o x x rest k))
  keeps_effect L q (update op l e s) fine h b x rest lt k =
      let o = local_of l in let p = all_split C (numbers_in e) (numbers_in l) h in let b1 = (last e).val b in let up = left_grows l b1 in
      (keeps_of d C R n ok q e p.0).val b x _ (omega (arith, up, lt)) (keeps_left q l o p.1 b1 x _ lt
      (keeps_read l o x (x + 2) _ (keeps_updates s op (type_of l) (value_type (type_of e)) x _ (keeps_write l o x (x + 2) rest k))))
  keeps_effect L q (call_alone c) fine h b x rest lt k = keeps_call L q c None fine h b x rest lt k
  keeps_effect L q (value_alone e) fine h b x rest lt k = (keeps_of d C R n ok q (operand_of e) (in_operand C e h)).val b x rest lt k
