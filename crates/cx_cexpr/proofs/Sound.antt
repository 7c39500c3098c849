-- What is read as an expression is spelled so.
use Rattle.std.proofs.Common.{◌≡◌, ℕ, zero, suc, ◌-◌, ◌<◌, Bool, true, false, cond, List, [], ◌∷◌, ◌++◌, length, Option, Some, None, refl, sym, ap, ◌∙◌, subst, append_assoc, arith, inl, inr}
use Rattle.std.proofs.lemmas.Bool.{eqb-true, cases_Bool}
use Rattle.std.specs.Prelude.{nat_eq}
use Rattle.std.proofs.lemmas.Option.{same_Some}
use Rattle.cx_ctree.specs.declared.expr.Binary.{Binary}
use Rattle.cx_ctree.specs.Types.{TypeTree}
use Rattle.cx_ctree.specs.Exprs as node
use Rattle.cx_ctree.specs.Exprs.{ExprTree, ExprKindTree}
use Rattle.cx_ctree.specs.Path.{expr_path}
use Rattle.cx_cword.specs.declared.word.Keyword.TheVariants as k
use Rattle.cx_cword.specs.declared.word.Punctuator.TheVariants as p
use Rattle.cx_cword.specs.declared.lexeme.Lexeme.{Lexeme}
use Rattle.cx_cword.specs.Reading.{Is, IsWord, IsName, first_of, past_of, ◌>>=◌}
use Rattle.cx_cname.specs.Known.{Known, names_type}
use Rattle.cx_cword.specs.declared.mark.Mark.TheVariants as m
use Rattle.cx_cexpr.specs.declared.kinds.Head.{Head}
use Rattle.cx_cexpr.specs.declared.kinds.Head.TheVariants as h
use Rattle.cx_cexpr.specs.declared.kinds.Prefix.{Prefix}
use Rattle.cx_cexpr.specs.declared.kinds.Suffix.{Suffix}
use Rattle.cx_cexpr.specs.declared.kinds.Suffix.TheVariants as s
use Rattle.cx_cexpr.specs.declared.kinds.Leaf.{Leaf}
use Rattle.cx_cexpr.specs.declared.kinds.Leaf.TheVariants as leaf
use Rattle.cx_cexpr.specs.Expressions.{untyped, IsCond, unconditional, conditional, IsBinary, operand, lower, joined, IsCast, no_cast, casted, IsUnary, no_prefix, prefixed, size_of_value, size_of_type, IsPostfix, no_suffix, indexed, member_of, member_at, IsPrimary, named, number, inside}
use Rattle.cx_cexpr.specs.Kinds.{op_at, head_of, with_prefix, suffix_of, with_member, leaf_of}
use Rattle.cx_cexpr.specs.Reading.{Got, wanted, made, spelled, enclosed_at, opens_type, leaf_by, indexed_at, suffixed_by, prefixed_at, unary_by, cast_to, joined_at, chosen_at, more_by, choice_by, cond_at, choice_at, binary_at, climb_at, more_at, cast_at, unary_at, size_at, suffix_at, primary_at, rest_at}
use Rattle.cx_cexpr.specs.Reading as reading
use Rattle.cx_cexpr.proofs.Shapes.{op_is, head_prefix, head_size, suffix_index, suffix_member, leaf_named, leaf_open, leaf_number}
use Rattle.cx_cexpr.proofs.Spans.{first-append, past-append}
use Rattle.cx_cexpr.proofs.Steps.{bind_some, at_first, at_rest, pick, wanted_some, named_some, Found, built}
use Rattle.cx_cexpr.proofs.TypeSound.{Enclosed, enclosed_sound}
use Rattle.cx_cexpr.proofs.Begins.{cond_filled, binary_filled, cast_filled, unary_filled, postfix_filled}
use Rattle.cx_cword.specs.Marks.{fits}
use Rattle.cx_cword.proofs.Marks.{fits_is}

abbrev pub FoundExpr : (List Lexeme → ExprTree → Type 0) → ℕ → List Lexeme → Got ExprTree → Type 0
FoundExpr Spells d whole g = Found expr_path Spells d whole g

-- the same front spells the tree otherwise
pub as_other : {P Q : List Lexeme → ExprTree → Type 0} (d : ℕ) (whole : List Lexeme) (g : Got ExprTree) → ((os : List Lexeme) (x : ExprTree) → P os x → Q os x) → FoundExpr P d whole g → FoundExpr Q d whole g
as_other d whole g f h = record { front = h.front; parts = h.parts; spelled_so = f h.front g.tree h.spelled_so; past = h.past; low = h.low }

begins_at : (whole front rest : List Lexeme) (first : ℕ) → whole ≡ front ++ rest → 0 < length front → first_of whole ≡ first → first_of front ≡ first
begins_at whole front rest first parts filled begins = sym (first-append front rest filled) ∙ ap first_of (sym parts) ∙ begins

-- a front, a lexeme, and a second front
two_parts : (whole a rest ts b after : List Lexeme) (o : Lexeme) → whole ≡ a ++ rest → rest ≡ o ∷ ts → ts ≡ b ++ after → whole ≡ (a ++ o ∷ b) ++ after
two_parts whole a rest ts b after o parts is then = parts ∙ ap (λ (v : List Lexeme). a ++ v) (is ∙ ap (λ (v : List Lexeme). o ∷ v) then) ∙ sym (append_assoc a (o ∷ b) after)

-- where a front ends that a lexeme joins to another
two_ends : (a b : List Lexeme) (o : Lexeme) (past : ℕ) → 0 < length b → past_of b ≡ past → past_of (a ++ o ∷ b) ≡ past
two_ends a b o past filled ends = past-append a (o ∷ b) (omega arith) ∙ past-append (o ∷ []) b filled ∙ ends

module _ {env : Known} (d first : ℕ) (whole : List Lexeme) (begins : first_of whole ≡ first) where
  found_index : (x y z : Got ExprTree) (o : Lexeme) (ts : List Lexeme) → FoundExpr (IsPostfix env) d whole x → x.rest ≡ o ∷ ts → Is p.OpenBracket o → FoundExpr (IsCond env) (d - 1) ts y → indexed_at d first x y ≡ Some z → FoundExpr (IsPostfix env) d whole z
  found_index x y z o ts f is kind r e =
      let w = wanted_some m.CloseBracket y.rest (λ c rest. made d (spelled first c.span.past (node.index x.tree y.tree)) c.span.past rest) z e in
      let front : List Lexeme = f.front ++ o ∷ r.front ++ w.0 ∷ [] in
      built (IsPostfix env) d whole front w.1 first w.0.span.past (node.index x.tree y.tree) z
      (two_parts whole f.front x.rest ts r.front y.rest o f.parts is r.parts ∙ ap (λ (v : List Lexeme). (f.front ++ o ∷ r.front) ++ v) w.2 ∙ sym (append_assoc (f.front ++ o ∷ r.front) (w.0 ∷ []) w.1))
      (ap first_of (append_assoc f.front (o ∷ r.front) (w.0 ∷ [])) ∙ first-append f.front (o ∷ r.front ++ w.0 ∷ []) (postfix_filled f.spelled_so) ∙ begins_at whole f.front x.rest first f.parts (postfix_filled f.spelled_so) begins)
      (past-append (f.front ++ o ∷ r.front) (w.0 ∷ []) (omega arith))
      (indexed o w.0 f.spelled_so kind r.spelled_so (fits_is m.CloseBracket w.0.kind w.3)) w.4

  member_by : (arrow : Bool) (front : List Lexeme) (x : ExprTree) (o n : Lexeme) (v : ℕ) → IsPostfix env front x → suffix_of o.kind ≡ Some (s.Member arrow) → IsName v n → IsPostfix env (front ++ o ∷ n ∷ []) (untyped (front ++ o ∷ n ∷ []) (with_member arrow x v))
  member_by false front x o n v h e called = member_of o n v h (suffix_member o.kind false e) called
  member_by true front x o n v h e called = member_at o n v h (suffix_member o.kind true e) called

  found_member : (arrow : Bool) (x z : Got ExprTree) (o : Lexeme) (ts : List Lexeme) → FoundExpr (IsPostfix env) d whole x → x.rest ≡ o ∷ ts → suffix_of o.kind ≡ Some (s.Member arrow) → reading.member_at d first arrow x ts ≡ Some z → FoundExpr (IsPostfix env) d whole z
  found_member arrow x z o ts f is kind e =
      let h = named_some ts (λ o n rest. made d (spelled first o.span.past (with_member arrow x.tree n)) o.span.past rest) z e in
      built (IsPostfix env) d whole (f.front ++ o ∷ h.0 ∷ []) h.2 first h.0.span.past (with_member arrow x.tree h.1) z
      (two_parts whole f.front x.rest ts (h.0 ∷ []) h.2 o f.parts is h.3)
      (first-append f.front (o ∷ h.0 ∷ []) (postfix_filled f.spelled_so) ∙ begins_at whole f.front x.rest first f.parts (postfix_filled f.spelled_so) begins)
      (past-append f.front (o ∷ h.0 ∷ []) (omega arith))
      (member_by arrow f.front x.tree o h.0 h.1 f.spelled_so kind h.4) h.5

  found_joined : (n : ℕ) (x y z : Got ExprTree) (o : Lexeme) (op : Binary) (ts : List Lexeme) → FoundExpr (IsBinary env (suc n)) d whole x → x.rest ≡ o ∷ ts → op_at o.kind ≡ Some (suc n, op) → FoundExpr (IsBinary env n) (d - 1) ts y → joined_at d first op x y ≡ Some z → FoundExpr (IsBinary env (suc n)) d whole z
  found_joined n x y z o op ts f is kind r e =
      let q = op_is o.kind (suc n, op) kind in
      built (IsBinary env (suc n)) d whole (f.front ++ o ∷ r.front) y.rest first y.past (node.binary op x.tree y.tree) z
      (two_parts whole f.front x.rest ts r.front y.rest o f.parts is r.parts)
      (first-append f.front (o ∷ r.front) (binary_filled f.spelled_so) ∙ begins_at whole f.front x.rest first f.parts (binary_filled f.spelled_so) begins)
      (two_ends f.front r.front o y.past (binary_filled r.spelled_so) r.past)
      (joined o q.0 op f.spelled_so q.1 q.2 r.spelled_so) e

  found_choice : (x y u z : Got ExprTree) (o c : Lexeme) (ts us : List Lexeme) → FoundExpr (IsBinary env 10) d whole x → x.rest ≡ o ∷ ts → Is p.Question o → FoundExpr (IsCond env) (d - 1) ts y → y.rest ≡ c ∷ us → Is p.Colon c → FoundExpr (IsCond env) (d - 1) us u
      → chosen_at d first x y u ≡ Some z → FoundExpr (IsCond env) d whole z
  found_choice x y u z o c ts us f is kind r then colon l e =
      let front : List Lexeme = f.front ++ o ∷ r.front ++ c ∷ l.front in
      built (IsCond env) d whole front u.rest first u.past (node.cond x.tree y.tree u.tree) z
      (two_parts whole (f.front ++ o ∷ r.front) y.rest us l.front u.rest c (two_parts whole f.front x.rest ts r.front y.rest o f.parts is r.parts) then l.parts)
      (ap first_of (append_assoc f.front (o ∷ r.front) (c ∷ l.front)) ∙ first-append f.front (o ∷ r.front ++ c ∷ l.front) (binary_filled f.spelled_so) ∙ begins_at whole f.front x.rest first f.parts (binary_filled f.spelled_so) begins)
      (two_ends (f.front ++ o ∷ r.front) l.front c u.past (cond_filled l.spelled_so) l.past)
      (conditional o c f.spelled_so kind r.spelled_so colon l.spelled_so) e

module _ {env : Known} (d : ℕ) where
  found_prefix : (x z : Got ExprTree) (o : Lexeme) (ts : List Lexeme) (f : Prefix) → head_of o.kind ≡ h.Prefix f → FoundExpr (IsCast env) (d - 1) ts x → prefixed_at d o.span.first f x ≡ Some z → FoundExpr (IsUnary env) d (o ∷ ts) z
  found_prefix x z o ts f is r e =
      let q = head_prefix o.kind f x.tree is in
      built (IsUnary env) d (o ∷ ts) (o ∷ r.front) x.rest o.span.first x.past (with_prefix f x.tree) z
      (ap (λ (v : List Lexeme). o ∷ v) r.parts) refl (past-append (o ∷ []) r.front (cast_filled r.spelled_so) ∙ r.past)
      (prefixed o q.0 (with_prefix f x.tree) q.1 r.spelled_so q.2) e

  found_size : (x z : Got ExprTree) (o : Lexeme) (ts : List Lexeme) → IsWord k.SizeOf o → FoundExpr (IsUnary env) (d - 1) ts x → reading.size_of_value d o.span.first x ≡ Some z → FoundExpr (IsUnary env) d (o ∷ ts) z
  found_size x z o ts is r e =
      built (IsUnary env) d (o ∷ ts) (o ∷ r.front) x.rest o.span.first x.past (node.size_of_expr x.tree) z
      (ap (λ (v : List Lexeme). o ∷ v) r.parts) refl (past-append (o ∷ []) r.front (unary_filled r.spelled_so) ∙ r.past)
      (size_of_value o is r.spelled_so) e

  found_size_type : (t : Got TypeTree) (z : Got ExprTree) (o : Lexeme) (ts : List Lexeme) → IsWord k.SizeOf o → Enclosed env (d - 1) ts t → reading.size_of_type d o.span.first t ≡ Some z → FoundExpr (IsUnary env) d (o ∷ ts) z
  found_size_type t z o ts is r e =
      let front : List Lexeme = o ∷ r.open_mark ∷ r.front ++ r.close_mark ∷ [] in
      built (IsUnary env) d (o ∷ ts) front t.rest o.span.first t.past (node.size_of t.tree) z
      (ap (λ (v : List Lexeme). o ∷ v) r.parts ∙ ap (λ (v : List Lexeme). o ∷ r.open_mark ∷ v) (sym (append_assoc r.front (r.close_mark ∷ []) t.rest))) refl
      (past-append (o ∷ r.open_mark ∷ r.front) (r.close_mark ∷ []) (omega arith) ∙ r.past)
      (size_of_type o r.open_mark r.close_mark is r.opens r.spelled_so r.closes) e

  found_cast : (t : Got TypeTree) (x z : Got ExprTree) (ts : List Lexeme) (first : ℕ) → first_of ts ≡ first → Enclosed env (d - 1) ts t → FoundExpr (IsCast env) (d - 1) t.rest x → cast_to d first t x ≡ Some z → FoundExpr (IsCast env) d ts z
  found_cast t x z ts first begins q r e =
      let front : List Lexeme = q.open_mark ∷ q.front ++ q.close_mark ∷ r.front in
      built (IsCast env) d ts front x.rest first x.past (node.cast t.tree x.tree) z
      (q.parts ∙ ap (λ (v : List Lexeme). q.open_mark ∷ v) (ap (λ (v : List Lexeme). q.front ++ q.close_mark ∷ v) r.parts ∙ sym (append_assoc q.front (q.close_mark ∷ r.front) x.rest)))
      (ap first_of (sym q.parts) ∙ begins)
      (two_ends (q.open_mark ∷ q.front) r.front q.close_mark x.past (cast_filled r.spelled_so) r.past)
      (casted q.open_mark q.close_mark q.opens q.spelled_so q.closes r.spelled_so) e

  found_inside : (x z : Got ExprTree) (o : Lexeme) (ts : List Lexeme) → Is p.OpenParen o → FoundExpr (IsCond env) d ts x → wanted m.CloseParen x.rest (λ c after. Some (record { tree = x.tree; past = c.span.past; rest = after })) ≡ Some z → FoundExpr (IsPrimary env) d (o ∷ ts) z
  found_inside x z o ts is f e =
      let w = wanted_some m.CloseParen x.rest (λ c after. Some (record { tree = x.tree; past = c.span.past; rest = after })) z e in
      subst (FoundExpr (IsPrimary env) d (o ∷ ts)) (same_Some (record { tree = x.tree; past = w.0.span.past; rest = w.1 }) z w.4) (record {
        front = o ∷ f.front ++ w.0 ∷ [];
        parts = ap (λ (v : List Lexeme). o ∷ v) (f.parts ∙ ap (λ (v : List Lexeme). f.front ++ v) w.2 ∙ sym (append_assoc f.front (w.0 ∷ []) w.1));
        spelled_so = inside o w.0 is f.spelled_so (fits_is m.CloseParen w.0.kind w.3);
        past = past-append (o ∷ f.front) (w.0 ∷ []) (omega arith);
        low = f.low;
      })

module _ (env : Known) where
  primary_step : (n d : ℕ) → ((ts : List Lexeme) (g : Got ExprTree) → cond_at env n d ts ≡ Some g → FoundExpr (IsCond env) d ts g)
      → (o : Lexeme) (ts : List Lexeme) (x : Leaf) (g : Got ExprTree) → leaf_of o.kind ≡ x → leaf_by env (cond_at env n d) d o ts x ≡ Some g → FoundExpr (IsPrimary env) d (o ∷ ts) g
  primary_step n d sound o ts (leaf.Number v t) g is e = built (IsPrimary env) d (o ∷ ts) (o ∷ []) ts o.span.first o.span.past (node.num v t) g refl refl refl (number o v t (leaf_number o.kind v t is)) e
  primary_step n d sound o ts (leaf.Name v) g is e = elim (cases_Bool (names_type env v)) [
    | inl type ↦ absurd (cc (rw type at e))
    | inr other ↦ built (IsPrimary env) d (o ∷ ts) (o ∷ []) ts o.span.first o.span.past (node.name v) g refl refl refl (named o v (leaf_named o.kind v is) other) (rw other at e)
  ]
  primary_step n d sound o ts leaf.Open g is e =
      let b = bind_some (cond_at env n d ts) (λ x. wanted m.CloseParen x.rest (λ c after. Some (record { tree = x.tree; past = c.span.past; rest = after }))) g e in
      found_inside d b.0 g o ts (leaf_open o.kind is) (sound ts b.0 b.1) b.2
  primary_step n d sound o ts leaf.Other g is e = absurd cc

  suffix_step : (n d first : ℕ) (whole : List Lexeme) → ((ts : List Lexeme) (g : Got ExprTree) → cond_at env n (d - 1) ts ≡ Some g → FoundExpr (IsCond env) (d - 1) ts g)
      → ((x g : Got ExprTree) → FoundExpr (IsPostfix env) d whole x → suffix_at env n d first x ≡ Some g → FoundExpr (IsPostfix env) d whole g)
      → first_of whole ≡ first
      → (x : Got ExprTree) (o : Lexeme) (ts : List Lexeme) (u : Option Suffix) (g : Got ExprTree) → FoundExpr (IsPostfix env) d whole x → x.rest ≡ o ∷ ts → suffix_of o.kind ≡ u
      → suffixed_by (cond_at env n (d - 1)) (suffix_at env n d first) d first x ts u ≡ Some g → FoundExpr (IsPostfix env) d whole g
  suffix_step n d first whole sound again begins x o ts (Some s.Index) g f is kind e =
      let b = bind_some (cond_at env n (d - 1) ts) (λ y. indexed_at d first x y >>= suffix_at env n d first) g e in
      let c = bind_some (indexed_at d first x b.0) (suffix_at env n d first) g b.2 in
      again c.0 g (found_index d first whole begins x b.0 c.0 o ts f is (suffix_index o.kind kind) (sound ts b.0 b.1) c.1) c.2
  suffix_step n d first whole sound again begins x o ts (Some (s.Member arrow)) g f is kind e =
      let c = bind_some (reading.member_at d first arrow x ts) (suffix_at env n d first) g e in
      again c.0 g (found_member d first whole begins arrow x c.0 o ts f is kind c.1) c.2
  suffix_step n d first whole sound again begins x o ts None g f is kind e = subst (FoundExpr (IsPostfix env) d whole) (same_Some x g e) f

  more_step : (n d first level : ℕ) (whole : List Lexeme) → ((ts : List Lexeme) (g : Got ExprTree) → binary_at env n (d - 1) level ts ≡ Some g → FoundExpr (IsBinary env level) (d - 1) ts g)
      → ((x g : Got ExprTree) → FoundExpr (IsBinary env (suc level)) d whole x → more_at env n d (suc level) first x ≡ Some g → FoundExpr (IsBinary env (suc level)) d whole g)
      → first_of whole ≡ first
      → (x : Got ExprTree) (o : Lexeme) (ts : List Lexeme) (op : Option (ℕ × Binary)) (g : Got ExprTree) → FoundExpr (IsBinary env (suc level)) d whole x → x.rest ≡ o ∷ ts → op_at o.kind ≡ op
      → more_by (binary_at env n (d - 1) level) (more_at env n d (suc level) first) d (suc level) first x ts op ≡ Some g → FoundExpr (IsBinary env (suc level)) d whole g
  more_step n d first level whole sound again begins x o ts None g f is op e = subst (FoundExpr (IsBinary env (suc level)) d whole) (same_Some x g e) f
  more_step n d first level whole sound again begins x o ts (Some v) g f is op e = elim (cases_Bool (nat_eq v.0 (suc level))) [
    | inr other ↦ subst (FoundExpr (IsBinary env (suc level)) d whole) (same_Some x g (rw other at e)) f
    | inl same ↦
        let b = bind_some (binary_at env n (d - 1) level ts) (λ y. joined_at d first v.1 x y >>= more_at env n d (suc level) first) g (rw same at e) in
        let c = bind_some (joined_at d first v.1 x b.0) (more_at env n d (suc level) first) g b.2 in
        let is_op : op_at o.kind ≡ Some (suc level, v.1) = op ∙ ap (λ (w : ℕ). Some (w, v.1)) (eqb-true v.0 (suc level) same) in
        again c.0 g (found_joined d first whole begins level x b.0 c.0 o v.1 ts f is is_op (sound ts b.0 b.1) c.1) c.2
  ]

  choice_step : (n d first : ℕ) (whole : List Lexeme) → ((ts : List Lexeme) (g : Got ExprTree) → cond_at env n (d - 1) ts ≡ Some g → FoundExpr (IsCond env) (d - 1) ts g)
      → first_of whole ≡ first
      → (x : Got ExprTree) (o : Lexeme) (ts : List Lexeme) (g : Got ExprTree) → FoundExpr (IsBinary env 10) d whole x → x.rest ≡ o ∷ ts → Is p.Question o
      → choice_by (cond_at env n (d - 1)) d first x ts ≡ Some g → FoundExpr (IsCond env) d whole g
  choice_step n d first whole sound begins x o ts g f is kind e =
      let last : Got ExprTree → Lexeme → List Lexeme → Option (Got ExprTree) = λ y c after. cond_at env n (d - 1) after >>= chosen_at d first x y in
      let b = bind_some (cond_at env n (d - 1) ts) (λ y. wanted m.Colon y.rest (last y)) g e in
      let w = wanted_some m.Colon b.0.rest (last b.0) g b.2 in
      let c = bind_some (cond_at env n (d - 1) w.1) (chosen_at d first x b.0) g w.4 in
      found_choice d first whole begins x b.0 c.0 g o w.0 ts w.1 f is kind (sound ts b.0 b.1) w.2 (fits_is m.Colon w.0.kind w.3) (sound w.1 c.0 c.1) c.2

  cast_step : (n d : ℕ) → ((ts : List Lexeme) (g : Got ExprTree) → cast_at env n (d - 1) ts ≡ Some g → FoundExpr (IsCast env) (d - 1) ts g)
      → (ts : List Lexeme) (first : ℕ) (g : Got ExprTree) → first_of ts ≡ first → (enclosed_at env (d - 1) ts >>= λ t. cast_at env n (d - 1) t.rest >>= cast_to d first t) ≡ Some g → FoundExpr (IsCast env) d ts g
  cast_step n d sound ts first g begins e =
      let b = bind_some (enclosed_at env (d - 1) ts) (λ t. cast_at env n (d - 1) t.rest >>= cast_to d first t) g e in
      let c = bind_some (cast_at env n (d - 1) b.0.rest) (cast_to d first b.0) g b.2 in
      found_cast d b.0 c.0 g ts first begins (enclosed_sound env (d - 1) ts b.0 b.1) (sound b.0.rest c.0 c.1) c.2

  not_none : {A : Type 0} (b : Bool) (o : Option A) (g : A) → cond b None o ≡ Some g → o ≡ Some g
  not_none true o g e = absurd cc
  not_none false o g e = e

  size_step : (n d : ℕ) → ((ts : List Lexeme) (g : Got ExprTree) → unary_at env n (d - 1) ts ≡ Some g → FoundExpr (IsUnary env) (d - 1) ts g)
      → (o : Lexeme) (ts : List Lexeme) (b : Bool) (g : Got ExprTree) → IsWord k.SizeOf o
      → cond b (enclosed_at env (d - 1) ts >>= reading.size_of_type d o.span.first) (cond (nat_eq d 0) None (unary_at env n (d - 1) ts >>= reading.size_of_value d o.span.first)) ≡ Some g → FoundExpr (IsUnary env) d (o ∷ ts) g
  size_step n d sound o ts true g is e =
      let b = bind_some (enclosed_at env (d - 1) ts) (reading.size_of_type d o.span.first) g e in
      found_size_type d b.0 g o ts is (enclosed_sound env (d - 1) ts b.0 b.1) b.2
  size_step n d sound o ts false g is e =
      let b = bind_some (unary_at env n (d - 1) ts) (reading.size_of_value d o.span.first) g (not_none (nat_eq d 0) (unary_at env n (d - 1) ts >>= reading.size_of_value d o.span.first) g e) in
      found_size d b.0 g o ts is (sound ts b.0 b.1) b.2

  unary_step : (n d : ℕ) (size postfix : Option (Got ExprTree)) → ((ts : List Lexeme) (g : Got ExprTree) → cast_at env n (d - 1) ts ≡ Some g → FoundExpr (IsCast env) (d - 1) ts g)
      → (o : Lexeme) (ts : List Lexeme) → (IsWord k.SizeOf o → (g : Got ExprTree) → size ≡ Some g → FoundExpr (IsUnary env) d (o ∷ ts) g) → ((g : Got ExprTree) → postfix ≡ Some g → FoundExpr (IsPostfix env) d (o ∷ ts) g)
      → (x : Head) (g : Got ExprTree) → head_of o.kind ≡ x → unary_by (cast_at env n (d - 1)) size postfix d o ts x ≡ Some g → FoundExpr (IsUnary env) d (o ∷ ts) g
  unary_step n d size postfix sound o ts sized after (h.Prefix f) g is e =
      let b = bind_some (cast_at env n (d - 1) ts) (prefixed_at d o.span.first f) g (not_none (nat_eq d 0) (cast_at env n (d - 1) ts >>= prefixed_at d o.span.first f) g e) in
      found_prefix d b.0 g o ts f is (sound ts b.0 b.1) b.2
  unary_step n d size postfix sound o ts sized after h.SizeOf g is e = sized (head_size o.kind is) g e
  unary_step n d size postfix sound o ts sized after h.Other g is e = as_other d (o ∷ ts) g (λ os x h. no_prefix h) (after g e)

  mutual
    unfolding cond_at

    pub cond_sound : (n d : ℕ) (ts : List Lexeme) (g : Got ExprTree) → cond_at env n d ts ≡ Some g → FoundExpr (IsCond env) d ts g
    cond_sound zero d ts g e = absurd cc
    cond_sound (suc n) d ts g e =
        let a = at_first ts (λ o rest. binary_at env n d 10 ts >>= choice_at env n d o.span.first) g e in
        let b = bind_some (binary_at env n d 10 ts) (choice_at env n d a.0.span.first) g a.3 in
        choice_sound n d a.0.span.first ts b.0 g (ap first_of a.2) (binary_sound n d 10 ts b.0 b.1) b.2

    pub choice_sound : (n d first : ℕ) (whole : List Lexeme) (x g : Got ExprTree) → first_of whole ≡ first → FoundExpr (IsBinary env 10) d whole x → choice_at env n d first x ≡ Some g → FoundExpr (IsCond env) d whole g
    choice_sound zero d first whole x g begins f e = absurd cc
    choice_sound (suc n) d first whole x g begins f e =
        elim (at_rest x.rest (Some x) (λ o rest. cond (fits m.Question o.kind) (choice_by (cond_at env n (d - 1)) d first x rest) (Some x)) g e) [
          | inl a ↦ subst (FoundExpr (IsCond env) d whole) (same_Some x g a.1) (as_other d whole x (λ os x h. unconditional h) f)
          | inr a ↦ elim (pick (fits m.Question a.0.kind) (choice_by (cond_at env n (d - 1)) d first x a.1) (Some x) g a.3) [
            | inl q ↦ choice_step n d first whole (λ ts g e. cond_sound n (d - 1) ts g e) begins x a.0 a.1 g f a.2 (fits_is m.Question a.0.kind q.0) q.1
            | inr q ↦ subst (FoundExpr (IsCond env) d whole) (same_Some x g q.1) (as_other d whole x (λ os x h. unconditional h) f)
          ]
        ]

    pub binary_sound : (n d level : ℕ) (ts : List Lexeme) (g : Got ExprTree) → binary_at env n d level ts ≡ Some g → FoundExpr (IsBinary env level) d ts g
    binary_sound zero d level ts g e = absurd cc
    binary_sound (suc n) d level ts g e =
        let a = at_first ts (λ o rest. cast_at env n d ts >>= climb_at env n d level o.span.first) g e in
        let b = bind_some (cast_at env n d ts) (climb_at env n d level a.0.span.first) g a.3 in
        climb_sound n d level a.0.span.first ts b.0 g (ap first_of a.2) (as_other d ts b.0 (λ os x h. operand h) (cast_sound n d ts b.0 b.1)) b.2

    pub climb_sound : (n d level first : ℕ) (whole : List Lexeme) (x g : Got ExprTree) → first_of whole ≡ first → FoundExpr (IsBinary env 0) d whole x → climb_at env n d level first x ≡ Some g → FoundExpr (IsBinary env level) d whole g
    climb_sound zero d level first whole x g begins f e = absurd cc
    climb_sound (suc n) d zero first whole x g begins f e = subst (FoundExpr (IsBinary env 0) d whole) (same_Some x g e) f
    climb_sound (suc n) d (suc level) first whole x g begins f e =
        let b = bind_some (climb_at env n d level first x) (more_at env n d (suc level) first) g e in
        let q = climb_sound n d level first whole x b.0 begins f b.1 in
        more_sound n d level first whole b.0 g begins (as_other d whole b.0 (λ os x h. lower h) q) b.2

    more_sound : (n d level first : ℕ) (whole : List Lexeme) (x g : Got ExprTree) → first_of whole ≡ first → FoundExpr (IsBinary env (suc level)) d whole x → more_at env n d (suc level) first x ≡ Some g → FoundExpr (IsBinary env (suc level)) d whole g
    more_sound zero d level first whole x g begins f e = absurd cc
    more_sound (suc n) d level first whole x g begins f e =
        elim (at_rest x.rest (Some x) (λ o ts. more_by (binary_at env n (d - 1) level) (more_at env n d (suc level) first) d (suc level) first x ts (op_at o.kind)) g e) [
          | inl a ↦ subst (FoundExpr (IsBinary env (suc level)) d whole) (same_Some x g a.1) f
          | inr a ↦ more_step n d first level whole (λ ts g e. binary_sound n (d - 1) level ts g e) (λ x g f e. more_sound n d level first whole x g begins f e) begins x a.0 a.1 (op_at a.0.kind) g f a.2 refl a.3
        ]

    pub cast_sound : (n d : ℕ) (ts : List Lexeme) (g : Got ExprTree) → cast_at env n d ts ≡ Some g → FoundExpr (IsCast env) d ts g
    cast_sound zero d ts g e = absurd cc
    cast_sound (suc n) d ts g e =
        let a = at_first ts (λ o rest. cond (opens_type env ts) (enclosed_at env (d - 1) ts >>= λ t. cast_at env n (d - 1) t.rest >>= cast_to d o.span.first t) (unary_at env n d ts)) g e in
        elim (pick (opens_type env ts) (enclosed_at env (d - 1) ts >>= λ t. cast_at env n (d - 1) t.rest >>= cast_to d a.0.span.first t) (unary_at env n d ts) g a.3) [
          | inl q ↦ cast_step n d (λ ts g e. cast_sound n (d - 1) ts g e) ts a.0.span.first g (ap first_of a.2) q.1
          | inr q ↦ as_other d ts g (λ os x h. no_cast h) (unary_sound n d ts g q.1)
        ]

    pub unary_sound : (n d : ℕ) (ts : List Lexeme) (g : Got ExprTree) → unary_at env n d ts ≡ Some g → FoundExpr (IsUnary env) d ts g
    unary_sound zero d ts g e = absurd cc
    unary_sound (suc n) d ts g e =
        let a = at_first ts (λ o rest. unary_by (cast_at env n (d - 1)) (size_at env n d o.span.first rest) (primary_at env n d ts >>= suffix_at env n d o.span.first) d o rest (head_of o.kind)) g e in
        let o : Lexeme = a.0 in
        let after : (g : Got ExprTree) → (primary_at env n d ts >>= suffix_at env n d o.span.first) ≡ Some g → FoundExpr (IsPostfix env) d (o ∷ a.1) g = λ g e.
        let b = bind_some (primary_at env n d ts) (suffix_at env n d o.span.first) g e in
        subst (λ (w : List Lexeme). FoundExpr (IsPostfix env) d w g) a.2 (suffix_sound n d o.span.first ts b.0 g (ap first_of a.2) (as_other d ts b.0 (λ os x h. no_suffix h) (primary_sound n d ts b.0 b.1)) b.2) in
        subst (λ (w : List Lexeme). FoundExpr (IsUnary env) d w g) (sym a.2)
        (unary_step n d (size_at env n d o.span.first a.1) (primary_at env n d ts >>= suffix_at env n d o.span.first) (λ ts g e. cast_sound n (d - 1) ts g e) o a.1 (λ is g e. size_sound n d o a.1 g is e) after (head_of o.kind) g refl a.3)

    size_sound : (n d : ℕ) (o : Lexeme) (ts : List Lexeme) (g : Got ExprTree) → IsWord k.SizeOf o → size_at env n d o.span.first ts ≡ Some g → FoundExpr (IsUnary env) d (o ∷ ts) g
    size_sound zero d o ts g is e = absurd cc
    size_sound (suc n) d o ts g is e = size_step n d (λ ts g e. unary_sound n (d - 1) ts g e) o ts (opens_type env ts) g is e

    suffix_sound : (n d first : ℕ) (whole : List Lexeme) (x g : Got ExprTree) → first_of whole ≡ first → FoundExpr (IsPostfix env) d whole x → suffix_at env n d first x ≡ Some g → FoundExpr (IsPostfix env) d whole g
    suffix_sound zero d first whole x g begins f e = absurd cc
    suffix_sound (suc n) d first whole x g begins f e =
        elim (at_rest x.rest (Some x) (λ o ts. suffixed_by (cond_at env n (d - 1)) (suffix_at env n d first) d first x ts (suffix_of o.kind)) g e) [
          | inl a ↦ subst (FoundExpr (IsPostfix env) d whole) (same_Some x g a.1) f
          | inr a ↦ suffix_step n d first whole (λ ts g e. cond_sound n (d - 1) ts g e) (λ x g f e. suffix_sound n d first whole x g begins f e) begins x a.0 a.1 (suffix_of a.0.kind) g f a.2 refl a.3
        ]

    primary_sound : (n d : ℕ) (ts : List Lexeme) (g : Got ExprTree) → primary_at env n d ts ≡ Some g → FoundExpr (IsPrimary env) d ts g
    primary_sound zero d ts g e = absurd cc
    primary_sound (suc n) d ts g e =
        let a = at_first ts (λ o rest. leaf_by env (cond_at env n d) d o rest (leaf_of o.kind)) g e in
        subst (λ (w : List Lexeme). FoundExpr (IsPrimary env) d w g) (sym a.2) (primary_step n d (λ ts g e. cond_sound n d ts g e) a.0 a.1 (leaf_of a.0.kind) g refl a.3)

  -- what goes on after an operand that was found
  pub rest_sound : (n d first : ℕ) (whole : List Lexeme) (x g : Got ExprTree) → first_of whole ≡ first → FoundExpr (IsCast env) d whole x → rest_at env n d first x ≡ Some g → FoundExpr (IsCond env) d whole g
  rest_sound n d first whole x g begins f e =
      let b = bind_some (climb_at env n d 10 first x) (choice_at env n d first) g e in
      choice_sound n d first whole b.0 g begins (climb_sound n d 10 first whole x b.0 begins (as_other d whole x (λ os x h. operand h) f) b.1) b.2
