-- The code of an argument and those after it, and of a call whose number is taken.
use Rattle.std.proofs.Common.{◌≡◌, ℕ, ◌+◌, ◌-◌, ◌≤◌, List, [], ◌∷◌, map, length, take, drop, get_or, refl, ap, sym, ◌∙◌, arith, Option, Some, None, Result, Ok, Err, OnOk, Bor}
use Rattle.std.specs.Prelude.{option_map}
use Rattle.std.specs.Option.{option_copied}
use Rattle.std.proofs.Math.Seq.{take-length}
use Rattle.cx_base.specs.declared.number.CInt.{CInt}
use Rattle.cx_base.specs.declared.span.Span.{Span}
use Rattle.cx_cconst.specs.Constants.{number_type}
use Rattle.cx_cmean.specs.Effects.{taken_as, pointee_of}
use Rattle.cx_cmean.specs.Numbers.{number_of}
use Rattle.cx_cmean.specs.Program.{function_of}
use Rattle.cx_ctree.specs.Decls.{param_tree}
use Rattle.cx_ctree.specs.Exprs.{ExprTree, ExprKindTree, kind_step, expr_step, expr_tree, span_of, CallTree, call}
use Rattle.cx_ctree.specs.Types.{TypeTree, type_tree}
use Rattle.cx_ctree.specs.declared.decl.Param.{Param}
use Rattle.cx_ctree.specs.declared.ctype.CType.{CType}
use Rattle.cx_ctree.specs.declared.expr.Expr.{Expr, fold_out-Expr}
use Rattle.cx_lcode.specs.Effects.{arguments_code, call_code, right_code}
use Rattle.cx_lcode.specs.Items.{Item, converts}
use Rattle.cx_lcode.specs.Places.{last}
use Rattle.cx_lcode.specs.Values.{code_of}
use Rattle.cx_lemit.specs.Made.{made, Emits}
use Rattle.cx_lemit.specs.declared.builder.Builder.{Builder}
use Rattle.cx_sname.specs.File.{Declared}

emits_three : {T E : Type 0} (r : Result T E) (a b c f : Builder) (x y z whole : List Item → List Item) → Emits a b x → Emits b c y → OnOk r (Emits c f z) → ((rest : List Item) → x (y (z rest)) ≡ whole rest) → OnOk r (Emits a f whole)
emits_three (Ok v) a b c f x y z whole k l m same = record { by = λ rest e s. m.by rest e s ∙ l.by (z rest) e s ∙ k.by (y (z rest)) e s ∙ ap (λ i. made a i e s) (same rest) }
emits_three (Err g) a b c f x y z whole k l m same = tt

pub span_is : (e : Expr) → e.span ≡ span_of (expr_tree e)
span_is e = sym (ap span_of (fold_out-Expr ExprKindTree ExprTree kind_step expr_step e))

copied : (o : Option (Bor CType)) → option_map (λ w. type_tree w.now) o ≡ option_map type_tree (option_copied o)
copied None = refl
copied (Some w) = refl

pub taken_is : (o : Option (Bor CType)) (w : Option CType) (t taken : TypeTree) → option_copied o ≡ w → taken ≡ taken_as (option_map (λ w. type_tree w.now) o) t → taken ≡ taken_as (option_map type_tree w) t
taken_is o w t taken e h = h ∙ ap (λ x. taken_as x t) (copied o ∙ ap (option_map type_tree) e)

tail_of : {A : Type 0} (x : A) (xs : List A) → take (length (x ∷ xs) - 1) (drop 1 (x ∷ xs)) ≡ xs
tail_of x xs = let n : length (x ∷ xs) - 1 ≡ length xs = omega arith in ap (λ k. take k xs) n ∙ take-length xs

abbrev pub types_of : List Param → List TypeTree
types_of ps = map (λ p. p.ctype) (map param_tree ps)

-- the parts are those of the first argument
one : (d : Declared) (q : Span) (e x : ExprTree) (s : Span) (v w u : CInt) (b t m : ℕ) (es zs : List ExprTree) (ts us : List TypeTree) → e ≡ x → s ≡ span_of x → v ≡ number_of x → w ≡ u → m ≡ (last x).val b → es ≡ zs → ts ≡ us → (rest : List Item)
    → (code_of d q e).val b t (converts s v w t (arguments_code d q es ts m (t + 1) rest)) ≡ (code_of d q x).val b t (converts (span_of x) (number_of x) u t (arguments_code d q zs us ((last x).val b) (t + 1) rest))
one d q e x s v w u b t m es zs ts us he hs hv hw hm hz hu rest =
    ap (λ y. (code_of d q y).val b t (converts s v w t (arguments_code d q es ts m (t + 1) rest))) he
    ∙ ap (λ y. (code_of d q x).val b t (converts y v w t (arguments_code d q es ts m (t + 1) rest))) hs
    ∙ ap (λ y. (code_of d q x).val b t (converts (span_of x) y w t (arguments_code d q es ts m (t + 1) rest))) hv
    ∙ ap (λ y. (code_of d q x).val b t (converts (span_of x) (number_of x) y t (arguments_code d q es ts m (t + 1) rest))) hw
    ∙ ap (λ y. (code_of d q x).val b t (converts (span_of x) (number_of x) u t (arguments_code d q es ts y (t + 1) rest))) hm
    ∙ ap (λ y. (code_of d q x).val b t (converts (span_of x) (number_of x) u t (arguments_code d q y ts ((last x).val b) (t + 1) rest))) hz
    ∙ ap (λ y. (code_of d q x).val b t (converts (span_of x) (number_of x) u t (arguments_code d q zs y ((last x).val b) (t + 1) rest))) hu

pub argument_then : {T E : Type 0} (r : Result T E) (a b c f : Builder) (d : Declared) (q : Span) (es : List Expr) (ps : List Param) (e : Expr) (p : Param) (s : Span) (v w : CInt) (at t m : ℕ)
    → 1 ≤ length es → e ≡ get_or es 0 e → 1 ≤ length ps → p ≡ get_or ps 0 p → s ≡ span_of (expr_tree e) → v ≡ number_of (expr_tree e) → w ≡ number_type (type_tree p.ctype) → m ≡ (last (expr_tree e)).val at
    → Emits a b ((code_of d q (expr_tree e)).val at t) → Emits b c (converts s v w t)
    → OnOk r (Emits c f (arguments_code d q (map expr_tree (take (length es - 1) (drop 1 es))) (types_of (take (length ps - 1) (drop 1 ps))) m (t + 1)))
    → OnOk r (Emits a f (arguments_code d q (map expr_tree es) (types_of ps) at t))
argument_then r a b c f d q [] ps e p s v w at t m some ie any ip hs hv hw hm k l h = absurd (omega (arith, some))
argument_then r a b c f d q (x ∷ xs) [] e p s v w at t m some ie any ip hs hv hw hm k l h = absurd (omega (arith, any))
argument_then r a b c f d q (x ∷ xs) (y ∷ ys) e p s v w at t m some ie any ip hs hv hw hm k l h =
    let he : expr_tree e ≡ expr_tree x = ap expr_tree ie in
    emits_three r a b c f _ _ _ _ k l h
    (one d q (expr_tree e) (expr_tree x) s v w (number_type (type_tree y.ctype)) at t m _ (map expr_tree xs) _ (types_of ys) he
    (hs ∙ ap span_of he) (hv ∙ ap number_of he) (hw ∙ ap (λ (z : Param). number_type (type_tree z.ctype)) ip) (hm ∙ ap (λ z. (last z).val at) he)
    (ap (map expr_tree) (tail_of x xs)) (ap types_of (tail_of y ys)))

taken_right : (d : Declared) (q : Span) (t : TypeTree) (k : CallTree) (w : Option TypeTree) (taken : TypeTree) (pointee : Option TypeTree) (given from to : CInt) (b L : ℕ)
    → taken ≡ taken_as w t → pointee ≡ pointee_of taken → given ≡ number_type (function_of d k.name).result → from ≡ number_type taken → to ≡ number_type t → (rest : List Item)
    → call_code d q k pointee b L (converts k.span given from L (converts k.span from to L rest)) ≡ right_code d q t (call k w) b L rest
taken_right d q t k w taken pointee given from to b L ht hp hg hf hn rest =
    let from_is : from ≡ number_type (taken_as w t) = hf ∙ ap number_type ht in
    ap (λ y. call_code d q k y b L (converts k.span given from L (converts k.span from to L rest))) (hp ∙ ap pointee_of ht)
    ∙ ap (λ y. call_code d q k (pointee_of (taken_as w t)) b L (converts k.span y from L (converts k.span from to L rest))) hg
    ∙ ap (λ y. call_code d q k (pointee_of (taken_as w t)) b L (converts k.span (number_type (function_of d k.name).result) y L (converts k.span y to L rest))) from_is
    ∙ ap (λ y. call_code d q k (pointee_of (taken_as w t)) b L (converts k.span (number_type (function_of d k.name).result) (number_type (taken_as w t)) L (converts k.span (number_type (taken_as w t)) y L rest))) hn

pub call_right : {T E : Type 0} (r : Result T E) (a b c f : Builder) (d : Declared) (q : Span) (t : TypeTree) (k : CallTree) (w : Option TypeTree) (taken : TypeTree) (pointee : Option TypeTree) (given from to : CInt) (at L : ℕ)
    → taken ≡ taken_as w t → pointee ≡ pointee_of taken → given ≡ number_type (function_of d k.name).result → from ≡ number_type taken → to ≡ number_type t
    → Emits a b (call_code d q k pointee at L) → Emits b c (converts k.span given from L) → OnOk r (Emits c f (converts k.span from to L))
    → OnOk r (Emits a f (right_code d q t (call k w) at L))
call_right r a b c f d q t k w taken pointee given from to at L ht hp hg hf hn x y z =
    emits_three r a b c f _ _ _ _ x y z (taken_right d q t k w taken pointee given from to at L ht hp hg hf hn)
