-- The arguments of a call.
use Rattle.std.proofs.Common.{◌≡◌, ℕ, suc, List, [], ◌∷◌, map, length, refl, ap, sym, ◌∙◌}
use Rattle.cx_base.specs.declared.span.Span.{Span}
use Rattle.cx_ctree.specs.Exprs.{ExprTree, expr_tree}
use Rattle.cx_ctree.specs.Types.{TypeTree}
use Rattle.cx_ctree.specs.declared.expr.Expr.{Expr}
use Rattle.cx_lcode.specs.Effects.{arguments_code}
use Rattle.cx_lcode.specs.Items.{Item}
use Rattle.cx_lemit.specs.Made.{made, Emits}
use Rattle.cx_lemit.specs.declared.builder.Builder.{Builder}
use Rattle.cx_sname.specs.File.{Declared}

-- a call of a name that no function has
no_code : (d : Declared) (q : Span) (es : List ExprTree) (b t : ℕ) (rest : List Item) → arguments_code d q es [] b t rest ≡ rest
no_code d q [] b t rest = refl
no_code d q (e ∷ es) b t rest = refl

pub nothing_given : (a : Builder) (d : Declared) (q : Span) (es : List ExprTree) (ts : List TypeTree) (b t : ℕ) → ts ≡ [] → Emits a a (arguments_code d q es ts b t)
nothing_given a d q es ts b t none = record { by = λ rest e s. ap (λ x. made a x e s) (sym (ap (λ us. arguments_code d q es us b t rest) none ∙ no_code d q es b t rest)) }

pub counted : (es : List Expr) → length (map expr_tree es) ≡ length es
counted [] = refl
counted (e ∷ es) = ap (λ n. suc n) (counted es)
