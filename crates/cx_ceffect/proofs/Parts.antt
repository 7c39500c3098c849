-- Parts of a list of lexemes, and which place a whole has that stands before a rest.
use Rattle.std.proofs.Common.{◌≡◌, ℕ, ◌<◌, Bool, true, false, List, [], ◌∷◌, ◌++◌, length, refl, sym, ap, ◌∙◌, append_assoc, arith}
use Rattle.cx_ctree.specs.Exprs.{ExprTree, ExprKindTree}
use Rattle.cx_cword.specs.declared.word.Punctuator.{Punctuator}
use Rattle.cx_cword.specs.declared.word.Punctuator.TheVariants as p
use Rattle.cx_cword.specs.declared.lexeme.Lexeme.{Lexeme}
use Rattle.cx_cword.specs.Reading.{first_of, past_of}
use Rattle.cx_cname.specs.Known.{Known}
use Rattle.std.proofs.Common.{Some}
use Rattle.cx_base.proofs.General.{not_both_ways}
use Rattle.cx_cexpr.specs.Expressions.{prefixed_by, IsUnary, no_prefix, prefixed, size_of_value, size_of_type, IsPostfix}
use Rattle.cx_cexpr.proofs.Spans.{first-append, past-append}
use Rattle.cx_ceffect.specs.Kinds as kinds
use Rattle.cx_ceffect.specs.Kinds.{begins_postfix}

pub begins_at : (whole front rest : List Lexeme) (first : ℕ) → whole ≡ front ++ rest → 0 < length front → first_of whole ≡ first → first_of front ≡ first
begins_at whole front rest first parts filled begins = sym (first-append front rest filled) ∙ ap first_of (sym parts) ∙ begins

-- a front, a lexeme, and a second front
pub two_parts : (whole a rest ts b after : List Lexeme) (o : Lexeme) → whole ≡ a ++ rest → rest ≡ o ∷ ts → ts ≡ b ++ after → whole ≡ (a ++ o ∷ b) ++ after
two_parts whole a rest ts b after o parts is then = parts ∙ ap (λ (v : List Lexeme). a ++ v) (is ∙ ap (λ (v : List Lexeme). o ∷ v) then) ∙ sym (append_assoc a (o ∷ b) after)

-- where a front ends that a lexeme joins to another
pub two_ends : (a b : List Lexeme) (o : Lexeme) (past : ℕ) → 0 < length b → past_of b ≡ past → past_of (a ++ o ∷ b) ≡ past
two_ends a b o past filled ends = past-append a (o ∷ b) (omega arith) ∙ past-append (o ∷ []) b filled ∙ ends

-- ---- postfix expressions among unary ones

abbrev pub starts_postfix : List Lexeme → Bool
starts_postfix [] = false
starts_postfix (o ∷ os) = begins_postfix o.kind

pub postfix_front : (front rest : List Lexeme) → 0 < length front → starts_postfix (front ++ rest) ≡ true → starts_postfix front ≡ true
postfix_front [] rest h e = absurd (omega arith)
postfix_front (o ∷ front) rest h e = e

prefix_marks : (mark : Punctuator) (x : ExprTree) (y : ExprKindTree) → prefixed_by mark x ≡ Some y → kinds.no_prefix mark ≡ false
prefix_marks p.Plus x y e = refl
prefix_marks p.Minus x y e = refl
prefix_marks p.Tilde x y e = refl
prefix_marks p.Bang x y e = refl
prefix_marks p.Star x y e = refl
prefix_marks p.Ampersand x y e = refl
prefix_marks _ x y e = absurd cc

pub unary_postfix : {env : Known} {os : List Lexeme} {x : ExprTree} → IsUnary env os x → starts_postfix os ≡ true → IsPostfix env os x
unary_postfix (no_prefix h) e = h
unary_postfix (prefixed {x = x} o mark y is h f) e = absurd (not_both_ways (begins_postfix o.kind) e (ap begins_postfix is ∙ prefix_marks mark x y f))
unary_postfix (size_of_value o is h) e = absurd (not_both_ways (begins_postfix o.kind) e (ap begins_postfix is))
unary_postfix (size_of_type o m c is i h j) e = absurd (not_both_ways (begins_postfix o.kind) e (ap begins_postfix is))
