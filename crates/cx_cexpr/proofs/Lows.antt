-- Types that are not too high, and what follows the words of a type.
use Rattle.std.proofs.Common.{◌≡◌, ℕ, ◌<◌, ◌≤◌, List, [], ◌∷◌, refl, arith, Some, None}
use Rattle.std.proofs.lemmas.Bool.Decides.{nat_tests}
use Rattle.std.specs.Prelude.{nat_le, true, false}
use Rattle.cx_ctree.specs.Types.{TypeTree}
use Rattle.cx_ctree.specs.Path.{type_path}
use Rattle.cx_cword.specs.declared.lexeme.Lexeme.{Lexeme}
use Rattle.cx_cexpr.specs.Kinds.{tail_of}
use Rattle.cx_cexpr.specs.Reading.{Got, low_type, tail_at, tail_by}

pub low_type_low : (d : ℕ) (x : Got TypeTree) → type_path x.tree ≤ d → low_type d x ≡ Some x
unfolding low_type
low_type_low d x h = let low : nat_le (type_path x.tree) d ≡ true = grind (arith, nat_tests) in rw low refl

pub low_type_high : (d : ℕ) (x : Got TypeTree) → d < type_path x.tree → low_type d x ≡ None
unfolding low_type
low_type_high d x h = let low : nat_le (type_path x.tree) d ≡ false = grind (arith, nat_tests) in rw low refl

pub tail_none : (d : ℕ) (t : TypeTree) (past : ℕ) → tail_at d t past [] ≡ record { tree = t; past = past; rest = [] }
unfolding tail_at
tail_none d t past = refl

pub tail_turn : (d : ℕ) (t : TypeTree) (past : ℕ) (o : Lexeme) (os : List Lexeme) → tail_at d t past (o ∷ os) ≡ tail_by (λ u. tail_at d u o.span.past os) d (record { tree = t; past = past; rest = o ∷ os }) (tail_of o.kind)
unfolding tail_at
tail_turn d t past o os = refl
