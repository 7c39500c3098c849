-- Linear forms and relations as plain data.
use Rattle.std.specs.Prelude.{ℤ, Bool, List, map}
use Rattle.cx_base.specs.declared.span.Span.{Span}
use Rattle.cx_tsyn.specs.Words.{WordTree, word_tree}
use Rattle.cx_tsyn.specs.declared.lin.LinPart.{LinPart}
use Rattle.cx_tsyn.specs.declared.lin.LinPart.TheVariants as p
use Rattle.cx_tsyn.specs.declared.lin.Lin.{Lin}
use Rattle.cx_tsyn.specs.declared.lin.SRel.{SRel}
use Rattle.cx_tsyn.specs.declared.lin.Relation.{Relation}

pub data LinPartTree : Type 0 where
  number : ℤ → LinPartTree
  times : (factor : ℤ) → WordTree → LinPartTree
  symbol : WordTree → LinPartTree

-- negative: a minus stands before the first part; each part of the rest has whether the sign before it is minus
pub record LinTree : Type 0 where
  pub span : Span
  pub negative : Bool
  pub first : LinPartTree
  pub rest : List (Bool × LinPartTree)

pub record RelationTree : Type 0 where
  pub left : LinTree
  pub rel : SRel
  pub right : LinTree

abbrev pub lin_part_tree : LinPart → LinPartTree
lin_part_tree (p.Number z) = number z
lin_part_tree (p.Times z w) = times z (word_tree w)
lin_part_tree (p.Symbol w) = symbol (word_tree w)

-- the linear form
abbrev pub lin_tree : Lin → LinTree
lin_tree l = record { span = l.span; negative = l.negative; first = lin_part_tree l.first; rest = map (λ p. (p.0, lin_part_tree p.1)) l.rest }

abbrev pub relation_tree : Relation → RelationTree
relation_tree r = record { left = lin_tree r.left; rel = r.rel; right = lin_tree r.right }
