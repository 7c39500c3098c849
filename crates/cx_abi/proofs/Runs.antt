-- Members taken one after another.
use Rattle.std.proofs.Common.{◌≡◌, ◌+◌, ◌*◌, ◌^◌, ◌≤◌, max, ℕ, Bool, refl, arith}
use Rattle.cx_ctree.specs.Layouts.{Shapes, no_member, also_member, end_of, align_of, first_too_big_in}

-- i members of a struct or union end at `end`, with the greatest alignment `align`, and those of `rest` are left of `all`
pub record Ahead (u : Bool) (all rest : Shapes) (i end align : ℕ) : Type 0 where
  pub ends : end_of u end rest ≡ end_of u 0 all
  pub aligns : max align (align_of rest) ≡ align_of all
  pub fits : first_too_big_in rest ≡ first_too_big_in all
  pub bound : end ≤ i * (2 ^ 31 + 7)
  pub positive : 1 ≤ align
  pub scalar : align ≤ 8

pub align_positive : (ss : Shapes) → 1 ≤ align_of ss
align_positive no_member = omega arith
align_positive (also_member s ss) = let rest = align_positive ss in omega (arith, rest)

pub starts : (u : Bool) (all : Shapes) → Ahead u all all 0 0 1
starts u all = record {
  ends = refl;
  aligns = let h = align_positive all in omega (arith, h);
  fits = refl;
  bound = omega arith;
  positive = omega arith;
  scalar = omega arith;
}
