use Rattle.std.proofs.Common.{◌^◌, ◌*◌, ◌-◌, pos, ℕ, ap, sym, arith}
use Rattle.cx_base.specs.Number.{half_of}
use Rattle.cx_base.proofs.Sizes.{eight}
use Rattle.cx_cells.proofs.range.half.Goals as goal

pub returns-in-1-clause-value : goal.returns-in-1-clause-value
unfolding half_of
returns-in-1-clause-value c = ap (λ (n : ℕ). pos (2 ^ (8 * n - 1))) (sym c.in-1.is)

pub returns-in-2-clause-value : goal.returns-in-2-clause-value
unfolding half_of
returns-in-2-clause-value c = ap (λ (n : ℕ). pos (2 ^ (8 * n - 1))) (sym c.in-2.is)

pub returns-in-4-clause-value : goal.returns-in-4-clause-value
unfolding half_of
returns-in-4-clause-value c = ap (λ (n : ℕ). pos (2 ^ (8 * n - 1))) (sym c.in-4.is)

pub returns-in_default-clause-value : goal.returns-in_default-clause-value
unfolding half_of
returns-in_default-clause-value c =
    ap (λ (n : ℕ). pos (2 ^ (8 * n - 1))) (sym (eight c.args.size c.requires (omega arith) (omega arith) (omega arith)))
