use Rattle.std.proofs.Common.{◌≡◌, ℕ, ◌<◌, List, sym, subst, refl, arith, true, false}
use Rattle.std.specs.Prelude.{IsSome}
use Rattle.cx_cells.specs.Symbols.{telling_kind}
use Rattle.cx_cells.specs.declared.cell.CellKind.{CellKind}
use Rattle.cx_cells.proofs.kept.calls.fn_kept.Goals as goal

-- each symbol below n is told by the first of these kinds that names it
abbrev Told : ℕ → List CellKind → Type 0
Told n ks = (s : ℕ) → s < n → IsSome (telling_kind s ks)

pub returns-then-not-told_by_kinds : goal.returns-then-not-told_by_kinds
returns-then-not-told_by_kinds c = (
  (λ h. absurd (let e : false ≡ true = h in cc)),
  (λ k. c.if-not-told_by_kinds.ensures.1 (subst (Told c.args.f.now.binders) (sym c.as_slice.ensures) k.told)),
)

pub returns : goal.returns
returns c = (
  (λ h. let p = c.terms_kept.ensures.0 h in record {
    binders = omega arith;
    few_args = omega arith;
    few_conds = p.0;
    args = p.1;
    none_any = p.2;
    conds = p.3;
    told = subst (Told c.args.f.now.binders) c.as_slice.ensures (c.if-not-told_by_kinds.ensures.0 refl);
    result = p.4;
  }),
  (λ k. c.terms_kept.ensures.1 (k.few_conds, k.args, k.none_any, k.conds, k.result)),
)
