use Rattle.std.proofs.Common.{◌≡◌, ◌≢◌, take, subst, arith, refl, true, false, ◌∙◌}
use Rattle.std.proofs.lemmas.List.{take_all}
use Rattle.std.specs.Prelude.{AllPairs}
use Rattle.cx_cells.proofs.Numbered.{equal_before, added}
use Rattle.cx_cells.proofs.kept.texts.texts_differ.Goals as goal

pub returns-then-n-i : goal.returns-then-n-i
returns-then-n-i c =
    let e = rw (c.as_slice.ensures, c.loop-i.invariant) at c.in_ok-n.ensures.value in (
      (λ h. absurd (let e : false ≡ true = h in cc)),
      (λ a. absurd (equal_before c.args.texts.now c.loop-i.i c.in_ok-n.n c.index-texts-i.result (omega arith) c.index-texts-i.is e (omega arith) a)),
    )

pub loop-i-preserved : goal.loop-i-preserved
loop-i-preserved c =
    let e = rw (c.as_slice.ensures, c.loop-i.invariant) at c.in_ok-n.ensures.value in
    let g = rw (c.as_slice.ensures, c.loop-i.invariant) at c.in_ok-n.ensures.new in
    g ∙ added c.args.texts.now c.loop-i.i c.in_ok-n.n c.index-texts-i.result (omega arith) c.index-texts-i.is e (omega arith)

pub returns : goal.returns
returns c =
    let all : take c.loop-i.i c.args.texts.now ≡ c.args.texts.now = take_all c.loop-i.i c.args.texts.now (omega arith) in
    let a : AllPairs (λ x y. x ≢ y) c.args.texts.now = subst (λ xs. AllPairs (λ x y. x ≢ y) xs) (c.loop-i.invariant ∙ all) c.known.ensures in
    ((λ h. a), (λ h. refl))
