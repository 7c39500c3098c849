-- A region with too many cells.
use Rattle.std.proofs.Common.{◌≡◌, ◌∙◌, Bool, false, Some, None, rules, ap, sym}
use Rattle.cx_tsyn.specs.Types.{stype_span, stype_tree}
use Rattle.cx_tsyn.specs.declared.stype.SType.{SType}
use Rattle.cx_tsyn.specs.declared.stype.Atom.TheFolds.{the_lemmas}
use Rattle.cx_tscope.specs.Faults.{first}
use Rattle.cx_tscope.proofs.Faults.{first_after}
use Rattle.cx_tmeasure.specs.Known.{Known}
use Rattle.cx_tmeasure.specs.Sizes.{cells}
use Rattle.cx_tmeasure.specs.BadTypes.{bad_in_type, unless_span, few_cells}
use Rattle.cx_tmeasure.specs.Judged.{amount}
use Rattle.cx_tmeasure.specs.declared.amount.Amount.{Amount}
use Rattle.cx_tsizes.specs.BadSizes.{bad_in_region}

span_seen : (t : SType) → t.span ≡ stype_span (stype_tree t)
span_seen t = search (rules, the_lemmas)

pub region_over : (k : Known) (t : SType) (all : Amount) (b : Bool)
    → first (bad_in_type k None (stype_tree t)) ≡ None → all ≡ amount k None (stype_tree t) → b ≡ few_cells all.cells → b ≡ false
    → Some t.span ≡ first (bad_in_region k (stype_tree t))
region_over k t all b none is few over =
    ap Some (span_seen t)
    ∙ ap (λ x. first (unless_span x (stype_span (stype_tree t)))) (sym over ∙ few ∙ ap (λ (a : Amount). few_cells a.cells) is)
    ∙ sym (first_after (bad_in_type k None (stype_tree t)) (unless_span (few_cells (cells (stype_tree t))) (stype_span (stype_tree t))) none)
