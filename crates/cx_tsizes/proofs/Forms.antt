-- What a form comes to, and what is found in a file.
use Rattle.std.proofs.Common.{◌≡◌, ◌∙◌, ℕ, List, Option, None, map, ap}
use Rattle.std.specs.Prelude.{ℤ, ◌+ℤ◌}
use mathlib.Core.Path.{fun_ext}
use Rattle.cx_tsyn.specs.Words.{WordTree}
use Rattle.cx_tsyn.specs.Lins.{LinTree}
use Rattle.cx_tsyn.specs.Items.{type_item_tree}
use Rattle.cx_tsyn.specs.declared.item.TypeItem.{TypeItem}
use Rattle.cx_tscope.specs.Faults.{first}
use Rattle.cx_tnumber.specs.Numbers.{sum_of}
use Rattle.cx_tmeasure.specs.Known.{Known}
use Rattle.cx_tsizes.specs.Regions.{Regions, value_at, form_value, no_regions, with_items}
use Rattle.cx_tsizes.specs.BadSizes.{bad_in_items}

pub form_told : (sum : Option (List ℕ) → ℤ) (l : LinTree) (ps : List WordTree) (vs : List ℤ) (number symbols : ℤ)
    → ((u : Option (List ℕ)) → sum u ≡ sum_of l u) → number ≡ sum None → symbols ≡ value_at sum ps vs
    → number +ℤ symbols ≡ form_value l ps vs
form_told sum l ps vs number symbols told n s =
    ap (λ z. z +ℤ symbols) n
    ∙ ap (λ z. sum None +ℤ z) s
    ∙ ap (λ f. f None +ℤ value_at f ps vs) (fun_ext told)

pub found_told : (k known : Known) (rs start : Regions) (items all : List TypeItem)
    → k ≡ known → rs ≡ with_items k start (map type_item_tree items) → start ≡ no_regions → items ≡ all
    → first (bad_in_items k rs (map type_item_tree items)) ≡ first (bad_in_items known (with_items known no_regions (map type_item_tree all)) (map type_item_tree all))
found_told k known rs start items all e r n i =
    ap (λ x. first (bad_in_items k x (map type_item_tree items))) r
    ∙ ap (λ x. first (bad_in_items k (with_items k x (map type_item_tree items)) (map type_item_tree items))) n
    ∙ ap (λ x. first (bad_in_items x (with_items x no_regions (map type_item_tree items)) (map type_item_tree items))) e
    ∙ ap (λ x. first (bad_in_items known (with_items known no_regions (map type_item_tree x)) (map type_item_tree x))) i
