-- What is judged of a type and of its parts, put together.
use Rattle.std.proofs.Common.{◌≡◌, ◌∙◌, ◌+◌, ◌<◌, ℕ, suc, Bool, List, ◌∷◌, ◌++◌, Option, Some, None, map, drop, get_or, length, refl, rules, ap, sym, subst, add-one, add_assoc}
use Rattle.std.specs.Prelude.{◌||◌}
use Rattle.std.specs.Option.{unwrap_or}
use Rattle.std.proofs.Math.Seq.{drop-cons}
use Rattle.cx_base.specs.declared.span.Span.{Span}
use Rattle.cx_ctree.specs.Types.{TypeTree}
use Rattle.cx_ctree.specs.Decls.{MemberTree}
use Rattle.cx_tsyn.specs.Words.{word_tree}
use Rattle.cx_tsyn.specs.Lins.{relation_tree}
use Rattle.cx_tsyn.specs.Types.{stype_tree, SFieldTree, field_tree, field_trees, also_field, SBranchTree, branch_tree, branch_trees, also_branch}
use Rattle.cx_tsyn.specs.declared.stype.SField.{SField}
use Rattle.cx_tsyn.specs.declared.stype.SBranch.{SBranch}
use Rattle.cx_tsyn.specs.declared.stype.Atom.TheFolds.{the_lemmas}
use Rattle.cx_tscope.specs.Faults.{first}
use Rattle.cx_tscope.proofs.Faults.{first_after, first_in}
use Rattle.cx_tmeasure.specs.Known.{Known, behind}
use Rattle.cx_tmeasure.specs.Sizes.{size, first_size}
use Rattle.cx_tmeasure.specs.BadTypes.{bad_in_fields, bad_in_branches, bad_for, bad_in_field}
use Rattle.cx_tmeasure.specs.Judged.{IsJudged, amount, amount_field, plus}
use Rattle.cx_tmeasure.specs.declared.amount.Amount.{Amount}
use Rattle.cx_tmeasure.specs.declared.amount.Judged.{Judged}
use Rattle.cx_tmeasure.specs.declared.amount.Judged.TheVariants.{Bad, Right}
use Rattle.cx_tmeasure.proofs.Adding.{or_assoc}

pub bad_told : (j : Judged) (s : Span) (bad : List Span) (y : Amount) → IsJudged j bad y → j ≡ Bad s → first bad ≡ Some s
bad_told j s bad y told is = subst (λ i. IsJudged i bad y) is told

pub right_told : (j : Judged) (x : Amount) (bad : List Span) (y : Amount) → IsJudged j bad y → j ≡ Right x → (first bad ≡ None) × (x ≡ y)
right_told j x bad y told is = subst (λ i. IsJudged i bad y) is told

-- ---- what is left of lists

field_seen : (f : SField) → field_tree f ≡ record { name = word_tree f.name; body = stype_tree f.body }
field_seen f = search (rules, the_lemmas)

pub next_field : (fields : List SField) (n : ℕ) (f : SField) → n < length fields → f ≡ get_or fields n f
    → field_trees (drop n fields) ≡ also_field (word_tree f.name) (stype_tree f.body) (field_trees (drop (n + 1) fields))
next_field fields n f below is =
    ap field_trees (drop-cons fields n f below ∙ ap (λ x. x ∷ drop (suc n) fields) (sym is))
    ∙ ap (λ (x : SFieldTree). also_field x.name x.body (field_trees (drop (suc n) fields))) (field_seen f)
    ∙ rw add-one refl

branch_seen : (b : SBranch) → branch_tree b ≡ record { guard = map relation_tree b.guard; body = stype_tree b.body }
branch_seen b = search (rules, the_lemmas)

pub next_branch : (branches : List SBranch) (n : ℕ) (b : SBranch) → n < length branches → b ≡ get_or branches n b
    → branch_trees (drop n branches) ≡ also_branch (map relation_tree b.guard) (stype_tree b.body) (branch_trees (drop (n + 1) branches))
next_branch branches n b below is =
    ap branch_trees (drop-cons branches n b below ∙ ap (λ x. x ∷ drop (suc n) branches) (sym is))
    ∙ ap (λ (x : SBranchTree). also_branch x.guard x.body (branch_trees (drop (suc n) branches))) (branch_seen b)
    ∙ rw add-one refl

-- ---- sums

pub cells_step : (all more x y : Amount) (rest left whole : ℕ) → more ≡ plus all x → x ≡ y → left ≡ y.cells + rest → all.cells + left ≡ whole → more.cells + rest ≡ whole
cells_step all more x y rest left whole sum is next told =
    ap (λ m. m.cells + rest) (sum ∙ ap (plus all) is)
    ∙ add_assoc all.cells y.cells rest
    ∙ ap (λ n. all.cells + n) (sym next)
    ∙ told

pub tail_step : (all more x y : Amount) (rest left whole : Bool) → more ≡ plus all x → x ≡ y → left ≡ y.tail || rest → all.tail || left ≡ whole → more.tail || rest ≡ whole
tail_step all more x y rest left whole sum is next told =
    ap (λ m. m.tail || rest) (sum ∙ ap (plus all) is)
    ∙ or_assoc all.tail y.tail rest
    ∙ ap (λ b. all.tail || b) (sym next)
    ∙ told

-- ---- fields

pub found_field : (k : Known) (u : Bool) (ms : List MemberTree) (fields : List SField) (n : ℕ) (f : SField) (j : Judged) (s : Span) (whole : Option Span) → n < length fields → f ≡ get_or fields n f
    → IsJudged j (bad_in_field k u ms (word_tree f.name) (stype_tree f.body)) (amount_field k u ms (word_tree f.name) (stype_tree f.body)) → j ≡ Bad s
    → first (bad_in_fields k u ms (field_trees (drop n fields))) ≡ whole
    → whole ≡ Some s
found_field k u ms fields n f j s whole below is told bad rest =
    sym rest
    ∙ ap (λ fs. first (bad_in_fields k u ms fs)) (next_field fields n f below is)
    ∙ first_in (bad_in_field k u ms (word_tree f.name) (stype_tree f.body)) (bad_in_fields k u (behind u ms) (field_trees (drop (n + 1) fields))) s (bad_told j s _ _ told bad)

pub passed_field : (k : Known) (u : Bool) (ms after : List MemberTree) (fields : List SField) (n : ℕ) (f : SField) (j : Judged) (x : Amount) (whole : Option Span) → n < length fields → f ≡ get_or fields n f
    → IsJudged j (bad_in_field k u ms (word_tree f.name) (stype_tree f.body)) (amount_field k u ms (word_tree f.name) (stype_tree f.body)) → j ≡ Right x
    → after ≡ behind u ms
    → first (bad_in_fields k u ms (field_trees (drop n fields))) ≡ whole
    → first (bad_in_fields k u after (field_trees (drop (n + 1) fields))) ≡ whole
passed_field k u ms after fields n f j x whole below is told right moved rest =
    ap (λ ns. first (bad_in_fields k u ns (field_trees (drop (n + 1) fields)))) moved
    ∙ sym (first_after (bad_in_field k u ms (word_tree f.name) (stype_tree f.body)) (bad_in_fields k u (behind u ms) (field_trees (drop (n + 1) fields))) (right_told j x _ _ told right).0)
    ∙ sym (ap (λ fs. first (bad_in_fields k u ms fs)) (next_field fields n f below is))
    ∙ rest

-- ---- branches

bytes_told : (k : Known) (m : Option TypeTree) (branches : List SBranch) (n : ℕ) (b : SBranch) (bytes : Option ℕ) (whole : ℕ) → n < length branches → b ≡ get_or branches n b
    → unwrap_or bytes (first_size k m (branch_trees (drop n branches))) ≡ whole
    → unwrap_or bytes (size k m (stype_tree b.body)) ≡ whole
bytes_told k m branches n b bytes whole below is told = sym (ap (λ bs. unwrap_or bytes (first_size k m bs)) (next_branch branches n b below is)) ∙ told

left_branches : (k : Known) (m : Option TypeTree) (branches : List SBranch) (n : ℕ) (b : SBranch) (bytes : Option ℕ) (whole : ℕ) → n < length branches → b ≡ get_or branches n b
    → unwrap_or bytes (first_size k m (branch_trees (drop n branches))) ≡ whole
    → bad_in_branches k m whole (branch_trees (drop n branches))
    ≡ bad_for k m (Some (unwrap_or bytes (size k m (stype_tree b.body)))) (stype_tree b.body) ++ bad_in_branches k m whole (branch_trees (drop (n + 1) branches))
left_branches k m branches n b bytes whole below is told =
    ap (bad_in_branches k m whole) (next_branch branches n b below is)
    ∙ ap (λ c. bad_for k m (Some c) (stype_tree b.body) ++ bad_in_branches k m whole (branch_trees (drop (n + 1) branches))) (sym (bytes_told k m branches n b bytes whole below is told))

pub found_branch : (k : Known) (m : Option TypeTree) (branches : List SBranch) (n : ℕ) (b : SBranch) (bytes : Option ℕ) (size_ : ℕ) (j : Judged) (s : Span) (whole : Option Span) → n < length branches → b ≡ get_or branches n b
    → unwrap_or bytes (first_size k m (branch_trees (drop n branches))) ≡ size_
    → IsJudged j (bad_for k m (Some (unwrap_or bytes (size k m (stype_tree b.body)))) (stype_tree b.body)) (amount k m (stype_tree b.body)) → j ≡ Bad s
    → first (bad_in_branches k m size_ (branch_trees (drop n branches))) ≡ whole
    → whole ≡ Some s
found_branch k m branches n b bytes size_ j s whole below is same told bad rest =
    sym rest
    ∙ ap first (left_branches k m branches n b bytes size_ below is same)
    ∙ first_in (bad_for k m (Some (unwrap_or bytes (size k m (stype_tree b.body)))) (stype_tree b.body)) (bad_in_branches k m size_ (branch_trees (drop (n + 1) branches))) s (bad_told j s _ _ told bad)

pub passed_branch : (k : Known) (m : Option TypeTree) (branches : List SBranch) (n : ℕ) (b : SBranch) (bytes : Option ℕ) (size_ : ℕ) (j : Judged) (x : Amount) (whole : Option Span) → n < length branches → b ≡ get_or branches n b
    → unwrap_or bytes (first_size k m (branch_trees (drop n branches))) ≡ size_
    → IsJudged j (bad_for k m (Some (unwrap_or bytes (size k m (stype_tree b.body)))) (stype_tree b.body)) (amount k m (stype_tree b.body)) → j ≡ Right x
    → first (bad_in_branches k m size_ (branch_trees (drop n branches))) ≡ whole
    → first (bad_in_branches k m size_ (branch_trees (drop (n + 1) branches))) ≡ whole
passed_branch k m branches n b bytes size_ j x whole below is same told right rest =
    sym (first_after (bad_for k m (Some (unwrap_or bytes (size k m (stype_tree b.body)))) (stype_tree b.body)) (bad_in_branches k m size_ (branch_trees (drop (n + 1) branches))) (right_told j x _ _ told right).0)
    ∙ sym (ap first (left_branches k m branches n b bytes size_ below is same))
    ∙ rest

-- the bytes that the next branch must take
pub next_bytes : (k : Known) (m : Option TypeTree) (branches : List SBranch) (n : ℕ) (b : SBranch) (bytes : Option ℕ) (size_ now : ℕ) (j : Judged) (x : Amount) (bad : List Span) → n < length branches → b ≡ get_or branches n b
    → unwrap_or bytes (first_size k m (branch_trees (drop n branches))) ≡ size_
    → IsJudged j bad (amount k m (stype_tree b.body)) → j ≡ Right x → now ≡ unwrap_or bytes x.size
    → now ≡ size_
next_bytes k m branches n b bytes size_ now j x bad below is same told right is_now =
    is_now
    ∙ ap (λ (y : Amount). unwrap_or bytes y.size) (right_told j x _ _ told right).1
    ∙ bytes_told k m branches n b bytes size_ below is same
