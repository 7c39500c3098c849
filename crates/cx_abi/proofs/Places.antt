-- Where members stand in a struct or union that is not too big.
use Rattle.std.proofs.Common.{◌≡◌, ◌+◌, ◌^◌, ◌≤◌, ◌++◌, ℕ, Bool, List, Option, Some, None, refl, arith, option_map, sym, ap, ◌∙◌, [], ◌∷◌, ◌≢◌, ◌<◌, suc, length, get_or, drop, map, subst, append_assoc, drop-cons, false}
use Rattle.std.proofs.Math.Numerals.{suc-eq-add-one}
use Rattle.cx_ctree.specs.declared.decl.Member.{Member}
use Rattle.std.proofs.lemmas.Option.{none-some}
use Rattle.std.specs.Prelude.{find, ◌==◌}
use Rattle.cx_ctree.specs.Types.{tag, type_tree}
use Rattle.cx_ctree.specs.Decls.{TagTree, MemberTree, member_tree}
use Rattle.cx_ctree.specs.Layouts.{Shape, shape_of, Shapes, no_member, also_member, declared, Extent, extent_of, place, past, end_of, align_of, round_up, or_else, first_too_big, first_too_big_in, if_too_big, shapes_of, FieldTree, fields_from}
use Rattle.cx_abi.proofs.Rounding.{round_up_over}
use Rattle.cx_abi.proofs.Runs.{align_positive}

-- members of a struct or union end at `end`, those of `rest` are left of `all`, and the fields made so far and those to come are all
pub record Making (tags : List TagTree) (u : Bool) (all rest : List MemberTree) (end : ℕ) (made : List FieldTree) : Type 0 where
  pub ends : end_of u end (shapes_of tags rest) ≡ end_of u 0 (shapes_of tags all)
  pub fits : first_too_big_in (shapes_of tags rest) ≡ None
  pub within : end_of u 0 (shapes_of tags all) ≤ 2 ^ 31
  pub low : end ≤ 2 ^ 31
  pub fields : made ++ fields_from tags u end rest ≡ fields_from tags u 0 all

-- the place of the first field of the name
abbrev pub place_of : ℕ → List FieldTree → Option ℕ
place_of name fs = option_map (λ f. f.offset) (find (λ f. f.name == name) fs)

-- the same, and no member so far has the name
pub record Seeking (tags : List TagTree) (u : Bool) (all rest : List MemberTree) (end : ℕ) (name : ℕ) : Type 0 where
  pub ends : end_of u end (shapes_of tags rest) ≡ end_of u 0 (shapes_of tags all)
  pub fits : first_too_big_in (shapes_of tags rest) ≡ None
  pub within : end_of u 0 (shapes_of tags all) ≤ 2 ^ 31
  pub low : end ≤ 2 ^ 31
  pub found : place_of name (fields_from tags u end rest) ≡ place_of name (fields_from tags u 0 all)

pub end_grows : (u : Bool) (from : ℕ) (ss : Shapes) → from ≤ end_of u from ss
end_grows u from no_member = omega arith
end_grows u from (also_member s ss) = let rest = end_grows u (past u from (extent_of s)) ss in omega (arith, rest)

pub neither : (a b : Option ℕ) → or_else a b ≡ None → (a ≡ None) × (b ≡ None)
neither None b h = (refl, h)
neither (Some k) b h = absurd (none-some k (sym h))

pub not_too_big : (size k : ℕ) → if_too_big size k ≡ None → size ≤ 2 ^ 31
not_too_big size k h = grind (arith, h)

-- the members of a struct or union that is not too big are not too big, and end within it
pub all_fit : (k : ℕ) (u : Bool) (ss : Shapes) (s : Shape) → s ≡ declared k u ss → first_too_big s ≡ None → (first_too_big_in ss ≡ None) × (end_of u 0 ss ≤ 2 ^ 31)
all_fit k u ss s e h =
    let parts = neither (first_too_big_in ss) (if_too_big (extent_of (declared k u ss)).size k) (sym (ap first_too_big e) ∙ h) in
    let small = not_too_big (round_up (align_of ss) (end_of u 0 ss)) k parts.1 in
    let over = round_up_over (align_of ss) (end_of u 0 ss) (align_positive ss) in
    (parts.0, omega (arith, small, over))

pub starts_making : (tags : List TagTree) (k : ℕ) (u : Bool) (all : List MemberTree) → shape_of tags (tag k) ≡ declared k u (shapes_of tags all) → first_too_big (shape_of tags (tag k)) ≡ None
    → Making tags u all all 0 []
starts_making tags k u all e h =
    let fit = all_fit k u (shapes_of tags all) (shape_of tags (tag k)) e h in
    record { ends = refl; fits = fit.0; within = fit.1; low = omega arith; fields = refl }

pub starts_seeking : (tags : List TagTree) (k : ℕ) (u : Bool) (all : List MemberTree) (name : ℕ) → shape_of tags (tag k) ≡ declared k u (shapes_of tags all) → first_too_big (shape_of tags (tag k)) ≡ None
    → Seeking tags u all all 0 name
starts_seeking tags k u all name e h =
    let fit = all_fit k u (shapes_of tags all) (shape_of tags (tag k)) e h in
    record { ends = refl; fits = fit.0; within = fit.1; low = omega arith; found = refl }

-- the next member stands and ends within the struct or union
pub past_within : (u : Bool) (from : ℕ) (e : Extent) (ss : Shapes) (last : ℕ) → end_of u (past u from e) ss ≡ last → last ≤ 2 ^ 31 → past u from e ≤ 2 ^ 31
past_within u from e ss last h w = let g = end_grows u (past u from e) ss in omega (arith, g, h, w)

pub place_within : (u : Bool) (from : ℕ) (e : Extent) → past u from e ≤ 2 ^ 31 → place u from e ≤ 2 ^ 31
place_within u from e w = omega (arith, w)

pub taken : (ms : List Member) (i : ℕ) (m : Member) → i < length ms → m ≡ get_or ms i m → map member_tree (drop i ms) ≡ member_tree m ∷ map member_tree (drop (i + 1) ms)
taken ms i m h e = ap (map member_tree) (drop-cons ms i m h ∙ ap (λ x. x ∷ drop (suc i) ms) (sym e) ∙ ap (λ j. m ∷ drop j ms) (suc-eq-add-one i))

pub not_same : (a b : ℕ) → a ≢ b → (a == b) ≡ false
not_same a b h = grind (arith, h)

-- what is sought is not the first field
pub passed_over : (name : ℕ) (f : FieldTree) (fs : List FieldTree) → f.name ≢ name → place_of name (f ∷ fs) ≡ place_of name fs
passed_over name f fs h = let e = not_same f.name name h in rw e refl

pub seeks_next : (tags : List TagTree) (u : Bool) (all : List MemberTree) (m : MemberTree) (rest : List MemberTree) (end name : ℕ) → m.name ≢ name → Seeking tags u all (m ∷ rest) end name
    → Seeking tags u all rest (past u end (extent_of (shape_of tags m.ctype))) name
seeks_next tags u all m rest end name other h = record {
  ends = h.ends;
  fits = (neither (first_too_big (shape_of tags m.ctype)) (first_too_big_in (shapes_of tags rest)) h.fits).1;
  within = h.within;
  low = past_within u end (extent_of (shape_of tags m.ctype)) (shapes_of tags rest) (end_of u 0 (shapes_of tags all)) h.ends h.within;
  found = sym (passed_over name (record { name = m.name; offset = place u end (extent_of (shape_of tags m.ctype)); ctype = m.ctype })
      (fields_from tags u (past u end (extent_of (shape_of tags m.ctype))) rest) other) ∙ h.found;
}

pub makes_next : (tags : List TagTree) (u : Bool) (all : List MemberTree) (m : MemberTree) (rest : List MemberTree) (end : ℕ) (made : List FieldTree) → Making tags u all (m ∷ rest) end made
    → Making tags u all rest (past u end (extent_of (shape_of tags m.ctype))) (made ++ record { name = m.name; offset = place u end (extent_of (shape_of tags m.ctype)); ctype = m.ctype } ∷ [])
makes_next tags u all m rest end made h = record {
  ends = h.ends;
  fits = (neither (first_too_big (shape_of tags m.ctype)) (first_too_big_in (shapes_of tags rest)) h.fits).1;
  within = h.within;
  low = past_within u end (extent_of (shape_of tags m.ctype)) (shapes_of tags rest) (end_of u 0 (shapes_of tags all)) h.ends h.within;
  fields = append_assoc made (record { name = m.name; offset = place u end (extent_of (shape_of tags m.ctype)); ctype = m.ctype } ∷ []) (fields_from tags u (past u end (extent_of (shape_of tags m.ctype))) rest) ∙ h.fields;
}

-- the same for a member of the code, with the extent that was computed
pub seeks_on : (tags : List TagTree) (u : Bool) (all : List MemberTree) (ms : List Member) (i : ℕ) (m : Member) (end end' name : ℕ) (e : Extent)
    → Seeking tags u all (map member_tree (drop i ms)) end name → i < length ms → m ≡ get_or ms i m → extent_of (shape_of tags (type_tree m.ctype)) ≡ e → end' ≡ past u end e → m.name ≢ name
    → Seeking tags u all (map member_tree (drop (i + 1) ms)) end' name
seeks_on tags u all ms i m end end' name e h l is x p other =
    let here = subst (λ rest. Seeking tags u all rest end name) (taken ms i m l is) h in
    let next = seeks_next tags u all (member_tree m) (map member_tree (drop (i + 1) ms)) end name other here in
    subst (λ n. Seeking tags u all (map member_tree (drop (i + 1) ms)) n name) (ap (past u end) x ∙ sym p) next

pub makes_on : (tags : List TagTree) (u : Bool) (all : List MemberTree) (ms : List Member) (i : ℕ) (m : Member) (end end' : ℕ) (e : Extent) (made made' : List FieldTree)
    → Making tags u all (map member_tree (drop i ms)) end made → i < length ms → m ≡ get_or ms i m → extent_of (shape_of tags (type_tree m.ctype)) ≡ e → end' ≡ past u end e
    → made' ≡ made ++ record { name = m.name; offset = place u end e; ctype = type_tree m.ctype } ∷ []
    → Making tags u all (map member_tree (drop (i + 1) ms)) end' made'
makes_on tags u all ms i m end end' e made made' h l is x p q =
    let here = subst (λ rest. Making tags u all rest end made) (taken ms i m l is) h in
    let next = makes_next tags u all (member_tree m) (map member_tree (drop (i + 1) ms)) end made here in
    let ended = subst (λ n. Making tags u all (map member_tree (drop (i + 1) ms)) n
    (made ++ record { name = m.name; offset = place u end (extent_of (shape_of tags (type_tree m.ctype))); ctype = type_tree m.ctype } ∷ [])) (ap (past u end) x ∙ sym p) next in
    subst (λ fs. Making tags u all (map member_tree (drop (i + 1) ms)) end' fs)
    (ap (λ y. made ++ record { name = m.name; offset = place u end y; ctype = type_tree m.ctype } ∷ []) x ∙ sym q) ended
