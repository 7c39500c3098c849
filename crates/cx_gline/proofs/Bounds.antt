-- Sizes, places of members and converted numbers are small.
use Rattle.std.proofs.Common.{ℕ, zero, suc, ℤ, pos, negsuc, ◌≡◌, ◌*◌, ◌^◌, ◌≤◌, ◌==◌, ◌-ℤ◌, ◌≤ℤ◌, ◌<ℤ◌, Bool, true, false, List, [], ◌∷◌, Option, Some, None, option_map, refl, arith}
use Rattle.std.proofs.lemmas.Int.{ints}
use Rattle.std.specs.Prelude.{slice_get, find, if◌then◌else◌}
use Rattle.cx_abi.specs.Recursion.{IsByMembers}
use Rattle.cx_abi.proofs.Places.{neither, not_too_big, all_fit, past_within, place_within}
use Rattle.cx_base.proofs.Sizes.{at_sizes}
use Rattle.cx_base.proofs.Wrapping.{wrapped-InRange}
use Rattle.cx_base.specs.Number.{HasSize, InRange, half_of}
use Rattle.cx_base.specs.declared.number.CInt.{CInt}
use Rattle.cx_cconst.specs.Constants.{converted}
use Rattle.cx_cmean.specs.Program.{or_zero, size_in, unit_in, offset_in}
use Rattle.cx_ctree.specs.Decls.{MemberTree, TagTree}
use Rattle.cx_ctree.specs.Layouts.{Shape, declared, found_by, members_by, tag_shape, shape_of, shapes_by, shapes_of, extent_of, extent_in, end_of, place, past, first_incomplete, first_too_big, first_too_big_in, unless, FieldTree, fields_from, fields_of, tag_fields, members_fields}
use Rattle.cx_ctree.specs.Tags.{rank_of}
use Rattle.cx_ctree.specs.Types.{TypeTree, void, int, pointer, array, tag}
use Rattle.cx_gline.specs.Lines.{IsSmall}
use Rattle.cx_sname.specs.File.{Declared}

-- ---- sizes

-- a scalar has at most 8 bytes
scalar_few : (n : ℕ) → HasSize n → n ≤ 2 ^ 31
scalar_few n h = at_sizes (λ s. s ≤ 2 ^ 31) (omega arith) (omega arith) (omega arith) (omega arith) n h

found_few : (f : ℕ → Shape) (k : ℕ) (o : Option TagTree) → first_too_big (found_by f k o) ≡ None → (extent_of (found_by f k o)).size ≤ 2 ^ 31
found_few f k None h = omega arith
found_few f k (Some t) h = members_few t.union_ t.members h
  where
    members_few : (u : Bool) (ms : Option (List MemberTree)) → first_too_big (members_by f k u ms) ≡ None → (extent_of (members_by f k u ms)).size ≤ 2 ^ 31
    members_few u None h = omega arith
    members_few u (Some ms) h = not_too_big (extent_of (declared k u (shapes_by f ms))).size k (neither (first_too_big_in (shapes_by f ms)) _ h).1

tag_few : (tags : List TagTree) (n k : ℕ) → first_too_big (tag_shape tags n k) ≡ None → (extent_of (tag_shape tags n k)).size ≤ 2 ^ 31
tag_few tags zero k h = omega arith
tag_few tags (suc n) k h = found_few (tag_shape tags n) k (slice_get tags k) h

type_few : (tags : List TagTree) (t : TypeTree) → first_too_big (shape_of tags t) ≡ None → (extent_in tags t).size ≤ 2 ^ 31
type_few tags void h = omega arith
type_few tags (int t) h = scalar_few t.size t.known
type_few tags (pointer t) h = omega arith
type_few tags (array t n) h = not_too_big (extent_of (shape_of tags (array t n))).size 0 (neither (first_too_big (shape_of tags t)) _ h).1
type_few tags (tag k) h = tag_few tags (rank_of tags k) k h

laid_out : (a b : Option ℕ) (n : ℕ) → (b ≡ None → n ≤ 2 ^ 31) → or_zero (unless a (unless b (Some n))) ≤ 2 ^ 31
laid_out None None n h = h refl
laid_out None (Some k) n h = omega arith
laid_out (Some k) b n h = omega arith

pub size_few : (d : Declared) (t : TypeTree) → size_in d t ≤ 2 ^ 31
size_few d t = laid_out (first_incomplete (shape_of d.known.tags t)) (first_too_big (shape_of d.known.tags t)) (extent_in d.known.tags t).size (type_few d.known.tags t)

pub unit_few : (d : Declared) (t : TypeTree) → unit_in d t ≤ 2 ^ 31
unit_few d void = omega arith
unit_few d (int t) = size_few d (int t)
unit_few d (pointer t) = size_few d (pointer t)
unit_few d (array t n) = size_few d (array t n)
unit_few d (tag k) = size_few d (tag k)

-- ---- places of members

abbrev placed_at : ℕ → List FieldTree → Option ℕ
placed_at name fs = option_map (λ f. f.offset) (find (λ f. f.name == name) fs)

field_by : (z : Bool) (a : FieldTree) (o : Option FieldTree) → a.offset ≤ 2 ^ 31 → or_zero (option_map (λ f. f.offset) o) ≤ 2 ^ 31 → or_zero (option_map (λ f. f.offset) (if z then Some a else o)) ≤ 2 ^ 31
field_by true a o h k = h
field_by false a o h k = k

field_few : (tags : List TagTree) (u : Bool) (name from : ℕ) (ms : List MemberTree) (last : ℕ) → end_of u from (shapes_of tags ms) ≡ last → last ≤ 2 ^ 31 → or_zero (placed_at name (fields_from tags u from ms)) ≤ 2 ^ 31
field_few tags u name from [] last e few = omega arith
field_few tags u name from (m ∷ ms) last e few =
    let x = extent_in tags m.ctype in
    field_by (m.name == name) (record { name = m.name; offset = place u from x; ctype = m.ctype }) (find (λ f. f.name == name) (fields_from tags u (past u from x) ms))
    (place_within u from x (past_within u from x (shapes_of tags ms) last e few)) (field_few tags u name (past u from x) ms last e few)

members_placed : (tags : List TagTree) (name k : ℕ) (u : Bool) (ms : Option (List MemberTree)) (s : Shape) → s ≡ members_by (λ j. shape_of tags (tag j)) k u ms → first_too_big s ≡ None → or_zero (placed_at name (members_fields tags u ms)) ≤ 2 ^ 31
members_placed tags name k u None s e h = omega arith
members_placed tags name k u (Some ms) s e h = field_few tags u name 0 ms _ refl (all_fit k u (shapes_of tags ms) s e h).1

found_placed : (tags : List TagTree) (name k : ℕ) (o : Option TagTree) (s : Shape) → s ≡ found_by (λ j. shape_of tags (tag j)) k o → first_too_big s ≡ None → or_zero (placed_at name (tag_fields tags o)) ≤ 2 ^ 31
found_placed tags name k None s e h = omega arith
found_placed tags name k (Some t) s e h = members_placed tags name k t.union_ t.members s e h

or_placed : (a b p : Option ℕ) → (b ≡ None → or_zero p ≤ 2 ^ 31) → or_zero (unless a (unless b p)) ≤ 2 ^ 31
or_placed None None p h = h refl
or_placed None (Some k) p h = omega arith
or_placed (Some k) b p h = omega arith

pub offset_few : (d : Declared) → IsByMembers d.known.tags → (t : TypeTree) (name : ℕ) → offset_in d t name ≤ 2 ^ 31
offset_few d by (tag k) name =
    let tags = d.known.tags in
    or_placed (first_incomplete (shape_of tags (tag k))) (first_too_big (shape_of tags (tag k))) (placed_at name (fields_of tags (tag k))) (found_placed tags name k (slice_get tags k) (shape_of tags (tag k)) (by k))
offset_few d by void name = omega arith
offset_few d by (int t) name = omega arith
offset_few d by (pointer t) name = omega arith
offset_few d by (array t n) name = omega arith

-- ---- numbers

pub few_small : (n : ℕ) → n ≤ 2 ^ 31 → IsSmall (pos n)
few_small n h = omega (arith, h)

-- half of the numbers of a type
half_few : (n : ℕ) → HasSize n → half_of n ≤ 2 ^ 63
unfolding half_of
half_few n h = at_sizes (λ s. half_of s ≤ 2 ^ 63) (omega arith) (omega arith) (omega arith) (omega arith) n h

within : (v : ℤ) (half : ℕ) → half ≤ 2 ^ 63 → (pos 0 -ℤ pos half) ≤ℤ v → v <ℤ pos (2 * half) → IsSmall v
within (pos n) half few low high = omega (arith, ints, few, high)
within (negsuc n) half few low high = omega (arith, ints, few, low)

pub in_range : (size : ℕ) (signed : Bool) (v : ℤ) → HasSize size → InRange size signed v → IsSmall v
in_range size true v h r = let few = half_few size h in let low = r.0 in let high = r.1 in within v (half_of size) few low (omega (arith, ints, high))
in_range size false v h r = let few = half_few size h in let low = r.0 in within v (half_of size) few (omega (arith, ints, low)) r.1

pub converted_small : (t : CInt) (v : ℤ) → IsSmall (converted t v)
converted_small t v = in_range t.size t.signed (converted t v) t.known (wrapped-InRange t.size t.signed v t.known)
