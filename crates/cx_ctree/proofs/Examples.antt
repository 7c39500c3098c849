-- The definitions of layouts on types whose layouts a C compiler gave.
use Rattle.std.proofs.Common.{◌≡◌, refl, ℕ, ◌^◌, List, [], ◌∷◌, Some, None, true, false, map}
use Rattle.cx_base.specs.declared.number.CInt.{CInt}
use Rattle.cx_ctree.specs.Types.{TypeTree, void, int, pointer, array, tag}
use Rattle.cx_ctree.specs.Decls.{MemberTree, TagTree}
use Rattle.cx_ctree.specs.Conversions.{signed_int, signed_long, unsigned_int, common}
use Rattle.cx_ctree.specs.Layouts.{extent_in, shape_of, first_incomplete, first_too_big, FieldTree, fields_of, size_of, offset_of}

abbrev char : CInt
char = record { size = 1; signed = true; known = refl }

abbrev short : CInt
short = record { size = 2; signed = true; known = refl }

abbrev member : ℕ → TypeTree → MemberTree
member n t = record { name = n; ctype = t }

abbrev struct : ℕ → List MemberTree → TagTree
struct r ms = record { name = None; union_ = false; rank = r; members = Some ms }

abbrev union : ℕ → List MemberTree → TagTree
union r ms = record { name = None; union_ = true; rank = r; members = Some ms }

abbrev offsets : List FieldTree → List ℕ
offsets fs = map (λ f. f.offset) fs

-- struct { char a; long b; short c; }; union { char a[5]; short b; }; struct { char a; the first b[2]; the second c; }; a tag without members
abbrev tags : List TagTree
tags =
    struct 1 (member 0 (int char) ∷ member 1 (int signed_long) ∷ member 2 (int short) ∷ [])
    ∷ union 2 (member 0 (array (int char) 5) ∷ member 1 (int short) ∷ [])
    ∷ struct 3 (member 0 (int char) ∷ member 1 (array (tag 0) 2) ∷ member 2 (tag 1) ∷ [])
    ∷ record { name = None; union_ = false; rank = 0; members = None }
    ∷ struct 4 (member 0 (pointer (tag 4)) ∷ member 1 (array (int char) 2147483640) ∷ [])
    ∷ struct 5 (member 0 (tag 4) ∷ member 1 (array (array (int signed_long) 2147483648) 2) ∷ member 2 (int char) ∷ [])
    ∷ []

first_extent : extent_in tags (tag 0) ≡ record { size = 24; align = 8 }
first_extent = refl

first_offsets : offsets (fields_of tags (tag 0)) ≡ 0 ∷ 8 ∷ 16 ∷ []
first_offsets = refl

second_extent : extent_in tags (tag 1) ≡ record { size = 6; align = 2 }
second_extent = refl

second_offsets : offsets (fields_of tags (tag 1)) ≡ 0 ∷ 0 ∷ []
second_offsets = refl

third_extent : extent_in tags (tag 2) ≡ record { size = 64; align = 8 }
third_extent = refl

third_offsets : offsets (fields_of tags (tag 2)) ≡ 0 ∷ 8 ∷ 56 ∷ []
third_offsets = refl

third_member : offset_of tags 2 2 ≡ Some 56
third_member = refl

no_such_member : offset_of tags 2 3 ≡ None
no_such_member = refl

undeclared_tag : first_incomplete (shape_of tags (array (tag 3) 2)) ≡ Some 3
undeclared_tag = refl

of_void : first_incomplete (shape_of tags (array void 2)) ≡ Some 0
of_void = refl

greatest_size : size_of tags (tag 4) ≡ Some (2 ^ 31)
greatest_size = refl

part_before_whole : first_too_big (shape_of tags (tag 5)) ≡ Some 0
part_before_whole = refl

whole_too_big : first_too_big (shape_of tags (array (tag 4) 2)) ≡ Some 0
whole_too_big = refl

unsigned_wins : common unsigned_int signed_int ≡ unsigned_int
unsigned_wins = refl

wider_wins : common unsigned_int signed_long ≡ signed_long
wider_wins = refl

narrow_is_promoted : common char short ≡ signed_int
narrow_is_promoted = refl
