-- Layout of structs by the System V AMD64 ABI (3.1.2) and C11 6.7.2.1 (paragraphs 15 to 17): members stand in order, each
-- at the next multiple of its alignment, and the size is a multiple of the greatest alignment.
use Rattle.std.specs.Prelude.{ℕ, ◌+◌, max, List, [], ◌∷◌, Option, Some, None, nat_eq, if◌then◌else◌}
use Rattle.std.specs.Int.{next_multiple_of}
use Rattle.cx_form.specs.declared.tree.Word.{Word}
use Rattle.cx_form.specs.declared.tree.Member.{Member}
use Rattle.cx_form.specs.declared.tree.Struct.{Struct}
use Rattle.cx_form.specs.declared.tree.ValueType.{ValueType}
use Rattle.cx_form.specs.declared.tree.ValueType.TheVariants.{UnsignedLong, Pointer}
use Rattle.cx_sorts.specs.Names.{same_name}

-- how many bytes an object of this type has
abbrev pub size_of : ValueType → ℕ
size_of UnsignedLong = 8
size_of (Pointer tag) = 8

-- the number that the addresses of its objects are multiples of
abbrev pub alignment_of : ValueType → ℕ
alignment_of UnsignedLong = 8
alignment_of (Pointer tag) = 8

-- the offset of a member before which the struct has `past` bytes
abbrev pub begins : ℕ → Member → ℕ
begins past m = next_multiple_of past (alignment_of m.ctype)

-- the first offset past that member
abbrev pub ends : ℕ → Member → ℕ
ends past m = begins past m + size_of m.ctype

-- the offset of the member of this name among members before which the struct has `past` bytes
abbrev pub offset_from : ℕ → List Member → Word → Option ℕ
offset_from past [] name = None
offset_from past (m ∷ ms) name = if same_name m.name name then Some (begins past m) else offset_from (ends past m) ms name

-- the offset of the member of this name, in bytes from the struct's first
abbrev pub offset_of : Struct → Word → Option ℕ
offset_of s name = offset_from 0 s.members name

-- the member that begins at this offset, among members before which the struct has `past` bytes
abbrev pub member_from : ℕ → List Member → ℕ → Option Member
member_from past [] offset = None
member_from past (m ∷ ms) offset = if nat_eq (begins past m) offset then Some m else member_from (ends past m) ms offset

-- the first offset past all these members
abbrev pub end_from : ℕ → List Member → ℕ
end_from past [] = past
end_from past (m ∷ ms) = end_from (ends past m) ms

-- the greatest alignment of the members
abbrev pub greatest_alignment : List Member → ℕ
greatest_alignment [] = 1
greatest_alignment (m ∷ ms) = max (alignment_of m.ctype) (greatest_alignment ms)

-- how many bytes a struct has
abbrev pub struct_size : Struct → ℕ
struct_size s = next_multiple_of (end_from 0 s.members) (greatest_alignment s.members)
