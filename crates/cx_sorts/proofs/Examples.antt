-- The definitions on a small file:
--     struct vec { unsigned long len; struct vec *next; };
--     unsigned long step(struct vec *p, struct vec *q, unsigned long x) {
--       q = p->next;
--       p->len = x;
--       x = q->len;
--       return x;
--     }
-- with the types
--     region vec = struct vec { len: any8; next: ptr vec; };
--     fn step(ptr vec, any, any) -> any;
use Rattle.std.specs.List.{list_all}
use Rattle.std.proofs.lemmas.Bool.Decides.{nat_tests}
use Rattle.cx_base.specs.Bytes.{AreBytes}
use Rattle.std.proofs.lemmas.List.Elements.{All-nil, All-cons}
use Rattle.cx_base.specs.Memory.{InRange, IsArgument}
use Rattle.std.proofs.Common.{◌<◌, nat_lt, true, lit<, arith, ◌≡◌, ℕ, ◌≤◌, List, [], ◌∷◌, map, Option, Some, None, codes, refl, option_map, lit≤}
use Rattle.cx_base.specs.declared.memory.Region.{Region}
use Rattle.cx_form.specs.declared.tree.Word.{Word}
use Rattle.cx_form.specs.declared.tree.Struct.{Struct}
use Rattle.cx_form.specs.declared.tree.ValueType.TheVariants as ctype
use Rattle.cx_form.specs.declared.tree.Statement.{Statement}
use Rattle.cx_form.specs.declared.tree.Statement.TheVariants.{Load, Store}
use Rattle.cx_form.specs.declared.tree.Function.{Function}
use Rattle.cx_form.specs.declared.tree.CFile.{CFile}
use Rattle.cx_form.specs.declared.tree.Argument.TheVariants as argument
use Rattle.cx_form.specs.declared.tree.Cell.{Cell}
use Rattle.cx_form.specs.declared.tree.RegionType.{RegionType}
use Rattle.cx_form.specs.declared.tree.FunctionType.{FunctionType}
use Rattle.cx_form.specs.declared.tree.TypeFile.{TypeFile}
use Rattle.cx_sorts.specs.Layout.{offset_of, struct_size}
use Rattle.cx_sorts.specs.TypedMemory.{number_at, extent, HoldsCell, HoldsType, Typed}
use Rattle.cx_sorts.specs.Meaning.{End, Fault, Return, run_of, with_number}
use Rattle.cx_sorts.specs.declared.verdict.Access.{Access}
use Rattle.cx_sorts.specs.Safe.{Safe}
use Rattle.cx_sorts.specs.Rules.{verdict_of}

-- a word, with its first byte in the file and the first past it
abbrev at : (first past : ℕ) → first ≤ past → List ℕ → Word
at first past ordered text = record { span = record { first = first; past = past; ordered = ordered }; text = text }

-- a word of the type file, which no span is taken of
abbrev word : List ℕ → Word
word text = at 0 0 (lit≤ tt) text

abbrev vec : Struct
vec = record {
  name = at 7 10 (lit≤ tt) (codes "vec");
  members =
      record { ctype = ctype.UnsignedLong; name = at 27 30 (lit≤ tt) (codes "len") }
      ∷ record { ctype = ctype.Pointer (at 39 42 (lit≤ tt) (codes "vec")); name = at 44 48 (lit≤ tt) (codes "next") }
      ∷ [];
}

abbrev load_next : Statement
load_next = Load (at 123 124 (lit≤ tt) (codes "q")) (at 127 128 (lit≤ tt) (codes "p")) (at 130 134 (lit≤ tt) (codes "next"))

abbrev store_len : Statement
store_len = Store (at 138 139 (lit≤ tt) (codes "p")) (at 141 144 (lit≤ tt) (codes "len")) (at 147 148 (lit≤ tt) (codes "x"))

abbrev load_len : Statement
load_len = Load (at 152 153 (lit≤ tt) (codes "x")) (at 156 157 (lit≤ tt) (codes "q")) (at 159 162 (lit≤ tt) (codes "len"))

abbrev step : List Statement → Function
step body = record {
  result = Some ctype.UnsignedLong;
  name = at 67 71 (lit≤ tt) (codes "step");
  parameters =
      record { ctype = ctype.Pointer (at 79 82 (lit≤ tt) (codes "vec")); name = at 84 85 (lit≤ tt) (codes "p") }
      ∷ record { ctype = ctype.Pointer (at 94 97 (lit≤ tt) (codes "vec")); name = at 99 100 (lit≤ tt) (codes "q") }
      ∷ record { ctype = ctype.UnsignedLong; name = at 116 117 (lit≤ tt) (codes "x") }
      ∷ [];
  body = body;
  ending = Some (record { span = record { first = 166; past = 175; ordered = lit≤ tt }; value = Some (at 173 174 (lit≤ tt) (codes "x")) });
}

abbrev file : List Statement → CFile
file body = record { structs = vec ∷ []; function = Some (step body) }

abbrev step_type : FunctionType
step_type = record { name = word (codes "step"); arguments = argument.Pointer (word (codes "vec")) ∷ argument.Any ∷ argument.Any ∷ []; result = Some argument.Any }

abbrev len_cell : Cell
len_cell = record { member = word (codes "len"); holds = argument.Any }

abbrev next_cell : Cell
next_cell = record { member = word (codes "next"); holds = argument.Pointer (word (codes "vec")) }

abbrev vec_type : RegionType
vec_type = record { name = word (codes "vec"); tag = word (codes "vec"); cells = len_cell ∷ next_cell ∷ [] }

abbrev types : TypeFile
types = record { regions = vec_type ∷ []; function = Some step_type }

-- first byte, first byte past, and place of the region type
abbrev lines : List Statement → List (ℕ × ℕ × ℕ)
lines body = map (λ a. (a.span.first, a.span.past, a.name)) (verdict_of (file body) types (step body) step_type).accesses

abbrev alarm : List Statement → Option (ℕ × ℕ × ℕ)
alarm body = option_map (λ a. (a.number, a.span.first, a.span.past)) (verdict_of (file body) types (step body) step_type).alarm

offset_len : offset_of vec (word (codes "len")) ≡ Some 0
offset_len = refl

offset_next : offset_of vec (word (codes "next")) ≡ Some 8
offset_next = refl

offset_none : offset_of vec (word (codes "size")) ≡ None
offset_none = refl

size : struct_size vec ≡ 16
size = refl

-- all three lines are accepted
accepted : alarm (load_next ∷ store_len ∷ load_len ∷ []) ≡ None
accepted = refl

accesses : lines (load_next ∷ store_len ∷ load_len ∷ []) ≡ (127, 134, 0) ∷ (138, 144, 0) ∷ (156, 162, 0) ∷ []
accesses = refl

-- without the first line nothing is known of q
unknown_pointer : alarm (store_len ∷ load_len ∷ []) ≡ Some (2, 156, 162)
unknown_pointer = refl

accesses_before : lines (store_len ∷ load_len ∷ []) ≡ (138, 144, 0) ∷ []
accesses_before = refl

-- a region at 4096 with len 5, whose next is the region itself
abbrev loop : Region
loop = record { base = 4096; name = 0; args = []; bytes = 5 ∷ 0 ∷ 0 ∷ 0 ∷ 0 ∷ 0 ∷ 0 ∷ 0 ∷ 0 ∷ 16 ∷ 0 ∷ 0 ∷ 0 ∷ 0 ∷ 0 ∷ 0 ∷ [] }

-- the same with len 258
abbrev loop_after : Region
loop_after = record { base = 4096; name = 0; args = []; bytes = 2 ∷ 1 ∷ 0 ∷ 0 ∷ 0 ∷ 0 ∷ 0 ∷ 0 ∷ 0 ∷ 16 ∷ 0 ∷ 0 ∷ 0 ∷ 0 ∷ 0 ∷ 0 ∷ [] }

-- a load gives x the number 5
loads : (run_of (file (load_len ∷ [])) (step (load_len ∷ [])) (4096 ∷ 4096 ∷ 7 ∷ []) (loop ∷ [])).end ≡ Return (Some 5) (loop ∷ [])
unfolding number_at
loads = refl

-- a store writes the bytes of 258
stores : (run_of (file (store_len ∷ [])) (step (store_len ∷ [])) (4096 ∷ 0 ∷ 258 ∷ []) (loop ∷ [])).end ≡ Return (Some 258) (loop_after ∷ [])
unfolding with_number
stores = refl

-- all three lines: x is stored, and read back through q, which is p here
all_three :
    (run_of (file (load_next ∷ store_len ∷ load_len ∷ [])) (step (load_next ∷ store_len ∷ load_len ∷ [])) (4096 ∷ 1 ∷ 258 ∷ []) (loop ∷ [])).end
    ≡ Return (Some 258) (loop_after ∷ [])
unfolding number_at with_number
all_three = refl

-- the first byte of a fault, and the first past it
abbrev fault_of : End → Option (ℕ × ℕ)
fault_of (Fault span) = Some (span.first, span.past)
fault_of (Return v memory) = None

-- a member past the region's last byte is a fault
faults : fault_of (run_of (file (load_len ∷ [])) (step (load_len ∷ [])) (4096 ∷ 4105 ∷ 7 ∷ []) (loop ∷ [])).end ≡ Some (156, 162)
faults = refl

small_bytes : (bs : List ℕ) → list_all (λ b. nat_lt b 256) bs ≡ true → AreBytes bs
small_bytes [] e = All-nil (λ b. b < 256)
small_bytes (b ∷ bs) e = All-cons (λ b. b < 256) b bs (grind (arith, nat_tests)) (small_bytes bs (grind (arith, nat_tests)))

-- this memory is typed: its one region holds its type, and its next is its own base
is_loop_typed : (body : List Statement) → Typed (file body) types (loop ∷ [])
unfolding number_at
is_loop_typed body = record {
  valid = record {
    ranges = All-cons InRange loop [] (record { low = lit≤ tt; high = lit≤ tt; args = All-nil IsArgument }) (All-nil InRange);
    apart = λ i j d less few. absurd (omega arith);
    few = lit< tt;
  };
  holds =
      let Held : Region → Type 0 = HoldsType (file body) types (extent loop ∷ []) in
      All-cons Held loop []
      (record {
        type = vec_type;
        known = refl;
        struct = vec;
        tagged = refl;
        args = refl;
        size = refl;
        bytes = small_bytes loop.bytes refl;
        cells =
            let HoldsOf : Cell → Type 0 = HoldsCell types (extent loop ∷ []) vec loop.bytes in
            All-cons HoldsOf len_cell (next_cell ∷ [])
            (record { offset = 0; of_member = refl; holds = tt })
            (All-cons HoldsOf next_cell []
            (record { offset = 8; of_member = refl; holds = record { region = extent loop; there = (0, lit< tt, refl); base = refl; named = refl } })
            (All-nil HoldsOf));
      })
      (All-nil Held);
}

-- the arguments p = 4096, q = 0 and x = 7 are of their types, and with them the load through q is a fault: the body without
-- the first line is not safe, whatever table it has
is_unsafe : (table : List Access) → Safe (file (store_len ∷ load_len ∷ [])) types (step (store_len ∷ load_len ∷ [])) step_type table → ⊥
is_unsafe table safe =
    (safe (loop ∷ []) (4096 ∷ 0 ∷ 7 ∷ []) (is_loop_typed (store_len ∷ load_len ∷ []))
    (record {
      in_type = (lit< tt, (lit< tt, (lit< tt, tt)));
      hold = (record { region = extent loop; there = (0, lit< tt, refl); base = refl; named = refl }, (tt, (tt, tt)));
    })).1
