-- Regions that a user would recognise, and bytes that hold them, beside a C file with
-- `struct vec { unsigned long len; long *data; }; struct node { int key; struct node *next; };`
-- `union item { int number; void *pointer; }; struct message { int kind; union item item; };`
use Rattle.std.specs.Prelude.{◌≡◌, ℕ, ℤ, pos, negsuc, true, false, List, [], ◌∷◌, Some, None}
use Rattle.std.proofs.Common.{arith, refl, inl, inr, codes}
use Rattle.cx_base.specs.declared.span.Span.{Span}
use Rattle.cx_base.specs.Number.{half_of}
use Rattle.cx_ctree.specs.Types as c
use Rattle.cx_tsyn.specs.Words.{WordTree}
use Rattle.cx_tsyn.specs.Lins.{number, symbol, LinTree, RelationTree}
use Rattle.cx_tsyn.specs.declared.lin.SRel.TheVariants.{Eq}
use Rattle.cx_tsyn.specs.Cells.{SCellKindTree, any, any_bytes, val, ptr}
use Rattle.cx_tsyn.specs.Types.{STypeTree, stype, cell, tagged, cases, no_field, also_field, no_branch, also_branch}
use Rattle.cx_tsyn.specs.Items.{RegionItemTree}
use Rattle.cx_tmeasure.specs.Known.{Known}
use Rattle.cx_tmean.specs.Types.{Beside}
use Rattle.cx_tmean.specs.Sizes.{region_bytes}
use Rattle.cx_tmean.specs.Memories.{RegionHolds}

abbrev int : c.TypeTree
int = c.int (record { size = 4; signed = true; known = refl })

abbrev unsigned_long : c.TypeTree
unsigned_long = c.int (record { size = 8; signed = false; known = refl })

abbrev long : c.TypeTree
long = c.int (record { size = 8; signed = true; known = refl })

abbrev file : Known
file = record {
  names = codes "vec" ∷ codes "len" ∷ codes "data" ∷ codes "node" ∷ codes "key" ∷ codes "next" ∷ codes "item" ∷ codes "number" ∷ codes "pointer" ∷ codes "message" ∷ codes "kind" ∷ [];
  table = record { functions = []; objects = []; structs = (0, 0) ∷ (3, 1) ∷ (9, 3) ∷ []; unions = (6, 2) ∷ [] };
  tags =
      record { name = Some 0; union_ = false; rank = 1; members = Some (record { name = 1; ctype = unsigned_long } ∷ record { name = 2; ctype = c.pointer long } ∷ []) }
      ∷ record { name = Some 3; union_ = false; rank = 1; members = Some (record { name = 4; ctype = int } ∷ record { name = 5; ctype = c.pointer (c.tag 1) } ∷ []) }
      ∷ record { name = Some 6; union_ = true; rank = 1; members = Some (record { name = 7; ctype = int } ∷ record { name = 8; ctype = c.pointer c.void } ∷ []) }
      ∷ record { name = Some 9; union_ = false; rank = 2; members = Some (record { name = 10; ctype = int } ∷ record { name = 6; ctype = c.tag 2 } ∷ []) }
      ∷ [];
}

abbrev word : Span → List ℕ → WordTree
word s text = record { span = s; text = text }

abbrev n : Span → LinTree
n s = record { span = s; negative = false; first = symbol (word s (codes "n")); rest = [] }

abbrev plain : Span → SCellKindTree → STypeTree
plain s k = stype s [] (cell (record { span = s; kind = k })) None []

abbrev region : Span → List ℕ → List WordTree → STypeTree → RegionItemTree
region s name params body = record { span = s; shared = false; name = word s name; params = params; body = body }

-- larr(n) = any8[n]
abbrev larr : Span → RegionItemTree
larr s = region s (codes "larr") (word s (codes "n") ∷ []) (stype s [] (cell (record { span = s; kind = any_bytes 8 })) (Some (n s)) [])

-- vec = some n of struct vec { len: val n; data: ptr larr(n); }
abbrev vec : Span → RegionItemTree
vec s =
    region s (codes "vec") []
    (stype s (word s (codes "n") ∷ [])
    (tagged false (word s (codes "vec")) (also_field (word s (codes "len")) (plain s (val (n s))) (also_field (word s (codes "data")) (plain s (ptr (word s (codes "larr")) (n s ∷ []) None false)) no_field))) None [])

-- node = struct node { key: any; next: ptr node null; }
abbrev node : Span → RegionItemTree
node s =
    region s (codes "node") []
    (stype s [] (tagged false (word s (codes "node")) (also_field (word s (codes "key")) (plain s any) (also_field (word s (codes "next")) (plain s (ptr (word s (codes "node")) [] None true)) no_field))) None [])

abbrev is_number : Span → ℤ → RelationTree
is_number s z = record { left = n s; rel = Eq; right = record { span = s; negative = false; first = number z; rest = [] } }

-- message = some n of struct message { kind: val n; item: cases { when n == 0: union item { number: any; }; when n == 1: union item { pointer: ptr node; }; }; }
abbrev message : Span → RegionItemTree
message s =
    region s (codes "message") []
    (stype s (word s (codes "n") ∷ [])
    (tagged false (word s (codes "message")) (also_field (word s (codes "kind")) (plain s (val (n s)))
    (also_field (word s (codes "item")) (stype s [] (cases
    (also_branch (is_number s (pos 0) ∷ []) (stype s [] (tagged true (word s (codes "item")) (also_field (word s (codes "number")) (plain s any) no_field)) None [])
    (also_branch (is_number s (pos 1) ∷ []) (stype s [] (tagged true (word s (codes "item")) (also_field (word s (codes "pointer")) (plain s (ptr (word s (codes "node")) [] None false)) no_field)) None [])
    no_branch))) None []) no_field))) None [])

-- an array of three longs at 4096, and a node at 8192
abbrev beside : Beside
beside = record {
  known = file;
  names = codes "larr" ∷ codes "vec" ∷ codes "node" ∷ codes "message" ∷ [];
  layout = record { base = 4096; name = 0; args = pos 3 ∷ []; size = 24 } ∷ record { base = 8192; name = 2; args = []; size = 16 } ∷ [];
}

-- ---- a vector with its length

vector : (s : Span) → RegionHolds beside (vec s) [] (3 ∷ 0 ∷ 0 ∷ 0 ∷ 0 ∷ 0 ∷ 0 ∷ 0 ∷ 0 ∷ 16 ∷ 0 ∷ 0 ∷ 0 ∷ 0 ∷ 0 ∷ 0 ∷ [])
unfolding half_of
vector s = record {
  given = refl;
  body = (
    pos 3 ∷ [],
    refl,
    (
      refl,
      (
        ([], refl, (refl, refl), tt),
        (
          ([], refl, (refl, inr (0, record { base = 4096; name = 0; args = pos 3 ∷ []; size = 24 }, omega arith, refl, record { named = refl; given = refl; based = refl })), tt),
          tt,
        ),
      ),
    ),
    tt,
  );
}

-- ---- a node of a list, whose padding is any bytes

last_node : (s : Span) (a b d e : ℕ) → RegionHolds beside (node s) [] (7 ∷ 0 ∷ 0 ∷ 0 ∷ a ∷ b ∷ d ∷ e ∷ 0 ∷ 0 ∷ 0 ∷ 0 ∷ 0 ∷ 0 ∷ 0 ∷ 0 ∷ [])
unfolding half_of
last_node s a b d e = record {
  given = refl;
  body = ([], refl, (refl, (([], refl, refl, tt), (([], refl, (refl, inl (refl, refl)), tt), tt))), tt);
}

-- ---- a tagged union, in both cases

numbered : (s : Span) (a b d e : ℕ) → RegionHolds beside (message s) [] (0 ∷ 0 ∷ 0 ∷ 0 ∷ 0 ∷ 0 ∷ 0 ∷ 0 ∷ 5 ∷ 0 ∷ 0 ∷ 0 ∷ a ∷ b ∷ d ∷ e ∷ [])
unfolding half_of
numbered s a b d e = record {
  given = refl;
  body = (
    pos 0 ∷ [],
    refl,
    (
      refl,
      (
        ([], refl, (refl, refl), tt),
        (
          ([], refl, inl ((refl, tt), ([], refl, (refl, (([], refl, refl, tt), tt)), tt)), tt),
          tt,
        ),
      ),
    ),
    tt,
  );
}

pointing : (s : Span) → RegionHolds beside (message s) [] (1 ∷ 0 ∷ 0 ∷ 0 ∷ 0 ∷ 0 ∷ 0 ∷ 0 ∷ 0 ∷ 32 ∷ 0 ∷ 0 ∷ 0 ∷ 0 ∷ 0 ∷ 0 ∷ [])
unfolding half_of
pointing s = record {
  given = refl;
  body = (
    pos 1 ∷ [],
    refl,
    (
      refl,
      (
        ([], refl, (refl, refl), tt),
        (
          ([], refl, inr (inl ((refl, tt), ([], refl, (refl, (([], refl, (refl, inr (1, record { base = 8192; name = 2; args = []; size = 16 }, omega arith, refl, record { named = refl; given = refl; based = refl })), tt), tt)), tt))), tt),
          tt,
        ),
      ),
    ),
    tt,
  );
}

-- ---- an array of symbolic length

two_longs : (s : Span) → RegionHolds beside (larr s) (pos 2 ∷ []) (1 ∷ 0 ∷ 0 ∷ 0 ∷ 0 ∷ 0 ∷ 0 ∷ 0 ∷ 2 ∷ 0 ∷ 0 ∷ 0 ∷ 0 ∷ 0 ∷ 0 ∷ 0 ∷ [])
two_longs s = record {
  given = refl;
  body = ([], refl, ((1 ∷ 0 ∷ 0 ∷ 0 ∷ 0 ∷ 0 ∷ 0 ∷ 0 ∷ []) ∷ (2 ∷ 0 ∷ 0 ∷ 0 ∷ 0 ∷ 0 ∷ 0 ∷ 0 ∷ []) ∷ [], refl, refl, (refl, (refl, tt))), tt);
}

three_longs : (s : Span) → region_bytes file (larr s) (pos 3 ∷ []) ≡ Some 24
three_longs s = refl

none_below : (s : Span) → region_bytes file (larr s) (negsuc 0 ∷ []) ≡ None
none_below s = refl
