-- Types beside a C file with `struct s { void *c; void *i; };`, and what of their sizes is wrong.
use Rattle.std.proofs.Common.{◌≡◌, refl, ℕ, List, [], ◌∷◌, Some, None, false, codes}
use Rattle.std.specs.Prelude.{ℤ, pos, negsuc}
use Rattle.cx_base.specs.declared.span.Span.{Span}
use Rattle.cx_ctree.specs.Types as c
use Rattle.cx_tsyn.specs.Words.{WordTree}
use Rattle.cx_tsyn.specs.Lins.{number}
use Rattle.cx_tsyn.specs.Cells.{any, any_bytes}
use Rattle.cx_tsyn.specs.Types.{STypeTree, stype, cell, product, tagged, no_type, also_type, no_field, also_field}
use Rattle.cx_tmeasure.specs.Known.{Known}
use Rattle.cx_tmeasure.specs.BadTypes.{bad_in_type}

abbrev one_struct : Known
one_struct = record {
  names = codes "s" ∷ codes "c" ∷ codes "i" ∷ [];
  table = record { functions = []; objects = []; structs = (0, 0) ∷ []; unions = [] };
  tags = record {
    name = Some 0;
    union_ = false;
    rank = 1;
    members = Some (record { name = 1; ctype = c.pointer c.void } ∷ record { name = 2; ctype = c.pointer c.void } ∷ []);
  } ∷ [];
}

abbrev word : Span → List ℕ → WordTree
word s text = record { span = s; text = text }

abbrev bytes : Span → ℕ → STypeTree
bytes s n = stype s [] (cell (record { span = s; kind = any_bytes n })) None []

-- { any8; any4; } as struct s
too_short : (s t : Span) → bad_in_type one_struct None (stype s [] (product (also_type (bytes s 8) (also_type (bytes s 4) no_type)) (Some (record { span = t; union_ = false; tag = word s (codes "s") }))) None []) ≡ t ∷ []
too_short s t = refl

-- { any8; any3; any5; } as struct s
just_right : (s t : Span) → bad_in_type one_struct None (stype s [] (product (also_type (bytes s 8) (also_type (bytes s 3) (also_type (bytes s 5) no_type))) (Some (record { span = t; union_ = false; tag = word s (codes "s") }))) None []) ≡ []
just_right s t = refl

-- struct s { c: any; i: any2; }
short_field : (s t : Span)
    → bad_in_type one_struct None (stype s [] (tagged false (word s (codes "s")) (also_field (word s (codes "c")) (stype s [] (cell (record { span = s; kind = any })) None []) (also_field (word s (codes "i")) (bytes t 2) no_field))) None []) ≡ t ∷ []
short_field s t = refl

abbrev row : (s : Span) → ℤ → (n : ℕ) → STypeTree
row s z n = stype s [] (cell (record { span = s; kind = any_bytes n })) (Some (record { span = s; negative = false; first = number z; rest = [] })) []

-- any2[2^30], any2[2^30 + 1], any8[2^64 - 1], any1[-1]
greatest : (s : Span) → bad_in_type one_struct None (row s (pos 1073741824) 2) ≡ []
greatest s = refl

too_long : (s : Span) → bad_in_type one_struct None (row s (pos 1073741825) 2) ≡ s ∷ []
too_long s = refl

far_too_long : (s : Span) → bad_in_type one_struct None (row s (pos 18446744073709551615) 8) ≡ s ∷ []
far_too_long s = refl

below_none : (s : Span) → bad_in_type one_struct None (row s (negsuc 0) 1) ≡ s ∷ []
below_none s = refl
