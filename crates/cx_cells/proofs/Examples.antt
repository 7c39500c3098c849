-- The meaning of forms on four forms and bytes that hold them.
use Rattle.std.proofs.Common.{◌≡◌, refl, ℕ, zero, suc, List, [], ◌∷◌, Some, None, true, false, inl, inr, arith}
use Rattle.std.specs.Prelude.{pos, negsuc}
use Rattle.std.proofs.lemmas.Int.{ints}
use Rattle.cx_base.specs.Number.{half_of}
use Rattle.cx_term.specs.Forms.{Linear, symbol_of, constant_of}
use Rattle.cx_term.specs.declared.term.Ineq.TheVariants.{Ge}
use Rattle.cx_cells.specs.Layouts.{Extent}
use Rattle.cx_cells.specs.Meaning.{number_at, form_size, ElementsHold, FormHolds}
use Rattle.cx_cells.specs.declared.cell.CellKind.{CellKind}
use Rattle.cx_cells.specs.declared.cell.CellKind.TheVariants.{Val, Ptr}
use Rattle.cx_cells.specs.declared.cell.FlatCell.{FlatCell}
use Rattle.cx_cells.specs.declared.form.Part.{Part}
use Rattle.cx_cells.specs.declared.form.Form.{Form}

abbrev cell : ℕ → ℕ → CellKind → FlatCell
cell at size kind = record { at = at; size = size; kind = kind }

abbrev unsigned : ℕ → CellKind
unsigned s = Val false (symbol_of s)

abbrev part : ℕ → List FlatCell → ℕ → Part
part binders cells size = record { binders = binders; conds = []; cells = cells; size = size }

-- ---- a vector with its length: region vector(n) = { u32 n; (some x of u16 x)[n]; }
abbrev vector : Form
vector = record {
  params = 1;
  binders = 0;
  conds = [];
  head = cell 0 4 (unsigned 0) ∷ [];
  head_size = 4;
  cases_at = 0;
  cases = [];
  tail = Some (record { count = symbol_of 0; part = part 1 (cell 0 2 (unsigned 1) ∷ []) 2 });
  shared = false;
}

vector_size : form_size vector (pos 3 ∷ []) ≡ Some 10
vector_size = refl

no_vector_size : form_size vector (negsuc 0 ∷ []) ≡ None
no_vector_size = refl

abbrev vector_bytes : List ℕ
vector_bytes = 2 ∷ 0 ∷ 0 ∷ 0 ∷ 5 ∷ 0 ∷ 7 ∷ 1 ∷ []

vector_elements : ElementsHold vector (pos 2 ∷ []) [] vector_bytes vector.tail
unfolding half_of
vector_elements zero h = record { binders = pos 5 ∷ []; count = refl; conds = tt; cells = (refl, tt) }
vector_elements (suc zero) h = record { binders = pos 263 ∷ []; count = refl; conds = tt; cells = (refl, tt) }
vector_elements (suc (suc i)) h = absurd (omega (arith, ints))

vector_holds : FormHolds vector (pos 2 ∷ []) [] vector_bytes
unfolding half_of
vector_holds = record {
  given = refl;
  size = refl;
  head = record { binders = []; count = refl; conds = tt; cells = (refl, tt); cases = tt };
  elements = vector_elements;
}

-- ---- a tagged union: region tagged = some k of { u8 k; any3; cases { when k == 0: some x of s32 x; when k == 1: any4 } }
abbrev is_number : ℕ → Linear
is_number n = record { konst = negsuc n; parts = (0, pos 1) ∷ [] }

abbrev tagged : Form
tagged = record {
  params = 0;
  binders = 1;
  conds = [];
  head = cell 0 1 (unsigned 0) ∷ [];
  head_size = 8;
  cases_at = 4;
  cases =
      record { guard = Ge (symbol_of 0) ∷ Ge (record { konst = pos 0; parts = (0, negsuc 0) ∷ [] }) ∷ []; part = part 1 (cell 0 4 (Val true (symbol_of 1)) ∷ []) 4 }
      ∷ record { guard = Ge (is_number 0) ∷ []; part = part 0 [] 4 }
      ∷ [];
  tail = None;
  shared = false;
}

abbrev tagged_bytes : List ℕ
tagged_bytes = 0 ∷ 9 ∷ 9 ∷ 9 ∷ 254 ∷ 255 ∷ 255 ∷ 255 ∷ []

tagged_number : number_at tagged_bytes 4 4 true ≡ negsuc 1
unfolding half_of
tagged_number = refl

tagged_holds : FormHolds tagged [] [] tagged_bytes
unfolding half_of
tagged_holds = record {
  given = refl;
  size = refl;
  head = record {
    binders = pos 0 ∷ [];
    count = refl;
    conds = tt;
    cells = (refl, tt);
    cases = (
      0,
      _,
      omega arith,
      refl,
      record {
        guard = (omega (arith, ints), (omega (arith, ints), tt));
        part = record { binders = negsuc 1 ∷ []; count = refl; conds = tt; cells = (refl, tt) };
      },
    );
  };
  elements = tt;
}

-- ---- a node of a list: region node = some x of { u32 x; any4; ptr node null; }
abbrev node : Form
node = record {
  params = 0;
  binders = 1;
  conds = [];
  head = cell 0 4 (unsigned 0) ∷ cell 8 8 (Ptr 0 [] (constant_of (pos 0)) true) ∷ [];
  head_size = 16;
  cases_at = 0;
  cases = [];
  tail = None;
  shared = false;
}

abbrev nodes : List Extent
nodes = record { base = 4096; name = 0; args = []; size = 16 } ∷ record { base = 8192; name = 0; args = []; size = 16 } ∷ []

abbrev next_bytes : ℕ → List ℕ
next_bytes b = 7 ∷ 0 ∷ 0 ∷ 0 ∷ 1 ∷ 2 ∷ 3 ∷ 4 ∷ 0 ∷ b ∷ 0 ∷ 0 ∷ 0 ∷ 0 ∷ 0 ∷ 0 ∷ []

node_holds : FormHolds node [] nodes (next_bytes 32)
unfolding half_of
node_holds = record {
  given = refl;
  size = refl;
  head = record {
    binders = pos 7 ∷ [];
    count = refl;
    conds = tt;
    cells = (refl, (inr (1, _, omega arith, refl, record { named = refl; given = refl; based = refl }), tt));
    cases = tt;
  };
  elements = tt;
}

last_node_holds : FormHolds node [] nodes (next_bytes 0)
unfolding half_of
last_node_holds = record {
  given = refl;
  size = refl;
  head = record { binders = pos 7 ∷ []; count = refl; conds = tt; cells = (refl, (inl (refl, refl), tt)); cases = tt };
  elements = tt;
}

-- ---- an array of symbolic length: region array(n) = any8[n + 1]
abbrev array : Form
array = record {
  params = 1;
  binders = 0;
  conds = [];
  head = [];
  head_size = 0;
  cases_at = 0;
  cases = [];
  tail = Some (record { count = record { konst = pos 1; parts = (0, pos 1) ∷ [] }; part = part 0 [] 8 });
  shared = false;
}

array_size : form_size array (pos 5 ∷ []) ≡ Some 48
array_size = refl

no_element : form_size array (negsuc 0 ∷ []) ≡ Some 0
no_element = refl

no_array_size : form_size array (negsuc 1 ∷ []) ≡ None
no_array_size = refl
