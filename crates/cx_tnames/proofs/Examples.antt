-- Pieces of type files, and the names in them that are not known.
use Rattle.std.proofs.Common.{◌≡◌, refl, ℕ, List, [], ◌∷◌, Some, None, true, false, codes}
use Rattle.cx_base.specs.declared.span.Span.{Span}
use Rattle.cx_ctree.specs.Types.{void}
use Rattle.cx_ctree.specs.Decls.{object, proto, known, passed}
use Rattle.cx_ctree.specs.Units.{UnitTree}
use Rattle.cx_tsyn.specs.Words.{WordTree}
use Rattle.cx_tsyn.specs.Lins.{LinTree, symbol}
use Rattle.cx_tsyn.specs.Cells.{any, unsigned, ptr}
use Rattle.cx_tsyn.specs.Types.{STypeTree, stype, AtomTree, cell, tagged, product, cases, no_type, also_type, no_field, also_field, no_branch, also_branch}
use Rattle.cx_tsyn.specs.Items.{TypeItemTree, region, func, global}
use Rattle.cx_tsyn.specs.declared.lin.SRel.TheVariants as r
use Rattle.cx_tnames.specs.Unknown.{unknown_names}

-- int f(), g; struct s { int m; }; and a piece that is passed over and names h
abbrev unit : Span → UnitTree
unit s = record {
  names = codes "f" ∷ codes "g" ∷ codes "h" ∷ codes "s" ∷ codes "m" ∷ [];
  tags = record { name = Some 3; union_ = false; rank = 1; members = Some (record { name = 4; ctype = void } ∷ []) } ∷ [];
  typedefs = [];
  consts = [];
  enums = [];
  items = known (proto (record { name = 0; result = void; params = [] }) ∷ object 1 void ∷ []) ∷ passed s ∷ [];
  tokens = [];
  named = 2 ∷ [];
}

abbrev word : Span → List ℕ → WordTree
word s text = record { span = s; text = text }

abbrev bare : Span → AtomTree → STypeTree
bare s a = stype s [] a None []

-- n
abbrev the_n : Span → LinTree
the_n s = record { span = s; negative = false; first = symbol (word s (codes "n")); rest = [] }

-- u8 n, where the symbol stands at s
abbrev number : Span → STypeTree
number s = bare s (cell (record { span = s; kind = unsigned 8 (the_n s) }))

abbrev binding : (s t : Span) → AtomTree → STypeTree
binding s t a = stype s (word t (codes "n") ∷ []) a None []

abbrev a_region : Span → STypeTree → TypeItemTree
a_region s t = region (record { span = s; shared = false; name = word s (codes "a"); params = []; body = t })

-- region a = ptr d; with d at t
unknown_region : (s t : Span) → unknown_names (unit s) (record { items = a_region s (bare s (cell (record { span = s; kind = ptr (word t (codes "d")) [] None false }))) ∷ [] }) ≡ t ∷ []
unknown_region s t = refl

-- region a = { some n of { u8 n; }; u8 n; }; with the last n at t
outside : (s t : Span)
    → unknown_names (unit s) (record { items = a_region s (bare s (product (also_type (binding s s (product (also_type (number s) no_type) None)) (also_type (number t) no_type)) None)) ∷ [] }) ≡ t ∷ []
outside s t = refl

-- region a = cases { when n == n: some n of { u8 n; }; }; with the symbols of the guard at t and u
in_its_guard : (s t u : Span)
    → unknown_names (unit s) (record { items = a_region s (bare s (cases (also_branch (record { left = the_n t; rel = r.Eq; right = the_n u } ∷ []) (binding s s (product (also_type (number s) no_type) None)) no_branch))) ∷ [] }) ≡ t ∷ u ∷ []
in_its_guard s t u = refl

abbrev a_function : Span → List ℕ → TypeItemTree
a_function s name = func (record { span = s; name = word s name; binders = []; args = []; conds = []; result = None; result_span = s })

-- fn f() -> void; fn g() -> void; fn h() -> void; with g at t: an object is no function
functions : (s t u : Span) → unknown_names (unit s) (record { items = a_function s (codes "f") ∷ a_function t (codes "g") ∷ a_function u (codes "h") ∷ [] }) ≡ t ∷ []
functions s t u = refl

-- struct s { m: any; n: any; } with n at t
fields : (s t : Span)
    → unknown_names (unit s) (record { items = a_region s (bare s (tagged false (word s (codes "s")) (also_field (word s (codes "m")) (bare s (cell (record { span = s; kind = any }))) (also_field (word t (codes "n")) (bare s (cell (record { span = s; kind = any }))) no_field)))) ∷ [] }) ≡ t ∷ []
fields s t = refl

-- union s { } with s at t
other_kind : (s t : Span) → unknown_names (unit s) (record { items = a_region s (bare s (tagged true (word t (codes "s")) no_field)) ∷ [] }) ≡ t ∷ []
other_kind s t = refl

-- global g = d; global f = a; with d at t and f at u
globals : (s t u : Span)
    → unknown_names (unit s) (record { items = a_region s (bare s (product no_type None)) ∷ global (record { span = s; name = word s (codes "g"); region = word t (codes "d"); args = [] }) ∷ global (record { span = s; name = word u (codes "f"); region = word s (codes "a"); args = [] }) ∷ [] }) ≡ t ∷ u ∷ []
globals s t u = refl
