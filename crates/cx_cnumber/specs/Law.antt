-- That the numbers of a C file may be constants of linear forms.
use Rattle.std.specs.Prelude.{ℕ, List, All}
use Rattle.cx_base.specs.declared.token.Token.{Token}
use Rattle.cx_cname.specs.Known.{declared_by}
use Rattle.cx_cread.specs.Reads.{known_after, Reads}
use Rattle.cx_ctree.specs.Decls.{DeclTree, function}
use Rattle.cx_ctree.specs.Units.{UnitTree}
use Rattle.cx_gline.specs.Inside.{stmt_numbers}
use Rattle.cx_gline.specs.Law.{EnumerationsSmall}
use Rattle.cx_gline.specs.Lines.{IsSmall}

-- the numbers in the body of a function are small
abbrev pub DeclSmall : DeclTree → Type 0
DeclSmall (function f) = All IsSmall (stmt_numbers f.body)
DeclSmall _ = Unit {0}

-- so are those in the functions of what a text is read as, and those of its enumeration constants
abbrev pub ReadIsSmall : Type 0
ReadIsSmall = (bytes : List ℕ) (tokens : List Token) (u : UnitTree) → Reads bytes tokens u → EnumerationsSmall (known_after u) × All DeclSmall (declared_by u.items)
