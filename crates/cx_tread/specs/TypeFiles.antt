-- What the answer to a type file means beside a C file of this unit. The conditions are tried one after the other, each over the
-- whole file; the first that fails is answered, at its first place.
use Rattle.std.specs.Prelude.{◌≡◌, ◌⊎◌, ℕ, List, [], Some, Result, Ok, Err, ⊤}
use Rattle.cx_base.specs.declared.span.Span.{Span}
use Rattle.cx_ctree.specs.declared.unit.Unit.{Unit}
use Rattle.cx_ctree.specs.Units.{unit_tree}
use Rattle.cx_cname.specs.Known.{known_of}
use Rattle.cx_lex.specs.Lexed.{lexed}
use Rattle.cx_lex.specs.declared.fault.LexFault.TheVariants as lex
use Rattle.cx_tsyn.specs.declared.item.Surface.{Surface}
use Rattle.cx_tsyn.specs.Items.{SurfaceTree, surface_tree}
use Rattle.cx_tscope.specs.Faults.{first}
use Rattle.cx_tparse.specs.Parsing.{IsFile, IsDeep, IsFaulty}
use Rattle.cx_tforms.specs.Faulty.{faulty_forms}
use Rattle.cx_tnames.specs.Unknown.{unknown_names}
use Rattle.cx_tdoubled.specs.Doubled.{doubled_names}
use Rattle.cx_tarity.specs.Arity.{arity_faults}
use Rattle.cx_tbinders.specs.Undetermined.{undetermined}
use Rattle.cx_tsizes.specs.BadSizes.{bad_sizes}
use Rattle.cx_tread.specs.declared.fault.TypeFault.{TypeFault}
use Rattle.cx_tread.specs.declared.fault.TypeFault.TheVariants as f

-- ---- one condition more

-- what is said before, and that there is no such place
pub record Also (Before : SurfaceTree → Type 0) (places : SurfaceTree → List Span) (t : SurfaceTree) : Type 0 where
  pub before : Before t
  pub none : places t ≡ []

-- some tree has all that is said before, and this is its first such place
pub record FailsAt (Before : SurfaceTree → Type 0) (places : SurfaceTree → List Span) (s : Span) : Type 0 where
  pub tree : SurfaceTree
  pub before : Before tree
  pub at : first (places tree) ≡ Some s

-- ---- the conditions in their order

-- the text spells this tree and no other, and no bracket opens the 101st level
abbrev pub Derived : Unit → List ℕ → SurfaceTree → Type 0
Derived u bytes t = IsFile u.names (known_of u) bytes t.items

-- linear forms and the differences of relations are terms, and divisors are not 0
abbrev pub Formed : Unit → List ℕ → SurfaceTree → Type 0
Formed u bytes = Also (Derived u bytes) faulty_forms

-- all names are known
abbrev pub Known : Unit → List ℕ → SurfaceTree → Type 0
Known u bytes = Also (Formed u bytes) (unknown_names (unit_tree u))

-- nothing is declared twice
abbrev pub Single : Unit → List ℕ → SurfaceTree → Type 0
Single u bytes = Also (Known u bytes) doubled_names

-- numbers of arguments, fields and parameters agree, and the limits on their counts hold
abbrev pub Counted : Unit → List ℕ → SurfaceTree → Type 0
Counted u bytes = Also (Single u bytes) (arity_faults (unit_tree u))

-- binders, arrays and cases stand where they determine what is meant
abbrev pub Determined : Unit → List ℕ → SurfaceTree → Type 0
Determined u bytes = Also (Counted u bytes) undetermined

-- sizes are those of the C file, and the limits on sizes and cells hold
abbrev pub Sized : Unit → List ℕ → SurfaceTree → Type 0
Sized u bytes = Also (Determined u bytes) (bad_sizes (unit_tree u))

-- ---- the answer

-- the text is refused for this cause
abbrev pub Refuses : Unit → List ℕ → TypeFault → Type 0
Refuses u bytes (f.OpenComment at) = lexed bytes ≡ Err (lex.OpenComment at)
Refuses u bytes (f.OpenText at) = lexed bytes ≡ Err (lex.OpenText at)
Refuses u bytes (f.BadByte at) = lexed bytes ≡ Err (lex.BadByte at)
Refuses u bytes (f.TooDeep s) = IsDeep u.names bytes s
Refuses u bytes (f.Syntax s) = IsFaulty u.names (known_of u) bytes s ⊎ FailsAt (Derived u bytes) faulty_forms s
Refuses u bytes (f.UnknownName s) = FailsAt (Formed u bytes) (unknown_names (unit_tree u)) s
Refuses u bytes (f.Doubled s) = FailsAt (Known u bytes) doubled_names s
Refuses u bytes (f.Arity s) = FailsAt (Single u bytes) (arity_faults (unit_tree u)) s
Refuses u bytes (f.Undetermined s) = FailsAt (Counted u bytes) undetermined s
Refuses u bytes (f.BadSize s) = FailsAt (Determined u bytes) (bad_sizes (unit_tree u)) s
Refuses u bytes f.NoMemory = ⊤

-- the only tree, which keeps all conditions, or the first that fails, unless memory ran out
abbrev pub ReadsTypes : Unit → List ℕ → Result Surface TypeFault → Type 0
ReadsTypes u bytes (Ok x) = Sized u bytes (surface_tree x)
ReadsTypes u bytes (Err e) = Refuses u bytes e
