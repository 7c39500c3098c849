-- What the answer to a whole type file means.
use Rattle.std.specs.Prelude.{◌≡◌, ℕ, List, Result, Ok, Err}
use Rattle.cx_base.specs.declared.span.Span.{Span}
use Rattle.cx_cname.specs.Known.{Known}
use Rattle.cx_tsyn.specs.declared.item.Surface.{Surface}
use Rattle.cx_tsyn.specs.Items.{surface_tree}
use Rattle.cx_tword.specs.declared.lexeme.TypeLexeme.{TypeLexeme}
use Rattle.cx_reader.specs.Faults.{IsOnly, FaultAt}
use Rattle.cx_titem.specs.declared.fault.SyntaxFault.{SyntaxFault}
use Rattle.cx_titem.specs.declared.fault.SyntaxFault.TheVariants as f
use Rattle.cx_titem.specs.Items.{AreItems}

-- the fault stands at a lexeme of this place
pub record FaultOn (bytes : List ℕ) (env : Known) (os : List TypeLexeme) (s : Span) : Type 0 where
  pub o : TypeLexeme
  pub placed : o.span ≡ s
  pub at : FaultAt (AreItems bytes env) os o

abbrev pub Stands : List ℕ → Known → List TypeLexeme → SyntaxFault → Type 0
Stands bytes env os f.NoMemory = Unit {0}
Stands bytes env os (f.Syntax s) = FaultOn bytes env os s

-- the only tree, or where the fault is, unless memory ran out
abbrev pub ReadsFile : List ℕ → Known → List TypeLexeme → Result Surface SyntaxFault → Type 0
ReadsFile bytes env os (Ok x) = IsOnly (AreItems bytes env) os (surface_tree x).items
ReadsFile bytes env os (Err e) = Stands bytes env os e
