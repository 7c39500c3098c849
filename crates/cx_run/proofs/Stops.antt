-- What ends a call at the first file ends the whole.
use Rattle.std.proofs.Common.{Result, Err, Option, Some, None, IfSome, List, ℕ, ap}
use Rattle.cx_io.specs.Fetch.{FileMap}
use Rattle.cx_run.specs.declared.ending.Input.TheVariants.{CFile, TypeFile}
use Rattle.cx_run.specs.declared.ending.Source.{Source}
use Rattle.cx_run.specs.declared.ending.Ending.{Ending}
use Rattle.cx_run.specs.declared.ending.Ending.TheVariants.{Usage, Absent, TooLarge, NotBuilt, ReadFailed, Judged}
use Rattle.cx_run.specs.Outcome.{Outcome, ◌>>=◌, ended, c_file, checked}
use Rattle.cx_run.specs.declared.ending.Stop.{Stop}
use Rattle.cx_run.specs.declared.ending.Stop.TheVariants.{Ended, NoMemory}
use Rattle.cx_run.specs.Answers.{SaysEnd, SaysOf, IsAboutEnd, IsAbout, Gives, GivesAll}

first_ends : (e : Ending) (first : Result Source Outcome) (next : Source → Result Outcome Outcome) → IsAboutEnd CFile e → SaysEnd e first → SaysOf e first (ended (first >>= next))
first_ends Usage first next own says = ap (λ (r : Result Source Outcome). ended (r >>= next)) says
first_ends (Absent i) first next own says = ap (λ (r : Result Source Outcome). ended (r >>= next)) says
first_ends (TooLarge i) first next own says = ap (λ (r : Result Source Outcome). ended (r >>= next)) says
first_ends (NotBuilt i) first next own says = ap (λ (r : Result Source Outcome). ended (r >>= next)) says
first_ends (ReadFailed CFile) first next own says = tt
first_ends (ReadFailed TypeFile) first next own says = absurd (cc own)
first_ends (Judged answer) first next own says = ap (λ (r : Result Source Outcome). ended (r >>= next)) says

stop_ends : (s : Stop) (first : Result Source Outcome) (next : Source → Result Outcome Outcome) → IsAbout {A = Source} CFile (Err s) → Gives {A = Source} (Err s) first → GivesAll (Err s) first (ended (first >>= next))
stop_ends (Ended e) first next own says = first_ends e first next own says
stop_ends NoMemory first next own says = tt

pub c_file_ends : (o : Option FileMap) (c t : List ℕ) (s : Stop) → IsAbout {A = Source} CFile (Err s) → IfSome o (λ m. Gives {A = Source} (Err s) (c_file m c)) → IfSome o (λ m. GivesAll (Err s) (c_file m c) (checked m c t))
c_file_ends None c t s own says = tt
c_file_ends (Some m) c t s own says = stop_ends s (c_file m c) _ own says
