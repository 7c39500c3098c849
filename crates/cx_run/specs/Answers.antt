-- What each step of the top call gives, where the files are told; and, told or not, what the counts of the files say of why
-- a step ended the call.
use Rattle.std.specs.Prelude.{IfSome, IsSome, None, ◌≡◌, IsOk, ℕ, ◌+◌, ◌⊎◌, List, Result, Ok, Err}
use Rattle.cx_io.specs.Counts.{Rose, RoseBy}
use Rattle.cx_io.specs.Fetch.{FileMap}
use Rattle.cx_run.specs.declared.status.Status.TheVariants.{Done, Alarms}
use Rattle.cx_run.specs.declared.ending.Input.{Input}
use Rattle.cx_run.specs.declared.ending.Input.TheVariants.{CFile, TypeFile}
use Rattle.cx_run.specs.declared.ending.Answer.{Answer}
use Rattle.cx_run.specs.declared.ending.Ending.{Ending}
use Rattle.cx_run.specs.declared.ending.Ending.TheVariants.{Usage, Absent, TooLarge, NotBuilt, ReadFailed, Judged}
use Rattle.cx_run.specs.declared.ending.Stop.{Stop}
use Rattle.cx_run.specs.declared.ending.Stop.TheVariants.{Ended, NoMemory}
use Rattle.cx_run.specs.Words.{form_of}
use Rattle.cx_run.specs.Outcome.{Outcome, limit_of, seen, outcome_by, c_file, outcome_of}

-- ---- told files

-- what is said is what the told files say, unless a read failed
abbrev pub Says : Ending → Outcome → Type 0
Says Usage told = told ≡ outcome_by Usage
Says (Absent input) told = told ≡ outcome_by (Absent input)
Says (TooLarge input) told = told ≡ outcome_by (TooLarge input)
Says (NotBuilt input) told = told ≡ outcome_by (NotBuilt input)
Says (ReadFailed input) told = Unit {0}
Says (Judged answer) told = told ≡ outcome_by (Judged answer)

abbrev pub SaysEnd : {A : Type 0} → Ending → Result A Outcome → Type 0
SaysEnd Usage told = told ≡ Err (outcome_by Usage)
SaysEnd (Absent input) told = told ≡ Err (outcome_by (Absent input))
SaysEnd (TooLarge input) told = told ≡ Err (outcome_by (TooLarge input))
SaysEnd (NotBuilt input) told = told ≡ Err (outcome_by (NotBuilt input))
SaysEnd (ReadFailed input) told = Unit {0}
SaysEnd (Judged answer) told = told ≡ Err (outcome_by (Judged answer))

-- a step gave what the told files say, unless a read failed or memory ran out
abbrev pub Gives : {A : Type 0} → Result A Stop → Result A Outcome → Type 0
Gives (Ok x) told = told ≡ Ok x
Gives (Err (Ended e)) told = SaysEnd e told
Gives (Err NoMemory) told = Unit {0}

-- a read that failed is one of this file
abbrev pub IsAboutEnd : Input → Ending → Type 0
IsAboutEnd own Usage = Unit {0}
IsAboutEnd own (Absent i) = Unit {0}
IsAboutEnd own (TooLarge i) = Unit {0}
IsAboutEnd own (NotBuilt i) = Unit {0}
IsAboutEnd own (ReadFailed i) = i ≡ own
IsAboutEnd own (Judged answer) = Unit {0}

abbrev pub IsAbout : {A : Type 0} → Input → Result A Stop → Type 0
IsAbout own (Ok x) = Unit {0}
IsAbout own (Err (Ended e)) = IsAboutEnd own e
IsAbout own (Err NoMemory) = Unit {0}

-- the files before this one are read and built
abbrev pub IsReached : {A : Type 0} → Input → Result A Outcome → Type 0
IsReached CFile first = Unit {0}
IsReached TypeFile first = IsOk first

-- the same, where a read that failed says which files were read
abbrev pub SaysOf : {A : Type 0} → Ending → Result A Outcome → Outcome → Type 0
SaysOf Usage first told = told ≡ outcome_by Usage
SaysOf (Absent input) first told = told ≡ outcome_by (Absent input)
SaysOf (TooLarge input) first told = told ≡ outcome_by (TooLarge input)
SaysOf (NotBuilt input) first told = told ≡ outcome_by (NotBuilt input)
SaysOf (ReadFailed input) first told = IsReached input first
SaysOf (Judged answer) first told = told ≡ outcome_by (Judged answer)

abbrev pub GivesAll : {A : Type 0} → Result Answer Stop → Result A Outcome → Outcome → Type 0
GivesAll (Ok a) first told = told ≡ seen a
GivesAll (Err (Ended e)) first told = SaysOf e first told
GivesAll (Err NoMemory) first told = Unit {0}

-- what is said for the words: the outcome of the told files, or that a read failed of a file all before which are read and
-- of the form
abbrev pub Tells : FileMap → List (List ℕ) → Ending → Type 0
Tells files words Usage = outcome_of files words ≡ outcome_by Usage
Tells files words (Absent input) = outcome_of files words ≡ outcome_by (Absent input)
Tells files words (TooLarge input) = outcome_of files words ≡ outcome_by (TooLarge input)
Tells files words (NotBuilt input) = outcome_of files words ≡ outcome_by (NotBuilt input)
Tells files words (ReadFailed input) = IfSome (form_of words) (λ f. IsReached input (c_file files f.0))
Tells files words (Judged answer) = outcome_of files words ≡ outcome_by (Judged answer)

-- ---- counts

-- the counts of some files: of faults, of absent answers, of bytes given
pub record Counts : Type 0 where
  pub faults : ℕ
  pub absents : ℕ
  pub given : ℕ

abbrev pub counted : ℕ → ℕ → ℕ → Counts
counted faults absents given = record { faults = faults; absents = absents; given = given }

-- why something ends the call, apart from the words: a fetch answered that a file is absent; a file gave more bytes than its
-- limit; its bytes are not of the form; a fetch failed; or a function was judged
abbrev pub HasCause : Ending → Counts → Counts → Type 0
HasCause Usage before now = ⊥
HasCause (Absent input) before now = Rose before.absents now.absents
HasCause (TooLarge input) before now = RoseBy (limit_of input + 1) before.given now.given
HasCause (NotBuilt input) before now = Unit {0}
HasCause (ReadFailed input) before now = Rose before.faults now.faults
HasCause (Judged answer) before now = (answer.status ≡ Done) ⊎ (answer.status ≡ Alarms)

abbrev pub StopHasCause : {A : Type 0} → Result A Stop → Counts → Counts → Type 0
StopHasCause (Ok x) before now = Unit {0}
StopHasCause (Err (Ended e)) before now = HasCause e before now
StopHasCause (Err NoMemory) before now = Unit {0}

abbrev pub AllHasCause : Result Answer Stop → Counts → Counts → Type 0
AllHasCause (Ok a) before now = (a.status ≡ Done) ⊎ (a.status ≡ Alarms)
AllHasCause (Err (Ended e)) before now = HasCause e before now
AllHasCause (Err NoMemory) before now = Unit {0}

-- the same with the words: they are no form exactly where the call says so
abbrev pub IsCaused : List (List ℕ) → Ending → Counts → Counts → Type 0
IsCaused words Usage before now = form_of words ≡ None
IsCaused words (Absent input) before now = IsSome (form_of words) × Rose before.absents now.absents
IsCaused words (TooLarge input) before now = IsSome (form_of words) × RoseBy (limit_of input + 1) before.given now.given
IsCaused words (NotBuilt input) before now = IsSome (form_of words)
IsCaused words (ReadFailed input) before now = IsSome (form_of words) × Rose before.faults now.faults
IsCaused words (Judged answer) before now = IsSome (form_of words) × ((answer.status ≡ Done) ⊎ (answer.status ≡ Alarms))
