-- What the top call promises.
use Rattle.std.specs.Prelude.{◌≡◌, ◌≢◌, ℕ, ◌≤◌, ◌++◌, List, length, Option, Some, None, IfSome, IsSome, option_map, take}
use Rattle.cx_io.specs.Counts.{Rose, RoseBy}
use Rattle.cx_io.specs.Fetch.{FileMap}
use Rattle.cx_form.specs.declared.tree.CFile.{CFile}
use Rattle.cx_form.specs.declared.tree.Function.{Function}
use Rattle.cx_form.specs.declared.tree.FunctionType.{FunctionType}
use Rattle.cx_form.specs.declared.tree.TypeFile.{TypeFile}
use Rattle.cx_form.specs.Files.{CFileOf, TypeFileOf}
use Rattle.cx_sorts.specs.declared.verdict.Access.{Access}
use Rattle.cx_sorts.specs.Safe.{Safe}
use Rattle.cx_run.specs.declared.status.Status.{Status}
use Rattle.cx_run.specs.declared.status.Status.TheVariants.{Done, Alarms, Usage, Refused, ReadFailed, WriteFailed, Limit, NoMemory}
use Rattle.cx_run.specs.declared.ending.Ending.{Ending}
use Rattle.cx_run.specs.Status.{number_of}
use Rattle.cx_run.specs.Words.{form_of}
use Rattle.cx_run.specs.Report.{empty_report, accepted_report}
use Rattle.cx_run.specs.Outcome.{Outcome, outcome_by, outcome_of, usage}
use Rattle.cx_run.specs.Answers.{Counts, Tells, IsCaused}

-- what was written is this text, after what was there
abbrev pub Wrote : Option (List ℕ) → Option (List ℕ) → List ℕ → Type 0
Wrote before now text = now ≡ option_map (λ written. written ++ text) before

-- the function that the type file names and the C file defines, if there is one, is safe, and each of its accesses lies in a
-- region whose name the report lists at its place
abbrev pub SafeAsReported : List ℕ → CFile → TypeFile → List ℕ → Option Function → Option FunctionType → Type 0
SafeAsReported source c types report None None = report ≡ empty_report
SafeAsReported source c types report (Some f) (Some g) =
    (table : List Access) × (report ≡ accepted_report source types f.name.text table) × Safe c types f g table
SafeAsReported source c types report None (Some g) = ⊥
SafeAsReported source c types report (Some f) None = ⊥

-- both files are there and of the form, and the function that they are about is safe; the report is the text that the bytes of
-- the files determine, and was written
pub record Promise (files : FileMap) (words : List (List ℕ)) (before now : Option (List ℕ)) : Type 0 where
  pub c_name : List ℕ
  pub types_name : List ℕ
  pub form : form_of words ≡ Some (c_name, types_name)
  pub source : List ℕ
  pub c_there : files c_name ≡ Some source
  pub declared : List ℕ
  pub types_there : files types_name ≡ Some declared
  pub c : CFile
  pub c_text : CFileOf source c
  pub types : TypeFile
  pub types_text : TypeFileOf declared c types
  pub safe : SafeAsReported source c types (outcome_of files words).text c.function types.function
  pub wrote : Wrote before now (outcome_of files words).text

-- how a call ends for an outcome: with its status and its whole text; with a front of the text, where a put failed; or for
-- want of memory, with nothing written
abbrev pub Ends : Status → Outcome → Option (List ℕ) → Option (List ℕ) → Type 0
Ends NoMemory o before now = now ≡ before
Ends WriteFailed o before now = (n : ℕ) × Wrote before now (take n o.text)
Ends Done o before now = (o.status ≡ Done) × Wrote before now o.text
Ends Alarms o before now = (o.status ≡ Alarms) × Wrote before now o.text
Ends Usage o before now = (o.status ≡ Usage) × Wrote before now o.text
Ends Refused o before now = (o.status ≡ Refused) × Wrote before now o.text
Ends ReadFailed o before now = (o.status ≡ ReadFailed) × Wrote before now o.text
Ends Limit o before now = (o.status ≡ Limit) × Wrote before now o.text

-- an answer other than want of memory: what the call had to say, which has its cause, is what the told files say, and is how
-- the call ended
pub record IsAnswered (files : Option FileMap) (words : List (List ℕ)) (before now : Counts) (result : Status) (was written : Option (List ℕ)) : Type 0 where
  pub ending : Ending
  pub caused : IsCaused words ending before now
  pub told : IfSome files (λ m. Tells m words ending)
  pub ends : Ends result (outcome_by ending) was written

-- the outcome, or want of memory with nothing written
abbrev pub Completes : Status → Outcome → Option (List ℕ) → Option (List ℕ) → Type 0
Completes NoMemory o before now = now ≡ before
Completes WriteFailed o before now = ⊥
Completes ReadFailed o before now = ⊥
Completes Done o before now = (o.status ≡ Done) × Wrote before now o.text
Completes Alarms o before now = (o.status ≡ Alarms) × Wrote before now o.text
Completes Usage o before now = (o.status ≡ Usage) × Wrote before now o.text
Completes Refused o before now = (o.status ≡ Refused) × Wrote before now o.text
Completes Limit o before now = (o.status ≡ Limit) × Wrote before now o.text

-- what a call meets and leaves: the told files, the words, the counts of the files, the room that the sink tells and its count of
-- faults, and the bytes that were written to it
pub record Call : Type 0 where
  pub files : Option FileMap
  pub words : List (List ℕ)
  pub before : Counts
  pub now : Counts
  pub room : Option ℕ
  pub faults_before : ℕ
  pub faults_now : ℕ
  pub was : Option (List ℕ)
  pub written : Option (List ℕ)

-- all that is promised of a call that ended with this status
pub record EndedWith (call : Call) (status : Status) : Type 0 where
  pub headline : status ≡ Done → IfSome call.files (λ m. Promise m call.words call.was call.written)
  pub answer : status ≢ NoMemory → IsAnswered call.files call.words call.before call.now status call.was call.written
  pub complete : IfSome call.files (λ m. IfSome call.room (λ r. length (outcome_of m call.words).text ≤ r → (Rose call.before.faults call.now.faults → ⊥) → Completes status (outcome_of m call.words) call.was call.written))
  pub usage_only : status ≡ Usage → form_of call.words ≡ None
  pub no_form : form_of call.words ≡ None → Ends status usage call.was call.written
  pub read_failed : status ≡ ReadFailed → IsSome (form_of call.words) × Rose call.before.faults call.now.faults
  pub write_failed : status ≡ WriteFailed → Rose call.faults_before call.faults_now
  pub limit : status ≡ Limit → RoseBy 262145 call.before.given call.now.given
  pub no_memory : status ≡ NoMemory → call.written ≡ call.was

-- the number is that of a status with which the call ended
pub record IsNumberOf (call : Call) (n : ℕ) : Type 0 where
  pub status : Status
  pub number : n ≡ number_of status
  pub ended : EndedWith call status
