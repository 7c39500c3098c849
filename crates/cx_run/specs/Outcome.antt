-- The status and the whole text that belong to the words, where the files are told: a function of their bytes.
use Rattle.std.specs.Prelude.{ℕ, ◌++◌, List, Option, Some, None, Result, Ok, Err, codes, decimal, length, if◌then◌else◌, nat_lt}
use Rattle.std.specs.Option.{option_map_or}
use Rattle.cx_io.specs.Fetch.{FileMap}
use Rattle.cx_form.specs.declared.tree.Function.{Function}
use Rattle.cx_form.specs.declared.tree.FunctionType.{FunctionType}
use Rattle.cx_form.specs.declared.tree.TypeFile as t
use Rattle.cx_form.specs.Reading.{c_file_of, type_file_of}
use Rattle.cx_sorts.specs.declared.verdict.Verdict.{Verdict}
use Rattle.cx_sorts.specs.declared.verdict.Condition.{Condition}
use Rattle.cx_sorts.specs.Rules.{verdict_of}
use Rattle.cx_run.specs.declared.status.Status.{Status}
use Rattle.cx_run.specs.declared.status.Status.TheVariants.{Done, Alarms, Usage, Refused, ReadFailed, Limit}
use Rattle.cx_run.specs.declared.ending.Input.{Input}
use Rattle.cx_run.specs.declared.ending.Input.TheVariants.{CFile, TypeFile}
use Rattle.cx_run.specs.declared.ending.Source.{Source}
use Rattle.cx_run.specs.declared.ending.Answer.{Answer}
use Rattle.cx_run.specs.declared.ending.Ending.{Ending}
use Rattle.cx_run.specs.declared.ending.Ending.TheVariants as ending
use Rattle.cx_run.specs.Report.{empty_report, accepted_report, alarmed_report}
use Rattle.cx_run.specs.Words.{form_of}

-- a status, and the whole text that goes with it
pub record Outcome : Type 0 where
  pub status : Status
  pub text : List ℕ

abbrev pub usage : Outcome
usage = record { status = Usage; text = codes "usage: codex check C T\n" }

-- the file of this number is refused, by this word
abbrev pub refused : ℕ → List ℕ → Outcome
refused file word = record { status = Refused; text = codes "refused " ++ decimal file ++ codes " " ++ word ++ codes "\n" }

-- a fetch from the file of this number failed
abbrev pub read_failed : ℕ → Outcome
read_failed file = record { status = ReadFailed; text = codes "read failed " ++ decimal file ++ codes "\n" }

-- the quantity of this name passes its limit
abbrev pub over_limit : List ℕ → ℕ → Outcome
over_limit kind limit = record { status = Limit; text = codes "limit " ++ kind ++ codes " " ++ decimal limit ++ codes "\n" }

-- the number of a file in texts
abbrev pub number_of : Input → ℕ
number_of CFile = 1
number_of TypeFile = 2

-- the name of the limit on its size
abbrev pub kind_of : Input → List ℕ
kind_of CFile = codes "c-file"
kind_of TypeFile = codes "type-file"

-- how many bytes it may have
abbrev pub limit_of : Input → ℕ
limit_of CFile = 1048576
limit_of TypeFile = 262144

-- an answer as an outcome
abbrev pub seen : Answer → Outcome
seen a = record { status = a.status; text = a.text }

-- what an ending says
abbrev pub outcome_by : Ending → Outcome
outcome_by ending.Usage = usage
outcome_by (ending.Absent input) = refused (number_of input) (codes "Absent")
outcome_by (ending.TooLarge input) = over_limit (kind_of input) (limit_of input)
outcome_by (ending.NotBuilt input) = refused (number_of input) (codes "NotBuilt")
outcome_by (ending.ReadFailed input) = read_failed (number_of input)
outcome_by (ending.Judged answer) = seen answer

-- one step after another, up to the first that ends with an outcome
infixl 10 ◌>>=◌
abbrev pub ◌>>=◌ : {A B : Type 0} → Result A Outcome → (A → Result B Outcome) → Result B Outcome
(Ok x) >>= f = f x
(Err o) >>= f = Err o

-- the bytes of a file that is there and within its limit
abbrev pub whole : Input → Option (List ℕ) → Result (List ℕ) Outcome
whole input None = Err (outcome_by (ending.Absent input))
whole input (Some bytes) = if nat_lt (limit_of input) (length bytes) then Err (outcome_by (ending.TooLarge input)) else Ok bytes

-- the tree of a file whose bytes are of the form
abbrev pub built : {A : Type 0} → Input → Option A → Result A Outcome
built input None = Err (outcome_by (ending.NotBuilt input))
built input (Some x) = Ok x

abbrev pub c_file : FileMap → List ℕ → Result Source Outcome
c_file files name = whole CFile (files name) >>= λ bytes. built CFile (c_file_of bytes) >>= λ c. Ok (record { bytes = bytes; file = c })

abbrev pub type_file : FileMap → List ℕ → Source → Result t.TypeFile Outcome
type_file files name source = whole TypeFile (files name) >>= λ bytes. built TypeFile (type_file_of bytes source.file)

-- the report on the verdict of a function
abbrev pub judged : List ℕ → t.TypeFile → List ℕ → Verdict → Outcome
judged source types name verdict =
    option_map_or (λ (c : Condition). record { status = Alarms; text = alarmed_report source types name verdict.accesses c }) verdict.alarm
    (record { status = Done; text = accepted_report source types name verdict.accesses })

-- the report where there is no function to judge
abbrev pub nothing_to_judge : Outcome
nothing_to_judge = record { status = Done; text = empty_report }

-- the report on the files
abbrev pub report : Source → t.TypeFile → Outcome
report source types =
    option_map_or
    (λ (f : Function). option_map_or (λ (g : FunctionType). judged source.bytes types f.name.text (verdict_of source.file types f g)) types.function nothing_to_judge)
    source.file.function nothing_to_judge

abbrev pub ended : Result Outcome Outcome → Outcome
ended (Ok o) = o
ended (Err o) = o

-- what `check` gives for two names of files
abbrev pub checked : FileMap → List ℕ → List ℕ → Outcome
checked files c t = ended (c_file files c >>= λ source. type_file files t source >>= λ types. Ok (report source types))

-- what the words give
abbrev pub outcome_of : FileMap → List (List ℕ) → Outcome
outcome_of files words = option_map_or (λ f. checked files f.0 f.1) (form_of words) usage
