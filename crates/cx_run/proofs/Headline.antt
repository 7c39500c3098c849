-- Where the outcome of the told files is Done, the promise holds.
use Rattle.std.proofs.Common.{◌≡◌, ℕ, List, Option, Some, None, Result, Ok, Err, refl, sym, ◌∙◌, ap, subst, cond, nat_lt, length, Bool, true, false, IfSome}
use Rattle.std.specs.Option.{option_map_or}
use Rattle.cx_io.specs.Fetch.{FileMap}
use Rattle.cx_form.specs.declared.tree.TypeFile as t
use Rattle.cx_form.specs.declared.tree.Function.{Function}
use Rattle.cx_form.specs.declared.tree.FunctionType.{FunctionType}
use Rattle.cx_form.specs.Form.{IsCForm, IsTypeForm, AreBoth}
use Rattle.cx_form.specs.Files.{CFileOf, TypeFileOf}
use Rattle.cx_form.specs.Reading.{c_file_of, type_file_of}
use Rattle.cx_form.proofs.Whole.{c_file_sound, type_file_sound}
use Rattle.cx_sorts.specs.declared.verdict.Access.{Access}
use Rattle.cx_sorts.specs.declared.verdict.Condition.{Condition}
use Rattle.cx_sorts.specs.Rules.{verdict_of}
use Rattle.cx_sorts.proofs.Safety.{no_alarm_is_safe}
use Rattle.cx_run.specs.declared.status.Status.TheVariants.{Done}
use Rattle.cx_run.specs.declared.ending.Input.{Input}
use Rattle.cx_run.specs.declared.ending.Input.TheVariants.{CFile, TypeFile}
use Rattle.cx_run.specs.declared.ending.Source.{Source}
use Rattle.cx_run.specs.declared.ending.Ending.{Ending}
use Rattle.cx_run.specs.declared.ending.Ending.TheVariants.{Usage, Absent, TooLarge, NotBuilt, ReadFailed, Judged}
use Rattle.cx_run.specs.Report.{accepted_report}
use Rattle.cx_run.specs.Words.{form_of}
use Rattle.cx_run.specs.Outcome.{Outcome, ◌>>=◌, ended, outcome_by, whole, built, c_file, type_file, judged, nothing_to_judge, report, checked, usage, limit_of, outcome_of}
use Rattle.cx_run.specs.Answers.{Tells}
use Rattle.cx_run.specs.Headline.{Wrote, SafeAsReported, Promise}

-- what ends a chain of steps is not Done
abbrev EndsOtherwise : {A : Type 0} → Result A Outcome → Type 0
EndsOtherwise (Ok x) = Unit {0}
EndsOtherwise (Err o) = o.status ≡ Done → ⊥

chain_ends : {A B : Type 0} (r : Result A Outcome) (f : A → Result B Outcome) → EndsOtherwise r → ((x : A) → EndsOtherwise (f x)) → EndsOtherwise (r >>= f)
chain_ends (Ok x) f here after = after x
chain_ends (Err o) f here after = here

chain_ok : {A B : Type 0} (r : Result A Outcome) (f : A → Result B Outcome) (y : B) → (r >>= f) ≡ Ok y → (x : A) × (r ≡ Ok x) × (f x ≡ Ok y)
chain_ok (Ok x) f y e = (x, refl, e)
chain_ok (Err o) f y e = absurd (cc e)

ok_same : {A : Type 0} (r : Result A Outcome) (x y : A) → r ≡ Ok x → r ≡ Ok y → x ≡ y
ok_same r x y e f = cc (e, f)

ended_ok : (r : Result Outcome Outcome) → EndsOtherwise r → (ended r).status ≡ Done → r ≡ Ok (ended r)
ended_ok (Ok o) otherwise done = refl
ended_ok (Err o) otherwise done = absurd (otherwise done)

large_ends : (i : Input) (bytes : List ℕ) (large : Bool) → EndsOtherwise (cond large (Err (outcome_by (TooLarge i))) (Ok bytes))
large_ends i bytes true = λ done. absurd (cc done)
large_ends i bytes false = tt

whole_ends : (i : Input) (o : Option (List ℕ)) → EndsOtherwise (whole i o)
whole_ends i None = λ done. absurd (cc done)
whole_ends i (Some bytes) = large_ends i bytes (nat_lt (limit_of i) (length bytes))

built_ends : {A : Type 0} (i : Input) (o : Option A) → EndsOtherwise (built i o)
built_ends i None = λ done. absurd (cc done)
built_ends i (Some x) = tt

large_ok : (i : Input) (bytes found : List ℕ) (large : Bool) → cond large (Err (outcome_by (TooLarge i))) (Ok bytes) ≡ Ok found → bytes ≡ found
large_ok i bytes found true e = absurd (cc e)
large_ok i bytes found false e = cc e

whole_ok : (i : Input) (o : Option (List ℕ)) (bytes : List ℕ) → whole i o ≡ Ok bytes → o ≡ Some bytes
whole_ok i None bytes e = absurd (cc e)
whole_ok i (Some file) bytes e = ap Some (large_ok i file bytes (nat_lt (limit_of i) (length file)) e)

built_ok : {A : Type 0} (i : Input) (o : Option A) (x : A) → built i o ≡ Ok x → o ≡ Some x
built_ok i None x e = absurd (cc e)
built_ok i (Some y) x e = cc e

c_file_ends : (m : FileMap) (name : List ℕ) → EndsOtherwise (c_file m name)
c_file_ends m name = chain_ends (whole CFile (m name)) _ (whole_ends CFile (m name)) (λ bytes. chain_ends (built CFile (c_file_of bytes)) _ (built_ends CFile (c_file_of bytes)) (λ file. tt))

type_file_ends : (m : FileMap) (name : List ℕ) (source : Source) → EndsOtherwise (type_file m name source)
type_file_ends m name source = chain_ends (whole TypeFile (m name)) _ (whole_ends TypeFile (m name)) (λ bytes. built_ends TypeFile (type_file_of bytes source.file))

all_ends : (m : FileMap) (c_name t_name : List ℕ) → EndsOtherwise (c_file m c_name >>= λ source. type_file m t_name source >>= λ types. Ok (report source types))
all_ends m c_name t_name = chain_ends (c_file m c_name) _ (c_file_ends m c_name) (λ source. chain_ends (type_file m t_name source) _ (type_file_ends m t_name source) (λ types. tt))

-- the bytes of the file are there, and are those of this C file
c_file_there : (m : FileMap) (name : List ℕ) (source : Source) → c_file m name ≡ Ok source → (m name ≡ Some source.bytes) × (c_file_of source.bytes ≡ Some source.file)
c_file_there m name source e =
    let (bytes, read, rest) = chain_ok (whole CFile (m name)) _ source e in
    let (file, made, is) = chain_ok (built CFile (c_file_of bytes)) _ source rest in
    let there : m name ≡ Some bytes = whole_ok CFile (m name) bytes read in
    let tree : c_file_of bytes ≡ Some file = built_ok CFile (c_file_of bytes) file made in
    let same : record { bytes = bytes; file = file } ≡ source = ok_same (Ok (record { bytes = bytes; file = file })) _ source refl is in
    let same_bytes : bytes ≡ source.bytes = ap (λ (s : Source). s.bytes) same in
    let same_file : file ≡ source.file = ap (λ (s : Source). s.file) same in
    (there ∙ ap Some same_bytes, ap c_file_of (sym same_bytes) ∙ tree ∙ ap Some same_file)

type_file_there : (m : FileMap) (name : List ℕ) (source : Source) (types : t.TypeFile) → type_file m name source ≡ Ok types → (bytes : List ℕ) × (m name ≡ Some bytes) × (type_file_of bytes source.file ≡ Some types)
type_file_there m name source types e =
    let (bytes, read, made) = chain_ok (whole TypeFile (m name)) _ types e in
    (bytes, whole_ok TypeFile (m name) bytes read, built_ok TypeFile (type_file_of bytes source.file) types made)

-- a verdict whose report is Done has no alarm, and the report lists its accesses
no_alarm : (source : List ℕ) (types : t.TypeFile) (name : List ℕ) (accesses : List Access) (alarm : Option Condition)
    → (judged source types name (record { accesses = accesses; alarm = alarm })).status ≡ Done
    → (alarm ≡ None) × ((judged source types name (record { accesses = accesses; alarm = alarm })).text ≡ accepted_report source types name accesses)
no_alarm source types name accesses None done = (refl, refl)
no_alarm source types name accesses (Some a) done = absurd (cc done)

abbrev report_on : Source → t.TypeFile → Option Function → Option FunctionType → Outcome
report_on source types fo go =
    option_map_or
    (λ (f : Function). option_map_or (λ (g : FunctionType). judged source.bytes types f.name.text (verdict_of source.file types f g)) go nothing_to_judge)
    fo nothing_to_judge

safe_as_reported : (source : Source) (types : t.TypeFile) (fo : Option Function) (go : Option FunctionType)
    → IsCForm source.file → IsTypeForm source.file types → source.file.function ≡ fo → types.function ≡ go → AreBoth types.regions fo go
    → (report_on source types fo go).status ≡ Done
    → SafeAsReported source.bytes source.file types (report_on source types fo go).text fo go
safe_as_reported source types None None c_form t_form of_c of_t agree done = refl
safe_as_reported source types (Some f) (Some g) c_form t_form of_c of_t agree done =
    let verdict = verdict_of source.file types f g in
    let (quiet, text) = no_alarm source.bytes types f.name.text verdict.accesses verdict.alarm done in (
      verdict.accesses,
      text,
      no_alarm_is_safe source.file types f g (record { c_form = c_form; type_form = t_form; of_c = of_c; of_types = of_t }) quiet,
    )
safe_as_reported source types None (Some g) c_form t_form of_c of_t agree done = absurd agree
safe_as_reported source types (Some f) None c_form t_form of_c of_t agree done = absurd agree

-- the outcome for two names of files
checked_done : (m : FileMap) (words : List (List ℕ)) (c_name t_name : List ℕ) (before now : Option (List ℕ)) → form_of words ≡ Some (c_name, t_name)
    → (checked m c_name t_name).status ≡ Done → Wrote before now (outcome_of m words).text → Promise m words before now
checked_done m words c_name t_name before now form done wrote =
    let all = ended_ok (c_file m c_name >>= λ source. type_file m t_name source >>= λ types. Ok (report source types)) (all_ends m c_name t_name) done in
    let (source, first, second) = chain_ok (c_file m c_name) _ (checked m c_name t_name) all in
    let (types, made, last) = chain_ok (type_file m t_name source) (λ types. Ok (report source types)) (checked m c_name t_name) second in
    let same : report source types ≡ checked m c_name t_name = ok_same (Ok (report source types)) _ (checked m c_name t_name) refl last in
    let given : checked m c_name t_name ≡ outcome_of m words = ap (λ (f : Option (List ℕ × List ℕ)). option_map_or (λ f. checked m f.0 f.1) f usage) (sym form) in
    let (c_there, c_tree) = c_file_there m c_name source first in
    let (bytes, t_there, t_tree) = type_file_there m t_name source types made in
    let c_text : CFileOf source.bytes source.file = c_file_sound source.bytes source.file c_tree in
    let t_text : TypeFileOf bytes source.file types = type_file_sound bytes source.file types t_tree in
    record {
      c_name = c_name;
      types_name = t_name;
      form = form;
      source = source.bytes;
      c_there = c_there;
      declared = bytes;
      types_there = t_there;
      c = source.file;
      c_text = c_text;
      types = types;
      types_text = t_text;
      safe = subst (λ (o : Outcome). SafeAsReported source.bytes source.file types o.text source.file.function types.function) (same ∙ given)
          (safe_as_reported source types source.file.function types.function c_text.rules t_text.rules refl refl t_text.rules.both (subst (λ (o : Outcome). o.status ≡ Done) (sym same) done));
      wrote = wrote;
    }

form_done : (m : FileMap) (words : List (List ℕ)) (form : Option (List ℕ × List ℕ)) (before now : Option (List ℕ)) → form_of words ≡ form
    → (option_map_or (λ f. checked m f.0 f.1) form usage).status ≡ Done → Wrote before now (outcome_of m words).text → Promise m words before now
form_done m words None before now is done wrote = absurd (cc done)
form_done m words (Some (c_name, t_name)) before now is done wrote = checked_done m words c_name t_name before now is done wrote

ending_done : (m : FileMap) (words : List (List ℕ)) (e : Ending) (before now : Option (List ℕ)) → Tells m words e → (outcome_by e).status ≡ Done → Wrote before now (outcome_by e).text → Promise m words before now
ending_done m words Usage before now tells done wrote = absurd (cc done)
ending_done m words (Absent i) before now tells done wrote = absurd (cc done)
ending_done m words (TooLarge i) before now tells done wrote = absurd (cc done)
ending_done m words (NotBuilt i) before now tells done wrote = absurd (cc done)
ending_done m words (ReadFailed i) before now tells done wrote = absurd (cc done)
ending_done m words (Judged answer) before now tells done wrote =
    form_done m words (form_of words) before now refl (subst (λ (o : Outcome). o.status ≡ Done) (sym tells) done) (subst (λ (o : Outcome). Wrote before now o.text) (sym tells) wrote)

pub done_keeps_promise : (o : Option FileMap) (words : List (List ℕ)) (e : Ending) (a : Outcome) (before now : Option (List ℕ)) → IfSome o (λ m. Tells m words e) → a ≡ outcome_by e → a.status ≡ Done → Wrote before now a.text → IfSome o (λ m. Promise m words before now)
done_keeps_promise None words e a before now tells is done wrote = tt
done_keeps_promise (Some m) words e a before now tells is done wrote =
    ending_done m words e before now tells (subst (λ (x : Outcome). x.status ≡ Done) is done) (subst (λ (x : Outcome). Wrote before now x.text) is wrote)
