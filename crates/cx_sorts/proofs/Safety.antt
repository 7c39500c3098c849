-- What the rules accept is safe.
use Rattle.std.proofs.Common.{◌++◌, ◌≡◌, ℕ, zero, suc, ◌<◌, ◌^◌, List, [], ◌∷◌, get_or, map, Bool, true, false, Option, Some, None, Result, Ok, Err, option_and_then, IfSome, refl, sym, ap, ap₂, ◌∙◌, subst, arith, if◌then◌else◌, append-nil}
use Rattle.std.specs.List.{All, AllZip}
use Rattle.std.proofs.lemmas.List.Elements.{All-cons, All-nil, All-head, All-tail}
use Rattle.cx_base.specs.declared.memory.Region.{Region}
use Rattle.cx_base.specs.declared.span.Span.{Span}
use Rattle.cx_form.specs.declared.tree.Word.{Word}
use Rattle.cx_form.specs.declared.tree.ValueType.{ValueType}
use Rattle.cx_form.specs.declared.tree.ValueType.TheVariants as value
use Rattle.cx_form.specs.declared.tree.Parameter.{Parameter}
use Rattle.cx_form.specs.declared.tree.Argument.{Argument}
use Rattle.cx_form.specs.declared.tree.Statement.{Statement}
use Rattle.cx_form.specs.declared.tree.Ending.{Ending}
use Rattle.cx_form.specs.declared.tree.CFile.{CFile}
use Rattle.cx_form.specs.declared.tree.Function.{Function}
use Rattle.cx_form.specs.declared.tree.FunctionType.{FunctionType}
use Rattle.cx_form.specs.declared.tree.TypeFile.{TypeFile}
use Rattle.cx_form.specs.Form.{IsCForm, IsFunction, IsTypeForm, IsStatement, Returns, AreBothVoid, AreBoth, AreAgreed, ctype_of}
use Rattle.cx_form.specs.Form as rules_of_form
use Rattle.cx_sorts.specs.declared.verdict.Access.{Access}
use Rattle.cx_sorts.specs.declared.verdict.Verdict.{Verdict}
use Rattle.cx_sorts.specs.declared.verdict.Sort.{Sort}
use Rattle.cx_sorts.specs.TypedMemory.{Extent, layout, Extends, Holds}
use Rattle.cx_sorts.specs.Meaning.{State, MemoryAccess, Run, End, Fault, Return, step, value_of, returned, return_of, run_body, run_of}
use Rattle.cx_sorts.specs.Meaning as meaning
use Rattle.cx_sorts.specs.Safe.{InType, ResultMeets, IsListed, EndsWell, Safe, AreOfForm}
use Rattle.cx_sorts.specs.Rules.{sort_of, known_target, fits, rule, access_span, result_alarm, return_alarm, judge, verdict_of}
use Rattle.cx_sorts.specs.Rules as rules
use Rattle.cx_sorts.proofs.Lists.{all_zip_length}
use Rattle.cx_sorts.proofs.Sorts.{SortHolds, Stands, sort_holds, fits_holds, variable_value}
use Rattle.cx_sorts.proofs.Steps.{Meets, Goes, goes, variable_place}

below : (t : ValueType) (v : ℕ) → v < 2 ^ 64 → InType t v
below value.UnsignedLong v h = h
below (value.Pointer tag) v h = h

small : (t : ValueType) (v : ℕ) → InType t v → v < 2 ^ 64
small value.UnsignedLong v h = h
small (value.Pointer tag) v h = h

fitting : {A : Type 0} (b : Bool) (x : A) → (if b then None else Some x) ≡ None → b ≡ true
fitting true x e = refl
fitting false x e = cc

same_extent : (memory : List Region) → Extends memory memory
same_extent memory = ([], sym (append-nil (layout memory)))

module _ (c : CFile) (types : TypeFile) (f : Function) (declared : FunctionType) where
  -- the return
  result_meets :
      (sorts : List Sort) (s : State) (e : Ending) (r : Option ValueType) (d : Option Argument) (x : Option Word) → Stands c types f sorts s
      → Returns f.parameters r x → AreBothVoid r d → result_alarm types f sorts e.span x d ≡ None
      → (option : Option ℕ) × (returned f s x ≡ Return option s.memory)
      × ResultMeets types (layout s.memory) r d option
  result_meets sorts s e None None None stands returned both quiet = (None, refl, tt)
  result_meets sorts s e None None (Some x) stands returned both quiet = absurd returned
  result_meets sorts s e None (Some d) x stands returned both quiet = absurd both
  result_meets sorts s e (Some t) None x stands returned both quiet = absurd both
  result_meets sorts s e (Some t) (Some d) None stands returned both quiet = absurd returned
  result_meets sorts s e (Some t) (Some d) (Some x) stands returned both quiet =
      let (i, place) = variable_place f x (ctype_of t) returned in
      let (v, value, less, points) = variable_value c types f sorts s stands x i place in
      let fit : fits types (known_target f sorts x) d ≡ true = fitting (fits types (known_target f sorts x) d) (record { number = 14; span = e.span }) quiet in
      (Some v, rw value refl, (below t v less, fits_holds types (layout s.memory) (known_target f sorts x) d v points fit))

  no_value : (s : State) (r : Option ValueType) (d : Option Argument) → Returns f.parameters r None → AreBothVoid r d → ResultMeets types (layout s.memory) r d None
  no_value s None None returned both = tt
  no_value s None (Some d) returned both = absurd both
  no_value s (Some t) d returned both = absurd returned

  ends :
      (sorts : List Sort) (s : State) (ending : Option Ending) → Stands c types f sorts s → Returns f.parameters f.result (rules_of_form.value_of ending)
      → AreBothVoid f.result declared.result → option_and_then (λ (e : Ending). result_alarm types f sorts e.span e.value declared.result) ending ≡ None
      → EndsWell c types f declared s.memory (return_of f s ending)
  ends sorts s None stands returned both quiet = (same_extent s.memory, stands.typed, no_value s f.result declared.result returned both)
  ends sorts s (Some e) stands returned both quiet =
      let (option, is, meets) = result_meets sorts s e f.result declared.result e.value stands returned both quiet in
      subst (EndsWell c types f declared s.memory) (sym is) (same_extent s.memory, stands.typed, meets)

-- a run after which the memory has the layout before
ends_before : (c : CFile) (types : TypeFile) (f : Function) (declared : FunctionType) (before after : List Region) (end : End) → layout after ≡ layout before → EndsWell c types f declared after end → EndsWell c types f declared before end
ends_before c types f declared before after (Fault span) same h = absurd h
ends_before c types f declared before after (Return v memory) same (extends, typed, meets) =
    ((extends.0, extends.1 ∙ ap (λ (l : List Extent). l ++ extends.0) same), typed, meets)

-- a run with the accesses that the verdict lists, which ends well
abbrev Well : CFile → TypeFile → Function → FunctionType → List Region → Verdict → Run → Type 0
Well c types f declared memory verdict run = AllZip Meets verdict.accesses run.accesses × EndsWell c types f declared memory run.end

module _ (c : CFile) (types : TypeFile) (f : Function) (declared : FunctionType) (cform : IsCForm c) (tform : IsTypeForm c types) where
  statement_well :
      (statement : Statement) (rest : List Statement) (sorts : List Sort) (s : State) (ruled : Result (Access × List Sort) ℕ) → rule c types f sorts statement ≡ ruled
      → ((next : List Sort) (after : State) → Stands c types f next after → (judge c types f declared rest next).alarm ≡ None
      → Well c types f declared after.memory (judge c types f declared rest next) (run_body c f rest after))
      → IsStatement c.structs f.parameters statement → Stands c types f sorts s
      → (rules.go_on (access_span statement) ruled (λ (next : List Sort). judge c types f declared rest next)).alarm ≡ None
      → Well c types f declared s.memory (rules.go_on (access_span statement) ruled (λ (next : List Sort). judge c types f declared rest next))
      (meaning.go_on (step c f s statement) (λ (next : State). run_body c f rest next))
  statement_well statement rest sorts s (Err number) is well form stands quiet = cc
  statement_well statement rest sorts s (Ok (access, next)) is well form stands quiet =
      let on : Goes c types f next access s statement = goes c types f cform tform sorts s stands statement access next form is in
      let (accesses, end) = well next on.after on.stands quiet in
      let run : Run = run_body c f rest on.after in
      subst
      (λ (r : Result (MemoryAccess × State) Span).
      Well c types f declared s.memory (rules.go_on (access_span statement) (Ok (access, next)) (λ (next : List Sort). judge c types f declared rest next))
      (meaning.go_on r (λ (next : State). run_body c f rest next)))
      (sym on.is)
      ((on.meets, accesses), ends_before c types f declared s.memory on.after.memory (run_body c f rest on.after).end on.same end)

  body_well :
      (body : List Statement) (sorts : List Sort) (s : State) → All (IsStatement c.structs f.parameters) body → Returns f.parameters f.result (rules_of_form.value_of f.ending)
      → AreBothVoid f.result declared.result → Stands c types f sorts s → (judge c types f declared body sorts).alarm ≡ None
      → Well c types f declared s.memory (judge c types f declared body sorts) (run_body c f body s)
  body_well [] sorts s forms returned both stands quiet = (tt, ends c types f declared sorts s f.ending stands returned both quiet)
  body_well (statement ∷ rest) sorts s forms returned both stands quiet =
      let IsForm : Statement → Type 0 = IsStatement c.structs f.parameters in
      statement_well statement rest sorts s (rule c types f sorts statement) refl
      (λ next after stands quiet. body_well rest next after (All-tail IsForm statement rest forms) returned both stands quiet)
      (All-head IsForm statement rest forms) stands quiet

-- the arguments have the sorts of their declared types
sorted_first : (types : TypeFile) (regions : List Extent) (declared : List Argument) (values : List ℕ) → AllZip (Holds types regions) declared values → AllZip (SortHolds regions) (map (sort_of types) declared) values
sorted_first types regions [] [] h = tt
sorted_first types regions [] (v ∷ vs) h = absurd h
sorted_first types regions (a ∷ declared) [] h = absurd h
sorted_first types regions (a ∷ declared) (v ∷ vs) (h, hs) = (sort_holds types regions a v h, sorted_first types regions declared vs hs)

small_first : (parameters : List Parameter) (values : List ℕ) → AllZip (λ (p : Parameter) v. InType p.ctype v) parameters values → All (λ v. v < 2 ^ 64) values
small_first [] [] h = All-nil (λ v. v < 2 ^ 64)
small_first [] (v ∷ vs) h = absurd h
small_first (p ∷ ps) [] h = absurd h
small_first (p ∷ ps) (v ∷ vs) (h, hs) = All-cons (λ v. v < 2 ^ 64) v vs (small p.ctype v h) (small_first ps vs hs)

-- a list of accesses that meet the table one by one is listed in it
listed_more : (table : List Access) (first : Access) (made : MemoryAccess) → IsListed table made → IsListed (first ∷ table) made
listed_more table first made h =
    let (k, within, is) = h.listed in
    record { region = h.region; there = h.there; inside = h.inside; listed = (suc k, omega arith, is) }

all_listed : (table : List Access) (made : List MemoryAccess) → AllZip Meets table made → All (IsListed table) made
all_listed [] [] h = All-nil (IsListed [])
all_listed [] (m ∷ ms) h = absurd h
all_listed (a ∷ table) [] h = absurd h
all_listed (a ∷ table) (m ∷ ms) (h, hs) =
    let first : a ≡ record { span = m.span; name = h.region.name } = ap₂ (λ (x : Span) (y : ℕ). record { span = x; name = y }) h.span h.name in
    All-cons (IsListed (a ∷ table)) m ms
    (record { region = h.region; there = h.there; inside = h.inside; listed = (zero, omega arith, first) })
    (λ k d less. listed_more table a (get_or ms k d) (all_listed table ms hs k d less))

pub no_alarm_is_safe :
    (c : CFile) (types : TypeFile) (f : Function) (declared : FunctionType) → AreOfForm c types f declared → (verdict_of c types f declared).alarm ≡ None → Safe c types f declared (verdict_of c types f declared).accesses
no_alarm_is_safe c types f declared form quiet = λ memory values typed meets.
    let of_form : IsFunction c.structs f = subst (λ (o : Option Function). IfSome o (IsFunction c.structs)) form.of_c form.c_form.the_function in
    let agreed : AreAgreed types.regions f declared =
    subst (λ (o : Option FunctionType). AreBoth types.regions (Some f) o) form.of_types
    (subst (λ (o : Option Function). AreBoth types.regions o types.function) form.of_c form.type_form.both)
    in
    let stands : Stands c types f (map (sort_of types) declared.arguments) (record { values = values; memory = memory }) =
    record {
      typed = typed;
      count = sym (all_zip_length (λ (p : Parameter) v. InType p.ctype v) f.parameters values meets.in_type);
      small = small_first f.parameters values meets.in_type;
      sorted = sorted_first types (layout memory) declared.arguments values meets.hold;
    }
    in
    let (accesses, end) =
    body_well c types f declared form.c_form form.type_form f.body (map (sort_of types) declared.arguments) (record { values = values; memory = memory })
    of_form.statements of_form.returned agreed.result stands quiet
    in
    (all_listed (verdict_of c types f declared).accesses (run_of c f values memory).accesses accesses, end)

pub verdict_is_safe :
    (c : CFile) (types : TypeFile) (f : Function) (declared : FunctionType) (v : Verdict) → v ≡ verdict_of c types f declared
    → AreOfForm c types f declared → v.alarm ≡ None → Safe c types f declared v.accesses
verdict_is_safe c types f declared v is form quiet =
    subst (λ (w : Verdict). Safe c types f declared w.accesses) (sym is)
    (no_alarm_is_safe c types f declared form (ap (λ (w : Verdict). w.alarm) (sym is) ∙ quiet))
