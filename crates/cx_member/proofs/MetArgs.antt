-- The values of a function's binders with which arguments meet it.
use Rattle.std.specs.Prelude.{◌≡◌, ◌↔◌, Bool, true, IsTrue, ℕ, ℤ, ◌≤◌, List, [], ◌++◌, drop, length, All, slice_get, Option, Some, None, IfSome}
use Rattle.std.specs.List.{AllByRecursion}
use Rattle.std.proofs.Common.{arith, refl, sym, ap, ◌∙◌, subst, get_or}
use Rattle.std.proofs.lemmas.Option.{get_or_from_slice_get, slice_get_within}
use Rattle.cx_cells.specs.Calls.{ArgsMeet, ValuesHold, ValueHolds, ValueMeets, ResultMeets}
use Rattle.cx_cells.specs.Kept.{FnKept, ResultKept}
use Rattle.cx_cells.specs.Layouts.{Extent}
use Rattle.cx_term.specs.Conditions.{Holds}
use Rattle.cx_cells.specs.Values.{values_of}
use Rattle.cx_cells.specs.declared.calls.FnType.{FnType}
use Rattle.cx_cells.specs.declared.calls.ResultType.{ResultType}
use Rattle.cx_cells.specs.declared.form.Form.{Form}
use Rattle.cx_member.specs.Passing.{ArgsHold, ResultHolds, FnReads, ResultReads, ArgsMeetWith, MeetOnly, MeetNone, ResultMeetsWith}
use Rattle.cx_member.specs.Reading.{Binds, BindsNone}
use Rattle.cx_member.proofs.Bindings.{binders_known, binders_count}

module _ (fn : FnType) (args : List ℤ) (layout : List Extent) where
  pub meet_only : (values : List ℤ) → Binds (ArgsHold layout fn.args args) [] fn.binders values → ArgsMeetWith fn values args layout → MeetOnly fn args layout values
  meet_only values b h = record {
    meets = record { count = (let c = b.count in omega arith); each = h.each; conds = h.conds };
    only = λ bs m. b.only bs m.count m.each;
    small = b.small;
  }

  pub meet_none_with : (values : List ℤ) → Binds (ArgsHold layout fn.args args) [] fn.binders values → (ArgsMeetWith fn values args layout → ⊥) → MeetNone fn args layout
  meet_none_with values b n bs m =
      let e : bs ≡ values = b.only bs m.count m.each in
      n (record {
        each = subst (λ zs. ValuesHold (values_of zs) layout fn.args args) e m.each;
        conds = subst (λ zs. AllByRecursion (Holds (values_of zs)) fn.conds) e m.conds;
      })

  pub meet_none : BindsNone (ArgsHold layout fn.args args) [] fn.binders → MeetNone fn args layout
  meet_none b bs m = b bs m.count m.each

-- ---- results

module _ (r : ResultType) (known : List ℤ) (layout : List Extent) (z : ℤ) where
  value_from : (values : List ℤ) → Binds (ResultHolds layout r.cell z) known r.binders values → ResultMeetsWith r values layout z → ValueMeets r known layout z
  value_from values b h =
      let e = sym (binders_known (ResultHolds layout r.cell z) known r.binders values b) in
      record {
        binders = drop (length known) values;
        count = binders_count (ResultHolds layout r.cell z) known r.binders values b;
        conds = subst (λ zs. AllByRecursion (Holds (values_of zs)) r.conds) e h.conds;
        value = subst (λ zs. ValueHolds (values_of zs) layout r.cell z) e h.value;
      }

  value_to : (values : List ℤ) → Binds (ResultHolds layout r.cell z) known r.binders values → ValueMeets r known layout z → ResultMeetsWith r values layout z
  value_to values b m =
      let e : known ++ m.binders ≡ values = b.only m.binders m.count m.value in
      record {
        conds = subst (λ zs. AllByRecursion (Holds (values_of zs)) r.conds) e m.conds;
        value = subst (λ zs. ValueHolds (values_of zs) layout r.cell z) e m.value;
      }

  pub value_is : (values : List ℤ) → Binds (ResultHolds layout r.cell z) known r.binders values → ResultMeetsWith r values layout z ↔ ValueMeets r known layout z
  value_is values b = (value_from values b, value_to values b)

  pub value_none : BindsNone (ResultHolds layout r.cell z) known r.binders → ValueMeets r known layout z → ⊥
  value_none b m = b m.binders m.count m.value

-- ---- what rules keep

result-reads : (forms : List Form) (known : ℕ) (r : Option ResultType) → IfSome r (ResultKept forms known) → IfSome r (ResultReads known)
result-reads forms known None k = tt
result-reads forms known (Some r) k = record { few = k.binders; told = k.told }

-- the binders of each function of the rules can be bound
pub fn_reads : (forms : List Form) (fns : List FnType) → All (FnKept forms) fns → (i : ℕ) (fn : FnType) → slice_get fns i ≡ Some fn → FnReads fn
fn_reads forms fns k i fn e =
    let g : FnKept forms (get_or fns i fn) = k i fn (slice_get_within fns i fn e) in
    let h : get_or fns i fn ≡ fn = get_or_from_slice_get fns i fn fn e in
    let x = rw h at g in
    record { few = x.binders; told = x.told; result = result-reads forms fn.binders fn.result x.result }

-- ---- what is given, for all values of the binders

-- with the only values it is the same as with all that the arguments meet
pub given_is : (fn : FnType) (args : List ℤ) (before after : List Extent) (values known : List ℤ) (given : Option ℤ) (r : Bool) → MeetOnly fn args before values → known ≡ values → IsTrue r ↔ ResultMeets fn.result known after given → IsTrue r ↔ ((binders : List ℤ) → ArgsMeet fn binders args before → ResultMeets fn.result binders after given)
given_is fn args before after values known given r m e h = (
  (λ t bs x. subst (λ zs. ResultMeets fn.result zs after given) (e ∙ sym (m.only bs x)) (h.0 t)),
  (λ k. h.1 (k known (subst (λ zs. ArgsMeet fn zs args before) (sym e) m.meets))),
)

pub given_none : (fn : FnType) (args : List ℤ) (before after : List Extent) (given : Option ℤ) → MeetNone fn args before → IsTrue true ↔ ((binders : List ℤ) → ArgsMeet fn binders args before → ResultMeets fn.result binders after given)
given_none fn args before after given n = ((λ t bs x. absurd (n bs x)), (λ k. refl))

pub result_reads : (fn : FnType) (args : List ℤ) (before : List Extent) (values known : List ℤ) → FnReads fn → MeetOnly fn args before values → known ≡ values → IfSome fn.result (ResultReads (length known))
result_reads fn args before values known k m e = subst (λ n. IfSome fn.result (ResultReads n)) (sym m.meets.count ∙ ap length (sym e)) k.result

pub result_few : (fn : FnType) (args : List ℤ) (before : List Extent) (values known : List ℤ) → FnReads fn → MeetOnly fn args before values → known ≡ values → length known ≤ 24
result_few fn args before values known k m e =
    let c : length values ≡ fn.binders = m.meets.count in
    let g : length known ≡ length values = ap length e in
    let f = k.few in
    omega arith
