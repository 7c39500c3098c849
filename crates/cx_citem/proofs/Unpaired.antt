-- The scan of a file answers its fault: of the brackets that stay open to the end, the first is the first that is open at the end.
use Rattle.std.proofs.Common.{◌≡◌, ℕ, suc, ◌≤◌, ◌<◌, Bool, true, false, ◌&&◌, ◌||◌, nat_lt, List, [], ◌∷◌, ◌++◌, length, Option, Some, None, is_some, refl, sym, ap, ◌∙◌, arith, inl, inr}
use Rattle.std.specs.Prelude.{if◌then◌else◌}
use Rattle.std.proofs.lemmas.Bool.{cases_Bool, false≢true}
use Rattle.std.proofs.lemmas.Bool.Decides.{nat_tests}
use Rattle.cx_base.specs.declared.span.Span.{Span}
use Rattle.cx_cword.specs.declared.lexeme.Lexeme.{Lexeme}
use Rattle.cx_citem.specs.declared.bracket.Bracket.{Bracket}
use Rattle.cx_citem.specs.declared.bracket.Opened.{Opened}
use Rattle.cx_citem.specs.declared.faults.ItemFault.{ItemFault}
use Rattle.cx_citem.specs.declared.faults.ItemFault.TheVariants.{TooDeep}
use Rattle.cx_citem.specs.Items.{Place, beginning, opens, closes, closes_last, without_last, open_after, ends_item, next_place, cut, first_deep, stay_open, first_unpaired, fault_of, unit_fault}
use Rattle.cx_citem.specs.Scanning.{is_deep, is_misplaced, or_span, bottom_after, found_after, unclosed_at, fault_from}

-- ---- the parts of the answer

abbrev span_if : Option Lexeme → Option Span
span_if None = None
span_if (Some o) = Some o.span

abbrev first_span : List Lexeme → Option Span
first_span [] = None
first_span (o ∷ os) = Some o.span

-- the lexeme that is answered, where the first open bracket stays open or not, and the first that is unpaired from here on
abbrev suspect : (bottom found : Option Span) → (stays : Bool) → (unpaired : Option Lexeme) → Option Span
suspect None found stays unpaired = or_span found (span_if unpaired)
suspect (Some b) found stays unpaired = if stays then Some b else or_span found (span_if unpaired)

abbrev suspect_at : Place → (bottom found : Option Span) → List Lexeme → Option Span
suspect_at at bottom found os = suspect bottom found (stay_open 1 at os) (first_unpaired at os)

abbrev answer : (deep unpaired first : Option Span) → Option ItemFault
answer (Some s) unpaired first = Some (TooDeep s)
answer None unpaired first = unclosed_at (or_span unpaired first)

-- while a bracket is open, the first one is noted, or a misplaced lexeme before it
Noted : List Opened → (bottom found : Option Span) → Type 0
Noted [] None found = Unit {0}
Noted [] (Some b) found = ⊥
Noted (w ∷ ws) None None = ⊥
Noted (w ∷ ws) None (Some f) = Unit {0}
Noted (w ∷ ws) (Some b) found = Unit {0}

noted_after : (ws : List Opened) (bottom found : Option Span) (s : Span) → Noted ws (bottom_after ws bottom found s) found
unfolding Noted
noted_after [] bottom found s = tt
noted_after (w ∷ ws) None None s = tt
noted_after (w ∷ ws) None (Some f) s = tt
noted_after (w ∷ ws) (Some b) None s = tt
noted_after (w ∷ ws) (Some b) (Some f) s = tt

-- ---- one lexeme

-- whether one bracket stays open, from before a lexeme
abbrev next_stays : List Opened → Bool → Bool
next_stays [] stays = false
next_stays (w ∷ ws) stays = stays

next_stays_is : (ws : List Opened) (stays : Bool) → (if nat_lt (length ws) 1 then false else stays) ≡ next_stays ws stays
next_stays_is [] stays = refl
next_stays_is (w ∷ ws) stays = let e : nat_lt (length (w ∷ ws)) 1 ≡ false = grind (arith, nat_tests) in rw e refl

-- with the misplaced lexeme that is noted after this one
abbrev found_if : Bool → (found : Option Span) → Span → Option Span
found_if bad found s = or_span found (if bad then Some s else None)

StepIs : (ws : List Opened) (opened sure stays bad : Bool) (bottom found : Option Span) (o : Lexeme) (unpaired : Option Lexeme) → Type 0
StepIs ws opened sure stays bad bottom found o unpaired =
    suspect bottom found (next_stays ws stays) (if (opened && sure) || bad then Some o else unpaired)
    ≡ suspect (bottom_after ws bottom (found_if bad found o.span) o.span) (found_if bad found o.span) stays unpaired

-- a misplaced lexeme came before all brackets that are open
step_found : (ws : List Opened) (opened sure stays bad : Bool) (f : Span) (o : Lexeme) (unpaired : Option Lexeme) → StepIs ws opened sure stays bad None (Some f) o unpaired
unfolding StepIs
step_found [] opened sure stays bad f o unpaired = refl
step_found (w ∷ ws) opened sure stays bad f o unpaired = refl

-- no bracket is open, and nothing was misplaced
step_none : (ws : List Opened) (opened sure stays bad : Bool) (o : Lexeme) (unpaired : Option Lexeme) → (opened ≡ true → 0 < length ws) → (opened ≡ true → sure ≡ stays) → (opened ≡ false → ws ≡ []) → StepIs ws opened sure stays bad None None o unpaired
unfolding StepIs
step_none [] true sure stays bad o unpaired some same none = absurd (omega (arith, some refl))
step_none (w ∷ ws) false sure stays bad o unpaired some same none = absurd (let e : w ∷ ws ≡ [] = none refl in cc)
step_none [] false sure stays true o unpaired some same none = refl
step_none [] false sure stays false o unpaired some same none = refl
step_none (w ∷ ws) true true stays true o unpaired some same none = refl
step_none (w ∷ ws) true false stays true o unpaired some same none = refl
step_none (w ∷ ws) true true true false o unpaired some same none = refl
step_none (w ∷ ws) true false false false o unpaired some same none = refl
step_none (w ∷ ws) true true false false o unpaired some same none = absurd (let e : true ≡ false = same refl in cc)
step_none (w ∷ ws) true false true false o unpaired some same none = absurd (let e : false ≡ true = same refl in cc)

-- a bracket is open
step_open : (ws : List Opened) (opened sure stays bad : Bool) (b : Span) (found : Option Span) (o : Lexeme) (unpaired : Option Lexeme) → (opened ≡ true → 0 < length ws) → (opened ≡ true → sure ≡ true → stays ≡ true) → StepIs ws opened sure stays bad (Some b) found o unpaired
unfolding StepIs
step_open [] true sure stays bad b found o unpaired some below = absurd (omega (arith, some refl))
step_open [] false sure stays true b None o unpaired some below = refl
step_open [] false sure stays true b (Some f) o unpaired some below = refl
step_open [] false sure stays false b None o unpaired some below = refl
step_open [] false sure stays false b (Some f) o unpaired some below = refl
step_open (w ∷ ws) opened sure true bad b found o unpaired some below = refl
step_open (w ∷ ws) true true false bad b found o unpaired some below = absurd (let e : false ≡ true = below refl refl in cc)
step_open (w ∷ ws) true false false true b None o unpaired some below = refl
step_open (w ∷ ws) true false false true b (Some f) o unpaired some below = refl
step_open (w ∷ ws) true false false false b None o unpaired some below = refl
step_open (w ∷ ws) true false false false b (Some f) o unpaired some below = refl
step_open (w ∷ ws) false sure false true b None o unpaired some below = refl
step_open (w ∷ ws) false sure false true b (Some f) o unpaired some below = refl
step_open (w ∷ ws) false sure false false b None o unpaired some below = refl
step_open (w ∷ ws) false sure false false b (Some f) o unpaired some below = refl

step_any : (old ws : List Opened) (opened sure stays bad : Bool) (bottom found : Option Span) (o : Lexeme) (unpaired : Option Lexeme) → Noted old bottom found → (opened ≡ true → 0 < length ws) → (old ≡ [] → opened ≡ true → sure ≡ stays) → (opened ≡ true → sure ≡ true → stays ≡ true) → (old ≡ [] → opened ≡ false → ws ≡ []) → StepIs ws opened sure stays bad bottom found o unpaired
unfolding Noted
step_any old ws opened sure stays bad None (Some f) o unpaired noted some same below none = step_found ws opened sure stays bad f o unpaired
step_any [] ws opened sure stays bad None None o unpaired noted some same below none = step_none ws opened sure stays bad o unpaired some (same refl) (none refl)
step_any (v ∷ vs) ws opened sure stays bad None None o unpaired noted some same below none = absurd noted
step_any [] ws opened sure stays bad (Some b) found o unpaired noted some same below none = absurd noted
step_any (v ∷ vs) ws opened sure stays bad (Some b) found o unpaired noted some same below none = step_open ws opened sure stays bad b found o unpaired some below

-- ---- what the step needs of places

opened_some : (at : Place) (b c : Option Bracket) → is_some b ≡ true → 0 < length (open_after at b c)
opened_some at (Some b) c h = omega arith
opened_some at None c h = absurd (false≢true h)

closed_none : (ws : List Opened) (c : Option Bracket) → ws ≡ [] → (if closes_last ws c then without_last ws else ws) ≡ []
closed_none [] c h = refl
closed_none (w ∷ ws) c h = absurd cc

opened_none : (at : Place) (b c : Option Bracket) → at.open_ ≡ [] → is_some b ≡ false → open_after at b c ≡ []
opened_none at (Some b) c e h = absurd (false≢true (sym h))
opened_none at None c e h = closed_none at.open_ c e

-- where more brackets stay open, fewer do
stays_fewer : (m n : ℕ) (at : Place) (os : List Lexeme) → n ≤ m → stay_open m at os ≡ true → stay_open n at os ≡ true
stays_fewer m n at [] le h = refl
stays_fewer m n at (o ∷ os) le h =
    let depth = length (next_place at o.kind).open_ in
    elim (cases_Bool (nat_lt depth m)) [
      | inl few ↦ absurd (false≢true (rw few at h))
      | inr many ↦ (
          let more : nat_lt depth n ≡ false = grind (arith, nat_tests) in
          let on : stay_open m (next_place at o.kind) os ≡ true = rw many at h in
          rw more (stays_fewer m n (next_place at o.kind) os le on))
    ]

or_regrouped : (a b c : Bool) → ((a || b) || c) ≡ (a || (b || c))
or_regrouped true b c = refl
or_regrouped false b c = refl

suspect_step : (at : Place) (bottom found : Option Span) (o : Lexeme) (os : List Lexeme) → Noted at.open_ bottom found
    → suspect_at at bottom found (o ∷ os) ≡ suspect_at (next_place at o.kind) (bottom_after (next_place at o.kind).open_ bottom (found_after at found o) o.span) (found_after at found o) os
unfolding StepIs
suspect_step at bottom found o os noted =
    let n = next_place at o.kind in
    let opened = is_some (opens o.kind) in
    let sure = stay_open (suc (length at.open_)) n os in
    let unpaired = first_unpaired n os in
    let step = step_any at.open_ n.open_ opened sure (stay_open 1 n os) (is_misplaced at o.kind) bottom found o unpaired noted
    (opened_some at (opens o.kind) (closes o.kind))
    (λ (e : at.open_ ≡ []) (h : opened ≡ true). ap (λ (ws : List Opened). stay_open (suc (length ws)) n os) e)
    (λ (h : opened ≡ true) (s : sure ≡ true). stays_fewer (suc (length at.open_)) 1 n os (omega arith) s)
    (λ (e : at.open_ ≡ []) (h : opened ≡ false). opened_none at (opens o.kind) (closes o.kind) e h) in
    ap (λ (stays : Bool). suspect bottom found stays (first_unpaired at (o ∷ os))) (next_stays_is n.open_ (stay_open 1 n os))
    ∙ ap (λ (t : Bool). suspect bottom found (next_stays n.open_ (stay_open 1 n os)) (if t then Some o else unpaired)) (or_regrouped (opened && sure) _ _)
    ∙ step

-- ---- all lexemes

-- the lexemes of the item so far, after one more
abbrev item_if : (ends : Bool) → List Lexeme → Lexeme → List Lexeme
item_if ends item o = if ends then [] else item ++ o ∷ []

first_span_if : (ends : Bool) (item : List Lexeme) (o : Lexeme) → (if ends then None else or_span (first_span item) (Some o.span)) ≡ first_span (item_if ends item o)
first_span_if true item o = refl
first_span_if false [] o = refl
first_span_if false (i ∷ is) o = refl

cut_if : (ends : Bool) (n : Place) (item : List Lexeme) (o : Lexeme) (os : List Lexeme)
    → (if ends then (let r = cut n [] os in ((item ++ o ∷ []) ∷ r.0, r.1)) else cut n (item ++ o ∷ []) os).1 ≡ (cut n (item_if ends item o) os).1
cut_if true n item o os = refl
cut_if false n item o os = refl

at_end : (bottom found first : Option Span) → unclosed_at (or_span (or_span bottom found) first) ≡ answer None (suspect bottom found true None) first
at_end None None first = refl
at_end None (Some f) first = refl
at_end (Some b) found first = refl

scanned : (at : Place) (bottom found : Option Span) (item os : List Lexeme) → Noted at.open_ bottom found
    → fault_from at bottom found (first_span item) os ≡ answer (span_if (first_deep at os)) (suspect_at at bottom found os) (first_span (cut at item os).1)
unfolding fault_from
scanned at bottom found item [] noted = at_end bottom found (first_span item)
scanned at bottom found item (o ∷ os) noted =
    let n = next_place at o.kind in
    let found' = found_after at found o in
    let bottom' = bottom_after n.open_ bottom found' o.span in
    let ends = ends_item at.open_ o.kind in
    let later = item_if ends item o in
    let next = scanned n bottom' found' later os (noted_after n.open_ bottom found' o.span) in
    let step = suspect_step at bottom found o os noted in
    elim (cases_Bool (is_deep at o.kind)) [
      | inl deep ↦ rw deep refl
      | inr shallow ↦ rw shallow
          (ap (λ (f : Option Span). fault_from n bottom' found' f os) (first_span_if ends item o)
          ∙ next
          ∙ ap (λ (s : Option Span). answer (span_if (first_deep n os)) s (first_span (cut n later os).1)) (sym step)
          ∙ ap (λ (left : List Lexeme). answer (span_if (first_deep n os)) (suspect_at at bottom found (o ∷ os)) (first_span left)) (sym (cut_if ends n item o os)))
    ]

answered : (deep unpaired : Option Lexeme) (left : List Lexeme) → answer (span_if deep) (suspect None None true unpaired) (first_span left) ≡ fault_of deep unpaired left
answered (Some o) u left = refl
answered None (Some o) left = refl
answered None None [] = refl
answered None None (o ∷ os) = refl

pub fault_from_is : (os : List Lexeme) → fault_from beginning None None None os ≡ unit_fault os
unfolding Noted
fault_from_is os = scanned beginning None None [] os tt ∙ answered (first_deep beginning os) (first_unpaired beginning os) (cut beginning [] os).1
