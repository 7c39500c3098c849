-- Forms that stand for numbers, and what is made of them.
use Rattle.std.specs.Prelude.{◌≡◌, ℕ, ℤ, ◌≤◌, List, [], ◌∷◌, ◌++◌, length, All, Some, Result, Ok, Err}
use Rattle.std.proofs.Common.{arith, refl, sym, ap, ◌∙◌, subst}
use Rattle.std.proofs.lemmas.List.{length-map, map-append}
use Rattle.std.proofs.lemmas.List.Elements.{All-push}
use Rattle.cx_term.specs.Forms.{Linear, value}
use Rattle.cx_term.specs.Replaced.{put_all}
use Rattle.cx_cells.specs.Values.{values_of, all_values}
use Rattle.cx_state.specs.Valid.{TermBelow}
use Rattle.cx_state.specs.declared.state.Env.{Env}
use Rattle.cx_state.specs.declared.state.EnvFault.{EnvFault}
use Rattle.cx_query.specs.Kinds.{instance}
use Rattle.cx_query.proofs.Comes.{Comes}
use Rattle.cx_query.proofs.KindLaws.{instance-comes}
use Rattle.cx_learn.specs.Answers.{Answer, and_then}
use Rattle.cx_learn.proofs.Below.{IfBelow, fit-below, put_all-below}
use Rattle.cx_close.proofs.Known.{value-numbers}
use Rattle.cx_open.specs.Steps.{bind}
use Rattle.cx_opens.specs.Opened.{Agree}
use Rattle.cx_opens.proofs.Carried.{values-agree}

-- ---- steps that do not pass a limit
pub record Bound {X Y : Type 0} (r : Result X EnvFault) (step : X → Result Y EnvFault) (y : Y) : Type 0 where
  pub x : X
  pub first : r ≡ Ok x
  pub then_ : step x ≡ Ok y

pub bind-ok : {X Y : Type 0} (r : Result X EnvFault) (step : X → Result Y EnvFault) (y : Y) → bind r step ≡ Ok y → Bound r step y
bind-ok (Ok x) step y e = record { x = x; first = refl; then_ = e }
bind-ok (Err fault) step y e = absurd (cc)

pub record Both (a : Answer) (step : Env → Answer) (y : Env) : Type 0 where
  pub x : Env
  pub first : a ≡ Ok x
  pub then_ : step x ≡ Ok y

pub then-ok : (a : Answer) (step : Env → Answer) (y : Env) → and_then a step ≡ Ok y → Both a step y
then-ok (Ok x) step y e = record { x = x; first = refl; then_ = e }
then-ok (Err fault) step y e = absurd (cc)

-- ---- forms for numbers
-- the forms have these values, and name symbols below n
pub record Terms (v : ℕ → ℤ) (n : ℕ) (ts : List Linear) (zs : List ℤ) : Type 0 where
  pub values : all_values v ts ≡ zs
  pub below : All (TermBelow n) ts

pub terms-more : (v w : ℕ → ℤ) (n m : ℕ) (ts : List Linear) (zs : List ℤ) → Agree n v w → n ≤ m → Terms v n ts zs → Terms w m ts zs
terms-more v w n m ts zs a l h = record { values = values-agree n v w ts a h.below ∙ h.values; below = λ k d i. (let x = h.below k d i in λ j c q. (let y = x j c q in omega (arith, l, y))) }

pub terms-push : (v : ℕ → ℤ) (n : ℕ) (ts : List Linear) (zs : List ℤ) (t : Linear) (z : ℤ) → Terms v n ts zs → value v t ≡ z → TermBelow n t → Terms v n (ts ++ t ∷ []) (zs ++ z ∷ [])
terms-push v n ts zs t z h e b =
    let q : all_values v (ts ++ t ∷ []) ≡ all_values v ts ++ value v t ∷ [] = map-append (value v) ts (t ∷ []) in
    record { values = q ∙ ap (λ (xs : List ℤ). xs ++ value v t ∷ []) h.values ∙ ap (λ (x : ℤ). zs ++ x ∷ []) e; below = All-push (TermBelow n) ts t h.below b }

pub terms-count : (v : ℕ → ℤ) (n : ℕ) (ts : List Linear) (zs : List ℤ) → Terms v n ts zs → length ts ≡ length zs
terms-count v n ts zs h = sym (length-map ts (value v)) ∙ ap length h.values

-- what the type says at the numbers, its instance is at the forms
pub instance-value : (v : ℕ → ℤ) (n : ℕ) (ts : List Linear) (zs : List ℤ) (u : Linear) → Terms v n ts zs → Comes v (instance (Some ts) u) (value (values_of zs) u)
instance-value v n ts zs u h =
    let e = value-numbers v ts u ∙ ap (λ (xs : List ℤ). value (values_of xs) u) h.values in
    subst (λ (z : ℤ). Comes v (instance (Some ts) u) z) e (instance-comes v (Some ts) u)

pub instance-below : (v : ℕ → ℤ) (n : ℕ) (ts : List Linear) (zs : List ℤ) (u : Linear) → Terms v n ts zs → IfBelow n (instance (Some ts) u)
instance-below v n ts zs u h = fit-below n (put_all ts u) (put_all-below n ts u h.below)

pub instance-within : (n : ℕ) (ts : List Linear) (u : Linear) → All (TermBelow n) ts → IfBelow n (instance (Some ts) u)
instance-within n ts u h = fit-below n (put_all ts u) (put_all-below n ts u h)
