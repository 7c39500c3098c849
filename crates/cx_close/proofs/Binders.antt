-- The known values of binders, one by one.
use Rattle.std.specs.Prelude.{◌≡◌, ℕ, zero, suc, ◌+◌, ◌<◌, List, [], ◌∷◌, ◌++◌, length, Option, Some, None}
use Rattle.std.proofs.Common.{arith, refl, sym, ap, ◌∙◌, length-append, subst}
use Rattle.cx_term.specs.Forms.{Linear}
use Rattle.cx_state.specs.declared.state.Env.{Env}
use Rattle.cx_close.specs.Knowing.{Window, known_binder, with_value, known_binders}

-- the values of the symbols below k are these; those of the others are still to be found
pub record Begun (env : Env) (w : Window) (known : List Linear) (n : ℕ) (values : List Linear) (k : ℕ) : Type 0 where
  pub left : ℕ
  pub count : length values ≡ k
  pub sum : k + left ≡ length known + n
  pub same : known_binders env w left (Some values) ≡ known_binders env w n (Some known)

pub begun-none : (env : Env) (w : Window) (known : List Linear) (n : ℕ) (values : List Linear) → values ≡ known → Begun env w known n values (length known)
begun-none env w known n values e = record { left = n; count = ap length e; sum = refl; same = ap (λ (xs : List Linear). known_binders env w n (Some xs)) e }

pub none_stays : (env : Env) (w : Window) (n : ℕ) → known_binders env w n None ≡ None
none_stays env w zero = refl
none_stays env w (suc n) = none_stays env w n

one_step : (env : Env) (w : Window) (known : List Linear) (n : ℕ) (values : List Linear) (k left : ℕ) (o : Option Linear) → k < length known + n → k + left ≡ length known + n → length values ≡ k → known_binder env w k ≡ o → known_binders env w left (Some values) ≡ known_binders env w n (Some known) → (m : ℕ) × ((k + 1) + m ≡ length known + n) × (known_binders env w m (with_value values o) ≡ known_binders env w n (Some known))
one_step env w known n values k zero o l s c b e = absurd (omega (arith, l, s))
one_step env w known n values k (suc m) o l s c b e =
    let q : known_binder env w (length values) ≡ o = ap (known_binder env w) c ∙ b in
    (m, omega (arith, s), subst (λ (x : Option Linear). known_binders env w m (with_value values x) ≡ known_binders env w n (Some known)) q e)

pub begun-more : (env : Env) (w : Window) (known : List Linear) (n : ℕ) (values : List Linear) (k : ℕ) (t : Linear) → k < length known + n → Some t ≡ known_binder env w k → Begun env w known n values k → Begun env w known n (values ++ t ∷ []) (k + 1)
begun-more env w known n values k t l b h =
    let m = one_step env w known n values k h.left (Some t) l h.sum h.count (sym b) h.same in
    record { left = m.0; count = omega (arith, h.count, length-append values (t ∷ [])); sum = m.1; same = m.2 }

pub begun-stops : (env : Env) (w : Window) (known : List Linear) (n : ℕ) (values : List Linear) (k : ℕ) → k < length known + n → None ≡ known_binder env w k → Begun env w known n values k → None ≡ known_binders env w n (Some known)
begun-stops env w known n values k l b h =
    let m = one_step env w known n values k h.left None l h.sum h.count (sym b) h.same in
    sym (none_stays env w m.0) ∙ m.2

all_by : (env : Env) (w : Window) (known : List Linear) (n : ℕ) (values : List Linear) (left : ℕ) → left ≡ 0 → known_binders env w left (Some values) ≡ known_binders env w n (Some known) → Some values ≡ known_binders env w n (Some known)
all_by env w known n values zero z e = e
all_by env w known n values (suc m) z e = absurd (omega (arith, z))

pub begun-all : (env : Env) (w : Window) (known : List Linear) (n : ℕ) (values : List Linear) (k : ℕ) → k ≡ length known + n → Begun env w known n values k → Some values ≡ known_binders env w n (Some known)
begun-all env w known n values k e h = all_by env w known n values h.left (omega (arith, h.sum, e)) h.same
