-- The values of binders, one by one.
use Rattle.std.specs.Prelude.{◌≡◌, ℕ, zero, suc, ◌+◌, ◌<◌, ◌≤◌, length, Result, Ok, Err}
use Rattle.std.proofs.Common.{arith, refl, sym, ap, ◌∙◌}
use Rattle.cx_state.specs.declared.state.EnvFault.{EnvFault}
use Rattle.cx_state.specs.declared.state.EnvFault.TheVariants.{Limit, NoMemory}
use Rattle.cx_close.specs.Knowing.{Window}
use Rattle.cx_open.specs.Steps.{bind, AgreesOn}
use Rattle.cx_open.specs.Naming.{next_bound, bound}
use Rattle.cx_open.specs.declared.naming.Opening.{Opening}

-- after i of the n binders these are left to be taken
pub record Bound (w : Window) (n : ℕ) (first o : Opening) (i : ℕ) : Type 0 where
  pub left : ℕ
  pub sum : i + left ≡ n
  pub count : length o.terms + left ≡ length first.terms + n
  pub same : bound left w o ≡ bound n w first

pub bound-none : (w : Window) (n : ℕ) (o : Opening) → Bound w n o o 0
bound-none w n o = record { left = n; sum = omega arith; count = refl; same = refl }

more_by : (w : Window) (n : ℕ) (first o next : Opening) (i left : ℕ) → i < n → i + left ≡ n → length o.terms + left ≡ length first.terms + n → bound left w o ≡ bound n w first → length next.terms ≡ length o.terms + 1 → next_bound w o ≡ Ok next → Bound w n first next (i + 1)
more_by w n first o next i zero l s f e c q = absurd (omega (arith, l, s))
more_by w n first o next i (suc m) l s f e c q =
    let g : bind (next_bound w o) (λ x. bound m w x) ≡ bound m w next = ap (λ (x : Result Opening EnvFault). bind x (λ y. bound m w y)) q in
    record { left = m; sum = omega (arith, s); count = omega (arith, f, c); same = sym g ∙ e }

pub bound-more : (w : Window) (n : ℕ) (first o next : Opening) (i : ℕ) → i < n → length next.terms ≡ length o.terms + 1 → next_bound w o ≡ Ok next → Bound w n first o i → Bound w n first next (i + 1)
bound-more w n first o next i l c q h = more_by w n first o next i h.left l h.sum h.count h.same c q

stops_by : (w : Window) (n : ℕ) (first o : Opening) (i left : ℕ) (fault : EnvFault) → i < n → i + left ≡ n → bound left w o ≡ bound n w first → next_bound w o ≡ Err fault → bound n w first ≡ Err fault
stops_by w n first o i zero fault l s e q = absurd (omega (arith, l, s))
stops_by w n first o i (suc m) fault l s e q = sym e ∙ ap (λ (x : Result Opening EnvFault). bind x (λ y. bound m w y)) q

pub bound-stops : (w : Window) (n : ℕ) (first o : Opening) (i : ℕ) (fault : EnvFault) → i < n → AgreesOn (Err fault) (next_bound w o) → Bound w n first o i → AgreesOn (Err fault) (bound n w first)
bound-stops w n first o i NoMemory l q h = tt
bound-stops w n first o i (Limit kind) l q h = stops_by w n first o i h.left (Limit kind) l h.sum h.same q

all_by : (w : Window) (n : ℕ) (first o : Opening) (left : ℕ) → left ≡ 0 → bound left w o ≡ bound n w first → bound n w first ≡ Ok o
all_by w n first o zero z e = sym e
all_by w n first o (suc m) z e = absurd (omega (arith, z))

pub bound-all : (w : Window) (n : ℕ) (first o : Opening) (i : ℕ) → i ≡ n → Bound w n first o i → bound n w first ≡ Ok o
bound-all w n first o i e h = all_by w n first o h.left (omega (arith, h.sum, e)) h.same

pub bound-few : (w : Window) (n : ℕ) (first o : Opening) (i : ℕ) → length first.terms + n ≤ 40 → Bound w n first o i → length o.terms ≤ 40
bound-few w n first o i l h = omega (arith, l, h.count)

pub bound-count : (w : Window) (n : ℕ) (first o : Opening) (i : ℕ) → i ≡ n → Bound w n first o i → length o.terms ≡ length first.terms + n
bound-count w n first o i e h = omega (arith, h.sum, h.count, e)
