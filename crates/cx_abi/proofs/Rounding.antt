-- Where rounding up leads.
use Rattle.std.proofs.Common.{◌≤◌, ◌+◌, ◌-◌, ◌*◌, ◌/◌, ℕ, arith}
use Rattle.std.proofs.Math.Nat.{div-mul-le_self, mod-lt, mod-add-div'}
use Rattle.cx_ctree.specs.Layouts.{round_up}

pub rounds_down : (n m : ℕ) → n / m * m ≤ n
rounds_down n m = div-mul-le_self n m

pub round_up_over : (a n : ℕ) → 1 ≤ a → n ≤ round_up a n
round_up_over a n h =
    let parts = mod-add-div' (n + (a - 1)) a in
    let rest = mod-lt (n + (a - 1)) {m = a} (omega (arith, h)) in
    omega (arith, parts, rest, h)
