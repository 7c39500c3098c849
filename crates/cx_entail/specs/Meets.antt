-- The common numbers of two ranges.
use Rattle.std.specs.Prelude.{◌≡◌, ℕ, ℤ, pos, ◌*ℤ◌, ◌≤ℤ◌, ◌<◌, ◌≤◌, ◌^◌, ◌*◌, ◌/◌, unsigned_abs, nat_lt, if◌then◌else◌}
use Rattle.std.specs.Int.{IsGcd, int_rem_euclid}
use Rattle.cx_entail.specs.Ranges.{Congruent, Span, Has}
use Rattle.cx_entail.specs.Joins.{gcd}

-- the number is in both
abbrev pub Both : Span → Span → ℤ → Type 0
Both a b v = Has a v × Has b v

abbrev pub HaveNone : Span → Span → Type 0
HaveNone a b = (v : ℤ) → Both a b v → ⊥

-- the least number in both
pub record IsLeastOfBoth (a b : Span) (x : ℤ) : Type 0 where
  pub both : Both a b x
  pub least : (v : ℤ) → Both a b v → x ≤ℤ v

-- the greatest number in both
pub record IsGreatestOfBoth (a b : Span) (x : ℤ) : Type 0 where
  pub both : Both a b x
  pub greatest : (v : ℤ) → Both a b v → v ≤ℤ x

-- the least common multiple
abbrev pub lcm : ℕ → ℕ → ℕ
lcm m n = m * (n / gcd m n)

-- c is the meet of a and b: its ends are the least and the greatest common number; where the lcm of the moduli is below 2^64
-- it has the common numbers and no other, else the modulus and the remainder of a
pub record IsMeet (a b c : Span) : Type 0 where
  pub low : IsLeastOfBoth a b c.lo
  pub high : IsGreatestOfBoth a b c.hi
  pub has : (v : ℤ) → Both a b v → Has c v
  pub exact : lcm a.m b.m < 2 ^ 64 → (v : ℤ) → Has c v → Both a b v
  pub modulus : lcm a.m b.m < 2 ^ 64 → c.m ≡ lcm a.m b.m
  pub first : 2 ^ 64 ≤ lcm a.m b.m → (c.m ≡ a.m) × (c.r ≡ a.r)

-- ---- what the search for the least common number makes
-- g is the greatest common divisor, and a times s is g modulo b
pub record IsInverse (a b g s : ℕ) : Type 0 where
  pub gcd : IsGcd a b g
  pub times : Congruent b (pos a *ℤ pos s) (pos g)

abbrev pub from : ℤ → Span → Span
from lo a = record a { lo = lo }

-- t is s times the number that g divides d into, modulo k
pub record IsMultiple (d : ℤ) (g s k t : ℕ) : Type 0 where
  pub below : t < k
  pub e : ℤ
  pub whole : d ≡ pos g *ℤ e
  pub same : Congruent k (pos t) (pos s *ℤ e)

-- n is a's modulus times the number k that the gcd g of the moduli divides b's into
pub record IsStep (a b : Span) (n : ℕ) : Type 0 where
  pub g : ℕ
  pub s : ℕ
  pub k : ℕ
  pub g_positive : 0 < g
  pub inverse : IsInverse a.m b.m g s
  pub whole : g * k ≡ b.m
  pub is : n ≡ a.m * k
  pub positive : 0 < n

-- the numbers from v to h that are v modulo n where n is a step, else those with a's step
abbrev pub met_span : Span → ℤ → ℤ → ℕ → Span
met_span a v h n =
    if nat_lt n (2 ^ 64)
    then record { lo = v; hi = h; m = n; r = unsigned_abs (int_rem_euclid v (pos n)) }
    else record { lo = v; hi = h; m = a.m; r = a.r }
