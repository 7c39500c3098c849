-- Linear forms: a constant and parts, each a symbol with its coefficient; what they come to, and their limits.
use Rattle.std.specs.Prelude.{◌≡◌, ℕ, suc, IsTrue, IfSome, IfNone, ℤ, pos, ◌+ℤ◌, ◌*ℤ◌, List, [], ◌∷◌, ◌<◌, ◌≤◌, ◌^◌, unsigned_abs, Option, Some, None, if◌then◌else◌, nat_le, length, ◌&&◌, Bool, true}

-- a linear form: the sum of a constant and of each part's coefficient times its symbol
pub record Linear : Type 0 where
  pub konst : ℤ
  pub parts : List (ℕ × ℤ)

-- what the parts come to, where each symbol s has the value v s
abbrev pub value_parts : (ℕ → ℤ) → List (ℕ × ℤ) → ℤ
value_parts v [] = pos 0
value_parts v (p ∷ ps) = p.1 *ℤ v p.0 +ℤ value_parts v ps

-- what the form comes to, where each symbol s has the value v s
abbrev pub value : (ℕ → ℤ) → Linear → ℤ
value v t = t.konst +ℤ value_parts v t.parts

-- the form of a number
abbrev pub constant_of : ℤ → Linear
constant_of z = record { konst = z; parts = [] }

-- the form of a symbol
abbrev pub symbol_of : ℕ → Linear
symbol_of s = record { konst = pos 0; parts = (s, pos 1) ∷ [] }

-- the symbols rise from b on, and no coefficient is 0
abbrev pub IsOrdered : ℕ → List (ℕ × ℤ) → Type 0
IsOrdered b [] = Unit {0}
IsOrdered b (p ∷ ps) = (b ≤ p.0) × (0 < unsigned_abs p.1) × IsOrdered (suc p.0) ps

-- no coefficient's absolute value is above n
abbrev pub all_within : ℕ → List (ℕ × ℤ) → Bool
all_within n [] = true
all_within n (p ∷ ps) = nat_le (unsigned_abs p.1) n && all_within n ps

-- there are at most four parts, and no coefficient's absolute value is above 2^32
abbrev pub parts_within : List (ℕ × ℤ) → Bool
parts_within ps = nat_le (length ps) 4 && all_within (2 ^ 32) ps

-- the form is within the limits
abbrev pub within : Linear → Bool
within t = nat_le (unsigned_abs t.konst) (2 ^ 96) && parts_within t.parts

-- a form that a `Term` can be
pub record IsTerm (t : Linear) : Type 0 where
  pub ordered : IsOrdered 0 t.parts
  pub limits : IsTrue (within t)

-- the form, where it is within the limits
abbrev pub fit : Linear → Option Linear
fit t = if within t then Some t else None

-- the form comes to what is meant, whatever values the symbols have
abbrev pub Means : ((ℕ → ℤ) → ℤ) → Linear → Type 0
Means meant t = (v : ℕ → ℤ) → value v t ≡ meant v

-- the answer is a form of this meaning, or None where no form within the limits has it
pub record IsExactly (meant : (ℕ → ℤ) → ℤ) (answer : Option Linear) : Type 0 where
  pub some : IfSome answer (Means meant)
  pub none : IfNone answer ((t : Linear) → IsTerm t → Means meant t → ⊥)
