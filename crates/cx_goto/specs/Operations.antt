-- Operators and relations on numbers (C11 6.5.5 to 6.5.12; sums, differences and products wrap in signed types too).
use Rattle.std.specs.Prelude.{◌^◌, ℤ, pos, nat_abs, ◌+ℤ◌, ◌-ℤ◌, ◌*ℤ◌, int_le, int_lt, int_div, int_rem, Bool, not, Option, Some, bit_and, bit_or, bit_xor}
use Rattle.std.specs.Int.{int_div_euclid}
use Rattle.std.specs.Ordering.{int_eq}
use Rattle.cx_base.specs.declared.fault.FaultKind.{FaultKind}
use Rattle.cx_base.specs.declared.fault.FaultKind.TheVariants as fault
use Rattle.cx_base.specs.declared.number.CInt.{CInt}
use Rattle.cx_base.specs.declared.span.Span.{Span}
use Rattle.cx_cconst.specs.Constants.{converted, bits, divided, counted_shift}
use Rattle.cx_goto.specs.declared.code.Op.{Op}
use Rattle.cx_goto.specs.declared.code.Op.TheVariants.{Add, Sub, Mul, Div, Rem, And, Or, Xor, Shl, Shr}
use Rattle.cx_goto.specs.declared.code.Rel.{Rel}
use Rattle.cx_goto.specs.declared.code.Rel.TheVariants.{Eq, Ne, Lt, Le, Gt, Ge}
use Rattle.cx_world.specs.World.{World, Did, number_or}

-- the number that the operator gives, where it gives one
abbrev pub operated : Op → CInt → ℤ → ℤ → Option ℤ
operated Add t x y = Some (converted t (x +ℤ y))
operated Sub t x y = Some (converted t (x -ℤ y))
operated Mul t x y = Some (converted t (x *ℤ y))
operated Div t x y = divided t x y (int_div x y)
operated Rem t x y = divided t x y (int_rem x y)
operated And t x y = Some (converted t (pos (bit_and (bits t x) (bits t y))))
operated Or t x y = Some (converted t (pos (bit_or (bits t x) (bits t y))))
operated Xor t x y = Some (converted t (pos (bit_xor (bits t x) (bits t y))))
operated Shl t x y = counted_shift t y (x *ℤ pos (2 ^ nat_abs y))
operated Shr t x y = counted_shift t y (int_div_euclid x (pos (2 ^ nat_abs y)))

-- the fault where it gives none: a shift's count is out of range, or a quotient is no number of the type
abbrev pub fault_of : Op → FaultKind
fault_of Shl = fault.Shift
fault_of Shr = fault.Shift
fault_of _ = fault.Divisor

abbrev pub operate : Span → Op → CInt → ℤ → ℤ → World → Did ℤ
operate s op t x y w = number_or (fault_of op) s (operated op t x y) w

abbrev pub relates : Rel → ℤ → ℤ → Bool
relates Eq x y = int_eq x y
relates Ne x y = not (int_eq x y)
relates Lt x y = int_lt x y
relates Le x y = int_le x y
relates Gt x y = int_lt y x
relates Ge x y = int_le y x
