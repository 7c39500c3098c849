-- The integer types that operators give to their operands.
use Rattle.std.specs.Prelude.{nat_lt, true, false, if◌then◌else◌}
use mathlib.Core.Path.{refl}
use Rattle.cx_base.specs.declared.number.CInt.{CInt}

abbrev pub signed_int : CInt
signed_int = record { size = 4; signed = true; known = refl }

abbrev pub unsigned_int : CInt
unsigned_int = record { size = 4; signed = false; known = refl }

abbrev pub signed_long : CInt
signed_long = record { size = 8; signed = true; known = refl }

abbrev pub unsigned_long : CInt
unsigned_long = record { size = 8; signed = false; known = refl }

-- the integer promotions (C11 6.3.1.1): int holds each number of a narrower type
abbrev pub promoted : CInt → CInt
promoted t = if nat_lt t.size 4 then signed_int else t

-- the type of the usual arithmetic conversions (C11 6.3.1.8) of promoted types: the wider one, and of two of one size an unsigned one
abbrev pub wider : CInt → CInt → CInt
wider t u = if nat_lt t.size u.size then u else if nat_lt u.size t.size then t else if t.signed then u else t

abbrev pub common : CInt → CInt → CInt
common t u = wider (promoted t) (promoted u)
