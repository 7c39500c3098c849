-- What a fetch says of a file.
use Rattle.std.specs.Prelude.{◌≡◌, ℕ, ◌+◌, ◌≤◌, List, length, take, drop, Option, Some, None, IfSome, Result, Ok, Err, if◌then◌else◌}
use Rattle.std.specs.Str.{bytes_eq}
use Rattle.cx_io.specs.declared.files.Fetched.{Fetched}
use Rattle.cx_io.specs.declared.files.Fetched.TheVariants.{Bytes, End, Absent}
use Rattle.cx_io.specs.declared.files.Failed.{Failed}

-- the bytes of the file of each name that there is
abbrev pub FileMap : Type 0
FileMap = List ℕ → Option (List ℕ)

abbrev pub IsAbsent : Result Fetched Failed → Type 0
IsAbsent (Ok Absent) = Unit {0}
IsAbsent (Ok End) = ⊥
IsAbsent (Ok (Bytes n)) = ⊥
IsAbsent (Err e) = ⊥

-- how many bytes were given
abbrev pub bytes_given : Result Fetched Failed → ℕ
bytes_given (Ok (Bytes n)) = n
bytes_given (Ok End) = 0
bytes_given (Ok Absent) = 0
bytes_given (Err e) = 0

-- at least one byte is given, and no more than the buffer has
abbrev pub InBounds : Result Fetched Failed → ℕ → Type 0
InBounds (Ok (Bytes n)) room = (1 ≤ n) × (n ≤ room)
InBounds (Ok End) room = Unit {0}
InBounds (Ok Absent) room = Unit {0}
InBounds (Err e) room = Unit {0}

-- what an answer at an offset says of the file, if there is one, and what then stands in the buffer
abbrev pub Tells : Option (List ℕ) → ℕ → Result Fetched Failed → List ℕ → Type 0
Tells None at (Ok (Bytes n)) buffer = ⊥
Tells None at (Ok End) buffer = ⊥
Tells None at (Ok Absent) buffer = Unit {0}
Tells None at (Err e) buffer = Unit {0}
Tells (Some file) at (Ok (Bytes n)) buffer = (at + n ≤ length file) × (take n buffer ≡ take n (drop at file))
Tells (Some file) at (Ok End) buffer = length file ≤ at
Tells (Some file) at (Ok Absent) buffer = ⊥
Tells (Some file) at (Err e) buffer = Unit {0}

-- the second map has this file under this name, and else the files of the first
abbrev pub WithFile : Option FileMap → Option FileMap → List ℕ → List ℕ → Type 0
WithFile before now name file = IfSome before (λ m. IfSome now (λ n. (other : List ℕ) → n other ≡ (if bytes_eq name other then Some file else m other)))
