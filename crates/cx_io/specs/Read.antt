-- What reading a whole file says of it, and what it leaves of the counts.
use Rattle.std.specs.Prelude.{◌≡◌, ℕ, ◌+◌, ◌≤◌, ◌<◌, List, [], take, length, Option, Some, None, Result, Ok, Err}
use Rattle.cx_io.specs.declared.read.ReadFault.{ReadFault}
use Rattle.cx_io.specs.declared.read.ReadFault.TheVariants.{Absent, ReadFailed, TooLarge, NoMemory}
use Rattle.cx_io.specs.Counts.{Rose, RoseBy, CountsUp}

-- what the answer says of the file, if there is one
abbrev pub Reads : Option (List ℕ) → ℕ → Result (List ℕ) ReadFault → Type 0
Reads None limit (Ok bytes) = ⊥
Reads (Some file) limit (Ok bytes) = (bytes ≡ file) × (length file ≤ limit)
Reads None limit (Err Absent) = Unit {0}
Reads (Some file) limit (Err Absent) = ⊥
Reads file limit (Err ReadFailed) = Unit {0}
Reads None limit (Err (TooLarge n)) = ⊥
Reads (Some file) limit (Err (TooLarge n)) = limit < length file
Reads file limit (Err NoMemory) = Unit {0}

-- what each answer says of the three counts before and after the call
abbrev pub Causes : Result (List ℕ) ReadFault → ℕ → ℕ → ℕ → ℕ → ℕ → ℕ → ℕ → Type 0
Causes (Ok bytes) limit faults faults' absents absents' given given' = (length bytes ≤ limit) × CountsUp (length bytes) given given'
Causes (Err Absent) limit faults faults' absents absents' given given' = Rose absents absents' × (given' ≤ given + limit)
Causes (Err ReadFailed) limit faults faults' absents absents' given given' = Rose faults faults' × (given' ≤ given + limit)
Causes (Err (TooLarge n)) limit faults faults' absents absents' given given' = (n ≡ limit) × RoseBy (limit + 1) given given'
Causes (Err NoMemory) limit faults faults' absents absents' given given' = Unit {0}

-- the bytes are the front of the file, or there are none where there is no file
abbrev pub IsFront : Option (List ℕ) → List ℕ → Type 0
IsFront None bytes = bytes ≡ []
IsFront (Some file) bytes = (length bytes ≤ length file) × (bytes ≡ take (length bytes) file)
