-- What a put took.
use Rattle.std.specs.Prelude.{ℕ, Result, Ok, Err}
use Rattle.cx_io.specs.declared.files.Failed.{Failed}

-- how many bytes were taken
abbrev pub bytes_taken : Result ℕ Failed → ℕ
bytes_taken (Ok n) = n
bytes_taken (Err e) = 0
