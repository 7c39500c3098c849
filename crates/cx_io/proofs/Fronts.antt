-- The front of a file that was read so far.
use Rattle.std.proofs.Common.{◌≡◌, ℕ, ◌+◌, ◌≤◌, List, ◌++◌, length, length-append, take, drop, Option, None, Some, IfSome, Ok, ap, sym, ◌∙◌, arith}
use Rattle.std.proofs.Math.Seq.{take-add}
use Rattle.std.proofs.lemmas.List.{length-take-le, take_all}
use Rattle.cx_io.specs.Fetch.{FileMap, Tells}
use Rattle.cx_io.specs.Read.{IsFront, Reads}
use Rattle.cx_io.specs.declared.files.Fetched.TheVariants.{Bytes, End}

-- what is read where the file has no byte more is the whole file
end_of_file : (f : Option (List ℕ)) (limit : ℕ) (bytes buffer : List ℕ) → IsFront f bytes → length bytes ≤ limit → Tells f (length bytes) (Ok End) buffer → Reads f limit (Ok bytes)
end_of_file None limit bytes buffer front small told = absurd told
end_of_file (Some file) limit bytes buffer (short, is) small told =
    let all : take (length bytes) file ≡ file = take_all (length bytes) file told in
    (is ∙ all, omega (arith, small, told))

-- what is read and what the buffer then has are a longer front
longer_front : (f : Option (List ℕ)) (bytes buffer : List ℕ) (n : ℕ) → n ≤ length buffer → IsFront f bytes → Tells f (length bytes) (Ok (Bytes n)) buffer → IsFront f (bytes ++ take n buffer)
longer_front None bytes buffer n room front told = absurd told
longer_front (Some file) bytes buffer n room (short, is) (within, told) =
    let taken : length (take n buffer) ≡ n = length-take-le n buffer room in
    let long : length (bytes ++ take n buffer) ≡ length bytes + n = length-append bytes (take n buffer) ∙ ap (λ k. length bytes + k) taken in
    let both : bytes ++ take n buffer ≡ take (length bytes) file ++ take n (drop (length bytes) file) = ap (λ bs. bs ++ take n buffer) is ∙ ap (λ bs. take (length bytes) file ++ bs) told in
    let front : take (length bytes + n) file ≡ take (length bytes) file ++ take n (drop (length bytes) file) = take-add (length bytes) n file in
    (rw long within, both ∙ sym front ∙ ap (λ k. take k file) (sym long))

pub told_end : (o : Option FileMap) (name : List ℕ) (limit : ℕ) (bytes buffer : List ℕ) → IfSome o (λ m. IsFront (m name) bytes) → length bytes ≤ limit → IfSome o (λ m. Tells (m name) (length bytes) (Ok End) buffer) → IfSome o (λ m. Reads (m name) limit (Ok bytes))
told_end None name limit bytes buffer front small told = tt
told_end (Some m) name limit bytes buffer front small told = end_of_file (m name) limit bytes buffer front small told

pub told_more : (o : Option FileMap) (name : List ℕ) (bytes buffer : List ℕ) (n : ℕ) → n ≤ length buffer → IfSome o (λ m. IsFront (m name) bytes) → IfSome o (λ m. Tells (m name) (length bytes) (Ok (Bytes n)) buffer) → IfSome o (λ m. IsFront (m name) (bytes ++ take n buffer))
told_more None name bytes buffer n room front told = tt
told_more (Some m) name bytes buffer n room front told = longer_front (m name) bytes buffer n room front told
