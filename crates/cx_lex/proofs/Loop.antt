-- One turn of the loop.
use Rattle.std.proofs.Common.{◌≡◌, ℕ, suc, ◌+◌, ◌<◌, ◌≤◌, List, [], ◌∷◌, ◌++◌, length, get_or, take, drop, ◌-◌, length-drop, Option, Some, None, Result, Ok, Err, refl, sym, ap, ◌∙◌, append_assoc, append-nil, add-one, arith}
use Rattle.std.proofs.Math.Seq.{drop-cons}
use Rattle.std.proofs.lemmas.List.{drop_all, take_all}
use Rattle.cx_base.specs.declared.token.Token.{Token}
use Rattle.cx_lex.specs.declared.fault.LexFault.{LexFault}
use Rattle.cx_lex.specs.declared.fault.LexFault.TheVariants as fault
use Rattle.cx_lex.specs.declared.mode.State.{State}
use Rattle.cx_lex.specs.declared.mode.Turn.{Turn}
use Rattle.cx_lex.specs.Lexed.{Answers}
use Rattle.cx_lex.specs.Machine.{run, turn, after, end, with_ended, listed, with_front}

one_turn : (s : State) (i : ℕ) (bytes : List ℕ) → i < length bytes → run s i (drop i bytes) ≡ after (turn s.mode s.start i (get_or bytes i 0) (drop (suc i) bytes)) (λ s. run s (suc i) (drop (suc i) bytes))
unfolding run
one_turn s i bytes h = rw (drop-cons bytes i 0 h) refl

-- the bytes after one, as the code takes them
bytes_after : (i : ℕ) (bytes : List ℕ) → take (length bytes - (i + 1)) (drop (i + 1) bytes) ≡ drop (suc i) bytes
bytes_after i bytes = rw add-one (let e = length-drop (suc i) bytes in take_all (length bytes - suc i) (drop (suc i) bytes) (omega (arith, e)))

listed_front : (front : List Token) (t : Option Token) (r : Result (List Token) LexFault) → with_front front (with_ended t r) ≡ with_front (front ++ listed t) r
listed_front front None r = ap (λ (f : List Token). with_front f r) (sym (append-nil front))
listed_front front (Some t) (Ok ts) = ap Ok (sym (append_assoc front (t ∷ []) ts))
listed_front front (Some t) (Err e) = refl

pub goes_on : (front : List Token) (s : State) (i : ℕ) (bytes : List ℕ) (t : Turn) (total : Result (List Token) LexFault) → i < length bytes → with_front front (run s i (drop i bytes)) ≡ total
    → Ok t ≡ turn s.mode s.start i (get_or bytes i 0) (take (length bytes - (i + 1)) (drop (i + 1) bytes)) → with_front ((front ++ listed t.one) ++ listed t.two) (run t.next (i + 1) (drop (i + 1) bytes)) ≡ total
goes_on front s i bytes t total h told e =
    let r = run t.next (suc i) (drop (suc i) bytes) in
    let e' = e ∙ ap (turn s.mode s.start i (get_or bytes i 0)) (bytes_after i bytes) in
    rw add-one (sym (listed_front (front ++ listed t.one) t.two r) ∙ sym (listed_front front t.one (with_ended t.two r))
    ∙ ap (λ (v : Result Turn LexFault). with_front front (after v (λ s. run s (suc i) (drop (suc i) bytes)))) e'
    ∙ ap (with_front front) (sym (one_turn s i bytes h)) ∙ told)

pub fails : (front : List Token) (s : State) (i : ℕ) (bytes : List ℕ) (f : LexFault) (total : Result (List Token) LexFault) → i < length bytes → with_front front (run s i (drop i bytes)) ≡ total
    → Err f ≡ turn s.mode s.start i (get_or bytes i 0) (take (length bytes - (i + 1)) (drop (i + 1) bytes)) → total ≡ Err f
fails front s i bytes f total h told e = sym told ∙ ap (with_front front) (one_turn s i bytes h) ∙ ap (λ (v : Result Turn LexFault). with_front front (after v (λ s. run s (suc i) (drop (suc i) bytes)))) (sym (e ∙ ap (turn s.mode s.start i (get_or bytes i 0)) (bytes_after i bytes)))

-- a reading that is a fault is answered by it
pub answered : (f : LexFault) (total : Result (List Token) LexFault) → total ≡ Err f → Answers (Err f) total
answered (fault.OpenComment at) total e = e
answered (fault.OpenText at) total e = e
answered (fault.BadByte at) total e = e
answered fault.NoMemory total e = tt

pub ends : (front : List Token) (s : State) (i : ℕ) (bytes : List ℕ) (total : Result (List Token) LexFault) → length bytes ≤ i → i ≤ length bytes → with_front front (run s i (drop i bytes)) ≡ total
    → with_front front (end s.mode s.start (length bytes)) ≡ total
unfolding run
ends front s i bytes total past within told =
    let same : i ≡ length bytes = omega arith in
    rw (← same) (ap (λ (bs : List ℕ). with_front front (run s i bs)) (sym (drop_all i bytes past)) ∙ told)
