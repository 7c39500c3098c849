-- What two puts in turn wrote.
use Rattle.std.proofs.Common.{◌≡◌, ℕ, ◌+◌, List, ◌++◌, take, drop, Option, None, Some, option_map, ap, sym, ◌∙◌, append_assoc}
use Rattle.std.proofs.Math.Seq.{take-add}

pub take_more : (bytes : List ℕ) (at n : ℕ) → take (at + n) bytes ≡ take at bytes ++ take n (drop at bytes)
take_more bytes at n = take-add at n bytes

pub put_more : (o p q : Option (List ℕ)) (bytes : List ℕ) (at n : ℕ) → p ≡ option_map (λ w. w ++ take at bytes) o → q ≡ option_map (λ w. w ++ take n (drop at bytes)) p → q ≡ option_map (λ w. w ++ take (at + n) bytes) o
put_more None p q bytes at n e f = f ∙ ap (option_map (λ w. w ++ take n (drop at bytes))) e
put_more (Some w) p q bytes at n e f =
    f ∙ ap (option_map (λ v. v ++ take n (drop at bytes))) e ∙ ap Some (append_assoc w (take at bytes) (take n (drop at bytes)) ∙ ap (λ v. w ++ v) (sym (take_more bytes at n)))
