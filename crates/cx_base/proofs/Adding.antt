-- A region at the end of a valid list.
use Rattle.std.proofs.Common.{◌≡◌, ◌<◌, ◌-◌, ◌^◌, ◌++◌, ◌∷◌, [], List, None, length, length-append, arith, false}
use Rattle.std.proofs.lemmas.List.Elements.{All-push}
use Rattle.std.proofs.lemmas.List.Quantifiers.{all_pairs_push}
use Rattle.cx_base.specs.declared.memory.Region.{Region}
use Rattle.cx_base.specs.Memory.{Valid, InRange, meets, first_met}
use Rattle.cx_base.proofs.Positions.{position_none}

pub valid_push : (rs : List Region) (r : Region) → Valid rs → InRange r → first_met r rs ≡ None → length rs < 2 ^ 32 - 1 → Valid (rs ++ r ∷ [])
valid_push rs r valid range met few = record {
  ranges = All-push InRange rs r valid.ranges range;
  apart = all_pairs_push (λ (a b : Region). meets b a ≡ false) rs r valid.apart (λ k d h. position_none (meets r) rs met k d h);
  few = omega (arith, length-append {A = Region});
}
