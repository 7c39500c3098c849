-- Whether there is a value.
use Rattle.std.proofs.Common.{◌≡◌, refl, Bool, true, false, Option, None, Some}
use Rattle.std.specs.Prelude.{is_some, option_map}
use Rattle.cx_ctype.specs.Operations.{if_true}

pub is_some_map : {A B : Type 0} (f : A → B) (o : Option A) → is_some (option_map f o) ≡ is_some o
is_some_map f None = refl
is_some_map f (Some x) = refl

pub is_some_if : {A : Type 0} (b : Bool) (x : A) → is_some (if_true b x) ≡ b
is_some_if true x = refl
is_some_if false x = refl
