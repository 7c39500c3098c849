-- Options that are there.
use Rattle.std.proofs.Common.{◌≡◌, Option, Some, None, refl, ap}
use Rattle.cx_form.specs.declared.read.Stop.{Stop}
use Rattle.cx_form.specs.declared.read.Stop.TheVariants as stop
use Rattle.cx_form.specs.Reading.{◌>>=◌, Stops}

taken : {A : Type 0} → A → Option A → A
taken d None = d
taken d (Some x) = x

pub some_same : {A : Type 0} (a b : A) → Some a ≡ Some b → a ≡ b
unfolding taken
some_same a b e = ap (taken a) e

-- what a step that gave an answer says
pub record Bound {A B : Type 0} (o : Option A) (f : A → Option B) (y : B) : Type 0 where
  pub x : A
  pub is : o ≡ Some x
  pub gives : f x ≡ Some y

pub bind_some : {A B : Type 0} (o : Option A) (f : A → Option B) (y : B) → (o >>= f) ≡ Some y → Bound o f y
bind_some None f y e = absurd cc
bind_some (Some x) f y e = record { x = x; is = refl; gives = e }

pub stops_on : {A B : Type 0} (s : Stop) (read : Option A) (told : Option B) → Stops s read → (read ≡ None → told ≡ None) → Stops s told
stops_on stop.NoMemory read told h f = tt
stops_on stop.Unread read told h f = f h
