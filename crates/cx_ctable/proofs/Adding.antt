-- Entries that are added one after the other, and the values that are found.
use Rattle.std.proofs.Common.{◌≡◌, ℕ, List, [], ◌∷◌, ◌++◌, Bool, true, false, cond, map, Option, Some, None, refl, sym, ◌∙◌, ap}
use Rattle.std.specs.Prelude.{nat_eq, ◌==◌, ◌||◌, is_some, option_map}
use Rattle.std.specs.List.{list_any}
use Rattle.std.specs.Map.{lookup}
use Rattle.indexmap.specs.IndexMap.{insert_entry}
use Rattle.cx_ctable.specs.Firsts.{with_first, with_firsts}

pub firsts_append : {V : Type 0} (es : List (ℕ × V)) (a b : List (ℕ × V)) → with_firsts es (a ++ b) ≡ with_firsts (with_firsts es a) b
firsts_append es [] b = refl
firsts_append es (p ∷ a) b = firsts_append (with_first es p) a b

-- the entries by what their values are seen as
abbrev pub seen : {V W : Type 0} → (V → W) → List (ℕ × V) → List (ℕ × W)
seen f es = map (λ e. (e.0, f e.1)) es

found_next : {V W : Type 0} (f : V → W) (b : Bool) (x : V) (o : Option V) (r : Option W) → r ≡ option_map f o → cond b (Some (f x)) r ≡ option_map f (cond b (Some x) o)
found_next f true x o r h = refl
found_next f false x o r h = h

pub lookup_seen : {V W : Type 0} (f : V → W) (n : ℕ) (es : List (ℕ × V)) → lookup (nat_eq n) (seen f es) ≡ option_map f (lookup (nat_eq n) es)
lookup_seen f n [] = refl
lookup_seen f n (e ∷ es) = found_next f (nat_eq n e.0) e.1 (lookup (nat_eq n) es) (lookup (nat_eq n) (seen f es)) (lookup_seen f n es)

some_next : {V : Type 0} (b r : Bool) (x : V) (o : Option V) → r ≡ is_some o → b || r ≡ is_some (cond b (Some x) o)
some_next true r x o h = refl
some_next false r x o h = h

pub any_found : {V : Type 0} (n : ℕ) (es : List (ℕ × V)) → list_any (λ e. n == e.0) es ≡ is_some (lookup (nat_eq n) es)
any_found n [] = refl
any_found n (e ∷ es) = some_next (nat_eq n e.0) (list_any (λ e. n == e.0) es) e.1 (lookup (nat_eq n) es) (any_found n es)

some_seen : {V W : Type 0} (f : V → W) (o : Option V) → is_some (option_map f o) ≡ is_some o
some_seen f None = refl
some_seen f (Some v) = refl

pub any_seen : {V W : Type 0} (f : V → W) (n : ℕ) (es : List (ℕ × V)) → list_any (λ e. n == e.0) (seen f es) ≡ is_some (lookup (nat_eq n) es)
any_seen f n es = any_found n (seen f es) ∙ ap is_some (lookup_seen f n es) ∙ some_seen f (lookup (nat_eq n) es)

inserted_next : {V W : Type 0} (f : V → W) (b : Bool) (e : ℕ × V) (v : V) (es : List (ℕ × V)) (r : List (ℕ × V)) (t : List (ℕ × W)) → seen f r ≡ t
    → seen f (cond b ((e.0, v) ∷ es) (e ∷ r)) ≡ cond b ((e.0, f v) ∷ seen f es) ((e.0, f e.1) ∷ t)
inserted_next f true e v es r t h = refl
inserted_next f false e v es r t h = ap (λ x. (e.0, f e.1) ∷ x) h

pub inserted_seen : {V W : Type 0} (f : V → W) (es : List (ℕ × V)) (n : ℕ) (v : V) → seen f (insert_entry nat_eq es n v) ≡ insert_entry nat_eq (seen f es) n (f v)
inserted_seen f [] n v = refl
inserted_seen f (e ∷ es) n v = inserted_next f (nat_eq n e.0) e v es (insert_entry nat_eq es n v) (insert_entry nat_eq (seen f es) n (f v)) (inserted_seen f es n v)

appended_next : {V : Type 0} (b r : Bool) (e : ℕ × V) (n : ℕ) (v : V) (es more : List (ℕ × V)) → b || r ≡ false → (r ≡ false → more ≡ es ++ (n, v) ∷ [])
    → cond b ((e.0, v) ∷ es) (e ∷ more) ≡ e ∷ (es ++ (n, v) ∷ [])
appended_next true r e n v es more h next = absurd (cc)
appended_next false r e n v es more h next = ap (λ x. e ∷ x) (next h)

appended : {V : Type 0} (es : List (ℕ × V)) (n : ℕ) (v : V) → list_any (λ e. n == e.0) es ≡ false → insert_entry nat_eq es n v ≡ es ++ (n, v) ∷ []
appended [] n v h = refl
appended (e ∷ es) n v h = appended_next (nat_eq n e.0) (list_any (λ e. n == e.0) es) e n v es (insert_entry nat_eq es n v) h (appended es n v)

pub first_added : {V : Type 0} (es : List (ℕ × V)) (n : ℕ) (v : V) → list_any (λ e. n == e.0) es ≡ false → insert_entry nat_eq es n v ≡ with_first es (n, v)
first_added es n v h = appended es n v h ∙ ap (λ b. cond b es (es ++ (n, v) ∷ [])) (sym h)

pub first_kept : {V : Type 0} (es : List (ℕ × V)) (n : ℕ) (v : V) → list_any (λ e. n == e.0) es ≡ true → es ≡ with_first es (n, v)
first_kept es n v h = ap (λ b. cond b es (es ++ (n, v) ∷ [])) (sym h)
