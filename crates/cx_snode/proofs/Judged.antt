-- What is judged step by step.
use Rattle.std.proofs.Common.{◌≡◌, List, [], ◌∷◌, ◌++◌, refl, ap, ◌∙◌, sym, append_assoc, append-nil}
use Rattle.std.specs.Prelude.{Result, Ok, Err}
use Rattle.cx_snode.specs.Judging.{Judged, breaks, ◌>>=◌, judged_all, Tells}
use Rattle.cx_snode.specs.declared.fault.SemaFault.{SemaFault}
use Rattle.cx_snode.specs.declared.fault.SemaFault.TheVariants as f

-- a fault of a part is one of the whole
pub tells_then : {A B : Type 0} (e : SemaFault) (r : Judged A) (go : A → Judged B) → Tells e r → Tells e (r >>= go)
tells_then f.NoMemory r go h = tt
tells_then (f.NotWellTyped s n) r go h = ap (λ r. r >>= go) h

-- where a part is judged, what follows it is judged
pub gives_then : {A B : Type 0} (r : Judged A) (x : A) (go : A → Judged B) → r ≡ Ok x → (r >>= go) ≡ go x
gives_then r x go h = ap (λ r. r >>= go) h

-- ---- lists

-- the items that are done before those that are judged
abbrev pub behind : {A : Type 0} → List A → Judged (List A) → Judged (List A)
behind done r = r >>= (λ rest. Ok (done ++ rest))

pub behind_none : {A : Type 0} (r : Judged (List A)) → behind [] r ≡ r
behind_none (Ok xs) = refl
behind_none (Err e) = refl

pub behind_one : {A : Type 0} (done : List A) (a : A) (r : Judged (List A)) → behind done (r >>= (λ done. Ok (a ∷ done))) ≡ behind (done ++ a ∷ []) r
behind_one done a (Ok xs) = ap Ok (sym (append_assoc done (a ∷ []) xs))
behind_one done a (Err e) = refl

pub one_more : {A B : Type 0} (f : A → Judged B) (done : List B) (x : A) (xs : List A) (a : B) → f x ≡ Ok a → behind done (judged_all f (x ∷ xs)) ≡ behind (done ++ a ∷ []) (judged_all f xs)
one_more f done x xs a h = ap (behind done) (gives_then (f x) a (λ a. judged_all f xs >>= (λ done. Ok (a ∷ done))) h) ∙ behind_one done a (judged_all f xs)

pub fault_of_next : {A B : Type 0} (e : SemaFault) (f : A → Judged B) (done : List B) (x : A) (xs : List A) → Tells e (f x) → Tells e (behind done (judged_all f (x ∷ xs)))
fault_of_next e f done x xs h = tells_then e (judged_all f (x ∷ xs)) _ (tells_then e (f x) _ h)

-- ---- what has been judged

abbrev pub judged_as : {A : Type 0} → A → Judged A
judged_as x = Ok x

-- each part of what is judged is judged
pub parts_of : {A B : Type 0} (r : Judged A) (go : A → Judged B) (y : B) → (r >>= go) ≡ Ok y → (x : A) × (r ≡ Ok x) × (go x ≡ Ok y)
parts_of (Ok x) go y h = (x, refl, h)
parts_of (Err b) go y h = absurd cc

pub ok_same : {A : Type 0} (x y : A) → judged_as x ≡ judged_as y → x ≡ y
ok_same x y h = cc
