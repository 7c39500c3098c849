-- What is judged by the rules on types: a tree with its types, or the first rule that it breaks, with its place.
use Rattle.std.specs.Prelude.{◌≡◌, ℕ, List, [], ◌∷◌, Option, Some, None, Result, Ok, Err}
use Rattle.cx_base.specs.declared.span.Span.{Span}
use Rattle.cx_ctree.specs.Types.{TypeTree}
use Rattle.cx_snode.specs.declared.fault.SemaFault.{SemaFault}
use Rattle.cx_snode.specs.declared.fault.SemaFault.TheVariants as f

-- a rule that is broken, by its number, and where
pub record Broken : Type 0 where
  pub span : Span
  pub rule : ℕ

abbrev pub Judged : Type 0 → Type 0
Judged A = Result A Broken

abbrev pub breaks : {A : Type 0} → Span → ℕ → Judged A
breaks s n = Err (record { span = s; rule = n })

-- goes on where no rule is broken
infixl 10 ◌>>=◌
abbrev pub ◌>>=◌ : {A B : Type 0} → Judged A → (A → Judged B) → Judged B
Ok x >>= go = go x
Err b >>= go = Err b

-- all of a list, in order
abbrev pub judged_all : {A B : Type 0} → (A → Judged B) → List A → Judged (List B)
judged_all f [] = Ok []
judged_all f (x ∷ xs) = f x >>= (λ a. judged_all f xs >>= (λ done. Ok (a ∷ done)))

-- the answer is this fault, unless memory ran out
abbrev pub Tells : {A : Type 0} → SemaFault → Judged A → Type 0
Tells f.NoMemory r = Unit {0}
Tells (f.NotWellTyped s n) r = r ≡ breaks s n

-- the answer is what is judged, unless memory ran out
abbrev pub Gives : {A B : Type 0} → (A → B) → Result A SemaFault → Judged B → Type 0
Gives view (Ok x) r = r ≡ Ok (view x)
Gives view (Err e) r = Tells e r

-- the type, or else this rule is broken here
abbrev pub typed_or : Span → (rule : ℕ) → Option TypeTree → Judged TypeTree
typed_or s rule None = breaks s rule
typed_or s rule (Some t) = Ok t
