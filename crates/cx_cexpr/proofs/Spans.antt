-- Where lists of lexemes begin and end.
use Rattle.std.proofs.Common.{◌≡◌, ℕ, ◌<◌, List, [], ◌∷◌, ◌++◌, length, refl, ap, arith, append-nil}
use Rattle.cx_cword.specs.declared.lexeme.Lexeme.{Lexeme}
use Rattle.cx_cword.specs.Reading.{first_of, past_of, span_between, span_of}

-- the first lexeme of a list that goes on is its own
pub first-append : (a b : List Lexeme) → 0 < length a → first_of (a ++ b) ≡ first_of a
first-append [] b h = absurd (omega arith)
first-append (o ∷ a) b h = refl

-- and the last one that of the last part
pub past-append : (a b : List Lexeme) → 0 < length b → past_of (a ++ b) ≡ past_of b
past-append [] b h = refl
past-append (o ∷ []) [] h = absurd (omega arith)
past-append (o ∷ []) (n ∷ b) h = refl
past-append (o ∷ n ∷ a) b h = past-append (n ∷ a) b h

pub spanned : (front : List Lexeme) (first past : ℕ) → first_of front ≡ first → past_of front ≡ past → span_of front ≡ span_between first past
spanned front first past e f = λ i. span_between (e i) (f i)

-- the place past a list, and for an empty one the place before it
abbrev pub past_from : ℕ → List Lexeme → ℕ
past_from past [] = past
past_from past (o ∷ os) = past_of (o ∷ os)

pub past_from-push : (past : ℕ) (a : List Lexeme) (o : Lexeme) → past_from past (a ++ o ∷ []) ≡ o.span.past
past_from-push past [] o = refl
past_from-push past (n ∷ a) o = past-append (n ∷ a) (o ∷ []) (omega arith)

pub past_from-append : (past : ℕ) (a b : List Lexeme) → past_from past (a ++ b) ≡ past_from (past_from past a) b
past_from-append past [] b = refl
past_from-append past (o ∷ a) [] = ap past_of (append-nil (o ∷ a))
past_from-append past (o ∷ a) (n ∷ b) = past-append (o ∷ a) (n ∷ b) (omega arith)

pub past_from-filled : (past : ℕ) (a : List Lexeme) → 0 < length a → past_from past a ≡ past_of a
past_from-filled past [] h = absurd (omega arith)
past_from-filled past (o ∷ a) h = refl

pub past_after : (a b : List Lexeme) → 0 < length a → past_of (a ++ b) ≡ past_from (past_of a) b
past_after [] b h = absurd (omega arith)
past_after (o ∷ a) b h = past_from-append 0 (o ∷ a) b

pub past_from-cons : (past : ℕ) (o : Lexeme) (a : List Lexeme) → past_from past (o ∷ a) ≡ past_from o.span.past a
past_from-cons past o [] = refl
past_from-cons past o (n ∷ a) = refl
