-- Lists of lexemes: which a lexeme is, where a list begins and ends, and what a reader of lexemes answers.
use Rattle.std.specs.Prelude.{◌≡◌, ℕ, max, List, [], ◌∷◌, Option, Some, None, Result, Ok, Err, option_and_then}
use Rattle.std.specs.Borrow.{Bor}
use Rattle.std.proofs.Math.Nat.{le-max_left}
use Rattle.cx_base.specs.declared.span.Span.{Span}
use Rattle.cx_cword.specs.declared.word.Keyword.{Keyword}
use Rattle.cx_cword.specs.declared.word.Punctuator.{Punctuator}
use Rattle.cx_cword.specs.declared.lexeme.Lexeme.{Lexeme}
use Rattle.cx_cword.specs.declared.lexeme.LexemeKind.{LexemeKind}
use Rattle.cx_cword.specs.declared.lexeme.LexemeKind.TheVariants as l
use Rattle.cx_cword.specs.declared.reading.Stop.{Stop}
use Rattle.cx_cword.specs.declared.reading.Stop.TheVariants as stop

-- ---- lexemes

abbrev pub Is : Punctuator → Lexeme → Type 0
Is mark o = o.kind ≡ l.Punctuator mark

abbrev pub IsWord : Keyword → Lexeme → Type 0
IsWord word o = o.kind ≡ l.Keyword word

abbrev pub name_of : LexemeKind → Option ℕ
name_of (l.Name n) = n
name_of (l.Attributive n) = n
name_of _ = None

-- the name of this number
abbrev pub IsName : ℕ → Lexeme → Type 0
IsName n o = name_of o.kind ≡ Some n

-- ---- places

-- the place of the first byte of a list of lexemes, and the one past its last
abbrev pub first_of : List Lexeme → ℕ
first_of [] = 0
first_of (o ∷ os) = o.span.first

abbrev pub past_of : List Lexeme → ℕ
past_of [] = 0
past_of (o ∷ []) = o.span.past
past_of (o ∷ n ∷ os) = past_of (n ∷ os)

-- from one place up to another; empty where that does not come after it
abbrev pub span_between : ℕ → ℕ → Span
span_between first past = record { first = first; past = max first past; ordered = le-max_left first past }

-- from the first of the lexemes to the last
abbrev pub span_of : List Lexeme → Span
span_of os = span_between (first_of os) (past_of os)

-- ---- readers

-- what a function returned, seen by the view, is what is read, unless memory ran out
abbrev pub Stops : {B : Type 0} → Stop → Option B → Type 0
Stops stop.NoMemory read = Unit {0}
Stops stop.Unread read = read ≡ None

abbrev pub Gives : {A B : Type 0} → (A → B) → Result A Stop → Option B → Type 0
Gives view (Ok x) read = read ≡ Some (view x)
Gives view (Err e) read = Stops e read

infixl 10 ◌>>=◌
abbrev pub ◌>>=◌ : {A B : Type 0} → Option A → (A → Option B) → Option B
o >>= f = option_and_then f o

-- the first lexeme and those after it
abbrev pub Splits : Option (Lexeme × Bor (List Lexeme)) → List Lexeme → Type 0
Splits None os = os ≡ []
Splits (Some p) os = os ≡ p.0 ∷ p.1.now

abbrev pub at_lexeme : {A : Type 0} → List Lexeme → Option A → (Lexeme → List Lexeme → Option A) → Option A
at_lexeme [] end go = end
at_lexeme (o ∷ os) end go = go o os
