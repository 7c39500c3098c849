-- Tokens in their order lie inside the text.
use Rattle.std.proofs.Common.{ℕ, ◌+◌, ◌≤◌, length, List, [], ◌∷◌, All, Result, Ok, Err, IfOk, arith}
use Rattle.std.proofs.lemmas.List.Elements.{All-nil, All-cons}
use Rattle.cx_base.specs.declared.token.Token.{Token}
use Rattle.cx_lex.specs.declared.fault.LexFault.{LexFault}
use Rattle.cx_lex.specs.Order.{InOrder}

ends : (from upto : ℕ) (ts : List Token) → InOrder from upto ts → from ≤ upto
ends from upto [] h = h
ends from upto (t ∷ ts) h = let below : t.span.past ≤ upto = ends t.span.past upto ts h.2 in let a = h.0 in let b = h.1 in omega (arith, a, b, below)

inside_of : (from upto : ℕ) (ts : List Token) → InOrder from upto ts → All (λ t. t.span.past ≤ upto) ts
inside_of from upto [] h = All-nil (λ t. t.span.past ≤ upto)
inside_of from upto (t ∷ ts) h = All-cons (λ t. t.span.past ≤ upto) t ts (ends t.span.past upto ts h.2) (inside_of t.span.past upto ts h.2)

pub inside : (answer : Result (List Token) LexFault) (upto : ℕ) → IfOk answer (InOrder 0 upto) → IfOk answer (All (λ t. t.span.past ≤ upto))
inside (Ok ts) upto h = inside_of 0 upto ts h
inside (Err f) upto h = tt

fewer_than : (from upto : ℕ) (ts : List Token) → InOrder from upto ts → from + length ts ≤ upto
fewer_than from upto [] h = let e = h in omega (arith, e)
fewer_than from upto (t ∷ ts) h = let k = fewer_than t.span.past upto ts h.2 in let a = h.0 in let b = h.1 in omega (arith, a, b, k)

pub count : (answer : Result (List Token) LexFault) (upto : ℕ) → IfOk answer (InOrder 0 upto) → IfOk answer (λ ts. length ts ≤ upto)
count (Ok ts) upto h = let k = fewer_than 0 upto ts h in omega (arith, k)
count (Err f) upto h = tt
