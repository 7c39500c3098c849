-- The tokens of a text stand in it in order.
use Rattle.std.proofs.Common.{◌≡◌, ℕ, zero, suc, ◌+◌, ◌≤◌, Bool, true, false, List, [], ◌∷◌, length, Option, Some, None, Result, Ok, Err, IfOk, subst, arith, inl, inr, ◌==◌, ◌&&◌}
use Rattle.std.proofs.lemmas.Bool.{cases_Bool}
use Rattle.std.specs.Prelude.{option_map, IfSome, take, codes}
use Rattle.std.specs.Str.{bytes_eq}
use Rattle.cx_base.specs.declared.token.TokenKind.{TokenKind}
use Rattle.cx_base.specs.declared.token.Token.{Token}
use Rattle.cx_lex.specs.declared.fault.LexFault.{LexFault}
use Rattle.cx_lex.specs.Bytes.{is_blank, starts_name, is_digit, in_name, is_exponent, in_number, is_mark, is_single, is_double, is_triple, is_digraph}
use Rattle.cx_lex.specs.Directives.{is_refused}
use Rattle.cx_lex.specs.Lexed.{name_len, number_len, line_len, quoted_len, comment_len, punct_len, next_is, rest_of, Piece, passed, taken, stopped, mark_kind, quoted_piece, comment_piece, punct_piece, hash_piece, name_piece, other_piece, piece_at, token, with_token, piece_then, tokens_from, lexed, Answers}
use Rattle.cx_lex.specs.Order.{InOrder}

-- ---- no piece is longer than what is left

abbrev pub Within : Piece → List ℕ → Type 0
Within (passed n fresh) bs = n ≤ length bs
Within (taken k n) bs = n ≤ length bs
Within (stopped f) bs = Unit {0}

name_within : (bs : List ℕ) → name_len bs ≤ length bs
name_within [] = omega arith
name_within (b ∷ bs) = let h = name_within bs in elim (cases_Bool (in_name b)) [ inl on ↦ rw on (omega arith) | inr off ↦ rw off (omega arith) ]

number_within : (x : Bool) (bs : List ℕ) → number_len x bs ≤ length bs
number_within x [] = omega arith
number_within x (b ∷ bs) = let h = number_within (is_exponent b) bs in elim (cases_Bool (in_number x b)) [ inl on ↦ rw on (omega arith) | inr off ↦ rw off (omega arith) ]

line_within : (bs : List ℕ) → line_len bs ≤ length bs
line_within [] = omega arith
line_within (b ∷ bs) = let h = line_within bs in elim (cases_Bool (b == 10)) [ inl on ↦ rw on (omega arith) | inr off ↦ rw off (omega arith) ]

one_more : (m : ℕ) (o : Option ℕ) → IfSome o (λ n. n ≤ m) → IfSome (option_map suc o) (λ n. n ≤ suc m)
one_more m None h = tt
one_more m (Some n) h = omega arith

quoted_within : (mark : ℕ) (escaped : Bool) (bs : List ℕ) → IfSome (quoted_len mark escaped bs) (λ n. n ≤ length bs)
quoted_within mark true [] = tt
quoted_within mark false [] = tt
quoted_within mark true (b ∷ bs) = one_more (length bs) (quoted_len mark false bs) (quoted_within mark false bs)
quoted_within mark false (b ∷ bs) =
    let h = one_more (length bs) (quoted_len mark (b == 92) bs) (quoted_within mark (b == 92) bs) in
    elim (cases_Bool (b == mark)) [
      | inl on ↦ rw on (omega arith)
      | inr off ↦ elim (cases_Bool (b == 10)) [ inl stop ↦ rw (off, stop) tt | inr more ↦ rw (off, more) h ]
    ]

comment_within : (star : Bool) (bs : List ℕ) → IfSome (comment_len star bs) (λ n. n ≤ length bs)
comment_within star [] = tt
comment_within star (b ∷ bs) =
    let h = one_more (length bs) (comment_len (b == 42) bs) (comment_within (b == 42) bs) in
    elim (cases_Bool (star && (b == 47))) [ inl on ↦ rw on (omega arith) | inr off ↦ rw off h ]

punct_within : (a : ℕ) (bs : List ℕ) → Within (punct_piece (punct_len (a ∷ bs))) bs
punct_within a [] = elim (cases_Bool (is_single a)) [ inl on ↦ rw on (omega arith) | inr off ↦ rw off tt ]
punct_within a (b ∷ []) =
    elim (cases_Bool (is_double a b)) [
      | inl two ↦ rw two (omega arith)
      | inr less ↦ elim (cases_Bool (is_single a)) [ inl on ↦ rw (less, on) (omega arith) | inr off ↦ rw (less, off) tt ]
    ]
punct_within a (b ∷ c ∷ bs) =
    elim (cases_Bool (is_triple a b c)) [
      | inl three ↦ rw three (omega arith)
      | inr fewer ↦ elim (cases_Bool (is_double a b)) [
        | inl two ↦ rw (fewer, two) (omega arith)
        | inr less ↦ elim (cases_Bool (is_single a)) [ inl on ↦ rw (fewer, less, on) (omega arith) | inr off ↦ rw (fewer, less, off) tt ]
      ]
    ]

quoted_bound : (k : TokenKind) (bs : List ℕ) (o : Option ℕ) → IfSome o (λ n. n ≤ length bs) → Within (quoted_piece k o) bs
quoted_bound k bs None h = tt
quoted_bound k bs (Some n) h = h

comment_after : (c : ℕ) (cs : List ℕ) (o : Option ℕ) → IfSome o (λ n. n ≤ length cs) → Within (comment_piece o) (c ∷ cs)
comment_after c cs None h = tt
comment_after c cs (Some n) h = omega arith

comment_bound : (p : Bool) (bs : List ℕ) → (p && next_is (λ c. c == 42) bs) ≡ true → Within (comment_piece (comment_len false (rest_of bs))) bs
comment_bound true [] e = absurd cc
comment_bound false [] e = absurd cc
comment_bound p (c ∷ cs) e = comment_after c cs (comment_len false cs) (comment_within false cs)

hash_within : (bs : List ℕ) → Within (hash_piece bs) bs
hash_within bs = elim (cases_Bool (is_refused (take (line_len bs) bs))) [ inl on ↦ rw on tt | inr off ↦ rw off (line_within bs) ]

name_piece_within : (b : ℕ) (bs : List ℕ) → Within (name_piece b bs) bs
name_piece_within b bs = elim (cases_Bool ((b == 95) && bytes_eq (take (name_len bs) bs) (codes "Pragma"))) [ inl on ↦ rw on tt | inr off ↦ rw off (name_within bs) ]

other_within : (b : ℕ) (bs : List ℕ) → Within (other_piece b bs) bs
unfolding other_piece
other_within b bs =
    elim (cases_Bool ((b == 46) && next_is is_digit bs)) [
      | inl t1 ↦ rw t1 (number_within false bs)
      | inr f1 ↦ elim (cases_Bool ((b == 47) && next_is (λ c. c == 47) bs)) [
        | inl t2 ↦ rw (f1, t2) (line_within bs)
        | inr f2 ↦ elim (cases_Bool ((b == 47) && next_is (λ c. c == 42) bs)) [
          | inl t3 ↦ rw (f1, f2, t3) (comment_bound (b == 47) bs t3)
          | inr f3 ↦ elim (cases_Bool (next_is (is_digraph b) bs)) [
            | inl t4 ↦ rw (f1, f2, f3, t4) tt
            | inr f4 ↦ rw (f1, f2, f3, f4) (punct_within b bs)
          ]
        ]
      ]
    ]

pub piece_within : (fresh : Bool) (b : ℕ) (bs : List ℕ) → Within (piece_at fresh b bs) bs
piece_within fresh b bs =
    elim (cases_Bool (b == 10)) [
      | inl t1 ↦ rw t1 (omega arith)
      | inr f1 ↦ elim (cases_Bool (is_blank b)) [
        | inl t2 ↦ rw (f1, t2) (omega arith)
        | inr f2 ↦ elim (cases_Bool (fresh && (b == 35))) [
          | inl t3 ↦ rw (f1, f2, t3) (hash_within bs)
          | inr f3 ↦ elim (cases_Bool (starts_name b)) [
            | inl t4 ↦ rw (f1, f2, f3, t4) (name_piece_within b bs)
            | inr f4 ↦ elim (cases_Bool (is_digit b)) [
              | inl t5 ↦ rw (f1, f2, f3, f4, t5) (number_within false bs)
              | inr f5 ↦ elim (cases_Bool (is_mark b)) [
                | inl t6 ↦ rw (f1, f2, f3, f4, f5, t6) (quoted_bound (mark_kind b) bs (quoted_len b false bs) (quoted_within b false bs))
                | inr f6 ↦ rw (f1, f2, f3, f4, f5, f6) (other_within b bs)
              ]
            ]
          ]
        ]
      ]
    ]

-- ---- tokens in order

wider : (ts : List Token) (a b c d : ℕ) → b ≤ a → c ≤ d → InOrder a c ts → InOrder b d ts
wider [] a b c d low high h = omega arith
wider (t ∷ ts) a b c d low high h = (let h : a ≤ t.span.first = h.0 in omega arith, h.1, wider ts t.span.past t.span.past c d (omega arith) high h.2)

all_wider : (r : Result (List Token) LexFault) (a b c d : ℕ) → b ≤ a → c ≤ d → IfOk r (InOrder a c) → IfOk r (InOrder b d)
all_wider (Ok ts) a b c d low high h = wider ts a b c d low high h
all_wider (Err f) a b c d low high h = tt

token_order : (k : TokenKind) (at n upto : ℕ) (r : Result (List Token) LexFault) → IfOk r (InOrder (suc at + n) upto) → IfOk (with_token (token k at (suc at + n)) r) (InOrder at upto)
unfolding token
token_order k at n upto (Err f) h = tt
token_order k at n upto (Ok ts) h = (omega arith, omega arith, wider ts (suc at + n) _ upto upto (omega arith) (omega arith) h)

piece_order : (at upto : ℕ) (bs : List ℕ) (go : ℕ → Bool → Result (List Token) LexFault) → ((n : ℕ) (fresh : Bool) → n ≤ length bs → IfOk (go n fresh) (InOrder (suc at + n) upto))
    → (p : Piece) → Within p bs → IfOk (piece_then at p go) (InOrder at upto)
piece_order at upto bs go h (passed n fresh) w = all_wider (go n fresh) (suc at + n) at upto upto (omega arith) (omega arith) (h n fresh w)
piece_order at upto bs go h (taken k n) w = token_order k at n upto (go n false) (h n false w)
piece_order at upto bs go h (stopped f) w = tt

in_order : (bs : List ℕ) (n : ℕ) (fresh : Bool) (at : ℕ) → n ≤ length bs → IfOk (tokens_from n fresh at bs) (InOrder (at + n) (at + length bs))
in_order [] n fresh at h = omega arith
in_order (b ∷ bs) zero fresh at h =
    let go : (n : ℕ) (fresh : Bool) → n ≤ length bs → IfOk (tokens_from n fresh (suc at) bs) (InOrder (suc at + n) (at + suc (length bs))) =
    λ n fresh k. all_wider (tokens_from n fresh (suc at) bs) (suc at + n) (suc at + n) (suc at + length bs) (at + suc (length bs)) (omega arith) (omega arith) (in_order bs n fresh (suc at) k) in
    all_wider _ at (at + 0) (at + suc (length bs)) (at + suc (length bs)) (omega arith) (omega arith)
    (piece_order at (at + suc (length bs)) bs (λ n fresh. tokens_from n fresh (suc at) bs) go (piece_at fresh b bs) (piece_within fresh b bs))
in_order (b ∷ bs) (suc n) fresh at h =
    all_wider (tokens_from n fresh (suc at) bs) (suc at + n) (at + suc n) (suc at + length bs) (at + suc (length bs)) (omega arith) (omega arith) (in_order bs n fresh (suc at) (omega arith))

pub ordered : (answer : Result (List Token) LexFault) (text : List ℕ) → Answers answer (lexed text) → IfOk answer (InOrder 0 (length text))
unfolding lexed
ordered (Err f) text e = tt
ordered (Ok ts) text e =
    subst (λ (r : Result (List Token) LexFault). IfOk r (InOrder 0 (length text))) e
    (all_wider (tokens_from 0 true 0 text) (0 + 0) 0 (0 + length text) (length text) (omega arith) (omega arith) (in_order text 0 true 0 (omega arith)))
