-- A text is cut into its tokens and what is passed over.
use Rattle.std.proofs.Common.{◌≡◌, ℕ, zero, suc, ◌+◌, ◌≤◌, max, Bool, true, false, List, [], ◌∷◌, ◌++◌, length, take, drop, Option, Some, None, Result, Ok, Err, IfOk, refl, sym, ap, subst, arith, add-zero, inl, inr, ◌==◌, ◌&&◌}
use Rattle.std.proofs.lemmas.List.{take-append-drop, length-take-le}
use Rattle.std.proofs.lemmas.Bool.{cases_Bool, eqb-true}
use Rattle.std.proofs.lemmas.Bool.Decides.{nat_tests}
use Rattle.std.specs.Prelude.{option_map, IfSome, codes}
use Rattle.std.specs.Str.{bytes_eq}
use Rattle.cx_base.specs.declared.token.TokenKind.{TokenKind}
use Rattle.cx_base.specs.declared.token.Token.{Token}
use Rattle.cx_base.proofs.General.{both_true}
use Rattle.cx_lex.specs.declared.fault.LexFault.{LexFault}
use Rattle.cx_lex.specs.Bytes.{is_blank, starts_name, is_digit, is_mark, is_digraph}
use Rattle.cx_lex.specs.Directives.{is_refused}
use Rattle.cx_lex.specs.Lexed.{name_len, line_len, quoted_len, comment_len, punct_len, next_is, rest_of, Piece, passed, taken, stopped, mark_kind, quoted_piece, comment_piece, punct_piece, hash_piece, name_piece, other_piece, piece_at, token, with_token, piece_then, tokens_from, lexed, Answers}
use Rattle.cx_lex.specs.Pieces.{IsOneLine, IsPassed, blank, comment, remark, directive, IsCut, ended, over, kept}
use Rattle.cx_lex.proofs.Order.{Within, piece_within}

-- ---- what is passed over

abbrev Passes : Piece → ℕ → List ℕ → Type 0
Passes (passed n fresh) b bs = IsPassed (b ∷ take n bs)
Passes (taken k n) b bs = Unit {0}
Passes (stopped f) b bs = Unit {0}

newline_is_blank : (b : ℕ) → (b == 10) ≡ true → is_blank b ≡ true
unfolding is_blank
newline_is_blank b h = grind (arith, nat_tests)

one_line : (bs : List ℕ) → IsOneLine (take (line_len bs) bs)
one_line [] = tt
one_line (b ∷ bs) = elim (cases_Bool (b == 10)) [ inl on ↦ rw on tt | inr off ↦ rw (off, off) (refl, one_line bs) ]

directive_line : (b : ℕ) (bs : List ℕ) → (b == 35) ≡ true → Passes (hash_piece bs) b bs
directive_line b bs e =
    elim (cases_Bool (is_refused (take (line_len bs) bs))) [
      | inl on ↦ rw on tt
      | inr off ↦ rw off (subst (λ (x : ℕ). IsPassed (x ∷ take (line_len bs) bs)) (sym (eqb-true b 35 e)) (directive (take (line_len bs) bs) (one_line bs)))
    ]

remark_line : (b : ℕ) (bs : List ℕ) → ((b == 47) && next_is (λ c. c == 47) bs) ≡ true → IsPassed (b ∷ take (line_len bs) bs)
remark_line b [] e = let t = both_true (b == 47) false e in absurd cc
remark_line b (c ∷ cs) e =
    let t = both_true (b == 47) (c == 47) e in
    let eb : 47 ≡ b = sym (eqb-true b 47 t.0) in
    let ec : 47 ≡ c = sym (eqb-true c 47 t.1) in
    subst (λ (p : ℕ × ℕ). IsPassed (p.0 ∷ take (line_len (p.1 ∷ cs)) (p.1 ∷ cs))) (λ i. (eb i, ec i)) (remark (take (line_len cs) cs) (one_line cs))

-- these bytes end with the end of a comment
abbrev Closes : List ℕ → Type 0
Closes bs = (text : List ℕ) × (bs ≡ text ++ 42 ∷ 47 ∷ [])

-- with a star that stands before them, if one does
abbrev after_star : Bool → List ℕ → List ℕ
after_star true bs = 42 ∷ bs
after_star false bs = bs

closes_more : (b : ℕ) (bs : List ℕ) → Closes bs → Closes (b ∷ bs)
closes_more b bs h = (b ∷ h.0, ap (λ (l : List ℕ). b ∷ l) h.1)

closes_star : (star : Bool) (bs : List ℕ) → Closes bs → Closes (after_star star bs)
closes_star true bs h = closes_more 42 bs h
closes_star false bs h = h

closes_byte : (b : ℕ) (bs : List ℕ) → Closes (after_star (b == 42) bs) → Closes (b ∷ bs)
closes_byte b bs h =
    elim (cases_Bool (b == 42)) [
      | inl on ↦ let k : Closes (42 ∷ bs) = subst (λ (s : Bool). Closes (after_star s bs)) on h in subst (λ (x : ℕ). Closes (x ∷ bs)) (sym (eqb-true b 42 on)) k
      | inr off ↦ let k : Closes bs = subst (λ (s : Bool). Closes (after_star s bs)) off h in closes_more b bs k
    ]

closes_later : (star : Bool) (b : ℕ) (bs : List ℕ) (o : Option ℕ) → IfSome o (λ n. Closes (after_star (b == 42) (take n bs))) → IfSome (option_map suc o) (λ n. Closes (after_star star (take n (b ∷ bs))))
closes_later star b bs None h = tt
closes_later star b bs (Some n) h = closes_star star (b ∷ take n bs) (closes_byte b (take n bs) h)

comment_closes : (star : Bool) (bs : List ℕ) → IfSome (comment_len star bs) (λ n. Closes (after_star star (take n bs)))
comment_closes star [] = tt
comment_closes false (b ∷ bs) = closes_later false b bs (comment_len (b == 42) bs) (comment_closes (b == 42) bs)
comment_closes true (b ∷ bs) =
    elim (cases_Bool (b == 47)) [
      | inl on ↦ rw on ([], ap (λ (x : ℕ). 42 ∷ x ∷ []) (eqb-true b 47 on))
      | inr off ↦ rw off (closes_later true b bs (comment_len (b == 42) bs) (comment_closes (b == 42) bs))
    ]

comment_through : (b c : ℕ) (cs : List ℕ) (o : Option ℕ) → 47 ≡ b → 42 ≡ c → IfSome o (λ n. Closes (take n cs)) → Passes (comment_piece o) b (c ∷ cs)
comment_through b c cs None eb ec h = tt
comment_through b c cs (Some n) eb ec h =
    let k : IsPassed (47 ∷ 42 ∷ take n cs) = subst (λ (l : List ℕ). IsPassed (47 ∷ 42 ∷ l)) (sym h.1) (comment h.0) in
    subst (λ (p : ℕ × ℕ). IsPassed (p.0 ∷ p.1 ∷ take n cs)) (λ i. (eb i, ec i)) k

comment_passes : (b : ℕ) (bs : List ℕ) → ((b == 47) && next_is (λ c. c == 42) bs) ≡ true → Passes (comment_piece (comment_len false (rest_of bs))) b bs
comment_passes b [] e = let t = both_true (b == 47) false e in absurd cc
comment_passes b (c ∷ cs) e =
    let t = both_true (b == 47) (c == 42) e in
    comment_through b c cs (comment_len false cs) (sym (eqb-true b 47 t.0)) (sym (eqb-true c 42 t.1)) (comment_closes false cs)

quoted_passes : (k : TokenKind) (o : Option ℕ) (b : ℕ) (bs : List ℕ) → Passes (quoted_piece k o) b bs
quoted_passes k None b bs = tt
quoted_passes k (Some n) b bs = tt

punct_passes : (n b : ℕ) (bs : List ℕ) → Passes (punct_piece n) b bs
punct_passes zero b bs = tt
punct_passes (suc n) b bs = tt

name_passes : (b : ℕ) (bs : List ℕ) → Passes (name_piece b bs) b bs
name_passes b bs = elim (cases_Bool ((b == 95) && bytes_eq (take (name_len bs) bs) (codes "Pragma"))) [ inl on ↦ rw on tt | inr off ↦ rw off tt ]

other_passes : (b : ℕ) (bs : List ℕ) → Passes (other_piece b bs) b bs
unfolding other_piece
other_passes b bs =
    elim (cases_Bool ((b == 46) && next_is is_digit bs)) [
      | inl t1 ↦ rw t1 tt
      | inr f1 ↦ elim (cases_Bool ((b == 47) && next_is (λ c. c == 47) bs)) [
        | inl t2 ↦ rw (f1, t2) (remark_line b bs t2)
        | inr f2 ↦ elim (cases_Bool ((b == 47) && next_is (λ c. c == 42) bs)) [
          | inl t3 ↦ rw (f1, f2, t3) (comment_passes b bs t3)
          | inr f3 ↦ elim (cases_Bool (next_is (is_digraph b) bs)) [
            | inl t4 ↦ rw (f1, f2, f3, t4) tt
            | inr f4 ↦ rw (f1, f2, f3, f4) (punct_passes (punct_len (b ∷ bs)) b bs)
          ]
        ]
      ]
    ]

piece_passes : (fresh : Bool) (b : ℕ) (bs : List ℕ) → Passes (piece_at fresh b bs) b bs
piece_passes fresh b bs =
    elim (cases_Bool (b == 10)) [
      | inl t1 ↦ rw t1 (blank b (newline_is_blank b t1))
      | inr f1 ↦ elim (cases_Bool (is_blank b)) [
        | inl t2 ↦ rw (f1, t2) (blank b t2)
        | inr f2 ↦ elim (cases_Bool (fresh && (b == 35))) [
          | inl t3 ↦ rw (f1, f2, t3) (directive_line b bs (both_true fresh (b == 35) t3).1)
          | inr f3 ↦ elim (cases_Bool (starts_name b)) [
            | inl t4 ↦ rw (f1, f2, f3, t4) (name_passes b bs)
            | inr f4 ↦ elim (cases_Bool (is_digit b)) [
              | inl t5 ↦ rw (f1, f2, f3, f4, t5) tt
              | inr f5 ↦ elim (cases_Bool (is_mark b)) [
                | inl t6 ↦ rw (f1, f2, f3, f4, f5, t6) (quoted_passes (mark_kind b) (quoted_len b false bs) b bs)
                | inr f6 ↦ rw (f1, f2, f3, f4, f5, f6) (other_passes b bs)
              ]
            ]
          ]
        ]
      ]
    ]

-- ---- the whole text

passed_cut : (at n b : ℕ) (bs : List ℕ) (r : Result (List Token) LexFault) → n ≤ length bs → IsPassed (b ∷ take n bs) → IfOk r (IsCut (suc at + n) (drop n bs)) → IfOk r (IsCut at (b ∷ bs))
passed_cut at n b bs (Err f) w p h = tt
passed_cut at n b bs (Ok ts) w p h =
    let e : suc at + n ≡ at + length (b ∷ take n bs) = omega (arith, length-take-le n bs w) in
    let c : IsCut (at + length (b ∷ take n bs)) (drop n bs) ts = subst (λ (q : ℕ). IsCut q (drop n bs) ts) e h in
    subst (λ (l : List ℕ). IsCut at (b ∷ l) ts) (take-append-drop n bs) (over at (b ∷ take n bs) p c)

token_cut : (k : TokenKind) (at n b : ℕ) (bs : List ℕ) (r : Result (List Token) LexFault) → n ≤ length bs → IfOk r (IsCut (suc at + n) (drop n bs)) → IfOk (with_token (token k at (suc at + n)) r) (IsCut at (b ∷ bs))
unfolding token
token_cut k at n b bs (Err f) w h = tt
token_cut k at n b bs (Ok ts) w h =
    let e : suc at + n ≡ at + length (b ∷ take n bs) = omega (arith, length-take-le n bs w) in
    let past : max at (suc at + n) ≡ at + length (b ∷ take n bs) = omega (arith, length-take-le n bs w) in
    let c : IsCut (at + length (b ∷ take n bs)) (drop n bs) ts = subst (λ (q : ℕ). IsCut q (drop n bs) ts) e h in
    subst (λ (l : List ℕ). IsCut at (b ∷ l) (token k at (suc at + n) ∷ ts)) (take-append-drop n bs) (kept at (b ∷ take n bs) (token k at (suc at + n)) refl past c)

piece_cut : (at b : ℕ) (bs : List ℕ) (go : ℕ → Bool → Result (List Token) LexFault) → ((n : ℕ) (fresh : Bool) → n ≤ length bs → IfOk (go n fresh) (IsCut (suc at + n) (drop n bs)))
    → (p : Piece) → Within p bs → Passes p b bs → IfOk (piece_then at p go) (IsCut at (b ∷ bs))
piece_cut at b bs go h (passed n fresh) w q = passed_cut at n b bs (go n fresh) w q (h n fresh w)
piece_cut at b bs go h (taken k n) w q = token_cut k at n b bs (go n false) w (h n false w)
piece_cut at b bs go h (stopped f) w q = tt

cut_from : (bs : List ℕ) (n : ℕ) (fresh : Bool) (at : ℕ) → n ≤ length bs → IfOk (tokens_from n fresh at bs) (IsCut (at + n) (drop n bs))
cut_from [] zero fresh at h = ended (at + 0)
cut_from [] (suc n) fresh at h = ended (at + suc n)
cut_from (b ∷ bs) zero fresh at h =
    rw add-zero (piece_cut at b bs (λ n fresh. tokens_from n fresh (suc at) bs) (λ n fresh k. cut_from bs n fresh (suc at) k) (piece_at fresh b bs) (piece_within fresh b bs) (piece_passes fresh b bs))
cut_from (b ∷ bs) (suc n) fresh at h =
    let e : at + suc n ≡ suc at + n = omega arith in rw e (cut_from bs n fresh (suc at) (omega arith))

pub is_cut : (answer : Result (List Token) LexFault) (text : List ℕ) → Answers answer (lexed text) → IfOk answer (IsCut 0 text)
unfolding lexed
is_cut (Err f) text e = tt
is_cut (Ok ts) text e = subst (λ (r : Result (List Token) LexFault). IfOk r (IsCut 0 text)) e (cut_from text 0 true 0 (omega arith))
