-- The machine gives the tokens of the definition.
use Rattle.std.proofs.Common.{◌≡◌, ℕ, suc, ◌+◌, Bool, true, false, List, [], ◌∷◌, take, Option, Some, None, Result, Ok, Err, refl, sym, ap, subst, ◌∙◌, arith, add-zero, add-one, inl, inr, ◌==◌, ◌&&◌, ◌||◌}
use Rattle.std.proofs.lemmas.Bool.{cases_Bool, eqb-true}
use Rattle.std.proofs.lemmas.Bool.Decides.{nat_tests}
use Rattle.std.specs.Prelude.{option_map, codes, if◌then◌else◌}
use Rattle.cx_base.specs.declared.token.TokenKind.{TokenKind}
use Rattle.cx_base.specs.declared.token.TokenKind.TheVariants as kind
use Rattle.cx_base.specs.declared.token.Token.{Token}
use Rattle.cx_lex.specs.declared.fault.LexFault.{LexFault}
use Rattle.cx_lex.specs.declared.fault.LexFault.TheVariants.{OpenComment, OpenText, BadByte}
use Rattle.cx_lex.specs.declared.mode.Mode.TheVariants as m
use Rattle.cx_lex.specs.declared.mode.State.{State}
use Rattle.cx_lex.specs.Bytes.{is_blank, is_indent, starts_name, is_digit, in_name, is_exponent, in_number, is_mark, is_single, is_double, is_triple, is_digraph}
use Rattle.cx_lex.specs.Directives.{is_refused}
use Rattle.std.specs.Str.{bytes_eq}
use Rattle.cx_base.proofs.General.{both_true}
use Rattle.cx_lex.specs.Lexed.{name_len, number_len, line_len, quoted_len, comment_len, punct_len, next_is, passed, taken, stopped, mark_kind, quoted_piece, comment_piece, punct_piece, other_piece, token, with_token, piece_then, tokens_from, lexed}
use Rattle.cx_lex.specs.Machine.{at_mode, begin, begun, after_one, after_two, in_quotes, turn, end, with_ended, after, run}

abbrev Answer : Type 0
Answer = Result (List Token) LexFault

abbrev quoted_then : ℕ → ℕ → TokenKind → List ℕ → Option ℕ → Answer
quoted_then start at k bs None = Err (OpenText start)
quoted_then start at k bs (Some n) = with_token (token k start (at + n)) (tokens_from n false at bs)

abbrev comment_then : ℕ → ℕ → List ℕ → Option ℕ → Answer
comment_then start at bs None = Err (OpenComment start)
comment_then start at bs (Some n) = tokens_from n false at bs

-- what the machine gives for these bytes in each mode
record Runs (bs : List ℕ) : Type 0 where
  blank : (fresh : Bool) (start at : ℕ) → run (at_mode (m.Blank fresh) start) at bs ≡ tokens_from 0 fresh at bs
  name : (start at : ℕ) → run (at_mode m.Name start) at bs ≡ with_token (token kind.Name start (at + name_len bs)) (tokens_from (name_len bs) false at bs)
  number : (exponent : Bool) (start at : ℕ) → run (at_mode (m.Number exponent) start) at bs ≡ with_token (token kind.Number start (at + number_len exponent bs)) (tokens_from (number_len exponent bs) false at bs)
  quoted : (mark : ℕ) (escaped : Bool) (start at : ℕ) → run (at_mode (m.Quoted mark escaped) start) at bs ≡ quoted_then start at (mark_kind mark) bs (quoted_len mark escaped bs)
  comment : (star : Bool) (start at : ℕ) → run (at_mode (m.Comment star) start) at bs ≡ comment_then start at bs (comment_len star bs)
  line : (start at : ℕ) → run (at_mode m.Line start) at bs ≡ tokens_from (line_len bs) false at bs
  one : (a start : ℕ) → is_single a ≡ true → run (at_mode (m.One a) start) (suc start) bs ≡ piece_then start (other_piece a bs) (λ n fresh. tokens_from n fresh (suc start) bs)
  two : (a c start : ℕ) → is_double a c ≡ true → run (at_mode (m.Two a c) start) (suc (suc start)) bs ≡ piece_then start (punct_piece (punct_len (a ∷ c ∷ bs))) (λ n fresh. tokens_from n fresh (suc start) (c ∷ bs))
  dots : (start : ℕ) → run (at_mode (m.Two 46 46) start) (suc (suc start)) bs ≡ piece_then start (punct_piece (punct_len (46 ∷ 46 ∷ bs))) (λ n fresh. tokens_from n fresh (suc start) (46 ∷ bs))

-- facts on single bytes

digit_in_number : (b : ℕ) → is_digit b ≡ true → (in_number false b ≡ true) × (is_exponent b ≡ false)
unfolding is_digit in_number in_name is_exponent starts_name
digit_in_number b h = (grind (arith, nat_tests), grind (arith, nat_tests))

double_is_single : (a c : ℕ) → is_single a ≡ false → is_double a c ≡ false
unfolding is_single is_double
double_is_single a c h = grind (arith, nat_tests)

triple_is_double : (a c d : ℕ) → is_double a c ≡ false → ((a == 46) && (c == 46)) ≡ false → is_triple a c d ≡ false
unfolding is_double is_triple
triple_is_double a c d h k = grind (arith, nat_tests)

dot_is_single : (a : ℕ) → is_single a ≡ false → (a == 46) ≡ false
unfolding is_single
dot_is_single a h = grind (arith, nat_tests)

slash_is_single : (a : ℕ) → is_single a ≡ false → (a == 47) ≡ false
unfolding is_single
slash_is_single a h = grind (arith, nat_tests)

digraph_is_single : (a c : ℕ) → is_single a ≡ false → is_digraph a c ≡ false
unfolding is_single is_digraph
digraph_is_single a c h = grind (arith, nat_tests)

failed_tokens : (before : Option Token) (f : LexFault) → Err f ≡ with_ended before (Err f)
failed_tokens None f = refl
failed_tokens (Some t) f = refl

begun_tokens : (one two : Option Token) (r : Result State LexFault) (go : State → Answer) → after (begun one two r) go ≡ with_ended one (with_ended two (after (begun None None r) go))
begun_tokens None None (Ok s) go = refl
begun_tokens None None (Err f) go = refl
begun_tokens (Some t) None (Ok s) go = refl
begun_tokens (Some t) None (Err f) go = refl
begun_tokens None (Some u) (Ok s) go = refl
begun_tokens None (Some u) (Err f) go = refl
begun_tokens (Some t) (Some u) (Ok s) go = refl
begun_tokens (Some t) (Some u) (Err f) go = refl

name_step : (b : ℕ) (bs : List ℕ) → Runs bs → ((fresh : Bool) (at : ℕ) → after (begun None None (begin fresh at b bs)) (λ s. run s (suc at) bs) ≡ tokens_from 0 fresh at (b ∷ bs))
    → (start at : ℕ) → run (at_mode m.Name start) at (b ∷ bs) ≡ with_token (token kind.Name start (at + name_len (b ∷ bs))) (tokens_from (name_len (b ∷ bs)) false at (b ∷ bs))
unfolding run turn
name_step b bs h begins start at =
    elim (cases_Bool (in_name b)) [
      | inl on ↦ let e : at + suc (name_len bs) ≡ suc at + name_len bs = omega arith in rw (on, e) (h.name start (suc at))
      | inr off ↦ rw (off, add-zero) (begun_tokens (Some (token kind.Name start at)) None (begin false at b bs) (λ s. run s (suc at) bs) ∙ ap (with_token (token kind.Name start at)) (begins false at))
    ]

number_step : (b : ℕ) (bs : List ℕ) → Runs bs → ((fresh : Bool) (at : ℕ) → after (begun None None (begin fresh at b bs)) (λ s. run s (suc at) bs) ≡ tokens_from 0 fresh at (b ∷ bs))
    → (x : Bool) (start at : ℕ) → run (at_mode (m.Number x) start) at (b ∷ bs) ≡ with_token (token kind.Number start (at + number_len x (b ∷ bs))) (tokens_from (number_len x (b ∷ bs)) false at (b ∷ bs))
unfolding run turn
number_step b bs h begins x start at =
    elim (cases_Bool (in_number x b)) [
      | inl on ↦ let e : at + suc (number_len (is_exponent b) bs) ≡ suc at + number_len (is_exponent b) bs = omega arith in rw (on, e) (h.number (is_exponent b) start (suc at))
      | inr off ↦ rw (off, add-zero) (begun_tokens (Some (token kind.Number start at)) None (begin false at b bs) (λ s. run s (suc at) bs) ∙ ap (with_token (token kind.Number start at)) (begins false at))
    ]

line_step : (b : ℕ) (bs : List ℕ) → Runs bs → (start at : ℕ) → run (at_mode m.Line start) at (b ∷ bs) ≡ tokens_from (line_len (b ∷ bs)) false at (b ∷ bs)
unfolding run turn
line_step b bs h start at =
    elim (cases_Bool (b == 10)) [
      | inl stop ↦ rw (stop, stop) (h.blank true at (suc at))
      | inr on ↦ rw on (h.line start (suc at))
    ]

later_quoted : (start at : ℕ) (k : TokenKind) (b : ℕ) (bs : List ℕ) (n : Option ℕ) → quoted_then start (suc at) k bs n ≡ quoted_then start at k (b ∷ bs) (option_map suc n)
later_quoted start at k b bs None = refl
later_quoted start at k b bs (Some n) = let e : suc at + n ≡ at + suc n = omega arith in ap (λ (p : ℕ). with_token (token k start p) (tokens_from n false (suc at) bs)) e

quoted_step : (b : ℕ) (bs : List ℕ) → Runs bs → (mark : ℕ) (escaped : Bool) (start at : ℕ) → run (at_mode (m.Quoted mark escaped) start) at (b ∷ bs) ≡ quoted_then start at (mark_kind mark) (b ∷ bs) (quoted_len mark escaped (b ∷ bs))
unfolding run turn in_quotes
quoted_step b bs h mark true start at = h.quoted mark false start (suc at) ∙ later_quoted start at (mark_kind mark) b bs (quoted_len mark false bs)
quoted_step b bs h mark false start at =
    elim (cases_Bool (b == mark)) [
      | inl close ↦ rw close (ap (with_token (token (mark_kind mark) start (at + 1))) (h.blank false at (suc at)))
      | inr inside ↦ elim (cases_Bool (b == 10)) [
        | inl stop ↦ rw (inside, stop) refl
        | inr on ↦ rw (inside, on) (h.quoted mark (b == 92) start (suc at) ∙ later_quoted start at (mark_kind mark) b bs (quoted_len mark (b == 92) bs))
      ]
    ]

later_comment : (start at : ℕ) (b : ℕ) (bs : List ℕ) (n : Option ℕ) → comment_then start (suc at) bs n ≡ comment_then start at (b ∷ bs) (option_map suc n)
later_comment start at b bs None = refl
later_comment start at b bs (Some n) = refl

comment_step : (b : ℕ) (bs : List ℕ) → Runs bs → (star : Bool) (start at : ℕ) → run (at_mode (m.Comment star) start) at (b ∷ bs) ≡ comment_then start at (b ∷ bs) (comment_len star (b ∷ bs))
unfolding run turn
comment_step b bs h star start at =
    elim (cases_Bool (star && (b == 47))) [
      | inl close ↦ rw close (h.blank false at (suc at))
      | inr on ↦ rw on (h.comment (b == 42) start (suc at) ∙ later_comment start at b bs (comment_len (b == 42) bs))
    ]

-- ---- what a byte begins

quoted_begins : (at : ℕ) (k : TokenKind) (bs : List ℕ) (n : Option ℕ) → quoted_then at (suc at) k bs n ≡ piece_then at (quoted_piece k n) (λ n fresh. tokens_from n fresh (suc at) bs)
quoted_begins at k bs None = refl
quoted_begins at k bs (Some n) = refl

comment_begins : (at : ℕ) (b : ℕ) (bs : List ℕ) (n : Option ℕ) → comment_then at (suc (suc at)) bs n ≡ piece_then at (comment_piece n) (λ n fresh. tokens_from n fresh (suc at) (b ∷ bs))
comment_begins at b bs None = refl
comment_begins at b bs (Some n) = refl

hash_begins : (at : ℕ) (bs : List ℕ) → Runs bs → (x : Bool) → after (begun None None (if x then Err (BadByte at) else Ok (at_mode m.Line at))) (λ s. run s (suc at) bs) ≡ piece_then at (if x then stopped BadByte else passed (line_len bs) false) (λ n fresh. tokens_from n fresh (suc at) bs)
hash_begins at bs h true = refl
hash_begins at bs h false = h.line at (suc at)

name_begins : (at : ℕ) (bs : List ℕ) → Runs bs → (x : Bool) → after (begun None None (if x then Err (BadByte at) else Ok (at_mode m.Name at))) (λ s. run s (suc at) bs) ≡ piece_then at (if x then stopped BadByte else taken kind.Name (name_len bs)) (λ n fresh. tokens_from n fresh (suc at) bs)
name_begins at bs h true = refl
name_begins at bs h false = h.name at (suc at)

no_digraph : (a : ℕ) (bs : List ℕ) → is_single a ≡ false → next_is (is_digraph a) bs ≡ false
no_digraph a [] h = refl
no_digraph a (b ∷ bs) h = digraph_is_single a b h

no_two : (a : ℕ) (bs : List ℕ) → is_single a ≡ false → punct_len (a ∷ bs) ≡ 0
no_two a [] h = rw h refl
no_two a (b ∷ []) h = rw (double_is_single a b h, h) refl
no_two a (b ∷ c ∷ bs) h = rw (triple_is_double a b c (double_is_single a b h) (grind (arith, nat_tests, dot_is_single a h)), double_is_single a b h, h) refl

nothing_begins : (a : ℕ) (bs : List ℕ) → is_single a ≡ false → other_piece a bs ≡ stopped BadByte
unfolding other_piece
nothing_begins a bs h = let dot = dot_is_single a h in let slash = slash_is_single a h in rw (dot, slash, no_digraph a bs h, no_two a bs h) refl

begin_run : (b : ℕ) (bs : List ℕ) → Runs bs → (fresh : Bool) (at : ℕ) → after (begun None None (begin fresh at b bs)) (λ s. run s (suc at) bs) ≡ tokens_from 0 fresh at (b ∷ bs)
unfolding begin
begin_run b bs h fresh at =
    elim (cases_Bool (b == 10)) [
      | inl t1 ↦ rw t1 (h.blank true at (suc at))
      | inr f1 ↦ elim (cases_Bool (is_blank b)) [
        | inl t2 ↦ rw (f1, t2) (h.blank (fresh && is_indent b) at (suc at))
        | inr f2 ↦ elim (cases_Bool (fresh && (b == 35))) [
          | inl t3 ↦ rw (f1, f2, t3) (hash_begins at bs h (is_refused (take (line_len bs) bs)))
          | inr f3 ↦ elim (cases_Bool (starts_name b)) [
            | inl t4 ↦ rw (f1, f2, f3, t4) (name_begins at bs h ((b == 95) && bytes_eq (take (name_len bs) bs) (codes "Pragma")))
            | inr f4 ↦ elim (cases_Bool (is_digit b)) [
              | inl t5 ↦ rw (f1, f2, f3, f4, t5) (h.number false at (suc at))
              | inr f5 ↦ elim (cases_Bool (is_mark b)) [
                | inl t6 ↦ rw (f1, f2, f3, f4, f5, t6) (h.quoted b false at (suc at) ∙ quoted_begins at (mark_kind b) bs (quoted_len b false bs))
                | inr f6 ↦ elim (cases_Bool (is_single b)) [
                  | inl t7 ↦ rw (f1, f2, f3, f4, f5, f6, t7) (h.one b at t7)
                  | inr f7 ↦ rw (f1, f2, f3, f4, f5, f6, f7, nothing_begins b bs f7) refl
                ]
              ]
            ]
          ]
        ]
      ]
    ]

-- ---- punctuators

after_one_tokens : (before : Option Token) (a start at b : ℕ) (rest : List ℕ) (go : State → Answer) → after (after_one before a start at b rest) go ≡ with_ended before (after (after_one None a start at b rest) go)
unfolding after_one
after_one_tokens before a start at b rest go =
    elim (cases_Bool ((a == 46) && is_digit b)) [
      | inl t1 ↦ rw t1 refl
      | inr f1 ↦ elim (cases_Bool ((a == 47) && (b == 47))) [
        | inl t2 ↦ rw (f1, t2) refl
        | inr f2 ↦ elim (cases_Bool ((a == 47) && (b == 42))) [
          | inl t3 ↦ rw (f1, f2, t3) refl
          | inr f3 ↦ elim (cases_Bool (is_digraph a b)) [
            | inl t4 ↦ rw (f1, f2, f3, t4) (failed_tokens before (BadByte start))
            | inr f4 ↦ elim (cases_Bool (is_double a b || ((a == 46) && (b == 46)))) [
              | inl t5 ↦ rw (f1, f2, f3, f4, t5) refl
              | inr f5 ↦ rw (f1, f2, f3, f4, f5) (begun_tokens before (Some (token kind.Punct start at)) (begin false at b rest) go ∙ ap (with_ended before) (sym (begun_tokens None (Some (token kind.Punct start at)) (begin false at b rest) go)))
            ]
          ]
        ]
      ]
    ]

one_nil : (a start : ℕ) → is_single a ≡ true → run (at_mode (m.One a) start) (suc start) [] ≡ piece_then start (other_piece a []) (λ n fresh. tokens_from n fresh (suc start) [])
unfolding run end other_piece is_single
one_nil a start h =
    elim (cases_Bool (a == 46)) [
      | inl t1 ↦ rw (eqb-true a 46 t1, add-zero) refl
      | inr f1 ↦ elim (cases_Bool (a == 47)) [
        | inl t2 ↦ rw (eqb-true a 47 t2, add-zero) refl
        | inr f2 ↦ rw (f1, f2, h, add-zero) refl
      ]
    ]

only_one : (a b : ℕ) (bs : List ℕ) → is_single a ≡ true → is_double a b ≡ false → ((a == 46) && (b == 46)) ≡ false → punct_len (a ∷ b ∷ bs) ≡ 1
only_one a b [] h k d = rw (k, h) refl
only_one a b (c ∷ bs) h k d = rw (triple_is_double a b c k d, k, h) refl

two_dots : (a b : ℕ) (bs : List ℕ) → Runs bs → (start : ℕ) → ((a == 46) && (b == 46)) ≡ true → run (at_mode (m.Two a b) start) (suc (suc start)) bs ≡ piece_then start (punct_piece (punct_len (a ∷ b ∷ bs))) (λ n fresh. tokens_from n fresh (suc start) (b ∷ bs))
two_dots a b bs h start e =
    let t = both_true (a == 46) (b == 46) e in
    let ea : 46 ≡ a = sym (eqb-true a 46 t.0) in
    let eb : 46 ≡ b = sym (eqb-true b 46 t.1) in
    subst (λ (p : ℕ × ℕ). run (at_mode (m.Two p.0 p.1) start) (suc (suc start)) bs ≡ piece_then start (punct_piece (punct_len (p.0 ∷ p.1 ∷ bs))) (λ n fresh. tokens_from n fresh (suc start) (p.1 ∷ bs))) (λ i. (ea i, eb i)) (h.dots start)

one_step : (b : ℕ) (bs : List ℕ) → Runs bs → (a start : ℕ) → is_single a ≡ true → run (at_mode (m.One a) start) (suc start) (b ∷ bs) ≡ piece_then start (other_piece a (b ∷ bs)) (λ n fresh. tokens_from n fresh (suc start) (b ∷ bs))
unfolding run turn after_one other_piece
one_step b bs h a start one =
    elim (cases_Bool ((a == 46) && is_digit b)) [
      | inl t1 ↦
          let d : (in_number false b ≡ true) × (is_exponent b ≡ false) = digit_in_number b (both_true (a == 46) (is_digit b) t1).1 in
          let e : suc start + suc (number_len false bs) ≡ suc (suc start) + number_len false bs = omega arith in
          rw (t1, d.0, d.1, e) (h.number false start (suc (suc start)))
      | inr f1 ↦ elim (cases_Bool ((a == 47) && (b == 47))) [
        | inl t2 ↦ let slash : (b == 10) ≡ false = ap (λ (n : ℕ). n == 10) (eqb-true b 47 (both_true (a == 47) (b == 47) t2).1) in rw (f1, t2, slash) (h.line start (suc (suc start)))
        | inr f2 ↦ elim (cases_Bool ((a == 47) && (b == 42))) [
          | inl t3 ↦ rw (f1, f2, t3) (h.comment false start (suc (suc start)) ∙ comment_begins start b bs (comment_len false bs))
          | inr f3 ↦ elim (cases_Bool (is_digraph a b)) [
            | inl t4 ↦ rw (f1, f2, f3, t4) refl
            | inr f4 ↦ elim (cases_Bool (is_double a b)) [
              | inl t5 ↦ rw (f1, f2, f3, f4, t5) (h.two a b start t5)
              | inr f5 ↦ elim (cases_Bool ((a == 46) && (b == 46))) [
                | inl t6 ↦ rw (f1, f2, f3, f4, f5, t6) (two_dots a b bs h start t6)
                | inr f6 ↦ rw (f1, f2, f3, f4, f5, f6, only_one a b bs one f5 f6, add-zero) (begun_tokens None (Some (token kind.Punct start (suc start))) (begin false (suc start) b bs) (λ s. run s (suc (suc start)) bs) ∙ ap (with_token (token kind.Punct start (suc start))) (begin_run b bs h false (suc start)))
              ]
            ]
          ]
        ]
      ]
    ]

no_dots : is_double 46 46 ≡ false
unfolding is_double
no_dots = refl

dot_is : is_single 46 ≡ true
unfolding is_single
dot_is = refl

two_nil : (a c start : ℕ) → is_double a c ≡ true → run (at_mode (m.Two a c) start) (suc (suc start)) [] ≡ piece_then start (punct_piece (punct_len (a ∷ c ∷ []))) (λ n fresh. tokens_from n fresh (suc start) (c ∷ []))
unfolding run end
two_nil a c start two = let e : suc start + 1 ≡ suc (suc start) = omega arith in rw (two, e) refl

two_step : (b : ℕ) (bs : List ℕ) → Runs bs → (a c start : ℕ) → is_double a c ≡ true → run (at_mode (m.Two a c) start) (suc (suc start)) (b ∷ bs) ≡ piece_then start (punct_piece (punct_len (a ∷ c ∷ b ∷ bs))) (λ n fresh. tokens_from n fresh (suc start) (c ∷ b ∷ bs))
unfolding run turn after_two
two_step b bs h a c start two =
    elim (cases_Bool (is_triple a c b)) [
      | inl t1 ↦ let e : suc start + 2 ≡ suc (suc start) + 1 = omega arith in rw (t1, e) (ap (with_token (token kind.Punct start (suc (suc start) + 1))) (h.blank false (suc (suc start)) (suc (suc (suc start)))))
      | inr f1 ↦
          let e : suc start + 1 ≡ suc (suc start) = omega arith in
          rw (f1, two, e) (begun_tokens (Some (token kind.Punct start (suc (suc start)))) None (begin false (suc (suc start)) b bs) (λ s. run s (suc (suc (suc start))) bs) ∙ ap (with_token (token kind.Punct start (suc (suc start)))) (begin_run b bs h false (suc (suc start))))
    ]

dots_nil : (start : ℕ) → run (at_mode (m.Two 46 46) start) (suc (suc start)) [] ≡ piece_then start (punct_piece (punct_len (46 ∷ 46 ∷ []))) (λ n fresh. tokens_from n fresh (suc start) (46 ∷ []))
unfolding run end is_double is_single other_piece is_blank starts_name is_digit is_mark
dots_nil start = rw (add-zero, add-zero, add-one) refl

dot_begins : (at : ℕ) (bs : List ℕ) → tokens_from 0 false at (46 ∷ bs) ≡ piece_then at (other_piece 46 bs) (λ n fresh. tokens_from n fresh (suc at) bs)
unfolding is_blank starts_name is_digit is_mark
dot_begins at bs = refl

dots_step : (b : ℕ) (bs : List ℕ) → Runs bs → (start : ℕ) → run (at_mode (m.Two 46 46) start) (suc (suc start)) (b ∷ bs) ≡ piece_then start (punct_piece (punct_len (46 ∷ 46 ∷ b ∷ bs))) (λ n fresh. tokens_from n fresh (suc start) (46 ∷ b ∷ bs))
unfolding run turn after_two
dots_step b bs h start =
    elim (cases_Bool (is_triple 46 46 b)) [
      | inl t1 ↦ let e : suc start + 2 ≡ suc (suc start) + 1 = omega arith in rw (t1, e) (ap (with_token (token kind.Punct start (suc (suc start) + 1))) (h.blank false (suc (suc start)) (suc (suc (suc start)))))
      | inr f1 ↦
          let single : is_double 46 46 ≡ false = no_dots in
          let one : is_single 46 ≡ true = dot_is in
          rw (f1, single, one, add-zero, add-one) (after_one_tokens (Some (token kind.Punct start (suc start))) 46 (suc start) (suc (suc start)) b bs (λ s. run s (suc (suc (suc start))) bs)
          ∙ ap (with_token (token kind.Punct start (suc start))) (one_step b bs h 46 (suc start) one ∙ sym (dot_begins (suc start) (b ∷ bs))))
    ]

-- ---- all bytes

quoted_nil : (mark : ℕ) (escaped : Bool) (start at : ℕ) → run (at_mode (m.Quoted mark escaped) start) at [] ≡ quoted_then start at (mark_kind mark) [] (quoted_len mark escaped [])
unfolding run end
quoted_nil mark true start at = refl
quoted_nil mark false start at = refl

blank_step : (b : ℕ) (bs : List ℕ) → Runs bs → (fresh : Bool) (start at : ℕ) → run (at_mode (m.Blank fresh) start) at (b ∷ bs) ≡ tokens_from 0 fresh at (b ∷ bs)
unfolding run turn
blank_step b bs h fresh start at = begin_run b bs h fresh at

runs : (bs : List ℕ) → Runs bs
unfolding run end
runs [] = record {
  blank = λ fresh start at. refl;
  name = λ start at. rw add-zero refl;
  number = λ exponent start at. rw add-zero refl;
  quoted = λ mark escaped start at. quoted_nil mark escaped start at;
  comment = λ star start at. refl;
  line = λ start at. refl;
  one = λ a start h. one_nil a start h;
  two = λ a c start h. two_nil a c start h;
  dots = λ start. dots_nil start;
}
runs (b ∷ bs) = let h = runs bs in record {
  blank = λ fresh start at. blank_step b bs h fresh start at;
  name = λ start at. name_step b bs h (begin_run b bs h) start at;
  number = λ exponent start at. number_step b bs h (begin_run b bs h) exponent start at;
  quoted = λ mark escaped start at. quoted_step b bs h mark escaped start at;
  comment = λ star start at. comment_step b bs h star start at;
  line = λ start at. line_step b bs h start at;
  one = λ a start is. one_step b bs h a start is;
  two = λ a c start is. two_step b bs h a c start is;
  dots = λ start. dots_step b bs h start;
}

pub agrees : (bs : List ℕ) → run (at_mode (m.Blank true) 0) 0 bs ≡ lexed bs
unfolding lexed
agrees bs = (runs bs).blank true 0 0
