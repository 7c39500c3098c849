-- One token after the other is what the definition of the tokens says.
use Rattle.std.proofs.Common.{◌≡◌, ℕ, zero, suc, ◌+◌, ◌≤◌, true, false, ◌==◌, ◌&&◌, List, [], ◌∷◌, ◌++◌, length, take, drop, Option, Some, None, option_map, refl, sym, ap, ◌∙◌, append_assoc, append-nil, add-zero, add-one, arith, inl, inr, length-take}
use Rattle.std.proofs.lemmas.Bool.{cases_Bool}
use Rattle.std.proofs.lemmas.List.Sums.{prefix_len-le-length}
use Rattle.std.proofs.Math.Nat.{le-add_right}
use Rattle.cx_base.specs.declared.span.Span.{Span}
use Rattle.cx_form.specs.declared.tree.Word.{Word}
use Rattle.cx_form.specs.Tokens.{is_blank, starts_name, is_mark, goes_on, token_len, word_at, then_token, tokens_from}
use Rattle.cx_form.proofs.Options.{some_same}
use Rattle.cx_form.proofs.Spans.{span_of, span_same}
use Rattle.cx_form.specs.Lexing.{cut, token_at, behind}

skipped : (n at : ℕ) (bs : List ℕ) → tokens_from n at bs ≡ tokens_from 0 (at + n) (drop n bs)
unfolding tokens_from
skipped zero at bs = rw add-zero refl
skipped (suc n) at [] = refl
skipped (suc n) at (b ∷ bs) = let e : at + suc n ≡ suc at + n = omega arith in rw e (skipped n (suc at) bs)

pub token_len_within : (b : ℕ) (bs : List ℕ) → token_len b bs ≤ 1 + length bs
unfolding token_len
token_len_within b [] = let h = prefix_len-le-length goes_on [] in
    elim (cases_Bool (starts_name b)) [
      | inl t ↦ rw t (omega arith)
      | inr f ↦ elim (cases_Bool (is_mark b)) [
        | inl t ↦ rw (f, t) (omega arith)
        | inr g ↦ elim (cases_Bool (b == 45)) [
          | inl t ↦ rw (f, g, t) (omega arith)
          | inr k ↦ rw (f, g, k) (omega arith)
        ]
      ]
    ]
token_len_within b (c ∷ bs) = let h = prefix_len-le-length goes_on (c ∷ bs) in
    elim (cases_Bool (starts_name b)) [
      | inl t ↦ rw t (omega (arith, h))
      | inr f ↦ elim (cases_Bool (is_mark b)) [
        | inl t ↦ rw (f, t) (omega arith)
        | inr g ↦ elim (cases_Bool ((b == 45) && (c == 62))) [
          | inl t ↦ rw (f, g, t) (omega arith)
          | inr k ↦ rw (f, g, k) (omega arith)
        ]
      ]
    ]

pub blank_turn : (at b : ℕ) (bs : List ℕ) → is_blank b ≡ true → tokens_from 0 at (b ∷ bs) ≡ tokens_from 0 (at + 1) bs
unfolding tokens_from
blank_turn at b bs on = rw (on, add-one) refl

cut_turn : (at b : ℕ) (bs : List ℕ) (n : ℕ) (w : Word) (rest : List ℕ) → n ≤ 1 + length bs → cut at (b ∷ bs) n ≡ Some (w, rest)
    → then_token n at (b ∷ bs) (λ n. tokens_from n (suc at) bs) ≡ option_map (λ ts. w ∷ ts) (tokens_from 0 w.span.past rest)
cut_turn at b bs zero w rest h e = absurd cc
cut_turn at b bs (suc n) w rest h e =
    let same = some_same (word_at at (take (suc n) (b ∷ bs)), drop (suc n) (b ∷ bs)) (w, rest) e in
    let is_word : word_at at (take (suc n) (b ∷ bs)) ≡ w = ap (λ (p : Word × List ℕ). p.0) same in
    let is_rest : drop (suc n) (b ∷ bs) ≡ rest = ap (λ (p : Word × List ℕ). p.1) same in
    let long : length (take (suc n) (b ∷ bs)) ≡ suc n = omega (arith, length-take (suc n) (b ∷ bs)) in
    let past : suc at + n ≡ at + length (take (suc n) (b ∷ bs)) = omega arith in
    ap (option_map (λ ts. word_at at (take (suc n) (b ∷ bs)) ∷ ts)) (skipped n (suc at) bs ∙ ap (λ (p : ℕ). tokens_from 0 p (drop n bs)) past)
    ∙ ap (λ (v : Word). option_map (λ ts. v ∷ ts) (tokens_from 0 v.span.past (drop n bs))) is_word
    ∙ ap (λ (r : List ℕ). option_map (λ ts. w ∷ ts) (tokens_from 0 w.span.past r)) is_rest

pub token_turn : (at b : ℕ) (bs : List ℕ) (w : Word) (rest : List ℕ) → is_blank b ≡ false → token_at at (b ∷ bs) ≡ Some (w, rest)
    → tokens_from 0 at (b ∷ bs) ≡ option_map (λ ts. w ∷ ts) (tokens_from 0 w.span.past rest)
unfolding tokens_from token_at
token_turn at b bs w rest off e = rw off (cut_turn at b bs (token_len b bs) w rest (token_len_within b bs) e)

no_cut : (at b : ℕ) (bs : List ℕ) (n : ℕ) (after : ℕ → Option (List Word)) → cut at (b ∷ bs) n ≡ None → then_token n at (b ∷ bs) after ≡ None
no_cut at b bs zero after e = refl
no_cut at b bs (suc n) after e = absurd cc

pub token_fails : (at b : ℕ) (bs : List ℕ) → is_blank b ≡ false → token_at at (b ∷ bs) ≡ None → tokens_from 0 at (b ∷ bs) ≡ None
unfolding tokens_from token_at
token_fails at b bs off e = rw off (no_cut at b bs (token_len b bs) (λ n. tokens_from n (suc at) bs) e)

behind_more : (front : List Word) (w : Word) (o : Option (List Word)) → behind (front ++ w ∷ []) o ≡ behind front (option_map (λ ts. w ∷ ts) o)
behind_more front w None = refl
behind_more front w (Some ts) = ap Some (append_assoc front (w ∷ []) ts)

pub goes_on_blank : (front : List Word) (at b : ℕ) (rest bs : List ℕ) (told : Option (List Word)) → rest ≡ b ∷ bs → is_blank b ≡ true → behind front (tokens_from 0 at rest) ≡ told → behind front (tokens_from 0 (at + 1) bs) ≡ told
goes_on_blank front at b rest bs told e on h = ap (behind front) (sym (blank_turn at b bs on) ∙ ap (tokens_from 0 at) (sym e)) ∙ h

pub goes_on_token : (front : List Word) (at b : ℕ) (whole bs rest : List ℕ) (w : Word) (told : Option (List Word)) → whole ≡ b ∷ bs → is_blank b ≡ false → token_at at whole ≡ Some (w, rest)
    → behind front (tokens_from 0 at whole) ≡ told → behind (front ++ w ∷ []) (tokens_from 0 w.span.past rest) ≡ told
goes_on_token front at b whole bs rest w told e off k h =
    behind_more front w (tokens_from 0 w.span.past rest)
    ∙ ap (behind front) (sym (token_turn at b bs w rest off (ap (token_at at) (sym e) ∙ k)) ∙ ap (tokens_from 0 at) (sym e)) ∙ h

pub fails : (front : List Word) (at b : ℕ) (whole bs : List ℕ) (told : Option (List Word)) → whole ≡ b ∷ bs → is_blank b ≡ false → token_at at whole ≡ None → behind front (tokens_from 0 at whole) ≡ told → told ≡ None
fails front at b whole bs told e off k h = sym h ∙ ap (λ (ts : List ℕ). behind front (tokens_from 0 at ts)) e ∙ ap (behind front) (token_fails at b bs off (ap (token_at at) (sym e) ∙ k))

pub ends : (front : List Word) (at : ℕ) (rest : List ℕ) (told : Option (List Word)) → rest ≡ [] → behind front (tokens_from 0 at rest) ≡ told → told ≡ Some front
unfolding tokens_from
ends front at rest told e h = sym h ∙ ap (λ (ts : List ℕ). behind front (tokens_from 0 at ts)) e ∙ ap Some (append-nil front)

abbrev pub word_of : Span → List ℕ → Word
word_of span text = record { span = span; text = text }

pub word_is : (at : ℕ) (text copy : List ℕ) (h : at ≤ at + length text) → copy ≡ text → word_of (span_of at (at + length text) h) copy ≡ word_at at text
word_is at text copy h e = ap (word_of (span_of at (at + length text) h)) e ∙ ap (λ (s : Span). word_of s text) (span_same at (at + length text) (at + length text) h (le-add_right at (length text)) refl)
