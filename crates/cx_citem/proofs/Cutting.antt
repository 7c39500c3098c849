-- The first item of a list of lexemes, and the items after it.
use Rattle.std.proofs.Common.{◌≡◌, ℕ, ◌+◌, ◌-◌, Bool, true, false, ◌&&◌, List, [], ◌∷◌, ◌++◌, length, take, drop, Some, None, refl, sym, ap, ◌∙◌, arith, append_assoc, length-append}
use Rattle.std.specs.Prelude.{if◌then◌else◌}
use Rattle.std.proofs.lemmas.Bool.{false≢true}
use Rattle.std.proofs.Math.Seq.{take-append_seam, drop-append_seam, take-length}
use Rattle.cx_cword.specs.declared.word.Punctuator.TheVariants as p
use Rattle.cx_cword.specs.declared.lexeme.Lexeme.{Lexeme}
use Rattle.cx_cword.specs.declared.lexeme.LexemeKind.{LexemeKind}
use Rattle.cx_cword.specs.declared.lexeme.LexemeKind.TheVariants as l
use Rattle.cx_citem.specs.declared.bracket.Bracket.TheVariants.{Brace}
use Rattle.cx_citem.specs.declared.bracket.Opened.{Opened}
use Rattle.cx_citem.specs.Items.{Place, beginning, same_bracket, ends_item, next_place, cut, items_of}
use Rattle.cx_citem.specs.Scanning.{length_from}

-- ---- where an item has ended, another one begins

-- after a `}`, by whether it is the partner of a brace that follows a `)`
closed_place : (w : Opened) (after begins follows same : Bool) → follows ≡ w.follows → same ≡ same_bracket w.kind Brace → (follows && same) ≡ true
    → next_place (record { open_ = w ∷ []; after_paren = after; begins = begins }) (l.Punctuator p.CloseBrace) ≡ beginning
closed_place w after begins true true f s h = rw (← f, ← s) refl
closed_place w after begins true false f s h = absurd (false≢true h)
closed_place w after begins false same f s h = absurd (false≢true h)

pub ended_place : (ws : List Opened) (after begins : Bool) (o : LexemeKind) → ends_item ws o ≡ true → next_place (record { open_ = ws; after_paren = after; begins = begins }) o ≡ beginning
ended_place [] after begins (l.Punctuator p.Semicolon) h = refl
ended_place (w ∷ []) after begins (l.Punctuator p.CloseBrace) h = closed_place w after begins w.follows (same_bracket w.kind Brace) refl refl h
ended_place (w ∷ v ∷ ws) after begins (l.Punctuator p.CloseBrace) h = absurd (false≢true h)
ended_place _ after begins _ h = absurd (false≢true h)

-- ---- cutting

-- the first of the lexemes of all items, where some lexemes of it came before
record Cut (item os : List Lexeme) (n m : ℕ) (all : List (List Lexeme)) : Type 0 where
  front : List Lexeme
  rest : List Lexeme
  parts : os ≡ front ++ rest
  count : m ≡ n + length front
  items : all ≡ (item ++ front) ∷ items_of rest

step_some : (ends : Bool) (after : Place) (item : List Lexeme) (o : Lexeme) (os : List Lexeme) (n m : ℕ) → (ends ≡ true → after ≡ beginning)
    → (length_from after (n + 1) os ≡ Some m → Cut (item ++ o ∷ []) os (n + 1) m (cut after (item ++ o ∷ []) os).0)
    → (if ends then Some (n + 1) else length_from after (n + 1) os) ≡ Some m
    → Cut item (o ∷ os) n m (if ends then (let r = cut after [] os in ((item ++ o ∷ []) ∷ r.0, r.1)) else cut after (item ++ o ∷ []) os).0
step_some true after item o os n m place later h = record {
  front = o ∷ [];
  rest = os;
  parts = refl;
  count = let e : n + 1 ≡ m = cc in omega arith;
  items = ap (λ (at : Place). (item ++ o ∷ []) ∷ (cut at [] os).0) (place refl);
}
step_some false after item o os n m place later h =
    let next = later h in
    record {
      front = o ∷ next.front;
      rest = next.rest;
      parts = ap (λ (l : List Lexeme). o ∷ l) next.parts;
      count = omega (arith, next.count);
      items = next.items ∙ ap (λ (l : List Lexeme). l ∷ items_of next.rest) (append_assoc item (o ∷ []) next.front);
    }

cut_some : (at : Place) (item os : List Lexeme) (n m : ℕ) → length_from at n os ≡ Some m → Cut item os n m (cut at item os).0
unfolding length_from
cut_some at item [] n m h = absurd cc
cut_some at item (o ∷ os) n m h =
    let after = next_place at o.kind in
    step_some (ends_item at.open_ o.kind) after item o os n m (ended_place at.open_ at.after_paren at.begins o.kind) (cut_some after (item ++ o ∷ []) os (n + 1) m) h

step_none : (ends : Bool) (after : Place) (item : List Lexeme) (o : Lexeme) (os : List Lexeme) (n : ℕ) → (length_from after (n + 1) os ≡ None → (cut after (item ++ o ∷ []) os).0 ≡ [])
    → (if ends then Some (n + 1) else length_from after (n + 1) os) ≡ None
    → (if ends then (let r = cut after [] os in ((item ++ o ∷ []) ∷ r.0, r.1)) else cut after (item ++ o ∷ []) os).0 ≡ []
step_none true after item o os n later h = absurd cc
step_none false after item o os n later h = later h

cut_none : (at : Place) (item os : List Lexeme) (n : ℕ) → length_from at n os ≡ None → (cut at item os).0 ≡ []
unfolding length_from
cut_none at item [] n h = refl
cut_none at item (o ∷ os) n h =
    let after = next_place at o.kind in
    step_none (ends_item at.open_ o.kind) after item o os n (cut_none after (item ++ o ∷ []) os (n + 1)) h

pub items_none : (os : List Lexeme) → None ≡ length_from beginning 0 os → items_of os ≡ []
items_none os h = cut_none beginning [] os 0 (sym h)

pub items_some : (os : List Lexeme) (n : ℕ) → Some n ≡ length_from beginning 0 os → items_of os ≡ take n os ∷ items_of (take (length os - n) (drop n os))
items_some os n h =
    let first = cut_some beginning [] os 0 n (sym h) in
    let front = first.front in
    let rest = first.rest in
    let count : n ≡ length front = omega (arith, first.count) in
    let same_front : take n os ≡ front = ap (λ (k : ℕ). take k os) count ∙ ap (take (length front)) first.parts ∙ take-append_seam front rest in
    let dropped : drop n os ≡ rest = ap (λ (k : ℕ). drop k os) count ∙ ap (drop (length front)) first.parts ∙ drop-append_seam front rest in
    let left : length os - n ≡ length rest = omega (arith, ap length first.parts, length-append front rest) in
    let same_rest : take (length os - n) (drop n os) ≡ rest = ap (λ (l : List Lexeme). take (length os - n) l) dropped ∙ ap (λ (k : ℕ). take k rest) left ∙ take-length rest in
    first.items ∙ ap (λ (l : List Lexeme). l ∷ items_of rest) (sym same_front) ∙ ap (λ (l : List Lexeme). take n os ∷ items_of l) (sym same_rest)
