-- A list of vectors, and the list of their items.
use Rattle.std.proofs.Common.{◌≢◌, ◌<◌, ◌≤◌, ◌-◌, ◌^◌, length, get_or, subst, sym, arith, length-append, ◌≡◌, ℕ, List, [], ◌∷◌, ◌++◌, map, position, refl, ◌∙◌, Bool, true, false, cond, Some, None, ap, not, ◌||◌, ◌+◌, suc, Result, Ok, Err, Option}
use Rattle.std.specs.Prelude.{Vec}
use Rattle.std.specs.List.{position_or_len, list_any}
use Rattle.std.specs.Str.{bytes_eq}
use Rattle.std.specs.declared.alloc.Global.{Global}
use Rattle.std.proofs.lemmas.List.{length-map, map-append}
use Rattle.indexmap.specs.IndexSet.{insert_key}
use Rattle.std.proofs.lemmas.List.Folds.{list_any_at}
use Rattle.std.proofs.lemmas.List.Quantifiers.{all_pairs_push}
use Rattle.std.proofs.lemmas.Slice.Eq.{bytes_eq-Decides}
use Rattle.std.specs.Prelude.{All, slice_get, IfOk, OnOk, OnErr, IfSome, IfNone}
use Rattle.std.proofs.lemmas.List.Quantifiers.{position-Some}
use Rattle.std.proofs.lemmas.Option.{slice_get-get_or}
use Rattle.cx_base.proofs.Positions.{position_none}
use Rattle.cx_base.specs.Names.{Numbering, numbered}

pub place_map : (p : List ℕ → Bool) (vs : List (Vec ℕ Global)) → position_or_len p (map (λ v. v.items) vs) ≡ position_or_len (λ v. p v.items) vs
place_map p [] = refl
place_map p (v ∷ vs) = rw (place_map p vs) refl

pub position_map : (p : List ℕ → Bool) (vs : List (Vec ℕ Global)) → position p (map (λ v. v.items) vs) ≡ position (λ v. p v.items) vs
position_map p vs = rw (place_map p vs, length-map) refl

any_map : (p : List ℕ → Bool) (vs : List (Vec ℕ Global)) → list_any p (map (λ v. v.items) vs) ≡ list_any (λ v. p v.items) vs
any_map p [] = refl
any_map p (v ∷ vs) = rw (any_map p vs) refl

choose : (b : Bool) (vs : List (Vec ℕ Global)) (v : Vec ℕ Global) → map (λ w. w.items) (cond b vs (vs ++ v ∷ [])) ≡ cond b (map (λ w. w.items) vs) (map (λ w. w.items) vs ++ v.items ∷ [])
choose true vs v = refl
choose false vs v = map-append (λ (w : Vec ℕ Global). w.items) vs (v ∷ [])

pub numbered_map : (vs : List (Vec ℕ Global)) (v : Vec ℕ Global) → map (λ w. w.items) (insert_key (λ a b. bytes_eq a.items b.items) vs v) ≡ numbered (map (λ w. w.items) vs) v.items
numbered_map vs v = choose (list_any (λ w. bytes_eq v.items w.items) vs) vs v ∙ rw (any_map (bytes_eq v.items) vs) refl

bytes_eq_refl : (text : List ℕ) → bytes_eq text text ≡ true
bytes_eq_refl text = (bytes_eq-Decides text text).1 refl

-- the text is none of those that the test finds unequal
fresh : (texts : List (List ℕ)) (text : List ℕ) → list_any (bytes_eq text) texts ≡ false → (k : ℕ) (d : List ℕ) → k < length texts → get_or texts k d ≢ text
fresh texts text none k d below same =
    let t : bytes_eq text (get_or texts k d) ≡ true = subst (λ x. bytes_eq text x ≡ true) (sym same) (bytes_eq_refl text) in
    let some = list_any_at (bytes_eq text) texts k d below t in
    absurd (cc)

pub numbered-Numbering : (texts : List (List ℕ)) (text : List ℕ) → Numbering texts → length texts < 2 ^ 32 - 1 → Numbering (numbered texts text)
numbered-Numbering texts text h room = by_test (list_any (bytes_eq text) texts) refl
  where
    by_test : (b : Bool) → list_any (bytes_eq text) texts ≡ b → Numbering (cond b texts (texts ++ text ∷ []))
    by_test true e = h
    by_test false e = record {
      different = all_pairs_push (λ (a b : List ℕ). a ≢ b) texts text h.different (fresh texts text e);
      few = omega (arith, length-append {A = List ℕ}, room);
    }

-- a text that is found stands at its place
found_text : (texts : List (List ℕ)) (text : List ℕ) (n : ℕ) → position (bytes_eq text) texts ≡ Some n → slice_get texts n ≡ Some text
found_text texts text n e =
    let at = position-Some (bytes_eq text) texts n [] e in
    slice_get-get_or texts n [] at.0 ∙ ap Some (sym ((bytes_eq-Decides text (get_or texts n [])).0 at.1))

-- a text that is not found stands nowhere
absent_text : (texts : List (List ℕ)) (text : List ℕ) → position (bytes_eq text) texts ≡ None → All (λ t. t ≢ text) texts
absent_text texts text e k d below same =
    let yes : bytes_eq text (get_or texts k d) ≡ true = subst (λ x. bytes_eq text x ≡ true) (sym same) (bytes_eq_refl text) in
    let no = position_none (bytes_eq text) texts e k d below in
    absurd (cc)

one_later : (t text : List ℕ) (ts : List (List ℕ)) (n : ℕ) (b : Bool) → slice_get (cond b ts (ts ++ text ∷ [])) n ≡ Some text → slice_get (cond b (t ∷ ts) (t ∷ (ts ++ text ∷ []))) (1 + n) ≡ Some text
one_later t text ts n true e = let h : 1 + n ≡ suc n = omega arith in rw h e
one_later t text ts n false e = let h : 1 + n ≡ suc n = omega arith in rw h e

at_head : (t text : List ℕ) (ts : List (List ℕ)) (b : Bool) → (b ≡ true → text ≡ t) → slice_get (numbered ts text) (position_or_len (bytes_eq text) ts) ≡ Some text
    → slice_get (cond (b || list_any (bytes_eq text) ts) (t ∷ ts) ((t ∷ ts) ++ text ∷ [])) (cond (not b) (1 + position_or_len (bytes_eq text) ts) 0) ≡ Some text
at_head t text ts true e h = ap Some (sym (e refl))
at_head t text ts false e h = one_later t text ts (position_or_len (bytes_eq text) ts) (list_any (bytes_eq text) ts) h

text_stands : (texts : List (List ℕ)) (text : List ℕ) → slice_get (numbered texts text) (position_or_len (bytes_eq text) texts) ≡ Some text
text_stands [] text = refl
text_stands (t ∷ ts) text = at_head t text ts (bytes_eq text t) (bytes_eq-Decides text t).0 (text_stands ts text)

-- a text stands at the number that it got
pub number_stands : {E : Type 0} (r : Result ℕ E) (old new : List (List ℕ)) (text : List ℕ) → IfOk r (λ n. n ≡ position_or_len (bytes_eq text) old) → OnOk r (new ≡ numbered old text)
    → IfOk r (λ n. slice_get new n ≡ Some text)
number_stands (Ok n) old new text e f = ap (λ texts. slice_get texts n) f ∙ ap (slice_get (numbered old text)) e ∙ text_stands old text
number_stands (Err x) old new text e f = tt

pub number_found : (o : Option ℕ) (texts : List (List ℕ)) (text : List ℕ) → o ≡ position (bytes_eq text) texts → IfSome o (λ n. slice_get texts n ≡ Some text)
number_found (Some n) texts text e = found_text texts text n (sym e)
number_found None texts text e = tt

pub number_absent : (o : Option ℕ) (texts : List (List ℕ)) (text : List ℕ) → o ≡ position (bytes_eq text) texts → IfNone o (All (λ t. t ≢ text) texts)
number_absent (Some n) texts text e = tt
number_absent None texts text e = absent_text texts text (sym e)

length_chosen : (b : Bool) (texts : List (List ℕ)) (text : List ℕ) → length (cond b texts (texts ++ text ∷ [])) ≤ length texts + 1
length_chosen true texts text = omega arith
length_chosen false texts text = omega (arith, length-append {A = List ℕ})

-- at most one text more
pub number_grows : {E : Type 0} (r : Result ℕ E) (old new : List (List ℕ)) (text : List ℕ) → OnOk r (new ≡ numbered old text) → OnErr r (new ≡ old) → length new ≤ length old + 1
number_grows (Ok n) old new text e f = rw e (length_chosen (list_any (bytes_eq text) old) old text)
number_grows (Err x) old new text e f = rw f (omega arith)
