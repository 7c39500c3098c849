-- What a reader reads is what its pieces spell, whatever follows that may follow.
use Rattle.std.proofs.Common.{◌≡◌, ℕ, zero, suc, ◌+◌, ◌<◌, ◌≤◌, Bool, true, false, ◌⊎◌, List, [], ◌∷◌, ◌++◌, length, ◌-◌, if◌then◌else◌, Option, Some, None, refl, sym, ap, subst, ◌∙◌, arith, append_assoc, append-nil, inl, inr}
use Rattle.std.specs.List.{flat_map}
use Rattle.std.specs.Str.{bytes_eq}
use Rattle.std.proofs.lemmas.Bool.{cases_Bool}
use Rattle.cx_form.specs.declared.tree.Word.{Word}
use Rattle.cx_form.specs.Grammar.{Piece, named, fixed, Spells, is_name, optional_pieces}
use Rattle.cx_form.specs.Reading.{Reader, ◌>>=◌, pair, next_has, next_names, past, named_at, before, closed, mapped, both, nothing, either, many_from, many, is_end, optional_at, whole}
use Rattle.cx_form.proofs.Options.{some_same, bind_some}
use Rattle.cx_form.proofs.Many.{many_turn, many_stops}
use Rattle.cx_form.proofs.Texts.{same, is_same, other, no_name}

-- ---- tokens and pieces

pub spells_join : (ps qs : List Piece) (ts mid rest : List Word) → Spells ps ts mid → Spells qs mid rest → Spells (ps ++ qs) ts rest
unfolding Spells
spells_join [] qs ts mid rest h k = subst (λ (v : List Word). Spells qs v rest) (sym h) k
spells_join (p ∷ ps) qs [] mid rest h k = absurd h
spells_join (p ∷ ps) qs (t ∷ ts) mid rest h k = (h.0, spells_join ps qs ts mid rest h.1 k)

pub record Cut (ps qs : List Piece) (ts rest : List Word) : Type 0 where
  pub mid : List Word
  pub left : Spells ps ts mid
  pub right : Spells qs mid rest

pub spells_cut : (ps qs : List Piece) (ts rest : List Word) → Spells (ps ++ qs) ts rest → Cut ps qs ts rest
unfolding Spells
spells_cut [] qs ts rest h = record { mid = ts; left = refl; right = h }
spells_cut (p ∷ ps) qs [] rest h = absurd h
spells_cut (p ∷ ps) qs (t ∷ ts) rest h = let c = spells_cut ps qs ts rest h.1 in record { mid = c.mid; left = (h.0, c.left); right = c.right }

pub spells_length : (ps : List Piece) (ts rest : List Word) → Spells ps ts rest → length ts ≡ length ps + length rest
unfolding Spells
spells_length [] ts rest h = ap length h ∙ omega arith
spells_length (p ∷ ps) [] rest h = absurd h
spells_length (p ∷ ps) (t ∷ ts) rest h = let e = spells_length ps ts rest h.1 in omega arith

pub begins : (text : List ℕ) (ps : List Piece) (ts rest : List Word) → Spells (fixed text ∷ ps) ts rest → next_has text ts ≡ true
unfolding Spells
begins text ps [] rest h = absurd h
begins text ps (t ∷ ts) rest h = same t.text text h.0

pub begins_other : (text wanted : List ℕ) (ps : List Piece) (ts rest : List Word) → bytes_eq text wanted ≡ false → Spells (fixed text ∷ ps) ts rest → next_has wanted ts ≡ false
unfolding Spells
begins_other text wanted ps [] rest off h = absurd h
begins_other text wanted ps (t ∷ ts) rest off h = other t.text text wanted h.0 off

pub name_other : (w : Word) (wanted : List ℕ) (ps : List Piece) (ts rest : List Word) → is_name wanted ≡ false → Spells (named w ∷ ps) ts rest → next_has wanted ts ≡ false
unfolding Spells
name_other w wanted ps [] rest off h = absurd h
name_other w wanted ps (t ∷ ts) rest off h = no_name t.text wanted h.0.1 off

pub name_names : (w : Word) (ps : List Piece) (ts rest : List Word) → Spells (named w ∷ ps) ts rest → next_names ts ≡ true
unfolding Spells
name_names w ps [] rest h = absurd h
name_names w ps (t ∷ ts) rest h = h.0.1

pub fixed_names : (text : List ℕ) (ps : List Piece) (ts rest : List Word) → is_name text ≡ false → Spells (fixed text ∷ ps) ts rest → next_names ts ≡ false
unfolding Spells
fixed_names text ps [] rest off h = absurd h
fixed_names text ps (t ∷ ts) rest off h = ap is_name h.0 ∙ off

past_sound : (text : List ℕ) (ts rest : List Word) → past text ts ≡ Some rest → Spells (fixed text ∷ []) ts rest
unfolding Spells
past_sound text [] rest e = absurd cc
past_sound text (t ∷ ts) rest e = elim (cases_Bool (bytes_eq t.text text)) [
  | inl on ↦ (is_same t.text text on, some_same ts rest (rw on at e))
  | inr off ↦ let k : None ≡ Some rest = rw off at e in absurd cc
]

pub record Past (text : List ℕ) (ps : List Piece) (ts rest : List Word) : Type 0 where
  pub mid : List Word
  pub is : past text ts ≡ Some mid
  pub more : Spells ps mid rest

past_again : (text : List ℕ) (ps : List Piece) (ts rest : List Word) → Spells (fixed text ∷ ps) ts rest → Past text ps ts rest
unfolding Spells
past_again text ps [] rest h = absurd h
past_again text ps (t ∷ ts) rest h = record { mid = ts; is = rw (same t.text text h.0) refl; more = h.1 }

-- ---- readers

-- of what there is to read it reads these, each by its pieces, where the tokens after it pass
pub record Reads {A : Type 0} (pieces : A → List Piece) (some : A → Type 0) (read : Reader A) (ends : List Word → Type 0) : Type 0 where
  pub sound : (ts : List Word) (x : A) (rest : List Word) → read ts ≡ Some (x, rest) → some x × Spells (pieces x) ts rest
  pub again : (x : A) (ts rest : List Word) → some x → Spells (pieces x) ts rest → ends rest → read ts ≡ Some (x, rest)

abbrev pub All : {A : Type 0} → A → Type 0
All x = Unit {0}

abbrev pub Any : List Word → Type 0
Any ts = Unit {0}

-- it stops before a token that the test does not pass
abbrev pub Stops : (List Word → Bool) → List Word → Type 0
Stops test ts = test ts ≡ false

abbrev pub Ends : List Word → Type 0
Ends ts = is_end ts ≡ true

pub same_pair : {A : Type 0} (x y : A) (ts rest : List Word) → Some (pair x ts) ≡ Some (pair y rest) → (x ≡ y) × (ts ≡ rest)
same_pair {A} x y ts rest e = let p = some_same (pair x ts) (pair y rest) e in (ap (λ (q : A × List Word). q.0) p, ap (λ (q : A × List Word). q.1) p)

pub nil_is : (ts rest : List Word) → Spells [] ts rest → ts ≡ rest
unfolding Spells
nil_is ts rest h = h

named_sound : (ts : List Word) (x : Word) (rest : List Word) → named_at ts ≡ Some (x, rest) → Spells (named x ∷ []) ts rest
unfolding Spells
named_sound [] x rest e = absurd cc
named_sound (t ∷ ts) x rest e = elim (cases_Bool (is_name t.text)) [
  | inl on ↦ let p = same_pair t x ts rest (rw on at e) in ((sym p.0, on), p.1)
  | inr off ↦ let k : None ≡ Some (pair x rest) = rw off at e in absurd cc
]

named_again : (x : Word) (ts rest : List Word) → Spells (named x ∷ []) ts rest → named_at ts ≡ Some (x, rest)
unfolding Spells
named_again x [] rest h = absurd h
named_again x (t ∷ ts) rest h = rw h.0.1 (ap Some (λ i. (sym h.0.0 i, h.1 i)))

pub named_reads : Reads (λ w. named w ∷ []) All named_at Any
named_reads = record { sound = λ ts x rest e. (tt, named_sound ts x rest e); again = λ x ts rest s h f. named_again x ts rest h }

nothing_sound : (ts : List Word) (x : Unit {0}) (rest : List Word) → nothing ts ≡ Some (x, rest) → Spells [] ts rest
unfolding Spells
nothing_sound ts x rest e = (same_pair tt x ts rest e).1

nothing_again : (x : Unit {0}) (ts rest : List Word) → Spells [] ts rest → nothing ts ≡ Some (x, rest)
nothing_again x ts rest h = ap (λ (v : List Word). Some (x, v)) (nil_is ts rest h)

pub nothing_reads : Reads {A = Unit {0}} (λ x. []) All nothing Any
nothing_reads = record { sound = λ ts x rest e. (tt, nothing_sound ts x rest e); again = λ x ts rest s h f. nothing_again x ts rest h }

-- the test tells two kinds of things apart by their tokens
abbrev pub Tests : {A : Type 0} → (A → List Piece) → (A → Type 0) → (A → Type 0) → (List Word → Bool) → (List Word → Type 0) → A → Type 0
Tests pieces some others test ends y = (some y × ((ts rest : List Word) → Spells (pieces y) ts rest → ends rest → test ts ≡ true)) ⊎ (others y × ((ts rest : List Word) → Spells (pieces y) ts rest → ends rest → test ts ≡ false))

module _ {A : Type 0} {pieces : A → List Piece} {some : A → Type 0} {read : Reader A} {ends : List Word → Type 0} where
  pub before_reads : (text : List ℕ) → Reads pieces some read ends → Reads (λ x. fixed text ∷ pieces x) some (before text read) ends
  before_reads text r = record {
    sound = λ ts x rest e.
        let b = bind_some (past text ts) read (x, rest) e in
        let s = r.sound b.x x rest b.gives in
        (s.0, spells_join (fixed text ∷ []) (pieces x) ts b.x rest (past_sound text ts b.x b.is) s.1);
    again = λ x ts rest s h f.
        let p = past_again text (pieces x) ts rest h in
        ap (λ (o : Option (List Word)). o >>= read) p.is ∙ r.again x p.mid rest s p.more f;
  }

  pub closed_reads : (text : List ℕ) → Reads pieces some read ends → ((ts rest : List Word) → Spells (fixed text ∷ []) ts rest → ends ts) → Reads (λ x. pieces x ++ fixed text ∷ []) some (closed read text) Any
  closed_reads text r follows = record {
    sound = λ ts x rest e.
        let b = bind_some (read ts) (λ a. past text a.1 >>= λ rest. Some (a.0, rest)) (x, rest) e in
        let c = bind_some (past text b.x.1) (λ rest. Some (b.x.0, rest)) (x, rest) b.gives in
        let p = same_pair b.x.0 x c.x rest c.gives in
        let s = r.sound ts b.x.0 b.x.1 b.is in
        let t : Spells (fixed text ∷ []) b.x.1 rest = subst (λ (v : List Word). Spells (fixed text ∷ []) b.x.1 v) p.1 (past_sound text b.x.1 c.x c.is) in
        let whole : some b.x.0 × Spells (pieces b.x.0 ++ fixed text ∷ []) ts rest = (s.0, spells_join (pieces b.x.0) (fixed text ∷ []) ts b.x.1 rest s.1 t) in
        subst (λ (v : A). some v × Spells (pieces v ++ fixed text ∷ []) ts rest) p.0 whole;
    again = λ x ts rest s h f.
        let c = spells_cut (pieces x) (fixed text ∷ []) ts rest h in
        let p = past_again text [] c.mid rest c.right in
        ap (λ (o : Option (A × List Word)). o >>= λ a. past text a.1 >>= λ rest. Some (a.0, rest)) (r.again x ts c.mid s c.left (follows c.mid rest c.right))
        ∙ ap (λ (o : Option (List Word)). o >>= λ rest. Some (x, rest)) p.is ∙ ap (λ (v : List Word). Some (x, v)) (nil_is p.mid rest p.more);
  }

  pub mapped_reads : {B : Type 0} (f : A → B) (whole : B → List Piece) → Reads pieces some read ends → ((x : A) → whole (f x) ≡ pieces x) → Reads whole (λ y. (x : A) × some x × (f x ≡ y)) (mapped f read) ends
  mapped_reads {B} f whole r shape = record {
    sound = λ ts y rest e.
        let b = bind_some (read ts) (λ a. Some (f a.0, a.1)) (y, rest) e in
        let p = same_pair (f b.x.0) y b.x.1 rest b.gives in
        let s = r.sound ts b.x.0 b.x.1 b.is in
        let h : Spells (whole (f b.x.0)) ts rest = subst (λ (ps : List Piece). Spells ps ts rest) (sym (shape b.x.0)) (subst (λ (v : List Word). Spells (pieces b.x.0) ts v) p.1 s.1) in
        ((b.x.0, s.0, p.0), subst (λ (v : B). Spells (whole v) ts rest) p.0 h);
    again = λ y ts rest s h k.
        let spelled : Spells (pieces s.0) ts rest = subst (λ (ps : List Piece). Spells ps ts rest) (ap whole (sym s.2) ∙ shape s.0) h in
        ap (λ (o : Option (A × List Word)). o >>= λ a. Some (f a.0, a.1)) (r.again s.0 ts rest s.1 spelled k) ∙ ap (λ (v : B). Some (v, rest)) s.2;
  }

  pub either_reads : {others : A → Type 0} {otherwise : Reader A} (test : List Word → Bool) → Reads pieces some read ends → Reads pieces others otherwise ends
      → ((y : A) → Tests pieces some others test ends y)
      → Reads pieces All (either test read otherwise) ends
  either_reads {others} {otherwise} test r q tells = record {
    sound = λ ts y rest e. elim (cases_Bool (test ts)) [
      | inl on ↦ (tt, (r.sound ts y rest (rw on at e)).1)
      | inr off ↦ (tt, (q.sound ts y rest (rw off at e)).1)
    ];
    again = λ y ts rest s h k. elim (tells y) [
      | inl one ↦ rw (one.1 ts rest h k) (r.again y ts rest one.0 h k)
      | inr other ↦ rw (other.1 ts rest h k) (q.again y ts rest other.0 h k)
    ];
  }

-- the same pieces, written otherwise
pub reshaped : {A : Type 0} {pieces : A → List Piece} {some : A → Type 0} {read : Reader A} {ends : List Word → Type 0} → Reads pieces some read ends → (shape : A → List Piece) → ((x : A) → pieces x ≡ shape x) → Reads shape some read ends
reshaped {A} {pieces} {some} {read} {ends} r shape e = record {
  sound = λ ts x rest k. let s = r.sound ts x rest k in (s.0, subst (λ (ps : List Piece). Spells ps ts rest) (e x) s.1);
  again = λ x ts rest s h f. r.again x ts rest s (subst (λ (ps : List Piece). Spells ps ts rest) (sym (e x)) h) f;
}

pub weaker : {A : Type 0} {pieces : A → List Piece} {some : A → Type 0} {read : Reader A} {ends : List Word → Type 0} → Reads pieces some read Any → Reads pieces some read ends
weaker q = record { sound = q.sound; again = λ x ts rest s h e. q.again x ts rest s h tt }

module _ {A B C : Type 0} {left : A → List Piece} {right : B → List Piece} {one : Reader A} {two : Reader B} {ends after : List Word → Type 0} where
  pub both_reads : (make : A → B → C) (first : C → A) (second : C → B) → ((a : A) (b : B) → first (make a b) ≡ a) → ((a : A) (b : B) → second (make a b) ≡ b) → ((c : C) → make (first c) (second c) ≡ c)
      → Reads left All one ends → Reads right All two after → ((b : B) (ts rest : List Word) → Spells (right b) ts rest → after rest → ends ts)
      → Reads (λ c. left (first c) ++ right (second c)) All (both one two make) after
  both_reads make first second is_first is_second is_made r q follows = record {
    sound = λ ts c rest e.
        let b = bind_some (one ts) (λ a. two a.1 >>= λ b. Some (make a.0 b.0, b.1)) (c, rest) e in
        let d = bind_some (two b.x.1) (λ b'. Some (make b.x.0 b'.0, b'.1)) (c, rest) b.gives in
        let p = same_pair (make b.x.0 d.x.0) c d.x.1 rest d.gives in
        let h = (r.sound ts b.x.0 b.x.1 b.is).1 in
        let k : Spells (right d.x.0) b.x.1 rest = subst (λ (v : List Word). Spells (right d.x.0) b.x.1 v) p.1 (q.sound b.x.1 d.x.0 d.x.1 d.is).1 in
        let a_is : b.x.0 ≡ first c = sym (is_first b.x.0 d.x.0) ∙ ap first p.0 in
        let b_is : d.x.0 ≡ second c = sym (is_second b.x.0 d.x.0) ∙ ap second p.0 in
        (tt, spells_join (left (first c)) (right (second c)) ts b.x.1 rest (subst (λ (v : A). Spells (left v) ts b.x.1) a_is h) (subst (λ (v : B). Spells (right v) b.x.1 rest) b_is k));
    again = λ c ts rest s h k.
        let cut = spells_cut (left (first c)) (right (second c)) ts rest h in
        ap (λ (o : Option (A × List Word)). o >>= λ a. two a.1 >>= λ b. Some (make a.0 b.0, b.1)) (r.again (first c) ts cut.mid tt cut.left (follows (second c) cut.mid rest cut.right k))
        ∙ ap (λ (o : Option (B × List Word)). o >>= λ b. Some (make (first c) b.0, b.1)) (q.again (second c) cut.mid rest tt cut.right k)
        ∙ ap (λ (v : C). Some (v, rest)) (is_made c);
  }

-- ---- lists

pub record ManyFound {A : Type 0} (pieces : A → List Piece) (all : List A) (ts : List Word) (xs : List A) (rest : List Word) : Type 0 where
  pub more : List A
  pub is : xs ≡ all ++ more
  pub spelled : Spells (flat_map pieces more) ts rest

none_more : {A : Type 0} {pieces : A → List Piece} (all xs : List A) (ts rest : List Word) → Some (pair all ts) ≡ Some (pair xs rest) → ManyFound pieces all ts xs rest
unfolding Spells
none_more all xs ts rest e = let p = same_pair all xs ts rest e in record { more = []; is = sym p.0 ∙ sym (append-nil all); spelled = p.1 }

one_more : {A : Type 0} {pieces : A → List Piece} (x : A) (all xs : List A) (ts mid rest : List Word) → Spells (pieces x) ts mid → ManyFound pieces (all ++ x ∷ []) mid xs rest → ManyFound pieces all ts xs rest
one_more {A} {pieces} x all xs ts mid rest h f = record { more = x ∷ f.more; is = f.is ∙ append_assoc all (x ∷ []) f.more; spelled = spells_join (pieces x) (flat_map pieces f.more) ts mid rest h f.spelled }

-- each item has a token, and its first passes the test
pub record Tells {A : Type 0} (pieces : A → List Piece) (test : List Word → Bool) : Type 0 where
  pub filled : (x : A) → 0 < length (pieces x)
  pub goes : (x : A) (ts rest : List Word) → Spells (pieces x) ts rest → test ts ≡ true

module _ {A : Type 0} {pieces : A → List Piece} {read : Reader A} where
  pub many_sound : Reads pieces All read Any → (test : List Word → Bool) (n : ℕ) (all : List A) (ts : List Word) (xs : List A) (rest : List Word) → many_from read test n all ts ≡ Some (xs, rest) → ManyFound pieces all ts xs rest
  unfolding many_from
  many_sound r test zero all ts xs rest e = none_more all xs ts rest e
  many_sound r test (suc n) all ts xs rest e = elim (cases_Bool (test ts)) [
    | inl on ↦
        let b = bind_some (read ts) (λ a. many_from read test n (all ++ a.0 ∷ []) a.1) (xs, rest) (rw on at e) in
        one_more b.x.0 all xs ts b.x.1 rest (r.sound ts b.x.0 b.x.1 b.is).1 (many_sound r test n (all ++ b.x.0 ∷ []) b.x.1 xs rest b.gives)
    | inr off ↦ none_more all xs ts rest (rw off at e)
  ]

  pub many_again : Reads pieces All read Any → (test : List Word → Bool) → Tells pieces test → (more : List A) (n : ℕ) (all : List A) (ts rest : List Word) → length ts ≤ n → Spells (flat_map pieces more) ts rest → test rest ≡ false
      → many_from read test n all ts ≡ Some (all ++ more, rest)
  many_again r test tells [] n all ts rest enough h off =
      let e = nil_is ts rest h in
      many_stops read test n all ts (ap test e ∙ off) ∙ ap (λ (p : List A × List Word). Some p) (λ i. (sym (append-nil all) i, e i))
  many_again r test tells (x ∷ more) n all ts rest enough h off =
      let cut = spells_cut (pieces x) (flat_map pieces more) ts rest h in
      let on = tells.goes x ts cut.mid cut.left in
      let shorter = spells_length (pieces x) ts cut.mid cut.left in
      let some = tells.filled x in
      let again = many_again r test tells more (n - 1) (all ++ x ∷ []) cut.mid rest (omega arith) cut.right off in
      many_turn read test n all ts cut.mid x (omega arith) on (r.again x ts cut.mid tt cut.left tt) ∙ again ∙ ap (λ (v : List A). Some (v, rest)) (append_assoc all (x ∷ []) more)

  pub many_reads : Reads pieces All read Any → (test : List Word → Bool) → Tells pieces test → Reads (flat_map pieces) All (many read test) (Stops test)
  many_reads r test tells = record {
    sound = λ ts xs rest e. let f = many_sound r test (length ts) [] ts xs rest e in (tt, subst (λ (v : List A). Spells (flat_map pieces v) ts rest) (sym f.is) f.spelled);
    again = λ xs ts rest s h off. many_again r test tells xs (length ts) [] ts rest (omega arith) h off;
  }

  -- one in front, and more behind it
  pub more_reads : {first : A → List Piece} {start : Reader A} → Reads first All start Any → Reads pieces All read Any → (test : List Word → Bool) → Tells pieces test → (whole : List A → List Piece) → ((x : A) (xs : List A) → whole (x ∷ xs) ≡ first x ++ flat_map pieces xs)
      → Reads whole (λ xs. (x : A) × (more : List A) × (xs ≡ x ∷ more)) (λ ts. start ts >>= λ a. many_from read test (length a.1) (a.0 ∷ []) a.1) (Stops test)
  more_reads {first} {start} q r test tells whole shape = record {
    sound = λ ts xs rest e.
        let b = bind_some (start ts) (λ a. many_from read test (length a.1) (a.0 ∷ []) a.1) (xs, rest) e in
        let f = many_sound r test (length b.x.1) (b.x.0 ∷ []) b.x.1 xs rest b.gives in
        let h = spells_join (first b.x.0) (flat_map pieces f.more) ts b.x.1 rest (q.sound ts b.x.0 b.x.1 b.is).1 f.spelled in
        ((b.x.0, f.more, f.is), subst (λ (ps : List Piece). Spells ps ts rest) (sym (shape b.x.0 f.more) ∙ ap whole (sym f.is)) h);
    again = λ xs ts rest s h off.
        let cut = spells_cut (first s.0) (flat_map pieces s.1) ts rest (subst (λ (ps : List Piece). Spells ps ts rest) (ap whole s.2 ∙ shape s.0 s.1) h) in
        ap (λ (o : Option (A × List Word)). o >>= λ a. many_from read test (length a.1) (a.0 ∷ []) a.1) (q.again s.0 ts cut.mid tt cut.left tt)
        ∙ many_again r test tells s.1 (length cut.mid) (s.0 ∷ []) cut.mid rest (omega arith) cut.right off
        ∙ ap (λ (v : List A). Some (v, rest)) (sym s.2);
  }

-- ---- what may be missing at the end, and the whole

end_not : (ps : List Piece) (ts rest : List Word) → 0 < length ps → Spells ps ts rest → is_end ts ≡ false
unfolding Spells
end_not [] ts rest some h = absurd (omega arith)
end_not (p ∷ ps) [] rest some h = absurd h
end_not (p ∷ ps) (t ∷ ts) rest some h = refl

nil_ends : (ts rest : List Word) → Spells [] ts rest → Ends rest → Ends ts
unfolding Spells
nil_ends ts rest h e = ap is_end h ∙ e

pub optional_reads : {A : Type 0} {pieces : A → List Piece} {read : Reader A} → ((x : A) → 0 < length (pieces x)) → Reads pieces All read Any → Reads (optional_pieces pieces) All (optional_at read) Ends
optional_reads {A} {pieces} {read} filled r =
    either_reads is_end (weaker (mapped_reads {B = Option A} (λ _. None) (optional_pieces pieces) nothing_reads (λ x. refl))) (weaker (mapped_reads Some (optional_pieces pieces) r (λ x. refl))) tells
  where
    tells : (y : Option A) → Tests (optional_pieces pieces) (λ y. (x : Unit {0}) × Unit {0} × (None ≡ y)) (λ y. (x : A) × Unit {0} × (Some x ≡ y)) is_end Ends y
    tells None = inl ((tt, tt, refl), λ ts rest h e. nil_ends ts rest h e)
    tells (Some x) = inr ((x, tt, refl), λ ts rest h e. end_not (pieces x) ts rest (filled x) h)

end_is : (ts : List Word) → is_end ts ≡ true → ts ≡ []
end_is [] e = refl
end_is (t ∷ ts) e = absurd cc

pub whole_sound : {A : Type 0} {pieces : A → List Piece} {read : Reader A} → Reads pieces All read Ends → (ts : List Word) (x : A) → whole read ts ≡ Some x → Spells (pieces x) ts []
whole_sound {A} {pieces} {read} r ts x e =
    let b = bind_some (read ts) (λ a. if is_end a.1 then Some a.0 else None) x e in
    elim (cases_Bool (is_end b.x.1)) [
      | inl on ↦
          let same : b.x.0 ≡ x = some_same b.x.0 x (rw on at b.gives) in
          subst (λ (v : A). Spells (pieces v) ts []) same (subst (λ (v : List Word). Spells (pieces b.x.0) ts v) (end_is b.x.1 on) (r.sound ts b.x.0 b.x.1 b.is).1)
      | inr off ↦ let k : None ≡ Some x = rw off at b.gives in absurd cc
    ]

pub whole_again : {A : Type 0} {pieces : A → List Piece} {read : Reader A} → Reads pieces All read Ends → (x : A) (ts : List Word) → Spells (pieces x) ts [] → whole read ts ≡ Some x
whole_again {A} r x ts h = ap (λ (o : Option (A × List Word)). o >>= λ a. if is_end a.1 then Some a.0 else None) (r.again x ts [] tt h refl)
