-- What stands beside a type is read.
use Rattle.std.proofs.Common.{◌≡◌, ℕ, zero, suc, ◌+◌, ◌≤◌, Bool, true, false, ◌&&◌, List, [], ◌∷◌, ◌++◌, length, length-append, Option, Some, None, refl, sym, ap, ◌∙◌, subst, append_assoc, arith}
use Rattle.std.proofs.lemmas.Option.{same_Some}
use Rattle.cx_base.proofs.General.{not_true}
use Rattle.cx_cword.specs.declared.word.Keyword.{Keyword}
use Rattle.cx_cword.specs.declared.word.Keyword.TheVariants as k
use Rattle.cx_cword.specs.declared.word.Punctuator.{Punctuator}
use Rattle.cx_cword.specs.declared.word.Punctuator.TheVariants as p
use Rattle.cx_cword.specs.declared.lexeme.Lexeme.{Lexeme}
use Rattle.cx_cword.specs.declared.lexeme.LexemeKind.{LexemeKind}
use Rattle.cx_cword.specs.declared.lexeme.LexemeKind.TheVariants as l
use Rattle.cx_cword.specs.Reading.{Is, IsWord, ◌>>=◌}
use Rattle.cx_cword.specs.declared.mark.Mark.{Mark}
use Rattle.cx_cword.specs.declared.mark.Mark.TheVariants as m
use Rattle.cx_cdecl.specs.declared.kinds.Bracket.TheVariants as b
use Rattle.cx_cdecl.specs.Declarations.{Beside, also_said, both_said, partner, is_plain, AreBalanced, none_balanced, plain_balanced, group_balanced, IsAttributes, attributes, AreBeside, none_beside, word_beside, attributes_beside, AreAfter, none_after, attributes_after, asm_after}
use Rattle.cx_cdecl.specs.Kinds.{also_says, is_attribute, is_after, bracket_by, bracket_of}
use Rattle.cx_cdecl.specs.Reading.{Got, wanted, if_true, balanced_by, balanced_at, attributes_at, beside_attributes, beside_by, beside_at, after_by, after_at}
use Rattle.cx_cdecl.proofs.BesideSound.{word_first, attributes_first, nothing_more, kept_bare}
use Rattle.cx_cdecl.proofs.Follows.{is_beside, is_beside_word, no_beside, no_keyword, wanted_goes, bind_goes, keyword_after}
use Rattle.cx_cword.proofs.Marks.{kind_of}

-- ---- attributes

-- the first lexeme is one at which reading among attributes ends
abbrev pub Stopping : List Lexeme → Type 0
Stopping [] = Unit {0}
Stopping (o ∷ os) = bracket_of o.kind ≡ b.Stop

plain_mark : (q : Punctuator) → is_plain (l.Punctuator q) ≡ true → bracket_by q ≡ b.Plain
plain_mark p.OpenParen e = absurd cc
plain_mark p.OpenBracket e = absurd cc
plain_mark p.OpenBrace e = absurd cc
plain_mark p.CloseParen e = absurd cc
plain_mark p.CloseBracket e = absurd cc
plain_mark p.CloseBrace e = absurd cc
plain_mark _ e = refl

plain_bracket : (kind : LexemeKind) → is_plain kind ≡ true → bracket_of kind ≡ b.Plain
plain_bracket (l.Punctuator q) e = plain_mark q e
plain_bracket (l.Attributive n) e = absurd cc
plain_bracket _ e = refl

-- the mark that closes, and that nothing goes on at it
record Opening (kind : LexemeKind) (close : Punctuator) : Type 0 where
  mark : Mark
  opens : bracket_of kind ≡ b.Open mark
  same : kind_of mark ≡ l.Punctuator close
  stops : bracket_by close ≡ b.Stop

opening_mark : (q close : Punctuator) → partner (l.Punctuator q) ≡ Some close → Opening (l.Punctuator q) close
opening_mark p.OpenParen close e = subst (Opening (l.Punctuator p.OpenParen)) (same_Some p.CloseParen close e) (record { mark = m.CloseParen; opens = refl; same = refl; stops = refl })
opening_mark p.OpenBracket close e = subst (Opening (l.Punctuator p.OpenBracket)) (same_Some p.CloseBracket close e) (record { mark = m.CloseBracket; opens = refl; same = refl; stops = refl })
opening_mark p.OpenBrace close e = subst (Opening (l.Punctuator p.OpenBrace)) (same_Some p.CloseBrace close e) (record { mark = m.CloseBrace; opens = refl; same = refl; stops = refl })
opening_mark _ close e = absurd cc

opening : (kind : LexemeKind) (close : Punctuator) → partner kind ≡ Some close → Opening kind close
opening (l.Punctuator q) close e = opening_mark q close e
opening (l.Keyword w) close e = absurd cc
opening (l.Constant v t) close e = absurd cc
opening (l.Name n) close e = absurd cc
opening (l.Attributive n) close e = absurd cc
opening l.Other close e = absurd cc

group_goes : (n : ℕ) (o w : Lexeme) (a rest : List Lexeme) (close : Punctuator) → partner o.kind ≡ Some close → Is close w → (Stopping (w ∷ rest) → balanced_at n (a ++ w ∷ rest) ≡ Some (w ∷ rest))
    → balanced_by (balanced_at n) o (a ++ w ∷ rest) (bracket_of o.kind) ≡ balanced_at n rest
group_goes n o w a rest close e is inside =
    let q = opening o.kind close e in
    ap (balanced_by (balanced_at n) o (a ++ w ∷ rest)) q.opens
    ∙ bind_goes (balanced_at n (a ++ w ∷ rest)) (λ v. wanted q.mark v (balanced_at n)) (w ∷ rest) (inside (ap bracket_of is ∙ q.stops))
    ∙ wanted_goes q.mark w rest (balanced_at n) (is ∙ sym q.same)

balanced_end : (n : ℕ) (rest : List Lexeme) → Stopping rest → balanced_at (suc n) rest ≡ Some rest
unfolding balanced_at
balanced_end n [] stops = refl
balanced_end n (o ∷ rest) stops = ap (balanced_by (balanced_at n) o rest) stops

pub balanced_there : {a : List Lexeme} → AreBalanced a → (n : ℕ) (rest : List Lexeme) → Stopping rest → length (a ++ rest) + 1 ≤ n → balanced_at n (a ++ rest) ≡ Some rest
unfolding balanced_at
balanced_there none_balanced zero rest stops enough = absurd (omega (arith, enough))
balanced_there none_balanced (suc n) rest stops enough = balanced_end n rest stops
balanced_there (plain_balanced o e h) zero rest stops enough = absurd (omega (arith, enough))
balanced_there (plain_balanced {os = os} o e h) (suc n) rest stops enough = ap (balanced_by (balanced_at n) o (os ++ rest)) (plain_bracket o.kind e) ∙ balanced_there h n rest stops (omega (arith, enough))
balanced_there (group_balanced o w close e h is g) zero rest stops enough = absurd (omega (arith, enough))
balanced_there (group_balanced {a = a} {c = c} o w close e h is g) (suc n) rest stops enough =
    let parts : (a ++ w ∷ c) ++ rest ≡ a ++ w ∷ (c ++ rest) = append_assoc a (w ∷ c) rest in
    let long = length-append a (w ∷ (c ++ rest)) in
    let whole = ap length parts in
    ap (λ (v : List Lexeme). balanced_by (balanced_at n) o v (bracket_of o.kind)) parts
    ∙ group_goes n o w a (c ++ rest) close e is (λ s. balanced_there h n (w ∷ (c ++ rest)) s (omega (arith, enough, whole, long)))
    ∙ balanced_there g n rest stops (omega (arith, enough, whole, long))

-- a list of attributes is its word and what is read after it
pub record Listed (word : Keyword) (front : List Lexeme) : Type 0 where
  pub o : Lexeme
  pub tail : List Lexeme
  pub parts : front ≡ o ∷ tail
  pub is : IsWord word o
  pub reads : (turns : ℕ) (rest : List Lexeme) → length (tail ++ rest) ≤ turns → attributes_at turns (tail ++ rest) ≡ Some rest

abbrev shut : List Lexeme → Option (List Lexeme)
shut inside = wanted m.CloseParen inside (λ after. Some after)

listed_reads : (o c : Lexeme) (a : List Lexeme) → Is p.OpenParen o → AreBalanced a → Is p.CloseParen c → (turns : ℕ) (rest : List Lexeme) → length ((o ∷ a ++ c ∷ []) ++ rest) ≤ turns → attributes_at turns ((o ∷ a ++ c ∷ []) ++ rest) ≡ Some rest
unfolding attributes_at
listed_reads o c a opens h shuts turns rest enough =
    let parts : (a ++ c ∷ []) ++ rest ≡ a ++ c ∷ rest = append_assoc a (c ∷ []) rest in
    wanted_goes m.OpenParen o ((a ++ c ∷ []) ++ rest) (λ v. balanced_at turns v >>= shut) opens
    ∙ ap (λ (v : List Lexeme). balanced_at turns v >>= shut) parts
    ∙ bind_goes (balanced_at turns (a ++ c ∷ rest)) shut (c ∷ rest) (balanced_there h turns (c ∷ rest) (ap bracket_of shuts) (let e = ap length parts in omega (arith, enough, e)))
    ∙ wanted_goes m.CloseParen c rest (λ after. Some after) shuts

pub attributes_there : {word : Keyword} {front : List Lexeme} → IsAttributes word front → Listed word front
attributes_there (attributes {a = a} o w c is opens h shuts) = record { o = o; tail = w ∷ a ++ c ∷ []; parts = refl; is = is; reads = listed_reads w c a opens h shuts }

-- ---- words and attributes beside a type

-- reading goes on behind what stands there, with so many turns left
pub record Besides (turns : ℕ) (open_ : Bool) (n : ℕ) (s said : Beside) (front rest : List Lexeme) : Type 0 where
  pub left : ℕ
  pub enough : length rest + 1 ≤ left
  pub goes : beside_at turns open_ n s (front ++ rest) ≡ beside_at turns open_ left (both_said s said) rest

says_goes : (o : Lexeme) (w : Keyword) (s t : Beside) → IsWord w o → also_said w s ≡ Some t → also_says o.kind s ≡ Some t
says_goes o w s t is e = ap (λ (x : LexemeKind). also_says x s) is ∙ e

-- a word before the others says the same as after them
record Moved (w : Keyword) (s r q : Beside) : Type 0 where
  t : Beside
  says : also_said w s ≡ Some t
  same : both_said t r ≡ both_said s q

moved : (w : Keyword) (s r q : Beside) → also_said w r ≡ Some q → Moved w s r q
moved w s r q e =
    let a = word_first w r q s e in
    let c = word_first w s a.0 r a.1 in
    record { t = a.0; says = a.1; same = c.2 ∙ ap (both_said s) (same_Some c.0 q (sym c.1 ∙ e)) }

word_goes : (turns : ℕ) (open_ : Bool) (n : ℕ) (s t : Beside) (o : Lexeme) (rest : List Lexeme) → also_says o.kind s ≡ Some t → beside_at turns open_ (suc n) s (o ∷ rest) ≡ beside_at turns open_ n t rest
unfolding beside_at
word_goes turns open_ n s t o rest e = ap (λ (x : Option Beside). beside_by (beside_at turns open_ n) (record { tree = s; rest = o ∷ rest }) x (if_true (open_ && is_attribute o.kind) (attributes_at turns rest)) rest) e

list_goes : (turns n : ℕ) (s : Beside) (o : Lexeme) (os rest : List Lexeme) → IsWord k.Attribute o → attributes_at turns os ≡ Some rest → beside_at turns true (suc n) s (o ∷ os) ≡ beside_at turns true n (record s { attributed = true }) rest
unfolding beside_at
list_goes turns n s o os rest is e =
    ap (λ (x : LexemeKind). beside_by (beside_at turns true n) (record { tree = s; rest = o ∷ os }) (also_says x s) (if_true (is_attribute x) (attributes_at turns os)) os) is
    ∙ ap (beside_attributes (beside_at turns true n (record s { attributed = true })) (record { tree = s; rest = o ∷ os })) e

pub beside_goes : {a : List Lexeme} {said : Beside} → AreBeside a said → (turns : ℕ) (open_ : Bool) (n : ℕ) (s : Beside) (rest : List Lexeme) → length (a ++ rest) ≤ turns → length (a ++ rest) + 1 ≤ n → (open_ ≡ false → said.attributed ≡ false) → Besides turns open_ n s said a rest
beside_goes none_beside turns open_ n s rest room enough bare = record { left = n; enough = enough; goes = ap (λ (v : Beside). beside_at turns open_ n v rest) (sym (nothing_more s)) }
beside_goes (word_beside o w is h e) turns open_ zero s rest room enough bare = absurd (omega (arith, enough))
beside_goes (word_beside {os = os} {s = r} {said = q} o w is h e) turns open_ (suc n) s rest room enough bare =
    let f = moved w s r q e in
    let g = beside_goes h turns open_ n f.t rest (omega (arith, room)) (omega (arith, enough)) (λ off. sym (kept_bare w r q e) ∙ bare off) in
    record {
      left = g.left;
      enough = g.enough;
      goes = word_goes turns open_ n s f.t o (os ++ rest) (says_goes o w s f.t is f.says) ∙ g.goes ∙ ap (λ (v : Beside). beside_at turns open_ g.left v rest) f.same;
    }
beside_goes (attributes_beside i h) turns open_ zero s rest room enough bare = let a = attributes_there i in absurd (omega (arith, enough))
beside_goes (attributes_beside i h) turns false (suc n) s rest room enough bare = let off = bare refl in absurd cc
beside_goes (attributes_beside {a = a} {os = os} {s = r} i h) turns true (suc n) s rest room enough bare =
    let f = attributes_there i in
    let parts : (a ++ os) ++ rest ≡ f.o ∷ (f.tail ++ (os ++ rest)) = append_assoc a os rest ∙ ap (λ (v : List Lexeme). v ++ (os ++ rest)) f.parts in
    let whole = ap length parts in
    let long = length-append f.tail (os ++ rest) in
    let g = beside_goes h turns true n (record s { attributed = true }) rest (omega (arith, room, whole, long)) (omega (arith, enough, whole, long)) (λ off. absurd cc) in
    record {
      left = g.left;
      enough = g.enough;
      goes = ap (beside_at turns true (suc n) s) parts
          ∙ list_goes turns n s f.o (f.tail ++ (os ++ rest)) (os ++ rest) f.is (f.reads turns (os ++ rest) (omega (arith, room, whole)))
          ∙ g.goes ∙ ap (λ (v : Beside). beside_at turns true g.left v rest) (attributes_first s r);
    }

-- ---- where nothing more stands beside a type

word_says_none : (w : Keyword) (s : Beside) → is_beside_word w ≡ false → also_said w s ≡ None
word_says_none k.Typedef s e = absurd cc
word_says_none k.Extern s e = absurd cc
word_says_none k.Static s e = absurd cc
word_says_none k.Inline s e = absurd cc
word_says_none k.Register s e = absurd cc
word_says_none k.Skipped s e = absurd cc
word_says_none _ s e = refl

says_none : (kind : LexemeKind) (s : Beside) → is_beside kind ≡ false → also_says kind s ≡ None
says_none (l.Keyword w) s e = word_says_none w s e
says_none _ s e = refl

word_no_attribute : (w : Keyword) → is_beside_word w ≡ false → is_attribute (l.Keyword w) ≡ false
word_no_attribute k.Attribute e = absurd cc
word_no_attribute _ e = refl

no_attribute : (kind : LexemeKind) → is_beside kind ≡ false → is_attribute kind ≡ false
no_attribute (l.Keyword w) e = word_no_attribute w e
no_attribute _ e = refl

and_no : (a c : Bool) → c ≡ false → (a && c) ≡ false
and_no true c e = e
and_no false c e = refl

pub beside_ends : (turns : ℕ) (open_ : Bool) (n : ℕ) (s : Beside) (rest : List Lexeme) → no_beside rest ≡ true → beside_at turns open_ n s rest ≡ record { tree = s; rest = rest }
unfolding beside_at
beside_ends turns open_ zero s rest e = refl
beside_ends turns open_ (suc n) s [] e = refl
beside_ends turns open_ (suc n) s (o ∷ rest) e =
    let off = not_true (is_beside o.kind) e in
    let stop : Got Beside = record { tree = s; rest = o ∷ rest } in
    let list : Bool → Option (List Lexeme) = λ c. if_true c (attributes_at turns rest) in
    ap (λ (x : Option Beside). beside_by (beside_at turns open_ n) stop x (list (open_ && is_attribute o.kind)) rest) (says_none o.kind s off)
    ∙ ap (λ (c : Bool). beside_attributes (beside_at turns open_ n (record s { attributed = true })) stop (list c)) (and_no open_ (is_attribute o.kind) (no_attribute o.kind off))

-- what stands beside a type is read
pub beside_there : {a : List Lexeme} {said : Beside} → AreBeside a said → (turns : ℕ) (open_ : Bool) (n : ℕ) (s : Beside) (rest : List Lexeme) → no_beside rest ≡ true → length (a ++ rest) ≤ turns → length (a ++ rest) + 1 ≤ n → (open_ ≡ false → said.attributed ≡ false)
    → beside_at turns open_ n s (a ++ rest) ≡ record { tree = both_said s said; rest = rest }
beside_there {said = said} h turns open_ n s rest ends room enough bare = let g = beside_goes h turns open_ n s rest room enough bare in g.goes ∙ beside_ends turns open_ g.left (both_said s said) rest ends

-- ---- after the parameters of a function

pub record Afters (turns n : ℕ) (front rest : List Lexeme) : Type 0 where
  pub left : ℕ
  pub enough : length rest + 1 ≤ left
  pub goes : after_at turns n (front ++ rest) ≡ after_at turns left rest

after_list_goes : (turns n : ℕ) (o : Lexeme) (os rest : List Lexeme) → is_after o.kind ≡ true → attributes_at turns os ≡ Some rest → after_at turns (suc n) (o ∷ os) ≡ after_at turns n rest
unfolding after_at
after_list_goes turns n o os rest is e = ap (λ (c : Bool). after_by (after_at turns n) (o ∷ os) (if_true c (attributes_at turns os))) is ∙ ap (after_by (after_at turns n) (o ∷ os)) e

after_one : (turns n : ℕ) (w : Keyword) (a os rest : List Lexeme) → IsAttributes w a → is_after (l.Keyword w) ≡ true → length ((a ++ os) ++ rest) ≤ turns → length ((a ++ os) ++ rest) + 1 ≤ suc n
    → (length (os ++ rest) + 1 ≤ n → Afters turns n os rest) → Afters turns (suc n) (a ++ os) rest
after_one turns n w a os rest i is room enough again =
    let f = attributes_there i in
    let parts : (a ++ os) ++ rest ≡ f.o ∷ (f.tail ++ (os ++ rest)) = append_assoc a os rest ∙ ap (λ (v : List Lexeme). v ++ (os ++ rest)) f.parts in
    let whole = ap length parts in
    let long = length-append f.tail (os ++ rest) in
    let g = again (omega (arith, enough, whole, long)) in
    record {
      left = g.left;
      enough = g.enough;
      goes = ap (after_at turns (suc n)) parts ∙ after_list_goes turns n f.o (f.tail ++ (os ++ rest)) (os ++ rest) (ap is_after f.is ∙ is) (f.reads turns (os ++ rest) (omega (arith, room, whole))) ∙ g.goes;
    }

shorter : (a os rest : List Lexeme) (turns : ℕ) → length ((a ++ os) ++ rest) ≤ turns → length (os ++ rest) ≤ turns
shorter a os rest turns h = let e = ap length (append_assoc a os rest) in let f = length-append a (os ++ rest) in omega (arith, h, e, f)

pub after_goes : {a : List Lexeme} → AreAfter a → (turns n : ℕ) (rest : List Lexeme) → length (a ++ rest) ≤ turns → length (a ++ rest) + 1 ≤ n → Afters turns n a rest
after_goes none_after turns n rest room enough = record { left = n; enough = enough; goes = refl }
after_goes (attributes_after i h) turns zero rest room enough = absurd (omega (arith, enough))
after_goes (attributes_after {a = a} {os = os} i h) turns (suc n) rest room enough = after_one turns n k.Attribute a os rest i refl room enough (λ e. after_goes h turns n rest (shorter a os rest turns room) e)
after_goes (asm_after i h) turns zero rest room enough = absurd (omega (arith, enough))
after_goes (asm_after {a = a} {os = os} i h) turns (suc n) rest room enough = after_one turns n k.Asm a os rest i refl room enough (λ e. after_goes h turns n rest (shorter a os rest turns room) e)

pub after_ends : (turns n : ℕ) (rest : List Lexeme) → no_keyword rest ≡ true → after_at turns n rest ≡ rest
unfolding after_at
after_ends turns zero rest e = refl
after_ends turns (suc n) [] e = refl
after_ends turns (suc n) (o ∷ rest) e = ap (λ (c : Bool). after_by (after_at turns n) (o ∷ rest) (if_true c (attributes_at turns rest))) (keyword_after o rest e)

pub after_there : {a : List Lexeme} → AreAfter a → (turns n : ℕ) (rest : List Lexeme) → no_keyword rest ≡ true → length (a ++ rest) ≤ turns → length (a ++ rest) + 1 ≤ n → after_at turns n (a ++ rest) ≡ rest
after_there h turns n rest ends room enough = let g = after_goes h turns n rest room enough in g.goes ∙ after_ends turns g.left rest ends
