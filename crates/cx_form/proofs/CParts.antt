-- The readers of a C file read what its grammar spells.
use Rattle.std.proofs.Common.{◌≡◌, ℕ, ◌<◌, ◌≤◌, Bool, true, false, not, ◌&&◌, List, [], ◌∷◌, ◌++◌, length, max, nat_le, Option, Some, None, refl, sym, ap, subst, ◌∙◌, arith, append_assoc, append-nil, inl, inr, codes}
use Rattle.std.proofs.Math.Nat.{le-max_left}
use Rattle.std.specs.List.{flat_map}
use Rattle.std.specs.Str.{bytes_eq}
use Rattle.std.proofs.lemmas.Bool.{cases_Bool}
use Rattle.std.proofs.lemmas.Bool.Decides.{nat_tests}
use Rattle.cx_base.specs.declared.span.Span.{Span}
use Rattle.cx_form.specs.declared.tree.Word.{Word}
use Rattle.cx_form.specs.declared.tree.ValueType.{ValueType}
use Rattle.cx_form.specs.declared.tree.ValueType.TheVariants as value
use Rattle.cx_form.specs.declared.tree.Struct.{Struct}
use Rattle.cx_form.specs.declared.tree.Parameter.{Parameter}
use Rattle.cx_form.specs.declared.tree.Statement.{Statement}
use Rattle.cx_form.specs.declared.tree.Statement.TheVariants.{Load, Store}
use Rattle.cx_form.specs.declared.tree.Ending.{Ending}
use Rattle.cx_form.specs.declared.tree.Function.{Function}
use Rattle.cx_form.specs.declared.c_file.Body.{Body}
use Rattle.cx_form.specs.Tokens.{starts_name}
use Rattle.cx_form.specs.Grammar.{Piece, named, fixed, fixed_from, fixed_upto, Spells, is_name, reserved, type_pieces, member_pieces, struct_pieces, result_pieces, parameter_pieces, next_parameter_pieces, parameters_pieces, statement_pieces, value_pieces, ending_pieces, block_pieces, function_pieces, optional_pieces, c_file_pieces}
use Rattle.cx_form.specs.Reading.{◌>>=◌, next_has, next_names, placed_at, pair, type_at, member_at, goes_on_members, members_at, struct_at, begins_struct, structs_at, result_at, parameter_at, next_parameter_at, more_parameters_at, parameters_at, Tail, loads, stores, statement_of, load_at, store_at, tail_at, statement_at, statements_at, span_between, returned_at, ended_by, return_at, ending_at, block_at, function_of, function_at, is_end, c_file_at}
use Rattle.cx_form.proofs.Options.{some_same, bind_some}
use Rattle.cx_form.proofs.Texts.{same, is_same}
use Rattle.cx_form.proofs.Spans.{between_is}
use Rattle.cx_form.proofs.Exact.{Reads, All, Any, Stops, Ends, Tests, spells_cut, spells_join, nil_is, begins, begins_other, name_other, name_names, fixed_names, same_pair, named_reads, nothing_reads, before_reads, closed_reads, mapped_reads, either_reads, reshaped, weaker, both_reads, many_reads, more_reads, optional_reads}

-- ---- types and members

type_tells : (y : ValueType) → Tests type_pieces (λ y. (x : Word) × Unit {0} × (value.Pointer x ≡ y)) (λ y. (x : Unit {0}) × Unit {0} × (value.UnsignedLong ≡ y)) (next_has (codes "struct")) Any y
type_tells value.UnsignedLong = inr ((tt, tt, refl), λ ts rest h e. begins_other (codes "unsigned") (codes "struct") _ ts rest refl h)
type_tells (value.Pointer tag) = inl ((tag, tt, refl), λ ts rest h e. begins (codes "struct") _ ts rest h)

pub type_reads : Reads type_pieces All type_at Any
unfolding type_at
type_reads = either_reads (next_has (codes "struct"))
    (mapped_reads value.Pointer type_pieces (before_reads (codes "struct") (closed_reads (codes "*") named_reads (λ ts rest h. tt))) (λ x. refl))
    (mapped_reads (λ x. value.UnsignedLong) type_pieces (before_reads (codes "unsigned") (before_reads (codes "long") nothing_reads)) (λ x. refl))
    type_tells

-- a type does not begin with another word
type_other : (t : ValueType) (ps : List Piece) (wanted : List ℕ) (ts rest : List Word) → bytes_eq (codes "struct") wanted ≡ false → bytes_eq (codes "unsigned") wanted ≡ false → Spells (type_pieces t ++ ps) ts rest → next_has wanted ts ≡ false
type_other value.UnsignedLong ps wanted ts rest a b h = begins_other (codes "unsigned") wanted _ ts rest b h
type_other (value.Pointer tag) ps wanted ts rest a b h = begins_other (codes "struct") wanted _ ts rest a h

type_filled : (t : ValueType) (ps : List Piece) → 0 < length (type_pieces t ++ ps)
type_filled value.UnsignedLong ps = omega arith
type_filled (value.Pointer tag) ps = omega arith

pub member_reads : Reads member_pieces All member_at Any
unfolding member_at
member_reads = both_reads (λ t w. record { ctype = t; name = w }) (λ m. m.ctype) (λ m. m.name) (λ a b. refl) (λ a b. refl) (λ c. refl)
    type_reads (closed_reads (codes ";") named_reads (λ ts rest h. tt)) (λ b ts rest h e. tt)

pub members_reads : Reads (flat_map member_pieces) All members_at (Stops goes_on_members)
unfolding members_at
members_reads = many_reads member_reads goes_on_members (record {
  filled = λ m. type_filled m.ctype (named m.name ∷ fixed (codes ";") ∷ []);
  goes = λ m ts rest h. ap not (type_other m.ctype (named m.name ∷ fixed (codes ";") ∷ []) (codes "}") ts rest refl refl h);
})

pub struct_reads : Reads struct_pieces All struct_at Any
unfolding struct_at
struct_reads = reshaped
    (before_reads (codes "struct") (both_reads (λ w ms. record { name = w; members = ms }) (λ s. s.name) (λ s. s.members) (λ a b. refl) (λ a b. refl) (λ c. refl)
    named_reads
    (before_reads (codes "{") (closed_reads (codes ";") (closed_reads (codes "}") members_reads (λ ts rest h. ap not (begins (codes "}") [] ts rest h))) (λ ts rest h. tt)))
    (λ b ts rest h e. tt)))
    struct_pieces
    (λ s. ap (λ (ps : List Piece). fixed (codes "struct") ∷ named s.name ∷ fixed (codes "{") ∷ ps) (append_assoc (flat_map member_pieces s.members) (fixed (codes "}") ∷ []) (fixed (codes ";") ∷ [])))

struct_begins : (s : Struct) (ts rest : List Word) → Spells (struct_pieces s) ts rest → begins_struct ts ≡ true
unfolding Spells
struct_begins s [] rest h = absurd h
struct_begins s (a ∷ []) rest h = absurd h.1
struct_begins s (a ∷ b ∷ []) rest h = absurd h.1.1
struct_begins s (a ∷ b ∷ c ∷ ts) rest h = rw (same a.text (codes "struct") h.0) (same c.text (codes "{") h.1.1.0)

pub structs_reads : Reads (flat_map struct_pieces) All structs_at (Stops begins_struct)
unfolding structs_at
structs_reads = many_reads struct_reads begins_struct (record { filled = λ s. omega arith; goes = struct_begins })

-- ---- parameters

result_tells : (y : Option ValueType) → Tests result_pieces (λ y. (x : Unit {0}) × Unit {0} × (None ≡ y)) (λ y. (x : ValueType) × Unit {0} × (Some x ≡ y)) (next_has (codes "void")) Any y
result_tells None = inl ((tt, tt, refl), λ ts rest h e. begins (codes "void") _ ts rest h)
result_tells (Some t) = inr ((t, tt, refl), λ ts rest h e. type_other t [] (codes "void") ts rest refl refl (subst (λ (ps : List Piece). Spells ps ts rest) (sym (append-nil (type_pieces t))) h))

pub result_reads : Reads result_pieces All result_at Any
unfolding result_at
result_reads = either_reads (next_has (codes "void")) (mapped_reads {B = Option ValueType} (λ x. None) result_pieces (before_reads (codes "void") nothing_reads) (λ x. refl)) (mapped_reads Some result_pieces type_reads (λ x. refl)) result_tells

pub parameter_reads : Reads parameter_pieces All parameter_at Any
unfolding parameter_at
parameter_reads = both_reads (λ t w. record { ctype = t; name = w }) (λ p. p.ctype) (λ p. p.name) (λ a b. refl) (λ a b. refl) (λ c. refl) type_reads named_reads (λ b ts rest h e. tt)

next_parameter_reads : Reads next_parameter_pieces All next_parameter_at Any
next_parameter_reads = before_reads (codes ",") parameter_reads

parameters_tell : (y : List Parameter) → Tests parameters_pieces (λ y. (x : Unit {0}) × Unit {0} × ([] ≡ y)) (λ y. (x : Parameter) × (more : List Parameter) × (y ≡ x ∷ more)) (next_has (codes "void")) (Stops (next_has (codes ","))) y
parameters_tell [] = inl ((tt, tt, refl), λ ts rest h e. begins (codes "void") _ ts rest h)
parameters_tell (p ∷ ps) = inr (
  (p, ps, refl),
  λ ts rest h e. type_other p.ctype (named p.name ∷ flat_map next_parameter_pieces ps) (codes "void") ts rest refl refl
      (subst (λ (v : List Piece). Spells v ts rest) (append_assoc (type_pieces p.ctype) (named p.name ∷ []) (flat_map next_parameter_pieces ps)) h),
)

pub parameters_reads : Reads parameters_pieces All parameters_at (Stops (next_has (codes ",")))
unfolding parameters_at more_parameters_at
parameters_reads = either_reads (next_has (codes "void")) (weaker (mapped_reads {B = List Parameter} (λ x. []) parameters_pieces (before_reads (codes "void") nothing_reads) (λ x. refl)))
    (more_reads parameter_reads next_parameter_reads (next_has (codes ",")) (record { filled = λ p. omega arith; goes = λ p ts rest h. begins (codes ",") _ ts rest h }) parameters_pieces (λ x xs. refl))
    parameters_tell

-- ---- statements

abbrev load_pieces : Word × Word → List Piece
load_pieces p = fixed (codes "=") ∷ named p.0 ∷ fixed (codes "->") ∷ named p.1 ∷ fixed (codes ";") ∷ []

abbrev store_pieces : Word × Word → List Piece
store_pieces p = fixed (codes "->") ∷ named p.0 ∷ fixed (codes "=") ∷ named p.1 ∷ fixed (codes ";") ∷ []

load_reads : Reads load_pieces All load_at Any
unfolding load_at
load_reads = before_reads (codes "=") (both_reads pair (λ p. p.0) (λ p. p.1) (λ a b. refl) (λ a b. refl) (λ c. refl) (closed_reads (codes "->") named_reads (λ ts rest h. tt)) (closed_reads (codes ";") named_reads (λ ts rest h. tt)) (λ b ts rest h e. tt))

store_reads : Reads store_pieces All store_at Any
unfolding store_at
store_reads = before_reads (codes "->") (both_reads pair (λ p. p.0) (λ p. p.1) (λ a b. refl) (λ a b. refl) (λ c. refl) (closed_reads (codes "=") named_reads (λ ts rest h. tt)) (closed_reads (codes ";") named_reads (λ ts rest h. tt)) (λ b ts rest h e. tt))

abbrev tail_pieces : Tail → List Piece
tail_pieces (loads a b) = load_pieces (a, b)
tail_pieces (stores a b) = store_pieces (a, b)

tail_tells : (y : Tail) → Tests tail_pieces (λ y. (x : Word × Word) × Unit {0} × (loads x.0 x.1 ≡ y)) (λ y. (x : Word × Word) × Unit {0} × (stores x.0 x.1 ≡ y)) (next_has (codes "=")) Any y
tail_tells (loads a b) = inl (((a, b), tt, refl), λ ts rest h e. begins (codes "=") _ ts rest h)
tail_tells (stores a b) = inr (((a, b), tt, refl), λ ts rest h e. begins_other (codes "->") (codes "=") _ ts rest refl h)

tail_reads : Reads tail_pieces All tail_at Any
unfolding tail_at
tail_reads = either_reads (next_has (codes "=")) (mapped_reads (λ p. loads p.0 p.1) tail_pieces load_reads (λ x. refl)) (mapped_reads (λ p. stores p.0 p.1) tail_pieces store_reads (λ x. refl)) tail_tells

abbrev word_of : Statement → Word
word_of (Load t p m) = t
word_of (Store p m v) = p

abbrev tail_of : Statement → Tail
tail_of (Load t p m) = loads p m
tail_of (Store p m v) = stores m v

word_is : (w : Word) (t : Tail) → word_of (statement_of w t) ≡ w
word_is w (loads a b) = refl
word_is w (stores a b) = refl

tail_is : (w : Word) (t : Tail) → tail_of (statement_of w t) ≡ t
tail_is w (loads a b) = refl
tail_is w (stores a b) = refl

statement_is : (s : Statement) → statement_of (word_of s) (tail_of s) ≡ s
statement_is (Load t p m) = refl
statement_is (Store p m v) = refl

statement_shape : (s : Statement) → named (word_of s) ∷ tail_pieces (tail_of s) ≡ statement_pieces s
statement_shape (Load t p m) = refl
statement_shape (Store p m v) = refl

pub statement_reads : Reads statement_pieces All statement_at Any
unfolding statement_at
statement_reads = reshaped (both_reads statement_of word_of tail_of word_is tail_is statement_is named_reads tail_reads (λ b ts rest h e. tt)) statement_pieces statement_shape

statement_filled : (s : Statement) → 0 < length (statement_pieces s)
statement_filled (Load t p m) = omega arith
statement_filled (Store p m v) = omega arith

statement_begins : (s : Statement) (ts rest : List Word) → Spells (statement_pieces s) ts rest → next_names ts ≡ true
statement_begins (Load t p m) ts rest h = name_names t _ ts rest h
statement_begins (Store p m v) ts rest h = name_names p _ ts rest h

pub statements_reads : Reads (flat_map statement_pieces) All statements_at (Stops next_names)
unfolding statements_at
statements_reads = many_reads statement_reads next_names (record { filled = statement_filled; goes = statement_begins })

-- ---- the return

abbrev returned_pieces : Option Word → List Piece
returned_pieces None = []
returned_pieces (Some w) = named w ∷ []

abbrev BeforeEnd : List Word → Type 0
BeforeEnd ts = next_has (codes ";") ts ≡ true

no_name_end : is_name (codes ";") ≡ false
unfolding starts_name
no_name_end = refl

returned_tells : (y : Option Word) → Tests returned_pieces (λ y. (x : Unit {0}) × Unit {0} × (None ≡ y)) (λ y. (x : Word) × Unit {0} × (Some x ≡ y)) (next_has (codes ";")) BeforeEnd y
returned_tells None = inl ((tt, tt, refl), λ ts rest h e. ap (next_has (codes ";")) (nil_is ts rest h) ∙ e)
returned_tells (Some w) = inr ((w, tt, refl), λ ts rest h e. name_other w (codes ";") [] ts rest no_name_end h)

returned_reads : Reads returned_pieces All returned_at BeforeEnd
unfolding returned_at
returned_reads = either_reads (next_has (codes ";")) (weaker (mapped_reads {B = Option Word} (λ x. None) returned_pieces nothing_reads (λ x. refl))) (weaker (mapped_reads Some returned_pieces named_reads (λ x. refl))) returned_tells

abbrev BeforeEndOf : List ℕ → List Word → Type 0
BeforeEndOf text ts = next_has text ts ≡ true

record Placed (text : List ℕ) (ts : List Word) (s : Span) (rest : List Word) : Type 0 where
  from_here : Spells (fixed_from s.first text ∷ []) ts rest
  upto_here : Spells (fixed_upto text s.past ∷ []) ts rest

placed_sound : (text : List ℕ) (ts : List Word) (s : Span) (rest : List Word) → placed_at text ts ≡ Some (s, rest) → Placed text ts s rest
unfolding Spells
placed_sound text [] s rest e = absurd cc
placed_sound text (t ∷ ts) s rest e = elim (cases_Bool (bytes_eq t.text text)) [
  | inl on ↦
      let p = same_pair t.span s ts rest (rw on at e) in
      record { from_here = ((is_same t.text text on, ap (λ (v : Span). v.first) p.0), p.1); upto_here = ((is_same t.text text on, ap (λ (v : Span). v.past) p.0), p.1) }
  | inr off ↦ let k : None ≡ Some (pair s rest) = rw off at e in absurd cc
]

record PlacedAgain (text : List ℕ) (ps : List Piece) (ts rest : List Word) : Type 0 where
  span : Span
  mid : List Word
  is : placed_at text ts ≡ Some (span, mid)
  more : Spells ps mid rest

from_again : (first : ℕ) (text : List ℕ) (ps : List Piece) (ts rest : List Word) → Spells (fixed_from first text ∷ ps) ts rest → (a : PlacedAgain text ps ts rest) × (a.span.first ≡ first)
unfolding Spells
from_again first text ps [] rest h = absurd h
from_again first text ps (t ∷ ts) rest h = (record { span = t.span; mid = ts; is = rw (same t.text text h.0.0) refl; more = h.1 }, h.0.1)

upto_again : (past : ℕ) (text : List ℕ) (ps : List Piece) (ts rest : List Word) → Spells (fixed_upto text past ∷ ps) ts rest → (a : PlacedAgain text ps ts rest) × (a.span.past ≡ past) × BeforeEndOf text ts
unfolding Spells
upto_again past text ps [] rest h = absurd h
upto_again past text ps (t ∷ ts) rest h = (record { span = t.span; mid = ts; is = rw (same t.text text h.0.0) refl; more = h.1 }, h.0.1, same t.text text h.0.0)

from_begins : (first : ℕ) (text : List ℕ) (ps : List Piece) (ts rest : List Word) → Spells (fixed_from first text ∷ ps) ts rest → next_has text ts ≡ true
unfolding Spells
from_begins first text ps [] rest h = absurd h
from_begins first text ps (t ∷ ts) rest h = same t.text text h.0.0

from_names : (first : ℕ) (text : List ℕ) (ps : List Piece) (ts rest : List Word) → is_name text ≡ false → Spells (fixed_from first text ∷ ps) ts rest → next_names ts ≡ false
unfolding Spells
from_names first text ps [] rest off h = absurd h
from_names first text ps (t ∷ ts) rest off h = ap is_name h.0.0 ∙ off

between_some : (first past : ℕ) (s : Span) → span_between first past ≡ Some s → (s.first ≡ first) × (s.past ≡ past)
between_some first past s e = elim (cases_Bool (nat_le first past)) [
  | inl on ↦
      let low : first ≤ past = grind (arith, nat_tests) in
      let made : Span = record { first = first; past = max first past; ordered = le-max_left first past } in
      let same : made ≡ s = some_same made s (rw on at e) in
      let top : max first past ≡ past = omega arith in
      (sym (ap (λ (v : Span). v.first) same), sym (ap (λ (v : Span). v.past) same) ∙ top)
  | inr off ↦ let k : None ≡ Some s = rw off at e in absurd cc
]

value_shape : (v : Option Word) (past : ℕ) → returned_pieces v ++ fixed_upto (codes ";") past ∷ [] ≡ value_pieces v past
value_shape None past = refl
value_shape (Some w) past = refl

abbrev return_pieces : Option Word → ℕ → ℕ → List Piece
return_pieces v first past = fixed_from first (codes "return") ∷ value_pieces v past

record ReturnFound (ts : List Word) (y : Option Ending) (rest : List Word) : Type 0 where
  ending : Ending
  is : y ≡ Some ending
  spelled : Spells (ending_pieces (Some ending)) ts rest

return_sound : (ts : List Word) (y : Option Ending) (rest : List Word) → return_at ts ≡ Some (y, rest) → ReturnFound ts y rest
unfolding return_at
return_sound ts y rest e =
    let b = bind_some (placed_at (codes "return") ts) (λ begun. returned_at begun.1 >>= λ value. placed_at (codes ";") value.1 >>= ended_by begun.0 value.0) (y, rest) e in
    let d = bind_some (returned_at b.x.1) (λ value. placed_at (codes ";") value.1 >>= ended_by b.x.0 value.0) (y, rest) b.gives in
    let f = bind_some (placed_at (codes ";") d.x.1) (ended_by b.x.0 d.x.0) (y, rest) d.gives in
    let g = bind_some (span_between b.x.0.first f.x.0.past) (λ s. Some (Some (record { span = s; value = d.x.0 }), f.x.1)) (y, rest) f.gives in
    let p = same_pair (Some (record { span = g.x; value = d.x.0 })) y f.x.1 rest g.gives in
    let n = between_some b.x.0.first f.x.0.past g.x g.is in
    let begun = placed_sound (codes "return") ts b.x.0 b.x.1 b.is in
    let end = placed_sound (codes ";") d.x.1 f.x.0 f.x.1 f.is in
    let tail = spells_join (returned_pieces d.x.0) (fixed_upto (codes ";") f.x.0.past ∷ []) b.x.1 d.x.1 f.x.1 (returned_reads.sound b.x.1 d.x.0 d.x.1 d.is).1 end.upto_here in
    let all : Spells (return_pieces d.x.0 b.x.0.first f.x.0.past) ts f.x.1 =
    spells_join (fixed_from b.x.0.first (codes "return") ∷ []) (value_pieces d.x.0 f.x.0.past) ts b.x.1 f.x.1 begun.from_here (subst (λ (ps : List Piece). Spells ps b.x.1 f.x.1) (value_shape d.x.0 f.x.0.past) tail) in
    let first : Spells (return_pieces d.x.0 g.x.first f.x.0.past) ts f.x.1 = subst (λ (k : ℕ). Spells (return_pieces d.x.0 k f.x.0.past) ts f.x.1) (sym n.0) all in
    let both : Spells (return_pieces d.x.0 g.x.first g.x.past) ts f.x.1 = subst (λ (k : ℕ). Spells (return_pieces d.x.0 g.x.first k) ts f.x.1) (sym n.1) first in
    record { ending = record { span = g.x; value = d.x.0 }; is = sym p.0; spelled = subst (λ (v : List Word). Spells (return_pieces d.x.0 g.x.first g.x.past) ts v) p.1 both }

return_again : (e : Ending) (ts rest : List Word) → Spells (ending_pieces (Some e)) ts rest → return_at ts ≡ Some (Some e, rest)
unfolding return_at
return_again e ts rest h =
    let a = from_again e.span.first (codes "return") (value_pieces e.value e.span.past) ts rest h in
    let cut = spells_cut (returned_pieces e.value) (fixed_upto (codes ";") e.span.past ∷ []) a.0.mid rest (subst (λ (ps : List Piece). Spells ps a.0.mid rest) (sym (value_shape e.value e.span.past)) a.0.more) in
    let u = upto_again e.span.past (codes ";") [] cut.mid rest cut.right in
    let between : span_between a.0.span.first u.0.span.past ≡ Some e.span = (λ i. span_between (a.1 i) (u.1 i)) ∙ between_is e.span.first e.span.past e.span.ordered in
    ap (λ (o : Option (Span × List Word)). o >>= λ begun. returned_at begun.1 >>= λ value. placed_at (codes ";") value.1 >>= ended_by begun.0 value.0) a.0.is
    ∙ ap (λ (o : Option (Option Word × List Word)). o >>= λ value. placed_at (codes ";") value.1 >>= ended_by a.0.span value.0) (returned_reads.again e.value a.0.mid cut.mid tt cut.left u.2)
    ∙ ap (λ (o : Option (Span × List Word)). o >>= ended_by a.0.span e.value) u.0.is
    ∙ ap (λ (o : Option Span). o >>= λ s. Some (Some (record { span = s; value = e.value }), u.0.mid)) between
    ∙ ap (λ (v : List Word). Some (Some e, v)) (nil_is u.0.mid rest u.0.more)

return_reads : Reads ending_pieces (λ y. (e : Ending) × (y ≡ Some e)) return_at Any
return_reads = record {
  sound = λ ts y rest e. let f = return_sound ts y rest e in ((f.ending, f.is), subst (λ (v : Option Ending). Spells (ending_pieces v) ts rest) (sym f.is) f.spelled);
  again = λ y ts rest s h k. return_again s.0 ts rest (subst (λ (v : Option Ending). Spells (ending_pieces v) ts rest) s.1 h) ∙ ap (λ (v : Option Ending). Some (v, rest)) (sym s.1);
}

ending_tells : (y : Option Ending) → Tests ending_pieces (λ y. (e : Ending) × (y ≡ Some e)) (λ y. (x : Unit {0}) × Unit {0} × (None ≡ y)) (next_has (codes "return")) (Stops (next_has (codes "return"))) y
ending_tells None = inr ((tt, tt, refl), λ ts rest h e. ap (next_has (codes "return")) (nil_is ts rest h) ∙ e)
ending_tells (Some e) = inl ((e, refl), λ ts rest h k. from_begins e.span.first (codes "return") _ ts rest h)

ending_reads : Reads ending_pieces All ending_at (Stops (next_has (codes "return")))
unfolding ending_at
ending_reads = either_reads (next_has (codes "return")) (weaker return_reads) (weaker (mapped_reads {B = Option Ending} (λ x. None) ending_pieces nothing_reads (λ x. refl))) ending_tells

-- ---- the function and the file

no_name_return : is_name (codes "return") ≡ false
unfolding starts_name reserved
no_name_return = refl

no_name_brace : is_name (codes "}") ≡ false
unfolding starts_name
no_name_brace = refl

block_follows : (y : Option Ending) (ts rest : List Word) → Spells (ending_pieces y ++ fixed (codes "}") ∷ []) ts rest → next_names ts ≡ false
block_follows None ts rest h = fixed_names (codes "}") [] ts rest no_name_brace h
block_follows (Some e) ts rest h = from_names e.span.first (codes "return") _ ts rest no_name_return h

abbrev body_pieces : Body → List Piece
body_pieces b = block_pieces b.body b.ending

block_reads : Reads body_pieces All block_at Any
unfolding block_at
block_reads = before_reads (codes "{") (both_reads (λ ss e. record { body = ss; ending = e }) (λ b. b.body) (λ b. b.ending) (λ a b. refl) (λ a b. refl) (λ c. refl)
    statements_reads (closed_reads (codes "}") ending_reads (λ ts rest h. begins_other (codes "}") (codes "return") [] ts rest refl h)) (λ y ts rest h k. block_follows y ts rest h))

abbrev parts_of : Function → Word × (List Parameter × Body)
parts_of f = (f.name, (f.parameters, record { body = f.body; ending = f.ending }))

pub function_reads : Reads function_pieces All function_at Any
unfolding function_at
function_reads = both_reads function_of (λ f. f.result) parts_of (λ a b. refl) (λ a b. refl) (λ c. refl)
    result_reads
    (both_reads pair (λ p. p.0) (λ p. p.1) (λ a b. refl) (λ a b. refl) (λ c. refl)
    named_reads
    (before_reads (codes "(") (both_reads pair (λ p. p.0) (λ p. p.1) (λ a b. refl) (λ a b. refl) (λ c. refl)
    parameters_reads (before_reads (codes ")") block_reads) (λ b ts rest h k. begins_other (codes ")") (codes ",") _ ts rest refl h)))
    (λ b ts rest h k. tt))
    (λ b ts rest h k. tt)

and_off : (p q : Bool) → q ≡ false → (p && q) ≡ false
and_off true q e = e
and_off false q e = refl

no_struct : (r : Option ValueType) (w : Word) (ps : List Piece) (ts rest : List Word) → Spells (result_pieces r ++ named w ∷ ps) ts rest → begins_struct ts ≡ false
unfolding Spells
no_struct r w ps [] rest h = refl
no_struct r w ps (a ∷ []) rest h = refl
no_struct None w ps (a ∷ b ∷ ts) rest h = ap (λ (text : List ℕ). bytes_eq text (codes "struct") && next_has (codes "{") ts) h.0
no_struct (Some value.UnsignedLong) w ps (a ∷ b ∷ ts) rest h = ap (λ (text : List ℕ). bytes_eq text (codes "struct") && next_has (codes "{") ts) h.0
no_struct (Some (value.Pointer tag)) w ps (a ∷ b ∷ []) rest h = absurd h.1.1
no_struct (Some (value.Pointer tag)) w ps (a ∷ b ∷ c ∷ ts) rest h = and_off (bytes_eq a.text (codes "struct")) (bytes_eq c.text (codes "{")) (ap (λ (text : List ℕ). bytes_eq text (codes "{")) h.1.1.0)

end_no_struct : (ts : List Word) → is_end ts ≡ true → begins_struct ts ≡ false
end_no_struct [] e = refl
end_no_struct (t ∷ ts) e = absurd cc

file_follows : (y : Option Function) (ts rest : List Word) → Spells (optional_pieces function_pieces y) ts rest → Ends rest → begins_struct ts ≡ false
file_follows None ts rest h e = end_no_struct ts (ap is_end (nil_is ts rest h) ∙ e)
file_follows (Some f) ts rest h e = no_struct f.result f.name _ ts rest h

function_filled : (r : Option ValueType) (w : Word) (ps : List Piece) → 0 < length (result_pieces r ++ named w ∷ ps)
function_filled None w ps = omega arith
function_filled (Some value.UnsignedLong) w ps = omega arith
function_filled (Some (value.Pointer tag)) w ps = omega arith

pub c_file_reads : Reads c_file_pieces All c_file_at Ends
unfolding c_file_at
c_file_reads = both_reads (λ ss f. record { structs = ss; function = f }) (λ c. c.structs) (λ c. c.function) (λ a b. refl) (λ a b. refl) (λ c. refl)
    structs_reads (optional_reads (λ f. function_filled f.result f.name _) function_reads) file_follows
