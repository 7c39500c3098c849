-- Places of tags, and what stands before a list in braces.
use Rattle.std.proofs.Common.{◌≡◌, ◌≢◌, ℕ, Bool, true, false, ◌||◌, ◌==◌, cond, List, [], ◌∷◌, ◌++◌, length, Option, Some, None, refl, sym, ap, ◌∙◌, subst, arith, inl, inr, nat_lt, position, All, AllPairs}
use Rattle.std.proofs.lemmas.Bool.Decides.{nat_tests}
use Rattle.std.proofs.Common.{length-append, ◌+◌, ◌≤◌}
use Rattle.std.proofs.lemmas.List.Sums.{prefix_len-le-length}
use Rattle.std.proofs.lemmas.List.Folds.{position_or_len_push}
use Rattle.std.proofs.lemmas.List.Kept.{AllPairs-cons}
use Rattle.std.proofs.lemmas.List.Elements.{All-cons, All-nil}
use Rattle.std.specs.Prelude.{option_map, slice_get, not, is_some}
use Rattle.std.specs.List.{position_or_len}
use Rattle.std.proofs.lemmas.Option.{same_Some}
use Rattle.cx_base.proofs.General.{not_true, both_true}
use Rattle.cx_ctree.specs.Types.{TypeTree}
use Rattle.cx_ctree.specs.Decls.{MemberTree, TagTree}
use Rattle.cx_cword.specs.declared.word.Keyword.TheVariants as k
use Rattle.cx_cword.specs.declared.word.Punctuator.TheVariants as p
use Rattle.cx_cword.specs.declared.lexeme.Lexeme.{Lexeme}
use Rattle.cx_cword.specs.Reading.{Is, IsWord, IsName, name_of}
use Rattle.cx_cname.specs.Known.{Known, has_name, tag_place, HasKind, undeclared_members, with_tag}
use Rattle.cx_cexpr.specs.Expressions.{tag_word}
use Rattle.cx_cexpr.specs.Reading.{same_kind}
use Rattle.cx_cexpr.proofs.Steps.{at_first}
use Rattle.cx_cword.specs.declared.mark.Mark.TheVariants as m
use Rattle.cx_cdecl.specs.declared.kinds.Head.{Head}
use Rattle.cx_cdecl.specs.declared.kinds.Head.TheVariants as h
use Rattle.cx_cdecl.specs.Declarations.{tag_declared}
use Rattle.cx_cdecl.specs.Kinds.{head_of}
use Rattle.cx_cdecl.specs.Reading.{Got, Placed, new_tag, is_kind, place_by, place_at, names_member, are_distinct, Listing, braced_name, listing_after, listing_by, listing_at}
use Rattle.cx_cdecl.proofs.Shapes.{head_record, head_enum}
use Rattle.cx_cdecl.proofs.Steps.{if_some, choose_some}
use Rattle.cx_cword.specs.Marks.{fits}
use Rattle.cx_cword.proofs.Marks.{fits_is}

-- ---- a tag that is declared anew

test_false : (t : Bool) (n : ℕ) → cond t (Some n) None ≡ None → t ≡ false
test_false true n e = absurd cc
test_false false n e = refl

pub placed_last : {X : Type 0} (p : X → Bool) (xs : List X) (x : X) → position p xs ≡ None → p x ≡ true → position p (xs ++ x ∷ []) ≡ Some (length xs)
placed_last p xs x e f =
    let past : nat_lt (position_or_len p xs) (length xs) ≡ false = test_false _ _ e in
    let most : position_or_len p xs ≤ length xs = prefix_len-le-length (λ y. not (p y)) xs in
    let there : position_or_len p xs ≡ length xs = grind (arith, nat_tests, past, most) in
    let at : position_or_len p (xs ++ x ∷ []) ≡ length xs = position_or_len_push p xs x ∙ rw (there, f) (grind (arith, nat_tests)) in
    let long : length (xs ++ x ∷ []) ≡ length xs + 1 = length-append xs (x ∷ []) in
    let below : nat_lt (length xs) (length (xs ++ x ∷ [])) ≡ true = grind (arith, nat_tests, long) in
    ap (λ n. cond (nat_lt n (length (xs ++ x ∷ []))) (Some n) None) at ∙ ap (λ b. cond b (Some (length xs)) None) below

pub got_last : {X : Type 0} (xs : List X) (x : X) → slice_get (xs ++ x ∷ []) (length xs) ≡ Some x
got_last [] x = refl
got_last (y ∷ ys) x = got_last ys x

named_so : (n : ℕ) → has_name n (Some n) ≡ true
named_so n = grind (arith, nat_tests)

pub new_place : (env : Known) (n : ℕ) (union : Bool) → tag_place env n ≡ None → tag_place (with_tag env (Some n) union) n ≡ Some (length env.tags)
new_place env n union e = placed_last (λ t. has_name n t.name) env.tags (undeclared_members (Some n) union) e (named_so n)

pub new_kind : (env : Known) (name : Option ℕ) (union : Bool) → HasKind (with_tag env name union) (length env.tags) union
new_kind env name union = ap (option_map (λ (t : TagTree). t.union_)) (got_last env.tags (undeclared_members name union))

kind_same : (union : Bool) (o : Option Bool) → same_kind union o ≡ true → o ≡ Some union
kind_same false (Some false) e = refl
kind_same true (Some true) e = refl
kind_same _ _ e = absurd cc

pub kind_is : (env : Known) (union : Bool) (at : ℕ) → is_kind env union at ≡ true → HasKind env at union
kind_is env union at e = kind_same union (option_map (λ t. t.union_) (slice_get env.tags at)) e

-- ---- the place of a named tag

-- it is declared already, or is declared anew
pub data PlacedSo (env : Known) (union : Bool) (n : ℕ) : Placed → Type 0 where
  old_place : (at : ℕ) → tag_place env n ≡ Some at → HasKind env at union → PlacedSo env union n (record { place = at; known = env })
  fresh_place : tag_place env n ≡ None → PlacedSo env union n (new_tag env union (Some n))

placed_by : (env : Known) (union : Bool) (n : ℕ) (o : Option ℕ) (p : Placed) → tag_place env n ≡ o → place_by env union n o ≡ Some p → PlacedSo env union n p
placed_by env union n None p is e = subst (PlacedSo env union n) (same_Some (new_tag env union (Some n)) p e) (fresh_place is)
placed_by env union n (Some at) p is e =
    let h = if_some (is_kind env union at) (Some (record { place = at; known = env })) p e in
    subst (PlacedSo env union n) (same_Some (record { place = at; known = env }) p h.1) (old_place at is (kind_is env union at h.0))

pub placed_so : (env : Known) (union : Bool) (n : ℕ) (p : Placed) → place_at env union (Some n) ≡ Some p → PlacedSo env union n p
placed_so env union n p e = placed_by env union n (tag_place env n) p refl e

-- the tag is declared where its members are read
pub record Declared (env : Known) (union : Bool) (n : ℕ) (p : Placed) : Type 0 where
  pub known : p.known ≡ tag_declared env n union
  pub place : tag_place (tag_declared env n union) n ≡ Some p.place
  pub kind : HasKind (tag_declared env n union) p.place union

pub declared_so : (env : Known) (union : Bool) (n : ℕ) (p : Placed) → PlacedSo env union n p → Declared env union n p
declared_so env union n p (old_place at e f) =
    let same : env ≡ tag_declared env n union = sym (ap (λ (o : Option ℕ). cond (is_some o) env (with_tag env (Some n) union)) e) in
    record { known = same; place = ap (λ (v : Known). tag_place v n) (sym same) ∙ e; kind = subst (λ (v : Known). HasKind v at union) same f }
declared_so env union n p (fresh_place e) =
    let same : with_tag env (Some n) union ≡ tag_declared env n union = sym (ap (λ (o : Option ℕ). cond (is_some o) env (with_tag env (Some n) union)) e) in
    record { known = same; place = ap (λ (v : Known). tag_place v n) (sym same) ∙ new_place env n union e; kind = subst (λ (v : Known). HasKind v (length env.tags) union) same (new_kind env (Some n) union) }

-- ---- names of members

or_parts : (a b : Bool) → (a || b) ≡ false → (a ≡ false) × (b ≡ false)
or_parts true b e = absurd cc
or_parts false b e = (refl, e)

no_member : (n : ℕ) (ms : List MemberTree) (t : TypeTree) → names_member n ms ≡ false → All (λ y. n ≢ y.name) ms
no_member n [] t e = All-nil (λ y. n ≢ y.name)
no_member n (m ∷ ms) t e =
    let parts = or_parts (m.name == n) (names_member n ms) e in
    let differ : n ≢ m.name = λ same. let off = parts.0 in grind (arith, nat_tests, same, off) in
    All-cons (λ y. n ≢ y.name) m ms differ (no_member n ms t parts.1)

pub distinct_is : (ms : List MemberTree) → are_distinct ms ≡ true → AllPairs (λ x y. x.name ≢ y.name) ms
distinct_is [] e = λ a b d h k. absurd (omega (arith, k))
distinct_is (m ∷ ms) e =
    let parts = both_true (not (names_member m.name ms)) (are_distinct ms) e in
    AllPairs-cons (λ x y. x.name ≢ y.name) m ms (no_member m.name ms m.ctype (not_true (names_member m.name ms) parts.0)) (distinct_is ms parts.1)

-- ---- what stands before a list in braces

-- up to and with the brace that opens it
pub data Begins : List Lexeme → Listing → Type 0 where
  record_alone : (o b : Lexeme) (union : Bool) → IsWord (tag_word union) o → Is p.OpenBrace b → Begins (o ∷ b ∷ []) (record { union_ = Some union; name = None })
  record_named : (o w b : Lexeme) (n : ℕ) (union : Bool) → IsWord (tag_word union) o → IsName n w → Is p.OpenBrace b → Begins (o ∷ w ∷ b ∷ []) (record { union_ = Some union; name = Some n })
  enum_alone : (o b : Lexeme) → IsWord k.Enum o → Is p.OpenBrace b → Begins (o ∷ b ∷ []) (record { union_ = None; name = None })
  enum_named : (o w b : Lexeme) (n : ℕ) → IsWord k.Enum o → IsName n w → Is p.OpenBrace b → Begins (o ∷ w ∷ b ∷ []) (record { union_ = None; name = Some n })

pub record Listings (os : List Lexeme) (x : Got Listing) : Type 0 where
  pub front : List Lexeme
  pub parts : os ≡ front ++ x.rest
  pub so : Begins front x.tree

-- the word that may begin a list
abbrev Word : Option Bool → Lexeme → Type 0
Word (Some union) o = IsWord (tag_word union) o
Word None o = IsWord k.Enum o

alone : (union : Option Bool) (o b : Lexeme) → Word union o → Is p.OpenBrace b → Begins (o ∷ b ∷ []) (record { union_ = union; name = None })
alone (Some union) o b is open_ = record_alone o b union is open_
alone None o b is open_ = enum_alone o b is open_

with_name : (union : Option Bool) (o w b : Lexeme) (n : ℕ) → Word union o → IsName n w → Is p.OpenBrace b → Begins (o ∷ w ∷ b ∷ []) (record { union_ = union; name = Some n })
with_name (Some union) o w b n is called open_ = record_named o w b n union is called open_
with_name None o w b n is called open_ = enum_named o w b n is called open_

braced_some : (union : Option Bool) (o w : Lexeme) (rest : List Lexeme) (name : Option ℕ) (x : Got Listing) → Word union o → name_of w.kind ≡ name → braced_name union rest name ≡ Some x → Listings (o ∷ w ∷ rest) x
braced_some union o w rest None x is called e = absurd cc
braced_some union o w rest (Some n) x is called e =
    elim (choose_some m.OpenBrace rest None (λ after. Some (record { tree = record { union_ = union; name = Some n }; rest = after })) x e) [
      | inl c ↦ subst (Listings (o ∷ w ∷ rest)) (same_Some (record { tree = record { union_ = union; name = Some n }; rest = c.0 }) x c.2) (record { front = o ∷ w ∷ c.1.at ∷ []; parts = ap (λ (v : List Lexeme). o ∷ w ∷ v) c.1.parts; so = with_name union o w c.1.at n is called c.1.is })
      | inr bad ↦ absurd cc
    ]

after_word : (union : Option Bool) (o w : Lexeme) (rest : List Lexeme) (b : Bool) (x : Got Listing) → Word union o → fits m.OpenBrace w.kind ≡ b
    → cond b (Some (record { tree = record { union_ = union; name = None }; rest = rest })) (braced_name union rest (name_of w.kind)) ≡ Some x → Listings (o ∷ w ∷ rest) x
after_word union o w rest true x is opens e = subst (Listings (o ∷ w ∷ rest)) (same_Some (record { tree = record { union_ = union; name = None }; rest = rest }) x e) (record { front = o ∷ w ∷ []; parts = refl; so = alone union o w is (fits_is m.OpenBrace w.kind opens) })
after_word union o w rest false x is opens e = braced_some union o w rest (name_of w.kind) x is refl e

listing_word : (union : Option Bool) (o : Lexeme) (os : List Lexeme) (x : Got Listing) → Word union o → listing_after union os ≡ Some x → Listings (o ∷ os) x
listing_word union o os x is e =
    let h = at_first os (λ w rest. cond (fits m.OpenBrace w.kind) (Some (record { tree = record { union_ = union; name = None }; rest = rest })) (braced_name union rest (name_of w.kind))) x e in
    subst (λ (v : List Lexeme). Listings (o ∷ v) x) (sym h.2) (after_word union o h.0 h.1 (fits m.OpenBrace h.0.kind) x is refl h.3)

listing_head : (o : Lexeme) (os : List Lexeme) (head : Head) (x : Got Listing) → head_of o.kind ≡ head → listing_by os head ≡ Some x → Listings (o ∷ os) x
listing_head o os (h.Record union) x is e = listing_word (Some union) o os x (head_record o.kind union is) e
listing_head o os h.Enum x is e = listing_word None o os x (head_enum o.kind is) e
listing_head o os h.Other x is e = absurd cc

pub listing_sound : (os : List Lexeme) (x : Got Listing) → listing_at os ≡ Some x → Listings os x
unfolding listing_at
listing_sound os x e =
    let h = at_first os (λ o rest. listing_by rest (head_of o.kind)) x e in
    subst (λ (v : List Lexeme). Listings v x) (sym h.2) (listing_head h.0 h.1 (head_of h.0.kind) x refl h.3)
