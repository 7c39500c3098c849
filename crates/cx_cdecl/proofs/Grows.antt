-- What stays where more names become known, and tests that hold.
use Rattle.std.proofs.Common.{◌≡◌, ◌≢◌, ℕ, zero, suc, ◌+◌, ◌<◌, ◌≤◌, Bool, true, false, ◌&&◌, ◌||◌, ◌==◌, cond, map, List, [], ◌∷◌, ◌++◌, length, length-append, Option, Some, None, refl, sym, ap, ◌∙◌, subst, append_assoc, arith, inl, inr, ◌⊎◌, AllPairs, nat_lt, position, get_or}
use Rattle.std.proofs.lemmas.Bool.Decides.{nat_tests}
use Rattle.std.proofs.lemmas.List.{length-set}
use Rattle.std.proofs.lemmas.Option.{slice_get_within, get_or_from_slice_get}
use Rattle.std.proofs.lemmas.List.Sums.{prefix_len_stops}
use Rattle.std.specs.Prelude.{not, is_some, slice_get, slice_set, option_map, MatchOption, ⊤}
use Rattle.std.specs.List.{list_all, list_any, prefix_len, position_or_len}
use Rattle.std.specs.Option.{option_map_or}
use Rattle.cx_base.proofs.General.{both_true, true_both}
use Rattle.cx_ctree.specs.Types.{TypeTree, void, int, pointer, array, tag}
use Rattle.cx_ctree.specs.Path.{greatest}
use Rattle.cx_ctree.specs.Tags.{rank_of}
use Rattle.cx_ctree.specs.Decls.{MemberTree, TagTree, DeclTree}
use Rattle.cx_cword.specs.declared.lexeme.Lexeme.{Lexeme}
use Rattle.cx_cname.specs.Known.{Known, Meaning, a_type, an_object, a_function, meaning, MayBe, with_typedef, with_constant, with_tag, with_members, with_enum, is_complete, HasKind, undeclared_members, has_name, tag_place}
use Rattle.cx_cname.specs.Meanings.{same_type, same_types, same_meaning, is_new, may_be, has_members, may_have}
use Rattle.cx_cname.proofs.Same.{same_itself}
use Rattle.cx_cexpr.specs.Reading.{Few, same_kind}
use Rattle.cx_cdecl.specs.Declarations.{tag_declared}
use Rattle.cx_cdecl.specs.Reading.{is_kind, names_member, are_distinct}

-- ---- names

-- there is room for a tag at each of these lexemes
pub record Fits (env : Known) (os : List Lexeme) : Type 0 where
  pub few : length env.tags + length os ≤ 4294967296

pub fits_few : (env : Known) (os : List Lexeme) → Fits env os → Few env
fits_few env os f = let e = f.few in omega (arith, e)

-- names that become known at so many lexemes
pub record Grows (env known : Known) (k : ℕ) : Type 0 where
  pub tags : length known.tags ≤ length env.tags + k
  pub ranked : (at : ℕ) → 0 < rank_of env.tags at → 0 < rank_of known.tags at
  -- a tag without a name stays as it is
  pub kept : (at : ℕ) (t : TagTree) → slice_get env.tags at ≡ Some t → t.name ≡ None → slice_get known.tags at ≡ Some t

pub fits_less : (env : Known) (os rest : List Lexeme) → Fits env os → length rest ≤ length os → Fits env rest
fits_less env os rest f h = record { few = let e = f.few in omega (arith, e, h) }

pub fits_after : (env known : Known) (a rest : List Lexeme) → Fits env (a ++ rest) → Grows env known (length a) → Fits known rest
fits_after env known a rest f g = record { few = let e = f.few in let t = g.tags in let n = length-append a rest in omega (arith, e, t, n) }

pub fits_within : (env known : Known) (os rest : List Lexeme) (k : ℕ) → Fits env os → Grows env known k → length rest + k ≤ length os → Fits known rest
fits_within env known os rest k f g h = record { few = let e = f.few in let t = g.tags in omega (arith, e, t, h) }

pub grows_none : (env : Known) (k : ℕ) → Grows env env k
grows_none env k = record { tags = omega arith; ranked = λ at h. h; kept = λ at t e f. e }

pub grows_then : (a b c : Known) (j k n : ℕ) → Grows a b j → Grows b c k → j + k ≤ n → Grows a c n
grows_then a b c j k n f g h = record { tags = let s = f.tags in let t = g.tags in omega (arith, s, t, h); ranked = λ at e. g.ranked at (f.ranked at e); kept = λ at t e i. g.kept at t (f.kept at t e i) i }

pub grows_more : (a b : Known) (j k : ℕ) → Grows a b j → j ≤ k → Grows a b k
grows_more a b j k f h = record { tags = let s = f.tags in omega (arith, s, h); ranked = f.ranked; kept = f.kept }

rank_also : (tags : List TagTree) (t : TagTree) (at : ℕ) → 0 < rank_of tags at → 0 < rank_of (tags ++ t ∷ []) at
rank_also [] t at h = absurd (omega (arith, h))
rank_also (s ∷ tags) t zero h = h
rank_also (s ∷ tags) t (suc at) h = rank_also tags t at h

rank_set : (tags : List TagTree) (k : ℕ) (t : TagTree) → 0 < t.rank → (at : ℕ) → 0 < rank_of tags at → 0 < rank_of (slice_set tags k t) at
rank_set [] k t r at h = absurd (omega (arith, h))
rank_set (s ∷ tags) zero t r zero h = r
rank_set (s ∷ tags) zero t r (suc at) h = h
rank_set (s ∷ tags) (suc k) t r zero h = h
rank_set (s ∷ tags) (suc k) t r (suc at) h = rank_set tags k t r at h

get_also : (tags : List TagTree) (w : TagTree) (at : ℕ) (t : TagTree) → slice_get tags at ≡ Some t → slice_get (tags ++ w ∷ []) at ≡ Some t
get_also [] w at t e = absurd cc
get_also (s ∷ tags) w zero t e = e
get_also (s ∷ tags) w (suc at) t e = get_also tags w at t e

get_set : (tags : List TagTree) (k : ℕ) (w : TagTree) (at : ℕ) (t : TagTree) → at ≢ k → slice_get tags at ≡ Some t → slice_get (slice_set tags k w) at ≡ Some t
get_set [] k w at t off e = absurd cc
get_set (s ∷ tags) zero w zero t off e = absurd (off refl)
get_set (s ∷ tags) zero w (suc at) t off e = e
get_set (s ∷ tags) (suc k) w zero t off e = e
get_set (s ∷ tags) (suc k) w (suc at) t off e = get_set tags k w at t (λ same. off (ap suc same)) e

pub grows_tag : (env : Known) (name : Option ℕ) (union : Bool) → Grows env (with_tag env name union) 1
grows_tag env name union = record { tags = let e = length-append env.tags (undeclared_members name union ∷ []) in omega (arith, e); ranked = rank_also env.tags (undeclared_members name union); kept = λ at t e f. get_also env.tags (undeclared_members name union) at t e }

-- no tag without a name stands at this place
abbrev pub Apart : Known → ℕ → Type 0
Apart env k = (at : ℕ) (t : TagTree) → slice_get env.tags at ≡ Some t → t.name ≡ None → at ≢ k

pub grows_members : (env known : Known) (k at : ℕ) (name : Option ℕ) (union : Bool) (ms : List MemberTree) → Grows env known k → Apart env at → Grows env (with_members known at name union ms) k
grows_members env known k at name union ms g apart =
    let t : TagTree = record { name = name; union_ = union; rank = suc (greatest (λ t. t.rank) known.tags); members = Some ms } in
    record {
      tags = let e = length-set known.tags at t in let f = g.tags in omega (arith, e, f);
      ranked = λ j h. rank_set known.tags at t (omega arith) j (g.ranked j h);
      kept = λ j w e f. get_set known.tags at t j w (apart j w e f) (g.kept j w e f);
    }

place_true : (b : Bool) (n at : ℕ) → cond b (Some n) None ≡ Some at → (b ≡ true) × (n ≡ at)
place_true true n at e = (refl, cc)
place_true false n at e = absurd cc

passes : {X : Type 0} (p : X → Bool) (xs : List X) (at : ℕ) (x : X) → position p xs ≡ Some at → slice_get xs at ≡ Some x → p x ≡ true
passes {X = X} p xs at x e f =
    let h = place_true (nat_lt (position_or_len p xs) (length xs)) (position_or_len p xs) at e in
    let within : prefix_len (λ y. not (p y)) xs < length xs = grind (arith, nat_tests, h.0) in
    let stops = prefix_len_stops (λ y. not (p y)) xs x within in
    let is : get_or xs (prefix_len (λ y. not (p y)) xs) x ≡ x = ap (λ (n : ℕ). get_or xs n x) h.1 ∙ get_or_from_slice_get xs at x x f in
    let off : not (p x) ≡ false = ap (λ (v : X). not (p v)) (sym is) ∙ stops in
    yes' (p x) off
  where
    yes' : (b : Bool) → not b ≡ false → b ≡ true
    yes' true e = refl
    yes' false e = absurd cc

named_not : (n : ℕ) (o : Option ℕ) → o ≡ None → has_name n o ≡ true → ⊥
named_not n o e f = let off : false ≡ true = sym (ap (has_name n) e) ∙ f in cc

-- a place found by a name is none of a tag without one
pub place_apart : (env : Known) (n k : ℕ) → tag_place env n ≡ Some k → Apart env k
place_apart env n k e at t f none same = named_not n t.name none (passes (λ t. has_name n t.name) env.tags k t e (ap (slice_get env.tags) (sym same) ∙ f))

pub apart_before : (env known : Known) (j k : ℕ) → Grows env known j → Apart known k → Apart env k
apart_before env known j k g apart at t e none = apart at t (g.kept at t e none) none

-- the place past the last is none
pub past_apart : (env : Known) → Apart env (length env.tags)
past_apart env at t e none same = let h = slice_get_within env.tags at t e in absurd (omega (arith, h, same))

declared_by : (env : Known) (n : ℕ) (union b : Bool) → Grows env (cond b env (with_tag env (Some n) union)) 1
declared_by env n union true = grows_none env 1
declared_by env n union false = grows_tag env (Some n) union

pub grows_declared : (env : Known) (n : ℕ) (union : Bool) → Grows env (tag_declared env n union) 1
grows_declared env n union = declared_by env n union _

pub grows_constant : (env : Known) (n : ℕ) (v : Rattle.std.specs.Prelude.ℤ) (k : ℕ) → Grows env (with_constant env n v) k
grows_constant env n v k = record { tags = omega arith; ranked = λ at h. h; kept = λ at t e f. e }

pub grows_enum : (env : Known) (n k : ℕ) → Grows env (with_enum env n) k
grows_enum env n k = record { tags = omega arith; ranked = λ at h. h; kept = λ at t e f. e }

pub grows_typedef : (env : Known) (n : ℕ) (t : TypeTree) (k : ℕ) → Grows env (with_typedef env n t) k
grows_typedef env n t k = record { tags = omega arith; ranked = λ at h. h; kept = λ at t e f. e }

rank_test : (r s : ℕ) → (0 < r → 0 < s) → nat_lt 0 r ≡ true → nat_lt 0 s ≡ true
rank_test r s h e = let f : 0 < r = grind (arith, nat_tests, e) in let g = h f in grind (arith, nat_tests, g)

-- a complete type stays complete
pub complete_grows : (env known : Known) (k : ℕ) → Grows env known k → (t : TypeTree) → is_complete env t ≡ true → is_complete known t ≡ true
complete_grows env known k g void e = absurd cc
complete_grows env known k g (int t) e = refl
complete_grows env known k g (pointer t) e = refl
complete_grows env known k g (array t n) e = complete_grows env known k g t e
complete_grows env known k g (tag at) e = rank_test (rank_of env.tags at) (rank_of known.tags at) (g.ranked at) e

abbrev pub are_complete : Known → List MemberTree → Bool
are_complete env ms = list_all (λ m. is_complete env m.ctype) ms

pub members_grow : (env known : Known) (k : ℕ) → Grows env known k → (ms : List MemberTree) → are_complete env ms ≡ true → are_complete known ms ≡ true
members_grow env known k g [] e = refl
members_grow env known k g (m ∷ ms) e =
    let b = both_true (is_complete env m.ctype) (are_complete env ms) e in
    true_both (is_complete known m.ctype) (are_complete known ms) (complete_grows env known k g m.ctype b.0) (members_grow env known k g ms b.1)

pub complete_both : (env : Known) (ms ns : List MemberTree) → are_complete env ms ≡ true → are_complete env ns ≡ true → are_complete env (ms ++ ns) ≡ true
complete_both env [] ns e f = f
complete_both env (m ∷ ms) ns e f =
    let b = both_true (is_complete env m.ctype) (are_complete env ms) e in
    true_both (is_complete env m.ctype) (are_complete env (ms ++ ns)) b.0 (complete_both env ms ns b.1 f)

-- ---- tests

pub new_so : (env : Known) (earlier : List DeclTree) (n : ℕ) → meaning env earlier n ≡ None → is_new env earlier n ≡ true
new_so env earlier n e = ap (λ (o : Option Meaning). not (is_some o)) e

types_themselves : (ts : List TypeTree) → same_types ts ts ≡ true
types_themselves [] = refl
types_themselves (t ∷ ts) = true_both (same_type t t) (same_types ts ts) (same_itself t) (types_themselves ts)

may_by : (o : Option Meaning) (m : Meaning) → same_meaning m m ≡ true → MatchOption o ⊤ (λ old. old ≡ m) → option_map_or (λ old. same_meaning old m) o true ≡ true
may_by None m e h = refl
may_by (Some old) m e h = ap (λ (v : Meaning). same_meaning v m) h ∙ e

pub may_be_type : (env : Known) (earlier : List DeclTree) (n : ℕ) (t : TypeTree) → MayBe env earlier n (a_type t) → may_be env earlier n (a_type t) ≡ true
may_be_type env earlier n t h = may_by (meaning env earlier n) (a_type t) (same_itself t) h

pub may_be_object : (env : Known) (earlier : List DeclTree) (n : ℕ) (t : TypeTree) → MayBe env earlier n (an_object t) → may_be env earlier n (an_object t) ≡ true
may_be_object env earlier n t h = may_by (meaning env earlier n) (an_object t) (same_itself t) h

pub may_be_function : (env : Known) (earlier : List DeclTree) (n : ℕ) (t : TypeTree) (ts : List TypeTree) → MayBe env earlier n (a_function t ts) → may_be env earlier n (a_function t ts) ≡ true
may_be_function env earlier n t ts h = may_by (meaning env earlier n) (a_function t ts) (true_both (same_type t t) (same_types ts ts) (same_itself t) (types_themselves ts)) h

kind_self : (union : Bool) → same_kind union (Some union) ≡ true
kind_self true = refl
kind_self false = refl

pub kind_so : (env : Known) (union : Bool) (at : ℕ) → HasKind env at union → is_kind env union at ≡ true
kind_so env union at e = ap (same_kind union) e ∙ kind_self union

differ : (n : ℕ) (ms : List MemberTree) → ((j : ℕ) (d : MemberTree) → j < length ms → n ≢ (Rattle.std.proofs.Common.get_or ms j d).name) → names_member n ms ≡ false
differ n [] h = refl
differ n (m ∷ ms) h =
    let first : n ≢ m.name = h 0 m (omega arith) in
    let off : (m.name == n) ≡ false = unequal m.name n (λ e. first (sym e)) in
    or_no (m.name == n) (names_member n ms) off (differ n ms (λ j d k. h (suc j) d (omega (arith, k))))
  where
    unequal : (a b : ℕ) → a ≢ b → (a == b) ≡ false
    unequal a b h = grind (arith, nat_tests, h)

    or_no : (a b : Bool) → a ≡ false → b ≡ false → (a || b) ≡ false
    or_no true b e f = absurd cc
    or_no false b e f = f

pub distinct_so : (ms : List MemberTree) → AllPairs (λ x y. x.name ≢ y.name) ms → are_distinct ms ≡ true
distinct_so [] h = refl
distinct_so (m ∷ ms) h =
    true_both (not (names_member m.name ms)) (are_distinct ms) (ap not (differ m.name ms (λ j d k. h 0 (suc j) d (omega arith) (omega (arith, k)))))
    (distinct_so ms (λ i j d less k. h (suc i) (suc j) d (omega (arith, less)) (omega (arith, k))))

pub no_members : (env : Known) (at : ℕ) (t : TagTree) → slice_get env.tags at ≡ Some t → t.members ≡ None → has_members env at ≡ false
no_members env at t e f = ap (λ (o : Option TagTree). option_map_or (λ t. is_some t.members) o false) e ∙ ap (λ (o : Option (List MemberTree)). is_some o) f

pub may_have_so : (env : Known) (at : ℕ) (ms : List MemberTree) → has_members env at ≡ false → are_complete env ms ≡ true → may_have env at ms ≡ true
may_have_so env at ms e f = true_both (not (has_members env at)) (are_complete env ms) (ap not e) f
