-- What is found among entries of which each name has the first alone.
use Rattle.std.proofs.Common.{◌≡◌, ℕ, ℤ, List, [], ◌∷◌, ◌++◌, Bool, true, false, cond, map, Option, Some, None, refl, sym, ◌∙◌, ap, arith}
use Rattle.std.specs.Prelude.{nat_eq, ◌==◌, is_some, option_map}
use Rattle.std.specs.List.{list_any}
use Rattle.std.specs.Map.{lookup}
use Rattle.std.proofs.lemmas.Bool.{eqb-true, eq-eqb}
use Rattle.cx_ctree.specs.Types.{TypeTree}
use Rattle.cx_ctree.specs.Decls.{DeclTree, types, object, proto, function}
use Rattle.cx_cname.specs.Known.{Meaning, a_type, a_constant, an_object, a_function, function_type, declared_as, value_of, or_else}
use Rattle.cx_sname.specs.File.{Declared, declared_of, meaning_of}
use Rattle.cx_ctable.specs.Firsts.{with_first, with_firsts}
use Rattle.cx_ctable.proofs.Adding.{any_found, lookup_seen}
use Rattle.cx_sfile.specs.Entries.{of_typedefs, of_constants, of_decls, entries_of, seen_meanings, same_meaning, same_found, FindsAll}
use Rattle.cx_sname.specs.declared.meaning.Meaning as code
use Rattle.cx_sname.specs.Meanings.{meaning_tree}
use Rattle.cx_ctree.specs.declared.unit.Unit.{Unit}
use Rattle.cx_base.proofs.General.{both_true}
use Rattle.cx_cname.proofs.Same.{same_means, same_itself}
use Rattle.cx_cname.specs.Meanings.{same_types}
use Rattle.std.proofs.lemmas.Bool.Decides.{Decides-int_eq}
use Rattle.std.specs.Ordering.{int_eq}

-- the first that is there
abbrev pub first_there : {V : Type 0} → Option V → Option V → Option V
first_there None other = other
first_there (Some v) other = Some v

there_next : {V : Type 0} (b : Bool) (x : V) (o other r : Option V) → r ≡ first_there o other → cond b (Some x) r ≡ first_there (cond b (Some x) o) other
there_next true x o other r h = refl
there_next false x o other r h = h

lookup_both : {V : Type 0} (n : ℕ) (es fs : List (ℕ × V)) → lookup (nat_eq n) (es ++ fs) ≡ first_there (lookup (nat_eq n) es) (lookup (nat_eq n) fs)
lookup_both n [] fs = refl
lookup_both n (e ∷ es) fs = there_next (nat_eq n e.0) e.1 (lookup (nat_eq n) es) (lookup (nat_eq n) fs) (lookup (nat_eq n) (es ++ fs)) (lookup_both n es fs)

there_none : {V : Type 0} (o : Option V) → o ≡ first_there o None
there_none None = refl
there_none (Some v) = refl

there_some : {V : Type 0} (o other : Option V) → is_some o ≡ true → o ≡ first_there o other
there_some None other h = absurd (cc)
there_some (Some v) other h = refl

there_more : {V : Type 0} (o p q : Option V) → first_there (first_there o p) q ≡ first_there o (first_there p q)
there_more None p q = refl
there_more (Some v) p q = refl

-- the name has an entry already
kept : {V : Type 0} (n : ℕ) (es : List (ℕ × V)) (p : ℕ × V) (b : Bool) → nat_eq n p.0 ≡ b → is_some (lookup (nat_eq p.0) es) ≡ true
    → lookup (nat_eq n) es ≡ first_there (lookup (nat_eq n) es) (cond b (Some p.1) None)
kept n es p true e h = there_some (lookup (nat_eq n) es) (Some p.1) (ap (λ m. is_some (lookup (nat_eq m) es)) (eqb-true n p.0 e) ∙ h)
kept n es p false e h = there_none (lookup (nat_eq n) es)

first_by : {V : Type 0} (n : ℕ) (es : List (ℕ × V)) (p : ℕ × V) (b : Bool) → is_some (lookup (nat_eq p.0) es) ≡ b
    → lookup (nat_eq n) (cond b es (es ++ p ∷ [])) ≡ first_there (lookup (nat_eq n) es) (lookup (nat_eq n) (p ∷ []))
first_by n es p true h = kept n es p (nat_eq n p.0) refl h
first_by n es p false h = lookup_both n es (p ∷ [])

found_first : {V : Type 0} (n : ℕ) (es : List (ℕ × V)) (p : ℕ × V) → lookup (nat_eq n) (with_first es p) ≡ first_there (lookup (nat_eq n) es) (lookup (nat_eq n) (p ∷ []))
found_first n es p = first_by n es p (list_any (λ e. p.0 == e.0) es) (sym (any_found p.0 es))

-- of each name the first entry is found
pub found_firsts : {V : Type 0} (n : ℕ) (es ps : List (ℕ × V)) → lookup (nat_eq n) (with_firsts es ps) ≡ first_there (lookup (nat_eq n) es) (lookup (nat_eq n) ps)
found_firsts n es [] = there_none (lookup (nat_eq n) es)
found_firsts n es (p ∷ ps) =
    found_firsts n (with_first es p) ps
    ∙ ap (λ o. first_there o (lookup (nat_eq n) ps)) (found_first n es p)
    ∙ there_more (lookup (nat_eq n) es) (lookup (nat_eq n) (p ∷ [])) (lookup (nat_eq n) ps)
    ∙ ap (first_there (lookup (nat_eq n) es)) (sym (lookup_both n (p ∷ []) ps))

-- ---- what a name is declared as

either_way : (a b : ℕ) (x y : Bool) → nat_eq a b ≡ x → nat_eq b a ≡ y → x ≡ y
either_way a b true true e f = refl
either_way a b false false e f = refl
either_way a b true false e f = sym (sym f ∙ eq-eqb b a (sym (eqb-true a b e)))
either_way a b false true e f = sym e ∙ eq-eqb a b (sym (eqb-true b a f))

pub same_test : (a b : ℕ) → nat_eq a b ≡ nat_eq b a
same_test a b = either_way a b (nat_eq a b) (nat_eq b a) refl refl

chosen_as : {A : Type 0} (f : A → Meaning) (b c : Bool) (v : A) (o : Option A) (r : Option Meaning) → b ≡ c → r ≡ option_map f o → cond b (Some (f v)) r ≡ option_map f (cond c (Some v) o)
chosen_as f true true v o r e h = refl
chosen_as f false false v o r e h = h
chosen_as f true false v o r e h = absurd (cc)
chosen_as f false true v o r e h = absurd (cc)

values_found : {A : Type 0} (f : A → Meaning) (n : ℕ) (es : List (ℕ × A)) → lookup (nat_eq n) (map (λ e. (e.0, f e.1)) es) ≡ option_map f (value_of n es)
values_found f n [] = refl
values_found f n (e ∷ es) = chosen_as f (nat_eq n e.0) (e.0 == n) e.1 (value_of n es) (lookup (nat_eq n) (map (λ e. (e.0, f e.1)) es)) (same_test n e.0) (values_found f n es)

either_as : (b c : Bool) (m : Meaning) (o r : Option Meaning) → b ≡ c → r ≡ o → cond b (Some m) r ≡ cond c (Some m) o
either_as true true m o r e h = refl
either_as false false m o r e h = h
either_as true false m o r e h = absurd (cc)
either_as false true m o r e h = absurd (cc)

decls_found : (n : ℕ) (ds : List DeclTree) → lookup (nat_eq n) (of_decls ds) ≡ declared_as n ds
decls_found n [] = refl
decls_found n (types ∷ ds) = decls_found n ds
decls_found n (object m t ∷ ds) = either_as (nat_eq n m) (m == n) (an_object t) (declared_as n ds) (lookup (nat_eq n) (of_decls ds)) (same_test n m) (decls_found n ds)
decls_found n (proto s ∷ ds) = either_as (nat_eq n s.name) (s.name == n) (function_type s) (declared_as n ds) (lookup (nat_eq n) (of_decls ds)) (same_test n s.name) (decls_found n ds)
decls_found n (function f ∷ ds) = either_as (nat_eq n f.sig.name) (f.sig.name == n) (function_type f.sig) (declared_as n ds) (lookup (nat_eq n) (of_decls ds)) (same_test n f.sig.name) (decls_found n ds)

or_there : (o p : Option Meaning) → first_there o p ≡ or_else o p
or_there None p = refl
or_there (Some m) p = refl

in_order : (a b c : Option Meaning) → first_there a (first_there b c) ≡ or_else a (or_else b c)
in_order a b c = or_there a (first_there b c) ∙ ap (or_else a) (or_there b c)

pub entries_found : (env : Declared) (n : ℕ) → lookup (nat_eq n) (entries_of env) ≡ meaning_of env n
entries_found env n =
    lookup_both n (of_typedefs env.known.typedefs) (of_constants env.known.consts ++ of_decls env.decls)
    ∙ ap (first_there (lookup (nat_eq n) (of_typedefs env.known.typedefs))) (lookup_both n (of_constants env.known.consts) (of_decls env.decls))
    ∙ ap (λ o. first_there o (first_there (lookup (nat_eq n) (of_constants env.known.consts)) (lookup (nat_eq n) (of_decls env.decls)))) (values_found a_type n env.known.typedefs)
    ∙ ap (λ o. first_there (option_map a_type (value_of n env.known.typedefs)) (first_there o (lookup (nat_eq n) (of_decls env.decls)))) (values_found a_constant n env.known.consts)
    ∙ ap (λ o. first_there (option_map a_type (value_of n env.known.typedefs)) (first_there (option_map a_constant (value_of n env.known.consts)) o)) (decls_found n env.decls)
    ∙ in_order (option_map a_type (value_of n env.known.typedefs)) (option_map a_constant (value_of n env.known.consts)) (declared_as n env.decls)

all_found : (env : Declared) (es : List (ℕ × Meaning)) → es ≡ with_firsts [] (entries_of env) → (n : ℕ) → lookup (nat_eq n) es ≡ meaning_of env n
all_found env es h n = ap (lookup (nat_eq n)) h ∙ found_firsts n [] (entries_of env) ∙ entries_found env n

-- ---- the same meaning

number_of : (v w : ℤ) → int_eq v w ≡ true → v ≡ w
number_of v w h = grind (arith, Decides-int_eq)

number_itself : (v : ℤ) → int_eq v v ≡ true
number_itself v = grind (arith, Decides-int_eq)

types_of : (ts ws : List TypeTree) → same_types ts ws ≡ true → ts ≡ ws
types_of [] [] h = refl
types_of (t ∷ ts) (w ∷ ws) h = ap (λ x. x ∷ ts) (same_means t w (both_true _ _ h).0) ∙ ap (λ xs. w ∷ xs) (types_of ts ws (both_true _ _ h).1)
types_of [] (w ∷ ws) h = absurd (cc)
types_of (t ∷ ts) [] h = absurd (cc)

types_themselves : (ts : List TypeTree) → same_types ts ts ≡ true
types_themselves [] = refl
types_themselves (t ∷ ts) = rw (same_itself t, types_themselves ts) refl

meaning_is : (m w : Meaning) → same_meaning m w ≡ true → m ≡ w
meaning_is (a_type t) (a_type w) h = ap a_type (same_means t w h)
meaning_is (a_constant v) (a_constant w) h = ap a_constant (number_of v w h)
meaning_is (an_object t) (an_object w) h = ap an_object (same_means t w h)
meaning_is (a_function t ts) (a_function w ws) h = ap (λ u. a_function u ts) (same_means t w (both_true _ _ h).0) ∙ ap (a_function w) (types_of ts ws (both_true _ _ h).1)
meaning_is _ _ h = absurd (cc)

meaning_itself : (m : Meaning) → same_meaning m m ≡ true
meaning_itself (a_type t) = same_itself t
meaning_itself (a_constant v) = number_itself v
meaning_itself (an_object t) = same_itself t
meaning_itself (a_function t ts) = rw (same_itself t, types_themselves ts) refl

found_is : (o p : Option Meaning) → same_found o p ≡ true → o ≡ p
found_is None None h = refl
found_is (Some m) (Some w) h = ap Some (meaning_is m w h)
found_is None (Some w) h = absurd (cc)
found_is (Some m) None h = absurd (cc)

found_itself : (o : Option Meaning) → same_found o o ≡ true
found_itself None = refl
found_itself (Some m) = meaning_itself m

pub finds_all : (u : Unit) (es : List (ℕ × code.Meaning)) → seen_meanings es ≡ with_firsts [] (entries_of (declared_of u)) → FindsAll u es
finds_all u es h n =
    ap (λ o. same_found o (meaning_of (declared_of u) n)) (all_found (declared_of u) (seen_meanings es) h n) ∙ found_itself (meaning_of (declared_of u) n)

pub is_found : (u : Unit) (es : List (ℕ × code.Meaning)) → FindsAll u es → (n : ℕ) (o : Option code.Meaning) → o ≡ lookup (nat_eq n) es → option_map meaning_tree o ≡ meaning_of (declared_of u) n
is_found u es f n o h =
    ap (option_map meaning_tree) h
    ∙ sym (lookup_seen meaning_tree n es)
    ∙ found_is (lookup (nat_eq n) (seen_meanings es)) (meaning_of (declared_of u) n) (f n)
