-- What is found among the members of structs and unions.
use Rattle.std.proofs.Common.{◌≡◌, ℕ, zero, suc, List, [], ◌∷◌, Bool, true, false, cond, map, Option, Some, None, refl, sym, ◌∙◌, ap}
use Rattle.std.specs.Prelude.{nat_eq, ◌==◌, option_map, slice_get}
use Rattle.std.specs.Map.{lookup}
use Rattle.std.specs.Option.{option_and_then}
use Rattle.cx_ctree.specs.Types.{TypeTree, tag}
use Rattle.cx_ctree.specs.Decls.{MemberTree, TagTree, tag_tree}
use Rattle.cx_ctree.specs.declared.unit.Unit.{Unit}
use Rattle.cx_cname.specs.Known.{known_of}
use Rattle.cx_cname.proofs.Same.{same_means, same_itself}
use Rattle.cx_ctype.specs.Accesses.{named_member, member_type}
use Rattle.cx_ctable.proofs.Adding.{lookup_seen}
use Rattle.std.proofs.lemmas.Option.{slice_get-map}
use Rattle.cx_ctable.specs.Firsts.{with_firsts}
use Rattle.cx_sfile.specs.Members.{types_of, if_declared, members_in, same_or_none, found_at, FindsMembers}
use Rattle.cx_sfile.proofs.Finding.{found_firsts, same_test}

-- the same of one tag
abbrev pub found_at_one : ℕ → Option (List (ℕ × TypeTree)) → Option TypeTree
found_at_one n o = option_and_then (λ es. lookup (nat_eq n) es) o

either : (b c : Bool) (t : TypeTree) (o r : Option TypeTree) → b ≡ c → r ≡ o → cond b (Some t) r ≡ cond c (Some t) o
either true true t o r e h = refl
either false false t o r e h = h
either true false t o r e h = absurd (cc)
either false true t o r e h = absurd (cc)

types_found : (n : ℕ) (ms : List MemberTree) → lookup (nat_eq n) (types_of ms) ≡ named_member n ms
types_found n [] = refl
types_found n (m ∷ ms) = either (nat_eq n m.name) (m.name == n) m.ctype (named_member n ms) (lookup (nat_eq n) (types_of ms)) (same_test n m.name) (types_found n ms)

declared_found : (n : ℕ) (o : Option (List MemberTree)) → lookup (nat_eq n) (if_declared o) ≡ option_and_then (named_member n) o
declared_found n None = refl
declared_found n (Some ms) = types_found n ms

firsts_found : (n : ℕ) (t : TagTree) → lookup (nat_eq n) (with_firsts [] (members_in t)) ≡ option_and_then (named_member n) t.members
firsts_found n t = found_firsts n [] (members_in t) ∙ declared_found n t.members

found_behind : (n k : ℕ) (ts : List TagTree) → found_at (map (λ t. with_firsts [] (members_in t)) ts) k n ≡ option_and_then (named_member n) (option_and_then (λ t. t.members) (slice_get ts k))
found_behind n k [] = refl
found_behind n zero (t ∷ ts) = firsts_found n t
found_behind n (suc k) (t ∷ ts) = found_behind n k ts

same_is : (o p : Option TypeTree) → same_or_none o p ≡ true → o ≡ p
same_is None None h = refl
same_is (Some t) (Some w) h = ap Some (same_means t w h)
same_is None (Some w) h = absurd (cc)
same_is (Some t) None h = absurd (cc)

same_both : (o : Option TypeTree) → same_or_none o o ≡ true
same_both None = refl
same_both (Some t) = same_itself t

pub finds_members : (u : Unit) (all : List (List (ℕ × TypeTree))) → all ≡ map (λ t. with_firsts [] (members_in t)) (map tag_tree u.tags) → FindsMembers u all
finds_members u all h k n =
    ap (λ o. same_or_none o (member_type (known_of u) (tag k) n)) (ap (λ xs. found_at xs k n) h ∙ found_behind n k (map tag_tree u.tags))
    ∙ same_both (member_type (known_of u) (tag k) n)

member_found : (u : Unit) (all : List (List (ℕ × TypeTree))) → FindsMembers u all → (k n : ℕ) → found_at all k n ≡ member_type (known_of u) (tag k) n
member_found u all f k n = same_is (found_at all k n) (member_type (known_of u) (tag k) n) (f k n)

-- what is at a place of the tags is found there
placed : {M V : Type 0} (g : V → TypeTree) (entries : M → List (ℕ × V)) (u : Unit) (ms : List M) → FindsMembers u (map (λ m. map (λ e. (e.0, g e.1)) (entries m)) ms)
    → (k n : ℕ) (at : Option M) → at ≡ slice_get ms k → found_at_one n (option_map (λ m. map (λ e. (e.0, g e.1)) (entries m)) at) ≡ member_type (known_of u) (tag k) n
placed g entries u ms f k n at h =
    ap (λ o. found_at_one n (option_map (λ m. map (λ e. (e.0, g e.1)) (entries m)) o)) h
    ∙ ap (found_at_one n) (sym (slice_get-map (λ m. map (λ e. (e.0, g e.1)) (entries m)) ms k))
    ∙ member_found u (map (λ m. map (λ e. (e.0, g e.1)) (entries m)) ms) f k n

pub member_at : {M V : Type 0} (g : V → TypeTree) (entries : M → List (ℕ × V)) (u : Unit) (ms : List M) → FindsMembers u (map (λ m. map (λ e. (e.0, g e.1)) (entries m)) ms)
    → (k n : ℕ) (m : M) → Some m ≡ slice_get ms k → (o : Option V) → o ≡ lookup (nat_eq n) (entries m) → option_map g o ≡ member_type (known_of u) (tag k) n
member_at g entries u ms f k n m h o e = ap (option_map g) e ∙ sym (lookup_seen g n (entries m)) ∙ placed g entries u ms f k n (Some m) h

pub no_member : {M V : Type 0} (g : V → TypeTree) (entries : M → List (ℕ × V)) (u : Unit) (ms : List M) → FindsMembers u (map (λ m. map (λ e. (e.0, g e.1)) (entries m)) ms)
    → (k n : ℕ) → None ≡ slice_get ms k → None ≡ member_type (known_of u) (tag k) n
no_member g entries u ms f k n h = placed g entries u ms f k n None h
