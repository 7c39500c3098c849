-- Places in a list of views are places in the list.
use Rattle.std.proofs.Common.{◌≡◌, Bool, List, [], ◌∷◌, map, position, refl, ap, ◌&&◌, false, zero, suc, ℕ, Option, Some, None}
use Rattle.std.specs.Prelude.{is_some, option_map, slice_get}
use Rattle.std.specs.List.{position_or_len}
use Rattle.std.proofs.lemmas.List.{length-map}
use Rattle.std.specs.List.{list_all}
use Rattle.std.specs.Option.{option_map_or}
use Rattle.cx_ctree.specs.Tags.{rank_of}
use Rattle.cx_ctree.specs.Decls.{tag_tree, member_tree}
use Rattle.cx_ctree.specs.declared.decl.Tag.{Tag}
use Rattle.cx_cname.specs.Known.{has_name}

place_map : {A B : Type 0} (p : B → Bool) (f : A → B) (xs : List A) → position_or_len p (map f xs) ≡ position_or_len (λ x. p (f x)) xs
place_map p f [] = refl
place_map p f (x ∷ xs) = rw (place_map p f xs) refl

position_map : {A B : Type 0} (p : B → Bool) (f : A → B) (xs : List A) → position p (map f xs) ≡ position (λ x. p (f x)) xs
position_map p f xs = rw (place_map p f xs, length-map) refl

pub is_some_map : {A B : Type 0} (f : A → B) (o : Option A) → is_some (option_map f o) ≡ is_some o
is_some_map f None = refl
is_some_map f (Some x) = refl

pub tag_place_of : (n : ℕ) (tags : List Tag) → position (λ t. has_name n t.name) (map tag_tree tags) ≡ position (λ t. has_name n t.name) tags
tag_place_of n tags = position_map (λ t. has_name n t.name) tag_tree tags

pub members_at : (tags : List Tag) (k : ℕ) → option_map_or (λ t. is_some t.members) (slice_get (map tag_tree tags) k) false ≡ option_map_or (λ t. is_some t.members) (slice_get tags k) false
members_at [] k = refl
members_at (t ∷ tags) zero = is_some_map (map member_tree) t.members
members_at (t ∷ tags) (suc k) = members_at tags k

pub rank_at : (tags : List Tag) (k : ℕ) → rank_of (map tag_tree tags) k ≡ option_map_or (λ t. t.rank) (slice_get tags k) 0
rank_at [] k = refl
rank_at (t ∷ tags) zero = refl
rank_at (t ∷ tags) (suc k) = rank_at tags k

pub all_map : {A B : Type 0} (p : B → Bool) (f : A → B) (xs : List A) → list_all p (map f xs) ≡ list_all (λ x. p (f x)) xs
all_map p f [] = refl
all_map p f (x ∷ xs) = ap (λ b. p (f x) && b) (all_map p f xs)
