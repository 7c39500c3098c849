-- What a loop over a list has appended, and what it leaves.
use Rattle.std.proofs.Common.{◌≡◌, ℕ, ◌+◌, ◌<◌, List, ◌∷◌, length, drop, get_or, refl, ap, sym, ◌∙◌}
use Rattle.std.proofs.lemmas.List.{drop_more}
use Rattle.cx_lcode.specs.Items.{Item}
use Rattle.cx_lemit.specs.Made.{made, Emits, Leaves}
use Rattle.cx_lemit.specs.declared.builder.Builder.{Builder}

-- the first of the items that are left, and those after it
pub next_item : {X : Type 0} (xs : List X) (n : ℕ) (x : X) → n < length xs → x ≡ get_or xs n x → drop n xs ≡ x ∷ drop (n + 1) xs
next_item xs n x below is = drop_more xs n x below ∙ ap (λ y. y ∷ drop (n + 1) xs) (sym is)

pub none_yet : (a : Builder) (whole : List Item → List Item) → Leaves a a whole whole
none_yet a whole = record { by = λ rest e s. refl }

pub one_more : (a b c : Builder) (whole part f later : List Item → List Item) → Leaves a b whole part → Emits b c f → ((rest : List Item) → part rest ≡ f (later rest)) → Leaves a c whole later
one_more a b c whole part f later l m same = record { by = λ rest e s. m.by (later rest) e s ∙ ap (λ x. made b x e s) (sym (same rest)) ∙ l.by rest e s }

pub all_done : (a b : Builder) (whole part : List Item → List Item) → Leaves a b whole part → ((rest : List Item) → part rest ≡ rest) → Emits a b whole
all_done a b whole part l none = record { by = λ rest e s. ap (λ x. made b x e s) (sym (none rest)) ∙ l.by rest e s }

-- a turn of a loop appends the code of an item; a number goes with it, such as that of the open block
pub turn : {X : Type 0} (a b c : Builder) (whole : List Item → List Item) (part : ℕ → List X → List Item → List Item) (f : List Item → List Item) (k m n : ℕ) (xs : List X) (x : X)
    → n < length xs → x ≡ get_or xs n x → Leaves a b whole (part k (drop n xs)) → Emits b c f
    → ((rest : List Item) → part k (x ∷ drop (n + 1) xs) rest ≡ f (part m (drop (n + 1) xs) rest))
    → Leaves a c whole (part m (drop (n + 1) xs))
turn a b c whole part f k m n xs x below is l e same =
    one_more a b c whole (part k (drop n xs)) f (part m (drop (n + 1) xs)) l e (λ rest. ap (λ ys. part k ys rest) (next_item xs n x below is) ∙ same rest)
