-- The fields of a struct or union one after the other.
use Rattle.std.proofs.Common.{◌≡◌, ◌∙◌, ◌<◌, ◌+◌, ℕ, suc, Bool, List, ◌∷◌, ◌++◌, Option, Some, None, drop, get_or, length, refl, rules, ap, sym, add-one}
use Rattle.std.specs.Prelude.{◌||◌}
use Rattle.std.proofs.Math.Seq.{drop-cons}
use Rattle.cx_base.specs.declared.span.Span.{Span}
use Rattle.cx_tsyn.specs.declared.stype.SField.{SField}
use Rattle.cx_tsyn.specs.Words.{word_tree}
use Rattle.cx_tsyn.specs.Types.{SFieldTree, stype_tree, field_tree, field_trees, also_field}
use Rattle.cx_tsyn.specs.declared.stype.Atom.TheFolds.{the_lemmas}
use Rattle.cx_tscope.specs.Faults.{first}
use Rattle.cx_tscope.proofs.Faults.{first_after, first_in}
use Rattle.cx_tbinders.specs.Undetermined.{before_others, some_field, has_cases, undetermined_in_type, undetermined_in_fields}
use Rattle.cx_tbinders.specs.declared.place.Place.{Place}
use Rattle.cx_tbinders.proofs.Told.{drop_more}

field_seen : (f : SField) → field_tree f ≡ record { name = word_tree f.name; body = stype_tree f.body }
field_seen f = search (rules, the_lemmas)

-- the first of the fields that are left, and those after it
next_field : (fields : List SField) (n : ℕ) (f : SField) → n < length fields → f ≡ get_or fields n f
    → field_trees (drop n fields) ≡ also_field (word_tree f.name) (stype_tree f.body) (field_trees (drop (n + 1) fields))
next_field fields n f below is =
    ap field_trees (drop-cons fields n f below ∙ ap (λ x. x ∷ drop (suc n) fields) (sym is))
    ∙ ap (λ (x : SFieldTree). also_field x.name x.body (field_trees (drop (suc n) fields))) (field_seen f)
    ∙ rw add-one refl

-- where the field stands
place_is : (p here : Place) (fields after behind : List SField) (n : ℕ) (b : Bool) → after ≡ drop n fields → behind ≡ drop 1 after → b ≡ some_field (field_trees behind) → here ≡ before_others p b
    → here ≡ before_others p (some_field (field_trees (drop (n + 1) fields)))
place_is p here fields after behind n b a d s h =
    h ∙ ap (before_others p) (s ∙ ap (λ x. some_field (field_trees x)) (d ∙ ap (drop 1) a ∙ drop_more n fields))

-- the faults in the fields that are left are those in the first of them and those in the others
left_fields : (names known : List (List ℕ)) (p here : Place) (met : Bool) (fields : List SField) (n : ℕ) (f : SField) → n < length fields → f ≡ get_or fields n f
    → here ≡ before_others p (some_field (field_trees (drop (n + 1) fields))) → known ≡ names
    → undetermined_in_fields names p met (field_trees (drop n fields))
    ≡ undetermined_in_type known here met (stype_tree f.body) ++ undetermined_in_fields names p (met || has_cases (stype_tree f.body)) (field_trees (drop (n + 1) fields))
left_fields names known p here met fields n f below is h k =
    ap (undetermined_in_fields names p met) (next_field fields n f below is)
    ∙ ap (λ q. undetermined_in_type names q met (stype_tree f.body) ++ undetermined_in_fields names p (met || has_cases (stype_tree f.body)) (field_trees (drop (n + 1) fields))) (sym h)
    ∙ ap (λ ns. undetermined_in_type ns here met (stype_tree f.body) ++ undetermined_in_fields names p (met || has_cases (stype_tree f.body)) (field_trees (drop (n + 1) fields))) (sym k)

pub found_field : (names known : List (List ℕ)) (p here : Place) (met : Bool) (fields : List SField) (n : ℕ) (f : SField) (after behind : List SField) (b : Bool) (o whole : Option Span) (s : Span)
    → n < length fields → f ≡ get_or fields n f → after ≡ drop n fields → behind ≡ drop 1 after → b ≡ some_field (field_trees behind) → here ≡ before_others p b → known ≡ names
    → o ≡ first (undetermined_in_type known here met (stype_tree f.body)) → o ≡ Some s
    → first (undetermined_in_fields names p met (field_trees (drop n fields))) ≡ whole
    → Some s ≡ whole
found_field names known p here met fields n f after behind b o whole s below is a d e h k told some rest =
    sym (first_in (undetermined_in_type known here met (stype_tree f.body)) (undetermined_in_fields names p (met || has_cases (stype_tree f.body)) (field_trees (drop (n + 1) fields))) s (sym told ∙ some))
    ∙ sym (ap first (left_fields names known p here met fields n f below is (place_is p here fields after behind n b a d e h) k))
    ∙ rest

pub passed_field : (names known : List (List ℕ)) (p here : Place) (met next : Bool) (fields : List SField) (n : ℕ) (f : SField) (after behind : List SField) (b : Bool) (o whole : Option Span)
    → n < length fields → f ≡ get_or fields n f → after ≡ drop n fields → behind ≡ drop 1 after → b ≡ some_field (field_trees behind) → here ≡ before_others p b → known ≡ names
    → o ≡ first (undetermined_in_type known here met (stype_tree f.body)) → o ≡ None → next ≡ met || has_cases (stype_tree f.body)
    → first (undetermined_in_fields names p met (field_trees (drop n fields))) ≡ whole
    → first (undetermined_in_fields names p next (field_trees (drop (n + 1) fields))) ≡ whole
passed_field names known p here met next fields n f after behind b o whole below is a d e h k told none m rest =
    ap (λ x. first (undetermined_in_fields names p x (field_trees (drop (n + 1) fields)))) m
    ∙ sym (first_after (undetermined_in_type known here met (stype_tree f.body)) (undetermined_in_fields names p (met || has_cases (stype_tree f.body)) (field_trees (drop (n + 1) fields))) (sym told ∙ none))
    ∙ sym (ap first (left_fields names known p here met fields n f below is (place_is p here fields after behind n b a d e h) k))
    ∙ rest
