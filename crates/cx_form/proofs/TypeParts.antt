-- The readers of a type file read what its grammar spells.
use Rattle.std.proofs.Common.{◌≡◌, true, false, List, [], ◌∷◌, ◌++◌, Option, Some, None, refl, ap, ◌∙◌, arith, append_assoc, inl, inr, codes}
use Rattle.std.specs.List.{flat_map}
use Rattle.cx_form.specs.declared.tree.Word.{Word}
use Rattle.cx_form.specs.declared.tree.Argument.{Argument}
use Rattle.cx_form.specs.declared.tree.Argument.TheVariants as argument
use Rattle.cx_form.specs.declared.tree.Cell.{Cell}
use Rattle.cx_form.specs.declared.tree.RegionType.{RegionType}
use Rattle.cx_form.specs.declared.tree.FunctionType.{FunctionType}
use Rattle.cx_form.specs.Tokens.{starts_name}
use Rattle.cx_form.specs.Grammar.{Piece, named, fixed, Spells, is_name, argument_pieces, held_pieces, cell_pieces, region_pieces, next_argument_pieces, arguments_pieces, answer_pieces, function_type_pieces, optional_pieces, type_file_pieces}
use Rattle.cx_form.specs.Reading.{next_has, next_names, pair, argument_at, held_at, cell_at, cells_at, region_at, regions_at, next_argument_at, more_arguments_at, arguments_at, answer_at, function_type_at, is_end, type_file_at}
use Rattle.cx_form.proofs.Exact.{Reads, All, Any, Stops, Ends, Tests, nil_is, begins, begins_other, name_names, fixed_names, named_reads, nothing_reads, before_reads, closed_reads, mapped_reads, either_reads, reshaped, weaker, both_reads, many_reads, more_reads, optional_reads}

-- ---- arguments and cells

argument_tells : (y : Argument) → Tests argument_pieces (λ y. (x : Unit {0}) × Unit {0} × (argument.Any ≡ y)) (λ y. (x : Word) × Unit {0} × (argument.Pointer x ≡ y)) (next_has (codes "any")) Any y
argument_tells argument.Any = inl ((tt, tt, refl), λ ts rest h e. begins (codes "any") _ ts rest h)
argument_tells (argument.Pointer region) = inr ((region, tt, refl), λ ts rest h e. begins_other (codes "ptr") (codes "any") _ ts rest refl h)

argument_reads : Reads argument_pieces All argument_at Any
unfolding argument_at
argument_reads = either_reads (next_has (codes "any")) (mapped_reads (λ x. argument.Any) argument_pieces (before_reads (codes "any") nothing_reads) (λ x. refl)) (mapped_reads argument.Pointer argument_pieces (before_reads (codes "ptr") named_reads) (λ x. refl)) argument_tells

held_tells : (y : Argument) → Tests held_pieces (λ y. (x : Unit {0}) × Unit {0} × (argument.Any ≡ y)) (λ y. (x : Word) × Unit {0} × (argument.Pointer x ≡ y)) (next_has (codes "any8")) Any y
held_tells argument.Any = inl ((tt, tt, refl), λ ts rest h e. begins (codes "any8") _ ts rest h)
held_tells (argument.Pointer region) = inr ((region, tt, refl), λ ts rest h e. begins_other (codes "ptr") (codes "any8") _ ts rest refl h)

held_reads : Reads held_pieces All held_at Any
unfolding held_at
held_reads = either_reads (next_has (codes "any8")) (mapped_reads (λ x. argument.Any) held_pieces (before_reads (codes "any8") nothing_reads) (λ x. refl)) (mapped_reads argument.Pointer held_pieces (before_reads (codes "ptr") named_reads) (λ x. refl)) held_tells

cell_reads : Reads cell_pieces All cell_at Any
unfolding cell_at
cell_reads = both_reads (λ w a. record { member = w; holds = a }) (λ c. c.member) (λ c. c.holds) (λ a b. refl) (λ a b. refl) (λ c. refl)
    named_reads (before_reads (codes ":") (closed_reads (codes ";") held_reads (λ ts rest h. tt))) (λ b ts rest h e. tt)

cells_reads : Reads (flat_map cell_pieces) All cells_at (Stops next_names)
unfolding cells_at
cells_reads = many_reads cell_reads next_names (record { filled = λ c. omega arith; goes = λ c ts rest h. name_names c.member _ ts rest h })

-- ---- regions

no_name_brace : is_name (codes "}") ≡ false
unfolding starts_name
no_name_brace = refl

abbrev parts_of : RegionType → Word × List Cell
parts_of r = (r.tag, r.cells)

region_reads : Reads region_pieces All region_at Any
unfolding region_at
region_reads = reshaped
    (before_reads (codes "region") (both_reads (λ w parts. record { name = w; tag = parts.0; cells = parts.1 }) (λ r. r.name) parts_of (λ a b. refl) (λ a b. refl) (λ c. refl)
    named_reads
    (before_reads (codes "=") (before_reads (codes "struct") (both_reads pair (λ p. p.0) (λ p. p.1) (λ a b. refl) (λ a b. refl) (λ c. refl)
    named_reads
    (before_reads (codes "{") (closed_reads (codes ";") (closed_reads (codes "}") cells_reads (λ ts rest h. fixed_names (codes "}") [] ts rest no_name_brace h)) (λ ts rest h. tt)))
    (λ b ts rest h e. tt))))
    (λ b ts rest h e. tt)))
    region_pieces
    (λ r. ap (λ (ps : List Piece). fixed (codes "region") ∷ named r.name ∷ fixed (codes "=") ∷ fixed (codes "struct") ∷ named r.tag ∷ fixed (codes "{") ∷ ps) (append_assoc (flat_map cell_pieces r.cells) (fixed (codes "}") ∷ []) (fixed (codes ";") ∷ [])))

regions_reads : Reads (flat_map region_pieces) All regions_at (Stops (next_has (codes "region")))
unfolding regions_at
regions_reads = many_reads region_reads (next_has (codes "region")) (record { filled = λ r. omega arith; goes = λ r ts rest h. begins (codes "region") _ ts rest h })

-- ---- the line of the function

next_argument_reads : Reads next_argument_pieces All next_argument_at Any
next_argument_reads = before_reads (codes ",") argument_reads

-- what follows the arguments is a `)`
abbrev Closed : List Word → Type 0
Closed ts = (next_has (codes ")") ts ≡ true) × (next_has (codes ",") ts ≡ false)

abbrev close : List Piece
close = fixed (codes ")") ∷ []

argument_no_close : (a : Argument) (ps : List Piece) (ts rest : List Word) → Spells (argument_pieces a ++ ps) ts rest → next_has (codes ")") ts ≡ false
argument_no_close argument.Any ps ts rest h = begins_other (codes "any") (codes ")") _ ts rest refl h
argument_no_close (argument.Pointer region) ps ts rest h = begins_other (codes "ptr") (codes ")") _ ts rest refl h

arguments_tell : (y : List Argument) → Tests arguments_pieces (λ y. (x : Unit {0}) × Unit {0} × ([] ≡ y)) (λ y. (x : Argument) × (more : List Argument) × (y ≡ x ∷ more)) (next_has (codes ")")) Closed y
arguments_tell [] = inl ((tt, tt, refl), λ ts rest h e. ap (next_has (codes ")")) (nil_is ts rest h) ∙ e.0)
arguments_tell (a ∷ more) = inr ((a, more, refl), λ ts rest h e. argument_no_close a (flat_map next_argument_pieces more) ts rest h)

before_close : {A : Type 0} {pieces : A → List Piece} {some : A → Type 0} {read : List Word → Option (A × List Word)} → Reads pieces some read (Stops (next_has (codes ","))) → Reads pieces some read Closed
before_close q = record { sound = q.sound; again = λ x ts rest s h e. q.again x ts rest s h e.1 }

arguments_reads : Reads arguments_pieces All arguments_at Closed
unfolding arguments_at more_arguments_at
arguments_reads = either_reads (next_has (codes ")")) (weaker (mapped_reads {B = List Argument} (λ x. []) arguments_pieces nothing_reads (λ x. refl)))
    (before_close (more_reads argument_reads next_argument_reads (next_has (codes ",")) (record { filled = λ a. omega arith; goes = λ a ts rest h. begins (codes ",") _ ts rest h }) arguments_pieces (λ x xs. refl)))
    arguments_tell

argument_no_void : (a : Argument) (ts rest : List Word) → Spells (argument_pieces a) ts rest → next_has (codes "void") ts ≡ false
argument_no_void argument.Any ts rest h = begins_other (codes "any") (codes "void") _ ts rest refl h
argument_no_void (argument.Pointer region) ts rest h = begins_other (codes "ptr") (codes "void") _ ts rest refl h

answer_tells : (y : Option Argument) → Tests answer_pieces (λ y. (x : Unit {0}) × Unit {0} × (None ≡ y)) (λ y. (x : Argument) × Unit {0} × (Some x ≡ y)) (next_has (codes "void")) Any y
answer_tells None = inl ((tt, tt, refl), λ ts rest h e. begins (codes "void") _ ts rest h)
answer_tells (Some a) = inr ((a, tt, refl), λ ts rest h e. argument_no_void a ts rest h)

answer_reads : Reads answer_pieces All answer_at Any
unfolding answer_at
answer_reads = either_reads (next_has (codes "void")) (mapped_reads {B = Option Argument} (λ x. None) answer_pieces (before_reads (codes "void") nothing_reads) (λ x. refl)) (mapped_reads Some answer_pieces argument_reads (λ x. refl)) answer_tells

abbrev line_of : FunctionType → List Argument × Option Argument
line_of f = (f.arguments, f.result)

function_type_reads : Reads function_type_pieces All function_type_at Any
unfolding function_type_at
function_type_reads =
    before_reads (codes "fn") (both_reads (λ w parts. record { name = w; arguments = parts.0; result = parts.1 }) (λ f. f.name) line_of (λ a b. refl) (λ a b. refl) (λ c. refl)
    named_reads
    (before_reads (codes "(") (both_reads pair (λ p. p.0) (λ p. p.1) (λ a b. refl) (λ a b. refl) (λ c. refl)
    arguments_reads
    (before_reads (codes ")") (before_reads (codes "->") (closed_reads (codes ";") answer_reads (λ ts rest h. tt))))
    (λ b ts rest h k. (begins (codes ")") _ ts rest h, begins_other (codes ")") (codes ",") _ ts rest refl h))))
    (λ b ts rest h k. tt))

-- ---- the file

end_no_region : (ts : List Word) → is_end ts ≡ true → next_has (codes "region") ts ≡ false
end_no_region [] e = refl
end_no_region (t ∷ ts) e = absurd cc

file_follows : (y : Option FunctionType) (ts rest : List Word) → Spells (optional_pieces function_type_pieces y) ts rest → Ends rest → next_has (codes "region") ts ≡ false
file_follows None ts rest h e = end_no_region ts (ap is_end (nil_is ts rest h) ∙ e)
file_follows (Some f) ts rest h e = begins_other (codes "fn") (codes "region") _ ts rest refl h

pub type_file_reads : Reads type_file_pieces All type_file_at Ends
unfolding type_file_at
type_file_reads = both_reads (λ rs f. record { regions = rs; function = f }) (λ t. t.regions) (λ t. t.function) (λ a b. refl) (λ a b. refl) (λ c. refl)
    regions_reads (optional_reads (λ f. omega arith) function_type_reads) file_follows
