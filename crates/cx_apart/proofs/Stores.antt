-- What stands before a store stands after it with the stored cell.
use Rattle.std.specs.Prelude.{◌≡◌, ◌≢◌, ℕ, zero, suc, ℤ, pos, ◌+◌, ◌-ℤ◌, ◌<◌, ◌≤◌, List, [], ◌∷◌, ◌++◌, length, drop, map, filter, All, Any, Option, Some, Ok, Err, slice_get, slice_set, slice_index_or, IsSomeAnd, nat_lt, Bool, true, false, ◌⊎◌}
use Rattle.std.specs.List.{AllByRecursion}
use Rattle.std.proofs.Common.{arith, refl, sym, ap, ◌∙◌, cond, subst, inl, inr}
use Rattle.std.proofs.lemmas.List.Elements.{All-push, All-set, All-filter}
use Rattle.std.proofs.lemmas.Option.{slice_get_within, get_or_from_slice_get}
use Rattle.cx_base.specs.Memory.{size_of, stored}
use Rattle.cx_base.specs.declared.memory.Region.{Region}
use Rattle.cx_base.proofs.Storing.{size_of-stored, load-stored, load-apart}
use Rattle.cx_base.proofs.Writing.{slice_get-set_other}
use Rattle.cx_term.specs.Forms.{value}
use Rattle.cx_term.specs.Sums.{is_zero}
use Rattle.cx_term.proofs.Values.{is_zero-true}
use Rattle.cx_cells.specs.Values.{all_values}
use Rattle.cx_cells.specs.Layouts.{Extent, extent_of, layout_of, IsAt, Points}
use Rattle.cx_cells.specs.Meaning.{form_size}
use Rattle.cx_cells.specs.Typing.{IsMemory}
use Rattle.cx_cells.specs.declared.form.Form.{Form}
use Rattle.cx_state.specs.Known.{fact_at, is_one_of}
use Rattle.cx_state.specs.Run.{Run}
use Rattle.cx_state.specs.Stands.{visible, IsBlock, FreshStands, CellInRegion, IsNull, CellStands, CellIsPrivate, StandsAtAccess}
use Rattle.cx_state.specs.declared.state.Cell.{Cell}
use Rattle.cx_state.specs.declared.state.Fact.{Fact}
use Rattle.cx_state.specs.declared.state.Env.{Env}
use Rattle.cx_state.specs.declared.state.EnvFault.TheVariants.{Limit}
use Rattle.cx_state.specs.declared.state.EnvLimit.TheVariants.{Cells}
use Rattle.cx_learn.proofs.Below.{to_recursion, from_recursion}
use Rattle.cx_apart.specs.Apart.{are_apart, LiesIn}
use Rattle.cx_apart.specs.Putting.{spot_of, apart_from, dropped, put, RegionIs, Stores, DropStands, ReadsAs, PutStands}
use Rattle.cx_apart.specs.declared.spots.Spot.{Spot}
use Rattle.cx_apart.proofs.Truths.{apart-true}

-- ---- lists with one item changed
get_at : {X : Type 0} (xs : List X) (k : ℕ) (d : X) → k < length xs → slice_get xs k ≡ Some (slice_index_or xs k d)
get_at [] k d l = absurd (omega (arith, l))
get_at (x ∷ xs) zero d l = refl
get_at (x ∷ xs) (suc k) d l = get_at xs k d (omega (arith, l))

any_at : {X : Type 0} (P : X → Type 0) (xs : List X) (k : ℕ) (x : X) → slice_get xs k ≡ Some x → P x → Any P xs
any_at P xs k x e h = (k, x, slice_get_within xs k x e, get_or_from_slice_get xs k x x e, h)

pub any_get : {X : Type 0} (P : X → Type 0) (xs : List X) (h : Any P xs) → slice_get xs h.0 ≡ Some h.1
any_get P xs h = get_at xs h.0 h.1 h.2 ∙ ap Some h.3

get_drop : {X : Type 0} (n : ℕ) (xs : List X) (k : ℕ) → slice_get (drop n xs) k ≡ slice_get xs (n + k)
get_drop zero xs k = ap (slice_get xs) (omega arith)
get_drop (suc n) [] k = refl
get_drop (suc n) (x ∷ xs) k = let e : suc n + k ≡ suc (n + k) = omega arith in rw e (get_drop n xs k)

set_here : {X : Type 0} (xs : List X) (i : ℕ) (x y : X) → slice_get xs i ≡ Some x → slice_get (slice_set xs i y) i ≡ Some y
set_here [] i x y e = absurd (cc)
set_here (z ∷ xs) zero x y e = refl
set_here (z ∷ xs) (suc i) x y e = set_here xs i x y e

pub equal_or_not : (j k : ℕ) (R : Type 0) → (j ≡ k → R) → (j ≢ k → R) → R
equal_or_not zero zero R f g = f refl
equal_or_not zero (suc k) R f g = g (λ e. cc)
equal_or_not (suc j) zero R f g = g (λ e. cc)
equal_or_not (suc j) (suc k) R f g = equal_or_not j k R (λ e. f (ap suc e)) (λ n. g (λ e. n (omega (arith, e))))

-- the item at j afterwards
item_after : {X : Type 0} (xs : List X) (i j : ℕ) (x y z : X) (R : Type 0) → slice_get xs i ≡ Some x → slice_get xs j ≡ Some z → (j ≡ i → z ≡ x → slice_get (slice_set xs i y) j ≡ Some y → R) → (slice_get (slice_set xs i y) j ≡ Some z → R) → R
item_after xs i j x y z R e g f k =
    equal_or_not j i R
    (λ q.
    let w : Some z ≡ Some x = sym g ∙ ap (slice_get xs) q ∙ e in
    let s : z ≡ x = cc in
    f q s (ap (slice_get (slice_set xs i y)) q ∙ set_here xs i x y e))
    (λ n. k (slice_get-set_other xs i j y n ∙ g))

any_after : {X : Type 0} (P : X → Type 0) (n : ℕ) (xs : List X) (i : ℕ) (x y : X) → slice_get xs i ≡ Some x → (P x → P y) → Any P (drop n xs) → Any P (drop n (slice_set xs i y))
any_after {X} P n xs i x y e f h =
    let g : slice_get xs (n + h.0) ≡ Some h.1 = sym (get_drop n xs h.0) ∙ any_get P (drop n xs) h in
    item_after xs i (n + h.0) x y h.1 (Any P (drop n (slice_set xs i y))) e g
    (λ q s k. any_at P (drop n (slice_set xs i y)) h.0 y (get_drop n (slice_set xs i y) h.0 ∙ k) (f (subst P s h.4)))
    (λ k. any_at P (drop n (slice_set xs i y)) h.0 h.1 (get_drop n (slice_set xs i y) h.0 ∙ k) h.4)

map_same : {X Y : Type 0} (f : X → Y) (xs : List X) (i : ℕ) (x y : X) → slice_get xs i ≡ Some x → f y ≡ f x → map f (slice_set xs i y) ≡ map f xs
map_same f [] i x y e g = absurd (cc)
map_same f (z ∷ xs) zero x y e g = let s : z ≡ x = cc in let a : f y ≡ f z = g ∙ ap f (sym s) in cc
map_same f (z ∷ xs) (suc i) x y e g = ap (λ r. f z ∷ r) (map_same f xs i x y e g)

one_filter : {X : Type 0} (P Q : X → Type 0) (p : X → Bool) (x : X) (ys : List X) (b : Bool) → p x ≡ b → (p x ≡ true → P x → Q x) → P x → AllByRecursion Q ys → AllByRecursion Q (cond b (x ∷ ys) ys)
one_filter P Q p x ys true e f h k = (f e h, k)
one_filter P Q p x ys false e f h k = k

all_filter : {X : Type 0} (P Q : X → Type 0) (p : X → Bool) (xs : List X) → ((x : X) → p x ≡ true → P x → Q x) → AllByRecursion P xs → AllByRecursion Q (filter p xs)
all_filter P Q p [] f h = tt
all_filter P Q p (x ∷ xs) f h = one_filter P Q p x (filter p xs) (p x) refl (f x) h.0 (all_filter P Q p xs f h.1)

filter_kept : {X : Type 0} (P Q : X → Type 0) (p : X → Bool) (xs : List X) → ((x : X) → p x ≡ true → P x → Q x) → All P xs → All Q (filter p xs)
filter_kept P Q p xs f h = from_recursion Q (filter p xs) (all_filter P Q p xs f (to_recursion P xs h))

-- ---- the stored region
abbrev resized : Region → ℕ → Extent
resized r n = record { base = r.base; name = r.name; args = r.args; size = n }

extent_stored : (r : Region) (off size : ℕ) (z : ℤ) → off + size ≤ size_of r → extent_of (stored r off size z) ≡ extent_of r
extent_stored r off size z h = ap (resized r) (size_of-stored r off size z h)

layout_stored : (memory : List Region) (i : ℕ) (r : Region) (off size : ℕ) (z : ℤ) → slice_get memory i ≡ Some r → off + size ≤ size_of r → layout_of (slice_set memory i (stored r off size z)) ≡ layout_of memory
layout_stored memory i r off size z e h = map_same extent_of memory i r (stored r off size z) e (extent_stored r off size z h)

block_stored : (forms : List Form) (v : ℕ → ℤ) (f : Fact) (x : ℤ) (r : Region) (off size : ℕ) (z : ℤ) → off + size ≤ size_of r → IsBlock forms v f x r → IsBlock forms v f x (stored r off size z)
block_stored forms v f x r off size z h b =
    record {
      is = subst (IsAt f.name (all_values v f.args) (x -ℤ value v f.off)) (sym (extent_stored r off size z h)) b.is;
      private = b.private;
      sized = subst (λ (n : ℕ). IsSomeAnd (slice_get forms f.name) (λ form. form_size form r.args ≡ Some n)) (sym (size_of-stored r off size z h)) b.sized;
    }

fresh_stored : (run : Run) (v : ℕ → ℤ) (facts : List (Option Fact)) (memory : List Region) (i : ℕ) (r : Region) (off size : ℕ) (z : ℤ) (s : ℕ) → slice_get memory i ≡ Some r → off + size ≤ size_of r → FreshStands run v facts memory s → FreshStands run v facts (slice_set memory i (stored r off size z)) s
fresh_stored run v facts memory i r off size z s e h F =
    record {
      f = F.f;
      fact = F.fact;
      nonzero = F.nonzero;
      block = λ n. any_after (IsBlock run.forms v F.f (v s)) (length run.before) memory i r (stored r off size z) e (block_stored run.forms v F.f (v s) r off size z h) (F.block n);
    }

-- ---- cells
null_by : (v : ℕ → ℤ) (f : Fact) (s : ℕ) (R : Type 0) (n b : Bool) → f.null ≡ n → is_zero (v s) ≡ b → (IsNull v f s → R) → ((IsNull v f s → ⊥) → R) → R
null_by v f s R true true e q k l = k (e, is_zero-true (v s) q)
null_by v f s R true false e q k l = l (λ h. let w : is_zero (pos 0) ≡ false = subst (λ (x : ℤ). is_zero x ≡ false) h.1 q in let u : true ≡ false = w in cc)
null_by v f s R false b e q k l = l (λ h. let w : true ≡ false = sym h.0 ∙ e in cc)

-- the cell in a region that was not stored into, or apart from the stored bytes
held_stored : (run : Run) (v : ℕ → ℤ) (env : Env) (locals : List (Option ℤ)) (memory : List Region) (a : Spot) (d : Cell) (z : ℤ) (i : ℕ) (x : LiesIn v env memory a i) (f : Fact) → StandsAtAccess run v env locals memory → fact_at env.facts d.sym ≡ Some f → are_apart env (spot_of d) a ≡ true → (IsNull v f d.sym → ⊥) → Any (CellInRegion v f d) memory → Any (CellInRegion v f d) (slice_set memory i (stored x.r x.at a.size z))
held_stored run v env locals memory a d z i x f S e q live h =
    let y : Region = stored x.r x.at a.size z in
    item_after memory i h.0 x.r y h.1 (Any (CellInRegion v f d) (slice_set memory i y)) x.there (any_get (CellInRegion v f d) memory h)
    (λ j s k.
    let p : CellInRegion v f d x.r = subst (CellInRegion v f d) s h.4 in
    let t : LiesIn v env memory (spot_of d) i = record { f = f; fact = e; live = live; r = x.r; there = x.there; is = p.is; at = p.at; place = p.place; inside = p.inside } in
    let m = apart-true env (spot_of d) a q run v locals memory S i t x in
    any_at (CellInRegion v f d) (slice_set memory i y) h.0 y k
    (record {
      is = subst (IsAt f.name (all_values v f.args) (v d.sym -ℤ value v f.off)) (sym (extent_stored x.r x.at a.size z x.inside)) p.is;
      at = p.at;
      place = p.place;
      inside = subst (λ (n : ℕ). p.at + d.size ≤ n) (sym (size_of-stored x.r x.at a.size z x.inside)) p.inside;
      bytes = load-apart x.r x.at a.size z x.inside p.at d.size d.signed m ∙ p.bytes;
    }))
    (λ k. any_at (CellInRegion v f d) (slice_set memory i y) h.0 h.1 k h.4)

cell_stored : (run : Run) (v : ℕ → ℤ) (env : Env) (locals : List (Option ℤ)) (memory : List Region) (a : Spot) (d : Cell) (z : ℤ) (i : ℕ) (x : LiesIn v env memory a i) → StandsAtAccess run v env locals memory → are_apart env (spot_of d) a ≡ true → CellStands v env.facts memory d → CellStands v env.facts (slice_set memory i (stored x.r x.at a.size z)) d
cell_stored run v env locals memory a d z i x S q h =
    null_by v h.f d.sym (CellStands v env.facts (slice_set memory i (stored x.r x.at a.size z)) d) h.f.null (is_zero (v d.sym)) refl refl
    (λ n. record { f = h.f; fact = h.fact; held = inl n })
    (λ live. record { f = h.f; fact = h.fact; held = held_by (Any (CellInRegion v h.f d) (slice_set memory i (stored x.r x.at a.size z))) live (λ m. held_stored run v env locals memory a d z i x h.f S h.fact q live m) h.held })
  where
    held_by : {N A : Type 0} (B : Type 0) → (N → ⊥) → (A → B) → N ⊎ A → N ⊎ B
    held_by B live f (inl n) = absurd (live n)
    held_by B live f (inr m) = inr (f m)

new_cell : (v : ℕ → ℤ) (env : Env) (memory : List Region) (i : ℕ) (c : Cell) (z : ℤ) (x : LiesIn v env memory (spot_of c) i) → ReadsAs v c z → CellStands v env.facts (slice_set memory i (stored x.r x.at c.size z)) c
new_cell v env memory i c z x h =
    let y : Region = stored x.r x.at c.size z in
    record {
      f = x.f;
      fact = x.fact;
      held = inr (any_at (CellInRegion v x.f c) (slice_set memory i y) i y (set_here memory i x.r y x.there)
          (record {
            is = subst (IsAt x.f.name (all_values v x.f.args) (v c.sym -ℤ value v x.f.off)) (sym (extent_stored x.r x.at c.size z x.inside)) x.is;
            at = x.at;
            place = x.place;
            inside = subst (λ (n : ℕ). x.at + c.size ≤ n) (sym (size_of-stored x.r x.at c.size z x.inside)) x.inside;
            bytes = load-stored x.r x.at c.size z c.signed h.sized x.inside ∙ h.reads;
          }));
    }

-- ---- all of it
access_stored : (run : Run) (v : ℕ → ℤ) (env : Env) (locals : List (Option ℤ)) (memory : List Region) (a : Spot) (z : ℤ) (after : List Region) (cells : List Cell) → StandsAtAccess run v env locals memory → (s : Stores run v env memory a z after) → All (CellStands v env.facts (slice_set memory s.i (stored s.lies.r s.lies.at a.size z))) cells → StandsAtAccess run v (record env { cells = cells }) locals after
access_stored run v env locals memory a z after cells S s held =
    let x = s.lies in
    let new : List Region = slice_set memory s.i (stored x.r x.at a.size z) in
    let w : layout_of new ≡ layout_of memory = layout_stored memory s.i x.r x.at a.size z x.there x.inside in
    let next : Env = record env { cells = cells } in
    subst (λ (m : List Region). StandsAtAccess run v next locals m) (sym s.is)
    (record {
      locals_stand = S.locals_stand;
      ranges = S.ranges;
      conds = S.conds;
      anchors = S.anchors;
      memory_stands = subst IsMemory s.is s.memory_after;
      extends = record { more = S.extends.more; same = w ∙ S.extends.same };
      fresh = λ k d l. fresh_stored run v env.facts memory s.i x.r x.at a.size z _ x.there x.inside (S.fresh k d l);
      fresh_apart = S.fresh_apart;
      facts = subst (λ (l : List Extent). (t : ℕ) (g : Fact) → fact_at env.facts t ≡ Some g → is_one_of env.fresh t ≡ false → Points (visible v env l) g.name (all_values v g.args) (value v g.off) g.null (v t)) (sym w) S.facts;
      staged = S.staged;
      regions = subst (λ (l : List Extent). All (RegionIs run v env l) new) (sym w) (All-set (RegionIs run v env (layout_of memory)) memory s.i (stored x.r x.at a.size z) s.region S.regions);
      cells = held;
    })

kept : (run : Run) (v : ℕ → ℤ) (env : Env) (locals : List (Option ℤ)) (memory : List Region) (a : Spot) (z : ℤ) (after : List Region) → StandsAtAccess run v env locals memory → (s : Stores run v env memory a z after) → All (CellStands v env.facts (slice_set memory s.i (stored s.lies.r s.lies.at a.size z))) (apart_from env a env.cells)
kept run v env locals memory a z after S s =
    filter_kept (CellStands v env.facts memory) (CellStands v env.facts (slice_set memory s.i (stored s.lies.r s.lies.at a.size z))) (λ d. are_apart env (spot_of d) a) env.cells (λ d q h. cell_stored run v env locals memory a d z s.i s.lies S q h) S.cells

private_kept : (forms : List Form) (v : ℕ → ℤ) (env : Env) (a : Spot) → All (CellIsPrivate forms v env.facts) env.cells → All (CellIsPrivate forms v env.facts) (apart_from env a env.cells)
private_kept forms v env a h = All-filter (λ d. are_apart env (spot_of d) a) (CellIsPrivate forms v env.facts) env.cells h

pub drop-stands : (env : Env) (a : Spot) → DropStands env a (dropped env a)
drop-stands env a run v before z after s =
    record {
      at_access = λ locals S. access_stored run v env locals before a z after (apart_from env a env.cells) S s (kept run v env locals before a z after S s);
      stands = λ locals S. record {
        at_access = access_stored run v env locals before a z after (apart_from env a env.cells) S.at_access s (kept run v env locals before a z after S.at_access s);
        private = private_kept run.forms v env a S.private;
      };
    }

put_after : (env : Env) (c : Cell) → PutStands env c (record env { cells = apart_from env (spot_of c) env.cells ++ c ∷ [] })
put_after env c run v before z after s h p =
    let a = spot_of c in
    let new : List Region = slice_set before s.i (stored s.lies.r s.lies.at c.size z) in
    let n = new_cell v env before s.i c z s.lies h in
    let own : CellIsPrivate run.forms v env.facts c = record { f = s.lies.f; fact = s.lies.fact; private = inr p } in
    record {
      at_access = λ locals S. access_stored run v env locals before a z after (apart_from env a env.cells ++ c ∷ []) S s (All-push (CellStands v env.facts new) (apart_from env a env.cells) c (kept run v env locals before a z after S s) n);
      stands = λ locals S. record {
        at_access = access_stored run v env locals before a z after (apart_from env a env.cells ++ c ∷ []) S.at_access s (All-push (CellStands v env.facts new) (apart_from env a env.cells) c (kept run v env locals before a z after S.at_access s) n);
        private = All-push (CellIsPrivate run.forms v env.facts) (apart_from env a env.cells) c (private_kept run.forms v env a S.private) own;
      };
    }

put_by : (env : Env) (c : Cell) (b : Bool) (next : Env) → cond b (Ok (record env { cells = apart_from env (spot_of c) env.cells ++ c ∷ [] })) (Err (Limit Cells)) ≡ Ok next → PutStands env c next
put_by env c true next e =
    let g : record env { cells = apart_from env (spot_of c) env.cells ++ c ∷ [] } ≡ next = cc in
    subst (λ (x : Env). PutStands env c x) g (put_after env c)
put_by env c false next e = absurd (cc)

pub put-stands : (env : Env) (c : Cell) (next : Env) → put env c ≡ Ok next → PutStands env c next
put-stands env c next e = put_by env c (nat_lt (length (apart_from env (spot_of c) env.cells)) 256) next e
