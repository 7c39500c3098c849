-- What the fact of a symbol means for numbers.
use Rattle.std.specs.Prelude.{◌≡◌, ℕ, ℤ, pos, negsuc, ◌+ℤ◌, ◌-ℤ◌, ◌*ℤ◌, ◌≤ℤ◌, ◌+◌, ◌*◌, ◌^◌, List, Option, Some, slice_get, IsSomeAnd, option_map, Bool, true, false}
use Rattle.std.proofs.Common.{arith, refl, sym, ◌∙◌, subst}
use Rattle.std.proofs.lemmas.Int.{ints}
use Rattle.cx_base.specs.Memory.{size_of}
use Rattle.cx_base.specs.declared.memory.Region.{Region}
use Rattle.cx_term.specs.Forms.{value}
use Rattle.cx_term.specs.Sums.{is_zero}
use Rattle.cx_term.proofs.Values.{is_zero-true}
use Rattle.cx_cells.specs.Values.{all_values, count_of}
use Rattle.cx_cells.specs.Meaning.{element_count, element_at, form_size, size_with}
use Rattle.cx_cells.specs.declared.form.Form.{Form}
use Rattle.cx_cells.specs.declared.form.Tail.{Tail}
use Rattle.cx_state.specs.Known.{fact_at}
use Rattle.cx_state.specs.Run.{Run}
use Rattle.cx_state.specs.Stands.{StandsAtAccess}
use Rattle.cx_state.specs.declared.state.Fact.{Fact}
use Rattle.cx_state.specs.declared.state.Env.{Env}
use Rattle.cx_fact.proofs.Regions.{IsOf, fact_region}

-- the tail's count is not negative, and the size at most 2^47
pub record TailTruths (v : ℕ → ℤ) (f : Fact) (form : Form) (tail : Tail) : Type 0 where
  pub count : pos 0 ≤ℤ element_count (all_values v f.args) tail
  pub size : (pos form.head_size +ℤ element_count (all_values v f.args) tail *ℤ pos tail.part.size) ≤ℤ pos (2 ^ 47)

abbrev pub SizeTruths : List Form → (ℕ → ℤ) → Fact → Type 0
SizeTruths forms v f = (form : Form) (tail : Tail) → slice_get forms f.name ≡ Some form → form.tail ≡ Some tail → TailTruths v f form tail

-- what is true of a symbol with this fact
pub record Truths (forms : List Form) (v : ℕ → ℤ) (s : ℕ) (f : Fact) : Type 0 where
  pub above : f.null ≡ false → pos 1 ≤ℤ (v s -ℤ value v f.off)
  pub below : (f.null ≡ true → pos 0 ≤ℤ value v f.off) → (v s -ℤ value v f.off) ≤ℤ (pos (2 ^ 47) -ℤ pos 1)
  pub sizes : f.null ≡ false → SizeTruths forms v f

count_by : (form : Form) (tail : Tail) (z : ℤ) (n : ℕ) → option_map (element_at form tail) (count_of z) ≡ Some n → (pos 0 ≤ℤ z) × (pos form.head_size +ℤ z *ℤ pos tail.part.size ≡ pos n)
count_by form tail (pos k) n e = let f : form.head_size + k * tail.part.size ≡ n = cc in (omega (arith, ints), omega (arith, ints, f))
count_by form tail (negsuc k) n e = absurd (cc)

sized_at : (forms : List Form) (f : Fact) (r : Region) (form : Form) → slice_get forms f.name ≡ Some form → IsSomeAnd (slice_get forms f.name) (λ form. form_size form r.args ≡ Some (size_of r)) → form_size form r.args ≡ Some (size_of r)
sized_at forms f r form e h = rw e at h

tail_of : (forms : List Form) (v : ℕ → ℤ) (f : Fact) (z : ℤ) (r : Region) (form : Form) (tail : Tail) → IsOf forms v f z r → slice_get forms f.name ≡ Some form → form.tail ≡ Some tail → TailTruths v f form tail
tail_of forms v f z r form tail h e g =
    let a : size_with form r.args form.tail ≡ Some (size_of r) = sized_at forms f r form e h.sized in
    let b : size_with form (all_values v f.args) (Some tail) ≡ Some (size_of r) = subst (λ (zs : List ℤ). size_with form zs (Some tail) ≡ Some (size_of r)) h.is.given (subst (λ (o : Option Tail). size_with form r.args o ≡ Some (size_of r)) g a) in
    let c = count_by form tail (element_count (all_values v f.args) tail) (size_of r) b in
    record { count = c.0; size = omega (arith, ints, c.1, h.range.high) }

region_truths : (forms : List Form) (v : ℕ → ℤ) (s : ℕ) (f : Fact) (r : Region) → IsOf forms v f (v s) r → Truths forms v s f
region_truths forms v s f r h =
    record {
      above = λ n. omega (arith, ints, h.is.based, h.range.low);
      below = λ n. omega (arith, ints, h.is.based, h.range.high);
      sizes = λ n form tail e g. tail_of forms v f (v s) r form tail h e g;
    }

zero_by : (run : Run) (v : ℕ → ℤ) (env : Env) (locals : List (Option ℤ)) (memory : List Region) (s : ℕ) (f : Fact) (n b : Bool) → StandsAtAccess run v env locals memory → fact_at env.facts s ≡ Some f → f.null ≡ n → is_zero (v s) ≡ b → Truths run.forms v s f
zero_by run v env locals memory s f true true S e m q =
    let z = is_zero-true (v s) q in
    record {
      above = λ n. absurd (let w : true ≡ false = sym m ∙ n in cc);
      below = λ n. omega (arith, ints, z, n m);
      sizes = λ n. absurd (let w : true ≡ false = sym m ∙ n in cc);
    }
zero_by run v env locals memory s f true false S e m q =
    let r = fact_region run v env locals memory s f S e (λ n z. let w : is_zero (pos 0) ≡ false = rw z at q in let u : true ≡ false = w in cc) in
    region_truths run.forms v s f r.1 r.4
zero_by run v env locals memory s f false b S e m q =
    let r = fact_region run v env locals memory s f S e (λ n. absurd (let w : true ≡ false = sym n ∙ m in cc)) in
    region_truths run.forms v s f r.1 r.4

pub fact_truths : (run : Run) (v : ℕ → ℤ) (env : Env) (locals : List (Option ℤ)) (memory : List Region) (s : ℕ) (f : Fact) → StandsAtAccess run v env locals memory → fact_at env.facts s ≡ Some f → Truths run.forms v s f
fact_truths run v env locals memory s f S e = zero_by run v env locals memory s f f.null (is_zero (v s)) S e refl refl
