-- What holds in a layout holds in one with more regions.
use Rattle.std.specs.Prelude.{ℕ, ℤ, ◌+◌, List, [], ◌∷◌, ◌++◌, Any, Option, Some, None}
use Rattle.std.specs.List.{AllByRecursion}
use Rattle.std.proofs.Common.{arith, ◌∙◌, inl, inr, length-append}
use Rattle.std.proofs.lemmas.List.{get_or_append_left}
use Rattle.cx_term.specs.Forms.{value}
use Rattle.cx_cells.specs.Layouts.{Extent, Points}
use Rattle.cx_cells.specs.Meaning.{KindHolds, CellHolds, PartHolds, BranchHolds, CasesHold, HeadHolds, ElementsHold, FormHolds}
use Rattle.cx_cells.specs.Values.{values_of}
use Rattle.cx_cells.specs.declared.cell.CellKind.{CellKind}
use Rattle.cx_cells.specs.declared.cell.CellKind.TheVariants.{Val, Ptr}
use Rattle.cx_cells.specs.declared.cell.CellKind.TheVariants.{Any as AnyBytes}
use Rattle.cx_cells.specs.declared.form.CaseBranch.{CaseBranch}
use Rattle.cx_cells.specs.declared.form.Form.{Form}
use Rattle.cx_cells.specs.declared.form.Part.{Part}
use Rattle.cx_cells.specs.declared.form.Tail.{Tail}

pub any-append : {X : Type 0} (P : X → Type 0) (xs ys : List X) → Any P xs → Any P (xs ++ ys)
any-append P xs ys h = (h.0, h.1, simp length-append (omega (arith, h.2)), get_or_append_left xs ys h.1 h.0 h.2 ∙ h.3, h.4)

any_to : {X : Type 0} (P Q : X → Type 0) (xs : List X) → ((x : X) → P x → Q x) → Any P xs → Any Q xs
any_to P Q xs f h = (h.0, h.1, h.2, h.3, f h.1 h.4)

all_to : {X : Type 0} (P Q : X → Type 0) (xs : List X) → ((x : X) → P x → Q x) → AllByRecursion P xs → AllByRecursion Q xs
all_to P Q [] f h = tt
all_to P Q (x ∷ xs) f h = (f x h.0, all_to P Q xs f h.1)

pub points-more : (l m : List Extent) (name : ℕ) (args : List ℤ) (off : ℤ) (null : _) (z : ℤ) → Points l name args off null z → Points (l ++ m) name args off null z
points-more l m name args off null z (inl h) = inl h
points-more l m name args off null z (inr h) = inr (any-append _ l m h)

kind-more : (v : ℕ → ℤ) (l m : List Extent) (bytes : List ℕ) (off size : ℕ) (kind : CellKind) → KindHolds v l bytes off size kind → KindHolds v (l ++ m) bytes off size kind
kind-more v l m bytes off size AnyBytes h = tt
kind-more v l m bytes off size (Val signed u) h = h
kind-more v l m bytes off size (Ptr name args to null) h = points-more l m name _ (value v to) null _ h

part-more : (known : List ℤ) (l m : List Extent) (bytes : List ℕ) (off : ℕ) (part : Part) → PartHolds known l bytes off part → PartHolds known (l ++ m) bytes off part
part-more known l m bytes off part h =
    record {
      binders = h.binders;
      count = h.count;
      conds = h.conds;
      cells = all_to (CellHolds (values_of (known ++ h.binders)) l bytes off) (CellHolds (values_of (known ++ h.binders)) (l ++ m) bytes off) part.cells (λ c k. kind-more (values_of (known ++ h.binders)) l m bytes (off + c.at) c.size c.kind k) h.cells;
    }

branch-more : (known : List ℤ) (l m : List Extent) (bytes : List ℕ) (off : ℕ) (branch : CaseBranch) → BranchHolds known l bytes off branch → BranchHolds known (l ++ m) bytes off branch
branch-more known l m bytes off branch h = record { guard = h.guard; part = part-more known l m bytes off branch.part h.part }

cases-more : (known : List ℤ) (l m : List Extent) (bytes : List ℕ) (off : ℕ) (cases : List CaseBranch) → CasesHold known l bytes off cases → CasesHold known (l ++ m) bytes off cases
cases-more known l m bytes off [] h = tt
cases-more known l m bytes off (b ∷ bs) h = any_to (BranchHolds known l bytes off) (BranchHolds known (l ++ m) bytes off) (b ∷ bs) (λ c k. branch-more known l m bytes off c k) h

pub head-more : (form : Form) (args : List ℤ) (l m : List Extent) (bytes : List ℕ) → HeadHolds form args l bytes → HeadHolds form args (l ++ m) bytes
head-more form args l m bytes h =
    record {
      binders = h.binders;
      count = h.count;
      conds = h.conds;
      cells = all_to (CellHolds (values_of (args ++ h.binders)) l bytes 0) (CellHolds (values_of (args ++ h.binders)) (l ++ m) bytes 0) form.head (λ c k. kind-more (values_of (args ++ h.binders)) l m bytes (0 + c.at) c.size c.kind k) h.cells;
      cases = cases-more (args ++ h.binders) l m bytes form.cases_at form.cases h.cases;
    }

pub elements-more : (form : Form) (args : List ℤ) (l m : List Extent) (bytes : List ℕ) (tail : Option Tail) → ElementsHold form args l bytes tail → ElementsHold form args (l ++ m) bytes tail
elements-more form args l m bytes None h = tt
elements-more form args l m bytes (Some tail) h = λ i k. part-more _ l m bytes _ tail.part (h i k)

pub form-more : (form : Form) (args : List ℤ) (l m : List Extent) (bytes : List ℕ) → FormHolds form args l bytes → FormHolds form args (l ++ m) bytes
form-more form args l m bytes h =
    record { given = h.given; size = h.size; head = head-more form args l m bytes h.head; elements = elements-more form args l m bytes form.tail h.elements }
