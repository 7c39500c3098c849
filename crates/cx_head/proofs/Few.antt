-- A branch that is chosen is one of the form's, and the parts of a form have few binders.
use Rattle.std.specs.Prelude.{◌≡◌, ℕ, ◌≤◌, List, [], ◌∷◌, All, Any, Option, None, Some, IfSome, slice_get, Bool, true, false, if◌then◌else◌}
use Rattle.std.specs.List.{list_any}
use Rattle.std.proofs.Common.{sym, subst}
use Rattle.cx_term.specs.Forms.{Linear}
use Rattle.cx_cells.specs.Kept.{FormKept, TailKept}
use Rattle.cx_cells.specs.declared.form.CaseBranch.{CaseBranch}
use Rattle.cx_cells.specs.declared.form.Form.{Form}
use Rattle.cx_cells.specs.declared.form.Tail.{Tail}
use Rattle.cx_state.specs.declared.state.Env.{Env}
use Rattle.cx_fact.proofs.Regions.{any-shift, first_any}
use Rattle.cx_apart.proofs.Places.{all_get}
use Rattle.cx_apart.proofs.Stores.{any_get}
use Rattle.cx_head.specs.Branches.{is_possible, only_possible}

first_by : (b c : CaseBranch) (cs : List CaseBranch) (q : Bool) → (if q then None else Some c) ≡ Some b → Any (λ x. x ≡ b) (c ∷ cs)
first_by b c cs true e = absurd (cc)
first_by b c cs false e = let w : c ≡ b = cc in first_any (λ x. x ≡ b) c cs w

only_by : (b c : CaseBranch) (cs : List CaseBranch) (p q : Bool) (o : Option CaseBranch) → (o ≡ Some b → Any (λ x. x ≡ b) cs) → (if p then (if q then None else Some c) else o) ≡ Some b → Any (λ x. x ≡ b) (c ∷ cs)
only_by b c cs true q o f e = first_by b c cs q e
only_by b c cs false q o f e = any-shift (λ x. x ≡ b) c cs (f e)

only-in : (env : Env) (values : List Linear) (bs : List CaseBranch) (b : CaseBranch) → only_possible env values bs ≡ Some b → Any (λ x. x ≡ b) bs
only-in env values [] b e = absurd (cc)
only-in env values (c ∷ cs) b e = only_by b c cs (is_possible env values c) (list_any (is_possible env values) cs) (only_possible env values cs) (only-in env values cs b) e

-- what all branches keep, the chosen one does
pub only-kept : (P : CaseBranch → Type 0) (env : Env) (values : List Linear) (bs : List CaseBranch) (b : CaseBranch) → All P bs → only_possible env values bs ≡ Some b → P b
only-kept P env values bs b a e =
    let h = only-in env values bs b e in
    subst P h.4 (all_get P bs h.0 h.1 a (any_get (λ x. x ≡ b) bs h))

tail_by : (forms : List Form) (form : Form) (o : Option Tail) → IfSome o (TailKept forms form) → IfSome o (λ tail. tail.part.binders ≤ 16)
tail_by forms form None h = tt
tail_by forms form (Some tail) h = h.part.binders

pub tail-few : (forms : List Form) (form : Form) (name : ℕ) → All (FormKept forms) forms → Some form ≡ slice_get forms name → IfSome form.tail (λ tail. tail.part.binders ≤ 16)
tail-few forms form name K q = tail_by forms form form.tail (all_get (FormKept forms) forms name form K (sym q)).tail
