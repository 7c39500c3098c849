-- Steps of reading that gave an answer, and statements one after the other.
use Rattle.std.proofs.Common.{◌≡◌, ℕ, ◌<◌, ◌≤◌, Bool, true, false, cond, not, List, [], ◌∷◌, ◌++◌, length, Option, Some, None, refl, sym, ap, ◌∙◌, append_assoc, arith, inl, inr, ◌⊎◌}
use Rattle.std.proofs.lemmas.Bool.Decides.{nat_tests}
use Rattle.std.specs.Prelude.{nat_le}
use Rattle.std.proofs.lemmas.Option.{same_Some}
use Rattle.cx_ctree.specs.Exprs.{ExprTree}
use Rattle.cx_ctree.specs.Stmts.{StmtTree, StmtTrees, no_stmt, also_stmt, GroupTrees, no_group, also_group}
use Rattle.cx_ctree.specs.Path.{stmt_path}
use Rattle.cx_cword.specs.declared.lexeme.Lexeme.{Lexeme}
use Rattle.cx_cword.specs.Reading.{first_of, past_of}
use Rattle.cx_cname.specs.Known.{Known}
use Rattle.cx_cexpr.proofs.Spans.{first-append, past-append}
use Rattle.cx_cexpr.proofs.Steps.{at_first, test_some}
use Rattle.cx_cword.specs.declared.mark.Mark.{Mark}
use Rattle.cx_cstmt.specs.Statements.{all_of}
use Rattle.cx_cstmt.specs.Reading.{Got, made, next, push, push_group}
use Rattle.cx_cword.specs.Marks.{fits}
use Rattle.cx_cword.proofs.Marks.{fits_is, kind_of}

pub made_some : (d : ℕ) (x : StmtTree) (env : Known) (past : ℕ) (rest : List Lexeme) (g : Got StmtTree) → made d x env past rest ≡ Some g → (stmt_path x ≤ d) × (◌≡◌ {A = Got StmtTree} (record { tree = x; known = env; past = past; rest = rest }) g)
unfolding made
made_some d x env past rest g e = let b = test_some (nat_le (stmt_path x) d) (Some (record { tree = x; known = env; past = past; rest = rest })) g e in (grind (arith, nat_tests, b.0), same_Some _ g b.1)

-- the mark stands first
pub record Marked (mark : Mark) (os rest : List Lexeme) : Type 0 where
  pub at : Lexeme
  pub parts : os ≡ at ∷ rest
  pub is : at.kind ≡ kind_of mark

pub next_some : {A : Type 0} (mark : Mark) (os : List Lexeme) (go : Lexeme → List Lexeme → Option A) (g : A) → next mark os None go ≡ Some g → (rest : List Lexeme) × (f : Marked mark os rest) × (go f.at rest ≡ Some g)
next_some mark os go g e =
    let h = at_first os (λ o rest. cond (fits mark o.kind) (go o rest) None) g e in
    let b = test_some (fits mark h.0.kind) (go h.0 h.1) g h.3 in
    (h.1, record { at = h.0; parts = h.2; is = fits_is mark h.0.kind b.0 }, b.1)

abbrev pub lacks : Mark → List Lexeme → Bool
lacks mark [] = true
lacks mark (o ∷ os) = not (fits mark o.kind)

next_by : {A : Type 0} (mark : Mark) (o : Lexeme) (rest : List Lexeme) (b : Bool) (other : Option A) (go : Lexeme → List Lexeme → Option A) (g : A) → fits mark o.kind ≡ b → cond b (go o rest) other ≡ Some g
    → ((lacks mark (o ∷ rest) ≡ true) × (other ≡ Some g)) ⊎ ((after : List Lexeme) × (f : Marked mark (o ∷ rest) after) × (go f.at after ≡ Some g))
next_by mark o rest true other go g is e = inr (rest, record { at = o; parts = refl; is = fits_is mark o.kind is }, e)
next_by mark o rest false other go g is e = inl (ap not is, e)

-- the mark was taken, or what is without it was given
pub next_cases : {A : Type 0} (mark : Mark) (os : List Lexeme) (other : Option A) (go : Lexeme → List Lexeme → Option A) (g : A) → next mark os other go ≡ Some g
    → ((lacks mark os ≡ true) × (other ≡ Some g)) ⊎ ((after : List Lexeme) × (f : Marked mark os after) × (go f.at after ≡ Some g))
next_cases mark [] other go g e = inl (refl, e)
next_cases mark (o ∷ rest) other go g e = next_by mark o rest (fits mark o.kind) other go g refl e

-- ---- lists of lexemes

pub begins_at : (whole front rest : List Lexeme) (first : ℕ) → whole ≡ front ++ rest → 0 < length front → first_of whole ≡ first → first_of front ≡ first
begins_at whole front rest first parts filled begins = sym (first-append front rest filled) ∙ ap first_of (sym parts) ∙ begins

pub two_parts : (whole a rest ts b after : List Lexeme) (o : Lexeme) → whole ≡ a ++ rest → rest ≡ o ∷ ts → ts ≡ b ++ after → whole ≡ (a ++ o ∷ b) ++ after
two_parts whole a rest ts b after o parts is then = parts ∙ ap (λ (v : List Lexeme). a ++ v) (is ∙ ap (λ (v : List Lexeme). o ∷ v) then) ∙ sym (append_assoc a (o ∷ b) after)

pub both_parts : (whole a mid c rest : List Lexeme) → whole ≡ a ++ mid → mid ≡ c ++ rest → whole ≡ (a ++ c) ++ rest
both_parts whole a mid c rest e f = e ∙ ap (λ (v : List Lexeme). a ++ v) f ∙ sym (append_assoc a c rest)

pub two_ends : (a b : List Lexeme) (o : Lexeme) (past : ℕ) → 0 < length b → past_of b ≡ past → past_of (a ++ o ∷ b) ≡ past
two_ends a b o past filled ends = past-append a (o ∷ b) (omega arith) ∙ past-append (o ∷ []) b filled ∙ ends

-- ---- statements in order

pub all_push : (all : StmtTrees) (s : StmtTree) (ss : StmtTrees) → all_of (push all s) ss ≡ all_of all (also_stmt s ss)
all_push no_stmt s ss = refl
all_push (also_stmt x all) s ss = ap (also_stmt x) (all_push all s ss)

pub all_last : (all : StmtTrees) (s : StmtTree) → push all s ≡ all_of all (also_stmt s no_stmt)
all_last no_stmt s = refl
all_last (also_stmt x all) s = ap (also_stmt x) (all_last all s)

pub all_none : (all : StmtTrees) → all_of all no_stmt ≡ all
all_none no_stmt = refl
all_none (also_stmt x all) = ap (also_stmt x) (all_none all)

pub all_assoc : (a b c : StmtTrees) → all_of (all_of a b) c ≡ all_of a (all_of b c)
all_assoc no_stmt b c = refl
all_assoc (also_stmt x a) b c = ap (also_stmt x) (all_assoc a b c)

abbrev pub all_groups : GroupTrees → GroupTrees → GroupTrees
all_groups no_group hs = hs
all_groups (also_group ls ss gs) hs = also_group ls ss (all_groups gs hs)

pub groups_push : (all : GroupTrees) (ls : List (Option ExprTree)) (ss : StmtTrees) (gs : GroupTrees) → all_groups (push_group all ls ss) gs ≡ all_groups all (also_group ls ss gs)
groups_push no_group ls ss gs = refl
groups_push (also_group ms us all) ls ss gs = ap (also_group ms us) (groups_push all ls ss gs)

pub groups_none : (all : GroupTrees) → all_groups all no_group ≡ all
groups_none no_group = refl
groups_none (also_group ms us all) = ap (also_group ms us) (groups_none all)
