-- Steps of reading that are taken, and statements that are not too high.
use Rattle.std.proofs.Common.{◌≡◌, ℕ, ◌≤◌, Bool, true, cond, List, [], ◌∷◌, ◌++◌, Option, Some, None, refl, sym, ap, ◌∙◌, append_assoc, arith}
use Rattle.std.proofs.lemmas.Bool.Decides.{nat_tests}
use Rattle.std.specs.Prelude.{nat_le}
use Rattle.cx_base.proofs.General.{not_true}
use Rattle.cx_ctree.specs.Stmts.{StmtTree, StmtKindTree}
use Rattle.cx_ctree.specs.Path.{stmt_path}
use Rattle.cx_cword.specs.declared.lexeme.Lexeme.{Lexeme}
use Rattle.cx_cword.specs.Reading.{first_of, past_of}
use Rattle.cx_cname.specs.Known.{Known}
use Rattle.cx_cword.specs.declared.mark.Mark.{Mark}
use Rattle.cx_cstmt.specs.Statements as grammar
use Rattle.cx_cstmt.specs.Reading.{Got, made, spelled, next}
use Rattle.cx_cstmt.proofs.Steps.{lacks}
use Rattle.cx_cword.specs.Marks.{fits}
use Rattle.cx_cword.proofs.Marks.{is_fit, kind_of}

pub next_goes : {A : Type 0} (mark : Mark) (o : Lexeme) (rest : List Lexeme) (other : Option A) (go : Lexeme → List Lexeme → Option A) → o.kind ≡ kind_of mark → next mark (o ∷ rest) other go ≡ go o rest
next_goes mark o rest other go is = ap (λ (b : Bool). cond b (go o rest) other) (is_fit mark o.kind is)

pub next_other : {A : Type 0} (mark : Mark) (os : List Lexeme) (other : Option A) (go : Lexeme → List Lexeme → Option A) → lacks mark os ≡ true → next mark os other go ≡ other
next_other mark [] other go e = refl
next_other mark (o ∷ os) other go e = ap (λ (b : Bool). cond b (go o os) other) (not_true (fits mark o.kind) e)

low_so : (x : StmtTree) (d : ℕ) → stmt_path x ≤ d → nat_le (stmt_path x) d ≡ true
low_so x d low = grind (arith, nat_tests)

-- a statement that these lexemes spell, before a rest
abbrev pub stmt_got : StmtTree → List Lexeme → Known → List Lexeme → Got StmtTree
stmt_got s front known rest = record { tree = s; known = known; past = past_of front; rest = rest }

pub made_goes : (d : ℕ) (x : StmtTree) (env : Known) (past : ℕ) (rest : List Lexeme) → stmt_path x ≤ d → made d x env past rest ≡ Some (record { tree = x; known = env; past = past; rest = rest })
unfolding made
made_goes d x env past rest low = ap (λ (b : Bool). cond b (Some (record { tree = x; known = env; past = past; rest = rest })) None) (low_so x d low)

stmt_same : (kind : StmtKindTree) (front rest : List Lexeme) (known : Known) (first past : ℕ) → first_of front ≡ first → past_of front ≡ past
    → ◌≡◌ {A = Got StmtTree} (record { tree = spelled first past kind; known = known; past = past; rest = rest }) (stmt_got (grammar.spelled front kind) front known rest)
stmt_same kind front rest known first past begins ends = λ i. record { tree = spelled (sym begins i) (sym ends i) kind; known = known; past = sym ends i; rest = rest }

-- what is made of a front is the statement that it spells
pub built : (d first past : ℕ) (front rest : List Lexeme) (kind : StmtKindTree) (known : Known) → first_of front ≡ first → past_of front ≡ past → stmt_path (grammar.spelled front kind) ≤ d
    → made d (spelled first past kind) known past rest ≡ Some (stmt_got (grammar.spelled front kind) front known rest)
built d first past front rest kind known begins ends low = made_goes d (spelled first past kind) known past rest low ∙ ap Some (stmt_same kind front rest known first past begins ends)

pub three_parts : (a c d rest : List Lexeme) → (a ++ c ++ d) ++ rest ≡ a ++ (c ++ (d ++ rest))
three_parts a c d rest = append_assoc (a ++ c) d rest ∙ append_assoc a c (d ++ rest)
