-- Where an expression ends: how tightly a lexeme holds what stands before it.
use Rattle.std.proofs.Common.{◌≡◌, ℕ, suc, ◌<◌, ◌≤◌, Bool, true, false, List, [], ◌∷◌, ◌++◌, Option, Some, None, refl, sym, ap, ◌∙◌, subst, arith}
use Rattle.std.proofs.lemmas.Bool.Decides.{nat_tests}
use Rattle.std.specs.Prelude.{nat_eq, nat_le, ◌&&◌}
use Rattle.cx_ctree.specs.declared.expr.Binary.{Binary}
use Rattle.cx_cword.specs.declared.word.Punctuator.{Punctuator}
use Rattle.cx_cword.specs.declared.word.Punctuator.TheVariants as p
use Rattle.cx_cword.specs.declared.lexeme.Lexeme.{Lexeme}
use Rattle.cx_cword.specs.declared.lexeme.LexemeKind.{LexemeKind}
use Rattle.cx_cword.specs.declared.lexeme.LexemeKind.TheVariants as l
use Rattle.cx_cword.specs.Reading.{Is}
use Rattle.cx_cword.specs.declared.mark.Mark.TheVariants as m
use Rattle.cx_cexpr.specs.declared.kinds.Suffix.{Suffix}
use Rattle.cx_cexpr.specs.Expressions.{op_of}
use Rattle.cx_cexpr.specs.Kinds.{op_at, suffix_by, suffix_of}
use Rattle.cx_cexpr.proofs.Shapes.{op_is}
use Rattle.cx_cword.specs.Marks.{fits}
use Rattle.cx_cword.proofs.Marks.{fits_is}

abbrev pub binds_by : Option Suffix → Option (ℕ × Binary) → Bool → ℕ
binds_by (Some s) f q = 0
binds_by None (Some f) q = f.0
binds_by None None true = 11
binds_by None None false = 12

-- 0: a suffix; 1 to 10: a binary operator of this level; 11: a question mark; 12: it does not hold it
abbrev pub binds : LexemeKind → ℕ
binds kind = binds_by (suffix_of kind) (op_at kind) (fits m.Question kind)

-- no lexeme follows that holds an expression of this level or of one below; after a whole expression the level is 11
abbrev pub Ends : ℕ → List Lexeme → Type 0
Ends level [] = Unit {0}
Ends level (o ∷ os) = level < binds o.kind

-- the lexemes, if there are any, begin with an operator of this level or of one below
abbrev pub Continues : ℕ → List Lexeme → Type 0
Continues level [] = Unit {0}
Continues level (o ∷ os) = (0 < binds o.kind) × (binds o.kind ≤ level)

pub Ends-less : (level more : ℕ) (rest : List Lexeme) → level ≤ more → Ends more rest → Ends level rest
Ends-less level more [] h ends = tt
Ends-less level more (o ∷ rest) h ends = omega (arith, ends)

pub Continues-more : (level more : ℕ) (os : List Lexeme) → level ≤ more → Continues level os → Continues more os
Continues-more level more [] h on = tt
Continues-more level more (o ∷ os) h on = (on.0, omega (arith, on.1))

pub Continues-append : (level : ℕ) (a b : List Lexeme) → Continues level a → Continues level b → Continues level (a ++ b)
Continues-append level [] b on also = also
Continues-append level (o ∷ a) b on also = on

pub continues_ends : (level : ℕ) (a rest : List Lexeme) → Continues level a → Ends 0 rest → Ends 0 (a ++ rest)
continues_ends level [] rest on ends = ends
continues_ends level (o ∷ a) rest on ends = on.0

-- ---- what ends

no_suffix_by : (s : Option Suffix) (f : Option (ℕ × Binary)) (q : Bool) → 0 < binds_by s f q → s ≡ None
no_suffix_by (Some s) f q h = absurd (omega arith)
no_suffix_by None f q h = refl

pub no_suffix_follows : (kind : LexemeKind) → 0 < binds kind → suffix_of kind ≡ None
no_suffix_follows kind h = no_suffix_by (suffix_of kind) (op_at kind) (fits m.Question kind) h

level_by : (s : Option Suffix) (f : ℕ × Binary) (q : Bool) (level : ℕ) → level < binds_by s (Some f) q → level < f.0
level_by (Some s) f q level h = absurd (omega arith)
level_by None f q level h = h

other_level : (a b : ℕ) → a < b → nat_eq b a ≡ false
other_level a b h = grind (arith, nat_tests)

-- an operator that follows is of another level
pub other_op : (kind : LexemeKind) (f : ℕ × Binary) (level : ℕ) → op_at kind ≡ Some f → level < binds kind → nat_eq f.0 level ≡ false
other_op kind f level e h = other_level level f.0 (level_by (suffix_of kind) f (fits m.Question kind) level (subst (λ (o : Option (ℕ × Binary)). level < binds_by (suffix_of kind) o (fits m.Question kind)) e h))

no_question_by : (kind : LexemeKind) (b : Bool) → fits m.Question kind ≡ b → 11 < binds kind → b ≡ false
no_question_by kind true e h = let is : binds kind ≡ 11 = ap binds (fits_is m.Question kind e) in absurd (omega (arith, is, h))
no_question_by kind false e h = refl

pub no_question : (kind : LexemeKind) → 11 < binds kind → fits m.Question kind ≡ false
no_question kind h = no_question_by kind (fits m.Question kind) refl h

-- ---- what goes on

op_no_suffix : (mark : Punctuator) (f : ℕ × Binary) → op_of mark ≡ Some f → suffix_by mark ≡ None
op_no_suffix p.OpenBracket f e = absurd cc
op_no_suffix p.Dot f e = absurd cc
op_no_suffix p.Arrow f e = absurd cc
op_no_suffix _ f e = refl

pub op_binds : (kind : LexemeKind) (f : ℕ × Binary) → op_at kind ≡ Some f → binds kind ≡ f.0
op_binds kind f e =
    let q = op_is kind f e in
    ap binds q.1 ∙ ap (λ (s : Option Suffix). binds_by s (op_of q.0) (fits m.Question (l.Punctuator q.0))) (op_no_suffix q.0 f q.2) ∙ ap (λ (o : Option (ℕ × Binary)). binds_by None o (fits m.Question (l.Punctuator q.0))) q.2

abbrev within_levels : Option (ℕ × Binary) → Bool
within_levels None = true
within_levels (Some f) = nat_le 1 f.0 && nat_le f.0 10

op_within : (mark : Punctuator) → within_levels (op_of mark) ≡ true
op_within p.Star = refl
op_within _ = refl

level_within : (a : ℕ) → (nat_le 1 a && nat_le a 10) ≡ true → (0 < a) × (a ≤ 10)
level_within a e = (grind (arith, nat_tests), grind (arith, nat_tests))

pub op_level : (kind : LexemeKind) (f : ℕ × Binary) → op_at kind ≡ Some f → (0 < f.0) × (f.0 ≤ 10)
op_level kind f e = let q = op_is kind f e in level_within f.0 (ap within_levels (sym q.2) ∙ op_within q.0)

pub op_continues : (o : Lexeme) (f : ℕ × Binary) (os : List Lexeme) → op_at o.kind ≡ Some f → Continues f.0 (o ∷ os)
op_continues o f os e = let is = op_binds o.kind f e in let h = op_level o.kind f e in (omega (arith, is, h.0), omega (arith, is))

pub op_ends : (o : Lexeme) (level : ℕ) (f : Binary) (os : List Lexeme) → op_at o.kind ≡ Some (suc level, f) → Ends level (o ∷ os)
op_ends o level f os e = let is = op_binds o.kind (suc level, f) e in omega (arith, is)

-- a lexeme that holds nothing that stands before it
pub mark_ends : (o : Lexeme) (mark : Punctuator) (level : ℕ) (os : List Lexeme) → Is mark o → binds (l.Punctuator mark) ≡ 12 → level ≤ 11 → Ends level (o ∷ os)
mark_ends o mark level os e is h = let f = ap binds e ∙ is in omega (arith, f, h)

pub question_ends : (o : Lexeme) (level : ℕ) (os : List Lexeme) → Is p.Question o → level ≤ 10 → Ends level (o ∷ os)
question_ends o level os e h = let f = ap binds e in omega (arith, f, h)
