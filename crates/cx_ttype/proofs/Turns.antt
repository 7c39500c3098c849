-- What a turn does, where one is left, and where none is.
use Rattle.std.proofs.Common.{◌≡◌, ℕ, zero, suc, ◌-◌, ◌<◌, cond, List, [], ◌∷◌, ◌++◌, length, refl, arith}
use Rattle.cx_cword.specs.declared.word.Punctuator.TheVariants as p
use Rattle.cx_tsyn.specs.Types.{STypeTree, SFieldTree, SBranchTree}
use Rattle.cx_tword.specs.declared.word.TypeWord.TheVariants as tw
use Rattle.cx_tword.specs.declared.lexeme.TypeLexeme.{TypeLexeme}
use Rattle.cx_tword.specs.Marks.{is_mark, is_word}
use Rattle.cx_reader.specs.Answers.{fault, ◌>>=◌, give, at_lexeme}
use Rattle.cx_ttype.specs.Types.{names_field}
use Rattle.cx_ttype.specs.Reading.{piece_from, field_by, branch_by, atom_by, atom_at, pieces_at, fields_at, branches_at, type_at}

pub atom_turn : (bytes : List ℕ) (n : ℕ) (os : List TypeLexeme) → 0 < n → atom_at bytes n os ≡ atom_by bytes (type_at bytes (n - 1)) (pieces_at bytes (n - 1) []) (fields_at bytes (n - 1) []) (branches_at bytes (n - 1) []) os
unfolding atom_at
atom_turn bytes zero os h = absurd (omega arith)
atom_turn bytes (suc n) os h = let e : suc n - 1 ≡ n = omega arith in rw e refl

pub atom_none : (bytes : List ℕ) (n : ℕ) (os : List TypeLexeme) → n ≡ 0 → atom_at bytes n os ≡ fault (length os)
unfolding atom_at
atom_none bytes n os h = rw h refl

pub pieces_turn : (bytes : List ℕ) (n : ℕ) (all : List STypeTree) (os : List TypeLexeme) → 0 < n
    → pieces_at bytes n all os ≡ at_lexeme os (give all os) (λ o rest. cond (is_mark p.CloseBrace o) (give all os) (piece_from (type_at bytes n os) >>= λ x. pieces_at bytes (n - 1) (all ++ x.tree ∷ []) x.rest))
unfolding atom_at
pieces_turn bytes zero all os h = absurd (omega arith)
pieces_turn bytes (suc n) all os h = let e : suc n - 1 ≡ n = omega arith in rw e refl

pub pieces_none : (bytes : List ℕ) (n : ℕ) (all : List STypeTree) (os : List TypeLexeme) → n ≡ 0 → pieces_at bytes n all os ≡ fault (length os)
unfolding atom_at
pieces_none bytes n all os h = rw h refl

pub fields_turn : (bytes : List ℕ) (n : ℕ) (all : List SFieldTree) (os : List TypeLexeme) → 0 < n
    → fields_at bytes n all os ≡ at_lexeme os (give all os) (λ o rest. cond (names_field o) (field_by bytes (type_at bytes (n - 1)) o rest >>= λ x. fields_at bytes (n - 1) (all ++ x.tree ∷ []) x.rest) (give all os))
unfolding atom_at
fields_turn bytes zero all os h = absurd (omega arith)
fields_turn bytes (suc n) all os h = let e : suc n - 1 ≡ n = omega arith in rw e refl

pub fields_none : (bytes : List ℕ) (n : ℕ) (all : List SFieldTree) (os : List TypeLexeme) → n ≡ 0 → fields_at bytes n all os ≡ fault (length os)
unfolding atom_at
fields_none bytes n all os h = rw h refl

pub branches_turn : (bytes : List ℕ) (n : ℕ) (all : List SBranchTree) (os : List TypeLexeme) → 0 < n
    → branches_at bytes n all os ≡ at_lexeme os (give all os) (λ o rest. cond (is_word tw.When o) (branch_by bytes (type_at bytes (n - 1)) rest >>= λ x. branches_at bytes (n - 1) (all ++ x.tree ∷ []) x.rest) (give all os))
unfolding atom_at
branches_turn bytes zero all os h = absurd (omega arith)
branches_turn bytes (suc n) all os h = let e : suc n - 1 ≡ n = omega arith in rw e refl

pub branches_none : (bytes : List ℕ) (n : ℕ) (all : List SBranchTree) (os : List TypeLexeme) → n ≡ 0 → branches_at bytes n all os ≡ fault (length os)
unfolding atom_at
branches_none bytes n all os h = rw h refl
