-- The clause of the reader of types, from what is told of its reading function.
use Rattle.std.proofs.Common.{◌≡◌, ℕ, suc, List, length, Result, refl, arith}
use Rattle.cx_tsyn.specs.declared.stype.SType.{SType}
use Rattle.cx_tsyn.specs.Types.{STypeTree, stype_tree}
use Rattle.cx_tword.specs.declared.lexeme.TypeLexeme.{TypeLexeme}
use Rattle.cx_reader.specs.declared.read.Read.{Read}
use Rattle.cx_reader.specs.declared.stop.Stop.{Stop}
use Rattle.cx_reader.specs.Reading.{Gives}
use Rattle.cx_reader.specs.Parts.{ReadsFront}
use Rattle.cx_reader.proofs.Clauses.{reads_front, one_tree}
use Rattle.cx_ttype.specs.Types.{IsType, EndsType}
use Rattle.cx_ttype.specs.Reading.{stype_at}
use Rattle.cx_ttype.proofs.Told.{stype_good}
use Rattle.cx_ttype.proofs.There.{stype_there}

pub type_reads : (bytes : List ℕ) (os : List TypeLexeme) (r : Result (Read TypeLexeme SType) Stop) → Gives stype_tree r (stype_at bytes os) → ReadsFront (IsType bytes) EndsType stype_tree os r
type_reads bytes os r h = reads_front (IsType bytes) EndsType (λ m v. stype_at bytes v) (λ m a rest x s less ends. stype_there bytes s rest ends) (suc (length os)) os (omega arith) (stype_good bytes (suc (length os)) os (omega arith)) stype_tree r h

pub one_type : (bytes : List ℕ) (a : List TypeLexeme) (x y : STypeTree) → IsType bytes a x → IsType bytes a y → x ≡ y
one_type bytes = one_tree (IsType bytes) EndsType (λ m v. stype_at bytes v) (λ m a rest x s less ends. stype_there bytes s rest ends) refl
