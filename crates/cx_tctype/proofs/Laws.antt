-- The clause of the reader, from what is told of its reading function.
use Rattle.std.proofs.Common.{ℕ, suc, List, length, Result, arith}
use Rattle.cx_cname.specs.Known.{Known}
use Rattle.cx_tword.specs.declared.lexeme.TypeLexeme.{TypeLexeme}
use Rattle.cx_reader.specs.declared.read.Read.{Read}
use Rattle.cx_reader.specs.declared.stop.Stop.{Stop}
use Rattle.cx_reader.specs.Reading.{Gives}
use Rattle.cx_reader.specs.Parts.{ReadsFront}
use Rattle.cx_reader.proofs.Clauses.{reads_front}
use Rattle.cx_tctype.specs.declared.pointee.Pointee.{Pointee}
use Rattle.cx_tctype.specs.Words.{pointee_tree}
use Rattle.cx_tctype.specs.Pointees.{IsCType, EndsCType}
use Rattle.cx_tctype.specs.Reading.{ctype_at}
use Rattle.cx_tctype.proofs.Told.{ctype_good}
use Rattle.cx_tctype.proofs.There.{ctype_there}

pub ctype_reads : (env : Known) (os : List TypeLexeme) (r : Result (Read TypeLexeme Pointee) Stop) → Gives pointee_tree r (ctype_at env os) → ReadsFront (IsCType env) EndsCType pointee_tree os r
ctype_reads env os r h = reads_front (IsCType env) EndsCType (λ m v. ctype_at env v) (λ m a rest x s less ends. ctype_there env s rest ends) (suc (length os)) os (omega arith) (ctype_good env (suc (length os)) os (omega arith)) pointee_tree r h
