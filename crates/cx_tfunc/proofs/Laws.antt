-- The clause of the reader, from what is told of its reading function.
use Rattle.std.proofs.Common.{ℕ, suc, List, length, Result, arith}
use Rattle.cx_tsyn.specs.declared.item.FuncItem.{FuncItem}
use Rattle.cx_tsyn.specs.Items.{func_tree}
use Rattle.cx_tword.specs.declared.lexeme.TypeLexeme.{TypeLexeme}
use Rattle.cx_reader.specs.declared.read.Read.{Read}
use Rattle.cx_reader.specs.declared.stop.Stop.{Stop}
use Rattle.cx_reader.specs.Reading.{Gives}
use Rattle.cx_reader.specs.Parts.{AnyRest, ReadsFront}
use Rattle.cx_reader.proofs.Clauses.{reads_front}
use Rattle.cx_tfunc.specs.Funcs.{IsFunc}
use Rattle.cx_tfunc.specs.Reading.{func_at}
use Rattle.cx_tfunc.proofs.Told.{func_good}
use Rattle.cx_tfunc.proofs.There.{func_there}

pub func_reads : (bytes : List ℕ) (os : List TypeLexeme) (r : Result (Read TypeLexeme FuncItem) Stop) → Gives func_tree r (func_at bytes os) → ReadsFront (IsFunc bytes) AnyRest func_tree os r
func_reads bytes os r h = reads_front (IsFunc bytes) AnyRest (λ m v. func_at bytes v) (λ m a rest x s less ends. func_there bytes s rest) (suc (length os)) os (omega arith) (func_good bytes (suc (length os)) os (omega arith)) func_tree r h
