-- The clause of the reader, from what is told of its reading function.
use Rattle.std.proofs.Common.{ℕ, suc, List, length, Result, arith}
use Rattle.cx_cname.specs.Known.{Known}
use Rattle.cx_tsyn.specs.declared.item.AllocItem.{AllocItem}
use Rattle.cx_tsyn.specs.Items.{alloc_tree}
use Rattle.cx_tword.specs.declared.lexeme.TypeLexeme.{TypeLexeme}
use Rattle.cx_reader.specs.declared.read.Read.{Read}
use Rattle.cx_reader.specs.declared.stop.Stop.{Stop}
use Rattle.cx_reader.specs.Reading.{Gives}
use Rattle.cx_reader.specs.Parts.{AnyRest, ReadsFront}
use Rattle.cx_reader.proofs.Clauses.{reads_front}
use Rattle.cx_talloc.specs.Allocs.{IsAlloc}
use Rattle.cx_talloc.specs.Reading.{alloc_at}
use Rattle.cx_talloc.proofs.Told.{alloc_good}
use Rattle.cx_talloc.proofs.There.{alloc_there}

pub alloc_reads : (bytes : List ℕ) (env : Known) (os : List TypeLexeme) (r : Result (Read TypeLexeme AllocItem) Stop) → Gives alloc_tree r (alloc_at bytes env os) → ReadsFront (IsAlloc bytes env) AnyRest alloc_tree os r
alloc_reads bytes env os r h = reads_front (IsAlloc bytes env) AnyRest (λ m v. alloc_at bytes env v) (λ m a rest x s less ends. alloc_there bytes env s rest) (suc (length os)) os (omega arith) (alloc_good bytes env (suc (length os)) os (omega arith)) alloc_tree r h
