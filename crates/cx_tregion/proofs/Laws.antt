-- The clauses of the readers of regions and globals, from what is told of their reading functions.
use Rattle.std.proofs.Common.{ℕ, suc, List, length, Result, arith}
use Rattle.cx_tsyn.specs.declared.item.RegionItem.{RegionItem}
use Rattle.cx_tsyn.specs.declared.item.GlobalItem.{GlobalItem}
use Rattle.cx_tsyn.specs.Items.{region_tree, global_tree}
use Rattle.cx_tword.specs.declared.lexeme.TypeLexeme.{TypeLexeme}
use Rattle.cx_reader.specs.declared.read.Read.{Read}
use Rattle.cx_reader.specs.declared.stop.Stop.{Stop}
use Rattle.cx_reader.specs.Reading.{Gives}
use Rattle.cx_reader.specs.Parts.{AnyRest, ReadsFront}
use Rattle.cx_reader.proofs.Clauses.{reads_front}
use Rattle.cx_tregion.specs.Regions.{IsRegion, IsGlobal}
use Rattle.cx_tregion.specs.Reading.{region_at, global_at}
use Rattle.cx_tregion.proofs.Told.{region_good, global_good}
use Rattle.cx_tregion.proofs.There.{region_there, global_there}

pub region_reads : (bytes : List ℕ) (os : List TypeLexeme) (r : Result (Read TypeLexeme RegionItem) Stop) → Gives region_tree r (region_at bytes os) → ReadsFront (IsRegion bytes) AnyRest region_tree os r
region_reads bytes os r h = reads_front (IsRegion bytes) AnyRest (λ m v. region_at bytes v) (λ m a rest x s less ends. region_there bytes s rest) (suc (length os)) os (omega arith) (region_good bytes (suc (length os)) os (omega arith)) region_tree r h

pub global_reads : (bytes : List ℕ) (os : List TypeLexeme) (r : Result (Read TypeLexeme GlobalItem) Stop) → Gives global_tree r (global_at bytes os) → ReadsFront (IsGlobal bytes) AnyRest global_tree os r
global_reads bytes os r h = reads_front (IsGlobal bytes) AnyRest (λ m v. global_at bytes v) (λ m a rest x s less ends. global_there bytes s rest) (suc (length os)) os (omega arith) (global_good bytes (suc (length os)) os (omega arith)) global_tree r h
