-- The clauses of the readers, from what is told of their reading functions.
use Rattle.std.proofs.Common.{◌≡◌, ℕ, suc, List, length, Result, map, refl, arith}
use Rattle.cx_tsyn.specs.declared.word.Word.{Word}
use Rattle.cx_tsyn.specs.declared.lin.LinPart.{LinPart}
use Rattle.cx_tsyn.specs.declared.lin.Lin.{Lin}
use Rattle.cx_tsyn.specs.declared.lin.Relation.{Relation}
use Rattle.cx_tsyn.specs.Words.{word_tree}
use Rattle.cx_tsyn.specs.Lins.{LinTree, RelationTree, lin_part_tree, lin_tree, relation_tree}
use Rattle.cx_tword.specs.declared.lexeme.TypeLexeme.{TypeLexeme}
use Rattle.cx_reader.specs.declared.read.Read.{Read}
use Rattle.cx_reader.specs.declared.stop.Stop.{Stop}
use Rattle.cx_reader.specs.Reading.{Gives}
use Rattle.cx_reader.specs.Parts.{ReadsFront}
use Rattle.cx_reader.proofs.Clauses.{reads_front, one_tree}
use Rattle.cx_tlin.specs.Lins.{IsName, IsPart, IsLin, IsRelation, AreNames, AreLins, AreRelations, EndsName, EndsPart, EndsLin, EndsNames, EndsLins}
use Rattle.cx_tlin.specs.Reading.{name_at, part_at, lin_at, relation_at, names_at, lins_at, relations_at}
use Rattle.cx_tlin.proofs.Told.{name_good, part_good, lin_good, relation_good, names_good, lins_good, relations_good}
use Rattle.cx_tlin.proofs.There.{name_there, part_there, lin_there, relation_there, names_there, lins_there, relations_there}

pub name_reads : (bytes : List ℕ) (os : List TypeLexeme) (r : Result (Read TypeLexeme Word) Stop) → Gives word_tree r (name_at bytes os) → ReadsFront (IsName bytes) EndsName word_tree os r
name_reads bytes os r h = reads_front (IsName bytes) EndsName (λ m w. name_at bytes w) (λ m a rest x s less ends. name_there bytes s rest) (suc (length os)) os (omega arith) (name_good bytes (suc (length os)) os (omega arith)) word_tree r h

pub part_reads : (bytes : List ℕ) (os : List TypeLexeme) (r : Result (Read TypeLexeme LinPart) Stop) → Gives lin_part_tree r (part_at bytes os) → ReadsFront (IsPart bytes) EndsPart lin_part_tree os r
part_reads bytes os r h = reads_front (IsPart bytes) EndsPart (λ m w. part_at bytes w) (λ m a rest x s less ends. part_there bytes s rest ends) (suc (length os)) os (omega arith) (part_good bytes (suc (length os)) os (omega arith)) lin_part_tree r h

pub lin_reads : (bytes : List ℕ) (os : List TypeLexeme) (r : Result (Read TypeLexeme Lin) Stop) → Gives lin_tree r (lin_at bytes os) → ReadsFront (IsLin bytes) EndsLin lin_tree os r
lin_reads bytes os r h = reads_front (IsLin bytes) EndsLin (λ m w. lin_at bytes w) (λ m a rest x s less ends. lin_there bytes s rest ends) (suc (length os)) os (omega arith) (lin_good bytes (suc (length os)) os (omega arith)) lin_tree r h

pub relation_reads : (bytes : List ℕ) (os : List TypeLexeme) (r : Result (Read TypeLexeme Relation) Stop) → Gives relation_tree r (relation_at bytes os) → ReadsFront (IsRelation bytes) EndsLin relation_tree os r
relation_reads bytes os r h = reads_front (IsRelation bytes) EndsLin (λ m w. relation_at bytes w) (λ m a rest x s less ends. relation_there bytes s rest ends) (suc (length os)) os (omega arith) (relation_good bytes (suc (length os)) os (omega arith)) relation_tree r h

pub names_reads : (bytes : List ℕ) (os : List TypeLexeme) (r : Result (Read TypeLexeme (List Word)) Stop) → Gives (map word_tree) r (names_at bytes os) → ReadsFront (AreNames bytes) EndsNames (map word_tree) os r
names_reads bytes os r h = reads_front (AreNames bytes) EndsNames (λ m w. names_at bytes w) (λ m a rest x s less ends. names_there bytes s rest ends) (suc (length os)) os (omega arith) (names_good bytes (suc (length os)) os (omega arith)) (map word_tree) r h

pub lins_reads : (bytes : List ℕ) (os : List TypeLexeme) (r : Result (Read TypeLexeme (List Lin)) Stop) → Gives (map lin_tree) r (lins_at bytes os) → ReadsFront (AreLins bytes) EndsLins (map lin_tree) os r
lins_reads bytes os r h = reads_front (AreLins bytes) EndsLins (λ m w. lins_at bytes w) (λ m a rest x s less ends. lins_there bytes s rest ends) (suc (length os)) os (omega arith) (lins_good bytes (suc (length os)) os (omega arith)) (map lin_tree) r h

pub relations_reads : (bytes : List ℕ) (os : List TypeLexeme) (r : Result (Read TypeLexeme (List Relation)) Stop) → Gives (map relation_tree) r (relations_at bytes os) → ReadsFront (AreRelations bytes) EndsLins (map relation_tree) os r
relations_reads bytes os r h = reads_front (AreRelations bytes) EndsLins (λ m w. relations_at bytes w) (λ m a rest x s less ends. relations_there bytes s rest ends) (suc (length os)) os (omega arith) (relations_good bytes (suc (length os)) os (omega arith)) (map relation_tree) r h

-- ---- one tree

pub one_lin : (bytes : List ℕ) (a : List TypeLexeme) (x y : LinTree) → IsLin bytes a x → IsLin bytes a y → x ≡ y
one_lin bytes = one_tree (IsLin bytes) EndsLin (λ m w. lin_at bytes w) (λ m a rest x s less ends. lin_there bytes s rest ends) (refl, refl, refl)

pub one_relation : (bytes : List ℕ) (a : List TypeLexeme) (x y : RelationTree) → IsRelation bytes a x → IsRelation bytes a y → x ≡ y
one_relation bytes = one_tree (IsRelation bytes) EndsLin (λ m w. relation_at bytes w) (λ m a rest x s less ends. relation_there bytes s rest ends) (refl, refl, refl)
