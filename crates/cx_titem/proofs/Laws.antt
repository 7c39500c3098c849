-- The clause of the reader of type files, from what is told of its reading function.
use Rattle.std.proofs.Common.{◌≡◌, ℕ, suc, List, [], ◌∷◌, length, Some, refl, sym, ap, ◌∙◌, arith}
use Rattle.cx_cname.specs.Known.{Known}
use Rattle.cx_tsyn.specs.Items.{TypeItemTree}
use Rattle.cx_tword.specs.declared.lexeme.TypeLexeme.{TypeLexeme}
use Rattle.cx_reader.specs.Answers.{Got, read, fault}
use Rattle.cx_reader.specs.Lists.{no_more}
use Rattle.cx_reader.specs.Faults.{IsOnly, lexeme_left}
use Rattle.cx_reader.proofs.Wholes.{whole_read, whole_fault}
use Rattle.cx_titem.specs.Items.{AreItems}
use Rattle.cx_titem.specs.Reading.{items_at, file_at}
use Rattle.cx_titem.specs.Answers.{FaultOn}
use Rattle.cx_titem.proofs.Told.{file_good}
use Rattle.cx_titem.proofs.There.{file_there, file_whole}

some_is : (x y : TypeLexeme) → Some x ≡ Some y → x ≡ y
some_is x y e = cc

pub file_read : (bytes : List ℕ) (env : Known) (os : List TypeLexeme) (g : Got TypeLexeme (List TypeItemTree)) → file_at bytes env os ≡ read g → IsOnly (AreItems bytes env) os g.tree
file_read bytes env os g e = whole_read (AreItems bytes env) (λ m w. items_at bytes env m [] w) (file_good bytes env) (file_there bytes env) (file_whole bytes env) (suc (length os)) os g (omega arith) e

pub file_fault : (bytes : List ℕ) (env : Known) (os : List TypeLexeme) (left : ℕ) (o : TypeLexeme) → file_at bytes env os ≡ fault left → lexeme_left os left ≡ Some o → FaultOn bytes env os o.span
file_fault bytes env os left o e f =
    let h = whole_fault (AreItems bytes env) (λ m w. items_at bytes env m [] w) (file_good bytes env) (file_there bytes env) (file_whole bytes env) [] no_more (suc (length os)) os left (omega arith) e in
    let same : h.0 ≡ o = some_is h.0 o (sym h.1 ∙ f) in
    record { o = h.0; placed = ap (λ (v : TypeLexeme). v.span) same; at = h.2 }

nothing_there : (bytes : List ℕ) (env : Known) → file_at bytes env [] ≡ read (record { tree = []; rest = [] })
unfolding items_at
nothing_there bytes env = refl

pub nothing_read : (bytes : List ℕ) (env : Known) (os : List TypeLexeme) → length os ≡ 0 → IsOnly (AreItems bytes env) os []
nothing_read bytes env [] e = file_read bytes env [] (record { tree = []; rest = [] }) (nothing_there bytes env)
nothing_read bytes env (o ∷ os) e = absurd (omega (arith, e))
