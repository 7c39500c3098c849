-- Taking the items of a file one after another reads its unit.
use Rattle.std.proofs.Common.{◌≡◌, ℕ, List, [], ◌∷◌, ◌++◌, None, refl, sym, ap, ◌∙◌, subst, append_assoc}
use Rattle.std.proofs.lemmas.List.{append-nil}
use Rattle.cx_base.specs.declared.span.Span.{Span}
use Rattle.cx_base.specs.declared.token.Token.{Token}
use Rattle.cx_ctree.specs.Decls.{DeclTree, ItemTree, known, passed}
use Rattle.cx_ctree.specs.Units.{UnitTree}
use Rattle.cx_cword.specs.declared.lexeme.Lexeme.{Lexeme}
use Rattle.cx_cword.specs.Reading.{span_of}
use Rattle.cx_cword.specs.Lexemes.{lexemes}
use Rattle.cx_cname.specs.Known.{Known, declared_by}
use Rattle.cx_citem.specs.Items.{unit_fault, items_of, naming}
use Rattle.cx_citem.specs.Numbering.{numbering}
use Rattle.cx_cread.specs.Reads.{AreItems, no_items, known_item, passed_item, named_by, nothing_known, known_after, Reads}
use Rattle.cx_cread.specs.Reading.{empty_unit, numbers_of, Takes, takes_known, takes_passed, TakesAll, takes_none, takes_more}

declared_known : (items : List ItemTree) (ds : List DeclTree) → declared_by (items ++ known ds ∷ []) ≡ declared_by items ++ ds
declared_known [] ds = append-nil ds
declared_known (known es ∷ items) ds = ap (λ (l : List DeclTree). es ++ l) (declared_known items ds) ∙ sym (append_assoc es (declared_by items) ds)
declared_known (passed s ∷ items) ds = declared_known items ds

declared_passed : (items : List ItemTree) (s : Span) → declared_by (items ++ passed s ∷ []) ≡ declared_by items
declared_passed [] s = refl
declared_passed (known es ∷ items) s = ap (λ (l : List DeclTree). es ++ l) (declared_passed items s)
declared_passed (passed r ∷ items) s = declared_passed items s

record Taken (bytes : List ℕ) (rest : List (List Lexeme)) (u w : UnitTree) : Type 0 where
  later : List ItemTree
  items : w.items ≡ u.items ++ later
  are : AreItems (declared_by u.items) (known_after u) rest later (known_after w)
  named : w.named ≡ u.named ++ named_by u.names bytes rest later
  names : w.names ≡ u.names
  tokens : w.tokens ≡ u.tokens

take_one : {bytes : List ℕ} {os : List Lexeme} {rest : List (List Lexeme)} {u v w : UnitTree} → Takes bytes os u v → Taken bytes rest v w → Taken bytes (os ∷ rest) u w
take_one {bytes} {os} {rest} {u} {v} {w} (takes_known {ds = ds} {later = now} i e) h =
    let earlier : declared_by v.items ≡ declared_by u.items ++ ds = ap (λ (x : UnitTree). declared_by x.items) e ∙ declared_known u.items ds in
    let env : known_after v ≡ now = ap known_after e in
    record {
      later = known ds ∷ h.later;
      items = h.items ∙ ap (λ (x : UnitTree). x.items ++ h.later) e ∙ append_assoc u.items (known ds ∷ []) h.later;
      are = known_item i (subst (λ (p : List DeclTree × Known). AreItems p.0 p.1 rest h.later (known_after w)) (λ j. (earlier j, env j)) h.are);
      named = h.named ∙ ap (λ (x : UnitTree). x.named ++ named_by x.names bytes rest h.later) e;
      names = h.names ∙ ap (λ (x : UnitTree). x.names) e;
      tokens = h.tokens ∙ ap (λ (x : UnitTree). x.tokens) e;
    }
take_one {bytes} {os} {rest} {u} {v} {w} (takes_passed none e) h =
    let earlier : declared_by v.items ≡ declared_by u.items = ap (λ (x : UnitTree). declared_by x.items) e ∙ declared_passed u.items (span_of os) in
    let env : known_after v ≡ known_after u = ap known_after e in
    record {
      later = passed (span_of os) ∷ h.later;
      items = h.items ∙ ap (λ (x : UnitTree). x.items ++ h.later) e ∙ append_assoc u.items (passed (span_of os) ∷ []) h.later;
      are = passed_item none (subst (λ (p : List DeclTree × Known). AreItems p.0 p.1 rest h.later (known_after w)) (λ j. (earlier j, env j)) h.are);
      named = h.named ∙ ap (λ (x : UnitTree). x.named ++ named_by x.names bytes rest h.later) e ∙ append_assoc u.named (numbers_of u.names bytes (naming 0 os)) (named_by u.names bytes rest h.later);
      names = h.names ∙ ap (λ (x : UnitTree). x.names) e;
      tokens = h.tokens ∙ ap (λ (x : UnitTree). x.tokens) e;
    }

taken : {bytes : List ℕ} {rest : List (List Lexeme)} {u w : UnitTree} → TakesAll bytes rest u w → Taken bytes rest u w
taken {bytes = bytes} {u = u} takes_none = record {
  later = [];
  items = sym (append-nil u.items);
  are = no_items;
  named = sym (append-nil u.named);
  names = refl;
  tokens = refl;
}
taken (takes_more t ts) = take_one t (taken ts)

pub reads_is : (bytes : List ℕ) (tokens : List Token) (w : UnitTree) → unit_fault (lexemes (numbering bytes tokens) bytes tokens) ≡ None
    → TakesAll bytes (items_of (lexemes (numbering bytes tokens) bytes tokens)) (empty_unit (numbering bytes tokens) tokens) w → Reads bytes tokens w
reads_is bytes tokens w whole all =
    let h = taken all in
    record {
      names = h.names;
      tokens_are = h.tokens;
      whole = ap (λ (names : List (List ℕ)). unit_fault (lexemes names bytes tokens)) h.names ∙ whole;
      items = subst (λ (p : List (List ℕ) × List ItemTree). AreItems [] nothing_known (items_of (lexemes p.0 bytes tokens)) p.1 (known_after w)) (λ j. (sym h.names j, sym h.items j)) h.are;
      named = h.named ∙ subst (λ (p : List (List ℕ) × List ItemTree). named_by (numbering bytes tokens) bytes (items_of (lexemes (numbering bytes tokens) bytes tokens)) h.later ≡ named_by p.0 bytes (items_of (lexemes p.0 bytes tokens)) p.1) (λ j. (sym h.names j, sym h.items j)) refl;
    }
