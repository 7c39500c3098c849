use Rattle.std.proofs.Common.{ℕ, List, ◌≡◌, ap, subst, sym, ◌∙◌}
use Rattle.std.specs.Prelude.{All}
use Rattle.cx_ctree.specs.Units.{UnitTree, unit_tree}
use Rattle.cx_cword.specs.declared.lexeme.Lexeme.{Lexeme}
use Rattle.cx_cword.specs.Lexemes.{lexemes}
use Rattle.cx_citem.specs.Items.{unit_fault, items_of}
use Rattle.cx_citem.specs.Numbering.{numbering}
use Rattle.cx_cread.specs.Reading.{InText, TakesAll, empty_unit}
use Rattle.cx_cread.proofs.Words.{text_all}
use Rattle.cx_cread.proofs.Taking.{reads_is}
use Rattle.cx_cread.proofs.Only.{reads_only}
use Rattle.cx_cread.proofs.OfText.{unit_of_text}
use Rattle.cx_cread.proofs.unit.read_unit.Goals as goal

pub read_items-requires-clause-text : goal.read_items-requires-clause-text
read_items-requires-clause-text c =
    let bytes = c.args.bytes.now in
    let tokens = c.args.tokens.now in
    let names : c.in_ok-unit.unit.names ≡ numbering bytes tokens = ap (λ (u : UnitTree). u.names) c.in_ok-unit.ensures ∙ c.in_ok-names.ensures in
    let all : c.as_slice-2.result.now ≡ lexemes (numbering bytes tokens) bytes tokens = c.as_slice-2.ensures ∙ c.in_ok-lexemes.ensures ∙ ap (λ (n : List (List ℕ)). lexemes n bytes tokens) c.in_ok-names.ensures in
    subst (λ (p : List (List ℕ) × List Lexeme). All (InText p.0 bytes) p.1) (λ k. (sym names k, sym all k)) (text_all bytes tokens c.requires.inside)

pub returns-clause-unit : goal.returns-clause-unit
returns-clause-unit c =
    let bytes = c.args.bytes.now in
    let tokens = c.args.tokens.now in
    let u = unit_tree c.read_items.new.unit in
    let made : c.in_ok-lexemes.lexemes ≡ lexemes (numbering bytes tokens) bytes tokens = c.in_ok-lexemes.ensures ∙ ap (λ (n : List (List ℕ)). lexemes n bytes tokens) c.in_ok-names.ensures in
    let start = c.in_ok-unit.ensures ∙ ap (λ (n : List (List ℕ)). empty_unit n tokens) c.in_ok-names.ensures in
    let whole = ap unit_fault (sym (c.as_slice.ensures ∙ made)) ∙ sym c.in_ok-cause.ensures ∙ c.in-None.is in
    let items = ap items_of (c.as_slice-2.ensures ∙ made) in
    let all = subst (λ (p : List (List Lexeme) × UnitTree). TakesAll bytes p.0 p.1 u) (λ k. (items k, start k)) c.in_ok-read_items.ensures in
    reads_only bytes tokens u c.requires.few (reads_is bytes tokens u whole all)

pub returns-clause-of_text : goal.returns-clause-of_text
returns-clause-of_text c = unit_of_text c.args.bytes.now c.args.tokens.now (unit_tree c.read_items.new.unit) (returns-clause-unit c)
